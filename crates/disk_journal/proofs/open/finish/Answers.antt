use Rattle.std.proofs.Common.{◌≡◌, ℕ, List, [], ◌∷◌, ◌++◌, ◌+◌, ◌≤◌, inl, inr, drop, length, ap, ◌∙◌, arith}
use Rattle.outside.proofs.Moments.{then}
use Rattle.disk_journal.proofs.Opens.{short_write}
use Rattle.std.proofs.lemmas.List.{drop_all, append-nil}
use Rattle.disk_journal.specs.Journal.{header, IsYoung}
use Rattle.outside.proofs.Writes.{length-overwritten, back-overwritten}
use Rattle.disk_journal.proofs.Young.{by_parts, shut_young, tail_step, gate_step}
use Rattle.outside.proofs.Burning.{then_up_to}
use Rattle.disk_journal.proofs.open.finish.Goals as goal

pub returns-clause-moments : goal.returns-clause-moments
returns-clause-moments g c tells =
    let d = (g.D.Disk.seen c.args.disk.now).state in
    let m = (g.D.Disk.seen c.write_synced.new.disk).state in
    let e = (g.D.Disk.seen c.write_synced-2.new.disk).state in
    let start = c.requires.start tells in
    let done = c.in_ok-write_synced.ensures.done tells in
    let too = c.write_synced.ensures.rest.tells ∙ tells in
    let first = short_write d m 1 c.tail.result start.0 (omega (arith, start.1)) start.2 (omega arith) (c.write_synced.ensures.moments tells) in
    let m_len : length m.kept ≤ 17 = omega (arith, ap (λ (l : List ℕ). length l) done.0, length-overwritten d.kept c.tail.result 1 (omega (arith, start.1)), start.2) in
    then d m e (λ x. length x ≤ 17) first (short_write m e 0 (1 ∷ []) done.1 (omega arith) m_len (omega arith) (c.write_synced-2.ensures.moments too))

pub returns-in_err-write_synced-clause-young : goal.returns-in_err-write_synced-clause-young
returns-in_err-write_synced-clause-young g c tells is =
    let d = (g.D.Disk.seen c.args.disk.now).state in
    let m = (g.D.Disk.seen c.write_synced.new.disk).state in
    let start = c.requires.start tells in
    by_parts d m 1 c.tail.result (IsYoung c.args.id.now) start.0 (omega (arith, start.1)) (shut_young c.args.id.now d.kept start.2 is)
    (λ x parts. tail_step c.args.id.now d.kept x (length c.tail.result) (omega arith) start.1 start.2 is parts) (c.write_synced.ensures.moments tells)

pub returns-clause-young : goal.returns-clause-young
returns-clause-young g c tells is =
    let id = c.args.id.now in
    let d = (g.D.Disk.seen c.args.disk.now).state in
    let m = (g.D.Disk.seen c.write_synced.new.disk).state in
    let e = (g.D.Disk.seen c.write_synced-2.new.disk).state in
    let start = c.requires.start tells in
    let done = c.in_ok-write_synced.ensures.done tells in
    let too = c.write_synced.ensures.rest.tells ∙ tells in
    let one : 1 ≤ length d.kept = omega (arith, start.1) in
    let size : length c.tail.result ≡ 16 = omega arith in
    let first = by_parts d m 1 c.tail.result (IsYoung id) start.0 one (shut_young id d.kept start.2 is)
    (λ x parts. tail_step id d.kept x (length c.tail.result) (omega (arith, size)) start.1 start.2 is parts) (c.write_synced.ensures.moments tells) in
    let len : length m.kept ≡ 17 = omega (arith, ap (λ (l : List ℕ). length l) done.0, length-overwritten d.kept c.tail.result 1 one, start.2, size) in
    let good : drop 1 m.kept ≡ drop 1 (header id ++ 0 ∷ []) =
    ap (λ (l : List ℕ). drop 1 l) done.0 ∙ back-overwritten d.kept c.tail.result 1 one ∙ ap (λ (l : List ℕ). c.tail.result ++ l) (drop_all (1 + length c.tail.result) d.kept (omega (arith, start.2, size))) ∙ append-nil c.tail.result
    ∙ ap (λ (l : List ℕ). drop 1 l) c.tail.ensures in
    then d m e (IsYoung id) first
    (by_parts m e 0 (1 ∷ []) (IsYoung id) done.1 (omega arith) (inr (inl (len, inr good))) (λ x parts. gate_step id m.kept x len good parts) (c.write_synced-2.ensures.moments too))

pub returns-clause-no_more : goal.returns-clause-no_more
returns-clause-no_more g c = then_up_to 2 2 (g.D.Disk.seen c.args.disk.now) (g.D.Disk.seen c.write_synced.new.disk) (g.D.Disk.seen c.write_synced-2.new.disk) c.in_ok-write_synced.ensures.burns c.write_synced-2.ensures.no_more
