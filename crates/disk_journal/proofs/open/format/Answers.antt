use Rattle.std.proofs.Common.{◌≡◌, ℕ, List, [], ◌∷◌, ◌≤◌, get_or, length, ap, ◌∙◌, arith}
use Rattle.outside.proofs.Moments.{then}
use Rattle.disk_journal.proofs.Opens.{short_write}
use Rattle.disk_journal.specs.Journal.{IsYoung}
use Rattle.disk_journal.proofs.Young.{by_parts, first_step}
use Rattle.outside.proofs.Burning.{then_up_to}
use Rattle.disk_journal.proofs.open.format.Goals as goal

pub returns-clause-moments : goal.returns-clause-moments
returns-clause-moments g c tells =
    let d = (g.D.Disk.seen c.args.disk.now).state in
    let m = (g.D.Disk.seen c.write_synced.new.disk).state in
    let e = (g.D.Disk.seen c.finish-2.new.disk).state in
    let start = c.requires.start tells in
    let moments = c.write_synced.ensures.moments tells in
    let too = c.write_synced.ensures.rest.tells ∙ tells in
    then d m e (λ x. length x ≤ 17) (short_write d m 0 (0 ∷ []) start.0 (omega arith) start.3 (omega arith) moments) (c.finish-2.ensures.moments too)

pub returns-in_err-write_synced-clause-young : goal.returns-in_err-write_synced-clause-young
returns-in_err-write_synced-clause-young g c tells not_yet young =
    let d = (g.D.Disk.seen c.args.disk.now).state in
    let m = (g.D.Disk.seen c.write_synced.new.disk).state in
    let start = c.requires.start tells in
    by_parts d m 0 (0 ∷ []) (IsYoung c.args.id.now) start.0 (omega arith) young
    (λ x parts. first_step c.args.id.now d.kept x young not_yet (start.2 c.if-is_shut.false) parts) (c.write_synced.ensures.moments tells)

pub returns-clause-young : goal.returns-clause-young
returns-clause-young g c tells not_yet young =
    let d = (g.D.Disk.seen c.args.disk.now).state in
    let m = (g.D.Disk.seen c.write_synced.new.disk).state in
    let e = (g.D.Disk.seen c.finish-2.new.disk).state in
    let start = c.requires.start tells in
    let too = c.write_synced.ensures.rest.tells ∙ tells in
    let first = by_parts d m 0 (0 ∷ []) (IsYoung c.args.id.now) start.0 (omega arith) young
    (λ x parts. first_step c.args.id.now d.kept x young not_yet (start.2 c.if-is_shut.false) parts) (c.write_synced.ensures.moments tells) in
    let shut_now : get_or m.kept 0 0 ≡ 0 = ap (λ (l : List ℕ). get_or l 0 0) (c.in_ok-write_synced.ensures.done tells).0 in
    then d m e (IsYoung c.args.id.now) first (c.finish-2.ensures.young too shut_now)

pub returns-clause-no_more : goal.returns-clause-no_more
returns-clause-no_more g c = then_up_to 2 4 (g.D.Disk.seen c.args.disk.now) (g.D.Disk.seen c.write_synced.new.disk) (g.D.Disk.seen c.finish-2.new.disk) c.in_ok-write_synced.ensures.burns c.finish-2.ensures.no_more
