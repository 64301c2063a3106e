use Rattle.std.proofs.Common.{◌≡◌, ℕ, List, length, true, ap, sym, ◌∙◌, subst, arith}
use Rattle.outside.specs.Disk.{IsImage}
use Rattle.disk_journal.specs.Journal.{is_unformatted, IsYoung, placed}
use Rattle.outside.proofs.Moments.{then, weaker}
use Rattle.disk_journal.proofs.Fresh.{unformatted_short, short_spells, refusal_unformatted}
use Rattle.disk_journal.proofs.Opens.{known, begun, spelt_short, never_sound, opens_fresh}
use Rattle.outside.proofs.Burning.{then_up_to}
use Rattle.disk_journal.proofs.open.prepare.Goals as goal

pub begin-requires-clause-short : goal.begin-requires-clause-short
begin-requires-clause-short g c =
    let short = unformatted_short c.deref.result.now (sym c.is_unformatted.ensures ∙ c.if-is_unformatted.true) in
    omega (arith, short, ap (λ (l : List ℕ). length l) (c.deref-then-is_unformatted.ensures.value ∙ sym c.deref.ensures.value))

pub returns-in_err-begin-clause-same : goal.returns-in_err-begin-clause-same
returns-in_err-begin-clause-same g c why tells =
    let d = (g.D.Disk.seen c.args.disk.now).state in
    let m = (g.D.Disk.seen c.read_all.new.disk).state in
    let bytes_are : c.deref.result.now ≡ d.kept = c.deref.ensures.value ∙ c.in_ok-bytes.ensures.bytes tells in
    let not_yet : is_unformatted d.kept ≡ true = ap is_unformatted (sym bytes_are) ∙ sym c.is_unformatted.ensures ∙ c.if-is_unformatted.true in
    let short = unformatted_short d.kept not_yet in
    let was = c.read_all.ensures.was tells in
    let e = (g.D.Disk.seen c.begin.new.disk).state in
    let too : (g.D.Disk.seen c.read_all.new.disk).tells ≡ true = c.read_all.ensures.rest.tells ∙ tells in
    short_spells e.kept (c.begin.ensures.kept too) ∙ sym (short_spells d.kept short)

pub returns-then-is_unformatted-clause-same : goal.returns-then-is_unformatted-clause-same
returns-then-is_unformatted-clause-same g c why tells =
    let d = (g.D.Disk.seen c.args.disk.now).state in
    let m = (g.D.Disk.seen c.read_all.new.disk).state in
    let bytes_are : c.deref.result.now ≡ d.kept = c.deref.ensures.value ∙ c.in_ok-bytes.ensures.bytes tells in
    let not_yet : is_unformatted d.kept ≡ true = ap is_unformatted (sym bytes_are) ∙ sym c.is_unformatted.ensures ∙ c.if-is_unformatted.true in
    let short = unformatted_short d.kept not_yet in
    let was = c.read_all.ensures.was tells in
    let e = (g.D.Disk.seen c.begin.new.disk).state in
    let too : (g.D.Disk.seen c.read_all.new.disk).tells ≡ true = c.read_all.ensures.rest.tells ∙ tells in
    short_spells e.kept (c.begin.ensures.kept too) ∙ sym (short_spells d.kept short)

pub returns-in_err-begin-clause-moments : goal.returns-in_err-begin-clause-moments
returns-in_err-begin-clause-moments g c tells =
    let d = (g.D.Disk.seen c.args.disk.now).state in
    let m = (g.D.Disk.seen c.read_all.new.disk).state in
    let bytes_are : c.deref.result.now ≡ d.kept = c.deref.ensures.value ∙ c.in_ok-bytes.ensures.bytes tells in
    let not_yet : is_unformatted d.kept ≡ true = ap is_unformatted (sym bytes_are) ∙ sym c.is_unformatted.ensures ∙ c.if-is_unformatted.true in
    let short = unformatted_short d.kept not_yet in
    let was = c.read_all.ensures.was tells in
    let e = (g.D.Disk.seen c.begin.new.disk).state in
    let too : (g.D.Disk.seen c.read_all.new.disk).tells ≡ true = c.read_all.ensures.rest.tells ∙ tells in
    begun d m e (c.read_all.ensures.moments tells) was short (c.begin.ensures.moments too)

pub returns-in_err-begin-clause-kept : goal.returns-in_err-begin-clause-kept
returns-in_err-begin-clause-kept g c tells =
    let d = (g.D.Disk.seen c.args.disk.now).state in
    let m = (g.D.Disk.seen c.read_all.new.disk).state in
    let bytes_are : c.deref.result.now ≡ d.kept = c.deref.ensures.value ∙ c.in_ok-bytes.ensures.bytes tells in
    let not_yet : is_unformatted d.kept ≡ true = ap is_unformatted (sym bytes_are) ∙ sym c.is_unformatted.ensures ∙ c.if-is_unformatted.true in
    let short = unformatted_short d.kept not_yet in
    let was = c.read_all.ensures.was tells in
    let e = (g.D.Disk.seen c.begin.new.disk).state in
    let too : (g.D.Disk.seen c.read_all.new.disk).tells ≡ true = c.read_all.ensures.rest.tells ∙ tells in
    spelt_short d m e (c.read_all.ensures.moments tells) was short e.kept (c.begin.ensures.kept too)

pub returns-in_err-begin-clause-sound : goal.returns-in_err-begin-clause-sound
returns-in_err-begin-clause-sound g c tells =
    let d = (g.D.Disk.seen c.args.disk.now).state in
    let m = (g.D.Disk.seen c.read_all.new.disk).state in
    let bytes_are : c.deref.result.now ≡ d.kept = c.deref.ensures.value ∙ c.in_ok-bytes.ensures.bytes tells in
    let not_yet : is_unformatted d.kept ≡ true = ap is_unformatted (sym bytes_are) ∙ sym c.is_unformatted.ensures ∙ c.if-is_unformatted.true in
    let short = unformatted_short d.kept not_yet in
    let was = c.read_all.ensures.was tells in
    let e = (g.D.Disk.seen c.begin.new.disk).state in
    let too : (g.D.Disk.seen c.read_all.new.disk).tells ≡ true = c.read_all.ensures.rest.tells ∙ tells in
    never_sound c.args.id.now d e was not_yet

pub returns-then-is_unformatted-clause-opened : goal.returns-then-is_unformatted-clause-opened
returns-then-is_unformatted-clause-opened g c tells =
    let d = (g.D.Disk.seen c.args.disk.now).state in
    let m = (g.D.Disk.seen c.read_all.new.disk).state in
    let bytes_are : c.deref.result.now ≡ d.kept = c.deref.ensures.value ∙ c.in_ok-bytes.ensures.bytes tells in
    let not_yet : is_unformatted d.kept ≡ true = ap is_unformatted (sym bytes_are) ∙ sym c.is_unformatted.ensures ∙ c.if-is_unformatted.true in
    let short = unformatted_short d.kept not_yet in
    let was = c.read_all.ensures.was tells in
    refusal_unformatted c.args.id.now d.kept not_yet

pub returns-then-is_unformatted-clause-list : goal.returns-then-is_unformatted-clause-list
returns-then-is_unformatted-clause-list g c tells =
    let d = (g.D.Disk.seen c.args.disk.now).state in
    let m = (g.D.Disk.seen c.read_all.new.disk).state in
    let bytes_are : c.deref.result.now ≡ d.kept = c.deref.ensures.value ∙ c.in_ok-bytes.ensures.bytes tells in
    let not_yet : is_unformatted d.kept ≡ true = ap is_unformatted (sym bytes_are) ∙ sym c.is_unformatted.ensures ∙ c.if-is_unformatted.true in
    let short = unformatted_short d.kept not_yet in
    let was = c.read_all.ensures.was tells in
    c.new.ensures ∙ ap (placed 16) (sym (short_spells d.kept short))

pub returns-then-is_unformatted-clause-stands : goal.returns-then-is_unformatted-clause-stands
returns-then-is_unformatted-clause-stands g c tells =
    let d = (g.D.Disk.seen c.args.disk.now).state in
    let m = (g.D.Disk.seen c.read_all.new.disk).state in
    let bytes_are : c.deref.result.now ≡ d.kept = c.deref.ensures.value ∙ c.in_ok-bytes.ensures.bytes tells in
    let not_yet : is_unformatted d.kept ≡ true = ap is_unformatted (sym bytes_are) ∙ sym c.is_unformatted.ensures ∙ c.if-is_unformatted.true in
    let short = unformatted_short d.kept not_yet in
    let was = c.read_all.ensures.was tells in
    let e = (g.D.Disk.seen c.begin.new.disk).state in
    let too : (g.D.Disk.seen c.read_all.new.disk).tells ≡ true = c.read_all.ensures.rest.tells ∙ tells in
    let done = c.in_ok-begin.ensures.done too in
    opens_fresh c.args.id.now d e c.requires short done.0 done.1

pub returns-then-is_unformatted-clause-moments : goal.returns-then-is_unformatted-clause-moments
returns-then-is_unformatted-clause-moments g c tells =
    let d = (g.D.Disk.seen c.args.disk.now).state in
    let m = (g.D.Disk.seen c.read_all.new.disk).state in
    let bytes_are : c.deref.result.now ≡ d.kept = c.deref.ensures.value ∙ c.in_ok-bytes.ensures.bytes tells in
    let not_yet : is_unformatted d.kept ≡ true = ap is_unformatted (sym bytes_are) ∙ sym c.is_unformatted.ensures ∙ c.if-is_unformatted.true in
    let short = unformatted_short d.kept not_yet in
    let was = c.read_all.ensures.was tells in
    let e = (g.D.Disk.seen c.begin.new.disk).state in
    let too : (g.D.Disk.seen c.read_all.new.disk).tells ≡ true = c.read_all.ensures.rest.tells ∙ tells in
    begun d m e (c.read_all.ensures.moments tells) was short (c.begin.ensures.moments too)

pub returns-then-is_unformatted-clause-kept : goal.returns-then-is_unformatted-clause-kept
returns-then-is_unformatted-clause-kept g c tells =
    let d = (g.D.Disk.seen c.args.disk.now).state in
    let m = (g.D.Disk.seen c.read_all.new.disk).state in
    let bytes_are : c.deref.result.now ≡ d.kept = c.deref.ensures.value ∙ c.in_ok-bytes.ensures.bytes tells in
    let not_yet : is_unformatted d.kept ≡ true = ap is_unformatted (sym bytes_are) ∙ sym c.is_unformatted.ensures ∙ c.if-is_unformatted.true in
    let short = unformatted_short d.kept not_yet in
    let was = c.read_all.ensures.was tells in
    let e = (g.D.Disk.seen c.begin.new.disk).state in
    let too : (g.D.Disk.seen c.read_all.new.disk).tells ≡ true = c.read_all.ensures.rest.tells ∙ tells in
    spelt_short d m e (c.read_all.ensures.moments tells) was short e.kept (c.begin.ensures.kept too)

pub returns-then-is_unformatted-clause-sound : goal.returns-then-is_unformatted-clause-sound
returns-then-is_unformatted-clause-sound g c tells =
    let d = (g.D.Disk.seen c.args.disk.now).state in
    let m = (g.D.Disk.seen c.read_all.new.disk).state in
    let bytes_are : c.deref.result.now ≡ d.kept = c.deref.ensures.value ∙ c.in_ok-bytes.ensures.bytes tells in
    let not_yet : is_unformatted d.kept ≡ true = ap is_unformatted (sym bytes_are) ∙ sym c.is_unformatted.ensures ∙ c.if-is_unformatted.true in
    let short = unformatted_short d.kept not_yet in
    let was = c.read_all.ensures.was tells in
    let e = (g.D.Disk.seen c.begin.new.disk).state in
    let too : (g.D.Disk.seen c.read_all.new.disk).tells ≡ true = c.read_all.ensures.rest.tells ∙ tells in
    never_sound c.args.id.now d e was not_yet

pub returns-clause-moments : goal.returns-clause-moments
returns-clause-moments g c tells =
    let d = (g.D.Disk.seen c.args.disk.now).state in
    let m = (g.D.Disk.seen c.read_all.new.disk).state in
    known d m (c.read_all.ensures.moments tells)

pub returns-in_err-bytes-clause-young : goal.returns-in_err-bytes-clause-young
returns-in_err-bytes-clause-young g c tells all =
    let d = (g.D.Disk.seen c.args.disk.now).state in
    let m = (g.D.Disk.seen c.read_all.new.disk).state in
    weaker d m (IsImage d.now) (IsYoung c.args.id.now) all (c.read_all.ensures.moments tells)

pub returns-in_err-begin-clause-young : goal.returns-in_err-begin-clause-young
returns-in_err-begin-clause-young g c tells all =
    let d = (g.D.Disk.seen c.args.disk.now).state in
    let m = (g.D.Disk.seen c.read_all.new.disk).state in
    let bytes_are : c.deref.result.now ≡ d.kept = c.deref.ensures.value ∙ c.in_ok-bytes.ensures.bytes tells in
    let not_yet : is_unformatted d.kept ≡ true = ap is_unformatted (sym bytes_are) ∙ sym c.is_unformatted.ensures ∙ c.if-is_unformatted.true in
    let was = c.read_all.ensures.was tells in
    let e = (g.D.Disk.seen c.begin.new.disk).state in
    let too : (g.D.Disk.seen c.read_all.new.disk).tells ≡ true = c.read_all.ensures.rest.tells ∙ tells in
    let kept = (c.in_ok-bytes.ensures.done tells).0 in
    then d m e (IsYoung c.args.id.now) (weaker d m (IsImage d.now) (IsYoung c.args.id.now) all (c.read_all.ensures.moments tells))
    (c.begin.ensures.young too (ap is_unformatted kept ∙ not_yet) (subst (IsYoung c.args.id.now) (sym kept) (all d.kept was)))

pub returns-then-is_unformatted-clause-young : goal.returns-then-is_unformatted-clause-young
returns-then-is_unformatted-clause-young g c tells all =
    let d = (g.D.Disk.seen c.args.disk.now).state in
    let m = (g.D.Disk.seen c.read_all.new.disk).state in
    let bytes_are : c.deref.result.now ≡ d.kept = c.deref.ensures.value ∙ c.in_ok-bytes.ensures.bytes tells in
    let not_yet : is_unformatted d.kept ≡ true = ap is_unformatted (sym bytes_are) ∙ sym c.is_unformatted.ensures ∙ c.if-is_unformatted.true in
    let was = c.read_all.ensures.was tells in
    let e = (g.D.Disk.seen c.begin.new.disk).state in
    let too : (g.D.Disk.seen c.read_all.new.disk).tells ≡ true = c.read_all.ensures.rest.tells ∙ tells in
    let kept = (c.in_ok-bytes.ensures.done tells).0 in
    then d m e (IsYoung c.args.id.now) (weaker d m (IsImage d.now) (IsYoung c.args.id.now) all (c.read_all.ensures.moments tells))
    (c.begin.ensures.young too (ap is_unformatted kept ∙ not_yet) (subst (IsYoung c.args.id.now) (sym kept) (all d.kept was)))

pub returns-clause-young : goal.returns-clause-young
returns-clause-young g c tells all =
    let d = (g.D.Disk.seen c.args.disk.now).state in
    let m = (g.D.Disk.seen c.read_all.new.disk).state in
    weaker d m (IsImage d.now) (IsYoung c.args.id.now) all (c.read_all.ensures.moments tells)

pub returns-in_err-begin-clause-no_more : goal.returns-in_err-begin-clause-no_more
returns-in_err-begin-clause-no_more g c = then_up_to 1 6 (g.D.Disk.seen c.args.disk.now) (g.D.Disk.seen c.read_all.new.disk) (g.D.Disk.seen c.begin.new.disk) c.read_all.ensures.burns c.begin.ensures.no_more

pub returns-then-is_unformatted-clause-no_more : goal.returns-then-is_unformatted-clause-no_more
returns-then-is_unformatted-clause-no_more g c = then_up_to 1 6 (g.D.Disk.seen c.args.disk.now) (g.D.Disk.seen c.read_all.new.disk) (g.D.Disk.seen c.begin.new.disk) c.read_all.ensures.burns c.begin.ensures.no_more
