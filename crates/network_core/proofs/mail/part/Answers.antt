use Rattle.std.proofs.Common.{◌<◌, refl, sym, ◌∙◌, ap, length}
use Rattle.std.proofs.lemmas.Option.{slice_get_read, same_Some}
use Rattle.waiting_frames.specs.Waiting.{WaitingSeen}
use Rattle.network_core.specs.WorldSteps.{without}
use Rattle.network_core.proofs.Mailing.{parts_at, removed_is}
use Rattle.network_core.proofs.mail.part.Goals as goal

pub returns-then-not-waits-clause-parted : goal.returns-then-not-waits-clause-parted
returns-then-not-waits-clause-parted c w there =
    let items = c.args.waiting.now.items in
    let inside : c.args.place < length items = c.requires in
    let at = slice_get_read items (length items) c.args.place c.index_mut.result.now refl inside c.index_mut.ensures.value in
    let same = same_Some _ _ (sym at ∙ there) in
    rw c.if-not-waits.true
    (parts_at (λ (z : WaitingSeen). z.frames) items c.args.place c.args.at w c.discard.new.self there (c.discard.ensures.frames ∙ removed_is c.index_mut.result.now.frames c.args.at ∙ ap (λ (z : WaitingSeen). without c.args.at z.frames) same))
