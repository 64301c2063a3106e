use Rattle.std.proofs.Common.{◌<◌, ◌≤◌, ◌+◌, refl, arith, length}
use Rattle.std.proofs.lemmas.Option.{slice_get_read}
use Rattle.net_base.proofs.Lists.{all_get, all_weaken, all_set}
use Rattle.waiting_frames.specs.Waiting.{WaitingSeen}
use Rattle.network_core.proofs.Mailing.{fresh_there, joins_at}
use Rattle.network_core.proofs.mail.send.Goals as goal

pub returns-clause-mailed : goal.returns-clause-mailed
returns-clause-mailed c =
    let items = c.args.waiting.now.items in
    let inside : c.args.frame.to.0 < length items = omega (arith, c.if-place-len.false, c.len.ensures, c.args.waiting.now.ok.0) in
    let at = slice_get_read items (length items) c.args.frame.to.0 c.index_mut.result.now refl inside c.index_mut.ensures.value in
    joins_at (λ (w : WaitingSeen). w.frames) items c.args.frame c.index_mut.result.now c.join.new.self at c.join.ensures.frames

pub returns-clause-fresh : goal.returns-clause-fresh
returns-clause-fresh c =
    let items = c.args.waiting.now.items in
    let inside : c.args.frame.to.0 < length items = omega (arith, c.if-place-len.false, c.len.ensures, c.args.waiting.now.ok.0) in
    let at = slice_get_read items (length items) c.args.frame.to.0 c.index_mut.result.now refl inside c.index_mut.ensures.value in
    fresh_there (λ (w : WaitingSeen). w.frames) items c.args.frame c.index_mut.result.now c.join.result at c.join.ensures.added

pub returns-clause-room : goal.returns-clause-room
returns-clause-room c more all =
    let items = c.args.waiting.now.items in
    let place = c.args.frame.to.0 in
    let inside : place < length items = omega (arith, c.if-place-len.false, c.len.ensures, c.args.waiting.now.ok.0) in
    let at = slice_get_read items (length items) place c.index_mut.result.now refl inside c.index_mut.ensures.value in
    let here : more + 1 ≤ c.index_mut.result.now.room = all_get (λ (w : WaitingSeen). more + 1 ≤ w.room) items place c.index_mut.result.now all at in
    all_set (λ (w : WaitingSeen). more ≤ w.room) items place c.join.new.self (all_weaken (λ (w : WaitingSeen). more + 1 ≤ w.room) (λ (w : WaitingSeen). more ≤ w.room) items (λ w h. omega (arith, h)) all) (omega (arith, c.join.ensures.room, here))
