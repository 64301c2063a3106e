use Rattle.std.proofs.Common.{◌<◌, ◌≤◌, ◌+◌, ◌∙◌, ap, arith, length, map}
use Rattle.net_base.proofs.Lists.{all_weaken}
use Rattle.waiting_frames.specs.Waiting.{WaitingSeen}
use Rattle.network_core.proofs.Mailing.{fresh_more, fresh_same, mailed_more}
use Rattle.network_core.proofs.mail.send_all.Goals as goal

pub send-requires : goal.send-requires
send-requires c =
    let is = c.in-Some.ensures.steps.0 in
    all_weaken (λ (w : WaitingSeen). length c.frames.frame-iterator.rest.items ≤ w.room) (λ (w : WaitingSeen). 0 < w.room) c.frames.waiting.items (λ w h. omega (arith, h, ap length is)) c.frames.invariant.5

pub frames-preserved-then-send : goal.frames-preserved-then-send
frames-preserved-then-send c =
    let is = c.in-Some.ensures.steps.0 in
    let i = c.frames.invariant in
    let rest = c.next.new.self.rest.items in
    let before = map (λ (w : WaitingSeen). w.frames) c.frames.waiting.items in
    let after = map (λ (w : WaitingSeen). w.frames) c.send.new.waiting.items in
    let room = all_weaken (λ (w : WaitingSeen). length c.frames.frame-iterator.rest.items ≤ w.room) (λ (w : WaitingSeen). length rest + 1 ≤ w.room) c.frames.waiting.items (λ w h. omega (arith, h, ap length is)) i.5 in
    (tt, tt, mailed_more c.in-Some.frame rest _ before after is c.send.ensures.mailed ∙ i.2, fresh_more c.in-Some.frame rest _ before after c.frames.count _ is c.send.ensures.mailed c.send.result c.send.ensures.fresh c.if-send.true i.3, omega (arith, i.4, ap length is), c.send.ensures.room (length rest) room)

pub frames-preserved : goal.frames-preserved
frames-preserved c =
    let is = c.in-Some.ensures.steps.0 in
    let i = c.frames.invariant in
    let rest = c.next.new.self.rest.items in
    let before = map (λ (w : WaitingSeen). w.frames) c.frames.waiting.items in
    let after = map (λ (w : WaitingSeen). w.frames) c.send.new.waiting.items in
    let room = all_weaken (λ (w : WaitingSeen). length c.frames.frame-iterator.rest.items ≤ w.room) (λ (w : WaitingSeen). length rest + 1 ≤ w.room) c.frames.waiting.items (λ w h. omega (arith, h, ap length is)) i.5 in
    (tt, tt, mailed_more c.in-Some.frame rest _ before after is c.send.ensures.mailed ∙ i.2, fresh_same c.in-Some.frame rest _ before after c.frames.count _ is c.send.ensures.mailed c.send.result c.send.ensures.fresh c.if-send.false i.3, omega (arith, i.4, ap length is), c.send.ensures.room (length rest) room)
