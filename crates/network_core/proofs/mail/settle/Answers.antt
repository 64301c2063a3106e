use Rattle.std.proofs.Common.{◌<◌, ◌≤◌, arith}
use Rattle.net_base.proofs.Lists.{all_weaken}
use Rattle.waiting_frames.specs.Waiting.{WaitingSeen}
use Rattle.network_core.proofs.mail.settle.Goals as goal

pub send-requires : goal.send-requires
send-requires c =
    let before = all_weaken (λ (w : WaitingSeen). 0 < w.room) (λ (w : WaitingSeen). 1 ≤ w.room) c.args.waiting.now.items (λ w h. omega (arith, h)) c.requires.room in
    all_weaken (λ (w : WaitingSeen). 1 ≤ w.room) (λ (w : WaitingSeen). 0 < w.room) c.part.new.waiting.items (λ w h. omega (arith, h)) (c.part.ensures.room 1 before)
