use Rattle.std.proofs.Common.{arith, ◌<◌, length, length-append, [], ◌∷◌, ◌∙◌, ap, ℕ, List, ◌≡◌, ◌+◌, ◌≤◌}
use Rattle.wire_queue.specs.Wire.{Frame}
use Rattle.wire_queue.proofs.Wires.{filled}
use Rattle.wire_queue.proofs.inbox.Inbox.make.Goals as goal

pub loop-frame-preserved-in-Some : goal.loop-frame-preserved-in-Some
loop-frame-preserved-in-Some g c =
    let inv = c.loop-frame.invariant in
    let step = ap (λ (l : List Frame). length l) c.in-Some.ensures.steps.0 in
    let room : length c.loop-frame.yielded < 1024 = omega (arith, inv.4, step) in (
      tt,
      tt,
      c.post.ensures.of ∙ inv.2,
      filled c.post.result _ _ c.loop-frame.yielded c.in-Some.frame inv.3 room c.post.ensures.posted c.post.ensures.full,
      omega (arith, inv.4, step, length-append c.loop-frame.yielded (c.in-Some.frame ∷ [])),
    )
