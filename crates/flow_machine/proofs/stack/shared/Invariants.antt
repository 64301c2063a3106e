use Rattle.std.proofs.Common.{◌≡◌, take, map}
use Rattle.std.specs.Arc.{arc_value}
use Rattle.flow_machine.proofs.stack.shared.Given as goal

abbrev pub invariant-loop-frame : goal.invariant-loop-frame
invariant-loop-frame g l = map (λ frame. arc_value frame) l.same.items ≡ map (λ frame. arc_value frame) (take l.frame-index l.frames)
