use Rattle.std.proofs.Common.{◌≡◌, ◌++◌, take, map}
use Rattle.std.specs.Arc.{arc_value}
use Rattle.std.specs.List.{flat_map}
use Rattle.flow_machine.proofs.checkpoint_spelling.write_frames.Given as goal

abbrev pub invariant-loop-frame : goal.invariant-loop-frame
invariant-loop-frame g l = l.out ≡ l.fn.out ++ flat_map g.F.Spelt.spelling (map (λ frame. arc_value frame) (take l.frame-index l.frames))
