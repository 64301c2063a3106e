use Rattle.std.proofs.Common.{◌≡◌}
use Rattle.node_shell.specs.Loads.{all_but}
use Rattle.node_shell.proofs.loads.all_but.Given as goal

-- the places so far
abbrev pub invariant-loop-place : goal.invariant-loop-place
invariant-loop-place l = l.places.items ≡ all_but l.one l.place
