use Rattle.std.proofs.Common.{◌≡◌, ◌-◌, ◌≤◌, length, map}
use Rattle.std.specs.Arc.{arc_value}
use Rattle.net_base.specs.Forms.{items_at}
use Rattle.net_base.specs.Parts.{SameEnd}
use Rattle.net_base.proofs.Items.{with_front}
use Rattle.flow_machine.proofs.checkpoint_spelling.read_frames.Given as goal

abbrev pub invariant-loop : goal.invariant-loop
invariant-loop g l = record {
  given : with_front (map (λ frame. arc_value frame) l.frames.items) (items_at g.F.Spelt.reading (l.count - l.counter) l.from.left) ≡ items_at g.F.Spelt.reading l.count l.fn.from.left;
  end : SameEnd l.fn.from l.from;
  few : length l.frames.items ≤ l.counter;
}
