use Rattle.std.proofs.Common.{◌≡◌, ◌-◌}
use Rattle.net_base.specs.Forms.{items_at}
use Rattle.net_base.specs.Parts.{SameEnd}
use Rattle.net_base.proofs.Items.{with_front}
use Rattle.resolve_flows.proofs.ids.read_items.Given as goal

abbrev pub invariant-loop : goal.invariant-loop
invariant-loop g l = record {
  given : with_front l.items.items (items_at g.T.Spelt.reading (l.len - l.counter) l.from.left) ≡ items_at g.T.Spelt.reading l.len l.fn.from.left;
  end : SameEnd l.fn.from l.from;
}
