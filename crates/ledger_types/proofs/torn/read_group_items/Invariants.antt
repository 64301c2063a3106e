use Rattle.std.proofs.Common.{◌≡◌, ◌-◌, ◌≤◌}
use Rattle.net_base.specs.Runs.{run_at}
use Rattle.net_base.specs.Parts.{SameEnd}
use Rattle.net_base.proofs.Items.{with_front}
use Rattle.ledger_types.specs.Torn.{group_step, group_next}
use Rattle.ledger_types.proofs.torn.read_group_items.Given as goal

abbrev pub invariant-loop : goal.invariant-loop
invariant-loop l = record {
  given : with_front l.items.items (run_at group_step group_next (l.count - l.counter) l.room l.from.left) ≡ run_at group_step group_next l.count 96 l.fn.from.left;
  end : SameEnd l.fn.from l.from;
  room : l.room ≤ 96;
}
