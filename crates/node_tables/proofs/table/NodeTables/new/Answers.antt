use Rattle.std.proofs.Common.{refl}
use Rattle.node_tables.proofs.Runs.{kept_none}
use Rattle.node_tables.proofs.Ledgered.{holds_none}
use Rattle.node_tables.proofs.table.NodeTables.new.Goals as goal

pub invariant_of-result : goal.invariant_of-result
invariant_of-result g c = (c.new-4.ensures.party, rw (c.new.ensures, c.new-2.ensures, c.new-3.ensures, c.new-4.ensures.list) (kept_none c.args.party g.F.Spelt.reading g.F.Spelt.within c.requires.party), c.requires.nodes, rw (c.new-4.ensures.acked, c.new-4.ensures.list) refl, rw c.new.ensures (holds_none g.F.Spelt.reading c.args.party c.new_ledger.result c.new_ledger.ensures))
