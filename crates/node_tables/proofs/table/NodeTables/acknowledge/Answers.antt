use Rattle.std.proofs.Common.{◌∙◌}
use Rattle.node_tables.proofs.Acked.{raised_length}
use Rattle.node_tables.proofs.table.NodeTables.acknowledge.Goals as goal

pub invariant_of-self : goal.invariant_of-self
invariant_of-self g c =
    let s = c.self.inside in
    (c.acknowledge.ensures.party ∙ c.self.invariant.0, rw c.acknowledge.ensures.list c.self.invariant.1, c.self.invariant.2, rw (c.acknowledge.ensures.acked, c.acknowledge.ensures.list) (raised_length s.sessions.party c.args.key.now c.args.direction c.args.upto s.sessions.list s.sessions.acked c.self.invariant.3), c.self.invariant.4)
