use Rattle.std.proofs.Common.{◌∙◌}
use Rattle.node_tables.proofs.table.NodeTables.make_room.Goals as goal

pub invariant_of-self : goal.invariant_of-self
invariant_of-self g c =
    let e = c.make_all_room.ensures in
    (e.party ∙ c.self.invariant.0, rw (e.causes, e.flows, e.list) c.self.invariant.1, c.self.invariant.2, rw (e.acked, e.list) c.self.invariant.3, e.holds _ _ c.self.invariant.4)
