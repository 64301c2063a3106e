use Rattle.std.proofs.Common.{◌≡◌, ◌≤◌, length}
use Rattle.node_tables.specs.Journals.{state_of}
use Rattle.node_tables.specs.Seen.{no_acks}
use Rattle.node_tables.proofs.Boots.{Rebuilding}
use Rattle.node_tables.proofs.boot.rebuild.Given as goal

abbrev pub invariant-loop-at : goal.invariant-loop-at
invariant-loop-at g l =
    (goal.iterator-loop-at g).can_next l.at-iterator ×
    (goal.iterator-loop-at g).is_finite l.at-iterator ×
    Rebuilding g.F.Spelt.reading l.fn.notary l.fn.nodes l.fn.party l.fn.list l.tables.bodies l.at-iterator.rest.items ×
    (length l.fn.list ≤ 65536) ×
    (l.tables.party ≡ l.fn.party) ×
    (l.tables.nodes ≡ l.fn.nodes) ×
    (l.tables.notary ≡ l.fn.notary) ×
    (l.tables.acked ≡ no_acks (state_of g.F.Spelt.reading l.tables.bodies).sessions)
