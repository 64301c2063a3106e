use Rattle.session_frames.proofs.Messages.{are_messages}
use Rattle.session_frames.specs.Lawful.{AreLawful}
use Rattle.node_tables.specs.Journals.{state_of}
use Rattle.node_core.proofs.up.Up.unacked.Goals as goal

pub returns-clause-messages : goal.returns-clause-messages
returns-clause-messages g c =
    let n = c.self.inside in
    let lawful : AreLawful n.journal.of.party (state_of g.F.Spelt.reading n.tables.bodies).sessions = rw c.self.invariant.0 at c.law_kept.ensures.lawful in
    rw (← c.self.view_is) (are_messages n.journal.of.party (state_of g.F.Spelt.reading n.tables.bodies).sessions n.tables.acked lawful)
