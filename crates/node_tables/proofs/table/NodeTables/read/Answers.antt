use Rattle.node_tables.proofs.Boots.{unread}
use Rattle.node_tables.proofs.table.NodeTables.read.Goals as goal

pub returns-in_default : goal.returns-in_default
returns-in_default g c = unread c.args.self.now.notary c.args.self.now.nodes c.args.self.now.party _ _ (rw c.in_default.is at c.in_ok-step.ensures.tells)
