use Rattle.node_tables.specs.Journals.{state_of}
use Rattle.node_tables.proofs.Runs.{own_of}
use Rattle.node_tables.proofs.Deciding.{owns_is}
use Rattle.node_tables.proofs.table.NodeTables.may_open.Goals as goal

pub returns-in-Some : goal.returns-in-Some
returns-in-Some g c =
    let t = c.args.step.now in
    owns_is c.args.self.now.nodes t.cause t.flow t.session t.ledger (state_of g.F.Spelt.reading c.args.self.now.bodies).sessions _ c.owns_few.result (own_of g.F.Spelt.within t.flow c.requires.1) c.in-Some.is c.owns_few.ensures.none c.owns_few.ensures.some
