use Rattle.std.proofs.Common.{length}
use Rattle.node_tables.specs.Journals.{state_of}
use Rattle.node_core.proofs.Items.{next_small}
use Rattle.node_core.proofs.up.Up.law_known_next.Goals as goal

pub returns : goal.returns
returns g c =
    let item = c.args.item.now in
    let bodies = c.args.self.now.bodies in
    next_small c.args.identity.now (state_of g.F.Spelt.reading bodies).sessions item.peer item.key item.direction item.number item.stamp item.body c.requires (length bodies) (rw (← c.self.view_is) c.law_kept.ensures.few) (rw (← c.self.view_is) c.law_kept.ensures.few_came)
