use Rattle.std.proofs.Common.{rules, ◌≡◌, ◌∙◌}
use Rattle.node_tables.specs.Journals.{state_of}
use Rattle.node_tables.proofs.Acked.{none_more}
use Rattle.node_tables.proofs.Boots.{rebuilding_none, rebuilding_more, fewer, none_at_first}
use Rattle.node_tables.proofs.boot.rebuild.Goals as goal

pub loop-at-init : goal.loop-at-init
loop-at-init g c =
    let same : c.into_iter-at-iterator.result.rest.items ≡ c.args.list = search rules in
    (tt, tt, rw same (rebuilding_none g.F.Spelt.reading c.args.notary c.args.nodes c.args.party c.args.list c.new-tables.result.bodies c.new-tables.ensures.bodies), c.requires.few, c.new-tables.ensures.party, c.new-tables.ensures.nodes, c.new-tables.ensures.notary, none_at_first g.F.Spelt.reading c.new-tables.result.bodies c.new-tables.result.acked c.new-tables.ensures.bodies c.new-tables.ensures.acked)

pub take-requires : goal.take-requires
take-requires g c = fewer g.F.Spelt.reading c.args.notary c.args.nodes c.args.party c.args.list _ _ c.loop-at.invariant.2 _ (c.in-Some.at, c.in-Some.body) c.in-Some.ensures.steps.0 c.loop-at.invariant.3

pub loop-at-preserved : goal.loop-at-preserved
loop-at-preserved g c =
    let good = rw (c.loop-at.invariant.4, c.loop-at.invariant.5, c.loop-at.invariant.6) at c.in_default.ensures.takes in (
      tt,
      tt,
      rebuilding_more g.F.Spelt.reading c.args.notary c.args.nodes c.args.party c.args.list _ _ c.loop-at.invariant.2 _ _ (c.in-Some.at, c.in-Some.body) c.in-Some.ensures.steps.0 good.1 good.0,
      c.loop-at.invariant.3,
      c.in_default.ensures.party ∙ c.loop-at.invariant.4,
      c.in_default.ensures.nodes ∙ c.loop-at.invariant.5,
      c.in_default.ensures.notary ∙ c.loop-at.invariant.6,
      none_more (state_of g.F.Spelt.reading c.loop-at.tables.bodies).sessions (state_of g.F.Spelt.reading c.take.new.tables.bodies).sessions c.loop-at.tables.acked c.take.new.tables.acked c.loop-at.invariant.7 c.in_default.ensures.acked,
    )
