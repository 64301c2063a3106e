use Rattle.std.proofs.Common.{◌∙◌, sym}
use Rattle.net_model.specs.Runs.{lent}
use Rattle.net_model.proofs.Runs.{ends_with}
use Rattle.net_model.proofs.ordering.merge_with.Goals as goal

pub returns : goal.returns
returns c =
    ends_with c.args.node c.loop-other.place c.args.causes.now c.loop-other.other-iterator.rest.items (lent c.loop-other.all.items) (lent c.add_all.new.all.items) _
    (sym c.loop-other.other-iterator.rest.ok.0 ∙ c.in-None.ensures.steps.0) c.loop-other.invariant.1 c.in_ok-add_all.ensures
