use Rattle.std.proofs.Common.{ℕ, List, Ok, ◌∙◌, ap, subst}
use Rattle.net_model.specs.Environment.{environment, judge_without_contracts, meaning}
use Rattle.node_core.specs.declared.faults.SharedTurn.{SharedTurn}
use Rattle.node_core.specs.Claims.{SharedSeen, TurnAnswersBeside, claims_by}
use Rattle.node_core.proofs.Claims.{claimed, claims_kept, handed}
use Rattle.node_core.proofs.shared.SharedNode.turn.Goals as goal

pub invariant_of-self : goal.invariant_of-self
invariant_of-self g c = λ none.
    let old = c.self.inside.node in
    let w = environment (meaning g.F.FlowSet.machine g.F.Spelt.reading judge_without_contracts) old.identity in
    let t = subst (λ (x : SharedTurn). TurnAnswersBeside w c.args.now.0 c.args.pick c.as_slice.result.now old (Ok x) c.turn_beside.new.self) c.in-Ok-Job.field-0-is (c.in-Ok-Job.ensures.turn judge_without_contracts) in
    absurd ((handed w c.args.now.0 c.args.pick c.as_slice.result.now c.in-Ok-Job.job old c.turn_beside.new.self t).1 none)

pub returns-in-Ok-Job-clause-turn : goal.returns-in-Ok-Job-clause-turn
returns-in-Ok-Job-clause-turn g c = λ judge.
    let old = c.self.inside.node in
    let w = environment (meaning g.F.FlowSet.machine g.F.Spelt.reading judge) old.identity in
    let t = subst (λ (x : SharedTurn). TurnAnswersBeside w c.args.now.0 c.args.pick c.as_slice.result.now old (Ok x) c.turn_beside.new.self) c.in-Ok-Job.field-0-is (c.in-Ok-Job.ensures.turn judge) in
    let done = claimed w c.args.now.0 c.args.pick c.as_slice.result.now c.in-Ok-Job.job old c.turn_beside.new.self c.claim.result c.claim.ensures.answer t in
    let here = subst (λ (claims : List ℕ). TurnAnswersBeside w c.args.now.0 c.args.pick claims old c.claim.result c.turn_beside.new.self) c.as_slice.ensures.value done in
    subst (λ (n : SharedSeen). TurnAnswersBeside (environment (meaning g.F.FlowSet.machine g.F.Spelt.reading judge) n.node.identity) c.args.now.0 c.args.pick n.claims n.node c.claim.result c.turn_beside.new.self) c.self.view_is here

pub returns-in-Ok-Job-clause-claims : goal.returns-in-Ok-Job-clause-claims
returns-in-Ok-Job-clause-claims g c =
    let old = c.self.inside.node in
    let w = environment (meaning g.F.FlowSet.machine g.F.Spelt.reading judge_without_contracts) old.identity in
    let t = subst (λ (x : SharedTurn). TurnAnswersBeside w c.args.now.0 c.args.pick c.as_slice.result.now old (Ok x) c.turn_beside.new.self) c.in-Ok-Job.field-0-is (c.in-Ok-Job.ensures.turn judge_without_contracts) in
    let up = (handed w c.args.now.0 c.args.pick c.as_slice.result.now c.in-Ok-Job.job old c.turn_beside.new.self t).1 in
    c.claim.ensures.claims
    ∙ ap (λ (n : SharedSeen). claims_by c.claim.result n.claims) c.self.view_is
    ∙ claims_kept c.turn_beside.new.self.journal (claims_by c.claim.result c.args.self.now.claims) up
