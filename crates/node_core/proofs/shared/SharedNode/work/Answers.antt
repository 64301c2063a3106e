use Rattle.std.proofs.Common.{◌≡◌, ℕ, List, [], ◌∷◌, Result, Ok, Err, sym, ◌∙◌, ap, subst}
use Rattle.net_model.specs.Environment.{environment, meaning}
use Rattle.ledger_acts.specs.declared.job.Job.{Job}
use Rattle.ledger_acts.specs.Jobs.{IsJob}
use Rattle.node_core.specs.declared.faults.SharedTurn.{SharedTurn}
use Rattle.node_core.specs.declared.faults.SharedTurn.TheVariants as shared
use Rattle.node_core.specs.declared.faults.Turned.{Turned}
use Rattle.node_core.specs.declared.faults.TurnFault.{TurnFault}
use Rattle.node_core.specs.Claims.{TurnAnswersBeside, WorkAnswers, SettleAnswers, claims_but, claims_by, claims_up}
use Rattle.node_core.proofs.Claims.{handed, works_settled, works_told, none_left}
use Rattle.node_core.proofs.shared.SharedNode.work.Goals as goal

pub run-done-requires-clause-limits : goal.run-done-requires-clause-limits
run-done-requires-clause-limits g c =
    let old = c.args.self.now.node in
    let w = environment (meaning g.F.FlowSet.machine g.F.Spelt.reading (g.J.Judge.judges c.args.contracts.now)) old.identity in
    let t = subst (λ (x : SharedTurn). TurnAnswersBeside w c.args.now.0 c.args.pick c.args.self.now.claims old (Ok x) c.turn.new.self.node) c.in-Ok-Job.field-0-is (c.in-Ok-Job.ensures.turn (g.J.Judge.judges c.args.contracts.now)) in
    let fits = (handed w c.args.now.0 c.args.pick c.args.self.now.claims c.in-Ok-Job.job old c.turn.new.self.node t).0 in
    (subst (λ (j : Job). IsJob j) (sym c.into_inner.ensures) fits).tx

pub run-done-requires-clause-states : goal.run-done-requires-clause-states
run-done-requires-clause-states g c =
    let old = c.args.self.now.node in
    let w = environment (meaning g.F.FlowSet.machine g.F.Spelt.reading (g.J.Judge.judges c.args.contracts.now)) old.identity in
    let t = subst (λ (x : SharedTurn). TurnAnswersBeside w c.args.now.0 c.args.pick c.args.self.now.claims old (Ok x) c.turn.new.self.node) c.in-Ok-Job.field-0-is (c.in-Ok-Job.ensures.turn (g.J.Judge.judges c.args.contracts.now)) in
    let fits = (handed w c.args.now.0 c.args.pick c.args.self.now.claims c.in-Ok-Job.job old c.turn.new.self.node t).0 in
    (subst (λ (j : Job). IsJob j) (sym c.into_inner.ensures) fits).states

pub returns-in-Ok-Idle-clause-work : goal.returns-in-Ok-Idle-clause-work
returns-in-Ok-Idle-clause-work g c =
    let old = c.args.self.now.node in
    let judge = g.J.Judge.judges c.args.contracts.now in
    let w = environment (meaning g.F.FlowSet.machine g.F.Spelt.reading judge) old.identity in
    let t = subst (λ (x : SharedTurn). TurnAnswersBeside w c.args.now.0 c.args.pick c.args.self.now.claims old (Ok x) c.turn.new.self.node) c.in-Ok-Idle.field-0-is (c.in-Ok-Idle.ensures.turn judge) in
    let none = subst (λ (claims : List ℕ). TurnAnswersBeside w c.args.now.0 c.args.pick claims old (Ok shared.Idle) c.turn.new.self.node) c.requires.claims t in
    works_told g.F.FlowSet.machine g.F.Spelt.reading judge c.args.now.0 c.args.pick old (Ok shared.Idle) c.turn.new.self.node tt none

pub returns-in-Ok-Moved-clause-work : goal.returns-in-Ok-Moved-clause-work
returns-in-Ok-Moved-clause-work g c =
    let old = c.args.self.now.node in
    let judge = g.J.Judge.judges c.args.contracts.now in
    let w = environment (meaning g.F.FlowSet.machine g.F.Spelt.reading judge) old.identity in
    let t = subst (λ (x : SharedTurn). TurnAnswersBeside w c.args.now.0 c.args.pick c.args.self.now.claims old (Ok x) c.turn.new.self.node) c.in-Ok-Moved.field-0-is (c.in-Ok-Moved.ensures.turn judge) in
    let none = subst (λ (claims : List ℕ). TurnAnswersBeside w c.args.now.0 c.args.pick claims old (Ok (shared.Moved c.in-Ok-Moved.flow)) c.turn.new.self.node) c.requires.claims t in
    works_told g.F.FlowSet.machine g.F.Spelt.reading judge c.args.now.0 c.args.pick old (Ok (shared.Moved c.in-Ok-Moved.flow)) c.turn.new.self.node tt none

pub returns-in-Err-clause-work : goal.returns-in-Err-clause-work
returns-in-Err-clause-work g c =
    let old = c.args.self.now.node in
    let judge = g.J.Judge.judges c.args.contracts.now in
    let w = environment (meaning g.F.FlowSet.machine g.F.Spelt.reading judge) old.identity in
    let none = subst (λ (claims : List ℕ). TurnAnswersBeside w c.args.now.0 c.args.pick claims old (Err c.in-Err.why) c.turn.new.self.node) c.requires.claims (c.in-Err.ensures.turn judge) in
    works_told g.F.FlowSet.machine g.F.Spelt.reading judge c.args.now.0 c.args.pick old (Err c.in-Err.why) c.turn.new.self.node tt none

pub returns-in-Ok-Job-clause-work : goal.returns-in-Ok-Job-clause-work
returns-in-Ok-Job-clause-work g c =
    let old = c.args.self.now.node in
    let mid = c.turn.new.self.node in
    let new = c.settle.new.self.node in
    let judge = g.J.Judge.judges c.args.contracts.now in
    let w = environment (meaning g.F.FlowSet.machine g.F.Spelt.reading judge) old.identity in
    let v = environment (meaning g.F.FlowSet.machine g.F.Spelt.reading judge) mid.identity in
    let t = subst (λ (x : SharedTurn). TurnAnswersBeside w c.args.now.0 c.args.pick c.args.self.now.claims old (Ok x) mid) c.in-Ok-Job.field-0-is (c.in-Ok-Job.ensures.turn judge) in
    let none = subst (λ (claims : List ℕ). TurnAnswersBeside w c.args.now.0 c.args.pick claims old (Ok (shared.Job c.in-Ok-Job.job)) mid) c.requires.claims t in
    let job = c.run-done.ensures.job ∙ c.into_inner.ensures in
    let settled = subst (λ (j : Job). SettleAnswers v c.args.now.0 j mid c.settle.result new) job c.settle.ensures.settle in
    let all = works_settled g.F.FlowSet.machine g.F.Spelt.reading judge c.args.now.0 c.args.pick old c.in-Ok-Job.job mid new c.settle.result none settled in
    subst (λ (a : Result Turned TurnFault). WorkAnswers w c.args.now.0 c.args.pick old a new) (sym c.turned_of.ensures) all

pub returns-in-Ok-Job-clause-claims : goal.returns-in-Ok-Job-clause-claims
returns-in-Ok-Job-clause-claims g c =
    let job = c.run-done.ensures.job ∙ c.into_inner.ensures in
    let before = c.turn.new.self.node.journal in
    let after = c.settle.new.self.node.journal in
    let claims = subst (λ (x : SharedTurn). c.turn.new.self.claims ≡ claims_up before (claims_by (Ok x) c.args.self.now.claims)) c.in-Ok-Job.field-0-is c.in-Ok-Job.ensures.claims in
    let one : c.turn.new.self.claims ≡ claims_up before (c.in-Ok-Job.job.flow ∷ []) = subst (λ (list : List ℕ). c.turn.new.self.claims ≡ claims_up before (claims_by (Ok (shared.Job c.in-Ok-Job.job)) list)) c.requires.claims claims in
    c.settle.ensures.claims
    ∙ ap (λ (j : Job). claims_up after (claims_but j.flow c.turn.new.self.claims)) job
    ∙ ap (λ (list : List ℕ). claims_up after (claims_but c.in-Ok-Job.job.flow list)) one
    ∙ none_left before after c.in-Ok-Job.job.flow
