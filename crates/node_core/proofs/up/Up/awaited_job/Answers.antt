use Rattle.std.proofs.Common.{◌≡◌, ℕ, Option, Some, ◌∙◌, ap}
use Rattle.std.proofs.lemmas.Result.{IfOk-weaker}
use Rattle.net_model.specs.Enabled.{picked}
use Rattle.flow_steps.specs.Awaiting.{job_of}
use Rattle.node_tables.specs.Journals.{state_of}
use Rattle.node_core.proofs.Claims.{moves_there}
use Rattle.node_core.proofs.up.Up.awaited_job.Goals as goal

pub returns-clause-job : goal.returns-clause-job
returns-clause-job g c =
    let id = c.args.identity.now in
    let e = c.args.event.now in
    let s = state_of g.F.Spelt.reading c.self.inside.tables.bodies in
    let list = c.ledger-ledger.result.now.store.list in
    rw (← c.self.view_is) (IfOk-weaker c.take_job.result _ _ (λ job is. is ∙ ap (λ l. job_of id list l e) c.flows-flows.ensures ∙ ap (λ l. job_of id l s.flows e) c.ledger-ledger.ensures.store) c.take_job.ensures.job)

pub returns-clause-moves : goal.returns-clause-moves
returns-clause-moves g c =
    let id = c.args.identity.now in
    let e = c.args.event.now in
    let s = state_of g.F.Spelt.reading c.self.inside.tables.bodies in
    let list = c.ledger-ledger.result.now.store.list in
    let p : (pick : Option ℕ) × (picked s.sessions c.args.now.0 pick s.flows ≡ Some e) = rw (← c.self.view_is) at c.requires in
    IfOk-weaker c.take_job.result _ _ (λ job is. moves_there id s c.args.now.0 p.0 e job c.law_kept.ensures.numbered p.1 (is ∙ ap (λ l. job_of id list l e) c.flows-flows.ensures ∙ ap (λ l. job_of id l s.flows e) c.ledger-ledger.ensures.store)) c.take_job.ensures.job
