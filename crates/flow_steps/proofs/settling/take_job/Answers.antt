use Rattle.std.proofs.Common.{◌≡◌, Some, None, sym, ◌∙◌}
use Rattle.std.proofs.lemmas.Result.{IfOk-weaker}
use Rattle.ledger_acts.specs.Jobs.{awaited}
use Rattle.flow_steps.specs.Awaiting.{job_of}
use Rattle.flow_steps.proofs.Jobs.{job_there, live_within}
use Rattle.flow_steps.proofs.settling.take_job.Goals as goal

pub take_job-requires : goal.take_job-requires
take_job-requires g c = (live_within g.F.Spelt.within c.args.flows.now.flows c.flow_in.result c.in-Some.at.now c.requires c.in-Some.ensures.checkpoint).1.1.1.0

pub returns-in-Some-clause-job : goal.returns-in-Some-clause-job
returns-in-Some-clause-job g c =
    let id = c.args.identity.now in
    let store = c.args.ledger.now.store.list in
    let flows = c.args.flows.now.flows in
    IfOk-weaker c.take_job.result (λ job. job ≡ awaited id store c.in-Some.at.now) (λ job. job ≡ job_of id store flows c.args.event.now)
    (λ job is. is ∙ sym (job_there id store flows c.args.event.now c.flow_in.result (Some c.in-Some.at.now) c.flow_in.ensures c.in-Some.ensures.checkpoint)) (rw c.store.ensures at c.take_job.ensures.job)

pub returns-in-None-clause-job : goal.returns-in-None-clause-job
returns-in-None-clause-job g c = sym (job_there c.args.identity.now c.args.ledger.now.store.list c.args.flows.now.flows c.args.event.now c.flow_in.result None c.flow_in.ensures c.in-None.ensures.checkpoint)
