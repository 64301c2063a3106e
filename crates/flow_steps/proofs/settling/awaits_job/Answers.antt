use Rattle.std.proofs.Common.{◌≡◌, Some, None, is_some, sym, ap}
use Rattle.ledger_acts.specs.Jobs.{awaited}
use Rattle.flow_steps.specs.Awaiting.{job_of}
use Rattle.flow_steps.proofs.Jobs.{job_there, live_within}
use Rattle.flow_steps.proofs.settling.awaits_job.Goals as goal

pub needs_job-requires : goal.needs_job-requires
needs_job-requires g c = (live_within g.F.Spelt.within c.args.flows.now.flows c.flow_in.result c.in-Some.at.now c.requires c.in-Some.ensures.checkpoint).1.1.1.0

pub returns-in-Some : goal.returns-in-Some
returns-in-Some g c =
    let id = c.args.identity.now in
    let store = c.args.ledger.now.store.list in
    let there : job_of id store c.args.flows.now.flows c.args.event.now ≡ awaited id store c.in-Some.at.now = job_there id store c.args.flows.now.flows c.args.event.now c.flow_in.result (Some c.in-Some.at.now) c.flow_in.ensures c.in-Some.ensures.checkpoint in
    rw there (rw c.store.ensures at c.needs_job.ensures)

pub returns-in-None : goal.returns-in-None
returns-in-None g c = ap is_some (sym (job_there c.args.identity.now c.args.ledger.now.store.list c.args.flows.now.flows c.args.event.now c.flow_in.result None c.flow_in.ensures c.in-None.ensures.checkpoint))
