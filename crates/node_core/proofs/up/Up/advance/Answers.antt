use Rattle.std.proofs.Common.{◌≡◌, ℕ, Option, Some, length, sym, ◌∙◌, ap, subst}
use Rattle.std.proofs.lemmas.Result.{IfOk-weaker}
use Rattle.net_base.specs.declared.names.Identity.{Identity}
use Rattle.net_base.specs.declared.values.Party.{Party}
use Rattle.net_base.specs.declared.causes.Event.TheVariants as event
use Rattle.net_model.specs.Enabled.{picked}
use Rattle.net_model.specs.Fits.{IsSound}
use Rattle.net_model.specs.Sound.{steps_of}
use Rattle.net_model.specs.State.{with_ids}
use Rattle.node_ledger.specs.Ledgered.{HoldsLedger, ledger_in}
use Rattle.ledger_acts.specs.declared.job.Job.{Job}
use Rattle.flow_steps.specs.Awaiting.{job_of}
use Rattle.flow_steps.proofs.Jobs.{job_moves}
use Rattle.node_tables.specs.Journals.{state_of}
use Rattle.node_core.specs.Seen.{Tied}
use Rattle.node_core.proofs.Kept.{all_below, kept_of}
use Rattle.node_core.proofs.up.Up.advance.Goals as goal

pub advance-requires-clause-kept : goal.advance-requires-clause-kept
advance-requires-clause-kept g c =
    let id = c.args.identity.now in
    let s = state_of g.F.Spelt.reading c.self.inside.tables.bodies in
    let tied : Tied id c.self.inside.journal c.self.inside.tables.bodies = rw (← c.self.view_is) at c.requires.tied in
    let sound : IsSound id.party.0 s = rw (c.self.invariant.0, tied.of) at c.law_kept.ensures.sound in
    rw c.sessions-sessions.ensures.list (kept_of id.party s sound c.law_kept.ensures.keys c.law_kept.ensures.owned c.law_kept.ensures.arrived)

pub advance-requires-clause-steps : goal.advance-requires-clause-steps
advance-requires-clause-steps g c =
    rw c.flows-flows.ensures (all_below (λ flow. steps_of flow) (length c.self.inside.tables.bodies) (state_of g.F.Spelt.reading c.self.inside.tables.bodies).flows c.law_kept.ensures.few c.law_kept.ensures.steps)

pub settle-requires-clause-steps : goal.settle-requires-clause-steps
settle-requires-clause-steps g c =
    rw c.flows-flows.ensures (all_below (λ flow. steps_of flow) (length c.self.inside.tables.bodies) (state_of g.F.Spelt.reading c.self.inside.tables.bodies).flows c.law_kept.ensures.few c.law_kept.ensures.steps)

pub settle-requires-clause-moves : goal.settle-requires-clause-moves
settle-requires-clause-moves g c =
    let id = c.args.identity.now in
    let e = c.args.cause.event in
    let s = state_of g.F.Spelt.reading c.self.inside.tables.bodies in
    let list = c.ledger-ledger.result.now.store.list in
    let p : (pick : Option ℕ) × (picked s.sessions c.args.cause.moment.0 pick s.flows ≡ Some e) = rw (← c.self.view_is) at c.requires.picked in
    let job : job_of id list s.flows e ≡ Some c.in-Ok-Some.job = ap (λ l. job_of id list l e) (sym c.flows-flows.ensures) ∙ sym c.in-Ok-Some.ensures.job ∙ c.in-Ok-Some.field-0-is in
    job_moves id list s.sessions c.args.cause.moment.0 p.0 s.flows e c.in-Ok-Some.job c.law_kept.ensures.numbered p.1 job ∙ ap (λ (j : Job). event.Move j.flow) (sym c.run.ensures.job)

pub settle-requires-clause-waits : goal.settle-requires-clause-waits
settle-requires-clause-waits g c = (c.ledger-ledger.result.now.store.list, sym c.in-Ok-Some.ensures.job ∙ c.in-Ok-Some.field-0-is ∙ ap (λ (j : Job). Some j) (sym c.run.ensures.job))

pub returns-in-Ok-Some-clause-ready : goal.returns-in-Ok-Some-clause-ready
returns-in-Ok-Some-clause-ready g c =
    let id = c.args.identity.now in
    let e = c.args.cause.event in
    let s = state_of g.F.Spelt.reading c.self.inside.tables.bodies in
    let list = c.ledger-ledger.result.now.store.list in
    let job : job_of id (with_ids s.stored) s.flows e ≡ Some c.run.result.job =
    ap (λ l. job_of id l s.flows e) (sym c.ledger-ledger.ensures.store) ∙ ap (λ l. job_of id list l e) (sym c.flows-flows.ensures) ∙ sym c.in-Ok-Some.ensures.job ∙ c.in-Ok-Some.field-0-is ∙ ap (λ (j : Job). Some j) (sym c.run.ensures.job) in
    rw (← c.self.view_is) (IfOk-weaker c.settle.result _ _ (λ step ready. ready (g.J.Judge.judges c.args.contracts.now) c.run.ensures.run s (sym c.flows-flows.ensures) job) c.settle.ensures.ready)

pub returns-in-Ok-None-clause-ready : goal.returns-in-Ok-None-clause-ready
returns-in-Ok-None-clause-ready g c =
    let id = c.args.identity.now in
    let s = state_of g.F.Spelt.reading c.self.inside.tables.bodies in
    let tied : Tied id c.self.inside.journal c.self.inside.tables.bodies = rw (← c.self.view_is) at c.requires.tied in
    let holds : HoldsLedger id.party (ledger_in s) c.ledger-ledger.result.now = subst (λ (p : Party). HoldsLedger p (ledger_in s) c.ledger-ledger.result.now) (c.self.invariant.0 ∙ ap (λ (i : Identity). i.party) tied.of) c.ledger-ledger.ensures in
    rw (← c.self.view_is) (IfOk-weaker c.advance.result _ _ (λ step ready. ready (g.J.Judge.judges c.args.contracts.now) s (sym c.flows-flows.ensures) (sym c.sessions-sessions.ensures.list) holds) c.advance.ensures.ready)
