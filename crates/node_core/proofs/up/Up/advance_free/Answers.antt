use Rattle.std.proofs.Common.{◌≡◌, None, length, sym, ◌∙◌, ap, subst}
use Rattle.std.proofs.lemmas.Result.{IfOk-weaker}
use Rattle.net_base.specs.declared.names.Identity.{Identity}
use Rattle.net_base.specs.declared.values.Party.{Party}
use Rattle.net_model.specs.Environment.{judge_without_contracts}
use Rattle.net_model.specs.Fits.{IsSound}
use Rattle.net_model.specs.Sound.{steps_of}
use Rattle.net_model.specs.State.{with_ids}
use Rattle.node_ledger.specs.Ledgered.{HoldsLedger, ledger_in}
use Rattle.flow_steps.specs.Awaiting.{job_of}
use Rattle.node_tables.specs.Journals.{state_of}
use Rattle.node_core.specs.Seen.{Tied}
use Rattle.node_core.proofs.Kept.{all_below, kept_of}
use Rattle.node_core.proofs.up.Up.advance_free.Goals as goal

pub advance-requires-clause-kept : goal.advance-requires-clause-kept
advance-requires-clause-kept g c =
    let id = c.args.identity.now in
    let s = state_of g.F.Spelt.reading c.self.inside.tables.bodies in
    let tied : Tied id c.self.inside.journal c.self.inside.tables.bodies = rw (← c.self.view_is) at c.requires.tied in
    let sound : IsSound id.party.0 s = rw (c.self.invariant.0, tied.of) at c.law_kept.ensures.sound in
    rw c.sessions-sessions.ensures.list (kept_of id.party s sound c.law_kept.ensures.keys c.law_kept.ensures.owned c.law_kept.ensures.arrived)

pub advance-requires-clause-steps : goal.advance-requires-clause-steps
advance-requires-clause-steps g c =
    rw c.flows-flows.ensures (all_below (λ flow. steps_of flow) (length c.self.inside.tables.bodies) (state_of g.F.Spelt.reading c.self.inside.tables.bodies).flows c.law_kept.ensures.few c.law_kept.ensures.steps)

pub advance-requires-clause-job : goal.advance-requires-clause-job
advance-requires-clause-job g c =
    let id = c.args.identity.now in
    let e = c.args.cause.event in
    let s = state_of g.F.Spelt.reading c.self.inside.tables.bodies in
    let list = c.ledger-ledger.result.now.store.list in
    let none : job_of id (with_ids s.stored) s.flows e ≡ None = rw (← c.self.view_is) at c.requires.job in
    ap (λ l. job_of id list l e) c.flows-flows.ensures ∙ ap (λ l. job_of id l s.flows e) c.ledger-ledger.ensures.store ∙ none

pub returns-clause-ready : goal.returns-clause-ready
returns-clause-ready g c =
    let id = c.args.identity.now in
    let s = state_of g.F.Spelt.reading c.self.inside.tables.bodies in
    let tied : Tied id c.self.inside.journal c.self.inside.tables.bodies = rw (← c.self.view_is) at c.requires.tied in
    let holds : HoldsLedger id.party (ledger_in s) c.ledger-ledger.result.now = subst (λ (p : Party). HoldsLedger p (ledger_in s) c.ledger-ledger.result.now) (c.self.invariant.0 ∙ ap (λ (i : Identity). i.party) tied.of) c.ledger-ledger.ensures in
    rw (← c.self.view_is) (IfOk-weaker c.advance.result _ _ (λ step ready judge. ready judge s (sym c.flows-flows.ensures) (sym c.sessions-sessions.ensures.list) holds) c.advance.ensures.ready)

pub returns-clause-unjudged : goal.returns-clause-unjudged
returns-clause-unjudged g c =
    let id = c.args.identity.now in
    let s = state_of g.F.Spelt.reading c.self.inside.tables.bodies in
    let tied : Tied id c.self.inside.journal c.self.inside.tables.bodies = rw (← c.self.view_is) at c.requires.tied in
    let holds : HoldsLedger id.party (ledger_in s) c.ledger-ledger.result.now = subst (λ (p : Party). HoldsLedger p (ledger_in s) c.ledger-ledger.result.now) (c.self.invariant.0 ∙ ap (λ (i : Identity). i.party) tied.of) c.ledger-ledger.ensures in
    rw (← c.self.view_is) (IfOk-weaker c.advance.result _ _ (λ step ready. ready judge_without_contracts s (sym c.flows-flows.ensures) (sym c.sessions-sessions.ensures.list) holds) c.advance.ensures.ready)
