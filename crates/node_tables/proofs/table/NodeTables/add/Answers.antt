use Rattle.std.proofs.Common.{◌∙◌, sym, subst}
use Rattle.flow_records.specs.Steps.{part_after}
use Rattle.node_tables.proofs.Ledgered.{may_is, is_by}
use Rattle.node_ledger.specs.Ledgered.{LedgerState, ledger_in, HoldsLedger}
use Rattle.node_tables.specs.Journals.{state_of}
use Rattle.node_tables.proofs.Runs.{kept_next, ledger_next, ledger_fits, own_of, acked_add, change_fits_here, few_came, few_sent, place_there}
use Rattle.node_tables.proofs.Acked.{acks_length}
use Rattle.node_tables.proofs.table.NodeTables.add.Goals as goal

pub apply-requires-clause-fits : goal.apply-requires-clause-fits
apply-requires-clause-fits g c =
    let s = c.self.inside in
    rw c.self.invariant.0 (change_fits_here s.notary s.nodes s.party g.F.Spelt.reading g.F.Spelt.within s.bodies s.causes.items (ledger_in (state_of g.F.Spelt.reading s.bodies)) s.flows.flows s.sessions.list s.stamp s.moment.0 c.args.step c.self.invariant.1 (rw (← c.self.view_is) at c.requires.fits) c.requires.limits)

pub apply-requires-clause-few_came : goal.apply-requires-clause-few_came
apply-requires-clause-few_came g c =
    let s = c.self.inside in
    few_came s.notary s.nodes s.party g.F.Spelt.reading g.F.Spelt.within s.bodies s.causes.items (ledger_in (state_of g.F.Spelt.reading s.bodies)) s.flows.flows s.sessions.list s.stamp s.moment.0 c.args.step c.self.invariant.1 (rw (← c.self.view_is) at c.requires.fits) c.requires.limits

pub apply-requires-clause-few_sent : goal.apply-requires-clause-few_sent
apply-requires-clause-few_sent g c =
    let s = c.self.inside in
    few_sent s.notary s.nodes s.party g.F.Spelt.reading g.F.Spelt.within s.bodies s.causes.items (ledger_in (state_of g.F.Spelt.reading s.bodies)) s.flows.flows s.sessions.list s.stamp s.moment.0 c.args.step c.self.invariant.1 (rw (← c.self.view_is) at c.requires.fits) c.requires.limits

pub set_flow-requires-clause-place : goal.set_flow-requires-clause-place
set_flow-requires-clause-place g c =
    let s = c.self.inside in
    place_there s.notary s.nodes s.party g.F.Spelt.reading g.F.Spelt.within s.bodies s.causes.items (ledger_in (state_of g.F.Spelt.reading s.bodies)) s.flows.flows s.sessions.list s.stamp s.moment.0 c.args.step c.self.invariant.1 (rw (← c.self.view_is) at c.requires.fits) c.requires.limits

pub add_change-requires-clause-fits : goal.add_change-requires-clause-fits
add_change-requires-clause-fits g c =
    let s = c.self.inside in
    let t = c.args.step in
    may_is s.notary s.party (state_of g.F.Spelt.reading s.bodies) s.ledger t.session t.ledger c.self.invariant.4
    ∙ ledger_fits s.notary s.nodes s.party g.F.Spelt.reading g.F.Spelt.within s.bodies s.causes.items (ledger_in (state_of g.F.Spelt.reading s.bodies)) s.flows.flows s.sessions.list s.stamp s.moment.0 t c.self.invariant.1 (rw (← c.self.view_is) at c.requires.fits) c.requires.limits

pub invariant_of-self : goal.invariant_of-self
invariant_of-self g c =
    let s = c.self.inside in
    let t = c.args.step in
    let few = rw (← c.self.view_is) at c.requires.few in
    let fits = rw (← c.self.view_is) at c.requires.fits in
    let led = ledger_in (state_of g.F.Spelt.reading s.bodies) in
    let holds = c.add_change.ensures.holds (part_after t.flow) s.party led (is_by t.flow t.ledger (own_of g.F.Spelt.within t.flow c.requires.limits.1) c.requires.limits.3) c.self.invariant.4 in
    let next = ledger_next s.notary s.nodes s.party g.F.Spelt.reading g.F.Spelt.within s.bodies s.causes.items led s.flows.flows s.sessions.list s.stamp s.moment.0 t c.self.invariant.1 fits c.requires.limits c.args.body few c.requires.reads in
    (c.apply.ensures.party ∙ c.self.invariant.0, rw (c.add-2.ensures, c.add.ensures, c.set_flow.ensures, c.apply.ensures.list) (kept_next s.notary s.nodes s.party g.F.Spelt.reading g.F.Spelt.within s.bodies s.causes.items led s.flows.flows s.sessions.list s.stamp s.moment.0 t c.self.invariant.1 fits c.requires.limits c.args.body few c.requires.reads), c.self.invariant.2, rw (c.apply.ensures.acked, c.apply.ensures.list) (acks_length c.args.step.cause.stamp c.args.step.session s.sessions.acked s.sessions.list c.self.invariant.3), rw c.add-2.ensures (subst (λ (x : LedgerState). HoldsLedger s.party x c.add_change.new.ledger) (sym next) holds))

pub returns-clause-acked : goal.returns-clause-acked
returns-clause-acked g c =
    let s = c.self.inside in
    c.apply.ensures.acked ∙ (rw (← c.self.view_is) (rw c.add-2.ensures (acked_add s.notary s.nodes s.party g.F.Spelt.reading g.F.Spelt.within s.bodies s.causes.items (ledger_in (state_of g.F.Spelt.reading s.bodies)) s.flows.flows s.sessions.list s.stamp s.moment.0 c.args.step c.self.invariant.1 (rw (← c.self.view_is) at c.requires.fits) c.requires.limits c.args.body (rw (← c.self.view_is) at c.requires.few) c.requires.reads s.sessions.acked c.self.invariant.3)))
