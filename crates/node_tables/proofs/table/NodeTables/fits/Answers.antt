use Rattle.std.proofs.Common.{◌↔◌, Bool, ◌&&◌, IsTrue, true, refl, sym, ap, ◌∙◌}
use Rattle.session_table.specs.Changes.{IsFitting}
use Rattle.node_ledger.specs.Ledgered.{ledger_in}
use Rattle.node_tables.specs.Journals.{state_of, state_with}
use Rattle.flow_records.specs.Steps.{whole_part}
use Rattle.node_tables.specs.Fits.{fits_ledger}
use Rattle.node_tables.proofs.Deciding.{fits_is, not_in_order, not_by_event, not_opened}
use Rattle.node_tables.proofs.table.NodeTables.fits.Goals as goal

-- that all five tests hold, where the first three do
abbrev all_of : Bool → Bool → Bool
all_of d k = true && (true && (true && (d && k)))

pub returns-then-fits : goal.returns-then-fits
returns-then-fits g c =
    let s = c.self.inside in
    let t = c.args.step.now in
    let led = ledger_in (state_of g.F.Spelt.reading s.bodies) in
    let fitting : IsTrue c.fits.result ↔ IsFitting s.party t.cause.stamp s.sessions.list t.session = rw c.self.invariant.0 at (c.fits.ensures t.cause.stamp) in
    let k = c.fits_ledger.result in
    let ledger = rw (← c.self.view_is) at c.fits_ledger.ensures in
    let whole = fits_is s.notary s.nodes s.party g.F.Spelt.reading g.F.Spelt.within s.bodies s.causes.items led s.flows.flows s.sessions.list s.stamp s.moment.0 t c.self.invariant.1 c.requires true true true c.fits.result k (sym c.if-rises.true ∙ c.rises.ensures) (sym c.if-fits_event.true ∙ (rw (← c.self.view_is) at c.fits_event.ensures)) (sym c.if-may_open.true ∙ (rw (← c.self.view_is) at c.may_open.ensures)) fitting ledger in
    rw (← c.self.view_is) (sym (ap (λ d. all_of d k) c.if-fits.true) ∙ whole)

pub returns-else-fits : goal.returns-else-fits
returns-else-fits g c =
    let s = c.self.inside in
    let t = c.args.step.now in
    let led = ledger_in (state_of g.F.Spelt.reading s.bodies) in
    let fitting : IsTrue c.fits.result ↔ IsFitting s.party t.cause.stamp s.sessions.list t.session = rw c.self.invariant.0 at (c.fits.ensures t.cause.stamp) in
    let k = fits_ledger s.notary s.party (state_with led s.flows.flows s.sessions.list s.stamp s.moment.0) (whole_part t.session t.ledger) in
    let whole = fits_is s.notary s.nodes s.party g.F.Spelt.reading g.F.Spelt.within s.bodies s.causes.items led s.flows.flows s.sessions.list s.stamp s.moment.0 t c.self.invariant.1 c.requires true true true c.fits.result k (sym c.if-rises.true ∙ c.rises.ensures) (sym c.if-fits_event.true ∙ (rw (← c.self.view_is) at c.fits_event.ensures)) (sym c.if-may_open.true ∙ (rw (← c.self.view_is) at c.may_open.ensures)) fitting refl in
    rw (← c.self.view_is) (c.if-fits.false ∙ sym (ap (λ d. all_of d k) c.if-fits.false) ∙ whole)

pub returns-else-may_open : goal.returns-else-may_open
returns-else-may_open g c =
    let s = c.self.inside in
    let t = c.args.step.now in
    rw (← c.self.view_is) (c.if-may_open.false ∙ not_opened s.notary s.nodes s.party g.F.Spelt.reading g.F.Spelt.within s.bodies s.causes.items (ledger_in (state_of g.F.Spelt.reading s.bodies)) s.flows.flows s.sessions.list s.stamp s.moment.0 t c.self.invariant.1 c.requires (sym c.if-may_open.false ∙ (rw (← c.self.view_is) at c.may_open.ensures)))

pub returns-else-fits_event : goal.returns-else-fits_event
returns-else-fits_event g c =
    let s = c.self.inside in
    let t = c.args.step.now in
    rw (← c.self.view_is) (c.if-fits_event.false ∙ not_by_event s.notary s.nodes s.party g.F.Spelt.reading g.F.Spelt.within s.bodies s.causes.items (ledger_in (state_of g.F.Spelt.reading s.bodies)) s.flows.flows s.sessions.list s.stamp s.moment.0 t c.self.invariant.1 c.requires (sym c.if-fits_event.false ∙ (rw (← c.self.view_is) at c.fits_event.ensures)))

pub returns-else-rises : goal.returns-else-rises
returns-else-rises g c =
    let s = c.self.inside in
    let t = c.args.step.now in
    rw (← c.self.view_is) (c.if-rises.false ∙ not_in_order s.notary s.nodes s.party g.F.Spelt.reading g.F.Spelt.within s.bodies s.causes.items (ledger_in (state_of g.F.Spelt.reading s.bodies)) s.flows.flows s.sessions.list s.stamp s.moment.0 t c.self.invariant.1 c.requires (sym c.if-rises.false ∙ c.rises.ensures))
