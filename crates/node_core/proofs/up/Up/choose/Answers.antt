use Rattle.std.proofs.Common.{sym, ◌∙◌, ap, subst}
use Rattle.net_model.specs.Environment.{environment, meaning}
use Rattle.net_model.specs.Sound.{AreNumbered}
use Rattle.checkpoints.specs.Tables.{live_numbers}
use Rattle.node_tables.specs.Journals.{state_of}
use Rattle.node_core.specs.Claims.{first_there, free_at}
use Rattle.node_core.specs.Seen.{UpSeen}
use Rattle.node_core.proofs.Claims.{first_live, free_picked, firsts_own, there_own}
use Rattle.node_core.proofs.up.Up.choose.Goals as goal

pub returns-in-Some-clause-event : goal.returns-in-Some-clause-event
returns-in-Some-clause-event g c = λ judge.
    let id = c.args.identity.now in
    let bodies = c.args.self.now.bodies in
    let numbered = subst (λ (u : UpSeen). AreNumbered 0 (state_of g.F.Spelt.reading u.bodies).flows) c.self.view_is c.law_kept.ensures.numbered in
    c.free_event.ensures
    ∙ free_picked g.F.FlowSet.machine g.F.Spelt.reading judge id (state_of g.F.Spelt.reading bodies) c.args.claims.now c.args.now.0 c.in-Some.number numbered
    ∙ ap (λ p. free_at (environment (meaning g.F.FlowSet.machine g.F.Spelt.reading judge) id) id c.args.now.0 p c.args.claims.now bodies) (sym c.in-Some.is)

pub returns-in-Some-clause-own : goal.returns-in-Some-clause-own
returns-in-Some-clause-own g c =
    let numbered = subst (λ (u : UpSeen). AreNumbered 0 (state_of g.F.Spelt.reading u.bodies).flows) c.self.view_is c.law_kept.ensures.numbered in
    there_own c.args.identity.now (state_of g.F.Spelt.reading c.args.self.now.bodies) c.args.claims.now c.args.now.0 c.in-Some.number c.free_event.result numbered c.free_event.ensures

pub returns-in-None-clause-event : goal.returns-in-None-clause-event
returns-in-None-clause-event g c = λ judge.
    let id = c.args.identity.now in
    let bodies = c.args.self.now.bodies in
    let s = state_of g.F.Spelt.reading bodies in
    let numbered = subst (λ (u : UpSeen). AreNumbered 0 (state_of g.F.Spelt.reading u.bodies).flows) c.self.view_is c.law_kept.ensures.numbered in
    let live = c.live.ensures ∙ ap live_numbers c.flows-flows.ensures ∙ ap (λ (u : UpSeen). live_numbers (state_of g.F.Spelt.reading u.bodies).flows) c.self.view_is in
    c.first_free.ensures
    ∙ ap (first_there id s c.args.claims.now c.args.now.0) live
    ∙ first_live g.F.FlowSet.machine g.F.Spelt.reading judge id s c.args.claims.now c.args.now.0 numbered
    ∙ ap (λ p. free_at (environment (meaning g.F.FlowSet.machine g.F.Spelt.reading judge) id) id c.args.now.0 p c.args.claims.now bodies) (sym c.in-None.is)

pub returns-in-None-clause-own : goal.returns-in-None-clause-own
returns-in-None-clause-own g c =
    let numbered = subst (λ (u : UpSeen). AreNumbered 0 (state_of g.F.Spelt.reading u.bodies).flows) c.self.view_is c.law_kept.ensures.numbered in
    firsts_own c.args.identity.now (state_of g.F.Spelt.reading c.args.self.now.bodies) c.args.claims.now c.args.now.0 c.live.result.now c.first_free.result numbered c.first_free.ensures
