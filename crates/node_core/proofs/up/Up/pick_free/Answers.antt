use Rattle.std.proofs.Common.{sym, ◌∙◌, subst}
use Rattle.net_model.specs.Environment.{environment, meaning}
use Rattle.net_model.specs.Sound.{AreNumbered}
use Rattle.node_tables.specs.Journals.{state_of}
use Rattle.node_core.specs.Seen.{UpSeen}
use Rattle.node_core.proofs.Claims.{free_unclaimed, none_out, own_picked}
use Rattle.node_core.proofs.up.Up.pick_free.Goals as goal

pub returns-then-is_empty-clause-event : goal.returns-then-is_empty-clause-event
returns-then-is_empty-clause-event g c = λ judge.
    let id = c.args.identity.now in
    let none = none_out c.args.claims.now (sym c.is_empty.ensures ∙ c.if-is_empty.true) in
    c.pick.ensures.event id ∙ sym (free_unclaimed (environment (meaning g.F.FlowSet.machine g.F.Spelt.reading judge) id) id.party.0 (state_of g.F.Spelt.reading c.args.self.now.bodies) c.args.now.0 c.args.pick c.args.claims.now none)

pub returns-then-is_empty-clause-own : goal.returns-then-is_empty-clause-own
returns-then-is_empty-clause-own g c =
    let s = state_of g.F.Spelt.reading c.args.self.now.bodies in
    let numbered = subst (λ (u : UpSeen). AreNumbered 0 (state_of g.F.Spelt.reading u.bodies).flows) c.self.view_is c.law_kept.ensures.numbered in
    own_picked s.sessions c.args.now.0 c.args.pick s.flows c.pick.result numbered (c.pick.ensures.event c.args.identity.now)
