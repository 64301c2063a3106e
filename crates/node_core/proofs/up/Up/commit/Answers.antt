use Rattle.std.proofs.Common.{◌≤◌, Option, Err, sym, ◌∙◌, ap, subst}
use Rattle.net_base.specs.declared.names.Identity.{Identity}
use Rattle.session_wire.specs.Sessions.{Sent}
use Rattle.net_model.specs.Environment.{Judgement, environment, meaning}
use Rattle.net_model.specs.Steps.{stamp_in}
use Rattle.net_model.specs.Fits.{IsSound}
use Rattle.node_tables.specs.Journals.{state_of}
use Rattle.node_core.specs.Seen.{Tied, UpSeen, MayCommit, CommitsAs}
use Rattle.node_core.proofs.Commits.{journal_room, step_fits, committed, committed_by, committed_idle, not_committed}
use Rattle.node_core.proofs.up.Up.commit.Goals as goal

pub log-requires-clause-tied : goal.log-requires-clause-tied
log-requires-clause-tied g c =
    let tied : Tied c.args.identity.now c.self.inside.journal c.self.inside.tables.bodies = rw (← c.self.view_is) at c.requires.tied in
    subst (λ id. Tied id c.self.inside.journal c.self.inside.tables.bodies) (sym tied.of) tied

pub log-requires-clause-room : goal.log-requires-clause-room
log-requires-clause-room g c =
    let id = c.args.identity.now in
    let f = g.F.Spelt.reading in
    let bodies = c.self.inside.tables.bodies in
    let tied : Tied id c.self.inside.journal bodies = rw (← c.self.view_is) at c.requires.tied in
    let r : (judge : Judgement) × (item : Option Sent) × MayCommit (environment (meaning g.F.FlowSet.machine f judge) id) id c.args.now.0 g.F.Spelt.within bodies item c.args.step = rw (← c.self.view_is) at c.requires.ready in
    let w = environment (meaning g.F.FlowSet.machine f r.0) id in
    journal_room f id (stamp_in r.1) c.self.inside.journal bodies tied r.2.room

pub add-requires-clause-fits : goal.add-requires-clause-fits
add-requires-clause-fits g c =
    let id = c.args.identity.now in
    let f = g.F.Spelt.reading in
    let bodies = c.self.inside.tables.bodies in
    let tied : Tied id c.self.inside.journal bodies = rw (← c.self.view_is) at c.requires.tied in
    let by : (state_of f bodies).moment ≤ c.args.now.0 = rw (← c.self.view_is) at c.requires.by in
    let r : (judge : Judgement) × (item : Option Sent) × MayCommit (environment (meaning g.F.FlowSet.machine f judge) id) id c.args.now.0 g.F.Spelt.within bodies item c.args.step = rw (← c.self.view_is) at c.requires.ready in
    let w = environment (meaning g.F.FlowSet.machine f r.0) id in
    let sound : IsSound id.party.0 (state_of f bodies) = rw (c.self.invariant.0, tied.of) at c.law_kept.ensures.sound in
    rw (c.log.ensures.bodies, c.log.ensures.nodes, c.log.ensures.notary, c.log.ensures.party, c.self.invariant.0, c.self.invariant.1, c.self.invariant.3, tied.of) (step_fits w id c.args.now.0 g.F.Spelt.within bodies r.1 c.args.step r.2 by sound)

pub invariant_of-self : goal.invariant_of-self
invariant_of-self g c =
    let id = c.args.identity.now in
    let f = g.F.Spelt.reading in
    let bodies = c.self.inside.tables.bodies in
    let tied : Tied id c.self.inside.journal bodies = rw (← c.self.view_is) at c.requires.tied in
    let by : (state_of f bodies).moment ≤ c.args.now.0 = rw (← c.self.view_is) at c.requires.by in
    let r : (judge : Judgement) × (item : Option Sent) × MayCommit (environment (meaning g.F.FlowSet.machine f judge) id) id c.args.now.0 g.F.Spelt.within bodies item c.args.step = rw (← c.self.view_is) at c.requires.ready in
    let w = environment (meaning g.F.FlowSet.machine f r.0) id in
    let sound : IsSound id.party.0 (state_of f bodies) = rw (c.self.invariant.0, tied.of) at c.law_kept.ensures.sound in
    let idle = committed_idle w id c.args.now.0 g.F.Spelt.within bodies r.1 c.args.step r.2 by c.self.inside.journal c.log.new.journal c.add.new.self.bodies c.self.inside.tables.acked c.add.new.self.acked tied.of sound c.self.inside.idle.at.0 c.self.inside.idle.below c.self.invariant.2 c.in-Ok.body c.in-Ok.ensures.logs (rw c.log.ensures.bodies at c.add.ensures.bodies) in (
      c.add.ensures.party ∙ c.log.ensures.party ∙ c.self.invariant.0 ∙ ap (λ (i : Identity). i.party) (sym c.log.ensures.of),
      c.add.ensures.nodes ∙ c.log.ensures.nodes ∙ c.self.invariant.1 ∙ ap (λ (i : Identity). i.nodes) (sym c.log.ensures.of),
      rw (c.after-idle.ensures.at, c.after-idle.ensures.below) idle,
      c.add.ensures.notary ∙ c.log.ensures.notary ∙ c.self.invariant.3 ∙ ap (λ (i : Identity). i.notary) (sym c.log.ensures.of),
    )

pub returns-in-Ok-clause-commits : goal.returns-in-Ok-clause-commits
returns-in-Ok-clause-commits g c = λ judge item may.
    let id = c.args.identity.now in
    let f = g.F.Spelt.reading in
    let w = environment (meaning g.F.FlowSet.machine f judge) id in
    let bodies = c.self.inside.tables.bodies in
    let tied : Tied id c.self.inside.journal bodies = rw (← c.self.view_is) at c.requires.tied in
    let by : (state_of f bodies).moment ≤ c.args.now.0 = rw (← c.self.view_is) at c.requires.by in
    let is : MayCommit w id c.args.now.0 g.F.Spelt.within bodies item c.args.step = rw (← c.self.view_is) at may in
    rw (← c.self.view_is) (committed w id c.args.now.0 g.F.Spelt.within bodies item c.args.step is by c.self.inside.journal c.log.new.journal c.add.new.self.bodies c.self.inside.tables.acked c.add.new.self.acked tied.of c.in-Ok.body c.in-Ok.ensures.logs (rw c.log.ensures.bodies at c.add.ensures.bodies) (rw c.log.ensures.acked at c.add.ensures.acked))

pub returns-in-Ok-clause-by : goal.returns-in-Ok-clause-by
returns-in-Ok-clause-by g c =
    let id = c.args.identity.now in
    let f = g.F.Spelt.reading in
    let bodies = c.self.inside.tables.bodies in
    let tied : Tied id c.self.inside.journal bodies = rw (← c.self.view_is) at c.requires.tied in
    let by : (state_of f bodies).moment ≤ c.args.now.0 = rw (← c.self.view_is) at c.requires.by in
    let r : (judge : Judgement) × (item : Option Sent) × MayCommit (environment (meaning g.F.FlowSet.machine f judge) id) id c.args.now.0 g.F.Spelt.within bodies item c.args.step = rw (← c.self.view_is) at c.requires.ready in
    let w = environment (meaning g.F.FlowSet.machine f r.0) id in
    committed_by w id c.args.now.0 g.F.Spelt.within bodies r.1 c.args.step r.2 by c.self.inside.journal c.log.new.journal c.add.new.self.bodies c.self.inside.tables.acked c.add.new.self.acked tied.of c.in-Ok.body c.in-Ok.ensures.logs (rw c.log.ensures.bodies at c.add.ensures.bodies)

pub returns-in-Err-clause-commits : goal.returns-in-Err-clause-commits
returns-in-Err-clause-commits g c = λ judge item may.
    let id = c.args.identity.now in
    let f = g.F.Spelt.reading in
    let w = environment (meaning g.F.FlowSet.machine f judge) id in
    let bodies = c.self.inside.tables.bodies in
    let tied : Tied id c.self.inside.journal bodies = rw (← c.self.view_is) at c.requires.tied in
    let by : (state_of f bodies).moment ≤ c.args.now.0 = rw (← c.self.view_is) at c.requires.by in
    let is : MayCommit w id c.args.now.0 g.F.Spelt.within bodies item c.args.step = rw (← c.self.view_is) at may in
    subst (λ (u : UpSeen). CommitsAs w id c.args.now.0 c.args.step.cause.event item {T = Unit {0}} u (Err c.in-Err.fault) (record { journal = c.log.new.journal; bodies = c.log.new.tables.bodies; acked = c.log.new.tables.acked })) c.self.view_is
    (not_committed w id c.args.now.0 g.F.Spelt.within bodies item c.args.step is by c.self.inside.journal c.log.new.journal c.log.new.tables.bodies c.self.inside.tables.acked c.log.new.tables.acked tied.of c.in-Err.fault c.log.ensures.bodies c.log.ensures.acked c.in-Err.ensures.logs)
