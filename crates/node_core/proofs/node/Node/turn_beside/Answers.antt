use Rattle.std.proofs.Common.{◌≡◌, Ok, Err, None, true, false, refl, sym, ◌∙◌, ap, subst}
use Rattle.std.specs.Option.{option_map}
use Rattle.net_model.specs.Environment.{environment, meaning}
use Rattle.node_tables.specs.Journals.{state_of}
use Rattle.node_core.specs.declared.faults.TurnFault.TheVariants as turn_fault
use Rattle.node_core.specs.declared.faults.SharedTurn.TheVariants as shared
use Rattle.node_core.specs.declared.idle.Picked.{Picked}
use Rattle.node_core.specs.Claims.{TurnAnswersBeside, awaited_in}
use Rattle.node_core.specs.Journals.{is_full}
use Rattle.node_core.specs.States.{disk_in, journal_in, acked_in, IsWhole, seen_up}
use Rattle.node_core.specs.Seen.{NodeSeen, Tied, Faults}
use Rattle.node_core.proofs.Claims.{none_awaited, some_awaited}
use Rattle.node_core.proofs.Nodes.{fell, memory_up}
use Rattle.node_core.proofs.Turns.{commits_up, faults_up}
use Rattle.node_core.proofs.node.Node.turn_beside.Goals as goal

pub returns-in_default-pick_free-clause-turn : goal.returns-in_default-pick_free-clause-turn
returns-in_default-pick_free-clause-turn g c = λ judge.
    let id = c.self.inside.identity in
    let here : seen_up id c.in-Up.up ≡ c.args.self.now = ap (λ s. record { identity = id; disk = disk_in g.D.Disk.seen s; journal = journal_in s; acked = acked_in s }) (sym c.in-Up.is) ∙ c.self.view_is in
    subst (λ (o : NodeSeen). TurnAnswersBeside (environment (meaning g.F.FlowSet.machine g.F.Spelt.reading judge) o.identity) c.args.now.0 c.args.pick c.args.claims.now o (Ok shared.Idle) (seen_up id c.in-Up.up)) here
    (sym (c.pick_free.ensures.event judge) ∙ ap (option_map (λ (p : Picked). p.event)) c.in_default-pick_free.is, refl)

pub returns-then-is_full-clause-turn : goal.returns-then-is_full-clause-turn
returns-then-is_full-clause-turn g c = λ judge.
    let id = c.self.inside.identity in
    let here : seen_up id c.in-Up.up ≡ c.args.self.now = ap (λ s. record { identity = id; disk = disk_in g.D.Disk.seen s; journal = journal_in s; acked = acked_in s }) (sym c.in-Up.is) ∙ c.self.view_is in
    let tied : Tied id c.in-Up.up.journal c.in-Up.up.bodies = subst (IsWhole id) c.in-Up.is c.self.invariant.1 in
    let full : is_full g.F.Spelt.reading 0 c.in-Up.up.bodies ≡ true = sym (c.is_full.ensures id tied) ∙ c.if-is_full.true in
    subst (λ (o : NodeSeen). TurnAnswersBeside (environment (meaning g.F.FlowSet.machine g.F.Spelt.reading judge) o.identity) c.args.now.0 c.args.pick c.args.claims.now o (Err turn_fault.Full) (seen_up id c.in-Up.up)) here (
      c.in-Some.picked.event,
      record {
        event = sym (c.pick_free.ensures.event judge) ∙ ap (option_map (λ (p : Picked). p.event)) c.in-Some.is;
        waits = none_awaited (awaited_in id (state_of g.F.Spelt.reading c.in-Up.up.bodies) c.in-Some.picked.event) (sym c.awaits.ensures ∙ c.if-awaits.false);
      },
      full,
      refl,
    )

pub returns-in-Err-Memory-clause-turn : goal.returns-in-Err-Memory-clause-turn
returns-in-Err-Memory-clause-turn g c = λ judge.
    let id = c.self.inside.identity in
    let here : seen_up id c.in-Up.up ≡ c.args.self.now = ap (λ s. record { identity = id; disk = disk_in g.D.Disk.seen s; journal = journal_in s; acked = acked_in s }) (sym c.in-Up.is) ∙ c.self.view_is in
    let tied : Tied id c.in-Up.up.journal c.in-Up.up.bodies = subst (IsWhole id) c.in-Up.is c.self.invariant.1 in
    let room : is_full g.F.Spelt.reading 0 c.in-Up.up.bodies ≡ false = sym (c.is_full.ensures id tied) ∙ c.if-is_full.false in
    let w = environment (meaning g.F.FlowSet.machine g.F.Spelt.reading judge) id in
    let same = memory_up w id c.args.now.0 c.in-Some.picked.event None c.in-Up.up c.go_on_free.new.self c.in-Err-Memory.field-0 c.in-Err-Memory.field-0-is (c.in-Err-Memory.ensures.commits judge) in
    subst (λ (o : NodeSeen). TurnAnswersBeside (environment (meaning g.F.FlowSet.machine g.F.Spelt.reading judge) o.identity) c.args.now.0 c.args.pick c.args.claims.now o (Err turn_fault.Memory) (seen_up id c.go_on_free.new.self)) here (
      c.in-Some.picked.event,
      None,
      record {
        event = sym (c.pick_free.ensures.event judge) ∙ ap (option_map (λ (p : Picked). p.event)) c.in-Some.is;
        waits = none_awaited (awaited_in id (state_of g.F.Spelt.reading c.in-Up.up.bodies) c.in-Some.picked.event) (sym c.awaits.ensures ∙ c.if-awaits.false);
      },
      λ none. room,
      same,
    )

pub returns-in-Ok-go_on_free-clause-turn : goal.returns-in-Ok-go_on_free-clause-turn
returns-in-Ok-go_on_free-clause-turn g c = λ judge.
    let id = c.self.inside.identity in
    let here : seen_up id c.in-Up.up ≡ c.args.self.now = ap (λ s. record { identity = id; disk = disk_in g.D.Disk.seen s; journal = journal_in s; acked = acked_in s }) (sym c.in-Up.is) ∙ c.self.view_is in
    let w = environment (meaning g.F.FlowSet.machine g.F.Spelt.reading judge) id in
    subst (λ (o : NodeSeen). TurnAnswersBeside (environment (meaning g.F.FlowSet.machine g.F.Spelt.reading judge) o.identity) c.args.now.0 c.args.pick c.args.claims.now o (Ok (shared.Moved c.flow_in-flow.result)) (seen_up id c.go_on_free.new.self)) here (
      c.in-Some.picked.event,
      record {
        event = sym (c.pick_free.ensures.event judge) ∙ ap (option_map (λ (p : Picked). p.event)) c.in-Some.is;
        waits = none_awaited (awaited_in id (state_of g.F.Spelt.reading c.in-Up.up.bodies) c.in-Some.picked.event) (sym c.awaits.ensures ∙ c.if-awaits.false);
      },
      sym c.flow_in-flow.ensures,
      commits_up w id c.args.now.0 c.in-Some.picked.event None c.in-Ok-go_on_free.field-0 c.in-Up.up c.go_on_free.new.self (c.in-Ok-go_on_free.ensures.commits judge),
    )

pub returns-in-Err-Fault-clause-turn : goal.returns-in-Err-Fault-clause-turn
returns-in-Err-Fault-clause-turn g c = λ judge.
    let id = c.self.inside.identity in
    let here : seen_up id c.in-Up.up ≡ c.args.self.now = ap (λ s. record { identity = id; disk = disk_in g.D.Disk.seen s; journal = journal_in s; acked = acked_in s }) (sym c.in-Up.is) ∙ c.self.view_is in
    let w = environment (meaning g.F.FlowSet.machine g.F.Spelt.reading judge) id in
    let down = sym (fell g.D.Disk.seen id c.go_on_free.new.self c.go_down.new.state c.go_down.ensures.disk c.go_down.ensures.down) in
    let faults = faults_up w id c.args.now.0 c.in-Some.picked.event None c.in-Err-Fault.field-0 c.in-Up.up c.go_on_free.new.self c.in-Err-Fault.field-0-is (c.in-Err-Fault.ensures.commits judge) in
    subst (λ (o : NodeSeen). TurnAnswersBeside (environment (meaning g.F.FlowSet.machine g.F.Spelt.reading judge) o.identity) c.args.now.0 c.args.pick c.args.claims.now o (Err turn_fault.Fault) (record { identity = id; disk = disk_in g.D.Disk.seen c.go_down.new.state; journal = journal_in c.go_down.new.state; acked = acked_in c.go_down.new.state })) here (
      c.in-Some.picked.event,
      record {
        event = sym (c.pick_free.ensures.event judge) ∙ ap (option_map (λ (p : Picked). p.event)) c.in-Some.is;
        waits = none_awaited (awaited_in id (state_of g.F.Spelt.reading c.in-Up.up.bodies) c.in-Some.picked.event) (sym c.awaits.ensures ∙ c.if-awaits.false);
      },
      subst (λ (n : NodeSeen). Faults w c.args.now.0 c.in-Up.up.bodies c.in-Some.picked.event None (seen_up id c.in-Up.up) n) down faults,
    )

pub returns-in_default-hand_out-clause-turn : goal.returns-in_default-hand_out-clause-turn
returns-in_default-hand_out-clause-turn g c = λ judge.
    let id = c.self.inside.identity in
    let here : seen_up id c.in-Up.up ≡ c.args.self.now = ap (λ s. record { identity = id; disk = disk_in g.D.Disk.seen s; journal = journal_in s; acked = acked_in s }) (sym c.in-Up.is) ∙ c.self.view_is in
    let job = awaited_in id (state_of g.F.Spelt.reading c.in-Up.up.bodies) c.in-Some.picked.event in
    subst (λ (o : NodeSeen). TurnAnswersBeside (environment (meaning g.F.FlowSet.machine g.F.Spelt.reading judge) o.identity) c.args.now.0 c.args.pick c.args.claims.now o (Err turn_fault.Memory) (seen_up id c.in-Up.up)) here (
      c.in-Some.picked.event,
      job,
      record {
        event = sym (c.pick_free.ensures.event judge) ∙ ap (option_map (λ (p : Picked). p.event)) c.in-Some.is;
        waits = refl;
      },
      λ none. absurd (some_awaited job (sym c.awaits.ensures ∙ c.if-awaits.true) none),
      refl,
    )
