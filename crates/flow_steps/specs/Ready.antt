-- A step that a node is about to commit.
use Rattle.std.specs.Prelude.{◌≡◌, ℕ, ◌≤◌, List, length, Option, Some, None, IfSome, Result, Ok, Err, IsOk}
use Rattle.std.specs.List.{AllByRecursion}
use Rattle.net_base.specs.declared.values.Moment.{Moment}
use Rattle.net_base.specs.declared.values.Party.{Party}
use Rattle.net_base.specs.declared.causes.Event.TheVariants as event
use Rattle.net_base.specs.Names.{IsKey}
use Rattle.session_wire.specs.declared.body.Body.{Body}
use Rattle.session_wire.specs.Sessions.{Session}
use Rattle.session_wire.specs.Rules.{sessions_of, IsHeld}
use Rattle.flow_machine.specs.declared.flow_set.MakeFault.{MakeFault}
use Rattle.flow_machine.specs.declared.flow_set.MakeFault.TheVariants as make
use Rattle.transition_record.specs.Causes.{IsEvent, came_key_of}
use Rattle.transition_record.specs.Changes.{IsSession, session_text, IsLedger}
use Rattle.net_model.specs.Environment.{Environment}
use Rattle.net_model.specs.State.{NodeState}
use Rattle.net_model.specs.Steps.{place, effect_of}
use Rattle.session_acts.specs.Parts.{AreSound}
use Rattle.flow_records.specs.declared.step.Step.{Step}
use Rattle.flow_records.specs.Steps.{effect_by, owner_of, ends_with, IsAfter}

-- a step that a node may commit, all worked out: over its state the event has this effect, within its limits
pub record IsReady {F : Type 0} (w : Environment F) (me now : ℕ) (within : F → Type 0) (s : NodeState F) (body : Option Body) (step : Step F) : Type 0 where
  pub effect : effect_of w me s now step.cause.event body ≡ Some (effect_by step.flow step.session step.ledger)
  pub limits : IsEvent step.cause.event
  pub flow : IfSome step.flow (IsAfter within)
  pub session : IsSession (owner_of step.flow) (came_key_of step.cause.event) step.session
  pub ledger : IsLedger (owner_of step.flow) (ends_with step.flow) step.ledger
  pub short : length (session_text step.session) ≤ 50000

-- what is asked of a node's sessions
pub record AreKept (me : Party) (sessions : List Session) : Type 0 where
  pub sound : AreSound me sessions
  pub keys : AllByRecursion (λ session. IsKey session.key) sessions
  pub owned : (f : ℕ) → length (sessions_of f sessions) ≤ 64
  pub held : AllByRecursion IsHeld sessions

-- the step by which a flow begins, or why none does
abbrev pub IsBegun : {F : Type 0} → Environment F → ℕ → ℕ → Moment → (F → Type 0) → NodeState F → ℕ → List ℕ → Result (Step F) MakeFault → Type 0
IsBegun w me stamp now within s class args (Ok step) = (step.cause ≡ record { stamp = stamp; moment = now; event = event.Start (length s.flows) class args }) × IsReady w me now.0 within s None step × IsOk (w.machine.made class args (place w me (length s.flows) 0 now.0))
IsBegun w me stamp now within s class args (Err make.UnknownClass) = w.machine.made class args (place w me (length s.flows) 0 now.0) ≡ Err make.UnknownClass
IsBegun w me stamp now within s class args (Err make.BadArgs) = w.machine.made class args (place w me (length s.flows) 0 now.0) ≡ Err make.BadArgs
IsBegun w me stamp now within s class args (Err make.Memory) = Unit {0}
