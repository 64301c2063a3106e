-- The job that the flow of an event waits for.
use Rattle.std.proofs.Common.{◌≡◌, ℕ, List, Option, Some, None, option_and_then, slice_get, refl, sym, ◌∙◌, ap}
use Rattle.net_base.specs.declared.values.Hash32.{Hash32}
use Rattle.net_base.specs.declared.names.Identity.{Identity}
use Rattle.net_base.specs.declared.names.Tag.{Tag}
use Rattle.net_base.specs.declared.causes.Event.{Event}
use Rattle.net_base.specs.declared.causes.Event.TheVariants as event
use Rattle.net_base.proofs.Lists.{all_get}
use Rattle.net_base.proofs.Options.{some_eq}
use Rattle.std.specs.List.{AllByRecursion}
use Rattle.ledger_types.specs.declared.tx.SignedTx.{SignedTx}
use Rattle.ledger_types.specs.declared.tx.Tx.{Tx}
use Rattle.ledger_types.specs.Stores.{resolved_of}
use Rattle.session_wire.specs.Sessions.{Session}
use Rattle.flow_machine.specs.declared.acts.Act.{Act}
use Rattle.flow_machine.specs.declared.acts.Act.TheVariants as act
use Rattle.flow_machine.specs.declared.flows.Checkpoint.{Checkpoint}
use Rattle.flow_machine.specs.declared.flows.FlowState.{FlowState}
use Rattle.flow_machine.specs.declared.flows.FlowState.TheVariants.{Live, Ended, Failed}
use Rattle.flow_machine.specs.Checkpoints.{IsCheckpoint}
use Rattle.net_model.specs.Enabled.{enabling, picked}
use Rattle.net_model.specs.Steps.{checkpoint_of}
use Rattle.net_model.specs.Sound.{AreNumbered}
use Rattle.net_model.proofs.Basics.{from_map, from_cond}
use Rattle.flow_records.specs.Records.{IsFlow}
use Rattle.ledger_acts.specs.declared.job.Job.{Job}
use Rattle.ledger_acts.specs.Jobs.{job_of as job_with, tx_job, is_open, record_job, job_for, awaited}
use Rattle.flow_steps.specs.Going.{flow_in}
use Rattle.flow_steps.specs.Awaiting.{job_of}
use Rattle.flow_steps.proofs.Picks.{goes}

-- a checkpoint that was looked up is that of the live flow there
pub live_there : {F : Type 0} (o : Option (FlowState F)) (at : Checkpoint F) → Some at ≡ option_and_then checkpoint_of o → o ≡ Some (Live at)
live_there None at is = cc
live_there (Some (Live x)) at is = ap (λ (c : Checkpoint _). Some (Live c)) (sym (some_eq is))
live_there (Some (Ended step class value)) at is = cc
live_there (Some (Failed step class code)) at is = cc

-- it is within its limits, where all flows are
pub live_within : {F : Type 0} (within : F → Type 0) (flows : List (FlowState F)) (n : ℕ) (at : Checkpoint F) → AllByRecursion (IsFlow within) flows → Some at ≡ option_and_then checkpoint_of (slice_get flows n) → IsCheckpoint within at
live_within within flows n at limits found = all_get (IsFlow within) flows n (Live at) limits (live_there (slice_get flows n) at found)

module _ {F : Type 0} (me : Identity) (store : List (Hash32 × SignedTx)) (flows : List (FlowState F)) (e : Event) where
  -- the flow of an event waits for what the flow there waits for
  pub job_there : (n : ℕ) (o : Option (Checkpoint F)) → n ≡ flow_in e → o ≡ option_and_then checkpoint_of (slice_get flows n) → job_of me store flows e ≡ option_and_then (awaited me store) o
  job_there n o is found = ap (λ (k : ℕ). option_and_then (awaited me store) (option_and_then checkpoint_of (slice_get flows k))) (sym is) ∙ ap (option_and_then (awaited me store)) (sym found)

-- ---- the event of a flow that waits for a job

tx_flow : (me : Identity) (store : List (Hash32 × SignedTx)) (flow step : ℕ) (tx : Tx) (tags : Option (List Tag)) (j : Job) → tx_job me store flow step tx tags ≡ Some j → flow ≡ j.flow
tx_flow me store flow step tx tags j h = from_map (λ (x : Job). flow ≡ x.flow) (job_with me.party flow step tx tags) (resolved_of store tx) j h (λ states had. refl)

record_flow : (me : Identity) (store : List (Hash32 × SignedTx)) (flow step : ℕ) (stx : SignedTx) (j : Job) → record_job me store flow step stx ≡ Some j → flow ≡ j.flow
record_flow me store flow step stx j h = from_cond (flow ≡ j.flow) (is_open me store stx.tx) (tx_job me store flow step stx.tx (Some stx.tags)) j h (λ held k. tx_flow me store flow step stx.tx (Some stx.tags) j k)

act_moves : {F : Type 0} (me : Identity) (store : List (Hash32 × SignedTx)) (sessions : List Session) (now flow step : ℕ) (a : Act F) (e : Event) (j : Job) → enabling sessions flow now a ≡ Some e → job_for me store flow step a ≡ Some j → e ≡ event.Move j.flow
act_moves me store sessions now flow step (act.Verify tx) e j h k = sym (some_eq h) ∙ ap event.Move (tx_flow me store flow step tx None j k)
act_moves me store sessions now flow step (act.Record stx) e j h k = sym (some_eq h) ∙ ap event.Move (record_flow me store flow step stx j k)
act_moves me store sessions now flow step (act.Open to class first) e j h k = cc
act_moves me store sessions now flow step (act.Send key value) e j h k = cc
act_moves me store sessions now flow step (act.Receive key) e j h k = cc
act_moves me store sessions now flow step (act.ReceiveBy key until) e j h k = cc
act_moves me store sessions now flow step (act.Sleep until) e j h k = cc
act_moves me store sessions now flow step (act.Sub frame) e j h k = cc
act_moves me store sessions now flow step (act.Reserve token amount) e j h k = cc
act_moves me store sessions now flow step (act.Lookup id) e j h k = cc
act_moves me store sessions now flow step (act.Missing tx) e j h k = cc
act_moves me store sessions now flow step (act.Sign id) e j h k = cc
act_moves me store sessions now flow step (act.Notarise request) e j h k = cc
act_moves me store sessions now flow step (act.Return value) e j h k = cc
act_moves me store sessions now flow step (act.Fail code) e j h k = cc

-- a picked event whose flow waits for a job moves that flow
pub job_moves : {F : Type 0} (me : Identity) (store : List (Hash32 × SignedTx)) (sessions : List Session) (now : ℕ) (pick : Option ℕ) (flows : List (FlowState F)) (e : Event) (j : Job) → AreNumbered 0 flows → picked sessions now pick flows ≡ Some e → job_of me store flows e ≡ Some j → e ≡ event.Move j.flow
job_moves me store sessions now pick flows e j numbered h waits =
    let go = goes sessions now pick flows e numbered h in
    let found : Some go.at ≡ option_and_then checkpoint_of (slice_get flows go.at.flow) = sym (ap (option_and_then checkpoint_of) go.there) in
    act_moves me store sessions now go.at.flow go.at.step go.at.waiting e j go.by (sym (job_there me store flows e go.at.flow (Some go.at) (sym go.own.flow) found) ∙ waits)
