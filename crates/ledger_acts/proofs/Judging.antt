-- What a flow waits for, and how it goes on.
use Rattle.std.proofs.Common.{◌≡◌, ◌⊎◌, inl, inr, ℕ, Bool, true, false, cond, not, ◌&&◌, List, ◌++◌, Option, Some, None, IfSome, option_map, refl, sym, ◌∙◌, ap, subst}
use Rattle.std.proofs.lemmas.List.{map-append}
use Rattle.net_base.specs.declared.values.Hash32.{Hash32}
use Rattle.net_base.specs.declared.names.Identity.{Identity}
use Rattle.net_base.specs.declared.names.Tag.{Tag}
use Rattle.net_base.proofs.Options.{some_eq}
use Rattle.ledger_types.specs.declared.tx.Tx.{Tx}
use Rattle.ledger_types.specs.declared.tx.SignedTx.{SignedTx}
use Rattle.ledger_types.specs.declared.tx.Resolved.{Resolved}
use Rattle.ledger_types.specs.Rules.{is_other_notary}
use Rattle.ledger_types.specs.Signatures.{tx_id}
use Rattle.ledger_types.specs.Stores.{is_stored, resolved_of}
use Rattle.ledger_types.specs.Txs.{IsTx, IsSignedTx, IsTagList}
use Rattle.tx_store.proofs.Resolving.{resolved_long}
use Rattle.flow_machine.specs.declared.acts.Act.{Act}
use Rattle.flow_machine.specs.declared.acts.Act.TheVariants as act
use Rattle.flow_machine.specs.declared.acts.Resumed.TheVariants as resumed
use Rattle.flow_machine.specs.Limits.{IsAct}
use Rattle.net_model.specs.Environment.{Environment, identity}
use Rattle.net_model.specs.State.{NodeState, nothing, with_ids}
use Rattle.net_model.specs.Steps.{Done, goes_on, performed, verifies, records, records_in}
use Rattle.net_model.proofs.Basics.{from_map}
use Rattle.net_model.proofs.Recorded.{resolved_more}
use Rattle.ledger_acts.specs.declared.job.Job.{Job}
use Rattle.ledger_acts.specs.Jobs.{job_of, tx_job, is_open, record_job, job_for, done_by, unjudged, IsJob, UnjudgedAsMeant, JobIsTheAct, JobStays, JobsAreWithin}

-- ---- what a job of recording tells

-- a transaction is open to be recorded, and resolves to the states of the job
pub record RecordJob (me : Identity) (store : List (Hash32 × SignedTx)) (flow step : ℕ) (stx : SignedTx) (j : Job) : Type 0 where
  pub states : Resolved
  pub is_new : is_stored store (tx_id stx.tx) ≡ false
  pub is_own : is_other_notary stx.tx.notary me.notary ≡ false
  pub had : resolved_of store stx.tx ≡ Some states
  pub is : job_of me.party flow step stx.tx (Some stx.tags) states ≡ j

pub record_tells : (me : Identity) (store : List (Hash32 × SignedTx)) (flow step : ℕ) (stx : SignedTx) (j : Job) → record_job me store flow step stx ≡ Some j → RecordJob me store flow step stx j
record_tells me store flow step stx j h = by (is_stored store (tx_id stx.tx)) (is_other_notary stx.tx.notary me.notary) (resolved_of store stx.tx) refl refl refl h
  where
    by : (b c : Bool) (o : Option Resolved) → is_stored store (tx_id stx.tx) ≡ b → is_other_notary stx.tx.notary me.notary ≡ c → resolved_of store stx.tx ≡ o → cond (not b && not c) (option_map (job_of me.party flow step stx.tx (Some stx.tags)) o) None ≡ Some j → RecordJob me store flow step stx j
    by true c o e f g k = cc
    by false true o e f g k = cc
    by false false None e f g k = cc
    by false false (Some states) e f g k = record { states = states; is_new = e; is_own = f; had = g; is = some_eq k }

pub record_makes : (me : Identity) (store : List (Hash32 × SignedTx)) (flow step : ℕ) (stx : SignedTx) (states : Resolved) → is_stored store (tx_id stx.tx) ≡ false → is_other_notary stx.tx.notary me.notary ≡ false → resolved_of store stx.tx ≡ Some states
    → record_job me store flow step stx ≡ Some (job_of me.party flow step stx.tx (Some stx.tags) states)
record_makes me store flow step stx states e f g = rw e (rw f (rw g refl))

-- ---- the act

verify_goes : {F : Type 0} (w : Environment F) (me flow step : ℕ) (store : List (Hash32 × SignedTx)) (tx : Tx) (j : Job) → tx_job (identity w me) store flow step tx None ≡ Some j → verifies w tx (resolved_of store tx) ≡ done_by w j
verify_goes w me flow step store tx j h = by (resolved_of store tx) h
  where
    by : (o : Option Resolved) → option_map (job_of (identity w me).party flow step tx None) o ≡ Some j → verifies w tx o ≡ done_by w j
    by None k = cc
    by (Some states) k = ap (done_by w) (some_eq k)

record_goes : {F : Type 0} (w : Environment F) (me flow step : ℕ) (s : NodeState F) (stx : SignedTx) (j : Job) → record_job (identity w me) (with_ids s.stored) flow step stx ≡ Some j → records w s stx ≡ done_by w j
record_goes w me flow step s stx j h =
    let r = record_tells (identity w me) (with_ids s.stored) flow step stx j h in
    rw r.is_new (rw r.is_own (ap (records_in w stx) r.had ∙ ap (done_by w) r.is))

pub job_is_the_act : {F : Type 0} → JobIsTheAct F
job_is_the_act {F} w me s now at j h = by at.waiting h
  where
    by : (a : Act F) → job_for (identity w me) (with_ids s.stored) at.flow at.step a ≡ Some j → performed w me s now at a ≡ Some (goes_on w me now at (done_by w j))
    by (act.Verify tx) k = ap (λ (d : Done). Some (goes_on w me now at d)) (verify_goes w me at.flow at.step (with_ids s.stored) tx j k)
    by (act.Record stx) k = ap (λ (d : Done). Some (goes_on w me now at d)) (record_goes w me at.flow at.step s stx j k)
    by (act.Open to class first) k = cc
    by (act.Send key value) k = cc
    by (act.Receive key) k = cc
    by (act.ReceiveBy key until) k = cc
    by (act.Sleep until) k = cc
    by (act.Sub frame) k = cc
    by (act.Reserve token amount) k = cc
    by (act.Lookup id) k = cc
    by (act.Missing tx) k = cc
    by (act.Sign id) k = cc
    by (act.Notarise request) k = cc
    by (act.Return value) k = cc
    by (act.Fail code) k = cc

-- ---- no job

unresolved : {F : Type 0} (w : Environment F) (me flow step : ℕ) (tx : Tx) (tags : Option (List Tag)) (o : Option Resolved) → option_map (job_of (identity w me).party flow step tx tags) o ≡ None → o ≡ None
unresolved w me flow step tx tags None k = refl
unresolved w me flow step tx tags (Some states) k = cc

verify_unjudged : {F : Type 0} (w : Environment F) (me flow step : ℕ) (store : List (Hash32 × SignedTx)) (tx : Tx) → tx_job (identity w me) store flow step tx None ≡ None → verifies w tx (resolved_of store tx) ≡ (resumed.Refused 35, nothing)
verify_unjudged w me flow step store tx h = ap (verifies w tx) (unresolved w me flow step tx None (resolved_of store tx) h)

record_unjudged : {F : Type 0} (w : Environment F) (me flow step : ℕ) (s : NodeState F) (stx : SignedTx) → record_job (identity w me) (with_ids s.stored) flow step stx ≡ None → records w s stx ≡ (unjudged (identity w me) (with_ids s.stored) stx, nothing)
record_unjudged {F} w me flow step s stx h = by (is_stored (with_ids s.stored) (tx_id stx.tx)) (is_other_notary stx.tx.notary w.notary) h
  where
    by : (b c : Bool) → cond (not b && not c) (tx_job (identity w me) (with_ids s.stored) flow step stx.tx (Some stx.tags)) None ≡ None → cond {A = Done} b (resumed.Recorded, nothing) (cond {A = Done} c (resumed.Refused 41, nothing) (records_in w stx (resolved_of (with_ids s.stored) stx.tx))) ≡ (cond b resumed.Recorded (cond c (resumed.Refused 41) (resumed.Refused 35)), nothing)
    by true c k = refl
    by false true k = refl
    by false false k = ap (records_in w stx) (unresolved w me flow step stx.tx (Some stx.tags) (resolved_of (with_ids s.stored) stx.tx) k)

pub unjudged_as_meant : {F : Type 0} → UnjudgedAsMeant F
unjudged_as_meant w me s now at = record {
  verify = λ tx h. ap (λ (d : Done). Some (goes_on w me now at d)) (verify_unjudged w me at.flow at.step (with_ids s.stored) tx h);
  record_tx = λ stx h. ap (λ (d : Done). Some (goes_on w me now at d)) (record_unjudged w me at.flow at.step s stx h);
}

-- ---- while more is recorded

module _ (me : Identity) (flow step : ℕ) (store more : List (Hash32 × SignedTx)) (j : Job) where
  -- the job of an act stays, or is none any more since its id is recorded
  abbrev Later : {F : Type 0} → Act F → Type 0
  Later a = (job_for me (store ++ more) flow step a ≡ Some j) ⊎ ((job_for me (store ++ more) flow step a ≡ None) × (is_stored (store ++ more) (tx_id j.tx) ≡ true))

  verify_stays : (F : Type 0) (tx : Tx) → tx_job me store flow step tx None ≡ Some j → Later {F = F} (act.Verify tx)
  verify_stays F tx h = by (resolved_of store tx) refl h
    where
      by : (o : Option Resolved) → resolved_of store tx ≡ o → option_map (job_of me.party flow step tx None) o ≡ Some j → Later {F = F} (act.Verify tx)
      by None e k = cc
      by (Some states) e k = inl (ap (option_map (job_of me.party flow step tx None)) (resolved_more store more tx states e) ∙ k)

  record_stays : (F : Type 0) (stx : SignedTx) → record_job me store flow step stx ≡ Some j → Later {F = F} (act.Record stx)
  record_stays F stx h = by (record_tells me store flow step stx j h) (is_stored (store ++ more) (tx_id stx.tx)) refl
    where
      by : RecordJob me store flow step stx j → (b : Bool) → is_stored (store ++ more) (tx_id stx.tx) ≡ b → Later {F = F} (act.Record stx)
      by r true e = inr ((rw e refl), subst (λ (x : Job). is_stored (store ++ more) (tx_id x.tx) ≡ true) r.is e)
      by r false e = inl (record_makes me (store ++ more) flow step stx r.states e r.is_own (resolved_more store more stx.tx r.states r.had) ∙ ap (λ (x : Job). Some x) r.is)

  act_stays : {F : Type 0} (a : Act F) → job_for me store flow step a ≡ Some j → Later a
  act_stays {F} (act.Verify tx) k = verify_stays F tx k
  act_stays {F} (act.Record stx) k = record_stays F stx k
  act_stays (act.Open to class first) k = cc
  act_stays (act.Send key value) k = cc
  act_stays (act.Receive key) k = cc
  act_stays (act.ReceiveBy key until) k = cc
  act_stays (act.Sleep until) k = cc
  act_stays (act.Sub frame) k = cc
  act_stays (act.Reserve token amount) k = cc
  act_stays (act.Lookup id) k = cc
  act_stays (act.Missing tx) k = cc
  act_stays (act.Sign id) k = cc
  act_stays (act.Notarise request) k = cc
  act_stays (act.Return value) k = cc
  act_stays (act.Fail code) k = cc

pub job_stays : {F : Type 0} → JobStays F
job_stays {F} w me s t more at j h grew =
    let list : with_ids t.stored ≡ with_ids s.stored ++ with_ids more = ap with_ids grew ∙ map-append (λ (x : SignedTx). (tx_id x.tx, x)) s.stored more in
    subst (λ (l : List (Hash32 × SignedTx)). (job_for (identity w me) l at.flow at.step at.waiting ≡ Some j) ⊎ ((job_for (identity w me) l at.flow at.step at.waiting ≡ None) × (is_stored l (tx_id j.tx) ≡ true))) (sym list) (act_stays (identity w me) at.flow at.step (with_ids s.stored) (with_ids more) j at.waiting h)

-- ---- limits

-- the job of a transaction and tags within their limits
pub tx_job_within : (me : Identity) (store : List (Hash32 × SignedTx)) (flow step : ℕ) (tx : Tx) (tags : Option (List Tag)) (j : Job) → IsTx tx → IfSome tags IsTagList → tx_job me store flow step tx tags ≡ Some j → IsJob j
tx_job_within me store flow step tx tags j within signed h =
    from_map IsJob (job_of me.party flow step tx tags) (resolved_of store tx) j h (λ states had. record { tx = within; tags = signed; states = resolved_long store tx states had })

pub record_job_within : (me : Identity) (store : List (Hash32 × SignedTx)) (flow step : ℕ) (stx : SignedTx) (j : Job) → IsSignedTx stx → record_job me store flow step stx ≡ Some j → IsJob j
record_job_within me store flow step stx j within h = by (is_open me store stx.tx) h
  where
    by : (b : Bool) → cond b (tx_job me store flow step stx.tx (Some stx.tags)) None ≡ Some j → IsJob j
    by true k = tx_job_within me store flow step stx.tx (Some stx.tags) j within.0 within.1 k
    by false k = cc

pub jobs_are_within : {F : Type 0} (within : F → Type 0) → JobsAreWithin within
jobs_are_within {F} within me store at j limits h = by at.waiting limits h
  where
    by : (a : Act F) → IsAct within a → job_for me store at.flow at.step a ≡ Some j → IsJob j
    by (act.Verify tx) w k = tx_job_within me store at.flow at.step tx None j w tt k
    by (act.Record stx) w k = record_job_within me store at.flow at.step stx j w k
    by (act.Open to class first) w k = cc
    by (act.Send key value) w k = cc
    by (act.Receive key) w k = cc
    by (act.ReceiveBy key until) w k = cc
    by (act.Sleep until) w k = cc
    by (act.Sub frame) w k = cc
    by (act.Reserve token amount) w k = cc
    by (act.Lookup id) w k = cc
    by (act.Missing tx) w k = cc
    by (act.Sign id) w k = cc
    by (act.Notarise request) w k = cc
    by (act.Return value) w k = cc
    by (act.Fail code) w k = cc
