-- The jobs for which flows wait: a transaction that is to be judged, and, where it is to be recorded, whose tags are to be checked.
use Rattle.std.specs.Prelude.{◌≡◌, ◌⊎◌, ◌&&◌, not, ℕ, Bool, true, List, [], ◌∷◌, ◌++◌, Option, Some, None, IfSome, option_map, if◌then◌else◌}
use Rattle.net_base.specs.declared.values.Hash32.{Hash32}
use Rattle.net_base.specs.declared.values.Party.{Party}
use Rattle.net_base.specs.declared.names.Tag.{Tag}
use Rattle.net_base.specs.declared.names.Identity.{Identity}
use Rattle.net_base.specs.Parties.{members}
use Rattle.ledger_types.specs.declared.tx.Tx.{Tx}
use Rattle.ledger_types.specs.declared.tx.SignedTx.{SignedTx}
use Rattle.ledger_types.specs.declared.tx.Resolved.{Resolved}
use Rattle.ledger_types.specs.declared.verdict.Verdict.{Verdict}
use Rattle.ledger_types.specs.declared.verdict.Verdict.TheVariants as verdict
use Rattle.ledger_types.specs.Rules.{is_other_notary}
use Rattle.ledger_types.specs.Signatures.{tx_id, missing_signers}
use Rattle.ledger_types.specs.Stores.{is_stored, resolved_of}
use Rattle.ledger_types.specs.Txs.{IsTx, IsTagList}
use Rattle.tx_store.specs.Stored.{HasEach}
use Rattle.flow_machine.specs.declared.acts.Act.{Act}
use Rattle.flow_machine.specs.declared.acts.Act.TheVariants as act
use Rattle.flow_machine.specs.declared.acts.Resumed.{Resumed}
use Rattle.flow_machine.specs.declared.acts.Resumed.TheVariants as resumed
use Rattle.flow_machine.specs.declared.flows.Checkpoint.{Checkpoint}
use Rattle.flow_machine.specs.Limits.{IsAct}
use Rattle.net_model.specs.Environment.{Environment, identity}
use Rattle.net_model.specs.State.{NodeState, nothing, with_ids}
use Rattle.net_model.specs.Steps.{Done, goes_on, performed, records_by}
use Rattle.ledger_acts.specs.declared.job.Job.{Job}
use Rattle.ledger_acts.specs.declared.job.Done.{Done as DoneJob}

-- ---- which job a flow waits for

-- the job of a flow at a step: a transaction with the states that it names, and its tags where it is to be recorded
abbrev pub job_of : Party → ℕ → ℕ → Tx → Option (List Tag) → Resolved → Job
job_of me flow step tx tags states = record { node = me; flow = flow; step = step; tx = tx; tags = tags; resolved = states }

-- the job of judging a transaction, and of recording it where there are tags: none where a state that it names can't be had
abbrev pub tx_job : Identity → List (Hash32 × SignedTx) → ℕ → ℕ → Tx → Option (List Tag) → Option Job
tx_job me store flow step tx tags = option_map (job_of me.party flow step tx tags) (resolved_of store tx)

-- whether a transaction is open to be recorded: its id is new, and it names no other notary
abbrev pub is_open : Identity → List (Hash32 × SignedTx) → Tx → Bool
is_open me store tx = not (is_stored store (tx_id tx)) && not (is_other_notary tx.notary me.notary)

-- the job of recording a transaction: none where it isn't open, or a state that it names can't be had
abbrev pub record_job : Identity → List (Hash32 × SignedTx) → ℕ → ℕ → SignedTx → Option Job
record_job me store flow step stx = if is_open me store stx.tx then tx_job me store flow step stx.tx (Some stx.tags) else None

-- the job that an act of a flow at a step waits for, over the recorded transactions; none where it waits for none
abbrev pub job_for : {F : Type 0} → Identity → List (Hash32 × SignedTx) → ℕ → ℕ → Act F → Option Job
job_for me store flow step (act.Verify tx) = tx_job me store flow step tx None
job_for me store flow step (act.Record stx) = record_job me store flow step stx
job_for me store flow step _ = None

-- the job that a live flow waits for, over the recorded transactions
abbrev pub awaited : {F : Type 0} → Identity → List (Hash32 × SignedTx) → Checkpoint F → Option Job
awaited me store at = job_for me store at.flow at.step at.waiting

-- the job that a live flow of a node waits for
abbrev pub job_at : {F : Type 0} → Environment F → ℕ → NodeState F → Checkpoint F → Option Job
job_at w me s at = awaited (identity w me) (with_ids s.stored) at

-- a job is within its limits: its transaction and tags are, and it has a state for each of the transaction's inputs and references
pub record IsJob (j : Job) : Type 0 where
  pub tx : IsTx j.tx
  pub tags : IfSome j.tags IsTagList
  pub states : HasEach j.tx j.resolved

-- what the frame is resumed with whose transaction is not recorded by a job: its id is recorded already, it names another notary, or a state that it names can't be had
abbrev pub unjudged : Identity → List (Hash32 × SignedTx) → SignedTx → Resumed
unjudged me store stx =
    if is_stored store (tx_id stx.tx) then resumed.Recorded
    else if is_other_notary stx.tx.notary me.notary then resumed.Refused 41
    else resumed.Refused 35

-- ---- the result of a job that was run

-- what is done for a flow, by the verdict on its job's transaction
abbrev pub judged : {F : Type 0} → Environment F → Tx → Option (List Tag) → Verdict → Done
judged w tx None v = (resumed.Verdict v, nothing)
judged w tx (Some tags) v = records_by w (record { tx = tx; tags = tags }) v

-- what is done for a flow once its job was run
abbrev pub done_by : {F : Type 0} → Environment F → Job → Done
done_by w j = judged w j.tx j.tags (w.judge j.tx j.resolved)

-- who has to sign the transaction of a job and has not; nobody where no tags are asked for
abbrev pub missing_in : (Party → Hash32 → Hash32) → Tx → Option (List Tag) → List ℕ
missing_in mark tx None = []
missing_in mark tx (Some tags) = missing_signers mark (record { tx = tx; tags = tags })

-- a job was run: the verdict is that on its transaction, and the missing tags are those that are
pub record IsRun (judge : Tx → Resolved → Verdict) (mark : Party → Hash32 → Hash32) (d : DoneJob) : Type 0 where
  pub verdict : d.verdict ≡ judge d.job.tx d.job.resolved
  pub missing : members d.missing ≡ missing_in mark d.job.tx d.job.tags

-- the code by which a transaction is not recorded, by the verdict and who has not signed; none where it is
abbrev pub refusal_of : Verdict → List ℕ → Option ℕ
refusal_of verdict.Accepted [] = None
refusal_of verdict.Accepted (p ∷ ps) = Some 34
refusal_of (verdict.Broken rule) missing = Some 31
refusal_of (verdict.Refused contract clause) missing = Some 32
refusal_of (verdict.NoContract id) missing = Some 33

-- what is done for a flow that records, by that code
abbrev pub recorded_by : SignedTx → Option ℕ → Done
recorded_by stx None = (resumed.Recorded, record nothing { recorded = Some stx })
recorded_by stx (Some code) = (resumed.Refused code, nothing)

-- what is done for a flow, by a verdict and who has not signed
abbrev pub concluded : Tx → Option (List Tag) → Verdict → List ℕ → Done
concluded tx None v missing = (resumed.Verdict v, nothing)
concluded tx (Some tags) v missing = recorded_by (record { tx = tx; tags = tags }) (refusal_of v missing)

-- the result of a job that was run
abbrev pub conclusion : DoneJob → Done
conclusion d = concluded d.job.tx d.job.tags d.verdict (members d.missing)

-- ---- laws

-- how a live flow of a node goes on by an act that waits for no job here: one that judges, and one that records
pub record GoesUnjudged {F : Type 0} (w : Environment F) (me : ℕ) (s : NodeState F) (now : ℕ) (at : Checkpoint F) : Type 0 where
  pub verify : (tx : Tx) → job_for {F = F} (identity w me) (with_ids s.stored) at.flow at.step (act.Verify tx) ≡ None → performed w me s now at (act.Verify tx) ≡ Some (goes_on w me now at (resumed.Refused 35, nothing))
  pub record_tx : (stx : SignedTx) → job_for {F = F} (identity w me) (with_ids s.stored) at.flow at.step (act.Record stx) ≡ None → performed w me s now at (act.Record stx) ≡ Some (goes_on w me now at (unjudged (identity w me) (with_ids s.stored) stx, nothing))

-- where an act that judges or records waits for no job, the flow goes on by a refusal, or since the id is recorded already
abbrev pub UnjudgedAsMeant : (F : Type 0) → Type 0
UnjudgedAsMeant F = (w : Environment F) (me : ℕ) (s : NodeState F) (now : ℕ) (at : Checkpoint F) → GoesUnjudged w me s now at

-- a flow that waits for a job goes on by what is done once it was run, at whichever moment
abbrev pub JobIsTheAct : (F : Type 0) → Type 0
JobIsTheAct F = (w : Environment F) (me : ℕ) (s : NodeState F) (now : ℕ) (at : Checkpoint F) (j : Job) → job_at w me s at ≡ Some j → performed w me s now at at.waiting ≡ Some (goes_on w me now at (done_by w j))

-- the result of a job that was run is what its act is meant to do
abbrev pub ConcludesAsMeant : (F : Type 0) → Type 0
ConcludesAsMeant F = (w : Environment F) (d : DoneJob) → IsRun w.judge w.mark d → conclusion d ≡ done_by w d.job

-- a flow that waits for a job which was run goes on by its result, whatever the node did meanwhile
abbrev pub SettlesAsMeant : (F : Type 0) → Type 0
SettlesAsMeant F = (w : Environment F) (me : ℕ) (s : NodeState F) (now : ℕ) (at : Checkpoint F) (d : DoneJob) → IsRun w.judge w.mark d → job_at w me s at ≡ Some d.job → performed w me s now at at.waiting ≡ Some (goes_on w me now at (conclusion d))

-- While more is recorded a job stays the one that its flow waits for; but a flow that waits to record a transaction whose id was recorded meanwhile waits for none
abbrev pub JobStays : (F : Type 0) → Type 0
JobStays F = (w : Environment F) (me : ℕ) (s t : NodeState F) (more : List SignedTx) (at : Checkpoint F) (j : Job) → job_at w me s at ≡ Some j → t.stored ≡ s.stored ++ more
    → (job_at w me t at ≡ Some j) ⊎ ((job_at w me t at ≡ None) × (is_stored (with_ids t.stored) (tx_id j.tx) ≡ true))

-- the job of an act within its limits, where frames have these, is within its own
abbrev pub JobsAreWithin : {F : Type 0} → (F → Type 0) → Type 0
JobsAreWithin {F} within = (me : Identity) (store : List (Hash32 × SignedTx)) (at : Checkpoint F) (j : Job) → IsAct within at.waiting → awaited me store at ≡ Some j → IsJob j
