-- The calls of a node that workers make, and a node's history of them.
use Rattle.std.specs.Prelude.{◌≡◌, ℕ, ◌+◌, List, [], ◌∷◌, ◌++◌, None, Result, Ok, Err}
use Rattle.session_frames.specs.declared.sending.Outgoing.{Outgoing}
use Rattle.net_model.specs.Environment.{Meaning, environment}
use Rattle.node_tables.specs.Journals.{Reads}
use Rattle.ledger_acts.specs.declared.job.Job.{Job}
use Rattle.node_core.specs.declared.faults.SharedTurn.{SharedTurn}
use Rattle.node_core.specs.declared.faults.SharedTurn.TheVariants as shared
use Rattle.node_core.specs.declared.faults.TurnFault.{TurnFault}
use Rattle.node_core.specs.declared.faults.SettleFault.{SettleFault}
use Rattle.node_core.specs.declared.faults.Taken.{Taken}
use Rattle.node_core.specs.declared.faults.Taken.TheVariants as taken
use Rattle.node_core.specs.declared.faults.TakeFault.{TakeFault}
use Rattle.node_core.specs.declared.faults.UnackedFault.{UnackedFault}
use Rattle.node_core.specs.Claims.{SettleAnswers, TurnAnswersBeside}
use Rattle.node_core.specs.Seen.{NodeSeen}
use Rattle.node_core.specs.Takes.{TakeAnswers, SendAnswers}
use Rattle.network_core.specs.Answers.{IsCounted, take_sent}

-- ---- one call

-- a turn while the jobs of these flows are out, answered as its clause says
unfoldable pub Turns : {F : Type 0} → Meaning F → ℕ → List ℕ → NodeSeen → Result SharedTurn TurnFault → NodeSeen → Type 0
Turns m now claims old answer new = TurnAnswersBeside (environment m old.identity) now None claims old answer new

-- a job that came back was settled, answered as its clause says
unfoldable pub Settles : {F : Type 0} → Meaning F → ℕ → Job → NodeSeen → Result ℕ SettleFault → NodeSeen → Type 0
Settles m now job old answer new = SettleAnswers (environment m old.identity) now job old answer new

-- a frame was handed over, answered as its clause says
unfoldable pub Takes : {F : Type 0} → Meaning F → ℕ → List ℕ → NodeSeen → Result Taken TakeFault → NodeSeen → Type 0
Takes m now bytes old answer new = TakeAnswers (environment m old.identity) now bytes old answer new × IsCounted answer

-- the frames to send were asked for, answered as its clause says
unfoldable pub Sends : {F : Type 0} → Reads F → NodeSeen → Result (List Outgoing) UnackedFault → Type 0
Sends frame_at old answer = SendAnswers frame_at old answer

-- ---- how many records a call committed, by its answer

abbrev pub turn_commits : Result SharedTurn TurnFault → ℕ
turn_commits (Ok shared.Idle) = 0
turn_commits (Ok (shared.Moved flow)) = 1
turn_commits (Ok (shared.Job job)) = 0
turn_commits (Err why) = 0

abbrev pub settle_commits : Result ℕ SettleFault → ℕ
settle_commits (Ok flow) = 1
settle_commits (Err why) = 0

abbrev pub take_commits : Result Taken TakeFault → ℕ
take_commits (Ok taken.Acked) = 0
take_commits (Ok (taken.Again expected ack)) = 0
take_commits (Ok (taken.Early expected)) = 0
take_commits (Ok taken.NoSession) = 0
take_commits (Ok (taken.Took upto ack)) = 1
take_commits (Err why) = 0

-- ---- a history

-- a node went from one form to another by turns, by jobs settled, by taking these frames and by sending these frames, each call answered as its clause says; this many records were committed
pub data Went {F : Type 0} (m : Meaning F) (now : ℕ) (from : NodeSeen) : NodeSeen → List (List ℕ) → List Outgoing → ℕ → Type 0 where
  here : {n : NodeSeen} → n ≡ from → Went m now from n [] [] 0
  by_turn : {n k : NodeSeen} {took : List (List ℕ)} {sent : List Outgoing} {count : ℕ} (claims : List ℕ) (answer : Result SharedTurn TurnFault) → Went m now from n took sent count → Turns m now claims n answer k
      → Went m now from k took sent (count + turn_commits answer)
  by_settle : {n k : NodeSeen} {took : List (List ℕ)} {sent : List Outgoing} {count : ℕ} (job : Job) (answer : Result ℕ SettleFault) → Went m now from n took sent count → Settles m now job n answer k
      → Went m now from k took sent (count + settle_commits answer)
  by_take : {n k : NodeSeen} {took : List (List ℕ)} {sent : List Outgoing} {count : ℕ} (bytes : List ℕ) (answer : Result Taken TakeFault) → Went m now from n took sent count → Takes m now bytes n answer k
      → Went m now from k (took ++ bytes ∷ []) (sent ++ take_sent answer) (count + take_commits answer)
  by_send : {n : NodeSeen} {took : List (List ℕ)} {sent : List Outgoing} {count : ℕ} (frames : List Outgoing) → Went m now from n took sent count → Sends m.frame_at n (Ok frames)
      → Went m now from n took (sent ++ frames) count
