-- The clauses of a node's calls in the words of a history.
use Rattle.std.proofs.Common.{ℕ, List, None, Result}
use Rattle.flow_machine.specs.Machine.{Machine}
use Rattle.session_frames.specs.declared.sending.Outgoing.{Outgoing}
use Rattle.net_model.specs.Environment.{Judgement, Meaning, environment, judge_without_contracts, meaning, unjudged}
use Rattle.node_tables.specs.Journals.{Reads}
use Rattle.ledger_acts.specs.declared.job.Job.{Job}
use Rattle.node_core.specs.declared.faults.SharedTurn.{SharedTurn}
use Rattle.node_core.specs.declared.faults.TurnFault.{TurnFault}
use Rattle.node_core.specs.declared.faults.SettleFault.{SettleFault}
use Rattle.node_core.specs.declared.faults.Taken.{Taken}
use Rattle.node_core.specs.declared.faults.TakeFault.{TakeFault}
use Rattle.node_core.specs.declared.faults.UnackedFault.{UnackedFault}
use Rattle.node_core.specs.Claims.{SettleAnswers, TurnAnswersBeside}
use Rattle.node_core.specs.Seen.{NodeSeen}
use Rattle.node_core.specs.Takes.{TakeAnswers, SendAnswers}
use Rattle.node_core.proofs.Judging.{take_any}
use Rattle.network_core.specs.Answers.{IsCounted}
use Rattle.work_law.specs.Calls.{Turns, Settles, Takes, Sends}

pub turns_are : {F : Type 0} (m : Meaning F) (now : ℕ) (claims : List ℕ) (n : NodeSeen) (answer : Result SharedTurn TurnFault) (k : NodeSeen) → TurnAnswersBeside (environment m n.identity) now None claims n answer k → Turns m now claims n answer k
unfolding Turns
turns_are m now claims n answer k h = h

pub settles_are : {F : Type 0} (m : Meaning F) (now : ℕ) (job : Job) (n : NodeSeen) (answer : Result ℕ SettleFault) (k : NodeSeen) → SettleAnswers (environment m n.identity) now job n answer k → Settles m now job n answer k
unfolding Settles
settles_are m now job n answer k h = h

-- what a node answers to a frame is the same by any contracts
pub takes_are : {F : Type 0} (m : Machine F) (r : Reads F) (judge : Judgement) (now : ℕ) (bytes : List ℕ) (n : NodeSeen) (answer : Result Taken TakeFault) (k : NodeSeen) → IsCounted answer → TakeAnswers (environment (unjudged m r) n.identity) now bytes n answer k → Takes (meaning m r judge) now bytes n answer k
unfolding Takes
takes_are m r judge now bytes n answer k counted h = (take_any m r judge_without_contracts judge n.identity now bytes n answer k h, counted)

pub sends_are : {F : Type 0} (r : Reads F) (n : NodeSeen) (answer : Result (List Outgoing) UnackedFault) → SendAnswers r n answer → Sends r n answer
unfolding Sends
sends_are r n answer h = h
