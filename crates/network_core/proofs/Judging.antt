-- What a network does with a start or a frame asks no contract.
use Rattle.std.proofs.Common.{inl, inr, ℕ, Bool, List, Option, Result}
use Rattle.flow_machine.specs.Machine.{Machine}
use Rattle.net_model.specs.Environment.{Judgement, judge_without_contracts, meaning, unjudged}
use Rattle.node_tables.specs.Journals.{Reads}
use Rattle.node_core.specs.Seen.{NodeSeen}
use Rattle.node_core.proofs.Judging.{start_any, take_any}
use Rattle.network_core.specs.declared.steps.Outcome.{Outcome}
use Rattle.network_core.specs.Answers.{said, AtPlace, StartServes, Handed, Handing, HandServes}
use Rattle.network_core.specs.Worlds.{NetSeen}

module _ {F : Type 0} (m : Machine F) (r : Reads F) (judge : Judgement) where
  -- a start at a place is the same by any contracts
  pub start_serves_any : {E : Type 0} (place now class : ℕ) (args : List ℕ) (old new : NetSeen) (result : Result Outcome E) → AtPlace place old result new (λ n a k. StartServes (unjudged m r) now class args n a k)
      → AtPlace place old result new (λ n a k. StartServes (meaning m r judge) now class args n a k)
  start_serves_any place now class args old new result (inl none) = inl none
  start_serves_any place now class args old new result (inr (n, k, at, nodes, waiting, (answer, answers, so))) = inr (n, k, at, nodes, waiting, (answer, start_any m r judge_without_contracts judge n.identity now class args n answer k answers, so))

  handed_any : (repeated : Bool) (place at : ℕ) (n : NodeSeen) (frames : List (List ℕ)) (old : NetSeen) (o : Option Outcome) (new : NetSeen) → Handed (unjudged m r) repeated place at n frames old o new → Handed (meaning m r judge) repeated place at n frames old o new
  handed_any repeated place at n frames old o new h = record {
    bytes = h.bytes;
    there = h.there;
    answer = h.answer;
    node = h.node;
    takes = take_any m r judge_without_contracts judge n.identity old.now h.bytes n h.answer h.node h.takes;
    counted = h.counted;
    outcome_is = h.outcome_is;
    nodes = h.nodes;
    waiting = h.waiting;
    now = h.now;
  }

  handing_any : (repeated : Bool) (place at : ℕ) (n : NodeSeen) (frames : List (List ℕ)) (old : NetSeen) (o : Option Outcome) (new : NetSeen) → Handing (unjudged m r) repeated place at n frames old o new → Handing (meaning m r judge) repeated place at n frames old o new
  handing_any repeated place at n frames old o new (inl down) = inl down
  handing_any repeated place at n frames old o new (inr (up, inl none)) = inr (up, inl none)
  handing_any repeated place at n frames old o new (inr (up, inr h)) = inr (up, inr (handed_any repeated place at n frames old o new h))

  -- a delivery or a repetition is the same by any contracts
  pub hand_serves_any : {E : Type 0} (repeated : Bool) (place at : ℕ) (old new : NetSeen) (result : Result Outcome E) → HandServes (unjudged m r) repeated place at old result new → HandServes (meaning m r judge) repeated place at old result new
  hand_serves_any repeated place at old new result (inl none) = inl none
  hand_serves_any repeated place at old new result (inr (n, frames, there, waits, handing)) = inr (n, frames, there, waits, handing_any repeated place at n frames old (said result) new handing)
