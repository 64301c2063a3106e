-- A job that a turn hands out is within its limits.
use Rattle.std.proofs.Common.{◌≡◌, ℕ, List, Option, Some, None, MatchOption, Result, Ok, Err, subst, sym}
use Rattle.net_model.specs.Environment.{Environment}
use Rattle.node_core.specs.declared.faults.SharedTurn.{SharedTurn}
use Rattle.node_core.specs.declared.faults.SharedTurn.TheVariants as shared
use Rattle.node_core.specs.declared.faults.TurnFault.{TurnFault}
use Rattle.node_core.specs.declared.faults.TurnFault.TheVariants as turn_fault
use Rattle.node_core.specs.Claims.{TurnsBeside, TurnAnswersBeside}
use Rattle.node_core.specs.Seen.{NodeSeen}
use Rattle.flow_workers.specs.Steps.{IsOut}

module _ {F : Type 0} (w : Environment F) (now : ℕ) (pick : Option ℕ) (claims : List ℕ) (old new : NodeSeen) where
  up_is_out : (bodies : List (List ℕ)) (answer : Result SharedTurn TurnFault) → TurnsBeside w now pick claims bodies old answer new → IsOut answer
  up_is_out bodies (Ok shared.Idle) h = tt
  up_is_out bodies (Ok (shared.Moved f)) h = tt
  up_is_out bodies (Ok (shared.Job job)) h = h.1
  up_is_out bodies (Err why) h = tt

  pub is_out : (answer : Result SharedTurn TurnFault) → TurnAnswersBeside w now pick claims old answer new → IsOut answer
  is_out answer h = by old.journal h
    where
      by : (journal : Option (List (List ℕ))) → MatchOption journal ((answer ≡ Err turn_fault.NodeDown) × (new ≡ old)) (λ bodies. TurnsBeside w now pick claims bodies old answer new) → IsOut answer
      by None h = subst IsOut (sym h.0) tt
      by (Some bodies) h = up_is_out bodies answer h
