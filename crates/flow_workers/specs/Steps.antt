-- What a turn at a node is for a worker.
use Rattle.std.specs.Prelude.{ℕ, ⊤, Result, Ok, Err}
use Rattle.ledger_acts.specs.Jobs.{IsJob}
use Rattle.node_core.specs.declared.faults.SharedTurn.{SharedTurn}
use Rattle.node_core.specs.declared.faults.SharedTurn.TheVariants as shared
use Rattle.node_core.specs.declared.faults.TurnFault.{TurnFault}
use Rattle.flow_workers.specs.declared.counts.Turn.{Turn}
use Rattle.flow_workers.specs.declared.counts.Turn.TheVariants as turn

-- how a turn that is answered so ended: nothing, a record, or a job that is to be run
abbrev pub turn_of : Result SharedTurn TurnFault → Turn
turn_of (Ok shared.Idle) = turn.Still
turn_of (Ok (shared.Moved flow)) = turn.Committed
turn_of (Ok (shared.Job job)) = turn.Waits job
turn_of (Err why) = turn.Still

-- a job that is handed out is within its limits
abbrev pub IsOut : Result SharedTurn TurnFault → Type 0
IsOut (Ok (shared.Job job)) = IsJob job
IsOut _ = ⊤

-- and so is one that a worker is given
abbrev pub HandsOut : Turn → Type 0
HandsOut (turn.Waits job) = IsJob job
HandsOut _ = ⊤

-- how many records it committed
abbrev pub committed : Turn → ℕ
committed turn.Still = 0
committed turn.Committed = 1
committed (turn.Waits job) = 0
