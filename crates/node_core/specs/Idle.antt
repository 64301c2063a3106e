-- The flows that a turn need not look at.
use Rattle.net_model.specs.State.{NodeState}
use Rattle.flow_steps.specs.Idle.{IdleBelow}
use Rattle.node_core.specs.declared.idle.Idle.{Idle}

-- none of these flows can go on at their moment
abbrev pub AreIdle : {F : Type 0} → NodeState F → Idle → Type 0
AreIdle s idle = IdleBelow s.sessions idle.at.0 s.flows idle.below
