-- The result of a turn at a node: a record was committed, or the disk failed.
use Rattle.std.proofs.Common.{◌≡◌, ℕ, List, Option, Some, Ok, Err, refl, ◌∙◌, ap}
use Rattle.net_base.specs.declared.names.Identity.{Identity}
use Rattle.net_base.specs.declared.causes.Event.{Event}
use Rattle.session_wire.specs.Sessions.{Sent}
use Rattle.net_model.specs.Environment.{Environment}
use Rattle.node_core.specs.declared.faults.CommitFault.{CommitFault}
use Rattle.node_core.specs.declared.faults.CommitFault.TheVariants as commit_fault
use Rattle.node_core.specs.Seen.{UpSeen, CommitsAs, Commits, Faults, acks_over}
use Rattle.node_core.specs.States.{seen_up, seen_down}

-- a node that is up committed what was committed
pub commits_up : {F : Type 0} (w : Environment F) (id : Identity) (now : ℕ) (e : Event) (item : Option Sent) {T : Type 0} (t : T) (old new : UpSeen) → CommitsAs w id now e item old (Ok t) new → Commits w now old.bodies e item (seen_up id old) (seen_up id new)
commits_up w id now e item t old new c = record {
  body = c.0;
  appended = c.1;
  journal = ap (λ (b : List (List ℕ)). Some b) c.2;
  acked = c.3 ∙ ap (λ (b : List (List ℕ)). acks_over w old.acked b) c.2;
  identity = refl;
}

-- it goes down where its disk failed
pub faults_up : {F : Type 0} (w : Environment F) (id : Identity) (now : ℕ) (e : Event) (item : Option Sent) (fault : CommitFault) (old new : UpSeen) → fault ≡ commit_fault.Fault → CommitsAs w id now e item {T = Unit {0}} old (Err fault) new
    → Faults w now old.bodies e item (seen_up id old) (seen_down id new)
faults_up w id now e item commit_fault.Memory old new is c = cc
faults_up w id now e item commit_fault.Fault old new is c = record { body = c.0; failing = c.1; journal = refl; acked = refl; identity = refl }
