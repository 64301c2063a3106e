-- What a node did in a call of `work`, as the type behind its lock keeps it.
use Rattle.std.specs.Prelude.{◌≡◌, ℕ, List, slice_get, Some}
use Rattle.wire_queue.specs.declared.rule.Seen.{Seen}
use Rattle.wire_queue.specs.Wire.{Frame, IsIn}
use Rattle.wire_rows.specs.Exchanges.{SentTo}
use Rattle.net_model.specs.Environment.{Meaning}
use Rattle.node_core.specs.Seen.{NodeSeen, IsBy}
use Rattle.work_law.specs.Calls.{Went}
use Rattle.work_law.specs.Works.{Log}

-- what contracts see of a value behind a node's lock: the node's place, the node, what its passes of all inboxes have seen, and how many records it committed
pub record DeskSeen : Type 0 where
  pub place : ℕ
  pub node : NodeSeen
  pub seen : List Seen
  pub commits : ℕ

-- the node at a place went on from what it came as, by calls that are answered as their clauses say; what it took and sent is what its passes pulled and posted, and it committed this many records
pub record WorkedAt {F : Type 0} (m : Meaning F) (now : ℕ) (came : List NodeSeen) (p : ℕ) (node : NodeSeen) (seen : List Seen) (commits : ℕ) : Type 0 where
  pub from : NodeSeen
  pub came_at : slice_get came p ≡ Some from
  pub log : Log
  pub went : Went m now from node log.took log.sent log.count
  pub counted : commits ≡ log.count
  -- each frame that it took was pulled by its pass of its own inbox
  pub pulled : (s : Seen) → slice_get seen p ≡ Some s → (x : Frame) → IsIn x log.took → IsIn x s.pulled
  -- each frame that one of its passes posted, and had not pulled, was sent there
  pub posted : (q : ℕ) (s : Seen) → slice_get seen q ≡ Some s → (x : Frame) → IsIn x s.origins → SentTo q x log.sent
  pub one_share : (q : ℕ) (s : Seen) → slice_get seen q ≡ Some s → s.shares ≡ 1

-- and no cause of its journal is later than the moment of the call
abbrev pub Kept : {F : Type 0} → Meaning F → ℕ → List NodeSeen → ℕ → NodeSeen → List Seen → ℕ → Type 0
Kept m now came p node seen commits = IsBy m.frame_at node.journal now × WorkedAt m now came p node seen commits
