-- What a call of `work` leaves.
use Rattle.std.specs.Prelude.{◌≡◌, ℕ, ◌≤◌, Bool, true, List, ◌++◌, length, drop, slice_get, Some}
use Rattle.wire_queue.specs.Wire.{Frame}
use Rattle.net_model.specs.Environment.{Meaning}
use Rattle.node_core.specs.Seen.{NodeSeen}
use Rattle.network_core.specs.Worlds.{NetSeen}
use Rattle.network_core.specs.Parts.{IsNet}
use Rattle.work_law.specs.Lasting.{Lasts}
use Rattle.work_law.specs.Works.{Works, KeepsCoherent, added}

-- each node went on, over any disk, and they committed this many records together
pub record NodesLast (commits : ℕ) (old new : List NodeSeen) : Type 0 where
  pub count : length new ≡ length old
  pub counts : List ℕ
  pub counted : length counts ≡ length old
  pub each : (p n : ℕ) (x z : NodeSeen) → slice_get counts p ≡ Some n → slice_get old p ≡ Some x → slice_get new p ≡ Some z → Lasts n x z
  pub sum : commits ≡ added counts

-- what waited at each node beyond the first 1,024 frames stands last there, behind 1,024 at most
pub record KeepsTails (old new : List (List Frame)) : Type 0 where
  pub count : length new ≡ length old
  pub each : (q : ℕ) (w v : List Frame) → slice_get old q ≡ Some w → slice_get new q ≡ Some v → (front : List Frame) × (v ≡ front ++ drop 1024 w) × (length front ≤ 1024)

-- the nodes of a network were worked on side by side
pub record WorkedOn {F : Type 0} (m : Meaning F) (old new : NetSeen) (commits : ℕ) (is_short : Bool) : Type 0 where
  -- each node went on by calls that are answered as their clauses say, and each frame that one took, or that waits now, had waited there or was sent there
  pub works : Works m old.now old.nodes old.waiting new.nodes new.waiting commits
  -- from each coherent world that they showed they go to a coherent world that they show
  pub leads : KeepsCoherent m old.now old.nodes old.waiting new.nodes new.waiting commits
  -- what is said of their journals and disks whatever the disks are
  pub lasts : NodesLast commits old.nodes new.nodes
  pub tails : KeepsTails old.waiting new.waiting
  pub now : new.now ≡ old.now
  -- the parts are those of a network
  pub whole : IsNet m.frame_at new
  -- where memory ran out before any turn nothing has changed
  pub unchanged : is_short ≡ true → (new ≡ old) × (commits ≡ 0)
