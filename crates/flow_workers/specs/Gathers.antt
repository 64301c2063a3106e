-- What comes out of the locks, put together.
use Rattle.std.specs.Prelude.{◌≡◌, ℕ, ◌+◌, List, [], length, map, slice_get, Some}
use Rattle.wire_queue.specs.declared.rule.Seen.{Seen}
use Rattle.wire_queue.specs.Wire.{Frame, IsIn}
use Rattle.net_model.specs.Environment.{Meaning}
use Rattle.node_core.specs.Seen.{NodeSeen}
use Rattle.work_law.specs.Works.{Log, Source, DidEach, added}

-- the nodes that have come out of their locks so far, and the passes of all inboxes that were joined, with this many shares each
pub record Gathered {F : Type 0} (m : Meaning F) (now : ℕ) (came : List NodeSeen) (waited : List (List Frame)) (nodes : List NodeSeen) (own : List Seen) (parts commits : ℕ) : Type 0 where
  pub logs : List Log
  pub logged : length logs ≡ length nodes
  pub each : DidEach m now came nodes logs
  pub pulled : (p : ℕ) (log : Log) (s : Seen) → slice_get logs p ≡ Some log → slice_get own p ≡ Some s → (x : Frame) → IsIn x log.took → IsIn x s.pulled
  pub posted : (q : ℕ) (s : Seen) → slice_get own q ≡ Some s → (x : Frame) → IsIn x s.origins → Source waited logs q x
  pub shares : (q : ℕ) (s : Seen) → slice_get own q ≡ Some s → s.shares ≡ parts
  pub committed : commits ≡ added (map (λ (log : Log). log.count) logs)

-- from passes of which nothing was joined they are these, once these nodes are out
unfoldable pub Gathers : {F : Type 0} → Meaning F → ℕ → List NodeSeen → List Seen → List NodeSeen → List Seen → ℕ → Type 0
Gathers m now came own nodes new commits = (waited : List (List Frame)) (parts : ℕ) → Gathered m now came waited [] own parts 0 → Gathered m now came waited nodes new (parts + length nodes) commits
