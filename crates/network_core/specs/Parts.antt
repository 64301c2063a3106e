-- The parts of a network.
use Rattle.std.specs.Prelude.{◌≡◌, ℕ, ◌≤◌, List, length, map}
use Rattle.std.specs.List.{AllByRecursion}
use Rattle.waiting_frames.specs.Waiting.{WaitingSeen}
use Rattle.node_tables.specs.Journals.{Reads}
use Rattle.node_core.specs.Seen.{NodeSeen, IsBy}
use Rattle.network_core.specs.Worlds.{NetSeen}

-- the network that has these nodes, these lists of waiting frames, and this moment
abbrev pub net_of : List NodeSeen → List WaitingSeen → ℕ → NetSeen
net_of nodes waiting now = record { nodes = nodes; waiting = map (λ w. w.frames) waiting; now = now }

-- no cause of a node that is up is later than the moment, there are 16 nodes at most, and each has a list of waiting frames
pub record IsNet {F : Type 0} (frame_at : Reads F) (net : NetSeen) : Type 0 where
  pub by : AllByRecursion (λ n. IsBy frame_at n.journal net.now) net.nodes
  pub few : length net.nodes ≤ 16
  pub each : length net.waiting ≡ length net.nodes
