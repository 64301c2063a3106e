use Rattle.std.proofs.Common.{◌≡◌, ◌<◌, ℕ, Some, map, length, slice_get}
use Rattle.waiting_frames.specs.Waiting.{WaitingSeen}
use Rattle.waiting_heads.specs.Heads.{HasRoom}
use Rattle.waiting_heads.proofs.heads.make_rooms.Given as goal

abbrev pub invariant-nodes : goal.invariant-nodes
invariant-nodes l = record {
  frames : map (λ w. w.frames) l.waiting.items ≡ map (λ w. w.frames) l.fn.waiting.items;
  count : length l.waiting.items ≡ length l.fn.waiting.items;
  room : (q : ℕ) (w : WaitingSeen) → q < l.place → slice_get l.waiting.items q ≡ Some w → HasRoom w;
}
