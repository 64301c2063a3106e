use Rattle.std.proofs.Common.{◌≡◌, ◌≤◌, ◌+◌, length}
use Rattle.waiting_heads.specs.Heads.{joined_all}
use Rattle.waiting_heads.proofs.heads.join_all.Given as goal

abbrev pub invariant-frames : goal.invariant-frames
invariant-frames l = record {
  can_next : goal.iterator-frames.can_next l.frame-iterator;
  is_finite : goal.iterator-frames.is_finite l.frame-iterator;
  frames : joined_all l.frame-iterator.rest.items l.waiting.frames ≡ joined_all l.fn.frames.items l.fn.waiting.frames;
  room : l.fn.waiting.room + length l.frame-iterator.rest.items ≤ l.waiting.room + length l.fn.frames.items;
}
