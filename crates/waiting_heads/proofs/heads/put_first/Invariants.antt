use Rattle.std.proofs.Common.{◌≡◌, ◌≤◌, ◌+◌, length}
use Rattle.waiting_heads.specs.Heads.{joined_all, turned_by}
use Rattle.waiting_heads.proofs.heads.put_first.Given as goal

abbrev pub invariant-turns : goal.invariant-turns
invariant-turns l = record {
  below : l.counter ≤ length l.fn.waiting.frames;
  frames : l.waiting.frames ≡ turned_by l.counter (joined_all l.fn.frames.items l.fn.waiting.frames);
  room : length l.fn.waiting.frames ≤ l.waiting.room + l.counter;
}
