use Rattle.std.proofs.Common.{◌≡◌, ◌≤◌, drop}
use Rattle.waiting_heads.proofs.heads.drop_head.Given as goal

abbrev pub invariant-frames : goal.invariant-frames
invariant-frames l = record {
  below : l.counter ≤ 1024;
  frames : l.waiting.frames ≡ drop l.counter l.fn.waiting.frames;
  room : l.fn.waiting.room ≤ l.waiting.room;
}
