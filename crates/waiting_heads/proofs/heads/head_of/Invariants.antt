use Rattle.std.proofs.Common.{◌≡◌, ◌≤◌, length, take, min}
use Rattle.waiting_heads.proofs.heads.head_of.Given as goal

abbrev pub invariant-frames : goal.invariant-frames
invariant-frames l = record {
  below : l.at ≤ min (length l.fn.waiting.frames) 1024;
  front : l.head ≡ take l.at l.fn.waiting.frames;
}
