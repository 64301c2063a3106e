use Rattle.std.proofs.Common.{◌≡◌, ◌≤◌, [], length, vec_capacity}
use Rattle.std.specs.List.{AllByRecursion}
use Rattle.network_core.proofs.mail.no_frames.Given as goal

abbrev pub invariant-nodes : goal.invariant-nodes
invariant-nodes l = record {
  count : length l.waiting.items ≡ l.counter;
  none : AllByRecursion (λ w. w.frames ≡ []) l.waiting.items;
  room : l.fn.count ≤ vec_capacity l.waiting;
}
