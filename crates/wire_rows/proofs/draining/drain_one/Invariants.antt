use Rattle.std.proofs.Common.{◌≡◌, ◌≤◌, ◌<◌, length, map, slice_get, Some, vec_capacity}
use Rattle.wire_queue.specs.declared.rule.Seen.{Seen}
use Rattle.wire_queue.specs.Wire.{FromOrigins}
use Rattle.wire_rows.specs.Exchanges.{changed, pulled_all}
use Rattle.wire_rows.proofs.draining.drain_one.Given as goal

abbrev pub invariant-pulls : goal.invariant-pulls
invariant-pulls g l = record {
  of : map (λ p. p.of) l.own.items ≡ l.fn.inboxes;
  below : l.counter ≤ 1024;
  count : length l.left.items ≡ l.counter;
  room : 1024 ≤ vec_capacity l.left;
  pulled : map (λ p. p.seen) l.own.items ≡ changed (map (λ p. p.seen) l.fn.own.items) l.fn.at (λ s. pulled_all s l.left.items);
  whole : 0 < l.counter → (s : Seen) → slice_get (map (λ p. p.seen) l.own.items) l.fn.at ≡ Some s → FromOrigins s;
}
