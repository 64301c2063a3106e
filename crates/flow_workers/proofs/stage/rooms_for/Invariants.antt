use Rattle.std.proofs.Common.{◌≡◌, ◌≤◌, length}
use Rattle.std.specs.List.{AllByRecursion}
use Rattle.wire_rows.specs.Ends.{IsRoom}
use Rattle.flow_workers.proofs.stage.rooms_for.Given as goal

abbrev pub invariant-rooms : goal.invariant-rooms
invariant-rooms l = record {
  below : l.counter ≤ l.fn.count;
  count : length l.rooms.items ≡ l.counter;
  rooms : AllByRecursion IsRoom l.rooms.items;
}
