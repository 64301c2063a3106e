use Rattle.std.proofs.Common.{◌≡◌, ◌≤◌, ◌+◌, ◌++◌, length, drop}
use Rattle.disk_journal.specs.Journal.{bodies, extent, damage, placed}
use Rattle.disk_journal.proofs.scan.read_records.Given as goal

abbrev pub invariant-records : goal.invariant-records
invariant-records l = record {
  from : l.start ≤ l.at;
  within : l.at ≤ length l.bytes;
  fewer : l.left ≤ l.limit;
  list : placed l.start (bodies l.limit (drop l.start l.bytes)) ≡ l.list ++ placed l.at (bodies l.left (drop l.at l.bytes));
  count : length (bodies l.limit (drop l.start l.bytes)) + l.left ≡ l.limit + length (bodies l.left (drop l.at l.bytes));
  gate : l.start + extent l.limit (drop l.start l.bytes) ≡ l.at + extent l.left (drop l.at l.bytes);
  harm : damage l.limit l.start (drop l.start l.bytes) ≡ damage l.left l.at (drop l.at l.bytes);
}

abbrev pub decreases-records : goal.decreases-records
decreases-records l = l.left
