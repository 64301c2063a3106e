use Rattle.std.proofs.Common.{◌≡◌, ◌≤◌, ◌+◌, ◌^◌, length, true, nat_lt}
use Rattle.std.specs.List.{list_all}
use Rattle.session_wire.specs.Sessions.{sent_on}
use Rattle.session_wire.specs.Rules.{FitsSent}
use Rattle.session_table.proofs.sessions.Sessions.send.Given as goal

abbrev pub invariant-loop-item : goal.invariant-loop-item
invariant-loop-item l = record {
  party : l.self.party ≡ l.initial.self.party;
  fits : FitsSent l.self.party l.stamp l.self.list l.item-iterator.rest.items;
  list : sent_on l.stamp l.item-iterator.rest.items l.self.list ≡ sent_on l.stamp l.fn.items l.initial.self.list;
  acked : l.self.acked ≡ l.initial.self.acked;
  enough : length l.item-iterator.rest.items ≤ l.self.room;
  room : l.initial.self.room + length l.item-iterator.rest.items ≤ l.self.room + length l.fn.items;
  few : list_all (λ i. nat_lt (i.seq + 1) (2 ^ 32)) l.item-iterator.rest.items ≡ true;
}
