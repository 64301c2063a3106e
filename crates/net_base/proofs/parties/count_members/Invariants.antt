use Rattle.std.proofs.Common.{◌≡◌, ◌+◌, ◌-◌, ◌≤◌, length}
use Rattle.net_base.specs.Parties.{members_from}
use Rattle.net_base.proofs.parties.count_members.Given as goal

abbrev pub invariant-loop : goal.invariant-loop
invariant-loop l = record { so_far : l.count + length (members_from l.counter (16 - l.counter) l.rest) ≡ length (members_from 0 16 l.bits); few : l.count ≤ l.counter }
