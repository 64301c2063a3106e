use Rattle.std.proofs.Common.{◌≡◌, ◌+◌, ◌-◌, ◌≤◌, ◌++◌, length}
use Rattle.net_base.specs.Parties.{members_from}
use Rattle.net_base.proofs.parties.put_members.Given as goal

abbrev pub invariant-loop-party : goal.invariant-loop-party
invariant-loop-party l = record { so_far : l.block ++ members_from l.party (16 - l.party) l.rest ≡ l.fn.block ++ members_from 0 16 l.bits; size : length l.block ≤ length l.fn.block + l.party }
