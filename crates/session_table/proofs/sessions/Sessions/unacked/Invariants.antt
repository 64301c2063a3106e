use Rattle.std.proofs.Common.{◌≡◌, ◌++◌, drop}
use Rattle.std.specs.Prelude.{flat_map}
use Rattle.session_table.specs.Tables.{unacked, unacked_at}
use Rattle.session_table.proofs.sessions.Sessions.unacked.Given as goal

abbrev pub invariant-loop-place : goal.invariant-loop-place
invariant-loop-place l = l.items.items ++ flat_map (unacked_at l.self.party l.self.list l.self.acked) (drop l.place-index l.place-items) ≡ unacked l.self.party l.self.list l.self.acked
