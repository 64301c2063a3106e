use Rattle.std.proofs.Common.{◌≡◌, Some, drop}
use Rattle.session_wire.specs.Sessions.{Session, session_of, first_item}
use Rattle.session_table.proofs.sessions.Sessions.untaken.Given as goal

abbrev pub invariant-loop-number : goal.invariant-loop-number
invariant-loop-number l = (s : Session) → session_of l.key l.self.list ≡ Some s → first_item s.taken (drop s.taken s.came) ≡ first_item l.number (drop l.number s.came)
