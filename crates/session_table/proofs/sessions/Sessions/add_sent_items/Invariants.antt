use Rattle.std.proofs.Common.{◌≡◌, ◌++◌, Some, drop}
use Rattle.session_wire.specs.Sessions.{Session, session_of}
use Rattle.session_table.specs.Tables.{items_from}
use Rattle.session_table.proofs.sessions.Sessions.add_sent_items.Given as goal

abbrev pub invariant-loop-number : goal.invariant-loop-number
invariant-loop-number l = (s : Session) → session_of l.key l.self.list ≡ Some s → l.items.items ++ items_from l.self.party s l.number (drop l.number s.sent) ≡ l.initial.items.items ++ items_from l.self.party s l.from (drop l.from s.sent)
