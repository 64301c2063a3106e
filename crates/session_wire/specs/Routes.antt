-- The sides, the session and the direction of a frame, as they are read.
use Rattle.std.specs.Prelude.{ℕ}
use Rattle.session_wire.specs.declared.frame.Route.{Route}

-- from, to, initiator, session number and direction
abbrev pub route_parts : Route → ℕ × (ℕ × (ℕ × (ℕ × ℕ)))
route_parts r = (r.from.0, (r.to.0, (r.key.initiator.0, (r.key.number, r.direction))))
