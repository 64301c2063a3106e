use Rattle.std.proofs.Common.{◌≡◌, drop}
use Rattle.flow_steps.specs.Going.{first_of}
use Rattle.flow_steps.proofs.picking.first_event.Given as goal

-- the first event of all is the first of those that are left
abbrev pub invariant-loop-number : goal.invariant-loop-number
invariant-loop-number g l = first_of l.sessions.list l.now.0 l.flows.flows (drop l.number-index l.numbers) ≡ first_of l.sessions.list l.now.0 l.flows.flows l.numbers
