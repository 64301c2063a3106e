use Rattle.std.proofs.Common.{◌≡◌, drop}
use Rattle.node_tables.specs.Journals.{state_of}
use Rattle.node_core.specs.Claims.{first_there}
use Rattle.node_core.proofs.up.Up.first_free.Given as goal

-- the first event of all is the first of those that are left
abbrev pub invariant-loop-number : goal.invariant-loop-number
invariant-loop-number g l = first_there l.identity (state_of g.F.Spelt.reading l.self.bodies) l.claims l.now.0 (drop l.number-index l.numbers) ≡ first_there l.identity (state_of g.F.Spelt.reading l.self.bodies) l.claims l.now.0 l.numbers
