use Rattle.std.proofs.Common.{◌↔◌, ℕ}
use Rattle.session_wire.specs.Rules.{FitsSent}
use Rattle.session_table.specs.Changes.{begun_on}
use Rattle.session_table.proofs.Fitting.{FitsFrom}
use Rattle.session_table.proofs.sessions.Sessions.fits_sent.Given as goal

abbrev pub invariant-loop-k : goal.invariant-loop-k
invariant-loop-k l = (stamp : ℕ) → FitsSent l.self.party stamp (begun_on l.change l.self.list) l.change.sent ↔ FitsFrom l.self.party stamp (begun_on l.change l.self.list) l.change.sent l.k
