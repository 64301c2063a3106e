use Rattle.std.proofs.Common.{sym, subst}
use Rattle.ledger_acts.specs.Jobs.{IsJob}
use Rattle.flow_workers.proofs.turns.go_on.Goals as goal

pub run-done-requires-clause-limits : goal.run-done-requires-clause-limits
run-done-requires-clause-limits g c = (subst IsJob (sym c.into_inner-job.ensures) (rw c.in-Waits.is at c.turn_if_free-turn.ensures)).tx

pub run-done-requires-clause-states : goal.run-done-requires-clause-states
run-done-requires-clause-states g c = (subst IsJob (sym c.into_inner-job.ensures) (rw c.in-Waits.is at c.turn_if_free-turn.ensures)).states

pub settle-requires : goal.settle-requires
settle-requires g c = rw (sym c.contracts.ensures) c.run-done.ensures.run
