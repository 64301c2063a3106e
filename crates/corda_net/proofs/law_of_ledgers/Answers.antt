use Rattle.std.proofs.Common.{refl}
use Rattle.corda_net.specs.Book.{shipped_told}
use Rattle.corda_net.proofs.law_of_ledgers.Goals as goal

-- the contracts are those of Cash, time locks, facts and debts, by their numbers
pub returns : goal.returns
returns c = record {
  lawful = c.recorded_is_accepted_by_each.ensures _ _ shipped_told;
  conserved = c.recorded_cash_is_conserved.ensures _ _ shipped_told (λ tx states. refl);
  signed = c.recorded_cash_is_signed_for.ensures _ _ shipped_told (λ tx states. refl);
  facts = c.recorded_facts_were_signed_for.ensures _ _ shipped_told (λ tx states. refl);
  debts = c.recorded_debts_were_agreed.ensures _ _ shipped_told (λ tx states. refl);
  locks = c.recorded_time_locks_were_due.ensures shipped_told (λ tx states. refl);
  accounted = c.outstanding_cash_was_issued.ensures shipped_told (λ tx states. refl);
}
