-- What holds of the transactions that nodes record.
use Rattle.net_model.specs.Environment.{Meaning}
use Rattle.ledger_laws.specs.Places.{Made}
use Rattle.contract_laws.specs.Everywhere.{Everywhere}
use Rattle.contract_laws.specs.Lawful.{Contracts, AreLawful}
use Rattle.contract_laws.specs.Values.{KeepsAllValue}
use Rattle.contract_laws.specs.Authority.{AreSignedFor}
use Rattle.contract_laws.specs.Locks.{LocksWereDue}
use Rattle.contract_laws.specs.Deals.{KeepsAllFacts, KeepsAllDebts}
use Rattle.contract_laws.specs.Supply.{AreAccounted}

-- in every coherent world, at every moment of a way and throughout a script but within `workers`, on the conditions of each: each recorded transaction is accepted by the contract of each state that it consumes or makes; none makes or destroys value but by issue and exit; issuers and owners have signed, issuers of facts, both sides of debts that are made, lenders of those that are consumed, and owners of time locks; outputs cover consumed debts; consumed time locks were due; and what is outstanding was issued
pub record KeepsLedgers {F : Type 0} (m : Meaning F) (contracts : Contracts) : Type 0 where
  pub lawful : Everywhere m (Made (AreLawful contracts))
  pub conserved : Everywhere m (Made KeepsAllValue)
  pub signed : Everywhere m (Made AreSignedFor)
  pub facts : Everywhere m (Made KeepsAllFacts)
  pub debts : Everywhere m (Made KeepsAllDebts)
  pub locks : Everywhere m LocksWereDue
  pub accounted : Everywhere m (Made AreAccounted)
