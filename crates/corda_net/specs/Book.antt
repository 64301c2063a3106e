-- The contracts that the program ships.
use Rattle.std.specs.Prelude.{ℕ, List, [], ◌∷◌, map, Option}
use Rattle.ledger_types.specs.declared.tx.Tx.{Tx}
use Rattle.ledger_types.specs.declared.tx.Resolved.{Resolved}
use Rattle.ledger_types.specs.Verdicts.{told_by, verdict_of}
use Rattle.net_model.specs.Environment.{Judgement}
use Rattle.cash_contract.specs.Clauses.{cash_says}
use Rattle.small_contracts.specs.Locks.{locks_say}
use Rattle.small_contracts.specs.Facts.{facts_say}
use Rattle.small_contracts.specs.Ious.{ious_say}

-- a contract: its number, and the clause by which it refuses a transaction with its states, if it does
pub record Contract : Type 0 where
  pub number : ℕ
  pub says : Tx → Resolved → Option ℕ

-- what objects are as contracts
abbrev pub contracts_of : {C : Type 0} → (C → ℕ) → (C → Tx → Resolved → Option ℕ) → List C → List Contract
contracts_of number says cs = map (λ c. record { number = number c; says = says c }) cs

-- the contracts of cash, time locks, facts and Ious
abbrev pub shipped_contracts : List Contract
shipped_contracts =
    record { number = 1; says = cash_says }
    ∷ record { number = 2; says = locks_say }
    ∷ record { number = 3; says = facts_say }
    ∷ record { number = 4; says = ious_say }
    ∷ []

-- what they say, by their numbers
abbrev pub shipped_told : ℕ → Tx → Resolved → Option (Option ℕ)
shipped_told = told_by (λ c. c.number) (λ c. c.says) shipped_contracts

-- their verdicts
abbrev pub shipped : Judgement
shipped = verdict_of shipped_told
