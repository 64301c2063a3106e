-- What the rules and the contracts say of a transaction.
use Rattle.std.specs.Prelude.{ℕ, ◌==◌, ◌||◌, Bool, List, [], ◌∷◌, Option, Some, None, filter, if◌then◌else◌}
use Rattle.std.specs.List.{list_any}
use Rattle.ledger_types.specs.declared.state.StateData.{StateData}
use Rattle.ledger_types.specs.declared.state.StateData.TheVariants.{Cash, TimeLock, Fact, Iou}
use Rattle.ledger_types.specs.declared.state.TxState.{TxState}
use Rattle.ledger_types.specs.declared.tx.Tx.{Tx}
use Rattle.ledger_types.specs.declared.tx.Resolved.{Resolved}
use Rattle.ledger_types.specs.declared.verdict.Verdict.{Verdict}
use Rattle.ledger_types.specs.declared.verdict.Verdict.TheVariants as verdict
use Rattle.ledger_types.specs.Rules.{first_broken}

-- the number of the contract that governs a state
abbrev pub contract_of : StateData → ℕ
contract_of (Cash token amount owner) = 1
contract_of (TimeLock owner until) = 2
contract_of (Fact issuer name value) = 3
contract_of (Iou lender borrower token amount) = 4

-- whether a contract governs one of these states
abbrev pub governs : List TxState → ℕ → Bool
governs states id = list_any (λ s. contract_of s.body == id) states

-- the numbers of the contracts that stand on inputs or outputs, ascending
abbrev pub contracts_on : List TxState → List TxState → List ℕ
contracts_on inputs outputs = filter (λ id. governs inputs id || governs outputs id) (1 ∷ 2 ∷ 3 ∷ 4 ∷ [])

-- what the first contract of this number says, of contracts with a number and a meaning each: nothing where there is none, else the clause that refuses, if one does
abbrev pub told_by : {C : Type 0} → (C → ℕ) → (C → Tx → Resolved → Option ℕ) → List C → ℕ → Tx → Resolved → Option (Option ℕ)
told_by number says [] id tx resolved = None
told_by number says (c ∷ cs) id tx resolved = if number c == id then Some (says c tx resolved) else told_by number says cs id tx resolved

-- what comes of a contract's answer; next is what the contracts behind it say
abbrev pub goes_on : ℕ → Option (Option ℕ) → Verdict → Verdict
goes_on id None next = verdict.NoContract id
goes_on id (Some None) next = next
goes_on id (Some (Some clause)) next = verdict.Refused id clause

-- the first of these contracts that is absent or refuses
abbrev pub judged_by : (ℕ → Option (Option ℕ)) → List ℕ → Verdict
judged_by told [] = verdict.Accepted
judged_by told (id ∷ ids) = goes_on id (told id) (judged_by told ids)

-- the least broken rule, or else what the contracts say
abbrev pub verdict_by : Option ℕ → Verdict → Verdict
verdict_by (Some rule) judged = verdict.Broken rule
verdict_by None judged = judged

-- the verdict on a transaction with the states that it names; told is what the contract of a number says of the two, nothing where there is none
unfoldable pub verdict_of : (ℕ → Tx → Resolved → Option (Option ℕ)) → Tx → Resolved → Verdict
verdict_of told tx resolved = verdict_by (first_broken tx resolved) (judged_by (λ id. told id tx resolved) (contracts_on resolved.inputs tx.outputs))
