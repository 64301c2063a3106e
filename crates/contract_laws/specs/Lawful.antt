-- What the rules and the contracts say of recorded transactions.
use Rattle.std.specs.Prelude.{◌≡◌, ℕ, List, Option, Some, None, slice_get, Contains}
use Rattle.ledger_types.specs.declared.state.TxState.{TxState}
use Rattle.ledger_types.specs.declared.tx.Tx.{Tx}
use Rattle.ledger_types.specs.declared.tx.Resolved.{Resolved}
use Rattle.ledger_types.specs.declared.tx.SignedTx.{SignedTx}
use Rattle.ledger_types.specs.Rules.{first_broken}
use Rattle.ledger_types.specs.Stores.{resolved_of}
use Rattle.ledger_types.specs.Verdicts.{contract_of}
use Rattle.net_model.specs.Environment.{Environment}
use Rattle.net_model.specs.State.{NodeState, with_ids}

-- what contracts say of a transaction with its states, by their numbers: nothing where there is none of that number, else the clause that refuses, if one does
abbrev pub Contracts : Type 0
Contracts = ℕ → Tx → Resolved → Option (Option ℕ)

-- a transaction keeps the rules with the states that it names among those recorded, and the contract of each state that it consumes or makes is there and accepts it
pub record IsLawful (contracts : Contracts) (stored : List SignedTx) (tx : Tx) : Type 0 where
  pub states : Resolved
  pub resolves : resolved_of (with_ids stored) tx ≡ Some states
  pub rules : first_broken tx states ≡ None
  pub consumed : (s : TxState) → Contains states.inputs s → contracts (contract_of s.body) tx states ≡ Some None
  pub made : (s : TxState) → Contains tx.outputs s → contracts (contract_of s.body) tx states ≡ Some None

-- so is each recorded transaction of every node
abbrev pub AreLawful : {F : Type 0} → Contracts → Environment F → List (NodeState F) → Type 0
AreLawful {F} contracts e net = (p n : ℕ) (s : NodeState F) (stx : SignedTx) → slice_get net p ≡ Some s → slice_get s.stored n ≡ Some stx → IsLawful contracts s.stored stx.tx
