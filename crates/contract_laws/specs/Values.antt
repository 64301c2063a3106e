-- What recorded transactions do to the value of Cash.
use Rattle.std.specs.Prelude.{◌≡◌, ℕ, ◌+◌, ◌||◌, Bool, true, false, List, Some, None, slice_get}
use Rattle.net_base.specs.declared.names.Token.{Token}
use Rattle.ledger_types.specs.declared.tx.Tx.{Tx}
use Rattle.ledger_types.specs.declared.tx.Resolved.{Resolved}
use Rattle.ledger_types.specs.declared.tx.SignedTx.{SignedTx}
use Rattle.ledger_types.specs.Stores.{resolved_of}
use Rattle.ledger_types.specs.Verdicts.{governs}
use Rattle.cash_contract.specs.Clauses.{cash_says, value_in, value_issued, value_exited}
use Rattle.net_model.specs.Environment.{Environment}
use Rattle.net_model.specs.State.{NodeState, with_ids}
use Rattle.contract_laws.specs.Lawful.{Contracts}

-- the contract of number 1, which governs Cash, is there and is the Cash contract
abbrev pub GovernsCash : Contracts → Type 0
GovernsCash contracts = (tx : Tx) (states : Resolved) → contracts 1 tx states ≡ Some (cash_says tx states)

-- whether a transaction consumes or makes Cash
abbrev pub has_cash : Tx → Resolved → Bool
has_cash tx states = governs states.inputs 1 || governs tx.outputs 1

-- where a transaction consumes or makes Cash the Cash contract accepts it with the states that it names among those recorded, and of every token what goes in and is issued is what goes out and is exited; elsewhere no Cash goes in or out
pub record KeepsValue (stored : List SignedTx) (tx : Tx) : Type 0 where
  pub states : Resolved
  pub resolves : resolved_of (with_ids stored) tx ≡ Some states
  pub accepted : has_cash tx states ≡ true → cash_says tx states ≡ None
  pub conserved : has_cash tx states ≡ true → (token : Token) → value_in token states.inputs + value_issued token tx ≡ value_in token tx.outputs + value_exited token tx
  pub untouched : has_cash tx states ≡ false → (token : Token) → (value_in token states.inputs ≡ 0) × (value_in token tx.outputs ≡ 0)

-- so it is of each recorded transaction of every node
abbrev pub KeepsAllValue : {F : Type 0} → Environment F → List (NodeState F) → Type 0
KeepsAllValue {F} e net = (p n : ℕ) (s : NodeState F) (stx : SignedTx) → slice_get net p ≡ Some s → slice_get s.stored n ≡ Some stx → KeepsValue s.stored stx.tx
