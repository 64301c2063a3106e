-- What is printed of the ledgers of a network, as a function of its state.
use Rattle.std.specs.Prelude.{ℕ, List, [], Option, Some, None, find, slice_get}
use Rattle.net_base.specs.declared.causes.Cause.{Cause}
use Rattle.net_base.specs.declared.values.Hash32.{Hash32}
use Rattle.ledger_types.specs.declared.held.Held.{Held}
use Rattle.ledger_types.specs.declared.tx.SignedTx.{SignedTx}
use Rattle.ledger_types.specs.Names.{hash_eq}
use Rattle.ledger_types.specs.Stores.{untagged}
use Rattle.ledger_types.specs.Vaults.{vault_of}
use Rattle.net_model.specs.Environment.{Environment, party}
use Rattle.net_model.specs.State.{NodeState, with_ids}
use Rattle.net_model.specs.Runs.{network_of}
use Rattle.shell_report.specs.LedgerText.{ids_of, vault_text, balance_text, book_text, tx_text}

-- what is asked of the ledgers of a network: a node's vault, its balances, a node's book, or a transaction that a node recorded, by its id or by its place
pub data LedgerQuery : Type 0 where
  of_vault : ℕ → LedgerQuery
  of_balance : ℕ → LedgerQuery
  of_book : ℕ → LedgerQuery
  of_tx : ℕ → Hash32 → LedgerQuery
  of_tx_at : ℕ → ℕ → LedgerQuery

-- what a node holds
abbrev pub vault_in : {F : Type 0} → ℕ → NodeState F → List Held
vault_in p s = vault_of (party p) (untagged (with_ids s.stored)) s.locked

-- the recorded transaction of an id
abbrev pub with_id : Hash32 → List (Hash32 × SignedTx) → Option (Hash32 × SignedTx)
with_id id recorded = find (λ p. hash_eq id p.0) recorded

-- the line of a transaction with its end, where there is one
abbrev pub tx_text_in : Option (Hash32 × SignedTx) → List ℕ
tx_text_in None = []
tx_text_in (Some p) = tx_text p.0 p.1

-- what is printed of a node, where there is one
abbrev pub vault_text_at : {F : Type 0} → ℕ → Option (NodeState F) → List ℕ
vault_text_at p None = []
vault_text_at p (Some s) = vault_text (ids_of (with_ids s.stored)) (vault_in p s)

abbrev pub balance_text_at : {F : Type 0} → ℕ → Option (NodeState F) → List ℕ
balance_text_at p None = []
balance_text_at p (Some s) = balance_text (vault_in p s)

abbrev pub book_text_at : {F : Type 0} → Option (NodeState F) → List ℕ
book_text_at None = []
book_text_at (Some s) = book_text s.entries

abbrev pub tx_text_by : {F : Type 0} → (List (Hash32 × SignedTx) → Option (Hash32 × SignedTx)) → Option (NodeState F) → List ℕ
tx_text_by name None = []
tx_text_by name (Some s) = tx_text_in (name (with_ids s.stored))

-- the lines that answer a query, by the network
abbrev pub print_ledger : {F : Type 0} → List (NodeState F) → LedgerQuery → List ℕ
print_ledger net (of_vault p) = vault_text_at p (slice_get net p)
print_ledger net (of_balance p) = balance_text_at p (slice_get net p)
print_ledger net (of_book p) = book_text_at (slice_get net p)
print_ledger net (of_tx p id) = tx_text_by (with_id id) (slice_get net p)
print_ledger net (of_tx_at p k) = tx_text_by (λ recorded. slice_get recorded k) (slice_get net p)

-- the lines that answer a query of a network; there is none where the journals are those of no run, and then nothing is printed
abbrev pub print_ledger_of : {F : Type 0} → Option (List (NodeState F)) → LedgerQuery → List ℕ
print_ledger_of None query = []
print_ledger_of (Some net) query = print_ledger net query

-- the lines that answer a query, by the journals
unfoldable pub printed_ledger : {F : Type 0} → Environment F → List (List Cause) → LedgerQuery → List ℕ
printed_ledger w journals query = print_ledger_of (network_of w journals) query
