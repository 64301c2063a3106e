-- What of a token is outstanding by the transactions that a node recorded.
use Rattle.std.specs.Prelude.{◌≡◌, ℕ, ◌+◌, ◌≤◌, not, false, List, [], ◌∷◌, ◌++◌, Option, Some, None, filter, flat_map, sum_by, slice_get, if◌then◌else◌}
use Rattle.std.specs.List.{AllByRecursion}
use Rattle.net_base.specs.declared.values.Hash32.{Hash32}
use Rattle.net_base.specs.declared.values.Party.{Party}
use Rattle.net_base.specs.declared.names.Token.{Token}
use Rattle.ledger_types.specs.declared.tx.Tx.{Tx}
use Rattle.ledger_types.specs.declared.tx.Resolved.{Resolved}
use Rattle.ledger_types.specs.declared.tx.SignedTx.{SignedTx}
use Rattle.ledger_types.specs.declared.held.Held.{Held}
use Rattle.ledger_types.specs.Names.{party_eq, has_repeat}
use Rattle.ledger_types.specs.Signatures.{tx_id}
use Rattle.ledger_types.specs.Stores.{is_stored, resolved_of, untagged}
use Rattle.ledger_types.specs.Vaults.{Lock, is_consumed, all_outputs, vault_of, balance_of}
use Rattle.tx_tear.specs.Hashed.{AreApart}
use Rattle.cash_contract.specs.Clauses.{value_issued, value_exited}
use Rattle.net_model.specs.Environment.{Environment}
use Rattle.net_model.specs.State.{NodeState, with_ids}
use Rattle.net_model.specs.Tags.{book_of}
use Rattle.ledger_laws.specs.Ledgers.{hashed_to_sign}
use Rattle.contract_laws.specs.Values.{has_cash}

-- the recorded transactions without their tags, each with its id
abbrev pub without_tags : List SignedTx → List (Hash32 × Tx)
without_tags stored = untagged (with_ids stored)

-- the outputs that no recorded transaction consumes
abbrev pub unconsumed : List (Hash32 × Tx) → List Held
unconsumed recorded = filter (λ h. not (is_consumed recorded h.reference)) (all_outputs [] recorded)

-- how much of the token is outstanding
abbrev pub outstanding : Token → List SignedTx → ℕ
outstanding token stored = balance_of token (unconsumed (without_tags stored))

-- what of the token a transaction with these states issues, if it consumes or makes Cash
abbrev pub issued_over : Token → Tx → Option Resolved → ℕ
issued_over token tx None = 0
issued_over token tx (Some states) = if has_cash tx states then value_issued token tx else 0

-- and what it exits
abbrev pub exited_over : Token → Tx → Option Resolved → ℕ
exited_over token tx None = 0
exited_over token tx (Some states) = if has_cash tx states then value_exited token tx else 0

-- what of the token recorded transactions issued
abbrev pub issued_in : Token → List SignedTx → ℕ
issued_in token stored = sum_by (λ stx. issued_over token stx.tx (resolved_of (with_ids stored) stx.tx)) stored

-- and what they exited
abbrev pub exited_in : Token → List SignedTx → ℕ
exited_in token stored = sum_by (λ stx. exited_over token stx.tx (resolved_of (with_ids stored) stx.tx)) stored

-- of every token, what is outstanding is what was issued less what was exited; and the balances of different parties by these transactions, together, are no more, whatever is locked
pub record IsAccounted (stored : List SignedTx) : Type 0 where
  pub whole : (token : Token) → outstanding token stored + exited_in token stored ≡ issued_in token stored
  pub held : (token : Token) (parties : List Party) (locks : Party → List Lock) → has_repeat party_eq parties ≡ false → sum_by (λ me. balance_of token (vault_of me (without_tags stored) (locks me))) parties ≤ outstanding token stored

-- ---- all nodes together

-- a node recorded the transaction
pub record IsAtNode {F : Type 0} (net : List (NodeState F)) (stx : SignedTx) : Type 0 where
  pub node : ℕ
  pub state : NodeState F
  pub up : slice_get net node ≡ Some state
  pub place : ℕ
  pub there : slice_get state.stored place ≡ Some stx

-- those found so far, and of more each whose id is not among them
abbrev pub once_by_id : List SignedTx → List SignedTx → List SignedTx
once_by_id found [] = found
once_by_id found (stx ∷ more) = once_by_id (if is_stored (with_ids found) (tx_id stx.tx) then found else found ++ stx ∷ []) more

-- what all nodes recorded, each id once
abbrev pub recorded_by_all : {F : Type 0} → List (NodeState F) → List SignedTx
recorded_by_all net = once_by_id [] (flat_map (λ s. s.stored) net)

-- of what was hashed to sign a recorded transaction no digests collide, and none is all zeros or all ones; and two that have one id are one
pub record AreToldApart {F : Type 0} (e : Environment F) (net : List (NodeState F)) : Type 0 where
  pub signed : (stx : SignedTx) → IsAtNode net stx → AreApart (hashed_to_sign (book_of e net) stx.tx)
  pub named : (one other : SignedTx) → IsAtNode net one → IsAtNode net other → tx_id one.tx ≡ tx_id other.tx → one.tx ≡ other.tx

-- so it is at each node for whose transactions no digests of what was hashed to sign them collide, and none is all zeros or all ones; and of all nodes together, where all that they recorded is told apart
pub record AreAccounted {F : Type 0} (e : Environment F) (net : List (NodeState F)) : Type 0 where
  pub each : (p : ℕ) (s : NodeState F) → slice_get net p ≡ Some s → AllByRecursion (λ stx. AreApart (hashed_to_sign (book_of e net) stx.tx)) s.stored → IsAccounted s.stored
  pub together : AreToldApart e net → IsAccounted (recorded_by_all net)
