-- Who signed for the facts and debts that recorded transactions make and consume, and what the outputs have for lenders.
use Rattle.std.specs.Prelude.{◌≡◌, ℕ, ◌<◌, ◌≤◌, true, List, Some, slice_get, Contains}
use Rattle.net_base.specs.declared.values.Party.{Party}
use Rattle.net_base.specs.declared.names.Token.{Token}
use Rattle.ledger_types.specs.declared.state.StateData.TheVariants.{Fact, Iou}
use Rattle.ledger_types.specs.declared.state.TxState.{TxState}
use Rattle.ledger_types.specs.declared.tx.Tx.{Tx}
use Rattle.ledger_types.specs.declared.tx.Resolved.{Resolved}
use Rattle.ledger_types.specs.declared.tx.SignedTx.{SignedTx}
use Rattle.ledger_types.specs.Signatures.{has_signed}
use Rattle.ledger_types.specs.Stores.{resolved_of}
use Rattle.small_contracts.specs.Facts.{facts_say}
use Rattle.small_contracts.specs.Ious.{paid_in, owed_in, ious_say}
use Rattle.small_contracts.specs.Signing.{both_sign, is_iou_make}
use Rattle.net_model.specs.Environment.{Environment}
use Rattle.net_model.specs.State.{NodeState, with_ids}
use Rattle.contract_laws.specs.Lawful.{Contracts}

-- ---- facts

-- the contract of number 3, which governs facts, is there and is that of facts
abbrev pub GovernsFacts : Contracts → Type 0
GovernsFacts contracts = (tx : Tx) (states : Resolved) → contracts 3 tx states ≡ Some (facts_say tx states)

-- the issuer, of parties 0 to 15, of each fact that a transaction makes or consumes has a tag on the transaction, over its id, that checks; and the transaction makes no two facts of one issuer and name
pub record KeepsFacts {F : Type 0} (e : Environment F) (stored : List SignedTx) (stx : SignedTx) : Type 0 where
  pub states : Resolved
  pub resolves : resolved_of (with_ids stored) stx.tx ≡ Some states
  pub made : (s : TxState) (issuer : Party) (name value : ℕ) → Contains stx.tx.outputs s → s.body ≡ Fact issuer name value → issuer.0 < 16 → has_signed e.mark stx issuer.0 ≡ true
  pub consumed : (s : TxState) (issuer : Party) (name value : ℕ) → Contains states.inputs s → s.body ≡ Fact issuer name value → issuer.0 < 16 → has_signed e.mark stx issuer.0 ≡ true
  pub once : (i j : ℕ) (s t : TxState) (issuer : Party) (name one other : ℕ) → slice_get stx.tx.outputs i ≡ Some s → slice_get stx.tx.outputs j ≡ Some t → s.body ≡ Fact issuer name one → t.body ≡ Fact issuer name other → i ≡ j

-- so it is of each recorded transaction of every node
abbrev pub KeepsAllFacts : {F : Type 0} → Environment F → List (NodeState F) → Type 0
KeepsAllFacts {F} e net = (p n : ℕ) (s : NodeState F) (stx : SignedTx) → slice_get net p ≡ Some s → slice_get s.stored n ≡ Some stx → KeepsFacts e s.stored stx

-- ---- debts

-- the contract of number 4, which governs debts, is there and is that of debts
abbrev pub GovernsDebts : Contracts → Type 0
GovernsDebts contracts = (tx : Tx) (states : Resolved) → contracts 4 tx states ≡ Some (ious_say tx states)

-- each debt that a transaction makes is of an amount above 0 and between two parties, whom one command that makes debts names as signers, and who, of parties 0 to 15, have a tag each on the transaction, over its id, that checks; the lender of each debt that it consumes has one; and its outputs have Cash of that debt's token for that lender, of at least what all debts of the token that it consumes owe the lender
pub record KeepsDebts {F : Type 0} (e : Environment F) (stored : List SignedTx) (stx : SignedTx) : Type 0 where
  pub states : Resolved
  pub resolves : resolved_of (with_ids stored) stx.tx ≡ Some states
  pub sensible : (s : TxState) (lender borrower : Party) (token : Token) (amount : ℕ) → Contains stx.tx.outputs s → s.body ≡ Iou lender borrower token amount → (0 < amount) × (lender ≡ borrower → ⊥)
  pub asked : (s : TxState) (lender borrower : Party) (token : Token) (amount : ℕ) → Contains stx.tx.outputs s → s.body ≡ Iou lender borrower token amount → both_sign is_iou_make stx.tx lender borrower ≡ true
  pub lent : (s : TxState) (lender borrower : Party) (token : Token) (amount : ℕ) → Contains stx.tx.outputs s → s.body ≡ Iou lender borrower token amount → lender.0 < 16 → has_signed e.mark stx lender.0 ≡ true
  pub borrowed : (s : TxState) (lender borrower : Party) (token : Token) (amount : ℕ) → Contains stx.tx.outputs s → s.body ≡ Iou lender borrower token amount → borrower.0 < 16 → has_signed e.mark stx borrower.0 ≡ true
  pub settled : (s : TxState) (lender borrower : Party) (token : Token) (amount : ℕ) → Contains states.inputs s → s.body ≡ Iou lender borrower token amount → lender.0 < 16 → has_signed e.mark stx lender.0 ≡ true
  pub covered : (s : TxState) (lender borrower : Party) (token : Token) (amount : ℕ) → Contains states.inputs s → s.body ≡ Iou lender borrower token amount → owed_in lender token states.inputs ≤ paid_in lender token stx.tx.outputs

-- so it is of each recorded transaction of every node
abbrev pub KeepsAllDebts : {F : Type 0} → Environment F → List (NodeState F) → Type 0
KeepsAllDebts {F} e net = (p n : ℕ) (s : NodeState F) (stx : SignedTx) → slice_get net p ≡ Some s → slice_get s.stored n ≡ Some stx → KeepsDebts e s.stored stx
