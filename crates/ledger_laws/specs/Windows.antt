-- When the notary signed what nodes recorded.
use Rattle.std.specs.Prelude.{◌≡◌, ℕ, true, false, List, Some, IfSome, find, take, slice_get}
use Rattle.std.specs.List.{list_any}
use Rattle.ledger_types.specs.declared.tx.Tx.{Tx}
use Rattle.ledger_types.specs.declared.tx.SignedTx.{SignedTx}
use Rattle.ledger_types.specs.declared.notary.Entry.{Entry}
use Rattle.ledger_types.specs.Notary.{signs, is_inside}
use Rattle.ledger_types.specs.Rules.{asks_notary}
use Rattle.ledger_types.specs.Signatures.{tx_id}
use Rattle.ledger_types.specs.Txs.{IsWindow}
use Rattle.tx_tear.specs.Hashed.{AreApart}
use Rattle.net_model.specs.Environment.{Environment}
use Rattle.net_model.specs.State.{NodeState, Record, replay}
use Rattle.net_model.specs.Tags.{book_of}
use Rattle.node_tables.specs.Journals.{records_of}
use Rattle.network_core.specs.Worlds.{states_of}
use Rattle.ledger_laws.specs.Ledgers.{hashed_to_sign}

-- a record of the notary's journal, before which no entry had signed the transaction's id, booked the first entry that did; and the transaction's time window, if it has one, holds the moment of that record, where the window's moments have 64 bits, no digests of what was hashed to sign the transaction collide, and none is all zeros or all ones
pub record IsSignedInWindow {F : Type 0} (e : Environment F) (lists : List (List (List ℕ))) (net : List (NodeState F)) (tx : Tx) : Type 0 where
  pub journal : List (List ℕ)
  pub of_notary : slice_get lists e.notary.0 ≡ Some journal
  pub place : ℕ
  pub at : Record F
  pub there : slice_get (records_of e.frame_at journal) place ≡ Some at
  pub entry : Entry
  pub booked : at.effect.change.booked ≡ Some entry
  pub first : find (signs (tx_id tx)) (book_of e net) ≡ Some entry
  pub unsigned : list_any (signs (tx_id tx)) (replay (take place (records_of e.frame_at journal))).entries ≡ false
  pub inside : IfSome tx.window IsWindow → AreApart (hashed_to_sign (book_of e net) tx) → is_inside tx.window at.cause.moment ≡ true

-- so it is of each transaction that these nodes recorded and a notary has to sign
abbrev pub AreSignedInWindows : {F : Type 0} → Environment F → List (List (List ℕ)) → List (NodeState F) → Type 0
AreSignedInWindows {F} e lists net = (p n : ℕ) (s : NodeState F) (stx : SignedTx) → slice_get net p ≡ Some s → slice_get s.stored n ≡ Some stx → asks_notary stx.tx ≡ true → IsSignedInWindow e lists net stx.tx

-- so it is of what journals make
abbrev pub KeepsWindows : {F : Type 0} → Environment F → List (List (List ℕ)) → Type 0
KeepsWindows e lists = AreSignedInWindows e lists (states_of e lists)
