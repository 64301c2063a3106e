-- What holds of the ledgers of all nodes of a network, and of the book of its notary.
use Rattle.std.specs.Prelude.{◌≡◌, ℕ, ◌≤◌, List, [], ◌∷◌, length, map, find, option_to_list, slice_get, Some, true, Contains}
use Rattle.std.specs.List.{AllByRecursion, list_any}
use Rattle.net_base.specs.declared.values.Hash32.{Hash32}
use Rattle.net_base.specs.declared.names.StateRef.{StateRef}
use Rattle.ledger_types.specs.declared.tx.Tx.{Tx}
use Rattle.ledger_types.specs.declared.tx.SignedTx.{SignedTx}
use Rattle.ledger_types.specs.declared.torn.TornTx.{TornTx}
use Rattle.ledger_types.specs.declared.notary.Entry.{Entry}
use Rattle.ledger_types.specs.Rules.{asks_notary}
use Rattle.ledger_types.specs.Signatures.{tx_id}
use Rattle.ledger_types.specs.Stores.{stored_of}
use Rattle.ledger_types.specs.Notary.{signs, consumers}
use Rattle.tx_tear.specs.Tearing.{tear_of}
use Rattle.tx_tear.specs.Hashed.{AreApart, hashed_for_all}
use Rattle.tx_store.specs.Stored.{is_in_order, leads_back}
use Rattle.notary_book.specs.Causes.{AreCaused}
use Rattle.net_model.specs.Environment.{Environment}
use Rattle.net_model.specs.State.{NodeState, with_ids}
use Rattle.net_model.specs.Stores.{IsProven, AreProven}
use Rattle.net_model.specs.Tags.{Holds, book_of}

-- ---- the notary's book

-- in the notary's book each state has one consumer at most, and each item of each conflict names the first entry before it that signed another id with the state among its inputs
pub record HasOneConsumerEach {F : Type 0} (e : Environment F) (net : List (NodeState F)) : Type 0 where
  pub one : (r : StateRef) → length (consumers (book_of e net) r) ≤ 1
  pub named : AreCaused (book_of e net)

-- ---- what the notary signed

-- each tag by the notary that a node holds checks and is over an id that the notary's book signed; and so is the id of each recorded transaction that has an input, a reference or a time window
pub record IsSignedInBook {F : Type 0} (e : Environment F) (net : List (NodeState F)) : Type 0 where
  pub tags : Holds e net
  pub stored : (p n : ℕ) (s : NodeState F) (stx : SignedTx) → slice_get net p ≡ Some s → slice_get s.stored n ≡ Some stx → asks_notary stx.tx ≡ true → list_any (signs (tx_id stx.tx)) (book_of e net) ≡ true

-- ---- back-chains

-- a transaction of this id is recorded; it resolves among those that are recorded, was accepted over what it resolves to, and has all tags that it needs
pub record IsRecorded {F : Type 0} (e : Environment F) (stored : List SignedTx) (id : Hash32) : Type 0 where
  pub stx : SignedTx
  pub there : stored_of (with_ids stored) id ≡ Some stx
  pub named : tx_id stx.tx ≡ id
  pub proven : IsProven e stored stx

-- the transactions of a node were recorded in order, each once and behind all that it depends on; each is proven; and whichever ids lead back along the back-chain of a recorded one are of such as well
pub record IsWhole {F : Type 0} (e : Environment F) (stored : List SignedTx) : Type 0 where
  pub ordered : is_in_order (with_ids stored) ≡ true
  pub proven : AreProven e stored
  pub chains : (id : Hash32) (ids : List Hash32) → leads_back (with_ids stored) (stored_of (with_ids stored) id) ids ≡ true → AllByRecursion (IsRecorded e stored) ids

-- so it is at every node
abbrev pub HasWholeChains : {F : Type 0} → Environment F → List (NodeState F) → Type 0
HasWholeChains {F} e net = (p : ℕ) (s : NodeState F) → slice_get net p ≡ Some s → IsWhole e s.stored

-- ---- no state is spent twice

-- the tear-off over which an id was first signed, where one was
abbrev pub signed_over : List Entry → Hash32 → List TornTx
signed_over book id = map (λ entry. entry.request.torn) (option_to_list (find (signs id) book))

-- what is hashed to find a transaction's id from its own tear-off, and from the one over which the book first signed that id
abbrev pub hashed_to_sign : List Entry → Tx → List (List ℕ)
hashed_to_sign book tx = hashed_for_all [] (tear_of tx ∷ signed_over book (tx_id tx))

-- a recorded transaction, and a state among its inputs; no digests of what was hashed to sign it collide, and none is all zeros or all ones
pub record Spends {F : Type 0} (e : Environment F) (net : List (NodeState F)) (r : StateRef) (stx : SignedTx) : Type 0 where
  pub node : ℕ
  pub state : NodeState F
  pub up : slice_get net node ≡ Some state
  pub place : ℕ
  pub there : slice_get state.stored place ≡ Some stx
  pub input : Contains stx.tx.inputs r
  pub apart : AreApart (hashed_to_sign (book_of e net) stx.tx)

-- the one consumer of such a state in the notary's book is the transaction that spends it; so two transactions of different ids, at any two nodes, spend no state both
pub record HasNoneSpentTwice {F : Type 0} (e : Environment F) (net : List (NodeState F)) : Type 0 where
  pub consumer : (r : StateRef) (stx : SignedTx) → Spends e net r stx → consumers (book_of e net) r ≡ tx_id stx.tx ∷ []
  pub once : (r : StateRef) (one other : SignedTx) → (tx_id one.tx ≡ tx_id other.tx → ⊥) → Spends e net r one → Spends e net r other → ⊥
