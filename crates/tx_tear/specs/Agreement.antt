-- What equal roots and equal ids say, where no digests collide.
use Rattle.std.specs.Prelude.{◌≡◌, ℕ, List, length, Some, false, true, is_some}
use Rattle.std.specs.List.{AllByRecursion, Contains}
use Rattle.component_merkle.specs.Merkle.{depth, padded, root_of}
use Rattle.ledger_types.specs.declared.tx.Tx.{Tx}
use Rattle.ledger_types.specs.declared.torn.TornTx.{TornTx}
use Rattle.ledger_types.specs.declared.torn.Visible.{Visible}
use Rattle.ledger_types.specs.Txs.{IsTx}
use Rattle.ledger_types.specs.Torn.{IsTornTx}
use Rattle.ledger_types.specs.Rules.{has_no_command}
use Rattle.ledger_types.specs.Signatures.{tx_id}
use Rattle.ledger_types.specs.Tears.{visible_of}
use Rattle.tx_tear.specs.Tearing.{seen_of}
use Rattle.tx_tear.specs.Hashed.{AreApart, Includes, hashed_for_root, hashed_for_tx, hashed_for_torn, hashed_for_all}

-- each has 32 bytes
abbrev pub Are32 : List (List ℕ) → Type 0
Are32 hashes = AllByRecursion (λ h. length h ≡ 32) hashes

-- where no digests collide, two lists of hashes that are padded to one length and have one root are the same once padded
abbrev pub EqualRootsHaveEqualLeaves : Type 0
EqualRootsHaveEqualLeaves =
    (hashed xs ys : List (List ℕ)) → AreApart hashed → Includes hashed (hashed_for_root xs) → Includes hashed (hashed_for_root ys) → Are32 xs → Are32 ys
    → depth (length xs) ≡ depth (length ys) → root_of xs ≡ root_of ys → padded (depth (length xs)) xs ≡ padded (depth (length ys)) ys

-- where no digests collide, a good tear-off that has the id of a transaction with a command, and names a notary, shows what the transaction's own tear-off shows
abbrev pub GoodTearShowsTransaction : Type 0
GoodTearShowsTransaction =
    (hashed : List (List ℕ)) (tx : Tx) (torn : TornTx) (seen : Visible) → AreApart hashed → Includes hashed (hashed_for_tx tx) → Includes hashed (hashed_for_torn torn) → IsTx tx → has_no_command tx ≡ false → IsTornTx torn
    → torn.id ≡ tx_id tx → visible_of torn ≡ Some seen → is_some seen.notary ≡ true → seen ≡ seen_of tx

-- where no digests collide, two good tear-offs that have one id, and name a notary each, show the same
abbrev pub GoodTearsAgree : Type 0
GoodTearsAgree =
    (hashed : List (List ℕ)) (one other : TornTx) (v w : Visible) → AreApart hashed → Includes hashed (hashed_for_torn one) → Includes hashed (hashed_for_torn other) → IsTornTx one → IsTornTx other
    → one.id ≡ other.id → visible_of one ≡ Some v → visible_of other ≡ Some w → is_some v.notary ≡ true → is_some w.notary ≡ true → v ≡ w

-- what is hashed for all includes what is hashed for each transaction
abbrev pub EachTxIncluded : Type 0
EachTxIncluded = (txs : List Tx) (torns : List TornTx) (tx : Tx) → Contains txs tx → Includes (hashed_for_all txs torns) (hashed_for_tx tx)

-- what is hashed for all includes what is hashed for each tear-off
abbrev pub EachTearIncluded : Type 0
EachTearIncluded = (txs : List Tx) (torns : List TornTx) (torn : TornTx) → Contains torns torn → Includes (hashed_for_all txs torns) (hashed_for_torn torn)
