-- What is hashed for an id, from the leaves to the root, and what it means that none of its digests collide.
use Rattle.std.specs.Prelude.{◌≡◌, ℕ, zero, suc, ◌+◌, ◌^◌, List, [], ◌∷◌, ◌++◌, length, map, take, drop, replicate}
use Rattle.std.specs.List.{Contains, flat_map}
use Rattle.component_merkle.specs.Merkle.{digest_of, leaf_of, halves, depth, padded, zeros}
use Rattle.ledger_types.specs.declared.tx.Tx.{Tx}
use Rattle.ledger_types.specs.declared.torn.TornPart.{TornPart}
use Rattle.ledger_types.specs.declared.torn.TornGroup.{TornGroup}
use Rattle.ledger_types.specs.declared.torn.TornGroup.TheVariants.{Hidden, Shown}
use Rattle.ledger_types.specs.declared.torn.TornTx.{TornTx}
use Rattle.ledger_types.specs.Ids.{groups, present}
use Rattle.ledger_types.specs.Tears.{group_value}
use Rattle.tx_tear.specs.Tearing.{shown_group}

-- no two different byte lists of these share a digest, and no digest of them is 32 zero bytes or 32 bytes 0xFF
pub record AreApart (hashed : List (List ℕ)) : Type 0 where
  pub apart : (x y : List ℕ) → Contains hashed x → Contains hashed y → digest_of x ≡ digest_of y → x ≡ y
  pub not_zeros : (x : List ℕ) → Contains hashed x → digest_of x ≡ zeros → ⊥
  pub not_ones : (x : List ℕ) → Contains hashed x → digest_of x ≡ replicate 32 255 → ⊥

-- the first list has each byte list of the second
abbrev pub Includes : List (List ℕ) → List (List ℕ) → Type 0
Includes all these = (x : List ℕ) → Contains these x → Contains all x

-- what is hashed for the root by halves of 2 ^ d hashes: both halves' roots, one behind the other, and what is hashed for each
abbrev pub hashed_by_halves : ℕ → List (List ℕ) → List (List ℕ)
hashed_by_halves zero hashes = []
hashed_by_halves (suc d) hashes =
    (halves d (take (2 ^ d) hashes) ++ halves d (drop (2 ^ d) hashes))
    ∷ (hashed_by_halves d (take (2 ^ d) hashes) ++ hashed_by_halves d (drop (2 ^ d) hashes))

-- what is hashed for the Merkle root of hashes
abbrev pub hashed_for_root : List (List ℕ) → List (List ℕ)
hashed_for_root hashes = hashed_by_halves (depth (length hashes)) (padded (depth (length hashes)) hashes)

-- what is hashed for the leaf of a component: its nonce and its bytes, and the digest of these
abbrev pub hashed_for_leaf : TornPart → List (List ℕ)
hashed_for_leaf p = (p.nonce.0 ++ p.bytes) ∷ digest_of (p.nonce.0 ++ p.bytes) ∷ []

-- the leaf of a component
abbrev pub leaf : TornPart → List ℕ
leaf p = leaf_of p.nonce.0 p.bytes

-- what is hashed for the value of a group: nothing where the value is told
abbrev pub hashed_for_group : TornGroup → List (List ℕ)
hashed_for_group (Hidden root) = []
hashed_for_group (Shown parts) = flat_map hashed_for_leaf parts ++ hashed_for_root (map leaf parts)

-- what is hashed for the id that groups give
abbrev pub hashed_for_groups : List TornGroup → List (List ℕ)
hashed_for_groups gs = flat_map hashed_for_group gs ++ hashed_for_root (map group_value gs)

-- the groups of a transaction, from an ordinal on, each shown
abbrev pub shown_from : List ℕ → ℕ → List (List (List ℕ)) → List TornGroup
shown_from salt group [] = []
shown_from salt group (components ∷ more) = shown_group salt group components ∷ shown_from salt (group + 1) more

-- what is hashed for the id of a transaction, from the nonces of its components on
unfoldable pub hashed_for_tx : Tx → List (List ℕ)
hashed_for_tx tx = hashed_for_groups (shown_from tx.salt.0 0 (present (groups tx)))

-- what is hashed to find the id that a tear-off gives
unfoldable pub hashed_for_torn : TornTx → List (List ℕ)
hashed_for_torn torn = hashed_for_groups torn.groups

-- what is hashed for the ids of these transactions and to find those of these tear-offs
unfoldable pub hashed_for_all : List Tx → List TornTx → List (List ℕ)
hashed_for_all txs torns = flat_map hashed_for_tx txs ++ flat_map hashed_for_torn torns
