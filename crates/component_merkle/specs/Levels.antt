-- The tree as it is folded: level by level, where what lacks is not written out.
use Rattle.std.specs.Prelude.{◌≡◌, ℕ, zero, suc, ◌+◌, ◌*◌, ◌<◌, ◌≤◌, ◌^◌, List, [], ◌∷◌, length, take, drop, if◌then◌else◌, nat_lt, slice_index_or}
use Rattle.component_merkle.specs.Merkle.{node_of}

-- the root of a tree of depth d over these hashes, of which those that lack are the pad
abbrev pub tree : ℕ → List ℕ → List (List ℕ) → List ℕ
tree zero pad [] = pad
tree zero pad (x ∷ xs) = x
tree (suc d) pad xs = node_of (tree d pad (take (2 ^ d) xs)) (tree d pad (drop (2 ^ d) xs))

-- the hashes taken in pairs, each pair replaced by the node above it
abbrev pub paired : List ℕ → List (List ℕ) → List (List ℕ)
paired pad [] = []
paired pad (x ∷ []) = node_of x pad ∷ []
paired pad (x ∷ y ∷ rest) = node_of x y ∷ paired pad rest

-- the k-th of these nodes
abbrev pub pair_at : List ℕ → List (List ℕ) → ℕ → List ℕ
pair_at pad xs k = node_of (slice_index_or xs (2 * k) []) (if nat_lt (2 * k + 1) (length xs) then slice_index_or xs (2 * k + 1) [] else pad)

-- what may pad the n hashes of a level in the place of the node over two pads: any tree over them has the same root
abbrev pub IsPadAbove : ℕ → List ℕ → List ℕ → Type 0
IsPadAbove n pad above = (d : ℕ) (xs : List (List ℕ)) → length xs ≡ n → n ≤ 2 ^ d → 2 ^ d < 2 * n → tree d above xs ≡ tree d (node_of pad pad) xs
