-- Digests, leaves and Merkle roots. The digest is SHA-256 (FIPS 180-4, section 6.2).
use Rattle.std.specs.Prelude.{ℕ, zero, suc, ◌-◌, ◌^◌, List, [], ◌∷◌, ◌++◌, length, take, drop, replicate, if◌then◌else◌, nat_le, slice_index_or}
use Rattle.std.specs.Int.{w32, to_be_bytes}
use Rattle.sha2.specs.Sha256.{sha256}

-- the digest of a message
abbrev pub digest_of : List ℕ → List ℕ
digest_of message = sha256 message

-- the nonce of a component: the digest of the digest of the salt, the number of its group and its place there
abbrev pub nonce_of : List ℕ → ℕ → ℕ → List ℕ
nonce_of salt group place = digest_of (digest_of (salt ++ to_be_bytes w32 group ++ to_be_bytes w32 place))

-- the leaf of a component: the digest of the digest of its nonce and its bytes
abbrev pub leaf_of : List ℕ → List ℕ → List ℕ
leaf_of nonce bytes = digest_of (digest_of (nonce ++ bytes))

-- the inner node above two hashes
abbrev pub node_of : List ℕ → List ℕ → List ℕ
node_of left right = digest_of (left ++ right)

-- the hash that pads a list of leaves
abbrev pub zeros : List ℕ
zeros = replicate 32 0

-- the root of 2 ^ d hashes: the node above the roots of both halves, and of one hash that hash
abbrev pub halves : ℕ → List (List ℕ) → List ℕ
halves zero hashes = slice_index_or hashes 0 []
halves (suc d) hashes = node_of (halves d (take (2 ^ d) hashes)) (halves d (drop (2 ^ d) hashes))

-- the least d from this one on, within the given number of steps, with n at most 2 ^ d
abbrev pub depth_from : ℕ → ℕ → ℕ → ℕ
depth_from zero d n = d
depth_from (suc steps) d n = if nat_le n (2 ^ d) then d else depth_from steps (suc d) n

-- the depth of a tree over n leaves: the least d with n at most 2 ^ d
abbrev pub depth : ℕ → ℕ
depth n = depth_from n 0 n

-- a list padded with zero hashes up to 2 ^ d hashes
abbrev pub padded : ℕ → List (List ℕ) → List (List ℕ)
padded d hashes = hashes ++ replicate (2 ^ d - length hashes) zeros

-- the Merkle root: 32 zero bytes of no leaf, and else the root by halves of the leaves padded to the next power of two
unfoldable pub root_of : List (List ℕ) → List ℕ
root_of [] = zeros
root_of (first ∷ rest) = halves (depth (length (first ∷ rest))) (padded (depth (length (first ∷ rest))) (first ∷ rest))

-- the value of a component group: 32 bytes 0xFF where it has no leaf, and else the root
unfoldable pub group_of : List (List ℕ) → List ℕ
group_of [] = replicate 32 255
group_of (first ∷ rest) = root_of (first ∷ rest)
