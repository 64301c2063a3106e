-- The marks of the keyed digest.
use Rattle.std.specs.Prelude.{ℕ, List, [], ◌∷◌, ◌++◌, codes}
use Rattle.net_base.specs.declared.values.Hash32.{Hash32}
use Rattle.net_base.specs.declared.values.Party.{Party}
use Rattle.component_merkle.specs.Merkle.{digest_of}

-- the key of a party: the digest of the text "key" and the party as one byte
abbrev pub key_of : Party → List ℕ
key_of by = digest_of (codes "key" ++ by.0 ∷ [])

-- the mark of a party under an id: the digest of the party's key, the party as one byte, and the id
abbrev pub keyed_mark : Party → Hash32 → Hash32
keyed_mark by of = record { 0 = digest_of (key_of by ++ by.0 ∷ [] ++ of.0) }
