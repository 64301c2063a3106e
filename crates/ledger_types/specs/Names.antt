-- Tests of equality for what the ledger's values are named by.
use Rattle.std.specs.Prelude.{ℕ, Bool, false, ◌==◌, ◌&&◌, ◌||◌, bytes_eq, Option, Some, None, List, [], ◌∷◌}
use Rattle.std.specs.List.{list_any}
use Rattle.net_base.specs.declared.values.Hash32.{Hash32}
use Rattle.net_base.specs.declared.values.Party.{Party}
use Rattle.net_base.specs.declared.names.StateRef.{StateRef}
use Rattle.net_base.specs.declared.names.Token.{Token}

-- whether two ids are the same
abbrev pub hash_eq : Hash32 → Hash32 → Bool
hash_eq a b = bytes_eq a.0 b.0

-- whether two parties are the same
abbrev pub party_eq : Party → Party → Bool
party_eq p q = p.0 == q.0

-- whether there is a party and it is this one
abbrev pub is_party : Party → Option Party → Bool
is_party p None = false
is_party p (Some q) = party_eq p q

-- whether two currencies are the same: one issuer and one code
abbrev pub token_eq : Token → Token → Bool
token_eq a b = party_eq a.issuer b.issuer && bytes_eq a.code b.code

-- whether two references name one output of one transaction
abbrev pub ref_eq : StateRef → StateRef → Bool
ref_eq a b = hash_eq a.id b.id && (a.index == b.index)

-- whether the reference is one of these
abbrev pub has_ref : StateRef → List StateRef → Bool
has_ref r refs = list_any (λ s. ref_eq s r) refs

-- whether the id is one of these
abbrev pub has_hash : Hash32 → List Hash32 → Bool
has_hash id ids = list_any (λ h. hash_eq h id) ids

-- whether the number is one of these
abbrev pub has_number : ℕ → List ℕ → Bool
has_number n numbers = list_any (λ m. m == n) numbers

-- whether a value stands twice in the list
abbrev pub has_repeat : {A : Type 0} → (A → A → Bool) → List A → Bool
has_repeat same [] = false
has_repeat same (x ∷ xs) = list_any (λ y. same y x) xs || has_repeat same xs
