-- The spelling of tokens, tags, references, session keys and identities.
use Rattle.std.proofs.Common.{◌≡◌, ◌<◌, ◌≤◌, ◌^◌, ℕ, List, [], ◌∷◌, ◌++◌, Result, refl, sym, arith}
use Rattle.std.specs.Int.{w32}
use Rattle.net_base.specs.declared.values.Hash32.{Hash32}
use Rattle.net_base.specs.declared.values.Party.{Party}
use Rattle.net_base.specs.declared.names.StateRef.{StateRef}
use Rattle.net_base.specs.declared.names.Tag.{Tag}
use Rattle.net_base.specs.declared.names.Token.{Token}
use Rattle.net_base.specs.declared.names.Key.{Key}
use Rattle.net_base.specs.declared.names.Identity.{Identity}
use Rattle.net_base.specs.Reading.{number}
use Rattle.net_base.specs.Forms.{number_at}
use Rattle.net_base.specs.Laws.{Laws}
use Rattle.net_base.specs.Combining.{mapped_at, mapped_laws, pair_at, pair_laws, iso_laws, restated_laws}
use Rattle.net_base.specs.Fields.{u32_laws}
use Rattle.net_base.specs.Kinds.{IsBetween, between_at, between_laws}
use Rattle.net_base.specs.Values.{IsHash, hash, hash_at, hash_laws, IsParty, party, party_at, party_laws}

-- ---- StateRef: hash, u32 index

-- the limits of a reference
abbrev pub IsStateRef : StateRef → Type 0
IsStateRef r = IsHash r.id × (r.index < 2 ^ 32)

-- the spelling of a reference
abbrev pub state_ref : StateRef → List ℕ
state_ref r = hash r.id ++ number w32 r.index

-- a reference of its fields
abbrev state_ref_of : Hash32 × ℕ → StateRef
state_ref_of p = record { id = p.0; index = p.1 }

-- reading a reference
unfoldable pub state_ref_at : List ℕ → Result (StateRef × List ℕ) ℕ
state_ref_at = mapped_at state_ref_of (pair_at hash_at (number_at w32))

-- the laws of references
pub state_ref_laws : Laws IsStateRef state_ref state_ref_at
unfolding state_ref_at
state_ref_laws = iso_laws state_ref_of (λ r. (r.id, r.index)) (λ _. refl) (λ _. refl) (pair_laws hash_laws u32_laws)

-- ---- Tag: party by, hash of, hash mark

-- the limits of a tag
abbrev pub IsTag : Tag → Type 0
IsTag t = IsParty t.by × (IsHash t.of × IsHash t.mark)

-- the spelling of a tag
abbrev pub tag : Tag → List ℕ
tag t = party t.by ++ (hash t.of ++ hash t.mark)

-- a tag of its fields
abbrev tag_of : Party × (Hash32 × Hash32) → Tag
tag_of p = record { by = p.0; of = p.1.0; mark = p.1.1 }

-- reading a tag
unfoldable pub tag_at : List ℕ → Result (Tag × List ℕ) ℕ
tag_at = mapped_at tag_of (pair_at party_at (pair_at hash_at hash_at))

-- the laws of tags
pub tag_laws : Laws IsTag tag tag_at
unfolding tag_at
tag_laws = iso_laws tag_of (λ t. (t.by, (t.of, t.mark))) (λ _. refl) (λ _. refl) (pair_laws party_laws (pair_laws hash_laws hash_laws))

-- the party by which tags ascend
abbrev pub by_of : Tag → ℕ
by_of t = t.by.0

-- a tag of its fields, the party as a number
abbrev tag_by : ℕ × (Hash32 × Hash32) → Tag
tag_by p = record { by = record { 0 = p.0 }; of = p.1.0; mark = p.1.1 }

-- reading a tag by a party from low up to below high
unfoldable pub tag_between_at : ℕ → ℕ → List ℕ → Result (Tag × List ℕ) ℕ
tag_between_at low high = mapped_at tag_by (pair_at (between_at low high) (pair_at hash_at hash_at))

-- the laws of tags by a party from low up to below high
pub tag_between_laws : (low high : ℕ) → low < high → high ≤ 16 → Laws (λ (t : Tag). IsTag t × IsBetween low high (by_of t)) tag (tag_between_at low high)
unfolding tag_between_at
tag_between_laws low high lt top =
    restated_laws (λ t h. (((omega (arith, h.0.1), h.1), h.0), refl)) (λ t h. (h.1, h.0.1))
    (iso_laws tag_by (λ t. (t.by.0, (t.of, t.mark))) (λ _. refl) (λ _. refl) (pair_laws (between_laws low high lt) (pair_laws hash_laws hash_laws)))

-- ---- Token: party issuer, three letters

-- a letter A to Z in ASCII
abbrev pub IsLetter : ℕ → Type 0
IsLetter b = IsBetween 65 91 b

-- three letters
abbrev pub IsCode : List ℕ → Type 0
IsCode (a ∷ b ∷ c ∷ []) = IsLetter a × (IsLetter b × IsLetter c)
IsCode other = ⊥

-- a code of its letters
abbrev code_of : ℕ × (ℕ × ℕ) → List ℕ
code_of p = p.0 ∷ p.1.0 ∷ p.1.1 ∷ []

-- reading a letter
abbrev letter_at : List ℕ → Result (ℕ × List ℕ) ℕ
letter_at = between_at 65 91

-- the limits of a token
abbrev pub IsToken : Token → Type 0
IsToken t = IsParty t.issuer × IsCode t.code

-- the spelling of a token
abbrev pub token : Token → List ℕ
token t = party t.issuer ++ t.code

-- a token of its fields
abbrev token_of : Party × (ℕ × (ℕ × ℕ)) → Token
token_of p = record { issuer = p.0; code = code_of p.1 }

-- reading a token
unfoldable pub token_at : List ℕ → Result (Token × List ℕ) ℕ
token_at = mapped_at token_of (pair_at party_at (pair_at letter_at (pair_at letter_at letter_at)))

-- the laws of letters
letter_laws : Laws IsLetter (λ (b : ℕ). b ∷ []) letter_at
letter_laws = between_laws 65 91 (omega arith)

-- the letters of a token within its limits
token_letters : (t : Token) (code : List ℕ) → t.code ≡ code → IsCode code → (p : ℕ × (ℕ × ℕ)) × ((IsLetter p.0 × (IsLetter p.1.0 × IsLetter p.1.1)) × (t.code ≡ code_of p))
token_letters t (a ∷ b ∷ c ∷ []) e h = ((a, (b, c)), (h, e))
token_letters t other e h = absurd h

-- the laws of tokens
pub token_laws : Laws IsToken token token_at
unfolding token_at
token_laws =
    mapped_laws token_of (pair_laws party_laws (pair_laws letter_laws (pair_laws letter_laws letter_laws))) (record {
      keeps = λ p h. ((h.0, h.1), refl);
      from = λ t h. let l = token_letters t t.code refl h.1 in ((t.issuer, l.0), ((h.0, l.1.0), λ i. record { issuer = t.issuer; code = sym l.1.1 i }));
    })

-- ---- Key: party initiator, u32 number

-- the limits of a session key
abbrev pub IsKey : Key → Type 0
IsKey k = IsParty k.initiator × (k.number < 2 ^ 32)

-- the spelling of a session key
abbrev pub key : Key → List ℕ
key k = party k.initiator ++ number w32 k.number

-- a session key of its fields
abbrev key_of : Party × ℕ → Key
key_of p = record { initiator = p.0; number = p.1 }

-- reading a session key
unfoldable pub key_at : List ℕ → Result (Key × List ℕ) ℕ
key_at = mapped_at key_of (pair_at party_at (number_at w32))

-- the laws of session keys
pub key_laws : Laws IsKey key key_at
unfolding key_at
key_laws = iso_laws key_of (λ k. (k.initiator, k.number)) (λ _. refl) (λ _. refl) (pair_laws party_laws u32_laws)

-- ---- Identity: party, u8 nodes (1 to 16), party notary

-- the limits of an identity
abbrev pub IsIdentity : Identity → Type 0
IsIdentity i = IsParty i.party × (IsBetween 1 17 i.nodes × IsParty i.notary)

-- the spelling of an identity
abbrev pub identity : Identity → List ℕ
identity i = party i.party ++ (i.nodes ∷ party i.notary)

-- an identity of its fields
abbrev identity_of : Party × (ℕ × Party) → Identity
identity_of p = record { party = p.0; nodes = p.1.0; notary = p.1.1 }

-- reading an identity
unfoldable pub identity_at : List ℕ → Result (Identity × List ℕ) ℕ
identity_at = mapped_at identity_of (pair_at party_at (pair_at (between_at 1 17) party_at))

-- the laws of identities
pub identity_laws : Laws IsIdentity identity identity_at
unfolding identity_at
identity_laws = iso_laws identity_of (λ i. (i.party, (i.nodes, i.notary))) (λ _. refl) (λ _. refl) (pair_laws party_laws (pair_laws (between_laws 1 17 (omega arith)) party_laws))
