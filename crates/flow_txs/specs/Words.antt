-- What words of these flows are: a currency code, and the id of a transaction, which names an output together with a place.
use Rattle.std.specs.Prelude.{◌≡◌, ℕ, ◌≤◌, ◌^◌, ◌&&◌, nat_le, List, [], ◌∷◌, length, Option, Some, None, Result, Ok, Err, Bool, true, false, refl, if◌then◌else◌}
use Rattle.std.proofs.Common.{arith, subst, sym, ◌∙◌}
use Rattle.std.proofs.lemmas.Bool.{leb-true, and_parts}
use Rattle.hex.specs.Hex.{decode_sized}
use Rattle.hex.specs.declared.error.FromHexError.{FromHexError}
use Rattle.hex.proofs.HexLemmas.{decode_sized-ok, decode_sized-twice, decode_of-ok}
use Rattle.net_base.specs.declared.names.StateRef.{StateRef}
use Rattle.net_base.specs.Laws.{Laws}
use Rattle.net_base.specs.Combining.{mapped_at, mapped_laws, pair_at, pair_laws, iso_laws}
use Rattle.net_base.specs.Kinds.{between_at, between_laws}
use Rattle.net_base.specs.Names.{IsLetter, IsCode, IsStateRef}
use Rattle.net_base.specs.Values.{IsHash, hash, hash_at, hash_laws}
use Rattle.flow_forms.specs.Arguments.{word_below, word_is_below}
use Rattle.flow_forms.specs.Sizes.{hash_fits}
use Rattle.flow_txs.specs.declared.words.Code.{Code}
use Rattle.flow_txs.specs.declared.words.TxId.{TxId}

-- ---- a currency code

-- a letter A to Z
abbrev pub is_letter : ℕ → Bool
is_letter b = nat_le 65 b && nat_le b 90

-- three letters
abbrev pub code_of_letters : ℕ → ℕ → ℕ → Option Code
code_of_letters a b c = if is_letter a && (is_letter b && is_letter c) then Some (record { 0 = a ∷ b ∷ c ∷ [] }) else None

-- the code that a word is: its three bytes are letters
abbrev pub code_of_word : List ℕ → Option Code
code_of_word (a ∷ b ∷ c ∷ []) = code_of_letters a b c
code_of_word other = None

-- the limits of a code
abbrev pub IsCurrency : Code → Type 0
IsCurrency c = IsCode c.0

-- a code is spelt by its three bytes
abbrev pub code : Code → List ℕ
code c = c.0

-- a code of its letters
abbrev code_of : ℕ × (ℕ × ℕ) → Code
code_of p = record { 0 = p.0 ∷ p.1.0 ∷ p.1.1 ∷ [] }

-- reading a code
unfoldable pub code_at : List ℕ → Result (Code × List ℕ) ℕ
code_at = mapped_at code_of (pair_at (between_at 65 91) (pair_at (between_at 65 91) (between_at 65 91)))

-- ---- what names an output

-- an id of bytes that were read
abbrev pub id_in : Result (List ℕ) FromHexError → Option TxId
id_in (Ok bytes) = Some (record { 0 = record { 0 = bytes } })
id_in (Err e) = None

-- the id that a word is: 64 hexadecimal digits, in either case
abbrev pub id_of : List ℕ → Option TxId
id_of word = id_in (decode_sized word 32)

-- the limits of an id
abbrev pub IsTxId : TxId → Type 0
IsTxId t = IsHash t.0

-- an id is spelt by its 32 bytes
abbrev pub tx_id : TxId → List ℕ
tx_id t = hash t.0

-- reading an id
unfoldable pub tx_id_at : List ℕ → Result (TxId × List ℕ) ℕ
tx_id_at = mapped_at (λ h. record { 0 = h }) hash_at

-- both, where each was read
abbrev pub reference_in : Option TxId → Option ℕ → Option StateRef
reference_in None index = None
reference_in (Some id) None = None
reference_in (Some id) (Some index) = Some (record { id = id.0; index = index })

-- the reference that two words are: an id, and a number below 2 ^ 32
abbrev pub reference_of : List ℕ → List ℕ → Option StateRef
reference_of id index = reference_in (id_of id) (word_below (2 ^ 32) index)

-- ---- laws

letter_laws : Laws IsLetter (λ (b : ℕ). b ∷ []) (between_at 65 91)
letter_laws = between_laws 65 91 (omega arith)

-- the letters of a code
letters : (c : Code) (bytes : List ℕ) → c.0 ≡ bytes → IsCode bytes → (p : ℕ × (ℕ × ℕ)) × ((IsLetter p.0 × (IsLetter p.1.0 × IsLetter p.1.1)) × (c.0 ≡ p.0 ∷ p.1.0 ∷ p.1.1 ∷ []))
letters c (x ∷ y ∷ z ∷ []) e h = ((x, (y, z)), (h, e))
letters c other e h = absurd h

-- the laws of codes
pub code_laws : Laws IsCurrency code code_at
unfolding code_at
code_laws =
    mapped_laws code_of (pair_laws letter_laws (pair_laws letter_laws letter_laws)) (record {
      keeps = λ p h. (h, refl);
      from = λ c h. let l = letters c c.0 refl h in (l.0, (l.1.0, λ i. record { 0 = sym l.1.1 i }));
    })

letter_is : (b : ℕ) → is_letter b ≡ true → IsLetter b
letter_is b h = let p = and_parts (nat_le 65 b) (nat_le b 90) h in (leb-true 65 b p.0, omega (arith, leb-true b 90 p.1))

letters_are : (a b c : ℕ) (test : Bool) (x : Code) → (is_letter a && (is_letter b && is_letter c)) ≡ test → (if test then Some (record { 0 = a ∷ b ∷ c ∷ [] }) else None) ≡ Some x → IsCurrency x
letters_are a b c true x is e =
    let one = and_parts (is_letter a) (is_letter b && is_letter c) is in
    let rest = and_parts (is_letter b) (is_letter c) one.1 in
    let given : Code = record { 0 = a ∷ b ∷ c ∷ [] } in
    let same : given ≡ x = cc in
    subst IsCurrency same (letter_is a one.0, (letter_is b rest.0, letter_is c rest.1))
letters_are a b c false x is e = absurd cc

-- a code that was read has three letters
pub code_within : (word : List ℕ) (x : Code) → code_of_word word ≡ Some x → IsCurrency x
code_within (a ∷ b ∷ c ∷ []) x e = letters_are a b c (is_letter a && (is_letter b && is_letter c)) x refl e
code_within other x e = absurd cc

-- the laws of ids
pub tx_id_laws : Laws IsTxId tx_id tx_id_at
unfolding tx_id_at
tx_id_laws = iso_laws (λ h. record { 0 = h }) (λ t. t.0) (λ _. refl) (λ _. refl) hash_laws

-- an id has 32 bytes
pub tx_id_few : (t : TxId) → IsTxId t → length (tx_id t) ≤ 32
tx_id_few t h = hash_fits t.0 h

id_is : (bytes : Result (List ℕ) FromHexError) (t : TxId) → id_in bytes ≡ Some t → bytes ≡ Ok t.0.0
id_is (Ok bytes) t e = let given : TxId = record { 0 = record { 0 = bytes } } in let same : given ≡ t = cc in (λ i. Ok (same i).0.0)
id_is (Err f) t e = absurd cc

-- an id that was read has 32 bytes
pub id_within : (word : List ℕ) (t : TxId) → id_of word ≡ Some t → IsTxId t
id_within word t e =
    let read = id_is (decode_sized word 32) t e in
    let long = decode_sized-ok word 32 t.0.0 read in
    let half = (decode_of-ok word t.0.0 (sym (decode_sized-twice word 32 long) ∙ read)).2 in
    omega (arith, long, half)

reference_is : (id : Option TxId) (index : Option ℕ) (r : StateRef) → reference_in id index ≡ Some r → (id ≡ Some (record { 0 = r.id })) × (index ≡ Some r.index)
reference_is None index r e = absurd cc
reference_is (Some id) None r e = absurd cc
reference_is (Some id) (Some index) r e = let same : id.0 ≡ r.id = cc in ((λ i. Some (record { 0 = same i })), cc)

-- a reference that was read is within its limits
pub reference_within : (id index : List ℕ) (r : StateRef) → reference_of id index ≡ Some r → IsStateRef r
reference_within id index r e =
    let both = reference_is (id_of id) (word_below (2 ^ 32) index) r e in
    (id_within id (record { 0 = r.id }) both.0, word_is_below (2 ^ 32) index r.index both.1)
