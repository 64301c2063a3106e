-- The arguments of a class: a value a word, one after the other.
use Rattle.std.specs.Prelude.{◌≡◌, ℕ, ◌+◌, ◌<◌, ◌≤◌, ◌^◌, nat_lt, nat_le, List, [], ◌∷◌, ◌++◌, length, Option, Some, None, Result, Ok, Err, Bool, true, false, refl, if◌then◌else◌}
use Rattle.std.proofs.Common.{arith, length-append}
use Rattle.std.proofs.lemmas.Bool.{ltb-true}
use Rattle.net_base.specs.Numbers.{number_of}
use Rattle.std.specs.Int.{w16, w32, w64}
use Rattle.net_base.specs.Reading.{number}
use Rattle.net_base.specs.Kinds.{bare_laws}
use Rattle.ledger_types.proofs.Sizes.{number16_fits, number32_fits, number64_fits}
use Rattle.net_base.specs.Laws.{LawsIf, Laws}
use Rattle.net_base.specs.Combining.{mapped_at, pair_at, pair_laws, iso_laws}
use Rattle.flow_forms.specs.Bytes.{under}
use Rattle.flow_machine.specs.declared.flow_set.MakeFault.{MakeFault}
use Rattle.flow_machine.specs.declared.flow_set.MakeFault.TheVariants as make
use Rattle.flow_forms.specs.declared.arguments.End.{End}
use Rattle.flow_forms.specs.declared.arguments.Then.{Then}

-- ---- words

-- the number where it is below the limit
abbrev pub if_below : ℕ → Option ℕ → Option ℕ
if_below limit None = None
if_below limit (Some n) = if nat_lt n limit then Some n else None

-- the number below the limit that a word is
abbrev pub word_below : ℕ → List ℕ → Option ℕ
word_below limit word = if_below limit (number_of word)

-- both, where each is there
abbrev pub both : {A B : Type 0} → Option A → Option B → Option (Then A B)
both None rest = None
both (Some a) None = None
both (Some a) (Some b) = Some (record { first = a; rest = b })

-- no further word
abbrev pub no_words : List (List ℕ) → Option End
no_words [] = Some (record {})
no_words (word ∷ more) = None

-- a value of the first word, and the rest of the others
abbrev pub then_words : {A B : Type 0} → (List ℕ → Option A) → (List (List ℕ) → Option B) → List (List ℕ) → Option (Then A B)
then_words one rest [] = None
then_words one rest (word ∷ more) = both (one word) (rest more)

-- ---- bytes

-- one behind the other
abbrev pub then_of : {A B : Type 0} → A × B → Then A B
then_of p = record { first = p.0; rest = p.1 }

-- what all of the bytes spell
abbrev pub whole_of : {A : Type 0} → Result (A × List ℕ) ℕ → Result A MakeFault
whole_of (Ok (a, [])) = Ok a
whole_of (Ok (a, b ∷ more)) = Err make.BadArgs
whole_of (Err n) = Err make.BadArgs

-- the arguments that the bytes spell, of which there are at most 65,535
abbrev pub spelt_in : {A : Type 0} → (List ℕ → Result (A × List ℕ) ℕ) → List ℕ → Result A MakeFault
spelt_in reading bytes = if nat_le (length bytes) 65535 then whole_of (reading bytes) else Err make.BadArgs

-- ---- laws

pub then_laws : {A B : Type 0} {wa : A → Type 0} {sa : A → List ℕ} {ra : List ℕ → Result (A × List ℕ) ℕ} {wb : B → Type 0} {sb : B → List ℕ} {rb : List ℕ → Result (B × List ℕ) ℕ} {ea eb : Type 0} → LawsIf ea wa sa ra → LawsIf eb wb sb rb
    → LawsIf (ea × eb) (λ (t : Then A B). wa t.first × wb t.rest) (λ (t : Then A B). sa t.first ++ sb t.rest) (mapped_at then_of (pair_at ra rb))
then_laws one rest = iso_laws then_of (λ t. (t.first, t.rest)) (λ _. refl) (λ _. refl) (pair_laws (under (λ e. e.0) one) (under (λ e. e.1) rest))

-- a number that was taken is below the limit
below_is : (limit : ℕ) (o : Option ℕ) (n : ℕ) → if_below limit o ≡ Some n → n < limit
below_is limit None n e = absurd cc
below_is limit (Some m) n e = below_by limit m n (nat_lt m limit) refl e where
  below_by : (limit m n : ℕ) (test : Bool) → nat_lt m limit ≡ test → (if test then Some m else None) ≡ Some n → n < limit
  below_by limit m n true is e = let same : m ≡ n = cc in omega (arith, ltb-true m limit is, same)
  below_by limit m n false is e = absurd cc

pub word_is_below : (limit : ℕ) (word : List ℕ) (n : ℕ) → word_below limit word ≡ Some n → n < limit
word_is_below limit word n e = below_is limit (number_of word) n e

-- both were there
both_are : {A B : Type 0} (a : Option A) (b : Option B) (t : Then A B) → both a b ≡ Some t → (a ≡ Some t.first) × (b ≡ Some t.rest)
both_are None b t e = absurd cc
both_are (Some a) None t e = absurd cc
both_are (Some a) (Some b) t e = (cc, cc)

pub then_within : {A B : Type 0} {wa : A → Type 0} {wb : B → Type 0} (one : List ℕ → Option A) (rest : List (List ℕ) → Option B) → ((word : List ℕ) (a : A) → one word ≡ Some a → wa a) → ((words : List (List ℕ)) (b : B) → rest words ≡ Some b → wb b)
    → (words : List (List ℕ)) (t : Then A B) → then_words one rest words ≡ Some t → wa t.first × wb t.rest
then_within one rest first others [] t e = absurd cc
then_within one rest first others (word ∷ more) t e = let both = both_are (one word) (rest more) t e in (first word t.first both.0, others more t.rest both.1)

pub then_few : {A B : Type 0} {wa : A → Type 0} {wb : B → Type 0} (sa : A → List ℕ) (sb : B → List ℕ) (most more : ℕ) → ((a : A) → wa a → length (sa a) ≤ most) → ((b : B) → wb b → length (sb b) ≤ more) → (t : Then A B) → wa t.first × wb t.rest → length (sa t.first ++ sb t.rest) ≤ most + more
then_few sa sb most more few rest t h = omega (arith, length-append (sa t.first) (sb t.rest), few t.first h.0, rest t.rest h.1)

-- ---- single values

pub few8 : (n : ℕ) → n < 256 → length (n ∷ []) ≤ 1
few8 n h = omega arith

pub few16 : (n : ℕ) → n < 2 ^ 16 → length (number w16 n) ≤ 2
few16 n h = number16_fits n

pub few32 : (n : ℕ) → n < 2 ^ 32 → length (number w32 n) ≤ 4
few32 n h = number32_fits n

pub few64 : (n : ℕ) → n < 2 ^ 64 → length (number w64 n) ≤ 8
few64 n h = number64_fits n

-- reading nothing
abbrev pub end_at : List ℕ → Result (End × List ℕ) ℕ
end_at bytes = Ok (record {}, bytes)

pub end_laws : Laws (λ (e : End). Unit {0}) (λ (e : End). []) end_at
end_laws = bare_laws (record {}) tt refl (λ w h. refl)
