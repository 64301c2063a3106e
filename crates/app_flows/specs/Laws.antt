-- The laws of all machines, a group at a time, from the laws that each machine's own definitions prove.
use Rattle.std.specs.Prelude.{◌≡◌, ℕ, ◌+◌, ◌≤◌, ◌<◌, ◌^◌, List, [], ◌∷◌, ◌++◌, Bool, Option, Some, Result, length, true, false, codes, refl}
use Rattle.std.specs.Int.{w16, w32, w64}
use Rattle.std.proofs.Common.{arith}
use Rattle.net_base.specs.Laws.{LawsIf}
use Rattle.net_base.specs.Reading.{number}
use Rattle.net_base.specs.Forms.{byte_at, number_at}
use Rattle.net_base.specs.Fields.{byte_laws, u16_laws, u32_laws, u64_laws}
use Rattle.net_base.specs.Combining.{mapped_at, pair_at}
use Rattle.ledger_types.proofs.Sizes.{code_fits}
use Rattle.flow_machine.specs.declared.acts.Place.{Place}
use Rattle.flow_forms.specs.Arguments.{then_of, then_words, then_laws, then_within, then_few, word_below, word_is_below, no_words, end_at, end_laws, few8, few16, few32, few64}
use Rattle.flow_forms.specs.Bytes.{Numbers, IsFrame, placed, are_placed, body_of, content_of}
use Rattle.flow_forms.specs.Forms.{Form}
use Rattle.flow_forms.specs.Forms.{IsForm}
use Rattle.flow_forms.specs.FormLaws.{Way, IsWay, no_way, no_way_laws, part_of, frame_laws}
use Rattle.flow_forms.specs.Kept.{Kept}
use Rattle.flow_forms.specs.Parts.{PartLaws}
use Rattle.flow_forms.specs.Ways.{BeginsWithin, AnswersWithin, by_words, by_words_laws, by_init, by_init_laws}
use Rattle.flow_forms.specs.declared.arguments.End.{End}
use Rattle.flow_forms.specs.declared.arguments.Then.{Then}
use Rattle.flow_txs.specs.Words.{code_of_word, code_within, IsCurrency, code, code_at, code_laws, id_of, id_within, IsTxId, tx_id, tx_id_at, tx_id_laws, tx_id_few}
use Rattle.cash_flows.specs.Options.{options_of, options_within, ArePayOptions, pay_options, pay_options_at, pay_options_laws, options_few}

-- ---- arguments

-- one word as an argument
pub record IsWord {A : Type 0} (exact : Type 0) (within : A → Type 0) (spelling : A → List ℕ) (reading : List ℕ → Result (A × List ℕ) ℕ) (most : ℕ) (worded : List ℕ → Option A) : Type 0 where
  pub laws : LawsIf exact within spelling reading
  pub are : (word : List ℕ) (a : A) → worded word ≡ Some a → within a
  pub few : (a : A) → within a → length (spelling a) ≤ most

-- words as arguments
pub record AreWords {A : Type 0} (exact : Type 0) (within : A → Type 0) (spelling : A → List ℕ) (reading : List ℕ → Result (A × List ℕ) ℕ) (most : ℕ) (worded : List (List ℕ) → Option A) : Type 0 where
  pub laws : LawsIf exact within spelling reading
  pub are : (words : List (List ℕ)) (a : A) → worded words ≡ Some a → within a
  pub few : (a : A) → within a → length (spelling a) ≤ most

pub then : {A B : Type 0} {ea eb : Type 0} {wa : A → Type 0} {wb : B → Type 0} {sa : A → List ℕ} {sb : B → List ℕ} {ra : List ℕ → Result (A × List ℕ) ℕ} {rb : List ℕ → Result (B × List ℕ) ℕ} {most more : ℕ} {one : List ℕ → Option A} {rest : List (List ℕ) → Option B}
    → IsWord ea wa sa ra most one → AreWords eb wb sb rb more rest
    → AreWords (ea × eb) (λ (t : Then A B). wa t.first × wb t.rest) (λ (t : Then A B). sa t.first ++ sb t.rest) (mapped_at then_of (pair_at ra rb)) (most + more) (then_words one rest)
then {A} {B} {ea} {eb} {wa} {wb} {sa} {sb} {ra} {rb} {most} {more} {one} {rest} a b =
    record { laws = then_laws a.laws b.laws; are = then_within one rest a.are b.are; few = then_few sa sb most more a.few b.few }

pub end : AreWords (Unit {0}) (λ (e : End). Unit {0}) (λ (e : End). []) end_at 0 no_words
end = record { laws = end_laws; are = λ words v e. tt; few = λ v h. omega arith }

pub byte : IsWord (Unit {0}) (λ (n : ℕ). n < 256) (λ (n : ℕ). n ∷ []) byte_at 1 (word_below (2 ^ 8))
byte = record { laws = byte_laws; are = word_is_below (2 ^ 8); few = few8 }

pub short : IsWord (Unit {0}) (λ (n : ℕ). n < 2 ^ 16) (λ (n : ℕ). number w16 n) (number_at w16) 2 (word_below (2 ^ 16))
short = record { laws = u16_laws; are = word_is_below (2 ^ 16); few = few16 }

pub middle : IsWord (Unit {0}) (λ (n : ℕ). n < 2 ^ 32) (λ (n : ℕ). number w32 n) (number_at w32) 4 (word_below (2 ^ 32))
middle = record { laws = u32_laws; are = word_is_below (2 ^ 32); few = few32 }

pub long : IsWord (Unit {0}) (λ (n : ℕ). n < 2 ^ 64) (λ (n : ℕ). number w64 n) (number_at w64) 8 (word_below (2 ^ 64))
long = record { laws = u64_laws; are = word_is_below (2 ^ 64); few = few64 }

pub currency : IsWord (Unit {0}) IsCurrency code code_at 3 code_of_word
currency = record { laws = code_laws; are = code_within; few = λ c h. code_fits c.0 h }

pub id : IsWord (Unit {0}) IsTxId tx_id tx_id_at 32 id_of
id = record { laws = tx_id_laws; are = id_within; few = tx_id_few }

pub options : AreWords (Unit {0}) ArePayOptions pay_options pay_options_at 56 options_of
options = record { laws = pay_options_laws; are = options_within; few = options_few }

-- ---- machines

-- a class that words of these forms begin
pub worded : {P A S : Type 0} {exact : Type 0} {within : A → Type 0} {spelling : A → List ℕ} {reading : List ℕ → Result (A × List ℕ) ℕ} {most : ℕ} {words : List (List ℕ) → Option A} (kept : Kept S) (form : Form P S) (name : List ℕ) (class : ℕ) (begins : A → Place → Option S)
    → AreWords exact within spelling reading most words → most ≤ 65535 → BeginsWithin within kept.within form.tags begins → IsWay kept.within form (by_words name class words spelling reading begins)
worded {P} {A} {S} {exact} {within} {spelling} {reading} {most} {words} kept form name class begins a fit well = by_words_laws kept.within form name class most words spelling reading begins a.laws a.are a.few fit well

-- the frames of a machine
pub frames : {P S : Type 0} (callable : Bool) (numbers : Numbers P) (kept : Kept S) (form : Form P S) (way : Way S) (machine : ℕ) → IsForm kept.within form → IsWay kept.within form way
    → PartLaws (IsFrame (placed callable numbers) kept.within) (part_of form way (content_of (λ f. machine) (body_of (placed callable numbers) kept.spelling)))
frames callable numbers kept form way machine is_form is_way = frame_laws (placed callable numbers) (are_placed callable numbers) kept.within form way machine kept.spelling is_form is_way kept.short
