-- Reading all of some bytes, over the laws of any spelling.
use Rattle.std.proofs.Common.{◌≡◌, ℕ, List, [], ◌∷◌, Option, Some, None, Result, Ok, Err, IfOk, refl, sym, ap, ◌∙◌}
use Rattle.std.proofs.lemmas.List.{append-nil}
use Rattle.net_base.specs.Reading.{IsBytes}
use Rattle.net_base.specs.Laws.{LawsIf, done}
use Rattle.net_base.specs.Parts.{DecodesIfSpelt}
use Rattle.flow_records.specs.Records.{if_last, whole}

-- what is spelt is read whole
pub whole_again : {V : Type 0} {within : V → Type 0} {spelling : V → List ℕ} {reading : List ℕ → Result (V × List ℕ) ℕ} {exact : Type 0} → LawsIf exact within spelling reading → (v : V) → within v → whole (reading (spelling v)) ≡ Some v
whole_again {V} {within} {spelling} {reading} laws v h = ap whole (ap reading (sym (append-nil (spelling v))) ∙ laws.again v [] h)

-- what is last has nothing behind it
last_is : {X : Type 0} (x y : X) (rest : List ℕ) → if_last x rest ≡ Some y → (x ≡ y) × (rest ≡ [])
last_is x y [] e = (cc, refl)
last_is x y (b ∷ rest) e = absurd cc

-- what was read whole was read with nothing behind it
whole_is : {X : Type 0} (r : Result (X × List ℕ) ℕ) (y : X) → whole r ≡ Some y → r ≡ done (y, [])
whole_is {X} (Ok x) y e =
    let last = last_is x.0 y x.1 e in
    λ i. done (last.0 i, last.1 i)
whole_is (Err n) y e = absurd cc

-- what is read whole is spelt so
pub whole_takes : {V : Type 0} {within : V → Type 0} {spelling : V → List ℕ} {reading : List ℕ → Result (V × List ℕ) ℕ} {exact : Type 0} → LawsIf exact within spelling reading → (bytes : List ℕ) (v : V) → IsBytes bytes → whole (reading bytes) ≡ Some v → within v × (bytes ≡ spelling v)
whole_takes {V} {within} {spelling} {reading} laws bytes v fits e =
    let t = laws.takes bytes (v, []) fits (whole_is (reading bytes) v e) in
    (t.1, t.0 ∙ append-nil (spelling v))

-- nothing, where it is no value
none_or : {X : Type 0} (o : Option X) → ((x : X) → o ≡ Some x → ⊥) → o ≡ None
none_or None none = refl
none_or (Some x) none = absurd (none x refl)

-- what is no value's spelling is not read whole
pub whole_none : {V : Type 0} {within : V → Type 0} {spelling : V → List ℕ} {reading : List ℕ → Result (V × List ℕ) ℕ} {exact : Type 0} → LawsIf exact within spelling reading → (bytes : List ℕ) → IsBytes bytes → ((v : V) → within v → bytes ≡ spelling v → ⊥) → whole (reading bytes) ≡ None
whole_none {V} {within} {spelling} {reading} laws bytes fits none =
    none_or (whole (reading bytes)) (λ v e. let t = whole_takes laws bytes v fits e in none v t.0 t.1)

-- what all of the bytes are decoded to is what is read whole
pub whole_of : {V : Type 0} {within : V → Type 0} {spelling : V → List ℕ} {reading : List ℕ → Result (V × List ℕ) ℕ} {exact : Type 0} → LawsIf exact within spelling reading → (bytes : List ℕ) → IsBytes bytes → (r : Option V) → DecodesIfSpelt within spelling r bytes → r ≡ whole (reading bytes)
whole_of {V} {within} {spelling} {reading} laws bytes fits (Some v) h = sym (ap (λ (b : List ℕ). whole (reading b)) h.1 ∙ whole_again laws v h.0)
whole_of laws bytes fits None h = sym (whole_none laws bytes fits h)

-- one fact of what is returned by another
pub if_ok : {X E : Type 0} {P Q : X → Type 0} (r : Result X E) → ((x : X) → P x → Q x) → IfOk r P → IfOk r Q
if_ok (Ok x) by h = by x h
if_ok (Err e) by h = tt
