-- The words of a class, and the flow that begins by them.
use Rattle.std.specs.Prelude.{◌≡◌, ℕ, List, Option, Some, Result, Ok}
use Rattle.flow_forms.specs.Ways.{by_words, fields_of}
use Rattle.flow_machine.specs.declared.acts.Place.{Place}

-- The class and the bytes that words of this name give begin a flow by the arguments of these words, where they are in range.
abbrev pub BeginsByWords : {A S : Type 0} → List ℕ → ℕ → (List (List ℕ) → Option A) → (A → List ℕ) → (List ℕ → Result (A × List ℕ) ℕ) → (A → Place → Option S) → Type 0
BeginsByWords {A} {S} name number words spelling reading begins = (given : List (List ℕ)) (class : ℕ) (bytes : List ℕ) (here : Place) → (by_words name number words spelling reading begins).worded name given ≡ Ok (class, bytes)
    → (a : A) × ((words given ≡ Some a) × ((by_words name number words spelling reading begins).made class bytes here ≡ fields_of (begins a here)))
