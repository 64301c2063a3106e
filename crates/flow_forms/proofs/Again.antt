-- The bytes that words give are read again as the arguments of these words.
use Rattle.std.specs.Prelude.{◌≡◌, ℕ, ◌≤◌, ◌==◌, nat_le, List, [], length, Option, Some, None, Result, Ok, Err, Bool, true, refl, if◌then◌else◌}
use Rattle.std.specs.Str.{bytes_eq}
use Rattle.std.proofs.Common.{arith, ap, sym, subst, ◌∙◌}
use Rattle.std.proofs.lemmas.Bool.{le-leb, eq-eqb}
use Rattle.std.proofs.lemmas.List.{append-nil}
use Rattle.std.proofs.lemmas.Slice.Eq.{bytes_eq-Decides}
use Rattle.net_base.specs.Laws.{LawsIf, done}
use Rattle.flow_machine.specs.declared.acts.Place.{Place}
use Rattle.flow_machine.specs.declared.flow_set.WordFault.{WordFault}
use Rattle.flow_machine.specs.declared.flow_set.WordFault.TheVariants as word
use Rattle.flow_machine.specs.declared.flow_set.MakeFault.{MakeFault}
use Rattle.flow_machine.specs.declared.flow_set.MakeFault.TheVariants as make
use Rattle.flow_forms.specs.Arguments.{spelt_in}
use Rattle.flow_forms.specs.Ways.{words_of, fields_of, begins_of, by_words}
use Rattle.flow_forms.specs.Again.{BeginsByWords}

-- arguments within their limits, which are short, are read from their bytes
read_again : {A : Type 0} {argued : A → Type 0} {exact : Type 0} (spelling : A → List ℕ) (reading : List ℕ → Result (A × List ℕ) ℕ) (a : A) → LawsIf exact argued spelling reading → argued a → length (spelling a) ≤ 65535 → spelt_in reading (spelling a) ≡ Ok a
read_again spelling reading a laws h short =
    let few : nat_le (length (spelling a)) 65535 ≡ true = le-leb (length (spelling a)) 65535 short in
    let read : reading (spelling a) ≡ done (a, []) = ap reading (sym (append-nil (spelling a))) ∙ laws.again a [] h in
    rw (few, read) refl

-- what words gave, they gave of arguments, in the class
given : {A : Type 0} (number class : ℕ) (spelling : A → List ℕ) (read : Option A) (bytes : List ℕ) → words_of number spelling read ≡ Ok (class, bytes) → (a : A) × ((read ≡ Some a) × ((number ≡ class) × (spelling a ≡ bytes)))
given number class spelling None bytes e = absurd cc
given number class spelling (Some a) bytes e =
    let same : (number, spelling a) ≡ (class, bytes) = cc in
    (a, (refl, (ap (λ (p : ℕ × List ℕ). p.0) same, ap (λ (p : ℕ × List ℕ). p.1) same)))

pub begins_again : {A S : Type 0} {argued : A → Type 0} {exact : Type 0} (name : List ℕ) (number most : ℕ) (words : List (List ℕ) → Option A) (spelling : A → List ℕ) (reading : List ℕ → Result (A × List ℕ) ℕ) (begins : A → Place → Option S)
    → LawsIf exact argued spelling reading → ((given : List (List ℕ)) (a : A) → words given ≡ Some a → argued a) → ((a : A) → argued a → length (spelling a) ≤ most) → most ≤ 65535
    → BeginsByWords name number words spelling reading begins
begins_again {A} {S} name number most words spelling reading begins laws are few fit asked class bytes here e =
    let named : bytes_eq name name ≡ true = (bytes_eq-Decides name name).1 refl in
    let unnamed : Result (ℕ × List ℕ) WordFault = Err word.UnknownClass in
    let took = ap (λ (b : Bool). if b then words_of number spelling (words asked) else unnamed) (sym named) ∙ e in
    let g = given number class spelling (words asked) bytes took in
    let known : (number == number) ≡ true = eq-eqb number number refl in
    let within = are asked g.0 g.1.0 in
    let read = read_again spelling reading g.0 laws within (omega (arith, few g.0 within, fit)) in
    let other : Result S MakeFault = Err make.UnknownClass in
    let made : (if number == number then begins_of begins here (spelt_in reading (spelling g.0)) else other) ≡ fields_of (begins g.0 here) = ap (λ (b : Bool). if b then begins_of begins here (spelt_in reading (spelling g.0)) else other) known ∙ ap (begins_of begins here) read in
    let way = by_words name number words spelling reading begins in
    (g.0, (g.1.0, subst (λ (n : ℕ). way.made n bytes here ≡ fields_of (begins g.0 here)) g.1.1.0 (subst (λ (b : List ℕ). way.made number b here ≡ fields_of (begins g.0 here)) g.1.1.1 made)))
