-- How flows of a machine begin: by words and arguments of a class, by an Init of a class, or by a call alone.
use Rattle.std.specs.Prelude.{◌≡◌, ℕ, ◌≤◌, ◌==◌, nat_le, List, [], ◌∷◌, length, Option, Some, None, Result, Ok, Err, IfOk, Bool, true, false, refl, if◌then◌else◌}
use Rattle.std.specs.Str.{bytes_eq}
use Rattle.std.proofs.Common.{arith, subst, sym}
use Rattle.std.proofs.lemmas.Bool.{eqb-true, leb-true}
use Rattle.net_base.specs.declared.names.Key.{Key}
use Rattle.net_base.specs.declared.names.Tag.{Tag}
use Rattle.net_base.specs.Names.{IsKey}
use Rattle.net_base.specs.Laws.{LawsIf}
use Rattle.flow_machine.specs.declared.acts.Place.{Place}
use Rattle.flow_machine.specs.declared.flow_set.WordFault.{WordFault}
use Rattle.flow_machine.specs.declared.flow_set.WordFault.TheVariants as word
use Rattle.flow_machine.specs.declared.flow_set.MakeFault.{MakeFault}
use Rattle.flow_machine.specs.declared.flow_set.MakeFault.TheVariants as make
use Rattle.flow_machine.specs.Limits.{IsPlace}
use Rattle.flow_forms.specs.Calls.{load_of}
use Rattle.flow_forms.specs.Forms.{Form}
use Rattle.flow_forms.specs.FormLaws.{Way, IsWay}
use Rattle.flow_forms.specs.Arguments.{whole_of, spelt_in}

-- ---- by words

-- the class and the arguments in bytes
abbrev pub words_of : {A : Type 0} → ℕ → (A → List ℕ) → Option A → Result (ℕ × List ℕ) WordFault
words_of class spelling None = Err word.BadArgs
words_of class spelling (Some a) = Ok (class, spelling a)

-- the fields of a flow whose arguments are in range
abbrev pub fields_of : {S : Type 0} → Option S → Result S MakeFault
fields_of None = Err make.BadArgs
fields_of (Some s) = Ok s

-- a flow begins with its arguments
abbrev pub begins_of : {A S : Type 0} → (A → Place → Option S) → Place → Result A MakeFault → Result S MakeFault
begins_of begins here (Ok a) = fields_of (begins a here)
begins_of begins here (Err e) = Err e

-- a flow of a class of this name and number
abbrev pub by_words : {A S : Type 0} → List ℕ → ℕ → (List (List ℕ) → Option A) → (A → List ℕ) → (List ℕ → Result (A × List ℕ) ℕ) → (A → Place → Option S) → Way S
by_words name number words spelling reading begins = record {
  worded = λ class args. if bytes_eq class name then words_of number spelling (words args) else Err word.UnknownClass;
  made = λ class args here. if class == number then begins_of begins here (spelt_in reading args) else Err make.UnknownClass;
  begun = λ class k. None;
}

-- The arguments of a class give fields within their limits, and none of these has a tag.
abbrev pub BeginsWithin : {A S : Type 0} → (A → Type 0) → (S → Type 0) → (S → List Tag) → (A → Place → Option S) → Type 0
BeginsWithin {A} {S} argued within tags begins = (a : A) (here : Place) (s : S) → begins a here ≡ Some s → (argued a → IsPlace here → within s) × (tags s ≡ [])

-- what is given where a test holds
pub if_some : {S : Type 0} (test : Bool) {s t : S} → (if test then Some s else None) ≡ Some t → (test ≡ true) × (s ≡ t)
if_some true e = (refl, cc)
if_some false e = absurd cc

-- what was made, was made of arguments that all of the bytes spell
made_whole : {A S : Type 0} (begins : A → Place → Option S) (here : Place) (r : Result (A × List ℕ) ℕ) (s : S) → begins_of begins here (whole_of r) ≡ Ok s → (a : A) × ((r ≡ Ok (a, [])) × (fields_of (begins a here) ≡ Ok s))
made_whole begins here (Ok (a, [])) s e = (a, (refl, e))
made_whole begins here (Ok (a, b ∷ more)) s e = absurd cc
made_whole begins here (Err n) s e = absurd cc

fields_are : {S : Type 0} (o : Option S) (s : S) → fields_of o ≡ Ok s → o ≡ Some s
fields_are None s e = absurd cc
fields_are (Some t) s e = cc

made_few : {A S : Type 0} (begins : A → Place → Option S) (here : Place) (reading : List ℕ → Result (A × List ℕ) ℕ) (args : List ℕ) (s : S) (few : Bool) → nat_le (length args) 65535 ≡ few → begins_of begins here (if few then whole_of (reading args) else Err make.BadArgs) ≡ Ok s
    → (length args ≤ 65535) × (begins_of begins here (whole_of (reading args)) ≡ Ok s)
made_few begins here reading args s true is e = (leb-true (length args) 65535 is, e)
made_few begins here reading args s false is e = absurd cc

made_known : {S : Type 0} (made : Result S MakeFault) (s : S) (known : Bool) → (if known then made else Err make.UnknownClass) ≡ Ok s → made ≡ Ok s
made_known made s true e = e
made_known made s false e = absurd cc

few_words_by : {A : Type 0} (argued : A → Type 0) (number most : ℕ) (spelling : A → List ℕ) (o : Option A) (named : Bool) → ((a : A) → o ≡ Some a → argued a) → ((a : A) → argued a → length (spelling a) ≤ most) → most ≤ 65535
    → IfOk (if named then words_of number spelling o else Err word.UnknownClass) (λ words. length words.1 ≤ 65535)
few_words_by argued number most spelling o false are few fit = tt
few_words_by argued number most spelling None true are few fit = tt
few_words_by argued number most spelling (Some a) true are few fit = omega (arith, few a (are a refl), fit)

known_by : {A : Type 0} (number : ℕ) (spelling : A → List ℕ) (o p : Option A) (named : Bool) → (if named then words_of number spelling o else Err word.UnknownClass) ≡ Err word.UnknownClass → (if named then words_of number spelling p else Err word.UnknownClass) ≡ Err word.UnknownClass
known_by number spelling None p true e = absurd cc
known_by number spelling (Some a) p true e = absurd cc
known_by number spelling o p false e = refl

-- what is asked of how flows begin, of those that words begin
pub by_words_laws : {P A S : Type 0} {argued : A → Type 0} {exact : Type 0} (within : S → Type 0) (form : Form P S) (name : List ℕ) (number most : ℕ) (words : List (List ℕ) → Option A) (spelling : A → List ℕ) (reading : List ℕ → Result (A × List ℕ) ℕ) (begins : A → Place → Option S)
    → LawsIf exact argued spelling reading → ((given : List (List ℕ)) (a : A) → words given ≡ Some a → argued a) → ((a : A) → argued a → length (spelling a) ≤ most) → most ≤ 65535 → BeginsWithin argued within form.tags begins → IsWay within form (by_words name number words spelling reading begins)
by_words_laws {P} {A} {S} {argued} within form name number most words spelling reading begins laws are few fit well = record {
  made = λ class args here s e.
      let known = made_known (begins_of begins here (spelt_in reading args)) s (class == number) e in
      let f = made_few begins here reading args s (nat_le (length args) 65535) refl known in
      let m = made_whole begins here (reading args) s f.1 in
      let b = well m.0 here s (fields_are (begins m.0 here) s m.1.1) in
      ((λ fits place. b.0 (laws.takes args (m.0, []) fits m.1.0).1 place), (b.1, f.0));
  begun = λ class k s e. absurd cc;
  few_words = λ class args. few_words_by argued number most spelling (words args) (bytes_eq class name) (are args) few fit;
  named = λ class args more e. known_by number spelling (words args) (words more) (bytes_eq class name) e;
}

-- ---- by an Init

-- a flow that answers an Init of a class
abbrev pub by_init : {S : Type 0} → ℕ → (Key → S) → Way S
by_init number answers = record {
  worded = λ class args. Err word.UnknownClass;
  made = λ class args here. Err make.UnknownClass;
  begun = λ class k. if class == number then Some (answers k) else None;
}

-- The fields of a flow that answers are within their limits and have no tag, and it causes no more than is said of an Init of its class.
abbrev pub AnswersWithin : {P S : Type 0} → (S → Type 0) → Form P S → ℕ → (Key → S) → Type 0
AnswersWithin within form number answers = (k : Key) → (IsKey k → within (answers k)) × ((form.tags (answers k) ≡ []) × (form.called (answers k) ≤ load_of number))

begun_known : {P S : Type 0} (within : S → Type 0) (form : Form P S) (number class : ℕ) (answers : Key → S) (k : Key) (s : S) (known : Bool) → AnswersWithin within form number answers → (class == number) ≡ known → (if known then Some (answers k) else None) ≡ Some s
    → (IsKey k → within s) × ((form.tags s ≡ []) × (form.called s ≤ load_of class))
begun_known {P} {S} within form number class answers k s true well is e =
    let same : answers k ≡ s = cc in
    let one : number ≡ class = sym (eqb-true class number is) in
    let w = well k in
    subst (λ (t : S). (IsKey k → within t) × ((form.tags t ≡ []) × (form.called t ≤ load_of class))) same (w.0, (w.1.0, subst (λ (n : ℕ). form.called (answers k) ≤ load_of n) one w.1.1))
begun_known within form number class answers k s false well is e = absurd cc

-- what is asked of how flows begin, of those that answer
pub by_init_laws : {P S : Type 0} (within : S → Type 0) (form : Form P S) (number : ℕ) (answers : Key → S) → AnswersWithin within form number answers → IsWay within form (by_init number answers)
by_init_laws within form number answers well = record {
  made = λ class args here s e. absurd cc;
  begun = λ class k s e. begun_known within form number class answers k s (class == number) well refl e;
  few_words = λ class args. tt;
  named = λ class args more e. refl;
}
