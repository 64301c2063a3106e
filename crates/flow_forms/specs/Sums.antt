-- The sum of two parts of a flow set: its laws follow from theirs.
use Rattle.std.specs.Prelude.{◌≡◌, ℕ, ◌≤◌, List, ◌∷◌, length, true, refl, Option, Some, None, Result, Ok, Err, IfOk}
use Rattle.std.proofs.Common.{◌⊎◌, inl, inr, subst}
use Rattle.net_base.specs.Reading.{IsBytes}
use Rattle.net_base.specs.Names.{IsKey}
use Rattle.flow_machine.specs.declared.acts.Act.{Act}
use Rattle.flow_machine.specs.declared.acts.Act.TheVariants as act
use Rattle.flow_machine.specs.declared.acts.Place.{Place}
use Rattle.flow_machine.specs.declared.acts.Resumed.{Resumed}
use Rattle.flow_machine.specs.declared.flow_set.WordFault.{WordFault}
use Rattle.flow_machine.specs.declared.flow_set.WordFault.TheVariants as word
use Rattle.flow_machine.specs.declared.flow_set.MakeFault.{MakeFault}
use Rattle.flow_machine.specs.declared.flow_set.MakeFault.TheVariants as make
use Rattle.flow_forms.specs.declared.calls.Call.{Call}
use Rattle.flow_forms.specs.declared.forms.Sum.{Sum}
use Rattle.flow_forms.specs.declared.forms.Sum.TheVariants as of
use Rattle.flow_forms.specs.Calls.{load_of}
use Rattle.flow_forms.specs.Parts.{Part, causes, is_just, BeginsWell, PartLaws}

-- ---- the sum

-- a frame of the first, and its act
abbrev pub left : {A B : Type 0} → A × Act Call → Sum A B × Act Call
left g = (of.First g.0, g.1)

-- a frame of the second, and its act
abbrev pub right : {A B : Type 0} → B × Act Call → Sum A B × Act Call
right g = (of.Second g.0, g.1)

-- what the second has where the first knows no such name
abbrev pub or_words : Result (ℕ × List ℕ) WordFault → Result (ℕ × List ℕ) WordFault → Result (ℕ × List ℕ) WordFault
or_words (Ok words) other = Ok words
or_words (Err word.UnknownClass) other = other
or_words (Err word.BadArgs) other = Err word.BadArgs
or_words (Err word.Memory) other = Err word.Memory

-- what the second makes seen as the sum's
abbrev pub made_right : {A B : Type 0} → Result (B × Act Call) MakeFault → Result (Sum A B × Act Call) MakeFault
made_right (Ok g) = Ok (right g)
made_right (Err e) = Err e

-- what the first makes, or the second where the first knows no such class
abbrev pub or_made : {A B : Type 0} → Result (A × Act Call) MakeFault → Result (B × Act Call) MakeFault → Result (Sum A B × Act Call) MakeFault
or_made (Ok g) other = Ok (left g)
or_made (Err make.UnknownClass) other = made_right other
or_made (Err make.BadArgs) other = Err make.BadArgs
or_made (Err make.Memory) other = Err make.Memory

-- what the second begins seen as the sum's
abbrev pub begun_right : {A B : Type 0} → Option (B × Act Call) → Option (Sum A B × Act Call)
begun_right None = None
begun_right (Some g) = Some (right g)

-- what the first begins, or else the second
abbrev pub or_begun : {A B : Type 0} → Option (A × Act Call) → Option (B × Act Call) → Option (Sum A B × Act Call)
or_begun (Some g) other = Some (left g)
or_begun None other = begun_right other

-- by which of the two it is
abbrev pub by_both : {A B X : Type 0} → (A → X) → (B → X) → Sum A B → X
by_both f g (of.First a) = f a
by_both f g (of.Second b) = g b

-- each goes on as in its part
abbrev pub next_of : {A B : Type 0} → Part A → Part B → Sum A B → Resumed → Place → Sum A B × Act Call
next_of one two (of.First a) with here = left (one.next a with here)
next_of one two (of.Second b) with here = right (two.next b with here)

-- what the flows of both mean
abbrev pub sum : {A B : Type 0} → Part A → Part B → Part (Sum A B)
sum one two = record {
  worded = λ class args. or_words (one.worded class args) (two.worded class args);
  made = λ class args here. or_made (one.made class args here) (two.made class args here);
  begun = λ class k here. or_begun (one.begun class k here) (two.begun class k here);
  next = next_of one two;
  content = by_both one.content two.content;
  weight = by_both one.weight two.weight;
  over = by_both one.over two.over;
  tags = by_both one.tags two.tags;
}

-- the limits of a frame
abbrev pub either : {A B : Type 0} → (A → Type 0) → (B → Type 0) → Sum A B → Type 0
either one two (of.First a) = one a
either one two (of.Second b) = two b

-- ---- what begins

just_left : {A B : Type 0} (one : Part A) (two : Part B) (f : A) (a : Act Call) → is_just one.over f a ≡ true → is_just (by_both one.over two.over) (of.First f) a ≡ true
just_left one two f (act.Return v) h = h
just_left one two f other h = h

just_right : {A B : Type 0} (one : Part A) (two : Part B) (f : B) (a : Act Call) → is_just two.over f a ≡ true → is_just (by_both one.over two.over) (of.Second f) a ≡ true
just_right one two f (act.Return v) h = h
just_right one two f other h = h

begins_left : {A B : Type 0} (wa : A → Type 0) (wb : B → Type 0) (one : Part A) (two : Part B) (given : Type 0) (here : Place) (g : A × Act Call) → BeginsWell wa one given here g → BeginsWell (either wa wb) (sum one two) given here (left g)
begins_left wa wb one two given here g well = record { limits = well.limits; bare = well.bare; just = just_left one two g.0 g.1 well.just }

begins_right : {A B : Type 0} (wa : A → Type 0) (wb : B → Type 0) (one : Part A) (two : Part B) (given : Type 0) (here : Place) (g : B × Act Call) → BeginsWell wb two given here g → BeginsWell (either wa wb) (sum one two) given here (right g)
begins_right wa wb one two given here g well = record { limits = well.limits; bare = well.bare; just = just_right one two g.0 g.1 well.just }

-- what is made in a sum is made in one of the two
made_either : {A B : Type 0} (a : Result (A × Act Call) MakeFault) (b : Result (B × Act Call) MakeFault) (g : Sum A B × Act Call) → or_made a b ≡ Ok g
    → ((x : A × Act Call) × ((a ≡ Ok x) × (left x ≡ g))) ⊎ ((x : B × Act Call) × ((b ≡ Ok x) × (right x ≡ g)))
made_either (Ok x) b g e = inl (x, (refl, cc))
made_either (Err make.UnknownClass) (Ok x) g e = inr (x, (refl, cc))
made_either (Err make.UnknownClass) (Err f) g e = absurd cc
made_either (Err make.BadArgs) b g e = absurd cc
made_either (Err make.Memory) b g e = absurd cc

-- what begins in a sum begins in one of the two
begun_either : {A B : Type 0} (a : Option (A × Act Call)) (b : Option (B × Act Call)) (g : Sum A B × Act Call) → or_begun a b ≡ Some g
    → ((x : A × Act Call) × ((a ≡ Some x) × (left x ≡ g))) ⊎ ((x : B × Act Call) × ((b ≡ Some x) × (right x ≡ g)))
begun_either (Some x) b g e = inl (x, (refl, cc))
begun_either None (Some x) g e = inr (x, (refl, cc))
begun_either None None g e = absurd cc

few_either : {A B : Type 0} (Q : Type 0) (a : Result (A × Act Call) MakeFault) (b : Result (B × Act Call) MakeFault) → IfOk a (λ x. Q) → IfOk b (λ x. Q) → IfOk (or_made a b) (λ x. Q)
few_either Q (Ok x) b ha hb = ha
few_either Q (Err make.UnknownClass) (Ok x) ha hb = hb
few_either Q (Err make.UnknownClass) (Err e) ha hb = tt
few_either Q (Err make.BadArgs) b ha hb = tt
few_either Q (Err make.Memory) b ha hb = tt

few_words_either : (a b : Result (ℕ × List ℕ) WordFault) → IfOk a (λ words. length words.1 ≤ 65535) → IfOk b (λ words. length words.1 ≤ 65535) → IfOk (or_words a b) (λ words. length words.1 ≤ 65535)
few_words_either (Ok x) b ha hb = ha
few_words_either (Err word.UnknownClass) b ha hb = hb
few_words_either (Err word.BadArgs) b ha hb = tt
few_words_either (Err word.Memory) b ha hb = tt

-- a name that the sum doesn't know neither knows
unknown_both : (a b : Result (ℕ × List ℕ) WordFault) → or_words a b ≡ Err word.UnknownClass → (a ≡ Err word.UnknownClass) × (b ≡ Err word.UnknownClass)
unknown_both (Ok x) b e = absurd cc
unknown_both (Err word.UnknownClass) b e = (refl, e)
unknown_both (Err word.BadArgs) b e = absurd cc
unknown_both (Err word.Memory) b e = absurd cc

unknown_sum : (a b : Result (ℕ × List ℕ) WordFault) → a ≡ Err word.UnknownClass → b ≡ Err word.UnknownClass → or_words a b ≡ Err word.UnknownClass
unknown_sum a b ha hb = rw (ha, hb) refl

-- ---- the laws

-- the laws of a sum
pub sum_laws : {A B : Type 0} (wa : A → Type 0) (wb : B → Type 0) (one : Part A) (two : Part B) → PartLaws wa one → PartLaws wb two → PartLaws (either wa wb) (sum one two)
sum_laws {A} {B} wa wb one two la lb = record {
  made = λ class args here g e.
      elim (made_either (one.made class args here) (two.made class args here) g e) [
        | inl m ↦ subst (λ (x : Sum A B × Act Call). BeginsWell (either wa wb) (sum one two) (IsBytes args) here x) m.1.1 (begins_left wa wb one two (IsBytes args) here m.0 (la.made class args here m.0 m.1.0))
        | inr m ↦ subst (λ (x : Sum A B × Act Call). BeginsWell (either wa wb) (sum one two) (IsBytes args) here x) m.1.1 (begins_right wa wb one two (IsBytes args) here m.0 (lb.made class args here m.0 m.1.0))
      ];
  begun = λ class k here g e.
      elim (begun_either (one.begun class k here) (two.begun class k here) g e) [
        | inl m ↦ subst (λ (x : Sum A B × Act Call). BeginsWell (either wa wb) (sum one two) (IsKey k) here x) m.1.1 (begins_left wa wb one two (IsKey k) here m.0 (la.begun class k here m.0 m.1.0))
        | inr m ↦ subst (λ (x : Sum A B × Act Call). BeginsWell (either wa wb) (sum one two) (IsKey k) here x) m.1.1 (begins_right wa wb one two (IsKey k) here m.0 (lb.begun class k here m.0 m.1.0))
      ];
  load = λ class k here g e.
      elim (begun_either (one.begun class k here) (two.begun class k here) g e) [
        | inl m ↦ subst (λ (x : Sum A B × Act Call). causes (by_both one.weight two.weight) x ≤ load_of class) m.1.1 (la.load class k here m.0 m.1.0)
        | inr m ↦ subst (λ (x : Sum A B × Act Call). causes (by_both one.weight two.weight) x ≤ load_of class) m.1.1 (lb.load class k here m.0 m.1.0)
      ];
  falls = elim [ of.First a ↦ la.falls a | of.Second b ↦ lb.falls b ];
  just = elim [ of.First a ↦ λ with here. just_left one two (one.next a with here).0 (one.next a with here).1 (la.just a with here) | of.Second b ↦ λ with here. just_right one two (two.next b with here).0 (two.next b with here).1 (lb.just b with here) ];
  fails = elim [ of.First a ↦ la.fails a | of.Second b ↦ lb.fails b ];
  tags = λ test. elim [ of.First a ↦ la.tags test a | of.Second b ↦ lb.tags test b ];
  limits = elim [ of.First a ↦ la.limits a | of.Second b ↦ lb.limits b ];
  short = elim [ of.First a ↦ la.short a | of.Second b ↦ lb.short b ];
  few_words = λ class args. few_words_either (one.worded class args) (two.worded class args) (la.few_words class args) (lb.few_words class args);
  few_args = λ class args here. few_either (length args ≤ 65535) (one.made class args here) (two.made class args here) (la.few_args class args here) (lb.few_args class args here);
  named = λ class args more e.
      let both = unknown_both (one.worded class args) (two.worded class args) e in
      unknown_sum (one.worded class more) (two.worded class more) (la.named class args more both.0) (lb.named class args more both.1);
}

-- a frame's own bytes in a sum
pub sum_contents : {A B : Type 0} (one : Part A) (two : Part B) {kind_a : A → ℕ} {kind_b : B → ℕ} {body_a : A → List ℕ} {body_b : B → List ℕ} → ((a : A) → one.content a ≡ kind_a a ∷ body_a a) → ((b : B) → two.content b ≡ kind_b b ∷ body_b b)
    → (f : Sum A B) → (sum one two).content f ≡ by_both kind_a kind_b f ∷ by_both body_a body_b f
sum_contents one two first second (of.First a) = first a
sum_contents one two first second (of.Second b) = second b
