-- A machine has the flows of a table of one row, the sum of two parts those of both tables one behind the other, and a flow set is that of its part's table.
use Rattle.std.specs.Prelude.{◌≡◌, ℕ, List, [], ◌∷◌, ◌++◌, refl, Option, Some, None, Result, Ok, Err}
use Rattle.std.proofs.Common.{ap, ◌∙◌}
use Rattle.flow_machine.specs.declared.acts.Act.{Act}
use Rattle.flow_machine.specs.declared.acts.Act.TheVariants as act
use Rattle.flow_machine.specs.declared.flow_set.WordFault.{WordFault}
use Rattle.flow_machine.specs.declared.flow_set.WordFault.TheVariants as word
use Rattle.flow_machine.specs.declared.flow_set.MakeFault.{MakeFault}
use Rattle.flow_machine.specs.declared.flow_set.MakeFault.TheVariants as make
use Rattle.flow_forms.specs.declared.calls.Call.{Call}
use Rattle.flow_forms.specs.declared.forms.Sum.{Sum}
use Rattle.flow_forms.specs.declared.forms.Sum.TheVariants as of
use Rattle.flow_forms.specs.Closing.{made_by, begun_by}
use Rattle.flow_forms.specs.Frames.{Frame}
use Rattle.flow_forms.specs.Parts.{Part}
use Rattle.flow_forms.specs.Sums.{sum, or_words, or_made, or_begun, made_right, begun_right, left, right}
use Rattle.flow_forms.specs.Tables.{Row, row_part, FrameIn, no_part, table_part, moved, SameFlows}

-- ---- the same flows, once more

-- what is moved twice
pub made_twice : {F G H : Type 0} (one : G → F) (two : H → G) (made : Result (H × Act Call) MakeFault) → made_by (moved one) (made_by (moved two) made) ≡ made_by (moved (λ h. one (two h))) made
made_twice one two (Ok g) = refl
made_twice one two (Err e) = refl

pub begun_twice : {F G H : Type 0} (one : G → F) (two : H → G) (begun : Option (H × Act Call)) → begun_by (moved one) (begun_by (moved two) begun) ≡ begun_by (moved (λ h. one (two h))) begun
begun_twice one two (Some g) = refl
begun_twice one two None = refl

pub made_still : {F : Type 0} (made : Result (F × Act Call) MakeFault) → made ≡ made_by (moved (λ f. f)) made
made_still (Ok g) = refl
made_still (Err e) = refl

pub begun_still : {F : Type 0} (begun : Option (F × Act Call)) → begun ≡ begun_by (moved (λ f. f)) begun
begun_still (Some g) = refl
begun_still None = refl

-- a part has the flows of itself
itself : {F : Type 0} (part : Part F) → SameFlows (λ f. f) (λ f. f) part part
itself part = record {
  taken = λ f. refl;
  back = λ f. refl;
  worded = λ class args. refl;
  made = λ class args here. made_still (part.made class args here);
  begun = λ class k here. begun_still (part.begun class k here);
  next = λ f with here. refl;
  content = λ f. refl;
  weight = λ f. refl;
  over = λ f. refl;
  tags = λ f. refl;
}

-- flows that are the same as those that are the same as others
through : {F G H : Type 0} {one : Part F} {two : Part G} {three : Part H} (put : G → F) (take : F → G) (put_on : H → G) (take_on : G → H) → SameFlows put take one two → SameFlows put_on take_on two three → SameFlows (λ h. put (put_on h)) (λ f. take_on (take f)) one three
through {F} {G} {H} {one} {two} {three} put take put_on take_on a b = record {
  taken = λ h. ap take_on (a.taken (put_on h)) ∙ b.taken h;
  back = λ f. ap put (b.back (take f)) ∙ a.back f;
  worded = λ class args. a.worded class args ∙ b.worded class args;
  made = λ class args here. a.made class args here ∙ (ap (made_by (moved put)) (b.made class args here) ∙ made_twice put put_on (three.made class args here));
  begun = λ class k here. a.begun class k here ∙ (ap (begun_by (moved put)) (b.begun class k here) ∙ begun_twice put put_on (three.begun class k here));
  next = λ h with here. a.next (put_on h) with here ∙ ap (moved put) (b.next h with here);
  content = λ h. a.content (put_on h) ∙ b.content h;
  weight = λ h. a.weight (put_on h) ∙ b.weight h;
  over = λ h. a.over (put_on h) ∙ b.over h;
  tags = λ h. a.tags (put_on h) ∙ b.tags h;
}

-- ---- sums

-- each frame of a sum seen as another
abbrev each : {A B C D : Type 0} → (A → C) → (B → D) → Sum A B → Sum C D
each one two (of.First a) = of.First (one a)
each one two (of.Second b) = of.Second (two b)

pub made_each : {A B C D : Type 0} (one : A → C) (two : B → D) (a : Result (A × Act Call) MakeFault) (b : Result (B × Act Call) MakeFault) → or_made (made_by (moved one) a) (made_by (moved two) b) ≡ made_by (moved (each one two)) (or_made a b)
made_each one two (Ok g) b = refl
made_each one two (Err make.UnknownClass) (Ok g) = refl
made_each one two (Err make.UnknownClass) (Err e) = refl
made_each one two (Err make.BadArgs) b = refl
made_each one two (Err make.Memory) b = refl

pub begun_each : {A B C D : Type 0} (one : A → C) (two : B → D) (a : Option (A × Act Call)) (b : Option (B × Act Call)) → or_begun (begun_by (moved one) a) (begun_by (moved two) b) ≡ begun_by (moved (each one two)) (or_begun a b)
begun_each one two (Some g) b = refl
begun_each one two None (Some g) = refl
begun_each one two None None = refl

-- the sum of parts has the flows of the sum of those that have their flows
sums : {A B C D : Type 0} {a : Part A} {b : Part B} {c : Part C} {d : Part D} (put_a : C → A) (take_a : A → C) (put_b : D → B) (take_b : B → D) → SameFlows put_a take_a a c → SameFlows put_b take_b b d
    → SameFlows (each put_a put_b) (each take_a take_b) (sum a b) (sum c d)
sums {A} {B} {C} {D} {a} {b} {c} {d} put_a take_a put_b take_b one two = record {
  taken = elim [ of.First x ↦ ap (λ (y : C). of.First y) (one.taken x) | of.Second x ↦ ap (λ (y : D). of.Second y) (two.taken x) ];
  back = elim [ of.First x ↦ ap (λ (y : A). of.First y) (one.back x) | of.Second x ↦ ap (λ (y : B). of.Second y) (two.back x) ];
  worded = λ class args. λ i. or_words (one.worded class args i) (two.worded class args i);
  made = λ class args here. (λ i. or_made (one.made class args here i) (two.made class args here i)) ∙ made_each put_a put_b (c.made class args here) (d.made class args here);
  begun = λ class k here. (λ i. or_begun (one.begun class k here i) (two.begun class k here i)) ∙ begun_each put_a put_b (c.begun class k here) (d.begun class k here);
  next = elim [ of.First x ↦ λ with here. ap left (one.next x with here) | of.Second x ↦ λ with here. ap right (two.next x with here) ];
  content = elim [ of.First x ↦ one.content x | of.Second x ↦ two.content x ];
  weight = elim [ of.First x ↦ one.weight x | of.Second x ↦ two.weight x ];
  over = elim [ of.First x ↦ one.over x | of.Second x ↦ two.over x ];
  tags = elim [ of.First x ↦ one.tags x | of.Second x ↦ two.tags x ];
}

-- ---- nothing before, or behind

abbrev in_second : {B : Type 0} → Sum ⊥ B → B
in_second (of.First x) = absurd x
in_second (of.Second b) = b

pub made_second : {A B : Type 0} (b : Result (B × Act Call) MakeFault) → made_right {A = A} b ≡ made_by (moved (λ x. of.Second x)) b
made_second (Ok g) = refl
made_second (Err e) = refl

pub begun_second : {A B : Type 0} (b : Option (B × Act Call)) → begun_right {A = A} b ≡ begun_by (moved (λ x. of.Second x)) b
begun_second (Some g) = refl
begun_second None = refl

-- nothing and a part have the part's flows
after_none : {B : Type 0} (b : Part B) → SameFlows (λ x. of.Second x) in_second (sum no_part b) b
after_none b = record {
  taken = λ x. refl;
  back = elim [ of.First x ↦ absurd x | of.Second x ↦ refl ];
  worded = λ class args. refl;
  made = λ class args here. made_second (b.made class args here);
  begun = λ class k here. begun_second (b.begun class k here);
  next = λ x with here. refl;
  content = λ x. refl;
  weight = λ x. refl;
  over = λ x. refl;
  tags = λ x. refl;
}

abbrev in_first : {A : Type 0} → Sum A ⊥ → A
in_first (of.First a) = a
in_first (of.Second x) = absurd x

pub words_first : (a : Result (ℕ × List ℕ) WordFault) → a ≡ or_words a (Err word.UnknownClass)
words_first (Ok x) = refl
words_first (Err word.UnknownClass) = refl
words_first (Err word.BadArgs) = refl
words_first (Err word.Memory) = refl

pub made_first : {A : Type 0} (a : Result (A × Act Call) MakeFault) → a ≡ made_by (moved in_first) (or_made a (Err make.UnknownClass))
made_first (Ok g) = refl
made_first (Err make.UnknownClass) = refl
made_first (Err make.BadArgs) = refl
made_first (Err make.Memory) = refl

pub begun_first : {A : Type 0} (a : Option (A × Act Call)) → a ≡ begun_by (moved in_first) (or_begun a None)
begun_first (Some g) = refl
begun_first None = refl

-- a part has the flows of the part with nothing behind it
before_none : {A : Type 0} (a : Part A) → SameFlows in_first (λ x. of.First x) a (sum a no_part)
before_none a = record {
  taken = elim [ of.First x ↦ refl | of.Second x ↦ absurd x ];
  back = λ x. refl;
  worded = λ class args. words_first (a.worded class args);
  made = λ class args here. made_first (a.made class args here);
  begun = λ class k here. begun_first (a.begun class k here);
  next = elim [ of.First x ↦ λ with here. refl | of.Second x ↦ absurd x ];
  content = elim [ of.First x ↦ refl | of.Second x ↦ absurd x ];
  weight = elim [ of.First x ↦ refl | of.Second x ↦ absurd x ];
  over = elim [ of.First x ↦ refl | of.Second x ↦ absurd x ];
  tags = elim [ of.First x ↦ refl | of.Second x ↦ absurd x ];
}

-- ---- three parts

abbrev inward : {A B C : Type 0} → Sum A (Sum B C) → Sum (Sum A B) C
inward (of.First a) = of.First (of.First a)
inward (of.Second (of.First b)) = of.First (of.Second b)
inward (of.Second (of.Second c)) = of.Second c

abbrev outward : {A B C : Type 0} → Sum (Sum A B) C → Sum A (Sum B C)
outward (of.First (of.First a)) = of.First a
outward (of.First (of.Second b)) = of.Second (of.First b)
outward (of.Second c) = of.Second (of.Second c)

pub words_three : (a b c : Result (ℕ × List ℕ) WordFault) → or_words (or_words a b) c ≡ or_words a (or_words b c)
words_three (Ok x) b c = refl
words_three (Err word.UnknownClass) b c = refl
words_three (Err word.BadArgs) b c = refl
words_three (Err word.Memory) b c = refl

pub made_three : {A B C : Type 0} (a : Result (A × Act Call) MakeFault) (b : Result (B × Act Call) MakeFault) (c : Result (C × Act Call) MakeFault) → or_made (or_made a b) c ≡ made_by (moved inward) (or_made a (or_made b c))
made_three (Ok g) b c = refl
made_three (Err make.UnknownClass) (Ok g) c = refl
made_three (Err make.UnknownClass) (Err make.UnknownClass) (Ok g) = refl
made_three (Err make.UnknownClass) (Err make.UnknownClass) (Err e) = refl
made_three (Err make.UnknownClass) (Err make.BadArgs) c = refl
made_three (Err make.UnknownClass) (Err make.Memory) c = refl
made_three (Err make.BadArgs) b c = refl
made_three (Err make.Memory) b c = refl

pub begun_three : {A B C : Type 0} (a : Option (A × Act Call)) (b : Option (B × Act Call)) (c : Option (C × Act Call)) → or_begun (or_begun a b) c ≡ begun_by (moved inward) (or_begun a (or_begun b c))
begun_three (Some g) b c = refl
begun_three None (Some g) c = refl
begun_three None None (Some g) = refl
begun_three None None None = refl

-- of three parts it doesn't matter which two are joined first
three : {A B C : Type 0} (a : Part A) (b : Part B) (c : Part C) → SameFlows inward outward (sum (sum a b) c) (sum a (sum b c))
three a b c = record {
  taken = elim [ of.First x ↦ refl | of.Second (of.First x) ↦ refl | of.Second (of.Second x) ↦ refl ];
  back = elim [ of.First (of.First x) ↦ refl | of.First (of.Second x) ↦ refl | of.Second x ↦ refl ];
  worded = λ class args. words_three (a.worded class args) (b.worded class args) (c.worded class args);
  made = λ class args here. made_three (a.made class args here) (b.made class args here) (c.made class args here);
  begun = λ class k here. begun_three (a.begun class k here) (b.begun class k here) (c.begun class k here);
  next = elim [ of.First x ↦ λ with here. refl | of.Second (of.First x) ↦ λ with here. refl | of.Second (of.Second x) ↦ λ with here. refl ];
  content = elim [ of.First x ↦ refl | of.Second (of.First x) ↦ refl | of.Second (of.Second x) ↦ refl ];
  weight = elim [ of.First x ↦ refl | of.Second (of.First x) ↦ refl | of.Second (of.Second x) ↦ refl ];
  over = elim [ of.First x ↦ refl | of.Second (of.First x) ↦ refl | of.Second (of.Second x) ↦ refl ];
  tags = elim [ of.First x ↦ refl | of.Second (of.First x) ↦ refl | of.Second (of.Second x) ↦ refl ];
}

-- ---- tables

-- a frame of a table of one row is the row's
abbrev pub put_one : (r : Row) → FrameIn (r ∷ []) → Frame r.P r.S
put_one r f = in_first f

abbrev pub take_one : (r : Row) → Frame r.P r.S → FrameIn (r ∷ [])
take_one r f = of.First f

-- a machine has the flows of the table of its row alone
pub one_row : (r : Row) → SameFlows (put_one r) (take_one r) (row_part r) (table_part (r ∷ []))
one_row r = before_none (row_part r)

-- a frame of two tables one behind the other is one of the first or one of the second
abbrev pub part_at : (one two : List Row) → FrameIn (one ++ two) → Sum (FrameIn one) (FrameIn two)
part_at [] two f = of.Second f
part_at (r ∷ one) two f = inward (each (λ g. g) (part_at one two) f)

abbrev pub join_at : (one two : List Row) → Sum (FrameIn one) (FrameIn two) → FrameIn (one ++ two)
join_at [] two f = in_second f
join_at (r ∷ one) two f = each (λ g. g) (join_at one two) (outward f)

behind : (one two : List Row) → SameFlows (part_at one two) (join_at one two) (sum (table_part one) (table_part two)) (table_part (one ++ two))
behind [] two = after_none (table_part two)
behind (r ∷ one) two = through inward outward (each (λ g. g) (part_at one two)) (each (λ g. g) (join_at one two)) (three (row_part r) (table_part one) (table_part two)) (sums (λ g. g) (λ g. g) (part_at one two) (join_at one two) (itself (row_part r)) (behind one two))

-- a frame of both tables seen as one of the sum of two parts
abbrev pub put_both : {A B : Type 0} (one two : List Row) → (FrameIn one → A) → (FrameIn two → B) → FrameIn (one ++ two) → Sum A B
put_both one two put_a put_b f = each put_a put_b (part_at one two f)

abbrev pub take_both : {A B : Type 0} (one two : List Row) → (A → FrameIn one) → (B → FrameIn two) → Sum A B → FrameIn (one ++ two)
take_both one two take_a take_b f = join_at one two (each take_a take_b f)

-- the sum of two parts has the flows of their tables one behind the other
pub both_tables : {A B : Type 0} {a : Part A} {b : Part B} (one two : List Row) (put_a : FrameIn one → A) (take_a : A → FrameIn one) (put_b : FrameIn two → B) (take_b : B → FrameIn two) → SameFlows put_a take_a a (table_part one) → SameFlows put_b take_b b (table_part two)
    → SameFlows (put_both one two put_a put_b) (take_both one two take_a take_b) (sum a b) (table_part (one ++ two))
both_tables {A} {B} {a} {b} one two put_a take_a put_b take_b first second = through (each put_a put_b) (each take_a take_b) (part_at one two) (join_at one two) (sums put_a take_a put_b take_b first second) (behind one two)
