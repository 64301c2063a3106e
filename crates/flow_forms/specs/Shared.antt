-- What machines share: counters that stop at an end, tags of fields that may be absent, and how a law goes by a test.
use Rattle.std.specs.Prelude.{◌≡◌, ℕ, ◌+◌, ◌≤◌, ◌<◌, ◌^◌, ◌&&◌, List, [], ◌∷◌, ◌==◌, not, nat_lt, Bool, true, false, refl, Option, Some, None, IfSome, if◌then◌else◌, min}
use Rattle.std.specs.List.{list_all}
use Rattle.std.proofs.lemmas.Bool.{and_parts, ltb-true}
use Rattle.std.proofs.lemmas.List.Folds.{list_all-append}
use Rattle.std.proofs.Common.{arith, sym, subst, ◌∙◌, ◌++◌}
use Rattle.net_base.specs.declared.names.Tag.{Tag}
use Rattle.flow_machine.specs.declared.acts.Place.{Place}
use Rattle.flow_machine.specs.declared.acts.Resumed.{Resumed}
use Rattle.flow_forms.specs.declared.forms.Goes.{Goes}
use Rattle.flow_forms.specs.declared.forms.Goes.TheVariants.{Stops}
use Rattle.flow_machine.specs.Limits.{IsResumed, IsPlace}
use Rattle.flow_machine.specs.Tags.{resumed_tags}
use Rattle.flow_forms.specs.Forms.{Form, Owes}

-- one more, up to an end
abbrev pub raised : ℕ → ℕ → ℕ
raised most n = min (n + 1) most

-- the tags of what may be absent
abbrev pub tags_in : {A : Type 0} → (A → List Tag) → Option A → List Tag
tags_in tags None = []
tags_in tags (Some a) = tags a

-- the first of tags that pass a test passes it
pub first_passes : (test : Tag → Bool) (t : Tag) (more : List Tag) → list_all test (t ∷ more) ≡ true → list_all test (t ∷ []) ≡ true
first_passes test t more h = let p = (and_parts (test t) (list_all test more) h).0 in rw p refl

-- one before the others
pub both_pass : (test : Tag → Bool) (t : Tag) (more : List Tag) → list_all test (t ∷ []) ≡ true → list_all test more ≡ true → list_all test (t ∷ more) ≡ true
both_pass test t more h rest = let p = (and_parts (test t) true h).0 in rw (p, rest) refl

-- Fields t that came of fields s: they keep the limits, and have no tag that isn't of s or of the result.
pub record Keeps {P S : Type 0} (form : Form P S) (within : S → Type 0) (s t : S) (with : Resumed) (here : Place) : Type 0 where
  pub limits : within s → IsResumed with → IsPlace here → within t
  pub passes : (test : Tag → Bool) → list_all test (form.tags s) ≡ true → list_all test (resumed_tags with) ≡ true → list_all test (form.tags t) ≡ true

-- the same fields
pub same : {P S : Type 0} (form : Form P S) (within : S → Type 0) (s : S) (with : Resumed) (here : Place) → Keeps form within s s with here
same form within s with here = record { limits = λ h small place. h; passes = λ test old given. old }

-- what a frame owes that fails with such fields
pub fails_owes : {P S : Type 0} (form : Form P S) (within : S → Type 0) (most : ℕ) (s t : S) (with : Resumed) (here : Place) (code : ℕ) → Keeps form within s t with here → code < 2 ^ 16 → 1 ≤ most → Owes form within most s with here (Stops t code)
fails_owes form within most s t with here code keeps small some = record { limits = λ h fits place. (keeps.limits h fits place, small); tags = λ test old given. keeps.passes test old given; falls = some; asks = refl }

-- by a test
pub owes_if : {P S : Type 0} (form : Form P S) (within : S → Type 0) (most : ℕ) (s : S) (with : Resumed) (here : Place) (test : Bool) (g h : Goes P S) → (test ≡ true → Owes form within most s with here g) → (test ≡ false → Owes form within most s with here h) → Owes form within most s with here (if test then g else h)
owes_if form within most s with here true g h one other = one refl
owes_if form within most s with here false g h one other = other refl

-- what a frame owes that fails with other fields
pub stops_owes : {P S : Type 0} (form : Form P S) (within : S → Type 0) (most : ℕ) (s t : S) (with : Resumed) (here : Place) (code : ℕ) → code < 2 ^ 16 → 1 ≤ most → (within s → IsResumed with → within t) → ((test : Tag → Bool) → list_all test (form.tags s) ≡ true → list_all test (form.tags t) ≡ true) → Owes form within most s with here (Stops t code)
stops_owes form within most s t with here code small some keeps passes = record { limits = λ h fits place. (keeps h fits, small); tags = λ test old given. passes test old; falls = some; asks = refl }

-- the front of tags that pass a test passes it, and so does the rest
pub parts_pass : (test : Tag → Bool) (a b : List Tag) → list_all test (a ++ b) ≡ true → (list_all test a ≡ true) × (list_all test b ≡ true)
parts_pass test a b h = and_parts (list_all test a) (list_all test b) (sym (list_all-append test a b) ∙ h)

-- both together
pub joined_pass : (test : Tag → Bool) (a b : List Tag) → list_all test a ≡ true → list_all test b ≡ true → list_all test (a ++ b) ≡ true
joined_pass test a b ha hb = list_all-append test a b ∙ (rw (ha, hb) refl)

-- another node of the network
abbrev pub is_peer : ℕ → Place → Bool
is_peer to here = nat_lt to here.nodes && not (to == here.me.0)

-- a peer's number is a party's
pub peer_is_party : (to : ℕ) (here : Place) → is_peer to here ≡ true → IsPlace here → to < 16
peer_is_party to here is place = omega (arith, ltb-true to here.nodes (and_parts (nat_lt to here.nodes) (not (to == here.me.0)) is).0, place.nodes)

-- what needs a field that may be absent: without it the frame fails
abbrev pub needs : {P S A : Type 0} → Option A → S → (A → Goes P S) → Goes P S
needs None s go = Stops s 54
needs (Some a) s go = go a

-- what a frame owes that goes on with such a field
pub needs_owes : {P S A : Type 0} (form : Form P S) (within : S → Type 0) (most : ℕ) (s t : S) (with : Resumed) (here : Place) (o : Option A) (go : A → Goes P S) → Keeps form within s t with here → 1 ≤ most
    → ((a : A) → o ≡ Some a → Owes form within most s with here (go a)) → Owes form within most s with here (needs o t go)
needs_owes form within most s t with here None go keeps some goes = fails_owes form within most s t with here 54 keeps (omega arith) some
needs_owes form within most s t with here (Some a) go keeps some goes = goes a refl

-- a value that is there, of a field within its limits
pub there_within : {A : Type 0} (within : A → Type 0) (o : Option A) (a : A) → o ≡ Some a → IfSome o within → within a
there_within {A} within o a e h = subst (λ (p : Option A). IfSome p within) e h
