-- The bytes of a machine's frames, of the frames of a sum, and of a frame behind its length.
use Rattle.std.proofs.Common.{◌≡◌, ◌≤◌, ◌+◌, ℕ, arith, Bool, true, false, cond, List, [], ◌∷◌, ◌++◌, length, Option, Some, None, Result, Ok, Err, suc, refl, sym, ap, subst, ◌∙◌}
use Rattle.std.specs.Prelude.{nat_eq, nat_le, ◌==◌, ◌||◌, ◌&&◌, not, find, if◌then◌else◌}
use Rattle.std.specs.List.{list_any}
use Rattle.std.proofs.lemmas.Bool.{eqb-true, eq-eqb, leb-true, and_parts}
use Rattle.std.proofs.lemmas.List.Folds.{list_any-append}
use Rattle.net_base.specs.Forms.{◌>>=◌, byte_at}
use Rattle.net_base.specs.Laws.{LawsIf, Laws, weaker, err_is}
use Rattle.net_base.proofs.Lists.{find_test}
use Rattle.net_base.specs.Combining.{bind_laws, mapped_at, mapped_laws, restated_laws, iso_laws, pair_at, pair_laws}
use Rattle.net_base.specs.Kinds.{kind_at, kind_laws, cond_laws}
use Rattle.flow_forms.specs.declared.forms.At.{At}
use Rattle.flow_forms.specs.declared.forms.At.TheVariants as stands
use Rattle.flow_forms.specs.Frames.{Frame}
use Rattle.flow_forms.specs.declared.forms.Sum.{Sum}
use Rattle.flow_forms.specs.declared.forms.Sum.TheVariants as of
use Rattle.flow_forms.specs.Sums.{by_both, either}

-- laws under a stronger premise
pub under : {V : Type 0} {within : V → Type 0} {spelling : V → List ℕ} {reading : List ℕ → Result (V × List ℕ) ℕ} {exact more : Type 0} → (more → exact) → LawsIf exact within spelling reading → LawsIf more within spelling reading
under is one = record { takes = one.takes; again = one.again; faults = λ sure. one.faults (is sure); some = one.some; some_within = one.some_within }

-- ---- the byte of a place

-- All places: those that ask, the number of each, that of Return, and whether a frame may be called.
pub record Places (P : Type 0) : Type 0 where
  pub all : List P
  pub number : P → ℕ
  pub last : ℕ
  pub callable : Bool

-- Return has the number behind those of the places that ask
abbrev pub places_of : {P : Type 0} → Bool → List P → (P → ℕ) → Places P
places_of callable all number = record { all = all; number = number; last = length all + 1; callable = callable }

-- 0 waits on Fail, the last number on Return, and 255 is called
abbrev pub byte_of : {P : Type 0} → Places P → At P → ℕ
byte_of places stands.Failing = 0
byte_of places stands.Returning = places.last
byte_of places stands.Called = 255
byte_of places (stands.Asking p) = places.number p

-- where a frame stands whose place has a number that isn't 0, the last or 255
abbrev pub asking_of : {P : Type 0} → Option P → Option (At P)
asking_of None = None
asking_of (Some p) = Some (stands.Asking p)

-- where a frame of a byte stands
abbrev pub standing : {P : Type 0} → Places P → ℕ → Option (At P)
standing places n = if n == 0 then Some stands.Failing else if n == places.last then Some stands.Returning else if (n == 255) && places.callable then Some stands.Called else asking_of (find (λ p. places.number p == n) places.all)

-- where a frame may stand, told by its byte
abbrev pub IsAt : {P : Type 0} → Places P → At P → Type 0
IsAt places a = standing places (byte_of places a) ≡ Some a

-- what is found is read, and else nothing goes on
abbrev pub found_at : {A : Type 0} → Option A → List ℕ → ℕ → Result (A × List ℕ) ℕ
found_at None rest left = Err left
found_at (Some a) rest left = Ok (a, rest)

-- reading the byte of a place
unfoldable pub place_at : {P : Type 0} → Places P → List ℕ → Result (At P × List ℕ) ℕ
place_at places bytes = byte_at bytes >>= λ x. found_at (standing places x.0) x.1 (length bytes)

-- What is asked of places.
pub record ArePlaces {P : Type 0} (places : Places P) : Type 0 where
  pub asking : (p : P) → IsAt places (stands.Asking p)
  pub returning : IsAt places stands.Returning

-- The places at which a machine asks, and the number of each. Each is told by its number, whether a frame may be called or not, and there
-- are so few that all numbers are bytes.
pub record Numbers (P : Type 0) : Type 0 where
  pub all : List P
  pub number : P → ℕ
  pub told : (callable : Bool) (p : P) → IsAt (places_of callable all number) (stands.Asking p)
  pub few : nat_le (length all) 253 ≡ true

-- with Return, Fail, and the place of a frame that is called
abbrev pub placed : {P : Type 0} → Bool → Numbers P → Places P
placed callable numbers = places_of callable numbers.all numbers.number

pub few_places : {P : Type 0} (numbers : Numbers P) → length numbers.all ≤ 253
few_places numbers = leb-true (length numbers.all) 253 numbers.few

-- Return is told by its number
not_zero : (n : ℕ) (b : Bool) → (n + 1 == 0) ≡ b → b ≡ false
not_zero n false e = refl
not_zero n true e = absurd (omega (arith, eqb-true (n + 1) 0 e))

second_of : {A : Type 0} (one two : Bool) (a b c : A) → one ≡ false → two ≡ true → (if one then a else if two then b else c) ≡ b
second_of false true a b c first second = refl
second_of true two a b c first second = absurd cc
second_of false false a b c first second = absurd cc

pub are_placed : {P : Type 0} (callable : Bool) (numbers : Numbers P) → ArePlaces (placed callable numbers)
are_placed callable numbers =
    let last = length numbers.all + 1 in
    record {
      asking = numbers.told callable;
      returning = second_of (last == 0) (last == last) (Some stands.Failing) (Some stands.Returning) (if (last == 255) && callable then Some stands.Called else asking_of (find (λ p. numbers.number p == last) numbers.all)) (not_zero (length numbers.all) (last == 0) refl) (eq-eqb last last refl);
    }

-- a place is found by its number
asking_byte : {P : Type 0} (places : Places P) (n : ℕ) (o : Option P) (a : At P) → find (λ p. places.number p == n) places.all ≡ o → asking_of o ≡ Some a → byte_of places a ≡ n
asking_byte places n None a is e = absurd cc
asking_byte places n (Some p) a is e =
    let same : stands.Asking p ≡ a = cc in
    subst (λ b. byte_of places b ≡ n) same (eqb-true (places.number p) n (find_test (λ q. places.number q == n) places.all p is))

-- by the four tests
byte_by : {P : Type 0} (places : Places P) (n : ℕ) (a : At P) (first last called : Bool) → (n == 0) ≡ first → (n == places.last) ≡ last → ((n == 255) && places.callable) ≡ called
    → (if first then Some stands.Failing else if last then Some stands.Returning else if called then Some stands.Called else asking_of (find (λ p. places.number p == n) places.all)) ≡ Some a → byte_of places a ≡ n
byte_by places n a true last called h0 h1 h2 e = let same : stands.Failing ≡ a = cc in subst (λ b. byte_of places b ≡ n) same (sym (eqb-true n 0 h0))
byte_by places n a false true called h0 h1 h2 e = let same : stands.Returning ≡ a = cc in subst (λ b. byte_of places b ≡ n) same (sym (eqb-true n places.last h1))
byte_by places n a false false true h0 h1 h2 e = let same : stands.Called ≡ a = cc in subst (λ b. byte_of places b ≡ n) same (sym (eqb-true n 255 (and_parts (n == 255) places.callable h2).0))
byte_by places n a false false false h0 h1 h2 e = asking_byte places n (find (λ p. places.number p == n) places.all) a refl e

-- what a byte tells has this byte
standing_byte : {P : Type 0} (places : Places P) (n : ℕ) (a : At P) → standing places n ≡ Some a → byte_of places a ≡ n
standing_byte places n a e = byte_by places n a (n == 0) (n == places.last) ((n == 255) && places.callable) refl refl refl e

-- what was found
found_ok : {A : Type 0} (o : Option A) (rest : List ℕ) (left : ℕ) (x : A × List ℕ) → found_at o rest left ≡ Ok x → (o ≡ Some x.0) × (rest ≡ x.1)
found_ok None rest left x e = absurd cc
found_ok (Some a) rest left x e = (cc, cc)

found_err : {A : Type 0} (o : Option A) (rest : List ℕ) (left n : ℕ) → found_at o rest left ≡ Err n → (o ≡ None) × (left ≡ n)
found_err {A} None rest left n e = (refl, err_is {A = A × List ℕ} left n e)
found_err (Some a) rest left n e = absurd cc

-- the laws of the byte of a place
pub place_laws : {P : Type 0} (places : Places P) → Laws (λ (a : At P). IsAt places a) (λ (a : At P). byte_of places a ∷ []) (place_at places)
unfolding place_at
place_laws {P} places = record {
  takes = elim [
    | [] ↦ λ x fits e. absurd cc
    | b ∷ rest ↦ λ x fits e.
        let f = found_ok (standing places b) rest (suc (length rest)) x e in
        let byte = standing_byte places b x.0 f.0 in
        ((λ i. sym byte i ∷ f.1 i), subst (λ k. standing places k ≡ Some x.0) (sym byte) f.0)
  ];
  again = λ a rest h. ap (λ (o : Option (At P)). found_at o rest (suc (length rest))) h;
  faults = λ sure. elim [
    | [] ↦ λ n fits e. record { front = []; rest = []; parts = refl; left = err_is {A = At P × List ℕ} 0 n e; goes = (stands.Failing, (refl, (0 ∷ [], refl))); stops = λ b after is v h more same. absurd cc }
    | c ∷ rest ↦ λ n fits e.
        let f = found_err (standing places c) rest (suc (length rest)) n e in
        record {
          front = [];
          rest = c ∷ rest;
          parts = refl;
          left = f.1;
          goes = (stands.Failing, (refl, (0 ∷ [], refl)));
          stops = λ b after is v h more same.
              let one : byte_of places v ≡ c = cc (is, same) in
              let there : standing places c ≡ Some v = subst (λ k. standing places k ≡ Some v) one h in
              absurd (cc (there, f.0));
        }
  ];
  some = stands.Failing;
  some_within = refl;
}

-- ---- a machine's frames, behind the machine's number

-- the place and the fields
abbrev pub body_of : {P S : Type 0} → Places P → (S → List ℕ) → Frame P S → List ℕ
body_of places text f = byte_of places f.at ∷ text f.fields

-- the limits of a frame
abbrev pub IsFrame : {P S : Type 0} → Places P → (S → Type 0) → Frame P S → Type 0
IsFrame places within f = IsAt places f.at × within f.fields

-- a frame of its parts
abbrev pub frame_of : {P S : Type 0} → At P × S → Frame P S
frame_of p = record { at = p.0; fields = p.1 }

-- reading them
unfoldable pub body_at : {P S : Type 0} → Places P → (List ℕ → Result (S × List ℕ) ℕ) → List ℕ → Result (Frame P S × List ℕ) ℕ
body_at places read = mapped_at frame_of (pair_at (place_at places) read)

pub body_laws : {P S : Type 0} {within : S → Type 0} {text : S → List ℕ} {read : List ℕ → Result (S × List ℕ) ℕ} {exact : Type 0} (places : Places P) → LawsIf exact within text read → LawsIf exact (λ (f : Frame P S). IsFrame places within f) (body_of places text) (body_at places read)
unfolding body_at
body_laws places fields = iso_laws frame_of (λ f. (f.at, f.fields)) (λ _. refl) (λ _. refl) (pair_laws (weaker _ (place_laws places)) fields)

-- ---- frames of several machines

-- a kind is among these
abbrev pub has : List ℕ → ℕ → Bool
has kinds k = list_any (λ y. nat_eq y k) kinds

-- What is asked of the bytes of frames: each begins with one of the kinds, and what stands behind is read by the kind.
pub record Spells {F : Type 0} (within : F → Type 0) (kinds : List ℕ) (kind : F → ℕ) (body : F → List ℕ) (read : ℕ → List ℕ → Result (F × List ℕ) ℕ) : Type 0 where
  pub first : ℕ
  pub is_first : has kinds first ≡ true
  pub known : (f : F) → within f → has kinds (kind f) ≡ true
  pub laws : (k : ℕ) → has kinds k ≡ true → LawsIf ⊥ (λ (f : F). within f × (kind f ≡ k)) body (read k)

-- a kind is among the ones or among the others
pub has_append : (a b : List ℕ) (k : ℕ) → has (a ++ b) k ≡ (has a k || has b k)
has_append a b k = list_any-append (λ y. nat_eq y k) a b

-- the one of a list of one
only : (m k : ℕ) (test : Bool) → nat_eq m k ≡ test → (test || false) ≡ true → m ≡ k
only m k true is e = eqb-true m k is
only m k false is e = absurd cc

itself : (m : ℕ) → nat_eq m m ≡ true → has (m ∷ []) m ≡ true
itself m e = rw e refl

-- the frames of one machine
pub machine_spells : {P S : Type 0} {within : S → Type 0} {text : S → List ℕ} {read : List ℕ → Result (S × List ℕ) ℕ} {exact : Type 0} (machine : ℕ) (places : Places P) → nat_eq machine machine ≡ true → LawsIf exact within text read
    → Spells (IsFrame places within) (machine ∷ []) (λ (f : Frame P S). machine) (body_of places text) (λ k bytes. body_at places read bytes)
machine_spells machine places same fields = record {
  first = machine;
  is_first = itself machine same;
  known = λ f h. itself machine same;
  laws = λ k h. let is = only machine k (nat_eq machine k) refl h in restated_laws (λ f w. ((w, is), refl)) (λ f w. w.0) (under (λ never. absurd never) (body_laws places fields));
}

-- no kind is among both
abbrev pub AreApart : List ℕ → List ℕ → Type 0
AreApart a b = (k : ℕ) → has a k ≡ true → has b k ≡ true → ⊥

-- what is not among both is not among the first, nor among the second
not_or : (x y : Bool) → not (x || y) ≡ true → (not x ≡ true) × (y ≡ true → ⊥)
not_or true y h = absurd cc
not_or false true h = absurd cc
not_or false false h = (refl, λ e. absurd cc)

not_first : (a b : List ℕ) (k : ℕ) → not (has (a ++ b) k) ≡ true → not (has a k) ≡ true
not_first a b k h = (not_or (has a k) (has b k) (ap not (sym (list_any-append (λ y. nat_eq y k) a b)) ∙ h)).0

not_second : (a b : List ℕ) (k : ℕ) → not (has (a ++ b) k) ≡ true → has b k ≡ true → ⊥
not_second a b k h = (not_or (has a k) (has b k) (ap not (sym (list_any-append (λ y. nat_eq y k) a b)) ∙ h)).1

-- the one, or one behind it
among_either : (l k : ℕ) (rest same : Bool) → nat_eq l k ≡ same → (same || rest) ≡ true → (l ≡ k → ⊥) → (rest ≡ true → ⊥) → ⊥
among_either l k rest true is e one other = one (eqb-true l k is)
among_either l k rest false is e one other = other e

-- whether no kind stands twice
abbrev pub distinct : List ℕ → Bool
distinct [] = true
distinct (k ∷ more) = not (has more k) && distinct more

-- of a list in which none stands twice, the parts are so
distinct_first : (a b : List ℕ) → distinct (a ++ b) ≡ true → distinct a ≡ true
distinct_first [] b h = refl
distinct_first (k ∷ a) b h =
    let both = and_parts (not (has (a ++ b) k)) (distinct (a ++ b)) h in
    let more = distinct_first a b both.1 in
    let out = not_first a b k both.0 in
    rw (out, more) refl

distinct_second : (a b : List ℕ) → distinct (a ++ b) ≡ true → distinct b ≡ true
distinct_second [] b h = h
distinct_second (k ∷ a) b h = distinct_second a b (and_parts (not (has (a ++ b) k)) (distinct (a ++ b)) h).1

-- and no kind is among both
distinct_apart : (a b : List ℕ) → distinct (a ++ b) ≡ true → AreApart a b
distinct_apart [] b h k ka kb = absurd cc
distinct_apart (l ∷ a) b h k ka kb =
    let both = and_parts (not (has (a ++ b) l)) (distinct (a ++ b)) h in
    among_either l k (has a k) (nat_eq l k) refl ka (λ same. not_second a b l both.0 (subst (λ n. has b n ≡ true) (sym same) kb)) (λ rest. distinct_apart a b both.1 k rest kb)

-- reading behind a kind of one of two
abbrev pub sum_at : {A B : Type 0} → List ℕ → (ℕ → List ℕ → Result (A × List ℕ) ℕ) → (ℕ → List ℕ → Result (B × List ℕ) ℕ) → ℕ → List ℕ → Result (Sum A B × List ℕ) ℕ
sum_at kinds one two k bytes = cond (has kinds k) (mapped_at (λ a. of.First a) (one k) bytes) (mapped_at (λ b. of.Second b) (two k) bytes)

-- if not among the ones, then among the others
among_rest : (a b : List ℕ) (k : ℕ) (in_a : Bool) → has a k ≡ in_a → has (a ++ b) k ≡ true → in_a ≡ false → has b k ≡ true
among_rest a b k true is h out = absurd cc
among_rest a b k false is h out = sym (list_any-append (λ y. nat_eq y k) a b ∙ ap (λ (x : Bool). x || has b k) is) ∙ h

among_first : (a b : List ℕ) (k : ℕ) → has a k ≡ true → has (a ++ b) k ≡ true
among_first a b k h = list_any-append (λ y. nat_eq y k) a b ∙ ap (λ (x : Bool). x || has b k) h

or_true : (x : Bool) → (x || true) ≡ true
or_true true = refl
or_true false = refl

among_second : (a b : List ℕ) (k : ℕ) → has b k ≡ true → has (a ++ b) k ≡ true
among_second a b k h = list_any-append (λ y. nat_eq y k) a b ∙ ap (λ (x : Bool). has a k || x) h ∙ or_true (has a k)

-- the frames of a sum
pub sum_spells : {A B : Type 0} {wa : A → Type 0} {wb : B → Type 0} {ka kb : List ℕ} {kind_a : A → ℕ} {kind_b : B → ℕ} {body_a : A → List ℕ} {body_b : B → List ℕ} {read_a : ℕ → List ℕ → Result (A × List ℕ) ℕ} {read_b : ℕ → List ℕ → Result (B × List ℕ) ℕ}
    → distinct (ka ++ kb) ≡ true → (distinct ka ≡ true → Spells wa ka kind_a body_a read_a) → (distinct kb ≡ true → Spells wb kb kind_b body_b read_b) → Spells (either wa wb) (ka ++ kb) (by_both kind_a kind_b) (by_both body_a body_b) (sum_at ka read_a read_b)
sum_spells {A} {B} {wa} {wb} {ka} {kb} {kind_a} {kind_b} {body_a} {body_b} {read_a} {read_b} unlike first second =
    let apart = distinct_apart ka kb unlike in
    let one = first (distinct_first ka kb unlike) in
    let two = second (distinct_second ka kb unlike) in
    record {
      first = one.first;
      is_first = among_first ka kb one.first one.is_first;
      known = elim [ of.First a ↦ λ h. among_first ka kb (kind_a a) (one.known a h) | of.Second b ↦ λ h. among_second ka kb (kind_b b) (two.known b h) ];
      laws = λ k h.
          cond_laws (has ka k) (mapped_at (λ a. of.First a) (read_a k)) (mapped_at (λ b. of.Second b) (read_b k))
          (λ yes. mapped_laws (λ (a : A). of.First a) (one.laws k yes) (record {
            keeps = λ a w. (w, refl);
            from = elim [ of.First a ↦ λ w. (a, (w, refl)) | of.Second b ↦ λ w. absurd (apart k yes (subst (λ (n : ℕ). has kb n ≡ true) w.1 (two.known b w.0))) ];
          }))
          (λ out. mapped_laws (λ (b : B). of.Second b) (two.laws k (among_rest ka kb k (has ka k) refl h out)) (record {
            keeps = λ b w. (w, refl);
            from = elim [ of.First a ↦ λ w. let yes = subst (λ (n : ℕ). has ka n ≡ true) w.1 (one.known a w.0) in absurd (cc (yes, out)) | of.Second b ↦ λ w. (b, (w, refl)) ];
          }));
    }

-- ---- the whole of a frame's own bytes

-- the kind and what stands behind it
abbrev pub content_of : {F : Type 0} → (F → ℕ) → (F → List ℕ) → F → List ℕ
content_of kind body f = kind f ∷ body f

-- reading them
abbrev pub content_at : {F : Type 0} → List ℕ → (ℕ → List ℕ → Result (F × List ℕ) ℕ) → List ℕ → Result (F × List ℕ) ℕ
content_at kinds read bytes = kind_at kinds bytes >>= λ k. read k.0 k.1

-- the laws of the bytes of frames
pub content_laws : {F : Type 0} {within : F → Type 0} {kinds : List ℕ} {kind : F → ℕ} {body : F → List ℕ} {read : ℕ → List ℕ → Result (F × List ℕ) ℕ} → Spells within kinds kind body read → LawsIf ⊥ within (content_of kind body) (content_at kinds read)
content_laws {F} {within} {kinds} {kind} {body} {read} spells =
    bind_laws {second = λ k (f : F). within f × (kind f ≡ k)} {second_spelling = λ k (f : F). body f} {second_reading = read} (weaker ⊥ (kind_laws spells.first kinds spells.is_first)) spells.laws
    (record {
      join = λ k f hk hf. (hf.0, ap (λ (n : ℕ). n ∷ body f) hf.1);
      split = λ f h. (kind f, (spells.known f h, (h, refl)));
    })
