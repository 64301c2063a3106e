-- Lists: what every item passes, what is found, and items by their places.
use Rattle.std.proofs.Common.{◌≡◌, ◌⊎◌, inl, inr, ⊎_elim, ℕ, zero, suc, ◌+◌, ◌<◌, ◌≤◌, ◌==◌, Bool, true, false, ◌||◌, cond, List, [], ◌∷◌, ◌++◌, Some, None, find, option_map, length, reverse, map, filter, take, drop, slice_get, slice_set, refl, sym, ◌∙◌, ap, subst, append-nil, take_all, arith}
use Rattle.std.specs.List.{list_any, list_all, AllByRecursion, Contains}
use Rattle.std.proofs.lemmas.Bool.{and_parts, and_from, or_parts, or_from, or_left, or_right, or_cases}
use Rattle.std.proofs.lemmas.List.{reverse-append, drop_all}

-- ---- what holds of every item

-- of those in front and of those behind
pub all_append : {X : Type 0} (P : X → Type 0) (xs ys : List X) → AllByRecursion P xs → AllByRecursion P ys → AllByRecursion P (xs ++ ys)
all_append P [] ys g h = h
all_append P (x ∷ xs) ys g h = (g.0, all_append P xs ys g.1 h)

-- of one more
pub all_push : {X : Type 0} (P : X → Type 0) (xs : List X) (x : X) → AllByRecursion P xs → P x → AllByRecursion P (xs ++ x ∷ [])
all_push P [] x all p = (p, tt)
all_push P (y ∷ xs) x all p = (all.0, all_push P xs x all.1 p)

-- of those in front
pub all_front : {X : Type 0} (P : X → Type 0) (xs ys : List X) → AllByRecursion P (xs ++ ys) → AllByRecursion P xs
all_front P [] ys h = tt
all_front P (x ∷ xs) ys h = (h.0, all_front P xs ys h.1)

-- of the first
pub all_take : {X : Type 0} (P : X → Type 0) (n : ℕ) (xs : List X) → AllByRecursion P xs → AllByRecursion P (take n xs)
all_take P zero xs h = tt
all_take P (suc n) [] h = tt
all_take P (suc n) (x ∷ xs) h = (h.0, all_take P n xs h.1)

-- of those that are left
pub all_drop : {X : Type 0} (P : X → Type 0) (n : ℕ) (xs : List X) → AllByRecursion P xs → AllByRecursion P (drop n xs)
all_drop P zero xs h = h
all_drop P (suc n) [] h = tt
all_drop P (suc n) (x ∷ xs) h = all_drop P n xs h.1

-- of those that pass a test
pub all_kept : {X : Type 0} (P : X → Type 0) (test : X → Bool) (xs : List X) → AllByRecursion P xs → AllByRecursion P (filter test xs)
all_kept P test [] h = tt
all_kept {X} P test (x ∷ xs) h = by (test x) (all_kept P test xs h.1)
  where
    by : (b : Bool) → AllByRecursion P (filter test xs) → AllByRecursion P (cond b (x ∷ filter test xs) (filter test xs))
    by true more = (h.0, more)
    by false more = more

-- of them in the other order
pub all_reverse : {X : Type 0} (P : X → Type 0) (xs : List X) → AllByRecursion P xs → AllByRecursion P (reverse xs)
all_reverse P [] all = tt
all_reverse {X} P (x ∷ xs) all = subst (λ (l : List X). AllByRecursion P l) (sym (reverse-append (x ∷ []) xs)) (all_append P (reverse xs) (x ∷ []) (all_reverse P xs all.1) (all.0, tt))

-- of another at one place
pub all_set : {X : Type 0} (P : X → Type 0) (xs : List X) (i : ℕ) (y : X) → AllByRecursion P xs → P y → AllByRecursion P (slice_set xs i y)
all_set P [] i y all p = tt
all_set P (x ∷ xs) zero y all p = (p, all.1)
all_set P (x ∷ xs) (suc i) y all p = (all.0, all_set P xs i y all.1 p)

-- of another in place of one
pub all_put : {X : Type 0} (P : X → Type 0) (xs : List X) (k : ℕ) (y : X) → AllByRecursion P xs → P y → AllByRecursion P (take k xs ++ y ∷ drop (suc k) xs)
all_put P [] zero y h p = (p, tt)
all_put P [] (suc k) y h p = (p, tt)
all_put P (x ∷ xs) zero y h p = (p, h.1)
all_put P (x ∷ xs) (suc k) y h p = (h.0, all_put P xs k y h.1 p)

-- what follows from it
pub all_weaken : {X : Type 0} (P Q : X → Type 0) (xs : List X) → ((x : X) → P x → Q x) → AllByRecursion P xs → AllByRecursion Q xs
all_weaken P Q [] f h = tt
all_weaken P Q (x ∷ xs) f h = (f x h.0, all_weaken P Q xs f h.1)

-- of the one at a place
pub all_get : {X : Type 0} (P : X → Type 0) (xs : List X) (i : ℕ) (x : X) → AllByRecursion P xs → slice_get xs i ≡ Some x → P x
all_get P [] i x h e = cc
all_get P (y ∷ ys) zero x h e = let same : y ≡ x = cc in subst P same h.0
all_get P (y ∷ ys) (suc i) x h e = all_get P ys i x h.1 e

-- and it holds of all, where it holds at each place
pub all_from_get : {X : Type 0} (P : X → Type 0) (xs : List X) → ((n : ℕ) (x : X) → slice_get xs n ≡ Some x → P x) → AllByRecursion P xs
all_from_get P [] f = tt
all_from_get P (x ∷ xs) f = (f 0 x refl, all_from_get P xs (λ n y h. f (suc n) y h))

-- of the one that is found
pub all_find : {X : Type 0} (P : X → Type 0) (p : X → Bool) (xs : List X) (x : X) → AllByRecursion P xs → find p xs ≡ Some x → P x
all_find P p [] x h e = cc
all_find {X} P p (y ∷ ys) x h e = on (p y) (all_find P p ys x h.1) e
  where
    on : (b : Bool) → (find p ys ≡ Some x → P x) → cond b (Some y) (find p ys) ≡ Some x → P x
    on true rest f = let same : y ≡ x = cc f in subst P same h.0
    on false rest f = rest f

-- ---- what some item passes, and none

-- more items
pub any_append : {X : Type 0} (P : X → Bool) (xs ys : List X) → list_any P xs ≡ true → list_any P (xs ++ ys) ≡ true
any_append P [] ys h = cc
any_append P (x ∷ xs) ys h = ⊎_elim (λ p. or_left _ _ p) (λ p. or_right _ _ (any_append P xs ys p)) (or_cases _ _ h)

-- one more, that passes
pub any_push : {X : Type 0} (P : X → Bool) (xs : List X) (x : X) → P x ≡ true → list_any P (xs ++ x ∷ []) ≡ true
any_push P [] x h = or_left _ _ h
any_push P (y ∷ ys) x h = or_right _ _ (any_push P ys x h)

-- another test, which is weaker
pub any_weaken : {X : Type 0} (P Q : X → Bool) (xs : List X) → ((x : X) → P x ≡ true → Q x ≡ true) → list_any P xs ≡ true → list_any Q xs ≡ true
any_weaken P Q [] f h = cc
any_weaken P Q (x ∷ xs) f h = ⊎_elim (λ p. or_left _ _ (f x p)) (λ p. or_right _ _ (any_weaken P Q xs f p)) (or_cases _ _ h)

-- one that is contained, and passes
pub any_contained : {X : Type 0} (P : X → Bool) (xs : List X) (x : X) → P x ≡ true → Contains xs x → list_any P xs ≡ true
any_contained P [] x h (k, lt, is) = absurd (omega (arith, lt))
any_contained P (y ∷ ys) x h (zero, lt, is) = or_left (P y) (list_any P ys) (subst (λ z. P z ≡ true) (sym is) h)
any_contained P (y ∷ ys) x h (suc k, lt, is) = or_right (P y) (list_any P ys) (any_contained P ys x h (k, omega (arith, lt), is))

-- one more, that fails
pub none_push : {X : Type 0} (P : X → Bool) (xs : List X) (y : X) → list_any P xs ≡ false → P y ≡ false → list_any P (xs ++ y ∷ []) ≡ false
none_push P [] y h k = or_from _ _ k refl
none_push P (x ∷ xs) y h k = let p = or_parts _ _ h in or_from _ _ p.0 (none_push P xs y p.1 k)

-- a part
pub none_filter : {X : Type 0} (test p : X → Bool) (xs : List X) → list_any test xs ≡ false → list_any test (filter p xs) ≡ false
none_filter test p [] none = refl
none_filter test p (x ∷ xs) none = let both = or_parts (test x) (list_any test xs) none in by both.0 (none_filter test p xs both.1) (p x)
  where
    by : test x ≡ false → list_any test (filter p xs) ≡ false → (b : Bool) → list_any test (cond b (x ∷ filter p xs) (filter p xs)) ≡ false
    by here more true = ap (λ c. c || list_any test (filter p xs)) here ∙ more
    by here more false = more

pub all_filter : {X : Type 0} (test p : X → Bool) (xs : List X) → list_all test xs ≡ true → list_all test (filter p xs) ≡ true
all_filter test p [] all = refl
all_filter test p (x ∷ xs) all = let both = and_parts (test x) (list_all test xs) all in by both.0 (all_filter test p xs both.1) (p x)
  where
    by : test x ≡ true → list_all test (filter p xs) ≡ true → (b : Bool) → list_all test (cond b (x ∷ filter p xs) (filter p xs)) ≡ true
    by here more true = and_from _ _ here more
    by here more false = more

-- what follows from a test that all pass, all pass
pub passes_weaken : {X : Type 0} (test other : X → Bool) (xs : List X) → ((x : X) → test x ≡ true → other x ≡ true) → list_all test xs ≡ true → list_all other xs ≡ true
passes_weaken test other [] f h = refl
passes_weaken test other (x ∷ xs) f h = let both = and_parts (test x) (list_all test xs) h in and_from _ _ (f x both.0) (passes_weaken test other xs f both.1)

-- ---- the first that passes a test

-- it passes
pub find_test : {X : Type 0} (P : X → Bool) (xs : List X) (x : X) → find P xs ≡ Some x → P x ≡ true
find_test P [] x h = cc
find_test {X} P (y ∷ xs) x h =
    (elim (P y) as (λ b. P y ≡ b → cond b (Some y) (find P xs) ≡ Some x → P x ≡ true)
    [ true ↦ λ e k. let same : y ≡ x = cc k in subst (λ (z : X). P z ≡ true) same e | false ↦ λ e k. find_test P xs x k ]) refl h

-- it passes what all pass
pub found_passes : {X : Type 0} (test P : X → Bool) (xs : List X) (x : X) → list_all test xs ≡ true → find P xs ≡ Some x → test x ≡ true
found_passes test P [] x h e = cc
found_passes {X} test P (y ∷ xs) x h e =
    let both = and_parts (test y) (list_all test xs) h in
    (elim (P y) as (λ b. cond b (Some y) (find P xs) ≡ Some x → test x ≡ true)
    [ true ↦ λ k. let same : y ≡ x = cc k in subst (λ (z : X). test z ≡ true) same both.0 | false ↦ λ k. found_passes test P xs x both.1 k ]) e

-- where there was none, it is a new one that passes
pub find_push : {X : Type 0} (P : X → Bool) (xs : List X) (y : X) → find P xs ≡ None → P y ≡ true → find P (xs ++ y ∷ []) ≡ Some y
find_push P [] y h k = rw k
find_push {X} P (x ∷ xs) y h k = (elim (P x) as (λ b. cond b (Some x) (find P xs) ≡ None → cond b (Some x) (find P (xs ++ y ∷ [])) ≡ Some y) [ true ↦ λ l. cc | false ↦ λ l. find_push P xs y l k ]) h

-- of changed items, where the change plays no part in the test
pub find_map : {A : Type 0} (test : A → Bool) (h : A → A) (xs : List A) → ((x : A) → test (h x) ≡ test x) → find test (map h xs) ≡ option_map h (find test xs)
find_map test h [] same = refl
find_map {A} test h (x ∷ xs) same =
    rw (same x, find_map test h xs same)
    (elim (test x) as (λ b. cond b (Some (h x)) (option_map h (find test xs)) ≡ option_map h (cond b (Some x) (find test xs))) [ true ↦ refl | false ↦ refl ])

-- ---- items by place

-- there is one at each place below the length
pub get_below : {A : Type 0} (xs : List A) (n : ℕ) → n < length xs → (a : A) × (slice_get xs n ≡ Some a)
get_below [] n h = absurd (omega arith)
get_below (x ∷ xs) zero h = (x, refl)
get_below (x ∷ xs) (suc n) h = get_below xs n (omega arith)

-- in a list with one more at its end
pub get_push : {X : Type 0} (xs : List X) (y : X) (n : ℕ) (x : X) → slice_get (xs ++ y ∷ []) n ≡ Some x → (slice_get xs n ≡ Some x) ⊎ ((length xs ≡ n) × (y ≡ x))
get_push [] y zero x h = inr (refl, cc)
get_push [] y (suc n) x h = cc
get_push (z ∷ zs) y zero x h = inl h
get_push (z ∷ zs) y (suc n) x h = ⊎_elim (λ k. inl k) (λ k. inr (ap suc k.0, k.1)) (get_push zs y n x h)

-- another list of this length has one too
pub get_beside : {X Y : Type 0} (xs : List X) (ys : List Y) (p : ℕ) (x : X) → length xs ≡ length ys → slice_get xs p ≡ Some x → (y : Y) × (slice_get ys p ≡ Some y)
get_beside [] ys p x n h = cc
get_beside (x' ∷ xs) [] p x n h = cc
get_beside (x' ∷ xs) (y ∷ ys) zero x n h = (y, refl)
get_beside (x' ∷ xs) (y ∷ ys) (suc p) x n h = get_beside xs ys p x (omega (arith, n)) h

-- of a mapped list
pub get_map : {X Y : Type 0} (f : X → Y) (xs : List X) (p : ℕ) (x : X) → slice_get xs p ≡ Some x → slice_get (map f xs) p ≡ Some (f x)
get_map f [] p x at = cc
get_map f (y ∷ xs) zero x at = let same : y ≡ x = cc in ap (λ z. Some (f z)) same
get_map f (y ∷ xs) (suc p) x at = get_map f xs p x at

-- what it comes from
pub of_map : {X Y : Type 0} (f : X → Y) (xs : List X) (p : ℕ) (y : Y) → slice_get (map f xs) p ≡ Some y → (x : X) × (slice_get xs p ≡ Some x) × (f x ≡ y)
of_map f [] p y h = cc
of_map f (x ∷ xs) zero y h = (x, refl, cc)
of_map f (x ∷ xs) (suc p) y h = of_map f xs p y h

-- what was written stands there
pub get_there : {A : Type 0} (xs : List A) (p : ℕ) (x y : A) → slice_get xs p ≡ Some x → slice_get (slice_set xs p y) p ≡ Some y
get_there [] p x y h = cc
get_there (z ∷ xs) zero x y h = refl
get_there (z ∷ xs) (suc p) x y h = get_there xs p x y h

-- what stands in a list of which one place was set
pub get_set : {X : Type 0} (xs : List X) (i : ℕ) (y : X) (q : ℕ) (z : X) → slice_get (slice_set xs i y) q ≡ Some z → ((q ≡ i) × (z ≡ y)) ⊎ (slice_get xs q ≡ Some z)
get_set [] i y q z h = inr h
get_set (x ∷ xs) zero y zero z h = inl (refl, cc)
get_set (x ∷ xs) zero y (suc q) z h = inr h
get_set (x ∷ xs) (suc i) y zero z h = inr h
get_set (x ∷ xs) (suc i) y (suc q) z h = ⊎_elim (λ s. inl (ap suc s.0, s.1)) (λ s. inr s) (get_set xs i y q z h)

-- the others stay
pub get_other : {X : Type 0} (xs : List X) (p : ℕ) (y : X) (q : ℕ) → (q ≡ p → ⊥) → slice_get (slice_set xs p y) q ≡ slice_get xs q
get_other [] p y q other = refl
get_other (x ∷ xs) zero y zero other = absurd (other refl)
get_other (x ∷ xs) zero y (suc q) other = refl
get_other (x ∷ xs) (suc p) y zero other = refl
get_other (x ∷ xs) (suc p) y (suc q) other = get_other xs p y q (λ e. other (ap suc e))

-- the length stays
pub set_length : {X : Type 0} (xs : List X) (i : ℕ) (y : X) → length (slice_set xs i y) ≡ length xs
set_length [] i y = refl
set_length (x ∷ xs) zero y = refl
set_length (x ∷ xs) (suc i) y = ap suc (set_length xs i y)

-- setting what stands there changes nothing
pub set_own : {X : Type 0} (xs : List X) (i : ℕ) (x : X) → slice_get xs i ≡ Some x → slice_set xs i x ≡ xs
set_own [] i x at = refl
set_own (z ∷ zs) zero x at = let is : z ≡ x = cc in ap (λ a. a ∷ zs) (sym is)
set_own (z ∷ zs) (suc i) x at = ap (λ l. z ∷ l) (set_own zs i x at)

-- a mapped list
pub map_set : {X Y : Type 0} (f : X → Y) (xs : List X) (p : ℕ) (x : X) → map f (slice_set xs p x) ≡ slice_set (map f xs) p (f x)
map_set f [] p x = refl
map_set f (y ∷ ys) zero x = refl
map_set f (y ∷ ys) (suc p) x = ap (λ (l : List _). f y ∷ l) (map_set f ys p x)

-- the rest from a place on
pub drop_get : {X : Type 0} (xs : List X) (i : ℕ) (x : X) → slice_get xs i ≡ Some x → drop i xs ≡ x ∷ drop (suc i) xs
drop_get [] i x h = cc
drop_get {X} (y ∷ ys) zero x h = let same : y ≡ x = cc in ap (λ (z : X). z ∷ ys) same
drop_get (y ∷ ys) (suc i) x h = drop_get ys i x h

-- ---- lengths and maps

-- a list without items
pub no_items : {X : Type 0} (xs : List X) → (length xs == 0) ≡ true → xs ≡ []
no_items [] h = refl
no_items (x ∷ xs) h = absurd (grind (arith, h))

-- no more pass a test than there are
pub filter_length : {X : Type 0} (p : X → Bool) (xs : List X) → length (filter p xs) ≤ length xs
filter_length p [] = omega arith
filter_length {X} p (x ∷ xs) = on (p x) (filter_length p xs)
  where
    on : (b : Bool) → length (filter p xs) ≤ length xs → length (cond b (x ∷ filter p xs) (filter p xs)) ≤ length (x ∷ xs)
    on true rest = omega (arith, rest)
    on false rest = omega (arith, rest)

-- none passes a test that none of what they are mapped to passes
pub filter_none : {X Y : Type 0} (p : Y → Bool) (f : X → Y) (xs : List X) → ((x : X) → p (f x) ≡ false) → filter p (map f xs) ≡ []
filter_none p f [] h = refl
filter_none p f (x ∷ xs) h = rw (h x) (filter_none p f xs h)

-- one map after another
pub map_twice : {X Y Z : Type 0} (g : Y → Z) (f : X → Y) (h : X → Z) (xs : List X) → ((x : X) → g (f x) ≡ h x) → map g (map f xs) ≡ map h xs
map_twice g f h [] same = refl
map_twice g f h (x ∷ xs) same = rw (same x) (ap (λ l. h x ∷ l) (map_twice g f h xs same))

-- the same, as one map
pub map_both : {X Y Z : Type 0} (g : Y → Z) (f : X → Y) (xs : List X) → map g (map f xs) ≡ map (λ x. g (f x)) xs
map_both g f xs = map_twice g f (λ x. g (f x)) xs (λ x. refl)

-- a list written in place of another of its length
pub take_written : {X : Type 0} (new old : List X) (n : ℕ) → length new ≡ length old → n ≡ length old → take n (new ++ drop (length new) old) ≡ new
take_written {X} new old n same long =
    ap (λ (l : List X). take n (new ++ l)) (drop_all (length new) old (omega (arith, same))) ∙ ap (take n) (append-nil new) ∙ take_all n new (omega (arith, same, long))

-- one more that passes is one more of those that do
pub length_filter : {X : Type 0} (P : X → Bool) (xs : List X) (y : X) → P y ≡ true → length (filter P (xs ++ y ∷ [])) ≡ length (filter P xs) + 1
length_filter P [] y h = rw h refl
length_filter {X} P (x ∷ xs) y h = let k = length_filter P xs y h in elim (P x) as (λ b. length (cond b (x ∷ filter P (xs ++ y ∷ [])) (filter P (xs ++ y ∷ []))) ≡ length (cond b (x ∷ filter P xs) (filter P xs)) + 1) [ true ↦ omega arith | false ↦ k ]
