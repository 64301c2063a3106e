-- The items of a session among those of all.
use Rattle.std.proofs.Common.{◌≡◌, ℕ, zero, suc, ◌+◌, Bool, true, false, ◌&&◌, List, [], ◌∷◌, ◌++◌, Option, Some, None, refl, sym, ◌∙◌, ap, cond, length, slice_get, arith, nat_eq, eq-eqb, length-append, true≢false, append-nil}
use Rattle.std.proofs.lemmas.Bool.{eqb-true, ne_eqb}
use Rattle.std.specs.Map.{lookup, set_value}
use Rattle.std.specs.Option.{option_map_or, option_or}
use Rattle.net_base.specs.declared.names.Key.{Key}
use Rattle.session_wire.specs.Sessions.{key_eq}
use Rattle.session_wire.proofs.Keys.{key_exact}
use Rattle.session_table.specs.Kept.{items_of, place_eq, place_of, IsNumbered, IsCounted}
use Rattle.session_table.specs.declared.standing.Standing.{Standing}
use Rattle.session_table.specs.declared.standing.Place.{Place}

-- one more item joins those of its session
pub items_more : {V : Type 0} (k : Key) (es : List (Place × V)) (p : Place) (x : V) → items_of k (es ++ (p, x) ∷ []) ≡ items_of k es ++ cond (key_eq k p.key) (x ∷ []) []
items_more k [] p x = by (key_eq k p.key)
  where
    by : (b : Bool) → cond b (x ∷ []) [] ≡ [] ++ cond b (x ∷ []) []
    by true = refl
    by false = refl
items_more k (e ∷ es) p x = by (key_eq k e.0.key) (items_more k es p x)
  where
    by : (b : Bool) → items_of k (es ++ (p, x) ∷ []) ≡ items_of k es ++ cond (key_eq k p.key) (x ∷ []) [] → cond b (e.1 ∷ items_of k (es ++ (p, x) ∷ [])) (items_of k (es ++ (p, x) ∷ [])) ≡ cond b (e.1 ∷ items_of k es) (items_of k es) ++ cond (key_eq k p.key) (x ∷ []) []
    by true rest = ap (λ l. e.1 ∷ l) rest
    by false rest = rest

-- a look-up with one more entry
pub lookup_more : {K V : Type 0} (test : K → Bool) (es : List (K × V)) (p : K) (x : V) → lookup test (es ++ (p, x) ∷ []) ≡ option_or (lookup test es) (cond (test p) (Some x) None)
lookup_more test [] p x = refl
lookup_more {K} {V} test (e ∷ es) p x = by (test e.0) (lookup_more test es p x)
  where
    by : (b : Bool) → lookup test (es ++ (p, x) ∷ []) ≡ option_or (lookup test es) (cond (test p) (Some x) None) → cond b (Some e.1) (lookup test (es ++ (p, x) ∷ [])) ≡ option_or (cond b (Some e.1) (lookup test es)) (cond (test p) (Some x) None)
    by true rest = refl
    by false rest = rest

-- numbers that are equal one up
pub same_suc : (a b : ℕ) → nat_eq (suc a) (suc b) ≡ nat_eq a b
same_suc a b = by (nat_eq a b) refl
  where
    by : (t : Bool) → nat_eq a b ≡ t → nat_eq (suc a) (suc b) ≡ t
    by true is = eq-eqb (suc a) (suc b) (ap suc (eqb-true a b is))
    by false is = ne_eqb (suc a) (suc b) (λ e. true≢false (sym (eq-eqb a b (omega (arith, e))) ∙ is))

-- the item behind a list
pub at_end : {V : Type 0} (xs : List V) (x : V) (m : ℕ) → option_or (slice_get xs m) (cond (nat_eq m (length xs)) (Some x) None) ≡ slice_get (xs ++ x ∷ []) m
at_end [] x zero = refl
at_end [] x (suc m) = let apart : nat_eq (suc m) 0 ≡ false = ne_eqb (suc m) 0 (λ e. omega (arith, e)) in rw apart refl
at_end (y ∷ ys) x zero = refl
at_end (y ∷ ys) x (suc m) = rw (same_suc m (length ys)) (at_end ys x m)

pub past_end : {V : Type 0} (xs : List V) (n : ℕ) → n ≡ length xs → slice_get xs n ≡ None
past_end [] n e = refl
past_end (x ∷ xs) zero e = absurd (omega (arith, e))
past_end (x ∷ xs) (suc n) e = past_end xs n (omega (arith, e))

pub or_none : {V : Type 0} (o : Option V) → option_or o None ≡ o
or_none None = refl
or_none (Some x) = refl

-- the next item of a session stands under its number too
pub numbered_more : {V : Type 0} (items : List (Place × V)) (k : Key) (n : ℕ) (x : V) → IsNumbered items → n ≡ length (items_of k items) → IsNumbered (items ++ (place_of k n, x) ∷ [])
numbered_more {V} items k n x numbered next = λ q m.
    lookup_more (place_eq (place_of q m)) items (place_of k n) x
    ∙ ap (λ (o : Option V). option_or o (cond (place_eq (place_of q m) (place_of k n)) (Some x) None)) (numbered q m)
    ∙ by q m (key_eq q k) refl
    ∙ ap (λ (l : List V). slice_get l m) (sym (items_more q items (place_of k n) x))
  where
    by : (q : Key) (m : ℕ) (b : Bool) → key_eq q k ≡ b → option_or (slice_get (items_of q items) m) (cond (key_eq q k && nat_eq m n) (Some x) None) ≡ slice_get (items_of q items ++ cond (key_eq q k) (x ∷ []) []) m
    by q m true is =
        let end : n ≡ length (items_of q items) = next ∙ ap (λ (r : Key). length (items_of r items)) (sym (key_exact q k is)) in
        rw is (rw end (at_end (items_of q items) x m))
    by q m false is = rw is (or_none (slice_get (items_of q items) m) ∙ ap (λ (l : List V). slice_get l m) (sym (append-nil (items_of q items))))

-- and that place is free before
pub place_free : {V : Type 0} (items : List (Place × V)) (k : Key) (n : ℕ) → IsNumbered items → n ≡ length (items_of k items) → lookup (place_eq (place_of k n)) items ≡ None
place_free items k n numbered next = numbered k n ∙ past_end (items_of k items) n next

-- what a session counts once the way in which one stands was changed
pub count_set : (count : Standing → ℕ) (lines : List (Key × Standing)) (k : Key) (v w : Standing) → Some v ≡ lookup (key_eq k) lines → (q : Key) → option_map_or count (lookup (key_eq q) (set_value (key_eq k) lines w)) 0 ≡ cond (key_eq q k) (count w) (option_map_or count (lookup (key_eq q) lines) 0)
count_set count [] k v w there q = absurd (let e : Some v ≡ None = there in cc e)
count_set count (e ∷ es) k v w there q = by (key_eq k e.0) refl (λ here. count_set count es k v w here q)
  where
    inner : (b : Bool) → key_eq k e.0 ≡ false → key_eq q e.0 ≡ b → option_map_or count (lookup (key_eq q) (set_value (key_eq k) es w)) 0 ≡ cond (key_eq q k) (count w) (option_map_or count (lookup (key_eq q) es) 0) → option_map_or count (cond (key_eq q e.0) (Some e.1) (lookup (key_eq q) (set_value (key_eq k) es w))) 0 ≡ cond (key_eq q k) (count w) (option_map_or count (cond (key_eq q e.0) (Some e.1) (lookup (key_eq q) es)) 0)
    inner true apart is rest = rw is (differ (key_eq q k) refl)
      where
        differ : (b : Bool) → key_eq q k ≡ b → count e.1 ≡ cond (key_eq q k) (count w) (count e.1)
        differ true same = absurd (true≢false (sym is ∙ ap (λ (r : Key). key_eq r e.0) (key_exact q k same) ∙ apart))
        differ false same = rw same refl
    inner false apart is rest = rw is rest

    first : (b : Bool) → key_eq k e.0 ≡ true → key_eq q e.0 ≡ b → option_map_or count (cond (key_eq q e.0) (Some w) (lookup (key_eq q) es)) 0 ≡ cond (key_eq q k) (count w) (option_map_or count (cond (key_eq q e.0) (Some e.1) (lookup (key_eq q) es)) 0)
    first true here is = let same : key_eq q k ≡ true = ap (key_eq q) (key_exact k e.0 here) ∙ is in rw is (rw same refl)
    first false here is = let same : key_eq q k ≡ false = ap (key_eq q) (key_exact k e.0 here) ∙ is in rw is (rw same refl)

    by : (b : Bool) → key_eq k e.0 ≡ b → (Some v ≡ lookup (key_eq k) es → option_map_or count (lookup (key_eq q) (set_value (key_eq k) es w)) 0 ≡ cond (key_eq q k) (count w) (option_map_or count (lookup (key_eq q) es) 0)) → option_map_or count (lookup (key_eq q) (cond (key_eq k e.0) ((e.0, w) ∷ es) (e ∷ set_value (key_eq k) es w))) 0 ≡ cond (key_eq q k) (count w) (option_map_or count (cond (key_eq q e.0) (Some e.1) (lookup (key_eq q) es)) 0)
    by true is rest = rw is (first (key_eq q e.0) is refl)
    by false is rest = rw is (inner (key_eq q e.0) is refl (rest (rw is at there)))

-- one more item of the session that counts one more
pub counted_more : {V : Type 0} (count : Standing → ℕ) (lines : List (Key × Standing)) (items : List (Place × V)) (k : Key) (n : ℕ) (x : V) (v w : Standing) → Some v ≡ lookup (key_eq k) lines → count w ≡ count v + 1 → IsCounted count lines items → IsCounted count (set_value (key_eq k) lines w) (items ++ (place_of k n, x) ∷ [])
counted_more {V} count lines items k n x v w there more counted = λ q. ap length (items_more q items (place_of k n) x) ∙ by q (key_eq q k) refl ∙ sym (count_set count lines k v w there q)
  where
    by : (q : Key) (b : Bool) → key_eq q k ≡ b → length (items_of q items ++ cond (key_eq q k) (x ∷ []) []) ≡ cond (key_eq q k) (count w) (option_map_or count (lookup (key_eq q) lines) 0)
    by q true is =
        let here : length (items_of q items) ≡ count v = ap (λ (r : Key). length (items_of r items)) (key_exact q k is) ∙ counted k ∙ ap (λ (o : Option Standing). option_map_or count o 0) (sym there) in
        rw is (omega (arith, here, more, length-append (items_of q items) (x ∷ [])))
    by q false is = rw is (ap length (append-nil (items_of q items)) ∙ counted q)

-- no item more, and no count either
pub counted_same : {V : Type 0} (count : Standing → ℕ) (lines : List (Key × Standing)) (items : List (Place × V)) (k : Key) (v w : Standing) → Some v ≡ lookup (key_eq k) lines → count w ≡ count v → IsCounted count lines items → IsCounted count (set_value (key_eq k) lines w) items
counted_same {V} count lines items k v w there same counted = λ q. by q (key_eq q k) refl ∙ sym (count_set count lines k v w there q)
  where
    by : (q : Key) (b : Bool) → key_eq q k ≡ b → length (items_of q items) ≡ cond (key_eq q k) (count w) (option_map_or count (lookup (key_eq q) lines) 0)
    by q true is = rw is (ap (λ (r : Key). length (items_of r items)) (key_exact q k is) ∙ counted k ∙ ap (λ (o : Option Standing). option_map_or count o 0) (sym there) ∙ sym same)
    by q false is = rw is (counted q)

-- one more session, without items
pub counted_begun : {V : Type 0} (count : Standing → ℕ) (lines : List (Key × Standing)) (items : List (Place × V)) (k : Key) (w : Standing) → count w ≡ 0 → IsCounted count lines items → IsCounted count (lines ++ (k, w) ∷ []) items
counted_begun {V} count lines items k w none counted = λ q. counted q ∙ by q (lookup (key_eq q) lines) refl (key_eq q k) ∙ sym (ap (λ (o : Option Standing). option_map_or count o 0) (lookup_more (key_eq q) lines k w))
  where
    by : (q : Key) (o : Option Standing) → lookup (key_eq q) lines ≡ o → (b : Bool) → option_map_or count (lookup (key_eq q) lines) 0 ≡ option_map_or count (option_or (lookup (key_eq q) lines) (cond b (Some w) None)) 0
    by q (Some u) is b = rw is refl
    by q None is true = rw is (sym none)
    by q None is false = rw is refl
