-- The items that aren't acknowledged.
use Rattle.std.proofs.Common.{◌≡◌, ℕ, zero, suc, ◌+◌, ◌<◌, ◌≤◌, true, false, List, [], ◌∷◌, ◌++◌, Option, Some, None, refl, sym, ◌∙◌, ap, map, filter, drop, length, slice_get, arith, nat_le, Bor}
use Rattle.std.proofs.lemmas.Bool.{le-leb, lt-leb}
use Rattle.std.specs.Prelude.{zip, flat_map, IsSome, option_copied}
use Rattle.std.proofs.lemmas.List.{append_assoc, length-map, drop_all}
use Rattle.net_base.specs.declared.values.Party.{Party}
use Rattle.net_base.proofs.Lists.{get_below, get_map, drop_get}
use Rattle.session_wire.specs.Sessions.{Session, Sent}
use Rattle.session_table.specs.Tables.{item_of, items_from, unacked_in}
use Rattle.session_table.specs.declared.resent.Item.{Item}

-- the items from the n-th on are it and those behind it
pub item_step : (me : Party) (s : Session) (n : ℕ) (x : Sent) → slice_get s.sent n ≡ Some x → items_from me s n (drop n s.sent) ≡ item_of me s n x ∷ items_from me s (n + 1) (drop (n + 1) s.sent)
item_step me s n x is =
    let up : suc n ≡ n + 1 = omega arith in
    ap (items_from me s n) (drop_get s.sent n x is) ∙ ap (λ (m : ℕ). item_of me s n x ∷ items_from me s (n + 1) (drop m s.sent)) up

-- and behind the last there are none
pub item_end : (me : Party) (s : Session) (n : ℕ) → length s.sent ≤ n → items_from me s n (drop n s.sent) ≡ []
item_end me s n past = ap (items_from me s n) (drop_all n s.sent past)

-- items whose numbers begin at n or past it are all at or past n
all_past : (me : Party) (s : Session) (n m : ℕ) (xs : List Sent) → n ≤ m → filter (λ i. nat_le n i.number) (items_from me s m xs) ≡ items_from me s m xs
all_past me s n m [] h = refl
all_past me s n m (x ∷ xs) h =
    let here : nat_le n m ≡ true = le-leb n m h in
    rw here (ap (λ (l : List Item). item_of me s m x ∷ l) (all_past me s n (m + 1) xs (omega (arith, h))))

-- those at or past n are what is left behind the ones below it
left_past : (me : Party) (s : Session) (k n m : ℕ) (xs : List Sent) → n ≡ m + k → filter (λ i. nat_le n i.number) (items_from me s m xs) ≡ items_from me s n (drop k xs)
left_past me s zero n m xs e =
    let same : m ≡ n = omega (arith, e) in
    all_past me s n m xs (omega (arith, e)) ∙ ap (λ (r : ℕ). items_from me s r xs) same
left_past me s (suc k) n m [] e = refl
left_past me s (suc k) n m (x ∷ xs) e =
    let below : nat_le n m ≡ false = lt-leb n m (omega (arith, e)) in
    rw below (left_past me s k n (m + 1) xs (omega (arith, e)))

-- so they are the items from the n-th on
pub unacked_is : (me : Party) (s : Session) (n : ℕ) → items_from me s n (drop n s.sent) ≡ unacked_in me (s, n)
unacked_is me s n = sym (left_past me s n n 0 s.sent (omega arith))

-- two values of each element, side by side
pub zip_maps : {X A B : Type 0} (f : X → A) (g : X → B) (xs : List X) → zip (map f xs) (map g xs) ≡ map (λ x. (f x, g x)) xs
zip_maps f g [] = refl
zip_maps f g (x ∷ xs) = ap (λ l. (f x, g x) ∷ l) (zip_maps f g xs)

get_none : {X A : Type 0} (f : X → A) (xs : List X) (n : ℕ) → slice_get xs n ≡ None → slice_get (map f xs) n ≡ None
get_none f [] n e = refl
get_none f (y ∷ ys) zero e = absurd (cc e)
get_none f (y ∷ ys) (suc n) e = get_none f ys n e

pub pair_at : {X A B : Type 0} (f : X → A) (g : X → B) (xs : List X) (n : ℕ) (x : X) → slice_get xs n ≡ Some x → slice_get (zip (map f xs) (map g xs)) n ≡ Some (f x, g x)
pair_at f g xs n x is = ap (λ l. slice_get l n) (zip_maps f g xs) ∙ get_map (λ x. (f x, g x)) xs n x is

pub no_pair : {X A B : Type 0} (f : X → A) (g : X → B) (xs : List X) (n : ℕ) → slice_get xs n ≡ None → slice_get (zip (map f xs) (map g xs)) n ≡ None
no_pair f g xs n none = ap (λ l. slice_get l n) (zip_maps f g xs) ∙ get_none (λ x. (f x, g x)) xs n none

pub pairs_are : {X A B : Type 0} (f : X → A) (g : X → B) (xs : List X) → length (zip (map f xs) (map g xs)) ≡ length xs
pairs_are f g xs = ap length (zip_maps f g xs) ∙ length-map xs (λ x. (f x, g x))

pub is_there : {V : Type 0} (r : Option (Bor V)) (xs : List V) (n : ℕ) → option_copied r ≡ slice_get xs n → n < length xs → IsSome r
is_there None xs n e h = let at = get_below xs n h in absurd (let none : None ≡ Some at.0 = e ∙ at.1 in cc none)
is_there (Some b) xs n e h = refl

-- what is done, one more, and what is left
pub pushed : {V : Type 0} (done after : List V) (v w : V) (rest whole all : List V) → after ≡ done ++ v ∷ [] → v ≡ w → whole ≡ w ∷ rest → done ++ whole ≡ all → after ++ rest ≡ all
pushed {V} done after v w rest whole all more same step before =
    ap (λ (l : List V). l ++ rest) more ∙ append_assoc done (v ∷ []) rest ∙ ap (λ (z : V). done ++ z ∷ rest) same ∙ ap (λ (l : List V). done ++ l) (sym step) ∙ before

pub appended : {X V : Type 0} (f : X → List V) (zs : List X) (n : ℕ) (p : X) (done after all : List V) → slice_get zs n ≡ Some p → after ≡ done ++ f p → done ++ flat_map f (drop n zs) ≡ all → after ++ flat_map f (drop (n + 1) zs) ≡ all
appended {X} {V} f zs n p done after all at more before =
    let up : n + 1 ≡ suc n = omega arith in
    ap (λ (l : List V). l ++ flat_map f (drop (n + 1) zs)) more
    ∙ append_assoc done (f p) (flat_map f (drop (n + 1) zs))
    ∙ ap (λ (m : ℕ). done ++ (f p ++ flat_map f (drop m zs))) up
    ∙ ap (λ (l : List X). done ++ flat_map f l) (sym (drop_get zs n p at))
    ∙ before
