-- Each step keeps the rule of an inbox.
use Rattle.std.proofs.Common.{◌≡◌, ◌≢◌, ◌⊎◌, inl, inr, ⊎_elim, ℕ, zero, suc, ◌+◌, ◌-◌, ◌<◌, ◌≤◌, Bool, true, false, true≢false, ◌&&◌, List, [], ◌∷◌, ◌++◌, length, set, nat_eq, nat_lt, if◌then◌else◌, cond, sym, refl, ap, ◌∙◌, subst, arith, rules, Option, Some, None, IfSome, IfNone}
use Rattle.std.proofs.lemmas.Bool.{eqb-true}
use Rattle.std.proofs.lemmas.Bool.Decides.{nat_tests}
use mathlib.Core.Option.{some, some-injective, some-ne-none}
use lib.ListN.{get_elem?}
use lib.Pointwise.{pointwise}
use Rattle.crossbeam_queue.specs.Fifo.{Pushes, Pops, Forks, Merges, Learns, Held}
use Rattle.crossbeam_queue.proofs.Lists.{at_set, at_snoc}
use Rattle.wire_queue.specs.declared.rule.Seen.{Seen}
use Rattle.wire_queue.specs.Wire.{Frame, seen, weigh, one, times, total, posted, pulled_one, fewer, fresh, join_of, spent, IdleIsEmpty, Ours, FromOrigins, Settled, IsIn, TakenAsPosted}

exact : (xs ys : List ℕ) → pointwise nat_eq xs ys ≡ true → xs ≡ ys
exact [] [] e = refl
exact [] (y ∷ ys) e = absurd (true≢false (sym e))
exact (x ∷ xs) [] e = absurd (true≢false (sym e))
exact (x ∷ xs) (y ∷ ys) e = by (nat_eq x y) refl (exact xs ys) e
  where
    by : (b : Bool) → nat_eq x y ≡ b → (pointwise nat_eq xs ys ≡ true → xs ≡ ys) → (b && pointwise nat_eq xs ys) ≡ true → x ∷ xs ≡ y ∷ ys
    by true is same rest = λ i. eqb-true x y is i ∷ same rest i
    by false is same rest = absurd (true≢false (sym rest))

weigh-append : (h : Frame → ℕ) (xs ys : List Frame) → weigh h (xs ++ ys) ≡ weigh h xs + weigh h ys
weigh-append h [] ys = omega arith
weigh-append h (x ∷ xs) ys = omega (arith, weigh-append h xs ys)

-- the total after a change of one pass
total_set : (f : Seen → ℕ) (views : List Seen) (port : ℕ) (v w : Seen) → get_elem? views port ≡ some v → total f (set views port w) + f v ≡ total f views + f w
total_set f [] port v w at = absurd (some-ne-none v (sym at))
total_set f (u ∷ views) zero v w at = omega (arith, ap f (some-injective u v at))
total_set f (u ∷ views) (suc port) v w at = omega (arith, total_set f views port v w at)

-- no pass has more than all
total_has : (f : Seen → ℕ) (views : List Seen) (port : ℕ) (v : Seen) → get_elem? views port ≡ some v → f v ≤ total f views
total_has f [] port v at = absurd (some-ne-none v (sym at))
total_has f (u ∷ views) zero v at = omega (arith, ap f (some-injective u v at))
total_has f (u ∷ views) (suc port) v at = omega (arith, total_has f views port v at)

total_snoc : (f : Seen → ℕ) (views : List Seen) (w : Seen) → total f (views ++ w ∷ []) ≡ total f views + f w
total_snoc f [] w = omega arith
total_snoc f (u ∷ views) w = omega (arith, total_snoc f views w)

abbrev Empty : Seen → Type 0
Empty v = (v.origins ≡ []) × (v.copies ≡ []) × (v.pulled ≡ [])

idle_set : (views : List Seen) (port : ℕ) (w : Seen) → (w.shares ≡ 0 → Empty w) → IdleIsEmpty views → IdleIsEmpty (set views port w)
idle_set views port w mine others j u e none = ⊎_elim
    (λ (x : (j ≡ port) × (w ≡ u)). subst (λ (y : Seen). y.shares ≡ 0 → Empty y) x.1 mine none)
    (λ (x : (j ≢ port) × (get_elem? views j ≡ some u)). others j u x.1 none)
    (at_set views port j w u e)

idle_snoc : (views : List Seen) (w : Seen) → (w.shares ≡ 0 → Empty w) → IdleIsEmpty views → IdleIsEmpty (views ++ w ∷ [])
idle_snoc views w mine others j u e none = ⊎_elim
    (λ (x : get_elem? views j ≡ some u). others j u x none)
    (λ (x : w ≡ u). subst (λ (y : Seen). y.shares ≡ 0 → Empty y) x mine none)
    (at_snoc views w u j e)

-- where all shares are with one pass, a number that is 0 of each pass without a share is that pass's own
none_left : (f : Seen → ℕ) → ((v : Seen) → Empty v → f v ≡ 0) → (views : List Seen) → IdleIsEmpty views → total (λ v. v.shares) views ≡ 0 → total f views ≡ 0
none_left f zeros [] idle none = refl
none_left f zeros (u ∷ views) idle none =
    let here = zeros u (idle 0 u refl (omega arith)) in
    omega (arith, here, none_left f zeros views (λ j. idle (suc j)) (omega arith))

alone : (f : Seen → ℕ) → ((v : Seen) → Empty v → f v ≡ 0) → (views : List Seen) (port : ℕ) (v : Seen) → IdleIsEmpty views → get_elem? views port ≡ some v → total (λ u. u.shares) views ≡ v.shares → total f views ≡ f v
alone f zeros [] port v idle at all = absurd (some-ne-none v (sym at))
alone f zeros (u ∷ views) zero v idle at all =
    let same = some-injective u v at in
    omega (arith, ap f same, ap (λ (y : Seen). y.shares) same, none_left f zeros views (λ j. idle (suc j)) (let s = ap (λ (y : Seen). y.shares) same in omega arith))
alone f zeros (u ∷ views) (suc port) v idle at all =
    let has = total_has (λ y. y.shares) views port v at in
    let here = zeros u (idle 0 u refl (omega arith)) in
    omega (arith, here, alone f zeros views port v (λ j. idle (suc j)) at (omega arith))

zero_or : (n : ℕ) → (n ≡ 0) ⊎ (0 < n)
zero_or zero = inl refl
zero_or (suc n) = inr (omega arith)

one_exact : (f g : Frame) → 0 < one f g → f ≡ g
one_exact f g = by (pointwise nat_eq f g) (exact f g)
  where
    by : (b : Bool) → (b ≡ true → f ≡ g) → 0 < (if b then 1 else 0) → f ≡ g
    by true same lt = same refl
    by false same lt = absurd (omega arith)

posted_origin : (v : Seen) (x : Frame) (h : Frame → ℕ) → weigh h (posted v x).origins + weigh h (posted v x).copies ≡ weigh h v.origins + weigh h v.copies + h x
posted_origin v x h = by (nat_lt 0 (times x v.pulled))
  where
    by : (b : Bool) → let w = if b then seen v.shares v.origins (v.copies ++ x ∷ []) v.pulled else seen v.shares (v.origins ++ x ∷ []) v.copies v.pulled in weigh h w.origins + weigh h w.copies ≡ weigh h v.origins + weigh h v.copies + h x
    by true = omega (arith, weigh-append h v.copies (x ∷ []))
    by false = omega (arith, weigh-append h v.origins (x ∷ []))

posted_rest : (v : Seen) (x : Frame) → ((posted v x).shares ≡ v.shares) × ((posted v x).pulled ≡ v.pulled)
posted_rest v x = by (nat_lt 0 (times x v.pulled))
  where
    by : (b : Bool) → let w = if b then seen v.shares v.origins (v.copies ++ x ∷ []) v.pulled else seen v.shares (v.origins ++ x ∷ []) v.copies v.pulled in (w.shares ≡ v.shares) × (w.pulled ≡ v.pulled)
    by true = (refl, refl)
    by false = (refl, refl)

-- what a post does to the origins: they have the frame once more, or the pass had pulled it
posted_new : (v : Seen) (x f : Frame) → (times f (posted v x).origins ≡ times f v.origins + one f x) ⊎ ((0 < times x v.pulled) × (times f (posted v x).origins ≡ times f v.origins))
posted_new v x f = by (nat_lt 0 (times x v.pulled)) refl
  where
    by : (b : Bool) → nat_lt 0 (times x v.pulled) ≡ b → let w = if b then seen v.shares v.origins (v.copies ++ x ∷ []) v.pulled else seen v.shares (v.origins ++ x ∷ []) v.copies v.pulled in
        (times f w.origins ≡ times f v.origins + one f x) ⊎ ((0 < times x v.pulled) × (times f w.origins ≡ times f v.origins))
    by true is = inr (grind (arith, nat_tests), refl)
    by false is = inl (omega (arith, weigh-append (one f) v.origins (x ∷ [])))

pub pushes : (n port : ℕ) (v : Seen) (x : Frame) → 0 < v.shares → Pushes Ours n port v x (λ w. w ≡ posted v x)
pushes n port v x some_share items views room ours at = (posted v x, kept, refl)
  where
    shares : total (λ u. u.shares) (set views port (posted v x)) ≡ 32
    shares = omega (arith, ours.shares, total_set (λ u. u.shares) views port v (posted v x) at, (posted_rest v x).0)

    origin : (f : Frame) → 0 < times f (items ++ x ∷ []) + total (λ u. times f u.pulled) (set views port (posted v x)) → 0 < total (λ u. times f u.origins) (set views port (posted v x))
    origin f some_one =
        let p = total_set (λ u. times f u.pulled) views port v (posted v x) at in
        let o = total_set (λ u. times f u.origins) views port v (posted v x) at in
        let a = weigh-append (one f) items (x ∷ []) in
        let same = ap (λ l. times f l) (posted_rest v x).1 in
        let before = ours.origin f in
        ⊎_elim
        (λ more. grind (arith, p, o, a, same, before, more))
        (λ copy.
        let had = total_has (λ u. times x u.pulled) views port v at in
        let was : 0 < total (λ u. times x u.origins) views = ours.origin x (omega (arith, had, copy.0)) in
        ⊎_elim
        (λ (none : one f x ≡ 0). let b : 0 < total (λ u. times f u.origins) views = before (omega (arith, p, a, same, none, some_one)) in omega (arith, o, copy.1, b))
        (λ (here : 0 < one f x). let is = one_exact f x here in let b : 0 < total (λ u. times f u.origins) views = subst (λ (g : Frame). 0 < total (λ u. times g u.origins) views) (sym is) was in omega (arith, o, copy.1, b))
        (zero_or (one f x)))
        (posted_new v x f)

    kept : Ours (items ++ x ∷ []) (set views port (posted v x))
    kept = record {
      shares = shares;
      idle = idle_set views port (posted v x) (λ none. absurd (omega (arith, some_share, none, (posted_rest v x).0))) ours.idle;
      origin = origin;
      balance = λ h.
          let p = total_set (λ u. weigh h u.pulled) views port v (posted v x) at in
          let b = total_set (λ u. weigh h u.origins + weigh h u.copies) views port v (posted v x) at in
          omega (arith, p, b, ours.balance h, weigh-append h items (x ∷ []), ap (λ l. weigh h l) (posted_rest v x).1, posted_origin v x h);
    }

abbrev from_origins : (items : List Frame) (views : List Seen) (port : ℕ) (v : Seen) → Ours items views → get_elem? views port ≡ some v → FromOrigins v
from_origins items views port v ours at all f some_one =
    let whole : total (λ u. u.shares) views ≡ v.shares = omega (arith, ours.shares, all) in
    let p = alone (λ u. times f u.pulled) (λ u e. ap (λ l. times f l) e.2) views port v ours.idle at whole in
    let o = alone (λ u. times f u.origins) (λ u e. ap (λ l. times f l) e.0) views port v ours.idle at whole in
    let b = ours.origin f (omega (arith, p, some_one)) in
    omega (arith, o, b)

pub learns : (port : ℕ) (v : Seen) → Learns Ours port v (λ items. Settled v items)
learns port v items views ours at all h =
    let whole : total (λ u. u.shares) views ≡ v.shares = omega (arith, ours.shares, all) in
    let p = alone (λ u. weigh h u.pulled) (λ u e. ap (λ l. weigh h l) e.2) views port v ours.idle at whole in
    let o = alone (λ u. weigh h u.origins + weigh h u.copies) (λ u e. omega (arith, ap (λ l. weigh h l) e.0, ap (λ l. weigh h l) e.1)) views port v ours.idle at whole in
    omega (arith, p, o, ours.balance h)

pub learns_all : (port : ℕ) (v : Seen) → Learns Ours port v (λ items. Settled v items × FromOrigins v)
learns_all port v items views ours at = (learns port v items views ours at, from_origins items views port v ours at)

here_now : (views : List Seen) (port : ℕ) (v w : Seen) → get_elem? views port ≡ some v → get_elem? (set views port w) port ≡ some w
here_now [] port v w at = absurd (some-ne-none v (sym at))
here_now (u ∷ views) zero v w at = refl
here_now (u ∷ views) (suc port) v w at = here_now views port v w at

pub pops : (port : ℕ) (v : Seen) → 0 < v.shares → Pops Ours port v (λ x w. (w ≡ pulled_one v x) × FromOrigins w)
pops port v some_share x items views ours at = (pulled_one v x, kept, (refl, from_origins items (set views port (pulled_one v x)) port (pulled_one v x) kept (here_now views port v (pulled_one v x) at)))
  where
    kept : Ours items (set views port (pulled_one v x))
    kept = record {
      shares = omega (arith, ours.shares, total_set (λ u. u.shares) views port v (pulled_one v x) at);
      idle = idle_set views port (pulled_one v x) (λ none. absurd (omega (arith, some_share, none))) ours.idle;
      origin = λ f some_one.
          let p = total_set (λ u. times f u.pulled) views port v (pulled_one v x) at in
          let o = total_set (λ u. times f u.origins) views port v (pulled_one v x) at in
          let b = ours.origin f (omega (arith, p, weigh-append (one f) v.pulled (x ∷ []), some_one)) in
          omega (arith, o, b);
      balance = λ h.
          let p = total_set (λ u. weigh h u.pulled) views port v (pulled_one v x) at in
          let o = total_set (λ u. weigh h u.origins + weigh h u.copies) views port v (pulled_one v x) at in
          omega (arith, p, o, ours.balance h, weigh-append h v.pulled (x ∷ []));
    }

pub forks : (port : ℕ) (v : Seen) → 1 < v.shares → Forks Ours port v (fewer v) fresh
forks port v two items views ours at = record {
  shares = omega (arith, ours.shares, two, total_set (λ u. u.shares) views port v (fewer v) at, total_snoc (λ u. u.shares) (set views port (fewer v)) fresh);
  idle = idle_snoc (set views port (fewer v)) fresh (λ none. absurd (omega (arith, none))) (idle_set views port (fewer v) (λ none. absurd (omega (arith, two, none))) ours.idle);
  origin = λ f some_one.
      let p = total_set (λ u. times f u.pulled) views port v (fewer v) at in
      let p' = total_snoc (λ u. times f u.pulled) (set views port (fewer v)) fresh in
      let o = total_set (λ u. times f u.origins) views port v (fewer v) at in
      let o' = total_snoc (λ u. times f u.origins) (set views port (fewer v)) fresh in
      let b = ours.origin f (omega (arith, p, p', some_one)) in
      omega (arith, o, o', b);
  balance = λ h.
      let p = total_set (λ u. weigh h u.pulled) views port v (fewer v) at in
      let p' = total_snoc (λ u. weigh h u.pulled) (set views port (fewer v)) fresh in
      let o = total_set (λ u. weigh h u.origins + weigh h u.copies) views port v (fewer v) at in
      let o' = total_snoc (λ u. weigh h u.origins + weigh h u.copies) (set views port (fewer v)) fresh in
      omega (arith, p, p', o, o', ours.balance h);
}

-- a number that adds up over the lists stays as it is in all
merged : (f : Seen → ℕ) (views : List Seen) (port other : ℕ) (v w : Seen) → get_elem? views port ≡ some v → get_elem? (set views port (join_of v w)) other ≡ some w
    → f (join_of v w) ≡ f v + f w → f spent ≡ 0 → total f (set (set views port (join_of v w)) other spent) ≡ total f views
merged f views port other v w at there adds none =
    omega (arith, total_set f views port v (join_of v w) at, total_set f (set views port (join_of v w)) other w spent there, adds, none)

pub merges : (port : ℕ) (v : Seen) (other : ℕ) (w : Seen) → 0 < v.shares → Merges Ours port v other w (join_of v w) spent
merges port v other w some_share items views ours at apart there = record {
  shares = merged (λ u. u.shares) views port other v w at there refl refl ∙ ours.shares;
  idle = idle_set (set views port (join_of v w)) other spent (λ none. (refl, refl, refl)) (idle_set views port (join_of v w) (λ none. absurd (omega (arith, some_share, none))) ours.idle);
  origin = λ f some_one.
      let p = merged (λ u. times f u.pulled) views port other v w at there (weigh-append (one f) v.pulled w.pulled) refl in
      let o = merged (λ u. times f u.origins) views port other v w at there (weigh-append (one f) v.origins w.origins) refl in
      let b = ours.origin f (omega (arith, p, some_one)) in
      omega (arith, o, b);
  balance = λ h.
      let p = merged (λ u. weigh h u.pulled) views port other v w at there (weigh-append h v.pulled w.pulled) refl in
      let o = merged (λ u. weigh h u.origins + weigh h u.copies) views port other v w at there (omega (arith, weigh-append h v.origins w.origins, weigh-append h v.copies w.copies)) refl in
      omega (arith, p, o, ours.balance h);
}

weigh_ones : (xs : List Frame) → weigh (λ _. 1) xs ≡ length xs
weigh_ones [] = refl
weigh_ones (x ∷ xs) = omega (arith, weigh_ones xs)

-- the pass that has every share and pulled nothing posts short of the capacity
pub filled : (r : Option Frame) (old new : Seen) (xs : List Frame) (x : Frame) → old ≡ seen 32 xs [] [] → length xs < 1024 → IfNone r (new ≡ posted old x)
    → IfSome r (λ y. Held 1024 (Settled old)) → new ≡ seen 32 (xs ++ x ∷ []) [] []
filled None old new xs x is room put full = put ∙ ap (λ v. posted v x) is
filled (Some y) old new xs x is room put full =
    let held = subst (λ (v : Seen). Held 1024 (Settled v)) is full in
    let all = held.2 refl (λ _. 1) in
    absurd (omega (arith, all, held.1, weigh_ones xs, weigh_ones held.0, room))

-- ---- members

same_one : (xs ys : List ℕ) → xs ≡ ys → pointwise nat_eq xs ys ≡ true
same_one [] ys e = subst (λ (l : List ℕ). pointwise nat_eq [] l ≡ true) e refl
same_one (x ∷ xs) ys e = subst (λ (l : List ℕ). pointwise nat_eq (x ∷ xs) l ≡ true) e (itself (x ∷ xs))
  where
    one : (x : ℕ) → nat_eq x x ≡ true
    one x = grind (arith, nat_tests)

    itself : (l : List ℕ) → pointwise nat_eq l l ≡ true
    itself [] = refl
    itself (x ∷ xs) = rw (one x) (itself xs)

pub has_in : (f : Frame) (xs : List Frame) → 0 < times f xs → IsIn f xs
has_in f [] had = absurd (omega (arith, had))
has_in f (x ∷ xs) had = ⊎_elim
    (λ (none : one f x ≡ 0). inr (has_in f xs (omega (arith, none, had))))
    (λ (here : 0 < one f x). inl (one_exact f x here))
    (zero_or (one f x))

pub in_has : (f : Frame) (xs : List Frame) → IsIn f xs → 0 < times f xs
in_has f [] there = absurd there
in_has f (x ∷ xs) (inl same) = let e : one f x ≡ 1 = ap (λ (b : Bool). if b then 1 else 0) (same_one f x same) in omega (arith, e)
in_has f (x ∷ xs) (inr there) = omega (arith, in_has f xs there)

pub in_origins : (v : Seen) (f : Frame) → v.shares ≡ 32 → FromOrigins v → IsIn f v.pulled → IsIn f v.origins
in_origins v f all from there = has_in f v.origins (from all f (in_has f v.pulled there))

pub in_append : (f : Frame) (xs ys : List Frame) → IsIn f (xs ++ ys) → IsIn f xs ⊎ IsIn f ys
in_append f [] ys there = inr there
in_append f (x ∷ xs) ys (inl same) = inl (inl same)
in_append f (x ∷ xs) ys (inr there) = ⊎_elim (λ (h : IsIn f xs). inl (inr h)) (λ (h : IsIn f ys). inr h) (in_append f xs ys there)

pub in_left : (f : Frame) (xs ys : List Frame) → IsIn f xs → IsIn f (xs ++ ys)
in_left f [] ys there = absurd there
in_left f (x ∷ xs) ys (inl same) = inl same
in_left f (x ∷ xs) ys (inr there) = inr (in_left f xs ys there)

pub in_right : (f : Frame) (xs ys : List Frame) → IsIn f ys → IsIn f (xs ++ ys)
in_right f [] ys there = there
in_right f (x ∷ xs) ys there = inr (in_right f xs ys there)

-- an origin after a post is one of before, or the frame; and where the pass had pulled the frame, it is one of before
pub posted_from : (v : Seen) (x f : Frame) → IsIn f (posted v x).origins → IsIn f v.origins ⊎ (f ≡ x)
posted_from v x f = by (nat_lt 0 (times x v.pulled))
  where
    by : (b : Bool) → let w = if b then seen v.shares v.origins (v.copies ++ x ∷ []) v.pulled else seen v.shares (v.origins ++ x ∷ []) v.copies v.pulled in IsIn f w.origins → IsIn f v.origins ⊎ (f ≡ x)
    by true there = inl there
    by false there = ⊎_elim (λ (h : IsIn f v.origins). inl h) (λ (h : IsIn f (x ∷ [])). ⊎_elim (λ (same : f ≡ x). inr same) (λ (none : ⊥). absurd none) h) (in_append f v.origins (x ∷ []) there)

pub copied_from : (v : Seen) (x f : Frame) → IsIn x v.pulled → IsIn f (posted v x).origins → IsIn f v.origins
copied_from v x f had = by (nat_lt 0 (times x v.pulled)) refl
  where
    by : (b : Bool) → nat_lt 0 (times x v.pulled) ≡ b → let w = if b then seen v.shares v.origins (v.copies ++ x ∷ []) v.pulled else seen v.shares (v.origins ++ x ∷ []) v.copies v.pulled in IsIn f w.origins → IsIn f v.origins
    by true is there = there
    by false is there = let once = in_has x v.pulled had in absurd (grind (arith, nat_tests))

pub posted_pulled : (v : Seen) (x : Frame) → (posted v x).pulled ≡ v.pulled
posted_pulled v x = (posted_rest v x).1

pub posted_shares : (v : Seen) (x : Frame) → (posted v x).shares ≡ v.shares
posted_shares v x = (posted_rest v x).0

-- ---- the law

pub taken_as_posted : TakenAsPosted
taken_as_posted items views f ours = (ours.origin f, omega (arith, ours.balance (one f)))
