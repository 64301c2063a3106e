-- One share more is given away.
use Rattle.std.proofs.Common.{◌≡◌, ℕ, ◌+◌, ◌-◌, ◌<◌, List, [], ◌∷◌, map, ◌++◌, slice_get, Some, Vec, Global, sym, ap, ◌∙◌, subst, arith}
use Rattle.std.specs.List.{AllByRecursion}
use Rattle.net_base.proofs.Lists.{of_map, get_map, all_from_get, all_get, all_push, map_both, map_twice}
use Rattle.wire_queue.specs.declared.rule.Seen.{Seen}
use Rattle.wire_queue.specs.declared.inbox.InboxPass.{InboxPass}
use Rattle.wire_queue.specs.Wire.{Frame, IsIn, seen, fewer, fresh}
use Rattle.atomic_table.specs.Seated.{TableId}
use Rattle.wire_rows.specs.Rows.{AreRows, Spread, given_of}

-- what stands behind is what stood before, with a share less
came : (old kept : List InboxPass) → map (λ (p : InboxPass). p.seen) kept ≡ map (λ (p : InboxPass). fewer p.seen) old → (q : ℕ) (s : Seen) → slice_get (map (λ (p : InboxPass). p.seen) kept) q ≡ Some s → (p : InboxPass) × (slice_get old q ≡ Some p) × (fewer p.seen ≡ s)
came old kept is q s at = of_map (λ (p : InboxPass). fewer p.seen) old q s (subst (λ (l : List Seen). slice_get l q ≡ Some s) is at)

pub shares_step : (old kept : List InboxPass) (k : ℕ) → map (λ (p : InboxPass). p.seen) kept ≡ map (λ (p : InboxPass). fewer p.seen) old → k < 16 → AllByRecursion (λ (p : InboxPass). p.seen.shares + k ≡ 32) old → AllByRecursion (λ (p : InboxPass). p.seen.shares + (k + 1) ≡ 32) kept
shares_step old kept k is few all = all_from_get (λ (p : InboxPass). p.seen.shares + (k + 1) ≡ 32) kept (λ q p at.
    let was = came old kept is q p.seen (get_map (λ (p : InboxPass). p.seen) kept q p at) in
    let before : was.0.seen.shares + k ≡ 32 = all_get (λ (p : InboxPass). p.seen.shares + k ≡ 32) old q was.0 all was.1 in
    let now = ap (λ (s : Seen). s.shares) was.2 in
    omega (arith, before, now, few))

pub spread_step : (waited : List (List Frame)) (old kept : List InboxPass) (k : ℕ) → map (λ (p : InboxPass). p.seen) kept ≡ map (λ (p : InboxPass). fewer p.seen) old → k < 16 → Spread waited k (map (λ (p : InboxPass). p.seen) old) → Spread waited (k + 1) (map (λ (p : InboxPass). p.seen) kept)
spread_step waited old kept k is few spread = record {
  shares = λ q s at.
      let was = came old kept is q s at in
      let before = spread.shares q was.0.seen (get_map (λ (p : InboxPass). p.seen) old q was.0 was.1) in
      let now = ap (λ (s : Seen). s.shares) was.2 in
      omega (arith, before, now, few);
  posted = λ q s at x there.
      let was = came old kept is q s at in
      spread.posted q was.0.seen (get_map (λ (p : InboxPass). p.seen) old q was.0 was.1) x (subst (λ (s : Seen). IsIn x s.origins) (sym was.2) there);
}

pub all_pushed : {X : Type 0} (P : X → Type 0) (xs ys : List X) (x : X) → ys ≡ xs ++ x ∷ [] → AllByRecursion P xs → P x → AllByRecursion P ys
all_pushed P xs ys x is all here = subst (λ (l : List _). AllByRecursion P l) (sym is) (all_push P xs x all here)

pub rows_are : (ids : List TableId) (rows : List (Vec InboxPass Global)) → AreRows ids rows → AllByRecursion (λ (row : Vec InboxPass Global). (map (λ (p : InboxPass). p.of) row.items ≡ ids) × AllByRecursion (λ (p : InboxPass). p.seen ≡ fresh) row.items) rows
unfolding AreRows
rows_are ids rows h = h

-- what is left of the passes
fewer_given : (k : ℕ) (s : Seen) → fewer (given_of k s) ≡ given_of (k + 1) s
fewer_given k s = let is : s.shares - k - 1 ≡ s.shares - (k + 1) = omega arith in ap (λ (n : ℕ). seen n s.origins s.copies s.pulled) is

pub given_step : (first old kept : List InboxPass) (k : ℕ) → map (λ (p : InboxPass). p.seen) old ≡ map (λ (p : InboxPass). given_of k p.seen) first → map (λ (p : InboxPass). p.seen) kept ≡ map (λ (p : InboxPass). fewer p.seen) old
    → map (λ (p : InboxPass). p.seen) kept ≡ map (λ (p : InboxPass). given_of (k + 1) p.seen) first
given_step first old kept k is next =
    next ∙ sym (map_both fewer (λ (p : InboxPass). p.seen) old) ∙ ap (map fewer) is ∙ map_twice fewer (λ (p : InboxPass). given_of k p.seen) (λ (p : InboxPass). given_of (k + 1) p.seen) first (λ p. fewer_given k p.seen)
