-- Passes that are joined, one of each inbox.
use Rattle.std.proofs.lemmas.List.{length-map}
use Rattle.std.proofs.Common.{◌<◌, length-append, append-nil, ◌≡◌, ℕ, zero, suc, List, [], ◌∷◌, ◌++◌, length, map, slice_get, slice_set, Some, refl, sym, ap, subst, ◌∙◌, arith}
use Rattle.net_base.proofs.Options.{some_eq}
use Rattle.net_base.proofs.Lists.{get_map, map_set}
use Rattle.atomic_table.specs.Seated.{TableId}
use Rattle.wire_queue.specs.declared.inbox.InboxPass.{InboxPass}
use Rattle.wire_queue.specs.declared.rule.Seen.{Seen}
use Rattle.wire_queue.specs.Wire.{join_of}
use Rattle.wire_rows.specs.Ends.{Joined}

-- these passes, the first of them joined with those of the row
abbrev pub join_front : List Seen → List Seen → List Seen
join_front [] row = []
join_front (s ∷ own) [] = s ∷ own
join_front (s ∷ own) (t ∷ row) = join_of s t ∷ join_front own row

pub join_none : (own : List Seen) → own ≡ join_front own []
join_none [] = refl
join_none (s ∷ own) = refl

pub join_length : (own row : List Seen) → length (join_front own row) ≡ length own
join_length [] row = refl
join_length (s ∷ own) [] = refl
join_length (s ∷ own) (t ∷ row) = omega (arith, join_length own row)

-- the next one is joined
pub join_next : (own row : List Seen) (s t : Seen) → slice_get (join_front own row) (length row) ≡ Some s → slice_set (join_front own row) (length row) (join_of s t) ≡ join_front own (row ++ t ∷ [])
join_next [] row s t at = cc
join_next (u ∷ own) [] s t at = ap (λ (z : Seen). join_of z t ∷ own) (sym (some_eq at)) ∙ ap (λ (l : List Seen). join_of u t ∷ l) (join_none own)
join_next (u ∷ own) (r ∷ row) s t at = ap (λ (l : List Seen). join_of u r ∷ l) (join_next own row s t at)

each_joined : (own row : List Seen) (q : ℕ) (s t u : Seen) → slice_get own q ≡ Some s → slice_get row q ≡ Some t → slice_get (join_front own row) q ≡ Some u → u ≡ join_of s t
each_joined [] row q s t u is be at = cc
each_joined (v ∷ own) [] q s t u is be at = cc
each_joined (v ∷ own) (r ∷ row) zero s t u is be at = sym (some_eq at) ∙ ap (λ (z : Seen). join_of z r) (some_eq is) ∙ ap (join_of s) (some_eq be)
each_joined (v ∷ own) (r ∷ row) (suc q) s t u is be at = each_joined own row q s t u is be at

pub joined_all : (own row new : List Seen) → length row ≡ length own → new ≡ join_front own row → Joined own row new
joined_all own row new len is = record {
  count = ap length is ∙ join_length own row;
  beside = len;
  each = λ q s t u at be now. each_joined own row q s t u at be (subst (λ (l : List Seen). slice_get l q ≡ Some u) is now);
}

pub map_snoc : {X Y : Type 0} (f : X → Y) (xs : List X) (x : X) → map f (xs ++ x ∷ []) ≡ map f xs ++ f x ∷ []
map_snoc f [] x = refl
map_snoc f (y ∷ xs) x = ap (λ (l : List _). f y ∷ l) (map_snoc f xs x)

-- one pass more was joined
pub row_step : (passes yielded : List InboxPass) (start : List Seen) (at : ℕ) (mine new other : InboxPass) → slice_get passes at ≡ Some mine → at ≡ length yielded → map (λ (p : InboxPass). p.seen) passes ≡ join_front start (map (λ (p : InboxPass). p.seen) yielded)
    → new.seen ≡ join_of mine.seen other.seen → map (λ (p : InboxPass). p.seen) (slice_set passes at new) ≡ join_front start (map (λ (p : InboxPass). p.seen) (yielded ++ other ∷ []))
row_step passes yielded start at mine new other there is so_far both =
    let seens = map (λ (p : InboxPass). p.seen) yielded in
    let len : at ≡ length seens = is ∙ sym (length-map yielded (λ (p : InboxPass). p.seen)) in
    let here : slice_get (join_front start seens) (length seens) ≡ Some mine.seen = subst (λ (n : ℕ). slice_get (join_front start seens) n ≡ Some mine.seen) len (subst (λ (l : List Seen). slice_get l at ≡ Some mine.seen) so_far (get_map (λ (p : InboxPass). p.seen) passes at mine there)) in
    let one : map (λ (p : InboxPass). p.seen) (slice_set passes at new) ≡ slice_set (map (λ (p : InboxPass). p.seen) passes) at (join_of mine.seen other.seen) = map_set (λ (p : InboxPass). p.seen) passes at new ∙ ap (slice_set (map (λ (p : InboxPass). p.seen) passes) at) both in
    let two : slice_set (map (λ (p : InboxPass). p.seen) passes) at (join_of mine.seen other.seen) ≡ slice_set (join_front start seens) (length seens) (join_of mine.seen other.seen) = ap (λ (l : List Seen). slice_set l at (join_of mine.seen other.seen)) so_far ∙ ap (λ (n : ℕ). slice_set (join_front start seens) n (join_of mine.seen other.seen)) len in
    one ∙ two ∙ join_next start seens mine.seen other.seen here ∙ ap (join_front start) (sym (map_snoc (λ (p : InboxPass). p.seen) yielded other))

-- a pass of the row has an inbox at its place
pub row_below : (yielded rest row : List InboxPass) (pass : InboxPass) (inboxes : List TableId) (at : ℕ) → yielded ++ pass ∷ rest ≡ row → map (λ (p : InboxPass). p.of) row ≡ inboxes → at ≡ length yielded → at < length inboxes
row_below yielded rest row pass inboxes at all of is =
    let a = ap (λ (l : List InboxPass). length l) all in
    let b = ap (λ (l : List TableId). length l) of in
    let c = length-map row (λ (p : InboxPass). p.of) in
    let d = length-append yielded (pass ∷ rest) in
    omega (arith, a, b, c, d, is)

pub row_length : (own row : List InboxPass) (inboxes : List TableId) → map (λ (p : InboxPass). p.of) own ≡ inboxes → map (λ (p : InboxPass). p.of) row ≡ inboxes → length (map (λ (p : InboxPass). p.seen) row) ≡ length (map (λ (p : InboxPass). p.seen) own)
row_length own row inboxes a b =
    let x = ap (λ (l : List TableId). length l) a in
    let y = ap (λ (l : List TableId). length l) b in
    omega (arith, x, y, length-map own (λ (p : InboxPass). p.of), length-map row (λ (p : InboxPass). p.of), length-map own (λ (p : InboxPass). p.seen), length-map row (λ (p : InboxPass). p.seen))

pub all_yielded : (yielded rest row : List InboxPass) → rest ≡ [] → yielded ++ rest ≡ row → yielded ≡ row
all_yielded yielded rest row none all = sym (append-nil yielded) ∙ ap (λ (l : List InboxPass). yielded ++ l) (sym none) ∙ all

pub no_length : {X : Type 0} (xs : List X) → length xs ≡ 0 → xs ≡ []
no_length [] none = refl
no_length (x ∷ xs) none = absurd (omega (arith, none))
