-- A write is an image of what stood before, with its range.
use Rattle.std.proofs.Common.{◌≡◌, ◌⊎◌, inl, inr, ⊎_elim, ℕ, ◌+◌, ◌-◌, ◌<◌, ◌≤◌, max, List, [], ◌∷◌, ◌++◌, length, take, drop, get_or, map, refl, sym, ◌∙◌, ap, arith, min, length-append, length-drop, length-take}
use Rattle.std.proofs.lemmas.List.{length-take-le, get_or-take, get_or-drop, get_or_append_left, get_or-append_right, take_at}
use Rattle.outside.specs.Disk.{Durable, IsImage, written_end, overwritten, with_range, clean}
use Rattle.outside.proofs.Moments.{clean_image}
use Rattle.outside.proofs.Writes.{length-overwritten, back-overwritten}
use Rattle.disk_mem.proofs.Ranges.{untouched_parts}
use Rattle.std.proofs.lemmas.Grind.{same_number_lists}
use Rattle.disk_mem.specs.Mem.{durable_of, durable}
use Rattle.disk_mem.specs.declared.lay.Medium.{Medium}
use Rattle.std.specs.declared.snapshot.Snapshot.{Snapshot}
use Rattle.std.proofs.lemmas.Bool.{cases_lt}

reach_push : (n : ℕ) (ts : List (ℕ × ℕ)) (r : ℕ × ℕ) → (r.0 + r.1 ≤ written_end n (ts ++ r ∷ [])) × (written_end n ts ≤ written_end n (ts ++ r ∷ []))
reach_push n [] r = (omega arith, omega arith)
reach_push n (t ∷ ts) r = let rest = reach_push n ts r in (omega (arith, rest.0), omega (arith, rest.1))

module _ (old bytes : List ℕ) (at : ℕ) (within : at ≤ length old) where
  front : length (take at old ++ bytes) ≡ at + length bytes
  front = omega (arith, length-append (take at old) bytes, length-take-le at old within)

  get-overwritten : (i : ℕ) → i < length old → (i < at) ⊎ (at + length bytes ≤ i) → get_or (overwritten old at bytes) i 0 ≡ get_or old i 0
  get-overwritten i lt (inl before) =
      get_or_append_left (take at old ++ bytes) (drop (at + length bytes) old) 0 i (omega (arith, front, before))
      ∙ get_or_append_left (take at old) bytes 0 i (omega (arith, length-take-le at old within, before))
      ∙ get_or-take at old i 0 before
  get-overwritten i lt (inr after) =
      get_or-append_right (take at old ++ bytes) (drop (at + length bytes) old) (at + length bytes) i 0 front after
      ∙ get_or-drop (at + length bytes) old (i - (at + length bytes)) 0
      ∙ ap (λ (n : ℕ). get_or old n 0) (omega (arith, after))

  -- what was written is there
  pub written-overwritten : take (length bytes) (drop at (overwritten old at bytes)) ≡ bytes
  written-overwritten = ap (λ (l : List ℕ). take (length bytes) l) (back-overwritten old bytes at within) ∙ take_at bytes (drop (at + length bytes) old) (length bytes) refl

  pub inside-overwritten : (i : ℕ) → at ≤ i → i < at + length bytes → get_or (overwritten old at bytes) i 0 ≡ get_or bytes (i - at) 0
  inside-overwritten i lo hi =
      let off : at + (i - at) ≡ i = omega (arith, lo) in
      ap (λ (k : ℕ). get_or (overwritten old at bytes) k 0) (sym off) ∙ sym (get_or-drop at (overwritten old at bytes) (i - at) 0) ∙ ap (λ (l : List ℕ). get_or l (i - at) 0) (back-overwritten old bytes at within)
      ∙ get_or_append_left bytes (drop (at + length bytes) old) 0 (i - at) (omega (arith, lo, hi))

  pub image_put : (s : Durable) → IsImage s old → IsImage (with_range s at (length bytes)) (overwritten old at bytes)
  image_put s image = record {
    no_shorter = omega (arith, length-overwritten old bytes at within, image.no_shorter);
    no_longer = let r = reach_push (length s.synced) s.pending (at, length bytes) in omega (arith, length-overwritten old bytes at within, image.no_longer, r.0, r.1);
    elsewhere = λ i lt u. let rest = untouched_parts s.pending (at, length bytes) i u in get-overwritten i (omega (arith, lt, image.no_shorter)) rest.1 ∙ image.elsewhere i lt rest.0;
  }

pub past_push : (past : List (Snapshot Medium)) (s : Snapshot Medium) (l : Medium) → s.value ≡ l → map (λ (x : Snapshot Medium). durable_of x.value) (past ++ s ∷ []) ≡ map (λ (x : Snapshot Medium). durable_of x.value) past ++ durable_of l ∷ []
past_push [] s l is = ap (λ (x : Medium). durable_of x ∷ []) is
past_push (p ∷ past) s l is = ap (λ (xs : List Durable). durable_of p.value ∷ xs) (past_push past s l is)

-- with no range since the sync, what is there is what was synced
pub clean_now : (synced : List ℕ) (pending : List (ℕ × ℕ)) (bytes : List ℕ) → length pending ≡ 0 → IsImage (record { synced = synced; pending = pending }) bytes → durable synced pending ≡ clean bytes
clean_now synced [] bytes none image = λ i. record { synced = sym (clean_image synced bytes image) i; pending = [] }
clean_now synced (t ∷ ts) bytes none image = absurd (omega (arith, none))

-- the second half of a write taken back
module _ (was bytes covered : List ℕ) (at h from : ℕ) (place : at ≤ length was) (half : h ≤ length bytes) (under : covered ≡ take (min (length bytes) (length was - at)) (drop at was)) (first : from ≡ min h (length covered)) where
  abbrev all : List ℕ
  all = overwritten was at bytes

  abbrev tail : List ℕ
  tail = drop from covered

  abbrev mid : List ℕ
  mid = overwritten all (at + from) tail

  abbrev wanted : List ℕ
  wanted = overwritten was at (take h bytes)

  abbrev n : ℕ
  n = max (length was) (at + h)

  covered_len : length covered ≡ min (length bytes) (length was - at)
  covered_len = ap (λ (l : List ℕ). length l) under ∙ length-take-le (min (length bytes) (length was - at)) (drop at was) (omega (arith, length-drop at was))

  tail_len : length tail ≡ length covered - from
  tail_len = length-drop from covered

  all_len : length all ≡ max (length was) (at + length bytes)
  all_len = length-overwritten was bytes at place

  fits : at + from ≤ length all
  fits = omega (arith, all_len, covered_len, first)

  mid_len : length mid ≡ length all
  mid_len = omega (arith, length-overwritten all tail (at + from) fits, tail_len, all_len, covered_len, first)

  h_len : length (take h bytes) ≡ h
  h_len = length-take-le h bytes half

  wanted_len : length wanted ≡ n
  wanted_len = omega (arith, length-overwritten was (take h bytes) at place, h_len)

  outer : (i : ℕ) → (i < at + from) ⊎ (at + from + length tail ≤ i) → i < length all → get_or mid i 0 ≡ get_or all i 0
  outer i out lt = get-overwritten all tail (at + from) fits i lt out

  at_place : (i : ℕ) → i < n → get_or mid i 0 ≡ get_or wanted i 0
  at_place i lt = ⊎_elim before (λ le. ⊎_elim (within le) (behind le) (cases_lt i (at + h))) (cases_lt i at)
    where
      in_all : i < length all
      in_all = omega (arith, lt, all_len, half)

      before : i < at → get_or mid i 0 ≡ get_or wanted i 0
      before b = outer i (inl (omega (arith, b))) in_all ∙ outside (omega (arith, b)) ∙ sym (get-overwritten was (take h bytes) at place i (omega (arith, b, place)) (inl b))
        where
          outside : i < at → get_or all i 0 ≡ get_or was i 0
          outside b = get-overwritten was bytes at place i (omega (arith, b, place)) (inl b)

      within : at ≤ i → i < at + h → get_or mid i 0 ≡ get_or wanted i 0
      within le small =
          let out : (i < at + from) ⊎ (at + from + length tail ≤ i) = ⊎_elim (λ x. inl x) (λ x. inr (omega (arith, x, tail_len, first, small))) (cases_lt i (at + from)) in
          outer i out in_all ∙ inside-overwritten was bytes at place i le (omega (arith, small, half)) ∙ sym (get_or-take h bytes (i - at) 0 (omega (arith, le, small)))
          ∙ sym (inside-overwritten was (take h bytes) at place i le (omega (arith, small, h_len)))

      behind : at ≤ i → at + h ≤ i → get_or mid i 0 ≡ get_or wanted i 0
      behind le past =
          let in_was : i < length was = omega (arith, lt, past) in
          let last : get_or wanted i 0 ≡ get_or was i 0 = get-overwritten was (take h bytes) at place i in_was (inr (omega (arith, h_len, past))) in
          ⊎_elim (λ inner. covered_there inner ∙ sym last) (λ beyond. outer i (inr (omega (arith, beyond, tail_len, first))) in_all ∙ get-overwritten was bytes at place i in_was (inr (omega (arith, beyond, covered_len, in_was))) ∙ sym last) (cases_lt i (at + length covered))
        where
          covered_there : i < at + length covered → get_or mid i 0 ≡ get_or was i 0
          covered_there inner =
              let off : from + (i - (at + from)) ≡ i - at = omega (arith, first, past) in
              let back : at + (i - at) ≡ i = omega (arith, le) in
              inside-overwritten all tail (at + from) fits i (omega (arith, first, past)) (omega (arith, inner, tail_len, first, past)) ∙ get_or-drop from covered (i - (at + from)) 0 ∙ ap (λ (k : ℕ). get_or covered k 0) off
              ∙ ap (λ (l : List ℕ). get_or l (i - at) 0) under ∙ get_or-take (min (length bytes) (length was - at)) (drop at was) (i - at) 0 (omega (arith, inner, covered_len, le)) ∙ get_or-drop at was (i - at) 0 ∙ ap (λ (k : ℕ). get_or was k 0) back

  pub halved : take n mid ≡ wanted
  halved =
      let len : length (take n mid) ≡ length wanted = omega (arith, length-take n mid, mid_len, all_len, wanted_len, half) in
      same_number_lists (take n mid) wanted len (λ i lt. let small : i < n = omega (arith, lt, len, wanted_len) in get_or-take n mid i 0 small ∙ at_place i small)
