-- An append, by its two synced writes.
use Rattle.std.proofs.Common.{◌≡◌, ◌⊎◌, inl, inr, ⊎_elim, ℕ, ◌+◌, ◌-◌, ◌<◌, ◌≤◌, false, List, [], ◌∷◌, ◌++◌, length, drop, refl, sym, ◌∙◌, ap, subst, arith, length-append}
use Rattle.std.proofs.lemmas.Bool.Decides.{nat_tests}
use Rattle.outside.specs.Disk.{DiskState, IsImage, EachImage, clean, with_range, overwritten}
use Rattle.outside.proofs.Moments.{started, weaker, then, clean_image, Either}
use Rattle.net_base.specs.declared.names.Identity.{Identity}
use Rattle.disk_journal.specs.Journal.{body_limit, record_limit, extent, journal_of, IsSound, IsOldOrNew, JournalSeen, Stands, entry, is_full_at}
use Rattle.disk_journal.proofs.Crash.{Parts, torn_parts, gate, gate_within}
use Rattle.disk_journal.proofs.Steps.{put_parts, before_gate, at_gate, after_gate, staged_within}

pub not_full : (count len : ℕ) → is_full_at count len ≡ false → (count < record_limit) × (len ≤ 133693435)
unfolding record_limit
not_full count len is = (grind (arith, nat_tests), grind (arith, nat_tests))

-- each image is one of these, and sound
abbrev pub Good : Identity → List ℕ → List ℕ → List ℕ → Type 0
Good id old b c = IsOldOrNew (journal_of old) b c × IsSound id c

pub stays : (j : JournalSeen) (d : DiskState) (b : List ℕ) → Stands j d → EachImage d d (Good j.of d.kept b)
stays j d b st = started d (Good j.of d.kept b) (λ c image. subst (Good j.of d.kept b) (sym (clean_image d.kept c (subst (λ s. IsImage s c) st.synced image))) (inl refl, st.sound))

module _ (j : JournalSeen) (d : DiskState) (b : List ℕ) (st : Stands j d) (small : length b ≤ body_limit) (fewer : length (journal_of d.kept) < record_limit) where
  abbrev g : ℕ
  g = gate j.of d.kept st.sound

  abbrev P : List ℕ → Type 0
  P c = Good j.of d.kept b c

  pub place : j.length ≡ g + 1
  place = omega (arith, st.ends)

  place_before : j.length - 1 ≡ g
  place_before = omega (arith, st.ends)

  pub first_within : j.length ≤ length d.kept
  first_within = omega (arith, place, gate_within j.of d.kept st.sound)

  abbrev pub staged : List ℕ
  staged = overwritten d.kept (g + 1) (entry b)

  here : (c : List ℕ) → IsImage d.now c → P c
  here c image =
      let is : c ≡ d.kept = clean_image d.kept c (subst (λ s. IsImage s c) st.synced image) in
      subst P (sym is) (inl refl, st.sound)

  -- with the record behind the gate
  old_one : (n : ℕ) (c : List ℕ) → Parts (g + 1) n d.kept c → P c
  old_one n c parts = let o = before_gate j.of d.kept st.sound b small n c parts in (inl o.0, o.1)

  within : g + 1 ≤ length d.kept
  within = omega (arith, gate_within j.of d.kept st.sound)

  pub staged_good : P staged
  staged_good = old_one (length (entry b)) staged (put_parts d.kept (entry b) (g + 1) within)

  torn_one : (c : List ℕ) → IsImage (with_range d.now (g + 1) (length (entry b))) c → P c
  torn_one c image = old_one (length (entry b)) c (torn_parts (g + 1) (length (entry b)) d.kept c within (subst (λ s. IsImage (with_range s (g + 1) (length (entry b))) c) st.synced image))

  pub first : (e : DiskState) → EachImage d e (Either d j.length (entry b)) → EachImage d e P
  first e l =
      weaker d e (Either d (g + 1) (entry b)) P
      (λ c. λ one. ⊎_elim (here c) (λ rest. ⊎_elim (torn_one c) (λ is. subst P (sym is) staged_good) rest) one)
      (subst (λ (k : ℕ). EachImage d e (Either d k (entry b))) place l)

  pub first_kept : (e : DiskState) → (e.kept ≡ d.kept) ⊎ IsImage (with_range d.now j.length (length (entry b))) e.kept → IsOldOrNew (journal_of d.kept) b e.kept
  first_kept e (inl same) = inl (ap journal_of same)
  first_kept e (inr pending) = (torn_one e.kept (subst (λ (k : ℕ). IsImage (with_range d.now k (length (entry b))) e.kept) place pending)).0

  -- the gate opens
  module _ (m : DiskState) (kept : m.kept ≡ overwritten d.kept j.length (entry b)) (synced : m.now ≡ clean m.kept) where
    is_staged : m.kept ≡ staged
    is_staged = kept ∙ ap (λ (k : ℕ). overwritten d.kept k (entry b)) place

    pub second_within : j.length - 1 ≤ length m.kept
    second_within = omega (arith, place, ap (λ (l : List ℕ). length l) is_staged, staged_within j.of d.kept st.sound b small)

    here_too : (c : List ℕ) → IsImage m.now c → P c
    here_too c image =
        let is : c ≡ m.kept = clean_image m.kept c (subst (λ s. IsImage s c) synced image) in
        subst P (sym (is ∙ is_staged)) staged_good

    torn_two : (c : List ℕ) → IsImage (with_range m.now g 1) c → P c
    torn_two c image =
        let clean_torn = subst (λ s. IsImage (with_range s g 1) c) synced image in
        let parts = torn_parts g 1 staged c (omega (arith, staged_within j.of d.kept st.sound b small)) (subst (λ (l : List ℕ). IsImage (with_range (clean l) g 1) c) is_staged clean_torn) in
        at_gate j.of d.kept st.sound b small c parts fewer

    abbrev opened : List ℕ
    opened = overwritten staged g (1 ∷ [])

    opened_good : P opened
    opened_good = let o = after_gate j.of d.kept st.sound b small fewer in (inr o.0, o.1)

    pub second : (e : DiskState) → EachImage m e (Either m (j.length - 1) (1 ∷ [])) → EachImage m e P
    second e l =
        weaker m e (Either m g (1 ∷ [])) P
        (λ c. λ one. ⊎_elim (here_too c) (λ rest. ⊎_elim (torn_two c) (λ is. subst P (sym (is ∙ ap (λ (l : List ℕ). overwritten l g (1 ∷ [])) is_staged)) opened_good) rest) one)
        (subst (λ (k : ℕ). EachImage m e (Either m k (1 ∷ []))) place_before l)

    pub both : (e : DiskState) → EachImage d m (Either d j.length (entry b)) → EachImage m e (Either m (j.length - 1) (1 ∷ [])) → EachImage d e P
    both e one two = then d m e P (first m one) (second e two)

    pub second_kept : (e : DiskState) → (e.kept ≡ m.kept) ⊎ IsImage (with_range m.now (j.length - 1) 1) e.kept → IsOldOrNew (journal_of d.kept) b e.kept
    second_kept e (inl same) = (subst P (sym (same ∙ is_staged)) staged_good).0
    second_kept e (inr pending) = (torn_two e.kept (subst (λ (k : ℕ). IsImage (with_range m.now k 1) e.kept) place_before pending)).0

    pub stands : (e : DiskState) (k : JournalSeen) → e.kept ≡ overwritten m.kept (j.length - 1) (1 ∷ []) → e.now ≡ clean e.kept → k.of ≡ j.of → k.length ≡ j.length + (5 + length b) → k.count ≡ j.count + 1
        → Stands k e × (journal_of e.kept ≡ journal_of d.kept ++ b ∷ [])
    stands e k kept_e synced_e same_of len count =
        let is : e.kept ≡ opened = kept_e ∙ (λ i. overwritten (is_staged i) (place_before i) (1 ∷ [])) in
        let o = after_gate j.of d.kept st.sound b small fewer in
        let new : journal_of e.kept ≡ journal_of d.kept ++ b ∷ [] = ap journal_of is ∙ o.0 in (
          record {
            synced = synced_e;
            sound = subst (λ (x : Identity). IsSound x e.kept) (sym same_of) (subst (IsSound j.of) (sym is) o.1);
            ends = omega (arith, len, st.ends, ap (λ (l : List ℕ). extent record_limit (drop 16 l)) is, o.2);
            counts = omega (arith, count, st.counts, ap (λ (l : List (List ℕ)). length l) new, length-append (journal_of d.kept) (b ∷ []));
          },
          new,
        )
