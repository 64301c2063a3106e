-- What a power cut leaves in each step of an append.
use Rattle.std.proofs.Common.{◌≡◌, ◌≢◌, ◌⊎◌, inl, inr, ℕ, suc, ◌+◌, ◌-◌, ◌<◌, ◌≤◌, max, nat_le, true, false, List, [], ◌∷◌, ◌++◌, length, get_or, take, drop, Option, Some, sym, ◌∙◌, ap, arith, length-drop, length-take, take-append-drop}
use Rattle.std.proofs.lemmas.List.{append-nil, take-take, drop-drop, drop-take, get_or-take, get_or-drop}
use Rattle.std.proofs.lemmas.Grind.{same_number_lists}
use Rattle.std.proofs.lemmas.Bool.Decides.{nat_tests}
use Rattle.std.proofs.lemmas.Bool.{cases_Bool}
use Rattle.outside.specs.Disk.{IsImage, clean, with_range}
use Rattle.net_base.specs.declared.names.Identity.{Identity}
use Rattle.disk_journal.specs.Journal.{body_limit, record_limit, bodies, extent, damage, is_closed, named, found, bodies_of, journal_of, IsSound, entry}
use Rattle.disk_journal.proofs.Records.{bodies_swap, damage_swap, extent_swap, bodies_closed, bodies_entry, ends, closed_parts}

-- the parts of what a pending write leaves
pub record Parts (at n : ℕ) (old new : List ℕ) : Type 0 where
  pub before : take at new ≡ take at old
  pub after : drop (at + n) new ≡ drop (at + n) old
  pub no_shorter : length old ≤ length new
  pub no_longer : length new ≤ max (length old) (at + n)

pub torn_parts : (at n : ℕ) (old new : List ℕ) → at ≤ length old → IsImage (with_range (clean old) at n) new → Parts at n old new
torn_parts at n old new within image = record {
  before = same_number_lists (take at new) (take at old) (omega (arith, length-take at new, length-take at old, within, image.no_shorter))
      (λ k lt. let k_at : k < at = omega (arith, length-take at new, lt) in get_or-take at new k 0 k_at ∙ image.elsewhere k (omega (arith, k_at, within)) (inl k_at, tt) ∙ sym (get_or-take at old k 0 k_at));
  after = same_number_lists (drop (at + n) new) (drop (at + n) old) (omega (arith, length-drop (at + n) new, length-drop (at + n) old, image.no_shorter, image.no_longer))
      (λ k lt. get_or-drop (at + n) new k 0 ∙ image.elsewhere (at + n + k) (omega (arith, lt, length-drop (at + n) new, image.no_longer)) (inr (omega arith), tt) ∙ sym (get_or-drop (at + n) old k 0));
  no_shorter = image.no_shorter;
  no_longer = omega (arith, image.no_longer);
}

pub found_long : (id : Identity) (c : List ℕ) → found c ≡ Some id → 17 ≤ length c
unfolding found
found_long id c is = by (cases_Bool (nat_le 17 (length c)))
  where
    by : (nat_le 17 (length c) ≡ true) ⊎ (nat_le 17 (length c) ≡ false) → 17 ≤ length c
    by (inl le) = grind (arith, nat_tests, le)
    by (inr gt) = absurd (cc (rw gt at is))

pub same_found : (c k : List ℕ) → take 16 c ≡ take 16 k → 17 ≤ length c → 17 ≤ length k → found c ≡ found k
unfolding found
same_found c k same long_c long_k =
    let c_le : nat_le 17 (length c) ≡ true = grind (arith, nat_tests) in
    let k_le : nat_le 17 (length k) ≡ true = grind (arith, nat_tests) in
    rw (c_le, k_le) (ap named same)

pub journal_by : (id : Identity) (c : List ℕ) → found c ≡ Some id → journal_of c ≡ bodies record_limit (drop 16 c)
unfolding journal_of
journal_by id c is = ap (λ (x : Option Identity). bodies_of x (drop 16 c)) is

-- a sound image, and where its records end
module _ (id : Identity) (old : List ℕ) (sound : IsSound id old) where
  abbrev size : ℕ
  size = extent record_limit (drop 16 old)

  abbrev pub gate : ℕ
  gate = 16 + size

  abbrev left : ℕ
  left = record_limit - length (bodies record_limit (drop 16 old))

  closed : is_closed (drop gate old) ≡ true
  closed = ap is_closed (sym (drop-drop size 16 old)) ∙ ends record_limit 16 (drop 16 old) sound.ends

  pub gate_within : gate < length old
  gate_within = omega (arith, (closed_parts (drop gate old) closed).0, length-drop gate old)

  pub gate_shut : get_or old gate 0 ≢ 1
  gate_shut = λ is. (closed_parts (drop gate old) closed).1 (get_or-drop gate old 0 0 ∙ ap (λ (k : ℕ). get_or old k 0) same ∙ is)
    where
      same : gate + 0 ≡ gate
      same = omega arith

  -- other bytes from the gate on
  module _ (c y : List ℕ) (front : take gate c ≡ take gate old) (back : drop gate c ≡ y) (some : 0 < length y) where
    long : gate < length c
    long = omega (arith, ap (λ (l : List ℕ). length l) back, length-drop gate c, some)

    head : take 16 c ≡ take 16 old
    head = sym (take-take 16 gate c (omega arith)) ∙ ap (λ (l : List ℕ). take 16 l) front ∙ take-take 16 gate old (omega arith)

    pub names : found c ≡ Some id
    names = same_found c old head (omega (arith, long)) (omega (arith, gate_within)) ∙ sound.named

    records : drop 16 c ≡ take size (drop 16 old) ++ y
    records =
        sym (take-append-drop size (drop 16 c))
        ∙ (λ i. (sym (drop-take 16 size c) ∙ ap (λ (l : List ℕ). drop 16 l) front ∙ drop-take 16 size old) i ++ (drop-drop size 16 c ∙ back) i)

    pub journal : journal_of c ≡ journal_of old ++ bodies left y
    journal =
        journal_by id c names ∙ ap (bodies record_limit) records ∙ bodies_swap record_limit (drop 16 old) y some
        ∙ ap (λ (l : List (List ℕ)). l ++ bodies left y) (sym (journal_by id old sound.named))

    pub harm : damage record_limit 16 (drop 16 c) ≡ damage left gate y
    harm = ap (damage record_limit 16) records ∙ damage_swap record_limit 16 (drop 16 old) y some

    pub wide : extent record_limit (drop 16 c) ≡ size + extent left y
    wide = ap (extent record_limit) records ∙ extent_swap record_limit (drop 16 old) y some

    -- a closed gate there
    pub shut : get_or y 0 0 ≢ 1 → (journal_of c ≡ journal_of old) × IsSound id c
    shut other =
        let none = bodies_closed left y some other in (
          journal ∙ ap (λ (l : List (List ℕ)). journal_of old ++ l) none.0 ∙ append-nil (journal_of old),
          record { named = names; ends = harm ∙ none.1 gate },
        )

    -- a record there
    pub opened : (b rest : List ℕ) → y ≡ 1 ∷ (entry b ++ rest) → length b ≤ body_limit → length (journal_of old) < record_limit → (journal_of c ≡ journal_of old ++ b ∷ []) × IsSound id c × (extent record_limit (drop 16 c) ≡ size + (5 + length b))
    opened b rest is small fewer =
        let count : length (journal_of old) ≡ length (bodies record_limit (drop 16 old)) = ap (λ (l : List (List ℕ)). length l) (journal_by id old sound.named) in
        let m = left - 1 in
        let more : left ≡ suc m = omega (arith, count, fewer) in
        let one = bodies_entry m b rest small in (
          journal ∙ ap (λ (l : List (List ℕ)). journal_of old ++ l) ((λ i. bodies (more i) (is i)) ∙ one.0),
          record { named = names; ends = harm ∙ (λ i. damage (more i) gate (is i)) ∙ one.1 gate },
          wide ∙ ap (λ (k : ℕ). size + k) ((λ i. extent (more i) (is i)) ∙ one.2),
        )
