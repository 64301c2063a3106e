-- The two steps of an append.
use Rattle.std.proofs.Common.{◌≡◌, ◌⊎◌, inl, inr, ⊎_elim, ℕ, ◌+◌, ◌<◌, ◌≤◌, List, [], ◌∷◌, ◌++◌, length, get_or, take, drop, refl, sym, ◌∙◌, ap, arith, length-drop}
use Rattle.std.proofs.lemmas.List.{take-take, drop_at, drop-drop, drop_more, get_or-take, get_or-drop}
use Rattle.std.proofs.lemmas.Bool.{cases_eq}
use Rattle.outside.specs.Disk.{overwritten}
use Rattle.outside.proofs.Writes.{length-overwritten, front-overwritten, back-overwritten}
use Rattle.net_base.specs.declared.names.Identity.{Identity}
use Rattle.disk_journal.specs.Journal.{body_limit, record_limit, extent, journal_of, IsSound, entry}
use Rattle.disk_journal.proofs.Crash.{Parts, gate, gate_within, gate_shut, shut, opened}

-- a write leaves its bytes between the parts
module _ (old bytes : List ℕ) (at : ℕ) (within : at ≤ length old) where
  pub put_parts : Parts at (length bytes) old (overwritten old at bytes)
  put_parts = record {
    before = front-overwritten old bytes at within;
    after = sym (drop-drop (length bytes) at (overwritten old at bytes)) ∙ ap (drop (length bytes)) (back-overwritten old bytes at within) ∙ drop_at bytes (drop (at + length bytes) old) (length bytes) refl;
    no_shorter = omega (arith, length-overwritten old bytes at within);
    no_longer = omega (arith, length-overwritten old bytes at within);
  }

module _ (id : Identity) (old : List ℕ) (sound : IsSound id old) (b : List ℕ) (small : length b ≤ body_limit) where
  abbrev g : ℕ
  g = gate id old sound

  next_within : g + 1 ≤ length old
  next_within = omega (arith, gate_within id old sound)

  -- the record behind the closed gate
  pub before_gate : (n : ℕ) (c : List ℕ) → Parts (g + 1) n old c → (journal_of c ≡ journal_of old) × IsSound id c
  before_gate n c parts =
      let front : take g c ≡ take g old = sym (take-take g (g + 1) c (omega arith)) ∙ ap (take g) parts.before ∙ take-take g (g + 1) old (omega arith) in
      let some : 0 < length (drop g c) = omega (arith, length-drop g c, parts.no_shorter, next_within) in
      let zero_off : g + 0 ≡ g = omega arith in
      let same : get_or (drop g c) 0 0 ≡ get_or old g 0 =
      get_or-drop g c 0 0 ∙ ap (λ (k : ℕ). get_or c k 0) zero_off ∙ sym (get_or-take (g + 1) c g 0 (omega arith)) ∙ ap (λ (l : List ℕ). get_or l g 0) parts.before ∙ get_or-take (g + 1) old g 0 (omega arith) in
      shut id old sound c (drop g c) front refl some (λ is. gate_shut id old sound (sym same ∙ is))

  abbrev staged : List ℕ
  staged = overwritten old (g + 1) (entry b)

  abbrev junk : List ℕ
  junk = drop (g + 1 + length (entry b)) old

  staged_front : take g staged ≡ take g old
  staged_front = sym (take-take g (g + 1) staged (omega arith)) ∙ ap (take g) (front-overwritten old (entry b) (g + 1) next_within) ∙ take-take g (g + 1) old (omega arith)

  staged_back : drop (g + 1) staged ≡ entry b ++ junk
  staged_back = back-overwritten old (entry b) (g + 1) next_within

  pub staged_within : g + 1 ≤ length staged
  staged_within = omega (arith, length-overwritten old (entry b) (g + 1) next_within, next_within)

  behind : (c : List ℕ) → Parts g 1 staged c → drop g c ≡ get_or c g 0 ∷ (entry b ++ junk)
  behind c parts = drop_more c g 0 (omega (arith, parts.no_shorter, staged_within)) ∙ ap (λ (l : List ℕ). get_or c g 0 ∷ l) (parts.after ∙ staged_back)

  -- the gate opens or it doesn't
  pub at_gate : (c : List ℕ) → Parts g 1 staged c → length (journal_of old) < record_limit → ((journal_of c ≡ journal_of old) ⊎ (journal_of c ≡ journal_of old ++ b ∷ [])) × IsSound id c
  at_gate c parts fewer =
      let y : List ℕ = get_or c g 0 ∷ (entry b ++ junk) in
      let front : take g c ≡ take g old = parts.before ∙ staged_front in
      let back = behind c parts in
      ⊎_elim
      (λ is. let o = opened id old sound c y front back (omega arith) b junk (ap (λ (k : ℕ). k ∷ (entry b ++ junk)) is) small fewer in (inr o.0, o.1))
      (λ other. let s = shut id old sound c y front back (omega arith) other in (inl s.0, s.1))
      (cases_eq (get_or c g 0) 1)

  pub after_gate : length (journal_of old) < record_limit → (journal_of (overwritten staged g (1 ∷ [])) ≡ journal_of old ++ b ∷ []) × IsSound id (overwritten staged g (1 ∷ [])) × (extent record_limit (drop 16 (overwritten staged g (1 ∷ []))) ≡ extent record_limit (drop 16 old) + (5 + length b))
  after_gate fewer =
      let c = overwritten staged g (1 ∷ []) in
      let within : g ≤ length staged = omega (arith, staged_within) in
      let parts = put_parts staged (1 ∷ []) g within in
      let zero_off : g + 0 ≡ g = omega arith in
      let is : get_or c g 0 ≡ 1 = ap (λ (k : ℕ). get_or c k 0) (sym zero_off) ∙ sym (get_or-drop g c 0 0) ∙ ap (λ (l : List ℕ). get_or l 0 0) (back-overwritten staged (1 ∷ []) g within) in
      opened id old sound c (get_or c g 0 ∷ (entry b ++ junk)) (parts.before ∙ staged_front) (behind c parts) (omega arith) b junk (ap (λ (k : ℕ). k ∷ (entry b ++ junk)) is) small fewer
