-- A begun formatting can be finished.
use Rattle.std.proofs.Common.{◌≡◌, ◌≢◌, ◌⊎◌, inl, inr, ⊎_elim, ℕ, ◌<◌, ◌≤◌, ◌==◌, true, false, List, [], ◌∷◌, ◌++◌, length, get_or, drop, None, refl, sym, ◌∙◌, ap, subst, arith}
use Rattle.std.proofs.lemmas.Bool.{cases_eq, cases_Bool, cases_lt}
use Rattle.std.proofs.lemmas.Bool.Decides.{nat_tests}
use Rattle.std.proofs.lemmas.List.{get_or-take, drop_more}
use Rattle.outside.specs.Disk.{DiskState, Durable, IsImage, EachImage, clean, with_range, overwritten}
use Rattle.outside.proofs.Moments.{weaker, clean_image, Either}
use Rattle.net_base.specs.Names.{IsIdentity}
use Rattle.net_base.specs.declared.names.Identity.{Identity}
use Rattle.disk_journal.specs.Journal.{header, is_same, is_unformatted, damaged, refusal, IsSound, IsYoung}
use Rattle.disk_journal.proofs.Crash.{Parts, torn_parts}
use Rattle.disk_journal.proofs.Steps.{put_parts}
use Rattle.disk_journal.proofs.Fresh.{fresh_sound, found_formatted, refusal_unformatted, refused_harm}

shut_unformatted : (x : List ℕ) → (length x < 17) ⊎ ((length x ≡ 17) × (get_or x 0 0 ≢ 1)) → is_unformatted x ≡ true
unfolding is_unformatted
shut_unformatted x (inl short) = grind (arith, nat_tests)
shut_unformatted x (inr other) = grind (arith, nat_tests, other.0, other.1)

same_same : (id : Identity) → is_same id id ≡ true
same_same id =
    let a : (id.party.0 == id.party.0) ≡ true = grind (arith, nat_tests) in
    let b : (id.nodes == id.nodes) ≡ true = grind (arith, nat_tests) in
    let c : (id.notary.0 == id.notary.0) ≡ true = grind (arith, nat_tests) in
    rw (a, b, c) refl

sound_opens : (id : Identity) (x : List ℕ) → IsSound id x → refusal id x ≡ None
sound_opens id x sound = by (cases_Bool (is_unformatted x))
  where
    by : (is_unformatted x ≡ true) ⊎ (is_unformatted x ≡ false) → refusal id x ≡ None
    by (inl not_yet) = refusal_unformatted id x not_yet
    by (inr formatted) = refused_harm id x formatted id sound.named (same_same id) ∙ ap damaged sound.ends

fresh_tail : (id : Identity) → header id ++ 0 ∷ [] ≡ 1 ∷ drop 1 (header id ++ 0 ∷ [])
unfolding header
fresh_tail id = refl

-- over such an image an opening gives no refusal
pub young_opens : (id : Identity) (x : List ℕ) → IsIdentity id → IsYoung id x → refusal id x ≡ None
young_opens id x spells (inl short) = refusal_unformatted id x (shut_unformatted x (inl short))
young_opens id x spells (inr (inr sound)) = sound_opens id x sound
young_opens id x spells (inr (inl (len, inl zero_gate))) = refusal_unformatted id x (shut_unformatted x (inr (len, λ is. absurd (omega (arith, is, zero_gate)))))
young_opens id x spells (inr (inl (len, inr good))) = ⊎_elim open_gate (λ other. refusal_unformatted id x (shut_unformatted x (inr (len, other)))) (cases_eq (get_or x 0 0) 1)
  where
    open_gate : get_or x 0 0 ≡ 1 → refusal id x ≡ None
    open_gate is =
        let whole : x ≡ header id ++ 0 ∷ [] = drop_more x 0 0 (omega (arith, len)) ∙ (λ i. is i ∷ good i) ∙ sym (fresh_tail id) in
        sound_opens id x (subst (IsSound id) (sym whole) (fresh_sound id spells).0)

-- what three kinds of image a synced write leaves, by their parts
pub by_parts : (d e : DiskState) (at : ℕ) (bytes : List ℕ) (P : List ℕ → Type 0) → d.now ≡ clean d.kept → at ≤ length d.kept → P d.kept → ((c : List ℕ) → Parts at (length bytes) d.kept c → P c) → EachImage d e (Either d at bytes) → EachImage d e P
by_parts d e at bytes P synced within here pending l =
    weaker d e (Either d at bytes) P
    (λ c. λ one. ⊎_elim
    (λ image. subst P (sym (clean_image d.kept c (subst (λ (s : Durable). IsImage s c) synced image))) here)
    (λ rest. ⊎_elim
    (λ image. pending c (torn_parts at (length bytes) d.kept c within (subst (λ (s : Durable). IsImage (with_range s at (length bytes)) c) synced image)))
    (λ is. subst P (sym is) (pending (overwritten d.kept at bytes) (put_parts d.kept bytes at within)))
    rest) one) l

-- with a closed format gate
pub shut_young : (id : Identity) (x : List ℕ) → length x ≤ 17 → get_or x 0 0 ≡ 0 → IsYoung id x
shut_young id x short is = ⊎_elim (λ lt. inl lt) (λ le. inr (inl (omega (arith, short, le), inl is))) (cases_lt (length x) 17)

pub tail_step : (id : Identity) (old c : List ℕ) (n : ℕ) → n ≤ 16 → 0 < length old → length old ≤ 17 → get_or old 0 0 ≡ 0 → Parts 1 n old c → IsYoung id c
tail_step id old c n small some short is parts =
    let same : get_or c 0 0 ≡ get_or old 0 0 = sym (get_or-take 1 c 0 0 (omega arith)) ∙ ap (λ (l : List ℕ). get_or l 0 0) parts.before ∙ get_or-take 1 old 0 0 (omega arith) in
    shut_young id c (omega (arith, parts.no_longer, short, small)) (same ∙ is)

pub gate_step : (id : Identity) (old c : List ℕ) → length old ≡ 17 → drop 1 old ≡ drop 1 (header id ++ 0 ∷ []) → Parts 0 1 old c → IsYoung id c
gate_step id old c len good parts = inr (inl (omega (arith, parts.no_shorter, parts.no_longer, len), inr (parts.after ∙ good)))

-- the first step, over a disk that isn't formatted
pub first_step : (id : Identity) (old c : List ℕ) → IsYoung id old → is_unformatted old ≡ true → ((length old ≡ 0) ⊎ (get_or old 0 0 ≢ 0)) → Parts 0 1 old c → IsYoung id c
first_step id old c (inl short) not_yet start parts = inl (omega (arith, parts.no_longer, short))
first_step id old c (inr (inr sound)) not_yet start parts = absurd (found_formatted id old sound.named not_yet)
first_step id old c (inr (inl (len, inr good))) not_yet start parts = gate_step id old c len good parts
first_step id old c (inr (inl (len, inl zero_gate))) not_yet (inl none) parts = absurd (omega (arith, len, none))
first_step id old c (inr (inl (len, inl zero_gate))) not_yet (inr other) parts = absurd (other zero_gate)
