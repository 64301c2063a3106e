-- Just what a call did with the passes.
use Rattle.std.proofs.Common.{◌≡◌, ◌⊎◌, inl, inr, ⊎_elim, ℕ, zero, suc, List, [], ◌∷◌, ◌++◌, append_assoc, append-nil, length, map, slice_get, slice_set, Option, Some, None, IfSome, IfNone, refl, sym, ap, subst, ◌∙◌, arith}
use Rattle.net_base.proofs.Lists.{get_there, set_own, map_set, get_map}
use Rattle.net_base.proofs.Options.{some_eq}
use Rattle.crossbeam_queue.specs.Fifo.{Held}
use Rattle.wire_queue.specs.declared.rule.Seen.{Seen}
use Rattle.wire_queue.specs.declared.inbox.InboxPass.{InboxPass}
use Rattle.wire_queue.specs.Wire.{Frame, IsIn, seen, posted, pulled_one, Settled}
use Rattle.wire_queue.proofs.Wires.{in_left, in_right}
use Rattle.session_frames.specs.declared.sending.Outgoing.{Outgoing}
use Rattle.wire_rows.specs.Exchanges.{Exchanges, PostedAll, PostedAt, changed, pulled_all}
use Rattle.wire_rows.proofs.Moved.{moves_same}

-- ---- one place is changed

pub changed_length : (xs : List Seen) (p : ℕ) (f : Seen → Seen) → length (changed xs p f) ≡ length xs
changed_length [] p f = refl
changed_length (x ∷ xs) zero f = refl
changed_length (x ∷ xs) (suc p) f = ap suc (changed_length xs p f)

pub changed_other : (xs : List Seen) (p : ℕ) (f : Seen → Seen) (q : ℕ) → (q ≡ p → ⊥) → slice_get (changed xs p f) q ≡ slice_get xs q
changed_other [] p f q other = refl
changed_other (x ∷ xs) zero f zero other = absurd (other refl)
changed_other (x ∷ xs) zero f (suc q) other = refl
changed_other (x ∷ xs) (suc p) f zero other = refl
changed_other (x ∷ xs) (suc p) f (suc q) other = changed_other xs p f q (λ is. other (ap suc is))

-- what stands there then
pub changed_here : (xs : List Seen) (p : ℕ) (f : Seen → Seen) (s t : Seen) → slice_get xs p ≡ Some s → slice_get (changed xs p f) p ≡ Some t → t ≡ f s
changed_here [] p f s t is at = cc
changed_here (x ∷ xs) zero f s t is at = sym (some_eq at) ∙ ap f (some_eq is)
changed_here (x ∷ xs) (suc p) f s t is at = changed_here xs p f s t is at

in_changed : (xs : List Seen) (p : ℕ) (f : Seen → Seen) (q : ℕ) (z : Seen) → slice_get (changed xs p f) q ≡ Some z → ((q ≡ p) × (s : Seen) × (slice_get xs q ≡ Some s) × (z ≡ f s)) ⊎ ((q ≡ p → ⊥) × (slice_get xs q ≡ Some z))
in_changed [] p f q z at = cc
in_changed (x ∷ xs) zero f zero z at = inl (refl, x, refl, sym (some_eq at))
in_changed (x ∷ xs) zero f (suc q) z at = inr (λ is. omega (arith, is), at)
in_changed (x ∷ xs) (suc p) f zero z at = inr (λ is. omega (arith, is), at)
in_changed (x ∷ xs) (suc p) f (suc q) z at = ⊎_elim (λ h. inl (ap suc h.0, h.1, h.2, h.3)) (λ h. inr (λ is. h.0 (omega (arith, is)), h.1)) (in_changed xs p f q z at)

-- twice at one place
pub changed_then : (xs : List Seen) (p : ℕ) (f g h : Seen → Seen) → ((s : Seen) → g (f s) ≡ h s) → changed (changed xs p f) p g ≡ changed xs p h
changed_then [] p f g h both = refl
changed_then (x ∷ xs) zero f g h both = ap (λ (z : Seen). z ∷ xs) (both x)
changed_then (x ∷ xs) (suc p) f g h both = ap (λ (l : List Seen). x ∷ l) (changed_then xs p f g h both)

pub changed_none : (xs : List Seen) (p : ℕ) (f : Seen → Seen) → ((s : Seen) → f s ≡ s) → changed xs p f ≡ xs
changed_none [] p f stays = refl
changed_none (x ∷ xs) zero f stays = ap (λ (z : Seen). z ∷ xs) (stays x)
changed_none (x ∷ xs) (suc p) f stays = ap (λ (l : List Seen). x ∷ l) (changed_none xs p f stays)

set_changed : (xs : List Seen) (p : ℕ) (f : Seen → Seen) (s t : Seen) → slice_get xs p ≡ Some s → t ≡ f s → slice_set xs p t ≡ changed xs p f
set_changed [] p f s t there is = cc
set_changed (x ∷ xs) zero f s t there is = ap (λ (z : Seen). z ∷ xs) (is ∙ ap f (sym (some_eq there)))
set_changed (x ∷ xs) (suc p) f s t there is = ap (λ (l : List Seen). x ∷ l) (set_changed xs p f s t there is)

-- ---- a pass of the list moved on in its place, or not

abbrev seens : List InboxPass → List Seen
seens passes = map (λ (p : InboxPass). p.seen) passes

passes_changed : (at : ℕ) (f : Seen → Seen) (passes : List InboxPass) (pass new : InboxPass) → slice_get passes at ≡ Some pass → new.seen ≡ f pass.seen → seens (slice_set passes at new) ≡ changed (seens passes) at f
passes_changed at f passes pass new there is =
    map_set (λ (p : InboxPass). p.seen) passes at new ∙ set_changed (seens passes) at f pass.seen new.seen (get_map (λ (p : InboxPass). p.seen) passes at pass there) is

passes_same : (at : ℕ) (passes : List InboxPass) (pass new : InboxPass) → slice_get passes at ≡ Some pass → new.seen ≡ pass.seen → seens (slice_set passes at new) ≡ seens passes
passes_same at passes pass new there is =
    map_set (λ (p : InboxPass). p.seen) passes at new ∙ ap (slice_set (seens passes) at) is ∙ set_own (seens passes) at pass.seen (get_map (λ (p : InboxPass). p.seen) passes at pass there)

-- a pull, as the inbox answers it
pub pull_none : (r : Option Frame) (at : ℕ) (passes : List InboxPass) (pass new : InboxPass) → slice_get passes at ≡ Some pass → IfNone r (new.seen ≡ pass.seen) → IfNone r (seens (slice_set passes at new) ≡ seens passes)
pull_none None at passes pass new there h = passes_same at passes pass new there h
pull_none (Some x) at passes pass new there h = tt

pub pull_empty : (r : Option Frame) (at : ℕ) (passes : List InboxPass) (pass new : InboxPass) → slice_get passes at ≡ Some pass → IfNone r (Settled new.seen []) → IfNone r ((s : Seen) → slice_get (seens (slice_set passes at new)) at ≡ Some s → Settled s [])
pull_empty None at passes pass new there h = λ s be.
    let now : slice_get (seens (slice_set passes at new)) at ≡ Some new.seen = get_map (λ (p : InboxPass). p.seen) (slice_set passes at new) at new (get_there passes at pass new there) in
    subst (λ (z : Seen). Settled z []) (some_eq (sym now ∙ be)) h
pull_empty (Some x) at passes pass new there h = tt

pub pull_some : (r : Option Frame) (at : ℕ) (passes : List InboxPass) (pass new : InboxPass) → slice_get passes at ≡ Some pass → IfSome r (λ x. new.seen ≡ pulled_one pass.seen x) → IfSome r (λ x. seens (slice_set passes at new) ≡ changed (seens passes) at (λ s. pulled_one s x))
pull_some None at passes pass new there h = tt
pull_some (Some x) at passes pass new there h = passes_changed at (λ s. pulled_one s x) passes pass new there h

-- a post, as the inbox answers it
pub post_at : (r : Option Frame) (at : ℕ) (x : Frame) (passes : List InboxPass) (pass new : InboxPass) → slice_get passes at ≡ Some pass → IfNone r (new.seen ≡ posted pass.seen x) → IfSome r (λ y. new.seen ≡ pass.seen) → IfSome r (λ y. Held 1024 (Settled pass.seen))
    → PostedAt at x (seens passes) (seens (slice_set passes at new))
post_at None at x passes pass new there put same full = inl (passes_changed at (λ s. posted s x) passes pass new there put)
post_at (Some y) at x passes pass new there put same full = inr (
  passes_same at passes pass new there same,
  λ s is. subst (λ (z : Seen). Held 1024 (Settled z)) (some_eq (sym (get_map (λ (p : InboxPass). p.seen) passes at pass there) ∙ is)) full,
)

pub posted_push : (os : List Outgoing) (o : Outgoing) (old mid new : List Seen) → PostedAll os old mid → PostedAt o.to.0 o.bytes mid new → PostedAll (os ++ o ∷ []) old new
posted_push [] o old mid new first last = (new, subst (λ (l : List Seen). PostedAt o.to.0 o.bytes l new) first last, refl)
posted_push (a ∷ os) o old mid new first last = (first.0, first.1, posted_push os o first.0 mid new first.2 last)

-- ---- what was pulled

pub pulled_more : (left pushed : List Frame) (x : Frame) (s : Seen) → pushed ≡ left ++ x ∷ [] → pulled_one (pulled_all s left) x ≡ pulled_all s pushed
pulled_more left pushed x s is = ap (seen s.shares s.origins s.copies) (append_assoc s.pulled left (x ∷ []) ∙ ap (λ (l : List Frame). s.pulled ++ l) (sym is))

pub pulled_begin : (xs : List Seen) (at : ℕ) (none : List Frame) → none ≡ [] → xs ≡ changed xs at (λ s. pulled_all s none)
pulled_begin xs at none is = sym (changed_none xs at (λ s. pulled_all s none) (λ s. ap (λ (l : List Frame). seen s.shares s.origins s.copies (s.pulled ++ l)) is ∙ ap (seen s.shares s.origins s.copies) (append-nil s.pulled)))

pub pulled_push : (at : ℕ) (left pushed : List Frame) (x : Frame) (old mid new : List Seen) → pushed ≡ left ++ x ∷ [] → mid ≡ changed old at (λ s. pulled_all s left) → new ≡ changed mid at (λ s. pulled_one s x) → new ≡ changed old at (λ s. pulled_all s pushed)
pulled_push at left pushed x old mid new is first last =
    last ∙ ap (λ (l : List Seen). changed l at (λ s. pulled_one s x)) first ∙ changed_then old at (λ s. pulled_all s left) (λ s. pulled_one s x) (λ s. pulled_all s pushed) (λ s. pulled_more left pushed x s is)

-- a node that pulls these frames moves so
pub moves_pulled : (at : ℕ) (took : List Frame) (old new : List Seen) → new ≡ changed old at (λ s. pulled_all s took) → Exchanges at took [] old new
moves_pulled at took old new is = subst (λ (l : List Seen). Exchanges at took [] old l) (sym is) record {
  count = changed_length old at f;
  shares = λ q s t was be. ⊎_elim
      (λ h. ap (λ (z : Seen). z.shares) h.3 ∙ ap (λ (z : Seen). z.shares) (some_eq (sym h.2 ∙ was)))
      (λ h. ap (λ (z : Seen). z.shares) (some_eq (sym h.1 ∙ was)))
      (in_changed old at f q t be);
  pulled = λ q s t was be x has. ⊎_elim
      (λ h. subst (λ (z : Seen). IsIn x z.pulled) (sym h.3) (in_left x h.1.pulled took (subst (λ (z : Seen). IsIn x z.pulled) (some_eq (sym was ∙ h.2)) has)))
      (λ h. subst (λ (z : Seen). IsIn x z.pulled) (some_eq (sym was ∙ h.1)) has)
      (in_changed old at f q t be);
  posted = λ q s t was be x has. inl (⊎_elim
      (λ h. subst (λ (z : Seen). IsIn x z.origins) (some_eq (sym h.2 ∙ was)) (subst (λ (z : Seen). IsIn x z.origins) h.3 has))
      (λ h. subst (λ (z : Seen). IsIn x z.origins) (some_eq (sym h.1 ∙ was)) has)
      (in_changed old at f q t be));
  taken = λ t be x has. ⊎_elim
      (λ h. subst (λ (z : Seen). IsIn x z.pulled) (sym h.3) (in_right x h.1.pulled took has))
      (λ h. absurd (h.0 refl))
      (in_changed old at f at t be);
}
  where
    f : Seen → Seen
    f s = pulled_all s took

-- and so does one that pulls none
pub moves_kept : (at : ℕ) (sent : List Outgoing) (old new : List Seen) → new ≡ old → Exchanges at [] sent old new
moves_kept at sent old new is = subst (λ (l : List Seen). Exchanges at [] sent old l) (sym is) (moves_same at sent old)
