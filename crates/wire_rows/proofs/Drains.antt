-- One inbox more is drained.
use Rattle.std.proofs.Common.{◌≡◌, ⊎_elim, ℕ, zero, suc, ◌+◌, ◌<◌, List, [], ◌∷◌, ◌++◌, length, length-append, map, Vec, Global, slice_get, Some, refl, sym, ap, subst, ◌∙◌, arith}
use Rattle.std.proofs.lemmas.Bool.{cases_eq}
use Rattle.std.proofs.lemmas.List.{length-map}
use Rattle.wire_rows.proofs.Joins.{map_snoc}
use Rattle.net_base.proofs.Lists.{get_beside, get_push}
use Rattle.net_base.proofs.Options.{some_eq}
use Rattle.wire_queue.specs.declared.rule.Seen.{Seen}
use Rattle.wire_queue.specs.Wire.{Frame, IsIn, FromOrigins, Settled}
use Rattle.wire_queue.proofs.Wires.{in_right}
use Rattle.session_frames.specs.declared.sending.Outgoing.{Outgoing}
use Rattle.wire_rows.specs.Exchanges.{Exchanges, changed, pulled_all}
use Rattle.wire_rows.proofs.Steps.{changed_length, changed_other, changed_here}
use Rattle.wire_rows.specs.Ends.{Drained}

pub moves_any : (at other : ℕ) (took : List Frame) (sent : List Outgoing) (old new : List Seen) → Exchanges at took sent old new → Exchanges other [] sent old new
moves_any at other took sent old new h = record { count = h.count; shares = h.shares; pulled = h.pulled; posted = h.posted; taken = λ t be x has. absurd has }

-- what is left was pulled
pub left_in : (count : ℕ) (lists : List (List Frame)) (old new : List Seen) → Drained count lists old new → (q : ℕ) (frames : List Frame) (t : Seen) → slice_get lists q ≡ Some frames → slice_get new q ≡ Some t → (x : Frame) → IsIn x frames → IsIn x t.pulled
left_in count lists old new drained q frames t at be x there =
    let was = get_beside new old q t drained.beside be in
    subst (λ (z : Seen). IsIn x z.pulled) (sym (drained.left q frames was.0 t at was.1 be)) (in_right x was.0.pulled frames there)

below_or : (a b : ℕ) → a < b + 1 → (a ≡ b → ⊥) → a < b
below_or zero zero below other = absurd (other refl)
below_or zero (suc b) below other = omega arith
below_or (suc a) zero below other = absurd (omega (arith, below))
below_or (suc a) (suc b) below other = omega (arith, below_or a b (omega (arith, below)) (λ same. other (ap suc same)))

within : {X : Type 0} (xs : List X) (n : ℕ) (x : X) → slice_get xs n ≡ Some x → n < length xs
within [] n x at = cc
within (y ∷ xs) zero x at = omega arith
within (y ∷ xs) (suc n) x at = omega (arith, within xs n x at)

pub drained_step : (k : ℕ) (lists later : List (List Frame)) (first own new : List Seen) (left : List Frame) → later ≡ lists ++ left ∷ [] → length lists ≡ k → Drained k lists first own → new ≡ changed own k (λ s. pulled_all s left)
    → (length left < 1024 → (s : Seen) → slice_get new k ≡ Some s → Settled s []) → ((s : Seen) → slice_get new k ≡ Some s → FromOrigins s) → Drained (k + 1) later first new
drained_step k lists later first own new left is len drained pulled emptied whole = record {
  beside = same_length ∙ drained.beside;
  left = λ q frames s t at was be. ⊎_elim
      (λ old. drained.left q frames s t old was (sym (others q (before q frames old)) ∙ be))
      (λ last.
      let here : k ≡ q = sym len ∙ last.0 in
      let mid = get_beside new own q t same_length be in
      let same : mid.0 ≡ s = some_eq (sym mid.1 ∙ drained.others q (omega (arith, here)) ∙ was) in
      let now : slice_get (changed own k (λ z. pulled_all z left)) k ≡ Some t = subst (λ (l : List Seen). slice_get l k ≡ Some t) pulled (ap (slice_get new) here ∙ be) in
      changed_here own k (λ z. pulled_all z left) mid.0 t (ap (slice_get own) here ∙ mid.1) now ∙ ap (λ (z : Seen). pulled_all z left) same ∙ ap (pulled_all s) last.1)
      (get_push lists left q frames (subst (λ (l : List (List Frame)). slice_get l q ≡ Some frames) is at));
  emptied = λ q frames t at few be. ⊎_elim
      (λ old. drained.emptied q frames t old few (sym (others q (before q frames old)) ∙ be))
      (λ last. emptied (subst (λ (l : List Frame). length l < 1024) (sym last.1) few) t (ap (slice_get new) (sym len ∙ last.0) ∙ be))
      (get_push lists left q frames (subst (λ (l : List (List Frame)). slice_get l q ≡ Some frames) is at));
  whole = λ q t below at. ⊎_elim
      (λ here. whole t (ap (slice_get new) (sym here) ∙ at))
      (λ other. drained.whole q t (below_or q k below other) (sym (others q other) ∙ at))
      (cases_eq q k);
  others = λ q below. others q (λ here. omega (arith, below, here)) ∙ drained.others q (omega (arith, below));
}
  where
    same_length : length new ≡ length own
    same_length = ap (λ (l : List Seen). length l) pulled ∙ changed_length own k (λ z. pulled_all z left)

    others : (q : ℕ) → (q ≡ k → ⊥) → slice_get new q ≡ slice_get own q
    others q other = ap (λ (l : List Seen). slice_get l q) pulled ∙ changed_other own k (λ z. pulled_all z left) q other

    before : (q : ℕ) (frames : List Frame) → slice_get lists q ≡ Some frames → q ≡ k → ⊥
    before q frames old here = omega (arith, within lists q frames old, len, here)

abbrev items_of : List (Vec Frame Global) → List (List Frame)
items_of lists = map (λ (v : Vec Frame Global). v.items) lists

-- the next inbox is the one at the number of the lists so far
pub drained_push : (place : ℕ) (lists later : List (Vec Frame Global)) (left : Vec Frame Global) (first own new : List Seen) → later ≡ lists ++ left ∷ [] → place ≡ length lists → Drained (length lists) (items_of lists) first own → new ≡ changed own place (λ s. pulled_all s left.items)
    → (length left.items < 1024 → (s : Seen) → slice_get new place ≡ Some s → Settled s []) → ((s : Seen) → slice_get new place ≡ Some s → FromOrigins s) → Drained (length later) (items_of later) first new
drained_push place lists later left first own new is at drained pulled emptied whole =
    let here : Drained place (items_of lists) first own = subst (λ (n : ℕ). Drained n (items_of lists) first own) (sym at) drained in
    let next = drained_step place (items_of lists) (items_of later) first own new left.items (ap items_of is ∙ map_snoc (λ (v : Vec Frame Global). v.items) lists left) (length-map lists (λ (v : Vec Frame Global). v.items) ∙ sym at) here pulled emptied whole in
    let l = ap (λ (x : List (Vec Frame Global)). length x) is in
    let len : place + 1 ≡ length later = omega (arith, l, at, length-append lists (left ∷ [])) in
    subst (λ (n : ℕ). Drained n (items_of later) first new) len next
