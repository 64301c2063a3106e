-- A node that commits a step keeps the journals local and matched.
use Rattle.std.proofs.Common.{◌≡◌, ℕ, ⊎_elim, List, [], ◌∷◌, ◌++◌, Some, true, map, option_map, slice_get, slice_set, refl, sym, ap, subst, ◌∙◌}
use Rattle.std.proofs.lemmas.Option.{slice_get-map}
use Rattle.net_base.proofs.Lists.{map_set}
use Rattle.net_base.proofs.Options.{some_eq}
use Rattle.net_model.specs.Environment.{Environment}
use Rattle.net_model.specs.State.{NodeState, Record, apply_effect, fresh, replay, replay_from}
use Rattle.net_model.specs.Steps.{node_step}
use Rattle.net_model.specs.Runs.{IsLocalFrom, IsLocal, AreLocal, IsMatchedFrom, IsMatched, IsItem, accepts, stamped, CommitsKeepLocal, CommitsKeepMatched}
use Rattle.net_model.proofs.Basics.{get_set}
use Rattle.net_model.proofs.Effects.{step_taken}
use Rattle.net_model.proofs.Local.{NetGrows, set_grows, item_on}

replay_more : {F : Type 0} (s : NodeState F) (rs : List (Record F)) (r : Record F) → replay_from s (rs ++ r ∷ []) ≡ apply_effect (replay_from s rs) r.cause r.effect
replay_more s [] r = refl
replay_more s (x ∷ rs) r = replay_more (apply_effect s x.cause x.effect) rs r

pub local_more : {F : Type 0} (w : Environment F) (p : ℕ) (s next : NodeState F) (rs : List (Record F)) (r : Record F) (n : ℕ) → IsLocalFrom w p s rs → node_step w p (replay_from s rs) r.cause (stamped n r.effect.change.came) ≡ Some (next, r.effect) → IsLocalFrom w p s (rs ++ r ∷ [])
local_more w p s next [] r n h k = (n, next, k, tt)
local_more {F} w p s next (x ∷ rs) r n h k =
    let st = step_taken w p s h.1 x.cause _ x.effect h.2 in
    (h.0, h.1, h.2, local_more w p h.1 next rs r n h.3 (ap (λ (t : NodeState F). node_step w p (replay_from t rs) r.cause (stamped n r.effect.change.came)) st.state ∙ k))

matched_more : {F : Type 0} (net : List (NodeState F)) (p : ℕ) (s : NodeState F) (rs : List (Record F)) (r : Record F) → IsMatchedFrom net p s rs → (accepts r.cause.event ≡ true → IsItem net p (replay_from s rs) r) → IsMatchedFrom net p s (rs ++ r ∷ [])
matched_more net p s [] r h k = (k, tt)
matched_more net p s (x ∷ rs) r h k = (h.0, matched_more net p (apply_effect s x.cause x.effect) rs r h.1 k)

matched_on : {F : Type 0} (t : ℕ) (old new : List (NodeState F)) (p : ℕ) (s : NodeState F) (rs : List (Record F)) → NetGrows t old new → IsMatchedFrom old p s rs → IsMatchedFrom new p s rs
matched_on t old new p s [] g h = tt
matched_on t old new p s (r ∷ rs) g h =
    (λ a. let i = h.0 a in record { item = i.item; is_sent = item_on t old new p s r.cause.event i.item g i.is_sent; is_body = i.is_body; in_turn = i.in_turn }, matched_on t old new p (apply_effect s r.cause r.effect) rs g h.1)

module _ {F : Type 0} (journals : List (List (Record F))) (p : ℕ) (records : List (Record F)) (r : Record F) (is : slice_get journals p ≡ Some records) where
  abbrev More : List (List (Record F))
  More = slice_set journals p (records ++ r ∷ [])

  replay_one : replay (records ++ r ∷ []) ≡ apply_effect (replay records) r.cause r.effect
  unfolding replay
  replay_one = replay_more fresh records r

  grows : NetGrows r.cause.stamp (map replay journals) (map replay More)
  grows =
      let there : slice_get (map replay journals) p ≡ Some (replay records) = slice_get-map replay journals p ∙ ap (option_map replay) is in
      let to : slice_set (map replay journals) p (apply_effect (replay records) r.cause r.effect) ≡ map replay More = ap (slice_set (map replay journals) p) (sym replay_one) ∙ sym (map_set replay journals p (records ++ r ∷ [])) in
      subst (λ (n : List (NodeState F)). NetGrows r.cause.stamp (map replay journals) n) to (set_grows (map replay journals) p (replay records) r.cause r.effect there)

  pub commit_local : (w : Environment F) (n : ℕ) (next : NodeState F) → AreLocal w journals → node_step w p (replay records) r.cause (stamped n r.effect.change.came) ≡ Some (next, r.effect) → AreLocal w More
  unfolding replay
  commit_local w n next h k q rs there = ⊎_elim
      (λ l. let mine : IsLocal w p (records ++ r ∷ []) = local_more w p fresh next records r n (h p records is) k in
      subst (λ (x : List (Record F)). IsLocal w q x) (some_eq (sym l.1 ∙ there)) (subst (λ (j : ℕ). IsLocal w j (records ++ r ∷ [])) (sym l.0) mine))
      (λ l. h q rs (sym l ∙ there))
      (get_set journals p records (records ++ r ∷ []) q is)

  pub commit_matched : IsMatched journals → (accepts r.cause.event ≡ true → IsItem (map replay journals) p (replay records) r) → IsMatched More
  unfolding replay
  commit_matched h k q rs there = ⊎_elim
      (λ l. let mine : IsMatchedFrom (map replay More) p fresh (records ++ r ∷ []) = matched_on r.cause.stamp (map replay journals) (map replay More) p fresh (records ++ r ∷ []) grows (matched_more (map replay journals) p fresh records r (h p records is) k) in
      subst (λ (x : List (Record F)). IsMatchedFrom (map replay More) q fresh x) (some_eq (sym l.1 ∙ there)) (subst (λ (j : ℕ). IsMatchedFrom (map replay More) j fresh (records ++ r ∷ [])) (sym l.0) mine))
      (λ l. matched_on r.cause.stamp (map replay journals) (map replay More) q fresh rs grows (h q rs (sym l ∙ there)))
      (get_set journals p records (records ++ r ∷ []) q is)

pub commits_keep_local : {F : Type 0} → CommitsKeepLocal F
commits_keep_local w journals p n records r next is h k = commit_local journals p records r is w n next h k

pub commits_keep_matched : {F : Type 0} → CommitsKeepMatched F
commits_keep_matched journals p records r is h k = commit_matched journals p records r is h k
