-- Journals are those of a run exactly where each is its node's own and they are matched.
use Rattle.std.proofs.Common.{◌≡◌, ℕ, zero, suc, ◌+◌, ◌<◌, ◌≤◌, ◌↔◌, List, [], ◌∷◌, Option, Some, None, Bool, true, false, cond, ◌==◌, max, map, option_map, option_and_then, replicate, length, slice_get, slice_set, refl, sym, ap, subst, ◌∙◌, arith}
use Rattle.std.proofs.lemmas.Bool.{eqb-true, and_parts}
use Rattle.std.proofs.lemmas.Option.{slice_get-map, slice_get_within}
use lib.ListN.{length-replicate}
use Rattle.net_base.specs.declared.causes.Cause.{Cause}
use Rattle.net_base.proofs.Lists.{get_there, all_from_get}
use Rattle.net_base.proofs.Options.{some_eq}
use Rattle.net_model.specs.Environment.{Environment}
use Rattle.net_model.specs.State.{NodeState, Record, apply_effect, fresh, replay, replay_from}
use Rattle.net_model.specs.Steps.{in_order}
use Rattle.net_model.specs.Runs.{run_from, run_of, fresh_net, Follows, IsFaithful, IsLocalFrom, AreLocal, IsMatched, merge, network_of, record_stamp, FaithfulExactly, FaithfulRun}
use Rattle.net_model.proofs.Basics.{list_ext, apply_stamp}
use Rattle.net_model.proofs.Effects.{step_taken}
use Rattle.net_model.proofs.Local.{applied, applied_at, applied_is, ends, of_node, Rising, AreBelow, IsOwn, net_taken, get_applied, get_other, follows_own, own_follows}
use Rattle.net_model.proofs.Merging.{merge_map, Climbs, merge_keeps, merge_below, merge_rising}

-- ---- stamps rise

later : {F : Type 0} (s : NodeState F) (cause : Cause) (n : ℕ) → in_order s cause n ≡ true → s.stamp < cause.stamp
later s cause n h = let e = eqb-true cause.stamp (max s.stamp n + 1) (and_parts _ _ h).0 in omega arith

local_climbs : {F : Type 0} (w : Environment F) (p : ℕ) (s : NodeState F) (rs : List (Record F)) → IsLocalFrom w p s rs → Climbs s.stamp rs
local_climbs w p s [] h = tt
local_climbs {F} w p s (r ∷ rs) h =
    let st = step_taken w p s h.1 r.cause _ r.effect h.2 in
    let rest = local_climbs w p h.1 rs h.3 in
    (later s r.cause _ st.ordered, subst (λ (n : ℕ). Climbs n rs) (ap (λ (x : NodeState F). x.stamp) st.state ∙ apply_stamp s r.cause r.effect) rest)

climbs_at : {F : Type 0} (net : List (NodeState F)) (x : ℕ × Record F) (xs : List (ℕ × Record F)) (old : NodeState F) (b : Bool) (q : ℕ) (s : NodeState F) → slice_get net x.0 ≡ Some old → old.stamp < record_stamp x.1 → ((q : ℕ) (t : NodeState F) → slice_get (applied net x) q ≡ Some t → Climbs t.stamp (of_node q xs)) → (q == x.0) ≡ b → slice_get net q ≡ Some s → Climbs s.stamp (cond b (x.1 ∷ of_node q xs) (of_node q xs))
climbs_at {F} net x xs old true q s is less rest e there =
    let q_is : q ≡ x.0 = eqb-true q x.0 e in
    let same : old ≡ s = some_eq (sym is ∙ (ap (slice_get net) (sym q_is) ∙ there)) in
    let k = rest q (apply_effect old x.1.cause x.1.effect) (ap (slice_get (applied net x)) q_is ∙ get_applied net x old is) in
    let less_s : s.stamp < record_stamp x.1 = subst (λ (t : NodeState F). t.stamp < record_stamp x.1) same less in
    (less_s, subst (λ (n : ℕ). Climbs n (of_node q xs)) (apply_stamp old x.1.cause x.1.effect) k)
climbs_at net x xs old false q s is less rest e there = rest q s (get_other net x old q is e ∙ there)

follows_climbs : {F : Type 0} (w : Environment F) (net : List (NodeState F)) (xs : List (ℕ × Record F)) → Follows w net xs → (q : ℕ) (s : NodeState F) → slice_get net q ≡ Some s → Climbs s.stamp (of_node q xs)
follows_climbs w net [] h q s there = tt
follows_climbs {F} w net (x ∷ xs) h q s there =
    let k = net_taken w net h.0 x.0 x.1.cause x.1.effect h.1 in
    let st = step_taken w x.0 k.old _ x.1.cause _ x.1.effect k.step in
    let next : h.0 ≡ applied net x = k.new ∙ sym (applied_is net x k.old k.is) in
    climbs_at net x xs k.old (q == x.0) q s k.is (later k.old x.1.cause _ st.ordered) (follows_climbs w (applied net x) xs (subst (λ (n : List (NodeState F)). Follows w n xs) next h.2)) refl there

-- ---- the network in the end is what each node's records make

get_step : {F : Type 0} (net : List (NodeState F)) (x : ℕ × Record F) (xs : List (ℕ × Record F)) (q : ℕ) (b : Bool) (o : Option (NodeState F)) → (q == x.0) ≡ b → slice_get net x.0 ≡ o → option_map (λ s. replay_from s (of_node q xs)) (slice_get (applied_at net x o) q) ≡ option_map (λ s. replay_from s (cond b (x.1 ∷ of_node q xs) (of_node q xs))) (slice_get net q)
get_step net x xs q false None e is = refl
get_step {F} net x xs q true None e is =
    let none : slice_get net q ≡ None = ap (slice_get net) (eqb-true q x.0 e) ∙ is in
    rw none
get_step {F} net x xs q false (Some s) e is =
    ap (option_map {U = NodeState F} (λ t. replay_from t (of_node q xs))) (sym (ap (λ (n : List (NodeState F)). slice_get n q) (applied_is net x s is)) ∙ get_other net x s q is e)
get_step {F} net x xs q true (Some s) e is =
    let there : q ≡ x.0 = eqb-true q x.0 e in
    let new : slice_get (slice_set net x.0 (apply_effect s x.1.cause x.1.effect)) q ≡ Some (apply_effect s x.1.cause x.1.effect) = ap (slice_get (slice_set net x.0 (apply_effect s x.1.cause x.1.effect))) there ∙ get_there net x.0 s _ is in
    let old : slice_get net q ≡ Some s = ap (slice_get net) there ∙ is in
    rw (new, old)

same_option : {X : Type 0} (o : Option X) → o ≡ option_map (λ s. s) o
same_option None = refl
same_option (Some x) = refl

get_ends : {F : Type 0} (net : List (NodeState F)) (xs : List (ℕ × Record F)) (q : ℕ) → slice_get (ends net xs) q ≡ option_map (λ s. replay_from s (of_node q xs)) (slice_get net q)
get_ends net [] q = same_option (slice_get net q)
get_ends net (x ∷ xs) q = get_ends (applied net x) xs q ∙ get_step net x xs q (q == x.0) (slice_get net x.0) refl refl

get_replicate : {X : Type 0} (n q : ℕ) (x : X) → q < n → slice_get (replicate n x) q ≡ Some x
get_replicate zero q x h = absurd (omega arith)
get_replicate (suc n) zero x h = refl
get_replicate (suc n) (suc q) x h = get_replicate n q x (omega arith)

none_replicate : {X : Type 0} (n q : ℕ) (x : X) → n ≤ q → slice_get (replicate n x) q ≡ None
none_replicate zero q x h = refl
none_replicate (suc n) zero x h = absurd (omega arith)
none_replicate (suc n) (suc q) x h = none_replicate n q x (omega arith)

get_none : {X : Type 0} (xs : List X) (q : ℕ) → slice_get xs q ≡ None → length xs ≤ q
get_none [] q h = omega arith
get_none (y ∷ ys) zero h = cc
get_none (y ∷ ys) (suc q) h = let k = get_none ys q h in omega arith

module _ {F : Type 0} (w : Environment F) (journals : List (List (Record F))) (all_there : length journals ≡ w.nodes) where
  abbrev All : List (ℕ × Record F)
  All = merge record_stamp journals

  fresh_at : (q : ℕ) (records : List (Record F)) → slice_get journals q ≡ Some records → slice_get (fresh_net w) q ≡ Some fresh
  fresh_at q records h = let k = slice_get_within journals q records h in get_replicate w.nodes q fresh (omega arith)

  end_at : (q : ℕ) (o : Option (List (Record F))) → slice_get journals q ≡ o → slice_get (ends (fresh_net w) All) q ≡ option_map replay o
  unfolding replay
  end_at q (Some records) h = get_ends (fresh_net w) All q ∙ rw (fresh_at q records h, merge_keeps record_stamp journals q records h)
  end_at q None h = let k = get_none journals q h in let none = none_replicate w.nodes q (fresh {F = F}) (omega arith) in get_ends (fresh_net w) All q ∙ rw none

  ends_replay : ends (fresh_net w) All ≡ map replay journals
  ends_replay = list_ext _ _ (λ q. end_at q (slice_get journals q) refl ∙ sym (slice_get-map replay journals q))

  rising_of : ((q : ℕ) (records : List (Record F)) → slice_get journals q ≡ Some records → Climbs 0 records) → Rising All
  rising_of f = merge_rising journals (all_from_get (Climbs 0) journals f)

  faithful_climbs : IsFaithful w journals → (q : ℕ) (records : List (Record F)) → slice_get journals q ≡ Some records → Climbs 0 records
  faithful_climbs h q records there = subst (Climbs 0) (merge_keeps record_stamp journals q records there) (follows_climbs w (fresh_net w) All h q fresh (fresh_at q records there))

  faithful_own : IsFaithful w journals → (q : ℕ) (records : List (Record F)) → slice_get journals q ≡ Some records → IsOwn w (map replay journals) q fresh records
  faithful_own h q records there =
      let own = follows_own w (fresh_net w) All (rising_of (faithful_climbs h)) h q fresh (fresh_at q records there) in
      subst (λ (rs : List (Record F)). IsOwn w (map replay journals) q fresh rs) (merge_keeps record_stamp journals q records there)
      (subst (λ (last : List (NodeState F)). IsOwn w last q fresh (of_node q All)) ends_replay own)

  own_at_fresh : AreLocal w journals → IsMatched journals → (q : ℕ) (s : NodeState F) (o : Option (List (Record F))) → slice_get journals q ≡ o → slice_get (fresh_net w) q ≡ Some s → IsOwn w (ends (fresh_net w) All) q s (of_node q All)
  own_at_fresh local matched q s None h there =
      let k = get_none journals q h in let none = none_replicate w.nodes q (fresh {F = F}) (omega arith) in cc
  own_at_fresh local matched q s (Some records) h there =
      let same : fresh ≡ s = some_eq (sym (fresh_at q records h) ∙ there) in
      let own : IsOwn w (map replay journals) q fresh records = (local q records h, matched q records h) in
      subst (λ (t : NodeState F). IsOwn w (ends (fresh_net w) All) q t (of_node q All)) same
      (subst (λ (rs : List (Record F)). IsOwn w (ends (fresh_net w) All) q fresh rs) (sym (merge_keeps record_stamp journals q records h))
      (subst (λ (last : List (NodeState F)). IsOwn w last q fresh records) (sym ends_replay) own))

  own_faithful : AreLocal w journals → IsMatched journals → IsFaithful w journals
  own_faithful local matched =
      let size : length (fresh_net w) ≡ length journals = length-replicate w.nodes fresh ∙ sym all_there in
      own_follows w (fresh_net w) All (rising_of (λ q records there. local_climbs w q fresh records (local q records there)))
      (subst (λ (n : ℕ). AreBelow n All) (sym size) (merge_below journals))
      (λ q s there. own_at_fresh local matched q s (slice_get journals q) refl there)

  pub faithful_both : IsFaithful w journals ↔ (AreLocal w journals × IsMatched journals)
  faithful_both = (λ h. (λ q records there. (faithful_own h q records there).0, λ q records there. (faithful_own h q records there).1), λ h. own_faithful h.0 h.1)

-- ---- the run of the causes

follows_run : {F : Type 0} (w : Environment F) (net : List (NodeState F)) (xs : List (ℕ × Record F)) → Follows w net xs → run_from w net (map (λ x. (x.0, x.1.cause)) xs) ≡ Some (ends net xs)
follows_run w net [] h = refl
follows_run {F} w net (x ∷ xs) h =
    let k = net_taken w net h.0 x.0 x.1.cause x.1.effect h.1 in
    let next : h.0 ≡ applied net x = k.new ∙ sym (applied_is net x k.old k.is) in
    ap (option_and_then (λ done. run_from w done.0 (map (λ y. (y.0, y.1.cause)) xs))) h.1
    ∙ (follows_run w h.0 xs h.2 ∙ ap (λ (n : List (NodeState F)). Some (ends n xs)) next)

-- the merged causes of journals of a run are legal, and the network after them is what each journal makes
run_of_faithful : {F : Type 0} (w : Environment F) (journals : List (List (Record F))) → length journals ≡ w.nodes → IsFaithful w journals → run_of w (merge (λ cause. cause.stamp) (map (map (λ r. r.cause)) journals)) ≡ Some (map replay journals)
unfolding run_of
run_of_faithful {F} w journals there h =
    ap (run_from w (fresh_net w)) (sym (merge_map (λ (r : Record F). r.cause) (λ (c : Cause). c.stamp) journals))
    ∙ (follows_run w (fresh_net w) (merge record_stamp journals) h ∙ ap Some (ends_replay w journals there))

pub faithful_exactly : {F : Type 0} → FaithfulExactly F
faithful_exactly w journals there = faithful_both w journals there

pub faithful_run : {F : Type 0} → FaithfulRun F
unfolding network_of
faithful_run w journals there h = run_of_faithful w journals there h
