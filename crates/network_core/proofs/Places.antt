-- What a step at one place makes of the worlds that a network shows.
use Rattle.std.proofs.Common.{◌≡◌, ◌⊎◌, inl, inr, ⊎_elim, ℕ, zero, suc, ◌<◌, ◌≤◌, List, [], ◌∷◌, length, map, slice_set, Option, Some, Result, refl, sym, ◌∙◌, ap, subst, arith}
use Rattle.std.specs.List.{slice_get}
use Rattle.net_base.specs.declared.names.Identity.{Identity}
use Rattle.net_base.proofs.Lists.{map_set, set_length, set_own, get_beside, get_set}
use Rattle.net_model.specs.Environment.{Environment, environment, Meaning}
use Rattle.node_core.specs.Seen.{NodeSeen}
use Rattle.network_core.specs.declared.refusal.Refusal.TheVariants as refusal
use Rattle.network_core.specs.declared.steps.Outcome.{Outcome}
use Rattle.network_core.specs.declared.steps.Outcome.TheVariants as outcome
use Rattle.network_core.specs.Worlds.{NodeWorld, World, NetSeen, NodeShows, NodeCoherent, Shows, Coherent, KeepsWorld}
use Rattle.network_core.specs.Answers.{said, StartServes, TurnServes, CutServes, AtPlace, ClockServes, LoseServes}
use Rattle.network_core.specs.WorldSteps.{WorldStarts, WorldTurns, WorldCuts, WorldPlace, WorldClock, LosesAt, without}
use Rattle.network_core.proofs.Agreeing.{start_coherent, turn_coherent, cut_coherent, lose_coherent, clock_coherent}
use Rattle.network_core.proofs.Mailing.{waits_in, map_set_same}
use Rattle.network_core.proofs.Placing.{get_set_both}
use Rattle.network_core.proofs.Stands.{Goes, shows_same}
use Rattle.network_core.proofs.Served.{start_any, turn_any, cut_any}

-- what waits at a place of a world
pub waits_get : (nodes : List NodeWorld) (p : ℕ) (frames : List (List ℕ)) → slice_get (waits_in nodes) p ≡ Some frames → (x : NodeWorld) × (slice_get nodes p ≡ Some x) × (x.waiting ≡ frames)
waits_get [] p frames at = cc
waits_get (x ∷ xs) zero frames at = (x, refl, cc)
waits_get (x ∷ xs) (suc p) frames at = waits_get xs p frames at

-- what a node shows doesn't tell which frames wait there
pub shows_but : {F : Type 0} (e : Environment F) (p : ℕ) (n : NodeSeen) (z x : NodeWorld) → NodeShows e p n x → (frames : List (List ℕ)) → z ≡ record x { waiting = frames } → NodeShows e p n z
shows_but e p n z x shows frames is =
    let shown : NodeShows e p n (record x { waiting = frames }) = record {
      identity_is = shows.identity_is;
      tells = shows.tells;
      images = shows.images;
      kept = shows.kept;
      journal = shows_same n.journal n.journal x (record x { waiting = frames }) shows.journal refl refl refl refl;
      counts = shows.counts;
      calm_is = shows.calm_is;
      file_is = shows.file_is;
      acked_is = shows.acked_is;
      opens = shows.opens;
    } in
    subst (λ (y : NodeWorld). NodeShows e p n y) (sym is) shown

-- ---- a step at one place

module _ {F : Type 0} (m : Meaning F) where
  -- one node changed, and in its world the same frames wait
  pub shows_set : (id : Identity) (p : ℕ) (old new : NetSeen) (n k : NodeSeen) (w : World) (x y : NodeWorld) → Shows (environment m id) old w → slice_get w.nodes p ≡ Some x → new.nodes ≡ slice_set old.nodes p k → new.waiting ≡ old.waiting → new.now ≡ old.now → NodeShows (environment m id) p k y → y.waiting ≡ x.waiting
      → Shows (environment m id) new (record { nodes = slice_set w.nodes p y; now = w.now })
  shows_set id p old new n k w x y shows there nodes waiting clock shown same = record {
    count = set_length w.nodes p y ∙ shows.count ∙ sym (ap length nodes ∙ set_length old.nodes p k);
    each = λ q a b at beside.
        ⊎_elim
        (λ s. rw (s.0, s.1, s.2) shown)
        (λ s. shows.each q a b s.0 s.1)
        (get_set_both old.nodes w.nodes p k y q a b (subst (λ (l : List NodeSeen). slice_get l q ≡ Some a) nodes at) beside);
    waiting = map_set_same (λ (z : NodeWorld). z.waiting) w.nodes p x y there same ∙ shows.waiting ∙ sym waiting;
    clock = shows.clock ∙ sym clock;
  }

  -- a step of a node, which may ask that the node's world is coherent
  pub place_world_of : {E : Type 0} (p : ℕ) (old new : NetSeen) (result : Result Outcome E) (serves : NodeSeen → Result Outcome E → NodeSeen → Type 0) (goal : Environment F → ℕ → NodeWorld → Option Outcome → NodeWorld → Type 0)
      → ((id : Identity) (now : ℕ) (n k : NodeSeen) (x : NodeWorld) → NodeShows (environment m id) p n x → NodeCoherent (environment m id) p now x → serves n result k → Goes (environment m id) p x k (λ y. goal (environment m id) old.now x (said result) y))
      → ((id : Identity) (w v : World) → Coherent (environment m id) w → WorldPlace p w (said result) v (goal (environment m id) w.now) → Coherent (environment m id) v)
      → new.now ≡ old.now → AtPlace p old result new serves → KeepsWorld m old new (λ e w v. WorldPlace p w (said result) v (goal e w.now))
  place_world_of p old new result serves goal one keeps clock (inl (past, is, same)) id w shows coherent =
      (w, subst (λ (z : NetSeen). Shows (environment m id) z w) (sym same) shows, coherent, inl (omega (arith, past, shows.count), is, refl))
  place_world_of p old new result serves goal one keeps clock (inr (n, k, at, nodes, waiting, served)) id w shows coherent =
      let e = environment m id in
      let found = get_beside old.nodes w.nodes p n (sym shows.count) at in
      let x = found.0 in
      let after = one id w.now n k x (shows.each p n x at found.1) (coherent.each p x found.1) served in
      let y = after.0 in
      let v : World = record { nodes = slice_set w.nodes p y; now = w.now } in
      let goes : WorldPlace p w (said result) v (goal e w.now) = inr (x, y, found.1, refl, subst (λ (t : ℕ). goal e t x (said result) y) (sym shows.clock) after.3) in
      (v, shows_set id p old new n k w x y shows found.1 nodes waiting clock after.1 after.2, keeps id w v coherent goes, goes)

  pub place_world : {E : Type 0} (p : ℕ) (old new : NetSeen) (result : Result Outcome E) (serves : NodeSeen → Result Outcome E → NodeSeen → Type 0) (goal : Environment F → ℕ → NodeWorld → Option Outcome → NodeWorld → Type 0)
      → ((id : Identity) (n k : NodeSeen) (x : NodeWorld) → NodeShows (environment m id) p n x → serves n result k → Goes (environment m id) p x k (λ y. goal (environment m id) old.now x (said result) y))
      → ((id : Identity) (w v : World) → Coherent (environment m id) w → WorldPlace p w (said result) v (goal (environment m id) w.now) → Coherent (environment m id) v)
      → new.now ≡ old.now → AtPlace p old result new serves → KeepsWorld m old new (λ e w v. WorldPlace p w (said result) v (goal e w.now))
  place_world p old new result serves goal one keeps clock at = place_world_of p old new result serves goal (λ id now n k x shows sound served. one id n k x shows served) keeps clock at

  pub start_world : {E : Type 0} (p : ℕ) (old new : NetSeen) (result : Result Outcome E) (class : ℕ) (args : List ℕ) → new.now ≡ old.now → AtPlace p old result new (λ n r k. StartServes m old.now class args n r k)
      → KeepsWorld m old new (λ e w v. WorldPlace p w (said result) v (λ x o y. WorldStarts e p w.now class args x o y))
  start_world p old new result class args clock at =
      place_world p old new result (λ n r k. StartServes m old.now class args n r k) (λ e t x o y. WorldStarts e p t class args x o y) (λ id n k x shows s. rw s.2 (start_any m id p old.now n k x shows class args n.journal s.0 refl s.1)) (λ id w v c h. start_coherent (environment m id) p class args w v (said result) c h) clock at

  pub turn_world : {E : Type 0} (p : ℕ) (old new : NetSeen) (result : Result Outcome E) (pick : Option ℕ) → new.now ≡ old.now → AtPlace p old result new (λ n r k. TurnServes m old.now pick n r k)
      → KeepsWorld m old new (λ e w v. WorldPlace p w (said result) v (λ x o y. WorldTurns e p w.now pick x o y))
  turn_world p old new result pick clock at =
      place_world p old new result (λ n r k. TurnServes m old.now pick n r k) (λ e t x o y. WorldTurns e p t pick x o y) (λ id n k x shows s. rw s.2 (turn_any m id p old.now n k x shows pick n.journal s.0 refl s.1)) (λ id w v c h. turn_coherent (environment m id) p pick w v (said result) c h) clock at

  pub cut_world : {E : Type 0} (p : ℕ) (old new : NetSeen) (result : Result Outcome E) (calls kind : ℕ) → new.now ≡ old.now → AtPlace p old result new (λ n r k. CutServes calls kind n r k)
      → KeepsWorld m old new (λ e w v. WorldPlace p w (said result) v (λ x o y. WorldCuts calls x o y))
  cut_world p old new result calls kind clock at =
      place_world p old new result (λ n r k. CutServes calls kind n r k) (λ e t x o y. WorldCuts calls x o y) (λ id n k x shows s. rw s.2 (cut_any m id p old.now n k x shows calls kind n.journal s.0 refl s.1)) (λ id w v c h. cut_coherent (environment m id) p calls w v (said result) c h) clock at

  pub clock_world : (old new : NetSeen) (to : ℕ) (result : Outcome) → ClockServes to old result new → KeepsWorld m old new (λ e w v. WorldClock to w (Some result) v)
  clock_world old new to result (inl (before, is, same)) id w shows coherent =
      (w, subst (λ (z : NetSeen). Shows (environment m id) z w) (sym same) shows, coherent, inl (omega (arith, before, shows.clock), ap Some is, refl))
  clock_world old new to result (inr (after, is, same)) id w shows coherent =
      let e = environment m id in
      let le : w.now ≤ to = omega (arith, after, shows.clock) in
      let v : World = record { nodes = w.nodes; now = to } in
      let goes : WorldClock to w (Some result) v = inr (le, ap Some is, refl) in (
        v,
        record {
          count = shows.count ∙ ap (λ z. length z.nodes) (sym same);
          each = λ q a b there beside. shows.each q a b (subst (λ (z : NetSeen). slice_get z.nodes q ≡ Some a) same there) beside;
          waiting = shows.waiting ∙ ap (λ z. z.waiting) (sym same);
          clock = sym (ap (λ z. z.now) same);
        },
        clock_coherent e to w v (Some result) coherent goes,
        goes,
      )

  -- the same with what follows
  pub keeps_map : (old new : NetSeen) (goal wider : Environment F → World → World → Type 0) → ((e : Environment F) (w v : World) → goal e w v → wider e w v) → KeepsWorld m old new goal → KeepsWorld m old new wider
  keeps_map old new goal wider map keeps id w shows coherent = let k = keeps id w shows coherent in (k.0, k.1, k.2, map (environment m id) w k.0 k.3)

  -- a cut with an outcome within its range
  pub cut_within : {E : Type 0} (p : ℕ) (old new : NetSeen) (result : Result Outcome E) (calls kind : ℕ) → kind ≤ 3 → new.now ≡ old.now → AtPlace p old result new (λ n r k. CutServes calls kind n r k)
      → KeepsWorld m old new (λ e w v. ((3 < kind) × (said result ≡ Some (outcome.Refused refusal.Syntax)) × (v ≡ w)) ⊎ ((kind ≤ 3) × WorldPlace p w (said result) v (λ x o y. WorldCuts calls x o y)))
  cut_within p old new result calls kind le clock at =
      keeps_map old new (λ e w v. WorldPlace p w (said result) v (λ x o y. WorldCuts calls x o y)) (λ e w v. ((3 < kind) × (said result ≡ Some (outcome.Refused refusal.Syntax)) × (v ≡ w)) ⊎ ((kind ≤ 3) × WorldPlace p w (said result) v (λ x o y. WorldCuts calls x o y))) (λ e w v h. inr (le, h)) (cut_world p old new result calls kind clock at)

  -- ---- a frame is lost

  -- the world of the node where frames wait
  pub waits_at : (id : Identity) (p : ℕ) (net : NetSeen) (w : World) (frames : List (List ℕ)) → Shows (environment m id) net w → slice_get net.waiting p ≡ Some frames → (x : NodeWorld) × (slice_get w.nodes p ≡ Some x) × (x.waiting ≡ frames)
  waits_at id p net w frames shows at = waits_get w.nodes p frames (ap (λ l. slice_get l p) shows.waiting ∙ at)

  pub lose_world : {E : Type 0} (p i : ℕ) (old new : NetSeen) (result : Result Outcome E) → LoseServes p i old result new → KeepsWorld m old new (λ e w v. WorldPlace p w (said result) v (λ x o y. LosesAt i x o y))
  lose_world p i old new result (inl (past, is, same)) id w shows coherent =
      (w, subst (λ (z : NetSeen). Shows (environment m id) z w) (sym same) shows, coherent, inl (omega (arith, past, shows.count), is, refl))
  lose_world p i old new result (inr (frames, at, inl (none, is, same))) id w shows coherent =
      let found = waits_at id p old w frames shows at in
      let x = found.0 in
      let v : World = record { nodes = slice_set w.nodes p x; now = w.now } in
      let stays : w ≡ v = ap (λ l. record { nodes = l; now = w.now }) (sym (set_own w.nodes p x found.1)) in
      let lost : LosesAt i x (said result) x = rw is (refl, ap (λ l. slice_get l i) found.2 ∙ none, refl) in
      let goes : WorldPlace p w (said result) v (λ x o y. LosesAt i x o y) = inr (x, x, found.1, refl, lost) in
      let there : WorldPlace p w (said result) w (λ x o y. LosesAt i x o y) = inr (x, x, found.1, stays, lost) in
      (w, subst (λ (z : NetSeen). Shows (environment m id) z w) (sym same) shows, coherent, there)
  lose_world p i old new result (inr (frames, at, inr (bytes, there, is, same))) id w shows coherent =
      let e = environment m id in
      let found = waits_at id p old w frames shows at in
      let x = found.0 in
      let y : NodeWorld = record x { waiting = without i x.waiting } in
      let v : World = record { nodes = slice_set w.nodes p y; now = w.now } in
      let lost : LosesAt i x (said result) y = rw is ((bytes, ap (λ l. slice_get l i) found.2 ∙ there), refl) in
      let goes : WorldPlace p w (said result) v (λ x o y. LosesAt i x o y) = inr (x, y, found.1, refl, lost) in (
        v,
        record {
          count = set_length w.nodes p y ∙ shows.count ∙ ap (λ z. length z.nodes) (sym same);
          each = λ q a b here beside.
              let before : slice_get old.nodes q ≡ Some a = subst (λ (z : NetSeen). slice_get z.nodes q ≡ Some a) same here in
              ⊎_elim
              (λ s. shows_but e q a b x (subst (λ (j : ℕ). NodeShows e j a x) (sym s.0) (shows.each p a x (subst (λ (j : ℕ). slice_get old.nodes j ≡ Some a) s.0 before) found.1)) (without i x.waiting) s.1)
              (λ s. shows.each q a b before s)
              (get_set w.nodes p y q b beside);
          waiting = map_set (λ (z : NodeWorld). z.waiting) w.nodes p y ∙ ap (λ l. slice_set l p (without i x.waiting)) shows.waiting ∙ ap (λ l. slice_set old.waiting p (without i l)) found.2 ∙ ap (λ z. z.waiting) (sym same);
          clock = shows.clock ∙ ap (λ z. z.now) (sym same);
        },
        lose_coherent e p i w v (said result) coherent goes,
        goes,
      )
