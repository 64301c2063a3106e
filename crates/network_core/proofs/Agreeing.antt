-- A coherent world leads to a coherent world by each step.
use Rattle.std.proofs.Common.{◌≡◌, ℕ, inl, inr, Bool, false, List, [], slice_get, Option, Some, None, sym, subst}
use Rattle.net_base.specs.declared.values.Party.{Party}
use Rattle.session_frames.specs.declared.judged.Judged.{Judged}
use Rattle.session_frames.specs.declared.judged.Judged.TheVariants as judged
use Rattle.session_frames.specs.Judging.{IsJudged}
use Rattle.net_model.specs.Environment.{Environment, identity}
use Rattle.node_tables.specs.Journals.{state_of}
use Rattle.node_core.specs.declared.faults.BootFault.{BootFault}
use Rattle.network_core.specs.declared.steps.Outcome.{Outcome}
use Rattle.network_core.specs.Worlds.{NodeWorld, World, Coherent}
use Rattle.network_core.specs.WorldSteps.{WorldPlace, WorldStarts, WorldTurns, WorldCuts, WorldBoots, WorldPosts, WorldHands, LosesAt, WorldClock, waits_on}
use Rattle.network_core.specs.Drains.{world_steps}
use Rattle.network_core.specs.Rounds.{DoesAt}
use Rattle.network_core.specs.Begins.{Begun, StayDown}
use Rattle.network_core.proofs.AgreeingSteps.{starts_coherent, turns_coherent, cuts_coherent, boots_coherent, loses_coherent, place_coherent}
use Rattle.network_core.proofs.AgreeingSends.{posts_coherent}
use Rattle.network_core.proofs.AgreeingTakes.{takes_coherent}
use Rattle.network_core.proofs.AgreeingFrames.{not_garbled, not_other}
use Rattle.network_core.proofs.AgreeingBegins.{begins_coherent, stays_down_coherent, later_coherent}

module _ {F : Type 0} (e : Environment F) where
  pub start_coherent : (p class : ℕ) (args : List ℕ) (w v : World) (o : Option Outcome) → Coherent e w → WorldPlace p w o v (λ x r y. WorldStarts e p w.now class args x r y) → Coherent e v
  start_coherent p class args w v o coherent step = place_coherent e p w v o (λ x r y. WorldStarts e p w.now class args x r y) coherent step (λ x y there goal. starts_coherent e w p x y coherent there class args o goal)

  pub turn_coherent : (p : ℕ) (pick : Option ℕ) (w v : World) (o : Option Outcome) → Coherent e w → WorldPlace p w o v (λ x r y. WorldTurns e p w.now pick x r y) → Coherent e v
  turn_coherent p pick w v o coherent step = place_coherent e p w v o (λ x r y. WorldTurns e p w.now pick x r y) coherent step (λ x y there goal. turns_coherent e w p x y coherent there pick o goal)

  pub cut_coherent : (p calls : ℕ) (w v : World) (o : Option Outcome) → Coherent e w → WorldPlace p w o v (λ x r y. WorldCuts calls x r y) → Coherent e v
  cut_coherent p calls w v o coherent step = place_coherent e p w v o (λ x r y. WorldCuts calls x r y) coherent step (λ x y there goal. cuts_coherent e w p x y coherent there calls o goal)

  pub boot_coherent : (p : ℕ) (w v : World) (o : Option Outcome) → Coherent e w → WorldPlace p w o v (λ x r y. WorldBoots e x r y) → Coherent e v
  boot_coherent p w v o coherent step = place_coherent e p w v o (λ x r y. WorldBoots e x r y) coherent step (λ x y there goal. boots_coherent e w p x y coherent there o goal)

  pub lose_coherent : (p i : ℕ) (w v : World) (o : Option Outcome) → Coherent e w → WorldPlace p w o v (λ x r y. LosesAt i x r y) → Coherent e v
  lose_coherent p i w v o coherent step = place_coherent e p w v o (λ x r y. LosesAt i x r y) coherent step (λ x y there goal. loses_coherent e w p x y coherent there i o goal)

  pub post_coherent : (p : ℕ) (w v : World) (o : Option Outcome) → Coherent e w → WorldPosts e p w o v → Coherent e v
  post_coherent p w v o coherent (inl none) = subst (Coherent e) (sym none.2) coherent
  post_coherent p w v o coherent (inr some) = posts_coherent e w p some.0 coherent some.1 o v some.2

  pub hand_coherent : (repeated : Bool) (p i : ℕ) (w v : World) (o : Option Outcome) → Coherent e w → WorldHands e repeated p i w o v → Coherent e v
  hand_coherent repeated p i w v o coherent (inl none) = subst (Coherent e) (sym none.2) coherent
  hand_coherent repeated p i w v o coherent (inr (x, there, inl down)) = subst (Coherent e) (sym down.2) coherent
  hand_coherent repeated p i w v o coherent (inr (x, there, inr (up, inl gone))) = subst (Coherent e) (sym gone.2) coherent
  hand_coherent repeated p i w v o coherent (inr (x, there, inr (up, inr (bytes, y, sent, waits, takes, is)))) =
      subst (Coherent e) (sym is) (takes_coherent e w p i x coherent there up bytes waits (waits_on repeated o) y sent o takes)

  pub clock_coherent : (to : ℕ) (w v : World) (o : Option Outcome) → Coherent e w → WorldClock to w o v → Coherent e v
  clock_coherent to w v o coherent (inl past) = subst (Coherent e) (sym past.2) coherent
  clock_coherent to w v o coherent (inr later) = subst (Coherent e) (sym later.2) (later_coherent e w to later.0 coherent)

  pub does_coherent : (p : ℕ) (w v : World) (o : Option Outcome) → Coherent e w → DoesAt (world_steps e) p w o v → Coherent e v
  does_coherent p w v o coherent (inl turn) = turn_coherent p None w v o coherent turn
  does_coherent p w v o coherent (inr (inl post)) = post_coherent p w v o coherent post
  does_coherent p w v o coherent (inr (inr hand)) = hand_coherent false p 0 w v o coherent hand

  -- whatever waited in the old world: in the new one nothing does
  pub begun_coherent : (w v : World) → Coherent e w → Begun e w v → Coherent e v
  begun_coherent w v coherent begun = begins_coherent e w v coherent begun.count begun

  pub stay_down_coherent : (why : BootFault) (w v : World) → Coherent e w → StayDown why w v → v.now ≡ w.now → ((p : ℕ) (y : NodeWorld) → slice_get v.nodes p ≡ Some y → y.waiting ≡ []) → Coherent e v
  stay_down_coherent why w v coherent stay now waiting = stays_down_coherent e w v coherent stay.count why stay now waiting

  -- no frame that waits at a node is garbled or another's
  pub never_garbled : (p i : ℕ) (w : World) (x : NodeWorld) (bytes : List ℕ) (said : Judged) → Coherent e w → slice_get w.nodes p ≡ Some x → slice_get x.waiting i ≡ Some bytes
      → IsJudged (identity e p) (state_of e.frame_at x.journal).sessions bytes said → (said ≡ judged.Garbled → ⊥) × ((to : Party) → said ≡ judged.NotMine to → ⊥)
  never_garbled p i w x bytes said coherent there waits says =
      (λ is. not_garbled e w p x coherent there i bytes waits (subst (IsJudged (identity e p) (state_of e.frame_at x.journal).sessions bytes) is says), λ to is. not_other e w p x coherent there i bytes waits to (subst (IsJudged (identity e p) (state_of e.frame_at x.journal).sessions bytes) is says))
