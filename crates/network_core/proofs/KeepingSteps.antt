-- Each step of a network but a drain, and each part of one, is a link: of one node at most the disk goes on.
use Rattle.std.proofs.Common.{◌≡◌, inl, inr, ⊎_elim, ℕ, Bool, true, false, List, length, Option, Some, None, Result, slice_set, refl, sym, ◌∙◌, ap, subst}
use Rattle.std.specs.List.{slice_get}
use Rattle.std.specs.Option.{option_map}
use Rattle.std.proofs.lemmas.Option.{same_Some, slice_get-map}
use Rattle.net_base.specs.declared.names.Identity.{Identity}
use Rattle.net_base.proofs.Lists.{get_beside, set_length}
use Rattle.net_model.specs.Environment.{Environment, environment, Meaning}
use Rattle.node_core.specs.Seen.{NodeSeen, StartAnswers, TurnAnswers}
use Rattle.node_core.specs.Takes.{TakeAnswers}
use Rattle.network_core.specs.declared.steps.Outcome.{Outcome}
use Rattle.network_core.specs.declared.steps.Step.{Step}
use Rattle.network_core.specs.declared.steps.Step.TheVariants as step
use Rattle.network_core.specs.Worlds.{NodeWorld, World, NetSeen, NodeShows, Shows, Coherent}
use Rattle.network_core.specs.Answers.{AtPlace, StartServes, TurnServes, CutServes, BootServes, ClockServes, LoseServes, PostServes, Handing, HandServes, Answered, said, answer_of}
use Rattle.network_core.specs.Rounds.{DoesAt}
use Rattle.network_core.proofs.Placing.{set_apart, set_here}
use Rattle.network_core.proofs.Mailing.{waits_in}
use Rattle.network_core.proofs.Driving.{post_keeps}
use Rattle.network_core.specs.Drains.{Pair, pair_steps}
use Rattle.network_core.proofs.KeepingNodes.{DiskGoes, unchanged, start_goes, turn_goes, cut_goes, take_goes, boot_goes}
use Rattle.network_core.proofs.KeepingLinks.{Link}

-- no node changed
pub still : {F : Type 0} (e : Environment F) (w : World) (old new : NetSeen) → new.nodes ≡ old.nodes → Link e w old new
still e w old new same =
    let is : (q : ℕ) (n k : NodeSeen) → slice_get old.nodes q ≡ Some n → slice_get new.nodes q ≡ Some k → k ≡ n = λ q n k at after. same_Some _ _ (sym after ∙ ap (λ (l : List NodeSeen). slice_get l q) same ∙ at) in
    record { count = ap length same; place = 0; rest = λ q n k at after other. is q n k at after; goes = λ n k at after. unchanged e w 0 n k (is 0 n k at after) }

-- one node was set
pub set_link : {F : Type 0} (e : Environment F) (w : World) (p : ℕ) (old new : NetSeen) (n k : NodeSeen) → slice_get old.nodes p ≡ Some n → new.nodes ≡ slice_set old.nodes p k → DiskGoes e w p n k → Link e w old new
set_link e w p old new n k at nodes goes = record {
  count = ap length nodes ∙ set_length old.nodes p k;
  place = p;
  rest = λ q a b before after other. same_Some _ _ (sym (set_apart old.nodes p q k b other (subst (λ (l : List NodeSeen). slice_get l q ≡ Some b) nodes after)) ∙ before);
  goes = λ a b before after.
      let first : n ≡ a = same_Some _ _ (sym at ∙ before) in
      let second : b ≡ k = set_here old.nodes p k b (subst (λ (l : List NodeSeen). slice_get l p ≡ Some b) nodes after) in
      subst (λ (z : NodeSeen). DiskGoes e w p z b) first (subst (λ (z : NodeSeen). DiskGoes e w p n z) (sym second) goes);
}

module _ {F : Type 0} (m : Meaning F) (id : Identity) (old new : NetSeen) (w : World) (shows : Shows (environment m id) old w) (coherent : Coherent (environment m id) w) where
  abbrev e : Environment F
  e = environment m id

  abbrev Goes : Type 0
  Goes = Link e w old new

  same_net : new ≡ old → Goes
  same_net same = still e w old new (ap (λ (z : NetSeen). z.nodes) same)

  place_link : {E : Type 0} (p : ℕ) (r : Result Outcome E) (serves : NodeSeen → Result Outcome E → NodeSeen → Type 0)
      → ((n k : NodeSeen) (x : NodeWorld) → NodeShows e p n x → slice_get w.nodes p ≡ Some x → serves n r k → DiskGoes e w p n k) → AtPlace p old r new serves → Goes
  place_link p r serves one (inl (past, is, same)) = same_net same
  place_link p r serves one (inr (n, k, at, nodes, waiting, served)) =
      let x = get_beside old.nodes w.nodes p n (sym shows.count) at in
      set_link e w p old new n k at nodes (one n k x.0 (shows.each p n x.0 at x.1) x.1 served)

  pub start_link : {E : Type 0} (p class : ℕ) (args : List ℕ) (r : Result Outcome E) → AtPlace p old r new (λ n r k. StartServes m old.now class args n r k) → Goes
  start_link p class args r at = place_link p r (λ n r k. StartServes m old.now class args n r k)
      (λ n k x shown there s. start_goes m id w p n k x shown coherent there class args n.journal s.0 refl (subst (λ (t : ℕ). StartAnswers (environment m n.identity) t class args n s.0 k) (sym shows.clock) s.1)) at

  pub turn_link : {E : Type 0} (p : ℕ) (pick : Option ℕ) (r : Result Outcome E) → AtPlace p old r new (λ n r k. TurnServes m old.now pick n r k) → Goes
  turn_link p pick r at = place_link p r (λ n r k. TurnServes m old.now pick n r k)
      (λ n k x shown there s. turn_goes m id w p n k x shown coherent there pick n.journal s.0 refl (subst (λ (t : ℕ). TurnAnswers (environment m n.identity) t pick n s.0 k) (sym shows.clock) s.1)) at

  pub cut_link : {E : Type 0} (p calls kind : ℕ) (r : Result Outcome E) → AtPlace p old r new (λ n r k. CutServes calls kind n r k) → Goes
  cut_link p calls kind r at = place_link p r (λ n r k. CutServes calls kind n r k) (λ n k x shown there s. cut_goes m id w p n k x shown coherent there calls kind n.journal s.0 refl s.1) at

  pub boot_link : {E : Type 0} (p : ℕ) (r : Result Outcome E) → AtPlace p old r new (λ n r k. BootServes m.frame_at n r k) → Goes
  boot_link p r at = place_link p r (λ n r k. BootServes m.frame_at n r k) (λ n k x shown there s. by n k x shown there s) at
    where
      by : (n k : NodeSeen) (x : NodeWorld) → NodeShows e p n x → slice_get w.nodes p ≡ Some x → BootServes m.frame_at n r k → DiskGoes e w p n k
      by n k x shown there (inl (up, is, same)) = unchanged e w p n k same
      by n k x shown there (inr (down, (mid, answer, restored, boots, so))) = boot_goes m id w p n k x shown coherent there mid answer restored boots

  handing_link : (repeated : Bool) (p i : ℕ) (n : NodeSeen) (frames : List (List ℕ)) (o : Option Outcome) → slice_get old.nodes p ≡ Some n → slice_get old.waiting p ≡ Some frames → Handing m repeated p i n frames old o new → Goes
  handing_link repeated p i n frames o at waits (inl (none, is, same)) = same_net same
  handing_link repeated p i n frames o at waits (inr (up, inl (none, is, same))) = same_net same
  handing_link repeated p i n frames o at waits (inr (up, inr h)) =
      let x = get_beside old.nodes w.nodes p n (sym shows.count) at in
      let there : slice_get (waits_in w.nodes) p ≡ Some x.0.waiting = slice_get-map (λ (z : NodeWorld). z.waiting) w.nodes p ∙ ap (option_map (λ (z : NodeWorld). z.waiting)) x.1 in
      let wait : x.0.waiting ≡ frames = same_Some _ _ (sym there ∙ ap (λ l. slice_get l p) shows.waiting ∙ waits) in
      let at_i : slice_get x.0.waiting i ≡ Some h.bytes = ap (λ l. slice_get l i) wait ∙ h.there in
      set_link e w p old new n h.node at h.nodes
      (take_goes m id w p n h.node x.0 (shows.each p n x.0 at x.1) coherent x.1 i h.bytes at_i n.journal h.answer refl (subst (λ (t : ℕ). TakeAnswers (environment m n.identity) t h.bytes n h.answer h.node) (sym shows.clock) h.takes))

  pub hand_link : {E : Type 0} (repeated : Bool) (p i : ℕ) (r : Result Outcome E) → HandServes m repeated p i old r new → Goes
  hand_link repeated p i r (inl (past, is, same)) = same_net same
  hand_link repeated p i r (inr (n, frames, at, waits, handing)) = handing_link repeated p i n frames (said r) at waits handing

  pub post_link : {E : Type 0} (p : ℕ) (r : Result Outcome E) → PostServes m.frame_at p old r new → Goes
  post_link p r at = still e w old new (post_keeps m p old new r at).0

  pub clock_link : (to : ℕ) (o : Outcome) → ClockServes to old o new → Goes
  clock_link to o (inl (past, is, same)) = same_net same
  clock_link to o (inr (later, is, same)) = still e w old new (ap (λ (z : NetSeen). z.nodes) same)

  pub lose_link : {E : Type 0} (p i : ℕ) (r : Result Outcome E) → LoseServes p i old r new → Goes
  lose_link p i r (inl (past, is, same)) = same_net same
  lose_link p i r (inr (frames, at, inl (none, is, same))) = same_net same
  lose_link p i r (inr (frames, at, inr (bytes, there, is, same))) = still e w old new (ap (λ (z : NetSeen). z.nodes) same)

  -- any step but a drain
  pub step_link : {E : Type 0} (s : Step) (r : Result Outcome E) → (s ≡ step.Drain → ⊥) → Answered m s old r new → Goes
  step_link (step.Clock to) r other h = clock_link to.0 h.0 h.2
  step_link (step.Start node class args) r other h = start_link node class args r h.0
  step_link (step.Turn node pick) r other h = turn_link node pick r h.0
  step_link (step.Post node) r other h = post_link node r h
  step_link (step.Deliver node at) r other h = hand_link false node at r h
  step_link (step.Repeat node at) r other h = hand_link true node at r h
  step_link (step.Lose node at) r other h = lose_link node at r h
  step_link (step.Cut node calls kind) r other h = ⊎_elim (λ odd. same_net odd.2) (λ known. cut_link node calls kind r known.1) h
  step_link (step.Boot node) r other h = boot_link node r h.0
  step_link step.Drain r other h = absurd (other refl)

-- a turn, a post or a delivery of a drain
pub part_link : {F : Type 0} (m : Meaning F) (id : Identity) (p : ℕ) (o : Option Outcome) (a b : Pair (environment m id)) → DoesAt (pair_steps m id) p a o b → Link (environment m id) a.world a.net b.net
part_link m id p o a b (inl turn) = turn_link m id a.net b.net a.world a.shows a.coherent p None (answer_of o) turn.0.0
part_link m id p o a b (inr (inl post)) = post_link m id a.net b.net a.world a.shows a.coherent p (answer_of o) post.0
part_link m id p o a b (inr (inr hand)) = hand_link m id a.net b.net a.world a.shows a.coherent false p 0 (answer_of o) hand.0
