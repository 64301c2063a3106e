-- A node that is handed a frame that waits keeps a world coherent, and what it sends tells what is.
use Rattle.std.proofs.Common.{◌≡◌, ℕ, ◌+◌, ◌<◌, ◌≤◌, ◌^◌, List, [], ◌∷◌, ◌++◌, Option, Some, None, Bool, true, false, slice_get, slice_set, refl, sym, ap, subst, ◌∙◌, arith}
use Rattle.net_base.specs.declared.names.Key.{Key}
use Rattle.net_base.specs.declared.values.Party.{Party}
use Rattle.net_base.proofs.Lists.{get_there}
use Rattle.session_wire.specs.declared.body.Body.{Body}
use Rattle.session_wire.specs.Frames.{IsFrame}
use Rattle.session_wire.specs.Sessions.{Session, session_of}
use Rattle.session_wire.specs.declared.frame.Frame.TheVariants.{Ack}
use Rattle.session_frames.specs.declared.judged.Judged.{Judged}
use Rattle.session_frames.specs.declared.judged.Judged.TheVariants as judged
use Rattle.session_frames.specs.declared.sending.Outgoing.{Outgoing}
use Rattle.session_frames.specs.Items.{GoesFurther}
use Rattle.session_frames.specs.Judging.{IsJudged, arrived}
use Rattle.net_model.specs.Environment.{Environment, identity, party}
use Rattle.node_tables.specs.Journals.{state_of}
use Rattle.node_core.specs.Takes.{accepting, ack_to}
use Rattle.network_core.specs.declared.steps.Outcome.{Outcome}
use Rattle.network_core.specs.declared.steps.Outcome.TheVariants as outcome
use Rattle.network_core.specs.Worlds.{NodeWorld, World, Coherent}
use Rattle.network_core.specs.WorldSteps.{HearsNext, Hears, WorldTakes, sent_all, without, handed_over}
use Rattle.network_core.proofs.AgreeingLists.{set_twice}
use Rattle.network_core.proofs.AgreeingSteps.{commits_coherent, faults_coherent, stays_coherent, same_coherent, all_without}
use Rattle.network_core.proofs.AgreeingSends.{sends_coherent}
use Rattle.network_core.proofs.AgreeingFrames.{first_says}
use Rattle.network_core.proofs.AgreeingHeard.{ack_told, acked_coherent, senders, fits, now_arrived}

-- ---- a frame that is handed over

module _ {F : Type 0} (e : Environment F) (w : World) (p i : ℕ) (x : NodeWorld) (coherent : Coherent e w) (there : slice_get w.nodes p ≡ Some x) (up : x.up ≡ true) where
  abbrev world_of : NodeWorld → World
  world_of y = record { nodes = slice_set w.nodes p y; now = w.now }

  removed : (y : NodeWorld) (b : Bool) → Coherent e (world_of y) → Coherent e (world_of (handed_over b i y))
  removed y true known = known
  removed y false known =
      let z : NodeWorld = record y { waiting = without i y.waiting } in
      let here = get_there w.nodes p x y there in
      let all : Coherent e (record { nodes = slice_set (slice_set w.nodes p y) p z; now = w.now }) = stays_coherent e (world_of y) p y z known here refl refl refl refl (λ P h. all_without e (world_of y) p y z known here P i y.waiting h) in
      subst (λ (nodes : List NodeWorld). Coherent e (record { nodes = nodes; now = w.now })) (set_twice w.nodes p y z) all

  -- nothing is sent
  in_silence : (y : NodeWorld) (b : Bool) (frames : List Outgoing) → frames ≡ [] → Coherent e (world_of y) → Coherent e (record { nodes = sent_all frames (slice_set w.nodes p (handed_over b i y)); now = w.now })
  in_silence y b frames none known = subst (λ (l : List Outgoing). Coherent e (record { nodes = sent_all l (slice_set w.nodes p (handed_over b i y)); now = w.now })) (sym none) (removed y b known)

  -- an acknowledgement is sent
  with_ack : (y : NodeWorld) (b : Bool) (frames : List Outgoing) (from : Party) (key : Key) (direction upto : ℕ) → frames ≡ ack_to (party p) from key direction upto ∷ [] → Coherent e (world_of y) → y.up ≡ true → IsFrame (Ack (party p) from key direction upto)
      → upto ≤ arrived (session_of key (state_of e.frame_at y.journal).sessions) → Coherent e (record { nodes = sent_all frames (slice_set w.nodes p (handed_over b i y)); now = w.now })
  with_ack y b frames from key direction upto is known y_up lawful few =
      subst (λ (l : List Outgoing). Coherent e (record { nodes = sent_all l (slice_set w.nodes p (handed_over b i y)); now = w.now })) (sym is) (by b (removed y b known))
    where
      by : (b : Bool) → Coherent e (world_of (handed_over b i y)) → Coherent e (record { nodes = sent_all (ack_to (party p) from key direction upto ∷ []) (slice_set w.nodes p (handed_over b i y)); now = w.now })
      by true all = sends_coherent e (ack_to (party p) from key direction upto ∷ []) (world_of y) all (ack_told e (world_of y) p y all (get_there w.nodes p x y there) y_up from key direction upto lawful few, tt)
      by false all =
          let z : NodeWorld = record y { waiting = without i y.waiting } in
          sends_coherent e (ack_to (party p) from key direction upto ∷ []) (world_of z) all (ack_told e (world_of z) p z all (get_there w.nodes p x z there) y_up from key direction upto lawful few, tt)

  module _ (bytes : List ℕ) (waits : slice_get x.waiting i ≡ Some bytes) (b : Bool) (y : NodeWorld) (frames : List Outgoing) where
    abbrev Stays : Type 0
    Stays = Coherent e (record { nodes = sent_all frames (slice_set w.nodes p (handed_over b i y)); now = w.now })

    abbrev ss : List Session
    ss = (state_of e.frame_at x.journal).sessions

    quietly : y ≡ x → frames ≡ [] → Stays
    quietly same none = in_silence y b frames none (same_coherent e w p x y coherent there same)

    next_coherent : (from : Party) (key : Key) (direction number stamp : ℕ) (body : Body) → IsJudged (identity e p) ss bytes (judged.Next from key direction number stamp body) → GoesFurther (identity e p) ss (judged.Next from key direction number stamp body) → (o : Outcome)
        → HearsNext e p w.now from key direction number (record { body = body; stamp = stamp }) x o y frames → Stays
    next_coherent from key direction number stamp body judges further (outcome.Took upto) h =
        let c = h.1 in
        let fit = fits e w p x coherent there up i bytes waits from key direction number stamp body judges further in
        let send = senders e w p x coherent there up i bytes waits from key direction number stamp body judges further y in
        let known = commits_coherent e w p x y coherent there (accepting ss key direction number) (Some (record { body = body; stamp = stamp })) fit (λ more pends. send) c in
        let y_up : y.up ≡ true = ap (λ (z : NodeWorld). z.up) c.after in
        let journal : y.journal ≡ x.journal ++ c.body ∷ [] = ap (λ (z : NodeWorld). z.journal) c.after in
        let came = now_arrived e w p x coherent there up i bytes waits from key direction number stamp body judges further c.body c.pends in
        let few : number + 1 ≤ arrived (session_of key (state_of e.frame_at y.journal).sessions) = rw journal came in
        let small : number + 1 < 2 ^ 32 = subst (λ (n : ℕ). n < 2 ^ 32) h.0 h.3 in
        with_ack y b frames from key direction (number + 1) h.2 known y_up (further.answered small) few
    next_coherent from key direction number stamp body judges further outcome.Fault h =
        let fit = fits e w p x coherent there up i bytes waits from key direction number stamp body judges further in
        let send = senders e w p x coherent there up i bytes waits from key direction number stamp body judges further y in
        let known = faults_coherent e w p x y coherent there (accepting ss key direction number) (Some (record { body = body; stamp = stamp })) fit (λ more pends. send) h.0 in
        in_silence y b frames h.1 known
    next_coherent from key direction number stamp body judges further (outcome.Refused why) h = quietly h.2 h.3
    next_coherent from key direction number stamp body judges further other h = absurd h

    hears_coherent : (said : Judged) → IsJudged (identity e p) ss bytes said → GoesFurther (identity e p) ss said → (o : Outcome) → Hears e p w.now said x o y frames → Stays
    hears_coherent judged.Garbled judges further o h = absurd h
    hears_coherent (judged.NotMine to) judges further o h = absurd h
    hears_coherent judged.NoSession judges further o h = quietly h.1 h.2
    hears_coherent (judged.Early expected) judges further o h = quietly h.1 h.2
    hears_coherent (judged.Acked key direction upto) judges further o h =
        let known = acked_coherent e w p x coherent there up i bytes waits key direction upto judges in
        in_silence y b frames h.2 (subst (λ (z : NodeWorld). Coherent e (world_of z)) (sym h.1) known)
    hears_coherent (judged.Again from key direction expected) judges further o h =
        let said : expected ≡ arrived (session_of key ss) = first_says e w p x coherent there i bytes waits (judged.Again from key direction expected) judges in
        let few : expected ≤ arrived (session_of key ss) = omega (arith, said) in
        let few_after : expected ≤ arrived (session_of key (state_of e.frame_at y.journal).sessions) = subst (λ (z : NodeWorld). expected ≤ arrived (session_of key (state_of e.frame_at z.journal).sessions)) (sym h.1) few in
        with_ack y b frames from key direction expected h.2 (same_coherent e w p x y coherent there h.1) (ap (λ (z : NodeWorld). z.up) h.1 ∙ up) (further h.3) few_after
    hears_coherent (judged.Next from key direction number stamp body) judges further o h = next_coherent from key direction number stamp body judges further o h

    pub takes_coherent : (o : Option Outcome) → WorldTakes e p w.now bytes x o y frames → Stays
    takes_coherent None h = quietly h.0 h.1
    takes_coherent (Some o) h = hears_coherent h.0 h.1 h.2 o h.3
