-- A delivery that takes a frame away leaves one frame less at its place: what is sent goes elsewhere.
use Rattle.std.proofs.Common.{◌≡◌, ◌≢◌, ◌⊎◌, inl, inr, ⊎_elim, ℕ, zero, suc, ◌+◌, Bool, true, false, cond, ◌==◌, List, [], ◌∷◌, length, Option, Some, None, slice_get, slice_set, refl, sym, ◌∙◌, ap, subst, arith}
use Rattle.std.proofs.lemmas.Bool.{eqb-true, not-false}
use Rattle.net_base.specs.declared.names.Identity.{Identity}
use Rattle.net_base.specs.declared.names.Key.{Key}
use Rattle.net_base.specs.declared.values.Party.{Party}
use Rattle.net_base.proofs.Lists.{get_there, get_other}
use Rattle.session_wire.specs.declared.body.Body.{Body}
use Rattle.session_wire.specs.declared.frame.Frame.{Frame}
use Rattle.session_wire.specs.declared.frame.Frame.TheVariants.{Message, Ack}
use Rattle.session_wire.specs.Frames.{IsFrame}
use Rattle.session_wire.specs.Sessions.{Sent, Session}
use Rattle.session_frames.specs.declared.judged.Judged.{Judged}
use Rattle.session_frames.specs.declared.judged.Judged.TheVariants as judged
use Rattle.session_frames.specs.declared.sending.Outgoing.{Outgoing}
use Rattle.session_frames.specs.Judging.{judge, or_else, is_other, IsJudged, JudgesFrame}
use Rattle.net_model.specs.Environment.{Environment, identity}
use Rattle.node_tables.specs.Journals.{state_of}
use Rattle.network_core.specs.declared.refusal.Refusal.TheVariants as refusal
use Rattle.network_core.specs.declared.steps.Outcome.{Outcome}
use Rattle.network_core.specs.declared.steps.Outcome.TheVariants as outcome
use Rattle.network_core.specs.Worlds.{NodeWorld, World}
use Rattle.network_core.specs.WorldSteps.{HearsNext, Hears, waits_on, handed_over, with_frame, without, sent_to, sent_once, sent_all}
use Rattle.network_core.specs.Drains.{HandAt, world_steps}
use Rattle.network_core.specs.Rounds.{Hands, EndsHands, IsTaken}
use Rattle.network_core.proofs.QuietingFrames.{Has}
use Rattle.network_core.proofs.QuietingSteps.{same_node, waits_taken}

-- ---- who sent a frame

-- the party that is answered
abbrev sender : Judged → Option Party
sender (judged.Again from key direction expected) = Some from
sender (judged.Next from key direction number stamp body) = Some from
sender _ = None

of_parts : (a b c d : Bool) (from to : Party) (key : Key) (direction n seq stamp : ℕ) (body : Body) (party : Party)
    → sender (or_else (cond a (Some (judged.NotMine to)) (cond b (Some judged.NoSession) (cond c (Some (judged.Again from key direction n)) (cond d (Some (judged.Early n)) None)))) (judged.Next from key direction seq stamp body)) ≡ Some party → (a ≡ false) × (from ≡ party)
of_parts true b c d from to key direction n seq stamp body party h = cc
of_parts false true c d from to key direction n seq stamp body party h = cc
of_parts false false true d from to key direction n seq stamp body party h = (refl, cc)
of_parts false false false true from to key direction n seq stamp body party h = cc
of_parts false false false false from to key direction n seq stamp body party h = (refl, cc)

of_ack : (a b c : Bool) (to : Party) (key : Key) (direction n upto : ℕ) (party : Party) → sender (cond a (judged.NotMine to) (cond b judged.NoSession (cond c (judged.Early n) (judged.Acked key direction upto)))) ≡ Some party → ⊥
of_ack true b c to key direction n upto party h = cc
of_ack false true c to key direction n upto party h = cc
of_ack false false true to key direction n upto party h = cc
of_ack false false false to key direction n upto party h = cc

-- a party that is answered is another one
from_other : (node : Identity) (ss : List Session) (f : Frame) (party : Party) → IsFrame f → sender (judge node ss f) ≡ Some party → party.0 ≢ node.party.0
from_other node ss (Message from to key direction seq stamp body) party lawful is =
    let parts = of_parts (is_other to node.party) _ _ _ from to key direction _ seq stamp body party is in
    let mine : to.0 ≡ node.party.0 = eqb-true to.0 node.party.0 (not-false (to.0 == node.party.0) parts.0) in
    λ same. lawful.0.differ (ap (λ (n : ℕ). record { 0 = n }) (ap (λ (a : Party). a.0) parts.1 ∙ same ∙ sym mine))
from_other node ss (Ack from to key direction upto) party lawful is = absurd (of_ack (is_other to node.party) _ _ to key direction _ upto party is)

of_judges : (node : Identity) (ss : List Session) (bytes : List ℕ) (said : Judged) (party : Party) → JudgesFrame node ss bytes said → sender said ≡ Some party → party.0 ≢ node.party.0
of_judges node ss bytes said party (f, lawful, whole, is) from = from_other node ss f party lawful (ap sender (sym is) ∙ from)

said_other : (node : Identity) (ss : List Session) (bytes : List ℕ) (said : Judged) (party : Party) → IsJudged node ss bytes said → sender said ≡ Some party → party.0 ≢ node.party.0
said_other node ss bytes judged.Garbled party h is = cc
said_other node ss bytes other party h is = of_judges node ss bytes other party h is

-- ---- what is sent goes elsewhere

to_other : (o : Outgoing) (xs : List NodeWorld) (x : Option NodeWorld) (r : ℕ) → (o.to.0 ≡ r → ⊥) → slice_get (sent_to o xs x) r ≡ slice_get xs r
to_other o xs None r other = refl
to_other o xs (Some x) r other = get_other xs o.to.0 (with_frame o.bytes x) r (λ is. other (sym is))

all_other : (os : List Outgoing) (xs : List NodeWorld) (r : ℕ) → ((o : Outgoing) → Has o os → o.to.0 ≡ r → ⊥) → slice_get (sent_all os xs) r ≡ slice_get xs r
all_other [] xs r other = refl
all_other (o ∷ os) xs r other = all_other os (sent_once o xs) r (λ a h. other a (inr h)) ∙ to_other o xs (slice_get xs o.to.0) r (other o (inl refl))

none_has : {X : Type 0} (x : X) (xs : List X) → xs ≡ [] → Has x xs → ⊥
none_has x xs is h = subst (λ (l : List _). Has x l) is h

one_has : (a x : Outgoing) (xs : List Outgoing) → xs ≡ a ∷ [] → Has x xs → x.to ≡ a.to
one_has a x xs is h = ⊎_elim (λ s. ap (λ (o : Outgoing). o.to) (sym s)) (λ s. absurd s) (subst (λ (l : List Outgoing). Has x l) is h)

first_gone : (xs : List (List ℕ)) (b : List ℕ) → slice_get xs 0 ≡ Some b → length xs ≡ suc (length (without 0 xs))
first_gone [] b h = cc
first_gone (x ∷ xs) b h = refl

none_waits : (xs : List (List ℕ)) → length xs ≡ 0 → slice_get xs 0 ≡ None
none_waits [] h = refl
none_waits (x ∷ xs) h = absurd (omega (arith, h))

module _ {F : Type 0} (e : Environment F) where
  next_sent : (r now : ℕ) (from : Party) (key : Key) (direction number : ℕ) (item : Sent) (x : NodeWorld) (o : Outcome) (y : NodeWorld) (sent : List Outgoing) (a : Outgoing) → HearsNext e r now from key direction number item x o y sent → Has a sent → a.to ≡ from
  next_sent r now from key direction number item x (outcome.Took upto) y sent a h has = one_has _ a sent h.2 has
  next_sent r now from key direction number item x outcome.Fault y sent a h has = absurd (none_has a sent h.1 has)
  next_sent r now from key direction number item x (outcome.Refused why) y sent a h has = absurd (none_has a sent h.3 has)
  next_sent r now from key direction number item x other y sent a h has = absurd h

  -- an acknowledgement goes to the party that is answered
  hears_sent : (r now : ℕ) (said : Judged) (x : NodeWorld) (o : Outcome) (y : NodeWorld) (sent : List Outgoing) (a : Outgoing) → Hears e r now said x o y sent → Has a sent → sender said ≡ Some a.to
  hears_sent r now judged.Garbled x o y sent a h has = absurd h
  hears_sent r now (judged.NotMine to) x o y sent a h has = absurd h
  hears_sent r now judged.NoSession x o y sent a h has = absurd (none_has a sent h.2 has)
  hears_sent r now (judged.Early expected) x o y sent a h has = absurd (none_has a sent h.2 has)
  hears_sent r now (judged.Acked key direction upto) x o y sent a h has = absurd (none_has a sent h.2 has)
  hears_sent r now (judged.Again from key direction expected) x o y sent a h has = ap Some (sym (one_has _ a sent h.2 has))
  hears_sent r now (judged.Next from key direction number stamp body) x o y sent a h has = ap Some (sym (next_sent r now from key direction number (record { body = body; stamp = stamp }) x o y sent a h has))

  next_waiting : (r now : ℕ) (from : Party) (key : Key) (direction number : ℕ) (item : Sent) (x : NodeWorld) (o : Outcome) (y : NodeWorld) (sent : List Outgoing) → HearsNext e r now from key direction number item x o y sent → y.waiting ≡ x.waiting
  next_waiting r now from key direction number item x (outcome.Took upto) y sent h = ap (λ (a : NodeWorld). a.waiting) h.1.after
  next_waiting r now from key direction number item x outcome.Fault y sent h = h.0.waiting
  next_waiting r now from key direction number item x (outcome.Refused why) y sent h = ap (λ (a : NodeWorld). a.waiting) h.2
  next_waiting r now from key direction number item x other y sent h = absurd h

  hears_waiting : (r now : ℕ) (said : Judged) (x : NodeWorld) (o : Outcome) (y : NodeWorld) (sent : List Outgoing) → Hears e r now said x o y sent → y.waiting ≡ x.waiting
  hears_waiting r now judged.Garbled x o y sent h = absurd h
  hears_waiting r now (judged.NotMine to) x o y sent h = absurd h
  hears_waiting r now judged.NoSession x o y sent h = ap (λ (a : NodeWorld). a.waiting) h.1
  hears_waiting r now (judged.Early expected) x o y sent h = ap (λ (a : NodeWorld). a.waiting) h.1
  hears_waiting r now (judged.Acked key direction upto) x o y sent h = ap (λ (a : NodeWorld). a.waiting) h.1
  hears_waiting r now (judged.Again from key direction expected) x o y sent h = ap (λ (a : NodeWorld). a.waiting) h.1
  hears_waiting r now (judged.Next from key direction number stamp body) x o y sent h = next_waiting r now from key direction number (record { body = body; stamp = stamp }) x o y sent h

  -- one frame less waits
  pub hand_shorter : (r : ℕ) (w v : World) (o : Outcome) (x : NodeWorld) → IsTaken o → HandAt e r w (Some o) v → slice_get w.nodes r ≡ Some x → (y : NodeWorld) × (slice_get v.nodes r ≡ Some y) × (length x.waiting ≡ suc (length y.waiting))
  hand_shorter r w v o x taken (inl (past, is, same)) at = absurd (taken refusal.UnknownNode cc)
  hand_shorter r w v o x taken (inr (z, there, inl (down, is, same))) at = absurd (taken refusal.NodeDown cc)
  hand_shorter r w v o x taken (inr (z, there, inr (up, inl (none, is, same)))) at = absurd (taken refusal.NoFrame cc)
  hand_shorter r w v o x taken (inr (z, there, inr (up, inr (bytes, y, sent, first, takes, same)))) at =
      let one = same_node w.nodes r z x there at in
      let over = handed_over (waits_on false (Some o)) 0 y in
      let elsewhere = all_other sent (slice_set w.nodes r over) r (λ a has. said_other (identity e r) (state_of e.frame_at z.journal).sessions bytes takes.0 a.to takes.1 (hears_sent r w.now takes.0 z o y sent a takes.3 has)) in
      let after : slice_get v.nodes r ≡ Some over = ap (λ (a : World). slice_get a.nodes r) same ∙ elsewhere ∙ get_there w.nodes r z over there in
      let left : over.waiting ≡ without 0 z.waiting = ap (λ (b : Bool). (handed_over b 0 y).waiting) (waits_taken o taken) ∙ ap (without 0) (hears_waiting r w.now takes.0 z o y sent takes.3) in
      let gone = first_gone z.waiting bytes first in
      let was : length x.waiting ≡ length z.waiting = ap (λ (a : NodeWorld). length a.waiting) (sym one) in
      (over, after, was ∙ gone ∙ ap (λ (l : List (List ℕ)). suc (length l)) (sym left))

  hands_left : (r d n : ℕ) (w v : World) (x : NodeWorld) → slice_get w.nodes r ≡ Some x → Hands (world_steps e) r d n w v → (y : NodeWorld) × (slice_get v.nodes r ≡ Some y) × (length x.waiting ≡ length y.waiting + d)
  hands_left r zero n w v x at (is, same) = (x, ap (λ (a : World). slice_get a.nodes r) same ∙ at, omega arith)
  hands_left r (suc d) n w v x at (u, k, o, before, hand, taken, sum) =
      let y = hands_left r d k w u x at before in
      let z = hand_shorter r u v o y.0 taken hand y.1 in
      (z.0, z.1, omega (arith, y.2, z.2))

  -- as many deliveries as frames waited leave none
  pub hands_shorter : (r d n : ℕ) (w v : World) (x : NodeWorld) → slice_get w.nodes r ≡ Some x → length x.waiting ≡ d → Hands (world_steps e) r d n w v → EndsHands (HandAt e) r v v
  hands_shorter r d n w v x at count hands =
      let y = hands_left r d n w v x at hands in
      let none = none_waits y.0.waiting (omega (arith, y.2, count)) in
      by y.0 y.1 none y.0.up refl
    where
      by : (y : NodeWorld) → slice_get v.nodes r ≡ Some y → slice_get y.waiting 0 ≡ None → (b : Bool) → y.up ≡ b → EndsHands (HandAt e) r v v
      by y there none true up = (outcome.Refused refusal.NoFrame, inr (y, there, inr (up, inl (none, refl, refl))), inl refl)
      by y there none false up = (outcome.Refused refusal.NodeDown, inr (y, there, inl (up, refl, refl)), inr refl)
