-- The directions of what comes to a node, and of what it answers.
use Rattle.std.proofs.Common.{◌≡◌, ◌≢◌, ◌⊎◌, inl, inr, ◌<◌, ℕ, Bool, true, cond, List, Option, Some, None, refl, ap, sym, subst, ◌∙◌, nat_eq, eq-eqb, option_map, length}
use Rattle.std.proofs.lemmas.Bool.{ne_eqb}
use Rattle.std.specs.Option.{unwrap_or}
use Rattle.net_base.specs.declared.names.Key.{Key}
use Rattle.net_base.specs.declared.values.Party.{Party}
use Rattle.session_wire.specs.Frames.{AreSides, GoesAt}
use Rattle.session_wire.specs.Rules.{direction_in, direction_out}
use Rattle.session_wire.specs.Sessions.{Session, session_of}
use Rattle.session_table.specs.Tables.{arrived_at}
use Rattle.session_frames.specs.Judging.{arrived}

-- parties of one number are one
pub party_exact : (a b : Party) → a.0 ≡ b.0 → a ≡ b
party_exact a b e = λ i. record { 0 = e i }

-- the sides of a frame and its session, and the direction at which an item goes from the sender to the receiver
abbrev pub IsRoute : Party → Party → Key → ℕ → Party → Party → Type 0
IsRoute from to key direction sender receiver = AreSides from to key × GoesAt direction key sender receiver

-- the session's initiator is the sender at direction 0, and the receiver at direction 1
pub side_of : (key : Key) (direction : ℕ) (sender receiver : Party) → GoesAt direction key sender receiver → ((direction ≡ 0) × (key.initiator.0 ≡ sender.0)) ⊎ ((direction ≡ 1) × (key.initiator.0 ≡ receiver.0))
side_of key direction sender receiver goes = elim goes [ inl s ↦ inl (s.0, ap (λ (p : Party). p.0) (sym s.1)) | inr s ↦ inr (s.0, ap (λ (p : Party). p.0) (sym s.1)) ]

-- and so the other way
pub goes_of : (key : Key) (direction : ℕ) (sender receiver : Party) → ((direction ≡ 0) × (key.initiator.0 ≡ sender.0)) ⊎ ((direction ≡ 1) × (key.initiator.0 ≡ receiver.0)) → GoesAt direction key sender receiver
goes_of key direction sender receiver side = elim side [ inl s ↦ inl (s.0, sym (party_exact key.initiator sender s.1)) | inr s ↦ inr (s.0, sym (party_exact key.initiator receiver s.1)) ]

-- the sides have different numbers
pub differ_of : (from to : Party) (key : Key) → AreSides from to key → to.0 ≢ from.0
differ_of from to key sides e = sides.differ (party_exact from to (sym e))

-- a message to a node goes in the direction of what arrives there
pub incoming : (me from to : Party) (key : Key) (direction : ℕ) → IsRoute from to key direction from to → to.0 ≡ me.0 → direction ≡ direction_in me key
incoming me from to key direction route mine =
    elim (side_of key direction from to route.1) [
      | inl s ↦
          let ne : key.initiator.0 ≢ me.0 = λ e. differ_of from to key route.0 (mine ∙ sym e ∙ s.1) in
          s.0 ∙ sym (ap (λ (t : Bool). cond t 1 0) (ne_eqb key.initiator.0 me.0 ne))
      | inr s ↦ s.0 ∙ sym (ap (λ (t : Bool). cond t 1 0) (eq-eqb key.initiator.0 me.0 (s.1 ∙ mine)))
    ]

-- an acknowledgement to a node goes by the direction of what it sends
pub acknowledged : (me from to : Party) (key : Key) (direction : ℕ) → IsRoute from to key direction to from → to.0 ≡ me.0 → direction ≡ direction_out me key
acknowledged me from to key direction route mine =
    elim (side_of key direction to from route.1) [
      | inl s ↦ s.0 ∙ sym (ap (λ (t : Bool). cond t 0 1) (eq-eqb key.initiator.0 me.0 (s.1 ∙ mine)))
      | inr s ↦
          let ne : key.initiator.0 ≢ me.0 = λ e. differ_of from to key route.0 (mine ∙ sym e ∙ s.1) in
          s.0 ∙ sym (ap (λ (t : Bool). cond t 0 1) (ne_eqb key.initiator.0 me.0 ne))
    ]

-- the answer to a message goes along its route, the other way
pub answer_route : (me from to : Party) (key : Key) (direction : ℕ) → IsRoute from to key direction from to → to.0 ≡ me.0 → IsRoute me from key direction from me
answer_route me from to key direction route mine = (
  record {
    from_is = subst (λ (n : ℕ). n < 16) mine route.0.to_is;
    to_is = route.0.from_is;
    differ = λ e. differ_of from to key route.0 (mine ∙ ap (λ (p : Party). p.0) e);
    key_is = route.0.key_is;
  },
  goes_of key direction from me (elim (side_of key direction from to route.1) [ inl s ↦ inl s | inr s ↦ inr (s.0, s.1 ∙ mine) ]),
)

-- what arrived where something may arrive
pub arrived_is : (me : Party) (key : Key) (direction : ℕ) (sessions : List Session) → direction ≡ direction_in me key → unwrap_or (arrived_at me key direction sessions) 0 ≡ arrived (session_of key sessions)
arrived_is me key direction sessions e =
    let same : nat_eq direction (direction_in me key) ≡ true = eq-eqb _ _ e in
    ap (λ (t : Bool). unwrap_or (cond t (option_map (λ (s : Session). length s.came) (session_of key sessions)) None) 0) same ∙ counted (session_of key sessions)
  where
    counted : (s : Option Session) → unwrap_or (option_map (λ (s : Session). length s.came) s) 0 ≡ arrived s
    counted None = refl
    counted (Some s) = refl
