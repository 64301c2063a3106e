-- Enabled acts and the effects of the events that perform them.
use Rattle.std.proofs.Common.{◌≡◌, ℕ, Option, Some, None, Bool, true, false, cond, ◌&&◌, nat_le, IsSome, MatchOption, option_map, is_none, slice_get, refl, sym, ap, subst, ◌∙◌, ◌⊎◌, inl, inr, ⊎_elim}
use Rattle.net_base.specs.declared.causes.Event.{Event}
use Rattle.net_base.specs.declared.causes.Event.TheVariants as event
use Rattle.session_wire.specs.declared.body.Body.{Body}
use Rattle.session_wire.specs.Sessions.{Session, next_item}
use Rattle.session_wire.specs.Rules.{owned, waits_for}
use Rattle.flow_machine.specs.declared.acts.Act.{Act}
use Rattle.flow_machine.specs.declared.acts.Act.TheVariants as act
use Rattle.flow_machine.specs.declared.flows.Checkpoint.{Checkpoint}
use Rattle.flow_machine.specs.declared.flows.FlowState.{FlowState}
use Rattle.flow_machine.specs.declared.flows.FlowState.TheVariants as state
use Rattle.net_model.specs.Environment.{Environment}
use Rattle.net_model.specs.State.{NodeState, Effect}
use Rattle.net_model.specs.Steps.{takes, receives, goes_on, effect_of, performed, lapsed, lapses}
use Rattle.net_model.specs.Sound.{IsNumbered}
use Rattle.net_model.specs.Enabled.{enabling, enabled_event, effect_on, EnabledIsDefined}

module _ {F : Type 0} (w : Environment F) (me : ℕ) (s : NodeState F) (now f : ℕ) where
  -- where flow f of the state is this, its events have the effects that they have on it
  moves_on : (flow : FlowState F) → slice_get s.flows f ≡ Some flow → effect_of w me s now (event.Move f) None ≡ effect_on w me s now flow (event.Move f)
  unfolding effect_of
  moves_on flow h = rw h

  lapses_on : (flow : FlowState F) → slice_get s.flows f ≡ Some flow → effect_of w me s now (event.Lapse f) None ≡ effect_on w me s now flow (event.Lapse f)
  unfolding effect_of
  lapses_on flow h = rw h

  -- the event, if there is one, has an effect, and where there is none neither a Move nor a Lapse of the flow has one
  abbrev Tells : (Event → Option (Effect F)) → Option Event → Type 0
  Tells effect o = MatchOption o ((effect (event.Move f) ≡ None) × (effect (event.Lapse f) ≡ None)) (λ e. IsSome (effect e))

  -- ---- by the act

  by_moment : (effect : Event → Option (Effect F)) (at : Checkpoint F) (b : Bool) → effect (event.Move f) ≡ None → effect (event.Lapse f) ≡ lapsed w me now at b → Tells effect (cond b (Some (event.Lapse f)) None)
  by_moment effect at true move lapse = rw lapse refl
  by_moment effect at false move lapse = (move, lapse)

  -- Receive, by the item that is there
  by_item : (effect : Event → Option (Effect F)) (at : Checkpoint F) (session : Session) (o : Option (Option ℕ × Body)) → effect (event.Move f) ≡ option_map (goes_on w me now at) (option_map (takes session) o) → effect (event.Lapse f) ≡ None
      → Tells effect (cond (is_none o) None (Some (event.Move f)))
  by_item effect at session None move lapse = (move, lapse)
  by_item effect at session (Some next) move lapse = rw move refl

  by_receive : (effect : Event → Option (Effect F)) (at : Checkpoint F) (o : Option Session) → effect (event.Move f) ≡ option_map (goes_on w me now at) (receives o) → effect (event.Lapse f) ≡ None → Tells effect (cond (waits_for o) None (Some (event.Move f)))
  by_receive effect at None move lapse = rw move refl
  by_receive effect at (Some session) move lapse = by_item effect at session (next_item session session.ending) move lapse

  -- ReceiveBy, by the item that is there and by whether the moment has come
  by_late : (effect : Event → Option (Effect F)) (at : Checkpoint F) (b : Bool) → effect (event.Move f) ≡ None → effect (event.Lapse f) ≡ lapsed w me now at (b && true) → Tells effect (cond b (Some (event.Lapse f)) None)
  by_late effect at true move lapse = rw lapse refl
  by_late effect at false move lapse = (move, lapse)

  by_item_until : (effect : Event → Option (Effect F)) (at : Checkpoint F) (b : Bool) (session : Session) (o : Option (Option ℕ × Body))
      → effect (event.Move f) ≡ option_map (goes_on w me now at) (option_map (takes session) o) → effect (event.Lapse f) ≡ lapsed w me now at (b && is_none o)
      → Tells effect (cond (is_none o) (cond b (Some (event.Lapse f)) None) (Some (event.Move f)))
  by_item_until effect at b session None move lapse = by_late effect at b move lapse
  by_item_until effect at b session (Some next) move lapse = rw move refl

  by_receive_until : (effect : Event → Option (Effect F)) (at : Checkpoint F) (b : Bool) (o : Option Session) → effect (event.Move f) ≡ option_map (goes_on w me now at) (receives o) → effect (event.Lapse f) ≡ lapsed w me now at (b && waits_for o)
      → Tells effect (cond (waits_for o) (cond b (Some (event.Lapse f)) None) (Some (event.Move f)))
  by_receive_until effect at b None move lapse = rw move refl
  by_receive_until effect at b (Some session) move lapse = by_item_until effect at b session (next_item session session.ending) move lapse

  by_performed : (effect : Event → Option (Effect F)) (at : Checkpoint F) (a : Act F) → at.flow ≡ f → effect (event.Move f) ≡ performed w me s now at a → effect (event.Lapse f) ≡ lapsed w me now at (lapses s now at.flow a) → Tells effect (enabling s.sessions f now a)
  by_performed effect at (act.Sleep until) own move lapse = by_moment effect at (nat_le until now) move lapse
  by_performed effect at (act.Receive key) own move lapse = by_receive effect at (owned f key s.sessions) (subst (λ g. effect (event.Move f) ≡ option_map (goes_on w me now at) (receives (owned g key s.sessions))) own move) lapse
  by_performed effect at (act.ReceiveBy key until) own move lapse =
      by_receive_until effect at (nat_le until now) (owned f key s.sessions)
      (subst (λ g. effect (event.Move f) ≡ option_map (goes_on w me now at) (receives (owned g key s.sessions))) own move)
      (subst (λ g. effect (event.Lapse f) ≡ lapsed w me now at (nat_le until now && waits_for (owned g key s.sessions))) own lapse)
  by_performed effect at _ own move lapse = rw move refl

  by_state : (effect : Event → Option (Effect F)) (flow : FlowState F) → IsNumbered f flow → effect (event.Move f) ≡ effect_on w me s now flow (event.Move f) → effect (event.Lapse f) ≡ effect_on w me s now flow (event.Lapse f)
      → Tells effect (enabled_event s.sessions now flow)
  by_state effect (state.Live at) own move lapse = subst (λ g. Tells effect (enabling s.sessions g now at.waiting)) (sym own) (by_performed effect at at.waiting own move lapse)
  by_state effect (state.Ended step class value) own move lapse = (move, lapse)
  by_state effect (state.Failed step class code) own move lapse = (move, lapse)

  -- ---- the event of a flow

  by_waiting : (b : Bool) (g : ℕ) (e : Event) → cond b None (Some (event.Move g)) ≡ Some e → (e ≡ event.Move g) ⊎ (e ≡ event.Lapse g)
  by_waiting true g e h = cc
  by_waiting false g e h = inl (cc)

  by_clock : (b : Bool) (g : ℕ) (e : Event) → cond b (Some (event.Lapse g)) None ≡ Some e → (e ≡ event.Move g) ⊎ (e ≡ event.Lapse g)
  by_clock true g e h = inr (cc)
  by_clock false g e h = cc

  by_either : (b late : Bool) (g : ℕ) (e : Event) → cond b (cond late (Some (event.Lapse g)) None) (Some (event.Move g)) ≡ Some e → (e ≡ event.Move g) ⊎ (e ≡ event.Lapse g)
  by_either true late g e h = by_clock late g e h
  by_either false late g e h = inl (cc)

  act_kind : (g : ℕ) (a : Act F) (e : Event) → enabling s.sessions g now a ≡ Some e → (e ≡ event.Move g) ⊎ (e ≡ event.Lapse g)
  act_kind g (act.Sleep until) e h = by_clock (nat_le until now) g e h
  act_kind g (act.Receive key) e h = by_waiting (waits_for (owned g key s.sessions)) g e h
  act_kind g (act.ReceiveBy key until) e h = by_either (waits_for (owned g key s.sessions)) (nat_le until now) g e h
  act_kind g _ e h = inl (cc)

  event_kind : (flow : FlowState F) (e : Event) → IsNumbered f flow → enabled_event s.sessions now flow ≡ Some e → (e ≡ event.Move f) ⊎ (e ≡ event.Lapse f)
  event_kind (state.Live at) e own h = subst (λ g. (e ≡ event.Move g) ⊎ (e ≡ event.Lapse g)) own (act_kind at.flow at.waiting e h)
  event_kind (state.Ended step class value) e own h = cc
  event_kind (state.Failed step class code) e own h = cc

  -- the event by which a flow goes on has in the state the effect that it has on the flow
  pub effect_at : (flow : FlowState F) (e : Event) (done : Effect F) → slice_get s.flows f ≡ Some flow → IsNumbered f flow → enabled_event s.sessions now flow ≡ Some e → effect_on w me s now flow e ≡ Some done → effect_of w me s now e None ≡ Some done
  effect_at flow e done h own k is =
      ⊎_elim
      (λ p. ap (λ x. effect_of w me s now x None) p ∙ moves_on flow h ∙ ap (λ x. effect_on w me s now flow x) (sym p) ∙ is)
      (λ p. ap (λ x. effect_of w me s now x None) p ∙ lapses_on flow h ∙ ap (λ x. effect_on w me s now flow x) (sym p) ∙ is)
      (event_kind flow e own k)

pub enabled_is_defined : {F : Type 0} → EnabledIsDefined F
enabled_is_defined w me s now f flow h own = by_state w me s now f (λ e. effect_of w me s now e None) flow own (moves_on w me s now f flow h) (lapses_on w me s now f flow h)
