-- Tests that hold of all tags, over the parts of a state and of an effect.
use Rattle.std.proofs.Common.{◌≡◌, ℕ, zero, suc, List, [], ◌∷◌, ◌++◌, Option, Some, None, Bool, true, false, cond, ◌==◌, option_and_then, option_to_list, length, slice_get, slice_set, refl}
use Rattle.std.specs.List.{list_all}
use Rattle.std.specs.Option.{option_or}
use Rattle.std.proofs.lemmas.Bool.{and_parts, and_from}
use Rattle.net_base.specs.declared.names.Key.{Key}
use Rattle.net_base.specs.declared.values.Party.{Party}
use Rattle.net_base.specs.declared.names.Tag.{Tag}
use Rattle.net_base.specs.declared.causes.Cause.{Cause}
use Rattle.net_base.specs.declared.causes.Event.{Event}
use Rattle.net_base.specs.declared.causes.Event.TheVariants as event
use Rattle.session_wire.specs.declared.body.Body.{Body}
use Rattle.session_wire.specs.declared.body.Body.TheVariants as body_of
use Rattle.session_wire.specs.declared.change.SentItem.{SentItem}
use Rattle.flow_machine.specs.declared.flows.FlowState.{FlowState}
use Rattle.flow_machine.specs.declared.flows.FlowState.TheVariants as state
use Rattle.flow_machine.specs.Machine.{Machine}
use Rattle.session_wire.specs.Sessions.{Sent, Session, changed_at, ending_at, ending_of, key_eq, new_session, opened_on, sent_on, taken_on, with_came, with_sent, with_taken}
use Rattle.net_model.specs.State.{NodeState, FlowPart, no_flow, now_live, now_ended, now_failed, Effect, apply_effect, came_on, flow_of, flows_on, placed}
use Rattle.net_model.specs.Tags.{flow_passes, body_passes, ending_passes, session_passes, entry_passes, Passes}
use Rattle.net_model.proofs.Lists.{all_append, all_one, all_set, all_get, all_mapped}

-- ---- what an effect brings

abbrev pub part_passes : {F : Type 0} → (F → List Tag) → (Tag → Bool) → FlowPart F → Bool
part_passes tags test no_flow = true
part_passes tags test (now_live at) = flow_passes tags test (state.Live at)
part_passes tags test (now_ended f step class v) = flow_passes tags test (state.Ended step class v)
part_passes tags test (now_failed f step class code) = true

pub record Brings {F : Type 0} (m : Machine F) (test : Tag → Bool) (e : Effect F) : Type 0 where
  pub flow : part_passes m.tags test e.flow ≡ true
  pub sent : list_all (λ item. body_passes test item.body) e.change.sent ≡ true
  pub came : list_all (body_passes test) (option_to_list e.change.came) ≡ true
  pub recorded : list_all (λ stx. list_all test stx.tags) (option_to_list e.change.recorded) ≡ true
  pub booked : list_all (entry_passes test) (option_to_list e.change.booked) ≡ true

module _ {F : Type 0} (m : Machine F) (test : Tag → Bool) where
  placed_pass : (flows : List (FlowState F)) (f : ℕ) (x : FlowState F) → list_all (flow_passes m.tags test) flows ≡ true → flow_passes m.tags test x ≡ true → list_all (flow_passes m.tags test) (placed flows f x) ≡ true
  placed_pass flows f x h k =
      elim (f == length flows) as (λ b. list_all (flow_passes m.tags test) (cond b (flows ++ x ∷ []) (slice_set flows f x)) ≡ true)
      [ true ↦ all_append _ flows (x ∷ []) h (all_one (flow_passes m.tags test) x k) | false ↦ all_set _ flows f x h k ]

  flows_pass : (p : FlowPart F) (flows : List (FlowState F)) → part_passes m.tags test p ≡ true → list_all (flow_passes m.tags test) flows ≡ true → list_all (flow_passes m.tags test) (flows_on p flows) ≡ true
  flows_pass no_flow flows k h = h
  flows_pass (now_live at) flows k h = placed_pass flows at.flow (state.Live at) h k
  flows_pass (now_ended f step class v) flows k h = placed_pass flows f (state.Ended step class v) h k
  flows_pass (now_failed f step class code) flows k h = placed_pass flows f (state.Failed step class code) h refl

  abbrev All : List Session → Type 0
  All ss = list_all (session_passes test) ss ≡ true

  changed_pass : (key : Key) (change : Session → Session) (ss : List Session) → ((s : Session) → session_passes test s ≡ true → session_passes test (change s) ≡ true) → All ss → All (changed_at key change ss)
  changed_pass key change ss f h = all_mapped (session_passes test) (λ s. cond (key_eq key s.key) (change s) s) ss (λ s k. elim (key_eq key s.key) as (λ b. session_passes test (cond b (change s) s) ≡ true) [ true ↦ f s k | false ↦ k ]) h

  made_pass : (key : Key) (peer : Party) (owner : Option ℕ) (bodies : List Body) → list_all (body_passes test) bodies ≡ true → session_passes test (new_session key peer owner bodies) ≡ true
  made_pass key peer owner bodies h = and_from _ _ h refl

  came_pass : (ev : Event) (bodies : List Body) (owner : Option ℕ) (ss : List Session) → list_all (body_passes test) bodies ≡ true → All ss → All (came_on ev bodies owner ss)
  came_pass (event.Answer key) bodies owner ss k h = all_append _ ss (new_session key key.initiator owner bodies ∷ []) h (all_one (session_passes test) (new_session key key.initiator owner bodies) (made_pass key key.initiator owner bodies k))
  came_pass (event.Arrive key direction number) bodies owner ss k h =
      changed_pass key (with_came bodies) ss (λ s g. let p = and_parts _ _ g in let q = and_parts _ _ p.1 in and_from _ _ p.0 (and_from _ _ (all_append (body_passes test) s.came bodies q.0 k) q.1)) h
  came_pass (event.Start f class args) bodies owner ss k h = h
  came_pass (event.Move f) bodies owner ss k h = h
  came_pass (event.Lapse f) bodies owner ss k h = h

  opened_pass : (o : Option (Key × Party)) (owner : Option ℕ) (ss : List Session) → All ss → All (opened_on o owner ss)
  opened_pass None owner ss h = h
  opened_pass (Some opened) owner ss h = all_append _ ss (new_session opened.0 opened.1 owner [] ∷ []) h refl

  sent_pass : (stamp : ℕ) (items : List SentItem) (ss : List Session) → list_all (λ item. body_passes test item.body) items ≡ true → All ss → All (sent_on stamp items ss)
  sent_pass stamp [] ss k h = h
  sent_pass stamp (item ∷ items) ss k h =
      let p = and_parts _ _ k in
      sent_pass stamp items _ p.1 (changed_pass item.key (with_sent (record { body = item.body; stamp = stamp })) ss (λ s g.
      let q = and_parts _ _ g in and_from _ _ (all_append (λ (x : Sent). body_passes test x.body) s.sent (record { body = item.body; stamp = stamp } ∷ []) q.0 (and_from _ _ p.0 refl)) q.1) h)

  ending_pass : (o : Option Body) → ((b : Body) → o ≡ Some b → body_passes test b ≡ true) → ending_passes test (option_and_then ending_of o) ≡ true
  ending_pass None f = refl
  ending_pass (Some (body_of.Init class first)) f = refl
  ending_pass (Some body_of.Confirm) f = refl
  ending_pass (Some (body_of.Reject code)) f = refl
  ending_pass (Some (body_of.Data v)) f = refl
  ending_pass (Some (body_of.Error code)) f = refl
  ending_pass (Some body_of.End) f = refl

  ending_at_pass : (came : List Body) (n : ℕ) → list_all (body_passes test) came ≡ true → ending_passes test (ending_at came n) ≡ true
  ending_at_pass came zero h = refl
  ending_at_pass came (suc n) h = ending_pass (slice_get came n) (λ b e. all_get (body_passes test) came n b h e)

  either_pass : (a b : Option Body) → ending_passes test a ≡ true → ending_passes test b ≡ true → ending_passes test (option_or a b) ≡ true
  either_pass None b h k = k
  either_pass (Some x) b h k = h

  taken_pass : (o : Option (Key × ℕ)) (ss : List Session) → All ss → All (taken_on o ss)
  taken_pass None ss h = h
  taken_pass (Some taken) ss h =
      changed_pass taken.0 (with_taken taken.1) ss (λ s g. let p = and_parts _ _ g in let q = and_parts _ _ p.1 in
      and_from _ _ p.0 (and_from _ _ q.0 (either_pass s.ending (ending_at s.came taken.1) q.1 (ending_at_pass s.came taken.1 q.0)))) h

  pub applied_passes : (s : NodeState F) (cause : Cause) (e : Effect F) → Passes m test s → Brings m test e → Passes m test (apply_effect s cause e)
  unfolding apply_effect
  applied_passes s cause e h b = record {
    flows = flows_pass e.flow s.flows b.flow h.flows;
    sessions = taken_pass e.change.taken _ (sent_pass cause.stamp e.change.sent _ b.sent (opened_pass e.change.opened (flow_of e.flow) _ (came_pass cause.event (option_to_list e.change.came) (flow_of e.flow) s.sessions b.came h.sessions)));
    stored = all_append _ s.stored _ h.stored b.recorded;
    entries = all_append _ s.entries _ h.entries b.booked;
  }
