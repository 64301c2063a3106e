-- A record that fits makes a change of the sessions that fits, and the sessions after it are those of the change.
use Rattle.std.proofs.Common.{◌≡◌, ℕ, List, [], ◌∷◌, ◌++◌, length, option_to_list, Option, Some, None, Bool, true, false, cond, refl, sym, ◌∙◌, ap, subst, arith, is_none, not, nat_le}
use Rattle.std.specs.Bool.{◌==◌}
use Rattle.std.specs.Option.{IfSome}
use Rattle.std.specs.List.{AllByRecursion}
use Rattle.std.proofs.lemmas.Bool.{and_parts, or_parts, not-true, eqb-true}
use Rattle.net_base.specs.declared.names.Key.{Key}
use Rattle.net_base.specs.declared.values.Party.{Party}
use Rattle.net_base.specs.declared.causes.Cause.{Cause}
use Rattle.net_base.specs.declared.causes.Event.{Event}
use Rattle.net_base.specs.declared.causes.Event.TheVariants as event
use Rattle.net_base.proofs.Options.{none_of, some_eq}
use Rattle.net_base.proofs.Lists.{all_find}
use Rattle.session_wire.specs.declared.body.Body.{Body}
use Rattle.session_wire.specs.declared.body.Body.TheVariants as body_of
use Rattle.session_wire.specs.declared.change.SentItem.{SentItem}
use Rattle.session_wire.specs.declared.change.SessionChange.{SessionChange}
use Rattle.session_wire.specs.Sessions.{Session, key_eq, session_of, changed_at, new_session, with_came, opened_on, sent_on, taken_on, is_confirm}
use Rattle.session_wire.specs.Rules.{is_opened_by, direction_in, is_init, is_lawful, is_no_peer, is_new_key, FitsSent, FitsTaken}
use Rattle.session_wire.proofs.Keys.{key_exact}
use Rattle.session_table.specs.Changes.{AnswersFirst as Answered, FitsCame, answered_for, came_on as came_by, FitsOpened as OpensIn, begun_on, IsFitting, changed_by}
use Rattle.transition_record.specs.Causes.{came_key_of}
use Rattle.flow_machine.specs.declared.flows.FlowState.{FlowState}
use Rattle.flow_machine.specs.declared.flows.FlowState.TheVariants.{Live, Ended, Failed}
use Rattle.net_model.specs.Environment.{Environment, party}
use Rattle.net_model.specs.State.{NodeState, FlowPart, no_flow, now_live, now_ended, now_failed, Effect, nothing, flow_of, came_on, sessions_on}
use Rattle.net_model.specs.Enabled.{part_of}
use Rattle.net_model.specs.Sound.{IsNumbered}
use Rattle.net_model.specs.Fits.{FitsEvent, FitsOpened, AnswersBy, AnswersFirst, AcceptsInit, ArrivesAt, IsNewFlow}
use Rattle.flow_records.specs.declared.step.FlowAfter.{FlowAfter}
use Rattle.ledger_types.specs.declared.change.LedgerChange.{LedgerChange}
use Rattle.flow_records.specs.Steps.{part_after, whole_part, effect_by, owner_of}
use Rattle.node_tables.specs.Fits.{begun_by}
use Rattle.node_tables.specs.Seen.{IsSmall}
use Rattle.node_tables.proofs.Small.{found_key}

-- ---- who owns what a step makes

-- a flow that lives keeps its number
abbrev pub IsOwn : {F : Type 0} → FlowAfter F → Type 0
IsOwn after = IsNumbered after.number after.state

part_number : {F : Type 0} (n f : ℕ) (state : FlowState F) → IsNumbered n state → flow_of (part_of n state) ≡ Some f → n ≡ f
part_number n f (Live at) own is = sym own ∙ some_eq is
part_number n f (Ended step class value) own is = some_eq is
part_number n f (Failed step class code) own is = some_eq is

-- the flow that a part names is the owner
pub owner_is : {F : Type 0} (flow : Option (FlowAfter F)) (f : ℕ) → IfSome flow IsOwn → flow_of (part_after flow) ≡ Some f → owner_of flow ≡ f
owner_is None f own is = cc
owner_is (Some after) f own is = part_number after.number f after.state own is

-- ---- an Init that is accepted

by_lawful : {F : Type 0} (f class : ℕ) (flow : FlowPart F) (body : Body) → AnswersBy f class flow body → is_lawful 1 0 body ≡ true
by_lawful f class flow body_of.Confirm h = refl
by_lawful f class flow (body_of.Reject code) h = refl
by_lawful f class flow (body_of.Init c first) h = absurd h
by_lawful f class flow (body_of.Data value) h = absurd h
by_lawful f class flow (body_of.Error code) h = absurd h
by_lawful f class flow body_of.End h = absurd h

first_answered : {F : Type 0} (f : ℕ) (key : Key) (class : ℕ) (flow : FlowPart F) (items : List SentItem) → AnswersFirst f key class flow items → Answered key items
first_answered f key class flow [] h = absurd h
first_answered f key class flow (item ∷ items) h = (h.0, h.1, h.2, by_lawful f class flow item.body h.3)

pub new_flow_of : {F : Type 0} (f class : ℕ) (flow : FlowPart F) → IsNewFlow f class flow → flow_of flow ≡ Some f
new_flow_of f class no_flow h = absurd h
new_flow_of f class (now_live at) h = ap (λ n. Some n) h.0
new_flow_of f class (now_ended flow step c value) h = absurd h
new_flow_of f class (now_failed flow step c code) h = absurd h

-- the flow that owns an answered session
by_owner : {F : Type 0} (owner f class : ℕ) (flow : FlowPart F) (body : Body) → ((n : ℕ) → flow_of flow ≡ Some n → owner ≡ n) → AnswersBy f class flow body → cond (is_confirm body) (Some owner) None ≡ flow_of flow
by_owner owner f class flow body_of.Confirm own h = let is = new_flow_of f class flow h in ap (λ n. Some n) (own f is) ∙ sym is
by_owner {F} owner f class flow (body_of.Reject code) own h = sym (ap (λ (p : FlowPart F). flow_of p) h)
by_owner owner f class flow (body_of.Init c first) own h = absurd h
by_owner owner f class flow (body_of.Data value) own h = absurd h
by_owner owner f class flow (body_of.Error code) own h = absurd h
by_owner owner f class flow body_of.End own h = absurd h

first_owner : {F : Type 0} (owner f : ℕ) (key : Key) (class : ℕ) (flow : FlowPart F) (items : List SentItem) → ((n : ℕ) → flow_of flow ≡ Some n → owner ≡ n) → AnswersFirst f key class flow items → answered_for owner items ≡ flow_of flow
first_owner owner f key class flow [] own h = absurd h
first_owner owner f key class flow (item ∷ items) own h = by_owner owner f class flow item.body own h.3

-- ---- an item that arrives is no Init

init_first : (direction number : ℕ) (body : Body) → is_init body ≡ true → is_lawful direction number body ≡ true → (direction ≡ 0) × (number ≡ 0)
init_first direction number (body_of.Init class first) init h = let p = and_parts (direction == 0) (number == 0) h in (eqb-true direction 0 p.0, eqb-true number 0 p.1)
init_first direction number body_of.Confirm init h = cc
init_first direction number (body_of.Reject code) init h = cc
init_first direction number (body_of.Data value) init h = cc
init_first direction number (body_of.Error code) init h = cc
init_first direction number body_of.End init h = cc

other_side : (b : Bool) (n : ℕ) → n ≡ cond b 1 0 → n ≡ 0 → b ≡ false
other_side true n is h = absurd (omega (arith, is, h))
other_side false n is h = refl

arrived_no_init : {F : Type 0} (me a c : ℕ) (s : NodeState F) (key : Key) (direction number : ℕ) (e : Effect F) (h : ArrivesAt me s key direction number e) → AllByRecursion (IsSmall (party me) a c) s.sessions → is_init h.body ≡ true → ⊥
arrived_no_init me a c s key direction number e h all init =
    let first = init_first direction number h.body init h.lawful in
    let other : is_opened_by (party me) key ≡ false = other_side (is_opened_by (party me) key) direction h.incoming first.0 in
    let small = all_find (IsSmall (party me) a c) (λ x. key_eq key x.key) s.sessions h.session all h.stands in
    let same : key ≡ h.session.key = key_exact key h.session.key (found_key key s.sessions h.session h.stands) in
    let begun = small.begun (subst (λ (k : Key). is_opened_by (party me) k ≡ false) same other) in
    let expected = h.expected in
    let none = first.1 in
    omega (arith, begun, expected, none)

not_init : (body : Body) → (is_init body ≡ true → ⊥) → is_init body ≡ false
not_init (body_of.Init class first) h = absurd (h refl)
not_init body_of.Confirm h = refl
not_init (body_of.Reject code) h = refl
not_init (body_of.Data value) h = refl
not_init (body_of.Error code) h = refl
not_init body_of.End h = refl

-- ---- what is accepted

module _ {F : Type 0} (w : Environment F) (me a c : ℕ) (s : NodeState F) (flow : Option (FlowAfter F)) (change : SessionChange) (led : LedgerChange) (small : AllByRecursion (IsSmall (party me) a c) s.sessions) (own : (n : ℕ) → flow_of (part_after flow) ≡ Some n → change.owner ≡ n) where
  -- no item is accepted
  quiet_came : (o : Option Body) → o ≡ None → FitsCame (party me) s.sessions change None o
  quiet_came None is = tt
  quiet_came (Some body) is = cc

  quiet_by : (o : Option Body) (owner : Option ℕ) → came_by None o owner s.sessions ≡ s.sessions
  quiet_by None owner = refl
  quiet_by (Some body) owner = refl

  -- an Init is
  answer_came : (key : Key) (o : Option Body) → is_new_key w.nodes (party me) s.sessions key ≡ true → AcceptsInit (length s.flows) key (effect_by flow change led) o → FitsCame (party me) s.sessions change (Some key) o
  answer_came key None new h = absurd h
  answer_came key (Some (body_of.Init class first)) new h =
      let p = and_parts (is_none (session_of key s.sessions)) (not (is_no_peer w.nodes (party me) key.initiator)) new in
      let q = or_parts (key.initiator.0 == me) (nat_le w.nodes key.initiator.0) (not-true _ p.1) in
      record { begins = λ init. record { is_new = none_of (session_of key s.sessions) p.0; other = q.0; answered = first_answered (length s.flows) key class (part_after flow) change.sent h }; goes_on = λ no_init. cc }
  answer_came key (Some body_of.Confirm) new h = absurd h
  answer_came key (Some (body_of.Reject code)) new h = absurd h
  answer_came key (Some (body_of.Data value)) new h = absurd h
  answer_came key (Some (body_of.Error code)) new h = absurd h
  answer_came key (Some body_of.End) new h = absurd h

  answer_by : (key : Key) (o : Option Body) → AcceptsInit (length s.flows) key (effect_by flow change led) o → came_by (Some key) o (answered_for change.owner change.sent) s.sessions ≡ s.sessions ++ new_session key key.initiator (flow_of (part_after flow)) (option_to_list o) ∷ []
  answer_by key None h = absurd h
  answer_by key (Some (body_of.Init class first)) h =
      ap (λ (owner : Option ℕ). s.sessions ++ new_session key key.initiator owner (body_of.Init class first ∷ []) ∷ []) (first_owner change.owner (length s.flows) key class (part_after flow) change.sent own h)
  answer_by key (Some body_of.Confirm) h = absurd h
  answer_by key (Some (body_of.Reject code)) h = absurd h
  answer_by key (Some (body_of.Data value)) h = absurd h
  answer_by key (Some (body_of.Error code)) h = absurd h
  answer_by key (Some body_of.End) h = absurd h

  -- an item arrives
  arrive_came : (key : Key) (direction number : ℕ) (h : ArrivesAt me s key direction number (effect_by flow change led)) → FitsCame (party me) s.sessions change (Some key) (Some h.body)
  arrive_came key direction number h =
      let quiet : whole_part change led ≡ record nothing { came = Some h.body } = ap (λ (e : Effect F). e.change) h.alone in
      let other = not_init h.body (arrived_no_init me a c s key direction number (effect_by flow change led) h small) in
      let lawful : is_lawful (direction_in (party me) key) (length h.session.came) h.body ≡ true = subst (λ n. is_lawful (direction_in (party me) key) n h.body ≡ true) h.expected (subst (λ d. is_lawful d number h.body ≡ true) h.incoming h.lawful) in
      record {
        begins = λ init. absurd (arrived_no_init me a c s key direction number (effect_by flow change led) h small init);
        goes_on = λ none. record { session = h.session; stands = h.stands; lawful = lawful; opens_none = ap (λ x. x.opened) quiet; sends_none = ap (λ x. x.sent) quiet; takes_none = ap (λ x. x.taken) quiet };
      }

  arrive_by : (key : Key) (direction number : ℕ) (h : ArrivesAt me s key direction number (effect_by flow change led)) (owner : Option ℕ) → came_by (Some key) (Some h.body) owner s.sessions ≡ changed_at key (with_came (option_to_list (Some h.body))) s.sessions
  arrive_by key direction number h owner =
      let other = not_init h.body (arrived_no_init me a c s key direction number (effect_by flow change led) h small) in
      ap (λ b. cond b (s.sessions ++ new_session key key.initiator owner (h.body ∷ []) ∷ []) (changed_at key (with_came (h.body ∷ [])) s.sessions)) other

  arrive_body : (key : Key) (direction number : ℕ) (h : ArrivesAt me s key direction number (effect_by flow change led)) → change.came ≡ Some h.body
  arrive_body key direction number h = ap (λ (e : Effect F). e.change.came) h.alone

  pub came_fits : (event : Event) → FitsEvent w me s event (effect_by flow change led) → FitsCame (party me) s.sessions change (came_key_of event) change.came
  came_fits (event.Start f class args) h = quiet_came change.came h.2
  came_fits (event.Move f) h = quiet_came change.came h.alone
  came_fits (event.Lapse f) h = quiet_came change.came h.alone
  came_fits (event.Answer key) h = answer_came key change.came h.0 h.1
  came_fits (event.Arrive key direction number) h = subst (λ (o : Option Body). FitsCame (party me) s.sessions change (Some key) o) (sym (arrive_body key direction number h)) (arrive_came key direction number h)

  pub came_same : (event : Event) → FitsEvent w me s event (effect_by flow change led) → came_by (came_key_of event) change.came (answered_for change.owner change.sent) s.sessions ≡ came_on event (option_to_list change.came) (flow_of (part_after flow)) s.sessions
  came_same (event.Start f class args) h = quiet_by change.came (answered_for change.owner change.sent)
  came_same (event.Move f) h = quiet_by change.came (answered_for change.owner change.sent)
  came_same (event.Lapse f) h = quiet_by change.came (answered_for change.owner change.sent)
  came_same (event.Answer key) h = answer_by key change.came h.1
  came_same (event.Arrive key direction number) h =
      subst (λ (o : Option Body). came_by (Some key) o (answered_for change.owner change.sent) s.sessions ≡ changed_at key (with_came (option_to_list o)) s.sessions) (sym (arrive_body key direction number h)) (arrive_by key direction number h (answered_for change.owner change.sent))

  -- ---- what is opened

  opened_same : (later : List Session) (opened : Option (Key × Party)) (ss : List Session) → FitsOpened w me s later (flow_of (part_after flow)) change.sent opened → opened_on opened (Some change.owner) ss ≡ opened_on opened (flow_of (part_after flow)) ss
  opened_same later None ss h = refl
  opened_same later (Some opened) ss h = ap (λ (owner : Option ℕ). ss ++ new_session opened.0 opened.1 owner [] ∷ []) (ap (λ n. Some n) (own h.flow h.owned) ∙ sym h.owned)

  opened_in : (later : List Session) (opened : Option (Key × Party)) → FitsOpened w me s later (flow_of (part_after flow)) change.sent opened → OpensIn (party me) s.sessions change.sent opened
  opened_in later None h = tt
  opened_in later (Some opened) h = h.opens

  module _ (cause : Cause) (key : change.came_key ≡ came_key_of cause.event) (event : FitsEvent w me s cause.event (effect_by flow change led)) (opened : FitsOpened w me s (begun_by cause (effect_by flow change led) s.sessions) (flow_of (part_after flow)) change.sent change.opened) where
    -- the sessions once an item was accepted and a session opened
    pub begun_same : begun_on change s.sessions ≡ begun_by cause (effect_by flow change led) s.sessions
    begun_same =
        let keyed : came_by change.came_key change.came (answered_for change.owner change.sent) s.sessions ≡ came_on cause.event (option_to_list change.came) (flow_of (part_after flow)) s.sessions =
        ap (λ (k : Option Key). came_by k change.came (answered_for change.owner change.sent) s.sessions) key ∙ came_same cause.event event in
        let came = came_on cause.event (option_to_list change.came) (flow_of (part_after flow)) s.sessions in
        ap (λ (ss : List Session). opened_on change.opened (Some change.owner) ss) keyed ∙ opened_same (begun_by cause (effect_by flow change led) s.sessions) change.opened came opened

    -- the sessions after the record are those of the change
    pub sessions_same : changed_by cause.stamp change s.sessions ≡ sessions_on cause (effect_by flow change led) s.sessions
    sessions_same = ap (λ (ss : List Session). taken_on change.taken (sent_on cause.stamp change.sent ss)) begun_same

    -- the change fits
    pub change_fits : (stamp : ℕ) → FitsSent (party me) stamp (begun_by cause (effect_by flow change led) s.sessions) change.sent → FitsTaken s.sessions change.taken → IsFitting (party me) stamp s.sessions change
    change_fits stamp sent taken = record {
      came = subst (λ (k : Option Key). FitsCame (party me) s.sessions change k change.came) (sym key) (came_fits cause.event event);
      opened = opened_in (begun_by cause (effect_by flow change led) s.sessions) change.opened opened;
      sent = subst (λ (ss : List Session). FitsSent (party me) stamp ss change.sent) (sym begun_same) sent;
      taken = taken;
    }

    -- what a change that fits says of what is sent
    pub sent_there : (stamp : ℕ) → IsFitting (party me) stamp s.sessions change → FitsSent (party me) stamp (begun_by cause (effect_by flow change led) s.sessions) change.sent
    sent_there stamp h = subst (λ (ss : List Session). FitsSent (party me) stamp ss change.sent) begun_same h.sent
