-- That the tests of the tables decide whether a record fits.
use Rattle.std.proofs.Common.{◌≡◌, ℕ, ◌+◌, ◌*◌, ◌&&◌, ◌↔◌, List, [], ◌∷◌, ◌++◌, length, option_to_list, Option, Some, None, Bool, true, false, cond, refl, sym, ◌∙◌, ap, subst, arith, nat_lt, nat_le, length-append, IsTrue}
use Rattle.std.specs.Option.{IfSome}
use Rattle.std.proofs.lemmas.Bool.{and_parts, and_from, eq-eqb}
use Rattle.std.proofs.lemmas.List.Elements.{filter-append}
use Rattle.net_base.specs.declared.names.Key.{Key}
use Rattle.net_base.specs.declared.values.Party.{Party}
use Rattle.net_base.specs.declared.causes.Cause.{Cause}
use Rattle.net_base.specs.declared.causes.Event.{Event}
use Rattle.net_base.specs.declared.causes.Event.TheVariants as event
use Rattle.session_wire.specs.declared.body.Body.{Body}
use Rattle.session_wire.specs.declared.change.SessionChange.{SessionChange}
use Rattle.session_wire.specs.Sessions.{Session, key_eq, changed_at, new_session, with_came, opened_on}
use Rattle.session_wire.specs.Rules.{is_owner, sessions_of}
use Rattle.session_table.specs.Changes.{FitsOpened as OpensIn, IsFitting}
use Rattle.ledger_types.specs.declared.change.LedgerChange.{LedgerChange}
use Rattle.node_ledger.specs.Ledgered.{LedgerState}
use Rattle.flow_machine.specs.declared.flows.FlowState.{FlowState}
use Rattle.flow_machine.specs.declared.flows.FlowState.TheVariants.{Live, Ended, Failed}
use Rattle.net_model.specs.Enabled.{part_of}
use Rattle.net_model.specs.Sound.{IsNumbered}
use Rattle.net_model.specs.State.{NodeState, Effect, flow_of, came_on}
use Rattle.flow_records.specs.declared.step.FlowAfter.{FlowAfter}
use Rattle.flow_records.specs.declared.step.Step.{Step}
use Rattle.flow_records.specs.Steps.{part_after, effect_by, step_record, IsStep}
use Rattle.node_tables.specs.Journals.{Reads, state_of, state_with}
use Rattle.node_tables.specs.Fits.{rises, fits_event, opens_next, owns_few, may_open, made_by, fits_opened, fits_ledger, begun_by, fits}
use Rattle.node_tables.specs.Seen.{Keeps}
use Rattle.node_tables.proofs.Linking.{IsOwn, owner_is, change_fits, sent_there}
use Rattle.node_tables.proofs.Ruled.{Parts, parts_of, fits_of, event_to, opened_to, opens_from, sent_from, sent_to, taken_from, taken_to}
use Rattle.node_tables.proofs.Runs.{some_world, own_of}

bool_same : (a b : Bool) → (a ≡ true → b ≡ true) → (b ≡ true → a ≡ true) → a ≡ b
bool_same true b f g = sym (f refl)
bool_same false true f g = g refl
bool_same false false f g = refl

-- ---- how many sessions a flow owns

named_by : {F : Type 0} (n : ℕ) (state : FlowState F) → IsNumbered n state → flow_of (part_of n state) ≡ Some n
named_by n (Live at) own = ap (λ k. Some k) own
named_by n (Ended step class value) own = refl
named_by n (Failed step class code) own = refl

owned_changed : (f : ℕ) (key : Key) (bodies : List Body) (ss : List Session) → length (sessions_of f (changed_at key (with_came bodies) ss)) ≡ length (sessions_of f ss)
owned_changed f key bodies [] = refl
owned_changed f key bodies (s ∷ ss) =
    let rest = owned_changed f key bodies ss in
    let after : List Session = changed_at key (with_came bodies) ss in
    let same : is_owner f (cond (key_eq key s.key) (with_came bodies s) s).owner ≡ is_owner f s.owner = elim (key_eq key s.key) as (λ b. is_owner f (cond b (with_came bodies s) s).owner ≡ is_owner f s.owner) [ true ↦ refl | false ↦ refl ] in
    rw same
    (elim (is_owner f s.owner) as (λ b. length (cond b (cond (key_eq key s.key) (with_came bodies s) s ∷ sessions_of f after) (sessions_of f after)) ≡ length (cond b (s ∷ sessions_of f ss) (sessions_of f ss))) [ true ↦ omega (arith, rest) | false ↦ rest ])

owned_pushed : (f : ℕ) (s : Session) (ss : List Session) → is_owner f s.owner ≡ true → length (sessions_of f (ss ++ s ∷ [])) ≡ length (sessions_of f ss) + 1
owned_pushed f s ss own =
    let last : sessions_of f (s ∷ []) ≡ s ∷ [] = ap (λ b. cond b (s ∷ []) []) own in
    let parts : sessions_of f (ss ++ s ∷ []) ≡ sessions_of f ss ++ s ∷ [] = filter-append (λ x. is_owner f x.owner) ss (s ∷ []) ∙ ap (λ l. sessions_of f ss ++ l) last in
    ap length parts ∙ length-append (sessions_of f ss) (s ∷ [])

owned_came : (f : ℕ) (event : Event) (bodies : List Body) (ss : List Session) → length (sessions_of f (came_on event bodies (Some f) ss)) ≡ length (sessions_of f ss) + made_by event
owned_came f (event.Start n class args) bodies ss = omega arith
owned_came f (event.Move n) bodies ss = omega arith
owned_came f (event.Lapse n) bodies ss = omega arith
owned_came f (event.Answer key) bodies ss = owned_pushed f (new_session key key.initiator (Some f) bodies) ss (eq-eqb f f refl)
owned_came f (event.Arrive key direction number) bodies ss = let same = owned_changed f key bodies ss in omega (arith, same)

-- once the event and an opening made theirs
owned_begun : {F : Type 0} (f : ℕ) (cause : Cause) (e : Effect F) (opened : Key × Party) (ss : List Session) → flow_of e.flow ≡ Some f → length (sessions_of f (opened_on (Some opened) (flow_of e.flow) (came_on cause.event (option_to_list e.change.came) (flow_of e.flow) ss))) ≡ length (sessions_of f ss) + made_by cause.event + 1
owned_begun {F} f cause e opened ss is =
    subst (λ (o : Option ℕ). length (sessions_of f (opened_on (Some opened) o (came_on cause.event (option_to_list e.change.came) o ss))) ≡ length (sessions_of f ss) + made_by cause.event + 1) (sym is)
    (owned_pushed f (new_session opened.0 opened.1 (Some f) []) (came_on cause.event (option_to_list e.change.came) (Some f) ss) (eq-eqb f f refl) ∙ ap (λ n. n + 1) (owned_came f cause.event (option_to_list e.change.came) ss))

-- whether a session may be opened, by what the table of sessions counts
pub owns_is : {F : Type 0} (nodes : ℕ) (cause : Cause) (flow : Option (FlowAfter F)) (change : SessionChange) (led : LedgerChange) (ss : List Session) (opened : Key × Party) (b : Bool) → IfSome flow IsOwn → change.opened ≡ Some opened → (flow ≡ None → b ≡ false)
    → ((after : FlowAfter F) → flow ≡ Some after → b ≡ (nat_lt opened.1.0 nodes && nat_le (length (sessions_of after.number ss) + made_by cause.event + 1) 64)) → b ≡ may_open nodes (begun_by cause (effect_by flow change led) ss) (flow_of (part_after flow)) change.opened
owns_is {F} nodes cause None change led ss opened b own is none some =
    let e : Effect F = effect_by None change led in
    none refl ∙ sym (ap (λ (o : Option (Key × Party)). may_open nodes (begun_by cause e ss) None o) is)
owns_is {F} nodes cause (Some after) change led ss opened b own is none some =
    let e : Effect F = effect_by (Some after) change led in
    let named : flow_of (part_after (Some after)) ≡ Some after.number = named_by after.number after.state own in
    let later = came_on cause.event (option_to_list e.change.came) (flow_of e.flow) ss in
    let count : length (sessions_of after.number (opened_on (Some opened) (flow_of e.flow) later)) ≡ length (sessions_of after.number ss) + made_by cause.event + 1 = owned_begun after.number cause e opened ss named in
    let there : may_open nodes (opened_on (Some opened) (flow_of e.flow) later) (flow_of e.flow) (Some opened) ≡ (nat_lt opened.1.0 nodes && nat_le (length (sessions_of after.number ss) + made_by cause.event + 1) 64) =
    ap (λ (o : Option ℕ). owns_few nodes (opened_on (Some opened) (flow_of e.flow) later) opened.1 o) named ∙ ap (λ n. nat_lt opened.1.0 nodes && nat_le n 64) count in
    some after refl ∙ sym there ∙ sym (ap (λ (o : Option (Key × Party)). may_open nodes (opened_on o (flow_of e.flow) later) (flow_of e.flow) o) is)

-- ---- room

-- ---- an item that arrives

-- ---- the whole

module _ {F : Type 0} (notary : Party) (nodes : ℕ) (me : Party) (f : Reads F) (is_frame : F → Type 0) (bodies : List (List ℕ)) (causes : List Cause) (l : LedgerState) (flows : List (FlowState F)) (ss : List Session) (stamp moment : ℕ) (step : Step F) (kept : Keeps me f is_frame bodies causes l flows ss stamp moment) (limits : IsStep is_frame step) where
  abbrev pub here : NodeState F
  here = state_with l flows ss stamp moment

  abbrev pub effect : Effect F
  effect = effect_by step.flow step.session step.ledger

  -- that all five tests hold
  abbrev pub all_hold : Bool → Bool → Bool → Bool → Bool → Bool
  all_hold a b c d e = a && (b && (c && (d && e)))

  owned : (n : ℕ) → flow_of (part_after step.flow) ≡ Some n → step.session.owner ≡ n
  owned n is = limits.2.1.0 ∙ owner_is step.flow n (own_of is_frame step.flow limits.1) is

  opens_both : (later : List Session) (owner : Option ℕ) (opened : Option (Key × Party)) → may_open nodes later owner opened ≡ true → OpensIn me ss step.session.sent opened → fits_opened nodes me ss later owner step.session.sent opened ≡ true
  opens_both later owner None few next = refl
  opens_both later owner (Some opened) few next = and_from _ _ (opens_from me ss step.session.sent opened.0 opened.1 next) few

  may_from : (later : List Session) (owner : Option ℕ) (opened : Option (Key × Party)) → fits_opened nodes me ss later owner step.session.sent opened ≡ true → may_open nodes later owner opened ≡ true
  may_from later owner None h = refl
  may_from later owner (Some opened) h = (and_parts (opens_next me ss step.session.sent opened.0 opened.1) (owns_few nodes later opened.1 owner) h).1

  abbrev later : List Session
  later = begun_by step.cause effect ss

  -- the tests that the tables make decide
  to_fits : (b c d : Bool) → rises here step.cause ≡ true → fits_event nodes me here step.cause.event effect ≡ true → may_open nodes later (flow_of (part_after step.flow)) step.session.opened ≡ true → IsFitting me step.cause.stamp ss step.session → fits_ledger notary me here effect.change ≡ true → fits notary nodes me here (step_record step) ≡ true
  to_fits b c d order event few fitting ledger =
      let opened = opens_both later (flow_of (part_after step.flow)) step.session.opened few fitting.opened in
      let on = event_to (some_world notary nodes) me.0 here step.cause.event effect event in
      let opens = opened_to (some_world notary nodes) me.0 here later (flow_of (part_after step.flow)) step.session.sent step.session.opened opened in
      let sent = sent_there (some_world notary nodes) me.0 (255 * length bodies) (length bodies) here step.flow step.session step.ledger kept.small owned step.cause limits.2.1.1 on opens step.cause.stamp fitting in
      fits_of notary nodes me here step.cause effect (record { in_order = order; event = event; opened = opened; sent = sent_from me step.cause.stamp later step.session.sent sent; taken = taken_from ss step.session.taken fitting.taken; ledger = ledger })

  fitting_of : Parts notary nodes me here step.cause effect → IsFitting me step.cause.stamp ss step.session
  fitting_of p =
      let on = event_to (some_world notary nodes) me.0 here step.cause.event effect p.event in
      let opens = opened_to (some_world notary nodes) me.0 here later (flow_of (part_after step.flow)) step.session.sent step.session.opened p.opened in
      change_fits (some_world notary nodes) me.0 (255 * length bodies) (length bodies) here step.flow step.session step.ledger kept.small owned step.cause limits.2.1.1 on opens step.cause.stamp (sent_to me step.cause.stamp later step.session.sent p.sent) (taken_to ss step.session.taken p.taken)

  decided : (a b c d k : Bool) → a ≡ rises here step.cause → b ≡ fits_event nodes me here step.cause.event effect → c ≡ may_open nodes later (flow_of (part_after step.flow)) step.session.opened → (IsTrue d ↔ IsFitting me step.cause.stamp ss step.session) → k ≡ fits_ledger notary me here effect.change → all_hold a b c d k ≡ fits notary nodes me here (step_record step)
  decided a b c d k order event few fitting ledger =
      bool_same (all_hold a b c d k) (fits notary nodes me here (step_record step))
      (λ h. let p = and_parts a (b && (c && (d && k))) h in let q = and_parts b (c && (d && k)) p.1 in let r = and_parts c (d && k) q.1 in let t = and_parts d k r.1 in to_fits b c d (sym order ∙ p.0) (sym event ∙ q.0) (sym few ∙ r.0) (fitting.0 t.0) (sym ledger ∙ t.1))
      (λ h. let p = parts_of notary nodes me here step.cause effect h in
      and_from _ _ (order ∙ p.in_order) (and_from _ _ (event ∙ p.event) (and_from _ _ (few ∙ may_from later (flow_of (part_after step.flow)) step.session.opened p.opened) (and_from _ _ (fitting.1 (fitting_of p)) (ledger ∙ p.ledger)))))

  pub fits_is : (a b c d k : Bool) → a ≡ rises here step.cause → b ≡ fits_event nodes me (state_of f bodies) step.cause.event effect → c ≡ may_open nodes (begun_by step.cause effect (state_of f bodies).sessions) (flow_of (part_after step.flow)) step.session.opened → (IsTrue d ↔ IsFitting me step.cause.stamp ss step.session) → k ≡ fits_ledger notary me here effect.change
      → all_hold a b c d k ≡ fits notary nodes me (state_of f bodies) (step_record step)
  fits_is a b c d k order event few fitting ledger = subst (λ (s : NodeState F). b ≡ fits_event nodes me s step.cause.event effect → c ≡ may_open nodes (begun_by step.cause effect s.sessions) (flow_of (part_after step.flow)) step.session.opened → all_hold a b c d k ≡ fits notary nodes me s (step_record step)) (sym kept.state) (λ x y. decided a b c d k order x y fitting ledger) event few

  -- where the cause is out of order, and where the event's part fails
  pub not_in_order : false ≡ rises here step.cause → false ≡ fits notary nodes me (state_of f bodies) (step_record step)
  not_in_order order = subst (λ (s : NodeState F). false ≡ fits notary nodes me s (step_record step)) (sym kept.state) (sym (bool_same (fits notary nodes me here (step_record step)) false (λ h. order ∙ (parts_of notary nodes me here step.cause effect h).in_order) (λ h. absurd cc)))

  pub not_by_event : false ≡ fits_event nodes me (state_of f bodies) step.cause.event effect → false ≡ fits notary nodes me (state_of f bodies) (step_record step)
  not_by_event event = sym (bool_same (fits notary nodes me (state_of f bodies) (step_record step)) false (λ h. event ∙ (parts_of notary nodes me (state_of f bodies) step.cause effect h).event) (λ h. absurd cc))

  pub not_opened : false ≡ may_open nodes (begun_by step.cause effect (state_of f bodies).sessions) (flow_of (part_after step.flow)) step.session.opened → false ≡ fits notary nodes me (state_of f bodies) (step_record step)
  not_opened few = subst (λ (s : NodeState F). false ≡ may_open nodes (begun_by step.cause effect s.sessions) (flow_of (part_after step.flow)) step.session.opened → false ≡ fits notary nodes me s (step_record step)) (sym kept.state) (λ k. sym (bool_same (fits notary nodes me here (step_record step)) false (λ h. k ∙ may_from later (flow_of (part_after step.flow)) step.session.opened (parts_of notary nodes me here step.cause effect h).opened) (λ h. absurd cc))) few
