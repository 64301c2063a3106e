-- A record fits exactly where the machine's rules say so.
use Rattle.std.proofs.Common.{◌≡◌, ℕ, ◌+◌, ◌^◌, ◌&&◌, List, [], ◌∷◌, ◌++◌, length, find, is_some, Option, Some, None, true, false, refl, sym, ap, subst, nat_lt, nat_le, not, option_to_list, is_none}
use Rattle.std.specs.Bool.{◌==◌}
use Rattle.std.specs.List.{list_any, list_all}
use Rattle.std.proofs.lemmas.Bool.{ltb-true, leb-true, eqb-true, and_parts, and_from, lt-ltb, le-leb, eq-eqb, not-true, not_from_false}
use Rattle.net_base.specs.declared.names.Key.{Key}
use Rattle.net_base.specs.declared.values.Party.{Party}
use Rattle.net_base.specs.declared.causes.Cause.{Cause}
use Rattle.net_base.specs.declared.causes.Event.{Event}
use Rattle.net_base.specs.declared.causes.Event.TheVariants as event
use Rattle.net_base.proofs.Lists.{no_items}
use Rattle.net_base.proofs.Options.{none_of}
use Rattle.session_wire.specs.declared.body.Body.{Body}
use Rattle.session_wire.specs.declared.body.Body.TheVariants as body_of
use Rattle.session_wire.specs.declared.change.SentItem.{SentItem}
use Rattle.session_wire.specs.Sessions.{Session, key_eq, session_of, changed_at, with_sent}
use Rattle.session_wire.specs.Rules.{direction_in, direction_out, next_key, is_new_key, is_lawful, is_init_of, sessions_of, OpensNext, Continues, FitsSent, TakesUpTo, FitsTaken}
use Rattle.session_wire.proofs.Keys.{key_exact, key_same}
use Rattle.ledger_types.specs.declared.notary.Entry.{Entry}
use Rattle.ledger_types.specs.Names.{party_eq, ref_eq, has_repeat}
use Rattle.ledger_types.specs.Notary.{repeats}
use Rattle.ledger_types.specs.Stores.{may_record, untagged}
use Rattle.ledger_types.specs.Vaults.{vault_of, has_coin}
use Rattle.ledger_tables.specs.Ledgers.{may_book}
use Rattle.flow_machine.specs.declared.flows.Checkpoint.{Checkpoint}
use Rattle.net_model.specs.Environment.{Environment, party}
use Rattle.net_model.specs.State.{NodeState, FlowPart, no_flow, now_live, now_ended, now_failed, Change, Effect, nothing, with_ids, flow_of}
use Rattle.net_model.specs.Steps.{live_at}
use Rattle.net_model.specs.Fits.{Fits, FitsEvent, FitsOpened, FitsBooked, IsNewFlow, IsNextOf, GoesOn, AnswersBy, AnswersFirst, AcceptsInit, ArrivesAt}
use Rattle.flow_records.specs.Alone.{leaves_ledger}
use Rattle.node_tables.specs.Fits.{rises, is_no_flow, is_new_flow, is_next_of, goes_on, answers_by, answers_first, accepts_init, is_lawful_item, only_accepts, arrives_in, fits_event, opens_next, owns_few, fits_opened, continues_in, fits_sent, takes_up_to, fits_taken, fits_sessions, fits_ledger, begun_by, fits, FitsAsRuled}
use Rattle.node_tables.proofs.Keys.{none_from}

-- ---- flows

new_from : {F : Type 0} (f class : ℕ) (part : FlowPart F) → IsNewFlow f class part → is_new_flow f class part ≡ true
new_from f class no_flow h = absurd h
new_from f class (now_live at) h = and_from _ _ (eq-eqb at.flow f h.0) (and_from _ _ (eq-eqb at.step 0 h.1) (eq-eqb at.class class h.2))
new_from f class (now_ended flow now of value) h = absurd h
new_from f class (now_failed flow now of code) h = absurd h

next_from : {F : Type 0} (f step class : ℕ) (part : FlowPart F) → IsNextOf f step class part → is_next_of f step class part ≡ true
next_from f step class no_flow h = absurd h
next_from f step class (now_live at) h = and_from _ _ (eq-eqb at.flow f h.0) (and_from _ _ (eq-eqb at.step (step + 1) h.1) (eq-eqb at.class class h.2))
next_from f step class (now_ended flow now of value) h = and_from _ _ (eq-eqb flow f h.0) (and_from _ _ (eq-eqb now (step + 1) h.1) (eq-eqb of class h.2))
next_from f step class (now_failed flow now of code) h = and_from _ _ (eq-eqb flow f h.0) (and_from _ _ (eq-eqb now (step + 1) h.1) (eq-eqb of class h.2))

pub new_to : {F : Type 0} (f class : ℕ) (part : FlowPart F) → is_new_flow f class part ≡ true → IsNewFlow f class part
new_to f class no_flow h = cc
new_to f class (now_live at) h =
    let p = and_parts (at.flow == f) ((at.step == 0) && (at.class == class)) h in
    let q = and_parts (at.step == 0) (at.class == class) p.1 in
    (eqb-true at.flow f p.0, eqb-true at.step 0 q.0, eqb-true at.class class q.1)
new_to f class (now_ended flow now of value) h = cc
new_to f class (now_failed flow now of code) h = cc

pub next_to : {F : Type 0} (f step class : ℕ) (part : FlowPart F) → is_next_of f step class part ≡ true → IsNextOf f step class part
next_to f step class no_flow h = cc
next_to f step class (now_live at) h =
    let p = and_parts (at.flow == f) ((at.step == step + 1) && (at.class == class)) h in
    let q = and_parts (at.step == step + 1) (at.class == class) p.1 in
    (eqb-true at.flow f p.0, eqb-true at.step (step + 1) q.0, eqb-true at.class class q.1)
next_to f step class (now_ended flow now of value) h =
    let p = and_parts (flow == f) ((now == step + 1) && (of == class)) h in
    let q = and_parts (now == step + 1) (of == class) p.1 in
    (eqb-true flow f p.0, eqb-true now (step + 1) q.0, eqb-true of class q.1)
next_to f step class (now_failed flow now of code) h =
    let p = and_parts (flow == f) ((now == step + 1) && (of == class)) h in
    let q = and_parts (now == step + 1) (of == class) p.1 in
    (eqb-true flow f p.0, eqb-true now (step + 1) q.0, eqb-true of class q.1)

no_flow_from : {F : Type 0} (part : FlowPart F) → part ≡ no_flow → is_no_flow part ≡ true
no_flow_from {F} part h = subst (λ (p : FlowPart F). is_no_flow p ≡ true) (sym h) refl

pub no_flow_to : {F : Type 0} (part : FlowPart F) → is_no_flow part ≡ true → part ≡ no_flow
no_flow_to no_flow h = refl
no_flow_to (now_live at) h = cc
no_flow_to (now_ended flow now of value) h = cc
no_flow_to (now_failed flow now of code) h = cc

-- ---- an Init

by_from : {F : Type 0} (f class : ℕ) (flow : FlowPart F) (body : Body) → AnswersBy f class flow body → answers_by f class flow body ≡ true
by_from f class flow body_of.Confirm h = new_from f class flow h
by_from f class flow (body_of.Reject code) h = no_flow_from flow h
by_from f class flow (body_of.Init c first) h = absurd h
by_from f class flow (body_of.Data value) h = absurd h
by_from f class flow (body_of.Error code) h = absurd h
by_from f class flow body_of.End h = absurd h

by_to : {F : Type 0} (f class : ℕ) (flow : FlowPart F) (body : Body) → answers_by f class flow body ≡ true → AnswersBy f class flow body
by_to f class flow body_of.Confirm h = new_to f class flow h
by_to f class flow (body_of.Reject code) h = no_flow_to flow h
by_to f class flow (body_of.Init c first) h = cc
by_to f class flow (body_of.Data value) h = cc
by_to f class flow (body_of.Error code) h = cc
by_to f class flow body_of.End h = cc

first_from : {F : Type 0} (f : ℕ) (key : Key) (class : ℕ) (flow : FlowPart F) (items : List SentItem) → AnswersFirst f key class flow items → answers_first f key class flow items ≡ true
first_from f key class flow [] h = absurd h
first_from f key class flow (item ∷ items) h = and_from _ _ (subst (λ (k : Key). key_eq item.key k ≡ true) h.0 (key_same item.key)) (and_from _ _ (eq-eqb item.direction 1 h.1) (and_from _ _ (eq-eqb item.seq 0 h.2) (by_from f class flow item.body h.3)))

first_to : {F : Type 0} (f : ℕ) (key : Key) (class : ℕ) (flow : FlowPart F) (items : List SentItem) → answers_first f key class flow items ≡ true → AnswersFirst f key class flow items
first_to f key class flow [] h = cc
first_to f key class flow (item ∷ items) h =
    let p = and_parts (key_eq item.key key) ((item.direction == 1) && ((item.seq == 0) && answers_by f class flow item.body)) h in
    let q = and_parts (item.direction == 1) ((item.seq == 0) && answers_by f class flow item.body) p.1 in
    let r = and_parts (item.seq == 0) (answers_by f class flow item.body) q.1 in
    (key_exact item.key key p.0, eqb-true item.direction 1 q.0, eqb-true item.seq 0 r.0, by_to f class flow item.body r.1)

init_from : {F : Type 0} (f : ℕ) (key : Key) (e : Effect F) (came : Option Body) → AcceptsInit f key e came → accepts_init f key e.flow e.change.sent came ≡ true
init_from f key e None h = absurd h
init_from f key e (Some (body_of.Init class first)) h = first_from f key class e.flow e.change.sent h
init_from f key e (Some body_of.Confirm) h = absurd h
init_from f key e (Some (body_of.Reject code)) h = absurd h
init_from f key e (Some (body_of.Data value)) h = absurd h
init_from f key e (Some (body_of.Error code)) h = absurd h
init_from f key e (Some body_of.End) h = absurd h

init_to : {F : Type 0} (f : ℕ) (key : Key) (e : Effect F) (came : Option Body) → accepts_init f key e.flow e.change.sent came ≡ true → AcceptsInit f key e came
init_to f key e None h = cc
init_to f key e (Some (body_of.Init class first)) h = first_to f key class e.flow e.change.sent h
init_to f key e (Some body_of.Confirm) h = cc
init_to f key e (Some (body_of.Reject code)) h = cc
init_to f key e (Some (body_of.Data value)) h = cc
init_to f key e (Some (body_of.Error code)) h = cc
init_to f key e (Some body_of.End) h = cc

-- ---- an item that arrives

-- what an effect is that accepts an item alone
pub accepted_alone : {F : Type 0} (e : Effect F) (body : Body) → only_accepts e ≡ true → e.change.came ≡ Some body → e ≡ record { flow = no_flow; change = record nothing { came = Some body } }
accepted_alone e body only came =
    let c = e.change in
    let p = and_parts (is_no_flow e.flow) (is_none c.opened && ((length c.sent == 0) && (is_none c.taken && leaves_ledger c))) only in
    let q = and_parts (is_none c.opened) ((length c.sent == 0) && (is_none c.taken && leaves_ledger c)) p.1 in
    let r = and_parts (length c.sent == 0) (is_none c.taken && leaves_ledger c) q.1 in
    let t = and_parts (is_none c.taken) (leaves_ledger c) r.1 in
    let l = and_parts (is_none c.recorded) ((length c.locked == 0) && is_none c.booked) t.1 in
    let m = and_parts (length c.locked == 0) (is_none c.booked) l.1 in
    let flow = no_flow_to e.flow p.0 in
    let opened = none_of c.opened q.0 in
    let sent = no_items c.sent r.0 in
    let taken = none_of c.taken t.0 in
    let recorded = none_of c.recorded l.0 in
    let locked = no_items c.locked m.0 in
    let booked = none_of c.booked m.1 in
    λ i. record { flow = flow i; change = record { opened = opened i; sent = sent i; came = came i; taken = taken i; recorded = recorded i; locked = locked i; booked = booked i } }

arrives_from : {F : Type 0} (me : ℕ) (s : NodeState F) (key : Key) (direction number : ℕ) (e : Effect F) → ArrivesAt me s key direction number e → arrives_in (party me) key direction number e (session_of key s.sessions) ≡ true
arrives_from {F} me s key direction number e h =
    let came : e.change.came ≡ Some h.body = ap (λ (x : Effect F). x.change.came) h.alone in
    let lawful = subst (λ (o : Option Body). is_lawful_item direction number o ≡ true) (sym came) h.lawful in
    let only = subst (λ (x : Effect F). only_accepts x ≡ true) (sym h.alone) refl in
    subst (λ (o : Option Session). arrives_in (party me) key direction number e o ≡ true) (sym h.stands) (and_from _ _ (eq-eqb direction (direction_in (party me) key) h.incoming) (and_from _ _ (eq-eqb number (length h.session.came) h.expected) (and_from _ _ lawful only)))

lawful_to : {F : Type 0} (me : ℕ) (s : NodeState F) (key : Key) (direction number : ℕ) (e : Effect F) (session : Session) (o : Option Body) → session_of key s.sessions ≡ Some session → direction ≡ direction_in (party me) key → number ≡ length session.came → e.change.came ≡ o → is_lawful_item direction number o ≡ true
    → only_accepts e ≡ true → ArrivesAt me s key direction number e
lawful_to me s key direction number e session None stands incoming expected came lawful only = cc
lawful_to me s key direction number e session (Some body) stands incoming expected came lawful only =
    record { session = session; stands = stands; incoming = incoming; expected = expected; body = body; lawful = lawful; alone = accepted_alone e body only came }

arrives_to : {F : Type 0} (me : ℕ) (s : NodeState F) (key : Key) (direction number : ℕ) (e : Effect F) (o : Option Session) → session_of key s.sessions ≡ o → arrives_in (party me) key direction number e o ≡ true → ArrivesAt me s key direction number e
arrives_to me s key direction number e None is h = cc
arrives_to me s key direction number e (Some session) is h =
    let p = and_parts (direction == direction_in (party me) key) ((number == length session.came) && (is_lawful_item direction number e.change.came && only_accepts e)) h in
    let q = and_parts (number == length session.came) (is_lawful_item direction number e.change.came && only_accepts e) p.1 in
    let r = and_parts (is_lawful_item direction number e.change.came) (only_accepts e) q.1 in
    lawful_to me s key direction number e session e.change.came is (eqb-true direction (direction_in (party me) key) p.0) (eqb-true number (length session.came) q.0) refl r.0 r.1

-- ---- events

goes_from : {F : Type 0} (s : NodeState F) (f : ℕ) (e : Effect F) → GoesOn s f e → (goes_on f (live_at s f) e.flow && is_none e.change.came) ≡ true
goes_from {F} s f e h = and_from _ _ (subst (λ (o : Option (Checkpoint F)). goes_on f o e.flow ≡ true) (sym h.live) (next_from f h.at.step h.at.class e.flow h.next)) (none_from e.change.came h.alone)

goes_to : {F : Type 0} (s : NodeState F) (f : ℕ) (e : Effect F) (o : Option (Checkpoint F)) → live_at s f ≡ o → (goes_on f o e.flow && is_none e.change.came) ≡ true → GoesOn s f e
goes_to s f e None is h = cc
goes_to s f e (Some at) is h =
    let p = and_parts (is_next_of f at.step at.class e.flow) (is_none e.change.came) h in
    record { at = at; live = is; next = next_to f at.step at.class e.flow p.0; alone = none_of e.change.came p.1 }

event_from : {F : Type 0} (w : Environment F) (me : ℕ) (s : NodeState F) (event : Event) (e : Effect F) → FitsEvent w me s event e → fits_event w.nodes (party me) s event e ≡ true
event_from w me s (event.Start f class args) e h = and_from _ _ (eq-eqb f (length s.flows) h.0) (and_from _ _ (new_from f class e.flow h.1) (none_from e.change.came h.2))
event_from w me s (event.Answer key) e h = and_from _ _ h.0 (init_from (length s.flows) key e e.change.came h.1)
event_from w me s (event.Arrive key direction number) e h = arrives_from me s key direction number e h
event_from w me s (event.Move f) e h = goes_from s f e h
event_from w me s (event.Lapse f) e h = goes_from s f e h

pub event_to : {F : Type 0} (w : Environment F) (me : ℕ) (s : NodeState F) (event : Event) (e : Effect F) → fits_event w.nodes (party me) s event e ≡ true → FitsEvent w me s event e
event_to w me s (event.Start f class args) e h =
    let p = and_parts (f == length s.flows) (is_new_flow f class e.flow && is_none e.change.came) h in
    let q = and_parts (is_new_flow f class e.flow) (is_none e.change.came) p.1 in
    (eqb-true f (length s.flows) p.0, new_to f class e.flow q.0, none_of e.change.came q.1)
event_to w me s (event.Answer key) e h =
    let p = and_parts (is_new_key w.nodes (party me) s.sessions key) (accepts_init (length s.flows) key e.flow e.change.sent e.change.came) h in
    (p.0, init_to (length s.flows) key e e.change.came p.1)
event_to w me s (event.Arrive key direction number) e h = arrives_to me s key direction number e (session_of key s.sessions) refl h
event_to w me s (event.Move f) e h = goes_to s f e (live_at s f) refl h
event_to w me s (event.Lapse f) e h = goes_to s f e (live_at s f) refl h

-- ---- sessions

-- what is said of the next session
pub opens_to : (me : Party) (sessions : List Session) (sent : List SentItem) (key : Key) (peer : Party) → opens_next me sessions sent key peer ≡ true → OpensNext me sessions sent key peer
opens_to me sessions sent key peer h =
    let q = and_parts (key_eq key (next_key me sessions)) (not (peer.0 == me.0) && list_any (is_init_of key) sent) h in
    let r = and_parts (not (peer.0 == me.0)) (list_any (is_init_of key) sent) q.1 in
    record { next = key_exact key (next_key me sessions) q.0; other = not-true _ r.0; init = r.1 }

pub opens_from : (me : Party) (sessions : List Session) (sent : List SentItem) (key : Key) (peer : Party) → OpensNext me sessions sent key peer → opens_next me sessions sent key peer ≡ true
opens_from me sessions sent key peer h =
    let next = subst (λ (k : Key). key_eq key k ≡ true) h.next (key_same key) in
    and_from _ _ next (and_from _ _ (not_from_false _ h.other) h.init)

opened_from : {F : Type 0} (w : Environment F) (me : ℕ) (s : NodeState F) (later : List Session) (owner : Option ℕ) (sent : List SentItem) (opened : Option (Key × Party)) → FitsOpened w me s later owner sent opened → fits_opened w.nodes (party me) s.sessions later owner sent opened ≡ true
opened_from w me s later owner sent None h = refl
opened_from w me s later owner sent (Some opened) h =
    let few = subst (λ (o : Option ℕ). owns_few w.nodes later opened.1 o ≡ true) (sym h.owned) (and_from _ _ h.there (le-leb (length (sessions_of h.flow later)) 64 h.few)) in
    and_from _ _ (opens_from (party me) s.sessions sent opened.0 opened.1 h.opens) few

owned_to : {F : Type 0} (w : Environment F) (me : ℕ) (s : NodeState F) (later : List Session) (owner o : Option ℕ) (sent : List SentItem) (opened : Key × Party) → owner ≡ o → opens_next (party me) s.sessions sent opened.0 opened.1 ≡ true → owns_few w.nodes later opened.1 o ≡ true → FitsOpened w me s later owner sent (Some opened)
owned_to w me s later owner None sent opened is next few = cc
owned_to w me s later owner (Some flow) sent opened is next few =
    let t = and_parts (nat_lt opened.1.0 w.nodes) (nat_le (length (sessions_of flow later)) 64) few in
    record { flow = flow; owned = is; opens = opens_to (party me) s.sessions sent opened.0 opened.1 next; there = t.0; few = leb-true (length (sessions_of flow later)) 64 t.1 }

pub opened_to : {F : Type 0} (w : Environment F) (me : ℕ) (s : NodeState F) (later : List Session) (owner : Option ℕ) (sent : List SentItem) (opened : Option (Key × Party)) → fits_opened w.nodes (party me) s.sessions later owner sent opened ≡ true → FitsOpened w me s later owner sent opened
opened_to w me s later owner sent None h = tt
opened_to w me s later owner sent (Some opened) h =
    let p = and_parts (opens_next (party me) s.sessions sent opened.0 opened.1) (owns_few w.nodes later opened.1 owner) h in
    owned_to w me s later owner owner sent opened refl p.0 p.1

continues_from : (me : Party) (item : SentItem) (sessions : List Session) → Continues me item sessions → continues_in me item (session_of item.key sessions) ≡ true
continues_from me item sessions h =
    subst (λ (o : Option Session). continues_in me item o ≡ true) (sym h.stands) (and_from _ _ (eq-eqb item.direction (direction_out me item.key) h.outgoing) (and_from _ _ (eq-eqb item.seq (length h.session.sent) h.next) h.lawful))

continues_to : (me : Party) (item : SentItem) (sessions : List Session) (o : Option Session) → session_of item.key sessions ≡ o → continues_in me item o ≡ true → Continues me item sessions
continues_to me item sessions None is h = cc
continues_to me item sessions (Some session) is h =
    let p = and_parts (item.direction == direction_out me item.key) ((item.seq == length session.sent) && is_lawful item.direction item.seq item.body) h in
    let q = and_parts (item.seq == length session.sent) (is_lawful item.direction item.seq item.body) p.1 in
    record { session = session; stands = is; outgoing = eqb-true item.direction (direction_out me item.key) p.0; next = eqb-true item.seq (length session.sent) q.0; lawful = q.1 }

pub sent_from : (me : Party) (stamp : ℕ) (sessions : List Session) (items : List SentItem) → FitsSent me stamp sessions items → fits_sent me stamp sessions items ≡ true
sent_from me stamp sessions [] h = refl
sent_from me stamp sessions (item ∷ items) h = and_from _ _ (continues_from me item sessions h.0) (sent_from me stamp (changed_at item.key (with_sent (record { body = item.body; stamp = stamp })) sessions) items h.1)

pub sent_to : (me : Party) (stamp : ℕ) (sessions : List Session) (items : List SentItem) → fits_sent me stamp sessions items ≡ true → FitsSent me stamp sessions items
sent_to me stamp sessions [] h = tt
sent_to me stamp sessions (item ∷ items) h =
    let after = changed_at item.key (with_sent (record { body = item.body; stamp = stamp })) sessions in
    let p = and_parts (continues_in me item (session_of item.key sessions)) (fits_sent me stamp after items) h in
    (continues_to me item sessions (session_of item.key sessions) refl p.0, sent_to me stamp after items p.1)

pub taken_from : (sessions : List Session) (taken : Option (Key × ℕ)) → FitsTaken sessions taken → fits_taken sessions taken ≡ true
taken_from sessions None h = refl
taken_from sessions (Some taken) h = subst (λ (o : Option Session). takes_up_to taken.1 o ≡ true) (sym h.stands) (and_from _ _ (le-leb h.session.taken taken.1 h.above) (le-leb taken.1 (length h.session.came) h.below))

takes_to : (sessions : List Session) (key : Key) (n : ℕ) (o : Option Session) → session_of key sessions ≡ o → takes_up_to n o ≡ true → TakesUpTo sessions key n
takes_to sessions key n None is h = cc
takes_to sessions key n (Some session) is h =
    let p = and_parts (nat_le session.taken n) (nat_le n (length session.came)) h in
    record { session = session; stands = is; above = leb-true session.taken n p.0; below = leb-true n (length session.came) p.1 }

pub taken_to : (sessions : List Session) (taken : Option (Key × ℕ)) → fits_taken sessions taken ≡ true → FitsTaken sessions taken
taken_to sessions None h = tt
taken_to sessions (Some taken) h = takes_to sessions taken.0 taken.1 (session_of taken.0 sessions) refl h

-- ---- the ledger

none_is : {X : Type 0} (o : Option X) → is_some o ≡ false → o ≡ None
none_is None e = refl
none_is (Some x) e = cc

booked_to : {F : Type 0} (w : Environment F) (me : ℕ) (entries : List Entry) (booked : Option Entry) → may_book (party me) w.notary entries booked ≡ true → FitsBooked w me entries booked
booked_to w me entries None h = tt
booked_to w me entries (Some e) h =
    let p = and_parts (party_eq (party me) w.notary) (not (is_some (find (repeats e.request) entries))) h in
    (p.0, none_is (find (repeats e.request) entries) (not-true _ p.1))

booked_from : {F : Type 0} (w : Environment F) (me : ℕ) (entries : List Entry) (booked : Option Entry) → FitsBooked w me entries booked → may_book (party me) w.notary entries booked ≡ true
booked_from w me entries None h = refl
booked_from w me entries (Some e) h = and_from _ _ h.0 (ap (λ (o : Option Entry). not (is_some o)) h.1)

-- what is said of the ledger of a record
pub record LedgerParts {F : Type 0} (notary me : Party) (s : NodeState F) (c : Change) : Type 0 where
  pub recorded : may_record (with_ids s.stored) c.recorded ≡ true
  pub coins : list_all (has_coin (vault_of me (untagged (with_ids (s.stored ++ option_to_list c.recorded))) s.locked)) c.locked ≡ true
  pub once : has_repeat ref_eq c.locked ≡ false
  pub booked : may_book me notary s.entries c.booked ≡ true

pub ledger_parts : {F : Type 0} (notary me : Party) (s : NodeState F) (c : Change) → fits_ledger notary me s c ≡ true → LedgerParts notary me s c
ledger_parts notary me s c h =
    let coins = list_all (has_coin (vault_of me (untagged (with_ids (s.stored ++ option_to_list c.recorded))) s.locked)) c.locked in
    let p = and_parts (may_record (with_ids s.stored) c.recorded) ((coins && not (has_repeat ref_eq c.locked)) && may_book me notary s.entries c.booked) h in
    let q = and_parts (coins && not (has_repeat ref_eq c.locked)) (may_book me notary s.entries c.booked) p.1 in
    let r = and_parts coins (not (has_repeat ref_eq c.locked)) q.0 in
    record { recorded = p.0; coins = r.0; once = not-true _ r.1; booked = q.1 }

-- ---- records

-- which tests of a record hold
pub record Parts {F : Type 0} (notary : Party) (nodes : ℕ) (me : Party) (s : NodeState F) (cause : Cause) (e : Effect F) : Type 0 where
  pub in_order : rises s cause ≡ true
  pub event : fits_event nodes me s cause.event e ≡ true
  pub opened : fits_opened nodes me s.sessions (begun_by cause e s.sessions) (flow_of e.flow) e.change.sent e.change.opened ≡ true
  pub sent : fits_sent me cause.stamp (begun_by cause e s.sessions) e.change.sent ≡ true
  pub taken : fits_taken s.sessions e.change.taken ≡ true
  pub ledger : fits_ledger notary me s e.change ≡ true

pub parts_of : {F : Type 0} (notary : Party) (nodes : ℕ) (me : Party) (s : NodeState F) (cause : Cause) (e : Effect F) → fits notary nodes me s (record { cause = cause; effect = e }) ≡ true → Parts notary nodes me s cause e
unfolding fits
parts_of notary nodes me s cause e h =
    let later = begun_by cause e s.sessions in
    let sessions = fits_sessions nodes me s.sessions later cause.stamp (flow_of e.flow) e.change in
    let ledger = fits_ledger notary me s e.change in
    let q = and_parts (rises s cause) (fits_event nodes me s cause.event e && (sessions && ledger)) h in
    let r = and_parts (fits_event nodes me s cause.event e) (sessions && ledger) q.1 in
    let v = and_parts sessions ledger r.1 in
    let t = and_parts (fits_opened nodes me s.sessions later (flow_of e.flow) e.change.sent e.change.opened) (fits_sent me cause.stamp later e.change.sent && fits_taken s.sessions e.change.taken) v.0 in
    let u = and_parts (fits_sent me cause.stamp later e.change.sent) (fits_taken s.sessions e.change.taken) t.1 in
    record { in_order = q.0; event = r.0; opened = t.0; sent = u.0; taken = u.1; ledger = v.1 }

pub fits_of : {F : Type 0} (notary : Party) (nodes : ℕ) (me : Party) (s : NodeState F) (cause : Cause) (e : Effect F) → Parts notary nodes me s cause e → fits notary nodes me s (record { cause = cause; effect = e }) ≡ true
unfolding fits
fits_of notary nodes me s cause e h = and_from _ _ h.in_order (and_from _ _ h.event (and_from _ _ (and_from _ _ h.opened (and_from _ _ h.sent h.taken)) h.ledger))

fits_from : {F : Type 0} (w : Environment F) (me : ℕ) (s : NodeState F) (cause : Cause) (e : Effect F) → Fits w me s cause e → fits w.notary w.nodes (party me) s (record { cause = cause; effect = e }) ≡ true
fits_from w me s cause e h =
    let later = begun_by cause e s.sessions in
    fits_of w.notary w.nodes (party me) s cause e (record {
      in_order = and_from _ _ (lt-ltb s.stamp cause.stamp h.later) (and_from _ _ (lt-ltb cause.stamp (2 ^ 63) h.bounded) (le-leb s.moment cause.moment.0 h.moment));
      event = event_from w me s cause.event e h.event;
      opened = opened_from w me s later (flow_of e.flow) e.change.sent e.change.opened h.change.opened;
      sent = sent_from (party me) cause.stamp later e.change.sent h.change.sent;
      taken = taken_from s.sessions e.change.taken h.change.taken;
      ledger = and_from _ _ h.change.recorded (and_from _ _ (and_from _ _ h.change.locked (not_from_false _ h.change.once)) (booked_from w me s.entries e.change.booked h.change.booked));
    })

pub fits_to : {F : Type 0} (w : Environment F) (me : ℕ) (s : NodeState F) (cause : Cause) (e : Effect F) → fits w.notary w.nodes (party me) s (record { cause = cause; effect = e }) ≡ true → Fits w me s cause e
fits_to w me s cause e h =
    let p = parts_of w.notary w.nodes (party me) s cause e h in
    let order = and_parts (nat_lt s.stamp cause.stamp) (nat_lt cause.stamp (2 ^ 63) && nat_le s.moment cause.moment.0) p.in_order in
    let rest = and_parts (nat_lt cause.stamp (2 ^ 63)) (nat_le s.moment cause.moment.0) order.1 in
    let later = begun_by cause e s.sessions in
    let l = ledger_parts w.notary (party me) s e.change p.ledger in
    record {
      later = ltb-true s.stamp cause.stamp order.0;
      bounded = ltb-true cause.stamp (2 ^ 63) rest.0;
      moment = leb-true s.moment cause.moment.0 rest.1;
      event = event_to w me s cause.event e p.event;
      change = record {
        opened = opened_to w me s later (flow_of e.flow) e.change.sent e.change.opened p.opened;
        sent = sent_to (party me) cause.stamp later e.change.sent p.sent;
        taken = taken_to s.sessions e.change.taken p.taken;
        recorded = l.recorded;
        locked = l.coins;
        once = l.once;
        booked = booked_to w me s.entries e.change.booked l.booked;
      };
    }

pub fits_as_ruled : {F : Type 0} → FitsAsRuled F
fits_as_ruled w me s r = (λ h. fits_to w me s r.cause r.effect h, λ h. fits_from w me s r.cause r.effect h)
