-- Which records a node takes at a boot: those that fit after the records before them.
use Rattle.std.specs.Prelude.{◌≡◌, ℕ, ◌+◌, ◌^◌, ◌==◌, ◌&&◌, nat_lt, nat_le, not, Bool, true, false, List, [], ◌∷◌, ◌++◌, Option, Some, None, is_none, if◌then◌else◌, length, option_to_list, ◌↔◌}
use Rattle.std.specs.List.{list_any, list_all}
use Rattle.net_base.specs.declared.names.Key.{Key}
use Rattle.net_base.specs.declared.values.Party.{Party}
use Rattle.net_base.specs.declared.causes.Cause.{Cause}
use Rattle.net_base.specs.declared.causes.Event.{Event}
use Rattle.net_base.specs.declared.causes.Event.TheVariants as event
use Rattle.session_wire.specs.declared.body.Body.{Body}
use Rattle.session_wire.specs.declared.body.Body.TheVariants as body_of
use Rattle.session_wire.specs.declared.change.SentItem.{SentItem}
use Rattle.session_wire.specs.Sessions.{Session, key_eq, session_of, changed_at, with_sent, opened_on}
use Rattle.session_wire.specs.Rules.{direction_in, direction_out, next_key, is_new_key, is_lawful, is_init_of, sessions_of}
use Rattle.flow_machine.specs.declared.flows.Checkpoint.{Checkpoint}
use Rattle.ledger_types.specs.Names.{ref_eq, has_repeat}
use Rattle.ledger_types.specs.Stores.{may_record, untagged}
use Rattle.ledger_types.specs.Vaults.{vault_of, has_coin}
use Rattle.ledger_tables.specs.Ledgers.{may_book}
use Rattle.net_model.specs.Environment.{Environment, party}
use Rattle.net_model.specs.State.{NodeState, FlowPart, no_flow, now_live, now_ended, now_failed, Change, Effect, Record, with_ids, came_on, flow_of, apply_effect, fresh}
use Rattle.net_model.specs.Steps.{live_at}
use Rattle.net_model.specs.Fits.{Fits}
use Rattle.flow_records.specs.Records.{record_of}
use Rattle.flow_records.specs.Alone.{leaves_ledger}
use Rattle.node_tables.specs.Journals.{Reads}

-- ---- the cause

-- whether the stamp rises and stays below 2^63, and the moment doesn't fall
abbrev pub rises : {F : Type 0} → NodeState F → Cause → Bool
rises s cause = nat_lt s.stamp cause.stamp && (nat_lt cause.stamp (2 ^ 63) && nat_le s.moment cause.moment.0)

-- ---- the flow

-- whether there is no flow
abbrev pub is_no_flow : {F : Type 0} → FlowPart F → Bool
is_no_flow no_flow = true
is_no_flow _ = false

-- whether the flow is a new one of that number and class, live at step 0
abbrev pub is_new_flow : {F : Type 0} → ℕ → ℕ → FlowPart F → Bool
is_new_flow f class (now_live at) = (at.flow == f) && ((at.step == 0) && (at.class == class))
is_new_flow f class _ = false

-- whether the flow is the one of that number and class, at the next step
abbrev pub is_next_of : {F : Type 0} → ℕ → ℕ → ℕ → FlowPart F → Bool
is_next_of f step class no_flow = false
is_next_of f step class (now_live at) = (at.flow == f) && ((at.step == step + 1) && (at.class == class))
is_next_of f step class (now_ended flow now of value) = (flow == f) && ((now == step + 1) && (of == class))
is_next_of f step class (now_failed flow now of code) = (flow == f) && ((now == step + 1) && (of == class))

-- whether the flow goes on from where it stands
abbrev pub goes_on : {F : Type 0} → ℕ → Option (Checkpoint F) → FlowPart F → Bool
goes_on f None part = false
goes_on f (Some at) part = is_next_of f at.step at.class part

-- ---- the item that is accepted

-- whether an item answers an Init of the class: with Confirm there is a flow of that number, with Reject none
abbrev pub answers_by : {F : Type 0} → ℕ → ℕ → FlowPart F → Body → Bool
answers_by f class flow body_of.Confirm = is_new_flow f class flow
answers_by f class flow (body_of.Reject code) = is_no_flow flow
answers_by f class flow _ = false

-- whether the first of the sent items is the first answer of the key
abbrev pub answers_first : {F : Type 0} → ℕ → Key → ℕ → FlowPart F → List SentItem → Bool
answers_first f key class flow [] = false
answers_first f key class flow (item ∷ items) = key_eq item.key key && ((item.direction == 1) && ((item.seq == 0) && answers_by f class flow item.body))

-- whether the accepted item is an Init, and is answered
abbrev pub accepts_init : {F : Type 0} → ℕ → Key → FlowPart F → List SentItem → Option Body → Bool
accepts_init f key flow sent None = false
accepts_init f key flow sent (Some (body_of.Init class first)) = answers_first f key class flow sent
accepts_init f key flow sent (Some _) = false

-- whether there is an item, and it is lawful at the direction and the number
abbrev pub is_lawful_item : ℕ → ℕ → Option Body → Bool
is_lawful_item direction number None = false
is_lawful_item direction number (Some body) = is_lawful direction number body

-- whether no flow changes, no session is opened, and nothing is sent, taken, recorded, locked or booked
abbrev pub only_accepts : {F : Type 0} → Effect F → Bool
only_accepts e = is_no_flow e.flow && (is_none e.change.opened && ((length e.change.sent == 0) && (is_none e.change.taken && leaves_ledger e.change)))

-- whether the item comes next in the session, if it stands, and nothing else happens
abbrev pub arrives_in : {F : Type 0} → Party → Key → ℕ → ℕ → Effect F → Option Session → Bool
arrives_in me key direction number e None = false
arrives_in me key direction number e (Some session) = (direction == direction_in me key) && ((number == length session.came) && (is_lawful_item direction number e.change.came && only_accepts e))

-- ---- the event

-- whether the effect is one that such an event may have
abbrev pub fits_event : {F : Type 0} → ℕ → Party → NodeState F → Event → Effect F → Bool
fits_event nodes me s (event.Start f class args) e = (f == length s.flows) && (is_new_flow f class e.flow && is_none e.change.came)
fits_event nodes me s (event.Answer key) e = is_new_key nodes me s.sessions key && accepts_init (length s.flows) key e.flow e.change.sent e.change.came
fits_event nodes me s (event.Arrive key direction number) e = arrives_in me key direction number e (session_of key s.sessions)
fits_event nodes me s (event.Move f) e = goes_on f (live_at s f) e.flow && is_none e.change.came
fits_event nodes me s (event.Lapse f) e = goes_on f (live_at s f) e.flow && is_none e.change.came

-- ---- the sessions

-- whether the session is the party's next one, with another party, and its Init is sent
abbrev pub opens_next : Party → List Session → List SentItem → Key → Party → Bool
opens_next me sessions sent key peer = key_eq key (next_key me sessions) && (not (peer.0 == me.0) && list_any (is_init_of key) sent)

-- whether a flow opens a session with a peer that is one of this number of nodes, and owns 64 at most of these sessions
abbrev pub owns_few : ℕ → List Session → Party → Option ℕ → Bool
owns_few nodes sessions peer None = false
owns_few nodes sessions peer (Some flow) = nat_lt peer.0 nodes && nat_le (length (sessions_of flow sessions)) 64

-- the same, where a session is opened
abbrev pub may_open : ℕ → List Session → Option ℕ → Option (Key × Party) → Bool
may_open nodes sessions owner None = true
may_open nodes sessions owner (Some opened) = owns_few nodes sessions opened.1 owner

-- how many sessions an event makes
abbrev pub made_by : Event → ℕ
made_by (event.Answer key) = 1
made_by _ = 0

-- whether the opened session fits, if there is one: it is the next one over the earlier sessions, and its flow owns few of the later ones
abbrev pub fits_opened : ℕ → Party → List Session → List Session → Option ℕ → List SentItem → Option (Key × Party) → Bool
fits_opened nodes me earlier later owner sent None = true
fits_opened nodes me earlier later owner sent (Some opened) = opens_next me earlier sent opened.0 opened.1 && owns_few nodes later opened.1 owner

-- whether the item is the next one that the party sends in the session, if it stands, and is lawful there
abbrev pub continues_in : Party → SentItem → Option Session → Bool
continues_in me item None = false
continues_in me item (Some session) = (item.direction == direction_out me item.key) && ((item.seq == length session.sent) && is_lawful item.direction item.seq item.body)

-- whether the items that are sent by a cause of the stamp continue their sessions, one after the other
abbrev pub fits_sent : Party → ℕ → List Session → List SentItem → Bool
fits_sent me stamp sessions [] = true
fits_sent me stamp sessions (item ∷ items) = continues_in me item (session_of item.key sessions) && fits_sent me stamp (changed_at item.key (with_sent (record { body = item.body; stamp = stamp })) sessions) items

-- whether n items of the session may be taken, if it stands: no fewer than were, and no more than arrived
abbrev pub takes_up_to : ℕ → Option Session → Bool
takes_up_to n None = false
takes_up_to n (Some session) = nat_le session.taken n && nat_le n (length session.came)

-- whether the new number of taken items fits, if there is one
abbrev pub fits_taken : List Session → Option (Key × ℕ) → Bool
fits_taken sessions None = true
fits_taken sessions (Some taken) = takes_up_to taken.1 (session_of taken.0 sessions)

-- whether what is opened, sent and taken fits; the earlier sessions are those before the record, and later are those once an item was accepted and a session opened; what is taken is of an earlier one
abbrev pub fits_sessions : ℕ → Party → List Session → List Session → ℕ → Option ℕ → Change → Bool
fits_sessions nodes me earlier later stamp owner change = fits_opened nodes me earlier later owner change.sent change.opened && (fits_sent me stamp later change.sent && fits_taken earlier change.taken)

-- the sessions once an item was accepted and a session opened
abbrev pub begun_by : {F : Type 0} → Cause → Effect F → List Session → List Session
begun_by cause e sessions = opened_on e.change.opened (flow_of e.flow) (came_on cause.event (option_to_list e.change.came) (flow_of e.flow) sessions)

-- ---- the ledger

-- whether what is recorded, locked and booked fits, at a party whose network has this notary
abbrev pub fits_ledger : {F : Type 0} → Party → Party → NodeState F → Change → Bool
fits_ledger notary me s c =
    may_record (with_ids s.stored) c.recorded
    && ((list_all (has_coin (vault_of me (untagged (with_ids (s.stored ++ option_to_list c.recorded))) s.locked)) c.locked && not (has_repeat ref_eq c.locked))
    && may_book me notary s.entries c.booked)

-- ---- records

-- whether a record fits after a state of the party in a network of this number of nodes with this notary
unfoldable pub fits : {F : Type 0} → Party → ℕ → Party → NodeState F → Record F → Bool
fits notary nodes me s r = rises s r.cause && (fits_event nodes me s r.cause.event r.effect && (fits_sessions nodes me s.sessions (begun_by r.cause r.effect s.sessions) r.cause.stamp (flow_of r.effect.flow) r.effect.change && fits_ledger notary me s r.effect.change))

-- whether what was read is a record that fits
abbrev pub fits_read : {F : Type 0} → Party → ℕ → Party → NodeState F → Option (Record F) → Bool
fits_read notary nodes me s None = false
fits_read notary nodes me s (Some r) = fits notary nodes me s r

-- the state after what was read
abbrev pub apply_read : {F : Type 0} → NodeState F → Option (Record F) → NodeState F
apply_read s None = s
apply_read s (Some r) = apply_effect s r.cause r.effect

-- the place of the first body after a state that is no record or doesn't fit; each stands with the place of its gate
abbrev pub misfit_from : {F : Type 0} → Reads F → Party → ℕ → Party → NodeState F → List (ℕ × List ℕ) → Option ℕ
misfit_from frame_at notary nodes me s [] = None
misfit_from frame_at notary nodes me s (x ∷ xs) = if fits_read notary nodes me s (record_of frame_at x.1) then misfit_from frame_at notary nodes me (apply_read s (record_of frame_at x.1)) xs else Some x.0

-- the place of the first body of a journal that is no record or doesn't fit
unfoldable pub misfit : {F : Type 0} → Reads F → Party → ℕ → Party → List (ℕ × List ℕ) → Option ℕ
misfit frame_at notary nodes me list = misfit_from frame_at notary nodes me fresh list

-- a record fits exactly where the machine's rules for records say so
abbrev pub FitsAsRuled : (F : Type 0) → Type 0
FitsAsRuled F = (w : Environment F) (me : ℕ) (s : NodeState F) (r : Record F) → (fits w.notary w.nodes (party me) s r ≡ true) ↔ Fits w me s r.cause r.effect
