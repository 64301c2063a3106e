-- What is done for a flow is within its limits, and short.
use Rattle.std.proofs.Common.{◌≡◌, ℕ, ◌^◌, ◌+◌, ◌<◌, ◌≤◌, List, [], ◌∷◌, length, map, drop, Option, Some, None, Bool, true, false, cond, option_map, refl, sym, ◌∙◌, ap, subst, arith}
use Rattle.std.specs.Prelude.{filter, IfSome}
use Rattle.std.specs.List.{AllByRecursion}
use Rattle.std.specs.Option.{unwrap_or}
use Rattle.net_base.specs.declared.names.Key.{Key}
use Rattle.net_base.specs.declared.values.Party.{Party}
use Rattle.net_base.proofs.Lists.{all_drop, all_find, filter_length, filter_none}
use Rattle.ledger_types.specs.declared.value.Value.{Value}
use Rattle.session_wire.specs.declared.body.Body.{Body}
use Rattle.session_wire.specs.declared.body.Body.TheVariants as body_of
use Rattle.session_wire.specs.declared.change.SentItem.{SentItem}
use Rattle.session_wire.specs.declared.change.SessionChange.{SessionChange}
use Rattle.session_wire.specs.Bodies.{IsBody}
use Rattle.session_wire.specs.Sessions.{Session, key_eq, session_of, is_confirm, first_item, next_item}
use Rattle.session_wire.specs.Rules.{is_no_peer, has_many, is_owner, owned, owned_by, sessions_of, item_on, IsHeld}
use Rattle.session_table.specs.Changes.{room_for}
use Rattle.flow_machine.specs.declared.acts.Resumed.{Resumed}
use Rattle.flow_machine.specs.declared.acts.Resumed.TheVariants as resumed
use Rattle.flow_machine.specs.Limits.{IsResumed}
use Rattle.transition_record.specs.Changes.{IsSession, IsSessionPart, IsOpened, session_text}
use Rattle.net_model.specs.Environment.{party}
use Rattle.net_model.specs.State.{nothing, session_part}
use Rattle.net_model.specs.Steps.{Done, opens, sends, handed, takes, receives, last_items}
use Rattle.session_acts.specs.declared.acts.Performed.{Performed}
use Rattle.session_acts.specs.Parts.{done_of, unchanged}
use Rattle.session_acts.proofs.Limits.{unchanged_within}
use Rattle.flow_records.specs.Steps.{carries_value}
use Rattle.flow_records.proofs.Lengths.{few_values_are_short}
use Rattle.flow_steps.specs.Going.{IsDone}

-- a change by which so few items are sent is short
pub few_short : (change : SessionChange) → IsSessionPart change → length change.sent ≤ 3 → length (session_text change) ≤ 50000
few_short change h few = few_values_are_short change h (let short = filter_length (λ (item : SentItem). carries_value item.body) change.sent in omega (arith, short, few))

pub room_short : (change : SessionChange) → IsSessionPart change → room_for change ≤ 4 → length (session_text change) ≤ 50000
room_short change h room = few_short change h (omega (arith, room))

pub unchanged_short : (f : ℕ) → length (session_text (unchanged f)) ≤ 50000
unchanged_short f = few_short (unchanged f) (unchanged_within f).0 (omega arith)

-- a change by which items without values are sent is short
pub last_short : (me : ℕ) (sessions : List Session) (f : ℕ) (last : Body) (change : SessionChange) → IsSessionPart change → carries_value last ≡ false → session_part change ≡ last_items me sessions f last → length (session_text change) ≤ 50000
last_short me sessions f last change h bare is =
    let sent : change.sent ≡ map (λ session. item_on (party me) session last) (sessions_of f sessions) = ap (λ c. c.sent) is in
    let none : filter (λ (item : SentItem). carries_value item.body) change.sent ≡ [] = ap (filter (λ (item : SentItem). carries_value item.body)) sent ∙ filter_none (λ (item : SentItem). carries_value item.body) (λ session. item_on (party me) session last) (sessions_of f sessions) (λ session. bare) in
    few_values_are_short change h (let few = ap length none in omega (arith, few))

-- ---- the session acts

-- a lapse
pub lapse_done : (f : ℕ) → IsDone f (record { with = resumed.Lapsed; change = unchanged f })
lapse_done f = record { result = tt; session = unchanged_within f; short = unchanged_short f }

-- a refusal has a code
refused_within : (code : ℕ) (r : Resumed) → code < 2 ^ 16 → r ≡ resumed.Refused code → IsResumed r
refused_within code r small is = subst IsResumed (sym is) small

opened_within : (p : Performed) (key : Key) (to : Party) (items : List SentItem) (b c : Bool) → done_of p ≡ cond b (resumed.Refused 48, nothing) (cond c (resumed.Refused 57, nothing) (resumed.Opened key, record nothing { opened = Some (key, to); sent = items }))
    → IfSome p.change.opened IsOpened → IsResumed p.with
opened_within p key to items true c is h = refused_within 48 p.with (omega arith) (ap (λ d. d.0) is)
opened_within p key to items false true is h = refused_within 57 p.with (omega arith) (ap (λ d. d.0) is)
opened_within p key to items false false is h =
    let opened : p.change.opened ≡ Some (key, to) = ap (λ d. d.1.opened) is in
    let limits : IfSome (Some (key, to)) IsOpened = subst (λ (o : Option (Key × Party)). IfSome o IsOpened) opened h in
    let with : p.with ≡ resumed.Opened key = ap (λ d. d.0) is in
    subst IsResumed (sym with) limits.0

-- Open
pub open_done : (nodes me : ℕ) (sessions : List Session) (f : ℕ) (to : Party) (class : ℕ) (first : Value) (p : Performed) → done_of p ≡ opens nodes me sessions f to class first → IsSession f None p.change → room_for p.change ≤ 4 → IsDone f p
open_done nodes me sessions f to class first p is h room = record {
  result = opened_within p _ to _ (is_no_peer nodes (party me) to) (has_many f sessions) is h.0.0;
  session = h;
  short = room_short p.change h.0 room;
}

-- Send
sent_within : (me : ℕ) (value : Value) (o : Option Session) (p : Performed) → done_of p ≡ sends me value o → IsResumed p.with
sent_within me value None p is = refused_within 58 p.with (omega arith) (ap (λ d. d.0) is)
sent_within me value (Some session) p is = let with : p.with ≡ resumed.Sent = ap (λ d. d.0) is in subst IsResumed (sym with) tt

pub send_done : (me f : ℕ) (value : Value) (o : Option Session) (p : Performed) → done_of p ≡ sends me value o → IsSession f None p.change → room_for p.change ≤ 4 → IsDone f p
send_done me f value o p is h room = record { result = sent_within me value o p is; session = h; short = room_short p.change h.0 room }

-- Receive
handed_within : (body : Body) → IsBody body → IsResumed (handed body)
handed_within (body_of.Init class first) h = h.1
handed_within body_of.Confirm h = tt
handed_within (body_of.Reject code) h = h
handed_within (body_of.Data value) h = h
handed_within (body_of.Error code) h = h
handed_within body_of.End h = tt

-- the first of these items that is no Confirm, if there is one
first_within : (n : ℕ) (bodies : List Body) → AllByRecursion IsBody bodies → IfSome (first_item n bodies) (λ found. IsBody found.1)
first_within n [] h = tt
first_within n (body ∷ bodies) h = on (is_confirm body) (first_within (n + 1) bodies h.1)
  where
    on : (b : Bool) → IfSome (first_item (n + 1) bodies) (λ found. IsBody found.1) → IfSome (cond b (first_item (n + 1) bodies) (Some (n, body))) (λ found. IsBody found.1)
    on true rest = rest
    on false rest = h.0

next_of : (o : Option (ℕ × Body)) → IfSome o (λ found. IsBody found.1) → IfSome (option_map (λ (found : ℕ × Body). (Some found.0, found.1)) o) (λ (found : Option ℕ × Body). IsBody found.1)
next_of None h = tt
next_of (Some x) h = h

next_within : (session : Session) (ending : Option Body) → IsHeld session → IfSome ending IsBody → IfSome (next_item session ending) (λ found. IsBody found.1)
next_within session (Some body) h e = e
next_within session None h e = next_of (first_item session.taken (drop session.taken session.came)) (first_within session.taken (drop session.taken session.came) (all_drop IsBody session.taken session.came h.came))

taken_within : (session : Session) (o : Option (Option ℕ × Body)) → IfSome o (λ found. IsBody found.1) → IfSome (option_map (takes session) o) (λ d. IsResumed d.0)
taken_within session None h = tt
taken_within session (Some next) h = handed_within next.1 h

received_within : (o : Option Session) → IfSome o IsHeld → IfSome (receives o) (λ d. IsResumed d.0)
received_within None h = omega arith
received_within (Some session) h = taken_within session (next_item session session.ending) (next_within session session.ending h h.ending)

owner_held : (f : ℕ) (o : Option Session) → IfSome o IsHeld → IfSome (owned_by f o) IsHeld
owner_held f None h = tt
owner_held f (Some session) h = on (is_owner f session.owner)
  where
    on : (b : Bool) → IfSome (cond b (Some session) None) IsHeld
    on true = h
    on false = tt

there_held : (sessions : List Session) (key : Key) (o : Option Session) → session_of key sessions ≡ o → AllByRecursion IsHeld sessions → IfSome o IsHeld
there_held sessions key None is h = tt
there_held sessions key (Some session) is h = all_find IsHeld (λ s. key_eq key s.key) sessions session h is

-- what is handed over is within its limits, where what arrived is
pub receive_within : (f : ℕ) (key : Key) (sessions : List Session) → AllByRecursion IsHeld sessions → IfSome (receives (owned f key sessions)) (λ d. IsResumed d.0)
receive_within f key sessions h = received_within (owned f key sessions) (owner_held f (session_of key sessions) (there_held sessions key (session_of key sessions) refl h))

result_within : (o : Option Done) (p : Performed) → Some (done_of p) ≡ o → IfSome o (λ d. IsResumed d.0) → IsResumed p.with
result_within None p is h = cc
result_within (Some d) p is h = let same : done_of p ≡ d = cc in subst IsResumed (ap (λ (x : Done). x.0) (sym same)) h

pub receive_done : (f : ℕ) (key : Key) (sessions : List Session) (p : Performed) → Some (done_of p) ≡ receives (owned f key sessions) → AllByRecursion IsHeld sessions → IsSession f None p.change → room_for p.change ≤ 4 → IsDone f p
receive_done f key sessions p is held h room = record { result = result_within (receives (owned f key sessions)) p is (receive_within f key sessions held); session = h; short = room_short p.change h.0 room }

-- what was done is the item, or that the moment has come
pub done_with : (o : Option Done) (d lapse : Done) → Some d ≡ o → d ≡ unwrap_or o lapse
done_with None d lapse is = cc
done_with (Some x) d lapse is = cc

pub done_without : (o : Option Done) (lapse : Done) → None ≡ o → lapse ≡ unwrap_or o lapse
done_without None lapse is = refl
done_without (Some x) lapse is = cc
