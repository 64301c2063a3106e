-- What a step gives fits after a sound state.
use Rattle.std.proofs.Common.{◌≡◌, ℕ, ◌+◌, ◌^◌, ◌⊎◌, ⊎_elim, List, [], ◌∷◌, ◌++◌, Option, Some, None, Bool, true, false, cond, ◌==◌, not, nat_lt, nat_le, max, map, filter, find, drop, is_none, option_map, option_to_list, length, refl, sym, ap, subst, ◌∙◌, arith, append-nil}
use Rattle.std.specs.List.{list_all, list_any, AllByRecursion}
use Rattle.std.proofs.lemmas.Bool.{and_parts, and_from, or_cases, or_parts, or_left, not-true, not_from_false, eqb-true, eqb-false, eq-eqb, ltb-true, lt-ltb, leb-true, leb-false, false_from_ne_true}
use Rattle.net_base.specs.declared.names.Key.{Key}
use Rattle.net_base.specs.declared.values.Party.{Party}
use Rattle.net_base.specs.declared.causes.Cause.{Cause}
use Rattle.net_base.specs.declared.causes.Event.{Event}
use Rattle.net_base.specs.declared.causes.Event.TheVariants as event
use Rattle.net_base.proofs.Options.{none_of, some_eq}
use Rattle.net_base.proofs.Lists.{find_map, find_test, find_push, found_passes, none_filter, all_filter, length_filter}
use Rattle.ledger_types.specs.declared.tx.Resolved.{Resolved}
use Rattle.ledger_types.specs.declared.tx.SignedTx.{SignedTx}
use Rattle.ledger_types.specs.declared.notary.Request.{Request}
use Rattle.ledger_types.specs.declared.notary.Entry.{Entry}
use Rattle.ledger_types.specs.declared.held.Held.{Held}
use Rattle.ledger_types.specs.declared.value.Value.{Value}
use Rattle.session_wire.specs.declared.body.Body.{Body}
use Rattle.session_wire.specs.declared.body.Body.TheVariants as body_of
use Rattle.flow_machine.specs.declared.acts.Act.{Act}
use Rattle.flow_machine.specs.declared.flows.Checkpoint.{Checkpoint}
use Rattle.session_wire.specs.Sessions.{Sent, Session, changed_at, first_item, key_eq, new_session, next_item, session_of, with_sent}
use Rattle.session_wire.specs.Rules.{owned, next_key, sessions_of, is_no_peer, has_many, is_new_key, direction_out, direction_in, item_on, is_lawful, is_owner, Continues, FitsSent, FitsTaken}
use Rattle.session_wire.proofs.Keys.{key_exact, key_same, key_turned}
use Rattle.session_wire.proofs.Items.{IsLate, late_data, late_error, late_end, found_between}
use Rattle.net_model.specs.Environment.{Environment, party, identity}
use Rattle.ledger_types.specs.Stores.{is_stored, resolved_of, untagged}
use Rattle.ledger_types.specs.Signatures.{tx_id}
use Rattle.ledger_types.specs.Vaults.{vault_of, has_coin, reserved}
use Rattle.ledger_types.specs.Notary.{repeats, reply}
use Rattle.net_model.specs.State.{NodeState, Change, Effect, nothing, with_ids, came_on, flow_of}
use Rattle.net_model.specs.Steps.{Done, opening, booked_by, vault_at, answering, live_at, place, node_step, stamp_in, body_in}
use Rattle.net_model.specs.Fits.{IsNextOf, AcceptsInit, GoesOn, FitsEvent, FitsBooked, FitsChange, Fits, keys_differ, is_counted, IsSound, StepsFit}
use Rattle.net_model.proofs.Basics.{from_map}
use Rattle.net_model.proofs.Booked.{added}
use Rattle.net_model.proofs.Recorded.{resolved_there}
use Rattle.net_model.proofs.Coins.{reserved_coins, reserved_once}
use Rattle.net_model.proofs.Effects.{step_taken}
use Rattle.net_model.proofs.Acts.{Performs, tells, opens_to, sends_on, takes_from, has_found, has_tagged, has_locked, has_answered, has_recorded, Gives, goes, pushed, popped, finished, failed, Does, starts, answers_to, arrives, acts, effect_does, owned_there}

-- ---- keys

-- the initiator of a new key is another node
pub initiator_other : (nodes me : ℕ) (sessions : List Session) (key : Key) → is_new_key nodes (party me) sessions key ≡ true → (key.initiator.0 == me) ≡ false
initiator_other nodes me sessions key h =
    let p = and_parts (is_none (session_of key sessions)) (not (is_no_peer nodes (party me) key.initiator)) h in
    (or_parts (key.initiator.0 == me) (nat_le nodes key.initiator.0) (not-true _ p.1)).0

-- some of them differ too
pub differ_filter : (Q : Session → Bool) (xs : List Session) → keys_differ xs ≡ true → keys_differ (filter Q xs) ≡ true
differ_filter Q [] h = refl
differ_filter Q (x ∷ xs) h =
    let p = and_parts _ _ h in
    elim (Q x) as (λ b. keys_differ (cond b (x ∷ filter Q xs) (filter Q xs)) ≡ true)
    [ true ↦ and_from _ _ (not_from_false _ (none_filter (λ y. key_eq x.key y.key) Q xs (not-true _ p.0))) (differ_filter Q xs p.1) | false ↦ differ_filter Q xs p.1 ]

-- ---- the plain cases

module _ {F : Type 0} (w : Environment F) (me : ℕ) (s : NodeState F) (stamp : ℕ) where
  plain_fits : (before : List Session) (owner : Option ℕ) → FitsChange w me s stamp before owner nothing
  plain_fits before owner = record { opened = tt; sent = tt; taken = tt; recorded = refl; locked = refl; once = refl; booked = tt }

  module _ (sound : IsSound me s) where
    pub not_counted : (next : ℕ) (ss : List Session) → list_all (is_counted me next) ss ≡ true → find (λ x. key_eq (record { initiator = party me; number = next }) x.key) ss ≡ None
    not_counted next [] h = refl
    not_counted next (x ∷ xs) h =
        let p = and_parts _ _ h in
        let no : key_eq (record { initiator = party me; number = next }) x.key ≡ false = false_from_ne_true _ (λ k. ⊎_elim
        (λ q. let r = and_parts _ _ k in eqb-false x.key.initiator.0 me (not-true _ q) (sym (eqb-true me x.key.initiator.0 r.0)))
        (λ q. let r = and_parts _ _ k in let l = ltb-true x.key.number next q in let m = eqb-true next x.key.number r.1 in absurd (omega arith))
        (or_cases _ _ p.0)) in
        rw no (not_counted next xs p.1)

    next_free : session_of (next_key (party me) s.sessions) s.sessions ≡ None
    next_free = not_counted (next_key (party me) s.sessions).number s.sessions sound.counted

    own_direction : 0 ≡ direction_out (party me) (next_key (party me) s.sessions)
    own_direction = rw (eq-eqb me me refl)

    opens_fit : (f : ℕ) (to : Party) (class : ℕ) (first : Value) → is_no_peer w.nodes (party me) to ≡ false → has_many f s.sessions ≡ false → FitsChange w me s stamp s.sessions (Some f) (opening me s.sessions to class first).1
    opens_fit f to class first other few =
        let new = new_session (next_key (party me) s.sessions) to (Some f) [] in
        let there = find_push (λ x. key_eq (next_key (party me) s.sessions) x.key) s.sessions new next_free (key_same (next_key (party me) s.sessions)) in
        let apart = or_parts (to.0 == me) (nat_le w.nodes to.0) other in
        let less = leb-false 64 (length (sessions_of f s.sessions)) few in
        let more = length_filter (λ session. is_owner f session.owner) s.sessions new (eq-eqb f f refl) in
        record {
          opened = record {
            flow = f;
            owned = refl;
            opens = record { next = refl; other = apart.0; init = or_left _ _ (and_from _ _ (key_same (next_key (party me) s.sessions)) refl) };
            there = lt-ltb to.0 w.nodes (leb-false w.nodes to.0 apart.1);
            few = omega arith;
          };
          sent = (record { session = new; stands = there; outgoing = own_direction; next = refl; lawful = refl }, tt);
          taken = tt;
          recorded = refl;
          locked = refl;
          once = refl;
          booked = tt;
        }

    begun_at : (key : Key) (session : Session) → session_of key s.sessions ≡ Some session → (length session.sent == 0) ≡ false
    begun_at key session h = not-true _ (found_passes (λ x. not (length x.sent == 0)) (λ x. key_eq key x.key) s.sessions session sound.begun h)

    -- the session is found by its own key
    own_key : (key : Key) (session : Session) → session_of key s.sessions ≡ Some session → session_of session.key s.sessions ≡ Some session
    own_key key session h = let e = key_exact key session.key (find_test (λ x. key_eq key x.key) s.sessions session h) in subst (λ (k : Key). session_of k s.sessions ≡ Some session) e h

    continues : (session : Session) (sessions : List Session) (body : Body) → IsLate body → (length session.sent == 0) ≡ false → session_of session.key sessions ≡ Some session → Continues (party me) (item_on (party me) session body) sessions
    continues session sessions body late begun there = record { session = session; stands = there; outgoing = refl; next = refl; lawful = late _ _ begun }

    sends_fit : (f : ℕ) (key : Key) (value : Value) (session : Session) → owned f key s.sessions ≡ Some session → FitsChange w me s stamp s.sessions (Some f) (record nothing { sent = item_on (party me) session (body_of.Data value) ∷ [] })
    sends_fit f key value session h =
        let there = owned_there f (session_of key s.sessions) session h in
        record { opened = tt; sent = (continues session s.sessions (body_of.Data value) (late_data value) (begun_at key session there) (own_key key session there), tt); taken = tt; recorded = refl; locked = refl; once = refl; booked = tt }

    takes_part : (key : Key) (session : Session) (ending : Option Body) (next : Option ℕ × Body) → session_of session.key s.sessions ≡ Some session → next_item session ending ≡ Some next → FitsTaken s.sessions (option_map (λ n. (session.key, n + 1)) next.0)
    takes_part key session (Some e) next there h = subst (λ (x : Option ℕ × Body). FitsTaken s.sessions (option_map (λ n. (session.key, n + 1)) x.0)) (some_eq h) tt
    takes_part key session None next there h =
        from_map (λ (x : Option ℕ × Body). FitsTaken s.sessions (option_map (λ n. (session.key, n + 1)) x.0)) (λ found. (Some found.0, found.1)) (first_item session.taken (drop session.taken session.came)) next h
        (λ found is. let b = found_between session found is in record { session = session; stands = there; above = omega (arith, b.0); below = omega (arith, b.1) })

    takes_fit : (f : ℕ) (key : Key) (session : Session) (next : Option ℕ × Body) → owned f key s.sessions ≡ Some session → next_item session session.ending ≡ Some next → FitsChange w me s stamp s.sessions (Some f) (record nothing { taken = option_map (λ n. (session.key, n + 1)) next.0 })
    takes_fit f key session next h i =
        let there = own_key key session (owned_there f (session_of key s.sessions) session h) in
        record { opened = tt; sent = tt; taken = takes_part key session session.ending next there i; recorded = refl; locked = refl; once = refl; booked = tt }

    records_fit : (f : ℕ) (stx : SignedTx) (states : Resolved) → is_stored (with_ids s.stored) (tx_id stx.tx) ≡ false → resolved_of (with_ids s.stored) stx.tx ≡ Some states → FitsChange w me s stamp s.sessions (Some f) (record nothing { recorded = Some stx })
    records_fit f stx states new there = record { opened = tt; sent = tt; taken = tt; recorded = and_from _ _ (not_from_false _ new) (resolved_there (with_ids s.stored) stx.tx states there); locked = refl; once = refl; booked = tt }

    booked_part : (now : ℕ) (q : Request) (o : Option Entry) → booked_by q (reply w.mark s.entries q (identity w me) (record { 0 = now })) ≡ o → FitsBooked w me s.entries o
    booked_part now q None h = tt
    booked_part now q (Some e) h =
        let a = added w.mark (identity w me) s.entries q (record { 0 = now }) e h in
        let same : q ≡ e.request = ap (λ (x : Entry). x.request) a.is in
        (a.here, ap (λ x. find (repeats x) s.entries) (sym same) ∙ a.new)

    answers_fit : (f now : ℕ) (q : Request) → FitsChange w me s stamp s.sessions (Some f) (record nothing { booked = booked_by q (reply w.mark s.entries q (identity w me) (record { 0 = now })) })
    answers_fit f now q = record { opened = tt; sent = tt; taken = tt; recorded = refl; locked = refl; once = refl; booked = booked_part now q _ refl }

    -- ---- the last items of a flow

    -- a session of another key is found as before
    found_other : (key : Key) (change : Session → Session) (sessions : List Session) (x : Session) → key_eq key x.key ≡ false → ((y : Session) → (change y).key ≡ y.key) → session_of x.key sessions ≡ Some x → session_of x.key (changed_at key change sessions) ≡ Some x
    found_other key change sessions x other keeps h =
        let test = λ (y : Session). key_eq x.key y.key in
        find_map test (λ y. cond (key_eq key y.key) (change y) y) sessions (λ y. elim (key_eq key y.key) as (λ b. test (cond b (change y) y) ≡ test y) [ true ↦ ap (key_eq x.key) (keeps y) | false ↦ refl ])
        ∙ (ap (option_map (λ y. cond (key_eq key y.key) (change y) y)) h ∙ rw other)

    abbrev Stand : List Session → List Session → Type 0
    Stand sessions xs = AllByRecursion (λ x. session_of x.key sessions ≡ Some x) xs

    stand_on : (key : Key) (change : Session → Session) (sessions xs : List Session) → ((y : Session) → (change y).key ≡ y.key) → list_any (λ x. key_eq key x.key) xs ≡ false → Stand sessions xs → Stand (changed_at key change sessions) xs
    stand_on key change sessions [] keeps free h = tt
    stand_on key change sessions (x ∷ xs) keeps free h = let n = or_parts _ _ free in (found_other key change sessions x n.0 keeps h.0, stand_on key change sessions xs keeps n.1 h.1)

    last_fit : (body : Body) → IsLate body → (sessions xs : List Session) → Stand sessions xs → keys_differ xs ≡ true → list_all (λ x. not (length x.sent == 0)) xs ≡ true → FitsSent (party me) stamp sessions (map (λ x. item_on (party me) x body) xs)
    last_fit body late sessions [] h k b = tt
    last_fit body late sessions (x ∷ xs) h k b =
        let p = and_parts _ _ k in let q = and_parts _ _ b in (
          continues x sessions body late (not-true _ q.0) h.0,
          last_fit body late (changed_at x.key (with_sent (record { body = body; stamp = stamp })) sessions) xs (stand_on x.key (with_sent (record { body = body; stamp = stamp })) sessions xs (λ y. refl) (not-true _ p.0) h.1) p.1 q.1,
        )

    -- each session stands where all keys differ
    stand_filter : (Q : Session → Bool) (sessions xs : List Session) → Stand sessions xs → Stand sessions (filter Q xs)
    stand_filter Q sessions [] h = tt
    stand_filter Q sessions (x ∷ xs) h = elim (Q x) as (λ b. Stand sessions (cond b (x ∷ filter Q xs) (filter Q xs))) [ true ↦ (h.0, stand_filter Q sessions xs h.1) | false ↦ stand_filter Q sessions xs h.1 ]

    stand_behind : (y : Session) (sessions xs : List Session) → list_any (λ x. key_eq y.key x.key) xs ≡ false → Stand sessions xs → Stand (y ∷ sessions) xs
    stand_behind y sessions [] free h = tt
    stand_behind y sessions (x ∷ xs) free h = let n = or_parts _ _ free in (rw (key_turned y.key x.key n.0) h.0, stand_behind y sessions xs n.1 h.1)

    stand_self : (xs : List Session) → keys_differ xs ≡ true → Stand xs xs
    stand_self [] h = tt
    stand_self (x ∷ xs) h = let p = and_parts _ _ h in (rw (key_same x.key) refl, stand_behind x xs xs (not-true _ p.0) (stand_self xs p.1))

    finishes_fit : (f : ℕ) (owner : Option ℕ) (body : Body) → IsLate body → FitsChange w me s stamp s.sessions owner (record nothing { sent = map (λ x. item_on (party me) x body) (sessions_of f s.sessions) })
    finishes_fit f owner body late =
        let Q = λ (x : Session). is_owner f x.owner in
        record {
          opened = tt;
          sent = last_fit body late s.sessions (sessions_of f s.sessions) (stand_filter Q s.sessions s.sessions (stand_self s.sessions sound.keys)) (differ_filter Q s.sessions sound.keys) (all_filter (λ x. not (length x.sent == 0)) Q s.sessions sound.begun);
          taken = tt;
          recorded = refl;
          locked = refl;
          once = refl;
          booked = tt;
        }

    locks_fit : (f : ℕ) (token : _) (amount : ℕ) (list : List Held) → reserved token amount (vault_at me s) ≡ Some list → FitsChange w me s stamp s.sessions (Some f) (record nothing { locked = map (λ h. h.reference) list })
    locks_fit f token amount list is =
        record {
          opened = tt;
          sent = tt;
          taken = tt;
          recorded = refl;
          locked = subst (λ (stored : List SignedTx). list_all (has_coin (vault_of (party me) (untagged (with_ids stored)) s.locked)) (map (λ h. h.reference) list) ≡ true) (sym (append-nil s.stored)) (reserved_coins (party me) s.stored s.locked token amount list is);
          once = reserved_once (party me) s.stored s.locked token amount list is sound.ids;
          booked = tt;
        }

    -- ---- any act

    abbrev FitsHere : ℕ → Change → Type 0
    FitsHere f change = FitsChange w me s stamp s.sessions (Some f) change

    abbrev second : Done → Change
    second d = d.1

    done_fits : (now f : ℕ) (a : Act F) (d : Done) → Performs w me s now f a d → FitsHere f d.1
    done_fits now f a d (tells told e) = subst (FitsHere f) (sym e) (plain_fits s.sessions (Some f))
    done_fits now f a d (opens_to to class first i j k e) = subst (FitsHere f) (sym (ap second e)) (opens_fit f to class first j k)
    done_fits now f a d (sends_on key value session i j e) = subst (FitsHere f) (sym (ap second e)) (sends_fit f key value session j)
    done_fits now f a d (takes_from key session next i j e) = subst (FitsHere f) (sym (ap second e)) (takes_fit f key session next i j)
    done_fits now f a d (has_found id stx i e) = subst (FitsHere f) (sym (ap second e)) (plain_fits s.sessions (Some f))
    done_fits now f a d (has_tagged id i e) = subst (FitsHere f) (sym (ap second e)) (plain_fits s.sessions (Some f))
    done_fits now f a d (has_locked token amount list i e) = subst (FitsHere f) (sym (ap second e)) (locks_fit f token amount list i)
    done_fits now f a d (has_answered q i e) = subst (FitsHere f) (sym (ap second e)) (answers_fit f now q)
    done_fits now f a d (has_recorded stx states i j k l m n e) = subst (FitsHere f) (sym (ap second e)) (records_fit f stx states j l)

    -- the flow goes on by one step, and the change fits
    record Acted (at : Checkpoint F) (e : Effect F) : Type 0 where
      next : IsNextOf at.flow at.step at.class e.flow
      change : FitsChange w me s stamp s.sessions (flow_of e.flow) e.change

    acted : (at : Checkpoint F) (e x : Effect F) → e ≡ x → Acted at x → Acted at e
    acted at e x i k = subst (Acted at) (sym i) k

    gives_fits : (now : ℕ) (at : Checkpoint F) (a : Act F) (e : Effect F) → Gives w me s now at a e → Acted at e
    gives_fits now at a e (goes d o p i) = acted at e _ i (record { next = (refl, refl, refl); change = done_fits now at.flow a d p })
    gives_fits now at a e (pushed frame i j k) = acted at e _ k (record { next = (refl, refl, refl); change = plain_fits s.sessions (Some at.flow) })
    gives_fits now at a e (popped value frame below i j k) = acted at e _ k (record { next = (refl, refl, refl); change = plain_fits s.sessions (Some at.flow) })
    gives_fits now at a e (finished value i j k) = acted at e _ k (record { next = (refl, refl, refl); change = finishes_fit at.flow (Some at.flow) body_of.End late_end })
    gives_fits now at a e (failed code i k) = acted at e _ k (record { next = (refl, refl, refl); change = finishes_fit at.flow (Some at.flow) (body_of.Error code) (late_error code) })

    -- ---- an Init that is accepted

    answer_sends : (key : Key) (owner : Option ℕ) (init body : Body) → is_new_key w.nodes (party me) s.sessions key ≡ true → is_lawful 1 0 body ≡ true → FitsSent (party me) stamp (s.sessions ++ new_session key key.initiator owner (init ∷ []) ∷ []) (record { key = key; direction = 1; seq = 0; body = body } ∷ [])
    answer_sends key owner init body h lawful =
        let p = and_parts (is_none (session_of key s.sessions)) (not (is_no_peer w.nodes (party me) key.initiator)) h in
        let there = find_push (λ x. key_eq key x.key) s.sessions (new_session key key.initiator owner (init ∷ [])) (none_of _ p.0) (key_same key) in
        let out : 1 ≡ direction_out (party me) key = let e : (key.initiator.0 == me) ≡ false = initiator_other w.nodes me s.sessions key h in rw e in
        (record { session = new_session key key.initiator owner (init ∷ []); stands = there; outgoing = out; next = refl; lawful = lawful }, tt)

    answering_fits : (key : Key) (class : ℕ) (first : Value) (o : Option (F × Act F)) → is_new_key w.nodes (party me) s.sessions key ≡ true →
        AcceptsInit (length s.flows) key (answering key (length s.flows) class (body_of.Init class first) o) (answering key (length s.flows) class (body_of.Init class first) o).change.came
        × FitsChange w me s stamp (came_on (event.Answer key) (option_to_list (answering key (length s.flows) class (body_of.Init class first) o).change.came) (flow_of (answering key (length s.flows) class (body_of.Init class first) o).flow) s.sessions) (flow_of (answering key (length s.flows) class (body_of.Init class first) o).flow) (answering key (length s.flows) class (body_of.Init class first) o).change
    answering_fits key class first (Some made) h =
        ((refl, refl, refl, (refl, refl, refl)), record { opened = tt; sent = answer_sends key (Some (length s.flows)) (body_of.Init class first) body_of.Confirm h refl; taken = tt; recorded = refl; locked = refl; once = refl; booked = tt })
    answering_fits key class first None h =
        ((refl, refl, refl, refl), record { opened = tt; sent = answer_sends key None (body_of.Init class first) (body_of.Reject 5) h refl; taken = tt; recorded = refl; locked = refl; once = refl; booked = tt })

    -- ---- any event

    record FitsOn (ev : Event) (e : Effect F) : Type 0 where
      event : FitsEvent w me s ev e
      change : FitsChange w me s stamp (came_on ev (option_to_list e.change.came) (flow_of e.flow) s.sessions) (flow_of e.flow) e.change

    fits_on : (ev other : Event) (e x : Effect F) → ev ≡ other → e ≡ x → FitsOn other x → FitsOn ev e
    fits_on ev other e x i j k = subst (λ (v : Event). FitsOn v e) (sym i) (subst (FitsOn other) (sym j) k)

    goes_fits : (ev : Event) (f : ℕ) (at : Checkpoint F) (e : Effect F) → (ev ≡ event.Move f) ⊎ (ev ≡ event.Lapse f) → live_at s f ≡ Some at → Acted at e → e.change.came ≡ None → FitsOn ev e
    goes_fits ev f at e h is k alone =
        let there : at.flow ≡ f = sound.numbered f at is in
        let go : GoesOn s f e = record { at = at; live = is; next = subst (λ (n : ℕ). IsNextOf n at.step at.class e.flow) there k.next; alone = alone } in
        ⊎_elim (λ i. fits_on ev (event.Move f) e e i refl (record { event = go; change = k.change })) (λ i. fits_on ev (event.Lapse f) e e i refl (record { event = go; change = k.change })) h

    gives_alone : (now : ℕ) (at : Checkpoint F) (e : Effect F) → Gives w me s now at at.waiting e → e.change.came ≡ None
    gives_alone now at e g = gives_bare now at at.waiting e g
      where
        done_bare : (now f : ℕ) (a : Act F) (d : Done) → Performs w me s now f a d → d.1.came ≡ None
        done_bare now f a d (tells told e) = ap (λ (c : Change). c.came) e
        done_bare now f a d (opens_to to class first i j k e) = ap (λ (x : Done). x.1.came) e
        done_bare now f a d (sends_on key value session i j e) = ap (λ (x : Done). x.1.came) e
        done_bare now f a d (takes_from key session next i j e) = ap (λ (x : Done). x.1.came) e
        done_bare now f a d (has_found id stx i e) = ap (λ (x : Done). x.1.came) e
        done_bare now f a d (has_tagged id i e) = ap (λ (x : Done). x.1.came) e
        done_bare now f a d (has_locked token amount list i e) = ap (λ (x : Done). x.1.came) e
        done_bare now f a d (has_answered q i e) = ap (λ (x : Done). x.1.came) e
        done_bare now f a d (has_recorded stx states i j k l m n e) = ap (λ (x : Done). x.1.came) e

        gives_bare : (now : ℕ) (at : Checkpoint F) (a : Act F) (e : Effect F) → Gives w me s now at a e → e.change.came ≡ None
        gives_bare now at a e (goes d o p i) = ap (λ (x : Effect F). x.change.came) i ∙ done_bare now at.flow a d p
        gives_bare now at a e (pushed frame i j k) = ap (λ (x : Effect F). x.change.came) k
        gives_bare now at a e (popped value frame below i j k) = ap (λ (x : Effect F). x.change.came) k
        gives_bare now at a e (finished value i j k) = ap (λ (x : Effect F). x.change.came) k
        gives_bare now at a e (failed code i k) = ap (λ (x : Effect F). x.change.came) k

    does_fit : (now : ℕ) (ev : Event) (body : Option Body) (e : Effect F) → Does w me s now ev body e → FitsOn ev e
    does_fit now ev body e (starts f class args made i j k l) = fits_on ev (event.Start f class args) e _ i l (record { event = (j, (refl, refl, refl), refl); change = plain_fits s.sessions (Some f) })
    does_fit now ev body e (answers_to key class first i j k l) =
        let a = answering_fits key class first (w.machine.begun class key (place w me (length s.flows) 0 now)) k in
        fits_on ev (event.Answer key) e _ i l (record { event = (k, a.0); change = a.1 })
    does_fit now ev body e (arrives key direction number b session i j k l m) =
        let p = and_parts (direction == direction_in (party me) key) _ l in let q = and_parts (number == length session.came) _ p.1 in let r = and_parts (is_lawful direction number b) _ q.1 in
        fits_on ev (event.Arrive key direction number) e _ i m (record {
          event = record { session = session; stands = k; incoming = eqb-true _ _ p.0; expected = eqb-true _ _ q.0; body = b; lawful = r.0; alone = refl };
          change = record { opened = tt; sent = tt; taken = tt; recorded = refl; locked = refl; once = refl; booked = tt };
        })
    does_fit now ev body e (acts f at i j g) = goes_fits ev f at e i j (gives_fits now at at.waiting e g) (gives_alone now at e g)

-- a step of a sound state gives a record that fits
pub step_fits : {F : Type 0} (w : Environment F) (me : ℕ) (s next : NodeState F) (cause : Cause) (item : Option Sent) (e : Effect F) → IsSound me s → node_step w me s cause item ≡ Some (next, e) → Fits w me s cause e
step_fits w me s next cause item e sound h =
    let st = step_taken w me s next cause item e h in
    let p = and_parts (cause.stamp == max s.stamp (stamp_in item) + 1) _ st.ordered in let q = and_parts (nat_lt cause.stamp (2 ^ 63)) _ p.1 in
    let stamp = eqb-true cause.stamp (max s.stamp (stamp_in item) + 1) p.0 in
    let on = does_fit w me s cause.stamp sound cause.moment.0 cause.event (body_in item) e (effect_does w me s cause.moment.0 cause.event (body_in item) e st.effect) in
    record { later = omega arith; bounded = ltb-true _ _ q.0; moment = leb-true _ _ q.1; event = on.event; change = on.change }

pub steps_fit : {F : Type 0} → StepsFit F
steps_fit w p s next cause item e sound h = step_fits w p s next cause item e sound h
