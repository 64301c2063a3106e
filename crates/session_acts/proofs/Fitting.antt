-- What is sent, accepted and taken fits the sessions.
use Rattle.std.proofs.Common.{◌≡◌, ℕ, suc, ◌+◌, ⊎_elim, Bool, true, false, ◌==◌, not, nat_lt, List, [], ◌∷◌, Option, Some, None, refl, sym, ◌∙◌, ap, subst, cond, map, length, slice_get, option_map, arith, eq-eqb, is_none}
use Rattle.std.specs.Prelude.{⊤, is_some}
use Rattle.std.specs.List.{list_all, list_any}
use Rattle.std.specs.Option.{option_and_then}
use Rattle.std.proofs.lemmas.Bool.{and_parts, and_from, or_cases, or_parts, or_left, eqb-true, eqb-false, ltb-true, not-true, false_from_ne_true}
use Rattle.net_base.specs.declared.names.Key.{Key}
use Rattle.net_base.specs.declared.values.Party.{Party}
use Rattle.net_base.proofs.Options.{none_of}
use Rattle.net_base.proofs.Lists.{find_map, find_push, found_passes}
use Rattle.ledger_types.specs.declared.value.Value.{Value}
use Rattle.session_wire.specs.declared.body.Body.{Body}
use Rattle.session_wire.specs.declared.body.Body.TheVariants as body_of
use Rattle.session_wire.specs.declared.change.SentItem.{SentItem}
use Rattle.session_wire.specs.Sessions.{Sent, Session, key_eq, session_of, changed_at, new_session, next_item, with_sent}
use Rattle.session_wire.specs.Rules.{is_opened_by, is_no_peer, next_key, direction_out, is_owner, sessions_of, owned_by, owned, item_on, is_new_key, is_init, is_lawful, FitsSent, FitsTaken, Continues}
use Rattle.session_wire.proofs.Keys.{key_same}
use Rattle.session_wire.proofs.Items.{IsLate, late_error, late_end}
use Rattle.session_table.specs.Changes.{IsFitting}
use Rattle.session_table.specs.Tables.{item_there}
use Rattle.net_model.specs.Fits.{is_counted, keys_differ}
use Rattle.net_model.proofs.Fitting.{differ_filter}
use Rattle.session_acts.specs.Parts.{is_last, AreSound}
use Rattle.session_acts.proofs.Owning.{key_found, found_own, place_between}

-- ---- a session that is opened

-- the node's next session is new
not_counted : (me : Party) (next : ℕ) (ss : List Session) → list_all (is_counted me.0 next) ss ≡ true → session_of (record { initiator = me; number = next }) ss ≡ None
not_counted me next [] h = refl
not_counted me next (x ∷ xs) h =
    let p = and_parts (is_counted me.0 next x) (list_all (is_counted me.0 next) xs) h in
    let other : key_eq (record { initiator = me; number = next }) x.key ≡ false = false_from_ne_true _ (λ k. ⊎_elim
    (λ q. let r = and_parts (me.0 == x.key.initiator.0) (next == x.key.number) k in eqb-false x.key.initiator.0 me.0 (not-true _ q) (sym (eqb-true me.0 x.key.initiator.0 r.0)))
    (λ q. let r = and_parts (me.0 == x.key.initiator.0) (next == x.key.number) k in let l = ltb-true x.key.number next q in let m = eqb-true next x.key.number r.1 in absurd (omega arith))
    (or_cases (not (x.key.initiator.0 == me.0)) (nat_lt x.key.number next) p.0)) in
    rw other (not_counted me next xs p.1)

-- the session that a flow opens fits, with its Init
pub opening_fits : (me : Party) (stamp nodes : ℕ) (list : List Session) (f : ℕ) (to : Party) (class : ℕ) (first : Value) → list_all (is_counted me.0 (next_key me list).number) list ≡ true → is_no_peer nodes me to ≡ false
    → IsFitting me stamp list (record { opened = Some (next_key me list, to); owner = f; sent = record { key = next_key me list; direction = 0; seq = 0; body = body_of.Init class first } ∷ []; came = None; came_key = None; taken = None })
opening_fits me stamp nodes list f to class first counted other =
    let key = next_key me list in
    let own : is_opened_by me key ≡ true = eq-eqb me.0 me.0 refl in
    let outgoing : 0 ≡ direction_out me key = rw own refl in
    record {
      came = tt;
      opened = record { next = refl; other = (or_parts (to.0 == me.0) _ other).0; init = or_left _ _ (and_from _ _ (key_same key) refl) };
      sent = (record { session = new_session key to (Some f) []; stands = find_push (λ s. key_eq key s.key) list (new_session key to (Some f) []) (not_counted me key.number list counted) (key_same key); outgoing = outgoing; next = refl; lawful = refl }, tt);
      taken = tt;
    }

-- the same, of parts that are equal to these
pub opening_made : (me : Party) (stamp nodes : ℕ) (list : List Session) (f : ℕ) (to : Party) (class : ℕ) (first : Value) (number : ℕ) (sent : List SentItem) → AreSound me list → is_no_peer nodes me to ≡ false → number ≡ (next_key me list).number
    → sent ≡ record { key = record { initiator = me; number = number }; direction = 0; seq = 0; body = body_of.Init class first } ∷ []
    → IsFitting me stamp list (record { opened = Some (record { initiator = me; number = number }, to); owner = f; sent = sent; came = None; came_key = None; taken = None })
opening_made me stamp nodes list f to class first number sent sound other e is =
    subst (λ (items : List SentItem). IsFitting me stamp list (record { opened = Some (record { initiator = me; number = number }, to); owner = f; sent = items; came = None; came_key = None; taken = None })) (sym is)
    (subst (λ (n : ℕ). IsFitting me stamp list (record { opened = Some (record { initiator = me; number = n }, to); owner = f; sent = record { key = record { initiator = me; number = n }; direction = 0; seq = 0; body = body_of.Init class first } ∷ []; came = None; came_key = None; taken = None })) (sym e)
    (opening_fits me stamp nodes list f to class first sound.counted other))

-- ---- items that are sent later

-- a session that is found has sent
pub begun_at : (list : List Session) (key : Key) (s : Session) → list_all (λ session. not (length session.sent == 0)) list ≡ true → session_of key list ≡ Some s → (length s.sent == 0) ≡ false
begun_at list key s begun h = not-true _ (found_passes (λ session. not (length session.sent == 0)) (λ x. key_eq key x.key) list s begun h)

pub late_last : (body : Body) → is_last body ≡ true → IsLate body
late_last (body_of.Error code) h = late_error code
late_last body_of.End h = late_end
late_last (body_of.Init class first) h = cc
late_last body_of.Confirm h = cc
late_last (body_of.Reject code) h = cc
late_last (body_of.Data v) h = cc

-- the next item of a session that has sent
continues : (me : Party) (list : List Session) (s : Session) (body : Body) → IsLate body → (length s.sent == 0) ≡ false → session_of s.key list ≡ Some s → Continues me (item_on me s body) list
continues me list s body late begun stands = record { session = s; stands = stands; outgoing = refl; next = refl; lawful = late _ _ begun }

-- one item that is sent fits
pub sending_fits : (me : Party) (stamp : ℕ) (list : List Session) (f : ℕ) (key : Key) (s : Session) (body : Body) → list_all (λ session. not (length session.sent == 0)) list ≡ true → IsLate body → session_of key list ≡ Some s
    → IsFitting me stamp list (record { opened = None; owner = f; sent = item_on me s body ∷ []; came = None; came_key = None; taken = None })
sending_fits me stamp list f key s body begun late h = record {
  came = tt;
  opened = tt;
  sent = (continues me list s body late (begun_at list key s begun h) (subst (λ (k : Key). session_of k list ≡ Some s) (key_found key list s h) h), tt);
  taken = tt;
}

-- the same, of a session that the flow owns
pub sending_made : (me : Party) (stamp : ℕ) (list : List Session) (f : ℕ) (key : Key) (body : Body) (sent : List SentItem) → AreSound me list → IsLate body → is_some (owned f key list) ≡ true → ((s : Session) → session_of key list ≡ Some s → sent ≡ item_on me s body ∷ [])
    → IsFitting me stamp list (record { opened = None; owner = f; sent = sent; came = None; came_key = None; taken = None })
sending_made me stamp list f key body sent sound late h k = by (session_of key list) refl h
  where
    by : (o : Option Session) → session_of key list ≡ o → is_some (owned_by f o) ≡ true → IsFitting me stamp list (record { opened = None; owner = f; sent = sent; came = None; came_key = None; taken = None })
    by None e i = cc
    by (Some s) e i = subst (λ (items : List SentItem). IsFitting me stamp list (record { opened = None; owner = f; sent = items; came = None; came_key = None; taken = None })) (sym (k s e)) (sending_fits me stamp list f key s body sound.begun late e)

-- ---- the last items

-- each of these is found by its key in the list, and has sent
abbrev Stand : List Session → List Session → Type 0
Stand list [] = ⊤
Stand list (s ∷ ss) = ((session_of s.key list ≡ Some s) × ((length s.sent == 0) ≡ false)) × Stand list ss

stand_each : (list ss : List Session) → ((n : ℕ) (s : Session) → slice_get ss n ≡ Some s → (session_of s.key list ≡ Some s) × ((length s.sent == 0) ≡ false)) → Stand list ss
stand_each list [] h = tt
stand_each list (s ∷ ss) h = (h 0 s refl, stand_each list ss (λ n t k. h (suc n) t k))

stands_apart : (list : List Session) (key : Key) (x : Sent) (s : Session) → key_eq key s.key ≡ false → session_of s.key list ≡ Some s → session_of s.key (changed_at key (with_sent x) list) ≡ Some s
stands_apart list key x s apart h =
    let change : Session → Session = λ t. cond (key_eq key t.key) (with_sent x t) t in
    find_map (λ t. key_eq s.key t.key) change list (λ t. by t (key_eq key t.key)) ∙ ap (option_map change) h ∙ rw apart refl
  where
    by : (t : Session) (b : Bool) → key_eq s.key (cond b (with_sent x t) t).key ≡ key_eq s.key t.key
    by t true = refl
    by t false = refl

stand_apart : (list ss : List Session) (key : Key) (x : Sent) → list_any (λ other. key_eq key other.key) ss ≡ false → Stand list ss → Stand (changed_at key (with_sent x) list) ss
stand_apart list [] key x apart h = tt
stand_apart list (s ∷ ss) key x apart h =
    let p = or_parts (key_eq key s.key) (list_any (λ other. key_eq key other.key) ss) apart in
    ((stands_apart list key x s p.0 h.0.0, h.0.1), stand_apart list ss key x p.1 h.1)

-- an item to each of these fits, one after the other
lasts_fit : (me : Party) (stamp : ℕ) (list ss : List Session) (body : Body) → IsLate body → keys_differ ss ≡ true → Stand list ss → FitsSent me stamp list (map (λ s. item_on me s body) ss)
lasts_fit me stamp list [] body late differ h = tt
lasts_fit me stamp list (s ∷ ss) body late differ h =
    let p = and_parts (not (list_any (λ other. key_eq s.key other.key) ss)) (keys_differ ss) differ in
    (continues me list s body late h.0.1 h.0.0, lasts_fit me stamp (changed_at s.key (with_sent (record { body = body; stamp = stamp })) list) ss body late p.1 (stand_apart list ss s.key (record { body = body; stamp = stamp }) (not-true _ p.0) h.1))

-- the last items of a flow fit
pub ending_fits : (me : Party) (stamp : ℕ) (list : List Session) (f : ℕ) (body : Body) → AreSound me list → is_last body ≡ true
    → IsFitting me stamp list (record { opened = None; owner = f; sent = map (λ s. item_on me s body) (sessions_of f list); came = None; came_key = None; taken = None })
ending_fits me stamp list f body sound last = record {
  came = tt;
  opened = tt;
  sent = lasts_fit me stamp list (sessions_of f list) body (late_last body last) (differ_filter (λ s. is_owner f s.owner) list sound.keys)
      (stand_each list (sessions_of f list) (λ n s k. let own = found_own (λ x. is_owner f x.owner) list n s sound.keys k in (own, begun_at list s.key s sound.begun own)));
  taken = tt;
}

-- the same, of items that are equal to these
pub ending_made : (me : Party) (stamp : ℕ) (list : List Session) (f : ℕ) (body : Body) (sent : List SentItem) → AreSound me list → is_last body ≡ true → sent ≡ map (λ s. item_on me s body) (sessions_of f list)
    → IsFitting me stamp list (record { opened = None; owner = f; sent = sent; came = None; came_key = None; taken = None })
ending_made me stamp list f body sent sound last is = subst (λ (items : List SentItem). IsFitting me stamp list (record { opened = None; owner = f; sent = items; came = None; came_key = None; taken = None })) (sym is) (ending_fits me stamp list f body sound last)

-- ---- items that are taken

-- a number of taken items fits, where it is that of the item that is there
pub taking_fits : (me : Party) (stamp : ℕ) (list : List Session) (f : ℕ) (key : Key) (s : Session) → session_of key list ≡ Some s
    → IsFitting me stamp list (record { opened = None; owner = f; sent = []; came = None; came_key = None; taken = option_map (λ n. (key, n + 1)) (option_and_then (λ found. found.0) (next_item s s.ending)) })
taking_fits me stamp list f key s h = record { came = tt; opened = tt; sent = tt; taken = by (option_and_then (λ found. found.0) (next_item s s.ending)) refl }
  where
    by : (o : Option ℕ) → option_and_then (λ found. found.0) (next_item s s.ending) ≡ o → FitsTaken list (option_map (λ n. (key, n + 1)) o)
    by None e = tt
    by (Some n) e = let p = place_between s s.ending n e in let q = p.0 in let r = p.1 in record { session = s; stands = h; above = omega arith; below = omega arith }

-- the same, of a session that the flow owns
pub taking_made : (me : Party) (stamp : ℕ) (list : List Session) (f : ℕ) (key : Key) (sent : List SentItem) (taken : Option (Key × ℕ)) → is_some (owned f key list) ≡ true → sent ≡ [] → taken ≡ option_map (λ n. (key, n + 1)) (option_and_then (λ (found : Option ℕ × Body). found.0) (item_there key list))
    → IsFitting me stamp list (record { opened = None; owner = f; sent = sent; came = None; came_key = None; taken = taken })
taking_made me stamp list f key sent taken h none t = by (session_of key list) refl h
  where
    by : (o : Option Session) → session_of key list ≡ o → is_some (owned_by f o) ≡ true → IsFitting me stamp list (record { opened = None; owner = f; sent = sent; came = None; came_key = None; taken = taken })
    by None e i = cc
    by (Some s) e i =
        let number : taken ≡ option_map (λ n. (key, n + 1)) (option_and_then (λ (found : Option ℕ × Body). found.0) (next_item s s.ending)) = t ∙ ap (λ (o : Option Session). option_map (λ n. (key, n + 1)) (option_and_then (λ (found : Option ℕ × Body). found.0) (option_and_then (λ x. next_item x x.ending) o))) e in
        subst (λ (items : List SentItem). IsFitting me stamp list (record { opened = None; owner = f; sent = items; came = None; came_key = None; taken = taken })) (sym none)
        (subst (λ (n : Option (Key × ℕ)). IsFitting me stamp list (record { opened = None; owner = f; sent = []; came = None; came_key = None; taken = n })) (sym number) (taking_fits me stamp list f key s e))

-- ---- items that are accepted

-- an Init of a new session fits, with its answer
pub answering_fits : (nodes stamp : ℕ) (me : Party) (list : List Session) (key : Key) (init answer : Body) (f : ℕ) → is_new_key nodes me list key ≡ true → is_init init ≡ true → is_lawful 1 0 answer ≡ true
    → IsFitting me stamp list (record { opened = None; owner = f; sent = record { key = key; direction = 1; seq = 0; body = answer } ∷ []; came = Some init; came_key = Some key; taken = None })
answering_fits nodes stamp me list key (body_of.Init class first) answer f new is lawful =
    let p = and_parts (is_none (session_of key list)) (not (is_no_peer nodes me key.initiator)) new in
    let fresh = none_of (session_of key list) p.0 in
    let other : is_opened_by me key ≡ false = (or_parts (is_opened_by me key) _ (not-true _ p.1)).0 in
    let incoming : 1 ≡ direction_out me key = rw other refl in
    record {
      came = record { begins = λ _. record { is_new = fresh; other = other; answered = (refl, refl, refl, lawful) }; goes_on = λ e. cc };
      opened = tt;
      sent = (record { session = new_session key key.initiator _ (body_of.Init class first ∷ []); stands = find_push (λ s. key_eq key s.key) list _ fresh (key_same key); outgoing = incoming; next = refl; lawful = lawful }, tt);
      taken = tt;
    }
answering_fits nodes stamp me list key other answer f new is lawful = cc

-- the same, of items that are equal to these
pub answering_made : (nodes stamp : ℕ) (me : Party) (list : List Session) (key : Key) (init : Body) (f : ℕ) (begins : Bool) (sent : List SentItem) → is_new_key nodes me list key ≡ true → is_init init ≡ true
    → sent ≡ record { key = key; direction = 1; seq = 0; body = cond begins body_of.Confirm (body_of.Reject 5) } ∷ []
    → IsFitting me stamp list (record { opened = None; owner = f; sent = sent; came = Some init; came_key = Some key; taken = None })
answering_made nodes stamp me list key init f begins sent new is same =
    subst (λ (items : List SentItem). IsFitting me stamp list (record { opened = None; owner = f; sent = items; came = Some init; came_key = Some key; taken = None })) (sym same)
    (answering_fits nodes stamp me list key init (cond begins body_of.Confirm (body_of.Reject 5)) f new is (elim begins as (λ b. is_lawful 1 0 (cond b body_of.Confirm (body_of.Reject 5)) ≡ true) [ true ↦ refl | false ↦ refl ]))
