-- A record that fits keeps a node's sessions lawful.
use Rattle.std.proofs.Common.{◌≡◌, ◌≢◌, ℕ, ◌<◌, ◌^◌, ◌==◌, List, [], ◌∷◌, ◌++◌, length, map, option_to_list, Option, Some, None, true, false, not, is_none, nat_le, refl, ap, arith}
use Rattle.std.specs.List.{AllByRecursion, IsDistinct, list_any}
use Rattle.std.specs.Option.{IfSome}
use Rattle.std.proofs.lemmas.Bool.{and_parts, or_parts, not-true, eqb-false, eq-eqb}
use Rattle.net_base.specs.declared.names.Key.{Key}
use Rattle.net_base.specs.declared.values.Party.{Party}
use Rattle.net_base.specs.declared.causes.Cause.{Cause}
use Rattle.net_base.specs.declared.causes.Event.{Event}
use Rattle.net_base.specs.declared.causes.Event.TheVariants as event
use Rattle.net_base.proofs.Lists.{all_weaken, all_push}
use Rattle.session_wire.specs.declared.body.Body.{Body}
use Rattle.session_wire.specs.declared.change.SentItem.{SentItem}
use Rattle.session_wire.specs.Sessions.{Session, key_eq, session_of, new_session, opened_on, sent_on}
use Rattle.session_wire.specs.Rules.{is_opened_by, is_no_peer, is_new_key}
use Rattle.session_frames.specs.Lawful.{IsLawful, AreLawful, IsWithin, AreApart}
use Rattle.session_frames.proofs.Stays.{arriving, sending, taking}
use Rattle.transition_record.specs.Causes.{IsEvent}
use Rattle.transition_record.specs.Changes.{IsOpened, IsSentItem}
use Rattle.net_model.specs.Environment.{Environment, party}
use Rattle.net_model.specs.State.{NodeState, Effect, flow_of, came_on, sessions_on}
use Rattle.net_model.specs.Fits.{Fits, FitsEvent, FitsOpened, IsSound, keys_differ}
use Rattle.net_model.proofs.Sound.{Kept, came_kept, came_count, opened_kept}
use Rattle.node_tables.specs.Fits.{begun_by}
use Rattle.node_tables.proofs.Small.{init_there}

-- ---- sessions that are made

made_lawful : (me : Party) (key : Key) (peer : Party) (owner : Option ℕ) (came : List Body) → peer.0 < 16 → peer.0 ≢ me.0 → key.number < 2 ^ 32 → (is_opened_by me key ≡ false → (peer ≡ key.initiator) × (0 < length came)) → IsLawful me (new_session key peer owner came)
made_lawful me key peer owner came low other number answered =
    record { peer = low; other = other; number = number; answered = λ e. let a = answered e in record { peer = a.0; came = a.1 }; few = omega arith; items = λ n item there. cc }

push_lawful : (me : Party) (ss : List Session) (x : Session) → AreLawful me ss → IsLawful me x → AreLawful me (ss ++ x ∷ [])
push_lawful me ss x h lawful = record { node = h.node; each = all_push (IsLawful me) ss x h.each lawful }

other_of : (nodes : ℕ) (me : Party) (ss : List Session) (key : Key) → is_new_key nodes me ss key ≡ true → key.initiator.0 ≢ me.0
other_of nodes me ss key h =
    let p = and_parts (is_none (session_of key ss)) (not (is_no_peer nodes me key.initiator)) h in
    let q = or_parts (key.initiator.0 == me.0) (nat_le nodes key.initiator.0) (not-true _ p.1) in
    eqb-false key.initiator.0 me.0 q.0

came_lawful : {F : Type 0} (w : Environment F) (me : ℕ) (s : NodeState F) (event : Event) (e : Effect F) → IsEvent event → FitsEvent w me s event e → AreLawful (party me) s.sessions → AreLawful (party me) (came_on event (option_to_list e.change.came) (flow_of e.flow) s.sessions)
came_lawful w me s (event.Start f class args) e limits h all = all
came_lawful w me s (event.Move f) e limits h all = all
came_lawful w me s (event.Lapse f) e limits h all = all
came_lawful w me s (event.Arrive key direction number) e limits h all = arriving (party me) s.sessions key (option_to_list e.change.came) all
came_lawful w me s (event.Answer key) e limits h all =
    let one = init_there (length s.flows) key e e.change.came h.1 in
    push_lawful (party me) s.sessions (new_session key key.initiator (flow_of e.flow) (option_to_list e.change.came)) all
    (made_lawful (party me) key key.initiator (flow_of e.flow) (option_to_list e.change.came) limits.0 (other_of w.nodes (party me) s.sessions key h.0) limits.1 (λ other. (refl, omega (arith, one))))

opened_lawful : {F : Type 0} (w : Environment F) (me : ℕ) (s : NodeState F) (later : List Session) (owner : Option ℕ) (sent : List SentItem) (opened : Option (Key × Party)) (ss : List Session) → IfSome opened IsOpened → FitsOpened w me s later owner sent opened → AreLawful (party me) ss → AreLawful (party me) (opened_on opened owner ss)
opened_lawful w me s later owner sent None ss limits h all = all
opened_lawful w me s later owner sent (Some opened) ss limits h all =
    let own : is_opened_by (party me) opened.0 ≡ true = eq-eqb opened.0.initiator.0 me (ap (λ (k : Key). k.initiator.0) h.opens.next) in
    push_lawful (party me) ss (new_session opened.0 opened.1 owner []) all (made_lawful (party me) opened.0 opened.1 owner [] limits.1 (eqb-false opened.1.0 me h.opens.other) limits.0.1 (λ other. absurd cc))

-- ---- keys that differ

apart_from : (k : Key) (ss : List Session) → list_any (λ other. key_eq k other.key) ss ≡ false → AllByRecursion (λ y. key_eq k y ≡ false) (map (λ s. s.key) ss)
apart_from k [] h = tt
apart_from k (s ∷ ss) h = let p = or_parts (key_eq k s.key) (list_any (λ other. key_eq k other.key) ss) h in (p.0, apart_from k ss p.1)

apart : (ss : List Session) → keys_differ ss ≡ true → AreApart ss
unfolding IsDistinct
apart [] h = tt
apart (s ∷ ss) h = let p = and_parts (not (list_any (λ other. key_eq s.key other.key) ss)) (keys_differ ss) h in (apart_from s.key ss (not-true _ p.0), apart ss p.1)

-- ---- one record more

pub record_lawful : {F : Type 0} (w : Environment F) (me : ℕ) (s : NodeState F) (cause : Cause) (e : Effect F) → IsSound me s → IsEvent cause.event → IfSome e.change.opened IsOpened → AllByRecursion IsSentItem e.change.sent → Fits w me s cause e → AreLawful (party me) s.sessions → AreLawful (party me) (sessions_on cause e s.sessions)
record_lawful w me s cause e sound event opened sent h all =
    let came = came_on cause.event (option_to_list e.change.came) (flow_of e.flow) s.sessions in
    let begun = begun_by cause e s.sessions in
    let at_begun : AreLawful (party me) begun = opened_lawful w me s begun (flow_of e.flow) e.change.sent e.change.opened came opened h.change.opened (came_lawful w me s cause.event e event h.event all) in
    let kept : Kept me e.change.sent begun = opened_kept w me s sound e.change.opened (flow_of e.flow) e.change.sent begun came (came_count w me s sound cause.event e h.event) h.change.opened (came_kept w me s sound cause.event e h.event) in
    let within : AllByRecursion IsWithin e.change.sent = all_weaken IsSentItem IsWithin e.change.sent (λ item k. record { number = k.1.1.0; body = k.1.1.1 }) sent in
    let later = h.later in
    taking (party me) (sent_on cause.stamp e.change.sent begun) e.change.taken (sending (party me) begun cause.stamp e.change.sent (omega (arith, later)) h.bounded within h.change.sent (apart begun kept.keys) at_begun)
