-- A step of a node loses no item that was sent or arrived, and its sessions keep their keys and sides.
use Rattle.std.proofs.Common.{◌≡◌, ℕ, ◌≤◌, ◌⊎◌, inl, inr, List, [], ◌∷◌, ◌++◌, Option, Some, None, Bool, true, false, cond, map, length, option_map, option_to_list, slice_get, slice_set, refl, ap, ◌∙◌, arith, length-append}
use Rattle.std.specs.List.{AllByRecursion}
use Rattle.std.proofs.lemmas.Option.{slice_get-map}
use Rattle.std.proofs.lemmas.Bool.{cases_eq}
use Rattle.net_base.specs.declared.names.Key.{Key}
use Rattle.net_base.specs.declared.values.Party.{Party}
use Rattle.net_base.specs.declared.causes.Cause.{Cause}
use Rattle.net_base.specs.declared.causes.Event.{Event}
use Rattle.net_base.specs.declared.causes.Event.TheVariants as event
use Rattle.net_base.proofs.Lists.{find_map, get_there, all_weaken, get_other}
use Rattle.session_wire.specs.declared.body.Body.{Body}
use Rattle.session_wire.specs.declared.change.SentItem.{SentItem}
use Rattle.session_wire.specs.declared.frame.Frame.{Frame}
use Rattle.session_wire.specs.declared.frame.Frame.TheVariants.{Message, Ack}
use Rattle.session_wire.specs.Sessions.{Sent, Session, changed_at, key_eq, opened_on, sent_on, session_of, taken_on, with_came, with_sent, with_taken}
use Rattle.session_frames.specs.Judging.{arrived}
use Rattle.net_model.specs.State.{NodeState, Effect, apply_effect, came_on, sessions_on, flow_of}
use Rattle.net_model.specs.Runs.{item_from}
use Rattle.net_model.proofs.Basics.{find_before, get_before, apply_sessions}
use Rattle.net_model.proofs.Local.{set_grows}
use Rattle.network_core.specs.Worlds.{came_at, IsTrue, WaitsAt, AreArrived}

-- each session keeps its place, its key and its other side, and as many items as arrived in the session of a key are there still
pub record Keeps (old new : List Session) : Type 0 where
  pub came : (key : Key) → arrived (session_of key old) ≤ arrived (session_of key new)
  pub places : (i : ℕ) (s : Session) → slice_get old i ≡ Some s → (t : Session) × (slice_get new i ≡ Some t) × (t.key ≡ s.key) × (t.peer ≡ s.peer)

pub keeps_same : (ss : List Session) → Keeps ss ss
keeps_same ss = record { came = λ key. omega arith; places = λ i s h. (s, h, refl, refl) }

pub keeps_then : (a b c : List Session) → Keeps a b → Keeps b c → Keeps a c
keeps_then a b c h k = record {
  came = λ key. omega (arith, h.came key, k.came key);
  places = λ i s at. let one = h.places i s at in let two = k.places i one.0 one.1 in (two.0, two.1, two.2 ∙ one.2, two.3 ∙ one.3);
}

keeps_added : (ss : List Session) (s : Session) → Keeps ss (ss ++ s ∷ [])
keeps_added ss s = record { came = λ key. by key (session_of key ss) refl; places = λ i x h. (x, get_before ss (s ∷ []) i x h, refl, refl) }
  where
    by : (key : Key) (o : Option Session) → session_of key ss ≡ o → arrived (session_of key ss) ≤ arrived (session_of key (ss ++ s ∷ []))
    by key None is = rw is (omega arith)
    by key (Some x) is = let there : session_of key (ss ++ s ∷ []) ≡ Some x = find_before (λ y. key_eq key y.key) ss (s ∷ []) x is in rw (is, there) (omega arith)

-- a change of a session that keeps its key and its other side, and loses no item that arrived
pub record KeepsOne (old new : Session) : Type 0 where
  pub key : new.key ≡ old.key
  pub peer : new.peer ≡ old.peer
  pub came : length old.came ≤ length new.came

module _ (change : Session → Session) (keeps : (s : Session) → KeepsOne s (change s)) where
  mapped_came : (o : Option Session) → arrived o ≤ arrived (option_map change o)
  mapped_came None = omega arith
  mapped_came (Some s) = (keeps s).came

  keeps_mapped : (ss : List Session) → Keeps ss (map change ss)
  keeps_mapped ss = record {
    came = λ key. let found = find_map (λ s. key_eq key s.key) change ss (λ s. ap (key_eq key) (keeps s).key) in rw found (mapped_came (session_of key ss));
    places = λ i s h. (change s, slice_get-map change ss i ∙ ap (option_map change) h, (keeps s).key, (keeps s).peer);
  }

keeps_one_same : (s : Session) → KeepsOne s s
keeps_one_same s = record { key = refl; peer = refl; came = omega arith }

keeps_changed : (key : Key) (change : Session → Session) (ss : List Session) → ((s : Session) → KeepsOne s (change s)) → Keeps ss (changed_at key change ss)
keeps_changed key change ss keeps = keeps_mapped (λ s. cond (key_eq key s.key) (change s) s) (λ s. by s (key_eq key s.key)) ss
  where
    by : (s : Session) (b : Bool) → KeepsOne s (cond b (change s) s)
    by s true = keeps s
    by s false = keeps_one_same s

-- ---- a whole effect

keeps_came : (e : Event) (bodies : List Body) (owner : Option ℕ) (ss : List Session) → Keeps ss (came_on e bodies owner ss)
keeps_came (event.Answer key) bodies owner ss = keeps_added ss _
keeps_came (event.Arrive key direction number) bodies owner ss = keeps_changed key (with_came bodies) ss (λ s. record { key = refl; peer = refl; came = omega (arith, length-append s.came bodies) })
keeps_came (event.Start flow class args) bodies owner ss = keeps_same ss
keeps_came (event.Move flow) bodies owner ss = keeps_same ss
keeps_came (event.Lapse flow) bodies owner ss = keeps_same ss

keeps_opened : (opened : Option (Key × Party)) (owner : Option ℕ) (ss : List Session) → Keeps ss (opened_on opened owner ss)
keeps_opened None owner ss = keeps_same ss
keeps_opened (Some opened) owner ss = keeps_added ss _

keeps_sent : (t : ℕ) (items : List SentItem) (ss : List Session) → Keeps ss (sent_on t items ss)
keeps_sent t [] ss = keeps_same ss
keeps_sent t (item ∷ items) ss =
    let one = changed_at item.key (with_sent (record { body = item.body; stamp = t })) ss in
    keeps_then ss one (sent_on t items one) (keeps_changed item.key (with_sent (record { body = item.body; stamp = t })) ss (λ s. record { key = refl; peer = refl; came = omega arith })) (keeps_sent t items one)

keeps_taken : (taken : Option (Key × ℕ)) (ss : List Session) → Keeps ss (taken_on taken ss)
keeps_taken None ss = keeps_same ss
keeps_taken (Some taken) ss = keeps_changed taken.0 (with_taken taken.1) ss (λ s. record { key = refl; peer = refl; came = omega arith })

-- what follows the acceptance of an item
pub keeps_rest : {F : Type 0} (cause : Cause) (e : Effect F) (ss : List Session) → Keeps ss (taken_on e.change.taken (sent_on cause.stamp e.change.sent (opened_on e.change.opened (flow_of e.flow) ss)))
keeps_rest cause e ss =
    let one = opened_on e.change.opened (flow_of e.flow) ss in
    let two = sent_on cause.stamp e.change.sent one in
    keeps_then ss one (taken_on e.change.taken two) (keeps_opened e.change.opened (flow_of e.flow) ss) (keeps_then one two (taken_on e.change.taken two) (keeps_sent cause.stamp e.change.sent one) (keeps_taken e.change.taken two))

pub keeps_sessions : {F : Type 0} (cause : Cause) (e : Effect F) (ss : List Session) → Keeps ss (sessions_on cause e ss)
keeps_sessions cause e ss =
    let one = came_on cause.event (option_to_list e.change.came) (flow_of e.flow) ss in
    keeps_then ss one (sessions_on cause e ss) (keeps_came cause.event (option_to_list e.change.came) (flow_of e.flow) ss) (keeps_rest cause e one)

-- ---- networks

-- no item is lost, nor one that arrived
pub record Wider {F : Type 0} (old new : List (NodeState F)) : Type 0 where
  pub items : (q me n : ℕ) (key : Key) (item : Sent) → item_from old me q key n ≡ Some item → item_from new me q key n ≡ Some item
  pub came : (q : ℕ) (key : Key) → came_at old q key ≤ came_at new q key

pub wider_same : {F : Type 0} (net : List (NodeState F)) → Wider net net
wider_same net = record { items = λ q me n key item h. h; came = λ q key. omega arith }

-- how many arrived at a node that is there
pub came_there : {F : Type 0} (net : List (NodeState F)) (q : ℕ) (key : Key) (s : NodeState F) → slice_get net q ≡ Some s → came_at net q key ≡ arrived (session_of key s.sessions)
came_there net q key s is = rw is

pub set_wider : {F : Type 0} (net : List (NodeState F)) (p : ℕ) (s : NodeState F) (cause : Cause) (e : Effect F) → slice_get net p ≡ Some s → Wider net (slice_set net p (apply_effect s cause e))
set_wider {F} net p s cause e is = record { items = (set_grows net p s cause e is).on; came = λ q key. by q key (cases_eq q p) }
  where
    next : NodeState F
    next = apply_effect s cause e

    more : (key : Key) → arrived (session_of key s.sessions) ≤ arrived (session_of key next.sessions)
    more key = rw (apply_sessions s cause e) ((keeps_sessions cause e s.sessions).came key)

    by : (q : ℕ) (key : Key) → (q ≡ p) ⊎ (q ≡ p → ⊥) → came_at net q key ≤ came_at (slice_set net p next) q key
    by q key (inl here) =
        let before = came_there net q key s (ap (slice_get net) here ∙ is) in
        let after = came_there (slice_set net p next) q key next (ap (slice_get (slice_set net p next)) here ∙ get_there net p s next is) in
        rw (before, after) (more key)
    by q key (inr other) = rw (get_other net p next q other) (omega arith)

module _ {F : Type 0} (old new : List (NodeState F)) (wider : Wider old new) where
  wider_true : (f : Frame) → IsTrue old f → IsTrue new f
  wider_true (Message from to key direction seq stamp body) h = wider.items from.0 to.0 seq key _ h
  wider_true (Ack from to key direction upto) h = omega (arith, wider.came from.0 key, h)

  wider_waits : (m : ℕ) (bytes : List ℕ) → WaitsAt old m bytes → WaitsAt new m bytes
  wider_waits m bytes h = record { carried = h.carried; lawful = h.lawful; whole = h.whole; to = h.to; true_is = wider_true h.carried h.true_is }

  pub wider_all : (m : ℕ) (frames : List (List ℕ)) → AllByRecursion (WaitsAt old m) frames → AllByRecursion (WaitsAt new m) frames
  wider_all m frames h = all_weaken (WaitsAt old m) (WaitsAt new m) frames (wider_waits m) h

  pub wider_arrived : (ss : List Session) (acked : List ℕ) → AreArrived old ss acked → AreArrived new ss acked
  wider_arrived ss acked h i session n at is = omega (arith, h i session n at is, wider.came session.peer.0 session.key)
