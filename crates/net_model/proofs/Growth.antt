-- What stands in the sent lists stays there, and what is new bears the stamp of its cause.
use Rattle.std.proofs.Common.{◌≡◌, ℕ, ⊎_elim, List, [], ◌∷◌, ◌++◌, Option, Some, None, true, false, cond, ◌==◌, map, find, option_map, option_to_list, slice_get, refl, sym, ap}
use Rattle.net_base.specs.declared.names.Key.{Key}
use Rattle.net_base.specs.declared.values.Party.{Party}
use Rattle.net_base.specs.declared.causes.Cause.{Cause}
use Rattle.net_base.specs.declared.causes.Event.{Event}
use Rattle.net_base.specs.declared.causes.Event.TheVariants as event
use Rattle.net_base.proofs.Options.{cond_all}
use Rattle.net_base.proofs.Lists.{find_map}
use Rattle.session_wire.specs.declared.body.Body.{Body}
use Rattle.session_wire.specs.declared.change.SentItem.{SentItem}
use Rattle.session_wire.specs.Sessions.{Sent, Session, changed_at, key_eq, opened_on, sent_on, session_of, taken_on, with_came, with_sent, with_taken}
use Rattle.net_model.specs.State.{Effect, came_on, sessions_on, flow_of}
use Rattle.net_model.specs.Runs.{sent_to}
use Rattle.net_model.proofs.Basics.{find_before, find_last, get_before, get_last}

abbrev pub item_in : List Session → ℕ → Key → ℕ → Option Sent
item_in sessions me key n = sent_to me n (session_of key sessions)

-- no item is lost or changed, and items of other stamps than t are old
pub record Grows (t : ℕ) (old new : List Session) : Type 0 where
  pub on : (me n : ℕ) (key : Key) (item : Sent) → item_in old me key n ≡ Some item → item_in new me key n ≡ Some item
  pub back : (me n : ℕ) (key : Key) (item : Sent) → item_in new me key n ≡ Some item → (item.stamp ≡ t → ⊥) → item_in old me key n ≡ Some item

pub grows_same : (t : ℕ) (ss : List Session) → Grows t ss ss
grows_same t ss = record { on = λ me n key item h. h; back = λ me n key item h k. h }

pub grows_then : {t : ℕ} {a b c : List Session} → Grows t a b → Grows t b c → Grows t a c
grows_then g h = record { on = λ me n key item k. h.on me n key item (g.on me n key item k); back = λ me n key item k l. g.back me n key item (h.back me n key item k l) l }

-- ---- a session is made

no_items : (me n : ℕ) (s : Session) (item : Sent) → s.sent ≡ [] → sent_to me n (Some s) ≡ Some item → ⊥
no_items me n s item e h = let k : cond (s.peer.0 == me) (slice_get [] n) None ≡ Some item = rw e at h in (elim (s.peer.0 == me) as (λ b. cond b None None ≡ Some item → ⊥) [ true ↦ λ k. cc | false ↦ λ k. cc ]) k

added_on : (o : Option Session) (p : Option Session) (me n : ℕ) (item : Sent) → ((s : Session) → o ≡ Some s → p ≡ Some s) → sent_to me n o ≡ Some item → sent_to me n p ≡ Some item
added_on None p me n item f h = cc
added_on (Some s) p me n item f h = rw (f s refl) h

added_back : (ss : List Session) (s : Session) (key : Key) (o : Option Session) (me n : ℕ) (item : Sent) → s.sent ≡ [] → find (λ x. key_eq key x.key) (ss ++ s ∷ []) ≡ o → sent_to me n o ≡ Some item → item_in ss me key n ≡ Some item
added_back ss s key None me n item e f h = cc
added_back ss s key (Some x) me n item e f h =
    ⊎_elim (λ k. rw k h) (λ k. absurd (no_items me n s item e (rw k h))) (find_last (λ x. key_eq key x.key) ss s x f)

pub grows_added : (t : ℕ) (ss : List Session) (s : Session) → s.sent ≡ [] → Grows t ss (ss ++ s ∷ [])
grows_added t ss s e = record {
  on = λ me n key item h. added_on (session_of key ss) (session_of key (ss ++ s ∷ [])) me n item (λ x k. find_before (λ y. key_eq key y.key) ss (s ∷ []) x k) h;
  back = λ me n key item h k. added_back ss s key _ me n item e refl h;
}

-- ---- a session is changed

-- the change keeps the key and the peer, and may send items of this stamp
pub record Extends (t : ℕ) (old new : Session) : Type 0 where
  pub key : new.key ≡ old.key
  pub peer : new.peer ≡ old.peer
  pub on : (n : ℕ) (item : Sent) → slice_get old.sent n ≡ Some item → slice_get new.sent n ≡ Some item
  pub back : (n : ℕ) (item : Sent) → slice_get new.sent n ≡ Some item → (item.stamp ≡ t → ⊥) → slice_get old.sent n ≡ Some item

extends_on : (t me n : ℕ) (old new : Session) (item : Sent) → Extends t old new → sent_to me n (Some old) ≡ Some item → sent_to me n (Some new) ≡ Some item
extends_on t me n old new item x h = rw x.peer ((elim (old.peer.0 == me) as (λ b. cond b (slice_get old.sent n) None ≡ Some item → cond b (slice_get new.sent n) None ≡ Some item) [ true ↦ λ k. x.on n item k | false ↦ λ k. k ]) h)

extends_back : (t me n : ℕ) (old new : Session) (item : Sent) → Extends t old new → sent_to me n (Some new) ≡ Some item → (item.stamp ≡ t → ⊥) → sent_to me n (Some old) ≡ Some item
extends_back t me n old new item x h l = (elim (old.peer.0 == me) as (λ b. cond b (slice_get new.sent n) None ≡ Some item → cond b (slice_get old.sent n) None ≡ Some item) [ true ↦ λ k. x.back n item k l | false ↦ λ k. k ]) (rw x.peer at h)

module _ (t : ℕ) (change : Session → Session) (keeps : (s : Session) → Extends t s (change s)) where
  mapped : (ss : List Session) (key : Key) → session_of key (map change ss) ≡ option_map change (session_of key ss)
  mapped ss key = find_map (λ s. key_eq key s.key) change ss (λ s. ap (key_eq key) (keeps s).key)

  mapped_on : (o : Option Session) (me n : ℕ) (item : Sent) → sent_to me n o ≡ Some item → sent_to me n (option_map change o) ≡ Some item
  mapped_on None me n item h = cc
  mapped_on (Some s) me n item h = extends_on t me n s (change s) item (keeps s) h

  mapped_back : (o : Option Session) (me n : ℕ) (item : Sent) → sent_to me n (option_map change o) ≡ Some item → (item.stamp ≡ t → ⊥) → sent_to me n o ≡ Some item
  mapped_back None me n item h l = cc
  mapped_back (Some s) me n item h l = extends_back t me n s (change s) item (keeps s) h l

  pub grows_mapped : (ss : List Session) → Grows t ss (map change ss)
  grows_mapped ss = record {
    on = λ me n key item h. rw (mapped ss key) (mapped_on (session_of key ss) me n item h);
    back = λ me n key item h l. mapped_back (session_of key ss) me n item (rw (mapped ss key) at h) l;
  }

extends_same : (t : ℕ) (s : Session) → Extends t s s
extends_same t s = record { key = refl; peer = refl; on = λ n item h. h; back = λ n item h l. h }

extends_sent : (t : ℕ) (body : Body) (s : Session) → Extends t s (with_sent (record { body = body; stamp = t }) s)
extends_sent t body s = record {
  key = refl;
  peer = refl;
  on = λ n item h. get_before s.sent _ n item h;
  back = λ n item h l. ⊎_elim (λ k. k) (λ k. let e : t ≡ item.stamp = ap (λ i. i.stamp) k in absurd (l (sym e))) (get_last s.sent (record { body = body; stamp = t }) n item h);
}

pub grows_changed : (t : ℕ) (key : Key) (change : Session → Session) (ss : List Session) → ((s : Session) → Extends t s (change s)) → Grows t ss (changed_at key change ss)
grows_changed t key change ss keeps = grows_mapped t (λ s. cond (key_eq key s.key) (change s) s) (λ s. cond_all (Extends t s) (key_eq key s.key) (change s) s (keeps s) (extends_same t s)) ss

-- ---- a whole effect

grows_came : (t : ℕ) (e : Event) (bodies : List Body) (owner : Option ℕ) (ss : List Session) → Grows t ss (came_on e bodies owner ss)
grows_came t (event.Answer key) bodies owner ss = grows_added t ss _ refl
grows_came t (event.Arrive key direction number) bodies owner ss = grows_changed t key (with_came bodies) ss (λ s. record { key = refl; peer = refl; on = λ n item h. h; back = λ n item h l. h })
grows_came t (event.Start flow class args) bodies owner ss = grows_same t ss
grows_came t (event.Move flow) bodies owner ss = grows_same t ss
grows_came t (event.Lapse flow) bodies owner ss = grows_same t ss

grows_opened : (t : ℕ) (opened : Option (Key × Party)) (owner : Option ℕ) (ss : List Session) → Grows t ss (opened_on opened owner ss)
grows_opened t None owner ss = grows_same t ss
grows_opened t (Some opened) owner ss = grows_added t ss _ refl

grows_sent : (t : ℕ) (items : List SentItem) (ss : List Session) → Grows t ss (sent_on t items ss)
grows_sent t [] ss = grows_same t ss
grows_sent t (item ∷ items) ss = grows_then (grows_changed t item.key (with_sent (record { body = item.body; stamp = t })) ss (extends_sent t item.body)) (grows_sent t items _)

grows_taken : (t : ℕ) (taken : Option (Key × ℕ)) (ss : List Session) → Grows t ss (taken_on taken ss)
grows_taken t None ss = grows_same t ss
grows_taken t (Some taken) ss = grows_changed t taken.0 (with_taken taken.1) ss (λ s. record { key = refl; peer = refl; on = λ n item h. h; back = λ n item h l. h })

pub sessions_grow : {F : Type 0} (cause : Cause) (e : Effect F) (ss : List Session) → Grows cause.stamp ss (sessions_on cause e ss)
sessions_grow cause e ss =
    grows_then (grows_came cause.stamp cause.event (option_to_list e.change.came) (flow_of e.flow) ss)
    (grows_then (grows_opened cause.stamp e.change.opened (flow_of e.flow) _)
    (grows_then (grows_sent cause.stamp e.change.sent _) (grows_taken cause.stamp e.change.taken _)))
