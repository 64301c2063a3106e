-- What transitions make of lawful sessions.
use Rattle.std.proofs.Common.{◌≡◌, inl, inr, ◌<◌, ◌^◌, ℕ, Bool, true, false, cond, List, [], ◌∷◌, Some, None, refl, ap, sym, subst, ◌∙◌, length, arith, map, length-append}
use Rattle.std.specs.List.{AllByRecursion, IsDistinct}
use Rattle.net_base.proofs.Lists.{get_push}
use Rattle.net_base.specs.declared.names.Key.{Key}
use Rattle.net_base.specs.declared.values.Party.{Party}
use Rattle.session_wire.specs.Bodies.{IsBodyAt}
use Rattle.session_wire.specs.Rules.{direction_out, is_lawful}
use Rattle.session_wire.specs.Sessions.{Session, Sent, key_eq, session_of, changed_at, with_came, with_sent, with_taken}
use Rattle.session_wire.specs.declared.body.Body.{Body}
use Rattle.session_wire.specs.declared.change.SentItem.{SentItem}
use Rattle.session_frames.specs.Lawful.{IsSentAt, IsLawful, IsWithin, AreApart, ArrivingIsLawful, SendingIsLawful, TakingIsLawful}
use Rattle.session_frames.proofs.Bodies.{read_at}
use Rattle.session_frames.proofs.Further.{lawful_session}

-- a change of one session that keeps a property keeps it of all
all_changed : (P : Session → Type 0) (key : Key) (change : Session → Session) → ((s : Session) → P s → P (change s)) → (xs : List Session) → AllByRecursion P xs → AllByRecursion P (changed_at key change xs)
all_changed P key change keeps [] h = tt
all_changed P key change keeps (s ∷ ss) h = (by (key_eq key s.key), all_changed P key change keeps ss h.1)
  where
    by : (b : Bool) → P (cond b (change s) s)
    by true = keeps s h.0
    by false = h.0

came_lawful : (me : Party) (bodies : List Body) (s : Session) → IsLawful me s → IsLawful me (with_came bodies s)
came_lawful me bodies s h =
    record {
      peer = h.peer;
      other = h.other;
      number = h.number;
      answered = λ e. record { peer = (h.answered e).peer; came = omega (arith, length-append s.came bodies, (h.answered e).came) };
      few = h.few;
      items = h.items;
    }

taken_lawful : (me : Party) (n : ℕ) (s : Session) → IsLawful me s → IsLawful me (with_taken n s)
taken_lawful me n s h =
    record {
      peer = h.peer;
      other = h.other;
      number = h.number;
      answered = λ e. record { peer = (h.answered e).peer; came = (h.answered e).came };
      few = h.few;
      items = h.items;
    }

pub arriving : ArrivingIsLawful
arriving me sessions key bodies h = record { node = h.node; each = all_changed (IsLawful me) key (with_came bodies) (came_lawful me bodies) sessions h.each }

pub taking : TakingIsLawful
taking me sessions None h = h
taking me sessions (Some taken) h = record { node = h.node; each = all_changed (IsLawful me) taken.0 (with_taken taken.1) (taken_lawful me taken.1) sessions h.each }

-- a session to which the next item was sent
sent_lawful : (me : Party) (item : SentItem) (stamp : ℕ) (s : Session) → 0 < stamp → stamp < 2 ^ 63 → IsWithin item → item.key ≡ s.key → item.direction ≡ direction_out me item.key → item.seq ≡ length s.sent → is_lawful item.direction item.seq item.body ≡ true
    → IsLawful me s → IsLawful me (with_sent (record { body = item.body; stamp = stamp }) s)
sent_lawful me item stamp s low high within same outgoing next lawful h =
    record {
      peer = h.peer;
      other = h.other;
      number = h.number;
      answered = λ e. record { peer = (h.answered e).peer; came = (h.answered e).came };
      few = omega (arith, length-append s.sent (x ∷ []), within.number, next);
      items = λ n y there. elim (get_push s.sent x n y there) [
        | inl e ↦ h.items n y e
        | inr e ↦ subst (λ (z : Sent). IsSentAt me s.key n z) e.1 (subst (λ (k : ℕ). IsSentAt me s.key k x) (next ∙ e.0) (record { stamped = (low, high); lawful = placed }))
      ];
    }
  where
    x : Sent
    x = record { body = item.body; stamp = stamp }

    placed : IsBodyAt (direction_out me s.key) item.seq item.body
    placed = subst (λ (d : ℕ). IsBodyAt d item.seq item.body) (outgoing ∙ ap (direction_out me) same) (read_at item.direction item.seq item.body within.body lawful)

-- no other session has the key
all_other : (P : Session → Type 0) (key own : Key) (change : Session → Session) (xs : List Session) → key ≡ own → AllByRecursion (λ y. key_eq own y ≡ false) (map (λ s. s.key) xs) → AllByRecursion P xs → AllByRecursion P (changed_at key change xs)
all_other P key own change [] same apart h = tt
all_other P key own change (s ∷ ss) same apart h = (subst (λ (b : Bool). P (cond b (change s) s)) (sym (ap (λ (k : Key). key_eq k s.key) same ∙ apart.0)) h.0, all_other P key own change ss same apart.1 h.1)

-- one session is changed, and it keeps the property
one_changed : (P : Session → Type 0) (key : Key) (change : Session → Session) (session : Session) → (P session → P (change session)) → key ≡ session.key → (xs : List Session) → session_of key xs ≡ Some session → AreApart xs → AllByRecursion P xs → AllByRecursion P (changed_at key change xs)
unfolding IsDistinct
one_changed P key change session keeps same [] stands apart h = tt
one_changed P key change session keeps same (s ∷ ss) stands apart h = by (key_eq key s.key) stands (λ found. one_changed P key change session keeps same ss found apart.1 h.1)
  where
    by : (b : Bool) → cond b (Some s) (session_of key ss) ≡ Some session → (session_of key ss ≡ Some session → AllByRecursion P (changed_at key change ss)) → P (cond b (change s) s) × AllByRecursion P (changed_at key change ss)
    by true found rest =
        let it : s ≡ session = cc found in
        (subst (λ (t : Session). P (change t)) (sym it) (keeps (subst P it h.0)), all_other P key s.key change ss (same ∙ ap (λ (t : Session). t.key) (sym it)) apart.0 h.1)
    by false found rest = (h.0, rest found)

-- an item that is sent changes no key
keys_stay : (key : Key) (x : Sent) (xs : List Session) → map (λ (s : Session). s.key) (changed_at key (with_sent x) xs) ≡ map (λ (s : Session). s.key) xs
keys_stay key x [] = refl
keys_stay key x (s ∷ ss) = by (key_eq key s.key) (keys_stay key x ss)
  where
    by : (b : Bool) → map (λ (t : Session). t.key) (changed_at key (with_sent x) ss) ≡ map (λ (t : Session). t.key) ss → (cond b (with_sent x s) s).key ∷ map (λ (t : Session). t.key) (changed_at key (with_sent x) ss) ≡ s.key ∷ map (λ (t : Session). t.key) ss
    by true rest = ap (λ (l : List Key). s.key ∷ l) rest
    by false rest = ap (λ (l : List Key). s.key ∷ l) rest

pub sending : SendingIsLawful
sending me sessions stamp [] low high within fits apart h = h
sending me sessions stamp (item ∷ items) low high within fits apart h =
    let x : Sent = record { body = item.body; stamp = stamp } in
    let s = fits.0.session in
    let at = lawful_session me sessions item.key s h.each fits.0.stands in
    sending me (changed_at item.key (with_sent x) sessions) stamp items low high within.1 fits.1
    (subst (λ (l : List Key). IsDistinct key_eq l) (sym (keys_stay item.key x sessions)) apart)
    (record {
      node = h.node;
      each = one_changed (IsLawful me) item.key (with_sent x) s (sent_lawful me item stamp s low high within.0 at.1 fits.0.outgoing fits.0.next fits.0.lawful) at.1 sessions fits.0.stands apart h.each;
    })
