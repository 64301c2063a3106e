-- The frames that wait at nodes: which are sent, which stay, and what is said of them.
use Rattle.std.proofs.Common.{◌≡◌, ℕ, zero, suc, ◌+◌, ◌≤◌, ◌⊎◌, inl, inr, ⊎_elim, List, [], ◌∷◌, ◌++◌, Option, Some, None, Bool, true, false, cond, not, ◌==◌, nat_le, nat_lt, map, filter, length, slice_get, slice_set, bytes_eq, refl, sym, ◌∙◌, ap, subst, arith}
use Rattle.std.specs.List.{AllByRecursion, list_any}
use Rattle.std.proofs.lemmas.Bool.{or_cases, eq-eqb, ltb-true, le-leb, false_from_ne_true, and_right}
use Rattle.std.proofs.lemmas.Slice.Eq.{bytes_eq-Decides}
use Rattle.net_base.specs.declared.values.Party.{Party}
use Rattle.net_base.proofs.Lists.{set_length}
use Rattle.session_wire.specs.Sessions.{Sent, Session, session_of}
use Rattle.session_wire.specs.Rules.{direction_out}
use Rattle.session_table.specs.Tables.{item_of, items_from, unacked_in, unacked}
use Rattle.session_table.specs.declared.resent.Item.{Item}
use Rattle.session_frames.specs.declared.judged.Judged.TheVariants as judged
use Rattle.session_frames.specs.declared.sending.Outgoing.{Outgoing}
use Rattle.session_frames.specs.Judging.{arrived, judge, lacks_session}
use Rattle.session_frames.specs.Agreement.{IsOtherSide}
use Rattle.session_frames.specs.Sending.{message_of}
use Rattle.waiting_frames.specs.Waiting.{is_waiting, joined}
use Rattle.net_model.specs.Environment.{Environment, party, identity}
use Rattle.network_core.specs.Worlds.{NodeWorld}
use Rattle.network_core.specs.WorldSteps.{with_frame, sent_to, sent_once, sent_all}

-- ---- lists

-- the list has the element
abbrev pub Has : {X : Type 0} → X → List X → Type 0
Has x [] = ⊥
Has x (y ∷ ys) = (y ≡ x) ⊎ Has x ys

pub has_left : {X : Type 0} (x : X) (xs ys : List X) → Has x xs → Has x (xs ++ ys)
has_left x [] ys h = absurd h
has_left x (z ∷ xs) ys (inl e) = inl e
has_left x (z ∷ xs) ys (inr h) = inr (has_left x xs ys h)

pub has_right : {X : Type 0} (x : X) (xs ys : List X) → Has x ys → Has x (xs ++ ys)
has_right x [] ys h = h
has_right x (z ∷ xs) ys h = inr (has_right x xs ys h)

pub has_mapped : {X Y : Type 0} (f : X → Y) (x : X) (xs : List X) → Has x xs → Has (f x) (map f xs)
has_mapped f x [] h = absurd h
has_mapped f x (y ∷ ys) (inl e) = inl (ap f e)
has_mapped f x (y ∷ ys) (inr h) = inr (has_mapped f x ys h)

has_first : {X : Type 0} (x y : X) (b : Bool) (ys : List X) → b ≡ true → y ≡ x → Has x (cond b (y ∷ ys) ys)
has_first x y true ys is e = inl e
has_first x y false ys is e = cc

has_rest : {X : Type 0} (x y : X) (b : Bool) (ys : List X) → Has x ys → Has x (cond b (y ∷ ys) ys)
has_rest x y true ys h = inr h
has_rest x y false ys h = h

has_filtered : {X : Type 0} (test : X → Bool) (x : X) (xs : List X) → test x ≡ true → Has x xs → Has x (filter test xs)
has_filtered test x [] is h = absurd h
has_filtered test x (y ∷ ys) is (inl e) = has_first x y (test y) (filter test ys) (ap test e ∙ is) e
has_filtered test x (y ∷ ys) is (inr h) = has_rest x y (test y) (filter test ys) (has_filtered test x ys is h)

pub all_has : {X : Type 0} (P : X → Type 0) (xs : List X) (x : X) → AllByRecursion P xs → Has x xs → P x
all_has P [] x all h = absurd h
all_has P (y ∷ ys) x all (inl e) = subst P e all.0
all_has P (y ∷ ys) x all (inr h) = all_has P ys x all.1 h

-- what stands in a list of which one place was set
pub get_set : {X : Type 0} (xs : List X) (i : ℕ) (y : X) (q : ℕ) (z : X) → slice_get (slice_set xs i y) q ≡ Some z → ((q ≡ i) × (z ≡ y)) ⊎ ((q ≡ i → ⊥) × (slice_get xs q ≡ Some z))
get_set [] i y q z h = cc
get_set (x ∷ xs) zero y zero z h = inl (refl, cc)
get_set (x ∷ xs) zero y (suc q) z h = inr (λ e. omega (arith, e), h)
get_set (x ∷ xs) (suc i) y zero z h = inr (λ e. omega (arith, e), h)
get_set (x ∷ xs) (suc i) y (suc q) z h = ⊎_elim (λ s. inl (ap suc s.0, s.1)) (λ s. inr (λ e. s.0 (omega (arith, e)), s.1)) (get_set xs i y q z h)

-- ---- frames that join others

found : (c : List ℕ) (xs : List (List ℕ)) → list_any (bytes_eq c) xs ≡ true → Has c xs
found c [] h = cc
found c (x ∷ xs) h = ⊎_elim (λ k. inl (sym ((bytes_eq-Decides c x).0 k))) (λ k. inr (found c xs k)) (or_cases (bytes_eq c x) (list_any (bytes_eq c) xs) h)

pub joined_keeps : (b c : List ℕ) (xs : List (List ℕ)) → Has b xs → Has b (joined c xs)
joined_keeps b c xs h = (elim (is_waiting c xs) as (λ t. Has b (cond t xs (xs ++ c ∷ []))) [ true ↦ h | false ↦ has_left b xs (c ∷ []) h ])

pub joined_has : (c : List ℕ) (xs : List (List ℕ)) → Has c (joined c xs)
joined_has c xs = (elim (is_waiting c xs) as (λ t. is_waiting c xs ≡ t → Has c (cond t xs (xs ++ c ∷ []))) [ true ↦ λ is. found c xs is | false ↦ λ is. has_right c xs (c ∷ []) (inl refl) ]) refl

-- ---- nodes at which frames were sent

-- a node is the same, and what waited waits
pub record Keeps (x y : NodeWorld) : Type 0 where
  pub up : y.up ≡ x.up
  pub journal : y.journal ≡ x.journal
  pub other : y.other ≡ x.other
  pub openable : y.openable ≡ x.openable
  pub acked : y.acked ≡ x.acked
  pub waits : (b : List ℕ) → Has b x.waiting → Has b y.waiting

pub keeps_same : (x : NodeWorld) → Keeps x x
keeps_same x = record { up = refl; journal = refl; other = refl; openable = refl; acked = refl; waits = λ b h. h }

pub keeps_then : (x y z : NodeWorld) → Keeps x y → Keeps y z → Keeps x z
keeps_then x y z f g = record { up = g.up ∙ f.up; journal = g.journal ∙ f.journal; other = g.other ∙ f.other; openable = g.openable ∙ f.openable; acked = g.acked ∙ f.acked; waits = λ b h. g.waits b (f.waits b h) }

-- each node is the same, and what waited waits
pub record Grown (xs ys : List NodeWorld) : Type 0 where
  pub count : length ys ≡ length xs
  pub back : (q : ℕ) (y : NodeWorld) → slice_get ys q ≡ Some y → (x : NodeWorld) × (slice_get xs q ≡ Some x) × Keeps x y

pub grown_same : (xs : List NodeWorld) → Grown xs xs
grown_same xs = record { count = refl; back = λ q y h. (y, h, keeps_same y) }

pub grown_then : (xs ys zs : List NodeWorld) → Grown xs ys → Grown ys zs → Grown xs zs
grown_then xs ys zs f g = record {
  count = g.count ∙ f.count;
  back = λ q z h.
      let y = g.back q z h in
      let x = f.back q y.0 y.1 in
      (x.0, x.1, keeps_then x.0 y.0 z x.2 y.2);
}

with_grown : (xs : List NodeWorld) (i : ℕ) (b : List ℕ) (x : NodeWorld) → slice_get xs i ≡ Some x → Grown xs (slice_set xs i (with_frame b x))
with_grown xs i b x there = record {
  count = set_length xs i (with_frame b x);
  back = λ q y h. ⊎_elim
      (λ s. (x, ap (slice_get xs) s.0 ∙ there, rw (s.1) (record { up = refl; journal = refl; other = refl; openable = refl; acked = refl; waits = λ c k. joined_keeps c b x.waiting k })))
      (λ s. (y, s.1, keeps_same y))
      (get_set xs i (with_frame b x) q y h);
}

to_grown : (o : Outgoing) (xs : List NodeWorld) (x : Option NodeWorld) → slice_get xs o.to.0 ≡ x → Grown xs (sent_to o xs x)
to_grown o xs None there = grown_same xs
to_grown o xs (Some x) there = with_grown xs o.to.0 o.bytes x there

pub all_grown : (os : List Outgoing) (xs : List NodeWorld) → Grown xs (sent_all os xs)
all_grown [] xs = grown_same xs
all_grown (o ∷ os) xs = grown_then xs (sent_once o xs) (sent_all os (sent_once o xs)) (to_grown o xs (slice_get xs o.to.0) refl) (all_grown os (sent_once o xs))

to_has : (o : Outgoing) (xs : List NodeWorld) (x : Option NodeWorld) (y : NodeWorld) → slice_get xs o.to.0 ≡ x → slice_get (sent_to o xs x) o.to.0 ≡ Some y → Has o.bytes y.waiting
to_has o xs None y there h = cc
to_has o xs (Some x) y there h = ⊎_elim
    (λ s. subst (λ (z : NodeWorld). Has o.bytes z.waiting) (sym s.1) (joined_has o.bytes x.waiting))
    (λ s. absurd (s.0 refl))
    (get_set xs o.to.0 (with_frame o.bytes x) o.to.0 y h)

-- what was sent waits where it was sent to
pub all_sent : (os : List Outgoing) (o : Outgoing) (xs : List NodeWorld) (y : NodeWorld) → Has o os → slice_get (sent_all os xs) o.to.0 ≡ Some y → Has o.bytes y.waiting
all_sent [] o xs y h there = absurd h
all_sent (z ∷ os) o xs y (inr h) there = all_sent os o (sent_once z xs) y h there
all_sent (z ∷ os) o xs y (inl e) there =
    let first : (u : NodeWorld) → slice_get (sent_once z xs) o.to.0 ≡ Some u → Has o.bytes u.waiting = subst (λ (a : Outgoing). (u : NodeWorld) → slice_get (sent_once z xs) a.to.0 ≡ Some u → Has a.bytes u.waiting) e (λ u k. to_has z xs (slice_get xs z.to.0) u refl k) in
    let x = (all_grown os (sent_once z xs)).back o.to.0 y there in
    x.2.waits o.bytes (first x.0 x.1)

-- ---- items that aren't acknowledged

item_there : (me : Party) (s : Session) (n : ℕ) (xs : List Sent) (k : ℕ) (x : Sent) → slice_get xs k ≡ Some x → Has (item_of me s (n + k) x) (items_from me s n xs)
item_there me s n [] k x h = cc
item_there me s n (y ∷ ys) zero x h =
    let same : y ≡ x = cc in
    let at : n ≡ n + 0 = omega arith in
    inl (ap (item_of me s n) same ∙ ap (λ (j : ℕ). item_of me s j x) at)
item_there me s n (y ∷ ys) (suc k) x h =
    let at : n + 1 + k ≡ n + suc k = omega arith in
    inr (subst (λ (j : ℕ). Has (item_of me s j x) (items_from me s (n + 1) ys)) at (item_there me s (n + 1) ys k x h))

here_unacked : (me : Party) (s t : Session) (n m k : ℕ) (x : Sent) → t ≡ s → m ≡ n → slice_get s.sent k ≡ Some x → n ≤ k → Has (item_of me s k x) (unacked_in me (t, m))
here_unacked me s t n m k x same number there le =
    let at : 0 + k ≡ k = omega arith in
    let one : Has (item_of me s k x) (items_from me s 0 s.sent) = subst (λ (j : ℕ). Has (item_of me s j x) (items_from me s 0 s.sent)) at (item_there me s 0 s.sent k x there) in
    let past : nat_le n k ≡ true = le-leb n k le in
    rw (same, number) (has_filtered (λ (item : Item). nat_le n item.number) (item_of me s k x) (items_from me s 0 s.sent) past one)

-- an item at or past the acknowledged number of its session isn't acknowledged
pub has_unacked : (me : Party) (ss : List Session) (ns : List ℕ) (i : ℕ) (s : Session) (n k : ℕ) (x : Sent) → slice_get ss i ≡ Some s → slice_get ns i ≡ Some n → slice_get s.sent k ≡ Some x → n ≤ k → Has (item_of me s k x) (unacked me ss ns)
has_unacked me [] ns i s n k x is count there le = cc
has_unacked me (t ∷ ss) [] i s n k x is count there le = cc
has_unacked me (t ∷ ss) (m ∷ ns) (suc i) s n k x is count there le = has_right (item_of me s k x) (unacked_in me (t, m)) (unacked me ss ns) (has_unacked me ss ns i s n k x is count there le)
has_unacked me (t ∷ ss) (m ∷ ns) zero s n k x is count there le =
    let same : t ≡ s = cc in
    let number : m ≡ n = cc in
    has_left (item_of me s k x) (unacked_in me (t, m)) (unacked me ss ns) (here_unacked me s t n m k x same number there le)

-- ---- what is said of them

lacks_none : (me : Party) (d : ℕ) (o : Option Session) → IsOtherSide me d o → lacks_session me d o ≡ false
lacks_none me d None h = rw h refl
lacks_none me d (Some t) h =
    let with : (t.peer.0 == me.0) ≡ true = eq-eqb t.peer.0 me.0 (ap (λ (a : Party). a.0) h) in
    and_right (d == 1) (not (t.peer.0 == me.0)) (rw with refl)

same_party : (n : ℕ) → (n == n) ≡ true
same_party n = eq-eqb n n refl

not_below : (n : ℕ) → nat_lt n n ≡ false
not_below n = false_from_ne_true (nat_lt n n) (λ is. let k = ltb-true n n is in omega (arith, k))

-- the peer says of the message of the item whose number is how many arrived that it is the next one
pub judged_next : {F : Type 0} (e : Environment F) (p q : ℕ) (s : Session) (c : ℕ) (x : Sent) (sessions : List Session) → s.peer.0 ≡ q → nat_le e.nodes p ≡ false → IsOtherSide (party p) (direction_out (party p) s.key) (session_of s.key sessions) → arrived (session_of s.key sessions) ≡ c
    → judge (identity e q) sessions (message_of (party p) (item_of (party p) s c x)) ≡ judged.Next (party p) s.key (direction_out (party p) s.key) c x.stamp x.body
judged_next e p q s c x sessions peer within side count =
    rw (peer, same_party q, within, lacks_none (party p) (direction_out (party p) s.key) (session_of s.key sessions) side, count, not_below c) refl
