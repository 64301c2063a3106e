-- What a change makes of the sessions before it sends and takes items, and when these fit.
use Rattle.std.proofs.Common.{◌≡◌, ℕ, suc, is_some, ◌+◌, ◌≤◌, Bool, true, false, ◌&&◌, ◌||◌, List, [], ◌∷◌, ◌++◌, Option, Some, None, refl, sym, ◌∙◌, ap, subst, cond, filter, length, option_map, arith, true≢false, length-append, ◌↔◌, IsTrue, zero, ◌<◌, take, drop, get_or}
use Rattle.std.specs.Option.{option_or}
use Rattle.net_base.specs.declared.names.Key.{Key}
use Rattle.net_base.specs.declared.values.Party.{Party}
use Rattle.session_wire.specs.declared.body.Body.{Body}
use Rattle.session_wire.specs.declared.change.SentItem.{SentItem}
use Rattle.session_wire.specs.declared.change.SessionChange.{SessionChange}
use Rattle.session_wire.specs.Sessions.{Session, Sent, key_eq, session_of, changed_at, new_session, with_came, with_sent, opened_on, sent_on}
use Rattle.session_wire.specs.Rules.{is_init, is_lawful, direction_out, Continues, FitsSent}
use Rattle.session_wire.proofs.Keys.{key_exact}
use Rattle.session_table.specs.Changes.{came_on, begun_on, is_answered, is_opened, count_of, answered_for}
use Rattle.session_table.proofs.Items.{or_none}

-- what is asked of the session of a key, where one session more stands behind the others
added : {X : Type 0} (g : Session → X) (q : Key) (list : List Session) (s : Session) → option_map g (session_of q (list ++ s ∷ [])) ≡ option_or (option_map g (session_of q list)) (cond (key_eq q s.key) (Some (g s)) None)
added g q [] s = by (key_eq q s.key)
  where
    by : (b : Bool) → option_map g (cond b (Some s) None) ≡ cond b (Some (g s)) None
    by true = refl
    by false = refl
added {X} g q (t ∷ ts) s = by (key_eq q t.key) (added g q ts s)
  where
    by : (b : Bool) → option_map g (session_of q (ts ++ s ∷ [])) ≡ option_or (option_map g (session_of q ts)) (cond (key_eq q s.key) (Some (g s)) None) → option_map g (cond b (Some t) (session_of q (ts ++ s ∷ []))) ≡ option_or (option_map g (cond b (Some t) (session_of q ts))) (cond (key_eq q s.key) (Some (g s)) None)
    by true rest = refl
    by false rest = rest

-- a session of the key in one of two places
or_twice : {X : Type 0} (o : Option X) (a b : Bool) (x y : X) → option_or (option_or o (cond a (Some x) None)) (cond b (Some y) None) ≡ option_or o (cond a (Some x) (cond b (Some y) None))
or_twice None true b x y = refl
or_twice None false b x y = refl
or_twice (Some z) a b x y = refl

-- the session that is opened is one more
opened_more : {X : Type 0} (g : Session → X) (x : X) → ((k : Key) (p : Party) (owner : Option ℕ) → g (new_session k p owner []) ≡ x) → (q : Key) (opened : Option (Key × Party)) (owner : Option ℕ) (list : List Session)
    → option_map g (session_of q (opened_on opened owner list)) ≡ option_or (option_map g (session_of q list)) (cond (is_opened q opened) (Some x) None)
opened_more g x new q None owner list = sym (or_none (option_map g (session_of q list)))
opened_more g x new q (Some o) owner list = added g q list (new_session o.0 o.1 owner []) ∙ ap (λ y. option_or (option_map g (session_of q list)) (cond (key_eq q o.0) (Some y) None)) (new o.0 o.1 owner)

-- an item that arrived changes no number of sent ones
sent_came : (q k : Key) (bodies : List Body) (list : List Session) → option_map (λ s. length s.sent) (session_of q (changed_at k (with_came bodies) list)) ≡ option_map (λ s. length s.sent) (session_of q list)
sent_came q k bodies [] = refl
sent_came q k bodies (s ∷ ss) = by (key_eq k s.key) (key_eq q s.key) refl (sent_came q k bodies ss)
  where
    by : (a b : Bool) → key_eq q s.key ≡ b → option_map (λ s. length s.sent) (session_of q (changed_at k (with_came bodies) ss)) ≡ option_map (λ s. length s.sent) (session_of q ss)
        → option_map (λ s. length s.sent) (session_of q (cond a (with_came bodies s) s ∷ changed_at k (with_came bodies) ss)) ≡ option_map (λ s. length s.sent) (cond b (Some s) (session_of q ss))
    by true true is rest = rw is refl
    by true false is rest = rw is rest
    by false true is rest = rw is refl
    by false false is rest = rw is rest

came_more : (q : Key) (k : Option Key) (o : Option Body) (owner : Option ℕ) (list : List Session)
    → option_map (λ s. length s.sent) (session_of q (came_on k o owner list)) ≡ option_or (option_map (λ s. length s.sent) (session_of q list)) (cond (is_answered q k o) (Some 0) None)
came_more q None None owner list = sym (or_none (option_map (λ s. length s.sent) (session_of q list)))
came_more q None (Some body) owner list = sym (or_none (option_map (λ s. length s.sent) (session_of q list)))
came_more q (Some k) None owner list = sym (or_none (option_map (λ s. length s.sent) (session_of q list)))
came_more q (Some k) (Some body) owner list = by (is_init body) (key_eq q k) refl refl
  where
    by : (a b : Bool) → is_init body ≡ a → key_eq q k ≡ b → option_map (λ s. length s.sent) (session_of q (came_on (Some k) (Some body) owner list)) ≡ option_or (option_map (λ s. length s.sent) (session_of q list)) (cond (key_eq q k && is_init body) (Some 0) None)
    by true true is at = rw (is, at) (added (λ s. length s.sent) q list (new_session k k.initiator owner (body ∷ [])) ∙ rw at refl)
    by true false is at = rw (is, at) (added (λ s. length s.sent) q list (new_session k k.initiator owner (body ∷ [])) ∙ rw at refl)
    by false true is at = rw (is, at) (sent_came q k (body ∷ []) list ∙ sym (or_none (option_map (λ s. length s.sent) (session_of q list))))
    by false false is at = rw (is, at) (sent_came q k (body ∷ []) list ∙ sym (or_none (option_map (λ s. length s.sent) (session_of q list))))

-- how many items were sent in the session of a key before those of the change
sent_before : (q : Key) (change : SessionChange) (list : List Session)
    → option_map (λ s. length s.sent) (session_of q (begun_on change list)) ≡ option_or (option_map (λ s. length s.sent) (session_of q list)) (cond (is_answered q change.came_key change.came) (Some 0) (cond (is_opened q change.opened) (Some 0) None))
sent_before q change list =
    let owner = answered_for change.owner change.sent in
    opened_more (λ s. length s.sent) 0 (λ k p owner. refl) q change.opened (Some change.owner) (came_on change.came_key change.came owner list)
    ∙ ap (λ o. option_or o (cond (is_opened q change.opened) (Some 0) None)) (came_more q change.came_key change.came owner list)
    ∙ or_twice (option_map (λ s. length s.sent) (session_of q list)) (is_answered q change.came_key change.came) (is_opened q change.opened) 0 0

or_either : (o : Option ℕ) (a b : Bool) → option_or o (cond a (Some 0) (cond b (Some 0) None)) ≡ option_or o (cond (a || b) (Some 0) None)
or_either o true b = refl
or_either o false b = refl

-- what the table has of it, or else what the change makes
pub sent_begun : (q : Key) (change : SessionChange) (list : List Session) (o : Option ℕ) (b : Bool) → o ≡ option_map (λ s. length s.sent) (session_of q list) → b ≡ (is_answered q change.came_key change.came || is_opened q change.opened)
    → option_or o (cond b (Some 0) None) ≡ option_map (λ s. length s.sent) (session_of q (begun_on change list))
sent_begun q change list o b has made =
    ap (λ t. option_or o (cond t (Some 0) None)) made
    ∙ sym (or_either o (is_answered q change.came_key change.came) (is_opened q change.opened))
    ∙ ap (λ (x : Option ℕ). option_or x (cond (is_answered q change.came_key change.came) (Some 0) (cond (is_opened q change.opened) (Some 0) None))) has
    ∙ sym (sent_before q change list)

-- ---- the items that are sent

-- one more item was sent in the session of its key
sent_one : (q k : Key) (x : Sent) (list : List Session) → option_map (λ s. length s.sent) (session_of q (changed_at k (with_sent x) list)) ≡ option_map (λ n. n + cond (key_eq q k) 1 0) (option_map (λ s. length s.sent) (session_of q list))
sent_one q k x [] = refl
sent_one q k x (s ∷ ss) = by (key_eq k s.key) (key_eq q s.key) refl refl (sent_one q k x ss)
  where
    same_key : key_eq k s.key ≡ true → key_eq q s.key ≡ true → key_eq q k ≡ true
    same_key here there = ap (key_eq q) (key_exact k s.key here) ∙ there

    other_key : key_eq k s.key ≡ false → key_eq q s.key ≡ true → key_eq q k ≡ false
    other_key here there = both (key_eq q k) refl
      where
        both : (b : Bool) → key_eq q k ≡ b → key_eq q k ≡ false
        both true is = absurd (true≢false (sym there ∙ ap (λ (r : Key). key_eq r s.key) (key_exact q k is) ∙ here))
        both false is = is

    by : (a b : Bool) → key_eq k s.key ≡ a → key_eq q s.key ≡ b → option_map (λ s. length s.sent) (session_of q (changed_at k (with_sent x) ss)) ≡ option_map (λ n. n + cond (key_eq q k) 1 0) (option_map (λ s. length s.sent) (session_of q ss))
        → option_map (λ s. length s.sent) (session_of q (cond a (with_sent x s) s ∷ changed_at k (with_sent x) ss)) ≡ option_map (λ n. n + cond (key_eq q k) 1 0) (option_map (λ s. length s.sent) (cond b (Some s) (session_of q ss)))
    by true true here there rest = rw there (rw (same_key here there) (ap Some (length-append s.sent (x ∷ []))))
    by true false here there rest = rw there rest
    by false true here there rest = rw there (rw (other_key here there) (ap Some (let none : length s.sent ≡ length s.sent + 0 = omega arith in none)))
    by false false here there rest = rw there rest

-- and after several items each session has as many more as are of its key
pub sent_after : (stamp : ℕ) (q : Key) (done : List SentItem) (list : List Session) → option_map (λ s. length s.sent) (session_of q (sent_on stamp done list)) ≡ option_map (λ n. n + count_of q done) (option_map (λ s. length s.sent) (session_of q list))
sent_after stamp q [] list = by (option_map (λ s. length s.sent) (session_of q list))
  where
    by : (o : Option ℕ) → o ≡ option_map (λ n. n + 0) o
    by None = refl
    by (Some n) = ap Some (let none : n ≡ n + 0 = omega arith in none)
sent_after stamp q (x ∷ xs) list =
    sent_after stamp q xs (changed_at x.key (with_sent (record { body = x.body; stamp = stamp })) list)
    ∙ ap (option_map (λ n. n + count_of q xs)) (sent_one q x.key (record { body = x.body; stamp = stamp }) list)
    ∙ by (key_eq q x.key) (option_map (λ s. length s.sent) (session_of q list))
  where
    by : (b : Bool) (o : Option ℕ) → option_map (λ n. n + count_of q xs) (option_map (λ n. n + cond b 1 0) o) ≡ option_map (λ n. n + length (cond b (x ∷ filter (λ item. key_eq q item.key) xs) (filter (λ item. key_eq q item.key) xs))) o
    by true None = refl
    by true (Some n) = ap Some (let sum : (n + 1) + count_of q xs ≡ n + suc (count_of q xs) = omega arith in sum)
    by false None = refl
    by false (Some n) = ap Some (let sum : (n + 0) + count_of q xs ≡ n + count_of q xs = omega arith in sum)

-- an item is the next one where its number is how many were sent
pub continues_from : (me : Party) (item : SentItem) (list : List Session) (n : ℕ) → option_map (λ s. length s.sent) (session_of item.key list) ≡ Some n → item.direction ≡ direction_out me item.key → item.seq ≡ n → is_lawful item.direction item.seq item.body ≡ true → Continues me item list
continues_from me item list n counted outgoing next lawful = by (session_of item.key list) refl
  where
    by : (o : Option Session) → session_of item.key list ≡ o → Continues me item list
    by None is = absurd (let e : None ≡ Some n = ap (option_map (λ s. length s.sent)) (sym is) ∙ counted in cc e)
    by (Some s) is =
        let e : Some (length s.sent) ≡ Some n = ap (option_map (λ s. length s.sent)) (sym is) ∙ counted in
        let same : length s.sent ≡ n = cc e in
        record { session = s; stands = is; outgoing = outgoing; next = next ∙ sym same; lawful = lawful }

-- and where it is the next one, that is its number
pub continues_at : (me : Party) (item : SentItem) (list : List Session) → Continues me item list → option_map (λ s. length s.sent) (session_of item.key list) ≡ Some item.seq
continues_at me item list is = ap (option_map (λ s. length s.sent)) is.stands ∙ ap Some (sym is.next)

-- whether an item continues its session, by the number of those that were sent there
pub continues_by : (me : Party) (item : SentItem) (done : List SentItem) (begun : List Session) (direction first count : ℕ) (result : Bool) → Some first ≡ option_map (λ s. length s.sent) (session_of item.key begun)
    → direction ≡ direction_out me item.key → count ≡ count_of item.key done
    → IsTrue result ↔ ((item.direction ≡ direction) × (item.seq ≡ first + count) × (is_lawful item.direction item.seq item.body ≡ true))
    → (stamp : ℕ) → IsTrue result ↔ Continues me item (sent_on stamp done begun)
continues_by me item done begun direction first count result has out several placed stamp =
    let counted : option_map (λ s. length s.sent) (session_of item.key (sent_on stamp done begun)) ≡ Some (first + count) =
    sent_after stamp item.key done begun ∙ ap (option_map (λ n. n + count_of item.key done)) (sym has) ∙ ap (λ n. Some (first + n)) (sym several) in (
      λ yes. let p = placed.0 yes in continues_from me item (sent_on stamp done begun) (first + count) counted (p.0 ∙ out) p.1 p.2,
      λ goes.
          let e : Some item.seq ≡ Some (first + count) = sym (continues_at me item (sent_on stamp done begun) goes) ∙ counted in
          let same : item.seq ≡ first + count = cc e in
          placed.1 (goes.outgoing ∙ sym out, same, goes.lawful),
    )

-- none does where its session isn't there
pub continues_nowhere : (me : Party) (item : SentItem) (done : List SentItem) (begun : List Session) → None ≡ option_map (λ s. length s.sent) (session_of item.key begun) → (stamp : ℕ) → Continues me item (sent_on stamp done begun) → ⊥
continues_nowhere me item done begun has stamp goes =
    let e : Some item.seq ≡ None = sym (continues_at me item (sent_on stamp done begun) goes) ∙ sent_after stamp item.key done begun ∙ ap (option_map (λ n. n + count_of item.key done)) (sym has) in
    cc e

-- the items from the k-th on fit once those before it were sent
abbrev pub FitsFrom : Party → ℕ → List Session → List SentItem → ℕ → Type 0
FitsFrom me stamp begun items k = FitsSent me stamp (sent_on stamp (take k items) begun) (drop k items)

pub from_first : (me : Party) (stamp : ℕ) (begun : List Session) (items : List SentItem) → FitsSent me stamp begun items ↔ FitsFrom me stamp begun items 0
from_first me stamp begun [] = (λ h. h, λ h. h)
from_first me stamp begun (x ∷ xs) = (λ h. h, λ h. h)

-- the first of them continues its session, and so on
one_fits : (me : Party) (stamp : ℕ) (begun : List Session) (items : List SentItem) (k : ℕ) (x : SentItem) → k < length items → x ≡ get_or items k x → FitsFrom me stamp begun items k
    → Continues me x (sent_on stamp (take k items) begun) × FitsFrom me stamp begun items (suc k)
one_fits me stamp begun [] k x less is fits = absurd (omega (arith, less))
one_fits me stamp begun (y ∷ ys) zero x less is fits = (subst (λ (z : SentItem). Continues me z begun) (sym is) fits.0, fits.1)
one_fits me stamp begun (y ∷ ys) (suc k) x less is fits = one_fits me stamp (changed_at y.key (with_sent (record { body = y.body; stamp = stamp })) begun) ys k x (omega (arith, less)) is fits

all_fit : (me : Party) (stamp : ℕ) (begun : List Session) (items : List SentItem) (k : ℕ) (x : SentItem) → k < length items → x ≡ get_or items k x
    → Continues me x (sent_on stamp (take k items) begun) → FitsFrom me stamp begun items (suc k) → FitsFrom me stamp begun items k
all_fit me stamp begun [] k x less is one rest = absurd (omega (arith, less))
all_fit me stamp begun (y ∷ ys) zero x less is one rest = (subst (λ (z : SentItem). Continues me z begun) is one, rest)
all_fit me stamp begun (y ∷ ys) (suc k) x less is one rest = all_fit me stamp (changed_at y.key (with_sent (record { body = y.body; stamp = stamp })) begun) ys k x (omega (arith, less)) is one rest

-- behind the last one none is left
pub past_last : (me : Party) (stamp : ℕ) (begun : List Session) (items : List SentItem) (k : ℕ) → length items ≤ k → FitsFrom me stamp begun items k
past_last me stamp begun [] zero more = tt
past_last me stamp begun [] (suc k) more = tt
past_last me stamp begun (x ∷ xs) zero more = absurd (omega (arith, more))
past_last me stamp begun (x ∷ xs) (suc k) more = past_last me stamp (changed_at x.key (with_sent (record { body = x.body; stamp = stamp })) begun) xs k (omega (arith, more))

-- what fits from an item on fits from the next one on, where the item continues its session
pub next_fits : (me : Party) (stamp : ℕ) (begun : List Session) (items slice : List SentItem) (k : ℕ) (x : SentItem) (result : Bool) (A : Type 0) → slice ≡ items → k < length slice → x ≡ get_or slice k x
    → IsTrue result ↔ Continues me x (sent_on stamp (take k slice) begun) → result ≡ true → A ↔ FitsFrom me stamp begun items k → A ↔ FitsFrom me stamp begun items (k + 1)
next_fits me stamp begun items slice k x result A same less is one holds before =
    let up : suc k ≡ k + 1 = omega arith in (
      λ a.
          let at : FitsFrom me stamp begun slice k = subst (λ (l : List SentItem). FitsFrom me stamp begun l k) (sym same) (before.0 a) in
          let past = one_fits me stamp begun slice k x less is at in
          subst (λ (l : List SentItem). FitsFrom me stamp begun l (k + 1)) same (subst (λ (n : ℕ). FitsFrom me stamp begun slice n) up past.1),
      λ rest.
          let past : FitsFrom me stamp begun slice (suc k) = subst (λ (n : ℕ). FitsFrom me stamp begun slice n) (sym up) (subst (λ (l : List SentItem). FitsFrom me stamp begun l (k + 1)) (sym same) rest) in
          before.1 (subst (λ (l : List SentItem). FitsFrom me stamp begun l k) same (all_fit me stamp begun slice k x less is (one.0 holds) past)),
    )

-- and nothing fits where it doesn't
pub none_fits : (me : Party) (stamp : ℕ) (begun : List Session) (items slice : List SentItem) (k : ℕ) (x : SentItem) (result : Bool) (A : Type 0) → slice ≡ items → k < length slice → x ≡ get_or slice k x
    → IsTrue result ↔ Continues me x (sent_on stamp (take k slice) begun) → result ≡ false → A ↔ FitsFrom me stamp begun items k → A → ⊥
none_fits me stamp begun items slice k x result A same less is one refused before a =
    let at : FitsFrom me stamp begun slice k = subst (λ (l : List SentItem). FitsFrom me stamp begun l k) (sym same) (before.0 a) in
    true≢false (sym (one.1 (one_fits me stamp begun slice k x less is at).0) ∙ refused)

-- ---- the items that are taken

-- a session that stands before the change stands once it was begun
pub stands_begun : (q : Key) (change : SessionChange) (list : List Session) (s : Session) → session_of q list ≡ Some s → is_some (session_of q (begun_on change list)) ≡ true
stands_begun q change list s stands = counted (session_of q (begun_on change list)) (ap is_some (sent_before q change list ∙ ap (λ o. option_or (option_map (λ t. length t.sent) o) (cond (is_answered q change.came_key change.came) (Some 0) (cond (is_opened q change.opened) (Some 0) None))) stands))
  where
    counted : (o : Option Session) → is_some (option_map (λ t. length t.sent) o) ≡ true → is_some o ≡ true
    counted None h = h
    counted (Some t) h = refl
