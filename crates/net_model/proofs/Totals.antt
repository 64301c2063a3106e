-- Sums over lists, and what sessions and flows leave to do.
use Rattle.std.proofs.Common.{◌≡◌, ℕ, zero, suc, ◌+◌, ◌≤◌, List, [], ◌∷◌, ◌++◌, Option, Some, None, Bool, true, false, cond, not, map, find, drop, option_map, option_to_list, slice_get, slice_set, length, refl, ap, ◌∙◌, arith, length-append}
use Rattle.std.specs.List.{list_any}
use Rattle.std.proofs.lemmas.Bool.{and_parts, or_parts, not-true}
use Rattle.net_base.specs.declared.names.Key.{Key}
use Rattle.net_base.specs.declared.values.Party.{Party}
use Rattle.net_base.specs.declared.causes.Cause.{Cause}
use Rattle.net_base.specs.declared.causes.Event.{Event}
use Rattle.net_base.specs.declared.causes.Event.TheVariants as event
use Rattle.net_base.proofs.Lists.{find_map}
use Rattle.net_base.proofs.Options.{some_eq}
use Rattle.session_wire.specs.declared.body.Body.{Body}
use Rattle.session_wire.specs.declared.change.SentItem.{SentItem}
use Rattle.session_wire.specs.Sessions.{Sent, Session, changed_at, key_eq, opened_on, sent_on, session_of, taken_on, with_came, with_sent, with_taken}
use Rattle.session_wire.proofs.Keys.{key_exact}
use Rattle.net_model.specs.Environment.{Environment}
use Rattle.net_model.specs.State.{NodeState, Effect, came_on, sessions_on, flow_of}
use Rattle.net_model.specs.Fits.{keys_differ}
use Rattle.net_model.specs.Left.{total, item_left, came_in, arrived_at, session_left}
use Rattle.net_model.proofs.Basics.{find_before}

-- ---- sums

pub total_le : {X : Type 0} (f g : X → ℕ) (xs : List X) → ((x : X) → f x ≤ g x) → total f xs ≤ total g xs
total_le f g [] h = omega arith
total_le f g (x ∷ xs) h = let a = h x in let b = total_le f g xs h in omega arith

pub total_append : {X : Type 0} (f : X → ℕ) (xs ys : List X) → total f (xs ++ ys) ≡ total f xs + total f ys
total_append f [] ys = omega arith
total_append f (x ∷ xs) ys = let a = total_append f xs ys in omega arith

pub total_set : {X : Type 0} (f : X → ℕ) (xs : List X) (i : ℕ) (old y : X) → slice_get xs i ≡ Some old → total f (slice_set xs i y) + f old ≡ total f xs + f y
total_set f [] i old y h = cc
total_set f (x ∷ xs) zero old y h = let e = ap f (some_eq h) in omega arith
total_set f (x ∷ xs) (suc i) old y h = let a = total_set f xs i old y h in omega arith

-- where each has no more
pub total_all : {X : Type 0} (f g : X → ℕ) (xs : List X) → ((j : ℕ) (x : X) → slice_get xs j ≡ Some x → f x ≤ g x) → total f xs ≤ total g xs
total_all f g [] h = omega arith
total_all f g (x ∷ xs) h = let a = h 0 x refl in let b = total_all f g xs (λ j z is. h (suc j) z is) in omega arith

-- with another sum, where all other elements have no more in it
pub total_set_le : {X : Type 0} (f g : X → ℕ) (xs : List X) (i : ℕ) (old y : X) → slice_get xs i ≡ Some old → ((j : ℕ) (x : X) → (j ≡ i → ⊥) → slice_get xs j ≡ Some x → f x ≤ g x) → total f (slice_set xs i y) + g old ≤ total g xs + f y
total_set_le f g [] i old y h k = cc
total_set_le f g (x ∷ xs) zero old y h k =
    let e = ap g (some_eq h) in
    let a = total_all f g xs (λ j z is. k (suc j) z (λ n. cc) is) in omega arith
total_set_le f g (x ∷ xs) (suc i) old y h k =
    let a = k 0 x (λ n. cc) refl in
    let b = total_set_le f g xs i old y h (λ j z ne is. k (suc j) z (λ e. ne (omega arith)) is) in omega arith

-- one element has less by c, and none has more
pub total_less : {X : Type 0} (f g : X → ℕ) (xs : List X) (i : ℕ) (x : X) (c : ℕ) → ((x : X) → f x ≤ g x) → slice_get xs i ≡ Some x → f x + c ≤ g x → total f xs + c ≤ total g xs
total_less f g [] i x c h is k = cc
total_less f g (y ∷ ys) zero x c h is k = let e = ap f (some_eq is) in let d = ap g (some_eq is) in let a = total_le f g ys h in omega arith
total_less f g (y ∷ ys) (suc i) x c h is k = let a = h y in let b = total_less f g ys i x c h is k in omega arith

pub total_find : {X : Type 0} (P : X → Bool) (f g : X → ℕ) (xs : List X) (x : X) (c : ℕ) → ((x : X) → f x ≤ g x) → find P xs ≡ Some x → f x + c ≤ g x → total f xs + c ≤ total g xs
total_find P f g [] x c h is k = cc
total_find {X} P f g (y ∷ ys) x c h is k =
    (elim (P y) as (λ b. cond b (Some y) (find P ys) ≡ Some x → total f (y ∷ ys) + c ≤ total g (y ∷ ys)) [
      | true ↦ λ l. let e = ap f (some_eq l) in let d = ap g (some_eq l) in let a = total_le f g ys h in omega arith
      | false ↦ λ l. let a = h y in let b = total_find P f g ys x c h l k in omega arith
    ]) is

pub total_same : {X : Type 0} (f : X → ℕ) (change : X → X) (xs : List X) → ((x : X) → f (change x) ≡ f x) → total f (map change xs) ≡ total f xs
total_same f change [] h = refl
total_same f change (x ∷ xs) h = let a = h x in let b = total_same f change xs h in omega arith

pub drop_less : {X : Type 0} (f : X → ℕ) (n m : ℕ) (xs : List X) → n ≤ m → total f (drop m xs) ≤ total f (drop n xs)
drop_less f zero zero xs h = omega arith
drop_less f (suc n) zero xs h = absurd (omega arith)
drop_less f zero (suc m) [] h = omega arith
drop_less f zero (suc m) (x ∷ xs) h = let a = drop_less f zero m xs (omega arith) in omega arith
drop_less f (suc n) (suc m) [] h = omega arith
drop_less f (suc n) (suc m) (x ∷ xs) h = drop_less f n m xs (omega arith)

pub drop_push : {X : Type 0} (f : X → ℕ) (n : ℕ) (xs : List X) (y : X) → total f (drop n (xs ++ y ∷ [])) ≤ total f (drop n xs) + f y
drop_push f zero xs y = let a = total_append f xs (y ∷ []) in omega arith
drop_push f (suc n) [] y = elim n as (λ n. total f (drop n []) ≤ 0 + f y) [ zero ↦ omega arith | suc n ↦ omega arith ]
drop_push f (suc n) (x ∷ xs) y = drop_push f n xs y

pub drop_first : {X : Type 0} (f : X → ℕ) (n : ℕ) (xs : List X) (x : X) → slice_get xs n ≡ Some x → total f (drop (n + 1) xs) + f x ≤ total f (drop n xs)
drop_first f n [] x h = cc
drop_first f zero (y ∷ ys) x h = let e = ap f (some_eq h) in omega arith
drop_first f (suc n) (y ∷ ys) x h = let one : suc n + 1 ≡ suc (n + 1) = omega arith in rw one (drop_first f n ys x h)

-- ---- what arrived doesn't get less

-- no session of the key has fewer items that came
pub record Comes (old new : List Session) : Type 0 where
  pub less : (key : Key) → came_in (session_of key old) ≤ came_in (session_of key new)

comes_then : {a b c : List Session} → Comes a b → Comes b c → Comes a c
comes_then g h = record { less = λ key. let x = g.less key in let y = h.less key in omega arith }

came_found : (old new : Option Session) → ((x : Session) → old ≡ Some x → new ≡ Some x) → came_in old ≤ came_in new
came_found None new f = omega arith
came_found (Some x) new f = let e = ap came_in (f x refl) in omega arith

comes_append : (ss : List Session) (x : Session) → Comes ss (ss ++ x ∷ [])
comes_append ss x = record { less = λ key. came_found (session_of key ss) (session_of key (ss ++ x ∷ [])) (λ y h. find_before (λ z. key_eq key z.key) ss (x ∷ []) y h) }

came_mapped : (change : Session → Session) (o : Option Session) → ((x : Session) → length x.came ≤ length (change x).came) → came_in o ≤ came_in (option_map change o)
came_mapped change None f = omega arith
came_mapped change (Some x) f = f x

comes_map : (change : Session → Session) (ss : List Session) → ((x : Session) → (change x).key ≡ x.key) → ((x : Session) → length x.came ≤ length (change x).came) → Comes ss (map change ss)
comes_map change ss f g = record { less = λ key. let e = find_map (λ z. key_eq key z.key) change ss (λ x. ap (key_eq key) (f x)) in let l = came_mapped change (session_of key ss) g in let d = ap came_in e in omega arith }

comes_changed : (key : Key) (change : Session → Session) (ss : List Session) → ((x : Session) → (change x).key ≡ x.key) → ((x : Session) → length x.came ≤ length (change x).came) → Comes ss (changed_at key change ss)
comes_changed key change ss f g = comes_map (λ x. cond (key_eq key x.key) (change x) x) ss
    (λ x. elim (key_eq key x.key) as (λ b. (cond b (change x) x).key ≡ x.key) [ true ↦ f x | false ↦ refl ])
    (λ x. elim (key_eq key x.key) as (λ b. length x.came ≤ length (cond b (change x) x).came) [ true ↦ g x | false ↦ omega arith ])

comes_came : (ev : Event) (bodies : List Body) (owner : Option ℕ) (ss : List Session) → Comes ss (came_on ev bodies owner ss)
comes_came (event.Answer key) bodies owner ss = comes_append ss _
comes_came (event.Arrive key direction number) bodies owner ss = comes_changed key (with_came bodies) ss (λ x. refl) (λ x. let e = length-append x.came bodies in omega arith)
comes_came (event.Start f class args) bodies owner ss = record { less = λ key. omega arith }
comes_came (event.Move f) bodies owner ss = record { less = λ key. omega arith }
comes_came (event.Lapse f) bodies owner ss = record { less = λ key. omega arith }

comes_opened : (o : Option (Key × Party)) (owner : Option ℕ) (ss : List Session) → Comes ss (opened_on o owner ss)
comes_opened None owner ss = record { less = λ key. omega arith }
comes_opened (Some opened) owner ss = comes_append ss _

comes_sent : (stamp : ℕ) (items : List SentItem) (ss : List Session) → Comes ss (sent_on stamp items ss)
comes_sent stamp [] ss = record { less = λ key. omega arith }
comes_sent stamp (item ∷ items) ss = comes_then (comes_changed item.key (with_sent (record { body = item.body; stamp = stamp })) ss (λ x. refl) (λ x. omega arith)) (comes_sent stamp items _)

comes_taken : (o : Option (Key × ℕ)) (ss : List Session) → Comes ss (taken_on o ss)
comes_taken None ss = record { less = λ key. omega arith }
comes_taken (Some taken) ss = comes_changed taken.0 (with_taken taken.1) ss (λ x. refl) (λ x. omega arith)

pub sessions_come : {F : Type 0} (cause : Cause) (e : Effect F) (ss : List Session) → Comes ss (sessions_on cause e ss)
sessions_come cause e ss = comes_then (comes_came cause.event _ _ ss) (comes_then (comes_opened e.change.opened _ _) (comes_then (comes_sent cause.stamp e.change.sent _) (comes_taken e.change.taken _)))

-- ---- what sessions leave, with what arrived held fixed

module _ {F : Type 0} (w : Environment F) (net : List (NodeState F)) where
  abbrev pub Items : List Session → ℕ
  Items ss = total (session_left w net) ss

  pub items_append : (ss : List Session) (x : Session) → x.sent ≡ [] → Items (ss ++ x ∷ []) ≡ Items ss
  items_append ss x e = let a = total_append (session_left w net) ss (x ∷ []) in let b : session_left w net x ≡ 0 = none (arrived_at (slice_get net x.peer.0) x.key) x.sent e in omega arith
    where
      none : (n : ℕ) (sent : List Sent) → sent ≡ [] → total (λ (i : Sent). item_left w.machine i.body) (drop n sent) ≡ 0
      none zero sent e = ap (total (λ (i : Sent). item_left w.machine i.body)) e
      none (suc n) [] e = refl
      none (suc n) (x ∷ xs) e = cc

  pub items_quiet : (key : Key) (change : Session → Session) (ss : List Session) → ((x : Session) → session_left w net (change x) ≡ session_left w net x) → Items (changed_at key change ss) ≡ Items ss
  items_quiet key change ss f = total_same (session_left w net) (λ x. cond (key_eq key x.key) (change x) x) ss (λ x. elim (key_eq key x.key) as (λ b. session_left w net (cond b (change x) x) ≡ session_left w net x) [ true ↦ f x | false ↦ refl ])

  unchanged : (key : Key) (change : Session → Session) (ss : List Session) → list_any (λ x. key_eq key x.key) ss ≡ false → changed_at key change ss ≡ ss
  unchanged key change [] h = refl
  unchanged key change (x ∷ xs) h = let p = or_parts (key_eq key x.key) (list_any (λ y. key_eq key y.key) xs) h in let e = p.0 in rw e (ap (λ (l : List Session). x ∷ l) (unchanged key change xs p.1))

  pub items_one : (key : Key) (item : Sent) (ss : List Session) → keys_differ ss ≡ true → Items (changed_at key (with_sent item) ss) ≤ Items ss + item_left w.machine item.body
  items_one key item [] h = omega arith
  items_one key item (x ∷ xs) h =
      let p = and_parts (not (list_any (λ y. key_eq x.key y.key) xs)) (keys_differ xs) h in
      (elim (key_eq key x.key) as (λ b. key_eq key x.key ≡ b → session_left w net (cond b (with_sent item x) x) + Items (changed_at key (with_sent item) xs) ≤ session_left w net x + Items xs + item_left w.machine item.body) [
        | true ↦ λ e.
            let same : key ≡ x.key = key_exact key x.key e in
            let rest : Items (changed_at key (with_sent item) xs) ≡ Items xs = ap Items (unchanged key (with_sent item) xs (ap (λ (k : Key). list_any (λ y. key_eq k y.key) xs) same ∙ not-true _ p.0)) in
            let push = drop_push (λ (i : Sent). item_left w.machine i.body) (arrived_at (slice_get net x.peer.0) x.key) x.sent item in omega arith
        | false ↦ λ e. let a = items_one key item xs p.1 in omega arith
      ]) refl

-- nothing that came is lost behind the first part of an effect
pub rest_come : {F : Type 0} (cause : Cause) (e : Effect F) (ss : List Session) → Comes (came_on cause.event (option_to_list e.change.came) (flow_of e.flow) ss) (sessions_on cause e ss)
rest_come cause e ss = comes_then (comes_opened e.change.opened _ _) (comes_then (comes_sent cause.stamp e.change.sent _) (comes_taken e.change.taken _))
