-- The sessions that a flow owns, and the items that are there.
use Rattle.std.proofs.Common.{◌≡◌, ℕ, zero, suc, ◌+◌, ◌<◌, ◌≤◌, ⊎_elim, Bool, true, false, not, List, [], ◌∷◌, ◌++◌, Option, Some, None, refl, sym, ◌∙◌, ap, subst, cond, map, filter, find, drop, length, slice_get, option_map, arith, nat_le}
use Rattle.std.specs.Prelude.{is_some}
use Rattle.std.specs.List.{list_any}
use Rattle.std.specs.Option.{option_and_then}
use Rattle.std.proofs.lemmas.Bool.{and_parts, le-leb, lt-leb, not-true, both_ways, or_left, or_right}
use Rattle.std.proofs.lemmas.List.{append_assoc, append-nil, drop_all}
use Rattle.std.proofs.lemmas.Option.{slice_get_cases}
use Rattle.net_base.specs.declared.names.Key.{Key}
use Rattle.net_base.proofs.Lists.{find_test, drop_get}
use Rattle.flow_machine.specs.declared.acts.Resumed.{Resumed}
use Rattle.session_wire.specs.declared.body.Body.{Body}
use Rattle.session_wire.specs.declared.change.SentItem.{SentItem}
use Rattle.session_wire.specs.Sessions.{Session, key_eq, session_of, next_item, first_item}
use Rattle.session_wire.specs.Rules.{is_owner, sessions_of, owned_by, owned}
use Rattle.session_wire.proofs.Keys.{key_exact, key_same}
use Rattle.session_wire.proofs.Items.{found_between}
use Rattle.session_table.specs.Tables.{item_there, of_flow}
use Rattle.net_model.specs.State.{nothing}
use Rattle.net_model.specs.Steps.{Done, handed, takes, receives}
use Rattle.net_model.specs.Fits.{keys_differ}

-- ---- keys

-- the session of a key has it
pub key_found : (key : Key) (list : List Session) (s : Session) → session_of key list ≡ Some s → key ≡ s.key
key_found key list s h = key_exact key s.key (find_test (λ x. key_eq key x.key) list s h)

-- ---- the session that a flow owns

-- where the flow owns it, it is the session
pub owned_whole : (f : ℕ) (o : Option Session) → is_some (owned_by f o) ≡ true → owned_by f o ≡ o
owned_whole f None h = refl
owned_whole f (Some s) h = (elim (is_owner f s.owner) as (λ b. is_some (cond b (Some s) None) ≡ true → cond b (Some s) None ≡ Some s) [ true ↦ λ k. refl | false ↦ λ k. cc ]) h

-- ---- the places of a list

-- an element is there exactly at a place below the length
pub get_exactly : {X : Type 0} (xs : List X) (n : ℕ) → is_some (slice_get xs n) ≡ nat_le (suc n) (length xs)
get_exactly xs n = ⊎_elim (λ h. ap is_some h.2 ∙ sym (le-leb (suc n) (length xs) (omega (arith, h.1)))) (λ h. ap is_some h.1 ∙ sym (lt-leb (suc n) (length xs) (omega (arith, h.0)))) (slice_get_cases xs n).1

pub mapped_there : {X Y : Type 0} (f : X → Y) (o : Option X) → is_some (option_map f o) ≡ is_some o
mapped_there f None = refl
mapped_there f (Some x) = refl

-- ---- what is received

-- the number of the item that is there
pub place_between : (s : Session) (ending : Option Body) (n : ℕ) → option_and_then (λ (found : Option ℕ × Body). found.0) (next_item s ending) ≡ Some n → (s.taken ≤ n) × (n < length s.came)
place_between s (Some e) n h = cc
place_between s None n h = by (first_item s.taken (drop s.taken s.came)) refl h
  where
    by : (o : Option (ℕ × Body)) → first_item s.taken (drop s.taken s.came) ≡ o → option_and_then (λ (found : Option ℕ × Body). found.0) (option_map (λ (found : ℕ × Body). (Some found.0, found.1)) o) ≡ Some n → (s.taken ≤ n) × (n < length s.came)
    by None e k = cc
    by (Some found) e k =
        let one : found.0 ≡ n = cc k in
        let p = found_between s found e in
        subst (λ (m : ℕ). (s.taken ≤ m) × (m < length s.came)) one p

-- it is below the count of those that arrived
pub place_below : (key : Key) (list : List Session) (n count : ℕ) → Some n ≡ option_and_then (λ (found : Option ℕ × Body). found.0) (item_there key list) → Some count ≡ option_map (λ s. length s.came) (session_of key list) → n < count
place_below key list n count h k = by (session_of key list) h k
  where
    by : (o : Option Session) → Some n ≡ option_and_then (λ (found : Option ℕ × Body). found.0) (option_and_then (λ s. next_item s s.ending) o) → Some count ≡ option_map (λ s. length s.came) o → n < count
    by None i j = cc
    by (Some s) i j =
        let same : count ≡ length s.came = cc j in
        let p = place_between s s.ending n (sym i) in
        let q = p.1 in
        omega arith

-- what is received where an item is there
pub receives_item : (f : ℕ) (key : Key) (list : List Session) (body : Body) → is_some (owned f key list) ≡ true → Some body ≡ option_map (λ found. found.1) (item_there key list)
    → Some (handed body, record nothing { taken = option_map (λ n. (key, n + 1)) (option_and_then (λ (found : Option ℕ × Body). found.0) (item_there key list)) }) ≡ receives (owned f key list)
receives_item f key list body h k = by (session_of key list) refl h k
  where
    by : (o : Option Session) → session_of key list ≡ o → is_some (owned_by f o) ≡ true → Some body ≡ option_map (λ found. found.1) (option_and_then (λ s. next_item s s.ending) o)
        → Some (handed body, record nothing { taken = option_map (λ n. (key, n + 1)) (option_and_then (λ (found : Option ℕ × Body). found.0) (option_and_then (λ s. next_item s s.ending) o)) }) ≡ receives (owned_by f o)
    by None e i j = cc
    by (Some s) e i j =
        subst (λ (o : Option Session). Some (handed body, record nothing { taken = option_map (λ n. (key, n + 1)) (option_and_then (λ (found : Option ℕ × Body). found.0) (next_item s s.ending)) }) ≡ receives o) (sym (owned_whole f (Some s) i))
        (on (next_item s s.ending) j)
      where
        on : (next : Option (Option ℕ × Body)) → Some body ≡ option_map (λ found. found.1) next → Some (handed body, record nothing { taken = option_map (λ n. (key, n + 1)) (option_and_then (λ (found : Option ℕ × Body). found.0) next) }) ≡ option_map (takes s) next
        on None l = cc
        on (Some found) l =
            let one : body ≡ found.1 = cc l in
            let its_key : key ≡ s.key = key_found key list s e in
            ap (λ (b : Body). Some (handed b, record nothing { taken = option_map (λ n. (key, n + 1)) found.0 })) one ∙ ap (λ (k : Key). Some (handed found.1, record nothing { taken = option_map (λ n. (k, n + 1)) found.0 })) its_key

-- the same, of parts that are equal to these
pub receives_made : (f : ℕ) (key : Key) (list : List Session) (body : Body) (with : Resumed) (sent : List SentItem) (taken : Option (Key × ℕ)) → is_some (owned f key list) ≡ true → Some body ≡ option_map (λ found. found.1) (item_there key list)
    → with ≡ handed body → sent ≡ [] → taken ≡ option_map (λ n. (key, n + 1)) (option_and_then (λ (found : Option ℕ × Body). found.0) (item_there key list)) → ◌≡◌ {A = Option Done} (Some (with, record nothing { sent = sent; taken = taken })) (receives (owned f key list))
receives_made f key list body with sent taken h k e none t =
    let made : ◌≡◌ {A = Option Done} (Some (with, record nothing { sent = sent; taken = taken })) (Some (handed body, record nothing { taken = option_map (λ n. (key, n + 1)) (option_and_then (λ (found : Option ℕ × Body). found.0) (item_there key list)) })) = λ i. Some (e i, record nothing { sent = none i; taken = t i }) in
    made ∙ receives_item f key list body h k

-- ---- all sessions of a flow

-- a session that is found passes each test that it passes among all
pub any_found : {X : Type 0} (test P : X → Bool) (xs : List X) (x : X) → find test xs ≡ Some x → P x ≡ true → list_any P xs ≡ true
any_found test P [] x h k = cc
any_found {X} test P (y ∷ xs) x h k =
    (elim (test y) as (λ b. cond b (Some y) (find test xs) ≡ Some x → list_any P (y ∷ xs) ≡ true)
    [ true ↦ λ e. let one : y ≡ x = cc e in or_left _ _ (subst (λ (z : X). P z ≡ true) (sym one) k) | false ↦ λ e. or_right _ _ (any_found test P xs x e k) ]) h

-- where keys differ, each session of a flow is found by its key
pub found_own : (P : Session → Bool) (list : List Session) (n : ℕ) (s : Session) → keys_differ list ≡ true → slice_get (filter P list) n ≡ Some s → session_of s.key list ≡ Some s
found_own P [] zero s h k = cc
found_own P [] (suc n) s h k = cc
found_own P (x ∷ xs) n s h k = by (P x) n (λ m. found_own P xs m s both.1) k
  where
    both : (not (list_any (λ other. key_eq x.key other.key) xs) ≡ true) × (keys_differ xs ≡ true)
    both = and_parts (not (list_any (λ other. key_eq x.key other.key) xs)) (keys_differ xs) h

    behind : session_of s.key xs ≡ Some s → session_of s.key (x ∷ xs) ≡ Some s
    behind e = on (key_eq s.key x.key) refl
      where
        on : (b : Bool) → key_eq s.key x.key ≡ b → cond b (Some x) (session_of s.key xs) ≡ Some s
        on true is = let same = key_exact s.key x.key is in absurd (both_ways (list_any (λ other. key_eq x.key other.key) xs) (not-true _ both.0) (any_found (λ y. key_eq s.key y.key) (λ other. key_eq x.key other.key) xs s e (subst (λ (q : Key). key_eq q s.key ≡ true) same (key_same s.key))))
        on false is = e

    here : x ≡ s → session_of s.key (x ∷ xs) ≡ Some s
    here e = subst (λ (y : Session). cond (key_eq s.key y.key) (Some y) (session_of s.key xs) ≡ Some s) (sym e) (subst (λ (b : Bool). cond b (Some s) (session_of s.key xs) ≡ Some s) (sym (key_same s.key)) refl)

    by : (b : Bool) (m : ℕ) → ((m : ℕ) → slice_get (filter P xs) m ≡ Some s → session_of s.key xs ≡ Some s) → slice_get (cond b (x ∷ filter P xs) (filter P xs)) m ≡ Some s → session_of s.key (x ∷ xs) ≡ Some s
    by true zero rest l = let one : x ≡ s = cc l in here one
    by true (suc m) rest l = behind (rest m l)
    by false m rest l = behind (rest m l)

-- the flow's n-th session is found by its key
pub found_nth : (f n : ℕ) (list : List Session) (key : Key) → keys_differ list ≡ true → Some key ≡ of_flow f n list → (s : Session) × (session_of key list ≡ Some s) × (slice_get (sessions_of f list) n ≡ Some s)
found_nth f n list key h k = by (slice_get (sessions_of f list) n) refl k
  where
    by : (o : Option Session) → slice_get (sessions_of f list) n ≡ o → Some key ≡ option_map (λ s. s.key) o → (s : Session) × (session_of key list ≡ Some s) × (slice_get (sessions_of f list) n ≡ Some s)
    by None e i = cc
    by (Some s) e i =
        let same : s.key ≡ key = cc i in
        (s, subst (λ (q : Key). session_of q list ≡ Some s) same (found_own (λ x. is_owner f x.owner) list n s h e), e)

-- a flow has a session at each place below their count
pub there_nth : (f n : ℕ) (list : List Session) → n < length (sessions_of f list) → is_some (of_flow f n list) ≡ true
there_nth f n list below = mapped_there (λ (s : Session). s.key) (slice_get (sessions_of f list) n) ∙ get_exactly (sessions_of f list) n ∙ le-leb (suc n) (length (sessions_of f list)) (omega (arith, below))

-- the items so far, with those that are left, are all
pub told_more : (g : Session → SentItem) (ss : List Session) (n : ℕ) (s : Session) (old new : List SentItem) (item : SentItem) → new ≡ old ++ item ∷ [] → item ≡ g s → slice_get ss n ≡ Some s → old ++ map g (drop n ss) ≡ map g ss → new ++ map g (drop (n + 1) ss) ≡ map g ss
told_more g ss n s old new item e same there h =
    let up : n + 1 ≡ suc n = omega arith in
    ap (λ (l : List SentItem). l ++ map g (drop (n + 1) ss)) e
    ∙ append_assoc old (item ∷ []) (map g (drop (n + 1) ss))
    ∙ ap (λ (x : SentItem). old ++ (x ∷ map g (drop (n + 1) ss))) same
    ∙ ap (λ (m : ℕ). old ++ (g s ∷ map g (drop m ss))) up
    ∙ ap (λ (l : List Session). old ++ map g l) (sym (drop_get ss n s there))
    ∙ h

-- where none are left, they are all
pub told_all : (g : Session → SentItem) (ss : List Session) (n : ℕ) (items : List SentItem) → length ss ≤ n → items ++ map g (drop n ss) ≡ map g ss → items ≡ map g ss
told_all g ss n items past h = sym (append-nil items) ∙ ap (λ (l : List Session). items ++ map g l) (sym (drop_all n ss past)) ∙ h
