-- What a step of the table makes of the sessions that contracts see.
use Rattle.std.proofs.Common.{◌≡◌, ℕ, Bool, true, false, List, [], ◌∷◌, ◌++◌, Option, Some, None, refl, sym, ◌∙◌, ap, cond, map, length, slice_get, arith, is_some, option_map, true≢false, filter, ◌≤◌, ◌-◌, zero, suc}
use Rattle.std.specs.Option.{option_and_then}
use Rattle.std.proofs.lemmas.List.{append-nil, length-map, map_push, nil_from_length}
use Rattle.std.specs.List.{list_all}
use Rattle.std.specs.Map.{lookup, keys_of}
use Rattle.net_base.specs.declared.names.Key.{Key}
use Rattle.net_base.specs.declared.values.Party.{Party}
use Rattle.session_wire.specs.declared.body.Body.{Body}
use Rattle.session_wire.specs.Sessions.{Session, key_eq, session_of, changed_at, new_session, with_came, with_sent, ending_at, ending_of, sent_on}
use Rattle.session_wire.specs.Rules.{is_opened_by, opened_by, next_key, is_init}
use Rattle.session_table.specs.Changes.{came_on, FitsCame, FitsOpened, acks_of_came, acks_of_opened}
use Rattle.session_wire.specs.declared.change.SessionChange.{SessionChange}
use Rattle.session_wire.specs.declared.change.SentItem.{SentItem}
use Rattle.session_wire.proofs.Keys.{key_exact, key_same}
use Rattle.session_table.specs.Kept.{is_below, items_of, place_of, sent_of, session_at, IsCounted, Rewrites, one_came, one_sent}
use Rattle.session_table.specs.declared.standing.Standing.{Standing}
use Rattle.session_table.specs.declared.standing.Place.{Place}
use Rattle.session_table.specs.declared.standing.Posted.{Posted}
use Rattle.session_table.proofs.Found.{nat_same, present, count_is, own_new, session_found}
use Rattle.session_table.proofs.Written.{written, map_set}
use Rattle.session_table.proofs.Items.{items_more}

-- how a session that stands is kept
pub stands_at : (sent : List (Place × Posted)) (came : List (Place × Body)) (lines : List (Key × Standing)) (list : List Session) (k : Key)
    → map (session_at sent came) lines ≡ list → is_some (session_of k list) ≡ true → (v : Standing) × (Some v ≡ lookup (key_eq k) lines)
stands_at sent came lines list k same stands = by (lookup (key_eq k) lines) refl
  where
    by : (o : Option Standing) → lookup (key_eq k) lines ≡ o → (v : Standing) × (Some v ≡ lookup (key_eq k) lines)
    by (Some v) is = (v, sym is)
    by None is = absurd (true≢false (sym stands ∙ ap is_some (ap (session_of k) (sym same) ∙ session_found sent came k lines ∙ ap (option_map (λ v. session_at sent came (k, v))) is)))

-- the session of a line
pub found_line : (sent : List (Place × Posted)) (came : List (Place × Body)) (lines : List (Key × Standing)) (list : List Session) (k : Key) (s : Session)
    → map (session_at sent came) lines ≡ list → session_of k list ≡ Some s → (v : Standing) × ((Some v ≡ lookup (key_eq k) lines) × (s ≡ session_at sent came (k, v)))
found_line sent came lines list k s same stands = by (lookup (key_eq k) lines) refl
  where
    one : Some s ≡ option_map (λ v. session_at sent came (k, v)) (lookup (key_eq k) lines)
    one = sym stands ∙ ap (session_of k) (sym same) ∙ session_found sent came k lines

    by : (o : Option Standing) → lookup (key_eq k) lines ≡ o → (v : Standing) × ((Some v ≡ lookup (key_eq k) lines) × (s ≡ session_at sent came (k, v)))
    by (Some v) is = let e : Some s ≡ Some (session_at sent came (k, v)) = one ∙ ap (option_map (λ v. session_at sent came (k, v))) is in (v, (sym is, cc e))
    by None is = absurd (let e : Some s ≡ None = one ∙ ap (option_map (λ v. session_at sent came (k, v))) is in cc e)

-- an item arrived
pub list_came : (sent : List (Place × Posted)) (came : List (Place × Body)) (lines after : List (Key × Standing)) (k : Key) (n : ℕ) (x : Body) (v : Standing)
    → Some v ≡ lookup (key_eq k) lines → Rewrites k one_came lines after
    → map (session_at sent (came ++ (place_of k n, x) ∷ [])) after ≡ changed_at k (with_came (x ∷ [])) (map (session_at sent came) lines)
list_came sent came lines after k n x v there rewrites =
    ap (map (session_at sent (came ++ (place_of k n, x) ∷ []))) (rewrites.found v there)
    ∙ written k (session_at sent came) (session_at sent (came ++ (place_of k n, x) ∷ [])) (with_came (x ∷ [])) (λ q. refl) other lines v (one_came v) rewrites.unique (sym there) mine
  where
    other : (q : Key × Standing) → key_eq k q.0 ≡ false → session_at sent (came ++ (place_of k n, x) ∷ []) q ≡ session_at sent came q
    other q apart =
        let back : key_eq q.0 k ≡ false = flip (key_eq q.0 k) refl in
        let items : items_of q.0 (came ++ (place_of k n, x) ∷ []) ≡ items_of q.0 came = items_more q.0 came (place_of k n) x ∙ rw back (append-nil (items_of q.0 came)) in
        λ i. record (session_at sent came q) { came = items i }
      where
        flip : (b : Bool) → key_eq q.0 k ≡ b → key_eq q.0 k ≡ false
        flip true is = absurd (true≢false (sym (key_same k) ∙ ap (key_eq k) (sym (key_exact q.0 k is)) ∙ apart))
        flip false is = is

    mine : session_at sent (came ++ (place_of k n, x) ∷ []) (k, one_came v) ≡ with_came (x ∷ []) (session_at sent came (k, v))
    mine =
        let items : items_of k (came ++ (place_of k n, x) ∷ []) ≡ items_of k came ++ x ∷ [] = items_more k came (place_of k n) x ∙ rw (key_same k) refl in
        λ i. record (session_at sent came (k, v)) { came = items i }

-- an item was sent
pub list_sent : (sent : List (Place × Posted)) (came : List (Place × Body)) (lines after : List (Key × Standing)) (k : Key) (n : ℕ) (x : Posted) (v : Standing)
    → Some v ≡ lookup (key_eq k) lines → Rewrites k one_sent lines after
    → map (session_at (sent ++ (place_of k n, x) ∷ []) came) after ≡ changed_at k (with_sent (sent_of x)) (map (session_at sent came) lines)
list_sent sent came lines after k n x v there rewrites =
    ap (map (session_at (sent ++ (place_of k n, x) ∷ []) came)) (rewrites.found v there)
    ∙ written k (session_at sent came) (session_at (sent ++ (place_of k n, x) ∷ []) came) (with_sent (sent_of x)) (λ q. refl) other lines v (one_sent v) rewrites.unique (sym there) mine
  where
    other : (q : Key × Standing) → key_eq k q.0 ≡ false → session_at (sent ++ (place_of k n, x) ∷ []) came q ≡ session_at sent came q
    other q apart =
        let back : key_eq q.0 k ≡ false = flip (key_eq q.0 k) refl in
        let items : items_of q.0 (sent ++ (place_of k n, x) ∷ []) ≡ items_of q.0 sent = items_more q.0 sent (place_of k n) x ∙ rw back (append-nil (items_of q.0 sent)) in
        λ i. record (session_at sent came q) { sent = map sent_of (items i) }
      where
        flip : (b : Bool) → key_eq q.0 k ≡ b → key_eq q.0 k ≡ false
        flip true is = absurd (true≢false (sym (key_same k) ∙ ap (key_eq k) (sym (key_exact q.0 k is)) ∙ apart))
        flip false is = is

    mine : session_at (sent ++ (place_of k n, x) ∷ []) came (k, one_sent v) ≡ with_sent (sent_of x) (session_at sent came (k, v))
    mine =
        let items : items_of k (sent ++ (place_of k n, x) ∷ []) ≡ items_of k sent ++ x ∷ [] = items_more k sent (place_of k n) x ∙ rw (key_same k) refl in
        λ i. record (session_at sent came (k, v)) { sent = (ap (map sent_of) items ∙ map_push sent_of (items_of k sent) x) i }

-- the numbers of what is acknowledged stay
pub acks_set : (lines after : List (Key × Standing)) (k : Key) (change : Standing → Standing) (v : Standing) → ((v : Standing) → (change v).acked ≡ v.acked) → Some v ≡ lookup (key_eq k) lines → Rewrites k change lines after → map (λ e. e.1.acked) after ≡ map (λ e. e.1.acked) lines
acks_set lines after k change v same there rewrites = ap (map (λ e. e.1.acked)) (rewrites.found v there) ∙ map_set (λ e. e.1.acked) k lines v (change v) (sym there) (λ q. same v)

-- a session's line changed
pub list_set : (sent : List (Place × Posted)) (came : List (Place × Body)) (lines after : List (Key × Standing)) (k : Key) (change : Standing → Standing) (to : Session → Session) (v : Standing)
    → session_at sent came (k, change v) ≡ to (session_at sent came (k, v)) → Some v ≡ lookup (key_eq k) lines → Rewrites k change lines after → map (session_at sent came) after ≡ changed_at k to (map (session_at sent came) lines)
list_set sent came lines after k change to v mine there rewrites =
    ap (map (session_at sent came)) (rewrites.found v there)
    ∙ written k (session_at sent came) (session_at sent came) to (λ q. refl) (λ q apart. refl) lines v (change v) rewrites.unique (sym there) mine

-- a session was made
pub list_begun : (sent : List (Place × Posted)) (came : List (Place × Body)) (lines : List (Key × Standing)) (k : Key) (w : Standing)
    → IsCounted (λ s. s.sent) lines sent → IsCounted (λ s. s.came) lines came → lookup (key_eq k) lines ≡ None
    → w.taken ≡ 0 → w.ending ≡ None
    → map (session_at sent came) (lines ++ (k, w) ∷ []) ≡ map (session_at sent came) lines ++ new_session k w.peer w.owner [] ∷ []
list_begun sent came lines k w sent_counted came_counted new none_taken none_ended = push lines ∙ ap (λ s. map (session_at sent came) lines ++ s ∷ []) made
  where
    push : (es : List (Key × Standing)) → map (session_at sent came) (es ++ (k, w) ∷ []) ≡ map (session_at sent came) es ++ session_at sent came (k, w) ∷ []
    push [] = refl
    push (e ∷ es) = ap (λ l. session_at sent came e ∷ l) (push es)

    none_sent : items_of k sent ≡ []
    none_sent = nil_from_length (items_of k sent) (sent_counted k ∙ rw new refl)

    none_came : items_of k came ≡ []
    none_came = nil_from_length (items_of k came) (came_counted k ∙ rw new refl)

    made : session_at sent came (k, w) ≡ new_session k w.peer w.owner []
    made = λ i. record { key = k; peer = w.peer; owner = w.owner; sent = map sent_of (none_sent i); came = none_came i; taken = none_taken i; ending = none_ended i }

-- what the session of a line counts
pub sent_count : (sent : List (Place × Posted)) (came : List (Place × Body)) (lines : List (Key × Standing)) (list : List Session) (k : Key) (s : Session) (v : Standing)
    → map (session_at sent came) lines ≡ list → session_of k list ≡ Some s → Some v ≡ lookup (key_eq k) lines → IsCounted (λ s. s.sent) lines sent → length s.sent ≡ v.sent
sent_count sent came lines list k s v same stands there counted =
    let e : Some (session_at sent came (k, v)) ≡ Some s = sym (present sent came lines list k v same there) ∙ stands in
    let one : session_at sent came (k, v) ≡ s = cc e in
    ap (λ (s : Session). length s.sent) (sym one) ∙ length-map _ _ ∙ count_is (λ s. s.sent) lines sent k v counted there

-- the key of a session that may be made is new
pub new_line : (me : Party) (n : ℕ) (sent : List (Place × Posted)) (came : List (Place × Body)) (lines : List (Key × Standing)) (list : List Session) (k : Key)
    → map (session_at sent came) lines ≡ list → list_all (is_below me n) (keys_of lines) ≡ true → (is_opened_by me k ≡ false → session_of k list ≡ None) → (is_opened_by me k ≡ true → k.number ≡ n) → lookup (key_eq k) lines ≡ None
new_line me n sent came lines list k same below other own = by (is_opened_by me k) refl
  where
    gone : (o : Option Standing) → lookup (key_eq k) lines ≡ o → session_of k list ≡ None → lookup (key_eq k) lines ≡ None
    gone None is none = is
    gone (Some v) is none = absurd (let e : Some (session_at sent came (k, v)) ≡ None = sym (present sent came lines list k v same (sym is)) ∙ none in cc e)

    by : (b : Bool) → is_opened_by me k ≡ b → lookup (key_eq k) lines ≡ None
    by true is = own_new me n k lines below is (own is)
    by false is = gone (lookup (key_eq k) lines) refl (other is)

-- the ending among the first n items is the last of them
pub ending_found : (came : List Body) (n : ℕ) → (n ≡ 0 → ⊥) → ending_at came n ≡ option_and_then ending_of (slice_get came (n - 1))
ending_found came zero some = absurd (some refl)
ending_found came (suc m) some = let back : suc m - 1 ≡ m = omega arith in ap (λ (k : ℕ). option_and_then ending_of (slice_get came k)) (sym back)

-- a session that was made takes its first item
pub came_begun : (list : List Session) (k : Key) (peer : Party) (owner : Option ℕ) (x : Body) → session_of k list ≡ None → changed_at k (with_came (x ∷ [])) (list ++ new_session k peer owner [] ∷ []) ≡ list ++ new_session k peer owner (x ∷ []) ∷ []
came_begun [] k peer owner x new = let same = key_same k in rw same refl
came_begun (s ∷ ss) k peer owner x new = by (key_eq k s.key) refl (λ rest. came_begun ss k peer owner x rest)
  where
    by : (b : Bool) → key_eq k s.key ≡ b → (session_of k ss ≡ None → changed_at k (with_came (x ∷ [])) (ss ++ new_session k peer owner [] ∷ []) ≡ ss ++ new_session k peer owner (x ∷ []) ∷ []) → changed_at k (with_came (x ∷ [])) ((s ∷ ss) ++ new_session k peer owner [] ∷ []) ≡ (s ∷ ss) ++ new_session k peer owner (x ∷ []) ∷ []
    by true is ih = absurd (let e : Some s ≡ None = rw is at new in cc e)
    by false is ih = let rest : session_of k ss ≡ None = rw is at new in rw is (ap (λ l. s ∷ l) (ih rest))

-- and stands then
pub stands_begun : (list : List Session) (k : Key) (peer : Party) (owner : Option ℕ) → session_of k list ≡ None → session_of k (list ++ new_session k peer owner [] ∷ []) ≡ Some (new_session k peer owner [])
stands_begun [] k peer owner new = let same = key_same k in rw same refl
stands_begun (s ∷ ss) k peer owner new = by (key_eq k s.key) refl (λ rest. stands_begun ss k peer owner rest)
  where
    by : (b : Bool) → key_eq k s.key ≡ b → (session_of k ss ≡ None → session_of k (ss ++ new_session k peer owner [] ∷ []) ≡ Some (new_session k peer owner [])) → session_of k ((s ∷ ss) ++ new_session k peer owner [] ∷ []) ≡ Some (new_session k peer owner [])
    by true is ih = absurd (let e : Some s ≡ None = rw is at new in cc e)
    by false is ih = let rest : session_of k ss ≡ None = rw is at new in rw is (ih rest)

-- as many were opened where a session takes the place of one of its key
opened_head : (me : Party) (s t : Session) (ss ts : List Session) → t.key ≡ s.key → opened_by me ts ≡ opened_by me ss → opened_by me (t ∷ ts) ≡ opened_by me (s ∷ ss)
opened_head me s t ss ts same rest = inner (is_opened_by me s.key) refl
  where
    inner : (b : Bool) → is_opened_by me s.key ≡ b → opened_by me (t ∷ ts) ≡ opened_by me (s ∷ ss)
    inner true is = let other : is_opened_by me t.key ≡ true = ap (is_opened_by me) same ∙ is in rw is (rw other (omega (arith, rest)))
    inner false is = let other : is_opened_by me t.key ≡ false = ap (is_opened_by me) same ∙ is in rw is (rw other rest)

-- a change of one session changes no key
pub opened_same : (me : Party) (k : Key) (change : Session → Session) → ((s : Session) → (change s).key ≡ s.key) → (list : List Session) → opened_by me (changed_at k change list) ≡ opened_by me list
opened_same me k change keeps [] = refl
opened_same me k change keeps (s ∷ ss) = opened_head me s (cond (key_eq k s.key) (change s) s) ss (changed_at k change ss) (by (key_eq k s.key)) (opened_same me k change keeps ss)
  where
    by : (b : Bool) → (cond b (change s) s).key ≡ s.key
    by true = keeps s
    by false = refl

-- nor does a session that another party opened count
pub opened_other : (me : Party) (list : List Session) (s : Session) → is_opened_by me s.key ≡ false → opened_by me (list ++ s ∷ []) ≡ opened_by me list
opened_other me [] s other = rw other refl
opened_other me (t ∷ ts) s other = by (is_opened_by me t.key) (opened_other me ts s other)
  where
    by : (b : Bool) → opened_by me (ts ++ s ∷ []) ≡ opened_by me ts → length (cond b (t ∷ filter (λ s. is_opened_by me s.key) (ts ++ s ∷ [])) (filter (λ s. is_opened_by me s.key) (ts ++ s ∷ []))) ≡ length (cond b (t ∷ filter (λ s. is_opened_by me s.key) ts) (filter (λ s. is_opened_by me s.key) ts))
    by true rest = omega (arith, rest)
    by false rest = rest

-- an accepted item opens no session of the node's own
pub opened_came : (me : Party) (change : SessionChange) (came_key : Option Key) (came : Option Body) (owner : Option ℕ) (list : List Session) → FitsCame me list change came_key came → opened_by me (came_on came_key came owner list) ≡ opened_by me list
opened_came me change None None owner list fits = refl
opened_came me change None (Some body) owner list fits = absurd fits
opened_came me change (Some key) None owner list fits = absurd fits
opened_came me change (Some key) (Some body) owner list fits = by (is_init body) refl
  where
    by : (b : Bool) → is_init body ≡ b → opened_by me (came_on (Some key) (Some body) owner list) ≡ opened_by me list
    by true is = let a = fits.begins is in rw is (opened_other me list (new_session key key.initiator owner (body ∷ [])) a.other)
    by false is = rw is (opened_same me key (with_came (body ∷ [])) (λ s. refl) list)

-- the session that a party opens next is its own
pub own_key : (me : Party) (list : List Session) (k : Key) → k ≡ next_key me list → is_opened_by me k ≡ true
own_key me list k next = ap (is_opened_by me) next ∙ nat_same me.0

-- where no session is opened that is to be, none is taken for that
pub opens_next : (me : Party) (list after : List Session) (sent : List SentItem) (opened : Option (Key × Party)) → opened_by me after ≡ opened_by me list → FitsOpened me list sent opened → FitsOpened me after sent opened
opens_next me list after sent None same fits = tt
opens_next me list after sent (Some opened) same fits = record { next = fits.next ∙ ap (λ (n : ℕ). record { initiator = me; number = n }) (sym same); other = fits.other; init = fits.init }

-- a change of sessions that keeps their keys loses none
stands_head : (q : Key) (s t : Session) (ss ts : List Session) → t.key ≡ s.key → is_some (session_of q ts) ≡ is_some (session_of q ss) → is_some (session_of q (t ∷ ts)) ≡ is_some (session_of q (s ∷ ss))
stands_head q s t ss ts same rest = by (key_eq q s.key) refl
  where
    by : (b : Bool) → key_eq q s.key ≡ b → is_some (session_of q (t ∷ ts)) ≡ is_some (session_of q (s ∷ ss))
    by true is = let other : key_eq q t.key ≡ true = ap (key_eq q) same ∙ is in rw is (rw other refl)
    by false is = let other : key_eq q t.key ≡ false = ap (key_eq q) same ∙ is in rw is (rw other rest)

stands_changed : (q k : Key) (change : Session → Session) → ((s : Session) → (change s).key ≡ s.key) → (list : List Session) → is_some (session_of q (changed_at k change list)) ≡ is_some (session_of q list)
stands_changed q k change keeps [] = refl
stands_changed q k change keeps (s ∷ ss) = stands_head q s (cond (key_eq k s.key) (change s) s) ss (changed_at k change ss) (by (key_eq k s.key)) (stands_changed q k change keeps ss)
  where
    by : (b : Bool) → (cond b (change s) s).key ≡ s.key
    by true = keeps s
    by false = refl

pub stands_sent : (q : Key) (stamp : ℕ) (items : List SentItem) (list : List Session) → is_some (session_of q (sent_on stamp items list)) ≡ is_some (session_of q list)
stands_sent q stamp [] list = refl
stands_sent q stamp (x ∷ xs) list = stands_sent q stamp xs (sent_on stamp (x ∷ []) list) ∙ stands_changed q x.key (with_sent (record { body = x.body; stamp = stamp })) (λ s. refl) list

pub none_came : (k : Option Key) (owner : Option ℕ) (list : List Session) → came_on k None owner list ≡ list
none_came None owner list = refl
none_came (Some k) owner list = refl

pub none_acked : (k : Option Key) → acks_of_came k None ≡ []
none_acked None = refl
none_acked (Some k) = refl

pub few_acks : (k : Option Key) (o : Option Body) → length (acks_of_came k o) ≤ 1
few_acks None None = omega arith
few_acks None (Some b) = omega arith
few_acks (Some k) None = omega arith
few_acks (Some k) (Some b) = by (is_init b)
  where
    by : (t : Bool) → length {A = ℕ} (cond t (0 ∷ []) []) ≤ 1
    by true = omega arith
    by false = omega arith

pub few_opened : (o : Option (Key × Party)) → length (acks_of_opened o) ≤ 1
few_opened None = omega arith
few_opened (Some o) = omega arith

pub no_items : (stamp : ℕ) (items : List SentItem) (list : List Session) → length items ≡ 0 → sent_on stamp items list ≡ list
no_items stamp [] list e = refl
no_items stamp (x ∷ xs) list e = absurd (omega (arith, e))
