-- Finding a session.
use Rattle.std.proofs.Common.{◌≡◌, ℕ, Bool, true, false, List, [], ◌∷◌, Some, None, refl, sym, ◌∙◌, ap, rules, cond, map, filter, length, option_map, nat_eq, nat_lt, not, ◌||◌, arith, subst, drop}
use Rattle.std.proofs.lemmas.Bool.{and_parts}
use Rattle.std.specs.List.{list_all}
use Rattle.std.specs.Option.{option_map_or, option_and_then}
use borrow.Author.Tests.{ltb-true}
use Rattle.std.specs.Map.{lookup, keys_of}
use Rattle.net_base.specs.declared.names.Key.{Key}
use Rattle.net_base.specs.declared.values.Party.{Party}
use Rattle.session_wire.specs.Sessions.{Session, key_eq, session_of, next_item, first_item}
use Rattle.session_wire.specs.declared.body.Body.{Body}
use Rattle.session_wire.specs.Rules.{is_opened_by, opened_by}
use Rattle.session_wire.proofs.Keys.{key_exact}
use Rattle.session_table.specs.Kept.{session_at, is_below, items_of, IsCounted}
use Rattle.session_table.specs.Tables.{item_there}
use Rattle.session_table.specs.declared.standing.Standing.{Standing}
use Rattle.session_table.specs.declared.standing.Place.{Place}
use Rattle.session_table.specs.declared.standing.Posted.{Posted}

pub nat_same : (n : ℕ) → nat_eq n n ≡ true
nat_same n = search rules

-- the session of a key is found where the table finds it
pub session_found : (sent : List (Place × Posted)) (came : List (Place × Body)) (k : Key) (lines : List (Key × Standing))
    → session_of k (map (session_at sent came) lines) ≡ option_map (λ v. session_at sent came (k, v)) (lookup (key_eq k) lines)
session_found sent came k [] = refl
session_found sent came k (e ∷ es) = by (key_eq k e.0) refl (session_found sent came k es)
  where
    by : (b : Bool) → key_eq k e.0 ≡ b → session_of k (map (session_at sent came) es) ≡ option_map (λ v. session_at sent came (k, v)) (lookup (key_eq k) es) → cond b (Some (session_at sent came e)) (session_of k (map (session_at sent came) es)) ≡ option_map (λ v. session_at sent came (k, v)) (cond b (Some e.1) (lookup (key_eq k) es))
    by true is rest = ap (λ (q : Key). Some (session_at sent came (q, e.1))) (sym (key_exact k e.0 is))
    by false is rest = rest

-- the sessions that the node opened, by their keys
pub opened_keys : (sent : List (Place × Posted)) (came : List (Place × Body)) (me : Party) (lines : List (Key × Standing))
    → opened_by me (map (session_at sent came) lines) ≡ length (filter (is_opened_by me) (keys_of lines))
opened_keys sent came me [] = refl
opened_keys sent came me (e ∷ es) = by (is_opened_by me e.0) (opened_keys sent came me es)
  where
    by : (b : Bool) → opened_by me (map (session_at sent came) es) ≡ length (filter (is_opened_by me) (keys_of es)) → length (cond b (session_at sent came e ∷ filter (λ s. is_opened_by me s.key) (map (session_at sent came) es)) (filter (λ s. is_opened_by me s.key) (map (session_at sent came) es))) ≡ length (cond b (e.0 ∷ filter (is_opened_by me) (keys_of es)) (filter (is_opened_by me) (keys_of es)))
    by true rest = omega (arith, rest)
    by false rest = rest

-- a session of the node with a number that no other has is new
pub own_new : (me : Party) (n : ℕ) (k : Key) (lines : List (Key × Standing)) → list_all (is_below me n) (keys_of lines) ≡ true → is_opened_by me k ≡ true → k.number ≡ n → lookup (key_eq k) lines ≡ None
own_new me n k [] all own at = refl
own_new me n k (e ∷ es) all own at = by (key_eq k e.0) refl (own_new me n k es both.1 own at)
  where
    both : (is_below me n e.0 ≡ true) × (list_all (is_below me n) (keys_of es) ≡ true)
    both = and_parts (is_below me n e.0) (list_all (is_below me n) (keys_of es)) all

    by : (b : Bool) → key_eq k e.0 ≡ b → lookup (key_eq k) es ≡ None → cond b (Some e.1) (lookup (key_eq k) es) ≡ None
    by true is rest =
        let at_k : is_below me n k ≡ true = subst (λ (q : Key). is_below me n q ≡ true) (sym (key_exact k e.0 is)) both.0 in
        let less : nat_lt k.number n ≡ true = subst (λ (b : Bool). (not b || nat_lt k.number n) ≡ true) own at_k in
        absurd (omega (arith, ltb-true _ _ less, at))
    by false is rest = rest

-- where the table has none, there is no session
pub absent : (sent : List (Place × Posted)) (came : List (Place × Body)) (lines : List (Key × Standing)) (list : List Session) (k : Key)
    → map (session_at sent came) lines ≡ list → None ≡ lookup (key_eq k) lines → session_of k list ≡ None
absent sent came lines list k same none = ap (session_of k) (sym same) ∙ session_found sent came k lines ∙ ap (option_map (λ v. session_at sent came (k, v))) (sym none)

-- and where it has one, that is the session
pub present : (sent : List (Place × Posted)) (came : List (Place × Body)) (lines : List (Key × Standing)) (list : List Session) (k : Key) (v : Standing)
    → map (session_at sent came) lines ≡ list → Some v ≡ lookup (key_eq k) lines → session_of k list ≡ Some (session_at sent came (k, v))
present sent came lines list k v same there = ap (session_of k) (sym same) ∙ session_found sent came k lines ∙ ap (option_map (λ v. session_at sent came (k, v))) (sym there)

-- what a session counts is how many items it has
pub count_is : {V : Type 0} (count : Standing → ℕ) (lines : List (Key × Standing)) (items : List (Place × V)) (k : Key) (v : Standing)
    → IsCounted count lines items → Some v ≡ lookup (key_eq k) lines → length (items_of k items) ≡ count v
count_is count lines items k v counted there = counted k ∙ ap (λ o. option_map_or count o 0) (sym there)

-- the item that is there where an ending was taken, and where none was
pub there_ended : (list : List Session) (k : Key) (s : Session) (e : Body) → session_of k list ≡ Some s → s.ending ≡ Some e → item_there k list ≡ Some (None, e)
there_ended list k s e found ended = ap (option_and_then (λ s. next_item s s.ending)) found ∙ ap (next_item s) ended

pub there_next : (list : List Session) (k : Key) (s : Session) → session_of k list ≡ Some s → s.ending ≡ None → item_there k list ≡ option_map (λ found. (Some found.0, found.1)) (first_item s.taken (drop s.taken s.came))
there_next list k s found none = ap (option_and_then (λ s. next_item s s.ending)) found ∙ ap (next_item s) none
