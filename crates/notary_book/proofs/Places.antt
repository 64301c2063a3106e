-- The place of the first element that passes a test, and what stands there.
use Rattle.std.proofs.Common.{◌≡◌, ℕ, suc, ◌+◌, Bool, true, false, cond, not, ◌&&◌, ◌||◌, List, [], ◌∷◌, ◌++◌, Option, Some, None, is_some, length, find, option_map, slice_get, nat_lt, refl, sym, ap, ◌∙◌, arith, true≢false}
use Rattle.std.specs.List.{AllByRecursion, list_any, position, position_or_len}
use Rattle.std.specs.Map.{lookup}
use Rattle.std.proofs.lemmas.Bool.{or_parts, lt-ltb, le-ltb, ltb-true, ltb-false}
use Rattle.net_base.specs.declared.values.Hash32.{Hash32}
use Rattle.net_base.specs.declared.names.StateRef.{StateRef}
use Rattle.ledger_types.specs.declared.notary.Entry.{Entry}
use Rattle.ledger_types.specs.Names.{hash_eq, ref_eq, has_ref}
use Rattle.ledger_types.specs.Notary.{is_signature, signs, consumes}
use Rattle.ledger_types.specs.Requests.{IsNotaryAnswer}
use Rattle.notary_book.specs.declared.index.RequestKey.{RequestKey}
use Rattle.notary_book.specs.Indexed.{key_eq, asks, takes, first_of, IsIndexed}

lt_suc : (n l : ℕ) → nat_lt (suc n) (suc l) ≡ nat_lt n l
lt_suc n l =
    (elim (nat_lt n l) as (λ b. nat_lt n l ≡ b → nat_lt (suc n) (suc l) ≡ b) [
      | true ↦ λ e. lt-ltb (suc n) (suc l) (omega (arith, ltb-true n l e))
      | false ↦ λ e. le-ltb (suc n) (suc l) (omega (arith, ltb-false n l e))
    ]) refl

module _ {X : Type 0} (p : X → Bool) where
  position_cons : (x : X) (xs : List X) → position p (x ∷ xs) ≡ cond (p x) (Some 0) (option_map suc (position p xs))
  position_cons x xs =
      (elim (p x) as (λ b. cond (nat_lt (cond (not b) (1 + position_or_len p xs) 0) (suc (length xs))) (Some (cond (not b) (1 + position_or_len p xs) 0)) None ≡ cond b (Some 0) (option_map suc (position p xs))) [
        | true ↦ ap (λ (b : Bool). cond b (Some 0) None) (lt-ltb 0 (suc (length xs)) (omega arith))
        | false ↦ next (1 + position_or_len p xs) (position_or_len p xs) (omega arith)
      ])
    where
      deeper : (b : Bool) (n : ℕ) → cond b (Some (suc n)) None ≡ option_map suc (cond b (Some n) None)
      deeper true n = refl
      deeper false n = refl

      next : (m n : ℕ) → m ≡ suc n → cond (nat_lt m (suc (length xs))) (Some m) None ≡ option_map suc (cond (nat_lt n (length xs)) (Some n) None)
      next m n e = ap (λ (i : ℕ). cond (nat_lt i (suc (length xs))) (Some i) None) e ∙ ap (λ (b : Bool). cond b (Some (suc n)) None) (lt_suc n (length xs)) ∙ deeper (nat_lt n (length xs)) n

  later : (b c : Bool) (o : Option ℕ) (n : ℕ) → cond b (Some 0) (option_map suc (first_of o c n)) ≡ first_of (cond b (Some 0) (option_map suc o)) c (suc n)
  later true c o n = refl
  later false c (Some i) n = refl
  later false true None n = refl
  later false false None n = refl

  -- with one more at the end
  pub position_push : (xs : List X) (x : X) → position p (xs ++ x ∷ []) ≡ first_of (position p xs) (p x) (length xs)
  position_push [] x = position_cons x [] ∙ (elim (p x) as (λ b. cond b (Some 0) None ≡ first_of None b 0) [ true ↦ refl | false ↦ refl ])
  position_push (y ∷ ys) x =
      position_cons y (ys ++ x ∷ [])
      ∙ ap (λ (o : Option ℕ). cond (p y) (Some 0) (option_map suc o)) (position_push ys x)
      ∙ later (p y) (p x) (position p ys) (length ys)
      ∙ ap (λ (o : Option ℕ). first_of o (p x) (suc (length ys))) (sym (position_cons y ys))

  -- there is one where one passes
  pub position_any : (xs : List X) → is_some (position p xs) ≡ list_any p xs
  position_any [] = refl
  position_any (x ∷ xs) = ap is_some (position_cons x xs) ∙ by (p x) (position p xs) ∙ ap (λ (b : Bool). p x || b) (position_any xs)
    where
      by : (b : Bool) (o : Option ℕ) → is_some (cond b (Some 0) (option_map suc o)) ≡ (b || is_some o)
      by true o = refl
      by false (Some i) = refl
      by false None = refl

  -- what stands at the place is what is found
  abbrev at : List X → Option ℕ → Option X
  at xs None = None
  at xs (Some i) = slice_get xs i

  at_suc : (x : X) (xs : List X) (o : Option ℕ) → at (x ∷ xs) (option_map suc o) ≡ at xs o
  at_suc x xs None = refl
  at_suc x xs (Some i) = refl

  found : (xs : List X) → at xs (position p xs) ≡ find p xs
  found [] = refl
  found (x ∷ xs) =
      ap (at (x ∷ xs)) (position_cons x xs)
      ∙ (elim (p x) as (λ b. at (x ∷ xs) (cond b (Some 0) (option_map suc (position p xs))) ≡ cond b (Some x) (find p xs)) [
        | true ↦ refl
        | false ↦ at_suc x xs (position p xs) ∙ found xs
      ])

  pub none_found : (xs : List X) → None ≡ position p xs → None ≡ find p xs
  none_found xs is = ap (at xs) is ∙ found xs

  pub some_found : (xs : List X) (i : ℕ) → Some i ≡ position p xs → slice_get xs i ≡ find p xs
  some_found xs i is = ap (at xs) is ∙ found xs

-- ---- the consumer of a reference

-- where no entry signed the id, the first that signed another and takes the reference is the first that signed any
pub consumer_is : (id : Hash32) (r : StateRef) (entries : List Entry) → list_any (signs id) entries ≡ false → find (consumes id r) entries ≡ find (takes r) entries
consumer_is id r [] h = refl
consumer_is id r (e ∷ es) h =
    let no = or_parts (signs id e) (list_any (signs id) es) h in
    ap (λ (b : Bool). cond b (Some e) (find (consumes id r) es)) (same (is_signature e.answer) (hash_eq id e.request.torn.id) (has_ref r e.inputs) no.0)
    ∙ ap (λ (o : Option Entry). cond (takes r e) (Some e) o) (consumer_is id r es no.1)
  where
    same : (signed here taken : Bool) → (signed && here) ≡ false → (signed && (not here && taken)) ≡ (signed && taken)
    same false here taken e = refl
    same true false taken e = refl
    same true true taken e = absurd (true≢false e)

-- ---- noting places

-- one entry more
pub indexed_push : (entries : List Entry) (e : Entry) (place : ℕ) (requests requests' : List (RequestKey × ℕ)) (ids ids' : List (Hash32 × ℕ)) (references references' : List (StateRef × ℕ))
    → IsIndexed entries requests ids references → IsNotaryAnswer e.answer → place ≡ length entries
    → ((k : RequestKey) → lookup (key_eq k) requests' ≡ first_of (lookup (key_eq k) requests) (asks k e) place)
    → ((id : Hash32) → lookup (hash_eq id) ids' ≡ first_of (lookup (hash_eq id) ids) (signs id e) place)
    → ((r : StateRef) → lookup (ref_eq r) references' ≡ first_of (lookup (ref_eq r) references) (takes r e) place)
    → IsIndexed (entries ++ e ∷ []) requests' ids' references'
indexed_push entries e place requests requests' ids ids' references references' was answer here by_request by_id by_reference =
    record {
      answers = within_push entries was.answers;
      requests = λ k. by_request k ∙ pushed (asks k) _ (was.requests k);
      ids = λ id. by_id id ∙ pushed (signs id) _ (was.ids id);
      references = λ r. by_reference r ∙ pushed (takes r) _ (was.references r);
    }
  where
    within_push : (es : List Entry) → AllByRecursion (λ x. IsNotaryAnswer x.answer) es → AllByRecursion (λ x. IsNotaryAnswer x.answer) (es ++ e ∷ [])
    within_push [] h = (answer, tt)
    within_push (x ∷ xs) h = (h.0, within_push xs h.1)

    pushed : (test : Entry → Bool) (there : Option ℕ) → there ≡ position test entries → first_of there (test e) place ≡ position test (entries ++ e ∷ [])
    pushed test there is =
        ap (λ (o : Option ℕ). first_of o (test e) place) is
        ∙ ap (λ (n : ℕ). first_of (position test entries) (test e) n) here
        ∙ sym (position_push test entries e)
