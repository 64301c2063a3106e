-- The coins that a reservation names are coins of the vault, each once.
use Rattle.std.proofs.Common.{◌≡◌, ◌≤◌, ◌-◌, ◌==◌, ℕ, zero, suc, Bool, true, false, cond, ◌&&◌, List, [], ◌∷◌, Option, Some, None, Result, Ok, Err, IfOk, length, take, drop, filter, option_map, take-append-drop, refl, sym, ◌∙◌, ap, subst, arith, if◌then◌else◌}
use Rattle.std.specs.List.{list_all, AllByRecursion}
use Rattle.std.proofs.lemmas.Bool.{and_parts, and_from}
use Rattle.std.proofs.lemmas.List.{length-take}
use Rattle.std.proofs.lemmas.List.Folds.{list_all-map}
use Rattle.net_base.specs.Forms.{ListWithin}
use Rattle.net_base.specs.declared.values.Party.{Party}
use Rattle.net_base.specs.declared.names.Token.{Token}
use Rattle.net_base.proofs.Lists.{all_take, all_kept}
use Rattle.ledger_types.specs.declared.held.Held.{Held}
use Rattle.ledger_types.specs.Names.{ref_eq, has_repeat}
use Rattle.ledger_types.specs.Vaults.{is_coin_of, has_coin, cash_amount, coins_of, least_prefix, reserved, IsHeld}
use Rattle.ledger_types.proofs.Once.{once_filter, once_front}
use Rattle.ledger_types.proofs.Coins.{coins_there}
use Rattle.vault.specs.declared.fault.ReserveFault.{ReserveFault}
use Rattle.vault.specs.Holdings.{is_own, is_own_coin, references_of}

-- some first ones of a list
record Front (hs list : List Held) : Type 0 where
  count : ℕ
  is : list ≡ take count hs

front_on : (h : Held) (hs list : List Held) (o : Option (List Held)) → ((l : List Held) → o ≡ Some l → Front hs l) → option_map (λ rest. h ∷ rest) o ≡ Some list → Front (h ∷ hs) list
front_on h hs list None f e = absurd cc
front_on h hs list (Some l) f e =
    let k = f l refl in
    let s : h ∷ l ≡ list = cc in
    record { count = suc k.count; is = sym s ∙ ap (λ (x : List Held). h ∷ x) k.is }

none_taken : (hs list : List Held) → Some [] ≡ Some list → Front hs list
none_taken hs list e = let s : [] ≡ list = cc in record { count = 0; is = sym s }

front_of : (amount : ℕ) (hs list : List Held) → least_prefix amount hs ≡ Some list → Front hs list
front_of amount [] list e = by (amount == 0) e
  where
    by : (b : Bool) → (if b then Some [] else None) ≡ Some list → Front [] list
    by true f = none_taken [] list f
    by false f = absurd cc
front_of amount (h ∷ hs) list e = by (amount == 0) (λ l p. front_of (amount - cash_amount h.state.body) hs l p) e
  where
    by : (b : Bool) → ((l : List Held) → least_prefix (amount - cash_amount h.state.body) hs ≡ Some l → Front hs l) → (if b then Some [] else option_map (λ rest. h ∷ rest) (least_prefix (amount - cash_amount h.state.body) hs)) ≡ Some list → Front (h ∷ hs) list
    by true f g = none_taken (h ∷ hs) list g
    by false f g = front_on h hs list (least_prefix (amount - cash_amount h.state.body) hs) f g

-- what holds of all first coins holds of those that are named
chosen_by : (P : List Held → Type 0) (token : Token) (amount : ℕ) (states list : List Held) → ((n : ℕ) → P (take n (take 64 (coins_of token states)))) → reserved token amount states ≡ Some list → P list
chosen_by P token amount states list all is =
    let f = front_of amount (take 64 (coins_of token states)) list is in
    subst P (sym f.is) (all f.count)

test_front : (test : Held → Bool) (n : ℕ) (hs : List Held) → list_all test hs ≡ true → list_all test (take n hs) ≡ true
test_front test zero hs all = refl
test_front test (suc n) [] all = refl
test_front test (suc n) (h ∷ hs) all = let both = and_parts (test h) (list_all test hs) all in and_from _ _ both.0 (test_front test n hs both.1)

-- ---- coins of the vault

coins_in : (token : Token) (amount : ℕ) (states list : List Held) → reserved token amount states ≡ Some list → list_all (has_coin states) (references_of list) ≡ true
coins_in token amount states list is =
    list_all-map (has_coin states) (λ (h : Held). h.reference) list
    ∙ chosen_by (λ (l : List Held). list_all (λ h. has_coin states h.reference) l ≡ true) token amount states list
    (λ n. test_front (λ h. has_coin states h.reference) n (take 64 (coins_of token states)) (test_front (λ h. has_coin states h.reference) 64 (coins_of token states) (coins_there token states))) is

pub coins_named : (token : Token) (amount : ℕ) (states : List Held) (r : Result (List Held) ReserveFault) → IfOk r (λ list. reserved token amount states ≡ Some list) → IfOk r (λ list. list_all (has_coin states) (references_of list) ≡ true)
coins_named token amount states (Ok list) is = coins_in token amount states list is
coins_named token amount states (Err e) is = tt

-- ---- the party's own, of the token

both_pass : {X : Type 0} (p q : X → Bool) (xs : List X) → list_all p xs ≡ true → list_all (λ x. p x && q x) (filter q xs) ≡ true
both_pass p q [] all = refl
both_pass {X} p q (x ∷ xs) all = let both = and_parts (p x) (list_all p xs) all in by both.0 (both_pass p q xs both.1) (q x) refl
  where
    by : p x ≡ true → list_all (λ y. p y && q y) (filter q xs) ≡ true → (b : Bool) → q x ≡ b → list_all (λ y. p y && q y) (cond b (x ∷ filter q xs) (filter q xs)) ≡ true
    by here more true e = and_from _ _ (and_from _ _ here e) more
    by here more false e = more

pub own_named : (me : Party) (token : Token) (amount : ℕ) (states : List Held) (r : Result (List Held) ReserveFault) → list_all (is_own me) states ≡ true → IfOk r (λ list. reserved token amount states ≡ Some list) → IfOk r (λ list. list_all (is_own_coin me token) list ≡ true)
own_named me token amount states (Ok list) own is =
    chosen_by (λ (l : List Held). list_all (is_own_coin me token) l ≡ true) token amount states list
    (λ n. test_front (is_own_coin me token) n (take 64 (coins_of token states)) (test_front (is_own_coin me token) 64 (coins_of token states) (both_pass (is_own me) (is_coin_of token) states own))) is
own_named me token amount states (Err e) own is = tt

-- ---- each once

once_taken : (n : ℕ) (states : List Held) → has_repeat ref_eq (references_of states) ≡ false → has_repeat ref_eq (references_of (take n states)) ≡ false
once_taken n states once = once_front (take n states) (drop n states) (subst (λ (l : List Held). has_repeat ref_eq (references_of l) ≡ false) (sym (take-append-drop n states)) once)

pub once_named : (token : Token) (amount : ℕ) (states : List Held) (r : Result (List Held) ReserveFault) → has_repeat ref_eq (references_of states) ≡ false → IfOk r (λ list. reserved token amount states ≡ Some list) → IfOk r (λ list. has_repeat ref_eq (references_of list) ≡ false)
once_named token amount states (Ok list) once is =
    chosen_by (λ (l : List Held). has_repeat ref_eq (references_of l) ≡ false) token amount states list
    (λ n. once_taken n (take 64 (coins_of token states)) (once_taken 64 (coins_of token states) (once_filter (is_coin_of token) states once))) is
once_named token amount states (Err e) once is = tt

-- ---- within their limits

front_few : {X : Type 0} (n : ℕ) (xs : List X) → length (take n (take 64 xs)) ≤ 64
front_few n xs = omega (arith, length-take n (take 64 xs), length-take 64 xs)

pub within_named : (token : Token) (amount : ℕ) (states : List Held) (r : Result (List Held) ReserveFault) → AllByRecursion IsHeld states → IfOk r (λ list. reserved token amount states ≡ Some list) → IfOk r (ListWithin 64 IsHeld)
within_named token amount states (Ok list) within is =
    chosen_by (ListWithin 64 IsHeld) token amount states list
    (λ n. (front_few n (coins_of token states), all_take IsHeld n (take 64 (coins_of token states)) (all_take IsHeld 64 (coins_of token states) (all_kept IsHeld (is_coin_of token) states within)))) is
within_named token amount states (Err e) within is = tt
