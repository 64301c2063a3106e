-- The coins that a reservation looks at, and those that it names.
use Rattle.std.proofs.Common.{◌≡◌, ◌≤◌, ◌<◌, ◌-◌, ◌==◌, ℕ, zero, suc, false, List, [], ◌∷◌, ◌++◌, Some, None, length, take, drop, map, option_map, sum_by, refl, sym, ◌∙◌, ap, arith, if◌then◌else◌}
use Rattle.std.proofs.lemmas.Bool.{ne_eqb}
use Rattle.std.proofs.lemmas.List.{take_all, take_at, take-take, take-append-drop, length-take, length-map}
use Rattle.std.proofs.lemmas.List.Elements.{filter-append}
use Rattle.std.proofs.lemmas.List.Sums.{sum_by-cons}
use Rattle.coin_select.specs.declared.Coin.{Coin}
use Rattle.coin_select.specs.Picking.{IsLeastPrefix, worth_of, candidates}
use Rattle.net_base.specs.declared.names.Token.{Token}
use Rattle.ledger_types.specs.declared.held.Held.{Held}
use Rattle.ledger_types.specs.Vaults.{cash_amount, is_coin_of, coins_of, least_prefix, reserved, reservable}

-- what a held state is worth
abbrev pub worth : Held → ℕ
worth h = cash_amount h.state.body

pub take_few : {X : Type 0} (xs : List X) → length (take 64 xs) ≤ 64
take_few xs = omega (arith, length-take 64 xs)

-- the coins of all, where those of the first i are 64
pub coins_full : (token : Token) (states coins : List Held) (i : ℕ) → coins ≡ coins_of token (take i states) → length coins ≡ 64 → coins ≡ take 64 (coins_of token states)
coins_full token states coins i is full =
    let parts : coins_of token states ≡ coins ++ coins_of token (drop i states) = ap (coins_of token) (sym (take-append-drop i states)) ∙ filter-append (is_coin_of token) (take i states) (drop i states) ∙ ap (λ l. l ++ coins_of token (drop i states)) (sym is) in
    sym (ap (take 64) parts ∙ take_at coins (coins_of token (drop i states)) 64 full)

-- the coins of all, where they are 64 at most
pub coins_few : (token : Token) (states coins : List Held) (i : ℕ) → coins ≡ coins_of token (take i states) → length states ≤ i → length coins ≤ 64 → coins ≡ take 64 (coins_of token states)
coins_few token states coins i is all few = sym (take_all 64 coins few) ∙ ap (take 64) (is ∙ ap (coins_of token) (take_all i states all))

-- ---- amounts

same_worth : (list : List Coin) (coins : List Held) (m : ℕ) → map (λ c. c.amount) list ≡ map worth coins → worth_of (take m list) ≡ sum_by worth (take m coins)
same_worth list coins zero same = refl
same_worth [] [] (suc m) same = refl
same_worth [] (h ∷ hs) (suc m) same = absurd (no same)
  where
    no : {X : Type 0} {x : X} {xs : List X} → [] ≡ x ∷ xs → ⊥
    no e = cc e
same_worth (c ∷ cs) [] (suc m) same = absurd (no same)
  where
    no : {X : Type 0} {x : X} {xs : List X} → x ∷ xs ≡ [] → ⊥
    no e = cc e
same_worth (c ∷ cs) (h ∷ hs) (suc m) same =
    let one : c.amount ≡ worth h = cc same in
    let rest : map (λ c. c.amount) cs ≡ map worth hs = cc same in
    omega (arith, one, same_worth cs hs m rest, sum_by-cons (λ (d : Coin). d.amount) c (take m cs), sum_by-cons worth h (take m hs))

same_length : (list : List Coin) (coins : List Held) → map (λ c. c.amount) list ≡ map worth coins → length list ≡ length coins
same_length list coins same = sym (length-map list (λ c. c.amount)) ∙ ap length same ∙ length-map coins worth

least_zero : (hs : List Held) → least_prefix 0 hs ≡ Some []
least_zero [] = refl
least_zero (h ∷ hs) = refl

least_on : (h : Held) (hs : List Held) (amount : ℕ) → 0 < amount → least_prefix amount (h ∷ hs) ≡ option_map (λ rest. h ∷ rest) (least_prefix (amount - worth h) hs)
least_on h hs amount some =
    let no : (amount == 0) ≡ false = ne_eqb amount 0 (λ e. omega (arith, e, some)) in
    ap (λ b. if b then Some [] else option_map (λ rest. h ∷ rest) (least_prefix (amount - worth h) hs)) no

-- the least number of first coins that reach the amount gives the least prefix
pub least_picked : (hs : List Held) (amount n : ℕ) → n ≤ length hs → amount ≤ sum_by worth (take n hs) → ((m : ℕ) → m < n → sum_by worth (take m hs) < amount) → least_prefix amount hs ≡ Some (take n hs)
least_picked hs amount zero there enough least = let none : amount ≡ 0 = omega (arith, enough) in ap (λ a. least_prefix a hs) none ∙ least_zero hs
least_picked [] amount (suc n) there enough least = absurd (omega (arith, there))
least_picked (h ∷ hs) amount (suc n) there enough least =
    least_on h hs amount (least 0 (omega arith))
    ∙ ap (option_map (λ rest. h ∷ rest)) (least_picked hs (amount - worth h) n (omega (arith, there)) (omega (arith, enough, sum_by-cons worth h (take n hs))) (λ m lt. omega (arith, least (suc m) (omega (arith, lt)), sum_by-cons worth h (take m hs))))

-- coins that don't reach the amount have no such prefix
pub least_short : (hs : List Held) (amount : ℕ) → sum_by worth hs < amount → least_prefix amount hs ≡ None
least_short [] amount short = let no : (amount == 0) ≡ false = ne_eqb amount 0 (λ e. omega (arith, e, short)) in ap (λ b. if b then Some [] else None) no
least_short (h ∷ hs) amount short =
    let sum = sum_by-cons worth h hs in
    least_on h hs amount (omega (arith, short)) ∙ ap (option_map (λ rest. h ∷ rest)) (least_short hs (amount - worth h) (omega (arith, short, sum)))

-- ---- the two answers

pub picked_is : (token : Token) (amount : ℕ) (states coins : List Held) (list : List Coin) (n : ℕ) → coins ≡ take 64 (coins_of token states) → map (λ c. c.amount) list ≡ map worth coins → IsLeastPrefix list amount n → reserved token amount states ≡ Some (take n coins)
picked_is token amount states coins list n is same p =
    ap (least_prefix amount) (sym is)
    ∙ least_picked coins amount n (omega (arith, p.there, same_length list coins same)) (omega (arith, p.enough, same_worth list coins n same)) (λ m lt. omega (arith, p.least m lt, same_worth list coins m same))

pub short_is : (token : Token) (amount : ℕ) (states coins : List Held) (list : List Coin) (have : ℕ) → coins ≡ take 64 (coins_of token states) → map (λ c. c.amount) list ≡ map worth coins → have ≡ worth_of (candidates list) → have < amount → (reserved token amount states ≡ None) × (have ≡ reservable token states) × (have < amount)
short_is token amount states coins list have is same sum short =
    let whole : take 64 coins ≡ coins = ap (take 64) is ∙ take-take 64 64 (coins_of token states) (omega arith) ∙ sym is in
    let all : have ≡ sum_by worth coins = sum ∙ same_worth list coins 64 same ∙ ap (sum_by worth) whole in
    (ap (least_prefix amount) (sym is) ∙ least_short coins amount (omega (arith, all, short)), all ∙ ap (sum_by worth) is, short)
