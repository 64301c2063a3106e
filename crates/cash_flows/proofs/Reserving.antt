-- The contract of cash accepts a payment by what a reservation names.
use Rattle.std.specs.Prelude.{◌≡◌, ℕ, ◌+◌, ◌-◌, ◌<◌, ◌≤◌, ◌^◌, ◌==◌, ◌⊎◌, List, [], ◌∷◌, take, option_map, bytes_eq, Bool, true, false, cond, Option, Some, None, refl, if◌then◌else◌}
use Rattle.std.specs.List.{AllByRecursion}
use Rattle.std.proofs.Common.{arith, sym, subst, inl, inr}
use Rattle.std.proofs.lemmas.Bool.{and_parts, eqb-true, eqb-false, cases_lt}
use Rattle.std.proofs.lemmas.List.Sums.{sum_by-cons}
use Rattle.std.proofs.lemmas.Slice.Eq.{bytes_eq-Decides}
use Rattle.net_base.specs.declared.names.Token.{Token}
use Rattle.net_base.specs.declared.values.Party.{Party}
use Rattle.net_base.proofs.Lists.{all_take}
use Rattle.ledger_types.specs.declared.held.Held.{Held}
use Rattle.ledger_types.specs.declared.state.StateData.{StateData}
use Rattle.ledger_types.specs.declared.state.StateData.TheVariants.{Cash}
use Rattle.ledger_types.specs.Names.{party_eq, token_eq}
use Rattle.ledger_types.specs.States.{IsStateData}
use Rattle.ledger_types.specs.Vaults.{IsHeld, is_relevant, is_cash_of, is_coin_of, is_free, cash_amount, coins_of, least_prefix, reserved}
use Rattle.flow_txs.proofs.Signers.{same_party}
use Rattle.cash_flows.specs.Making.{worth}
use Rattle.cash_flows.specs.Accepted.{IsOwn}
use Rattle.cash_flows.specs.Reserved.{ReservedIsAccepted}
use Rattle.cash_flows.proofs.Accepting.{accepted_by_cash}

-- ---- coins are own cash

same_token : (a b : Token) → token_eq a b ≡ true → a ≡ b
same_token a b h =
    let parts = and_parts (party_eq a.issuer b.issuer) (bytes_eq a.code b.code) h in
    let issuer = same_party a.issuer b.issuer parts.0 in
    let code = (bytes_eq-Decides a.code b.code).0 parts.1 in
    (λ i. record { issuer = issuer i; code = code i })

-- relevant cash of the token
own_cash : (token : Token) (me : Party) (s : StateData) → is_relevant me s ≡ true → is_cash_of token s ≡ true → (amount : ℕ) × (s ≡ Cash token amount me)
own_cash token me (Cash other amount owner) own of =
    let mine = same_party owner me own in
    let same = sym (same_token token other of) in
    (amount, λ i. Cash (same i) amount (mine i))
own_cash token me other own of = absurd cc

-- an amount of cash has 64 bits
amount_small : (s : StateData) → IsStateData s → cash_amount s < 2 ^ 64
amount_small (Cash token amount owner) h = h.1.0
amount_small other h = omega arith

-- a coin of the party's own
abbrev IsCoin : Token → Party → Held → Type 0
IsCoin token me h = IsOwn token me h × (cash_amount h.state.body < 2 ^ 64)

coins_by : (token : Token) (me : Party) (h : Held) (rest : List Held) (test : Bool) → is_coin_of token h ≡ test → IsHeld h → is_relevant me h.state.body ≡ true → AllByRecursion (IsCoin token me) rest → AllByRecursion (IsCoin token me) (cond test (h ∷ rest) rest)
coins_by token me h rest true is held own all = ((own_cash token me h.state.body own (and_parts (is_cash_of token h.state.body) (is_free h) is).0, amount_small h.state.body held.1.0.0), all)
coins_by token me h rest false is held own all = all

coins_are : (token : Token) (me : Party) (vault : List Held) → AllByRecursion IsHeld vault → AllByRecursion (λ h. is_relevant me h.state.body ≡ true) vault → AllByRecursion (IsCoin token me) (coins_of token vault)
coins_are token me [] held own = tt
coins_are token me (h ∷ hs) held own = coins_by token me h (coins_of token hs) (is_coin_of token h) refl held.0 own.0 (coins_are token me hs held.1 own.1)

-- ---- the least prefix

-- What a least prefix is: of own coins, it reaches the amount, exceeds it by an amount, and is empty where that is 0.
pub record Reaches (token : Token) (me : Party) (amount : ℕ) (coins : List Held) : Type 0 where
  pub own : AllByRecursion (IsOwn token me) coins
  pub reaches : amount ≤ worth coins
  pub exceeds : worth coins < amount + 2 ^ 64
  pub empty : amount ≡ 0 → worth coins ≡ 0

nothing_reaches : (token : Token) (me : Party) (amount : ℕ) (coins : List Held) → amount ≡ 0 → Some [] ≡ Some coins → Reaches token me amount coins
nothing_reaches token me amount coins none e =
    let start : List Held = [] in
    let same : start ≡ coins = cc in
    subst (λ (l : List Held). Reaches token me amount l) same (record { own = tt; reaches = omega (arith, none); exceeds = omega arith; empty = λ z. refl })

-- the first one, and those that follow
more_reach : (token : Token) (me : Party) (amount : ℕ) (h : Held) (rest : Option (List Held)) (coins : List Held) → IsCoin token me h → (amount ≡ 0 → ⊥) → ((l : List Held) → rest ≡ Some l → Reaches token me (amount - cash_amount h.state.body) l) → option_map (λ l. h ∷ l) rest ≡ Some coins → Reaches token me amount coins
more_reach token me amount h None coins coin some reach e = absurd cc
more_reach token me amount h (Some rest) coins coin some reach e =
    let r = reach rest refl in
    let given : List Held = h ∷ rest in
    let same : given ≡ coins = cc in
    let sums = sum_by-cons (λ (x : Held). cash_amount x.state.body) h rest in
    subst (λ (l : List Held). Reaches token me amount l) same (record {
      own = (coin.0, r.own);
      reaches = omega (arith, sums, r.reaches);
      exceeds = exceeded amount (cash_amount h.state.body) (worth rest) (worth given) sums coin.1 some r.exceeds r.empty;
      empty = λ z. absurd (some z);
    })
  where
    exceeded : (amount one rest all : ℕ) → all ≡ one + rest → one < 2 ^ 64 → (amount ≡ 0 → ⊥) → rest < (amount - one) + 2 ^ 64 → (amount - one ≡ 0 → rest ≡ 0) → all < amount + 2 ^ 64
    exceeded amount one rest all sums small some less none = over (cases_lt one amount) where
      over : (one < amount) ⊎ (amount ≤ one) → all < amount + 2 ^ 64
      over (inl lt) = omega (arith, sums, less, lt)
      over (inr le) = let z : amount - one ≡ 0 = omega (arith, le) in omega (arith, sums, none z, small)

prefix_by : (token : Token) (me : Party) (amount : ℕ) (h : Held) (hs coins : List Held) (none : Bool) → (amount == 0) ≡ none → IsCoin token me h → ((l : List Held) → least_prefix (amount - cash_amount h.state.body) hs ≡ Some l → Reaches token me (amount - cash_amount h.state.body) l)
    → (if none then Some [] else option_map (λ rest. h ∷ rest) (least_prefix (amount - cash_amount h.state.body) hs)) ≡ Some coins → Reaches token me amount coins
prefix_by token me amount h hs coins true is coin reach e = nothing_reaches token me amount coins (eqb-true amount 0 is) e
prefix_by token me amount h hs coins false is coin reach e = more_reach token me amount h (least_prefix (amount - cash_amount h.state.body) hs) coins coin (λ z. eqb-false amount 0 is z) reach e

ends_by : (token : Token) (me : Party) (amount : ℕ) (coins : List Held) (none : Bool) → (amount == 0) ≡ none → (if none then Some [] else None) ≡ Some coins → Reaches token me amount coins
ends_by token me amount coins true is e = nothing_reaches token me amount coins (eqb-true amount 0 is) e
ends_by token me amount coins false is e = absurd cc

prefix_reaches : (token : Token) (me : Party) (amount : ℕ) (all coins : List Held) → AllByRecursion (IsCoin token me) all → least_prefix amount all ≡ Some coins → Reaches token me amount coins
prefix_reaches token me amount [] coins are e = ends_by token me amount coins (amount == 0) refl e
prefix_reaches token me amount (h ∷ hs) coins are e = prefix_by token me amount h hs coins (amount == 0) refl are.0 (λ l f. prefix_reaches token me (amount - cash_amount h.state.body) hs l are.1 f) e

-- what a reservation names
pub reservation_reaches : (token : Token) (me : Party) (amount : ℕ) (vault coins : List Held) → AllByRecursion IsHeld vault → AllByRecursion (λ h. is_relevant me h.state.body ≡ true) vault → reserved token amount vault ≡ Some coins → Reaches token me amount coins
reservation_reaches token me amount vault coins held own e = prefix_reaches token me amount (take 64 (coins_of token vault)) coins (all_take (IsCoin token me) 64 (coins_of token vault) (coins_are token me vault held own)) e

pub reserved_is_accepted : ReservedIsAccepted
reserved_is_accepted p vault coins here references me held own some e =
    let r = reservation_reaches p.token here.me p.amount vault coins held own e in
    accepted_by_cash p coins here references me r.own some r.reaches r.exceeds
