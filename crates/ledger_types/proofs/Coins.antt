-- Cash and coins.
use Rattle.std.proofs.Common.{◌≡◌, Bool, true, false, cond, ◌&&◌, ◌||◌, List, [], ◌∷◌, refl, sym, ap, true≢false}
use Rattle.std.specs.List.{list_all}
use Rattle.std.proofs.lemmas.Bool.{and_parts, and_from, or_right}
use Rattle.net_base.specs.declared.names.Token.{Token}
use Rattle.net_base.proofs.Lists.{passes_weaken}
use Rattle.ledger_types.specs.declared.state.StateData.{StateData}
use Rattle.ledger_types.specs.declared.state.StateData.TheVariants.{Cash}
use Rattle.ledger_types.specs.declared.held.Held.{Held}
use Rattle.ledger_types.specs.Names.{ref_eq}
use Rattle.ledger_types.specs.Vaults.{is_cash, is_cash_of, is_free, is_coin, has_coin, is_coin_of, coins_of}
use Rattle.ledger_types.proofs.Names.{ref_same}

-- Cash of a token is Cash
pub cash_of_token : (token : Token) (s : StateData) → is_cash_of token s ≡ true → is_cash s ≡ true
cash_of_token token (Cash other amount owner) e = refl
cash_of_token token other e = absurd (true≢false (sym e))

-- a coin of a token is a coin
pub coin_of_token : (token : Token) (h : Held) → is_coin_of token h ≡ true → is_coin h ≡ true
coin_of_token token h e = let both = and_parts (is_cash_of token h.state.body) (is_free h) e in and_from _ _ (cash_of_token token h.state.body both.0) both.1

-- each coin of a token among states is named among them
pub coins_there : (token : Token) (states : List Held) → list_all (λ h. has_coin states h.reference) (coins_of token states) ≡ true
coins_there token [] = refl
coins_there token (x ∷ xs) =
    by (is_coin_of token x) refl (passes_weaken (λ h. has_coin xs h.reference) (λ h. has_coin (x ∷ xs) h.reference) (coins_of token xs) (λ h t. or_right (ref_eq x.reference h.reference && is_coin x) (has_coin xs h.reference) t) (coins_there token xs))
  where
    by : (b : Bool) → is_coin_of token x ≡ b → list_all (λ h. has_coin (x ∷ xs) h.reference) (coins_of token xs) ≡ true → list_all (λ h. has_coin (x ∷ xs) h.reference) (cond b (x ∷ coins_of token xs) (coins_of token xs)) ≡ true
    by true e more = and_from _ _ (ap (λ b. b || has_coin xs x.reference) (and_from _ _ (ref_same x.reference) (coin_of_token token x e))) more
    by false e more = more
