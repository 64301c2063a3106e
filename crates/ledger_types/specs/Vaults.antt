-- What a party holds, over the list of recorded transactions.
use Rattle.std.specs.Prelude.{ℕ, ◌+◌, ◌-◌, ◌==◌, ◌<◌, ◌^◌, ◌&&◌, ◌||◌, not, List, [], ◌∷◌, Option, Some, None, IfSome, Bool, true, false, map, filter, find, flat_map, option_map, is_none, take, sum_by, if◌then◌else◌}
use Rattle.std.specs.List.{list_any}
use Rattle.net_base.specs.declared.values.Hash32.{Hash32}
use Rattle.net_base.specs.declared.values.Party.{Party}
use Rattle.net_base.specs.declared.names.StateRef.{StateRef}
use Rattle.net_base.specs.declared.names.Token.{Token}
use Rattle.ledger_types.specs.declared.state.StateData.{StateData}
use Rattle.ledger_types.specs.declared.state.StateData.TheVariants.{Cash, TimeLock, Fact, Iou}
use Rattle.ledger_types.specs.declared.state.TxState.{TxState}
use Rattle.ledger_types.specs.declared.tx.Tx.{Tx}
use Rattle.ledger_types.specs.declared.held.Held.{Held}
use Rattle.net_base.specs.Names.{IsStateRef}
use Rattle.ledger_types.specs.States.{IsTxState}
use Rattle.ledger_types.specs.Names.{party_eq, token_eq, ref_eq, has_ref}

-- whether a state is relevant to a party: Cash and TimeLock that it owns, Facts that it issued, Ious in which it is lender or borrower
abbrev pub is_relevant : Party → StateData → Bool
is_relevant me (Cash token amount owner) = party_eq owner me
is_relevant me (TimeLock owner until) = party_eq owner me
is_relevant me (Fact issuer name value) = party_eq issuer me
is_relevant me (Iou lender borrower token amount) = party_eq lender me || party_eq borrower me

-- a state that a flow has soft-locked
pub record Lock : Type 0 where
  pub reference : StateRef
  pub flow : ℕ

-- the locks of a flow on these states
abbrev pub locks_of : ℕ → List StateRef → List Lock
locks_of flow refs = map (λ r. record { reference = r; flow = flow }) refs

-- the locks but for those of a flow
abbrev pub released : ℕ → List Lock → List Lock
released flow locks = filter (λ l. not (l.flow == flow)) locks

-- the flow that has a reference locked
abbrev pub locked_by : List Lock → StateRef → Option ℕ
locked_by locks r = option_map (λ l. l.flow) (find (λ l. ref_eq r l.reference) locks)

-- the limits of a state that is held
abbrev pub IsHeld : Held → Type 0
IsHeld h = IsStateRef h.reference × (IsTxState h.state × IfSome h.locked (λ flow. flow < 2 ^ 32))

-- a state with its reference and the flow that has it locked
abbrev pub held : List Lock → StateRef → TxState → Held
held locks r state = record { reference = r; state = state; locked = locked_by locks r }

-- the outputs of the transaction of this id, from place n on
abbrev pub outputs_from : List Lock → Hash32 → ℕ → List TxState → List Held
outputs_from locks id n [] = []
outputs_from locks id n (state ∷ states) = held locks (record { id = id; index = n }) state ∷ outputs_from locks id (n + 1) states

-- whether one of these transactions has the reference among its inputs
abbrev pub is_consumed : List (Hash32 × Tx) → StateRef → Bool
is_consumed recorded r = list_any (λ t. has_ref r t.1.inputs) recorded

-- every output of the recorded transactions, in order of recording and then of place
abbrev pub all_outputs : List Lock → List (Hash32 × Tx) → List Held
all_outputs locks recorded = flat_map (λ t. outputs_from locks t.0 0 t.1.outputs) recorded

-- the vault of a party: the outputs that are relevant to it and that no recorded transaction consumes
unfoldable pub vault_of : Party → List (Hash32 × Tx) → List Lock → List Held
vault_of me recorded locks = filter (λ h. is_relevant me h.state.body && not (is_consumed recorded h.reference)) (all_outputs locks recorded)

-- whether a state is Cash
abbrev pub is_cash : StateData → Bool
is_cash (Cash token amount owner) = true
is_cash _ = false

-- whether a state is Cash of the token
abbrev pub is_cash_of : Token → StateData → Bool
is_cash_of token (Cash other amount owner) = token_eq token other
is_cash_of token _ = false

-- the amount of a Cash, and 0 of any other state
abbrev pub cash_amount : StateData → ℕ
cash_amount (Cash token amount owner) = amount
cash_amount _ = 0

-- whether a held state is free to be spent: nothing encumbers it and no flow has it locked
abbrev pub is_free : Held → Bool
is_free h = is_none h.state.encumbrance && is_none h.locked

-- whether a held state is a coin of some token
abbrev pub is_coin : Held → Bool
is_coin h = is_cash h.state.body && is_free h

-- whether the reference names a coin of some token
abbrev pub has_coin : List Held → StateRef → Bool
has_coin states r = list_any (λ h. ref_eq h.reference r && is_coin h) states

-- whether a held state is a coin of the token
abbrev pub is_coin_of : Token → Held → Bool
is_coin_of token h = is_cash_of token h.state.body && is_free h

-- the coins of a token
abbrev pub coins_of : Token → List Held → List Held
coins_of token vault = filter (is_coin_of token) vault

-- the sum of the Cash of a token, locked or not
abbrev pub balance_of : Token → List Held → ℕ
balance_of token vault = sum_by (λ h. cash_amount h.state.body) (filter (λ h. is_cash_of token h.state.body) vault)

-- the first of these that have a sum of at least the amount, and no more than are needed
abbrev pub least_prefix : ℕ → List Held → Option (List Held)
least_prefix amount [] = if amount == 0 then Some [] else None
least_prefix amount (h ∷ hs) = if amount == 0 then Some [] else option_map (λ rest. h ∷ rest) (least_prefix (amount - cash_amount h.state.body) hs)

-- what a reservation of an amount names: the least prefix of the first 64 coins of the token that reaches it
abbrev pub reserved : Token → ℕ → List Held → Option (List Held)
reserved token amount vault = least_prefix amount (take 64 (coins_of token vault))

-- the sum of the first 64 coins of the token
abbrev pub reservable : Token → List Held → ℕ
reservable token vault = sum_by (λ h. cash_amount h.state.body) (take 64 (coins_of token vault))
