-- The contract of cash accepts a payment.
use Rattle.std.specs.Prelude.{◌≡◌, ℕ, ◌+◌, ◌<◌, ◌≤◌, ◌^◌, ◌==◌, ◌||◌, not, nat_lt, List, [], ◌∷◌, map, Bool, true, false, None, refl, if◌then◌else◌}
use Rattle.std.specs.List.{AllByRecursion, list_any}
use Rattle.std.proofs.Common.{arith, ap, ◌∙◌}
use Rattle.std.proofs.lemmas.Bool.{ltb-true, ltb-false, eq-eqb, ne_eqb}
use Rattle.std.proofs.lemmas.List.Sums.{sum_by-cons}
use Rattle.net_base.specs.declared.names.Token.{Token}
use Rattle.net_base.specs.declared.values.Party.{Party}
use Rattle.ledger_types.specs.declared.held.Held.{Held}
use Rattle.ledger_types.specs.declared.state.TxState.{TxState}
use Rattle.ledger_types.specs.Names.{token_eq}
use Rattle.ledger_types.specs.Rules.{first_true}
use Rattle.ledger_types.specs.Vaults.{cash_amount}
use Rattle.cash_contract.specs.Clauses.{is_worthless, amount_in, value_in, is_conserved, is_taken, signs_spending, loses_value, has_worthless_output, takes_cash, tokens_in, cash_says}
use Rattle.flow_txs.proofs.Signers.{alone_has}
use Rattle.flow_machine.specs.declared.acts.Place.{Place}
use Rattle.cash_flows.specs.declared.pay.Pay.{Pay}
use Rattle.cash_flows.specs.Making.{cash, left_of, worth}
use Rattle.cash_flows.specs.Payment.{payment}
use Rattle.cash_flows.specs.Accepted.{IsOwn, resolved_of, AcceptedByCash}

-- a test that no item passes
pub never : {X : Type 0} (test : X → Bool) → ((x : X) → test x ≡ false) → (xs : List X) → list_any test xs ≡ false
never test none [] = refl
never test none (x ∷ xs) = rw (none x, never test none xs) refl

-- the amounts or nothing, by whether a token is the one
abbrev pub where_same : Bool → ℕ → ℕ
where_same same n = if same then n else 0

-- ---- what goes in

pub value_of_own : (token other : Token) (me : Party) (same : Bool) → token_eq token other ≡ same → (coins : List Held) → AllByRecursion (IsOwn token me) coins → value_in other (map (λ h. h.state) coins) ≡ where_same same (worth coins)
value_of_own token other me true is [] all = refl
value_of_own token other me false is [] all = refl
value_of_own token other me true is (h ∷ hs) all =
    let one : amount_in other h.state.body ≡ all.0.0 = ap (amount_in other) all.0.1 ∙ ap (λ (b : Bool). where_same b all.0.0) is in
    let two : cash_amount h.state.body ≡ all.0.0 = ap cash_amount all.0.1 in
    omega (arith, sum_by-cons (λ (s : TxState). amount_in other s.body) h.state (map (λ x. x.state) hs), sum_by-cons (λ (x : Held). cash_amount x.state.body) h hs, one, two, value_of_own token other me true is hs all.1)
value_of_own token other me false is (h ∷ hs) all =
    let one : amount_in other h.state.body ≡ 0 = ap (amount_in other) all.0.1 ∙ ap (λ (b : Bool). where_same b all.0.0) is in
    omega (arith, sum_by-cons (λ (s : TxState). amount_in other s.body) h.state (map (λ x. x.state) hs), one, value_of_own token other me false is hs all.1)

-- ---- what comes out

-- the outputs, by whether there is a rest
abbrev outputs : Place → Token → ℕ → Party → ℕ → Bool → List TxState
outputs here t amount to sum more = cash here t amount to ∷ (if more then cash here t (left_of sum amount) here.me ∷ [] else [])

value_out : (here : Place) (t other : Token) (amount : ℕ) (to : Party) (sum : ℕ) (more same : Bool) → nat_lt amount sum ≡ more → token_eq t other ≡ same → amount ≤ sum → sum < amount + 2 ^ 64 → value_in other (outputs here t amount to sum more) ≡ where_same same sum
value_out here t other amount to sum true true is one le lt = rw one (omega (arith, ltb-true amount sum is, le, lt))
value_out here t other amount to sum true false is one le lt = rw one refl
value_out here t other amount to sum false true is one le lt = rw one (omega (arith, ltb-false amount sum is, le))
value_out here t other amount to sum false false is one le lt = rw one refl

-- no output is of amount 0
worth_some : (here : Place) (t : Token) (amount : ℕ) (to : Party) (sum : ℕ) (more : Bool) → nat_lt amount sum ≡ more → 0 < amount → list_any (λ s. is_worthless s.body) (outputs here t amount to sum more) ≡ false
worth_some here t amount to sum true is some =
    let less = ltb-true amount sum is in
    let first : (amount == 0) ≡ false = ne_eqb amount 0 (λ e. omega (arith, some, e)) in
    let rest : (left_of sum amount == 0) ≡ false = ne_eqb (left_of sum amount) 0 (λ e. omega (arith, less, e)) in
    rw (first, rest) refl
worth_some here t amount to sum false is some =
    let first : (amount == 0) ≡ false = ne_eqb amount 0 (λ e. omega (arith, some, e)) in
    rw first refl

-- ---- the clauses

-- every token is conserved
conserved : (p : Pay) (coins : List Held) (here : Place) (references : List TxState) → AllByRecursion (IsOwn p.token here.me) coins → p.amount ≤ worth coins → worth coins < p.amount + 2 ^ 64 → (other : Token) → not (is_conserved (payment p coins here) (resolved_of coins references) other) ≡ false
conserved p coins here references own le lt other =
    let ins = value_of_own p.token other here.me (token_eq p.token other) refl coins own in
    let outs = value_out here p.token other p.amount p.to (worth coins) (nat_lt p.amount (worth coins)) (token_eq p.token other) refl refl le lt in
    ap not (eq-eqb (value_in other (map (λ h. h.state) coins) + 0) (value_in other (outputs here p.token p.amount p.to (worth coins) (nat_lt p.amount (worth coins))) + 0) (omega (arith, ins, outs)))

-- this party spends its coins
not_taken : (p : Pay) (all : List Held) (here : Place) (coins : List Held) → here.me.0 < 16 → AllByRecursion (IsOwn p.token here.me) coins → list_any (λ s. is_taken (payment p all here) s.body) (map (λ h. h.state) coins) ≡ false
not_taken p all here [] me own = refl
not_taken p all here (h ∷ hs) me own =
    let signs : signs_spending (payment p all here) p.token here.me ≡ true = ap (λ (b : Bool). b || false) (alone_has here.me me) in
    let one : is_taken (payment p all here) h.state.body ≡ false = ap (is_taken (payment p all here)) own.0.1 ∙ ap not signs in
    rw (one, not_taken p all here hs me own.1) refl

-- where no clause refuses
pub none_refuses : (a b c d e f : Bool) → a ≡ false → b ≡ false → c ≡ false → d ≡ false → e ≡ false → f ≡ false → first_true ((1, a) ∷ (2, b) ∷ (3, c) ∷ (4, d) ∷ (5, e) ∷ (6, f) ∷ []) ≡ None
none_refuses a b c d e f ha hb hc hd he hf = rw (ha, hb, hc, hd, he, hf) refl

pub accepted_by_cash : AcceptedByCash
unfolding cash_says
accepted_by_cash p coins here references me own some le lt =
    let tx = payment p coins here in
    let resolved = resolved_of coins references in
    none_refuses (has_worthless_output tx) false (loses_value tx resolved) false false (takes_cash tx resolved) (worth_some here p.token p.amount p.to (worth coins) (nat_lt p.amount (worth coins)) refl some) refl (never (λ t. not (is_conserved tx resolved t)) (conserved p coins here references own le lt) (tokens_in tx resolved)) refl refl
    (not_taken p coins here coins me own)
