-- An exit keeps the rest, and the contract of cash accepts it.
use Rattle.std.specs.Prelude.{◌≡◌, ℕ, ◌+◌, ◌<◌, ◌≤◌, ◌^◌, ◌==◌, ◌&&◌, ◌||◌, not, nat_lt, List, [], ◌∷◌, map, sum_by, bytes_eq, Bool, true, false, refl, if◌then◌else◌}
use Rattle.std.specs.List.{AllByRecursion, list_any}
use Rattle.std.proofs.Common.{arith, ap, ◌∙◌}
use Rattle.std.proofs.lemmas.Bool.{ltb-true, ltb-false, eq-eqb, ne_eqb}
use Rattle.std.proofs.lemmas.Slice.Eq.{bytes_eq-Decides}
use Rattle.net_base.specs.declared.names.Token.{Token}
use Rattle.net_base.specs.declared.values.Party.{Party}
use Rattle.ledger_types.specs.declared.held.Held.{Held}
use Rattle.ledger_types.specs.Names.{party_eq, token_eq}
use Rattle.ledger_types.specs.Vaults.{cash_amount}
use Rattle.cash_contract.specs.Clauses.{is_worthless, value_in, value_exited, is_conserved, is_taken, is_unsigned_cash, signs_spending, loses_value, has_worthless_output, has_void_deed, has_unsigned_exit, takes_cash, tokens_in, cash_says}
use Rattle.flow_txs.proofs.Signers.{alone_has}
use Rattle.flow_machine.specs.declared.acts.Place.{Place}
use Rattle.cash_flows.specs.declared.exit.Exit.{Exit}
use Rattle.flow_txs.specs.Making.{alone}
use Rattle.cash_flows.specs.Making.{own, cash, left_of, worth}
use Rattle.cash_flows.specs.Exit.{redemption}
use Rattle.cash_flows.specs.Accepted.{IsOwn, resolved_of}
use Rattle.cash_flows.specs.ExitAccepted.{ExitsExactly, ExitIsAccepted, ReservedExitIsAccepted}
use Rattle.cash_flows.proofs.Accepting.{never, where_same, value_of_own, none_refuses}
use Rattle.cash_flows.proofs.Reserving.{reservation_reaches}

-- ---- value

rest_adds : (here : Place) (t : Token) (amount sum : ℕ) (more : Bool) → nat_lt amount sum ≡ more → amount ≤ sum → sum < amount + 2 ^ 64 → sum_by (λ s. cash_amount s.body) (if more then cash here t (left_of sum amount) here.me ∷ [] else []) + amount ≡ sum
rest_adds here t amount sum true is le lt = omega (arith, ltb-true amount sum is, le, lt)
rest_adds here t amount sum false is le lt = omega (arith, ltb-false amount sum is, le)

pub exits_exactly : ExitsExactly
exits_exactly e coins here le lt = rest_adds here (own here e.code) e.amount (worth coins) (nat_lt e.amount (worth coins)) refl le lt

-- of one token
value_left : (here : Place) (t other : Token) (amount sum : ℕ) (more same : Bool) → nat_lt amount sum ≡ more → token_eq t other ≡ same → amount ≤ sum → sum < amount + 2 ^ 64 → value_in other (if more then cash here t (left_of sum amount) here.me ∷ [] else []) + where_same same amount ≡ where_same same sum
value_left here t other amount sum true true is one le lt = rw one (omega (arith, ltb-true amount sum is, le, lt))
value_left here t other amount sum true false is one le lt = rw one refl
value_left here t other amount sum false true is one le lt = omega (arith, ltb-false amount sum is, le)
value_left here t other amount sum false false is one le lt = refl

-- a rest is not of amount 0
rest_worth : (here : Place) (t : Token) (amount sum : ℕ) (more : Bool) → nat_lt amount sum ≡ more → list_any (λ s. is_worthless s.body) (if more then cash here t (left_of sum amount) here.me ∷ [] else []) ≡ false
rest_worth here t amount sum true is =
    let less = ltb-true amount sum is in
    let rest : (left_of sum amount == 0) ≡ false = ne_eqb (left_of sum amount) 0 (λ e. omega (arith, less, e)) in
    rw rest refl
rest_worth here t amount sum false is = refl

-- ---- the clauses

-- every token is conserved
conserved : (e : Exit) (coins : List Held) (here : Place) → AllByRecursion (IsOwn (own here e.code) here.me) coins → e.amount ≤ worth coins → worth coins < e.amount + 2 ^ 64 → (other : Token) → not (is_conserved (redemption e coins here) (resolved_of coins []) other) ≡ false
conserved e coins here mine le lt other =
    let t = own here e.code in
    let tx = redemption e coins here in
    let ins = value_of_own t other here.me (token_eq t other) refl coins mine in
    let outs = value_left here t other e.amount (worth coins) (nat_lt e.amount (worth coins)) (token_eq t other) refl refl le lt in
    ap not (eq-eqb (value_in other (map (λ h. h.state) coins) + 0) (value_in other tx.outputs + value_exited other tx) (omega (arith, ins, outs)))

-- a token is itself
token_same : (t : Token) → token_eq t t ≡ true
token_same t =
    let issuer : party_eq t.issuer t.issuer ≡ true = eq-eqb t.issuer.0 t.issuer.0 refl in
    let code : bytes_eq t.code t.code ≡ true = (bytes_eq-Decides t.code t.code).1 refl in
    rw (issuer, code) refl

neither : (b : Bool) → (b && false) ≡ false
neither true = refl
neither false = refl

-- the owner of each coin is the one that signs
all_signed : (token : Token) (me : Party) (coins : List Held) → me.0 < 16 → AllByRecursion (IsOwn token me) coins → list_any (λ s. is_unsigned_cash token (alone me) s.body) (map (λ h. h.state) coins) ≡ false
all_signed token me [] is mine = refl
all_signed token me (h ∷ hs) is mine =
    let one : is_unsigned_cash token (alone me) h.state.body ≡ false = ap (is_unsigned_cash token (alone me)) mine.0.1 ∙ ap (λ (b : Bool). token_eq token token && not b) (alone_has me is) ∙ neither (token_eq token token) in
    rw (one, all_signed token me hs is mine.1) refl

-- this party spends its coins
not_taken : (e : Exit) (all : List Held) (here : Place) (coins : List Held) → here.me.0 < 16 → AllByRecursion (IsOwn (own here e.code) here.me) coins → list_any (λ s. is_taken (redemption e all here) s.body) (map (λ h. h.state) coins) ≡ false
not_taken e all here [] me mine = refl
not_taken e all here (h ∷ hs) me mine =
    let tx = redemption e all here in
    let signs : signs_spending tx (own here e.code) here.me ≡ true = rw (token_same (own here e.code), alone_has here.me me) refl in
    let one : is_taken tx h.state.body ≡ false = ap (is_taken tx) mine.0.1 ∙ ap not signs in
    rw (one, not_taken e all here hs me mine.1) refl

pub exit_is_accepted : ExitIsAccepted
unfolding cash_says
exit_is_accepted e coins here me mine some le lt =
    let tx = redemption e coins here in
    let resolved = resolved_of coins [] in
    let worth_some : (e.amount == 0) ≡ false = ne_eqb e.amount 0 (λ z. omega (arith, some, z)) in
    let signed : has_unsigned_exit tx resolved ≡ false = rw (alone_has here.me me, all_signed (own here e.code) here.me coins me mine) refl in
    none_refuses (has_worthless_output tx) (has_void_deed tx) (loses_value tx resolved) false (has_unsigned_exit tx resolved) (takes_cash tx resolved) (rest_worth here (own here e.code) e.amount (worth coins) (nat_lt e.amount (worth coins)) refl)
    (ap (λ (b : Bool). b || false) worth_some) (never (λ t. not (is_conserved tx resolved t)) (conserved e coins here mine le lt) (tokens_in tx resolved)) refl signed (not_taken e coins here coins me mine)

pub reserved_exit_is_accepted : ReservedExitIsAccepted
reserved_exit_is_accepted e vault coins here me held relevant some named =
    let r = reservation_reaches (own here e.code) here.me e.amount vault coins held relevant named in
    exit_is_accepted e coins here me r.own some r.reaches r.exceeds
