-- The laws of the exit.
use Rattle.std.specs.Prelude.{◌<◌, ◌≤◌, ◌^◌, List, length, map, nat_lt, refl}
use Rattle.std.specs.List.{AllByRecursion}
use Rattle.std.proofs.lemmas.List.{length-map}
use Rattle.ledger_types.specs.declared.held.Held.{Held}
use Rattle.ledger_types.specs.declared.tx.Deed.TheVariants.{CashExit}
use Rattle.ledger_types.specs.Txs.{IsTx}
use Rattle.ledger_types.specs.Vaults.{IsHeld}
use Rattle.flow_machine.specs.declared.acts.Resumed.TheVariants as resumed
use Rattle.flow_machine.specs.Limits.{IsPlace}
use Rattle.flow_forms.specs.Usual.{Place, Resumed, Owes, IsForm, unnamed_owes, stops_owes, BeginsWithin, if_some, arith, subst}
use Rattle.cash_flows.specs.declared.exit.Exit.{Exit}
use Rattle.cash_flows.specs.declared.exit.ExitPlace.{ExitPlace}
use Rattle.cash_flows.specs.declared.exit.ExitPlace.TheVariants.{Reserving, Exiting}
use Rattle.flow_txs.specs.Words.{IsCurrency}
use Rattle.flow_txs.specs.Making.{alone}
use Rattle.cash_flows.specs.Making.{own, worth, rest_of}
use Rattle.flow_txs.specs.MakingLaws.{alone_is, made_within}
use Rattle.flow_txs.specs.ConcludingLaws.{concluded_owes}
use Rattle.cash_flows.specs.MakingLaws.{references_are, rest_is}
use Rattle.cash_flows.specs.Exit.{redemption, begins, reserved, with_id, moves, weight, form, kept}

-- the arguments give fields within their limits
pub begins_within : BeginsWithin (λ args. IsCurrency args.first × ((args.rest.first < 2 ^ 64) × Unit {0})) kept.within form.tags begins
begins_within args here e same = let made = if_some (nat_lt 0 args.rest.first) same in (λ given place. subst kept.within made.1 (given.0, (given.1.0, tt)), refl)

-- the transaction of coins within their limits is within its own
redemption_within : (e : Exit) (coins : List Held) (here : Place) → kept.within e → (length coins ≤ 64) × AllByRecursion IsHeld coins → IsPlace here → IsTx (redemption e coins here)
redemption_within e coins here h held place =
    let token = own here e.code in
    let rest = rest_is here token e.amount (worth coins) (nat_lt e.amount (worth coins)) (place.me, h.0) place in
    made_within (map (λ c. c.reference) coins) (rest_of here token e.amount (worth coins)) (CashExit token e.amount) (alone here.me) here (omega (arith, held.0, length-map coins (λ (c : Held). c.reference)), references_are coins held.1) (omega (arith, rest.0), rest.1)
    ((place.me, h.0), h.1.0) (alone_is here.me) place

reserved_owes : (e : Exit) (with : Resumed) (here : Place) → Owes form kept.within 2300 e with here (reserved e with here)
reserved_owes e (resumed.Coins coins) here = record {
  limits = λ h small place. (h, (redemption_within e coins here h small place, (omega arith, tt)));
  tags = λ test old given. (refl, refl);
  falls = omega arith;
  asks = refl;
}
reserved_owes e (resumed.Short sum) here = stops_owes form kept.within 2300 e e (resumed.Short sum) here 47 (omega arith) (omega arith) (λ h small. h) (λ test old. old)
reserved_owes e other here = unnamed_owes form kept.within 2300 e other here (omega arith)

moves_owe : (place : ExitPlace) (e : Exit) (with : Resumed) (here : Place) → Owes form kept.within (weight place e) e with here (moves place e with here)
moves_owe Reserving e with here = reserved_owes e with here
moves_owe Exiting e with here = concluded_owes form kept.within with_id e with here (λ x h small. (h.0, (h.1.0, small))) (λ _. refl)

-- the machine owes nothing more
pub is_form : IsForm kept.within form
is_form = record {
  starts = λ e here. record { limits = λ h small place. (h, ((place.me, h.0), h.1.0)); tags = λ test old given. (refl, refl); falls = omega arith; asks = refl };
  moves = moves_owe;
}
