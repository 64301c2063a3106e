-- The laws of the spend.
use Rattle.std.specs.Prelude.{◌≡◌, ℕ, ◌<◌, ◌^◌, [], ◌∷◌, Option, Some, None, refl}
use Rattle.net_base.specs.declared.names.Token.{Token}
use Rattle.net_base.specs.Names.{IsToken}
use Rattle.ledger_types.specs.declared.state.StateData.{StateData}
use Rattle.ledger_types.specs.declared.state.StateData.TheVariants.{Cash}
use Rattle.ledger_types.specs.declared.tx.Deed.TheVariants.{CashMove}
use Rattle.ledger_types.specs.declared.tx.SignedTx.{SignedTx}
use Rattle.ledger_types.specs.Names.{party_eq}
use Rattle.ledger_types.specs.States.{IsStateData}
use Rattle.ledger_types.specs.Txs.{IsTx, IsSignedTx}
use Rattle.flow_machine.specs.declared.acts.Resumed.TheVariants as resumed
use Rattle.flow_machine.specs.Limits.{IsPlace}
use Rattle.flow_forms.specs.Usual.{Place, Resumed, Party, Owes, IsForm, unnamed_owes, fails_owes, same, BeginsWithin, if_some, is_peer, peer_is_party, arith, subst}
use Rattle.flow_txs.specs.ConcludingLaws.{concluded_owes}
use Rattle.flow_txs.specs.Finding.{free_output}
use Rattle.flow_txs.specs.FindingLaws.{taken_of, free_within}
use Rattle.flow_txs.specs.Making.{alone}
use Rattle.flow_txs.specs.MakingLaws.{alone_is, made_within}
use Rattle.flow_txs.specs.Words.{IsTxId}
use Rattle.cash_flows.specs.declared.spend.Spend.{Spend}
use Rattle.cash_flows.specs.declared.spend.SpendPlace.{SpendPlace}
use Rattle.cash_flows.specs.declared.spend.SpendPlace.TheVariants.{LookingUp, Spending}
use Rattle.cash_flows.specs.Making.{cash}
use Rattle.cash_flows.specs.Spend.{own_coin, coin_at, handover, begins, spends, looked_up, with_id, moves, weight, form, kept}

-- the arguments give fields within their limits
pub begins_within : BeginsWithin (λ args. IsTxId args.first × ((args.rest.first < 2 ^ 32) × ((args.rest.rest.first < 256) × Unit {0}))) kept.within form.tags begins
begins_within args here s e =
    let made = if_some (is_peer args.rest.rest.first here) e in
    (λ given place. subst kept.within made.1 ((given.0, given.1.0), (peer_is_party args.rest.rest.first here made.0 place, tt)), subst (λ (t : Spend). form.tags t ≡ []) made.1 refl)

-- ---- the transaction

-- the limits of a coin
abbrev pub IsCoin : Token × ℕ → Type 0
IsCoin coin = IsToken coin.0 × (coin.1 < 2 ^ 64)

-- a coin that is the party's own
pub coin_within : (me : Party) (body : StateData) (coin : Token × ℕ) → IsStateData body → own_coin me body ≡ Some coin → IsCoin coin
coin_within me (Cash token amount owner) coin h e = subst IsCoin (if_some (party_eq owner me) e).1 (h.0, h.1.0)
coin_within me other coin h e = absurd cc

-- a coin that was found is within its limits
found_within : (me : Party) (stx : SignedTx) (index : ℕ) (coin : Token × ℕ) → IsSignedTx stx → coin_at me stx.tx.outputs index ≡ Some coin → IsCoin coin
found_within me stx index coin h e =
    let said = taken_of (own_coin me) (free_output stx.tx.outputs index) coin e in
    coin_within me said.0 coin (free_within stx.tx.outputs index said.0 h.0.1.1.0.1 said.1.0) said.1.1

-- the transaction of a coin within its limits is within its own
handover_within : (s : Spend) (coin : Token × ℕ) (here : Place) → kept.within s → IsCoin coin → IsPlace here → IsTx (handover s coin here)
handover_within s coin here h is place = made_within (s.reference ∷ []) (cash here coin.0 coin.1 s.to ∷ []) CashMove (alone here.me) here (omega arith, (h.0, tt)) (omega arith, (((is.0, (is.1, h.1.0)), (place.notary, tt)), tt)) tt (alone_is here.me) place

-- ---- what it owes

spends_owes : (s : Spend) (stx : SignedTx) (here : Place) (found : Option (Token × ℕ)) → coin_at here.me stx.tx.outputs s.reference.index ≡ found → Owes form kept.within 4873 s (resumed.Found stx) here (spends s found here)
spends_owes s stx here None is = fails_owes form kept.within 4873 s s (resumed.Found stx) here 55 (same form kept.within s (resumed.Found stx) here) (omega arith) (omega arith)
spends_owes s stx here (Some coin) is = record {
  limits = λ h small place. (h, (handover_within s coin here h (found_within here.me stx s.reference.index coin small is) place, (omega arith, (h.1.0, tt))));
  tags = λ test old given. (refl, refl);
  falls = omega arith;
  asks = refl;
}

looked_up_owes : (s : Spend) (with : Resumed) (here : Place) → Owes form kept.within 4873 s with here (looked_up s with here)
looked_up_owes s (resumed.Found stx) here = spends_owes s stx here (coin_at here.me stx.tx.outputs s.reference.index) refl
looked_up_owes s resumed.Absent here = fails_owes form kept.within 4873 s s resumed.Absent here 55 (same form kept.within s resumed.Absent here) (omega arith) (omega arith)
looked_up_owes s other here = unnamed_owes form kept.within 4873 s other here (omega arith)

moves_owe : (place : SpendPlace) (s : Spend) (with : Resumed) (here : Place) → Owes form kept.within (weight place s) s with here (moves place s with here)
moves_owe LookingUp s with here = looked_up_owes s with here
moves_owe Spending s with here = concluded_owes form kept.within with_id s with here (λ x h small. (h.0, (h.1.0, small))) (λ _. refl)

-- the machine owes nothing more
pub is_form : IsForm kept.within form
is_form = record {
  starts = λ s here. record { limits = λ h small place. (h, h.0.0); tags = λ test old given. (refl, refl); falls = omega arith; asks = refl };
  moves = moves_owe;
}
