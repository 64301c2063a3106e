-- The laws of the debt.
use Rattle.std.specs.Prelude.{◌≡◌, ◌<◌, ◌^◌, ◌&&◌, nat_lt, [], ◌∷◌, refl}
use Rattle.std.proofs.lemmas.Bool.{ltb-true}
use Rattle.ledger_types.specs.declared.state.StateData.TheVariants as state
use Rattle.ledger_types.specs.declared.tx.Deed.TheVariants.{IouMake}
use Rattle.ledger_types.specs.Txs.{IsTx}
use Rattle.flow_machine.specs.Limits.{IsPlace}
use Rattle.flow_forms.specs.Usual.{Place, IsForm, BeginsWithin, if_some, is_peer, peer_is_party, and_parts, arith, subst}
use Rattle.flow_txs.specs.ConcludingLaws.{concluded_owes}
use Rattle.flow_txs.specs.Making.{both, plain}
use Rattle.flow_txs.specs.MakingLaws.{both_is, made_within}
use Rattle.flow_txs.specs.Words.{IsCurrency}
use Rattle.deal_flows.specs.declared.iou.Iou.{Iou}
use Rattle.deal_flows.specs.Iou.{debt, is_in_range, begins, with_id, form, kept}

-- the arguments give fields within their limits
pub begins_within : BeginsWithin (λ args. (args.first < 256) × (IsCurrency args.rest.first × ((args.rest.rest.first < 256) × ((args.rest.rest.rest.first < 2 ^ 64) × Unit {0})))) kept.within form.tags begins
begins_within args here i e =
    let made = if_some (is_in_range args here) e in
    let peer = and_parts (is_peer args.first here) (nat_lt args.rest.rest.first 16 && nat_lt 0 args.rest.rest.rest.first) made.0 in
    let issuer = and_parts (nat_lt args.rest.rest.first 16) (nat_lt 0 args.rest.rest.rest.first) peer.1 in
    (λ given place. subst kept.within made.1 (peer_is_party args.first here peer.0 place, ((ltb-true args.rest.rest.first 16 issuer.0, given.1.0), (given.1.1.1.0, tt))), subst (λ (t : Iou). form.tags t ≡ []) made.1 refl)

-- the transaction is within its limits
debt_within : (i : Iou) (here : Place) → kept.within i → IsPlace here → IsTx (debt i here)
debt_within i here h place = made_within [] (plain here (state.Iou i.lender here.me i.token i.amount) ∷ []) IouMake (both i.lender here.me) here (omega arith, tt) (omega arith, (((h.0, (place.me, (h.1.0, h.1.1.0))), (place.notary, tt)), tt)) tt (both_is i.lender here.me) place

-- the machine owes nothing more
pub is_form : IsForm kept.within form
is_form = record {
  starts = λ i here. record { limits = λ h small place. (h, (debt_within i here h place, (omega arith, (h.0, tt)))); tags = λ test old given. (refl, refl); falls = omega arith; asks = refl };
  moves = λ place i with here. concluded_owes form kept.within with_id i with here (λ x h small. (h.0, (h.1.0, (h.1.1.0, small)))) (λ _. refl);
}
