-- The laws of the issue.
use Rattle.std.specs.Prelude.{◌<◌, ◌^◌, nat_lt, [], ◌∷◌, refl}
use Rattle.ledger_types.specs.declared.tx.Deed.TheVariants.{CashIssue}
use Rattle.ledger_types.specs.Txs.{IsTx}
use Rattle.flow_machine.specs.Limits.{IsPlace}
use Rattle.flow_forms.specs.Usual.{Place, IsForm, BeginsWithin, if_some, arith, subst}
use Rattle.cash_flows.specs.declared.issue.Issue.{Issue}
use Rattle.flow_txs.specs.Words.{IsCurrency}
use Rattle.flow_txs.specs.MakingLaws.{alone_is, made_within}
use Rattle.flow_txs.specs.ConcludingLaws.{concluded_owes}
use Rattle.flow_txs.specs.Making.{alone}
use Rattle.cash_flows.specs.Making.{own, cash}
use Rattle.cash_flows.specs.Issue.{issuance, begins, with_id, form, kept}

-- the arguments give fields within their limits
pub begins_within : BeginsWithin (λ args. IsCurrency args.first × ((args.rest.first < 2 ^ 64) × Unit {0})) kept.within form.tags begins
begins_within args here i e = let made = if_some (nat_lt 0 args.rest.first) e in (λ given place. subst kept.within made.1 (given.0, (given.1.0, tt)), refl)

-- the transaction is within its limits
issuance_within : (i : Issue) (here : Place) → kept.within i → IsPlace here → IsTx (issuance i here)
issuance_within i here h place =
    made_within [] (cash here (own here i.code) i.amount here.me ∷ []) (CashIssue (own here i.code) i.amount) (alone here.me) here (omega arith, tt) (omega arith, ((((place.me, h.0), (h.1.0, place.me)), (place.notary, tt)), tt)) ((place.me, h.0), h.1.0) (alone_is here.me) place

-- the machine owes nothing more
pub is_form : IsForm kept.within form
is_form = record {
  starts = λ i here. record { limits = λ h small place. (h, (issuance_within i here h place, (omega arith, tt))); tags = λ test old given. (refl, refl); falls = omega arith; asks = refl };
  moves = λ place i with here. concluded_owes form kept.within with_id i with here (λ x h small. (h.0, (h.1.0, small))) (λ _. refl);
}
