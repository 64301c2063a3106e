-- The laws of the fact.
use Rattle.std.specs.Prelude.{◌≡◌, ◌<◌, ◌^◌, [], ◌∷◌, refl}
use Rattle.ledger_types.specs.declared.state.StateData.TheVariants as state
use Rattle.ledger_types.specs.declared.tx.Deed.TheVariants.{FactIssue}
use Rattle.ledger_types.specs.Txs.{IsTx}
use Rattle.flow_machine.specs.Limits.{IsPlace}
use Rattle.flow_forms.specs.Usual.{Place, IsForm, BeginsWithin, if_some, is_peer, peer_is_party, arith, subst}
use Rattle.flow_txs.specs.ConcludingLaws.{concluded_owes}
use Rattle.flow_txs.specs.Making.{alone, plain}
use Rattle.flow_txs.specs.MakingLaws.{alone_is, made_within}
use Rattle.deal_flows.specs.declared.fact.Fact.{Fact}
use Rattle.deal_flows.specs.Fact.{statement, begins, with_id, form, kept}

-- the arguments give fields within their limits
pub begins_within : BeginsWithin (λ args. (args.first < 256) × ((args.rest.first < 2 ^ 64) × ((args.rest.rest.first < 2 ^ 64) × Unit {0}))) kept.within form.tags begins
begins_within args here f e =
    let made = if_some (is_peer args.first here) e in
    (λ given place. subst kept.within made.1 (peer_is_party args.first here made.0 place, (given.1.0, (given.1.1.0, tt))), subst (λ (t : Fact). form.tags t ≡ []) made.1 refl)

-- the transaction is within its limits
statement_within : (f : Fact) (here : Place) → kept.within f → IsPlace here → IsTx (statement f here)
statement_within f here h place = made_within [] (plain here (state.Fact here.me f.name f.value) ∷ []) FactIssue (alone here.me) here (omega arith, tt) (omega arith, (((place.me, (h.1.0, h.1.1.0)), (place.notary, tt)), tt)) tt (alone_is here.me) place

-- the machine owes nothing more
pub is_form : IsForm kept.within form
is_form = record {
  starts = λ f here. record { limits = λ h small place. (h, (statement_within f here h place, (omega arith, (h.0, tt)))); tags = λ test old given. (refl, refl); falls = omega arith; asks = refl };
  moves = λ place f with here. concluded_owes form kept.within with_id f with here (λ x h small. (h.0, (h.1.0, (h.1.1.0, small)))) (λ _. refl);
}
