-- The laws of the changed fact.
use Rattle.std.specs.Prelude.{◌≡◌, ℕ, ◌<◌, ◌^◌, [], ◌∷◌, Option, Some, None, refl}
use Rattle.ledger_types.specs.declared.state.StateData.{StateData}
use Rattle.ledger_types.specs.declared.state.StateData.TheVariants as state
use Rattle.ledger_types.specs.declared.tx.Deed.TheVariants.{FactChange}
use Rattle.ledger_types.specs.declared.tx.SignedTx.{SignedTx}
use Rattle.ledger_types.specs.Names.{party_eq}
use Rattle.ledger_types.specs.States.{IsStateData}
use Rattle.ledger_types.specs.Txs.{IsTx, IsSignedTx}
use Rattle.flow_machine.specs.declared.acts.Resumed.TheVariants as resumed
use Rattle.flow_machine.specs.Limits.{IsPlace}
use Rattle.flow_forms.specs.Usual.{Place, Resumed, Party, Owes, IsForm, unnamed_owes, fails_owes, same, BeginsWithin, if_some, arith, subst}
use Rattle.flow_txs.specs.ConcludingLaws.{concluded_owes}
use Rattle.flow_txs.specs.Finding.{free_output}
use Rattle.flow_txs.specs.FindingLaws.{taken_of, free_within}
use Rattle.flow_txs.specs.Making.{alone, plain}
use Rattle.flow_txs.specs.MakingLaws.{alone_is, made_within}
use Rattle.flow_txs.specs.Words.{IsTxId}
use Rattle.deal_flows.specs.declared.refact.Refact.{Refact}
use Rattle.deal_flows.specs.declared.refact.RefactPlace.{RefactPlace}
use Rattle.deal_flows.specs.declared.refact.RefactPlace.TheVariants.{LookingUp, Changing}
use Rattle.deal_flows.specs.Refact.{own_name, name_at, change, begins, changes, looked_up, with_id, moves, weight, form, kept}

-- the arguments give fields within their limits
pub begins_within : BeginsWithin (λ args. IsTxId args.first × ((args.rest.first < 2 ^ 32) × ((args.rest.rest.first < 2 ^ 64) × Unit {0}))) kept.within form.tags begins
begins_within args here r e =
    let given : Refact = record { reference = record { id = args.first.0; index = args.rest.first }; value = args.rest.rest.first; id = None } in
    let made : given ≡ r = cc in
    (λ h place. subst kept.within made ((h.0, h.1.0), (h.1.1.0, tt)), refl)

-- ---- the transaction

-- a name of an own fact has 64 bits
pub name_within : (me : Party) (body : StateData) (name : ℕ) → IsStateData body → own_name me body ≡ Some name → name < 2 ^ 64
name_within me (state.Fact issuer other value) name h e = subst (λ (n : ℕ). n < 2 ^ 64) (if_some (party_eq issuer me) e).1 h.1.0
name_within me other name h e = absurd cc

-- so has one that was found
found_within : (me : Party) (stx : SignedTx) (index name : ℕ) → IsSignedTx stx → name_at me stx.tx.outputs index ≡ Some name → name < 2 ^ 64
found_within me stx index name h e =
    let said = taken_of (own_name me) (free_output stx.tx.outputs index) name e in
    name_within me said.0 name (free_within stx.tx.outputs index said.0 h.0.1.1.0.1 said.1.0) said.1.1

-- the transaction is within its limits
change_within : (r : Refact) (name : ℕ) (here : Place) → kept.within r → name < 2 ^ 64 → IsPlace here → IsTx (change r name here)
change_within r name here h is place = made_within (r.reference ∷ []) (plain here (state.Fact here.me name r.value) ∷ []) FactChange (alone here.me) here (omega arith, (h.0, tt)) (omega arith, (((place.me, (is, h.1.0)), (place.notary, tt)), tt)) tt (alone_is here.me) place

-- ---- what it owes

changes_owes : (r : Refact) (stx : SignedTx) (here : Place) (found : Option ℕ) → name_at here.me stx.tx.outputs r.reference.index ≡ found → Owes form kept.within 2300 r (resumed.Found stx) here (changes r found here)
changes_owes r stx here None is = fails_owes form kept.within 2300 r r (resumed.Found stx) here 55 (same form kept.within r (resumed.Found stx) here) (omega arith) (omega arith)
changes_owes r stx here (Some name) is = record {
  limits = λ h small place. (h, (change_within r name here h (found_within here.me stx r.reference.index name small is) place, (omega arith, tt)));
  tags = λ test old given. (refl, refl);
  falls = omega arith;
  asks = refl;
}

looked_up_owes : (r : Refact) (with : Resumed) (here : Place) → Owes form kept.within 2300 r with here (looked_up r with here)
looked_up_owes r (resumed.Found stx) here = changes_owes r stx here (name_at here.me stx.tx.outputs r.reference.index) refl
looked_up_owes r resumed.Absent here = fails_owes form kept.within 2300 r r resumed.Absent here 55 (same form kept.within r resumed.Absent here) (omega arith) (omega arith)
looked_up_owes r other here = unnamed_owes form kept.within 2300 r other here (omega arith)

moves_owe : (place : RefactPlace) (r : Refact) (with : Resumed) (here : Place) → Owes form kept.within (weight place r) r with here (moves place r with here)
moves_owe LookingUp r with here = looked_up_owes r with here
moves_owe Changing r with here = concluded_owes form kept.within with_id r with here (λ x h small. (h.0, (h.1.0, small))) (λ _. refl)

-- the machine owes nothing more
pub is_form : IsForm kept.within form
is_form = record {
  starts = λ r here. record { limits = λ h small place. (h, h.0.0); tags = λ test old given. (refl, refl); falls = omega arith; asks = refl };
  moves = moves_owe;
}
