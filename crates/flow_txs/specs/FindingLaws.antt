-- What is found is within its limits.
use Rattle.std.specs.Prelude.{◌≡◌, ℕ, List, Option, Some, None, slice_get, option_and_then, refl}
use Rattle.std.specs.List.{AllByRecursion}
use Rattle.std.proofs.Common.{subst}
use Rattle.net_base.proofs.Lists.{all_get}
use Rattle.ledger_types.specs.declared.state.StateData.{StateData}
use Rattle.ledger_types.specs.declared.state.TxState.{TxState}
use Rattle.ledger_types.specs.States.{IsStateData, IsTxState}
use Rattle.flow_txs.specs.Finding.{if_free, said_freely, free_output}

-- what was found and taken, was found
pub taken_of : {A B : Type 0} (take : A → Option B) (o : Option A) (b : B) → option_and_then take o ≡ Some b → (a : A) × ((o ≡ Some a) × (take a ≡ Some b))
taken_of take None b e = absurd cc
taken_of take (Some a) b e = (a, (refl, e))

free_says : (encumbrance : Option ℕ) (said body : StateData) → if_free encumbrance said ≡ Some body → said ≡ body
free_says None said body e = cc
free_says (Some place) said body e = absurd cc

-- what a state without an encumbrance says
pub freely_says : (s : TxState) (body : StateData) → said_freely s ≡ Some body → s.body ≡ body
freely_says s body e = free_says s.encumbrance s.body body e

pub free_within : (outputs : List TxState) (index : ℕ) (body : StateData) → AllByRecursion IsTxState outputs → free_output outputs index ≡ Some body → IsStateData body
free_within outputs index body all e =
    let s = taken_of said_freely (slice_get outputs index) body e in
    subst IsStateData (freely_says s.0 body s.1.1) (all_get IsTxState outputs index s.0 all s.1.0).0
