-- The limits of what the transactions of these flows are made of.
use Rattle.std.specs.Prelude.{ℕ, List, [], ◌∷◌, map, Bool, true, false, if◌then◌else◌}
use Rattle.std.specs.List.{AllByRecursion}
use Rattle.std.proofs.Common.{arith}
use Rattle.net_base.specs.declared.names.Token.{Token}
use Rattle.net_base.specs.Forms.{ListWithin}
use Rattle.net_base.specs.Names.{IsStateRef, IsToken}
use Rattle.ledger_types.specs.declared.held.Held.{Held}
use Rattle.ledger_types.specs.States.{IsTxState}
use Rattle.ledger_types.specs.Vaults.{IsHeld}
use Rattle.flow_machine.specs.declared.acts.Place.{Place}
use Rattle.flow_machine.specs.Limits.{IsPlace}
use Rattle.cash_flows.specs.Making.{cash, left_of}

-- the references of coins
pub references_are : (coins : List Held) → AllByRecursion IsHeld coins → AllByRecursion IsStateRef (map (λ h. h.reference) coins)
references_are [] all = tt
references_are (h ∷ hs) all = (all.0.0, references_are hs all.1)

-- the rest
pub rest_is : (here : Place) (t : Token) (amount sum : ℕ) (test : Bool) → IsToken t → IsPlace here → ListWithin 1 IsTxState (if test then cash here t (left_of sum amount) here.me ∷ [] else [])
rest_is here t amount sum true token place = (omega arith, (((token, (omega arith, place.me)), (place.notary, tt)), tt))
rest_is here t amount sum false token place = (omega arith, tt)
