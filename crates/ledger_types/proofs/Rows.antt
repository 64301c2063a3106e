-- Worked examples of the definitions.
use Rattle.std.specs.Prelude.{◌≡◌, refl, ℕ, true, false, List, [], ◌∷◌, Option, Some, None, replicate, ◌==◌, if◌then◌else◌}
use Rattle.net_base.specs.declared.values.Hash32.{Hash32}
use Rattle.net_base.specs.declared.values.Moment.{Moment}
use Rattle.net_base.specs.declared.names.Token.{Token}
use Rattle.net_base.specs.Parties.{members}
use Rattle.ledger_types.specs.declared.state.StateData.TheVariants as state
use Rattle.ledger_types.specs.declared.state.TxState.{TxState}
use Rattle.ledger_types.specs.declared.tx.Command.{Command}
use Rattle.ledger_types.specs.declared.tx.Deed.{Deed}
use Rattle.ledger_types.specs.declared.tx.Deed.TheVariants as deed
use Rattle.ledger_types.specs.declared.tx.Window.{Window}
use Rattle.ledger_types.specs.declared.tx.Tx.{Tx}
use Rattle.ledger_types.specs.declared.tx.Resolved.{Resolved}
use Rattle.ledger_types.specs.declared.verdict.Verdict.TheVariants as verdict
use Rattle.ledger_types.specs.Rules.{first_broken}
use Rattle.ledger_types.specs.Verdicts.{verdict_of}
use Rattle.ledger_types.specs.Windows.{window_holds}

abbrev hash_of : ℕ → Hash32
hash_of n = record { 0 = n ∷ replicate 31 0 }

abbrev usd : Token
usd = record { issuer = record { 0 = 1 }; code = 85 ∷ 83 ∷ 68 ∷ [] }

abbrev cash : Option ℕ → TxState
cash e = record { body = state.Cash usd 5 (record { 0 = 1 }); notary = record { 0 = 0 }; encumbrance = e }

abbrev fact : TxState
fact = record { body = state.Fact (record { 0 = 2 }) 7 5; notary = record { 0 = 0 }; encumbrance = None }

abbrev command : Deed → ℕ → Command
command d bits = record { deed = d; signers = record { 0 = bits } }

abbrev issue : List TxState → List Command → Tx
issue outputs commands = record { salt = hash_of 1; inputs = []; outputs = outputs; commands = commands; attachments = []; notary = Some (record { 0 = 0 }); window = None; references = [] }

abbrev nothing : Resolved
nothing = record { inputs = []; references = [] }

abbrev one : List Command
one = command (deed.CashIssue usd 5) 2 ∷ []

abbrev broken : List TxState → Option ℕ
broken outputs = first_broken (issue outputs one) nothing

accepted : broken (cash (Some 1) ∷ cash (Some 0) ∷ []) ≡ None
unfolding first_broken members
accepted = refl

out_of_range : broken (cash (Some 5) ∷ []) ≡ Some 12
unfolding first_broken members
out_of_range = refl

itself : broken (cash (Some 0) ∷ []) ≡ Some 13
unfolding first_broken members
itself = refl

shared : broken (cash (Some 2) ∷ cash (Some 2) ∷ cash (Some 0) ∷ []) ≡ Some 14
unfolding first_broken members
shared = refl

open_one : broken (cash (Some 1) ∷ cash None ∷ []) ≡ Some 15
unfolding first_broken members
open_one = refl

abbrev spend : Tx
spend = record { salt = hash_of 1; inputs = record { id = hash_of 3; index = 0 } ∷ []; outputs = []; commands = one; attachments = []; notary = Some (record { 0 = 0 }); window = None; references = [] }

left_behind : first_broken spend (record { inputs = cash (Some 1) ∷ []; references = [] }) ≡ Some 16
unfolding first_broken members
left_behind = refl

abbrev window_of : ℕ → ℕ → Window
window_of a b = record { from = Some (record { 0 = a }); until = Some (record { 0 = b }) }

abbrev at : ℕ → Moment
at n = record { 0 = n }

never : window_holds (window_of 5 5) (at 5) ≡ false
never = refl

first_in : window_holds (window_of 5 9) (at 5) ≡ true
first_in = refl

last_in : window_holds (window_of 5 9) (at 8) ≡ true
last_in = refl

too_early : window_holds (window_of 5 9) (at 4) ≡ false
too_early = refl

too_late : window_holds (window_of 5 9) (at 9) ≡ false
too_late = refl

abbrev only_cash : ℕ → Tx → Resolved → Option (Option ℕ)
only_cash id tx resolved = if id == 1 then Some None else None

abbrev cash_refuses : ℕ → Tx → Resolved → Option (Option ℕ)
cash_refuses id tx resolved = Some (Some 4)

all_well : verdict_of only_cash (issue (cash None ∷ []) one) nothing ≡ verdict.Accepted
unfolding verdict_of first_broken members
all_well = refl

refused : verdict_of cash_refuses (issue (cash None ∷ []) one) nothing ≡ verdict.Refused 1 4
unfolding verdict_of first_broken members
refused = refl

unknown : verdict_of only_cash (issue (fact ∷ []) (command deed.FactIssue 4 ∷ [])) nothing ≡ verdict.NoContract 3
unfolding verdict_of first_broken members
unknown = refl

no_command : verdict_of only_cash (issue (cash None ∷ fact ∷ []) []) nothing ≡ verdict.Broken 3
unfolding verdict_of first_broken members
no_command = refl
