-- The clauses of the contract of Ious. Each is a test of its own, true where the clause refuses.
use Rattle.std.specs.Prelude.{ℕ, ◌==◌, ◌&&◌, ◌||◌, not, Bool, false, List, [], ◌∷◌, Option, sum_by, nat_lt, if◌then◌else◌}
use Rattle.std.specs.List.{list_any}
use Rattle.net_base.specs.declared.values.Party.{Party}
use Rattle.net_base.specs.declared.names.Token.{Token}
use Rattle.ledger_types.specs.declared.state.StateData.{StateData}
use Rattle.ledger_types.specs.declared.state.StateData.TheVariants.{Cash, Iou}
use Rattle.ledger_types.specs.declared.state.TxState.{TxState}
use Rattle.ledger_types.specs.declared.tx.Tx.{Tx}
use Rattle.ledger_types.specs.declared.tx.Resolved.{Resolved}
use Rattle.ledger_types.specs.Names.{party_eq, token_eq}
use Rattle.ledger_types.specs.Rules.{first_true}
use Rattle.small_contracts.specs.Signing.{signs, both_sign, is_iou_make, is_iou_settle}

-- whether a state is an Iou of amount 0, or of a lender to itself
abbrev pub is_senseless : StateData → Bool
is_senseless (Iou lender borrower token amount) = (amount == 0) || party_eq lender borrower
is_senseless _ = false

-- clause 1: an output has amount 0 or equal lender and borrower
abbrev pub has_senseless_iou : Tx → Bool
has_senseless_iou tx = list_any (λ s. is_senseless s.body) tx.outputs

-- whether a state is an Iou that no IouMake with both signers makes
abbrev pub is_disputed : Tx → StateData → Bool
is_disputed tx (Iou lender borrower token amount) = not (both_sign is_iou_make tx lender borrower)
is_disputed tx _ = false

-- clause 2: no IouMake is signed by both lender and borrower of an output
abbrev pub has_disputed_iou : Tx → Bool
has_disputed_iou tx = list_any (λ s. is_disputed tx s.body) tx.outputs

-- whether a state is an Iou whose lender signs no IouSettle
abbrev pub is_forgotten : Tx → StateData → Bool
is_forgotten tx (Iou lender borrower token amount) = not (signs is_iou_settle tx lender)
is_forgotten tx _ = false

-- clause 3: an input's lender signs no IouSettle
abbrev pub forgets_iou : Tx → Resolved → Bool
forgets_iou tx resolved = list_any (λ s. is_forgotten tx s.body) resolved.inputs

-- the Cash of the token that a state gives the party
abbrev pub paid_by : Party → Token → StateData → ℕ
paid_by party token (Cash other amount owner) = if party_eq owner party && token_eq other token then amount else 0
paid_by party token _ = 0

-- what a state says that the party is owed of the token
abbrev pub owed_by : Party → Token → StateData → ℕ
owed_by party token (Iou lender borrower other amount) = if party_eq lender party && token_eq other token then amount else 0
owed_by party token _ = 0

-- the Cash of the token that states give the party
abbrev pub paid_in : Party → Token → List TxState → ℕ
paid_in party token states = sum_by (λ s. paid_by party token s.body) states

-- what states say that the party is owed of the token
abbrev pub owed_in : Party → Token → List TxState → ℕ
owed_in party token states = sum_by (λ s. owed_by party token s.body) states

-- whether a state is an Iou whose lender gets less of its token than all its settled Ious of it say
abbrev pub is_unpaid : Tx → Resolved → StateData → Bool
is_unpaid tx resolved (Iou lender borrower token amount) = nat_lt (paid_in lender token tx.outputs) (owed_in lender token resolved.inputs)
is_unpaid tx resolved _ = false

-- clause 4: for some lender and token the output Cash of that lender is less than the input Ious' amounts
abbrev pub underpays : Tx → Resolved → Bool
underpays tx resolved = list_any (λ s. is_unpaid tx resolved s.body) resolved.inputs

-- the clauses with their numbers, in order
abbrev pub iou_clauses : Tx → Resolved → List (ℕ × Bool)
iou_clauses tx resolved = (1, has_senseless_iou tx) ∷ (2, has_disputed_iou tx) ∷ (3, forgets_iou tx resolved) ∷ (4, underpays tx resolved) ∷ []

-- the first clause that refuses, if one does
unfoldable pub ious_say : Tx → Resolved → Option ℕ
ious_say tx resolved = first_true (iou_clauses tx resolved)
