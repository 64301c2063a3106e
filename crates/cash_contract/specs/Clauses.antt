-- The clauses of the Cash contract. Each is a test of its own, true where the clause refuses.
use Rattle.std.specs.Prelude.{ℕ, ◌+◌, ◌==◌, ◌&&◌, ◌||◌, not, Bool, true, false, List, [], ◌∷◌, ◌++◌, Option, Some, None, sum_by, filter_map, if◌then◌else◌}
use Rattle.std.specs.List.{list_any}
use Rattle.net_base.specs.declared.values.Party.{Party}
use Rattle.net_base.specs.declared.names.Token.{Token}
use Rattle.net_base.specs.declared.parties.PartySet.{PartySet}
use Rattle.net_base.specs.Parties.{has_party}
use Rattle.ledger_types.specs.declared.state.StateData.{StateData}
use Rattle.ledger_types.specs.declared.state.StateData.TheVariants.{Cash}
use Rattle.ledger_types.specs.declared.state.TxState.{TxState}
use Rattle.ledger_types.specs.declared.tx.Deed.{Deed}
use Rattle.ledger_types.specs.declared.tx.Deed.TheVariants.{CashIssue, CashMove, CashExit}
use Rattle.ledger_types.specs.declared.tx.Tx.{Tx}
use Rattle.ledger_types.specs.declared.tx.Resolved.{Resolved}
use Rattle.ledger_types.specs.Names.{token_eq}
use Rattle.ledger_types.specs.Rules.{first_true}

-- whether a state is Cash of amount 0
abbrev pub is_worthless : StateData → Bool
is_worthless (Cash token amount owner) = amount == 0
is_worthless _ = false

-- clause 1: an output Cash has amount 0
abbrev pub has_worthless_output : Tx → Bool
has_worthless_output tx = list_any (λ s. is_worthless s.body) tx.outputs

-- whether a deed issues or exits an amount of 0
abbrev pub is_void : Deed → Bool
is_void (CashIssue token amount) = amount == 0
is_void (CashExit token amount) = amount == 0
is_void _ = false

-- clause 2: a CashIssue or CashExit has amount 0
abbrev pub has_void_deed : Tx → Bool
has_void_deed tx = list_any (λ c. is_void c.deed) tx.commands

-- the amount of the token in a state
abbrev pub amount_in : Token → StateData → ℕ
amount_in token (Cash other amount owner) = if token_eq other token then amount else 0
amount_in token _ = 0

-- the value of the token in states
abbrev pub value_in : Token → List TxState → ℕ
value_in token states = sum_by (λ s. amount_in token s.body) states

-- the amount of the token that a deed issues
abbrev pub issued_by : Token → Deed → ℕ
issued_by token (CashIssue other amount) = if token_eq other token then amount else 0
issued_by token _ = 0

-- the amount of the token that a deed exits
abbrev pub exited_by : Token → Deed → ℕ
exited_by token (CashExit other amount) = if token_eq other token then amount else 0
exited_by token _ = 0

-- the value of the token that the commands issue
abbrev pub value_issued : Token → Tx → ℕ
value_issued token tx = sum_by (λ c. issued_by token c.deed) tx.commands

-- the value of the token that the commands exit
abbrev pub value_exited : Token → Tx → ℕ
value_exited token tx = sum_by (λ c. exited_by token c.deed) tx.commands

-- whether the token is conserved: what goes in and is issued is what goes out and is exited
abbrev pub is_conserved : Tx → Resolved → Token → Bool
is_conserved tx resolved token = value_in token resolved.inputs + value_issued token tx == value_in token tx.outputs + value_exited token tx

-- the token of a state
abbrev pub token_in : StateData → Option Token
token_in (Cash token amount owner) = Some token
token_in _ = None

-- the token that a deed issues or exits
abbrev pub token_of : Deed → Option Token
token_of (CashIssue token amount) = Some token
token_of (CashExit token amount) = Some token
token_of _ = None

-- the tokens of states
abbrev pub tokens_of_states : List TxState → List Token
tokens_of_states states = filter_map (λ s. token_in s.body) states

-- the tokens that the commands issue or exit
abbrev pub tokens_of_commands : Tx → List Token
tokens_of_commands tx = filter_map (λ c. token_of c.deed) tx.commands

-- every token that a transaction speaks of; of any other nothing goes in or out
abbrev pub tokens_in : Tx → Resolved → List Token
tokens_in tx resolved = (tokens_of_states resolved.inputs ++ tokens_of_states tx.outputs) ++ tokens_of_commands tx

-- clause 3: for some token, what goes in and is issued differs from what goes out and is exited
abbrev pub loses_value : Tx → Resolved → Bool
loses_value tx resolved = list_any (λ token. not (is_conserved tx resolved token)) (tokens_in tx resolved)

-- whether a deed with these signers issues a token without its issuer
abbrev pub is_unbacked : PartySet → Deed → Bool
is_unbacked signers (CashIssue token amount) = not (has_party signers token.issuer.0)
is_unbacked signers _ = false

-- clause 4: a CashIssue isn't signed by the token's issuer
abbrev pub has_unbacked_issue : Tx → Bool
has_unbacked_issue tx = list_any (λ c. is_unbacked c.signers c.deed) tx.commands

-- whether a state is Cash of the token whose owner is not among the signers
abbrev pub is_unsigned_cash : Token → PartySet → StateData → Bool
is_unsigned_cash token signers (Cash other amount owner) = token_eq other token && not (has_party signers owner.0)
is_unsigned_cash token signers _ = false

-- whether a deed with these signers exits a token without its issuer, or without an owner of an input of it
abbrev pub is_unsigned_exit : List TxState → PartySet → Deed → Bool
is_unsigned_exit inputs signers (CashExit token amount) = not (has_party signers token.issuer.0) || list_any (λ s. is_unsigned_cash token signers s.body) inputs
is_unsigned_exit inputs signers _ = false

-- clause 5: a CashExit isn't signed by the issuer and by every owner of an input of its token
abbrev pub has_unsigned_exit : Tx → Resolved → Bool
has_unsigned_exit tx resolved = list_any (λ c. is_unsigned_exit resolved.inputs c.signers c.deed) tx.commands

-- whether a deed lets its signers spend the token: a CashMove, or a CashExit of it
abbrev pub spends : Token → Deed → Bool
spends token CashMove = true
spends token (CashExit other amount) = token_eq other token
spends token _ = false

-- whether the party signs a CashMove or a CashExit of the token
abbrev pub signs_spending : Tx → Token → Party → Bool
signs_spending tx token owner = list_any (λ c. spends token c.deed && has_party c.signers owner.0) tx.commands

-- whether a state is Cash that its owner doesn't spend
abbrev pub is_taken : Tx → StateData → Bool
is_taken tx (Cash token amount owner) = not (signs_spending tx token owner)
is_taken tx _ = false

-- clause 6: an input's owner signs neither a CashMove nor a CashExit of its token
abbrev pub takes_cash : Tx → Resolved → Bool
takes_cash tx resolved = list_any (λ s. is_taken tx s.body) resolved.inputs

-- the clauses with their numbers, in order; each is true where it refuses
abbrev pub clauses : Tx → Resolved → List (ℕ × Bool)
clauses tx resolved =
    (1, has_worthless_output tx)
    ∷ (2, has_void_deed tx)
    ∷ (3, loses_value tx resolved)
    ∷ (4, has_unbacked_issue tx)
    ∷ (5, has_unsigned_exit tx resolved)
    ∷ (6, takes_cash tx resolved)
    ∷ []

-- the first clause that refuses, if one does
unfoldable pub cash_says : Tx → Resolved → Option ℕ
cash_says tx resolved = first_true (clauses tx resolved)
