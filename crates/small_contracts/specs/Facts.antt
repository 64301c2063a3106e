-- The clauses of the contract of facts. Each is a test of its own, true where the clause refuses.
use Rattle.std.specs.Prelude.{ℕ, ◌==◌, ◌&&◌, not, Bool, false, List, [], ◌∷◌, Option}
use Rattle.std.specs.List.{list_any, enumerate_from}
use Rattle.ledger_types.specs.declared.state.StateData.{StateData}
use Rattle.ledger_types.specs.declared.state.StateData.TheVariants.{Fact}
use Rattle.ledger_types.specs.declared.state.TxState.{TxState}
use Rattle.ledger_types.specs.declared.tx.Tx.{Tx}
use Rattle.ledger_types.specs.declared.tx.Resolved.{Resolved}
use Rattle.ledger_types.specs.Names.{party_eq}
use Rattle.ledger_types.specs.Rules.{first_true}
use Rattle.small_contracts.specs.Signing.{signs, is_fact_output, is_fact_change}

-- whether a state is a fact whose issuer signs neither FactIssue nor FactChange
abbrev pub is_unclaimed : Tx → StateData → Bool
is_unclaimed tx (Fact issuer name value) = not (signs is_fact_output tx issuer)
is_unclaimed tx _ = false

-- clause 1: an output's issuer signs neither FactIssue nor FactChange
abbrev pub has_unclaimed_fact : Tx → Bool
has_unclaimed_fact tx = list_any (λ s. is_unclaimed tx s.body) tx.outputs

-- whether a state is a fact whose issuer signs no FactChange
abbrev pub is_replaced : Tx → StateData → Bool
is_replaced tx (Fact issuer name value) = not (signs is_fact_change tx issuer)
is_replaced tx _ = false

-- clause 2: an input's issuer signs no FactChange
abbrev pub replaces_fact : Tx → Resolved → Bool
replaces_fact tx resolved = list_any (λ s. is_replaced tx s.body) resolved.inputs

-- whether two states are facts of one issuer and one name
abbrev pub same_fact : StateData → StateData → Bool
same_fact (Fact issuer name value) (Fact other_issuer other_name other_value) = party_eq issuer other_issuer && (name == other_name)
same_fact _ _ = false

-- whether another output is a fact of the same issuer and name
abbrev pub is_told_twice : List TxState → ℕ × TxState → Bool
is_told_twice outputs p = list_any (λ q. not (q.0 == p.0) && same_fact q.1.body p.1.body) (enumerate_from 0 outputs)

-- clause 3: two outputs have the same issuer and name
abbrev pub tells_twice : Tx → Bool
tells_twice tx = list_any (λ p. is_told_twice tx.outputs p) (enumerate_from 0 tx.outputs)

-- the clauses with their numbers, in order
abbrev pub fact_clauses : Tx → Resolved → List (ℕ × Bool)
fact_clauses tx resolved = (1, has_unclaimed_fact tx) ∷ (2, replaces_fact tx resolved) ∷ (3, tells_twice tx) ∷ []

-- the first clause that refuses, if one does
unfoldable pub facts_say : Tx → Resolved → Option ℕ
facts_say tx resolved = first_true (fact_clauses tx resolved)
