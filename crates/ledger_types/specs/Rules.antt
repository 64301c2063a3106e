-- The structural rules of transactions. Each is a test of its own, true where the rule is broken.
use Rattle.std.specs.Prelude.{ℕ, ◌==◌, ◌&&◌, ◌||◌, not, Bool, true, false, List, [], ◌∷◌, ◌++◌, Option, Some, None, length, map, filter_map, find, zip, replicate, nat_le, is_none, is_some, option_map, bytes_eq}
use Rattle.std.specs.List.{list_any, list_all, enumerate_from}
use Rattle.net_base.specs.declared.values.Party.{Party}
use Rattle.net_base.specs.declared.names.StateRef.{StateRef}
use Rattle.net_base.specs.Parties.{members}
use Rattle.ledger_types.specs.declared.state.TxState.{TxState}
use Rattle.ledger_types.specs.declared.tx.Window.{Window}
use Rattle.ledger_types.specs.declared.tx.Tx.{Tx}
use Rattle.ledger_types.specs.declared.tx.Resolved.{Resolved}
use Rattle.ledger_types.specs.Names.{ref_eq, has_ref, has_number, has_repeat, is_party}

-- whether a list has no item
abbrev pub is_empty : {A : Type 0} → List A → Bool
is_empty [] = true
is_empty (x ∷ xs) = false

-- whether a transaction has an input, a reference or a time window, so that a notary has to sign it
abbrev pub asks_notary : Tx → Bool
asks_notary tx = not (is_empty tx.inputs) || (not (is_empty tx.references) || is_some tx.window)

-- rule 1: the salt is 32 zero bytes
abbrev pub has_zero_salt : Tx → Bool
has_zero_salt tx = bytes_eq tx.salt.0 (replicate 32 0)

-- rule 2: there is neither an input nor an output
abbrev pub has_no_state : Tx → Bool
has_no_state tx = is_empty tx.inputs && is_empty tx.outputs

-- rule 3: there is no command
abbrev pub has_no_command : Tx → Bool
has_no_command tx = is_empty tx.commands

-- rule 4: a command has no signer
abbrev pub has_unsigned_command : Tx → Bool
has_unsigned_command tx = list_any (λ c. is_empty (members c.signers)) tx.commands

-- rule 5: two inputs are equal
abbrev pub repeats_input : Tx → Bool
repeats_input tx = has_repeat ref_eq tx.inputs

-- rule 6: two references are equal
abbrev pub repeats_reference : Tx → Bool
repeats_reference tx = has_repeat ref_eq tx.references

-- rule 7: one state reference is input and reference
abbrev pub refers_to_input : Tx → Bool
refers_to_input tx = list_any (λ r. has_ref r tx.references) tx.inputs

-- rule 8: there is an input, a reference or a window, and no notary
abbrev pub lacks_notary : Tx → Bool
lacks_notary tx = asks_notary tx && is_none tx.notary

-- whether a notary is named, and another one than this
abbrev pub is_other_notary : Option Party → Party → Bool
is_other_notary None notary = false
is_other_notary (Some named) notary = not (named.0 == notary.0)

-- rule 9: there is a notary, and an output names another
abbrev pub has_foreign_output : Tx → Bool
has_foreign_output tx = list_any (λ s. is_other_notary tx.notary s.notary) tx.outputs

-- whether a window has neither a start nor an end
abbrev pub is_endless : Option Window → Bool
is_endless None = false
is_endless (Some window) = is_none window.from && is_none window.until

-- rule 10: there is a window without either end
abbrev pub has_endless_window : Tx → Bool
has_endless_window tx = is_endless tx.window

-- rule 11: the state of an input or reference has another notary than the transaction
abbrev pub has_foreign_state : Tx → Resolved → Bool
has_foreign_state tx resolved = list_any (λ s. not (is_party s.notary tx.notary)) (resolved.inputs ++ resolved.references)

-- the pair (i, j) of an output at place i that names the output at place j as its encumbrance
abbrev pub encumbrance_at : ℕ × TxState → Option (ℕ × ℕ)
encumbrance_at p = option_map (λ j. (p.0, j)) p.1.encumbrance

-- the pairs (i, j) where output i names output j as its encumbrance
abbrev pub encumbrances : List TxState → List (ℕ × ℕ)
encumbrances outputs = filter_map encumbrance_at (enumerate_from 0 outputs)

-- the places of the outputs that are encumbered
abbrev pub encumbered : List TxState → List ℕ
encumbered outputs = map (λ p. p.0) (encumbrances outputs)

-- the places of the outputs that encumber another
abbrev pub encumbering : List TxState → List ℕ
encumbering outputs = map (λ p. p.1) (encumbrances outputs)

-- whether two lists have the same numbers, as sets
abbrev pub same_numbers : List ℕ → List ℕ → Bool
same_numbers a b = list_all (λ n. has_number n b) a && list_all (λ n. has_number n a) b

-- rule 12: an output's encumbrance is at least the number of outputs
abbrev pub has_encumbrance_out_of_range : Tx → Bool
has_encumbrance_out_of_range tx = list_any (λ p. nat_le (length tx.outputs) p.1) (encumbrances tx.outputs)

-- rule 13: an output encumbers itself
abbrev pub has_self_encumbrance : Tx → Bool
has_self_encumbrance tx = list_any (λ p. p.0 == p.1) (encumbrances tx.outputs)

-- whether another output names the same encumbrance
abbrev pub shares_encumbrance : List TxState → ℕ × ℕ → Bool
shares_encumbrance outputs p = list_any (λ q. not (q.0 == p.0) && (q.1 == p.1)) (encumbrances outputs)

-- rule 14: two outputs name the same encumbrance
abbrev pub has_shared_encumbrance : Tx → Bool
has_shared_encumbrance tx = list_any (λ p. shares_encumbrance tx.outputs p) (encumbrances tx.outputs)

-- rule 15: the set of encumbered outputs differs from the set of encumbering ones
abbrev pub has_open_encumbrance : Tx → Bool
has_open_encumbrance tx = not (same_numbers (encumbered tx.outputs) (encumbering tx.outputs))

-- whether an input's state names an encumbrance, and that output of the same transaction is none of the inputs
abbrev pub lacks_encumbrance : List StateRef → StateRef → Option ℕ → Bool
lacks_encumbrance inputs input None = false
lacks_encumbrance inputs input (Some j) = not (has_ref (record { id = input.id; index = j }) inputs)

-- rule 16: the state of an input names an encumbrance, and that output of the same transaction isn't an input
abbrev pub leaves_encumbrance : Tx → Resolved → Bool
leaves_encumbrance tx resolved = list_any (λ p. lacks_encumbrance tx.inputs p.0 p.1.encumbrance) (zip tx.inputs resolved.inputs)

-- the rules with their numbers, in order; each is true where it is broken
abbrev pub rules : Tx → Resolved → List (ℕ × Bool)
rules tx resolved =
    (1, has_zero_salt tx)
    ∷ (2, has_no_state tx)
    ∷ (3, has_no_command tx)
    ∷ (4, has_unsigned_command tx)
    ∷ (5, repeats_input tx)
    ∷ (6, repeats_reference tx)
    ∷ (7, refers_to_input tx)
    ∷ (8, lacks_notary tx)
    ∷ (9, has_foreign_output tx)
    ∷ (10, has_endless_window tx)
    ∷ (11, has_foreign_state tx resolved)
    ∷ (12, has_encumbrance_out_of_range tx)
    ∷ (13, has_self_encumbrance tx)
    ∷ (14, has_shared_encumbrance tx)
    ∷ (15, has_open_encumbrance tx)
    ∷ (16, leaves_encumbrance tx resolved)
    ∷ []

-- the number of the first outcome that is true
abbrev pub first_true : List (ℕ × Bool) → Option ℕ
first_true outcomes = option_map (λ p. p.0) (find (λ p. p.1) outcomes)

-- the number of the first rule that is broken
unfoldable pub first_broken : Tx → Resolved → Option ℕ
first_broken tx resolved = first_true (rules tx resolved)
