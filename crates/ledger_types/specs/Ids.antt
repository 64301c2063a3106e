-- The id of a transaction.
use Rattle.std.specs.Prelude.{ℕ, ◌+◌, List, [], ◌∷◌, map, option_to_list}
use Rattle.component_merkle.specs.Merkle.{nonce_of, leaf_of, root_of, group_of}
use Rattle.net_base.specs.Values.{hash, party}
use Rattle.net_base.specs.Names.{state_ref}
use Rattle.net_base.specs.Parties.{party_set}
use Rattle.ledger_types.specs.States.{tx_state}
use Rattle.ledger_types.specs.Txs.{deed, window}
use Rattle.ledger_types.specs.declared.tx.Tx.{Tx}

-- the component bytes of the groups, by ordinal: inputs, outputs, deeds, attachments, notary, window, signers, references
abbrev pub groups : Tx → List (List (List ℕ))
groups t =
    map state_ref t.inputs
    ∷ map tx_state t.outputs
    ∷ map (λ c. deed c.deed) t.commands
    ∷ map hash t.attachments
    ∷ map party (option_to_list t.notary)
    ∷ map window (option_to_list t.window)
    ∷ map (λ c. party_set c.signers) t.commands
    ∷ map state_ref t.references
    ∷ []

-- the leaves of components, from a place on
abbrev pub leaves_from : List ℕ → ℕ → ℕ → List (List ℕ) → List (List ℕ)
leaves_from salt group place [] = []
leaves_from salt group place (bytes ∷ more) = leaf_of (nonce_of salt group place) bytes ∷ leaves_from salt group (place + 1) more

-- the value of a group by its components' bytes
unfoldable pub value_of : List ℕ → ℕ → List (List ℕ) → List ℕ
value_of salt group components = group_of (leaves_from salt group 0 components)

-- the values of groups, from an ordinal on
abbrev pub values_from : List ℕ → ℕ → List (List (List ℕ)) → List (List ℕ)
values_from salt group [] = []
values_from salt group (components ∷ more) = value_of salt group components ∷ values_from salt (group + 1) more

-- a group that is empty and has none behind it that is kept is left out
abbrev pub kept : List (List ℕ) → List (List (List ℕ)) → List (List (List ℕ))
kept components (next ∷ more) = components ∷ next ∷ more
kept (c ∷ components) [] = (c ∷ components) ∷ []
kept [] [] = []

-- the groups up to the last that has a component
abbrev pub present : List (List (List ℕ)) → List (List (List ℕ))
present [] = []
present (components ∷ more) = kept components (present more)

-- the id: the root over the values of the groups up to the last that has a component
unfoldable pub id_of : Tx → List ℕ
id_of t = root_of (values_from t.salt.0 0 (present (groups t)))
