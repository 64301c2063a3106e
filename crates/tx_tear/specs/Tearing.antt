-- The tear-off of a transaction.
use Rattle.std.specs.Prelude.{ℕ, ◌+◌, ◌==◌, ◌||◌, Bool, List, [], ◌∷◌, if◌then◌else◌}
use Rattle.component_merkle.specs.Merkle.{nonce_of}
use Rattle.ledger_types.specs.declared.tx.Tx.{Tx}
use Rattle.ledger_types.specs.declared.torn.TornPart.{TornPart}
use Rattle.ledger_types.specs.declared.torn.TornGroup.{TornGroup}
use Rattle.ledger_types.specs.declared.torn.TornGroup.TheVariants.{Hidden, Shown}
use Rattle.ledger_types.specs.declared.torn.TornTx.{TornTx}
use Rattle.ledger_types.specs.declared.torn.Visible.{Visible}
use Rattle.ledger_types.specs.Ids.{groups, present, value_of}
use Rattle.ledger_types.specs.Signatures.{tx_id}

-- a component of a group, with its nonce
abbrev pub part_of : List ℕ → ℕ → ℕ → List ℕ → TornPart
part_of salt group place bytes = record { nonce = record { 0 = nonce_of salt group place }; bytes = bytes }

-- the components of a group with their nonces, from a place on
abbrev pub parts_from : List ℕ → ℕ → ℕ → List (List ℕ) → List TornPart
parts_from salt group place [] = []
parts_from salt group place (bytes ∷ more) = part_of salt group place bytes ∷ parts_from salt group (place + 1) more

-- a group whose components are all shown
abbrev pub shown_group : List ℕ → ℕ → List (List ℕ) → TornGroup
shown_group salt group components = Shown (parts_from salt group 0 components)

-- a group of which the value alone is told
abbrev pub hidden_group : List ℕ → ℕ → List (List ℕ) → TornGroup
hidden_group salt group components = Hidden (record { 0 = value_of salt group components })

-- whether the group of this ordinal is shown: the inputs, the notary, the time window, the references
abbrev pub is_shown : ℕ → Bool
is_shown group = (group == 0) || ((group == 4) || ((group == 5) || (group == 7)))

-- a group of a tear-off
abbrev pub torn_group : List ℕ → ℕ → List (List ℕ) → TornGroup
torn_group salt group components = if is_shown group then shown_group salt group components else hidden_group salt group components

-- the groups of a tear-off, from an ordinal on
abbrev pub torn_from : List ℕ → ℕ → List (List (List ℕ)) → List TornGroup
torn_from salt group [] = []
torn_from salt group (components ∷ more) = torn_group salt group components ∷ torn_from salt (group + 1) more

-- the tear-off: the transaction's id, and its groups up to the last that has a component
unfoldable pub tear_of : Tx → TornTx
tear_of tx = record { id = tx_id tx; groups = torn_from tx.salt.0 0 (present (groups tx)) }

-- what a notary is to see of a transaction
abbrev pub seen_of : Tx → Visible
seen_of tx = record { id = tx_id tx; inputs = tx.inputs; references = tx.references; notary = tx.notary; window = tx.window }
