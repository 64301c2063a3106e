-- What a tear-off of a transaction shows.
use Rattle.std.specs.Prelude.{ℕ, List, [], ◌∷◌, Option, Some, None, Result, Ok, Err, map, option_map, option_and_then, slice_get, bytes_eq, if◌then◌else◌}
use Rattle.net_base.specs.declared.values.Party.{Party}
use Rattle.net_base.specs.declared.names.StateRef.{StateRef}
use Rattle.net_base.specs.Values.{party_at}
use Rattle.net_base.specs.Names.{state_ref_at}
use Rattle.component_merkle.specs.Merkle.{leaf_of, root_of, group_of}
use Rattle.ledger_types.specs.declared.tx.Window.{Window}
use Rattle.ledger_types.specs.declared.torn.TornPart.{TornPart}
use Rattle.ledger_types.specs.declared.torn.TornGroup.{TornGroup}
use Rattle.ledger_types.specs.declared.torn.TornGroup.TheVariants.{Hidden, Shown}
use Rattle.ledger_types.specs.declared.torn.TornTx.{TornTx}
use Rattle.ledger_types.specs.declared.torn.Visible.{Visible}
use Rattle.ledger_types.specs.Txs.{window_at}

-- the value of a group: what a hidden one gives, or that of the leaves that are shown
abbrev pub group_value : TornGroup → List ℕ
group_value (Hidden root) = root.0
group_value (Shown parts) = group_of (map (λ p. leaf_of p.nonce.0 p.bytes) parts)

-- the id that the groups give
abbrev pub torn_root : TornTx → List ℕ
torn_root torn = root_of (map group_value torn.groups)

-- the parts that a group shows; a group that isn't there shows none
abbrev pub parts_of : Option TornGroup → Option (List TornPart)
parts_of None = Some []
parts_of (Some (Hidden root)) = None
parts_of (Some (Shown parts)) = Some parts

-- the parts of the group of this ordinal, unless it is hidden
abbrev pub parts_at : TornTx → ℕ → Option (List TornPart)
parts_at torn k = parts_of (slice_get torn.groups k)

-- the value of a spelling that ends with the bytes
abbrev pub whole : {V : Type 0} → Result (V × List ℕ) ℕ → Option V
whole (Ok (v, [])) = Some v
whole (Ok (v, b ∷ bytes)) = None
whole (Err left) = None

-- a value put before others, where there are both
abbrev pub joined : {V : Type 0} → Option V → Option (List V) → Option (List V)
joined None rest = None
joined (Some v) rest = option_map (λ vs. v ∷ vs) rest

-- what the parts spell, each whole, where all do
abbrev pub spelt_by : {V : Type 0} → (List ℕ → Result (V × List ℕ) ℕ) → List TornPart → Option (List V)
spelt_by reading [] = Some []
spelt_by reading (p ∷ parts) = joined (whole (reading p.bytes)) (spelt_by reading parts)

-- the one value or none, where there aren't more
abbrev pub at_most_one : {V : Type 0} → List V → Option (Option V)
at_most_one [] = Some None
at_most_one (v ∷ []) = Some (Some v)
at_most_one (v ∷ w ∷ vs) = None

-- the references that the group of this ordinal shows, 0 for inputs and 7 for references
abbrev pub shown_refs : TornTx → ℕ → Option (List StateRef)
shown_refs torn k = option_and_then (spelt_by state_ref_at) (parts_at torn k)

-- the notary that group 4 shows
abbrev pub shown_notary : TornTx → Option (Option Party)
shown_notary torn = option_and_then at_most_one (option_and_then (spelt_by party_at) (parts_at torn 4))

-- the time window that group 5 shows
abbrev pub shown_window : TornTx → Option (Option Window)
shown_window torn = option_and_then at_most_one (option_and_then (spelt_by window_at) (parts_at torn 5))

-- what the groups for inputs, notary, window and references show, where each is shown and spelt
abbrev pub shown_by : TornTx → Option Visible
shown_by torn =
    option_and_then (λ inputs.
    option_and_then (λ notary.
    option_and_then (λ window.
    option_map (λ references. record { id = torn.id; inputs = inputs; references = references; notary = notary; window = window })
    (shown_refs torn 7)) (shown_window torn)) (shown_notary torn)) (shown_refs torn 0)

-- what a tear-off shows; nothing where its groups don't give its id, or one of these four groups is hidden, is misspelt or has too many parts
unfoldable pub visible_of : TornTx → Option Visible
visible_of torn = if bytes_eq (torn_root torn) torn.id.0 then shown_by torn else None
