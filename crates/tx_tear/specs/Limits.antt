-- The limits of what a tear-off shows.
use Rattle.std.specs.Prelude.{IfSome}
use Rattle.net_base.specs.Forms.{ListWithin}
use Rattle.net_base.specs.Values.{IsHash, IsParty}
use Rattle.net_base.specs.Names.{IsStateRef}
use Rattle.ledger_types.specs.declared.torn.Visible.{Visible}
use Rattle.ledger_types.specs.Txs.{IsWindow}

-- the limits of what a tear-off shows: as many inputs, and as many references, as one group may show, and each value within its own limits
abbrev pub IsVisible : Visible → Type 0
IsVisible v = IsHash v.id × (ListWithin 64 IsStateRef v.inputs × (ListWithin 64 IsStateRef v.references × (IfSome v.notary IsParty × IfSome v.window IsWindow)))
