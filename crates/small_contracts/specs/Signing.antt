-- Who signs a command of a kind.
use Rattle.std.specs.Prelude.{◌&&◌, Bool, true, false}
use Rattle.std.specs.List.{list_any}
use Rattle.net_base.specs.declared.values.Party.{Party}
use Rattle.net_base.specs.Parties.{has_party}
use Rattle.ledger_types.specs.declared.tx.Deed.{Deed}
use Rattle.ledger_types.specs.declared.tx.Deed.TheVariants.{LockMake, LockOpen, FactIssue, FactChange, IouMake, IouSettle}
use Rattle.ledger_types.specs.declared.tx.Tx.{Tx}

-- whether the party is among the signers of a command whose deed passes the test
abbrev pub signs : (Deed → Bool) → Tx → Party → Bool
signs test tx party = list_any (λ c. test c.deed && has_party c.signers party.0) tx.commands

-- whether both parties are among the signers of one command whose deed passes the test
abbrev pub both_sign : (Deed → Bool) → Tx → Party → Party → Bool
both_sign test tx one other = list_any (λ c. test c.deed && (has_party c.signers one.0 && has_party c.signers other.0)) tx.commands

-- whether a deed makes a time lock
abbrev pub is_lock_make : Deed → Bool
is_lock_make LockMake = true
is_lock_make _ = false

-- whether a deed opens a time lock
abbrev pub is_lock_open : Deed → Bool
is_lock_open LockOpen = true
is_lock_open _ = false

-- whether a deed issues or changes a fact
abbrev pub is_fact_output : Deed → Bool
is_fact_output FactIssue = true
is_fact_output FactChange = true
is_fact_output _ = false

-- whether a deed changes a fact
abbrev pub is_fact_change : Deed → Bool
is_fact_change FactChange = true
is_fact_change _ = false

-- whether a deed makes an Iou
abbrev pub is_iou_make : Deed → Bool
is_iou_make IouMake = true
is_iou_make _ = false

-- whether a deed settles an Iou
abbrev pub is_iou_settle : Deed → Bool
is_iou_settle IouSettle = true
is_iou_settle _ = false
