-- Whether a record tells of a flow, and whether it leaves the ledger as it is.
use Rattle.std.specs.Prelude.{◌==◌, ◌&&◌, Bool, true, false, is_none, length}
use Rattle.net_model.specs.State.{FlowPart, no_flow, now_live, now_ended, now_failed, Change}

-- whether there is a flow
abbrev pub is_flow : {F : Type 0} → FlowPart F → Bool
is_flow no_flow = false
is_flow (now_live checkpoint) = true
is_flow (now_ended flow step class value) = true
is_flow (now_failed flow step class code) = true

-- whether nothing was recorded, locked or booked
abbrev pub leaves_ledger : Change → Bool
leaves_ledger c = is_none c.recorded && (length c.locked == 0 && is_none c.booked)
