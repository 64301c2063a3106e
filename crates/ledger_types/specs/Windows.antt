-- Time windows.
use Rattle.std.specs.Prelude.{◌&&◌, Bool, true, Option, Some, None, nat_le, nat_lt}
use Rattle.net_base.specs.declared.values.Moment.{Moment}
use Rattle.ledger_types.specs.declared.tx.Window.{Window}

-- whether a start, if there is one, has come
abbrev pub has_begun : Option Moment → Moment → Bool
has_begun None now = true
has_begun (Some from) now = nat_le from.0 now.0

-- whether an end, if there is one, has not come yet
abbrev pub is_before_end : Option Moment → Moment → Bool
is_before_end None now = true
is_before_end (Some until) now = nat_lt now.0 until.0

-- whether a window holds the moment: from <= now < until, an absent end asking nothing
abbrev pub window_holds : Window → Moment → Bool
window_holds window now = has_begun window.from now && is_before_end window.until now
