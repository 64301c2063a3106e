-- The clauses of the contract of time locks. Each is a test of its own, true where the clause refuses.
use Rattle.std.specs.Prelude.{ℕ, not, Bool, true, false, List, [], ◌∷◌, Option, Some, None, nat_lt}
use Rattle.std.specs.List.{list_any}
use Rattle.net_base.specs.declared.values.Moment.{Moment}
use Rattle.ledger_types.specs.declared.state.StateData.{StateData}
use Rattle.ledger_types.specs.declared.state.StateData.TheVariants.{TimeLock}
use Rattle.ledger_types.specs.declared.tx.Window.{Window}
use Rattle.ledger_types.specs.declared.tx.Tx.{Tx}
use Rattle.ledger_types.specs.declared.tx.Resolved.{Resolved}
use Rattle.ledger_types.specs.Rules.{first_true}
use Rattle.small_contracts.specs.Signing.{signs, is_lock_make, is_lock_open}

-- the start of a time window, if there is one
abbrev pub start_of : Option Window → Option Moment
start_of None = None
start_of (Some window) = window.from

-- whether a lock's end is later than the start, or there is no start
abbrev pub is_later : Option Moment → Moment → Bool
is_later None until = true
is_later (Some start) until = nat_lt start.0 until.0

-- whether a state is a lock that is still closed at the start of the window
abbrev pub is_closed : Tx → StateData → Bool
is_closed tx (TimeLock owner until) = is_later (start_of tx.window) until
is_closed tx _ = false

-- clause 1: an input lock's end is later than the window's start, or there is no start
abbrev pub opens_early : Tx → Resolved → Bool
opens_early tx resolved = list_any (λ s. is_closed tx s.body) resolved.inputs

-- whether a state is a lock whose owner signs no LockOpen
abbrev pub is_forced : Tx → StateData → Bool
is_forced tx (TimeLock owner until) = not (signs is_lock_open tx owner)
is_forced tx _ = false

-- clause 2: an input lock's owner signs no LockOpen
abbrev pub forces_lock : Tx → Resolved → Bool
forces_lock tx resolved = list_any (λ s. is_forced tx s.body) resolved.inputs

-- whether a state is a lock whose owner signs no LockMake
abbrev pub is_imposed : Tx → StateData → Bool
is_imposed tx (TimeLock owner until) = not (signs is_lock_make tx owner)
is_imposed tx _ = false

-- clause 3: an output lock's owner signs no LockMake
abbrev pub imposes_lock : Tx → Bool
imposes_lock tx = list_any (λ s. is_imposed tx s.body) tx.outputs

-- the clauses with their numbers, in order
abbrev pub lock_clauses : Tx → Resolved → List (ℕ × Bool)
lock_clauses tx resolved = (1, opens_early tx resolved) ∷ (2, forces_lock tx resolved) ∷ (3, imposes_lock tx) ∷ []

-- the first clause that refuses, if one does
unfoldable pub locks_say : Tx → Resolved → Option ℕ
locks_say tx resolved = first_true (lock_clauses tx resolved)
