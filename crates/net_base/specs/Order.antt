-- The order of causes.
use Rattle.std.specs.Prelude.{ℕ, Bool, nat_lt, ◌==◌, if◌then◌else◌}

-- by stamp, and at the same stamp by node
abbrev pub is_before : ℕ → ℕ → ℕ → ℕ → Bool
is_before stamp node stamp' node' = if stamp == stamp' then nat_lt node node' else nat_lt stamp stamp'
