-- How one contract's answer ends a verdict.
use Rattle.std.specs.Prelude.{ℕ, Bool, true, false, Option, Some, None}
use Rattle.ledger_types.specs.declared.verdict.Verdict.{Verdict}
use Rattle.ledger_types.specs.declared.verdict.Verdict.TheVariants as verdict

-- the verdict that a contract's answer ends with, if the contract governs a state and doesn't accept
abbrev pub refusal_of : Bool → ℕ → Option (Option ℕ) → Option Verdict
refusal_of false id answer = None
refusal_of true id None = Some (verdict.NoContract id)
refusal_of true id (Some None) = None
refusal_of true id (Some (Some clause)) = Some (verdict.Refused id clause)
