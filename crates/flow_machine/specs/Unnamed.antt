-- The code by which a flow fails on a result that its place doesn't name.
use Rattle.std.specs.Prelude.{ℕ, ◌<◌, ◌^◌}
use Rattle.std.proofs.Common.{arith}
use Rattle.ledger_types.specs.declared.verdict.Verdict.{Verdict}
use Rattle.ledger_types.specs.declared.verdict.Verdict.TheVariants as verdict
use Rattle.flow_machine.specs.declared.acts.Resumed.{Resumed}
use Rattle.flow_machine.specs.declared.acts.Resumed.TheVariants as resumed
use Rattle.flow_machine.specs.Limits.{IsResumed}

-- 31 to 33 of a verdict that isn't Accepted
abbrev pub verdict_code : Verdict → ℕ
verdict_code verdict.Accepted = 54
verdict_code (verdict.Broken rule) = 31
verdict_code (verdict.Refused contract clause) = 32
verdict_code (verdict.NoContract id) = 33

-- 50 to 52 of a session that went wrong, the reason of a refusal, and 54 of what isn't expected
abbrev pub unnamed_code : Resumed → ℕ
unnamed_code (resumed.Rejected code) = 50
unnamed_code resumed.Ended = 51
unnamed_code (resumed.Failed code) = 52
unnamed_code (resumed.Refused code) = code
unnamed_code (resumed.Verdict given) = verdict_code given
unnamed_code other = 54

verdict_small : (v : Verdict) → verdict_code v < 2 ^ 16
verdict_small verdict.Accepted = omega arith
verdict_small (verdict.Broken rule) = omega arith
verdict_small (verdict.Refused contract clause) = omega arith
verdict_small (verdict.NoContract id) = omega arith

-- a code by which a frame fails has 16 bits
pub code_small : (with : Resumed) → IsResumed with → unnamed_code with < 2 ^ 16
code_small (resumed.Refused code) h = h
code_small (resumed.Verdict v) h = verdict_small v
code_small other h = omega arith
