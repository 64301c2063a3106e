use Rattle.std.proofs.Common.{◌||◌, filter, drop, ◌+◌, Option, unwrap_or, ap, sym, ◌∙◌}
use Rattle.ledger_types.specs.declared.verdict.Verdict.{Verdict}
use Rattle.ledger_types.specs.Verdicts.{governs, told_by, judged_by}
use Rattle.contract_verify.proofs.Skips.{judged_at}
use Rattle.contract_verify.proofs.judging.judge.Goals as goal

pub returns-in-Some : goal.returns-in-Some
returns-in-Some g c =
    sym (sym c.loop-id.invariant
    ∙ judged_at (λ id. told_by g.C.LedgerContract.number g.C.LedgerContract.says c.args.contracts.now id c.args.tx.now c.args.resolved.now) (λ id. governs c.args.resolved.now.inputs id || governs c.args.tx.now.outputs id) c.args.ids.now c.loop-id.id-index 0 c.loop-id-test.true
    ∙ ap (λ (o : Option Verdict). unwrap_or o (judged_by (λ id. told_by g.C.LedgerContract.number g.C.LedgerContract.says c.args.contracts.now id c.args.tx.now c.args.resolved.now) (filter (λ id. governs c.args.resolved.now.inputs id || governs c.args.tx.now.outputs id) (drop (c.loop-id.id-index + 1) c.args.ids.now)))) (sym c.refusal.ensures ∙ c.in-Some.is))
