use Rattle.std.proofs.Common.{◌≡◌, drop, filter, ◌||◌}
use Rattle.ledger_types.specs.Verdicts.{governs, told_by, judged_by}
use Rattle.contract_verify.proofs.judging.judge.Given as goal

-- what the contracts say that are left is what all of them say
abbrev pub invariant-loop-id : goal.invariant-loop-id
invariant-loop-id g l =
    judged_by (λ id. told_by g.C.LedgerContract.number g.C.LedgerContract.says l.contracts id l.tx l.resolved)
    (filter (λ id. governs l.resolved.inputs id || governs l.tx.outputs id) (drop l.id-index l.ids)) ≡
    judged_by (λ id. told_by g.C.LedgerContract.number g.C.LedgerContract.says l.contracts id l.tx l.resolved)
    (filter (λ id. governs l.resolved.inputs id || governs l.tx.outputs id) l.ids)
