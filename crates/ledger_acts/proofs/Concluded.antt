-- The result of a job that was run.
use Rattle.std.proofs.Common.{◌≡◌, ℕ, Bool, cond, List, [], ◌∷◌, Option, Some, None, refl, sym, ◌∙◌, ap}
use Rattle.net_base.specs.declared.names.Tag.{Tag}
use Rattle.ledger_types.specs.declared.tx.Tx.{Tx}
use Rattle.ledger_types.specs.declared.tx.SignedTx.{SignedTx}
use Rattle.ledger_types.specs.declared.verdict.Verdict.{Verdict}
use Rattle.ledger_types.specs.declared.verdict.Verdict.TheVariants as verdict
use Rattle.ledger_types.specs.Rules.{is_empty}
use Rattle.ledger_types.specs.Signatures.{missing_signers, is_signed}
use Rattle.tx_rules.proofs.Signed.{signed_is}
use Rattle.flow_machine.specs.declared.acts.Resumed.TheVariants as resumed
use Rattle.net_model.specs.Environment.{Environment}
use Rattle.net_model.specs.State.{nothing}
use Rattle.net_model.specs.Steps.{Done, goes_on, records_by}
use Rattle.ledger_acts.specs.Jobs.{refusal_of, recorded_by, concluded, judged, missing_in, ConcludesAsMeant, SettlesAsMeant}
use Rattle.ledger_acts.proofs.Judging.{job_is_the_act}

-- a transaction that was accepted is recorded where nobody is missing
accepted : {F : Type 0} (w : Environment F) (stx : SignedTx) (m : List ℕ) → is_signed w.mark stx ≡ is_empty m → recorded_by stx (refusal_of verdict.Accepted m) ≡ records_by w stx verdict.Accepted
accepted w stx [] e = sym (ap (λ (b : Bool). cond {A = Done} b (resumed.Recorded, record nothing { recorded = Some stx }) (resumed.Refused 34, nothing)) e)
accepted w stx (p ∷ ps) e = sym (ap (λ (b : Bool). cond {A = Done} b (resumed.Recorded, record nothing { recorded = Some stx }) (resumed.Refused 34, nothing)) e)

meant : {F : Type 0} (w : Environment F) (tx : Tx) (tags : Option (List Tag)) (v : Verdict) → concluded tx tags v (missing_in w.mark tx tags) ≡ judged w tx tags v
meant w tx None v = refl
meant w tx (Some tags) verdict.Accepted = let stx : SignedTx = record { tx = tx; tags = tags } in accepted w stx (missing_signers w.mark stx) (signed_is w.mark stx)
meant w tx (Some tags) (verdict.Broken rule) = refl
meant w tx (Some tags) (verdict.Refused contract clause) = refl
meant w tx (Some tags) (verdict.NoContract id) = refl

pub concludes_as_meant : {F : Type 0} → ConcludesAsMeant F
concludes_as_meant w d r =
    ap (λ (m : List ℕ). concluded d.job.tx d.job.tags d.verdict m) r.missing
    ∙ meant w d.job.tx d.job.tags d.verdict
    ∙ ap (λ (v : Verdict). judged w d.job.tx d.job.tags v) r.verdict

pub settles_as_meant : {F : Type 0} → SettlesAsMeant F
settles_as_meant w me s now at d run is = job_is_the_act w me s now at d.job is ∙ ap (λ (x : Done). Some (goes_on w me now at x)) (sym (concludes_as_meant w d run))
