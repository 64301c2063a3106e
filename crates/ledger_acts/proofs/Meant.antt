-- Acts on the ledger, as the machine performs them.
use Rattle.std.proofs.Common.{ℕ, cond, Some, refl, ap}
use Rattle.std.specs.Bool.{◌==◌}
use Rattle.net_base.specs.declared.values.Hash32.{Hash32}
use Rattle.net_base.specs.declared.values.Party.{Party}
use Rattle.ledger_types.specs.declared.notary.Request.{Request}
use Rattle.ledger_types.specs.Notary.{reply, tag_by}
use Rattle.flow_machine.specs.declared.acts.Resumed.TheVariants as resumed
use Rattle.net_model.specs.Environment.{Environment, party, identity}
use Rattle.net_model.specs.State.{NodeState, nothing}
use Rattle.net_model.specs.Steps.{Done, goes_on, booked_by}
use Rattle.ledger_acts.specs.Acts.{ActsAsMeant}

-- what is signed by a mark
abbrev signs_by : Party → ℕ → Hash32 → (Party → Hash32 → Hash32) → Done
signs_by notary me id mark = cond (notary.0 == me) (resumed.Refused 46, nothing) (resumed.Tagged (tag_by mark (party me) id), nothing)

-- what is decided by a mark
abbrev decides_by : {F : Type 0} → Environment F → ℕ → NodeState F → ℕ → Request → (Party → Hash32 → Hash32) → Done
decides_by w me s now request mark =
    let r = reply mark s.entries request (identity w me) (record { 0 = now }) in
    (resumed.Answer r.answer, record nothing { booked = booked_by request r })

pub acts_as_meant : {F : Type 0} → ActsAsMeant F
acts_as_meant w me s now at keyed = record {
  reserve = λ token amount. refl;
  look_up = λ id. refl;
  missing = λ tx. refl;
  sign = λ id. ap (λ mark. Some (goes_on w me now at (signs_by w.notary me id mark))) keyed;
  notarise = λ request. ap (λ mark. Some (goes_on w me now at (decides_by w me s now request mark))) keyed;
}
