use Rattle.std.proofs.Common.{refl, sym, ap, subst, ◌∙◌}
use Rattle.net_base.specs.declared.fault.DecodeFault.{DecodeFault}
use Rattle.net_base.specs.Parts.{WholeFault, IsFirstFault}
use Rattle.transition_record.specs.declared.record.Record.{Record}
use Rattle.transition_record.specs.Records.{IsUnbounded, unbounded_text, same_record}
use Rattle.transition_record.proofs.record.decode_record.Goals as goal

pub returns-in-Ok-clause-back : goal.returns-in-Ok-clause-back
returns-in-Ok-clause-back c = λ cause effect h is.
    let r = c.in-Ok.record in
    ap (λ (x : Record). (x.cause, x.effect)) (same_record r (record { cause = cause; effect = effect }) c.in-Ok.ensures.0 h.limits (sym c.in-Ok.ensures.1 ∙ is))

pub returns-in-Err-Malformed-clause-record : goal.returns-in-Err-Malformed-clause-record
returns-in-Err-Malformed-clause-record c =
    let first : IsFirstFault IsUnbounded unbounded_text c.args.bytes.now c.in-Err-Malformed.field-0-0 = subst (λ (e : DecodeFault). WholeFault IsUnbounded unbounded_text c.args.bytes.now e) c.in-Err-Malformed.field-0-is c.in-Err-Malformed.ensures in
    (refl, λ cause effect h is. first.none (record { cause = cause; effect = effect }) h.limits is)

pub returns-in-Err-Malformed-clause-back : goal.returns-in-Err-Malformed-clause-back
returns-in-Err-Malformed-clause-back c = λ cause effect h is.
    let first : IsFirstFault IsUnbounded unbounded_text c.args.bytes.now c.in-Err-Malformed.field-0-0 = subst (λ (e : DecodeFault). WholeFault IsUnbounded unbounded_text c.args.bytes.now e) c.in-Err-Malformed.field-0-is c.in-Err-Malformed.ensures in
    first.none (record { cause = cause; effect = effect }) h.limits is
