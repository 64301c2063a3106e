use Rattle.std.proofs.Common.{[], ◌∷◌, refl, sym, ◌∙◌, ap, subst, arith}
use Rattle.session_wire.specs.Bodies.{IsBody}
use Rattle.session_wire.specs.declared.body.Body.{Body}
use Rattle.session_wire.specs.declared.change.SentItem.{SentItem}
use Rattle.session_acts.proofs.Fitting.{answering_made}
use Rattle.session_acts.proofs.Limits.{answer_within, answering_within}
use Rattle.session_acts.proofs.accepting.answer.Goals as goal

pub returns-clause-fits : goal.returns-clause-fits
returns-clause-fits c = λ nodes stamp me list new is.
    answering_made nodes stamp me list c.args.key c.args.init _ c.is_some.result c.in_ok-sent.sent new is (c.in_ok-sent.ensures ∙ ap (λ (body : Body). record { key = c.args.key; direction = 1; seq = 0; body = body } ∷ []) c.first_answer.ensures)

pub returns-clause-limits : goal.returns-clause-limits
returns-clause-limits c = λ key init.
    let item : SentItem = record { key = c.args.key; direction = 1; seq = 0; body = c.first_answer.result } in
    let body : IsBody c.first_answer.result = subst IsBody (sym c.first_answer.ensures) (answer_within c.is_some.result) in
    let within = answering_within c.unwrap_or.result c.args.key c.args.init item c.in_ok-sent.sent (key, (omega arith, (omega arith, body))) init c.in_ok-sent.ensures in
    (within.0, (c.unwrap_or.ensures, refl))
