use Rattle.std.proofs.Common.{[], ◌∷◌, sym, ◌∙◌, ap, subst}
use Rattle.ledger_types.specs.Values.{IsValue}
use Rattle.session_wire.specs.declared.body.Body.TheVariants.{Data}
use Rattle.session_wire.specs.declared.change.SentItem.{SentItem}
use Rattle.session_wire.proofs.Items.{late_data}
use Rattle.session_acts.proofs.Fitting.{sending_made}
use Rattle.session_acts.proofs.Limits.{one_within}
use Rattle.session_acts.proofs.acts.send.Goals as goal

pub returns-clause-fits : goal.returns-clause-fits
returns-clause-fits c = λ stamp sound.
    sending_made c.args.identity.now.party stamp c.args.sessions.now.list c.args.flow c.args.key.now (Data c.in_ok-copy.field-0) c.in_ok-sent.sent sound (late_data c.in_ok-copy.field-0) (sym c.owns.ensures ∙ c.if-not-owns.false)
    (λ s stands. c.in_ok-sent.ensures ∙ ap (λ (item : SentItem). item ∷ []) (c.item_on.ensures.item s stands))

pub returns-clause-limits : goal.returns-clause-limits
returns-clause-limits c = λ key value.
    one_within c.args.flow c.item_on.result c.in_ok-sent.sent (c.item_on.ensures.limits key (subst IsValue (sym c.in_ok-copy.ensures) value)) c.in_ok-sent.ensures
