use Rattle.std.proofs.Common.{◌<◌, ◌^◌, sym, ◌∙◌, ap, subst, arith}
use Rattle.net_base.specs.Names.{IsKey}
use Rattle.ledger_types.specs.Values.{IsValue}
use Rattle.session_wire.specs.declared.body.Body.TheVariants.{Init}
use Rattle.session_wire.specs.Rules.{opened_by}
use Rattle.session_acts.proofs.Fitting.{opening_made}
use Rattle.session_acts.proofs.Limits.{peer_within, opening_within}
use Rattle.session_acts.proofs.acts.open.Goals as goal

pub returns-clause-fits : goal.returns-clause-fits
returns-clause-fits c = λ stamp sound.
    let me = c.args.identity.now.party in
    opening_made me stamp c.args.identity.now.nodes c.args.sessions.now.list c.args.flow c.args.to c.args.class _ c.next_number.result c.in_ok-sent.sent sound (sym c.is_no_peer.ensures ∙ c.if-is_no_peer.false) (c.next_number.ensures ∙ ap (λ p. opened_by p c.args.sessions.now.list) c.requires.party) c.in_ok-sent.ensures

pub returns-clause-limits : goal.returns-clause-limits
returns-clause-limits c = λ identity value.
    let me = c.args.identity.now.party in
    let key : IsKey (record { initiator = me; number = c.next_number.result }) = (identity.0, c.next_number.type_inv) in
    let few : c.args.identity.now.nodes < 17 = omega (arith, identity.1.0) in
    let class : c.args.class < 2 ^ 16 = omega (arith, c.ranges.class.fits) in
    let first : IsValue c.in_ok-copy.field-0 = subst IsValue (sym c.in_ok-copy.ensures) value in
    opening_within c.args.flow (record { initiator = me; number = c.next_number.result }) c.args.to (record { key = record { initiator = me; number = c.next_number.result }; direction = 0; seq = 0; body = Init c.args.class c.in_ok-copy.field-0 }) c.in_ok-sent.sent key
    (peer_within c.args.identity.now.nodes me c.args.to few (sym c.is_no_peer.ensures ∙ c.if-is_no_peer.false))
    (key, (omega arith, (omega arith, (class, first))))
    c.in_ok-sent.ensures
