use Rattle.std.proofs.Common.{◌≡◌, List, get_or, ap, sym, subst, ◌∙◌, ◌<◌, length}
use Rattle.ledger_types.specs.declared.torn.TornPart.{TornPart}
use Rattle.ledger_types.specs.declared.torn.TornGroup.{TornGroup}
use Rattle.ledger_types.specs.declared.torn.TornGroup.TheVariants.{Shown}
use Rattle.ledger_types.specs.Tears.{spelt_by}
use Rattle.tx_tear.specs.Telling.{Tells}
use Rattle.tx_tear.proofs.Sizes.{shown_within}
use Rattle.tx_tear.proofs.reading.read_shown.Goals as goal

pub returns-in-Some-Shown-clause-limits : goal.returns-in-Some-Shown-clause-limits
returns-in-Some-Shown-clause-limits g c = λ limits.
    let torn = c.args.torn.now in
    let found = c.in-Some-Shown.ensures.lookup in
    let d = c.in-Some-Shown.field-0.now in
    let parts = c.in-Some-Shown.parts in
    let reading = g.T.Spelt.reading in
    let groups = c.as_slice.ensures in
    let there : c.args.ordinal < length torn.groups = subst (λ (l : List TornGroup). c.args.ordinal < length l) groups found.3.0 in
    let is : Shown parts ≡ get_or torn.groups c.args.ordinal d = sym c.in-Some-Shown.field-0-is ∙ found.3.1 d ∙ ap (λ (l : List TornGroup). get_or l c.args.ordinal d) groups in
    let tells : Tells c.read_parts.result (spelt_by reading parts) = subst (λ (l : List TornPart). Tells c.read_parts.result (spelt_by reading l)) c.as_slice-in-Some-Shown.ensures c.read_parts.ensures.tells in
    shown_within g.T.Spelt.within reading torn c.args.ordinal d parts c.read_parts.result limits there is tells c.read_parts.ensures.limits
