use Rattle.node_ledger.proofs.Adding.{holds_after}
use Rattle.node_ledger.proofs.tables.add_change.Goals as goal

pub returns : goal.returns
returns g c = record {
  holds = λ flow me s by h.
      let changed = c.apply.ensures.changed in
      holds_after flow me s c.args.change c.args.ledger.now c.apply.new.self by h changed.store changed.party changed.book changed.vault;
}
