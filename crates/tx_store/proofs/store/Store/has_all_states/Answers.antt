use Rattle.std.proofs.Common.{◌∙◌}
use Rattle.tx_store.proofs.Resolving.{all_had}
use Rattle.tx_store.proofs.store.Store.has_all_states.Goals as goal

pub returns : goal.returns
returns c = c.has_each.ensures ∙ all_had c.args.self.now.list c.args.refs.now
