use Rattle.std.proofs.Common.{◌∙◌}
use Rattle.net_base.proofs.Options.{on_ok}
use Rattle.indexmap.proofs.CallerLemmas.{insert_entry-new}
use Rattle.session_table.specs.Owned.{flow_place_eq}
use Rattle.session_table.proofs.owned.put_key.Goals as goal

pub returns-clause-entries : goal.returns-clause-entries
returns-clause-entries c = on_ok c.insert.result _ c.unwrap.ensures c.insert.ensures.entries ∙ insert_entry-new flow_place_eq c.args.keys.now c.args.place c.args.key c.requires.free
