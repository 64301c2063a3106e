use Rattle.std.proofs.Common.{◌∙◌}
use Rattle.net_base.proofs.Options.{on_ok}
use Rattle.indexmap.proofs.CallerLemmas.{insert_entry-new}
use Rattle.session_table.specs.Kept.{place_eq}
use Rattle.session_table.proofs.lines.put_item.Goals as goal

pub returns-clause-entries : goal.returns-clause-entries
returns-clause-entries g c = on_ok c.insert.result _ c.unwrap.ensures c.insert.ensures.entries ∙ insert_entry-new place_eq c.args.items.now c.args.place c.args.item c.requires.free
