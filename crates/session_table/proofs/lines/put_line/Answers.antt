use Rattle.std.proofs.Common.{◌∙◌}
use Rattle.net_base.proofs.Options.{on_ok}
use Rattle.indexmap.proofs.CallerLemmas.{insert_entry-new}
use Rattle.session_wire.specs.Sessions.{key_eq}
use Rattle.session_table.proofs.lines.put_line.Goals as goal

pub returns-clause-entries : goal.returns-clause-entries
returns-clause-entries c = on_ok c.insert.result _ c.unwrap.ensures c.insert.ensures.entries ∙ insert_entry-new key_eq c.args.lines.now c.args.key c.args.standing c.requires.free
