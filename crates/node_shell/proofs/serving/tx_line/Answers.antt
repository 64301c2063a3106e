use Rattle.std.specs.Prelude.{string_bytes}
use Rattle.node_shell.proofs.TxLines.{line_by_id, line_at}
use Rattle.node_shell.proofs.serving.tx_line.Goals as goal

pub returns-in-Id : goal.returns-in-Id
returns-in-Id g = rw g.in-Id.is (line_by_id (λ s. string_bytes s) g.args.store.now.list g.in-Id.id g.tx_text_of.result g.tx_text_of.ensures)

pub returns-in-Place : goal.returns-in-Place
returns-in-Place g = rw g.in-Place.is (line_at (λ s. string_bytes s) g.args.store.now.list g.in-Place.k g.tx_text_at.result (rw g.record_of.ensures at g.tx_text_at.ensures))
