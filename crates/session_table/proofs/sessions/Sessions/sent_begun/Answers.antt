use Rattle.std.proofs.Common.{◌∙◌, sym, Some, None, true, false, refl}
use Rattle.session_table.proofs.Fitting.{sent_begun}
use Rattle.session_table.proofs.sessions.Sessions.sent_begun.Goals as goal

pub returns-in-Some : goal.returns-in-Some
returns-in-Some c = sent_begun c.args.key.now c.args.change.now c.args.self.now.list (Some c.in-Some.count) _ c.in-Some.ensures refl

pub returns-then-is_made : goal.returns-then-is_made
returns-then-is_made c = sent_begun c.args.key.now c.args.change.now c.args.self.now.list None true c.in-None.ensures (sym c.if-is_made.true ∙ c.is_made.ensures)

pub returns-else-is_made : goal.returns-else-is_made
returns-else-is_made c = sent_begun c.args.key.now c.args.change.now c.args.self.now.list None false c.in-None.ensures (sym c.if-is_made.false ∙ c.is_made.ensures)
