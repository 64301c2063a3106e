use Rattle.std.proofs.Common.{sym, ◌∙◌, ap, Some, option_map, length}
use Rattle.session_table.proofs.Found.{absent, present, count_is}
use Rattle.session_table.proofs.sessions.Sessions.arrived.Goals as goal

pub returns-in_err-get : goal.returns-in_err-get
returns-in_err-get c =
    let s = c.self.inside in
    c.from_residual.ensures ∙ sym (ap (option_map (λ s. length s.came)) (absent s.sent.entries s.came.entries s.lines.entries c.args.self.now.list c.args.key.now (ap (λ t. t.list) c.self.view_is) c.in_err-get.ensures.value))

pub returns : goal.returns
returns c =
    let s = c.self.inside in
    let found = present s.sent.entries s.came.entries s.lines.entries c.args.self.now.list c.args.key.now c.in_ok-get.field-0.now (ap (λ t. t.list) c.self.view_is) c.in_ok-get.ensures.value in
    let counted = count_is (λ v. v.came) s.lines.entries s.came.entries c.args.key.now c.in_ok-get.field-0.now c.self.invariant.0.came_counted c.in_ok-get.ensures.value in
    sym (ap (option_map (λ s. length s.came)) found ∙ ap Some counted)
