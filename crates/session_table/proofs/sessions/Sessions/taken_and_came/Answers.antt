use Rattle.std.proofs.Common.{sym, ◌∙◌, ap, Some, option_map}
use Rattle.session_table.specs.Changes.{taken_and_came}
use Rattle.session_table.proofs.Found.{absent, present, count_is}
use Rattle.session_table.proofs.sessions.Sessions.taken_and_came.Goals as goal

pub returns-in_err-standing : goal.returns-in_err-standing
returns-in_err-standing c =
    let s = c.self.inside in
    c.from_residual.ensures ∙ sym (ap (option_map taken_and_came) (absent s.sent.entries s.came.entries s.lines.entries c.args.self.now.list c.args.key.now (ap (λ t. t.list) c.self.view_is) c.in_err-standing.ensures.value))

pub returns : goal.returns
returns c =
    let s = c.self.inside in
    let v = c.in_ok-standing.standing.now in
    let found = present s.sent.entries s.came.entries s.lines.entries c.args.self.now.list c.args.key.now v (ap (λ t. t.list) c.self.view_is) c.in_ok-standing.ensures.value in
    let counted = count_is (λ v. v.came) s.lines.entries s.came.entries c.args.key.now v c.self.invariant.0.came_counted c.in_ok-standing.ensures.value in
    sym (ap (option_map taken_and_came) found ∙ ap (λ n. Some (v.taken, n)) counted)
