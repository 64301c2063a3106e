use Rattle.std.proofs.Common.{sym, ◌∙◌, ap, option_map}
use Rattle.session_table.proofs.Found.{absent, present}
use Rattle.session_table.proofs.sessions.Sessions.peer.Goals as goal

pub returns-in_err-get : goal.returns-in_err-get
returns-in_err-get c =
    let s = c.self.inside in
    c.from_residual.ensures ∙ sym (ap (option_map (λ s. s.peer)) (absent s.sent.entries s.came.entries s.lines.entries c.args.self.now.list c.args.key.now (ap (λ t. t.list) c.self.view_is) c.in_err-get.ensures.value))

pub returns : goal.returns
returns c =
    let s = c.self.inside in
    let found = present s.sent.entries s.came.entries s.lines.entries c.args.self.now.list c.args.key.now c.in_ok-get.field-0.now (ap (λ t. t.list) c.self.view_is) c.in_ok-get.ensures.value in
    sym (ap (option_map (λ s. s.peer)) found)
