use Rattle.std.proofs.Common.{sym, ◌∙◌, ap}
use Rattle.session_wire.specs.Rules.{opened_by}
use Rattle.session_table.proofs.Found.{opened_keys}
use Rattle.session_table.proofs.sessions.Sessions.next_number.Goals as goal

pub returns : goal.returns
returns c =
    let s = c.self.inside in
    c.self.invariant.0.opened_is ∙ sym (opened_keys s.sent.entries s.came.entries s.party s.lines.entries) ∙ ap (λ t. opened_by t.party t.list) c.self.view_is
