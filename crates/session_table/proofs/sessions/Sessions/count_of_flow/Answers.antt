use Rattle.std.proofs.Common.{◌∙◌, ap, map, length}
use Rattle.std.proofs.lemmas.List.{length-map}
use Rattle.session_wire.specs.Sessions.{Session}
use Rattle.session_wire.specs.Rules.{sessions_of}
use Rattle.session_table.specs.Owned.{keys_owned}
use Rattle.session_table.specs.Kept.{session_at}
use Rattle.session_table.proofs.Owning.{flow_keys}
use Rattle.session_table.proofs.sessions.Sessions.count_of_flow.Goals as goal

pub returns : goal.returns
returns c =
    let s = c.self.inside in
    let list = map (session_at s.sent.entries s.came.entries) s.lines.entries in
    c.count.ensures
    ∙ ap length (ap (keys_owned c.args.flow) c.self.invariant.1 ∙ flow_keys c.args.flow s.sent.entries s.came.entries s.lines.entries)
    ∙ length-map (sessions_of c.args.flow list) (λ (s : Session). s.key)
    ∙ ap (λ t. length (sessions_of c.args.flow t.list)) c.self.view_is
