use Rattle.std.proofs.Common.{◌∙◌, ap, map, slice_get}
use Rattle.std.proofs.lemmas.Option.{slice_get-map}
use Rattle.session_wire.specs.Sessions.{Session}
use Rattle.session_table.specs.Owned.{keys_owned}
use Rattle.session_table.specs.Kept.{session_at}
use Rattle.session_wire.specs.Rules.{sessions_of}
use Rattle.session_table.specs.Tables.{of_flow}
use Rattle.session_table.proofs.Owning.{flow_keys}
use Rattle.session_table.proofs.sessions.Sessions.of_flow.Goals as goal

pub returns : goal.returns
returns c =
    let s = c.self.inside in
    let list = map (session_at s.sent.entries s.came.entries) s.lines.entries in
    c.get.ensures
    ∙ ap (λ l. slice_get l c.args.k) (ap (keys_owned c.args.flow) c.self.invariant.1 ∙ flow_keys c.args.flow s.sent.entries s.came.entries s.lines.entries)
    ∙ slice_get-map (λ (s : Session). s.key) (sessions_of c.args.flow list) c.args.k
    ∙ ap (λ t. of_flow c.args.flow c.args.k t.list) c.self.view_is
