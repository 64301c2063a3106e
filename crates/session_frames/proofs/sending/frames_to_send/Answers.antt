use Rattle.std.proofs.Common.{◌≡◌, List, map, sym, subst, ◌∙◌, ap}
use Rattle.std.specs.List.{AllByRecursion}
use Rattle.std.proofs.lemmas.Result.{IfOk-weaker}
use Rattle.session_table.specs.Tables.{unacked}
use Rattle.session_frames.specs.Sending.{outgoing, AreMessages, IsAddressed}
use Rattle.session_frames.specs.declared.sending.Outgoing.{Outgoing}
use Rattle.session_frames.proofs.Messages.{are_messages, are_addressed}
use Rattle.session_frames.proofs.sending.frames_to_send.Goals as goal

pub frames_of-requires : goal.frames_of-requires
frames_of-requires c =
    let t = c.args.sessions.now in
    let listed = c.in_ok-items.ensures ∙ ap (λ p. unacked p t.list t.acked) c.requires.party in
    subst (λ items. AreMessages c.args.party items) (sym listed) (are_messages c.args.party t.list t.acked c.requires.lawful)

pub returns-clause-addressed : goal.returns-clause-addressed
returns-clause-addressed c =
    let t = c.args.sessions.now in
    let me = c.args.party in
    let listed = c.in_ok-items.ensures ∙ ap (λ p. unacked p t.list t.acked) c.requires.party in
    let messages = subst (λ items. AreMessages me items) (sym listed) (are_messages me t.list t.acked c.requires.lawful) in
    IfOk-weaker c.frames_of.result (λ (frames : List Outgoing). frames ≡ map (outgoing me) c.in_ok-items.items) (λ (frames : List Outgoing). AllByRecursion IsAddressed frames)
    (λ frames e. subst (λ (l : List Outgoing). AllByRecursion IsAddressed l) (sym e) (are_addressed me c.in_ok-items.items messages)) c.frames_of.ensures
