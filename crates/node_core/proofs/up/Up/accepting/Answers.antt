use Rattle.std.proofs.Common.{◌≡◌, List, option_map, sym, ◌∙◌, ap}
use Rattle.session_wire.specs.Sessions.{Session, session_of}
use Rattle.session_frames.specs.Items.{IsNextItem}
use Rattle.node_tables.specs.Journals.{state_of}
use Rattle.node_core.proofs.Items.{next_there, session_there}
use Rattle.node_core.proofs.up.Up.accepting.Goals as goal

pub returns-then-is_some-clause-ready : goal.returns-then-is_some-clause-ready
returns-then-is_some-clause-ready g c =
    let id = c.args.identity.now in
    let item = c.args.item in
    let s = state_of g.F.Spelt.reading c.self.inside.tables.bodies in
    let next : IsNextItem id s.sessions item.peer item.key item.direction item.number item.stamp item.body = rw (← c.self.view_is) at c.requires.next in
    let peer : c.peer.result ≡ option_map (λ x. x.peer) (session_of item.key s.sessions) = c.peer.ensures ∙ ap (λ (ss : List Session). option_map (λ x. x.peer) (session_of item.key ss)) c.sessions.ensures.list in
    let there = session_there s.sessions item.key c.peer.result peer (sym c.is_some.ensures ∙ c.if-is_some.true) in
    let on = next_there id s.sessions item.peer item.key item.direction item.number item.stamp item.body next there.0 there.1 in
    rw (← c.self.view_is) (c.arrive_item.ensures.ready id c.args.now.0 s on.session on.stands on.next)
