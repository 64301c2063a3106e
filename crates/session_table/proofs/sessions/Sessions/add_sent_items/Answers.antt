use Rattle.std.proofs.Common.{◌≡◌, sym, ◌∙◌, ap, arith, Some, slice_get, length}
use Rattle.std.proofs.lemmas.List.{length-map}
use Rattle.std.specs.Prelude.{option_copied}
use Rattle.net_base.proofs.Lists.{get_map}
use Rattle.session_wire.specs.Sessions.{Session}
use Rattle.session_wire.specs.Rules.{direction_out}
use Rattle.session_table.specs.Kept.{items_of, sent_of}
use Rattle.session_table.specs.Tables.{item_of}
use Rattle.session_table.specs.declared.resent.Item.{Item}
use Rattle.session_table.proofs.Stepping.{found_line}
use Rattle.session_table.proofs.Resending.{is_there, item_step, pushed}
use Rattle.session_table.proofs.sessions.Sessions.add_sent_items.Goals as goal

pub unwrap-posted-requires : goal.unwrap-posted-requires
unwrap-posted-requires c =
    let s = c.self.inside in
    let key = c.args.key.now in
    let at = found_line s.sent.entries s.came.entries s.lines.entries c.args.self.now.list key c.requires.0 (ap (λ t. t.list) c.self.view_is) c.requires.1 in
    let size : length c.requires.0.sent ≡ length (items_of key s.sent.entries) = ap (λ (x : Session). length x.sent) at.1.1 ∙ length-map _ _ in
    is_there c.get.result (items_of key s.sent.entries) c.loop-number.number (c.get.ensures.value ∙ c.self.invariant.0.sent_numbered key c.loop-number.number) (omega (arith, size, c.requires.3, c.loop-number-test.true))

pub loop-number-preserved : goal.loop-number-preserved
loop-number-preserved c = λ other stands.
    let s = c.self.inside in
    let me = c.args.self.now.party in
    let key = c.args.key.now in
    let n = c.loop-number.number in
    let at = found_line s.sent.entries s.came.entries s.lines.entries c.args.self.now.list key other (ap (λ t. t.list) c.self.view_is) stands in
    let one : Some c.requires.0 ≡ Some other = sym c.requires.1 ∙ stands in
    let same : c.requires.0 ≡ other = cc one in
    let posted = c.unwrap-posted.result.now in
    let there : slice_get (items_of key s.sent.entries) n ≡ Some posted = sym (c.self.invariant.0.sent_numbered key n) ∙ sym c.get.ensures.value ∙ ap option_copied c.unwrap-posted.ensures in
    let sent : slice_get other.sent n ≡ Some (sent_of posted) = ap (λ (x : Session). slice_get x.sent n) at.1.1 ∙ get_map sent_of (items_of key s.sent.entries) n posted there in
    let peer : c.args.peer ≡ other.peer = sym c.requires.2 ∙ ap (λ (x : Session). x.peer) same in
    let its_key : key ≡ other.key = sym (ap (λ (x : Session). x.key) at.1.1) in
    let direction : c.outgoing-direction.result ≡ direction_out me other.key = c.outgoing-direction.ensures ∙ ap (direction_out me) its_key in
    let v : Item = record { peer = c.args.peer; key = key; direction = c.outgoing-direction.result; number = n; stamp = posted.stamp; body = c.in_ok-body.body } in
    let item : v ≡ item_of me other n (sent_of posted) = λ i. record { peer = peer i; key = its_key i; direction = direction i; number = n; stamp = posted.stamp; body = c.in_ok-body.ensures i } in
    pushed c.loop-number.items.items c.push.new.self.items v (item_of me other n (sent_of posted)) _ _ _ c.in_ok-push.ensures.items item (item_step me other n (sent_of posted) sent) (c.loop-number.invariant other stands)
