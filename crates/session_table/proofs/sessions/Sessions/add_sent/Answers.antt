use Rattle.std.proofs.Common.{◌≡◌, sym, ◌∙◌, ap, subst, arith, refl, List, map}
use Rattle.session_wire.specs.Sessions.{Session, with_sent, changed_at}
use Rattle.session_table.specs.Kept.{session_at, one_sent, IsKept}
use Rattle.session_table.specs.declared.standing.Place.{Place}
use Rattle.session_table.specs.declared.standing.Posted.{Posted}
use Rattle.session_table.proofs.Found.{count_is}
use Rattle.session_table.proofs.Items.{place_free}
use Rattle.session_table.proofs.Keeping.{kept_sent}
use Rattle.session_table.proofs.Stepping.{list_sent, acks_set, found_line, sent_count}
use Rattle.session_table.specs.Kept.{owner_of}
use Rattle.session_table.specs.Owned.{owners}
use Rattle.session_table.proofs.Owning.{map_rewritten}
use Rattle.session_table.proofs.Listing.{listed_sent}
use Rattle.session_table.proofs.sessions.Sessions.add_sent.Goals as goal

pub count_sent-requires : goal.count_sent-requires
count_sent-requires c = λ v there.
    let s = c.self.inside in
    let same = ap (λ t. t.list) c.self.view_is in
    let count = sent_count s.sent.entries s.came.entries s.lines.entries c.args.self.now.list c.args.item.key c.requires.continues.session v same c.requires.continues.stands there c.self.invariant.0.sent_counted in
    let next = c.requires.continues.next in
    omega (arith, count, next, c.requires.few)

pub put_item-requires-clause-room : goal.put_item-requires-clause-room
put_item-requires-clause-room c = let room = ap (λ t. t.room) c.self.view_is in omega (arith, room, c.requires.room)

pub put_item-requires-clause-free : goal.put_item-requires-clause-free
put_item-requires-clause-free c =
    let s = c.self.inside in
    let same = ap (λ t. t.list) c.self.view_is in
    let at = found_line s.sent.entries s.came.entries s.lines.entries c.args.self.now.list c.args.item.key c.requires.continues.session same c.requires.continues.stands in
    let seq : c.args.item.seq ≡ at.0.sent = c.requires.continues.next ∙ sent_count s.sent.entries s.came.entries s.lines.entries c.args.self.now.list c.args.item.key c.requires.continues.session at.0 same c.requires.continues.stands at.1.0 c.self.invariant.0.sent_counted in
    place_free s.sent.entries c.args.item.key c.args.item.seq c.self.invariant.0.sent_numbered (seq ∙ sym (count_is (λ v. v.sent) s.lines.entries s.sent.entries c.args.item.key at.0 c.self.invariant.0.sent_counted at.1.0))

pub invariant_of-self : goal.invariant_of-self
invariant_of-self c =
    let s = c.self.inside in
    let same = ap (λ t. t.list) c.self.view_is in
    let at = found_line s.sent.entries s.came.entries s.lines.entries c.args.self.now.list c.args.item.key c.requires.continues.session same c.requires.continues.stands in
    let seq : c.args.item.seq ≡ at.0.sent = c.requires.continues.next ∙ sent_count s.sent.entries s.came.entries s.lines.entries c.args.self.now.list c.args.item.key c.requires.continues.session at.0 same c.requires.continues.stands at.1.0 c.self.invariant.0.sent_counted in (
      subst (λ (l : List (Place × Posted)). IsKept s.party s.opened c.count_sent.new.lines.entries l s.came.entries) (sym c.put_item.ensures.entries) (kept_sent s.party s.opened s.lines.entries c.count_sent.new.lines.entries s.sent.entries s.came.entries c.args.item.key at.0 c.args.item.seq (record { body = c.args.item.body; stamp = c.args.stamp }) c.self.invariant.0 at.1.0 seq c.count_sent.ensures.lines),
      c.self.invariant.1 ∙ sym (ap owners (map_rewritten owner_of c.args.item.key one_sent s.lines.entries c.count_sent.new.lines.entries (λ q v. refl) c.count_sent.ensures.lines)),
      listed_sent c.args.item.key s.lines.entries c.count_sent.new.lines.entries s.waiting.list c.note_sent.new.waiting.list c.count_sent.ensures.lines c.self.invariant.2 c.note_sent.ensures.list,
    )

pub returns-clause-party : goal.returns-clause-party
returns-clause-party c = ap (λ t. t.party) c.self.view_is

pub returns-clause-list : goal.returns-clause-list
returns-clause-list c =
    let s = c.self.inside in
    let same = ap (λ t. t.list) c.self.view_is in
    let at = found_line s.sent.entries s.came.entries s.lines.entries c.args.self.now.list c.args.item.key c.requires.continues.session same c.requires.continues.stands in
    let seq : c.args.item.seq ≡ at.0.sent = c.requires.continues.next ∙ sent_count s.sent.entries s.came.entries s.lines.entries c.args.self.now.list c.args.item.key c.requires.continues.session at.0 same c.requires.continues.stands at.1.0 c.self.invariant.0.sent_counted in
    ap (λ (l : List (Place × Posted)). map (session_at l s.came.entries) c.count_sent.new.lines.entries) c.put_item.ensures.entries
    ∙ list_sent s.sent.entries s.came.entries s.lines.entries c.count_sent.new.lines.entries c.args.item.key c.args.item.seq (record { body = c.args.item.body; stamp = c.args.stamp }) at.0 at.1.0 c.count_sent.ensures.lines
    ∙ ap (λ (l : List Session). changed_at c.args.item.key (with_sent (record { body = c.args.item.body; stamp = c.args.stamp })) l) same

pub returns-clause-acked : goal.returns-clause-acked
returns-clause-acked c =
    let s = c.self.inside in
    let same = ap (λ t. t.list) c.self.view_is in
    let at = found_line s.sent.entries s.came.entries s.lines.entries c.args.self.now.list c.args.item.key c.requires.continues.session same c.requires.continues.stands in
    let seq : c.args.item.seq ≡ at.0.sent = c.requires.continues.next ∙ sent_count s.sent.entries s.came.entries s.lines.entries c.args.self.now.list c.args.item.key c.requires.continues.session at.0 same c.requires.continues.stands at.1.0 c.self.invariant.0.sent_counted in
    acks_set s.lines.entries c.count_sent.new.lines.entries c.args.item.key one_sent at.0 (λ v. refl) at.1.0 c.count_sent.ensures.lines ∙ ap (λ t. t.acked) c.self.view_is

pub returns-clause-room : goal.returns-clause-room
returns-clause-room c = let room = ap (λ t. t.room) c.self.view_is in omega (arith, room, c.count_sent.ensures.room, c.note_sent.ensures.room, c.put_item.ensures.room)
