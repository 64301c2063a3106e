use Rattle.std.proofs.Common.{◌≡◌, length, map, take, ap, ◌∙◌, subst, arith, rules}
use Rattle.wire_rows.specs.Rows.{AreRows}
use Rattle.flow_workers.proofs.Filling.{as_many, first_shares, set_heads, set_spread}
use Rattle.flow_workers.proofs.stage.set_up.Goals as goal

pub rows_of-requires-clause-shares : goal.rows_of-requires-clause-shares
rows_of-requires-clause-shares g c = first_shares c.in_ok-inboxes.own.items c.in_ok-heads.heads.items c.in_ok-inboxes.ensures.seen

pub returns-clause-stage : goal.returns-clause-stage
returns-clause-stage g c =
    let heads_are = c.in_ok-heads.ensures.heads ∙ ap (map (λ w. take 1024 w.frames)) c.deref.ensures.value in
    let many = as_many c.args.waiting.now.items c.make_rooms.new.waiting.items c.in_ok-heads.heads.items (length c.in_ok-inboxes.inboxes.items) c.make_rooms.ensures.frames heads_are c.in_ok-inboxes.ensures.count in
    let one : c.len.result ≡ length c.in_ok-inboxes.inboxes.items = search rules in
    let two : c.len-2.result ≡ length c.in_ok-inboxes.inboxes.items = search rules in
    let three : c.len-3.result ≡ length c.in_ok-inboxes.inboxes.items = search rules in
    record {
      inboxes = many;
      own = c.in_ok-own.ensures.of ∙ c.deref-2.ensures.value;
      rows = subst (λ ids. AreRows ids c.in_ok-own.rows.items) c.deref-2.ensures.value c.in_ok-own.ensures.rows;
      each = c.in_ok-own.ensures.count ∙ (one ∙ many);
      rooms = c.in_ok-rooms.ensures.rooms;
      for_each = c.in_ok-rooms.ensures.count ∙ (two ∙ many);
      empty = c.in_ok-lists.ensures.items;
      room = omega (arith, c.in_ok-lists.ensures.capacity, three, many);
    }

pub returns-clause-spread : goal.returns-clause-spread
returns-clause-spread g c =
    let heads_are = c.in_ok-heads.ensures.heads ∙ ap (map (λ w. take 1024 w.frames)) c.deref.ensures.value in
    let many = as_many c.args.waiting.now.items c.make_rooms.new.waiting.items c.in_ok-heads.heads.items (length c.in_ok-inboxes.inboxes.items) c.make_rooms.ensures.frames heads_are c.in_ok-inboxes.ensures.count in
    let one : c.len.result ≡ length c.in_ok-inboxes.inboxes.items = search rules in
    set_spread c.in_ok-inboxes.own.items c.in_ok-own.own.items c.in_ok-heads.heads.items c.make_rooms.new.waiting.items c.args.waiting.now.items c.len.result c.in_ok-inboxes.ensures.seen heads_are c.make_rooms.ensures.frames (one ∙ many) c.in_ok-own.ensures.spread

pub returns-clause-heads : goal.returns-clause-heads
returns-clause-heads g c =
    let heads_are = c.in_ok-heads.ensures.heads ∙ ap (map (λ w. take 1024 w.frames)) c.deref.ensures.value in
    let many = as_many c.args.waiting.now.items c.make_rooms.new.waiting.items c.in_ok-heads.heads.items (length c.in_ok-inboxes.inboxes.items) c.make_rooms.ensures.frames heads_are c.in_ok-inboxes.ensures.count in
    let one : c.len.result ≡ length c.in_ok-inboxes.inboxes.items = search rules in
    set_heads c.in_ok-inboxes.own.items c.in_ok-own.own.items c.in_ok-heads.heads.items c.make_rooms.new.waiting.items c.args.waiting.now.items c.len.result c.in_ok-inboxes.ensures.seen heads_are c.make_rooms.ensures.frames (one ∙ many) c.in_ok-own.ensures.kept
