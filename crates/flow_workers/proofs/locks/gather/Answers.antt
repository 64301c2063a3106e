use Rattle.std.proofs.Common.{◌≡◌, ◌+◌, ◌++◌, ◌∷◌, [], length, ap, ◌∙◌, arith, rules}
use Rattle.wire_rows.proofs.Spreading.{all_pushed}
use Rattle.flow_workers.proofs.Histories.{worked_few}
use Rattle.flow_workers.proofs.Gathering.{gathers_begin, gathers_step}
use Rattle.flow_workers.proofs.locks.gather.Goals as goal

pub desks-init : goal.desks-init
desks-init g c =
    let none : length c.args.back.items ≡ 0 = ap (λ l. length l) c.requires.empty in
    let all : length c.into_iter-desk-iterator.result.rest.items ≡ length c.args.desks.items = search rules in
    record {
      can_next = tt;
      is_finite = tt;
      of = c.requires.of;
      count = omega (arith, none, all);
      room = c.requires.room;
      by = rw c.requires.empty tt;
      few = omega arith;
      gathered = gathers_begin _ _ _ c.args.back.items _ c.requires.empty;
    }

pub overflow_add-commits : goal.overflow_add-commits
overflow_add-commits g c =
    let inv = c.desks.invariant in
    let few = worked_few _ _ _ _ _ _ c.of_place-node.result.commits c.of_place-node.ensures.kept.1 in
    omega (arith, few, inv.few, inv.count, c.requires.few)

pub desks-preserved : goal.desks-preserved
desks-preserved g c =
    let inv = c.desks.invariant in
    let pushed : c.push.new.self.items ≡ c.desks.nodes.items ++ c.of_place-node.result.node ∷ [] = search rules in
    let len : length c.push.new.self.items ≡ length c.desks.nodes.items + 1 = search rules in
    let rest = ap (λ l. length l) c.in-Some.ensures.steps.0 in
    let at : c.len.result ≡ length c.desks.nodes.items = search rules in
    let few = worked_few _ _ _ _ _ _ c.of_place-node.result.commits c.of_place-node.ensures.kept.1 in
    record {
      can_next = tt;
      is_finite = tt;
      of = c.join_row.ensures.of ∙ c.inboxes.ensures;
      count = omega (arith, inv.count, len, rest);
      room = omega (arith, inv.room, c.push.ensures.capacity);
      by = all_pushed _ c.desks.nodes.items c.push.new.self.items c.of_place-node.result.node pushed inv.by c.of_place-node.ensures.kept.0;
      few = omega (arith, few, inv.few, len);
      gathered = gathers_step _ _ _ _ c.desks.nodes.items c.push.new.self.items _ _ _ c.desks.commits c.of_place-node.result.commits _ _ c.of_place-node.result.node pushed at inv.gathered c.of_place-node.ensures.kept.1 c.join_row.ensures.joined (omega arith);
    }
