use Rattle.std.proofs.Common.{◌≡◌, ◌+◌, ◌++◌, ◌∷◌, [], length, vec_len, ap, sym, ◌∙◌, arith, rules, length-append}
use Rattle.wire_rows.proofs.Moved.{shift}
use Rattle.wire_rows.proofs.Spreading.{rows_are}
use Rattle.flow_workers.proofs.Filling.{popped, rest_of, stands_at}
use Rattle.flow_workers.proofs.locks.fill_desks.Goals as goal

pub nodes-init : goal.nodes-init
nodes-init g c =
    let all : c.into_iter-node-iterator.result.rest.items ≡ c.args.nodes.items = search rules in
    record {
      can_next = tt;
      is_finite = tt;
      all = all;
      count = ap (λ l. length l) c.requires.empty;
      left = c.requires.count ∙ ap (λ l. length l) (sym all);
      room = c.requires.room;
      by = rw all c.requires.by;
      rows = rows_are _ _ c.requires.rows;
    }

pub unwrap-row-requires : goal.unwrap-row-requires
unwrap-row-requires g c =
    let inv = c.nodes.invariant in
    let rest = ap (λ l. length l) c.in-Some.ensures.steps.0 in
    let len : vec_len c.nodes.rows ≡ length c.nodes.rows.items = search rules in
    c.pop.ensures.variant.1 (omega (arith, len, inv.left, rest))

pub new-requires-clause-came : goal.new-requires-clause-came
new-requires-clause-came g c =
    let inv = c.nodes.invariant in
    let all = ap (λ l. c.nodes.yielded ++ l) (sym c.in-Some.ensures.steps.0) ∙ inv.all in
    let at : c.len-place.result ≡ length c.nodes.desks.items = search rules in
    rw c.requires.came (stands_at c.nodes.yielded c.next.new.self.rest.items c.args.nodes.items c.in-Some.node c.len-place.result all (at ∙ inv.count))

pub new-requires-clause-by : goal.new-requires-clause-by
new-requires-clause-by g c = (rest_of _ c.nodes.node-iterator.rest.items c.next.new.self.rest.items c.in-Some.node c.in-Some.ensures.steps.0 c.nodes.invariant.by).0

pub new-requires-clause-of : goal.new-requires-clause-of
new-requires-clause-of g c = (popped _ c.nodes.rows.items c.pop.new.self.items c.pop.result c.unwrap-row.result c.pop.ensures.items c.unwrap-row.ensures c.nodes.invariant.rows).0.0

pub new-requires-clause-fresh : goal.new-requires-clause-fresh
new-requires-clause-fresh g c = (popped _ c.nodes.rows.items c.pop.new.self.items c.pop.result c.unwrap-row.result c.pop.ensures.items c.unwrap-row.ensures c.nodes.invariant.rows).0.1

pub nodes-preserved : goal.nodes-preserved
nodes-preserved g c =
    let inv = c.nodes.invariant in
    let rest = ap (λ l. length l) c.in-Some.ensures.steps.0 in
    let all = ap (λ l. c.nodes.yielded ++ l) (sym c.in-Some.ensures.steps.0) ∙ inv.all in
    let out = popped _ c.nodes.rows.items c.pop.new.self.items c.pop.result c.unwrap-row.result c.pop.ensures.items c.unwrap-row.ensures inv.rows in
    let len : length c.push.new.self.items ≡ length c.nodes.desks.items + 1 = search rules in
    record {
      can_next = tt;
      is_finite = tt;
      all = shift c.nodes.yielded c.next.new.self.rest.items c.in-Some.node ∙ all;
      count = omega (arith, len, inv.count, length-append c.nodes.yielded (c.in-Some.node ∷ []));
      left = omega (arith, inv.left, out.2, rest);
      room = omega (arith, inv.room, c.push.ensures.capacity);
      by = (rest_of _ c.nodes.node-iterator.rest.items c.next.new.self.rest.items c.in-Some.node c.in-Some.ensures.steps.0 inv.by).1;
      rows = out.1;
    }

pub returns : goal.returns
returns g c =
    let inv = c.nodes.invariant in
    let gone : length c.nodes.node-iterator.rest.items ≡ 0 = search rules in
    let all = ap (λ l. length l) inv.all in
    omega (arith, inv.count, all, gone, length-append c.nodes.yielded c.nodes.node-iterator.rest.items)
