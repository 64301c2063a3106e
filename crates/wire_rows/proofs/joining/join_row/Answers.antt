use Rattle.std.proofs.Common.{◌≡◌, ◌++◌, ◌∷◌, [], length, map, ap, sym, ◌∙◌, refl, arith, rules, length-append}
use Rattle.wire_rows.proofs.Moved.{pass_at, same_inboxes, shift}
use Rattle.wire_rows.proofs.Joins.{join_front, join_none, row_step, row_below, row_length, all_yielded, joined_all, no_length}
use Rattle.wire_rows.proofs.joining.join_row.Goals as goal

pub row-init : goal.row-init
row-init c =
    let all : c.into_iter-pass-iterator.result.rest.items ≡ c.args.row.items = search rules in
    (tt, tt, refl, c.requires.own, all, join_none _)

pub row-preserved : goal.row-preserved
row-preserved c =
    let inv = c.row.invariant in
    let all = ap (λ l. c.row.yielded ++ l) (sym c.in-Some.ensures.steps.0) ∙ inv.4 in
    let below = row_below c.row.yielded c.next.new.self.rest.items c.args.row.items c.in-Some.pass c.args.inboxes.now c.row.at all c.requires.row inv.2 in
    let there = pass_at c.row.own.items c.args.inboxes.now c.row.at c.index_mut-mine.result.now inv.3 below c.index_mut-mine.ensures.value in (
      tt,
      tt,
      omega (arith, inv.2, length-append c.row.yielded (c.in-Some.pass ∷ [])),
      same_inboxes c.row.at c.row.own.items c.index_mut-mine.result.now c.join.new.pass there c.join.ensures.of ∙ inv.3,
      shift c.row.yielded c.next.new.self.rest.items c.in-Some.pass ∙ all,
      row_step c.row.own.items c.row.yielded _ c.row.at c.index_mut-mine.result.now c.join.new.pass c.in-Some.pass there inv.2 inv.5 c.join.ensures.both,
    )

pub returns-clause-joined : goal.returns-clause-joined
returns-clause-joined c =
    let inv = c.row.invariant in
    let gone : length c.row.pass-iterator.rest.items ≡ 0 = search rules in
    let none = no_length c.row.pass-iterator.rest.items gone in
    let whole = all_yielded c.row.yielded c.row.pass-iterator.rest.items c.args.row.items none inv.4 in
    joined_all _ _ _ (row_length c.args.own.now.items c.args.row.items c.args.inboxes.now c.requires.own c.requires.row) (inv.5 ∙ ap (λ l. join_front (map (λ p. p.seen) c.args.own.now.items) (map (λ p. p.seen) l)) whole)
