use Rattle.std.proofs.Common.{◌≡◌, ◌++◌, ◌∷◌, [], length, map, ap, sym, subst, ◌∙◌, append-nil, rules}
use Rattle.wire_rows.proofs.Moved.{moves_then, moves_front, shift}
use Rattle.wire_rows.proofs.Joins.{no_length}
use Rattle.wire_rows.proofs.Steps.{posted_push}
use Rattle.wire_rows.specs.Exchanges.{PostedAll}
use Rattle.wire_rows.proofs.moving.post_first.Goals as goal

pub loop-out-preserved : goal.loop-out-preserved
loop-out-preserved g c =
    let inv = c.loop-out.invariant in (
      tt,
      tt,
      c.post_to.ensures.of,
      (λ at. moves_then at [] [] c.loop-out.yielded (c.in-Some.out ∷ []) _ _ _ (inv.3 at) (c.post_to.ensures.moves at)),
      shift c.loop-out.yielded c.next.new.self.rest.items c.in-Some.out ∙ ap (λ l. c.loop-out.yielded ++ l) (sym c.in-Some.ensures.steps.0) ∙ inv.4,
      posted_push c.loop-out.yielded c.in-Some.out _ _ _ inv.5 c.post_to.ensures.posted,
    )

pub returns-clause-moves : goal.returns-clause-moves
returns-clause-moves g c at =
    let inv = c.loop-out.invariant in
    moves_front at c.loop-out.yielded c.loop-out.out-iterator.rest.items c.args.frames c.args.most _ _ inv.4 (inv.3 at)

pub returns-clause-posted : goal.returns-clause-posted
returns-clause-posted g c =
    let inv = c.loop-out.invariant in
    let gone : length c.loop-out.out-iterator.rest.items ≡ 0 = search rules in
    let none = no_length c.loop-out.out-iterator.rest.items gone in
    let all = sym (append-nil c.loop-out.yielded) ∙ ap (λ l. c.loop-out.yielded ++ l) (sym none) ∙ inv.4 in
    subst (λ l. PostedAll l (map (λ p. p.seen) c.args.passes.now.items) (map (λ p. p.seen) c.loop-out.passes.items)) all inv.5
