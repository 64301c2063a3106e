use Rattle.std.proofs.Common.{◌≡◌, ◌++◌, ◌∷◌, ◌+◌, [], ◌∙◌, ap, sym, subst, length, length-append, arith, rules}
use Rattle.std.specs.List.{AllByRecursion}
use Rattle.wire_rows.specs.Ends.{IsRoom}
use Rattle.wire_rows.proofs.Moved.{moves_then, shift}
use Rattle.wire_rows.proofs.Drains.{drained_push, moves_any}
use Rattle.wire_rows.proofs.Steps.{moves_pulled}
use Rattle.wire_rows.proofs.Spreading.{all_pushed}
use Rattle.wire_rows.proofs.draining.drain_all.Goals as goal

pub lists-preserved : goal.lists-preserved
lists-preserved g c =
    let inv = c.lists.invariant in
    let all = ap (λ l. c.lists.yielded ++ l) (sym c.in-Some.ensures.steps.0) ∙ inv.all in
    let pushed : c.push.new.self.items ≡ c.lists.lists.items ++ c.drain_one-left.result ∷ [] = search rules in
    let len : length c.push.new.self.items ≡ length c.lists.lists.items + 1 = search rules in
    let at : c.len.result ≡ length c.lists.lists.items = search rules in
    record {
      can_next = tt;
      is_finite = tt;
      all = shift c.lists.yielded c.next.new.self.rest.items c.in-Some.list ∙ all;
      rooms = (subst (AllByRecursion IsRoom) c.in-Some.ensures.steps.0 inv.rooms).1;
      of = c.drain_one-left.ensures.of;
      count = omega (arith, len, inv.count, length-append c.lists.yielded (c.in-Some.list ∷ []));
      few = all_pushed _ c.lists.lists.items c.push.new.self.items c.drain_one-left.result pushed inv.few c.drain_one-left.ensures.few;
      room = omega (arith, inv.room, c.push.ensures.capacity);
      moves = λ place. moves_then place [] [] [] [] _ _ _ (inv.moves place) (moves_any c.len.result place _ [] _ _ (moves_pulled c.len.result _ _ _ c.drain_one-left.ensures.pulled));
      left = drained_push c.len.result c.lists.lists.items c.push.new.self.items c.drain_one-left.result _ _ _ pushed at inv.left c.drain_one-left.ensures.pulled c.drain_one-left.ensures.emptied c.drain_one-left.ensures.whole;
    }
