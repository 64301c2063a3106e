use Rattle.std.proofs.Common.{◌≡◌, ◌++◌, ◌∷◌, [], length, ap, ◌∙◌, arith, rules}
use Rattle.wire_rows.proofs.Steps.{pulled_begin, pulled_push}
use Rattle.wire_rows.proofs.draining.drain_one.Goals as goal

pub pulls-init : goal.pulls-init
pulls-init g c = record {
  of = c.requires.of;
  below = omega arith;
  count = ap (λ l. length l) c.requires.room.0;
  room = c.requires.room.1;
  pulled = pulled_begin _ c.args.at c.args.room.items c.requires.room.0;
  whole = λ some s at. absurd (omega (arith, some));
}

pub pulls-preserved : goal.pulls-preserved
pulls-preserved g c =
    let inv = c.pulls.invariant in
    let pushed : c.push.new.self.items ≡ c.pulls.left.items ++ c.in-Some.frame ∷ [] = search rules in
    record {
      of = c.pull_from.ensures.of;
      below = omega (arith, c.pulls-test.true);
      count = search rules;
      room = omega (arith, inv.room, c.push.ensures.capacity);
      pulled = pulled_push c.args.at c.pulls.left.items c.push.new.self.items c.in-Some.frame _ _ _ pushed inv.pulled c.in-Some.ensures.pulled;
      whole = λ some s at. c.pull_from.ensures.whole s at;
    }

pub returns-in-None-clause-pulled : goal.returns-in-None-clause-pulled
returns-in-None-clause-pulled g c = c.in-None.ensures.none ∙ c.pulls.invariant.pulled
