use Rattle.std.proofs.Common.{◌≡◌, ◌+◌, ◌<◌, ◌++◌, ◌∷◌, [], length, map, subst, arith, rules}
use Rattle.wire_rows.specs.Rows.{AreRows, Spread, given_of}
use Rattle.wire_rows.proofs.Spreading.{shares_step, spread_step, all_pushed, given_step}
use Rattle.wire_rows.proofs.making.rows_of.Goals as goal

pub rows-preserved : goal.rows-preserved
rows-preserved c =
    let inv = c.rows.invariant in
    let pushed : c.push.new.self.items ≡ c.rows.rows.items ++ c.in_ok-rest.row ∷ [] = search rules in
    let len : length c.push.new.self.items ≡ length c.rows.rows.items + 1 = search rules in
    let few : c.rows.counter < 16 = omega (arith, c.rows-test.true, c.requires.few) in
    record {
      below = omega (arith, c.rows-test.true);
      count = omega (arith, len, inv.count);
      of = c.in_ok-rest.ensures.own;
      shares = shares_step c.rows.kept.items c.in_ok-rest.rest.items c.rows.counter c.in_ok-rest.ensures.fewer few inv.shares;
      rows = all_pushed _ c.rows.rows.items c.push.new.self.items c.in_ok-rest.row pushed inv.rows (c.in_ok-rest.ensures.row, c.in_ok-rest.ensures.fresh);
      kept = given_step c.args.own.items c.rows.kept.items c.in_ok-rest.rest.items c.rows.counter inv.kept c.in_ok-rest.ensures.fewer;
      spread = λ waited first. spread_step waited c.rows.kept.items c.in_ok-rest.rest.items c.rows.counter c.in_ok-rest.ensures.fewer few (inv.spread waited first);
    }

pub returns-clause-spread : goal.returns-clause-spread
returns-clause-spread c waited first =
    let inv = c.rows.invariant in
    let all : c.rows.counter ≡ c.args.count = omega (arith, inv.below, c.rows-test.false) in
    subst (λ n. Spread waited n (map (λ p. p.seen) c.rows.kept.items)) all (inv.spread waited first)

pub returns-clause-rows : goal.returns-clause-rows
unfolding AreRows
returns-clause-rows c = c.rows.invariant.rows

pub returns-clause-kept : goal.returns-clause-kept
returns-clause-kept c =
    let inv = c.rows.invariant in
    let all : c.rows.counter ≡ c.args.count = omega (arith, inv.below, c.rows-test.false) in
    subst (λ n. map (λ p. p.seen) c.rows.kept.items ≡ map (λ p. given_of n p.seen) c.args.own.items) all inv.kept
