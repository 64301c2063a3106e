use Rattle.std.proofs.Common.{get_or, arith, ⊎_elim, sym, ◌∙◌}
use Rattle.std.proofs.lemmas.List.{get_or_default}
use Rattle.disk_mem.proofs.Ranges.{untouched_more, inside_or_not}
use Rattle.disk_mem.proofs.lay.copy_pending.Goals as goal

pub loop-range-preserved : goal.loop-range-preserved
loop-range-preserved c = record {
  len = omega arith;
  agree = λ i right.
      let k = c.loop-range.range-index in
      let r = get_or c.args.pending.now k (0, 0) in
      let same = sym (get_or_default c.args.pending.now k r (0, 0) c.loop-range-test.true) in
      ⊎_elim
      (λ inner. c.copy_range.ensures.within i inner.0 inner.1)
      (λ out. c.copy_range.ensures.beside i out ∙ c.loop-range.invariant.agree i (λ u. right (untouched_more c.args.pending.now k i r c.loop-range-test.true same u out)))
      (inside_or_not r.0 r.1 i);
}
