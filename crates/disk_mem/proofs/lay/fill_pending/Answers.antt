use Rattle.std.proofs.Common.{get_or, sym}
use Rattle.std.proofs.lemmas.List.{get_or_default}
use Rattle.disk_mem.proofs.Ranges.{filled_more}
use Rattle.disk_mem.proofs.lay.fill_pending.Goals as goal

pub loop-range-preserved : goal.loop-range-preserved
loop-range-preserved c =
    let k = c.loop-range.range-index in
    let ts = c.args.pending.now in
    let r = get_or ts k (0, 0) in
    record {
      filled = filled_more ts k r c.args.content.now c.loop-range.content c.fill_range.new.content c.loop-range-test.true (sym (get_or_default ts k r (0, 0) c.loop-range-test.true)) c.loop-range.invariant.filled
          c.fill_range.auto.content c.fill_range.ensures.within c.fill_range.ensures.beside;
    }
