use Rattle.std.proofs.Common.{◌∙◌, ℕ, List, sym, ap}
use Rattle.std.proofs.lemmas.Result.{err_from_is_err_and}
use Rattle.net_base.proofs.Lists.{all_push}
use Rattle.ledger_types.specs.Tears.{whole, spelt_by}
use Rattle.tx_tear.proofs.Spelling.{goes_on, stops, ends, fails}
use Rattle.tx_tear.proofs.reading.read_parts.Goals as goal

pub loop-part-preserved : goal.loop-part-preserved
loop-part-preserved g c =
    let reading = g.T.Spelt.reading in
    let within = g.T.Spelt.within in
    let value = c.in_ok-read_whole.field-0 in
    let read = ap (λ (b : List ℕ). whole (reading b)) (sym c.as_slice.ensures) ∙ c.in_ok-read_whole.ensures.tells in
    record {
      tells = rw c.in_ok-push.ensures.items (goes_on reading c.loop-part.items.items c.args.parts.now c.loop-part.part-index c.part-item.result value (spelt_by reading c.args.parts.now) c.loop-part-test.true c.part-item.is read c.loop-part.invariant.tells);
      limits = rw c.in_ok-push.ensures.items (all_push within c.loop-part.items.items value c.loop-part.invariant.limits c.in_ok-read_whole.ensures.limits);
    }

pub returns-clause-tells : goal.returns-clause-tells
returns-clause-tells g c =
    let reading = g.T.Spelt.reading in
    rw c.from_vec.ensures (ends reading c.loop-part.items.items c.args.parts.now c.loop-part.part-index (spelt_by reading c.args.parts.now) c.loop-part-test.false c.loop-part.invariant.tells)

pub returns-clause-limits : goal.returns-clause-limits
returns-clause-limits g c = rw c.from_vec.ensures c.loop-part.invariant.limits

pub returns-in_err-read_whole-clause-tells : goal.returns-in_err-read_whole-clause-tells
returns-in_err-read_whole-clause-tells g c =
    let reading = g.T.Spelt.reading in
    let r = c.from_residual-in_err-read_whole in
    let p = err_from_is_err_and r.result r.ensures.1 in
    let all = spelt_by reading c.args.parts.now in
    let part = c.part-item.result in
    let same = ap (λ (b : List ℕ). whole (reading b)) (sym c.as_slice.ensures) in
    rw (p.1, p.2) (fails c.in_err-read_whole.field-0.0 (whole (reading c.as_slice.result.now)) all (λ h. stops reading c.loop-part.items.items c.args.parts.now c.loop-part.part-index part all c.loop-part-test.true c.part-item.is (same ∙ h) c.loop-part.invariant.tells) c.in_err-read_whole.ensures.tells)
