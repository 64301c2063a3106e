use Rattle.std.proofs.Common.{◌≡◌, ◌-◌, arith, length, take, drop, length-drop, sym, ap, ◌∙◌}
use Rattle.std.proofs.Math.Seq.{take-length}
use Rattle.outside.proofs.Pieces.{Appends-more}
use Rattle.node_shell.proofs.streams.write_all.Goals as goal

pub pieces-preserved : goal.pieces-preserved
pieces-preserved g c =
    let all : take (length c.args.bytes.now - c.pieces.done) (drop c.pieces.done c.args.bytes.now) ≡ drop c.pieces.done c.args.bytes.now =
    ap (λ n. take n (drop c.pieces.done c.args.bytes.now)) (sym (length-drop c.pieces.done c.args.bytes.now)) ∙ take-length _ in
    record {
      within = let bound = rw all at c.in_ok-done.ensures.bound in omega (arith, bound, length-drop c.pieces.done c.args.bytes.now);
      written = Appends-more _ _ _ c.pieces.done c.in_ok-done.field-0 c.args.bytes.now c.pieces.invariant.written (rw all at c.in_ok-done.ensures.bytes);
      uncounted = c.in_ok-done.ensures.cause.done ∙ c.pieces.invariant.uncounted;
    }
