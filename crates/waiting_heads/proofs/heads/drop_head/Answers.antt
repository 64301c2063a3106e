use Rattle.std.proofs.Common.{◌∙◌, arith}
use Rattle.waiting_heads.proofs.Turns.{drop_more, drop_all}
use Rattle.waiting_heads.proofs.heads.drop_head.Goals as goal

pub frames-preserved : goal.frames-preserved
frames-preserved c =
    let inv = c.frames.invariant in
    record {
      below = omega (arith, c.frames-test.true);
      frames = drop_more c.frames.counter c.args.waiting.now.frames c.frames.waiting.frames c.discard.new.self.frames inv.frames c.discard.ensures.frames;
      room = omega (arith, inv.room, c.discard.ensures.room);
    }

pub returns-clause-frames : goal.returns-clause-frames
returns-clause-frames c = c.frames.invariant.frames ∙ drop_all c.frames.counter 1024 c.args.waiting.now.frames (omega (arith, c.frames.invariant.below, c.frames-test.false))
