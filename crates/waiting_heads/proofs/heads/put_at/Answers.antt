use Rattle.std.proofs.Common.{ap, arith, length}
use Rattle.waiting_heads.proofs.Turns.{drop_length}
use Rattle.waiting_heads.proofs.heads.put_at.Goals as goal

pub put_first-requires : goal.put_first-requires
put_first-requires c =
    let len = ap (λ l. length l) c.drop_head.ensures.frames in
    omega (arith, c.requires.few, c.requires.room, c.drop_head.ensures.room, len, drop_length 1024 c.args.waiting.now.frames)
