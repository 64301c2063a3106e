use Rattle.std.proofs.Common.{◌≡◌, ◌∙◌, Some, rules, slice_get}
use Rattle.waiting_heads.proofs.Turns.{take_more, take_least}
use Rattle.waiting_heads.proofs.heads.head_of.Goals as goal

pub frames-preserved : goal.frames-preserved
frames-preserved c =
    let inv = c.frames.invariant in
    let at : slice_get c.args.waiting.now.frames c.frames.at ≡ Some c.in_ok-from_slice.field-0 = search rules in
    record {
      below = search rules;
      front = c.in_ok-push.ensures.ok ∙ take_more c.frames.at c.args.waiting.now.frames c.frames.head c.in_ok-from_slice.field-0 at inv.front;
    }

pub returns-clause-head : goal.returns-clause-head
returns-clause-head c = c.frames.invariant.front ∙ take_least 1024 c.frames.at c.args.waiting.now.frames (search rules)
