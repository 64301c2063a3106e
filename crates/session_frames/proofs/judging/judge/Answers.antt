use Rattle.std.proofs.Common.{sym, subst}
use Rattle.session_frames.specs.Items.{GoesFurther}
use Rattle.session_frames.proofs.Further.{further}
use Rattle.session_frames.proofs.judging.judge.Goals as goal

pub returns-in-Ok-clause-further : goal.returns-in-Ok-clause-further
returns-in-Ok-clause-further c = λ answered. subst (λ j. GoesFurther c.args.identity.now c.args.sessions.now.list j) (sym c.judge_frame.ensures) (further c.args.identity.now c.args.sessions.now.list c.in-Ok.frame c.in-Ok.ensures.whole.0 answered)
