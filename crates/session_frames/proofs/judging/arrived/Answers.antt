use Rattle.std.proofs.Common.{◌∙◌, ap, ℕ, Option}
use Rattle.std.specs.Option.{unwrap_or}
use Rattle.session_frames.proofs.Routes.{arrived_is}
use Rattle.session_frames.proofs.judging.arrived.Goals as goal

pub returns : goal.returns
returns c = c.unwrap_or.ensures ∙ ap (λ (o : Option ℕ). unwrap_or o 0) c.expected.ensures ∙ arrived_is c.args.sessions.now.party c.args.key.now c.args.direction c.args.sessions.now.list c.requires
