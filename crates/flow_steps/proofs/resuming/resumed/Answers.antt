use Rattle.std.proofs.Common.{sym, subst}
use Rattle.flow_machine.specs.Limits.{IsPlace}
use Rattle.flow_steps.proofs.Performs.{place_limits}
use Rattle.flow_steps.proofs.resuming.resumed.Goals as goal

pub resume-requires-clause-place : goal.resume-requires-clause-place
resume-requires-clause-place g c =
    let at = c.args.at.now in
    subst (λ here. IsPlace here) (sym c.place_of-here.ensures) (place_limits c.args.identity.now at.flow at.step c.args.now c.requires.identity c.requires.limits.0 c.requires.limits.1.0 c.law_known.ensures)
