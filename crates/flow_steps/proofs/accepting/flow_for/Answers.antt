use Rattle.std.proofs.Common.{◌≡◌, ◌<◌, ◌^◌, Some, sym, subst, arith}
use Rattle.flow_machine.specs.Flows.{AreWithin}
use Rattle.flow_machine.specs.Limits.{IsPlace}
use Rattle.flow_steps.proofs.Performs.{place_limits}
use Rattle.flow_steps.proofs.Commits.{begun_within}
use Rattle.flow_steps.proofs.accepting.flow_for.Goals as goal

pub returns-in_ok-state-in-Ok-clause-within : goal.returns-in_ok-state-in-Ok-clause-within
returns-in_ok-state-in-Ok-clause-within g c =
    let id = c.args.identity.now in
    let made : g.F.FlowSet.machine.begun c.in-Init.class c.args.key.now c.place_of.result ≡ Some (c.in-Ok.top, c.in-Ok.waiting) = c.in-Ok.ensures in
    let limits = subst (λ at. IsPlace at) (sym c.place_of.ensures) (place_limits id c.args.number 0 c.args.now c.requires.identity c.ranges.number.fits (omega arith) c.law_known.ensures) in
    let within : AreWithin g.F.Spelt.within (c.in-Ok.top, c.in-Ok.waiting) = g.met.F.FlowSet.keeps_limits.begun c.in-Init.class c.args.key.now c.place_of.result (c.in-Ok.top, c.in-Ok.waiting) c.requires.key limits made in
    let few : c.in-Init.class < 2 ^ 16 = (rw c.in-Init.is at c.requires.body).0 in
    rw c.in_ok-state-in-Ok.ensures (begun_within g.F.Spelt.within c.args.number c.in-Init.class (c.in-Ok.top, c.in-Ok.waiting) c.ranges.number.fits few within)
