use Rattle.std.proofs.Common.{◌≡◌, ◌≤◌, Ok, length, sym, ap, subst, arith, refl}
use Rattle.flow_machine.specs.Flows.{AreWithin}
use Rattle.flow_machine.specs.Limits.{IsPlace}
use Rattle.net_base.specs.declared.causes.Event.TheVariants as event
use Rattle.net_base.proofs.Options.{of_ok}
use Rattle.net_model.specs.Environment.{environment, unjudged}
use Rattle.flow_steps.proofs.Performs.{place_limits}
use Rattle.flow_steps.proofs.Commits.{begun_ready}
use Rattle.flow_steps.proofs.ready.begin.Goals as goal

pub returns : goal.returns
returns g c = λ s same.
    let m = g.F.FlowSet.machine in
    let id = c.args.identity.now in
    let here = c.place_of.result in
    let made : m.made c.args.class c.args.args.now here ≡ Ok (c.in_ok-top.top, c.in_ok-top.waiting) = c.in_ok-top.ensures in
    let limits = subst (λ at. IsPlace at) (sym c.place_of.ensures) (place_limits id c.args.number 0 c.args.now c.requires c.ranges.number.fits (omega arith) c.law_known.ensures) in
    let within : AreWithin g.F.Spelt.within (c.in_ok-top.top, c.in_ok-top.waiting) = g.met.F.FlowSet.keeps_limits.made c.args.class c.args.args.now here (c.in_ok-top.top, c.in_ok-top.waiting) (rw c.as_slice.ensures at c.law_known_bytes.ensures) limits made in
    let short : length c.args.args.now ≤ 65535 = of_ok _ (m.made c.args.class c.args.args.now here) _ made (g.met.F.FlowSet.args_are_short.made c.args.class c.args.args.now here) in
    let at_place = rw c.place_of.ensures at made in
    rw (c.step_of.ensures, c.in-Ok.ensures, c.in-Ok-first_state.ensures) (
      ap (λ n. record { stamp = c.args.stamp; moment = c.args.now; event = event.Start n c.args.class c.args.args.now }) (sym same),
      begun_ready (environment (unjudged m g.F.Spelt.reading) id) id.party.0 c.args.stamp c.args.now g.F.Spelt.within c.args.class c.args.number c.args.args.now (c.in_ok-top.top, c.in_ok-top.waiting) c.unchanged-session.result c.ranges.number.fits c.ranges.class.fits at_place within short c.unchanged-session.ensures s same,
      rw (same, at_place) refl,
    )
