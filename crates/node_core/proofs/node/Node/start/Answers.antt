use Rattle.std.proofs.Common.{◌≡◌, Err, None, true, sym, ◌∙◌, ap, subst}
use Rattle.net_base.specs.declared.causes.Cause.{Cause}
use Rattle.net_model.specs.Environment.{environment, unjudged}
use Rattle.net_model.specs.Steps.{next_cause}
use Rattle.node_tables.specs.Journals.{state_of}
use Rattle.node_core.specs.declared.faults.StartFault.TheVariants as start_fault
use Rattle.node_core.specs.Journals.{is_full}
use Rattle.node_core.specs.States.{disk_in, journal_in, acked_in, IsWhole, seen_up}
use Rattle.node_core.specs.Seen.{NodeSeen, StartAnswers, Tied}
use Rattle.node_core.proofs.Nodes.{start_full}
use Rattle.node_core.proofs.node.Node.start.Goals as goal

pub returns-then-is_full-clause-start : goal.returns-then-is_full-clause-start
returns-then-is_full-clause-start g c =
    let id = c.self.inside.identity in
    let here : seen_up id c.in-Up.up ≡ c.args.self.now = ap (λ s. record { identity = id; disk = disk_in g.D.Disk.seen s; journal = journal_in s; acked = acked_in s }) (sym c.in-Up.is) ∙ c.self.view_is in
    let tied : Tied id c.in-Up.up.journal c.in-Up.up.bodies = subst (IsWhole id) c.in-Up.is c.self.invariant.1 in
    let full : is_full g.F.Spelt.reading 0 c.in-Up.up.bodies ≡ true = sym (c.is_full.ensures id tied) ∙ c.if-is_full.true in
    subst (λ (o : NodeSeen). StartAnswers (environment (unjudged g.F.FlowSet.machine g.F.Spelt.reading) o.identity) c.args.now.0 c.args.class c.args.args.now o (Err start_fault.Full) (seen_up id c.in-Up.up)) here
    (start_full g.F.FlowSet.machine g.F.Spelt.reading c.args.now.0 c.args.class c.args.args.now id c.in-Up.up c.in_ok-step.ensures.2 full)

pub commit_alone-requires-clause-room : goal.commit_alone-requires-clause-room
commit_alone-requires-clause-room g c =
    let id = c.self.inside.identity in
    let tied : Tied id c.in-Up.up.journal c.in-Up.up.bodies = subst (IsWhole id) c.in-Up.is c.self.invariant.1 in
    sym (c.is_full.ensures id tied) ∙ c.if-is_full.false

pub commit_alone-requires-clause-cause : goal.commit_alone-requires-clause-cause
commit_alone-requires-clause-cause g c =
    let s = state_of g.F.Spelt.reading c.in-Up.up.bodies in
    let is = c.in_ok-step.ensures.0 in
    is ∙ sym (ap (λ (k : Cause). next_cause s c.args.now.0 k.event None) is)
