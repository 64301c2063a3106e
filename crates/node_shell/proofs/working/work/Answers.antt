use Rattle.std.proofs.Common.{inl, inr, false, Bool, List, refl, sym, ◌∙◌, ap, subst}
use Rattle.std.specs.Prelude.{is_some}
use Rattle.std.specs.List.{list_all}
use Rattle.net_model.specs.Environment.{meaning}
use Rattle.node_core.specs.Seen.{NodeSeen}
use Rattle.network_core.specs.Worlds.{NetSeen}
use Rattle.flow_workers.specs.Ends.{WorkedOn}
use Rattle.node_shell.proofs.working.work.Goals as goal

pub returns-then-not-are_up-clause-goes : goal.returns-then-not-are_up-clause-goes
returns-then-not-are_up-clause-goes g c =
    let up = c.are_up.ensures ∙ ap (λ (l : List NodeSeen). list_all (λ (n : NodeSeen). is_some n.journal) l) c.nodes.ensures.nodes in
    inl (sym up ∙ c.if-not-are_up.true, c.refused.ensures, refl)

pub returns-then-short-clause-goes : goal.returns-then-short-clause-goes
returns-then-short-clause-goes g c = (c.work_at-worked.ensures.unchanged c.if-short.true).0 ∙ c.replace-whole.ensures.value

pub returns-clause-goes : goal.returns-clause-goes
returns-clause-goes g c =
    let m = meaning g.F.FlowSet.machine g.F.Spelt.reading (g.J.Judge.judges c.args.contracts.now) in
    let up = c.are_up.ensures ∙ ap (λ (l : List NodeSeen). list_all (λ (n : NodeSeen). is_some n.journal) l) c.nodes.ensures.nodes in
    let worked = c.work_at-worked.result in
    let long = subst (λ (short : Bool). WorkedOn m c.replace-whole.result worked.0 worked.1 short) c.if-short.false c.work_at-worked.ensures in
    let work = subst (λ (n : NetSeen). WorkedOn m n worked.0 worked.1 false) c.replace-whole.ensures.value long in
    inr (sym up ∙ c.if-not-are_up.false, (worked.1, work, refl))
