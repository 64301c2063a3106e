use Rattle.net_model.specs.Environment.{meaning}
use Rattle.std.proofs.Common.{ℕ, true, List, length, sym, ◌∙◌, ap, ap₂, subst, arith}
use Rattle.std.specs.Prelude.{is_some}
use Rattle.std.specs.List.{list_all}
use Rattle.node_core.specs.Seen.{NodeSeen}
use Rattle.network_core.specs.declared.steps.Step.{Step}
use Rattle.node_shell.specs.declared.replies.Reply.TheVariants.{Printed}
use Rattle.node_shell.specs.Loads.{Breaks, Pays, PaysShort, all_but, issues_by, deals_of, then_drain}
use Rattle.node_shell.specs.Responds.{net_states}
use Rattle.node_shell.proofs.LoadEnds.{few_but, down_refused, few_refused, issues_short, payments_short, text_short, told_whole}
use Rattle.node_shell.proofs.loads.load.Goals as goal

pub returns-then-not-are_up-clause-goes : goal.returns-then-not-are_up-clause-goes
returns-then-not-are_up-clause-goes g c =
    let m = meaning g.F.FlowSet.machine g.F.Spelt.reading (g.J.Judge.judges c.args.contracts.now) in
    let up = c.are_up.ensures ∙ ap (λ (l : List NodeSeen). list_all (λ (n : NodeSeen). is_some n.journal) l) c.nodes.ensures.nodes in
    down_refused m c.args.seed c.args.count c.args.net.now c.refused.result (sym up ∙ c.if-not-are_up.true) c.refused.ensures

pub returns-then-len-lt2-clause-goes : goal.returns-then-len-lt2-clause-goes
returns-then-len-lt2-clause-goes g c =
    let m = meaning g.F.FlowSet.machine g.F.Spelt.reading (g.J.Judge.judges c.args.contracts.now) in
    let up = c.are_up.ensures ∙ ap (λ (l : List NodeSeen). list_all (λ (n : NodeSeen). is_some n.journal) l) c.nodes.ensures.nodes in
    let nodes = c.in_ok-nodes.nodes.items in
    let own = c.in_ok-nodes.ensures ∙ ap₂ all_but c.notary_of.ensures (ap (λ (l : List NodeSeen). length l) c.nodes-2.ensures.nodes) in
    few_refused m c.args.seed c.args.count c.args.net.now nodes (sym up ∙ c.if-not-are_up.false) own c.refused-then-len-lt2.result
    (omega (arith, c.if-len-lt2.true, c.len.ensures, c.in_ok-nodes.nodes.ok.0)) c.refused-then-len-lt2.ensures

pub returns-in_err-start_and_drain-clause-goes : goal.returns-in_err-start_and_drain-clause-goes
returns-in_err-start_and_drain-clause-goes g c =
    let m = meaning g.F.FlowSet.machine g.F.Spelt.reading (g.J.Judge.judges c.args.contracts.now) in
    let up = c.are_up.ensures ∙ ap (λ (l : List NodeSeen). list_all (λ (n : NodeSeen). is_some n.journal) l) c.nodes.ensures.nodes in
    let nodes = c.in_ok-nodes.nodes.items in
    let own = c.in_ok-nodes.ensures ∙ ap₂ all_but c.notary_of.ensures (ap (λ (l : List NodeSeen). length l) c.nodes-2.ensures.nodes) in
    let issued = c.in_ok-issued.ensures ∙ ap (issues_by g.F.FlowSet.machine) c.as_slice.ensures.value in
    issues_short m c.args.seed c.args.count c.args.net.now nodes (sym up ∙ c.if-not-are_up.false) own (omega (arith, c.if-len-lt2.false, c.len.ensures, c.in_ok-nodes.nodes.ok.0))
    c.from_residual-in_err-start_and_drain.result c.start_and_drain.new.net c.from_residual-in_err-start_and_drain.ensures.0
    (subst (λ (l : List Step). Breaks (net_states m) (then_drain l) c.args.net.now c.start_and_drain.new.net) issued c.in_err-start_and_drain.ensures.err)

pub pay_all-requires : goal.pay_all-requires
pay_all-requires g c =
    let same = ap (λ (l : List ℕ). length l) c.as_slice-2.ensures.value in
    let all = ap (λ (l : List ℕ). length l) c.in_ok-nodes.ensures in
    let few = few_but c.notary_of.result (length c.nodes-2.result.now) in
    (omega (arith, same, c.if-len-lt2.false, c.len.ensures, c.in_ok-nodes.nodes.ok.0), omega (arith, same, all, few, c.nodes-2.ensures.few))

pub returns-in_err-paid-clause-goes : goal.returns-in_err-paid-clause-goes
returns-in_err-paid-clause-goes g c =
    let m = meaning g.F.FlowSet.machine g.F.Spelt.reading (g.J.Judge.judges c.args.contracts.now) in
    let up = c.are_up.ensures ∙ ap (λ (l : List NodeSeen). list_all (λ (n : NodeSeen). is_some n.journal) l) c.nodes.ensures.nodes in
    let nodes = c.in_ok-nodes.nodes.items in
    let own = c.in_ok-nodes.ensures ∙ ap₂ all_but c.notary_of.ensures (ap (λ (l : List NodeSeen). length l) c.nodes-2.ensures.nodes) in
    let issued = c.in_ok-issued.ensures ∙ ap (issues_by g.F.FlowSet.machine) c.as_slice.ensures.value in
    let outcomes = c.in_ok-start_and_drain.field-0.items in
    let funded = c.start_and_drain.new.net in
    payments_short m c.args.seed c.args.count c.args.net.now nodes (sym up ∙ c.if-not-are_up.false) own (omega (arith, c.if-len-lt2.false, c.len.ensures, c.in_ok-nodes.nodes.ok.0)) outcomes funded
    (subst (λ (l : List Step). (net_states m).follows (then_drain l) outcomes true c.args.net.now funded) issued c.in_ok-start_and_drain.ensures.ok)
    c.from_residual-in_err-paid.result c.pay_all.new.net c.from_residual-in_err-paid.ensures.0
    (subst (λ (l : List ℕ). PaysShort (net_states m) (deals_of g.F.FlowSet.machine l c.args.seed c.args.count) funded c.pay_all.new.net) c.as_slice-2.ensures.value c.in_err-paid.ensures.err)

pub returns-in_err-load_text-clause-goes : goal.returns-in_err-load_text-clause-goes
returns-in_err-load_text-clause-goes g c =
    let m = meaning g.F.FlowSet.machine g.F.Spelt.reading (g.J.Judge.judges c.args.contracts.now) in
    let up = c.are_up.ensures ∙ ap (λ (l : List NodeSeen). list_all (λ (n : NodeSeen). is_some n.journal) l) c.nodes.ensures.nodes in
    let nodes = c.in_ok-nodes.nodes.items in
    let own = c.in_ok-nodes.ensures ∙ ap₂ all_but c.notary_of.ensures (ap (λ (l : List NodeSeen). length l) c.nodes-2.ensures.nodes) in
    let issued = c.in_ok-issued.ensures ∙ ap (issues_by g.F.FlowSet.machine) c.as_slice.ensures.value in
    let outcomes = c.in_ok-start_and_drain.field-0.items in
    let funded = c.start_and_drain.new.net in
    text_short m c.args.seed c.args.count c.args.net.now nodes (sym up ∙ c.if-not-are_up.false) own (omega (arith, c.if-len-lt2.false, c.len.ensures, c.in_ok-nodes.nodes.ok.0)) outcomes funded
    (subst (λ (l : List Step). (net_states m).follows (then_drain l) outcomes true c.args.net.now funded) issued c.in_ok-start_and_drain.ensures.ok)
    c.from_residual-in_err-load_text.result c.pay_all.new.net c.in_ok-paid.paid c.from_residual-in_err-load_text.ensures.0
    (subst (λ (l : List ℕ). Pays (net_states m) (deals_of g.F.FlowSet.machine l c.args.seed c.args.count) c.in_ok-paid.paid funded c.pay_all.new.net) c.as_slice-2.ensures.value c.in_ok-paid.ensures.ok)

pub returns-clause-goes : goal.returns-clause-goes
returns-clause-goes g c =
    let m = meaning g.F.FlowSet.machine g.F.Spelt.reading (g.J.Judge.judges c.args.contracts.now) in
    let up = c.are_up.ensures ∙ ap (λ (l : List NodeSeen). list_all (λ (n : NodeSeen). is_some n.journal) l) c.nodes.ensures.nodes in
    let nodes = c.in_ok-nodes.nodes.items in
    let own = c.in_ok-nodes.ensures ∙ ap₂ all_but c.notary_of.ensures (ap (λ (l : List NodeSeen). length l) c.nodes-2.ensures.nodes) in
    let issued = c.in_ok-issued.ensures ∙ ap (issues_by g.F.FlowSet.machine) c.as_slice.ensures.value in
    let outcomes = c.in_ok-start_and_drain.field-0.items in
    let funded = c.start_and_drain.new.net in
    told_whole m c.args.seed c.args.count c.args.net.now nodes (sym up ∙ c.if-not-are_up.false) own (omega (arith, c.if-len-lt2.false, c.len.ensures, c.in_ok-nodes.nodes.ok.0)) outcomes funded
    (subst (λ (l : List Step). (net_states m).follows (then_drain l) outcomes true c.args.net.now funded) issued c.in_ok-start_and_drain.ensures.ok)
    c.pay_all.new.net c.in_ok-paid.paid (Printed c.in_ok-load_text.field-0)
    (subst (λ (l : List ℕ). Pays (net_states m) (deals_of g.F.FlowSet.machine l c.args.seed c.args.count) c.in_ok-paid.paid funded c.pay_all.new.net) c.as_slice-2.ensures.value c.in_ok-paid.ensures.ok)
    c.in_ok-load_text.ensures
