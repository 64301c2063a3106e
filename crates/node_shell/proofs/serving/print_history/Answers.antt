use Rattle.std.proofs.Common.{length, sym, ◌∙◌, ap, arith}
use Rattle.std.proofs.lemmas.List.{length-map}
use Rattle.net_model.specs.Runs.{merged}
use Rattle.net_model.specs.Print.{history_text}
use Rattle.node_shell.specs.declared.replies.Reply.TheVariants.{Printed}
use Rattle.node_shell.specs.Responds.{causes_up}
use Rattle.node_shell.proofs.Shown.{lent_lists, up_count, history_none, history_some}
use Rattle.node_shell.proofs.serving.print_history.Goals as goal

pub history_text-requires : goal.history_text-requires
history_text-requires g c =
    let lists = c.in-Some.lists.items in
    let count = up_count g.F.Spelt.reading c.nodes.result.now (lent_lists lists) (sym (rw c.in-Some.is at c.in_ok-all_causes.ensures)) in
    record { few = omega (arith, count, length-map lists (λ l. l.now), c.nodes.ensures.few, ap length c.as_slice.ensures.value) }

pub returns-in-None-clause-asks : goal.returns-in-None-clause-asks
returns-in-None-clause-asks g c =
    let none = rw c.in-None.is at c.in_ok-all_causes.ensures in
    history_none g.F.Spelt.reading c.args.net.now c.refused.result (sym (ap (λ l. causes_up g.F.Spelt.reading l) c.nodes.ensures.nodes) ∙ sym none) c.refused.ensures

pub returns-in_ok-history_text-in-Some-clause-asks : goal.returns-in_ok-history_text-in-Some-clause-asks
returns-in_ok-history_text-in-Some-clause-asks g c =
    let some = rw c.in-Some.is at c.in_ok-all_causes.ensures in
    history_some g.F.Spelt.reading c.args.net.now (Printed c.in_ok-history_text-in-Some.field-0) (lent_lists c.in-Some.lists.items) (sym (ap (λ l. causes_up g.F.Spelt.reading l) c.nodes.ensures.nodes) ∙ sym some)
    (c.in_ok-history_text-in-Some.ensures ∙ ap (λ l. history_text (merged (lent_lists l))) c.as_slice.ensures.value)
