use Rattle.net_model.specs.Environment.{meaning}
use Rattle.std.proofs.Common.{map, string_bytes}
use Rattle.flow_machine.specs.declared.flow_set.WordFault.TheVariants as word
use Rattle.shell_words.specs.declared.commands.Command.TheVariants as command
use Rattle.node_shell.specs.Lines.{start_step, started_by, node_at}
use Rattle.node_shell.specs.Responds.{given, recorded_seen}
use Rattle.node_shell.proofs.Asked.{started, unstarted, start_responds, none_responds, unbegun}
use Rattle.node_shell.proofs.serving.start.Goals as goal

pub returns-in-Ok-clause-serves : goal.returns-in-Ok-clause-serves
returns-in-Ok-clause-serves g c =
    let ws = map (λ s. string_bytes s) c.args.words.now in
    started (meaning g.F.FlowSet.machine g.F.Spelt.reading (g.J.Judge.judges c.args.contracts.now)) c.args.net.now c.make.new.net c.args.node ws c.in-Ok.class c.in-Ok.args c.make.result (rw c.node_at-place.ensures at c.in-Ok.ensures)
    (rw c.node_at-place.ensures at c.make.ensures.serves)

pub returns-in-Ok-clause-responds : goal.returns-in-Ok-clause-responds
returns-in-Ok-clause-responds g c =
    let ws = map (λ s. string_bytes s) c.args.words.now in
    start_responds (meaning g.F.FlowSet.machine g.F.Spelt.reading (g.J.Judge.judges c.args.contracts.now)) c.args.net.now c.make.new.net c.args.node ws c.in-Ok.class c.in-Ok.args (given c.make.result) (rw c.node_at-place.ensures at c.in-Ok.ensures)
    (rw c.node_at-place.ensures at c.make.ensures.responds)

pub returns-in-Err-UnknownClass-clause-serves : goal.returns-in-Err-UnknownClass-clause-serves
returns-in-Err-UnknownClass-clause-serves g c =
    let ws = map (λ s. string_bytes s) c.args.words.now in
    unstarted (meaning g.F.FlowSet.machine g.F.Spelt.reading (g.J.Judge.judges c.args.contracts.now)) c.args.net.now c.args.node ws word.UnknownClass c.refuse_at.result (rw (c.in-Err-UnknownClass.field-0-is, c.node_at-place.ensures) at c.in-Err-UnknownClass.ensures)
    (rw c.node_at-place.ensures at c.refuse_at.ensures.asks)

pub returns-in-Err-UnknownClass-clause-responds : goal.returns-in-Err-UnknownClass-clause-responds
returns-in-Err-UnknownClass-clause-responds g c =
    let ws = map (λ s. string_bytes s) c.args.words.now in
    none_responds (meaning g.F.FlowSet.machine g.F.Spelt.reading (g.J.Judge.judges c.args.contracts.now)) c.args.net.now c.args.node ws word.UnknownClass c.refuse_at.result (rw (c.in-Err-UnknownClass.field-0-is, c.node_at-place.ensures) at c.in-Err-UnknownClass.ensures)
    (rw c.node_at-place.ensures at c.refuse_at.ensures.asks)

pub returns-in-Err-BadArgs-clause-serves : goal.returns-in-Err-BadArgs-clause-serves
returns-in-Err-BadArgs-clause-serves g c =
    let ws = map (λ s. string_bytes s) c.args.words.now in
    unstarted (meaning g.F.FlowSet.machine g.F.Spelt.reading (g.J.Judge.judges c.args.contracts.now)) c.args.net.now c.args.node ws word.BadArgs c.refuse_at-in-Err-BadArgs.result (rw (c.in-Err-BadArgs.field-0-is, c.node_at-place.ensures) at c.in-Err-BadArgs.ensures)
    (rw c.node_at-place.ensures at c.refuse_at-in-Err-BadArgs.ensures.asks)

pub returns-in-Err-BadArgs-clause-responds : goal.returns-in-Err-BadArgs-clause-responds
returns-in-Err-BadArgs-clause-responds g c =
    let ws = map (λ s. string_bytes s) c.args.words.now in
    none_responds (meaning g.F.FlowSet.machine g.F.Spelt.reading (g.J.Judge.judges c.args.contracts.now)) c.args.net.now c.args.node ws word.BadArgs c.refuse_at-in-Err-BadArgs.result (rw (c.in-Err-BadArgs.field-0-is, c.node_at-place.ensures) at c.in-Err-BadArgs.ensures)
    (rw c.node_at-place.ensures at c.refuse_at-in-Err-BadArgs.ensures.asks)

pub returns-in-Err-Memory-clause-responds : goal.returns-in-Err-Memory-clause-responds
returns-in-Err-Memory-clause-responds g c =
    let ws = map (λ s. string_bytes s) c.args.words.now in
    unbegun (meaning g.F.FlowSet.machine g.F.Spelt.reading (g.J.Judge.judges c.args.contracts.now)) c.args.net.now (start_step (node_at c.args.node) (started_by g.F.FlowSet.machine (recorded_seen g.F.Spelt.reading c.args.net.now (node_at c.args.node)) ws)) (command.Start c.args.node) ws
