use Rattle.net_model.specs.Environment.{meaning}
use Rattle.std.proofs.Common.{refl, map, string_bytes, option_map}
use Rattle.network_core.specs.declared.steps.Step.TheVariants as step
use Rattle.shell_words.specs.declared.commands.Command.TheVariants as command
use Rattle.node_shell.specs.Lines.{node_at, flow_of, frame_of}
use Rattle.node_shell.specs.Responds.{given}
use Rattle.node_shell.proofs.Asked.{made, answered, asked_as, asked_responds, shown_responds}
use Rattle.node_shell.proofs.Loaded.{load_comes, work_comes}
use Rattle.node_shell.proofs.serving.serve.Goals as goal

pub returns-in-Clock-clause-serves : goal.returns-in-Clock-clause-serves
returns-in-Clock-clause-serves g c =
    let m = meaning g.F.FlowSet.machine g.F.Spelt.reading (g.J.Judge.judges c.args.contracts.now) in
    let ws = map (λ s. string_bytes s) c.args.words.now in
    let asked = command.Clock c.in-Clock.to in
    asked_as m c.args.net.now c.make.new.net asked ws c.make.result c.in-Clock.ensures
    (made m c.args.net.now c.make.new.net asked ws (step.Clock (record { 0 = c.in-Clock.to })) c.make.result refl c.make.ensures.serves)

pub returns-in-Clock-clause-responds : goal.returns-in-Clock-clause-responds
returns-in-Clock-clause-responds g c =
    let m = meaning g.F.FlowSet.machine g.F.Spelt.reading (g.J.Judge.judges c.args.contracts.now) in
    let ws = map (λ s. string_bytes s) c.args.words.now in
    let asked = command.Clock c.in-Clock.to in
    asked_responds m c.args.net.now c.make.new.net asked ws (given c.make.result) c.in-Clock.ensures c.make.ensures.responds

pub returns-in-Start-clause-serves : goal.returns-in-Start-clause-serves
returns-in-Start-clause-serves g c =
    let ws = map (λ s. string_bytes s) c.args.words.now in
    asked_as (meaning g.F.FlowSet.machine g.F.Spelt.reading (g.J.Judge.judges c.args.contracts.now)) c.args.net.now c.start.new.net (command.Start c.in-Start.node) ws c.start.result c.in-Start.ensures c.start.ensures.serves

pub returns-in-Start-clause-responds : goal.returns-in-Start-clause-responds
returns-in-Start-clause-responds g c =
    let ws = map (λ s. string_bytes s) c.args.words.now in
    asked_responds (meaning g.F.FlowSet.machine g.F.Spelt.reading (g.J.Judge.judges c.args.contracts.now)) c.args.net.now c.start.new.net (command.Start c.in-Start.node) ws (given c.start.result) c.in-Start.ensures c.start.ensures.responds

pub returns-in-Turn-clause-serves : goal.returns-in-Turn-clause-serves
returns-in-Turn-clause-serves g c =
    let m = meaning g.F.FlowSet.machine g.F.Spelt.reading (g.J.Judge.judges c.args.contracts.now) in
    let ws = map (λ s. string_bytes s) c.args.words.now in
    let asked = command.Turn c.in-Turn.node c.in-Turn.pick in
    asked_as m c.args.net.now c.make-in-Turn.new.net asked ws c.make-in-Turn.result c.in-Turn.ensures
    (made m c.args.net.now c.make-in-Turn.new.net asked ws (step.Turn (node_at c.in-Turn.node) (option_map flow_of c.in-Turn.pick)) c.make-in-Turn.result refl
    (rw (c.node_at.ensures, c.pick_of.ensures) at c.make-in-Turn.ensures.serves))

pub returns-in-Turn-clause-responds : goal.returns-in-Turn-clause-responds
returns-in-Turn-clause-responds g c =
    let m = meaning g.F.FlowSet.machine g.F.Spelt.reading (g.J.Judge.judges c.args.contracts.now) in
    let ws = map (λ s. string_bytes s) c.args.words.now in
    let asked = command.Turn c.in-Turn.node c.in-Turn.pick in
    asked_responds m c.args.net.now c.make-in-Turn.new.net asked ws (given c.make-in-Turn.result) c.in-Turn.ensures (rw (c.node_at.ensures, c.pick_of.ensures) at c.make-in-Turn.ensures.responds)

pub returns-in-Post-clause-serves : goal.returns-in-Post-clause-serves
returns-in-Post-clause-serves g c =
    let m = meaning g.F.FlowSet.machine g.F.Spelt.reading (g.J.Judge.judges c.args.contracts.now) in
    let ws = map (λ s. string_bytes s) c.args.words.now in
    let asked = command.Post c.in-Post.node in
    asked_as m c.args.net.now c.make-in-Post.new.net asked ws c.make-in-Post.result c.in-Post.ensures
    (made m c.args.net.now c.make-in-Post.new.net asked ws (step.Post (node_at c.in-Post.node)) c.make-in-Post.result refl
    (rw c.node_at-node.ensures at c.make-in-Post.ensures.serves))

pub returns-in-Post-clause-responds : goal.returns-in-Post-clause-responds
returns-in-Post-clause-responds g c =
    let m = meaning g.F.FlowSet.machine g.F.Spelt.reading (g.J.Judge.judges c.args.contracts.now) in
    let ws = map (λ s. string_bytes s) c.args.words.now in
    let asked = command.Post c.in-Post.node in
    asked_responds m c.args.net.now c.make-in-Post.new.net asked ws (given c.make-in-Post.result) c.in-Post.ensures (rw c.node_at-node.ensures at c.make-in-Post.ensures.responds)

pub returns-in-Deliver-clause-serves : goal.returns-in-Deliver-clause-serves
returns-in-Deliver-clause-serves g c =
    let m = meaning g.F.FlowSet.machine g.F.Spelt.reading (g.J.Judge.judges c.args.contracts.now) in
    let ws = map (λ s. string_bytes s) c.args.words.now in
    let asked = command.Deliver c.in-Deliver.node c.in-Deliver.place in
    asked_as m c.args.net.now c.make-in-Deliver.new.net asked ws c.make-in-Deliver.result c.in-Deliver.ensures
    (made m c.args.net.now c.make-in-Deliver.new.net asked ws (step.Deliver (node_at c.in-Deliver.node) (frame_of c.in-Deliver.place)) c.make-in-Deliver.result refl
    (rw (c.node_at-in-Deliver.ensures, c.frame_of.ensures) at c.make-in-Deliver.ensures.serves))

pub returns-in-Deliver-clause-responds : goal.returns-in-Deliver-clause-responds
returns-in-Deliver-clause-responds g c =
    let m = meaning g.F.FlowSet.machine g.F.Spelt.reading (g.J.Judge.judges c.args.contracts.now) in
    let ws = map (λ s. string_bytes s) c.args.words.now in
    let asked = command.Deliver c.in-Deliver.node c.in-Deliver.place in
    asked_responds m c.args.net.now c.make-in-Deliver.new.net asked ws (given c.make-in-Deliver.result) c.in-Deliver.ensures (rw (c.node_at-in-Deliver.ensures, c.frame_of.ensures) at c.make-in-Deliver.ensures.responds)

pub returns-in-Repeat-clause-serves : goal.returns-in-Repeat-clause-serves
returns-in-Repeat-clause-serves g c =
    let m = meaning g.F.FlowSet.machine g.F.Spelt.reading (g.J.Judge.judges c.args.contracts.now) in
    let ws = map (λ s. string_bytes s) c.args.words.now in
    let asked = command.Repeat c.in-Repeat.node c.in-Repeat.place in
    asked_as m c.args.net.now c.make-in-Repeat.new.net asked ws c.make-in-Repeat.result c.in-Repeat.ensures
    (made m c.args.net.now c.make-in-Repeat.new.net asked ws (step.Repeat (node_at c.in-Repeat.node) (frame_of c.in-Repeat.place)) c.make-in-Repeat.result refl
    (rw (c.node_at-in-Repeat.ensures, c.frame_of-in-Repeat.ensures) at c.make-in-Repeat.ensures.serves))

pub returns-in-Repeat-clause-responds : goal.returns-in-Repeat-clause-responds
returns-in-Repeat-clause-responds g c =
    let m = meaning g.F.FlowSet.machine g.F.Spelt.reading (g.J.Judge.judges c.args.contracts.now) in
    let ws = map (λ s. string_bytes s) c.args.words.now in
    let asked = command.Repeat c.in-Repeat.node c.in-Repeat.place in
    asked_responds m c.args.net.now c.make-in-Repeat.new.net asked ws (given c.make-in-Repeat.result) c.in-Repeat.ensures (rw (c.node_at-in-Repeat.ensures, c.frame_of-in-Repeat.ensures) at c.make-in-Repeat.ensures.responds)

pub returns-in-Lose-clause-serves : goal.returns-in-Lose-clause-serves
returns-in-Lose-clause-serves g c =
    let m = meaning g.F.FlowSet.machine g.F.Spelt.reading (g.J.Judge.judges c.args.contracts.now) in
    let ws = map (λ s. string_bytes s) c.args.words.now in
    let asked = command.Lose c.in-Lose.node c.in-Lose.place in
    asked_as m c.args.net.now c.make-in-Lose.new.net asked ws c.make-in-Lose.result c.in-Lose.ensures
    (made m c.args.net.now c.make-in-Lose.new.net asked ws (step.Lose (node_at c.in-Lose.node) (frame_of c.in-Lose.place)) c.make-in-Lose.result refl
    (rw (c.node_at-in-Lose.ensures, c.frame_of-in-Lose.ensures) at c.make-in-Lose.ensures.serves))

pub returns-in-Lose-clause-responds : goal.returns-in-Lose-clause-responds
returns-in-Lose-clause-responds g c =
    let m = meaning g.F.FlowSet.machine g.F.Spelt.reading (g.J.Judge.judges c.args.contracts.now) in
    let ws = map (λ s. string_bytes s) c.args.words.now in
    let asked = command.Lose c.in-Lose.node c.in-Lose.place in
    asked_responds m c.args.net.now c.make-in-Lose.new.net asked ws (given c.make-in-Lose.result) c.in-Lose.ensures (rw (c.node_at-in-Lose.ensures, c.frame_of-in-Lose.ensures) at c.make-in-Lose.ensures.responds)

pub returns-in-Cut-clause-serves : goal.returns-in-Cut-clause-serves
returns-in-Cut-clause-serves g c =
    let m = meaning g.F.FlowSet.machine g.F.Spelt.reading (g.J.Judge.judges c.args.contracts.now) in
    let ws = map (λ s. string_bytes s) c.args.words.now in
    let asked = command.Cut c.in-Cut.node c.in-Cut.calls c.in-Cut.outcome in
    asked_as m c.args.net.now c.make-in-Cut.new.net asked ws c.make-in-Cut.result c.in-Cut.ensures
    (made m c.args.net.now c.make-in-Cut.new.net asked ws (step.Cut (node_at c.in-Cut.node) c.in-Cut.calls c.in-Cut.outcome) c.make-in-Cut.result refl
    (rw c.node_at-in-Cut.ensures at c.make-in-Cut.ensures.serves))

pub returns-in-Cut-clause-responds : goal.returns-in-Cut-clause-responds
returns-in-Cut-clause-responds g c =
    let m = meaning g.F.FlowSet.machine g.F.Spelt.reading (g.J.Judge.judges c.args.contracts.now) in
    let ws = map (λ s. string_bytes s) c.args.words.now in
    let asked = command.Cut c.in-Cut.node c.in-Cut.calls c.in-Cut.outcome in
    asked_responds m c.args.net.now c.make-in-Cut.new.net asked ws (given c.make-in-Cut.result) c.in-Cut.ensures (rw c.node_at-in-Cut.ensures at c.make-in-Cut.ensures.responds)

pub returns-in-Boot-clause-serves : goal.returns-in-Boot-clause-serves
returns-in-Boot-clause-serves g c =
    let m = meaning g.F.FlowSet.machine g.F.Spelt.reading (g.J.Judge.judges c.args.contracts.now) in
    let ws = map (λ s. string_bytes s) c.args.words.now in
    let asked = command.Boot c.in-Boot.node in
    asked_as m c.args.net.now c.make-in-Boot.new.net asked ws c.make-in-Boot.result c.in-Boot.ensures
    (made m c.args.net.now c.make-in-Boot.new.net asked ws (step.Boot (node_at c.in-Boot.node)) c.make-in-Boot.result refl
    (rw c.node_at-in-Boot.ensures at c.make-in-Boot.ensures.serves))

pub returns-in-Boot-clause-responds : goal.returns-in-Boot-clause-responds
returns-in-Boot-clause-responds g c =
    let m = meaning g.F.FlowSet.machine g.F.Spelt.reading (g.J.Judge.judges c.args.contracts.now) in
    let ws = map (λ s. string_bytes s) c.args.words.now in
    let asked = command.Boot c.in-Boot.node in
    asked_responds m c.args.net.now c.make-in-Boot.new.net asked ws (given c.make-in-Boot.result) c.in-Boot.ensures (rw c.node_at-in-Boot.ensures at c.make-in-Boot.ensures.responds)

pub returns-in-Drain-clause-serves : goal.returns-in-Drain-clause-serves
returns-in-Drain-clause-serves g c =
    let m = meaning g.F.FlowSet.machine g.F.Spelt.reading (g.J.Judge.judges c.args.contracts.now) in
    let ws = map (λ s. string_bytes s) c.args.words.now in
    asked_as m c.args.net.now c.make-in-Drain.new.net command.Drain ws c.make-in-Drain.result c.in-Drain.ensures
    (made m c.args.net.now c.make-in-Drain.new.net command.Drain ws step.Drain c.make-in-Drain.result refl c.make-in-Drain.ensures.serves)

pub returns-in-Drain-clause-responds : goal.returns-in-Drain-clause-responds
returns-in-Drain-clause-responds g c =
    let m = meaning g.F.FlowSet.machine g.F.Spelt.reading (g.J.Judge.judges c.args.contracts.now) in
    let ws = map (λ s. string_bytes s) c.args.words.now in
    asked_responds m c.args.net.now c.make-in-Drain.new.net command.Drain ws (given c.make-in-Drain.result) c.in-Drain.ensures c.make-in-Drain.ensures.responds

pub returns-in-Flows-clause-serves : goal.returns-in-Flows-clause-serves
returns-in-Flows-clause-serves g c =
    let m = meaning g.F.FlowSet.machine g.F.Spelt.reading (g.J.Judge.judges c.args.contracts.now) in
    let ws = map (λ s. string_bytes s) c.args.words.now in
    let asked = command.Flows c.in-Flows.node in
    asked_as m c.args.net.now c.args.net.now asked ws c.print_flows.result c.in-Flows.ensures
    (answered m c.args.net.now asked ws c.print_flows.result refl (rw c.node_at-in-Flows.ensures at c.print_flows.ensures.asks))

pub returns-in-Flows-clause-responds : goal.returns-in-Flows-clause-responds
returns-in-Flows-clause-responds g c =
    let m = meaning g.F.FlowSet.machine g.F.Spelt.reading (g.J.Judge.judges c.args.contracts.now) in
    let ws = map (λ s. string_bytes s) c.args.words.now in
    let asked = command.Flows c.in-Flows.node in
    let shown = rw c.node_at-in-Flows.ensures at c.print_flows.ensures.asks in
    asked_responds m c.args.net.now c.args.net.now asked ws (given c.print_flows.result) c.in-Flows.ensures (shown_responds m c.args.net.now asked ws c.print_flows.result refl shown)

pub returns-in-Flow-clause-serves : goal.returns-in-Flow-clause-serves
returns-in-Flow-clause-serves g c =
    let m = meaning g.F.FlowSet.machine g.F.Spelt.reading (g.J.Judge.judges c.args.contracts.now) in
    let ws = map (λ s. string_bytes s) c.args.words.now in
    let asked = command.Flow c.in-Flow.node c.in-Flow.flow in
    asked_as m c.args.net.now c.args.net.now asked ws c.print_flow.result c.in-Flow.ensures
    (answered m c.args.net.now asked ws c.print_flow.result refl (rw (c.node_at-in-Flow.ensures, c.flow_of.ensures) at c.print_flow.ensures.asks))

pub returns-in-Flow-clause-responds : goal.returns-in-Flow-clause-responds
returns-in-Flow-clause-responds g c =
    let m = meaning g.F.FlowSet.machine g.F.Spelt.reading (g.J.Judge.judges c.args.contracts.now) in
    let ws = map (λ s. string_bytes s) c.args.words.now in
    let asked = command.Flow c.in-Flow.node c.in-Flow.flow in
    let shown = rw (c.node_at-in-Flow.ensures, c.flow_of.ensures) at c.print_flow.ensures.asks in
    asked_responds m c.args.net.now c.args.net.now asked ws (given c.print_flow.result) c.in-Flow.ensures (shown_responds m c.args.net.now asked ws c.print_flow.result refl shown)

pub returns-in-Vault-clause-serves : goal.returns-in-Vault-clause-serves
returns-in-Vault-clause-serves g c =
    let m = meaning g.F.FlowSet.machine g.F.Spelt.reading (g.J.Judge.judges c.args.contracts.now) in
    let ws = map (λ s. string_bytes s) c.args.words.now in
    let asked = command.Vault c.in-Vault.node in
    asked_as m c.args.net.now c.args.net.now asked ws c.print_vault.result c.in-Vault.ensures
    (answered m c.args.net.now asked ws c.print_vault.result refl (rw c.node_at-in-Vault.ensures at c.print_vault.ensures.asks))

pub returns-in-Vault-clause-responds : goal.returns-in-Vault-clause-responds
returns-in-Vault-clause-responds g c =
    let m = meaning g.F.FlowSet.machine g.F.Spelt.reading (g.J.Judge.judges c.args.contracts.now) in
    let ws = map (λ s. string_bytes s) c.args.words.now in
    let asked = command.Vault c.in-Vault.node in
    let shown = rw c.node_at-in-Vault.ensures at c.print_vault.ensures.asks in
    asked_responds m c.args.net.now c.args.net.now asked ws (given c.print_vault.result) c.in-Vault.ensures (shown_responds m c.args.net.now asked ws c.print_vault.result refl shown)

pub returns-in-Balance-clause-serves : goal.returns-in-Balance-clause-serves
returns-in-Balance-clause-serves g c =
    let m = meaning g.F.FlowSet.machine g.F.Spelt.reading (g.J.Judge.judges c.args.contracts.now) in
    let ws = map (λ s. string_bytes s) c.args.words.now in
    let asked = command.Balance c.in-Balance.node in
    asked_as m c.args.net.now c.args.net.now asked ws c.print_balance.result c.in-Balance.ensures
    (answered m c.args.net.now asked ws c.print_balance.result refl (rw c.node_at-in-Balance.ensures at c.print_balance.ensures.asks))

pub returns-in-Balance-clause-responds : goal.returns-in-Balance-clause-responds
returns-in-Balance-clause-responds g c =
    let m = meaning g.F.FlowSet.machine g.F.Spelt.reading (g.J.Judge.judges c.args.contracts.now) in
    let ws = map (λ s. string_bytes s) c.args.words.now in
    let asked = command.Balance c.in-Balance.node in
    let shown = rw c.node_at-in-Balance.ensures at c.print_balance.ensures.asks in
    asked_responds m c.args.net.now c.args.net.now asked ws (given c.print_balance.result) c.in-Balance.ensures (shown_responds m c.args.net.now asked ws c.print_balance.result refl shown)

pub returns-in-Book-clause-serves : goal.returns-in-Book-clause-serves
returns-in-Book-clause-serves g c =
    let m = meaning g.F.FlowSet.machine g.F.Spelt.reading (g.J.Judge.judges c.args.contracts.now) in
    let ws = map (λ s. string_bytes s) c.args.words.now in
    asked_as m c.args.net.now c.args.net.now command.Book ws c.print_book.result c.in-Book.ensures
    (answered m c.args.net.now command.Book ws c.print_book.result refl (rw c.notary_of.ensures at c.print_book.ensures.asks))

pub returns-in-Book-clause-responds : goal.returns-in-Book-clause-responds
returns-in-Book-clause-responds g c =
    let m = meaning g.F.FlowSet.machine g.F.Spelt.reading (g.J.Judge.judges c.args.contracts.now) in
    let ws = map (λ s. string_bytes s) c.args.words.now in
    let shown = rw c.notary_of.ensures at c.print_book.ensures.asks in
    asked_responds m c.args.net.now c.args.net.now command.Book ws (given c.print_book.result) c.in-Book.ensures (shown_responds m c.args.net.now command.Book ws c.print_book.result refl shown)

pub returns-in-TxLine-clause-serves : goal.returns-in-TxLine-clause-serves
returns-in-TxLine-clause-serves g c =
    let m = meaning g.F.FlowSet.machine g.F.Spelt.reading (g.J.Judge.judges c.args.contracts.now) in
    let ws = map (λ s. string_bytes s) c.args.words.now in
    let asked = command.TxLine c.in-TxLine.node c.in-TxLine.name in
    asked_as m c.args.net.now c.args.net.now asked ws c.print_tx.result c.in-TxLine.ensures
    (answered m c.args.net.now asked ws c.print_tx.result refl (rw c.node_at-in-TxLine.ensures at c.print_tx.ensures.asks))

pub returns-in-TxLine-clause-responds : goal.returns-in-TxLine-clause-responds
returns-in-TxLine-clause-responds g c =
    let m = meaning g.F.FlowSet.machine g.F.Spelt.reading (g.J.Judge.judges c.args.contracts.now) in
    let ws = map (λ s. string_bytes s) c.args.words.now in
    let asked = command.TxLine c.in-TxLine.node c.in-TxLine.name in
    let shown = rw c.node_at-in-TxLine.ensures at c.print_tx.ensures.asks in
    asked_responds m c.args.net.now c.args.net.now asked ws (given c.print_tx.result) c.in-TxLine.ensures (shown_responds m c.args.net.now asked ws c.print_tx.result refl shown)

pub returns-in-History-clause-serves : goal.returns-in-History-clause-serves
returns-in-History-clause-serves g c =
    let m = meaning g.F.FlowSet.machine g.F.Spelt.reading (g.J.Judge.judges c.args.contracts.now) in
    let ws = map (λ s. string_bytes s) c.args.words.now in
    asked_as m c.args.net.now c.args.net.now command.History ws c.print_history.result c.in-History.ensures
    (answered m c.args.net.now command.History ws c.print_history.result refl c.print_history.ensures.asks)

pub returns-in-History-clause-responds : goal.returns-in-History-clause-responds
returns-in-History-clause-responds g c =
    let m = meaning g.F.FlowSet.machine g.F.Spelt.reading (g.J.Judge.judges c.args.contracts.now) in
    let ws = map (λ s. string_bytes s) c.args.words.now in
    asked_responds m c.args.net.now c.args.net.now command.History ws (given c.print_history.result) c.in-History.ensures (shown_responds m c.args.net.now command.History ws c.print_history.result refl c.print_history.ensures.asks)

pub returns-in-Load-clause-serves : goal.returns-in-Load-clause-serves
returns-in-Load-clause-serves g c =
    let m = meaning g.F.FlowSet.machine g.F.Spelt.reading (g.J.Judge.judges c.args.contracts.now) in
    let ws = map (λ s. string_bytes s) c.args.words.now in
    asked_as m c.args.net.now c.load.new.net (command.Load c.in-Load.seed c.in-Load.count) ws c.load.result c.in-Load.ensures
    (load_comes m c.args.net.now c.load.new.net c.in-Load.seed c.in-Load.count ws c.load.result c.load.ensures.goes)

pub returns-in-Load-clause-responds : goal.returns-in-Load-clause-responds
returns-in-Load-clause-responds g c =
    let m = meaning g.F.FlowSet.machine g.F.Spelt.reading (g.J.Judge.judges c.args.contracts.now) in
    let ws = map (λ s. string_bytes s) c.args.words.now in
    asked_responds m c.args.net.now c.load.new.net (command.Load c.in-Load.seed c.in-Load.count) ws (given c.load.result) c.in-Load.ensures c.load.ensures.goes

pub returns-in-Workers-clause-serves : goal.returns-in-Workers-clause-serves
returns-in-Workers-clause-serves g c =
    let m = meaning g.F.FlowSet.machine g.F.Spelt.reading (g.J.Judge.judges c.args.contracts.now) in
    let ws = map (λ s. string_bytes s) c.args.words.now in
    asked_as m c.args.net.now c.work.new.net (command.Workers c.in-Workers.workers c.in-Workers.turns c.in-Workers.seed) ws c.work.result c.in-Workers.ensures
    (work_comes m c.args.net.now c.work.new.net c.in-Workers.workers c.in-Workers.turns c.in-Workers.seed ws c.work.result c.work.ensures.goes)

pub returns-in-Workers-clause-responds : goal.returns-in-Workers-clause-responds
returns-in-Workers-clause-responds g c =
    let m = meaning g.F.FlowSet.machine g.F.Spelt.reading (g.J.Judge.judges c.args.contracts.now) in
    let ws = map (λ s. string_bytes s) c.args.words.now in
    asked_responds m c.args.net.now c.work.new.net (command.Workers c.in-Workers.workers c.in-Workers.turns c.in-Workers.seed) ws (given c.work.result) c.in-Workers.ensures c.work.ensures.goes
