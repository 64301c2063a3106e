-- A node under its lock may go to another thread, where its disk may, and where its flows may be sent and shared. Rattle finds that of each type but of those that reach themselves, as a trace does; so it is said here of a trace, and of all that holds one.
use denote.RattleType.{RattleType}
use denote.Param.Send.{IsSend, IsSync, sendable}
use denote.Model.Local.{Parts, rows}
use denote.Model.Goals.{send, All, one_law, part_has, has_of, tied_goals}
use Rattle.std.proofs.Crossing.{crosses}
use Rattle.net_base.proofs.causes.Cause.TheSendSync as cause
use Rattle.net_base.specs.declared.spelt.Spelt as spelt
use Rattle.outside.specs.declared.disk.Disk as disk
use Rattle.checkpoints.proofs.table.Flows.TheSendSync as flows
use Rattle.session_table.proofs.sessions.Sessions.TheSendSync as sessions
use Rattle.ledger_tables.proofs.tables.LedgerTables.TheSendSync as ledger
use Rattle.disk_journal.proofs.journal.Journal.TheSendSync as journal
use Rattle.node_tables.proofs.roomy.Roomy.TheSendSync as roomy
use Rattle.node_tables.specs.contracts.trace.Trace as Trace
use Rattle.node_tables.specs.contracts.trace.Trace.TheKnot as knot
use Rattle.node_tables.specs.declared.trace.Trace.TheDeep.{the_members, member-Trace}
use Rattle.node_tables.specs.contracts.table.NodeTables as NodeTables
use Rattle.node_core.specs.contracts.up.Up as Up
use Rattle.node_core.specs.contracts.node.State as State
use Rattle.node_core.specs.contracts.node.Node as Node
use Rattle.node_core.specs.contracts.shared.SharedNode as SharedNode
use Rattle.flow_machine.specs.declared.flow_set.FlowSet as flow_set
use Rattle.wire_queue.proofs.inbox.InboxPass.TheSendSync as pass
use Rattle.flow_workers.specs.declared.board.Call as call
use Rattle.flow_workers.specs.contracts.desk.Desk as Desk

pair : {A B : Type 0} → A → B → A × B
pair a b = (a, b)

-- one layer of a trace owns nothing but a byte, whatever the layers below it own
module _ (T : RattleType) where
  layer_send : (p : Parts (knot.frame T)) → IsSend (knot.view-Trace T p)
  layer_send p = search (pair, crosses, sendable) depth 40

  next : (p : Parts (knot.frame T)) → All (one_law the_members send) (rows (knot.frame T) p) → All (one_law the_members send) (rows (knot.frame T) (knot.step T p))
  next p all member-Trace = has_of (knot.frame T) send (knot.step T p) member-Trace (part_has send (knot.view-Trace T p) (layer_send p))

  trace_send : IsSend (Trace.the_row T)
  trace_send = tied_goals (knot.frame T) (knot.step T) (knot.sizes T) (one_law the_members send) next member-Trace

module _ (D F : RattleType) (d : disk.Ghosts D.Denot) (g : spelt.Ghosts F.Denot) (s : IsSend D) (f : IsSend F) (y : IsSync F) where
  tables_send : IsSend (NodeTables.the_row F g)
  tables_send = search (trace_send, cause.the_send, roomy.the_send, flows.the_send, sessions.the_send, ledger.the_send, pair, sendable) depth 40

  up_send : IsSend (Up.the_row D F d g)
  up_send = let j = journal.the_send D d s in let t = tables_send in search (pair, sendable) depth 40

  state_send : IsSend (State.the_field D F d g).row
  state_send = let u = up_send in search (pair, sendable) depth 40

  node_send : IsSend (Node.the_row D F d g)
  node_send = let u = state_send in search (pair, sendable) depth 40

  shared_send : IsSend (SharedNode.the_row D F d g)
  shared_send = let n = node_send in search (pair, crosses, sendable) depth 40

pub desk_send : (J D F : RattleType) (c : call.Ghosts J.Denot) (d : disk.Ghosts D.Denot) (m : flow_set.Ghosts F.Denot) (g : spelt.Ghosts F.Denot) → IsSend D → IsSend F → IsSync F → IsSend (Desk.the_row J D F c d m g)
desk_send J D F c d m g s f y = let n = shared_send D F d g s f y in search (pass.the_send, pair, crosses, sendable) depth 40
