use denote.Param.{param}
use denote.Param.Send.{IsSend, IsSync, param_send, param_sync, sendable}
use denote.Ref.{NamedLft}
use Rattle.std.proofs.Common.{rules}
use Rattle.std.proofs.Crossing.{crosses}
use Rattle.flow_workers.specs.contracts.board.Board as Board
use Rattle.flow_workers.specs.contracts.desk.Desk as Desk
use Rattle.flow_workers.proofs.board.Board.TheSendSync as board
use Rattle.flow_workers.proofs.Crossing.{desk_send}
use Rattle.flow_workers.proofs.turns.fn.run_workers.scope.Goals as goal

-- what a worker takes along may go to its thread
pub spawn-requires-send-F : goal.spawn-requires-send-F
spawn-requires-send-F g c κs within =
    let send_disk : IsSend g.row.D = search (rules, c.requires) parts 8 in
    let send_flows : IsSend g.row.F = search (rules, c.requires) parts 8 in
    let sync_flows : IsSync g.row.F = search (rules, c.requires) parts 8 in
    let send_call : IsSend g.row.J = search (rules, c.requires) parts 8 in
    let sync_call : IsSync g.row.J = search (rules, c.requires) parts 8 in
    let sync_contracts : IsSync g.row.C = search (rules, c.requires) parts 8 in
    let sync_runtime : IsSync g.row.R = search (rules, c.requires) parts 8 in
    let sync_gate : IsSync g.row.G = search (rules, c.requires) parts 8 in
    let desk : IsSend (Desk.the_row (param 0 g.row.J) (param 1 g.row.D) (param 2 g.row.F) g.J.Call g.D.Disk g.F.FlowSet g.F.Spelt) =
    desk_send (param 0 g.row.J) (param 1 g.row.D) (param 2 g.row.F) g.J.Call g.D.Disk g.F.FlowSet g.F.Spelt (param_send 1 g.row.D send_disk) (param_send 2 g.row.F send_flows) (param_sync 2 g.row.F sync_flows) in
    let read : (a : NamedLft) → IsSync (Board.the_row a (param 0 g.row.J) (param 3 g.row.C) g.J.Call g.C.Judge) =
    λ a. search (board.the_sync a (param 0 g.row.J) (param 3 g.row.C) g.J.Call g.C.Judge, sendable) in
    search (crosses, sendable) depth 60 fits 20000
