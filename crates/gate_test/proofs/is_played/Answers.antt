use denote.Param.Send.{sendable}
use Rattle.disk_mem.proofs.Crossing.{mem_send}
use Rattle.gate_test.proofs.is_played.Goals as goal

pub run_with-status-requires-send-B : goal.run_with-status-requires-send-B
run_with-status-requires-send-B g c κs = search (mem_send, sendable) depth 20
