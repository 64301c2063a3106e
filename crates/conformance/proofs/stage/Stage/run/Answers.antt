use denote.Param.Send.{sendable}
use Rattle.disk_mem.proofs.Crossing.{mem_send}
use Rattle.conformance.proofs.stage.Stage.run.Goals as goal

pub run-ended-requires-send-B : goal.run-ended-requires-send-B
run-ended-requires-send-B g c κs = search (mem_send, sendable) depth 20
