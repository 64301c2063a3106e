use denote.Param.Send.{sendable}
use Rattle.disk_host.proofs.Crossing.{host_send}
use Rattle.corda_net.proofs.main.Goals as goal

pub run_shipped-ended-requires-send-B : goal.run_shipped-ended-requires-send-B
run_shipped-ended-requires-send-B g c κs = search (host_send, sendable) depth 40
