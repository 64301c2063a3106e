use Rattle.flow_machine.specs.Acts.{IsFrameBytes, frame_bytes}
use Rattle.flow_machine.specs.Checkpoints.{checkpoint_same}
use Rattle.flow_machine.proofs.checkpoint_spelling.same_bytes.Goals as goal

pub returns : goal.returns
returns g c = checkpoint_same g.F.Spelt.within g.F.Spelt.spelling IsFrameBytes frame_bytes
