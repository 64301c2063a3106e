use Rattle.deal_flows.proofs.Owing.{iou_is_accepted}
use Rattle.deal_flows.proofs.laws.iou_is_accepted.Goals as goal

pub returns : goal.returns
returns c = iou_is_accepted
