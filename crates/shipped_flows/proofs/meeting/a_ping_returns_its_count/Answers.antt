use Rattle.shipped_flows.specs.MeetingLaws.{ping_returns_its_count}
use Rattle.shipped_flows.proofs.meeting.a_ping_returns_its_count.Goals as goal

pub returns : goal.returns
returns c = ping_returns_its_count
