-- What contracts see of a frame of the set.
use Rattle.flow_forms.specs.declared.forms.Sum.{Sum}
use Rattle.flow_forms.specs.Frames.{Frame}
use Rattle.shipped_flows.specs.declared.count.Count.{Count}
use Rattle.shipped_flows.specs.declared.count.CountPlace.{CountPlace}
use Rattle.shipped_flows.specs.declared.echo.Echo.{Echo}
use Rattle.shipped_flows.specs.declared.echo.EchoPlace.{EchoPlace}
use Rattle.shipped_flows.specs.declared.ping.Ping.{Ping}
use Rattle.shipped_flows.specs.declared.ping.PingPlace.{PingPlace}
use Rattle.shipped_flows.specs.declared.probe.Probe.{Probe}
use Rattle.shipped_flows.specs.declared.probe.ProbePlace.{ProbePlace}
use Rattle.notary_flows.specs.declared.client.Client.{Client}
use Rattle.notary_flows.specs.declared.client.ClientPlace.{ClientPlace}
use Rattle.notary_flows.specs.declared.service.Service.{Service}
use Rattle.notary_flows.specs.declared.service.ServicePlace.{ServicePlace}
use Rattle.resolve_flows.specs.declared.resolve.Resolve.{Resolve}
use Rattle.resolve_flows.specs.declared.resolve.ResolvePlace.{ResolvePlace}
use Rattle.resolve_flows.specs.declared.receiver.Receiver.{Receiver}
use Rattle.resolve_flows.specs.declared.receiver.ReceiverPlace.{ReceiverPlace}
use Rattle.finality_flows.specs.declared.finality.Finality.{Finality}
use Rattle.finality_flows.specs.declared.finality.FinalityPlace.{FinalityPlace}
use Rattle.finality_flows.specs.declared.agree.Agree.{Agree}
use Rattle.finality_flows.specs.declared.agree.AgreePlace.{AgreePlace}
use Rattle.cash_flows.specs.declared.issue.Issue.{Issue}
use Rattle.cash_flows.specs.declared.issue.IssuePlace.{IssuePlace}
use Rattle.cash_flows.specs.declared.pay.Pay.{Pay}
use Rattle.cash_flows.specs.declared.pay.PayPlace.{PayPlace}
use Rattle.cash_flows.specs.declared.exit.Exit.{Exit}
use Rattle.cash_flows.specs.declared.exit.ExitPlace.{ExitPlace}
use Rattle.cash_flows.specs.declared.spend.Spend.{Spend}
use Rattle.cash_flows.specs.declared.spend.SpendPlace.{SpendPlace}
use Rattle.deal_flows.specs.declared.fact.Fact.{Fact}
use Rattle.deal_flows.specs.declared.fact.FactPlace.{FactPlace}
use Rattle.deal_flows.specs.declared.refact.Refact.{Refact}
use Rattle.deal_flows.specs.declared.refact.RefactPlace.{RefactPlace}
use Rattle.deal_flows.specs.declared.iou.Iou.{Iou}
use Rattle.deal_flows.specs.declared.iou.IouPlace.{IouPlace}

-- the frames of each group
abbrev pub CalledSeen : Type 0
CalledSeen = Sum (Frame CountPlace Count) (Sum (Frame ClientPlace Client) (Sum (Frame ResolvePlace Resolve) (Frame FinalityPlace Finality)))

abbrev pub AnsweringSeen : Type 0
AnsweringSeen = Sum (Sum (Frame EchoPlace Echo) (Frame ServicePlace Service)) (Sum (Frame ReceiverPlace Receiver) (Frame AgreePlace Agree))

abbrev pub CashSeen : Type 0
CashSeen = Sum (Sum (Frame IssuePlace Issue) (Frame PayPlace Pay)) (Sum (Frame ExitPlace Exit) (Frame SpendPlace Spend))

abbrev pub TalkingSeen : Type 0
TalkingSeen = Sum (Frame PingPlace Ping) (Frame ProbePlace Probe)

abbrev pub DealsSeen : Type 0
DealsSeen = Sum (Frame FactPlace Fact) (Sum (Frame RefactPlace Refact) (Frame IouPlace Iou))

-- and of all of them
abbrev pub AppSeen : Type 0
AppSeen = Sum CalledSeen (Sum (Sum AnsweringSeen CashSeen) (Sum TalkingSeen DealsSeen))
