-- The limits and orders that acts, results and places keep. What is spelt within its limits has a spelling.
use Rattle.std.specs.Prelude.{◌<◌, ◌≤◌, ◌^◌, length}
use Rattle.std.specs.List.{AllByRecursion}
use Rattle.net_base.specs.Values.{IsHash, IsParty, IsMoment}
use Rattle.net_base.specs.Names.{IsToken, IsKey, IsTag}
use Rattle.ledger_types.specs.Txs.{IsTx, IsSignedTx}
use Rattle.ledger_types.specs.Requests.{IsRequest, IsNotaryAnswer}
use Rattle.ledger_types.specs.Values.{IsValue}
use Rattle.ledger_types.specs.Vaults.{IsHeld}
use Rattle.flow_machine.specs.declared.acts.Act.{Act}
use Rattle.flow_machine.specs.declared.acts.Act.TheVariants as act
use Rattle.flow_machine.specs.declared.acts.Resumed.{Resumed}
use Rattle.flow_machine.specs.declared.acts.Resumed.TheVariants as resumed
use Rattle.flow_machine.specs.declared.acts.Place.{Place}
use Rattle.flow_machine.specs.Stacks.{Frames}

-- the limits of an act, where a frame has these
abbrev pub IsAct : {F : Type 0} → (F → Type 0) → Act F → Type 0
IsAct within (act.Open to class first) = IsParty to × ((class < 2 ^ 16) × IsValue first)
IsAct within (act.Send key value) = IsKey key × IsValue value
IsAct within (act.Receive key) = IsKey key
IsAct within (act.ReceiveBy key until) = IsKey key × (until < 2 ^ 64)
IsAct within (act.Sleep until) = until < 2 ^ 64
IsAct within (act.Sub frame) = within frame
IsAct within (act.Verify tx) = IsTx tx
IsAct within (act.Reserve token amount) = IsToken token × (amount < 2 ^ 64)
IsAct within (act.Lookup id) = IsHash id
IsAct within (act.Missing tx) = IsTx tx
IsAct within (act.Sign id) = IsHash id
IsAct within (act.Notarise request) = IsRequest request
IsAct within (act.Record stx) = IsSignedTx stx
IsAct within (act.Return value) = IsValue value
IsAct within (act.Fail code) = code < 2 ^ 16

-- the limits of a result
abbrev pub IsResumed : Resumed → Type 0
IsResumed (resumed.Opened key) = IsKey key
IsResumed resumed.Sent = Unit {0}
IsResumed (resumed.Got value) = IsValue value
IsResumed (resumed.Rejected code) = code < 2 ^ 16
IsResumed (resumed.Failed code) = code < 2 ^ 16
IsResumed resumed.Ended = Unit {0}
IsResumed resumed.Lapsed = Unit {0}
IsResumed resumed.Started = Unit {0}
IsResumed (resumed.Verdict verdict) = Unit {0}
IsResumed (resumed.Coins list) = (length list ≤ 64) × AllByRecursion IsHeld list
IsResumed (resumed.Short have) = have < 2 ^ 128
IsResumed (resumed.Found stx) = IsSignedTx stx
IsResumed resumed.Absent = Unit {0}
IsResumed (resumed.Ids list) = AllByRecursion IsHash list
IsResumed (resumed.Tagged tag) = IsTag tag
IsResumed (resumed.Answer answer) = IsNotaryAnswer answer
IsResumed resumed.Recorded = Unit {0}
IsResumed (resumed.Returned value) = IsValue value
IsResumed (resumed.Refused code) = code < 2 ^ 16

-- the limits of a place
pub record IsPlace (at : Place) : Type 0 where
  pub me : IsParty at.me
  pub notary : IsParty at.notary
  pub nodes : at.nodes ≤ 16
  pub flow : at.flow < 2 ^ 32
  pub step : at.step < 2 ^ 32
  pub moment : IsMoment at.now

-- the limits of a stack, where a frame has these: at most 7 frames below the top one
abbrev pub IsStack : {F : Type 0} → (F → Type 0) → Frames F → Type 0
IsStack within stack = within stack.top × ((length stack.below ≤ 7) × AllByRecursion within stack.below)
