-- What is printed of a network.
use Rattle.std.specs.Prelude.{ℕ, ◌+◌, List, [], ◌∷◌, ◌++◌, Option, Some, None, codes, decimal, slice_get}
use Rattle.hex.specs.Hex.{encode_lower}
use Rattle.net_base.specs.declared.causes.Cause.{Cause}
use Rattle.net_base.specs.declared.causes.Event.{Event}
use Rattle.net_base.specs.declared.causes.Event.TheVariants as event
use Rattle.flow_machine.specs.declared.acts.Act.{Act}
use Rattle.flow_machine.specs.declared.acts.Act.TheVariants as act
use Rattle.ledger_types.specs.declared.value.Value.{Value}
use Rattle.ledger_types.specs.declared.value.Value.TheVariants as value
use Rattle.flow_machine.specs.declared.flows.FlowState.{FlowState}
use Rattle.flow_machine.specs.declared.flows.FlowState.TheVariants.{Live, Ended, Failed}
use Rattle.net_model.specs.Environment.{Environment}
use Rattle.net_model.specs.State.{NodeState}
use Rattle.net_model.specs.Runs.{merged, network_of}

-- what is asked of a network: the flows of a node, the flow of a number at a node, or the causes of all nodes
pub data Query : Type 0 where
  of_flows : ℕ → Query
  of_flow : ℕ → ℕ → Query
  of_history : Query

-- what happened
abbrev pub event_line : Event → List ℕ
event_line (event.Start flow class args) = codes "start " ++ decimal flow ++ codes " " ++ decimal class
event_line (event.Answer key) = codes "answer " ++ decimal key.initiator.0 ++ codes " " ++ decimal key.number
event_line (event.Arrive key direction number) = codes "arrive " ++ decimal key.initiator.0 ++ codes " " ++ decimal key.number ++ codes " " ++ decimal direction ++ codes " " ++ decimal number
event_line (event.Move flow) = codes "move " ++ decimal flow
event_line (event.Lapse flow) = codes "lapse " ++ decimal flow

-- the line of a cause of a node, without its end: its stamp, its node, its moment, and what happened
abbrev pub history_line : ℕ × Cause → List ℕ
history_line x = codes "h " ++ decimal x.1.stamp ++ codes " " ++ decimal x.0 ++ codes " " ++ decimal x.1.moment.0 ++ codes " " ++ event_line x.1.event

-- a line for each cause
abbrev pub history_lines : List (ℕ × Cause) → List ℕ
history_lines [] = []
history_lines (x ∷ causes) = history_line x ++ 10 ∷ history_lines causes

-- a line for each cause, or one line where there is none
abbrev pub history_text : List (ℕ × Cause) → List ℕ
history_text [] = codes "none\n"
history_text (x ∷ causes) = history_lines (x ∷ causes)

-- the name of an act
abbrev pub act_name : {F : Type 0} → Act F → List ℕ
act_name (act.Open to class first) = codes "open"
act_name (act.Send key value) = codes "send"
act_name (act.Receive key) = codes "receive"
act_name (act.ReceiveBy key until) = codes "receiveby"
act_name (act.Sleep until) = codes "sleep"
act_name (act.Sub frame) = codes "sub"
act_name (act.Verify tx) = codes "verify"
act_name (act.Reserve token amount) = codes "reserve"
act_name (act.Lookup id) = codes "lookup"
act_name (act.Missing tx) = codes "missing"
act_name (act.Sign id) = codes "sign"
act_name (act.Notarise request) = codes "notarise"
act_name (act.Record stx) = codes "record"
act_name (act.Return value) = codes "return"
act_name (act.Fail code) = codes "fail"

-- what a flow ended with
abbrev pub value_text : Value → List ℕ
value_text value.Unit = codes "unit"
value_text (value.Number number) = codes "number " ++ decimal number
value_text (value.Id id) = codes "id " ++ encode_lower id.0
value_text (value.Tx stx) = codes "value"
value_text (value.Request request) = codes "value"
value_text (value.Answer answer) = codes "value"
value_text (value.Tags tags) = codes "value"
value_text (value.Bytes bytes) = codes "value"

-- how the line of every flow begins
abbrev pub flow_head : ℕ → ℕ → ℕ → List ℕ
flow_head f class step = codes "flow " ++ decimal f ++ codes " class " ++ decimal class ++ codes " steps " ++ decimal step

-- the line of a flow, without its end
abbrev pub flow_line : {F : Type 0} → ℕ → FlowState F → List ℕ
flow_line f (Live at) = flow_head f at.class at.step ++ codes " waits " ++ act_name at.waiting
flow_line f (Ended step class value) = flow_head f class step ++ codes " ended " ++ value_text value
flow_line f (Failed step class code) = flow_head f class step ++ codes " failed " ++ decimal code

-- a line for each flow, the first of them flow f
abbrev pub flow_lines : {F : Type 0} → ℕ → List (FlowState F) → List ℕ
flow_lines f [] = []
flow_lines f (flow ∷ flows) = flow_line f flow ++ 10 ∷ flow_lines (f + 1) flows

-- a line for each flow, or one line where there is none
abbrev pub flows_text : {F : Type 0} → List (FlowState F) → List ℕ
flows_text [] = codes "none\n"
flows_text (flow ∷ flows) = flow_lines 0 (flow ∷ flows)

-- what is printed of a node, where there is one
abbrev pub node_text : {F : Type 0} → Option (NodeState F) → List ℕ
node_text None = []
node_text (Some s) = flows_text s.flows

-- the line of a flow with its end, where there is such a flow
abbrev pub flow_text : {F : Type 0} → ℕ → Option (FlowState F) → List ℕ
flow_text f None = []
flow_text f (Some flow) = flow_line f flow ++ 10 ∷ []

-- what is printed of the flow of a number at a node, where there is one
abbrev pub flow_text_at : {F : Type 0} → ℕ → Option (NodeState F) → List ℕ
flow_text_at f None = []
flow_text_at f (Some s) = flow_text f (slice_get s.flows f)

-- the lines that answer a query, by the merged causes and the network that they lead to
abbrev pub print : {F : Type 0} → List (ℕ × Cause) → List (NodeState F) → Query → List ℕ
print causes net (of_flows p) = node_text (slice_get net p)
print causes net (of_flow p f) = flow_text_at f (slice_get net p)
print causes net of_history = history_text causes

-- the lines that answer a query of a network; there is none where the journals are those of no run, and then nothing is printed
abbrev pub print_of : {F : Type 0} → List (ℕ × Cause) → Option (List (NodeState F)) → Query → List ℕ
print_of causes None query = []
print_of causes (Some net) query = print causes net query

-- the lines that answer a query, by the journals
unfoldable pub printed : {F : Type 0} → Environment F → List (List Cause) → Query → List ℕ
printed w journals query = print_of (merged journals) (network_of w journals) query
