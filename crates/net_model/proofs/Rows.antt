-- Worked runs, by computation.
use Rattle.net_model.specs.Environment.{party, judge_without_contracts}
use Rattle.signing.specs.Marks.{keyed_mark}
use Rattle.std.proofs.Common.{◌≡◌, ℕ, ◌+◌, ◌-◌, ◌==◌, List, [], ◌∷◌, Option, Some, None, Result, Ok, Err, false, if◌then◌else◌, map, option_map, refl}
use Rattle.net_base.specs.declared.names.Key.{Key}
use Rattle.net_base.specs.declared.causes.Cause.{Cause}
use Rattle.net_base.specs.declared.causes.Event.{Event}
use Rattle.net_base.specs.declared.causes.Event.TheVariants as event
use Rattle.ledger_types.specs.declared.value.Value.{Value}
use Rattle.ledger_types.specs.declared.value.Value.TheVariants as value
use Rattle.session_wire.specs.declared.body.Body.{Body}
use Rattle.session_wire.specs.declared.body.Body.TheVariants as body
use Rattle.session_wire.specs.Sessions.{Sent, Session}
use Rattle.flow_machine.specs.declared.acts.Act.{Act}
use Rattle.flow_machine.specs.declared.acts.Act.TheVariants as act
use Rattle.flow_machine.specs.declared.acts.Resumed.{Resumed}
use Rattle.flow_machine.specs.declared.acts.Resumed.TheVariants as resumed
use Rattle.flow_machine.specs.declared.acts.Place.{Place}
use Rattle.flow_machine.specs.declared.flow_set.MakeFault.{MakeFault}
use Rattle.flow_machine.specs.declared.flow_set.MakeFault.TheVariants as make
use Rattle.flow_machine.specs.declared.flows.FlowState.{FlowState}
use Rattle.flow_machine.specs.declared.flows.FlowState.TheVariants as state
use Rattle.net_model.specs.Environment.{Environment}
use Rattle.flow_machine.specs.Machine.{Machine}
use Rattle.net_model.specs.State.{apply_effect}
use Rattle.net_model.specs.Steps.{effect_of, node_step}
use Rattle.net_model.specs.Runs.{run_of, net_step, item_from, merge}
use Rattle.net_model.proofs.Local.{of_node}

data Frame : Type 0 where
  counting : ℕ → ℕ → Frame
  opening : ℕ → ℕ → Frame
  waiting : Key → ℕ → Frame
  sending : Key → ℕ → ℕ → Frame
  echoing : Key → Frame
  echoed : Key → Frame
  nesting : Frame
  nested : Frame
  over : Frame

abbrev counted : ℕ → ℕ → Frame × Act Frame
counted left all = if left == 0 then (over, act.Return (value.Number all)) else (counting left all, act.Sleep 0)

abbrev pinged : Key → ℕ → Value → Frame × Act Frame
pinged key left (value.Number x) = if left == 1 then (over, act.Return (value.Number x)) else (sending key (left - 1) x, act.Send key (value.Number x))
pinged key left _ = (over, act.Fail 54)

abbrev echoes : Key → Value → Frame × Act Frame
echoes key (value.Number x) = (echoed key, act.Send key (value.Number (x + 1)))
echoes key _ = (over, act.Fail 54)

abbrev got : Frame → Value → Frame × Act Frame
got (waiting key left) v = pinged key left v
got (echoing key) v = echoes key v
got _ v = (over, act.Fail 54)

abbrev opened : Frame → Key → Frame × Act Frame
opened (opening to left) key = (waiting key left, act.Receive key)
opened _ key = (over, act.Fail 54)

abbrev lapsed : Frame → Frame × Act Frame
lapsed (counting left all) = counted (left - 1) all
lapsed _ = (over, act.Fail 54)

abbrev sent : Frame → Frame × Act Frame
sent (sending key left last) = (waiting key left, act.Receive key)
sent (echoed key) = (echoing key, act.Receive key)
sent _ = (over, act.Fail 54)

abbrev ended : Frame → Frame × Act Frame
ended (echoing key) = (over, act.Return value.Unit)
ended _ = (over, act.Fail 51)

abbrev started : Frame → Frame × Act Frame
started nested = (over, act.Return (value.Number 7))
started _ = (over, act.Fail 54)

abbrev returned : Frame → Value → Frame × Act Frame
returned nesting v = (over, act.Return v)
returned _ v = (over, act.Fail 54)

abbrev next : Frame → Resumed → Place → Frame × Act Frame
next frame (resumed.Opened key) at = opened frame key
next frame (resumed.Got v) at = got frame v
next frame resumed.Lapsed at = lapsed frame
next frame resumed.Sent at = sent frame
next frame resumed.Ended at = ended frame
next frame resumed.Started at = started frame
next frame (resumed.Returned v) at = returned frame v
next frame _ at = (over, act.Fail 54)

abbrev made_of : ℕ → List ℕ → Result (Frame × Act Frame) MakeFault
made_of class [] = if class == 3 then Ok (nesting, act.Sub nested) else Err make.BadArgs
made_of class (k ∷ []) = if class == 1 then Ok (counted k k) else Err make.BadArgs
made_of class (to ∷ k ∷ rest) = if class == 2 then Ok (opening to k, act.Open (record { 0 = to }) 2 (value.Number 0)) else Err make.BadArgs

abbrev machine : Machine Frame
machine = record {
  worded = λ class args. Ok (0, []);
  made = λ class args at. made_of class args;
  begun = λ class key at. if class == 2 then Some (echoing key, act.Receive key) else None;
  next = next;
  content = λ frame. [];
  weight = λ frame. 0;
  over = λ frame. false;
  tags = λ frame. [];
  load = λ class. 0;
}

-- a number of nodes
abbrev network : ℕ → Environment Frame
network nodes = record { machine = machine; nodes = nodes; notary = party 0; judge = judge_without_contracts; mark = keyed_mark; frame_at = λ bytes. Err 0 }

abbrev at : ℕ → ℕ → Event → ℕ × Cause
at stamp node e = (node, record { stamp = stamp; moment = record { 0 = 0 }; event = e })

abbrev key : Key
key = record { initiator = record { 0 = 0 }; number = 0 }

abbrev row_two : List (ℕ × Cause)
row_two = at 1 0 (event.Start 0 1 (0 ∷ [])) ∷ at 2 0 (event.Move 0) ∷ []

abbrev row_four : List (ℕ × Cause)
row_four =
    at 1 0 (event.Start 0 2 (1 ∷ 1 ∷ [])) ∷ at 2 0 (event.Move 0) ∷ at 3 1 (event.Answer key) ∷ at 4 0 (event.Arrive key 1 0) ∷ at 4 1 (event.Move 0) ∷ at 5 1 (event.Move 0)
    ∷ at 6 0 (event.Arrive key 1 1) ∷ at 7 0 (event.Move 0) ∷ at 8 0 (event.Move 0) ∷ at 9 1 (event.Arrive key 0 1) ∷ at 10 1 (event.Move 0) ∷ at 11 1 (event.Move 0) ∷ at 12 0 (event.Arrive key 1 2) ∷ []

abbrev flows_after : Environment Frame → List (ℕ × Cause) → Option (List (List (FlowState Frame)))
flows_after w causes = option_map (λ net. map (λ s. s.flows) net) (run_of w causes)

abbrev sessions_after : Environment Frame → List (ℕ × Cause) → Option (List (List Session))
sessions_after w causes = option_map (λ net. map (λ s. s.sessions) net) (run_of w causes)

row_two_runs : flows_after (network 1) row_two ≡ Some ((state.Ended 1 1 (value.Number 0) ∷ []) ∷ [])
unfolding run_of net_step node_step effect_of apply_effect item_from
row_two_runs = refl

abbrev slept : List (ℕ × Cause)
slept = at 1 0 (event.Start 0 1 (2 ∷ [])) ∷ at 2 0 (event.Lapse 0) ∷ at 3 0 (event.Lapse 0) ∷ at 4 0 (event.Move 0) ∷ []

slept_runs : flows_after (network 1) slept ≡ Some ((state.Ended 3 1 (value.Number 2) ∷ []) ∷ [])
unfolding run_of net_step node_step effect_of apply_effect item_from
slept_runs = refl

-- a frame begins above another, returns to it, and that one ends the flow
abbrev subbed : List (ℕ × Cause)
subbed = at 1 0 (event.Start 0 3 []) ∷ at 2 0 (event.Move 0) ∷ at 3 0 (event.Move 0) ∷ at 4 0 (event.Move 0) ∷ []

subbed_runs : flows_after (network 1) subbed ≡ Some ((state.Ended 3 3 (value.Number 7) ∷ []) ∷ [])
unfolding run_of net_step node_step effect_of apply_effect item_from
subbed_runs = refl

-- a stamp that isn't the next one is no step
not_a_run : run_of (network 1) (at 2 0 (event.Start 0 1 (0 ∷ [])) ∷ []) ≡ None
unfolding run_of net_step node_step effect_of apply_effect item_from
not_a_run = refl

-- ---- two nodes and a session

row_four_runs : flows_after (network 2) row_four ≡ Some ((state.Ended 3 2 (value.Number 1) ∷ []) ∷ (state.Ended 4 2 value.Unit ∷ []) ∷ [])
unfolding run_of net_step node_step effect_of apply_effect item_from
row_four_runs = refl

abbrev item : ℕ → Body → Sent
item stamp b = record { body = b; stamp = stamp }

-- the session at node 0, which opened it, took the Data behind the Confirm and ended
abbrev opened_session : Session
opened_session = record {
  key = key;
  peer = party 1;
  owner = Some 0;
  sent = item 2 (body.Init 2 (value.Number 0)) ∷ item 8 body.End ∷ [];
  came = body.Confirm ∷ body.Data (value.Number 1) ∷ body.End ∷ [];
  taken = 2;
  ending = None;
}

-- the session at node 1, which answered, took the Init, sent Data, took the End and ended
abbrev answered_session : Session
answered_session = record {
  key = key;
  peer = party 0;
  owner = Some 0;
  sent = item 3 body.Confirm ∷ item 5 (body.Data (value.Number 1)) ∷ item 11 body.End ∷ [];
  came = body.Init 2 (value.Number 0) ∷ body.End ∷ [];
  taken = 2;
  ending = Some body.End;
}

row_four_talks : sessions_after (network 2) row_four ≡ Some ((opened_session ∷ []) ∷ (answered_session ∷ []) ∷ [])
unfolding run_of net_step node_step effect_of apply_effect item_from
row_four_talks = refl

-- merging the lists of the nodes gives the run back
abbrev own : ℕ → List (ℕ × Cause) → List Cause
own p xs = of_node p xs

row_four_merged : merge (λ (c : Cause). c.stamp) (own 0 row_four ∷ own 1 row_four ∷ []) ≡ row_four
unfolding merge
row_four_merged = refl

-- a Move before the Init's Arrive, a second Arrive of one item, and an item that the sender doesn't have, are no steps
early : flows_after (network 2) (at 1 0 (event.Start 0 2 (1 ∷ 1 ∷ [])) ∷ at 2 0 (event.Move 0) ∷ at 3 1 (event.Answer key) ∷ at 4 0 (event.Move 0) ∷ []) ≡ None
unfolding run_of net_step node_step effect_of apply_effect item_from
early = refl

twice : flows_after (network 2) (at 1 0 (event.Start 0 2 (1 ∷ 1 ∷ [])) ∷ at 2 0 (event.Move 0) ∷ at 3 1 (event.Answer key) ∷ at 4 0 (event.Arrive key 1 0) ∷ at 5 0 (event.Arrive key 1 0) ∷ []) ≡ None
unfolding run_of net_step node_step effect_of apply_effect item_from
twice = refl

unsent : flows_after (network 2) (at 1 0 (event.Start 0 2 (1 ∷ 1 ∷ [])) ∷ at 2 1 (event.Answer key) ∷ []) ≡ None
unfolding run_of net_step node_step effect_of apply_effect item_from
unsent = refl
