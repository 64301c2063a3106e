-- What becomes of a flow is what its act means.
use Rattle.std.proofs.Common.{◌≡◌, ℕ, ◌^◌, ◌+◌, ◌-◌, ◌<◌, ◌≤◌, List, [], ◌∷◌, length, Option, Some, None, Result, Bool, true, false, cond, ◌&&◌, nat_lt, nat_le, option_map, refl, sym, ◌∙◌, ap, subst, arith}
use Rattle.std.specs.Prelude.{is_none, IfOk, Ok, Err}
use Rattle.std.specs.List.{AllByRecursion}
use Rattle.std.specs.Option.{unwrap_or}
use Rattle.std.proofs.lemmas.Bool.{ltb-true}
use Rattle.std.proofs.lemmas.Result.{IfOk-weaker}
use Rattle.net_base.specs.declared.causes.Cause.{Cause}
use Rattle.net_base.specs.declared.causes.Event.{Event}
use Rattle.net_base.specs.declared.causes.Event.TheVariants as event
use Rattle.net_base.specs.declared.names.Identity.{Identity}
use Rattle.net_base.specs.declared.names.Key.{Key}
use Rattle.net_base.specs.declared.names.Token.{Token}
use Rattle.net_base.specs.declared.values.Hash32.{Hash32}
use Rattle.net_base.specs.declared.values.Moment.{Moment}
use Rattle.net_base.specs.declared.values.Party.{Party}
use Rattle.net_base.specs.Names.{IsIdentity}
use Rattle.net_base.specs.Values.{IsMoment}
use Rattle.ledger_types.specs.declared.change.LedgerChange.{LedgerChange}
use Rattle.ledger_types.specs.declared.notary.Request.{Request}
use Rattle.ledger_types.specs.declared.tx.SignedTx.{SignedTx}
use Rattle.ledger_types.specs.declared.tx.Tx.{Tx}
use Rattle.ledger_types.specs.declared.value.Value.{Value}
use Rattle.ledger_types.specs.Values.{IsValue}
use Rattle.session_wire.specs.declared.body.Body.{Body}
use Rattle.session_wire.specs.Sessions.{Session, next_item}
use Rattle.session_wire.specs.Rules.{owned, waits_for}
use Rattle.flow_machine.specs.declared.acts.Act.{Act}
use Rattle.flow_machine.specs.declared.acts.Act.TheVariants as act
use Rattle.flow_machine.specs.declared.acts.Resumed.{Resumed}
use Rattle.flow_machine.specs.declared.acts.Resumed.TheVariants as resumed
use Rattle.flow_machine.specs.declared.flows.Checkpoint.{Checkpoint}
use Rattle.flow_machine.specs.declared.flows.FlowState.{FlowState}
use Rattle.flow_machine.specs.declared.flows.FlowState.TheVariants as state
use Rattle.flow_machine.specs.Checkpoints.{IsCheckpoint}
use Rattle.flow_machine.specs.Flows.{KeepsLimits}
use Rattle.flow_machine.specs.Limits.{IsPlace, IsResumed}
use Rattle.flow_machine.specs.Machine.{Machine}
use Rattle.net_model.specs.Environment.{Environment, Judgement, party, environment, meaning, unjudged}
use Rattle.net_model.specs.State.{NodeState, Effect, nothing, fresh, session_part, with_ids}
use Rattle.net_model.specs.Steps.{Done, goes_on, onwards, pushes, returns, fails, opens, sends, receives, takes, performed, lapsed, lapses}
use Rattle.net_model.specs.Enabled.{enabling, enabled_event, effect_on}
use Rattle.net_model.specs.Sound.{IsNumbered}
use Rattle.session_wire.specs.declared.change.SessionChange.{SessionChange}
use Rattle.session_wire.specs.declared.body.Body.TheVariants as body_of
use Rattle.transition_record.specs.Changes.{IsSession, session_text}
use Rattle.session_acts.specs.Parts.{unchanged}
use Rattle.session_acts.proofs.Limits.{unchanged_within}
use Rattle.flow_records.specs.Records.{IsFlow}
use Rattle.flow_records.specs.declared.step.Step.{Step}
use Rattle.flow_records.specs.Spelling.{is_over}
use Rattle.transition_record.specs.Changes.{IsLedger}
use Rattle.flow_records.specs.Steps.{no_ledger, whole_part, effect_by}
use Rattle.ledger_tables.specs.Ledgers.{Ledger}
use Rattle.node_ledger.specs.Ledgered.{LedgerState, ledger_in, HoldsLedger}
use Rattle.ledger_acts.specs.declared.outcome.LedgerOutcome.{LedgerOutcome}
use Rattle.ledger_acts.specs.Acts.{Does, done_of, reserving, finding, lacking, signing, notarising}
use Rattle.ledger_acts.specs.Jobs.{job_for, awaited, unjudged as unjudged_with}
use Rattle.ledger_acts.proofs.Meant.{acts_as_meant}
use Rattle.ledger_acts.proofs.Judging.{unjudged_as_meant}
use Rattle.flow_steps.specs.Going.{gone_on, called, returned, takes_or_lapses, over, IsBounded, changed_by, Becomes, Performs}
use Rattle.flow_steps.proofs.Limits.{unchanged_short}

-- ---- limits

-- a place at a node of a network is within its limits
pub place_limits : (id : Identity) (n step : ℕ) (now : Moment) → IsIdentity id → n < 2 ^ 32 → step < 2 ^ 32 → IsMoment now → IsPlace (record { me = id.party; notary = id.notary; nodes = id.nodes; flow = n; step = step; now = now })
place_limits id n step now is small few by = record { me = is.0; notary = is.1.1; nodes = omega (arith, is.1.0.1); flow = small; step = few; moment = by }

module _ {F : Type 0} (m : Machine F) (r : List ℕ → Result (F × List ℕ) ℕ) (within : F → Type 0) (keeps : KeepsLimits within m) (id : Identity) (is : IsIdentity id) (now : Moment) (by : IsMoment now) (at : Checkpoint F) (limits : IsCheckpoint within at)
    (step : at.step < 2 ^ 32 - 1) where
  -- the flow is within its limits once a frame was resumed within them
  pub gone_limits : (frame : F) (below : List F) (with : Resumed) → within frame → length below ≤ 7 → AllByRecursion within below → IsResumed with → IsFlow within (gone_on (environment (unjudged m r) id) id.party.0 now.0 at frame below with)
  gone_limits frame below with top few rest result =
      let made = keeps.next frame with (record { me = id.party; notary = id.notary; nodes = id.nodes; flow = at.flow; step = at.step; now = now }) top result (place_limits id at.flow at.step now is limits.0 limits.1.0 by) in
      (limits.0, (omega (arith, step), (limits.1.1.0, (made.1, (made.0, (few, rest))))))

  called_by : (b : Bool) (frame : F) → nat_lt (length at.stack.below) 7 ≡ b → within frame
      → IsFlow within (cond b (gone_on (environment (unjudged m r) id) id.party.0 now.0 at frame (at.stack.top ∷ at.stack.below) resumed.Started) (gone_on (environment (unjudged m r) id) id.party.0 now.0 at at.stack.top at.stack.below (resumed.Refused 49)))
  called_by true frame few top =
      let short : length at.stack.below < 7 = ltb-true (length at.stack.below) 7 few in
      gone_limits frame (at.stack.top ∷ at.stack.below) resumed.Started top (omega (arith, short)) (limits.1.1.1.1.0, limits.1.1.1.1.1.1) tt
  called_by false frame few top = gone_limits at.stack.top at.stack.below (resumed.Refused 49) limits.1.1.1.1.0 limits.1.1.1.1.1.0 limits.1.1.1.1.1.1 (omega arith)

  -- so is it once a subflow began
  pub called_limits : (frame : F) → within frame → IsFlow within (called (environment (unjudged m r) id) id.party.0 now.0 at frame)
  called_limits frame top = called_by (nat_lt (length at.stack.below) 7) frame refl top

  returned_by : (value : Value) (below : List F) → IsValue value → length below ≤ 7 → AllByRecursion within below → IsFlow within (returned (environment (unjudged m r) id) id.party.0 now.0 at value below)
  returned_by value [] v few rest = (omega (arith, step), (limits.1.1.0, v))
  returned_by value (frame ∷ below) v few rest = gone_limits frame below (resumed.Returned value) rest.0 (omega (arith, few)) rest.1 v

  -- so is it once a frame returned
  pub returned_limits : (value : Value) → IsValue value → IsFlow within (returned (environment (unjudged m r) id) id.party.0 now.0 at value at.stack.below)
  returned_limits value v = returned_by value at.stack.below v limits.1.1.1.1.1.0 limits.1.1.1.1.1.1

module _ {F : Type 0} (w : Environment F) (me now : ℕ) (at : Checkpoint F) where
  called_numbered_by : (b : Bool) (frame : F) → IsNumbered at.flow (cond b (gone_on w me now at frame (at.stack.top ∷ at.stack.below) resumed.Started) (gone_on w me now at at.stack.top at.stack.below (resumed.Refused 49)))
  called_numbered_by true frame = refl
  called_numbered_by false frame = refl

  -- a live flow keeps its number
  pub called_numbered : (frame : F) → IsNumbered at.flow (called w me now at frame)
  called_numbered frame = called_numbered_by (nat_lt (length at.stack.below) 7) frame

  pub returned_numbered : (value : Value) (below : List F) → IsNumbered at.flow (returned w me now at value below)
  returned_numbered value [] = tt
  returned_numbered value (frame ∷ below) = refl

-- ---- what becomes of a flow

module _ {F : Type 0} (w : Environment F) (me now : ℕ) (within : F → Type 0) (at : Checkpoint F) (cause : Cause) where
  -- its flow is this now, and this changes in the sessions
  abbrev stepped : FlowState F → SessionChange → Step F
  stepped new change = changed_by cause at.flow new change (no_ledger at.flow (is_over new))

  -- nothing changes of the ledger
  still : (n : ℕ) (b : Bool) → IsLedger n b (no_ledger n b)
  still n b = ((tt, ((omega arith, tt), tt)), (refl, refl))

  -- its top frame went on
  pub gone_becomes : (new : FlowState F) (with : Resumed) (session : SessionChange) (ledger : LedgerChange) → new ≡ gone_on w me now at at.stack.top at.stack.below with → IsFlow within (gone_on w me now at at.stack.top at.stack.below with) → IsSession at.flow None session
      → length (session_text session) ≤ 50000 → IsLedger at.flow false ledger → Becomes within (goes_on w me now at (with, whole_part session ledger)) (changed_by cause at.flow new session ledger)
  gone_becomes new with session ledger is limits h short l = record {
    effect = ap (λ (x : FlowState F). effect_by (Some (record { number = at.flow; state = x })) session ledger) is;
    limits = record {
      flow = (subst (IsFlow within) (sym is) limits, subst (IsNumbered at.flow) (sym is) refl);
      session = h;
      ledger = subst (λ (x : FlowState F). IsLedger at.flow (is_over x) ledger) (sym is) l;
      short = short;
    };
  }

  pushed_by : (b k : Bool) (frame : F) → effect_by (Some (record { number = at.flow; state = cond b (gone_on w me now at frame (at.stack.top ∷ at.stack.below) resumed.Started) (gone_on w me now at at.stack.top at.stack.below (resumed.Refused 49)) })) (unchanged at.flow) (no_ledger at.flow k)
      ≡ cond b (record { flow = onwards w me now at frame (at.stack.top ∷ at.stack.below) resumed.Started; change = nothing }) (goes_on w me now at (resumed.Refused 49, nothing))
  pushed_by true k frame = refl
  pushed_by false k frame = refl

  -- its subflow began, or it was told that its stack has 8 frames
  pub called_becomes : (new : FlowState F) (change : SessionChange) (frame : F) → new ≡ called w me now at frame → change ≡ unchanged at.flow → IsFlow within (called w me now at frame) → Becomes within (pushes w me now at frame) (stepped new change)
  called_becomes new change frame is none limits = record {
    effect = (λ i. effect_by (Some (record { number = at.flow; state = is i })) (none i) (no_ledger at.flow (is_over new))) ∙ pushed_by (nat_lt (length at.stack.below) 7) (is_over new) frame;
    limits = record {
      flow = (subst (IsFlow within) (sym is) limits, subst (IsNumbered at.flow) (sym is) (called_numbered w me now at frame));
      session = subst (IsSession at.flow None) (sym none) (unchanged_within at.flow);
      ledger = still at.flow (is_over new);
      short = subst (λ (c : SessionChange). length (session_text c) ≤ 50000) (sym none) (unchanged_short at.flow);
    };
  }

  -- it is over
  pub over_becomes : (new : FlowState F) (change : SessionChange) (sessions : List Session) (last : Body) → session_part change ≡ (over me sessions at new last).change → IsFlow within new → IsNumbered at.flow new → IsSession at.flow None change → length (session_text change) ≤ 50000
      → Becomes within (over me sessions at new last) (stepped new change)
  over_becomes new change sessions last told limits own h short = record {
    effect = λ i. record { flow = (effect_by (Some (record { number = at.flow; state = new })) change (no_ledger at.flow (is_over new))).flow; change = told i };
    limits = record {
      flow = (limits, own);
      session = h;
      ledger = still at.flow (is_over new);
      short = short;
    };
  }

  -- a frame returned to the one below it
  returned_to : (s : NodeState F) (k : Bool) (value : Value) (below : List F) → 0 < length below → effect_by (Some (record { number = at.flow; state = returned w me now at value below })) (unchanged at.flow) (no_ledger at.flow k) ≡ returns w me s now at value below
  returned_to s k value [] deep = absurd (omega (arith, deep))
  returned_to s k value (frame ∷ below) deep = refl

  pub returned_becomes : (s : NodeState F) (new : FlowState F) (change : SessionChange) (value : Value) → new ≡ returned w me now at value at.stack.below → change ≡ unchanged at.flow → IsFlow within (returned w me now at value at.stack.below) → 0 < length at.stack.below
      → Becomes within (returns w me s now at value at.stack.below) (stepped new change)
  returned_becomes s new change value is none limits deep = record {
    effect = (λ i. effect_by (Some (record { number = at.flow; state = is i })) (none i) (no_ledger at.flow (is_over new))) ∙ returned_to s (is_over new) value at.stack.below deep;
    limits = record {
      flow = (subst (IsFlow within) (sym is) limits, subst (IsNumbered at.flow) (sym is) (returned_numbered w me now at value at.stack.below));
      session = subst (IsSession at.flow None) (sym none) (unchanged_within at.flow);
      ledger = still at.flow (is_over new);
      short = subst (λ (c : SessionChange). length (session_text c) ≤ 50000) (sym none) (unchanged_short at.flow);
    };
  }

module _ {F : Type 0} (w : Environment F) (me now : ℕ) (at : Checkpoint F) where
  -- the bottom frame returned
  pub ended_means : (s : NodeState F) (sessions : List Session) (new : FlowState F) (value : Value) (below : List F) → s.sessions ≡ sessions → length below ≡ 0 → new ≡ returned w me now at value below → over me sessions at new body_of.End ≡ returns w me s now at value below
  ended_means s sessions new value [] same none is = (λ i. over me (sym same i) at (is i) body_of.End)
  ended_means s sessions new value (frame ∷ below) same none is = absurd (omega (arith, none))

-- ---- by its event

-- a state with these sessions and nothing else
abbrev pub standing : {F : Type 0} → List Session → NodeState F
standing sessions = record fresh { sessions = sessions }

module _ {F : Type 0} (w : Environment F) (me now : ℕ) (sessions : List Session) (tables : Ledger) (at : Checkpoint F) where
  -- by whichever event the flow goes on, it has this effect
  abbrev pub By : Effect F → Type 0
  By e = (s : NodeState F) (ev : Event) → s.sessions ≡ sessions → HoldsLedger (party me) (ledger_in s) tables → enabled_event sessions now (state.Live at) ≡ Some ev → effect_on w me s now (state.Live at) ev ≡ Some e

  event_as : (a : Act F) → at.waiting ≡ a → enabled_event sessions now (state.Live at) ≡ enabling sessions at.flow now a
  event_as a is = ap (λ (x : Act F). enabling sessions at.flow now x) is

  move_as : (s : NodeState F) (a : Act F) → at.waiting ≡ a → effect_on w me s now (state.Live at) (event.Move at.flow) ≡ performed w me s now at a
  move_as s a is = ap (λ (x : Act F). performed w me s now at x) is

  lapse_as : (s : NodeState F) (a : Act F) → at.waiting ≡ a → effect_on w me s now (state.Live at) (event.Lapse at.flow) ≡ lapsed w me now at (lapses s now at.flow a)
  lapse_as s a is = ap (λ (x : Act F). lapsed w me now at (lapses s now at.flow x)) is

  -- an act that is always enabled
  by_move : (a : Act F) → at.waiting ≡ a → enabling sessions at.flow now a ≡ Some (event.Move at.flow) → (s : NodeState F) (ev : Event) → enabled_event sessions now (state.Live at) ≡ Some ev → effect_on w me s now (state.Live at) ev ≡ performed w me s now at a
  by_move a is en s ev h =
      let one : Some (event.Move at.flow) ≡ Some ev = sym en ∙ sym (event_as a is) ∙ h in
      let move : event.Move at.flow ≡ ev = cc in
      ap (λ x. effect_on w me s now (state.Live at) x) (sym move) ∙ move_as s a is

  pub by_open : (to : Party) (class : ℕ) (first : Value) → at.waiting ≡ act.Open to class first → By (goes_on w me now at (opens w.nodes me sessions at.flow to class first))
  by_open to class first is s ev same holds h = by_move (act.Open to class first) is refl s ev h ∙ ap (λ (l : List Session). Some (goes_on w me now at (opens w.nodes me l at.flow to class first))) same

  pub by_send : (key : Key) (value : Value) → at.waiting ≡ act.Send key value → By (goes_on w me now at (sends me value (owned at.flow key sessions)))
  by_send key value is s ev same holds h = by_move (act.Send key value) is refl s ev h ∙ ap (λ (l : List Session). Some (goes_on w me now at (sends me value (owned at.flow key l)))) same

  pub by_sub : (frame : F) → at.waiting ≡ act.Sub frame → By (pushes w me now at frame)
  by_sub frame is s ev same holds h = by_move (act.Sub frame) is refl s ev h

  returns_same : (s : NodeState F) (value : Value) (below : List F) → s.sessions ≡ sessions → returns w me s now at value below ≡ returns w me (standing sessions) now at value below
  returns_same s value [] same = ap (λ (l : List Session). over me l at (state.Ended (at.step + 1) at.class value) body_of.End) same
  returns_same s value (frame ∷ below) same = refl

  pub by_return : (value : Value) → at.waiting ≡ act.Return value → By (returns w me (standing sessions) now at value at.stack.below)
  by_return value is s ev same holds h = by_move (act.Return value) is refl s ev h ∙ ap (λ (e : Effect F). Some e) (returns_same s value at.stack.below same)

  pub by_fail : (code : ℕ) → at.waiting ≡ act.Fail code → By (fails me (standing {F = F} sessions) at code)
  by_fail code is s ev same holds h = by_move (act.Fail code) is refl s ev h ∙ ap (λ (l : List Session). Some (over me l at (state.Failed (at.step + 1) at.class code) (body_of.Error code))) same

  -- ---- acts that wait

  move_on : (eff : Event → Option (Effect F)) (x : Option (Effect F)) (ev : Event) → eff (event.Move at.flow) ≡ x → Some (event.Move at.flow) ≡ Some ev → eff ev ≡ x
  move_on eff x ev move h = let same : event.Move at.flow ≡ ev = cc in subst (λ v. eff v ≡ x) same move

  lapse_on : (eff : Event → Option (Effect F)) (d : Done) (late : Bool) (ev : Event) → eff (event.Lapse at.flow) ≡ lapsed w me now at late → cond late (Some (event.Lapse at.flow)) None ≡ Some ev → eff ev ≡ Some (goes_on w me now at (resumed.Lapsed, nothing))
  lapse_on eff d true ev lapse h = let same : event.Lapse at.flow ≡ ev = cc in subst (λ v. eff v ≡ Some (goes_on w me now at (resumed.Lapsed, nothing))) same lapse
  lapse_on eff d false ev lapse h = cc

  late_on : (eff : Event → Option (Effect F)) (late : Bool) (ev : Event) → eff (event.Lapse at.flow) ≡ lapsed w me now at (late && true) → cond late (Some (event.Lapse at.flow)) None ≡ Some ev → eff ev ≡ Some (goes_on w me now at (resumed.Lapsed, nothing))
  late_on eff true ev lapse h = lapse_on eff (resumed.Lapsed, nothing) true ev lapse h
  late_on eff false ev lapse h = cc

  abbrev Items : Type 0
  Items = Option (Option ℕ × Body)

  taking_item : (eff : Event → Option (Effect F)) (session : Session) (n : Items) (ev : Event) → eff (event.Move at.flow) ≡ option_map (goes_on w me now at) (option_map (takes session) n) → cond (is_none n) None (Some (event.Move at.flow)) ≡ Some ev
      → eff ev ≡ Some (goes_on w me now at (unwrap_or (option_map (takes session) n) (resumed.Lapsed, nothing)))
  taking_item eff session None ev move h = cc
  taking_item eff session (Some x) ev move h = move_on eff _ ev move h

  taking : (eff : Event → Option (Effect F)) (o : Option Session) (ev : Event) → eff (event.Move at.flow) ≡ option_map (goes_on w me now at) (receives o) → cond (waits_for o) None (Some (event.Move at.flow)) ≡ Some ev
      → eff ev ≡ Some (goes_on w me now at (takes_or_lapses o))
  taking eff None ev move h = move_on eff _ ev move h
  taking eff (Some session) ev move h = taking_item eff session (next_item session session.ending) ev move h

  until_item : (eff : Event → Option (Effect F)) (session : Session) (n : Items) (late : Bool) (ev : Event) → eff (event.Move at.flow) ≡ option_map (goes_on w me now at) (option_map (takes session) n) → eff (event.Lapse at.flow) ≡ lapsed w me now at (late && is_none n)
      → cond (is_none n) (cond late (Some (event.Lapse at.flow)) None) (Some (event.Move at.flow)) ≡ Some ev → eff ev ≡ Some (goes_on w me now at (unwrap_or (option_map (takes session) n) (resumed.Lapsed, nothing)))
  until_item eff session None late ev move lapse h = late_on eff late ev lapse h
  until_item eff session (Some x) late ev move lapse h = move_on eff _ ev move h

  until : (eff : Event → Option (Effect F)) (o : Option Session) (late : Bool) (ev : Event) → eff (event.Move at.flow) ≡ option_map (goes_on w me now at) (receives o) → eff (event.Lapse at.flow) ≡ lapsed w me now at (late && waits_for o)
      → cond (waits_for o) (cond late (Some (event.Lapse at.flow)) None) (Some (event.Move at.flow)) ≡ Some ev → eff ev ≡ Some (goes_on w me now at (takes_or_lapses o))
  until eff None late ev move lapse h = move_on eff _ ev move h
  until eff (Some session) late ev move lapse h = until_item eff session (next_item session session.ending) late ev move lapse h

  pub by_receive : (key : Key) → at.waiting ≡ act.Receive key → By (goes_on w me now at (takes_or_lapses (owned at.flow key sessions)))
  by_receive key is s ev same holds h =
      taking (λ x. effect_on w me s now (state.Live at) x) (owned at.flow key sessions) ev (move_as s (act.Receive key) is ∙ ap (λ (l : List Session). option_map (goes_on w me now at) (receives (owned at.flow key l))) same)
      (sym (event_as (act.Receive key) is) ∙ h)

  pub by_receive_until : (key : Key) (moment : ℕ) → at.waiting ≡ act.ReceiveBy key moment → By (goes_on w me now at (takes_or_lapses (owned at.flow key sessions)))
  by_receive_until key moment is s ev same holds h =
      until (λ x. effect_on w me s now (state.Live at) x) (owned at.flow key sessions) (nat_le moment now) ev
      (move_as s (act.ReceiveBy key moment) is ∙ ap (λ (l : List Session). option_map (goes_on w me now at) (receives (owned at.flow key l))) same)
      (lapse_as s (act.ReceiveBy key moment) is ∙ ap (λ (l : List Session). lapsed w me now at (nat_le moment now && waits_for (owned at.flow key l))) same)
      (sym (event_as (act.ReceiveBy key moment) is) ∙ h)

  pub by_sleep : (moment : ℕ) → at.waiting ≡ act.Sleep moment → By (goes_on w me now at (resumed.Lapsed, nothing))
  by_sleep moment is s ev same holds h = lapse_on (λ x. effect_on w me s now (state.Live at) x) (resumed.Lapsed, nothing) (nat_le moment now) ev (lapse_as s (act.Sleep moment) is) (sym (event_as (act.Sleep moment) is) ∙ h)

pub if_both : {X E : Type 0} (P Q R : X → Type 0) (r : Result X E) → ((x : X) → P x → Q x → R x) → IfOk r P → IfOk r Q → IfOk r R
if_both P Q R (Ok x) f p q = f x p q
if_both P Q R (Err e) f p q = p

-- ---- what an act performed

module _ {F : Type 0} (w : Environment F) (me now : ℕ) (within : F → Type 0) (at : Checkpoint F) where
  -- the flow goes on with what its act means, where that was done
  pub told_becomes : {E : Type 0} (d e : Done) (r : Result (Step F) E) → d ≡ e → IfOk r (λ step. Becomes within (goes_on w me now at d) step) → IfOk r (λ step. Becomes within (goes_on w me now at e) step)
  told_becomes d e r same h = subst (λ x. IfOk r (λ step. Becomes within (goes_on w me now at x) step)) same h

-- ---- at every judgement, where no job is awaited

module _ {F : Type 0} (m : Machine F) (r : List ℕ → Result (F × List ℕ) ℕ) (id : Identity) (now : ℕ) (within : F → Type 0) (sessions : List Session) (tables : Ledger) (at : Checkpoint F) where
  abbrev judged : Judgement → Environment F
  judged judge = environment (meaning m r judge) id

  -- a step that lets the flow go on as its act means, whatever contracts say
  abbrev pub AllPerform : {E : Type 0} → Result (Step F) E → Type 0
  AllPerform res = IfOk res (λ step. (judge : Judgement) → Performs (judged judge) id.party.0 now within sessions tables at step)

  -- so it is where it has the effect that the act has by each event
  pub all_perform : {E : Type 0} (e : Effect F) (res : Result (Step F) E) → ((judge : Judgement) → By (judged judge) id.party.0 now sessions tables at e) → IfOk res (Becomes within e) → AllPerform res
  all_perform e (Err fault) by b = tt
  all_perform e (Ok step) by b = λ judge. record { limits = b.limits; by = λ s ev same holds h. by judge s ev same holds h ∙ ap (λ (x : Effect F). Some x) (sym b.effect) }

  -- what a flow goes on with that goes on by its act on the ledger
  abbrev GoesBy : {E : Type 0} → Result LedgerOutcome E → Result (Step F) E → Type 0
  GoesBy outcome res = (d : Done) → IfOk outcome (λ p. done_of p ≡ d) → IfOk res (Becomes within (goes_on (environment (unjudged m r) id) id.party.0 now at d))

  by_bounded : {E : Type 0} (outcome : Result LedgerOutcome E) (step : Step F) → GoesBy outcome (Ok step) → IsBounded within step
  by_bounded (Ok p) step goes = (goes (done_of p) refl).limits
  by_bounded (Err fault) step goes = (goes (resumed.Lapsed, nothing) tt).limits

  -- an act on the ledger does what it is meant to do, over whatever the tables hold
  abbrev IsMeant : Act F → (Party → LedgerState → Done) → Type 0
  IsMeant a meant = (judge : Judgement) (s : NodeState F) → HoldsLedger id.party (ledger_in s) tables → performed (judged judge) id.party.0 s now at a ≡ Some (goes_on (judged judge) id.party.0 now at (meant id.party (ledger_in s)))

  -- so it is where the flow goes on with what its act on the ledger is meant to do
  ledger_performs : {E : Type 0} (a : Act F) (meant : Party → LedgerState → Done) (outcome : Result LedgerOutcome E) (res : Result (Step F) E) → at.waiting ≡ a → enabling sessions at.flow now a ≡ Some (event.Move at.flow) → IsMeant a meant → IfOk outcome (Does tables meant) → GoesBy outcome res → AllPerform res
  ledger_performs a meant outcome (Err fault) is en means does goes = tt
  ledger_performs a meant outcome (Ok step) is en means does goes = λ judge. record {
    limits = by_bounded outcome step goes;
    by = λ s ev same holds h.
        let b : Becomes within (goes_on (environment (unjudged m r) id) id.party.0 now at (meant id.party (ledger_in s))) step = goes (meant id.party (ledger_in s)) (IfOk-weaker outcome (Does tables meant) (λ p. done_of p ≡ meant id.party (ledger_in s)) (λ p d. d id.party (ledger_in s) holds) does) in
        by_move (judged judge) id.party.0 now sessions tables at a is en s ev h ∙ means judge s holds ∙ ap (λ (x : Effect F). Some x) (sym b.effect);
  }

  reserve_meant : (token : Token) (amount : ℕ) → IsMeant (act.Reserve token amount) (reserving token amount)
  reserve_meant token amount judge s holds = (acts_as_meant (judged judge) id.party.0 s now at refl).reserve token amount

  look_up_meant : (h : Hash32) → IsMeant (act.Lookup h) (finding h)
  look_up_meant h judge s holds = (acts_as_meant (judged judge) id.party.0 s now at refl).look_up h

  missing_meant : (tx : Tx) → IsMeant (act.Missing tx) (lacking tx)
  missing_meant tx judge s holds = (acts_as_meant (judged judge) id.party.0 s now at refl).missing tx

  sign_meant : (h : Hash32) → IsMeant (act.Sign h) (λ me s. signing id h)
  sign_meant h judge s holds = (acts_as_meant (judged judge) id.party.0 s now at refl).sign h

  notarise_meant : (request : Request) → IsMeant (act.Notarise request) (notarising id (record { 0 = now }) request)
  notarise_meant request judge s holds = (acts_as_meant (judged judge) id.party.0 s now at refl).notarise request

  -- the flow waits for no job over what is recorded in a state that the tables hold
  no_job : (a : Act F) (s : NodeState F) → at.waiting ≡ a → awaited id tables.store.list at ≡ None → HoldsLedger id.party (ledger_in s) tables → job_for id (with_ids s.stored) at.flow at.step a ≡ None
  no_job a s is none holds = (λ i. job_for id (sym holds.store i) at.flow at.step (sym is i)) ∙ none

  verify_meant : (tx : Tx) → at.waiting ≡ act.Verify tx → awaited id tables.store.list at ≡ None → IsMeant (act.Verify tx) (λ me s. (resumed.Refused 35, nothing))
  verify_meant tx is none judge s holds = (unjudged_as_meant (judged judge) id.party.0 s now at).verify tx (no_job (act.Verify tx) s is none holds)

  record_meant : (stx : SignedTx) → at.waiting ≡ act.Record stx → awaited id tables.store.list at ≡ None → IsMeant (act.Record stx) (λ me s. (unjudged_with id (with_ids s.stored) stx, nothing))
  record_meant stx is none judge s holds = (unjudged_as_meant (judged judge) id.party.0 s now at).record_tx stx (no_job (act.Record stx) s is none holds)

  -- an outcome that is this one does what this one does
  does_as : {E : Type 0} (meant : Party → LedgerState → Done) (outcome made : Result LedgerOutcome E) → outcome ≡ made → IfOk made (Does tables meant) → IfOk outcome (Does tables meant)
  does_as meant outcome made same does = subst (λ o. IfOk o (Does tables meant)) (sym same) does

  pub by_reserve : {E : Type 0} (token : Token) (amount : ℕ) (outcome made : Result LedgerOutcome E) (res : Result (Step F) E) → at.waiting ≡ act.Reserve token amount → outcome ≡ made → IfOk made (Does tables (reserving token amount)) → GoesBy outcome res → AllPerform res
  by_reserve token amount outcome made res is same does goes = ledger_performs (act.Reserve token amount) (reserving token amount) outcome res is refl (reserve_meant token amount) (does_as (reserving token amount) outcome made same does) goes

  pub by_look_up : {E : Type 0} (h : Hash32) (outcome made : Result LedgerOutcome E) (res : Result (Step F) E) → at.waiting ≡ act.Lookup h → outcome ≡ made → IfOk made (Does tables (finding h)) → GoesBy outcome res → AllPerform res
  by_look_up h outcome made res is same does goes = ledger_performs (act.Lookup h) (finding h) outcome res is refl (look_up_meant h) (does_as (finding h) outcome made same does) goes

  pub by_missing : {E : Type 0} (tx : Tx) (outcome made : Result LedgerOutcome E) (res : Result (Step F) E) → at.waiting ≡ act.Missing tx → outcome ≡ made → IfOk made (Does tables (lacking tx)) → GoesBy outcome res → AllPerform res
  by_missing tx outcome made res is same does goes = ledger_performs (act.Missing tx) (lacking tx) outcome res is refl (missing_meant tx) (does_as (lacking tx) outcome made same does) goes

  pub by_notarise : {E : Type 0} (request : Request) (outcome made : Result LedgerOutcome E) (res : Result (Step F) E) → at.waiting ≡ act.Notarise request → outcome ≡ made → IfOk made (Does tables (notarising id (record { 0 = now }) request)) → GoesBy outcome res → AllPerform res
  by_notarise request outcome made res is same does goes =
      let meant : Party → LedgerState → Done = notarising id (record { 0 = now }) request in
      ledger_performs (act.Notarise request) meant outcome res is refl (notarise_meant request) (does_as meant outcome made same does) goes

  pub by_sign : {E : Type 0} (h : Hash32) (outcome : Result LedgerOutcome E) (p : LedgerOutcome) (res : Result (Step F) E) → at.waiting ≡ act.Sign h → outcome ≡ Ok p → done_of p ≡ signing id h → GoesBy outcome res → AllPerform res
  by_sign h outcome p res is same done goes =
      let meant : Party → LedgerState → Done = λ me s. signing id h in
      ledger_performs (act.Sign h) meant outcome res is refl (sign_meant h) (does_as meant outcome (Ok p) same (λ me s holds. done)) goes

  pub by_verify : {E : Type 0} (tx : Tx) (outcome : Result LedgerOutcome E) (p : LedgerOutcome) (res : Result (Step F) E) → at.waiting ≡ act.Verify tx → awaited id tables.store.list at ≡ None → outcome ≡ Ok p → done_of p ≡ (resumed.Refused 35, nothing) → GoesBy outcome res → AllPerform res
  by_verify tx outcome p res is none same done goes =
      let meant : Party → LedgerState → Done = λ me s. (resumed.Refused 35, nothing) in
      ledger_performs (act.Verify tx) meant outcome res is refl (verify_meant tx is none) (does_as meant outcome (Ok p) same (λ me s holds. done)) goes

  pub by_record : {E : Type 0} (stx : SignedTx) (outcome : Result LedgerOutcome E) (p : LedgerOutcome) (res : Result (Step F) E) → at.waiting ≡ act.Record stx → awaited id tables.store.list at ≡ None → outcome ≡ Ok p → done_of p ≡ (unjudged_with id tables.store.list stx, nothing) → GoesBy outcome res → AllPerform res
  by_record stx outcome p res is none same done goes =
      let meant : Party → LedgerState → Done = λ me s. (unjudged_with id (with_ids s.stored) stx, nothing) in
      ledger_performs (act.Record stx) meant outcome res is refl (record_meant stx is none)
      (does_as meant outcome (Ok p) same (λ me s holds. done ∙ ap {B = Done} (λ (l : List (Hash32 × SignedTx)). (unjudged_with id l stx, nothing)) holds.store)) goes
