-- What a node is about to commit has the effect that it tells of.
use Rattle.std.proofs.Common.{◌≡◌, ℕ, ◌^◌, ◌<◌, ◌≤◌, List, length, slice_get, Option, Some, None, Bool, Result, Ok, true, false, cond, option_map, refl, sym, ◌∙◌, ap, subst, arith}
use Rattle.std.specs.Prelude.{IfSome, is_some}
use Rattle.std.proofs.lemmas.Bool.{eq-eqb}
use Rattle.net_base.specs.declared.causes.Cause.{Cause}
use Rattle.net_base.specs.declared.causes.Event.{Event}
use Rattle.net_base.specs.declared.causes.Event.TheVariants as event
use Rattle.net_base.specs.declared.names.Identity.{Identity}
use Rattle.net_base.specs.declared.names.Key.{Key}
use Rattle.net_base.specs.declared.values.Moment.{Moment}
use Rattle.net_base.specs.Names.{IsKey}
use Rattle.signing.specs.Marks.{keyed_mark}
use Rattle.ledger_tables.specs.Ledgers.{Ledger}
use Rattle.session_wire.specs.declared.body.Body.{Body}
use Rattle.session_wire.specs.declared.body.Body.TheVariants as body_of
use Rattle.session_wire.specs.declared.change.SessionChange.{SessionChange}
use Rattle.session_wire.specs.Sessions.{Session, session_of}
use Rattle.session_wire.specs.Rules.{is_init, is_new_key, is_next}
use Rattle.flow_machine.specs.declared.acts.Act.{Act}
use Rattle.flow_machine.specs.declared.flows.Checkpoint.{Checkpoint}
use Rattle.flow_machine.specs.declared.flows.FlowState.{FlowState}
use Rattle.flow_machine.specs.declared.flows.FlowState.TheVariants as state
use Rattle.flow_machine.specs.Flows.{AreWithin}
use Rattle.flow_machine.specs.Machine.{Machine}
use Rattle.transition_record.specs.Causes.{IsEvent, came_key_of}
use Rattle.transition_record.specs.Changes.{IsSession, session_text, IsLedger}
use Rattle.net_model.specs.Environment.{Environment, Judgement, party, environment, meaning, unjudged}
use Rattle.net_model.specs.State.{NodeState, Effect, session_part, with_ids}
use Rattle.net_model.specs.Steps.{place, effect_of, goes_on, answering, answered_with}
use Rattle.net_model.specs.Enabled.{enabled_event}
use Rattle.net_model.proofs.Enabled.{effect_at}
use Rattle.session_acts.specs.Parts.{unchanged, answer_to, arrival}
use Rattle.session_acts.proofs.Limits.{unchanged_within}
use Rattle.flow_records.specs.declared.step.FlowAfter.{FlowAfter}
use Rattle.flow_records.specs.declared.step.Step.{Step}
use Rattle.flow_records.specs.Steps.{no_ledger, effect_by, part_after, owner_of, ends_with, IsAfter}
use Rattle.node_ledger.specs.Ledgered.{ledger_in, HoldsLedger}
use Rattle.ledger_acts.specs.declared.job.Done.{Done as DoneJob}
use Rattle.ledger_acts.specs.Jobs.{awaited, IsRun, conclusion}
use Rattle.ledger_acts.proofs.Concluded.{settles_as_meant}
use Rattle.flow_steps.specs.Going.{first_after, begun_for, effect_in, Becomes, Performs}
use Rattle.flow_steps.specs.Ready.{IsReady}
use Rattle.flow_steps.proofs.Limits.{unchanged_short}
use Rattle.flow_steps.proofs.Picks.{IsOwn}

-- ---- a flow that goes on

pub goes_ready : {F : Type 0} (w : Environment F) (me now n : ℕ) (within : F → Type 0) (flows : List (FlowState F)) (sessions : List Session) (tables : Ledger) (cause : Cause) (at : Checkpoint F) (step : Step F) → at.flow ≡ n → slice_get flows n ≡ Some (state.Live at)
    → enabled_event sessions now (state.Live at) ≡ Some cause.event → IsOwn n cause.event → n < 2 ^ 32 → step.cause ≡ cause → Performs w me now within sessions tables at step → (s : NodeState F) → s.flows ≡ flows → s.sessions ≡ sessions → HoldsLedger (party me) (ledger_in s) tables → IsReady w me now within s None step
goes_ready {F} w me now n within flows sessions tables cause at step num there by own small is p s same also holds = record {
  effect = ap (λ (c : Cause). effect_of w me s now c.event None) is
      ∙ effect_at w me s now at.flow (state.Live at) cause.event (effect_in step) (ap (λ (l : List (FlowState F)). slice_get l at.flow) same ∙ ap (λ k. slice_get flows k) num ∙ there) refl (ap (λ (l : List Session). enabled_event l now (state.Live at)) also ∙ by)
      (p.by s cause.event also holds by);
  limits = subst (λ (c : Cause). IsEvent c.event) (sym is) (own.limits small);
  flow = p.limits.flow;
  session = subst (λ (c : Cause). IsSession (owner_of step.flow) (came_key_of c.event) step.session) (sym is) (subst (λ k. IsSession (owner_of step.flow) k step.session) (sym own.key) p.limits.session);
  ledger = p.limits.ledger;
  short = p.limits.short;
}

-- ---- a flow whose job was run

module _ {F : Type 0} (m : Machine F) (r : List ℕ → Result (F × List ℕ) ℕ) (id : Identity) (now : ℕ) (at : Checkpoint F) (d : DoneJob) (judge : Judgement) (run : IsRun judge keyed_mark d) (s : NodeState F) where
  -- where the flow waits for the job, what that gave is the effect of moving it
  settled_effect : (f : ℕ) → slice_get s.flows f ≡ Some (state.Live at) → awaited id (with_ids s.stored) at ≡ Some d.job → effect_of (environment (meaning m r judge) id) id.party.0 s now (event.Move f) None ≡ Some (goes_on (environment (unjudged m r) id) id.party.0 now at (conclusion d))
  unfolding effect_of
  settled_effect f there waits = rw there (settles_as_meant (environment (meaning m r judge) id) id.party.0 s now at d run waits)

  pub settled_ready : (within : F → Type 0) (cause : Cause) (step : Step F) → slice_get s.flows d.job.flow ≡ Some (state.Live at) → awaited id (with_ids s.stored) at ≡ Some d.job → cause.event ≡ event.Move d.job.flow → d.job.flow < 2 ^ 32 → step.cause ≡ cause
      → Becomes within (goes_on (environment (unjudged m r) id) id.party.0 now at (conclusion d)) step → IsReady (environment (meaning m r judge) id) id.party.0 now within s None step
  settled_ready within cause step there waits moves small is b =
      let by : step.cause.event ≡ event.Move d.job.flow = ap (λ (c : Cause). c.event) is ∙ moves in
      record {
        effect = ap (λ (e : Event). effect_of (environment (meaning m r judge) id) id.party.0 s now e None) by ∙ settled_effect d.job.flow there waits ∙ ap (λ (x : Effect F). Some x) (sym b.effect);
        limits = subst IsEvent (sym by) small;
        flow = b.limits.flow;
        session = subst (λ (e : Event). IsSession (owner_of step.flow) (came_key_of e) step.session) (sym by) b.limits.session;
        ledger = b.limits.ledger;
        short = b.limits.short;
      }

-- nothing changes of the ledger
quiet_within : (n : ℕ) (b : Bool) → IsLedger n b (no_ledger n b)
quiet_within n b = ((tt, ((omega arith, tt), tt)), (refl, refl))

-- ---- a flow that begins

first_within : {F : Type 0} (within : F → Type 0) (n class : ℕ) (made : F × Act F) → n < 2 ^ 32 → class < 2 ^ 16 → AreWithin within made → IsAfter within (first_after n class made)
first_within within n class made small few is = ((small, (omega arith, (few, (is.1, (is.0, (omega arith, tt)))))), refl)

pub begun_ready : {F : Type 0} (w : Environment F) (me stamp : ℕ) (now : Moment) (within : F → Type 0) (class n : ℕ) (args : List ℕ) (made : F × Act F) (change : SessionChange) → n < 2 ^ 32 → class < 2 ^ 16 → w.machine.made class args (place w me n 0 now.0) ≡ Ok made → AreWithin within made → length args ≤ 65535
    → change ≡ unchanged n → (s : NodeState F) → length s.flows ≡ n → IsReady w me now.0 within s None (record { cause = record { stamp = stamp; moment = now; event = event.Start n class args }; flow = Some (first_after n class made); session = change; ledger = no_ledger n false })
unfolding effect_of
begun_ready w me stamp now within class n args made change small few is limits short none s same = record {
  effect = rw (eq-eqb n (length s.flows) (sym same), is, none) refl;
  limits = (small, (few, short));
  flow = first_within within n class made small few limits;
  session = subst (IsSession n None) (sym none) (unchanged_within n);
  ledger = quiet_within n false;
  short = subst (λ (c : SessionChange). length (session_text c) ≤ 50000) (sym none) (unchanged_short n);
}

-- ---- an Init that is answered

-- the flow that answers has its number
pub begun_owner : {F : Type 0} (n class : ℕ) (made : Option (F × Act F)) (flow : FlowAfter F) → Some flow ≡ option_map (first_after n class) made → flow.number ≡ n
begun_owner n class None flow is = cc
begun_owner n class (Some x) flow is = let same : flow ≡ first_after n class x = cc in ap (λ a. a.number) same

pub begun_within : {F : Type 0} (within : F → Type 0) (n class : ℕ) (made : F × Act F) → n < 2 ^ 32 → class < 2 ^ 16 → AreWithin within made → IsAfter within (first_after n class made)
begun_within within n class made small few is = first_within within n class made small few is

module _ {F : Type 0} (m : Machine F) (r : List ℕ → Result (F × List ℕ) ℕ) (id : Identity) (now n : ℕ) where
  -- the flow that answers an Init has its number
  pub answer_owner : (key : Key) (init : Body) (flow : FlowAfter F) → Some flow ≡ begun_for (environment (unjudged m r) id) id.party.0 now n key init → flow.number ≡ n
  answer_owner key (body_of.Init class first) flow is = begun_owner n class (m.begun class key (place (environment (unjudged m r) id) id.party.0 n 0 now)) flow is
  answer_owner key _ flow is = cc

  answer_with : (key : Key) (class : ℕ) (init : Body) (made : Option (F × Act F)) (flow : Option (FlowAfter F)) (change : SessionChange) → flow ≡ option_map (first_after n class) made → session_part change ≡ answer_to key init (is_some flow) → answering key n class init made ≡ effect_by flow change (no_ledger (owner_of flow) (ends_with flow))
  answer_with key class init (Some x) flow change is told =
      let sent : session_part change ≡ answer_to key init true = told ∙ ap (λ o. answer_to key init (is_some o)) is in
      sym ((λ i. record { flow = part_after (is i); change = session_part change }) ∙ (λ i. record { flow = part_after (Some (first_after n class x)); change = sent i }))
  answer_with key class init None flow change is told =
      let sent : session_part change ≡ answer_to key init false = told ∙ ap (λ o. answer_to key init (is_some o)) is in
      sym ((λ i. record { flow = part_after (is i); change = session_part change }) ∙ (λ i. record { flow = part_after {F = F} None; change = sent i }))

  answer_effect : (key : Key) (init : Body) (flow : Option (FlowAfter F)) (change : SessionChange) → is_init init ≡ true → flow ≡ begun_for (environment (unjudged m r) id) id.party.0 now n key init → session_part change ≡ answer_to key init (is_some flow)
      → (s : NodeState F) → length s.flows ≡ n → is_new_key id.nodes id.party s.sessions key ≡ true → effect_of (environment (unjudged m r) id) id.party.0 s now (event.Answer key) (Some init) ≡ Some (effect_by flow change (no_ledger (owner_of flow) (ends_with flow)))
  unfolding effect_of
  answer_effect key (body_of.Init class first) flow change init is told s same new =
      let w = environment (unjudged m r) id in
      ap (λ b. cond b (answered_with w id.party.0 s now key (body_of.Init class first)) None) new
      ∙ ap (λ k. Some (answering key k class (body_of.Init class first) (m.begun class key (place w id.party.0 k 0 now)))) same
      ∙ ap (λ (e : Effect F). Some e) (answer_with key class (body_of.Init class first) (m.begun class key (place w id.party.0 n 0 now)) flow change is told)
  answer_effect key _ flow change init is told s same new = cc

  -- what answers an Init is ready
  pub answer_ready : (within : F → Type 0) (stamp : ℕ) (moment : Moment) (key : Key) (init : Body) (flow : Option (FlowAfter F)) (change : SessionChange) → is_init init ≡ true → IsKey key → flow ≡ begun_for (environment (unjudged m r) id) id.party.0 now n key init → IfSome flow (IsAfter within) → session_part change ≡ answer_to key init (is_some flow)
      → IsSession (owner_of flow) (Some key) change → length (session_text change) ≤ 50000 → (s : NodeState F) → length s.flows ≡ n → is_new_key id.nodes id.party s.sessions key ≡ true
      → IsReady (environment (unjudged m r) id) id.party.0 now within s (Some init) (record { cause = record { stamp = stamp; moment = moment; event = event.Answer key }; flow = flow; session = change; ledger = no_ledger (owner_of flow) (ends_with flow) })
  answer_ready within stamp moment key init flow change holds is_key is limits told h short s same new = record {
    effect = answer_effect key init flow change holds is told s same new;
    limits = is_key;
    flow = limits;
    session = h;
    ledger = quiet_within (owner_of flow) (ends_with flow);
    short = short;
  }

-- ---- an item that arrives

module _ {F : Type 0} (m : Machine F) (r : List ℕ → Result (F × List ℕ) ℕ) (id : Identity) (now : ℕ) where
  arrive_effect : (key : Key) (direction number : ℕ) (body : Body) (change : SessionChange) (s : NodeState F) (session : Session) → session_part change ≡ arrival body → session_of key s.sessions ≡ Some session → is_next id.party key direction number body session ≡ true
      → effect_of (environment (unjudged m r) id) id.party.0 s now (event.Arrive key direction number) (Some body) ≡ Some (effect_by None change (no_ledger 0 false))
  unfolding effect_of
  arrive_effect key direction number body change s session told stands next =
      let some : Option (Effect F) = Some (record { flow = part_after {F = F} None; change = arrival body }) in
      rw stands (ap (λ b. cond b some None) next ∙ (λ i. Some (record { flow = part_after {F = F} None; change = sym told i })))

  pub arrive_ready : (within : F → Type 0) (stamp : ℕ) (moment : Moment) (key : Key) (direction number : ℕ) (body : Body) (change : SessionChange) → IsKey key → direction < 256 → number < 2 ^ 32 → session_part change ≡ arrival body → IsSession 0 (Some key) change → length (session_text change) ≤ 50000
      → (s : NodeState F) (session : Session) → session_of key s.sessions ≡ Some session → is_next id.party key direction number body session ≡ true
      → IsReady (environment (unjudged m r) id) id.party.0 now within s (Some body) (record { cause = record { stamp = stamp; moment = moment; event = event.Arrive key direction number }; flow = None; session = change; ledger = no_ledger 0 false })
  arrive_ready within stamp moment key direction number body change is_key small few told h short s session stands next = record {
    effect = arrive_effect key direction number body change s session told stands next;
    limits = (is_key, (small, few));
    flow = tt;
    session = h;
    ledger = quiet_within 0 false;
    short = short;
  }
