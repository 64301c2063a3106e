-- Which flow goes on while jobs are out.
use Rattle.std.proofs.Common.{◌≡◌, ◌⊎◌, inl, inr, ℕ, zero, suc, ◌+◌, ◌==◌, ◌&&◌, List, [], ◌∷◌, ◌++◌, slice_get, Option, Some, None, IfSome, MatchOption, Result, Ok, Err, Bool, true, false, cond, is_some, refl, sym, ◌∙◌, ap, subst, arith, length}
use Rattle.std.specs.Prelude.{⊤, not}
use Rattle.std.specs.Option.{option_or, option_and_then, option_map}
use Rattle.std.specs.List.{list_any}
use Rattle.std.proofs.lemmas.Bool.{eq-eqb, eqb-true}
use Rattle.net_base.specs.declared.values.Hash32.{Hash32}
use Rattle.net_base.specs.declared.names.Identity.{Identity}
use Rattle.net_base.specs.declared.causes.Event.{Event}
use Rattle.net_base.specs.declared.causes.Event.TheVariants as event
use Rattle.net_base.specs.declared.names.Tag.{Tag}
use Rattle.ledger_types.specs.declared.tx.SignedTx.{SignedTx}
use Rattle.ledger_types.specs.declared.tx.Tx.{Tx}
use Rattle.ledger_types.specs.Stores.{resolved_of}
use Rattle.session_wire.specs.Sessions.{Session}
use Rattle.flow_machine.specs.Machine.{Machine}
use Rattle.flow_machine.specs.declared.acts.Act.{Act}
use Rattle.flow_machine.specs.declared.acts.Act.TheVariants as act
use Rattle.flow_machine.specs.declared.flows.Checkpoint.{Checkpoint}
use Rattle.flow_machine.specs.declared.flows.FlowState.{FlowState}
use Rattle.flow_machine.specs.declared.flows.FlowState.TheVariants.{Live, Ended, Failed}
use Rattle.checkpoints.specs.Tables.{is_live, where_true, live_from, live_numbers}
use Rattle.net_model.specs.Environment.{Environment, Judgement, environment, meaning}
use Rattle.net_model.specs.Enabled.{enabled_event, picked}
use Rattle.net_model.specs.Sound.{IsNumbered, AreNumbered}
use Rattle.net_model.specs.State.{NodeState, with_ids}
use Rattle.net_model.specs.Steps.{checkpoint_of}
use Rattle.ledger_acts.specs.declared.job.Job.{Job}
use Rattle.net_model.proofs.Basics.{from_map, from_cond}
use Rattle.ledger_acts.specs.Jobs.{job_of as job_with, tx_job, is_open, job_for, awaited, IsJob}
use Rattle.ledger_acts.specs.Picking.{free_event, first_free, picked_free}
use Rattle.flow_steps.specs.Going.{event_there, flow_in}
use Rattle.flow_steps.proofs.Jobs.{job_moves}
use Rattle.flow_steps.proofs.Picks.{goes}
use Rattle.ledger_acts.proofs.Choosing.{unclaimed_is_picked}
use Rattle.node_tables.specs.Journals.{Reads, state_of}
use Rattle.node_core.specs.declared.idle.Picked.{Picked}
use Rattle.node_core.specs.declared.faults.TurnFault.{TurnFault}
use Rattle.node_core.specs.declared.faults.TurnFault.TheVariants as turn_fault
use Rattle.node_core.specs.declared.faults.Turned.{Turned}
use Rattle.node_core.specs.declared.faults.Turned.TheVariants as turned
use Rattle.node_core.specs.declared.faults.SettleFault.{SettleFault}
use Rattle.node_core.specs.declared.faults.SettleFault.TheVariants as settle_fault
use Rattle.node_core.specs.declared.faults.SharedTurn.{SharedTurn}
use Rattle.node_core.specs.declared.faults.SharedTurn.TheVariants as shared
use Rattle.node_core.specs.Claims.{awaited_in, claims_but, claims_up, free_at, free_there, first_there, turned_of, Chooses, SettleAnswers, SettlesAs, StillWaits, TurnsBeside, TurnAnswersBeside, WorkAnswers}
use Rattle.node_core.specs.Seen.{NodeSeen, TurnsAs, picked_at}

abbrev no_event : Option Event
no_event = None

none_both : (b : Bool) → cond b no_event no_event ≡ no_event
none_both true = refl
none_both false = refl

none_then : (b : Bool) (o : Option Event) (e : Event) → cond b no_event o ≡ Some e → o ≡ Some e
none_then true o e h = cc
none_then false o e h = h

numbered_at : {F : Type 0} (n : ℕ) (flows : List (FlowState F)) (i : ℕ) (x : FlowState F) → AreNumbered n flows → slice_get flows i ≡ Some x → IsNumbered (n + i) x
numbered_at n [] i x own h = cc
numbered_at n (y ∷ ys) zero x own h = let same : y ≡ x = cc in subst (λ k. IsNumbered k x) (omega arith) (subst (IsNumbered n) same own.0)
numbered_at n (y ∷ ys) (suc i) x own h = subst (λ k. IsNumbered k x) (omega arith) (numbered_at (n + 1) ys i x own.1 h)

pub none_awaited : (o : Option Job) → is_some o ≡ false → o ≡ None
none_awaited None h = refl
none_awaited (Some j) h = cc

pub some_awaited : (o : Option Job) → is_some o ≡ true → o ≡ None → ⊥
some_awaited None h none = cc
some_awaited (Some j) h none = cc

pub none_out : (claims : List ℕ) → (length claims == 0) ≡ true → claims ≡ []
none_out [] h = refl
none_out (f ∷ fs) h = let some : length (f ∷ fs) ≡ 0 = eqb-true (length (f ∷ fs)) 0 h in absurd (omega (arith, some))

-- without a claim the choice is the machine's
pub free_unclaimed : {F : Type 0} (w : Environment F) (me : ℕ) (s : NodeState F) (now : ℕ) (pick : Option ℕ) (claims : List ℕ) → claims ≡ [] → picked_free w me s claims now pick ≡ picked s.sessions now pick s.flows
free_unclaimed w me s now pick claims none = ap (λ (out : List ℕ). picked_free w me s out now pick) none ∙ unclaimed_is_picked w me s now pick

-- a picked event is that of its flow
pub own_pick : {F : Type 0} (sessions : List Session) (now : ℕ) (pick : Option ℕ) (flows : List (FlowState F)) (e : Event) → AreNumbered 0 flows → picked sessions now pick flows ≡ Some e → picked sessions now (Some (flow_in e)) flows ≡ Some e
own_pick sessions now pick flows e numbered h =
    let go = goes sessions now pick flows e numbered h in
    ap (λ k. option_and_then (enabled_event sessions now) (slice_get flows k)) go.own.flow ∙ ap (option_and_then (enabled_event sessions now)) go.there ∙ go.by

pub own_picked : {F : Type 0} (sessions : List Session) (now : ℕ) (pick : Option ℕ) (flows : List (FlowState F)) (o : Option Picked) → AreNumbered 0 flows → option_map (λ p. p.event) o ≡ picked sessions now pick flows
    → IfSome o (λ p. picked sessions now (Some (flow_in p.event)) flows ≡ Some p.event)
own_picked sessions now pick flows None numbered h = tt
own_picked sessions now pick flows (Some p) numbered h = own_pick sessions now pick flows p.event numbered (sym h)

there_is : {F : Type 0} (id : Identity) (s : NodeState F) (claims : List ℕ) (now n : ℕ)
    → free_there id s claims now n ≡ cond (list_any (λ f. f == n) claims && is_some (awaited_in id s (event.Move n))) no_event (event_there s.sessions now s.flows n)
unfolding free_there
there_is id s claims now n = refl

module _ {F : Type 0} (m : Machine F) (r : Reads F) (judge : Judgement) (id : Identity) (s : NodeState F) (claims : List ℕ) (now : ℕ) where
  abbrev w : Environment F
  w = environment (meaning m r judge) id

  -- the event of a flow that was looked up
  abbrev free_with : ℕ → Option (FlowState F) → Option Event
  free_with n o = cond (list_any (λ f. f == n) claims && is_some (option_and_then (awaited id (with_ids s.stored)) (option_and_then checkpoint_of o))) None (option_and_then (enabled_event s.sessions now) o)

  free_is : (n : ℕ) (x : FlowState F) → IsNumbered n x → free_with n (Some x) ≡ free_event w id.party.0 s claims now x
  free_is n (Live at) own = ap (λ k. cond (list_any (λ f. f == k) claims && is_some (awaited id (with_ids s.stored) at)) None (enabled_event s.sessions now (Live at))) (sym own)
  free_is n (Ended step class value) own = none_both (list_any (λ f. f == n) claims && false)
  free_is n (Failed step class code) own = none_both (list_any (λ f. f == n) claims && false)

  free_at_number : (n : ℕ) (x : FlowState F) → slice_get s.flows n ≡ Some x → IsNumbered n x → free_there id s claims now n ≡ free_event w id.party.0 s claims now x
  free_at_number n x here own = there_is id s claims now n ∙ ap (free_with n) here ∙ free_is n x own

  one_first : (n : ℕ) (x : FlowState F) (rest : Option Event) (numbers : List ℕ) → slice_get s.flows n ≡ Some x → IsNumbered n x → rest ≡ first_there id s claims now numbers
      → option_or (free_event w id.party.0 s claims now x) rest ≡ first_there id s claims now (where_true (is_live x) n ++ numbers)
  one_first n (Live at) rest numbers here own h = λ i. option_or (sym (free_at_number n (Live at) here own) i) (h i)
  one_first n (Ended step class value) rest numbers here own h = h
  one_first n (Failed step class code) rest numbers here own h = h

  first_from : (n : ℕ) (flows : List (FlowState F)) → ((k : ℕ) → slice_get s.flows (n + k) ≡ slice_get flows k) → AreNumbered n flows → first_free w id.party.0 s claims now flows ≡ first_there id s claims now (live_from n flows)
  first_from n [] is own = refl
  first_from n (x ∷ xs) is own =
      let here : slice_get s.flows n ≡ Some x = ap (slice_get s.flows) (omega arith) ∙ is 0 in
      let later : AreNumbered (suc n) xs = subst (λ k. AreNumbered k xs) (omega arith) own.1 in
      let rest = first_from (suc n) xs (λ k. ap (slice_get s.flows) (omega arith) ∙ is (suc k)) later in
      one_first n x (first_free w id.party.0 s claims now xs) (live_from (suc n) xs) here own.0 rest

  -- the first of all flows is the first of those that are live
  pub first_live : AreNumbered 0 s.flows → first_there id s claims now (live_numbers s.flows) ≡ picked_free w id.party.0 s claims now None
  first_live own = sym (first_from 0 s.flows (λ k. ap (slice_get s.flows) (omega arith)) own)

  -- the picked flow is the one of its number
  pub free_picked : (n : ℕ) → AreNumbered 0 s.flows → free_there id s claims now n ≡ picked_free w id.party.0 s claims now (Some n)
  free_picked n own = by (slice_get s.flows n) refl
    where
      by : (o : Option (FlowState F)) → slice_get s.flows n ≡ o → free_there id s claims now n ≡ option_and_then (free_event w id.party.0 s claims now) o
      by None is = there_is id s claims now n ∙ ap (free_with n) is ∙ none_both (list_any (λ f. f == n) claims && false)
      by (Some x) is = free_at_number n x is (subst (λ k. IsNumbered k x) (omega arith) (numbered_at 0 s.flows n x own is))

module _ {F : Type 0} (id : Identity) (s : NodeState F) (claims : List ℕ) (now : ℕ) where
  -- an event that is free is that of its flow
  pub there_own : (n : ℕ) (o : Option Event) → AreNumbered 0 s.flows → o ≡ free_there id s claims now n → IfSome o (λ e. picked s.sessions now (Some (flow_in e)) s.flows ≡ Some e)
  there_own n None own h = tt
  there_own n (Some e) own h = own_pick s.sessions now (Some n) s.flows e own (none_then (list_any (λ f. f == n) claims && is_some (awaited_in id s (event.Move n))) (event_there s.sessions now s.flows n) e (sym (there_is id s claims now n) ∙ sym h))

  first_own : (numbers : List ℕ) (e : Event) → AreNumbered 0 s.flows → first_there id s claims now numbers ≡ Some e → picked s.sessions now (Some (flow_in e)) s.flows ≡ Some e
  first_own [] e own h = cc
  first_own (n ∷ ns) e own h = by (free_there id s claims now n) refl h (λ k. first_own ns e own k)
    where
      by : (o : Option Event) → free_there id s claims now n ≡ o → option_or o (first_there id s claims now ns) ≡ Some e → (first_there id s claims now ns ≡ Some e → picked s.sessions now (Some (flow_in e)) s.flows ≡ Some e) → picked s.sessions now (Some (flow_in e)) s.flows ≡ Some e
      by None is here rest = rest here
      by (Some d) is here rest = there_own n (Some e) own (sym (is ∙ here))

  pub firsts_own : (numbers : List ℕ) (o : Option Event) → AreNumbered 0 s.flows → o ≡ first_there id s claims now numbers → IfSome o (λ e. picked s.sessions now (Some (flow_in e)) s.flows ≡ Some e)
  firsts_own numbers None own h = tt
  firsts_own numbers (Some e) own h = first_own numbers e own (sym h)

-- a picked event whose flow waits for a job moves that flow
pub moves_there : {F : Type 0} (id : Identity) (s : NodeState F) (now : ℕ) (pick : Option ℕ) (e : Event) (o : Option Job) → AreNumbered 0 s.flows → picked s.sessions now pick s.flows ≡ Some e → o ≡ awaited_in id s e → IfSome o (λ job. e ≡ event.Move job.flow)
moves_there id s now pick e None numbered h is = tt
moves_there id s now pick e (Some j) numbered h is = job_moves id (with_ids s.stored) s.sessions now pick s.flows e j numbered h (sym is)

-- ---- a job for whose claim there is no memory

lost_at : {F : Type 0} (w : Environment F) (now : ℕ) (pick : Option ℕ) (claims : List ℕ) (job : Job) (old new : NodeSeen) (had lost : Result SharedTurn TurnFault) (journal : Option (List (List ℕ)))
    → had ≡ Ok (shared.Job job) → lost ≡ Err turn_fault.Memory
    → MatchOption journal ((had ≡ Err turn_fault.NodeDown) × (new ≡ old)) (λ bodies. TurnsBeside w now pick claims bodies old had new)
    → MatchOption journal ((lost ≡ Err turn_fault.NodeDown) × (new ≡ old)) (λ bodies. TurnsBeside w now pick claims bodies old lost new)
lost_at w now pick claims job old new had lost None is gone t = (let clash = sym is ∙ t.0 in absurd (cc clash))
lost_at w now pick claims job old new had lost (Some bodies) is gone t =
    let h : TurnsBeside w now pick claims bodies old (Ok (shared.Job job)) new = subst (λ (a : Result SharedTurn TurnFault). TurnsBeside w now pick claims bodies old a new) is t in
    subst (λ (a : Result SharedTurn TurnFault). TurnsBeside w now pick claims bodies old a new) (sym gone) (event.Move job.flow, Some job, h.0, λ none. absurd (cc none), h.2)

-- a turn that handed a job out may answer want of memory as well
pub job_lost : {F : Type 0} (w : Environment F) (now : ℕ) (pick : Option ℕ) (claims : List ℕ) (job : Job) (old new : NodeSeen) → TurnAnswersBeside w now pick claims old (Ok (shared.Job job)) new → TurnAnswersBeside w now pick claims old (Err turn_fault.Memory) new
job_lost w now pick claims job old new t = lost_at w now pick claims job old new (Ok (shared.Job job)) (Err turn_fault.Memory) old.journal refl refl t

handed_at : {F : Type 0} (w : Environment F) (now : ℕ) (pick : Option ℕ) (claims : List ℕ) (job : Job) (old new : NodeSeen) (had : Result SharedTurn TurnFault) (journal : Option (List (List ℕ))) → old.journal ≡ journal → had ≡ Ok (shared.Job job)
    → MatchOption journal ((had ≡ Err turn_fault.NodeDown) × (new ≡ old)) (λ bodies. TurnsBeside w now pick claims bodies old had new) → IsJob job × (new.journal ≡ None → ⊥)
handed_at w now pick claims job old new had None at is t = (let clash = sym is ∙ t.0 in absurd (cc clash))
handed_at w now pick claims job old new had (Some bodies) at is t =
    let h : TurnsBeside w now pick claims bodies old (Ok (shared.Job job)) new = subst (λ (a : Result SharedTurn TurnFault). TurnsBeside w now pick claims bodies old a new) is t in
    let up : new.journal ≡ Some bodies = ap (λ (n : NodeSeen). n.journal) h.2 ∙ at in
    (h.1, λ none. let clash = sym up ∙ none in absurd (cc clash))

-- a job is handed out within its limits, by a node that is up
pub handed : {F : Type 0} (w : Environment F) (now : ℕ) (pick : Option ℕ) (claims : List ℕ) (job : Job) (old new : NodeSeen) → TurnAnswersBeside w now pick claims old (Ok (shared.Job job)) new → IsJob job × (new.journal ≡ None → ⊥)
handed w now pick claims job old new t = handed_at w now pick claims job old new (Ok (shared.Job job)) old.journal refl refl t

-- a turn that handed a job out answers it, or want of memory
pub claimed : {F : Type 0} (w : Environment F) (now : ℕ) (pick : Option ℕ) (claims : List ℕ) (job : Job) (old new : NodeSeen) (answer : Result SharedTurn TurnFault) → (answer ≡ Ok (shared.Job job)) ⊎ (answer ≡ Err turn_fault.Memory)
    → TurnAnswersBeside w now pick claims old (Ok (shared.Job job)) new → TurnAnswersBeside w now pick claims old answer new
claimed w now pick claims job old new answer (inl same) t = subst (λ (a : Result SharedTurn TurnFault). TurnAnswersBeside w now pick claims old a new) (sym same) t
claimed w now pick claims job old new answer (inr gone) t = subst (λ (a : Result SharedTurn TurnFault). TurnAnswersBeside w now pick claims old a new) (sym gone) (job_lost w now pick claims job old new t)

-- a node that is up keeps its claims
pub claims_kept : (journal : Option (List (List ℕ))) (claims : List ℕ) → (journal ≡ None → ⊥) → claims ≡ claims_up journal claims
claims_kept None claims up = absurd (up refl)
claims_kept (Some bodies) claims up = refl

-- ---- a turn, its job run, and settled

tx_step : (me : Identity) (store : List (Hash32 × SignedTx)) (flow step : ℕ) (tx : Tx) (tags : Option (List Tag)) (j : Job) → tx_job me store flow step tx tags ≡ Some j → step ≡ j.step
tx_step me store flow step tx tags j h = from_map (λ (x : Job). step ≡ x.step) (job_with me.party flow step tx tags) (resolved_of store tx) j h (λ states had. refl)

act_step : {F : Type 0} (me : Identity) (store : List (Hash32 × SignedTx)) (flow step : ℕ) (a : Act F) (j : Job) → job_for me store flow step a ≡ Some j → step ≡ j.step
act_step me store flow step (act.Verify tx) j h = tx_step me store flow step tx None j h
act_step me store flow step (act.Record stx) j h = from_cond (step ≡ j.step) (is_open me store stx.tx) (tx_job me store flow step stx.tx (Some stx.tags)) j h (λ held k. tx_step me store flow step stx.tx (Some stx.tags) j k)
act_step me store flow step (act.Open to class first) j h = cc
act_step me store flow step (act.Send key value) j h = cc
act_step me store flow step (act.Receive key) j h = cc
act_step me store flow step (act.ReceiveBy key until) j h = cc
act_step me store flow step (act.Sleep until) j h = cc
act_step me store flow step (act.Sub frame) j h = cc
act_step me store flow step (act.Reserve token amount) j h = cc
act_step me store flow step (act.Lookup id) j h = cc
act_step me store flow step (act.Missing tx) j h = cc
act_step me store flow step (act.Sign id) j h = cc
act_step me store flow step (act.Notarise request) j h = cc
act_step me store flow step (act.Return value) j h = cc
act_step me store flow step (act.Fail code) j h = cc

step_with : {F : Type 0} (me : Identity) (store : List (Hash32 × SignedTx)) (o : Option (Checkpoint F)) (j : Job) → option_and_then (awaited me store) o ≡ Some j → option_map (λ at. at.step) o ≡ Some j.step
step_with me store None j h = cc
step_with me store (Some at) j h = ap (λ (n : ℕ). Some n) (act_step me store at.flow at.step at.waiting j h)

-- a flow that waits for a job is at the job's step
pub waits_there : {F : Type 0} (me : Identity) (s : NodeState F) (j : Job) → awaited_in me s (event.Move j.flow) ≡ Some j → StillWaits me s j
waits_there me s j h = record { step = step_with me (with_ids s.stored) (option_and_then checkpoint_of (slice_get s.flows j.flow)) j h; waits = h }

-- what a turn tells that handed no job out
abbrev pub told_of : Result SharedTurn TurnFault → Result Turned TurnFault
told_of (Ok shared.Idle) = Ok turned.Idle
told_of (Ok (shared.Moved f)) = Ok (turned.Moved f)
told_of (Ok (shared.Job job)) = Ok turned.Idle
told_of (Err why) = Err why

abbrev pub HandsNone : Result SharedTurn TurnFault → Type 0
HandsNone (Ok (shared.Job job)) = ⊥
HandsNone _ = ⊤

module _ {F : Type 0} (m : Machine F) (r : Reads F) (judge : Judgement) (now : ℕ) (pick : Option ℕ) (old : NodeSeen) where
  abbrev v : Environment F
  v = environment (meaning m r judge) old.identity

  module _ (bodies : List (List ℕ)) where
    machine_picks : (o : Option Event) → free_at v old.identity now pick [] bodies ≡ o → picked_at v now pick bodies ≡ o
    machine_picks o h = sym (unclaimed_is_picked v old.identity.party.0 (state_of r bodies) now pick) ∙ h

    told_up : (answer : Result SharedTurn TurnFault) (new : NodeSeen) → HandsNone answer → TurnsBeside v now pick [] bodies old answer new
        → ((told_of answer ≡ Err turn_fault.Memory) × (new ≡ old)) ⊎ TurnsAs v now pick bodies old (told_of answer) new
    told_up (Ok shared.Idle) new none t = inr (machine_picks None t.0, t.1)
    told_up (Ok (shared.Moved f)) new none t = inr (t.0, machine_picks (Some t.0) t.1.event, t.2, t.3)
    told_up (Ok (shared.Job job)) new none t = absurd none
    told_up (Err turn_fault.NodeDown) new none t = absurd t
    told_up (Err turn_fault.Full) new none t = inr (t.0, machine_picks (Some t.0) t.1.event, t.2, t.3)
    told_up (Err turn_fault.Memory) new none t = inl (refl, t.4)
    told_up (Err turn_fault.Fault) new none t = inr (t.0, machine_picks (Some t.0) t.1.event, t.2)

    settled_up : (job : Job) (answer : Result ℕ SettleFault) (new : NodeSeen) → Chooses v old.identity now pick [] bodies (event.Move job.flow) (Some job) → SettlesAs v now job bodies old answer new
        → ((turned_of answer ≡ Err turn_fault.Memory) × (new ≡ old)) ⊎ TurnsAs v now pick bodies old (turned_of answer) new
    settled_up job (Ok f) new chose t = inr (event.Move job.flow, machine_picks (Some (event.Move job.flow)) chose.event, sym t.0, t.2)
    settled_up job (Err settle_fault.NodeDown) new chose t = absurd t
    settled_up job (Err (settle_fault.Stale have given)) new chose t =
        let waits = waits_there old.identity (state_of r bodies) job chose.waits in
        absurd (t.0.2 (t.0.0 ∙ waits.step ∙ ap (λ (n : ℕ). Some n) (sym t.0.1)))
    settled_up job (Err (settle_fault.Foreign f)) new chose t = absurd (t.0.2 chose.waits)
    settled_up job (Err settle_fault.Full) new chose t = inr (event.Move job.flow, machine_picks (Some (event.Move job.flow)) chose.event, t.1, t.2)
    settled_up job (Err settle_fault.Memory) new chose t = inl (refl, t.2)
    settled_up job (Err settle_fault.Fault) new chose t = inr (event.Move job.flow, machine_picks (Some (event.Move job.flow)) chose.event, t.1)

  told_at : (answer : Result SharedTurn TurnFault) (new : NodeSeen) (journal : Option (List (List ℕ))) → HandsNone answer
      → MatchOption journal ((answer ≡ Err turn_fault.NodeDown) × (new ≡ old)) (λ bodies. TurnsBeside v now pick [] bodies old answer new)
      → ((told_of answer ≡ Err turn_fault.Memory) × (new ≡ old)) ⊎ MatchOption journal ((told_of answer ≡ Err turn_fault.NodeDown) × (new ≡ old)) (λ bodies. TurnsAs v now pick bodies old (told_of answer) new)
  told_at answer new None none t = inr (ap told_of t.0, t.1)
  told_at answer new (Some bodies) none t = told_up bodies answer new none t

  -- a turn that hands no job out is the machine's
  pub works_told : (answer : Result SharedTurn TurnFault) (new : NodeSeen) → HandsNone answer → TurnAnswersBeside v now pick [] old answer new → WorkAnswers v now pick old (told_of answer) new
  works_told answer new none t = told_at answer new old.journal none t

  same_mid : (job : Job) (mid : NodeSeen) (journal : Option (List (List ℕ))) → MatchOption journal ((Ok (shared.Job job) ≡ Err turn_fault.NodeDown) × (mid ≡ old)) (λ bodies. TurnsBeside v now pick [] bodies old (Ok (shared.Job job)) mid) → mid ≡ old
  same_mid job mid None t = t.1
  same_mid job mid (Some bodies) t = t.2

  settled_at : (job : Job) (mid new : NodeSeen) (answer : Result ℕ SettleFault) (had : Result SharedTurn TurnFault) (journal : Option (List (List ℕ))) → had ≡ Ok (shared.Job job)
      → MatchOption journal ((had ≡ Err turn_fault.NodeDown) × (mid ≡ old)) (λ bodies. TurnsBeside v now pick [] bodies old had mid)
      → MatchOption journal ((answer ≡ Err settle_fault.NodeDown) × (new ≡ old)) (λ bodies. SettlesAs v now job bodies old answer new)
      → ((turned_of answer ≡ Err turn_fault.Memory) × (new ≡ old)) ⊎ MatchOption journal ((turned_of answer ≡ Err turn_fault.NodeDown) × (new ≡ old)) (λ bodies. TurnsAs v now pick bodies old (turned_of answer) new)
  settled_at job mid new answer had None is t u = (let clash = sym is ∙ t.0 in absurd (cc clash))
  settled_at job mid new answer had (Some bodies) is t u =
      let h : TurnsBeside v now pick [] bodies old (Ok (shared.Job job)) mid = subst (λ (a : Result SharedTurn TurnFault). TurnsBeside v now pick [] bodies old a mid) is t in
      settled_up bodies job answer new h.0 u

  -- a job that is run and settled at once makes the turn whole
  pub works_settled : (job : Job) (mid new : NodeSeen) (answer : Result ℕ SettleFault) → TurnAnswersBeside v now pick [] old (Ok (shared.Job job)) mid → SettleAnswers (environment (meaning m r judge) mid.identity) now job mid answer new
      → WorkAnswers v now pick old (turned_of answer) new
  works_settled job mid new answer t u =
      let here : SettleAnswers v now job old answer new = subst (λ (n : NodeSeen). SettleAnswers (environment (meaning m r judge) n.identity) now job n answer new) (same_mid job mid old.journal t) u in
      settled_at job mid new answer (Ok (shared.Job job)) old.journal refl t here

-- the one claim of a job that is settled is ended
pub none_left : (before after : Option (List (List ℕ))) (f : ℕ) → claims_up after (claims_but f (claims_up before (f ∷ []))) ≡ []
none_left before None f = refl
none_left None (Some bodies) f = refl
none_left (Some first) (Some bodies) f = ap (λ (same : Bool). cond (not same) (f ∷ []) []) (eq-eqb f f refl)
