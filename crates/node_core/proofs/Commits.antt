-- A step that may be committed fits, and its record is the one that pends.
use Rattle.std.proofs.Common.{◌≡◌, ℕ, ◌+◌, ◌-◌, ◌<◌, ◌≤◌, ◌^◌, ◌||◌, max, min, List, [], ◌∷◌, ◌++◌, length, Option, Some, Result, Ok, Err, true, false, refl, sym, ◌∙◌, ap, subst, arith, nat_lt, nat_le}
use Rattle.std.proofs.lemmas.Bool.{or_parts, leb-false}
use Rattle.outside.specs.Disk.{IsImage}
use Rattle.outside.proofs.Moments.{clean_image}
use Rattle.net_base.specs.declared.names.Identity.{Identity}
use Rattle.net_base.specs.declared.causes.Cause.{Cause}
use Rattle.net_base.specs.declared.causes.Event.{Event}
use Rattle.session_wire.specs.Sessions.{Sent}
use Rattle.disk_journal.specs.Journal.{JournalSeen, IsSound, journal_of, is_full_at}
use Rattle.net_model.specs.Environment.{Environment}
use Rattle.net_model.specs.State.{NodeState, Effect, apply_effect}
use Rattle.net_model.specs.Steps.{node_step, next_cause, body_in, stamp_in}
use Rattle.net_model.specs.Fits.{IsSound as IsSoundState}
use Rattle.net_model.proofs.Steps.{steps_on}
use Rattle.net_model.proofs.Fitting.{steps_fit}
use Rattle.flow_records.specs.Records.{record_of}
use Rattle.flow_records.specs.declared.step.Step.{Step}
use Rattle.flow_records.specs.Steps.{effect_by, step_record}
use Rattle.flow_steps.specs.Going.{flow_in}
use Rattle.flow_steps.specs.Idle.{IdleBelow}
use Rattle.flow_steps.proofs.Idles.{idle_after}
use Rattle.node_tables.specs.Journals.{Reads, state_of}
use Rattle.node_tables.specs.Fits.{fits, apply_read}
use Rattle.node_tables.specs.Seen.{padded}
use Rattle.node_tables.proofs.Ruled.{fits_as_ruled}
use Rattle.node_tables.proofs.Runs.{state_push}
use Rattle.node_core.specs.declared.faults.CommitFault.{CommitFault}
use Rattle.node_core.specs.declared.faults.CommitFault.TheVariants as commit_fault
use Rattle.node_core.specs.Journals.{bytes_of, is_full}
use Rattle.node_core.specs.Disks.{roomless, KeepsForm, Holds}
use Rattle.node_core.specs.Seen.{Tied, Pends, LogsAs, MayCommit, CommitsAs}

-- ---- a node that isn't full

pub room_left : {F : Type 0} (f : Reads F) (stamp : ℕ) (bodies : List (List ℕ)) → is_full f stamp bodies ≡ false → (is_full_at (length bodies) (17 + bytes_of bodies) ≡ false) × ((length bodies < 65536) × (max (state_of f bodies).stamp stamp + 1 < 2 ^ 63))
room_left f stamp bodies room =
    let parts = or_parts (is_full_at (length bodies) (17 + bytes_of bodies)) (nat_le (2 ^ 63 - 1) (state_of f bodies).stamp || nat_le (2 ^ 63 - 1) stamp) room in
    let here = or_parts (nat_le 65536 (length bodies)) (nat_lt 133693435 (17 + bytes_of bodies)) parts.0 in
    let late = or_parts (nat_le (2 ^ 63 - 1) (state_of f bodies).stamp) (nat_le (2 ^ 63 - 1) stamp) parts.1 in
    let own = leb-false (2 ^ 63 - 1) (state_of f bodies).stamp late.0 in
    let other = leb-false (2 ^ 63 - 1) stamp late.1 in
    (parts.0, (omega (arith, leb-false 65536 (length bodies) here.0), omega (arith, own, other)))

pub journal_room : {F : Type 0} (f : Reads F) (id : Identity) (stamp : ℕ) (journal : JournalSeen) (bodies : List (List ℕ)) → Tied id journal bodies → is_full f stamp bodies ≡ false → is_full_at journal.count journal.length ≡ false
journal_room f id stamp journal bodies tied room = rw (tied.counted, tied.ended) (room_left f stamp bodies room).0

-- the stamp of an item that there is room for is none too great
pub room_early : {F : Type 0} (f : Reads F) (stamp : ℕ) (bodies : List (List ℕ)) → is_full f stamp bodies ≡ false → stamp < 2 ^ 63
room_early f stamp bodies room = let late = (room_left f stamp bodies room).1.1 in omega (arith, late)

-- ---- what a journal holds

pub tied_holds : (id : Identity) (journal : JournalSeen) (bodies : List (List ℕ)) → Tied id journal bodies → Holds id (roomless journal.disk) bodies
tied_holds id journal bodies tied =
    let only : journal.disk.tells ≡ true → (c : List ℕ) → IsImage journal.disk.state.now c → c ≡ journal.disk.state.kept = λ told c image. clean_image journal.disk.state.kept c (subst (λ s. IsImage s c) (tied.ready told).synced image) in
    record {
      sound = λ told c image. subst (IsSound id) (sym (only told c image)) (subst (λ i. IsSound i journal.disk.state.kept) tied.of (tied.ready told).sound);
      images = λ told c image. ap journal_of (only told c image) ∙ tied.kept told;
      kept = tied.kept;
    }

-- ---- a commit

-- no cause is later than the moment of the last commit
moment_on : {F : Type 0} (s : NodeState F) (c : Cause) (e : Effect F) → (apply_effect s c e).moment ≡ c.moment.0
unfolding apply_effect
moment_on s c e = refl

pub pends_moment : {F : Type 0} (w : Environment F) (me now : ℕ) (bodies : List (List ℕ)) (event : Event) (item : Option Sent) (body : List ℕ) → Pends w me now bodies event item body → (state_of w.frame_at (bodies ++ body ∷ [])).moment ≡ now
pends_moment w me now bodies event item body p =
    let s = state_of w.frame_at bodies in
    ap (λ x. x.moment) (state_push w.frame_at bodies body) ∙ ap (λ o. (apply_read s o).moment) p.reads ∙ moment_on s (next_cause s now event item) p.effect

module _ {F : Type 0} (w : Environment F) (id : Identity) (now : ℕ) (within : F → Type 0) (bodies : List (List ℕ)) (item : Option Sent) (step : Step F) (may : MayCommit w id now within bodies item step) (by : (state_of w.frame_at bodies).moment ≤ now) where
  abbrev state : NodeState F
  state = state_of w.frame_at bodies

  abbrev cause : Cause
  cause = next_cause state now step.cause.event item

  abbrev effect : Effect F
  effect = effect_by step.flow step.session step.ledger

  steps : node_step w id.party.0 state cause item ≡ Some (apply_effect state cause effect, effect)
  steps = steps_on w id.party.0 state now step.cause.event item effect (room_left w.frame_at (stamp_in item) bodies may.room).1.1 by may.ready.effect

  -- its record fits
  pub step_fits : IsSoundState id.party.0 state → fits w.notary w.nodes id.party state (step_record step) ≡ true
  step_fits sound =
      let here : fits w.notary w.nodes id.party state (record { cause = cause; effect = effect }) ≡ true = (fits_as_ruled w id.party.0 state (record { cause = cause; effect = effect })).1 (steps_fit w id.party.0 state _ cause item effect sound steps) in
      subst (λ (c : Cause). fits w.notary w.nodes id.party state (record { cause = c; effect = effect }) ≡ true) (sym may.cause) here

  -- its body is the one that pends
  pub step_pends : (body : List ℕ) → record_of w.frame_at body ≡ Some (record { cause = cause; effect = effect }) → Pends w id.party.0 now bodies step.cause.event item body
  step_pends body reads =
      let there : state_of w.frame_at (bodies ++ body ∷ []) ≡ apply_effect state cause effect = state_push w.frame_at bodies body ∙ ap (λ o. apply_read state o) reads in
      record { effect = effect; reads = reads; step = steps ∙ ap (λ x. Some (x, effect)) (sym there) }

  -- the flows before its flow that were idle still are
  still_idle : IsSoundState id.party.0 state → (at below : ℕ) → IdleBelow state.sessions at state.flows below → (body : List ℕ) → record_of w.frame_at body ≡ Some (record { cause = cause; effect = effect })
      → IdleBelow (state_of w.frame_at (bodies ++ body ∷ [])).sessions at (state_of w.frame_at (bodies ++ body ∷ [])).flows (min below (flow_in step.cause.event))
  still_idle sound at below idle body reads =
      let there : state_of w.frame_at (bodies ++ body ∷ []) ≡ apply_effect state cause effect = state_push w.frame_at bodies body ∙ ap (λ o. apply_read state o) reads in
      subst (λ (s : NodeState F). IdleBelow s.sessions at s.flows (min below (flow_in step.cause.event))) (sym there) (idle_after w id.party.0 now at state cause (body_in item) effect below sound.numbered may.ready.effect idle)

  module _ (old new : JournalSeen) (more : List (List ℕ)) (acked after : List ℕ) (of : old.of ≡ id) where
    said_of : (result : Result (List ℕ) CommitFault) → LogsAs w.frame_at (step_record step) bodies old result new → LogsAs w.frame_at (record { cause = cause; effect = effect }) bodies old result new
    said_of result said = subst (λ (c : Cause). LogsAs w.frame_at (record { cause = c; effect = effect }) bodies old result new) may.cause said

    pub committed : (body : List ℕ) → LogsAs w.frame_at (step_record step) bodies old (Ok body) new → more ≡ bodies ++ body ∷ [] → after ≡ padded acked (state_of w.frame_at more).sessions
        → CommitsAs w id now step.cause.event item {T = Unit {0}} (record { journal = old; bodies = bodies; acked = acked }) (Ok tt) (record { journal = new; bodies = more; acked = after })
    committed body logged longer acks =
        let said : LogsAs w.frame_at (record { cause = cause; effect = effect }) bodies old (Ok body) new = said_of (Ok body) logged in
        let tied : Tied id new (bodies ++ body ∷ []) = subst (λ i. Tied i new (bodies ++ body ∷ [])) of said.1 in (
          body,
          record {
            pends = step_pends body said.0;
            room = may.room;
            moves = said.2;
            form = subst (λ i. KeepsForm i (roomless old.disk) (roomless new.disk)) of said.3;
            holds = tied_holds id new (bodies ++ body ∷ []) tied;
            calm = said.4;
            power = said.5;
          },
          longer,
          acks,
          subst (Tied id new) (sym longer) tied,
        )

    pub committed_by : (body : List ℕ) → LogsAs w.frame_at (step_record step) bodies old (Ok body) new → more ≡ bodies ++ body ∷ [] → (state_of w.frame_at more).moment ≤ now
    committed_by body logged longer =
        let said : LogsAs w.frame_at (record { cause = cause; effect = effect }) bodies old (Ok body) new = said_of (Ok body) logged in
        let at = pends_moment w id.party.0 now bodies step.cause.event item body (step_pends body said.0) in
        subst (λ (b : List (List ℕ)). (state_of w.frame_at b).moment ≤ now) (sym longer) (omega (arith, at))

    pub committed_idle : IsSoundState id.party.0 state → (at below : ℕ) → IdleBelow state.sessions at state.flows below → (body : List ℕ) → LogsAs w.frame_at (step_record step) bodies old (Ok body) new → more ≡ bodies ++ body ∷ []
        → IdleBelow (state_of w.frame_at more).sessions at (state_of w.frame_at more).flows (min below (flow_in step.cause.event))
    committed_idle sound at below idle body logged longer =
        let said : LogsAs w.frame_at (record { cause = cause; effect = effect }) bodies old (Ok body) new = said_of (Ok body) logged in
        subst (λ (b : List (List ℕ)). IdleBelow (state_of w.frame_at b).sessions at (state_of w.frame_at b).flows (min below (flow_in step.cause.event))) (sym longer) (still_idle sound at below idle body said.0)

    failed : (fault : CommitFault) → more ≡ bodies → after ≡ acked → LogsAs w.frame_at (record { cause = cause; effect = effect }) bodies old (Err fault) new
        → CommitsAs w id now step.cause.event item {T = Unit {0}} (record { journal = old; bodies = bodies; acked = acked }) (Err fault) (record { journal = new; bodies = more; acked = after })
    failed commit_fault.Memory longer acks said = (longer, acks, said.0, subst (λ b. Tied id new b) (sym longer) (subst (λ i. Tied i new bodies) of said.1))
    failed commit_fault.Fault longer acks said = (
      said.0,
      record {
        pends = step_pends said.0 said.1;
        room = may.room;
        moves = said.2;
        form = subst (λ i. KeepsForm i (roomless old.disk) (roomless new.disk)) of said.3;
        rose = said.4;
        calm = said.5;
        burns = said.6;
      },
    )

    -- what a commit that failed leaves
    pub not_committed : (fault : CommitFault) → more ≡ bodies → after ≡ acked → LogsAs w.frame_at (step_record step) bodies old (Err fault) new
        → CommitsAs w id now step.cause.event item {T = Unit {0}} (record { journal = old; bodies = bodies; acked = acked }) (Err fault) (record { journal = new; bodies = more; acked = after })
    not_committed fault longer acks logged = failed fault longer acks (said_of (Err fault) logged)
