-- The event by which a node goes on.
use Rattle.std.proofs.Common.{◌≡◌, ℕ, ◌^◌, zero, suc, ◌+◌, ◌<◌, List, [], ◌∷◌, ◌++◌, slice_get, Option, Some, None, Bool, true, false, cond, nat_le, refl, sym, ◌∙◌, ap, subst, arith}
use Rattle.std.specs.Option.{option_or, option_and_then}
use Rattle.net_base.specs.declared.causes.Event.{Event}
use Rattle.net_base.specs.declared.causes.Event.TheVariants as event
use Rattle.session_wire.specs.Sessions.{Session}
use Rattle.session_wire.specs.Rules.{owned, waits_for}
use Rattle.flow_machine.specs.declared.acts.Act.{Act}
use Rattle.flow_machine.specs.declared.acts.Act.TheVariants as act
use Rattle.flow_machine.specs.declared.flows.FlowState.{FlowState}
use Rattle.flow_machine.specs.declared.flows.FlowState.TheVariants.{Live, Ended, Failed}
use Rattle.flow_machine.specs.declared.flows.Checkpoint.{Checkpoint}
use Rattle.checkpoints.specs.Tables.{is_live, where_true, live_from, live_numbers}
use Rattle.net_model.specs.Enabled.{enabling, enabled_event, first_event, picked}
use Rattle.net_model.specs.Steps.{checkpoint_of}
use Rattle.net_model.specs.Sound.{IsNumbered, AreNumbered}
use Rattle.transition_record.specs.Causes.{IsEvent, came_key_of}
use Rattle.flow_steps.specs.Going.{first_of, flow_in}

-- ---- the first event

module _ {F : Type 0} (sessions : List Session) (now : ℕ) (all : List (FlowState F)) where
  -- one flow before those that are left
  one_first : (n : ℕ) (x : FlowState F) (rest : Option Event) (numbers : List ℕ) → slice_get all n ≡ Some x → rest ≡ first_of sessions now all numbers
      → option_or (enabled_event sessions now x) rest ≡ first_of sessions now all (where_true (is_live x) n ++ numbers)
  one_first n (Live at) rest numbers here h = rw (here, h) refl
  one_first n (Ended step class value) rest numbers here h = h
  one_first n (Failed step class code) rest numbers here h = h

module _ {F : Type 0} (sessions : List Session) (now : ℕ) where
  first_from : (all : List (FlowState F)) (n : ℕ) (flows : List (FlowState F)) → ((k : ℕ) → slice_get all (n + k) ≡ slice_get flows k) → first_event sessions now flows ≡ first_of sessions now all (live_from n flows)
  first_from all n [] is = refl
  first_from all n (x ∷ xs) is =
      let here : slice_get all n ≡ Some x = ap (slice_get all) (omega arith) ∙ is 0 in
      let rest = first_from all (suc n) xs (λ k. ap (slice_get all) (omega arith) ∙ is (suc k)) in
      one_first sessions now all n x (first_event sessions now xs) (live_from (suc n) xs) here rest

  -- the first event of all flows is the first of those that are live
  pub first_live : (flows : List (FlowState F)) → first_event sessions now flows ≡ first_of sessions now flows (live_numbers flows)
  first_live flows = first_from flows 0 flows (λ k. ap (slice_get flows) (omega arith))

-- ---- where a picked event comes from

-- an event of a flow: it moves, or its act lapses
pub record IsOwn (f : ℕ) (e : Event) : Type 0 where
  pub flow : flow_in e ≡ f
  pub limits : f < 2 ^ 32 → IsEvent e
  pub key : came_key_of e ≡ None

own_move : (f : ℕ) → IsOwn f (event.Move f)
own_move f = record { flow = refl; limits = λ h. h; key = refl }

own_lapse : (f : ℕ) → IsOwn f (event.Lapse f)
own_lapse f = record { flow = refl; limits = λ h. h; key = refl }

some_own : (f : ℕ) (d e : Event) → IsOwn f d → Some d ≡ Some e → IsOwn f e
some_own f d e own h = let same : d ≡ e = cc in subst (IsOwn f) same own

lapse_own : (f : ℕ) (late : Bool) (e : Event) → cond late (Some (event.Lapse f)) None ≡ Some e → IsOwn f e
lapse_own f true e h = some_own f (event.Lapse f) e (own_lapse f) h
lapse_own f false e h = cc

move_own : (f : ℕ) (waits : Bool) (e : Event) → cond waits None (Some (event.Move f)) ≡ Some e → IsOwn f e
move_own f true e h = cc
move_own f false e h = some_own f (event.Move f) e (own_move f) h

either_own : (f : ℕ) (waits late : Bool) (e : Event) → cond waits (cond late (Some (event.Lapse f)) None) (Some (event.Move f)) ≡ Some e → IsOwn f e
either_own f true late e h = lapse_own f late e h
either_own f false late e h = some_own f (event.Move f) e (own_move f) h

-- an act is performed by an event of its own flow
pub enabling_own : {F : Type 0} (sessions : List Session) (f now : ℕ) (a : Act F) (e : Event) → enabling sessions f now a ≡ Some e → IsOwn f e
enabling_own sessions f now (act.Sleep until) e h = lapse_own f (nat_le until now) e h
enabling_own sessions f now (act.Receive key) e h = move_own f (waits_for (owned f key sessions)) e h
enabling_own sessions f now (act.ReceiveBy key until) e h = either_own f (waits_for (owned f key sessions)) (nat_le until now) e h
enabling_own sessions f now _ e h = some_own f (event.Move f) e (own_move f) h

-- the flow of a picked event is live, keeps its number, and goes on by that event
pub record Goes {F : Type 0} (sessions : List Session) (now : ℕ) (flows : List (FlowState F)) (e : Event) : Type 0 where
  pub at : Checkpoint F
  pub there : slice_get flows at.flow ≡ Some (Live at)
  pub by : enabled_event sessions now (Live at) ≡ Some e
  pub own : IsOwn at.flow e

module _ {F : Type 0} (sessions : List Session) (now : ℕ) where
  goes_with : (all : List (FlowState F)) (e : Event) (n : ℕ) (x : FlowState F) → slice_get all n ≡ Some x → IsNumbered n x → enabled_event sessions now x ≡ Some e → Goes sessions now all e
  goes_with all e n (Live at) there own by = record { at = at; there = ap (slice_get all) own ∙ there; by = by; own = enabling_own sessions at.flow now at.waiting e by }
  goes_with all e n (Ended step class value) there own by = cc
  goes_with all e n (Failed step class code) there own by = cc

  goes_or : (all : List (FlowState F)) (e : Event) (n : ℕ) (x : FlowState F) (o rest : Option Event) → slice_get all n ≡ Some x → IsNumbered n x → enabled_event sessions now x ≡ o → (rest ≡ Some e → Goes sessions now all e) → option_or o rest ≡ Some e
      → Goes sessions now all e
  goes_or all e n x None rest there own same later h = later h
  goes_or all e n x (Some y) rest there own same later h = goes_with all e n x there own (same ∙ h)

  goes_first : (all : List (FlowState F)) (e : Event) (n : ℕ) (flows : List (FlowState F)) → ((k : ℕ) → slice_get all (n + k) ≡ slice_get flows k) → AreNumbered n flows → first_event sessions now flows ≡ Some e → Goes sessions now all e
  goes_first all e n [] is own h = cc
  goes_first all e n (x ∷ xs) is own h =
      goes_or all e n x (enabled_event sessions now x) (first_event sessions now xs) (ap (slice_get all) (omega arith) ∙ is 0) own.0 refl
      (λ later. goes_first all e (n + 1) xs (λ k. ap (slice_get all) (omega arith) ∙ is (suc k)) own.1 later) h

  numbered_at : (n : ℕ) (flows : List (FlowState F)) (i : ℕ) (x : FlowState F) → AreNumbered n flows → slice_get flows i ≡ Some x → IsNumbered (n + i) x
  numbered_at n [] i x own h = cc
  numbered_at n (y ∷ ys) zero x own h = let same : y ≡ x = cc in subst (λ k. IsNumbered k x) (omega arith) (subst (IsNumbered n) same own.0)
  numbered_at n (y ∷ ys) (suc i) x own h = subst (λ k. IsNumbered k x) (omega arith) (numbered_at (n + 1) ys i x own.1 h)

  goes_there : (all : List (FlowState F)) (e : Event) (n : ℕ) (o : Option (FlowState F)) → slice_get all n ≡ o → AreNumbered 0 all → option_and_then (enabled_event sessions now) o ≡ Some e → Goes sessions now all e
  goes_there all e n None is own h = cc
  goes_there all e n (Some x) is own h = goes_with all e n x is (subst (λ k. IsNumbered k x) (omega arith) (numbered_at 0 all n x own is)) h

  pub goes : (pick : Option ℕ) (flows : List (FlowState F)) (e : Event) → AreNumbered 0 flows → picked sessions now pick flows ≡ Some e → Goes sessions now flows e
  goes None flows e own h = goes_first flows e 0 flows (λ k. ap (slice_get flows) (omega arith)) own h
  goes (Some f) flows e own h = goes_there flows e f (slice_get flows f) refl own h

  -- a checkpoint that was looked up is the one that goes on
  pub goes_at : (n : ℕ) (flows : List (FlowState F)) (e : Event) (at : Checkpoint F) → Goes sessions now flows e → n ≡ flow_in e → Some at ≡ option_and_then checkpoint_of (slice_get flows n)
      → (slice_get flows n ≡ Some (Live at)) × (enabled_event sessions now (Live at) ≡ Some e) × IsOwn n e
  goes_at n flows e at go is found =
      let number : n ≡ go.at.flow = is ∙ go.own.flow in
      let there : slice_get flows n ≡ Some (Live go.at) = ap (slice_get flows) number ∙ go.there in
      let same : Some at ≡ Some go.at = found ∙ ap (option_and_then checkpoint_of) there in
      let one : go.at ≡ at = cc in
      (there ∙ ap (λ c. Some (Live c)) one, ap (λ (c : Checkpoint F). enabled_event sessions now (Live c)) (sym one) ∙ go.by, subst (λ k. IsOwn k e) (sym number) go.own)

  -- no flow that goes on is none
  pub goes_not : (n : ℕ) (flows : List (FlowState F)) (e : Event) → Goes sessions now flows e → n ≡ flow_in e → None ≡ option_and_then checkpoint_of (slice_get flows n) → ⊥
  goes_not n flows e go is none =
      let there = ap (slice_get flows) (is ∙ go.own.flow) ∙ go.there in
      let same = none ∙ ap (option_and_then checkpoint_of) there in cc
