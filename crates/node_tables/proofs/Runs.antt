-- A journal that goes on by one record that fits.
use Rattle.std.proofs.Common.{◌≡◌, ℕ, ◌+◌, ◌*◌, ◌<◌, ◌≤◌, ◌^◌, List, [], ◌∷◌, ◌++◌, length, map, take, drop, zero, suc, slice_get, option_to_list, Option, Some, None, Err, Bool, true, false, refl, sym, ◌∙◌, ap, subst, arith, length-append, nat_lt, append_assoc}
use Rattle.std.specs.List.{AllByRecursion, list_all}
use Rattle.std.specs.Option.{option_and_then, IfSome}
use Rattle.std.proofs.lemmas.Bool.{ltb-true, ltb-false}
use Rattle.std.proofs.lemmas.List.{append-nil, map-append}
use Rattle.std.proofs.lemmas.Option.{slice_get_within}
use Rattle.net_base.specs.declared.values.Party.{Party}
use Rattle.net_base.specs.declared.names.Key.{Key}
use Rattle.net_base.specs.declared.causes.Cause.{Cause}
use Rattle.net_base.specs.declared.causes.Event.{Event}
use Rattle.net_base.specs.declared.causes.Event.TheVariants as event
use Rattle.net_base.proofs.Lists.{all_get, all_weaken, all_put}
use Rattle.session_wire.specs.Rules.{IsHeld}
use Rattle.session_wire.specs.declared.body.Body.{Body}
use Rattle.session_wire.specs.declared.body.Body.TheVariants as body_of
use Rattle.session_wire.specs.declared.change.SentItem.{SentItem}
use Rattle.session_wire.specs.declared.change.SessionChange.{SessionChange}
use Rattle.session_wire.specs.Sessions.{Session}
use Rattle.session_table.specs.Changes.{IsFitting, changed_by, arrived_in, acks_after}
use Rattle.session_frames.specs.Lawful.{AreLawful}
use Rattle.flow_machine.specs.Machine.{Machine}
use Rattle.flow_machine.specs.declared.acts.Act.TheVariants as act
use Rattle.flow_machine.specs.declared.flow_set.MakeFault.TheVariants as make
use Rattle.flow_machine.specs.declared.flow_set.WordFault.TheVariants as word
use Rattle.flow_machine.specs.declared.flows.Checkpoint.{Checkpoint}
use Rattle.flow_machine.specs.declared.flows.FlowState.{FlowState}
use Rattle.flow_machine.specs.declared.flows.FlowState.TheVariants.{Live, Ended, Failed}
use Rattle.checkpoints.specs.Tables.{with_flow, IsNumbered as IsTabled}
use Rattle.checkpoints.proofs.Items.{set_parts, push_parts, length_parts}
use Rattle.net_model.specs.Environment.{Environment, environment, party, unjudged}
use Rattle.net_model.specs.State.{NodeState, no_flow, Record, Effect, flow_of, flows_on, sessions_on, apply_effect, fresh, replay, replay_from}
use Rattle.net_model.specs.Steps.{checkpoint_of}
use Rattle.net_model.specs.Enabled.{part_of}
use Rattle.net_model.specs.Fits.{Fits, FitsEvent, AcceptsInit, AnswersFirst, AnswersBy, IsNewFlow, IsNextOf, GoesOn, IsSound}
use Rattle.net_model.specs.Sound.{IsNumbered, AreNumbered, steps_of}
use Rattle.net_model.proofs.Numbers.{numbered_push, numbered_set, set_on, push_on}
use Rattle.net_model.proofs.Sound.{fits_keep_sound, fresh_is_sound}
use Rattle.ledger_types.specs.declared.tx.SignedTx.{SignedTx}
use Rattle.ledger_types.specs.declared.change.LedgerChange.{LedgerChange}
use Rattle.node_ledger.specs.Ledgered.{LedgerState, ledger_in, ledger_after}
use Rattle.flow_records.specs.declared.step.FlowAfter.{FlowAfter}
use Rattle.flow_records.specs.declared.step.Step.{Step}
use Rattle.flow_records.specs.Records.{record_of, IsFlow}
use Rattle.flow_records.specs.Steps.{part_after, whole_part, effect_by, step_record, IsAfter, IsStep}
use Rattle.node_tables.specs.Journals.{Reads, records_of, state_of, causes_of, state_with}
use Rattle.node_tables.specs.Fits.{fits, fits_ledger, apply_read, begun_by}
use Rattle.node_tables.specs.Seen.{Keeps, IsSmall, AreOwned, flows_after, padded}
use Rattle.node_tables.proofs.Small.{begun_small, record_small, record_count, few_numbers, few_arrived}
use Rattle.node_tables.proofs.Linking.{IsOwn, owner_is, sessions_same, change_fits}
use Rattle.node_tables.proofs.Ruled.{parts_of, fits_to}
use Rattle.node_tables.proofs.Acked.{acks_padded}
use Rattle.node_tables.proofs.Held.{record_held}
use Rattle.node_tables.proofs.Owned.{record_owned}
use Rattle.node_tables.proofs.Lawful.{record_lawful}

-- ---- one body more

pub records_push : {F : Type 0} (f : Reads F) (bs : List (List ℕ)) (b : List ℕ) → records_of f (bs ++ b ∷ []) ≡ records_of f bs ++ option_to_list (record_of f b)
records_push f [] b = append-nil (option_to_list (record_of f b))
records_push f (x ∷ xs) b = ap (λ l. option_to_list (record_of f x) ++ l) (records_push f xs b) ∙ sym (append_assoc (option_to_list (record_of f x)) (records_of f xs) (option_to_list (record_of f b)))

replay_more : {F : Type 0} (s : NodeState F) (rs : List (Record F)) (o : Option (Record F)) → replay_from s (rs ++ option_to_list o) ≡ apply_read (replay_from s rs) o
replay_more s [] None = refl
replay_more s [] (Some r) = refl
replay_more s (x ∷ xs) o = replay_more (apply_effect s x.cause x.effect) xs o

-- the state after one more body
pub state_push : {F : Type 0} (f : Reads F) (bs : List (List ℕ)) (b : List ℕ) → state_of f (bs ++ b ∷ []) ≡ apply_read (state_of f bs) (record_of f b)
unfolding state_of replay
state_push f bs b = ap (λ rs. replay_from fresh rs) (records_push f bs b) ∙ replay_more fresh (records_of f bs) (record_of f b)

abbrev cause_in : {F : Type 0} → Record F → Cause
cause_in r = r.cause

pub causes_push : {F : Type 0} (f : Reads F) (bs : List (List ℕ)) (b : List ℕ) (r : Record F) → record_of f b ≡ Some r → causes_of f (bs ++ b ∷ []) ≡ causes_of f bs ++ r.cause ∷ []
unfolding causes_of
causes_push f bs b r is = ap (λ rs. map cause_in rs) (records_push f bs b) ∙ map-append cause_in (records_of f bs) (option_to_list (record_of f b)) ∙ ap (λ o. map cause_in (records_of f bs) ++ map cause_in (option_to_list o)) is

-- ---- the state after one more record

applied : {F : Type 0} (l : LedgerState) (flows : List (FlowState F)) (ss : List Session) (stamp moment : ℕ) (cause : Cause) (flow : Option (FlowAfter F)) (change : SessionChange) (led : LedgerChange)
    → apply_effect (state_with l flows ss stamp moment) cause (effect_by flow change led) ≡ state_with (ledger_after (part_after flow) led l) (flows_on (part_after flow) flows) (sessions_on cause (effect_by flow change led) ss) cause.stamp cause.moment.0
unfolding apply_effect
applied l flows ss stamp moment cause flow change led = refl

-- a flow at its number, one of the table or the next
put_on : {F : Type 0} (flows : List (FlowState F)) (n : ℕ) (flow : FlowState F) → n ≤ length flows → IsNumbered n flow → flows_on (part_of n flow) flows ≡ with_flow n flow flows
put_on flows n flow h own = put_at flows n flow (nat_lt n (length flows)) refl h own
  where
    put_new : {F : Type 0} (flows : List (FlowState F)) (n : ℕ) (flow : FlowState F) → n ≡ length flows → IsNumbered n flow → flows_on (part_of n flow) flows ≡ flows ++ flow ∷ []
    put_new flows n (Live at) is own = push_on flows at.flow (Live at) (own ∙ is)
    put_new flows n (Ended step class value) is own = push_on flows n (Ended step class value) is
    put_new flows n (Failed step class code) is own = push_on flows n (Failed step class code) is

    put_at : {F : Type 0} (flows : List (FlowState F)) (n : ℕ) (flow : FlowState F) (b : Bool) → nat_lt n (length flows) ≡ b → n ≤ length flows → IsNumbered n flow → flows_on (part_of n flow) flows ≡ with_flow n flow flows
    put_at flows n flow true is h own = let below = ltb-true n (length flows) is in set_on flows n flow below own ∙ set_parts flows n flow below
    put_at flows n flow false is h own =
        let end : n ≡ length flows = omega (arith, h, ltb-false n (length flows) is) in
        put_new flows n flow end own ∙ push_parts flows n flow end

-- ---- what a record that fits does to the flows

-- the flow's number is one of the table or the next, and it went on by one step at most
record Puts {F : Type 0} (flows : List (FlowState F)) (m n : ℕ) (flow : FlowState F) : Type 0 where
  within : n ≤ length flows
  steps : steps_of flow ≤ m + 1

new_puts : {F : Type 0} (flows : List (FlowState F)) (f class m n : ℕ) (flow : FlowState F) → f ≡ length flows → IsNewFlow f class (part_of n flow) → IsNumbered n flow → Puts flows m n flow
new_puts flows f class m n (Live at) is new own = let a = new.0 in let b = new.1 in record { within = omega (arith, own, is, a); steps = omega (arith, b) }
new_puts flows f class m n (Ended step c value) is new own = absurd new
new_puts flows f class m n (Failed step c code) is new own = absurd new

next_is : {F : Type 0} (f step class n : ℕ) (flow : FlowState F) → IsNextOf f step class (part_of n flow) → IsNumbered n flow → (n ≡ f) × (steps_of flow ≡ step + 1)
next_is f step class n (Live at) next own = (sym own ∙ next.0, next.1)
next_is f step class n (Ended now of value) next own = (next.0, next.1)
next_is f step class n (Failed now of code) next own = (next.0, next.1)

live_get : {F : Type 0} (flows : List (FlowState F)) (f m : ℕ) (o : Option (FlowState F)) (at : Checkpoint F) → slice_get flows f ≡ o → option_and_then checkpoint_of o ≡ Some at → AllByRecursion (λ flow. steps_of flow ≤ m) flows → (f < length flows) × (at.step ≤ m)
live_get flows f m None at is h all = cc
live_get flows f m (Some (Live x)) at is h all =
    let same : x ≡ at = cc in
    let old = all_get (λ flow. steps_of flow ≤ m) flows f (Live x) all is in
    (slice_get_within flows f (Live x) is, subst (λ c. c.step ≤ m) same old)
live_get flows f m (Some (Ended step class value)) at is h all = cc
live_get flows f m (Some (Failed step class code)) at is h all = cc

no_part : {F : Type 0} (n : ℕ) (flow : FlowState F) → part_of n flow ≡ no_flow → ⊥
no_part n (Live at) h = cc
no_part n (Ended step class value) h = cc
no_part n (Failed step class code) h = cc

by_puts : {F : Type 0} (flows : List (FlowState F)) (class m n : ℕ) (flow : FlowState F) (body : Body) → AnswersBy (length flows) class (part_of n flow) body → IsNumbered n flow → Puts flows m n flow
by_puts flows class m n flow body_of.Confirm h own = new_puts flows (length flows) class m n flow refl h own
by_puts flows class m n flow (body_of.Reject code) h own = absurd (no_part n flow h)
by_puts flows class m n flow (body_of.Init c first) h own = absurd h
by_puts flows class m n flow (body_of.Data value) h own = absurd h
by_puts flows class m n flow (body_of.Error code) h own = absurd h
by_puts flows class m n flow body_of.End h own = absurd h

first_puts : {F : Type 0} (flows : List (FlowState F)) (key : Key) (class m n : ℕ) (flow : FlowState F) (items : List SentItem) → AnswersFirst (length flows) key class (part_of n flow) items → IsNumbered n flow → Puts flows m n flow
first_puts flows key class m n flow [] h own = absurd h
first_puts flows key class m n flow (item ∷ items) h own = by_puts flows class m n flow item.body h.3 own

init_puts : {F : Type 0} (flows : List (FlowState F)) (key : Key) (m : ℕ) (after : FlowAfter F) (change : SessionChange) (led : LedgerChange) (o : Option Body) → AcceptsInit (length flows) key (effect_by (Some after) change led) o → IsOwn after → Puts flows m after.number after.state
init_puts flows key m after change led None h own = absurd h
init_puts flows key m after change led (Some (body_of.Init class first)) h own = first_puts flows key class m after.number after.state change.sent h own
init_puts flows key m after change led (Some body_of.Confirm) h own = absurd h
init_puts flows key m after change led (Some (body_of.Reject code)) h own = absurd h
init_puts flows key m after change led (Some (body_of.Data value)) h own = absurd h
init_puts flows key m after change led (Some (body_of.Error code)) h own = absurd h
init_puts flows key m after change led (Some body_of.End) h own = absurd h

goes_puts : {F : Type 0} (l : LedgerState) (flows : List (FlowState F)) (ss : List Session) (stamp moment f m : ℕ) (after : FlowAfter F) (change : SessionChange) (led : LedgerChange) → GoesOn (state_with l flows ss stamp moment) f (effect_by (Some after) change led) → IsOwn after → AllByRecursion (λ flow. steps_of flow ≤ m) flows → Puts flows m after.number after.state
goes_puts l flows ss stamp moment f m after change led h own all =
    let p = next_is f h.at.step h.at.class after.number after.state h.next own in
    let q = live_get flows f m (slice_get flows f) h.at refl h.live all in
    record { within = omega (arith, p.0, q.0); steps = omega (arith, p.1, q.1) }

event_puts : {F : Type 0} (w : Environment F) (me : ℕ) (l : LedgerState) (flows : List (FlowState F)) (ss : List Session) (stamp moment m : ℕ) (event : Event) (after : FlowAfter F) (change : SessionChange) (led : LedgerChange) → FitsEvent w me (state_with l flows ss stamp moment) event (effect_by (Some after) change led) → IsOwn after → AllByRecursion (λ flow. steps_of flow ≤ m) flows
    → Puts flows m after.number after.state
event_puts w me l flows ss stamp moment m (event.Start f class args) after change led h own all = new_puts flows f class m after.number after.state h.0 h.1 own
event_puts w me l flows ss stamp moment m (event.Answer key) after change led h own all = init_puts flows key m after change led change.came h.1 own
event_puts {F} w me l flows ss stamp moment m (event.Arrive key direction number) after change led h own all = absurd (no_part after.number after.state (ap (λ (e : Effect F). e.flow) h.alone))
event_puts w me l flows ss stamp moment m (event.Move f) after change led h own all = goes_puts l flows ss stamp moment f m after change led h own all
event_puts w me l flows ss stamp moment m (event.Lapse f) after change led h own all = goes_puts l flows ss stamp moment f m after change led h own all

put_numbered : {F : Type 0} (flows : List (FlowState F)) (n : ℕ) (flow : FlowState F) (b : Bool) → nat_lt n (length flows) ≡ b → n ≤ length flows → IsNumbered n flow → AreNumbered 0 flows → AreNumbered 0 (with_flow n flow flows)
put_numbered flows n flow true is h own all = let below = ltb-true n (length flows) is in subst (AreNumbered 0) (set_parts flows n flow below) (numbered_set 0 n flows flow all (subst (λ k. IsNumbered k flow) (omega arith) own))
put_numbered flows n flow false is h own all =
    let end : n ≡ length flows = omega (arith, h, ltb-false n (length flows) is) in
    subst (AreNumbered 0) (push_parts flows n flow end) (numbered_push 0 flows flow all (subst (λ k. IsNumbered k flow) (omega (arith, end)) own))

-- with a flow put at a place there are no fewer, and the place is among them
place_in : {X : Type 0} (xs : List X) (k : ℕ) (y : X) → k ≤ length xs → (k < length (take k xs ++ y ∷ drop (suc k) xs)) × (length xs ≤ length (take k xs ++ y ∷ drop (suc k) xs))
place_in [] zero y h = (omega arith, omega arith)
place_in [] (suc k) y h = absurd (omega (arith, h))
place_in (x ∷ xs) zero y h = (omega arith, omega arith)
place_in (x ∷ xs) (suc k) y h = let p = place_in xs k y (omega (arith, h)) in let a = p.0 in let b = p.1 in (omega (arith, a), omega (arith, b))

part_below : {F : Type 0} (n m : ℕ) (flow : FlowState F) → IsNumbered n flow → n < m → IfSome (flow_of (part_of n flow)) (λ f. f < m)
part_below n m (Live at) own below = omega (arith, own, below)
part_below n m (Ended step class value) own below = below
part_below n m (Failed step class code) own below = below

-- all that is known of the flows after a record, m being how many there were before
record Flowing {F : Type 0} (is_frame : F → Type 0) (flows : List (FlowState F)) (m : ℕ) (flow : Option (FlowAfter F)) : Type 0 where
  on : flows_on (part_after flow) flows ≡ flows_after flow flows
  held : length (flows_after flow flows) ≤ m + 1
  steps : AllByRecursion (λ x. steps_of x ≤ m + 1) (flows_after flow flows)
  limits : AllByRecursion (IsFlow is_frame) (flows_after flow flows)
  numbered : AreNumbered 0 (flows_after flow flows)
  more : length flows ≤ length (flows_after flow flows)
  below : IfSome (flow_of (part_after flow)) (λ f. f < length (flows_after flow flows))

flowing : {F : Type 0} (w : Environment F) (me : ℕ) (is_frame : F → Type 0) (l : LedgerState) (flows : List (FlowState F)) (ss : List Session) (stamp moment m : ℕ) (event : Event) (flow : Option (FlowAfter F)) (change : SessionChange) (led : LedgerChange) → FitsEvent w me (state_with l flows ss stamp moment) event (effect_by flow change led)
    → IfSome flow (IsAfter is_frame) → length flows ≤ m → AllByRecursion (λ x. steps_of x ≤ m) flows → AllByRecursion (IsFlow is_frame) flows → AreNumbered 0 flows → Flowing is_frame flows m flow
flowing w me is_frame l flows ss stamp moment m event None change led h after held steps limits numbered =
    record { on = refl; held = omega (arith, held); steps = all_weaken (λ x. steps_of x ≤ m) (λ x. steps_of x ≤ m + 1) flows (λ x k. omega arith) steps; limits = limits; numbered = numbered; more = omega arith; below = tt }
flowing w me is_frame l flows ss stamp moment m event (Some after) change led h own held steps limits numbered =
    let puts = event_puts w me l flows ss stamp moment m event after change led h own.1 steps in
    let place = place_in flows after.number after.state puts.within in
    let more : AllByRecursion (λ x. steps_of x ≤ m + 1) flows = all_weaken (λ x. steps_of x ≤ m) (λ x. steps_of x ≤ m + 1) flows (λ x k. omega arith) steps in
    record {
      on = put_on flows after.number after.state puts.within own.1;
      held = omega (arith, held, length_parts flows after.number after.state puts.within);
      steps = all_put (λ x. steps_of x ≤ m + 1) flows after.number after.state more puts.steps;
      limits = all_put (IsFlow is_frame) flows after.number after.state limits own.0;
      numbered = put_numbered flows after.number after.state (nat_lt after.number (length flows)) refl puts.within own.1 numbered;
      more = place.1;
      below = part_below after.number (length (with_flow after.number after.state flows)) after.state own.1 place.0;
    }

-- a flow's number, as the table's contracts say it
tabled : {F : Type 0} (n : ℕ) (flow : FlowState F) → IsNumbered n flow → IsTabled n flow
tabled n (Live at) h = h
tabled n (Ended step class value) h = tt
tabled n (Failed step class code) h = tt

if_some : {X : Type 0} (P : X → Type 0) (o : Option X) → ((x : X) → o ≡ Some x → P x) → IfSome o P
if_some P None f = tt
if_some P (Some x) f = f x refl

-- ---- the tables over one more record

-- a machine that begins nothing, where only the number of nodes is asked for
pub no_machine : {F : Type 0} → Machine F
no_machine = record { worded = λ name words. Err word.UnknownClass; made = λ class args at. Err make.UnknownClass; begun = λ class key at. None; next = λ frame with at. (frame, act.Fail 0); content = λ frame. []; weight = λ frame. 0; over = λ frame. false; tags = λ frame. []; load = λ class. 0 }

abbrev pub some_world : {F : Type 0} → Party → ℕ → Environment F
some_world notary nodes = environment (unjudged no_machine (λ bytes. Err 0)) (record { party = party 0; nodes = nodes; notary = notary })

pub own_of : {F : Type 0} (is_frame : F → Type 0) (flow : Option (FlowAfter F)) → IfSome flow (IsAfter is_frame) → IfSome flow IsOwn
own_of is_frame None h = tt
own_of is_frame (Some after) h = h.1

recorded_more : (stored : List SignedTx) (recorded : Option SignedTx) → length (stored ++ option_to_list recorded) ≤ length stored + 1
recorded_more stored None = let e = length-append stored [] in omega (arith, e)
recorded_more stored (Some stx) = let e = length-append stored (stx ∷ []) in omega (arith, e)

module _ {F : Type 0} (notary : Party) (nodes : ℕ) (me : Party) (f : Reads F) (is_frame : F → Type 0) (bodies : List (List ℕ)) (causes : List Cause) (l : LedgerState) (flows : List (FlowState F)) (ss : List Session) (stamp moment : ℕ) (step : Step F) (kept : Keeps me f is_frame bodies causes l flows ss stamp moment)
    (fit : fits notary nodes me (state_of f bodies) (step_record step) ≡ true) (limits : IsStep is_frame step) where
  here : fits notary nodes me (state_with l flows ss stamp moment) (step_record step) ≡ true
  here = subst (λ (s : NodeState F). fits notary nodes me s (step_record step) ≡ true) kept.state fit

  ruled : Fits (some_world notary nodes) me.0 (state_with l flows ss stamp moment) step.cause (effect_by step.flow step.session step.ledger)
  ruled = fits_to (some_world notary nodes) me.0 (state_with l flows ss stamp moment) step.cause (effect_by step.flow step.session step.ledger) here

  owned : (n : ℕ) → flow_of (part_after step.flow) ≡ Some n → step.session.owner ≡ n
  owned n is = limits.2.1.0 ∙ owner_is step.flow n (own_of is_frame step.flow limits.1) is

  flows_go : Flowing is_frame flows (length bodies) step.flow
  flows_go = flowing (some_world notary nodes) me.0 is_frame l flows ss stamp moment (length bodies) step.cause.event step.flow step.session step.ledger ruled.event limits.1 kept.held kept.steps kept.limits kept.numbered

  after_is : changed_by step.cause.stamp step.session ss ≡ sessions_on step.cause (effect_by step.flow step.session step.ledger) ss
  after_is = sessions_same (some_world notary nodes) me.0 (255 * length bodies) (length bodies) (state_with l flows ss stamp moment) step.flow step.session step.ledger kept.small owned step.cause limits.2.1.1 ruled.event ruled.change.opened

  -- the ledger afterwards
  abbrev pub ledger_is : LedgerState
  ledger_is = ledger_after (part_after step.flow) step.ledger l

  state_is : apply_effect (state_with l flows ss stamp moment) step.cause (effect_by step.flow step.session step.ledger) ≡ state_with ledger_is (flows_after step.flow flows) (changed_by step.cause.stamp step.session ss) step.cause.stamp step.cause.moment.0
  state_is = applied l flows ss stamp moment step.cause step.flow step.session step.ledger ∙ ap (λ (x : List (FlowState F)). state_with ledger_is x (sessions_on step.cause (effect_by step.flow step.session step.ledger) ss) step.cause.stamp step.cause.moment.0) flows_go.on ∙ ap (λ (x : List Session). state_with ledger_is (flows_after step.flow flows) x step.cause.stamp step.cause.moment.0) (sym after_is)

  small_after : AllByRecursion (IsSmall me (255 * length bodies + 255) (length bodies + 1)) (changed_by step.cause.stamp step.session ss)
  small_after =
      subst (λ (x : List Session). AllByRecursion (IsSmall me (255 * length bodies + 255) (length bodies + 1)) x) (sym after_is)
      (record_small (some_world notary nodes) me.0 (state_with l flows ss stamp moment) step.cause (effect_by step.flow step.session step.ledger) (255 * length bodies) (length bodies) ruled limits.2.0.1.0.0 kept.small)

  lawful_after : AreLawful me (changed_by step.cause.stamp step.session ss)
  lawful_after =
      subst (λ (l : List Session). AreLawful me l) (sym after_is)
      (record_lawful (some_world notary nodes) me.0 (state_with l flows ss stamp moment) step.cause (effect_by step.flow step.session step.ledger) kept.sound limits.0.1.1 limits.2.0.0 limits.2.0.1.0.1 ruled kept.lawful)

  owned_after : AreOwned (length (flows_after step.flow flows)) (changed_by step.cause.stamp step.session ss)
  owned_after =
      subst (λ (l : List Session). AreOwned (length (flows_after step.flow flows)) l) (sym after_is)
      (record_owned (some_world notary nodes) me.0 (state_with l flows ss stamp moment) step.cause (effect_by step.flow step.session step.ledger) (length (flows_after step.flow flows)) limits.0.1.1 limits.2.0.0 ruled flows_go.more flows_go.below kept.owned)

  arrived_after : AllByRecursion IsHeld (changed_by step.cause.stamp step.session ss)
  arrived_after =
      subst (λ (x : List Session). AllByRecursion IsHeld x) (sym after_is)
      (record_held step.cause (effect_by step.flow step.session step.ledger) ss limits.2.0.1.1.0 kept.arrived)

  -- the tables keep what they keep
  pub kept_add : (body : List ℕ) → length bodies < 65536 → record_of f body ≡ Some (step_record step) → Keeps me f is_frame (bodies ++ body ∷ []) (causes ++ step.cause ∷ []) ledger_is (flows_after step.flow flows) (changed_by step.cause.stamp step.session ss) step.cause.stamp step.cause.moment.0
  kept_add body room reads =
      let longer : length (bodies ++ body ∷ []) ≡ length bodies + 1 = length-append bodies (body ∷ []) in
      let sent_bound : 255 * length bodies + 255 ≡ 255 * length (bodies ++ body ∷ []) = omega (arith, longer) in
      let came_bound : length bodies + 1 ≡ length (bodies ++ body ∷ []) = sym longer in
      let go = flows_go in
      let held = go.held in
      let made = kept.made in
      let count = record_count step.cause (effect_by step.flow step.session step.ledger) ss in
      let size = ap length after_is in
      record {
        state = state_push f bodies body ∙ ap (λ (o : Option (Record F)). apply_read (state_of f bodies) o) reads ∙ ap (λ (s : NodeState F). apply_effect s step.cause (effect_by step.flow step.session step.ledger)) kept.state ∙ state_is;
        recorded = omega (arith, longer, kept.recorded, recorded_more l.stored step.ledger.recorded);
        told = ap (λ (l : List Cause). l ++ step.cause ∷ []) kept.told ∙ sym (causes_push f bodies body (step_record step) reads);
        few = omega (arith, longer, room);
        held = omega (arith, longer, held);
        steps = subst (λ k. AllByRecursion (λ x. steps_of x ≤ k) (flows_after step.flow flows)) (sym longer) go.steps;
        limits = go.limits;
        numbered = go.numbered;
        late = ruled.bounded;
        made = omega (arith, longer, made, count, size);
        small = subst (λ k. AllByRecursion (IsSmall me k (length (bodies ++ body ∷ []))) (changed_by step.cause.stamp step.session ss)) sent_bound (subst (λ k. AllByRecursion (IsSmall me (255 * length bodies + 255) k) (changed_by step.cause.stamp step.session ss)) came_bound small_after);
        sound = subst (λ (s : NodeState F). IsSound me.0 s) state_is (fits_keep_sound (some_world notary nodes) me.0 (state_with l flows ss stamp moment) step.cause (effect_by step.flow step.session step.ledger) kept.sound ruled);
        lawful = lawful_after;
        owned = owned_after;
        arrived = arrived_after;
      }

  -- the ledger of the state afterwards
  pub ledger_next : (body : List ℕ) → length bodies < 65536 → record_of f body ≡ Some (step_record step) → ledger_in (state_of f (bodies ++ body ∷ [])) ≡ ledger_is
  ledger_next body room reads = ap (λ (s : NodeState F). ledger_in s) (kept_add body room reads).state

  -- the same, by the ledger of the state that the bodies make
  pub kept_next : (body : List ℕ) → length bodies < 65536 → record_of f body ≡ Some (step_record step) → Keeps me f is_frame (bodies ++ body ∷ []) (causes ++ step.cause ∷ []) (ledger_in (state_of f (bodies ++ body ∷ []))) (flows_after step.flow flows) (changed_by step.cause.stamp step.session ss) step.cause.stamp step.cause.moment.0
  kept_next body room reads = subst (λ (x : LedgerState). Keeps me f is_frame (bodies ++ body ∷ []) (causes ++ step.cause ∷ []) x (flows_after step.flow flows) (changed_by step.cause.stamp step.session ss) step.cause.stamp step.cause.moment.0) (sym (ledger_next body room reads)) (kept_add body room reads)

  -- the ledger's part fits
  pub ledger_fits : fits_ledger notary me (state_with l flows ss stamp moment) (whole_part step.session step.ledger) ≡ true
  ledger_fits = (parts_of notary nodes me (state_with l flows ss stamp moment) step.cause (effect_by step.flow step.session step.ledger) here).ledger

  -- of the new sessions nothing is acknowledged
  pub acked_add : (body : List ℕ) → length bodies < 65536 → record_of f body ≡ Some (step_record step) → (acked : List ℕ) → length acked ≡ length ss → acks_after step.session acked ≡ padded acked (state_of f (bodies ++ body ∷ [])).sessions
  acked_add body room reads acked same = acks_padded step.cause.stamp step.session acked ss same ∙ ap (λ (s : NodeState F). padded acked s.sessions) (sym (kept_add body room reads).state)

  -- what is asked of the sessions holds
  pub change_fits_here : IsFitting me step.cause.stamp ss step.session
  change_fits_here =
      change_fits (some_world notary nodes) me.0 (255 * length bodies) (length bodies) (state_with l flows ss stamp moment) step.flow step.session step.ledger kept.small owned step.cause limits.2.1.1 ruled.event ruled.change.opened step.cause.stamp ruled.change.sent ruled.change.taken

  pub few_came : arrived_in step.session.came_key ss + 1 < 2 ^ 32
  few_came = let most = few_arrived me (255 * length bodies) (length bodies) step.session.came_key ss kept.small in let few = kept.few in omega (arith, most, few)

  pub few_sent : list_all (λ item. nat_lt (item.seq + 1) (2 ^ 32)) step.session.sent ≡ true
  few_sent =
      let few = kept.few in
      let short : length step.session.sent ≤ 255 = limits.2.0.1.0.0 in
      let begun = begun_small (some_world notary nodes) me.0 (state_with l flows ss stamp moment) step.cause (effect_by step.flow step.session step.ledger) (255 * length bodies) (length bodies) ruled.event ruled.change.opened kept.small in
      few_numbers me step.cause.stamp (255 * length bodies) (length bodies + 1) step.session.sent (begun_by step.cause (effect_by step.flow step.session step.ledger) ss) ruled.change.sent begun (omega (arith, few, short))

  -- the place at which the flow is put
  place_within : (after : FlowAfter F) → step.flow ≡ Some after → (after.number ≤ length flows) × IsOwn after
  place_within after is =
      let event = subst (λ (o : Option (FlowAfter F)). FitsEvent (some_world notary nodes) me.0 (state_with l flows ss stamp moment) step.cause.event (effect_by o step.session step.ledger)) is ruled.event in
      let own : IsAfter is_frame after = subst (λ (o : Option (FlowAfter F)). IfSome o (IsAfter is_frame)) is limits.1 in
      ((event_puts (some_world notary nodes) me.0 l flows ss stamp moment (length bodies) step.cause.event after step.session step.ledger event own.1 kept.steps).within, own.1)

  pub place_there : IfSome step.flow (λ after. (after.number ≤ length flows) × IsTabled after.number after.state)
  place_there = if_some (λ after. (after.number ≤ length flows) × IsTabled after.number after.state) step.flow (λ after is. let p = place_within after is in (p.0, tabled after.number after.state p.1))

-- nothing has happened yet
pub kept_none : {F : Type 0} (me : Party) (f : Reads F) (is_frame : F → Type 0) → me.0 < 16 → Keeps me f is_frame [] [] (ledger_in (state_of f [])) [] [] 0 0
unfolding state_of causes_of replay
kept_none me f is_frame node = record { state = refl; recorded = omega arith; told = refl; few = omega arith; held = omega arith; steps = tt; limits = tt; numbered = tt; late = omega arith; made = omega arith; small = tt; sound = fresh_is_sound me.0; lawful = record { node = node; each = tt }; owned = record { keys = tt; owners = tt; few = λ f. omega arith }; arrived = tt }
