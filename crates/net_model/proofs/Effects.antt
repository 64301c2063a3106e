-- What the effect of an event says of the accepted item, and the parts of a step.
use Rattle.std.proofs.Common.{◌≡◌, ℕ, List, [], ◌∷◌, Option, Some, None, Result, Ok, Err, Bool, true, false, cond, ◌==◌, nat_lt, option_map, length, refl, sym, ap, ◌∙◌}
use Rattle.net_base.specs.declared.names.Key.{Key}
use Rattle.net_base.specs.declared.values.Hash32.{Hash32}
use Rattle.net_base.specs.declared.values.Party.{Party}
use Rattle.net_base.specs.declared.causes.Cause.{Cause}
use Rattle.net_base.specs.declared.causes.Event.{Event}
use Rattle.net_base.specs.declared.causes.Event.TheVariants as event
use Rattle.net_base.proofs.Options.{cond_all, some_eq}
use Rattle.ledger_types.specs.declared.tx.Tx.{Tx}
use Rattle.ledger_types.specs.declared.tx.Resolved.{Resolved}
use Rattle.ledger_types.specs.declared.held.Held.{Held}
use Rattle.ledger_types.specs.declared.tx.SignedTx.{SignedTx}
use Rattle.ledger_types.specs.declared.value.Value.{Value}
use Rattle.ledger_types.specs.declared.verdict.Verdict.{Verdict}
use Rattle.ledger_types.specs.declared.verdict.Verdict.TheVariants as verdict
use Rattle.session_wire.specs.declared.body.Body.{Body}
use Rattle.session_wire.specs.declared.body.Body.TheVariants as body_of
use Rattle.flow_machine.specs.declared.acts.Act.{Act}
use Rattle.flow_machine.specs.declared.acts.Act.TheVariants as act
use Rattle.flow_machine.specs.declared.acts.Resumed.TheVariants as resumed
use Rattle.flow_machine.specs.declared.flow_set.MakeFault.{MakeFault}
use Rattle.flow_machine.specs.declared.flows.Checkpoint.{Checkpoint}
use Rattle.session_wire.specs.Sessions.{Sent, Session, next_item, session_of}
use Rattle.net_model.specs.Environment.{Environment, party}
use Rattle.ledger_types.specs.Notary.{tag_by}
use Rattle.ledger_types.specs.Stores.{is_stored, resolved_of}
use Rattle.ledger_types.specs.Rules.{is_other_notary}
use Rattle.ledger_types.specs.Vaults.{reservable}
use Rattle.ledger_types.specs.Signatures.{tx_id, is_signed}
use Rattle.net_model.specs.State.{NodeState, Effect, nothing, with_ids, apply_effect}
use Rattle.net_model.specs.Steps.{Done, opens, opening, sends, receives, takes, verifies, reserves, vault_at, finds, signs_id, records, records_in, records_by, goes_on, onwards, pushes, returns, performed, lapsed, started, answering, answered_with, effect_of, node_step, body_in, stamp_in, in_order, live_at}
use Rattle.session_wire.specs.Rules.{is_no_peer, has_many, is_next, is_new_key, owned}
use Rattle.net_model.specs.Runs.{accepts, StepIsItsEffect}
use Rattle.net_model.proofs.Basics.{from_some, from_map, from_then, from_cond}

-- ---- no act accepts an item

abbrev IsPlain : Done → Type 0
IsPlain done = done.1.came ≡ None

abbrev pub AcceptsNone : {F : Type 0} → Effect F → Type 0
AcceptsNone e = e.change.came ≡ None

module _ {F : Type 0} (w : Environment F) (me : ℕ) (s : NodeState F) (now : ℕ) where
  opens_plain : (f : ℕ) (to : Party) (class : ℕ) (first : Value) → IsPlain (opens w.nodes me s.sessions f to class first)
  opens_plain f to class first =
      cond_all IsPlain (is_no_peer w.nodes (party me) to) (resumed.Refused 48, nothing) (cond (has_many f s.sessions) (resumed.Refused 57, nothing) (opening me s.sessions to class first)) refl
      (cond_all IsPlain (has_many f s.sessions) (resumed.Refused 57, nothing) (opening me s.sessions to class first) refl refl)

  sends_plain : (value : Value) (o : Option Session) → IsPlain (sends me value o)
  sends_plain value None = refl
  sends_plain value (Some session) = refl

  receives_plain : (o : Option Session) (done : Done) → receives o ≡ Some done → IsPlain done
  receives_plain None done h = from_some IsPlain h refl
  receives_plain (Some session) done h = from_map IsPlain (takes session) (next_item session session.ending) done h (λ a is. refl)

  verifies_plain : (tx : Tx) (o : Option Resolved) → IsPlain (verifies w tx o)
  verifies_plain tx None = refl
  verifies_plain tx (Some states) = refl

  reserves_plain : (have : ℕ) (o : Option (List Held)) → IsPlain (reserves have o)
  reserves_plain have None = refl
  reserves_plain have (Some list) = refl

  finds_plain : (o : Option SignedTx) → IsPlain (finds o)
  finds_plain None = refl
  finds_plain (Some stx) = refl

  records_by_plain : (stx : SignedTx) (v : Verdict) → IsPlain (records_by w stx v)
  records_by_plain stx verdict.Accepted = cond_all IsPlain (is_signed w.mark stx) (resumed.Recorded, record nothing { recorded = Some stx }) (resumed.Refused 34, nothing) refl refl
  records_by_plain stx (verdict.Broken rule) = refl
  records_by_plain stx (verdict.Refused contract clause) = refl
  records_by_plain stx (verdict.NoContract id) = refl

  records_in_plain : (stx : SignedTx) (o : Option Resolved) → IsPlain (records_in w stx o)
  records_in_plain stx None = refl
  records_in_plain stx (Some states) = records_by_plain stx _

  records_plain : (stx : SignedTx) → IsPlain (records w s stx)
  records_plain stx =
      cond_all IsPlain (is_stored (with_ids s.stored) (tx_id stx.tx)) (resumed.Recorded, nothing) (cond (is_other_notary stx.tx.notary w.notary) (resumed.Refused 41, nothing) (records_in w stx (resolved_of (with_ids s.stored) stx.tx))) refl
      (cond_all IsPlain (is_other_notary stx.tx.notary w.notary) (resumed.Refused 41, nothing) (records_in w stx (resolved_of (with_ids s.stored) stx.tx)) refl (records_in_plain stx _))

  returns_plain : (at : Checkpoint F) (value : Value) (below : List F) → AcceptsNone (returns w me s now at value below)
  returns_plain at value [] = refl
  returns_plain at value (frame ∷ below) = refl

  pushes_plain : (at : Checkpoint F) (frame : F) → AcceptsNone (pushes w me now at frame)
  pushes_plain at frame = cond_all AcceptsNone (nat_lt (length at.stack.below) 7) (record { flow = onwards w me now at frame (at.stack.top ∷ at.stack.below) resumed.Started; change = nothing }) (goes_on w me now at (resumed.Refused 49, nothing)) refl refl

  signs_plain : (id : Hash32) → IsPlain (signs_id w me id)
  signs_plain id = cond_all IsPlain (w.notary.0 == me) (resumed.Refused 46, nothing) (resumed.Tagged (tag_by w.mark (party me) id), nothing) refl refl

  received_plain : (at : Checkpoint F) (o : Option Session) (e : Effect F) → option_map (goes_on w me now at) (receives o) ≡ Some e → AcceptsNone e
  received_plain at o e h = from_map AcceptsNone (goes_on w me now at) (receives o) e h (λ done is. receives_plain o done is)

  pub performed_plain : (at : Checkpoint F) (a : Act F) (e : Effect F) → performed w me s now at a ≡ Some e → AcceptsNone e
  performed_plain at (act.Open to class first) e h = from_some AcceptsNone h (opens_plain at.flow to class first)
  performed_plain at (act.Send key value) e h = from_some AcceptsNone h (sends_plain value _)
  performed_plain at (act.Receive key) e h = received_plain at (owned at.flow key s.sessions) e h
  performed_plain at (act.ReceiveBy key until) e h = received_plain at (owned at.flow key s.sessions) e h
  performed_plain at (act.Sleep until) e h = cc
  performed_plain at (act.Sub frame) e h = from_some AcceptsNone h (pushes_plain at frame)
  performed_plain at (act.Verify tx) e h = from_some AcceptsNone h (verifies_plain tx _)
  performed_plain at (act.Reserve token amount) e h = from_some AcceptsNone h (reserves_plain (reservable token (vault_at me s)) _)
  performed_plain at (act.Lookup id) e h = from_some AcceptsNone h (finds_plain _)
  performed_plain at (act.Missing tx) e h = from_some AcceptsNone h refl
  performed_plain at (act.Sign id) e h = from_some AcceptsNone h (signs_plain id)
  performed_plain at (act.Notarise request) e h = from_some AcceptsNone h refl
  performed_plain at (act.Record stx) e h = from_some AcceptsNone h (records_plain stx)
  performed_plain at (act.Return value) e h = from_some AcceptsNone h (returns_plain at value at.stack.below)
  performed_plain at (act.Fail code) e h = from_some AcceptsNone h refl

  pub lapsed_plain : (at : Checkpoint F) (b : Bool) (e : Effect F) → lapsed w me now at b ≡ Some e → AcceptsNone e
  lapsed_plain at true e h = from_some AcceptsNone h refl
  lapsed_plain at false e h = cc

  started_plain : (f class : ℕ) (made : Result (F × Act F) MakeFault) (e : Effect F) → started f class made ≡ Some e → AcceptsNone e
  started_plain f class (Ok made) e h = from_some AcceptsNone h refl
  started_plain f class (Err fault) e h = cc

  answering_came : (key : Key) (f class : ℕ) (init : Body) (o : Option (F × Act F)) → (answering key f class init o).change.came ≡ Some init
  answering_came key f class init (Some made) = refl
  answering_came key f class init None = refl

  answered_came : (key : Key) (body : Body) (e : Effect F) → answered_with w me s now key body ≡ Some e → e.change.came ≡ Some body
  answered_came key (body_of.Init class first) e h = from_some (λ x. x.change.came ≡ Some (body_of.Init class first)) h (answering_came key _ class _ _)
  answered_came key body_of.Confirm e h = cc
  answered_came key (body_of.Reject code) e h = cc
  answered_came key (body_of.Data value) e h = cc
  answered_came key (body_of.Error code) e h = cc
  answered_came key body_of.End e h = cc

  -- an event that accepts no item has an effect without one
  pub effect_plain : (ev : Event) (body : Option Body) (e : Effect F) → accepts ev ≡ false → effect_of w me s now ev body ≡ Some e → AcceptsNone e
  unfolding effect_of
  effect_plain (event.Start f class args) body e a h = from_cond _ (f == length s.flows) _ e h (λ _ k. started_plain f class _ e k)
  effect_plain (event.Answer key) body e a h = cc
  effect_plain (event.Arrive key direction number) body e a h = cc
  effect_plain (event.Move f) body e a h = from_then _ _ (live_at s f) e h (λ at _ k. performed_plain at at.waiting e k)
  effect_plain (event.Lapse f) body e a h = from_then _ _ (live_at s f) e h (λ at _ k. lapsed_plain at _ e k)

  -- an event that accepts an item has it in its effect
  pub effect_accepts : (ev : Event) (body : Option Body) (e : Effect F) → accepts ev ≡ true → effect_of w me s now ev body ≡ Some e → (b : Body) × (body ≡ Some b) × (e.change.came ≡ Some b)
  unfolding effect_of
  effect_accepts (event.Start f class args) body e a h = cc
  effect_accepts (event.Answer key) None e a h = cc
  effect_accepts (event.Answer key) (Some b) e a h = from_cond _ (is_new_key w.nodes (party me) s.sessions key) _ e h (λ _ k. (b, refl, answered_came key b e k))
  effect_accepts (event.Arrive key direction number) None e a h = from_then _ _ (session_of key s.sessions) e h (λ session _ k. cc)
  effect_accepts (event.Arrive key direction number) (Some b) e a h =
      from_then _ _ (session_of key s.sessions) e h (λ session _ k. from_cond _ (is_next (party me) key direction number b session) _ e k (λ _ l. (b, refl, from_some (λ (x : Effect F). x.change.came ≡ Some b) l refl)))
  effect_accepts (event.Move f) body e a h = cc
  effect_accepts (event.Lapse f) body e a h = cc

  -- over no item no effect has one
  pub effect_bare : (ev : Event) (e : Effect F) → effect_of w me s now ev None ≡ Some e → e.change.came ≡ None
  effect_bare ev e h = bare (accepts ev) refl
    where
      bare : (b : Bool) → accepts ev ≡ b → e.change.came ≡ None
      bare true is = let a = effect_accepts ev None e is h in let no = a.1 in cc
      bare false is = effect_plain ev None e is h

-- ---- a step

-- what a defined step says
pub record Stepped {F : Type 0} (w : Environment F) (me : ℕ) (s : NodeState F) (cause : Cause) (item : Option Sent) (next : NodeState F) (e : Effect F) : Type 0 where
  pub ordered : in_order s cause (stamp_in item) ≡ true
  pub effect : effect_of w me s cause.moment.0 cause.event (body_in item) ≡ Some e
  pub state : next ≡ apply_effect s cause e

step_split : {F : Type 0} (w : Environment F) (me : ℕ) (s next : NodeState F) (cause : Cause) (item : Option Sent) (e : Effect F) (o : Option (Effect F)) → effect_of w me s cause.moment.0 cause.event (body_in item) ≡ o → in_order s cause (stamp_in item) ≡ true → option_map {U = NodeState F × Effect F} (λ x. (apply_effect s cause x, x)) o ≡ Some (next, e) → Stepped w me s cause item next e
step_split w me s next cause item e None is ordered k = cc
step_split {F} w me s next cause item e (Some x) is ordered k =
    let same : (apply_effect s cause x, x) ≡ (next, e) = some_eq k in
    let second : x ≡ e = ap (λ (q : NodeState F × Effect F). q.1) same in
    let first : apply_effect s cause x ≡ next = ap (λ (q : NodeState F × Effect F). q.0) same in
    record { ordered = ordered; effect = is ∙ ap Some second; state = sym first ∙ ap (apply_effect s cause) second }

pub step_taken : {F : Type 0} (w : Environment F) (me : ℕ) (s next : NodeState F) (cause : Cause) (item : Option Sent) (e : Effect F) → node_step w me s cause item ≡ Some (next, e) → Stepped w me s cause item next e
unfolding node_step
step_taken w me s next cause item e h = from_cond _ (in_order s cause (stamp_in item)) _ _ h (λ ordered k. step_split w me s next cause item e _ refl ordered k)

pub step_of : {F : Type 0} (w : Environment F) (me : ℕ) (s : NodeState F) (cause : Cause) (item : Option Sent) (e : Effect F) → in_order s cause (stamp_in item) ≡ true → effect_of w me s cause.moment.0 cause.event (body_in item) ≡ Some e → node_step w me s cause item ≡ Some (apply_effect s cause e, e)
unfolding node_step
step_of w me s cause item e ordered effect = rw (ordered, effect)

pub step_is_its_effect : {F : Type 0} → StepIsItsEffect F
step_is_its_effect w p s next cause item e h = (step_taken w p s next cause item e h).state
