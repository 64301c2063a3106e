-- What a defined act or event does, case by case.
use Rattle.std.proofs.lemmas.Bool.{eqb-true}
use Rattle.std.proofs.Common.{◌⊎◌, inl, inr, ◌≡◌, ℕ, List, [], ◌∷◌, Option, Some, None, Result, Ok, Err, Bool, true, false, cond, ◌==◌, nat_lt, option_map, length, refl, sym}
use Rattle.net_base.specs.declared.names.Key.{Key}
use Rattle.net_base.specs.declared.values.Hash32.{Hash32}
use Rattle.net_base.specs.declared.values.Party.{Party}
use Rattle.net_base.specs.declared.names.Token.{Token}
use Rattle.net_base.specs.declared.causes.Event.{Event}
use Rattle.net_base.specs.declared.causes.Event.TheVariants as event
use Rattle.net_base.proofs.Options.{some_eq}
use Rattle.ledger_types.specs.declared.tx.Tx.{Tx}
use Rattle.ledger_types.specs.declared.tx.Resolved.{Resolved}
use Rattle.ledger_types.specs.declared.held.Held.{Held}
use Rattle.ledger_types.specs.declared.notary.Request.{Request}
use Rattle.ledger_types.specs.declared.tx.SignedTx.{SignedTx}
use Rattle.ledger_types.specs.declared.value.Value.{Value}
use Rattle.ledger_types.specs.declared.verdict.Verdict.{Verdict}
use Rattle.ledger_types.specs.declared.verdict.Verdict.TheVariants as verdict
use Rattle.session_wire.specs.declared.body.Body.{Body}
use Rattle.session_wire.specs.declared.body.Body.TheVariants as body_of
use Rattle.flow_machine.specs.declared.acts.Act.{Act}
use Rattle.flow_machine.specs.declared.acts.Act.TheVariants as act
use Rattle.flow_machine.specs.declared.acts.Resumed.{Resumed}
use Rattle.flow_machine.specs.declared.acts.Resumed.TheVariants as resumed
use Rattle.flow_machine.specs.declared.flow_set.MakeFault.{MakeFault}
use Rattle.flow_machine.specs.declared.flows.Checkpoint.{Checkpoint}
use Rattle.session_wire.specs.Sessions.{Session, next_item, session_of}
use Rattle.net_model.specs.Environment.{Environment, party}
use Rattle.ledger_types.specs.Notary.{tag_by}
use Rattle.ledger_types.specs.Stores.{is_stored, stored_of, resolved_of}
use Rattle.ledger_types.specs.Rules.{is_other_notary}
use Rattle.ledger_types.specs.Vaults.{reserved, reservable}
use Rattle.ledger_types.specs.Signatures.{tx_id, is_signed}
use Rattle.net_model.specs.State.{NodeState, no_flow, Effect, nothing, with_ids}
use Rattle.net_model.specs.Steps.{Done, opening, sends, receives, takes, verifies, reserves, finds, notarises, records_in, records_by, vault_at, goes_on, onwards, place, returns, fails, performed, lapsed, lapses, started, answering, answered_with, arrived, effect_of, live, live_at}
use Rattle.session_wire.specs.Rules.{is_no_peer, has_many, is_next, is_new_key, owned, owned_by, is_owner}
use Rattle.net_model.proofs.Basics.{from_some, from_map, from_then, from_cond}

-- results that hold no tag
pub data IsTold : Resumed → Type 0 where
  judged : {r : Resumed} (v : Verdict) → r ≡ resumed.Verdict v → IsTold r
  short : {r : Resumed} (have : ℕ) → r ≡ resumed.Short have → IsTold r
  absent : {r : Resumed} → r ≡ resumed.Absent → IsTold r
  ids : {r : Resumed} (list : List Hash32) → r ≡ resumed.Ids list → IsTold r
  recorded : {r : Resumed} → r ≡ resumed.Recorded → IsTold r
  refused : {r : Resumed} (code : ℕ) → r ≡ resumed.Refused code → IsTold r
  timed : {r : Resumed} → r ≡ resumed.Lapsed → IsTold r

-- a session that a flow owns stands
pub owned_there : (f : ℕ) (o : Option Session) (session : Session) → owned_by f o ≡ Some session → o ≡ Some session
owned_there f None session h = cc
owned_there f (Some x) session h = from_cond _ (is_owner f x.owner) (Some x) session h (λ _ k. k)

-- the act ends its frame
abbrev pub ends_top : {F : Type 0} → Act F → Bool
ends_top (act.Return value) = true
ends_top (act.Fail code) = true
ends_top _ = false

module _ {F : Type 0} (w : Environment F) (me : ℕ) (s : NodeState F) (now : ℕ) where
  -- what performing an act that goes on gives
  pub data Performs (f : ℕ) (a : Act F) : Done → Type 0 where
    tells : {d : Done} → IsTold d.0 → d.1 ≡ nothing → Performs f a d
    opens_to : {d : Done} (to : Party) (class : ℕ) (first : Value) → a ≡ act.Open to class first → is_no_peer w.nodes (party me) to ≡ false → has_many f s.sessions ≡ false → d ≡ opening me s.sessions to class first → Performs f a d
    sends_on : {d : Done} (key : Key) (value : Value) (session : Session) → a ≡ act.Send key value → owned f key s.sessions ≡ Some session → d ≡ sends me value (Some session) → Performs f a d
    takes_from : {d : Done} (key : Key) (session : Session) (next : Option ℕ × Body) → owned f key s.sessions ≡ Some session → next_item session session.ending ≡ Some next → d ≡ takes session next → Performs f a d
    has_found : {d : Done} (id : Hash32) (stx : SignedTx) → stored_of (with_ids s.stored) id ≡ Some stx → d ≡ (resumed.Found stx, nothing) → Performs f a d
    has_tagged : {d : Done} (id : Hash32) → (w.notary.0 == me) ≡ false → d ≡ (resumed.Tagged (tag_by w.mark (party me) id), nothing) → Performs f a d
    has_locked : {d : Done} (token : Token) (amount : ℕ) (list : List Held) → reserved token amount (vault_at me s) ≡ Some list → d ≡ reserves (reservable token (vault_at me s)) (Some list) → Performs f a d
    has_answered : {d : Done} (q : Request) → a ≡ act.Notarise q → d ≡ notarises w me s now q → Performs f a d
    has_recorded : {d : Done} (stx : SignedTx) (states : Resolved) → a ≡ act.Record stx → is_stored (with_ids s.stored) (tx_id stx.tx) ≡ false → is_other_notary stx.tx.notary w.notary ≡ false → resolved_of (with_ids s.stored) stx.tx ≡ Some states → w.judge stx.tx states ≡ verdict.Accepted → is_signed w.mark stx ≡ true → d ≡ (resumed.Recorded, record nothing { recorded = Some stx }) → Performs f a d

  module _ (f : ℕ) (a : Act F) where
    refuses : (code : ℕ) → Performs f a (resumed.Refused code, nothing)
    refuses code = tells (refused code refl) refl

    opens_by : (to : Party) (class : ℕ) (first : Value) (b c : Bool) → a ≡ act.Open to class first → is_no_peer w.nodes (party me) to ≡ b → has_many f s.sessions ≡ c → Performs f a (cond b (resumed.Refused 48, nothing) (cond c (resumed.Refused 57, nothing) (opening me s.sessions to class first)))
    opens_by to class first true c e g h = refuses 48
    opens_by to class first false true e g h = refuses 57
    opens_by to class first false false e g h = opens_to to class first e g h refl

    sends_by : (key : Key) (value : Value) (o : Option Session) → a ≡ act.Send key value → owned f key s.sessions ≡ o → Performs f a (sends me value o)
    sends_by key value None e g = refuses 58
    sends_by key value (Some session) e g = sends_on key value session e g refl

    receives_by : (key : Key) (o : Option Session) (d : Done) → owned f key s.sessions ≡ o → receives o ≡ Some d → Performs f a d
    receives_by key None d g h = from_some (Performs f a) h (refuses 58)
    receives_by key (Some session) d g h = from_map (Performs f a) (takes session) (next_item session session.ending) d h (λ next is. takes_from key session next g is refl)

    verifies_by : (tx : Tx) (o : Option Resolved) → Performs f a (verifies w tx o)
    verifies_by tx None = refuses 35
    verifies_by tx (Some states) = tells (judged _ refl) refl

    reserves_by : (token : Token) (amount : ℕ) (o : Option (List Held)) → reserved token amount (vault_at me s) ≡ o → Performs f a (reserves (reservable token (vault_at me s)) o)
    reserves_by token amount None g = tells (short _ refl) refl
    reserves_by token amount (Some list) g = has_locked token amount list g refl

    finds_by : (id : Hash32) (o : Option SignedTx) → stored_of (with_ids s.stored) id ≡ o → Performs f a (finds o)
    finds_by id None g = tells (absent refl) refl
    finds_by id (Some stx) g = has_found id stx g refl

    signs_by : (id : Hash32) (b : Bool) → (w.notary.0 == me) ≡ b → Performs f a (cond b (resumed.Refused 46, nothing) (resumed.Tagged (tag_by w.mark (party me) id), nothing))
    signs_by id true g = refuses 46
    signs_by id false g = has_tagged id g refl

    records_judged : (stx : SignedTx) (states : Resolved) (v : Verdict) (b : Bool) → a ≡ act.Record stx → is_stored (with_ids s.stored) (tx_id stx.tx) ≡ false → is_other_notary stx.tx.notary w.notary ≡ false → resolved_of (with_ids s.stored) stx.tx ≡ Some states → w.judge stx.tx states ≡ v → is_signed w.mark stx ≡ b → Performs f a (records_by w stx v)
    records_judged stx states (verdict.Broken rule) b e g h i j k = refuses 31
    records_judged stx states (verdict.Refused contract clause) b e g h i j k = refuses 32
    records_judged stx states (verdict.NoContract id) b e g h i j k = refuses 33
    records_judged stx states verdict.Accepted true e g h i j k = rw k (has_recorded stx states e g h i j k refl)
    records_judged stx states verdict.Accepted false e g h i j k = rw k (refuses 34)

    records_resolved : (stx : SignedTx) (o : Option Resolved) → a ≡ act.Record stx → is_stored (with_ids s.stored) (tx_id stx.tx) ≡ false → is_other_notary stx.tx.notary w.notary ≡ false → resolved_of (with_ids s.stored) stx.tx ≡ o → Performs f a (records_in w stx o)
    records_resolved stx None e g h i = refuses 35
    records_resolved stx (Some states) e g h i = records_judged stx states _ _ e g h i refl refl

    records_tested : (stx : SignedTx) (b c : Bool) → a ≡ act.Record stx → is_stored (with_ids s.stored) (tx_id stx.tx) ≡ b → is_other_notary stx.tx.notary w.notary ≡ c → Performs f a (cond b (resumed.Recorded, nothing) (cond c (resumed.Refused 41, nothing) (records_in w stx (resolved_of (with_ids s.stored) stx.tx))))
    records_tested stx true c e g h = tells (recorded refl) refl
    records_tested stx false true e g h = refuses 41
    records_tested stx false false e g h = records_resolved stx _ e g h refl

  -- what an act gives that is performed or lapses
  pub data Gives (at : Checkpoint F) (a : Act F) : Effect F → Type 0 where
    goes : {e : Effect F} (d : Done) → ends_top a ≡ false → Performs at.flow a d → e ≡ goes_on w me now at d → Gives at a e
    pushed : {e : Effect F} (frame : F) → a ≡ act.Sub frame → nat_lt (length at.stack.below) 7 ≡ true → e ≡ record { flow = onwards w me now at frame (at.stack.top ∷ at.stack.below) resumed.Started; change = nothing } → Gives at a e
    popped : {e : Effect F} (value : Value) (frame : F) (below : List F) → a ≡ act.Return value → at.stack.below ≡ frame ∷ below → e ≡ returns w me s now at value (frame ∷ below) → Gives at a e
    finished : {e : Effect F} (value : Value) → a ≡ act.Return value → at.stack.below ≡ [] → e ≡ returns w me s now at value [] → Gives at a e
    failed : {e : Effect F} (code : ℕ) → a ≡ act.Fail code → e ≡ fails me s at code → Gives at a e

  module _ (at : Checkpoint F) where
    gone : (a : Act F) (d : Done) (e : Effect F) → ends_top a ≡ false → Performs at.flow a d → Some (goes_on w me now at d) ≡ Some e → Gives at a e
    gone a d e o p h = goes d o p (sym (some_eq h))

    pushes_by : (frame : F) (b : Bool) → nat_lt (length at.stack.below) 7 ≡ b → Gives at (act.Sub frame) (cond b (record { flow = onwards w me now at frame (at.stack.top ∷ at.stack.below) resumed.Started; change = nothing }) (goes_on w me now at (resumed.Refused 49, nothing)))
    pushes_by frame true g = pushed frame refl g refl
    pushes_by frame false g = goes (resumed.Refused 49, nothing) refl (refuses at.flow _ 49) refl

    returns_by : (value : Value) (below : List F) → at.stack.below ≡ below → Gives at (act.Return value) (returns w me s now at value below)
    returns_by value [] g = finished value refl g refl
    returns_by value (frame ∷ below) g = popped value frame below refl g refl

    receives_gives : (key : Key) (a : Act F) (e : Effect F) → ends_top a ≡ false → option_map (goes_on w me now at) (receives (owned at.flow key s.sessions)) ≡ Some e → Gives at a e
    receives_gives key a e o h = from_map (Gives at a) (goes_on w me now at) (receives (owned at.flow key s.sessions)) e h (λ d is. goes d o (receives_by at.flow a key (owned at.flow key s.sessions) d refl is) refl)

    pub performed_gives : (a : Act F) (e : Effect F) → performed w me s now at a ≡ Some e → Gives at a e
    performed_gives (act.Open to class first) e h = gone _ _ e refl (opens_by at.flow _ to class first _ _ refl refl refl) h
    performed_gives (act.Send key value) e h = gone _ _ e refl (sends_by at.flow _ key value _ refl refl) h
    performed_gives (act.Receive key) e h = receives_gives key _ e refl h
    performed_gives (act.ReceiveBy key until) e h = receives_gives key _ e refl h
    performed_gives (act.Sleep until) e h = cc
    performed_gives (act.Sub frame) e h = from_some (Gives at (act.Sub frame)) h (pushes_by frame _ refl)
    performed_gives (act.Verify tx) e h = gone _ _ e refl (verifies_by at.flow _ tx _) h
    performed_gives (act.Reserve token amount) e h = gone _ _ e refl (reserves_by at.flow _ token amount _ refl) h
    performed_gives (act.Lookup id) e h = gone _ _ e refl (finds_by at.flow _ id _ refl) h
    performed_gives (act.Missing tx) e h = gone _ _ e refl (tells (ids _ refl) refl) h
    performed_gives (act.Sign id) e h = gone _ _ e refl (signs_by at.flow _ id _ refl) h
    performed_gives (act.Notarise request) e h = gone _ _ e refl (has_answered request refl refl) h
    performed_gives (act.Record stx) e h = gone _ _ e refl (records_tested at.flow _ stx _ _ refl refl refl) h
    performed_gives (act.Return value) e h = from_some (Gives at (act.Return value)) h (returns_by value at.stack.below refl)
    performed_gives (act.Fail code) e h = failed code refl (sym (some_eq h))

    timely : (a : Act F) (e : Effect F) → ends_top a ≡ false → Some (goes_on w me now at (resumed.Lapsed, nothing)) ≡ Some e → Gives at a e
    timely a e o h = gone a (resumed.Lapsed, nothing) e o (tells (timed refl) refl) h

    lapsed_if : (a : Act F) (b : Bool) (e : Effect F) → ends_top a ≡ false → lapsed w me now at b ≡ Some e → Gives at a e
    lapsed_if a true e o h = timely a e o h
    lapsed_if a false e o h = cc

    pub lapsed_gives : (a : Act F) (e : Effect F) → lapsed w me now at (lapses s now at.flow a) ≡ Some e → Gives at a e
    lapsed_gives (act.Return value) e h = cc
    lapsed_gives (act.Fail code) e h = cc
    lapsed_gives (act.Sleep until) e h = lapsed_if _ _ e refl h
    lapsed_gives (act.ReceiveBy key until) e h = lapsed_if _ _ e refl h
    lapsed_gives (act.Open to class first) e h = cc
    lapsed_gives (act.Send key value) e h = cc
    lapsed_gives (act.Receive key) e h = cc
    lapsed_gives (act.Sub frame) e h = cc
    lapsed_gives (act.Verify tx) e h = cc
    lapsed_gives (act.Reserve token amount) e h = cc
    lapsed_gives (act.Lookup id) e h = cc
    lapsed_gives (act.Missing tx) e h = cc
    lapsed_gives (act.Sign id) e h = cc
    lapsed_gives (act.Notarise request) e h = cc
    lapsed_gives (act.Record stx) e h = cc

  -- what a defined event does
  pub data Does (ev : Event) (body : Option Body) : Effect F → Type 0 where
    starts : {e : Effect F} (f class : ℕ) (args : List ℕ) (made : F × Act F) → ev ≡ event.Start f class args → f ≡ length s.flows → w.machine.made class args (place w me f 0 now) ≡ Ok made → e ≡ record { flow = live f 0 class [] made; change = nothing } → Does ev body e
    answers_to : {e : Effect F} (key : Key) (class : ℕ) (first : Value) → ev ≡ event.Answer key → body ≡ Some (body_of.Init class first) → is_new_key w.nodes (party me) s.sessions key ≡ true → e ≡ answering key (length s.flows) class (body_of.Init class first) (w.machine.begun class key (place w me (length s.flows) 0 now)) → Does ev body e
    arrives : {e : Effect F} (key : Key) (direction number : ℕ) (b : Body) (session : Session) → ev ≡ event.Arrive key direction number → body ≡ Some b → session_of key s.sessions ≡ Some session → is_next (party me) key direction number b session ≡ true → e ≡ record { flow = no_flow; change = record nothing { came = Some b } } → Does ev body e
    acts : {e : Effect F} (f : ℕ) (at : Checkpoint F) → (ev ≡ event.Move f) ⊎ (ev ≡ event.Lapse f) → live_at s f ≡ Some at → Gives at at.waiting e → Does ev body e

  starts_by : (f class : ℕ) (args : List ℕ) (body : Option Body) (e : Effect F) (made : Result (F × Act F) MakeFault) → f ≡ length s.flows → w.machine.made class args (place w me f 0 now) ≡ made → started f class made ≡ Some e → Does (event.Start f class args) body e
  starts_by f class args body e (Ok made) g is h = starts f class args made refl g is (sym (some_eq h))
  starts_by f class args body e (Err fault) g is h = cc

  answers_by : (key : Key) (b : Body) (e : Effect F) → is_new_key w.nodes (party me) s.sessions key ≡ true → answered_with w me s now key b ≡ Some e → Does (event.Answer key) (Some b) e
  answers_by key (body_of.Init class first) e g h = answers_to key class first refl refl g (sym (some_eq h))
  answers_by key body_of.Confirm e g h = cc
  answers_by key (body_of.Reject code) e g h = cc
  answers_by key (body_of.Data value) e g h = cc
  answers_by key (body_of.Error code) e g h = cc
  answers_by key body_of.End e g h = cc

  pub effect_does : (ev : Event) (body : Option Body) (e : Effect F) → effect_of w me s now ev body ≡ Some e → Does ev body e
  unfolding effect_of
  effect_does (event.Start f class args) body e h = from_cond _ (f == length s.flows) (started f class (w.machine.made class args (place w me f 0 now))) e h (λ t k. starts_by f class args body e _ (eqb-true f (length s.flows) t) refl k)
  effect_does (event.Answer key) None e h = cc
  effect_does (event.Answer key) (Some b) e h = from_cond _ (is_new_key w.nodes (party me) s.sessions key) (answered_with w me s now key b) e h (λ t k. answers_by key b e t k)
  effect_does (event.Arrive key direction number) None e h = from_then _ (λ session. None) (session_of key s.sessions) e h (λ session _ k. cc)
  effect_does (event.Arrive key direction number) (Some b) e h =
      from_then _ (λ session. arrived me key direction number b session) (session_of key s.sessions) e h (λ session is k.
      from_cond _ (is_next (party me) key direction number b session) (Some (record { flow = no_flow; change = record nothing { came = Some b } })) e k (λ t l. arrives key direction number b session refl refl is t (sym (some_eq l))))
  effect_does (event.Move f) body e h = from_then _ (λ at. performed w me s now at at.waiting) (live_at s f) e h (λ at is k. acts f at (inl refl) is (performed_gives at at.waiting e k))
  effect_does (event.Lapse f) body e h = from_then _ (λ at. lapsed w me now at (lapses s now at.flow at.waiting)) (live_at s f) e h (λ at is k. acts f at (inr refl) is (lapsed_gives at at.waiting e k))
