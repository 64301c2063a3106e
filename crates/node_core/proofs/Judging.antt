-- What a node does with a start or a frame asks no contract.
use Rattle.std.proofs.Common.{◌≡◌, inl, inr, ℕ, List, Option, Some, None, MatchOption, Result, Ok, Err, Bool, true, false, cond, is_none, refl, ◌∙◌}
use Rattle.std.specs.Prelude.{⊤}
use Rattle.std.specs.Option.{option_map}
use Rattle.outside.specs.Disk.{DiskSeen}
use Rattle.net_base.specs.declared.names.Identity.{Identity}
use Rattle.net_base.specs.declared.names.Key.{Key}
use Rattle.net_base.specs.declared.values.Party.{Party}
use Rattle.net_base.specs.declared.causes.Event.{Event}
use Rattle.net_base.specs.declared.causes.Event.TheVariants as event
use Rattle.net_base.specs.declared.causes.Cause.{Cause}
use Rattle.session_wire.specs.declared.body.Body.{Body}
use Rattle.session_wire.specs.Sessions.{Session, Sent, session_of}
use Rattle.flow_machine.specs.Machine.{Machine}
use Rattle.session_frames.specs.declared.judged.Judged.{Judged}
use Rattle.session_frames.specs.declared.judged.Judged.TheVariants as judged
use Rattle.net_model.specs.Environment.{Environment, Judgement, environment, meaning}
use Rattle.net_model.specs.State.{NodeState}
use Rattle.net_model.specs.Steps.{effect_of, next_cause, node_step}
use Rattle.node_tables.specs.Journals.{Reads, state_of}
use Rattle.node_core.specs.declared.faults.StartFault.{StartFault}
use Rattle.node_core.specs.declared.faults.StartFault.TheVariants as start_fault
use Rattle.node_core.specs.declared.faults.TakeFault.{TakeFault}
use Rattle.node_core.specs.declared.faults.TakeFault.TheVariants as take_fault
use Rattle.node_core.specs.declared.faults.Taken.{Taken}
use Rattle.node_core.specs.declared.faults.Taken.TheVariants as taken
use Rattle.node_core.specs.Seen.{NodeSeen, Pends, Appended, Failing, Commits, Faults, StartsAs, StartAnswers}
use Rattle.node_core.specs.Takes.{accepting, AcceptsAs, Responds, TakesAs, TakeAnswers}

module _ {F : Type 0} (m : Machine F) (r : Reads F) (j k : Judgement) (id : Identity) where
  abbrev here : Environment F
  here = environment (meaning m r j) id

  abbrev there : Environment F
  there = environment (meaning m r k) id

  -- ---- an event has the same effect

  abbrev Same : ℕ → NodeState F → ℕ → Event → Option Body → Type 0
  Same me s now ev body = effect_of there me s now ev body ≡ effect_of here me s now ev body

  -- an event by which no flow goes on
  abbrev Begins : Event → Type 0
  Begins (event.Start f class args) = ⊤
  Begins (event.Answer key) = ⊤
  Begins (event.Arrive key direction number) = ⊤
  Begins (event.Move f) = ⊥
  Begins (event.Lapse f) = ⊥

  effect_same : (me : ℕ) (s : NodeState F) (now : ℕ) (ev : Event) (body : Option Body) → Begins ev → Same me s now ev body
  unfolding effect_of
  effect_same me s now (event.Start f class args) body begins = refl
  effect_same me s now (event.Answer key) None begins = refl
  effect_same me s now (event.Answer key) (Some b) begins = refl
  effect_same me s now (event.Arrive key direction number) body begins = refl
  effect_same me s now (event.Move f) body begins = absurd begins
  effect_same me s now (event.Lapse f) body begins = absurd begins

  step_same : (me : ℕ) (s : NodeState F) (cause : Cause) (item : Option Sent) → Begins cause.event → node_step there me s cause item ≡ node_step here me s cause item
  unfolding node_step
  step_same me s cause item begins = rw (effect_same me s cause.moment.0 cause.event (option_map (λ (sent : Sent). sent.body) item) begins) refl

  accepting_begins : (sessions : List Session) (key : Key) (direction number : ℕ) → Begins (accepting sessions key direction number)
  accepting_begins sessions key direction number = by (is_none (session_of key sessions))
    where
      by : (b : Bool) → Begins (cond b (event.Answer key) (event.Arrive key direction number))
      by true = tt
      by false = tt

  -- ---- what is committed

  pends_any : (me now : ℕ) (bodies : List (List ℕ)) (ev : Event) (item : Option Sent) (body : List ℕ) → Begins ev → Pends here me now bodies ev item body → Pends there me now bodies ev item body
  pends_any me now bodies ev item body begins p = record {
    effect = p.effect;
    reads = p.reads;
    step = step_same me (state_of r bodies) (next_cause (state_of r bodies) now ev item) item begins ∙ p.step;
  }

  appended_any : (now : ℕ) (bodies : List (List ℕ)) (ev : Event) (item : Option Sent) (body : List ℕ) (me : Identity) (old new : DiskSeen) → Begins ev → Appended here me now bodies ev item body old new → Appended there me now bodies ev item body old new
  appended_any now bodies ev item body me old new begins a = record {
    pends = pends_any me.party.0 now bodies ev item body begins a.pends;
    room = a.room;
    moves = a.moves;
    form = a.form;
    holds = a.holds;
    calm = a.calm;
    power = a.power;
  }

  failing_any : (now : ℕ) (bodies : List (List ℕ)) (ev : Event) (item : Option Sent) (body : List ℕ) (me : Identity) (old new : DiskSeen) → Begins ev → Failing here me now bodies ev item body old new → Failing there me now bodies ev item body old new
  failing_any now bodies ev item body me old new begins a = record {
    pends = pends_any me.party.0 now bodies ev item body begins a.pends;
    room = a.room;
    moves = a.moves;
    form = a.form;
    rose = a.rose;
    calm = a.calm;
    burns = a.burns;
  }

  commits_any : (now : ℕ) (bodies : List (List ℕ)) (ev : Event) (item : Option Sent) (old new : NodeSeen) → Begins ev → Commits here now bodies ev item old new → Commits there now bodies ev item old new
  commits_any now bodies ev item old new begins c = record { body = c.body; appended = appended_any now bodies ev item c.body old.identity old.disk new.disk begins c.appended; journal = c.journal; acked = c.acked; identity = c.identity }

  faults_any : (now : ℕ) (bodies : List (List ℕ)) (ev : Event) (item : Option Sent) (old new : NodeSeen) → Begins ev → Faults here now bodies ev item old new → Faults there now bodies ev item old new
  faults_any now bodies ev item old new begins c = record { body = c.body; failing = failing_any now bodies ev item c.body old.identity old.disk new.disk begins c.failing; journal = c.journal; acked = c.acked; identity = c.identity }

  -- ---- starts

  starts_any : (now class : ℕ) (args : List ℕ) (bodies : List (List ℕ)) (old : NodeSeen) (answer : Result ℕ StartFault) (new : NodeSeen) → StartsAs here now class args bodies old answer new → StartsAs there now class args bodies old answer new
  starts_any now class args bodies old (Ok f) new s = (s.0, commits_any now bodies _ None old new tt s.1)
  starts_any now class args bodies old (Err start_fault.NodeDown) new s = s
  starts_any now class args bodies old (Err start_fault.UnknownClass) new s = s
  starts_any now class args bodies old (Err start_fault.BadArgs) new s = s
  starts_any now class args bodies old (Err start_fault.Full) new s = s
  starts_any now class args bodies old (Err start_fault.Memory) new s = s
  starts_any now class args bodies old (Err start_fault.Fault) new s = faults_any now bodies _ None old new tt s

  start_by : (now class : ℕ) (args : List ℕ) (old : NodeSeen) (answer : Result ℕ StartFault) (new : NodeSeen) (journal : Option (List (List ℕ)))
      → MatchOption journal ((answer ≡ Err start_fault.NodeDown) × (new ≡ old)) (λ bodies. StartsAs here now class args bodies old answer new)
      → MatchOption journal ((answer ≡ Err start_fault.NodeDown) × (new ≡ old)) (λ bodies. StartsAs there now class args bodies old answer new)
  start_by now class args old answer new None s = s
  start_by now class args old answer new (Some bodies) s = starts_any now class args bodies old answer new s

  -- what a start answers is the same by any contracts
  pub start_any : (now class : ℕ) (args : List ℕ) (old : NodeSeen) (answer : Result ℕ StartFault) (new : NodeSeen) → StartAnswers here now class args old answer new → StartAnswers there now class args old answer new
  start_any now class args old answer new s = start_by now class args old answer new old.journal s

  -- ---- frames

  accepts_any : (now : ℕ) (bodies : List (List ℕ)) (from : Party) (key : Key) (direction number : ℕ) (item : Sent) (old : NodeSeen) (answer : Result Taken TakeFault) (new : NodeSeen)
      → AcceptsAs here now bodies from key direction number item old answer new → AcceptsAs there now bodies from key direction number item old answer new
  accepts_any now bodies from key direction number item old (Ok (taken.Took upto ack)) new t = (t.0, t.1, commits_any now bodies _ (Some item) old new (accepting_begins (state_of r bodies).sessions key direction number) t.2)
  accepts_any now bodies from key direction number item old (Ok taken.Acked) new t = t
  accepts_any now bodies from key direction number item old (Ok (taken.Again expected ack)) new t = t
  accepts_any now bodies from key direction number item old (Ok (taken.Early expected)) new t = t
  accepts_any now bodies from key direction number item old (Ok taken.NoSession) new t = t
  accepts_any now bodies from key direction number item old (Err take_fault.NodeDown) new t = t
  accepts_any now bodies from key direction number item old (Err take_fault.Garbled) new t = t
  accepts_any now bodies from key direction number item old (Err (take_fault.NotMine to)) new t = t
  accepts_any now bodies from key direction number item old (Err take_fault.Full) new t = t
  accepts_any now bodies from key direction number item old (Err take_fault.Memory) new t = t
  accepts_any now bodies from key direction number item old (Err take_fault.Fault) new t = faults_any now bodies _ (Some item) old new (accepting_begins (state_of r bodies).sessions key direction number) t

  responds_any : (now : ℕ) (bodies : List (List ℕ)) (said : Judged) (old : NodeSeen) (answer : Result Taken TakeFault) (new : NodeSeen) → Responds here now bodies said old answer new → Responds there now bodies said old answer new
  responds_any now bodies judged.Garbled old answer new t = t
  responds_any now bodies (judged.NotMine to) old answer new t = t
  responds_any now bodies judged.NoSession old answer new t = t
  responds_any now bodies (judged.Early expected) old answer new t = t
  responds_any now bodies (judged.Acked key direction upto) old answer new t = t
  responds_any now bodies (judged.Again from key direction expected) old answer new t = t
  responds_any now bodies (judged.Next from key direction number stamp body) old answer new t = accepts_any now bodies from key direction number (record { body = body; stamp = stamp }) old answer new t

  takes_any : (now : ℕ) (bytes : List ℕ) (bodies : List (List ℕ)) (old : NodeSeen) (answer : Result Taken TakeFault) (new : NodeSeen) → TakesAs here now bytes bodies old answer new → TakesAs there now bytes bodies old answer new
  takes_any now bytes bodies old answer new (inl short) = inl short
  takes_any now bytes bodies old answer new (inr t) = inr (t.0, t.1, t.2, responds_any now bodies t.0 old answer new t.3)

  take_by : (now : ℕ) (bytes : List ℕ) (old : NodeSeen) (answer : Result Taken TakeFault) (new : NodeSeen) (journal : Option (List (List ℕ)))
      → MatchOption journal ((answer ≡ Err take_fault.NodeDown) × (new ≡ old)) (λ bodies. TakesAs here now bytes bodies old answer new)
      → MatchOption journal ((answer ≡ Err take_fault.NodeDown) × (new ≡ old)) (λ bodies. TakesAs there now bytes bodies old answer new)
  take_by now bytes old answer new None t = t
  take_by now bytes old answer new (Some bodies) t = takes_any now bytes bodies old answer new t

  -- what a node answers to a frame is the same by any contracts
  pub take_any : (now : ℕ) (bytes : List ℕ) (old : NodeSeen) (answer : Result Taken TakeFault) (new : NodeSeen) → TakeAnswers here now bytes old answer new → TakeAnswers there now bytes old answer new
  take_any now bytes old answer new t = take_by now bytes old answer new old.journal t
