-- What an acknowledgement or an item that waits makes of a node that is up.
use Rattle.std.proofs.Common.{◌≡◌, ℕ, ◌+◌, ◌≤◌, inl, inr, ⊎_elim, List, [], ◌∷◌, ◌++◌, Option, Some, true, option_and_then, option_to_list, slice_get, slice_set, refl, sym, ap, subst, ◌∙◌, arith}
use Rattle.std.specs.List.{AllByRecursion}
use Rattle.std.proofs.lemmas.Bool.{eqb-true}
use Rattle.net_base.specs.declared.names.Key.{Key}
use Rattle.net_base.specs.declared.values.Party.{Party}
use Rattle.net_base.specs.declared.causes.Event.{Event}
use Rattle.session_wire.specs.declared.body.Body.{Body}
use Rattle.session_wire.specs.Frames.{IsFrame}
use Rattle.session_wire.specs.Sessions.{Sent, Session, key_eq, session_of}
use Rattle.session_wire.specs.declared.frame.Frame.{Frame}
use Rattle.session_wire.specs.declared.frame.Frame.TheVariants.{Message, Ack}
use Rattle.session_wire.proofs.Keys.{key_exact}
use Rattle.session_table.specs.Tables.{raised}
use Rattle.session_frames.specs.declared.judged.Judged.TheVariants as judged
use Rattle.session_frames.specs.Items.{GoesFurther}
use Rattle.session_frames.specs.Judging.{IsJudged, arrived, is_with}
use Rattle.session_frames.specs.Sending.{addressee}
use Rattle.net_model.specs.Environment.{Environment, identity, party}
use Rattle.net_model.specs.State.{NodeState, came_on, flow_of, sessions_on}
use Rattle.net_model.specs.Steps.{next_cause}
use Rattle.net_model.specs.Runs.{accepts, item_for, item_from}
use Rattle.net_model.proofs.Basics.{apply_sessions}
use Rattle.node_tables.specs.Journals.{state_of}
use Rattle.node_tables.proofs.Acked.{raised_length}
use Rattle.node_core.specs.Seen.{Pends}
use Rattle.node_core.specs.Takes.{accepting, ack_to}
use Rattle.network_core.specs.Worlds.{NodeWorld, World, Choice, states_of, came_at, IsTrue, WaitsAt, Coherent}
use Rattle.network_core.proofs.AgreeingNets.{came_there, keeps_rest}
use Rattle.network_core.proofs.AgreeingPlace.{state_after, came_of}
use Rattle.network_core.proofs.AgreeingOnce.{goes_coherent}
use Rattle.network_core.proofs.AgreeingSteps.{IsSenders}
use Rattle.network_core.proofs.AgreeingSends.{Told, state_here, keyed}
use Rattle.network_core.proofs.AgreeingSaid.{raised_get, IsPlace, answers, arrives, accepts_it, comes}
use Rattle.network_core.proofs.AgreeingFrames.{waiting_frame, told_of, frame_in}

module _ {F : Type 0} (e : Environment F) (w : World) (p : ℕ) (x : NodeWorld) (coherent : Coherent e w) (there : slice_get w.nodes p ≡ Some x) (up : x.up ≡ true) where
  abbrev state : NodeState F
  state = state_of e.frame_at x.journal

  abbrev with_node : NodeWorld → World
  with_node y = record { nodes = slice_set w.nodes p y; now = w.now }

  -- an acknowledgement of what arrived may be sent
  pub ack_told : (from : Party) (key : Key) (direction upto : ℕ) → IsFrame (Ack (party p) from key direction upto) → upto ≤ arrived (session_of key state.sessions) → Told e w (ack_to (party p) from key direction upto)
  ack_told from key direction upto lawful few lists choice =
      let came = came_there (states_of e lists) p key state (state_here e w p x coherent there up lists choice) in
      record { carried = Ack (party p) from key direction upto; lawful = lawful; whole = refl; to = refl; true_is = rw came few }

  module _ (i : ℕ) (bytes : List ℕ) (waits : slice_get x.waiting i ≡ Some bytes) where
    -- ---- acknowledgements

    pub acked_coherent : (key : Key) (direction upto : ℕ) → IsJudged (identity e p) state.sessions bytes (judged.Acked key direction upto) → Coherent e (with_node (record x { acked = raised (party p) key direction upto state.sessions x.acked }))
    acked_coherent key direction upto judges = goes_coherent e w p x (record x { acked = raised (party p) key direction upto state.sessions x.acked }) coherent there (record {
      one = (coherent.each p x there).one;
      lists = λ l may. (l, may, inl refl);
      waits = λ old choice h. h;
      numbers = λ here. raised_length (party p) key direction upto state.sessions x.acked (coherent.numbers p x there up);
      acks = λ here net frames known k session n at is.
          let found = raised_get (party p) key direction upto state.sessions x.acked k n session at is in
          let before = known up k session found.0 at found.1 in
          ⊎_elim (λ same. omega (arith, before, same)) (λ more. let all = below net frames k session at more.0 in omega (arith, before, more.1, all)) found.2;
    })
      where
        below : (net : List (NodeState F)) → AllByRecursion (WaitsAt net p) x.waiting → (k : ℕ) (session : Session) → slice_get state.sessions k ≡ Some session → key_eq key session.key ≡ true → upto ≤ came_at net session.peer.0 session.key
        below net frames k session at test =
            let h = waiting_frame e w p x coherent there i bytes waits net frames in
            let told = told_of e w p x coherent there i bytes waits (judged.Acked key direction upto) net judges h in
            let same : key ≡ session.key = key_exact key session.key test in
            let true_is : IsTrue net (Ack told.0 told.1 key direction upto) = subst (IsTrue net) told.2 h.true_is in
            let found : session_of key state.sessions ≡ Some session = ap (λ (q : Key). session_of q state.sessions) same ∙ keyed e w p x coherent there up k session at in
            let with_sender : is_with told.0 (Some session) ≡ true = subst (λ (o : Option Session). is_with told.0 o ≡ true) found told.3 in
            let peer : session.peer.0 ≡ told.0.0 = eqb-true session.peer.0 told.0.0 with_sender in
            rw (peer, sym same) true_is

    -- ---- items

    module _ (from : Party) (key : Key) (direction number stamp : ℕ) (body : Body) (judges : IsJudged (identity e p) state.sessions bytes (judged.Next from key direction number stamp body)) (further : GoesFurther (identity e p) state.sessions (judged.Next from key direction number stamp body)) where
      abbrev item : Sent
      item = record { body = body; stamp = stamp }

      abbrev ev : Event
      ev = accepting state.sessions key direction number

      -- the sender has it
      sender_has : (lists : List (List (List ℕ))) → Choice w lists → item_from (states_of e lists) p from.0 key number ≡ Some item
      sender_has lists choice =
          let h = frame_in e w p x coherent there i bytes waits lists choice in
          let told = told_of e w p x coherent there i bytes waits (judged.Next from key direction number stamp body) (states_of e lists) judges h in
          let to : told.0.0 ≡ p = ap (λ (f : Frame). (addressee f).0) (sym told.1) ∙ h.to in
          let true_is : IsTrue (states_of e lists) (Message from told.0 key direction number stamp body) = subst (IsTrue (states_of e lists)) told.1 h.true_is in
          subst (λ (me : ℕ). item_from (states_of e lists) me from.0 key number ≡ Some item) to true_is

      item_is : (lists : List (List (List ℕ))) → Choice w lists → IsPlace (identity e p) state.sessions from key direction number body → item_for (states_of e lists) p state ev ≡ Some item
      item_is lists choice (inl b) =
          let has = sender_has lists choice in
          let initiator = b.initiator in
          let first = b.first in
          let here : item_from (states_of e lists) p key.initiator.0 key 0 ≡ Some item = subst (λ (n : ℕ). item_from (states_of e lists) p key.initiator.0 key n ≡ Some item) first (subst (λ (q : Party). item_from (states_of e lists) p q.0 key number ≡ Some item) (sym initiator) has) in
          subst (λ (a : Event). item_for (states_of e lists) p state a ≡ Some item) (sym (answers (identity e p) state.sessions from key direction number body b)) here
      item_is lists choice (inr g) =
          let has = sender_has lists choice in
          let at : item_from (states_of e lists) p g.session.peer.0 key number ≡ Some item = subst (λ (q : Party). item_from (states_of e lists) p q.0 key number ≡ Some item) (sym g.peer) has in
          let here : option_and_then (λ (session : Session). item_from (states_of e lists) p session.peer.0 key number) (session_of key state.sessions) ≡ Some item = subst (λ (o : Option Session). option_and_then (λ (session : Session). item_from (states_of e lists) p session.peer.0 key number) o ≡ Some item) (sym g.stands) at in
          subst (λ (a : Event). item_for (states_of e lists) p state a ≡ Some item) (sym (arrives (identity e p) state.sessions from key direction number body g)) here

      pub senders : (y : NodeWorld) → IsSenders e w p x y ev (Some item)
      senders y lists choice at accepting_is = (item, refl, item_is lists choice further.place)

      pub fits : (k : Sent) → Some item ≡ Some k → accepts ev ≡ true
      fits k is = accepts_it (identity e p) state.sessions from key direction number body further.place

      -- once it is committed it has arrived
      pub now_arrived : (more : List ℕ) → Pends e p w.now x.journal ev (Some item) more → number + 1 ≤ arrived (session_of key (state_of e.frame_at (x.journal ++ more ∷ [])).sessions)
      now_arrived more pends =
          let cause = next_cause state w.now ev (Some item) in
          let came : pends.effect.change.came ≡ Some body = came_of e p w.now x.journal ev (Some item) more pends item refl (fits item refl) in
          let owner = flow_of pends.effect.flow in
          let first : number + 1 ≤ arrived (session_of key (came_on ev (option_to_list pends.effect.change.came) owner state.sessions)) = subst (λ (o : Option Body). number + 1 ≤ arrived (session_of key (came_on ev (option_to_list o) owner state.sessions))) (sym came) (comes (identity e p) state.sessions from key direction number body owner further.place) in
          let rest = (keeps_rest cause pends.effect (came_on ev (option_to_list pends.effect.change.came) owner state.sessions)).came key in
          let after : (state_of e.frame_at (x.journal ++ more ∷ [])).sessions ≡ sessions_on cause pends.effect state.sessions = ap (λ (s : NodeState F). s.sessions) (state_after e p w.now x.journal ev (Some item) more pends) ∙ apply_sessions state cause pends.effect in
          let all : number + 1 ≤ arrived (session_of key (sessions_on cause pends.effect state.sessions)) = omega (arith, first, rest) in
          subst (λ (ss : List Session). number + 1 ≤ arrived (session_of key ss)) (sym after) all
