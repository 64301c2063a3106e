-- What the network of a coherent world may still do is lowered by each record that a drain commits.
use Rattle.std.proofs.Common.{◌≡◌, ℕ, zero, suc, ◌+◌, ◌≤◌, inl, inr, ⊎_elim, List, [], ◌∷◌, ◌++◌, Option, Some, None, Bool, true, false, cond, nat_le, length, map, option_map, option_and_then, slice_get, slice_set, refl, sym, ap, subst, ◌∙◌, arith}
use Rattle.std.specs.Prelude.{⊤}
use Rattle.std.specs.Option.{option_or}
use Rattle.net_model.proofs.Basics.{no_item}
use Rattle.net_base.specs.declared.names.Key.{Key}
use Rattle.net_base.specs.declared.values.Party.{Party}
use Rattle.net_base.specs.declared.causes.Cause.{Cause}
use Rattle.net_base.specs.declared.causes.Event.{Event}
use Rattle.net_base.specs.declared.causes.Event.TheVariants as event
use Rattle.net_base.proofs.Lists.{map_set, set_length, set_own}
use Rattle.net_base.proofs.Options.{some_eq}
use Rattle.session_wire.specs.declared.body.Body.{Body}
use Rattle.session_wire.specs.Sessions.{Sent, Session}
use Rattle.session_wire.specs.Rules.{owned, waits_for}
use Rattle.session_frames.specs.declared.judged.Judged.{Judged}
use Rattle.session_frames.specs.declared.judged.Judged.TheVariants as judged
use Rattle.session_frames.specs.declared.sending.Outgoing.{Outgoing}
use Rattle.session_frames.specs.Items.{GoesFurther}
use Rattle.session_frames.specs.Judging.{IsJudged}
use Rattle.flow_machine.specs.Machine.{Machine}
use Rattle.flow_machine.specs.Flows.{Falls, LoadHolds, OversHold}
use Rattle.flow_machine.specs.declared.acts.Act.{Act}
use Rattle.flow_machine.specs.declared.acts.Act.TheVariants as act
use Rattle.flow_machine.specs.declared.flows.FlowState.{FlowState}
use Rattle.flow_machine.specs.declared.flows.FlowState.TheVariants as state
use Rattle.net_model.specs.Environment.{Environment, identity}
use Rattle.net_model.specs.State.{NodeState, Effect}
use Rattle.net_model.specs.Steps.{node_step, next_cause}
use Rattle.net_model.specs.Enabled.{enabling, enabled_event, first_event}
use Rattle.net_model.specs.Runs.{accepts, item_for, net_step, net_step_at, run_of, merged, network_of}
use Rattle.net_model.specs.Left.{left, is_start}
use Rattle.net_model.proofs.LeftFalls.{left_falls}
use Rattle.node_tables.specs.Journals.{state_of, causes_of}
use Rattle.node_core.specs.Seen.{Pends, picked_at}
use Rattle.node_core.specs.Takes.{accepting}
use Rattle.network_core.specs.declared.steps.Outcome.{Outcome}
use Rattle.network_core.specs.declared.steps.Outcome.TheVariants as outcome
use Rattle.network_core.specs.Worlds.{NodeWorld, World, MaySpell, Choice, states_of, Coherent}
use Rattle.network_core.specs.WorldSteps.{WorldCommits, WorldFaults, WorldTurns, HearsNext, Hears, WorldTakes, waits_on, handed_over, sent_all}
use Rattle.network_core.specs.Drains.{takes, TurnAt, HandAt, world_steps, RoundsAreBounded}
use Rattle.network_core.specs.Rounds.{Moves, TurnsAt, InOrder, PostsAt, committed, Hands, DeliversAt, Round, Rounds, RoundStops, DrainStops, in_front}
use Rattle.network_core.proofs.Placing.{get_set_both}
use Rattle.network_core.proofs.Faithful.{coherent_is_faithful}
use Rattle.network_core.proofs.Agreeing.{turn_coherent, post_coherent, hand_coherent}
use Rattle.network_core.proofs.AgreeingSteps.{IsSenders, none_senders}
use Rattle.network_core.proofs.AgreeingSaid.{accepts_it}
use Rattle.network_core.proofs.AgreeingHeard.{senders, fits}
use Rattle.network_core.proofs.AgreeingSends.{list_here, state_here}
use Rattle.network_core.proofs.QuietingFrames.{Grown, all_grown}
use Rattle.network_core.proofs.QuietingSteps.{post_grows, handed}

-- ---- choices of journals

-- at a place where the node may spell another journal
chosen_set : (w : World) (p : ℕ) (y : NodeWorld) (l : List (List ℕ)) (lists : List (List (List ℕ))) → Choice w lists → MaySpell y l → Choice (record { nodes = slice_set w.nodes p y; now = w.now }) (slice_set lists p l)
chosen_set w p y l lists choice may = record {
  count = set_length lists p l ∙ choice.count ∙ sym (set_length w.nodes p y);
  each = λ q z k at there. ⊎_elim
      (λ s. subst (λ (n : NodeWorld). MaySpell n k) (sym s.1) (subst (λ (j : List (List ℕ)). MaySpell y j) (sym s.2) may))
      (λ s. choice.each q z k s.0 s.1)
      (get_set_both w.nodes lists p y l q z k at there);
}

-- where frames were sent
chosen_grown : (w v : World) (lists : List (List (List ℕ))) → Grown w.nodes v.nodes → Choice w lists → Choice v lists
chosen_grown w v lists grown choice = record {
  count = choice.count ∙ sym grown.count;
  each = λ q y l at there.
      let x = grown.back q y at in
      ⊎_elim (λ is. inl (is ∙ sym x.2.journal)) (λ is. inr (x.2.other ∙ is)) (choice.each q x.0 l x.1 there);
}

-- ---- events that aren't a start

accepts_no_start : (ev : Event) → accepts ev ≡ true → is_start ev ≡ false
accepts_no_start (event.Start flow class args) h = cc
accepts_no_start (event.Answer key) h = refl
accepts_no_start (event.Arrive key direction number) h = refl
accepts_no_start (event.Move flow) h = refl
accepts_no_start (event.Lapse flow) h = refl

-- no event, or one that isn't a start
abbrev NoStart : Option Event → Type 0
NoStart None = ⊤
NoStart (Some ev) = is_start ev ≡ false

either_no_start : (b : Bool) (x y : Option Event) → NoStart x → NoStart y → NoStart (cond b x y)
either_no_start true x y h k = h
either_no_start false x y h k = k

or_no_start : (x y : Option Event) → NoStart x → NoStart y → NoStart (option_or x y)
or_no_start None y h k = k
or_no_start (Some ev) y h k = h

module _ {F : Type 0} (sessions : List Session) (now : ℕ) where
  enabling_no_start : (f : ℕ) (a : Act F) → NoStart (enabling sessions f now a)
  enabling_no_start f (act.Sleep until) = either_no_start (nat_le until now) (Some (event.Lapse f)) None refl tt
  enabling_no_start f (act.Receive key) = either_no_start (waits_for (owned f key sessions)) None (Some (event.Move f)) tt refl
  enabling_no_start f (act.ReceiveBy key until) =
      either_no_start (waits_for (owned f key sessions)) (cond (nat_le until now) (Some (event.Lapse f)) None) (Some (event.Move f)) (either_no_start (nat_le until now) (Some (event.Lapse f)) None refl tt) refl
  enabling_no_start f other = refl

  enabled_no_start : (flow : FlowState F) → NoStart (enabled_event sessions now flow)
  enabled_no_start (state.Live at) = enabling_no_start at.flow at.waiting
  enabled_no_start (state.Ended step class value) = tt
  enabled_no_start (state.Failed step class code) = tt

  first_no_start : (flows : List (FlowState F)) → NoStart (first_event sessions now flows)
  first_no_start [] = tt
  first_no_start (flow ∷ flows) = or_no_start (enabled_event sessions now flow) (first_event sessions now flows) (enabled_no_start flow) (first_no_start flows)

turn_no_start : {F : Type 0} (e : Environment F) (now : ℕ) (bodies : List (List ℕ)) (ev : Event) → picked_at e now None bodies ≡ Some ev → is_start ev ≡ false
turn_no_start e now bodies ev is = subst NoStart is (first_no_start (state_of e.frame_at bodies).sessions now (state_of e.frame_at bodies).flows)

-- ---- worlds

-- for these journals of a world there are such of a later one whose network may do less by so much
record Less {F : Type 0} (e : Environment F) (n : ℕ) (v : World) (lists : List (List (List ℕ))) : Type 0 where
  next : List (List (List ℕ))
  choice : Choice v next
  less : left e (states_of e next) + n ≤ left e (states_of e lists)

-- a coherent world leads to one, and whichever its journals are the network may do less by so much
record Lowers {F : Type 0} (e : Environment F) (n : ℕ) (w v : World) : Type 0 where
  coherent : Coherent e w → Coherent e v
  less : Coherent e w → (lists : List (List (List ℕ))) → Choice w lists → Less e n v lists

module _ {F : Type 0} (e : Environment F) where
  less_same : (n : ℕ) (w v : World) (lists : List (List (List ℕ))) → n ≡ 0 → v ≡ w → Choice w lists → Less e n v lists
  less_same n w v lists none is choice = record { next = lists; choice = subst (λ (z : World). Choice z lists) (sym is) choice; less = omega (arith, none) }

  less_grown : (n : ℕ) (w v : World) (lists : List (List (List ℕ))) → Grown w.nodes v.nodes → Less e n w lists → Less e n v lists
  less_grown n w v lists grown l = record { next = l.next; choice = chosen_grown w v l.next grown l.choice; less = l.less }

  lowers_same : (w v : World) → v ≡ w → Lowers e 0 w v
  lowers_same w v is = record { coherent = λ coherent. subst (Coherent e) (sym is) coherent; less = λ coherent lists choice. less_same 0 w v lists refl is choice }

  lowers_then : (n k m : ℕ) (w u v : World) → m ≤ n + k → Lowers e n w u → Lowers e k u v → Lowers e m w v
  lowers_then n k m w u v le f g = record {
    coherent = λ coherent. g.coherent (f.coherent coherent);
    less = λ coherent lists choice.
        let a = f.less coherent lists choice in
        let b = g.less (f.coherent coherent) a.next a.choice in
        record { next = b.next; choice = b.choice; less = omega (arith, a.less, b.less, le) };
  }

  lowers_fewer : (n m : ℕ) (w v : World) → m ≤ n → Lowers e n w v → Lowers e m w v
  lowers_fewer n m w v le f = lowers_then n 0 m w v v (omega (arith, le)) f (lowers_same v v refl)

-- ---- one record

module _ {F : Type 0} (e : Environment F) (falls : Falls e.machine) (load : LoadHolds e.machine) (overs : OversHold e.machine) where
  module _ (w : World) (p : ℕ) (x : NodeWorld) (coherent : Coherent e w) (there : slice_get w.nodes p ≡ Some x) (up : x.up ≡ true) (lists : List (List (List ℕ))) (choice : Choice w lists) where
    abbrev net : List (NodeState F)
    net = states_of e lists

    abbrev here : NodeState F
    here = state_of e.frame_at x.journal

    -- the network once the node's journal is this one
    abbrev net_with : List (List ℕ) → List (NodeState F)
    net_with l = states_of e (slice_set lists p l)

    run : run_of e (merged (map (causes_of e.frame_at) lists)) ≡ Some net
    unfolding network_of
    run = (coherent_is_faithful e w lists coherent choice).1

    same_left : (l : List (List ℕ)) → l ≡ x.journal → left e (net_with l) ≡ left e net
    same_left l is =
        let own : slice_set lists p l ≡ lists = ap (slice_set lists p) is ∙ set_own lists p x.journal (list_here e w p x coherent there up lists choice) in
        ap (λ (ls : List (List (List ℕ))). left e (states_of e ls)) own

    -- an item that is accepted is its sender's
    item_is : (y : NodeWorld) (ev : Event) (item : Option Sent) → IsSenders e w p x y ev item → ((i : Sent) → item ≡ Some i → accepts ev ≡ true) → item_for net p here ev ≡ item
    item_is y ev item send fit = by (accepts ev) refl
      where
        none : (o : Option Sent) → item ≡ o → accepts ev ≡ false → item_for net p here ev ≡ item
        none None is other = no_item net p here ev other ∙ sym is
        none (Some i) is other = let yes = fit i is in cc

        by : (b : Bool) → accepts ev ≡ b → item_for net p here ev ≡ item
        by true is = let s = send lists choice (list_here e w p x coherent there up lists choice) is in s.2 ∙ sym s.1
        by false is = none item refl is

    module _ (ev : Event) (item : Option Sent) (body : List ℕ) (pends : Pends e p w.now x.journal ev item body) (from : item_for net p here ev ≡ item) (no_start : is_start ev ≡ false) where
      abbrev cause : Cause
      cause = next_cause here w.now ev item

      abbrev after : NodeState F
      after = state_of e.frame_at (x.journal ++ body ∷ [])

      abbrev placed_at : NodeState F × Effect F → List (NodeState F) × Effect F
      placed_at done = (slice_set net p done.0, done.1)

      step : net_step e net p cause ≡ Some (slice_set net p after, pends.effect)
      unfolding net_step
      step =
          ap (option_and_then (net_step_at e net p cause)) (state_here e w p x coherent there up lists choice)
          ∙ ap (λ (i : Option Sent). option_map placed_at (node_step e p here cause i)) from
          ∙ ap (option_map placed_at) pends.step

      record_falls : left e (net_with (x.journal ++ body ∷ [])) + 1 ≤ left e net
      record_falls =
          let less = left_falls e (merged (map (causes_of e.frame_at) lists)) net (slice_set net p after) p cause pends.effect falls load overs run step no_start in
          subst (λ (l : List (NodeState F)). left e l + 1 ≤ left e net) (sym (map_set (state_of e.frame_at) lists p (x.journal ++ body ∷ []))) less

    module _ (y : NodeWorld) (ev : Event) (item : Option Sent) (from : item_for net p here ev ≡ item) (no_start : is_start ev ≡ false) where
      commits_fall : WorldCommits e p w.now ev item x y → left e (net_with y.journal) + 1 ≤ left e net
      commits_fall c = subst (λ (z : NodeWorld). left e (net_with z.journal) + 1 ≤ left e net) (sym c.after) (record_falls ev item c.body c.pends from no_start)

      faults_fall : WorldFaults e p w.now ev item x y → left e (net_with y.journal) + 0 ≤ left e net
      faults_fall c = ⊎_elim
          (λ same. let a = same_left y.journal same in omega arith)
          (λ more.
          let a = record_falls ev item c.body c.pends from no_start in
          let b = ap (λ (l : List (List ℕ)). left e (net_with l)) more in
          omega arith)
          (c.lists y.journal (inl refl))

    -- the node has another journal
    placed : (y : NodeWorld) (n : ℕ) → left e (net_with y.journal) + n ≤ left e net → Less e n (record { nodes = slice_set w.nodes p y; now = w.now }) lists
    placed y n h = record { next = slice_set lists p y.journal; choice = chosen_set w p y y.journal lists choice (inl refl); less = h }

    -- ---- deliveries

    module _ (bytes : List ℕ) (waits : slice_get x.waiting 0 ≡ Some bytes) (y : NodeWorld) (sent : List Outgoing) where
      abbrev ss : List Session
      ss = (state_of e.frame_at x.journal).sessions

      abbrev Goes : Outcome → Type 0
      Goes o = left e (net_with y.journal) + committed o ≤ left e net

      quietly : (o : Outcome) → y.journal ≡ x.journal → committed o ≡ 0 → Goes o
      quietly o is none = let a = same_left y.journal is in omega arith

      next_falls : (from : Party) (key : Key) (direction number stamp : ℕ) (body : Body) → IsJudged (identity e p) ss bytes (judged.Next from key direction number stamp body) → GoesFurther (identity e p) ss (judged.Next from key direction number stamp body) → (o : Outcome)
          → HearsNext e p w.now from key direction number (record { body = body; stamp = stamp }) x o y sent → Goes o
      next_falls from key direction number stamp body judges further o h = by o h
        where
          ev : Event
          ev = accepting ss key direction number

          item : Sent
          item = record { body = body; stamp = stamp }

          its : item_for net p here ev ≡ Some item
          its = item_is y ev (Some item) (senders e w p x coherent there up 0 bytes waits from key direction number stamp body judges further y) (fits e w p x coherent there up 0 bytes waits from key direction number stamp body judges further)

          no_start : is_start ev ≡ false
          no_start = accepts_no_start ev (accepts_it (identity e p) ss from key direction number body further.place)

          by : (o : Outcome) → HearsNext e p w.now from key direction number item x o y sent → Goes o
          by (outcome.Took upto) h = commits_fall y ev (Some item) its no_start h.1
          by outcome.Fault h = faults_fall y ev (Some item) its no_start h.0
          by (outcome.Refused why) h = quietly (outcome.Refused why) (ap (λ (z : NodeWorld). z.journal) h.2) refl
          by other h = absurd h

      hears_falls : (said : Judged) → IsJudged (identity e p) ss bytes said → GoesFurther (identity e p) ss said → (o : Outcome) → Hears e p w.now said x o y sent → Goes o
      hears_falls judged.Garbled judges further o h = absurd h
      hears_falls (judged.NotMine to) judges further o h = absurd h
      hears_falls judged.NoSession judges further o h = quietly o (ap (λ (z : NodeWorld). z.journal) h.1) (ap committed h.0)
      hears_falls (judged.Early expected) judges further o h = quietly o (ap (λ (z : NodeWorld). z.journal) h.1) (ap committed h.0)
      hears_falls (judged.Acked key direction upto) judges further o h = quietly o (ap (λ (z : NodeWorld). z.journal) h.1) (ap committed h.0)
      hears_falls (judged.Again from key direction expected) judges further o h = quietly o (ap (λ (z : NodeWorld). z.journal) h.1) (ap committed h.0)
      hears_falls (judged.Next from key direction number stamp body) judges further o h = next_falls from key direction number stamp body judges further o h

      handed_less : (o : Outcome) → WorldTakes e p w.now bytes x (Some o) y sent → Less e (committed o) (record { nodes = sent_all sent (slice_set w.nodes p (handed_over (waits_on false (Some o)) 0 y)); now = w.now }) lists
      handed_less o h =
          let over = handed_over (waits_on false (Some o)) 0 y in
          let mid : World = record { nodes = slice_set w.nodes p over; now = w.now } in
          let falls_by = hears_falls h.0 h.1 h.2 o h.3 in
          let may : MaySpell over y.journal = inl (sym (handed (waits_on false (Some o)) 0 y).journal) in
          less_grown e (committed o) mid (record { nodes = sent_all sent (slice_set w.nodes p over); now = w.now }) lists (all_grown sent (slice_set w.nodes p over))
          (record { next = slice_set lists p y.journal; choice = chosen_set w p over y.journal lists choice may; less = falls_by })

  -- ---- turns

  turns_less : (w : World) (p : ℕ) (x y : NodeWorld) (o : Option Outcome) → Coherent e w → slice_get w.nodes p ≡ Some x → WorldTurns e p w.now None x o y → (lists : List (List (List ℕ))) → Choice w lists → Less e (takes o) (record { nodes = slice_set w.nodes p y; now = w.now }) lists
  turns_less w p x y o coherent there h lists choice = by o h
    where
      still : y ≡ x → Less e 0 (record { nodes = slice_set w.nodes p y; now = w.now }) lists
      still is =
          let own : slice_set w.nodes p y ≡ w.nodes = ap (slice_set w.nodes p) is ∙ set_own w.nodes p x there in
          subst (λ (ns : List NodeWorld). Less e 0 (record { nodes = ns; now = w.now }) lists) (sym own) (less_same e 0 w w lists refl refl choice)

      its : (up : x.up ≡ true) (ev : Event) (body : List ℕ) → Pends e p w.now x.journal ev None body → item_for (states_of e lists) p (state_of e.frame_at x.journal) ev ≡ None
      its up ev body pends = item_is w p x coherent there up lists choice y ev None (none_senders e w p x y ev body pends) (λ i is. cc)

      by : (o : Option Outcome) → WorldTurns e p w.now None x o y → Less e (takes o) (record { nodes = slice_set w.nodes p y; now = w.now }) lists
      by None h = still h.3
      by (Some outcome.Idle) h = still h.2
      by (Some (outcome.Moved f)) h =
          let c = h.3 in
          placed w p x coherent there c.was_up lists choice y 1 (commits_fall w p x coherent there c.was_up lists choice y h.0 None (its c.was_up h.0 c.body c.pends) (turn_no_start e w.now x.journal h.0 h.1) c)
      by (Some outcome.Fault) h =
          let c = h.2 in
          placed w p x coherent there c.was_up lists choice y 0 (faults_fall w p x coherent there c.was_up lists choice y h.0 None (its c.was_up h.0 c.body c.pends) (turn_no_start e w.now x.journal h.0 h.1) c)
      by (Some (outcome.Refused why)) h = still h.1
      by (Some other) h = absurd h

  turn_lowers : (p : ℕ) (w v : World) (o : Option Outcome) → TurnAt e p w o v → Lowers e (takes o) w v
  turn_lowers p w v o h = record { coherent = λ coherent. turn_coherent e p None w v o coherent h; less = λ coherent lists choice. by h coherent lists choice }
    where
      by : TurnAt e p w o v → Coherent e w → (lists : List (List (List ℕ))) → Choice w lists → Less e (takes o) v lists
      by (inl (past, is, same)) coherent lists choice = less_same e (takes o) w v lists (ap takes is) same choice
      by (inr (x, y, there, same, turn)) coherent lists choice = subst (λ (z : World). Less e (takes o) z lists) (sym same) (turns_less w p x y o coherent there turn lists choice)

  moves_lower : (p n : ℕ) (w v : World) → Moves (world_steps e) p n w v → Lowers e n w v
  moves_lower p zero w v is = lowers_same e w v is
  moves_lower p (suc n) w v (u, f, before, turn) = lowers_then e n 1 (suc n) w u v (omega arith) (moves_lower p n w u before) (turn_lowers p u v (Some (outcome.Moved f)) turn)

  turns_lower : (p n : ℕ) (w v : World) → TurnsAt (world_steps e) p n w v → Lowers e n w v
  turns_lower p n w v (u, o, before, turn, last) = lowers_then e n (takes (Some o)) n w u v (omega arith) (moves_lower p n w u before) (turn_lowers p u v (Some o) turn)

  -- ---- posts

  posts_lower : (p n : ℕ) (w v : World) → PostsAt (world_steps e) p n w v → Lowers e n w v
  posts_lower p n w v (o, post, none) = record {
    coherent = λ coherent. post_coherent e p w v (Some o) coherent post;
    less = λ coherent lists choice. less_grown e n w v lists (post_grows e p w v (Some o) post).grown (less_same e n w w lists none refl choice);
  }

  -- ---- deliveries

  hand_lowers : (p : ℕ) (w v : World) (o : Outcome) → HandAt e p w (Some o) v → Lowers e (committed o) w v
  hand_lowers p w v o h = record { coherent = λ coherent. hand_coherent e false p 0 w v (Some o) coherent h; less = λ coherent lists choice. by h coherent lists choice }
    where
      by : HandAt e p w (Some o) v → Coherent e w → (lists : List (List (List ℕ))) → Choice w lists → Less e (committed o) v lists
      by (inl (past, is, same)) coherent lists choice = less_same e (committed o) w v lists (ap committed (some_eq is)) same choice
      by (inr (x, there, inl (down, is, same))) coherent lists choice = less_same e (committed o) w v lists (ap committed (some_eq is)) same choice
      by (inr (x, there, inr (up, inl (gone, is, same)))) coherent lists choice = less_same e (committed o) w v lists (ap committed (some_eq is)) same choice
      by (inr (x, there, inr (up, inr (bytes, y, sent, waits, heard, is)))) coherent lists choice = subst (λ (z : World). Less e (committed o) z lists) (sym is) (handed_less w p x coherent there up lists choice bytes waits y sent o heard)

  hands_lower : (p d n : ℕ) (w v : World) → Hands (world_steps e) p d n w v → Lowers e n w v
  hands_lower p zero n w v (none, is) = lowers_fewer e 0 n w v (omega (arith, none)) (lowers_same e w v is)
  hands_lower p (suc d) n w v (u, k, o, before, hand, taken, sum) = lowers_then e k (committed o) n w u v (omega (arith, sum)) (hands_lower p d k w u before) (hand_lowers p u v o hand)

  delivers_lower : (p n : ℕ) (w v : World) → DeliversAt (world_steps e) p n w v → Lowers e n w v
  delivers_lower p n w v (d, u, before, (o, hand, over)) = lowers_then e n (committed o) n w u v (omega arith) (hands_lower p d n w u before) (hand_lowers p u v o hand)

  -- ---- rounds

  order_lowers : (at : ℕ → ℕ → World → World → Type 0) → ((p n : ℕ) (w v : World) → at p n w v → Lowers e n w v) → (p n : ℕ) (w v : World) → InOrder at p n w v → Lowers e n w v
  order_lowers at lower zero n w v (none, is) = lowers_fewer e 0 n w v (omega (arith, none)) (lowers_same e w v is)
  order_lowers at lower (suc p) n w v (u, k, j, before, here, sum) = lowers_then e k j n w u v (omega (arith, sum)) (order_lowers at lower p k w u before) (lower p j u v here)

  round_lowers : (n : ℕ) (w v : World) → Round (world_steps e) n w v → Lowers e n w v
  round_lowers n w v (u, t, k, j, turns, posts, delivers, sum) =
      let a = order_lowers (TurnsAt (world_steps e)) turns_lower (length w.nodes) k w u turns in
      let b = order_lowers (PostsAt (world_steps e)) posts_lower (length w.nodes) 0 u t posts in
      let c = order_lowers (DeliversAt (world_steps e)) delivers_lower (length w.nodes) j t v delivers in
      lowers_then e k j n w t v (omega (arith, sum)) (lowers_then e k 0 k w u t (omega arith) a b) c

  rounds_lower : (r : ℕ) (w v : World) → Rounds (world_steps e) r w v → Lowers e r w v
  rounds_lower zero w v is = lowers_same e w v is
  rounds_lower (suc r) w v (u, n, before, round) = lowers_then e r (suc n) (suc r) w u v (omega arith) (rounds_lower r w u before) (round_lowers (suc n) u v round)

  front_lowers : (o : Option Outcome) (w v : World) (front : RoundStops (world_steps e) o w v) → (z : World) × Lowers e (in_front (world_steps e) o w v front) w z
  front_lowers o w v (inl (p, n, u, lt, first, (k, z, moves, turn))) = (z, lowers_then e n k (n + k) w u z (omega arith) (order_lowers (TurnsAt (world_steps e)) turns_lower p n w u first) (moves_lower p k u z moves))
  front_lowers o w v (inr (inl (u, k, turns, posts))) = (u, order_lowers (TurnsAt (world_steps e)) turns_lower (length w.nodes) k w u turns)
  front_lowers o w v (inr (inr (u, t, k, turns, posts, (p, n, z, lt, first, (d, m, y, hands, hand))))) =
      let a = order_lowers (TurnsAt (world_steps e)) turns_lower (length w.nodes) k w u turns in
      let b = order_lowers (PostsAt (world_steps e)) posts_lower (length w.nodes) 0 u t posts in
      let c = order_lowers (DeliversAt (world_steps e)) delivers_lower p n t z first in
      let f = hands_lower p d m z y hands in
      (y, lowers_then e k (n + m) (k + (n + m)) w t y (omega arith) (lowers_then e k 0 k w u t (omega arith) a b) (lowers_then e n m (n + m) t z y (omega arith) c f))

  lowers_few : (n : ℕ) (w v : World) → Lowers e n w v → Coherent e w → (lists : List (List (List ℕ))) → Choice w lists → n ≤ left e (states_of e lists)
  lowers_few n w v lowers coherent lists choice = let l = lowers.less coherent lists choice in omega (arith, l.less)

  stopped_few : (o : Option Outcome) (w v : World) (drain : DrainStops (world_steps e) o w v) → Coherent e w → (lists : List (List (List ℕ))) → Choice w lists → drain.0 + in_front (world_steps e) o drain.1 v drain.3 ≤ left e (states_of e lists)
  stopped_few o w v (r, u, before, front) coherent lists choice =
      let last = front_lowers o u v front in
      let n = in_front (world_steps e) o u v front in
      lowers_few (r + n) w last.0 (lowers_then e r n (r + n) w u last.0 (omega arith) (rounds_lower r w u before) last.1) coherent lists choice

pub rounds_are_bounded : {F : Type 0} (m : Machine F) → Falls m → LoadHolds m → OversHold m → RoundsAreBounded m
rounds_are_bounded m falls load overs e is w coherent lists choice =
    let f : Falls e.machine = subst Falls (sym is) falls in
    let l : LoadHolds e.machine = subst LoadHolds (sym is) load in
    let k : OversHold e.machine = subst OversHold (sym is) overs in
    record {
      rounds = λ r u h. lowers_few e f l k r w u (rounds_lower e f l k r w u h) coherent lists choice;
      drained = λ v drain. lowers_few e f l k drain.0 w drain.1 (rounds_lower e f l k drain.0 w drain.1 drain.2) coherent lists choice;
      stopped = λ o v drain. stopped_few e f l k o w v drain coherent lists choice;
    }
