-- Steps at one node that commit, fault, cut, boot or lose a frame keep a world coherent.
use Rattle.std.proofs.Common.{◌≡◌, ℕ, zero, suc, ◌+◌, ◌≤◌, ◌⊎◌, inl, inr, ⊎_elim, List, [], ◌∷◌, ◌++◌, Option, Some, None, true, false, length, take, drop, slice_get, slice_set, refl, sym, ap, subst, ◌∙◌, arith}
use Rattle.std.specs.List.{AllByRecursion}
use Rattle.std.proofs.lemmas.Bool.{true≢false}
use Rattle.net_base.specs.declared.causes.Event.{Event}
use Rattle.net_base.specs.declared.causes.Event.TheVariants as event
use Rattle.net_base.proofs.Lists.{all_append, all_drop, all_take, get_beside}
use Rattle.net_base.proofs.Options.{some_eq}
use Rattle.session_wire.specs.Sessions.{Sent, Session}
use Rattle.net_model.specs.Environment.{Environment}
use Rattle.net_model.specs.State.{NodeState, sessions_on}
use Rattle.net_model.specs.Steps.{next_cause}
use Rattle.net_model.specs.Runs.{item_for, accepts}
use Rattle.net_model.proofs.Basics.{apply_sessions}
use Rattle.net_model.proofs.Effects.{effect_accepts, step_taken}
use Rattle.node_tables.specs.Journals.{state_of}
use Rattle.node_tables.specs.Seen.{padded}
use Rattle.node_core.specs.Seen.{Pends}
use Rattle.network_core.specs.declared.steps.Outcome.{Outcome}
use Rattle.network_core.specs.declared.steps.Outcome.TheVariants as outcome
use Rattle.network_core.specs.Worlds.{NodeWorld, World, MaySpell, Choice, states_of, came_at, WaitsAt, AreArrived, Coherent}
use Rattle.network_core.specs.WorldSteps.{WorldCommits, WorldFaults, WorldPlace, WorldStarts, WorldTurns, WorldCuts, StaysDown, ComesUp, WorldBoots, LosesAt, without}
use Rattle.network_core.proofs.AgreeingNets.{keeps_sessions}
use Rattle.network_core.proofs.AgreeingPlace.{Adds, state_after}
use Rattle.network_core.proofs.AgreeingOnce.{goes_coherent}

-- ---- acknowledged numbers of a longer journal

pub padded_length : (ns : List ℕ) (ss : List Session) → length (padded ns ss) ≡ length ss
padded_length ns [] = refl
padded_length [] (s ∷ ss) = ap suc (padded_length [] ss)
padded_length (n ∷ ns) (s ∷ ss) = ap suc (padded_length ns ss)

-- each is one of before, or 0
padded_get : (ns : List ℕ) (ss : List Session) (i n : ℕ) → slice_get (padded ns ss) i ≡ Some n → (slice_get ns i ≡ Some n) ⊎ (n ≡ 0)
padded_get ns [] i n h = cc
padded_get [] (s ∷ ss) zero n h = inr (some_eq (sym h))
padded_get [] (s ∷ ss) (suc i) n h = ⊎_elim (λ k. cc) (λ k. inr k) (padded_get [] ss i n h)
padded_get (m ∷ ns) (s ∷ ss) zero n h = inl h
padded_get (m ∷ ns) (s ∷ ss) (suc i) n h = padded_get ns ss i n h

-- where nothing is acknowledged all that is has arrived
pub none_arrived : {F : Type 0} (net : List (NodeState F)) (ss : List Session) → AreArrived net ss (padded [] ss)
none_arrived net ss i session n at is = ⊎_elim (λ k. absurd (no_get i n k)) (λ k. omega (arith, k)) (padded_get [] ss i n is)
  where
    no_get : (i n : ℕ) → slice_get [] i ≡ Some n → ⊥
    no_get i n h = cc

-- that no frame joins those that wait
pub same_frames : {X : Type 0} (P : X → Type 0) (xs ys : List X) → ys ≡ xs → AllByRecursion P xs → AllByRecursion P ys
same_frames P xs ys is h = subst (AllByRecursion P) (sym is) h

module _ {F : Type 0} (e : Environment F) (w : World) (p : ℕ) (x y : NodeWorld) where
  -- an item that is accepted is its sender's, whichever journals a power cut leaves
  abbrev pub IsSenders : Event → Option Sent → Type 0
  IsSenders ev item = (lists : List (List (List ℕ))) → Choice w lists → slice_get lists p ≡ Some x.journal → accepts ev ≡ true → (i : Sent) × (item ≡ Some i) × (item_for (states_of e lists) p (state_of e.frame_at x.journal) ev ≡ Some i)

  -- where no item is accepted there is none
  accepts_none : (ev : Event) (body : List ℕ) → Pends e p w.now x.journal ev None body → accepts ev ≡ true → ⊥
  accepts_none ev body pends accepting =
      let taken = step_taken e p (state_of e.frame_at x.journal) _ _ None pends.effect pends.step in
      let found = effect_accepts e p (state_of e.frame_at x.journal) w.now ev None pends.effect accepting taken.effect in
      let no = found.1 in cc

  pub none_senders : (ev : Event) (body : List ℕ) → Pends e p w.now x.journal ev None body → IsSenders ev None
  none_senders ev body pends lists choice there accepting = absurd (accepts_none ev body pends accepting)

  adds : (ev : Event) (item : Option Sent) (body : List ℕ) (l : List (List ℕ)) → Pends e p w.now x.journal ev item body → ((i : Sent) → item ≡ Some i → accepts ev ≡ true) → IsSenders ev item → l ≡ x.journal ++ body ∷ [] → Adds e w p x.journal l
  adds ev item body l pends fits senders is = record { event = ev; item = item; body = body; pends = pends; is = is; fits = fits; sender = senders }

  arrived_more : (ev : Event) (item : Option Sent) (body : List ℕ) (net : List (NodeState F)) → Pends e p w.now x.journal ev item body → length x.acked ≡ length (state_of e.frame_at x.journal).sessions
      → AreArrived net (state_of e.frame_at x.journal).sessions x.acked → AreArrived net (state_of e.frame_at (x.journal ++ body ∷ [])).sessions (padded x.acked (state_of e.frame_at (x.journal ++ body ∷ [])).sessions)
  arrived_more ev item body net pends count known i session n at is = ⊎_elim
      (λ old.
      let s = state_of e.frame_at x.journal in
      let cause = next_cause s w.now ev item in
      let found = get_beside x.acked s.sessions i n count old in
      let after : (state_of e.frame_at (x.journal ++ body ∷ [])).sessions ≡ sessions_on cause pends.effect s.sessions = ap (λ (s : NodeState F). s.sessions) (state_after e p w.now x.journal ev item body pends) ∙ apply_sessions s cause pends.effect in
      let keeps = (keeps_sessions cause pends.effect s.sessions).places i found.0 found.1 in
      let same : keeps.0 ≡ session = some_eq (sym keeps.1 ∙ (ap (λ (ss : List Session). slice_get ss i) (sym after) ∙ at)) in
      let here : n ≤ came_at net keeps.0.peer.0 keeps.0.key = rw (keeps.2, keeps.3) (known i found.0 n found.1 old) in
      subst (λ (s : Session). n ≤ came_at net s.peer.0 s.key) same here)
      (λ none. omega (arith, none))
      (padded_get x.acked (state_of e.frame_at (x.journal ++ body ∷ [])).sessions i n is)

  module _ (coherent : Coherent e w) (there : slice_get w.nodes p ≡ Some x) where
    pub commits_coherent : (ev : Event) (item : Option Sent) → ((i : Sent) → item ≡ Some i → accepts ev ≡ true) → ((body : List ℕ) → Pends e p w.now x.journal ev item body → IsSenders ev item) → WorldCommits e p w.now ev item x y
        → Coherent e (record { nodes = slice_set w.nodes p y; now = w.now })
    commits_coherent ev item fits senders c =
        let journal : y.journal ≡ x.journal ++ c.body ∷ [] = ap (λ (z : NodeWorld). z.journal) c.after in
        let other : y.other ≡ None = ap (λ (z : NodeWorld). z.other) c.after in
        let acked : y.acked ≡ padded x.acked (state_of e.frame_at (x.journal ++ c.body ∷ [])).sessions = ap (λ (z : NodeWorld). z.acked) c.after in
        let waiting : y.waiting ≡ x.waiting = ap (λ (z : NodeWorld). z.waiting) c.after in
        goes_coherent e w p x y coherent there (record {
          one = λ up. other;
          lists = λ l may. (x.journal, inl refl, inr (adds ev item c.body l c.pends fits (senders c.body c.pends) (⊎_elim (λ is. is ∙ journal) (λ is. absurd (let no : Some l ≡ None = sym is ∙ other in cc)) may)));
          waits = λ old choice h. same_frames (WaitsAt (states_of e old) p) x.waiting y.waiting waiting h;
          numbers = λ up. rw (acked, journal) (padded_length x.acked (state_of e.frame_at (x.journal ++ c.body ∷ [])).sessions);
          acks = λ up net waits known. rw (acked, journal) (arrived_more ev item c.body net c.pends (coherent.numbers p x there c.was_up) (known c.was_up));
        })

    -- a node that is down after the step acknowledges nothing
    down_coherent : y.up ≡ false → ((l : List (List ℕ)) → MaySpell y l → (old : List (List ℕ)) × MaySpell x old × ((l ≡ old) ⊎ Adds e w p old l)) → y.waiting ≡ x.waiting → Coherent e (record { nodes = slice_set w.nodes p y; now = w.now })
    down_coherent down lists waiting = goes_coherent e w p x y coherent there (record {
      one = λ up. absurd (true≢false (sym up ∙ down));
      lists = lists;
      waits = λ old choice h. same_frames (WaitsAt (states_of e old) p) x.waiting y.waiting waiting h;
      numbers = λ up. absurd (true≢false (sym up ∙ down));
      acks = λ up. absurd (true≢false (sym up ∙ down));
    })

    pub faults_coherent : (ev : Event) (item : Option Sent) → ((i : Sent) → item ≡ Some i → accepts ev ≡ true) → ((body : List ℕ) → Pends e p w.now x.journal ev item body → IsSenders ev item) → WorldFaults e p w.now ev item x y
        → Coherent e (record { nodes = slice_set w.nodes p y; now = w.now })
    faults_coherent ev item fits senders c =
        down_coherent c.down (λ l may. (x.journal, inl refl, ⊎_elim (λ is. inl is) (λ is. inr (adds ev item c.body l c.pends fits (senders c.body c.pends) is)) (c.lists l may))) c.waiting

    -- the lists stay, and those of the acknowledged numbers and of the frames do
    pub stays_coherent : y.up ≡ x.up → y.journal ≡ x.journal → y.other ≡ x.other → y.acked ≡ x.acked → ((P : List ℕ → Type 0) → AllByRecursion P x.waiting → AllByRecursion P y.waiting) → Coherent e (record { nodes = slice_set w.nodes p y; now = w.now })
    stays_coherent up journal other acked waits = goes_coherent e w p x y coherent there (record {
      one = λ here. other ∙ (coherent.each p x there).one (sym up ∙ here);
      lists = λ l may. (l, ⊎_elim (λ is. inl (is ∙ journal)) (λ is. inr (sym other ∙ is)) may, inl refl);
      waits = λ old choice h. waits (WaitsAt (states_of e old) p) h;
      numbers = λ here. rw (acked, journal) (coherent.numbers p x there (sym up ∙ here));
      acks = λ here net frames known. rw (acked, journal) (known (sym up ∙ here));
    })

    comes_up_coherent : ComesUp e x y → Coherent e (record { nodes = slice_set w.nodes p y; now = w.now })
    comes_up_coherent c =
        let journal : y.journal ≡ x.journal = ap (λ (z : NodeWorld). z.journal) c.after in
        let other : y.other ≡ None = ap (λ (z : NodeWorld). z.other) c.after in
        let acked : y.acked ≡ padded [] (state_of e.frame_at x.journal).sessions = ap (λ (z : NodeWorld). z.acked) c.after in
        let waiting : y.waiting ≡ x.waiting = ap (λ (z : NodeWorld). z.waiting) c.after in
        goes_coherent e w p x y coherent there (record {
          one = λ up. other;
          lists = λ l may. (l, ⊎_elim (λ is. inl (is ∙ journal)) (λ is. absurd (let no : Some l ≡ None = sym is ∙ other in cc)) may, inl refl);
          waits = λ old choice h. same_frames (WaitsAt (states_of e old) p) x.waiting y.waiting waiting h;
          numbers = λ up. rw (acked, journal) (padded_length [] (state_of e.frame_at x.journal).sessions);
          acks = λ up net frames known. rw (acked, journal) (none_arrived net (state_of e.frame_at x.journal).sessions);
        })

    stays_down_coherent : StaysDown x y → Coherent e (record { nodes = slice_set w.nodes p y; now = w.now })
    stays_down_coherent s = down_coherent s.down (λ l may. (l, s.lists l may, inl refl)) s.waiting

    pub same_coherent : y ≡ x → Coherent e (record { nodes = slice_set w.nodes p y; now = w.now })
    same_coherent is = stays_coherent (ap (λ (z : NodeWorld). z.up) is) (ap (λ (z : NodeWorld). z.journal) is) (ap (λ (z : NodeWorld). z.other) is) (ap (λ (z : NodeWorld). z.acked) is) (λ P h. same_frames P x.waiting y.waiting (ap (λ (z : NodeWorld). z.waiting) is) h)

    no_item : (ev : Event) (o : Option Sent) → o ≡ None → (i : Sent) → o ≡ Some i → accepts ev ≡ true
    no_item ev o none i is = cc

    pub starts_coherent : (class : ℕ) (args : List ℕ) (o : Option Outcome) → WorldStarts e p w.now class args x o y → Coherent e (record { nodes = slice_set w.nodes p y; now = w.now })
    starts_coherent class args None h = same_coherent h.1
    starts_coherent class args (Some (outcome.Started f)) h = commits_coherent (event.Start f class args) None (no_item (event.Start f class args) None refl) (λ body pends. none_senders (event.Start f class args) body pends) h.1
    starts_coherent class args (Some outcome.Fault) h =
        let ev = event.Start (length (state_of e.frame_at x.journal).flows) class args in
        faults_coherent ev None (no_item ev None refl) (λ body pends. none_senders ev body pends) h
    starts_coherent class args (Some (outcome.Refused why)) h = same_coherent h.1
    starts_coherent class args (Some other) h = absurd h

    pub turns_coherent : (pick : Option ℕ) (o : Option Outcome) → WorldTurns e p w.now pick x o y → Coherent e (record { nodes = slice_set w.nodes p y; now = w.now })
    turns_coherent pick None h = same_coherent h.3
    turns_coherent pick (Some outcome.Idle) h = same_coherent h.2
    turns_coherent pick (Some (outcome.Moved f)) h = commits_coherent h.0 None (no_item h.0 None refl) (λ body pends. none_senders h.0 body pends) h.3
    turns_coherent pick (Some outcome.Fault) h = faults_coherent h.0 None (no_item h.0 None refl) (λ body pends. none_senders h.0 body pends) h.2
    turns_coherent pick (Some (outcome.Refused why)) h = same_coherent h.1
    turns_coherent pick (Some other) h = absurd h

    pub cuts_coherent : (calls : ℕ) (o : Option Outcome) → WorldCuts calls x o y → Coherent e (record { nodes = slice_set w.nodes p y; now = w.now })
    cuts_coherent calls None h = absurd h
    cuts_coherent calls (Some outcome.Down) h =
        let journal : y.journal ≡ x.journal = ap (λ (z : NodeWorld). z.journal) h.3 in
        let other : y.other ≡ x.other = ap (λ (z : NodeWorld). z.other) h.3 in
        down_coherent (ap (λ (z : NodeWorld). z.up) h.3) (λ l may. (l, ⊎_elim (λ is. inl (is ∙ journal)) (λ is. inr (sym other ∙ is)) may, inl refl)) (ap (λ (z : NodeWorld). z.waiting) h.3)
    cuts_coherent calls (Some outcome.Armed) h = stays_coherent (ap (λ (z : NodeWorld). z.up) h.3) (ap (λ (z : NodeWorld). z.journal) h.3) (ap (λ (z : NodeWorld). z.other) h.3) (ap (λ (z : NodeWorld). z.acked) h.3) (λ P all. same_frames P x.waiting y.waiting (ap (λ (z : NodeWorld). z.waiting) h.3) all)
    cuts_coherent calls (Some (outcome.Refused why)) h = same_coherent h.1
    cuts_coherent calls (Some other) h = absurd h

    pub boots_coherent : (o : Option Outcome) → WorldBoots e x o y → Coherent e (record { nodes = slice_set w.nodes p y; now = w.now })
    boots_coherent None h = stays_down_coherent h.0
    boots_coherent (Some outcome.Booted) h = comes_up_coherent h
    boots_coherent (Some outcome.Fault) h = stays_down_coherent h.0
    boots_coherent (Some (outcome.Refused why)) h = ⊎_elim (λ up. same_coherent up.2) (λ down. stays_down_coherent down.2) h
    boots_coherent (Some other) h = absurd h

    -- without one of them all is still said of each frame
    pub all_without : (P : List ℕ → Type 0) (i : ℕ) (frames : List (List ℕ)) → AllByRecursion P frames → AllByRecursion P (without i frames)
    all_without P i frames h = all_append P (take i frames) (drop (i + 1) frames) (all_take P i frames h) (all_drop P (i + 1) frames h)

    pub loses_coherent : (i : ℕ) (o : Option Outcome) → LosesAt i x o y → Coherent e (record { nodes = slice_set w.nodes p y; now = w.now })
    loses_coherent i None h = absurd h
    loses_coherent i (Some outcome.Lost) h =
        stays_coherent (ap (λ (z : NodeWorld). z.up) h.1) (ap (λ (z : NodeWorld). z.journal) h.1) (ap (λ (z : NodeWorld). z.other) h.1) (ap (λ (z : NodeWorld). z.acked) h.1)
        (λ P all. same_frames P (without i x.waiting) y.waiting (ap (λ (z : NodeWorld). z.waiting) h.1) (all_without P i x.waiting all))
    loses_coherent i (Some (outcome.Refused why)) h = same_coherent h.2
    loses_coherent i (Some other) h = absurd h

-- a step at a place
pub place_coherent : {F : Type 0} (e : Environment F) (p : ℕ) (w v : World) (o : Option Outcome) (goal : NodeWorld → Option Outcome → NodeWorld → Type 0) → Coherent e w → WorldPlace p w o v goal
    → ((x y : NodeWorld) → slice_get w.nodes p ≡ Some x → goal x o y → Coherent e (record { nodes = slice_set w.nodes p y; now = w.now })) → Coherent e v
place_coherent e p w v o goal coherent (inl none) step = subst (Coherent e) (sym none.2) coherent
place_coherent e p w v o goal coherent (inr some) step = subst (Coherent e) (sym some.3) (step some.0 some.1 some.2 some.4)
