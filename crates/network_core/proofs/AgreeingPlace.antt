-- A world in which one node changed: its lists are those of before, or one has a body more.
use Rattle.std.proofs.Common.{◌≡◌, ℕ, ◌+◌, ◌≤◌, List, [], ◌∷◌, ◌++◌, Option, Some, None, true, map, length, option_map, option_to_list, slice_get, slice_set, refl, sym, ap, subst, ◌∙◌, arith, length-append}
use Rattle.std.proofs.lemmas.Option.{slice_get-map}
use Rattle.net_base.specs.declared.causes.Cause.{Cause}
use Rattle.net_base.specs.declared.causes.Event.{Event}
use Rattle.net_base.proofs.Lists.{map_set, map_twice}
use Rattle.session_wire.specs.Sessions.{Sent}
use Rattle.net_model.specs.Environment.{Environment}
use Rattle.net_model.specs.State.{NodeState, Record, Effect, apply_effect, fresh, replay}
use Rattle.net_model.specs.Steps.{node_step, next_cause}
use Rattle.net_model.specs.Runs.{IsItem, IsMatched, accepts, stamped, item_for}
use Rattle.net_model.proofs.Effects.{effect_bare, effect_accepts, step_taken, step_is_its_effect}
use Rattle.net_model.proofs.Commits.{commits_keep_matched, local_more}
use Rattle.node_tables.specs.Journals.{records_of, state_of}
use Rattle.node_tables.proofs.Runs.{records_push}
use Rattle.node_core.specs.Seen.{Pends}
use Rattle.network_core.specs.Worlds.{World, Choice, states_of, Sound}
use Rattle.network_core.proofs.AgreeingNets.{Wider, set_wider}

-- what an accepted item is in the effect: its body, under its own stamp; or there is none
pub record Takes {F : Type 0} (item : Option Sent) (effect : Effect F) : Type 0 where
  pub stamp : ℕ
  pub is : stamped stamp effect.change.came ≡ item

module _ {F : Type 0} (e : Environment F) (p : ℕ) where
  abbrev state : List (List ℕ) → NodeState F
  state bodies = state_of e.frame_at bodies

  moment_at : (s next : NodeState F) (cause : Cause) (effect : Effect F) (now : ℕ) → next ≡ apply_effect s cause effect → cause.moment.0 ≡ now → next.moment ≤ now
  unfolding apply_effect
  moment_at s next cause effect now is at = omega (arith, ap (λ z. z.moment) is, at)

  pub sound_later : (now later : ℕ) (bodies : List (List ℕ)) → now ≤ later → Sound e p now bodies → Sound e p later bodies
  sound_later now later bodies le sound = record { local = sound.local; whole = sound.whole; by = omega (arith, sound.by, le) }

  module _ (now : ℕ) (bodies : List (List ℕ)) (event : Event) (item : Option Sent) (body : List ℕ) (pends : Pends e p now bodies event item body) where
    abbrev cause : Cause
    cause = next_cause (state bodies) now event item

    abbrev added : Record F
    added = record { cause = cause; effect = pends.effect }

    pub pushed : records_of e.frame_at (bodies ++ body ∷ []) ≡ records_of e.frame_at bodies ++ added ∷ []
    pushed = records_push e.frame_at bodies body ∙ ap (λ o. records_of e.frame_at bodies ++ option_to_list o) pends.reads

    pub state_after : state (bodies ++ body ∷ []) ≡ apply_effect (state bodies) cause pends.effect
    state_after = step_is_its_effect e p (state bodies) (state (bodies ++ body ∷ [])) cause item pends.effect pends.step

    -- the item's body is the effect's, where the event accepts one
    pub came_of : (i : Sent) → item ≡ Some i → accepts event ≡ true → pends.effect.change.came ≡ Some i.body
    came_of i is accepting =
        let taken = step_taken e p (state bodies) (state (bodies ++ body ∷ [])) cause item pends.effect pends.step in
        let found = effect_accepts e p (state bodies) now event _ pends.effect accepting taken.effect in
        let body_is : Some i.body ≡ Some found.0 = sym (ap (option_map (λ (s : Sent). s.body)) is) ∙ found.1 in
        found.2 ∙ sym body_is

    takes_of : (o : Option Sent) → item ≡ o → ((i : Sent) → o ≡ Some i → accepts event ≡ true) → Takes item pends.effect
    takes_of None is fits =
        let taken = step_taken e p (state bodies) (state (bodies ++ body ∷ [])) cause item pends.effect pends.step in
        let bare = effect_bare e p (state bodies) now event pends.effect (rw is at taken.effect) in
        record { stamp = 0; is = ap (stamped 0) bare ∙ sym is }
    takes_of (Some i) is fits = record { stamp = i.stamp; is = ap (stamped i.stamp) (came_of i is (fits i refl)) ∙ sym is }

    pub sound_push : ((i : Sent) → item ≡ Some i → accepts event ≡ true) → Sound e p now bodies → Sound e p now (bodies ++ body ∷ [])
    unfolding state_of replay
    sound_push fits sound =
        let takes = takes_of item refl fits in
        let step : node_step e p (state bodies) cause (stamped takes.stamp pends.effect.change.came) ≡ Some (state (bodies ++ body ∷ []), pends.effect) = rw takes.is pends.step in
        let local = local_more e p fresh (state (bodies ++ body ∷ [])) (records_of e.frame_at bodies) added takes.stamp sound.local step in
        record {
          local = rw pushed local;
          whole = ap length pushed ∙ length-append (records_of e.frame_at bodies) (added ∷ []) ∙ ap (λ n. n + 1) sound.whole ∙ sym (length-append bodies (body ∷ []));
          by = moment_at (state bodies) (state (bodies ++ body ∷ [])) cause pends.effect now state_after refl;
        }

-- ---- journals of all nodes

module _ {F : Type 0} (e : Environment F) where
  replayed : (lists : List (List (List ℕ))) → map replay (map (records_of e.frame_at) lists) ≡ states_of e lists
  unfolding state_of
  replayed lists = map_twice replay (records_of e.frame_at) (state_of e.frame_at) lists (λ l. refl)

  -- the list is the old one with one body more; an item that is accepted is its sender's, whichever journals a power cut leaves
  pub record Adds (w : World) (p : ℕ) (old l : List (List ℕ)) : Type 0 where
    pub event : Event
    pub item : Option Sent
    pub body : List ℕ
    pub pends : Pends e p w.now old event item body
    pub is : l ≡ old ++ body ∷ []
    pub fits : (i : Sent) → item ≡ Some i → accepts event ≡ true
    pub sender : (lists : List (List (List ℕ))) → Choice w lists → slice_get lists p ≡ Some old → accepts event ≡ true → (i : Sent) × (item ≡ Some i) × (item_for (states_of e lists) p (state_of e.frame_at old) event ≡ Some i)

  -- the journals with that list in place of the old one
  pub record Widens (old new : List (List (List ℕ))) : Type 0 where
    pub matched : IsMatched (map (records_of e.frame_at) new)
    pub wider : Wider (states_of e old) (states_of e new)

  module _ (w : World) (p : ℕ) (lists : List (List (List ℕ))) (choice : Choice w lists) (old l : List (List ℕ)) (there : slice_get lists p ≡ Some old) (adds : Adds w p old l) where
    abbrev more : Record F
    more = record { cause = next_cause (state_of e.frame_at old) w.now adds.event adds.item; effect = adds.pends.effect }

    records_are : records_of e.frame_at l ≡ records_of e.frame_at old ++ more ∷ []
    records_are = ap (records_of e.frame_at) adds.is ∙ pushed e p w.now old adds.event adds.item adds.body adds.pends

    state_is : state_of e.frame_at l ≡ apply_effect (state_of e.frame_at old) more.cause more.effect
    state_is = ap (state_of e.frame_at) adds.is ∙ state_after e p w.now old adds.event adds.item adds.body adds.pends

    its_item : accepts more.cause.event ≡ true → IsItem (map replay (map (records_of e.frame_at) lists)) p (replay (records_of e.frame_at old)) more
    unfolding state_of
    its_item accepting =
        let found = adds.sender lists choice there accepting in
        let stamps : more.cause.stamp ≡ (next_cause (state_of e.frame_at old) w.now adds.event (Some found.0)).stamp = ap (λ (o : Option Sent). (next_cause (state_of e.frame_at old) w.now adds.event o).stamp) found.1 in
        record {
          item = found.0;
          is_sent = subst (λ (net : List (NodeState F)). item_for net p (state_of e.frame_at old) adds.event ≡ Some found.0) (sym (replayed lists)) found.2;
          is_body = came_of e p w.now old adds.event adds.item adds.body adds.pends found.0 found.1 accepting;
          in_turn = stamps;
        }

    pub adds_widens : IsMatched (map (records_of e.frame_at) lists) → Widens lists (slice_set lists p l)
    adds_widens matched =
        let journals = map (records_of e.frame_at) lists in
        let at : slice_get journals p ≡ Some (records_of e.frame_at old) = slice_get-map (records_of e.frame_at) lists p ∙ ap (option_map (records_of e.frame_at)) there in
        let kept = commits_keep_matched journals p (records_of e.frame_at old) more at matched its_item in
        let same : slice_set journals p (records_of e.frame_at old ++ more ∷ []) ≡ map (records_of e.frame_at) (slice_set lists p l) = ap (slice_set journals p) (sym records_are) ∙ sym (map_set (records_of e.frame_at) lists p l) in
        let state_at : slice_get (states_of e lists) p ≡ Some (state_of e.frame_at old) = slice_get-map (state_of e.frame_at) lists p ∙ ap (option_map (state_of e.frame_at)) there in
        let to : slice_set (states_of e lists) p (apply_effect (state_of e.frame_at old) more.cause more.effect) ≡ states_of e (slice_set lists p l) = ap (slice_set (states_of e lists) p) (sym state_is) ∙ sym (map_set (state_of e.frame_at) lists p l) in
        record {
          matched = subst IsMatched same kept;
          wider = subst (λ (net : List (NodeState F)). Wider (states_of e lists) net) to (set_wider (states_of e lists) p (state_of e.frame_at old) more.cause more.effect state_at);
        }
