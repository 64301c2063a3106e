-- Each cause but Start lowers what a network has left.
use Rattle.std.proofs.Common.{◌≡◌, ℕ, ◌+◌, ◌≤◌, ◌⊎◌, ⊎_elim, List, [], ◌∷◌, ◌++◌, Option, Some, None, Bool, true, false, cond, ◌==◌, not, map, filter, option_and_then, option_to_list, slice_get, slice_set, length, refl, sym, ap, subst, ◌∙◌, arith}
use Rattle.std.specs.Option.{option_len}
use Rattle.std.specs.List.{list_all}
use Rattle.std.proofs.lemmas.Bool.{and_parts, not-true, ne_eqb}
use Rattle.std.proofs.lemmas.Option.{slice_get_within}
use Rattle.net_base.specs.declared.names.Key.{Key}
use Rattle.net_base.specs.declared.values.Party.{Party}
use Rattle.net_base.specs.declared.causes.Cause.{Cause}
use Rattle.net_base.specs.declared.causes.Event.{Event}
use Rattle.net_base.specs.declared.causes.Event.TheVariants as event
use Rattle.net_base.proofs.Options.{some_eq}
use Rattle.session_wire.specs.declared.body.Body.{Body}
use Rattle.session_wire.specs.declared.body.Body.TheVariants as body_of
use Rattle.session_wire.specs.declared.change.SentItem.{SentItem}
use Rattle.flow_machine.specs.declared.acts.Act.{Act}
use Rattle.flow_machine.specs.declared.acts.Act.TheVariants as act
use Rattle.flow_machine.specs.declared.acts.Resumed.TheVariants as resumed
use Rattle.flow_machine.specs.declared.flows.Checkpoint.{Checkpoint}
use Rattle.flow_machine.specs.declared.flows.FlowState.{FlowState}
use Rattle.flow_machine.specs.declared.flows.FlowState.TheVariants as state
use Rattle.session_wire.specs.Sessions.{Sent, Session, changed_at, key_eq, new_session, opened_on, sent_on, taken_on, with_sent, with_taken}
use Rattle.session_wire.specs.Rules.{is_owner, sessions_of, item_on}
use Rattle.flow_machine.specs.Machine.{Machine}
use Rattle.net_model.specs.Environment.{Environment, party}
use Rattle.net_model.specs.State.{NodeState, FlowPart, now_live, Effect, Change, came_on, sessions_on, flow_of, flows_on, placed, apply_effect}
use Rattle.net_model.specs.Steps.{Done, live_at, checkpoint_of, place}
use Rattle.net_model.specs.Fits.{keys_differ, IsSound, Fits}
use Rattle.flow_machine.specs.Flows.{cost, Falls, is_fair}
use Rattle.net_model.specs.Left.{total, one_of, owns, flow_is_fair, flow_left, item_left, node_left}
use Rattle.net_model.proofs.Basics.{from_then}
use Rattle.net_model.proofs.Acts.{Performs, tells, opens_to, sends_on, takes_from, has_found, has_tagged, has_locked, has_answered, has_recorded, ends_top, Gives, goes, pushed, popped, finished, failed}
use Rattle.net_model.proofs.Sound.{keys_map, at_key, at_key_same, opened_kept, came_kept, came_count}
use Rattle.net_model.proofs.Totals.{total_append, total_set_le, total_same, Items, items_append, items_quiet, items_one}

-- ---- owners

owns_map : (f : ℕ) (change : Session → Session) (ss : List Session) → ((x : Session) → (change x).owner ≡ x.owner) → owns (map change ss) f ≡ owns ss f
owns_map f change ss h = total_same (λ x. one_of (is_owner f x.owner)) change ss (λ x. ap (λ (o : Option ℕ). one_of (is_owner f o)) (h x))

pub owns_changed : (f : ℕ) (key : Key) (change : Session → Session) (ss : List Session) → ((x : Session) → (change x).owner ≡ x.owner) → owns (changed_at key change ss) f ≡ owns ss f
owns_changed f key change ss h = owns_map f (λ x. cond (key_eq key x.key) (change x) x) ss (λ x. elim (key_eq key x.key) as (λ b. (cond b (change x) x).owner ≡ x.owner) [ true ↦ h x | false ↦ refl ])

pub owns_sent : (f stamp : ℕ) (items : List SentItem) (ss : List Session) → owns (sent_on stamp items ss) f ≡ owns ss f
owns_sent f stamp [] ss = refl
owns_sent f stamp (item ∷ items) ss = owns_sent f stamp items _ ∙ owns_changed f item.key (with_sent (record { body = item.body; stamp = stamp })) ss (λ x. refl)

owns_taken : (f : ℕ) (o : Option (Key × ℕ)) (ss : List Session) → owns (taken_on o ss) f ≡ owns ss f
owns_taken f None ss = refl
owns_taken f (Some taken) ss = owns_changed f taken.0 (with_taken taken.1) ss (λ x. refl)

pub owns_append : (f : ℕ) (ss : List Session) (x : Session) → owns (ss ++ x ∷ []) f ≡ owns ss f + one_of (is_owner f x.owner)
owns_append f ss x = let a = total_append (λ y. one_of (is_owner f y.owner)) ss (x ∷ []) in omega arith

owns_opened : (f g : ℕ) (o : Option (Key × Party)) (ss : List Session) → owns (opened_on o (Some f) ss) g ≤ owns ss g + option_len o
owns_opened f g None ss = omega arith
owns_opened f g (Some opened) ss =
    let a = owns_append g ss (new_session opened.0 opened.1 (Some f) []) in
    elim (g == f) as (λ b. owns (ss ++ new_session opened.0 opened.1 (Some f) [] ∷ []) g ≡ owns ss g + one_of b → owns (ss ++ new_session opened.0 opened.1 (Some f) [] ∷ []) g ≤ owns ss g + 1) [ true ↦ λ e. omega arith | false ↦ λ e. omega arith ] a

owns_other : (f g : ℕ) (o : Option (Key × Party)) (ss : List Session) → (g ≡ f → ⊥) → owns (opened_on o (Some f) ss) g ≡ owns ss g
owns_other f g None ss h = refl
owns_other f g (Some opened) ss h = let a = owns_append g ss (new_session opened.0 opened.1 (Some f) []) in let e : (g == f) ≡ false = ne_eqb g f h in let b : one_of (g == f) ≡ 0 = ap one_of e in omega arith

owns_counted : (f : ℕ) (ss : List Session) → length (filter (λ x. is_owner f x.owner) ss) ≡ owns ss f
owns_counted f [] = refl
owns_counted f (x ∷ xs) = let a = owns_counted f xs in elim (is_owner f x.owner) as (λ b. length (cond b (x ∷ filter (λ y. is_owner f y.owner) xs) (filter (λ y. is_owner f y.owner) xs)) ≡ one_of b + owns xs f) [ true ↦ omega arith | false ↦ omega arith ]

-- ---- what an act costs

module _ {F : Type 0} (m : Machine F) where
  abbrev pub sent_left : List SentItem → ℕ
  sent_left items = total (λ item. item_left m item.body) items

  abbrev pub bare : Checkpoint F → ℕ
  bare at = m.weight at.stack.top + total m.weight at.stack.below + cost m at.waiting

  pub costs : (a : Act F) → 1 ≤ cost m a
  costs (act.Open to class first) = omega arith
  costs (act.Send key value) = omega arith
  costs (act.Sub frame) = omega arith
  costs (act.Receive key) = omega arith
  costs (act.ReceiveBy key until) = omega arith
  costs (act.Sleep until) = omega arith
  costs (act.Verify tx) = omega arith
  costs (act.Reserve token amount) = omega arith
  costs (act.Lookup id) = omega arith
  costs (act.Missing tx) = omega arith
  costs (act.Sign id) = omega arith
  costs (act.Notarise request) = omega arith
  costs (act.Record stx) = omega arith
  costs (act.Return value) = omega arith
  costs (act.Fail code) = omega arith

  pub top_fair : (frame : F) (a : Act F) → is_fair m frame a ≡ true → ends_top a ≡ false → m.over frame ≡ false
  top_fair frame (act.Return value) h k = cc
  top_fair frame (act.Fail code) h k = cc
  top_fair frame (act.Sub child) h k = not-true _ (and_parts (not (m.over frame)) (not (m.over child)) h).0
  top_fair frame (act.Open to class first) h k = not-true _ h
  top_fair frame (act.Send key value) h k = not-true _ h
  top_fair frame (act.Receive key) h k = not-true _ h
  top_fair frame (act.ReceiveBy key until) h k = not-true _ h
  top_fair frame (act.Sleep until) h k = not-true _ h
  top_fair frame (act.Verify tx) h k = not-true _ h
  top_fair frame (act.Reserve token amount) h k = not-true _ h
  top_fair frame (act.Lookup id) h k = not-true _ h
  top_fair frame (act.Missing tx) h k = not-true _ h
  top_fair frame (act.Sign id) h k = not-true _ h
  top_fair frame (act.Notarise request) h k = not-true _ h
  top_fair frame (act.Record stx) h k = not-true _ h

module _ {F : Type 0} (w : Environment F) (me : ℕ) (s : NodeState F) (now : ℕ) (falls : Falls w.machine) where
  abbrev spent : Change → ℕ
  spent c = option_len c.opened + sent_left w.machine c.sent

  done_spends : (f : ℕ) (a : Act F) (d : Done) → Performs w me s now f a d → spent d.1 + 1 ≤ cost w.machine a
  done_spends f a d (tells told e) = let z = ap spent e in let c = costs w.machine a in omega arith
  done_spends f a d (opens_to to class first i j k e) = let z = ap (λ (x : Done). spent x.1) e in let c = ap (cost w.machine) i in omega arith
  done_spends f a d (sends_on key value session i j e) = let z = ap (λ (x : Done). spent x.1) e in let c = ap (cost w.machine) i in omega arith
  done_spends f a d (takes_from key session next i j e) = let z = ap (λ (x : Done). spent x.1) e in let c = costs w.machine a in omega arith
  done_spends f a d (has_found id stx i e) = let z = ap (λ (x : Done). spent x.1) e in let c = costs w.machine a in omega arith
  done_spends f a d (has_tagged id i e) = let z = ap (λ (x : Done). spent x.1) e in let c = costs w.machine a in omega arith
  done_spends f a d (has_locked token amount list i e) = let z = ap (λ (x : Done). spent x.1) e in let c = costs w.machine a in omega arith
  done_spends f a d (has_answered q i e) = let z = ap (λ (x : Done). spent x.1) e in let c = costs w.machine a in omega arith
  done_spends f a d (has_recorded stx states i j k l n o e) = let z = ap (λ (x : Done). spent x.1) e in let c = costs w.machine a in omega arith

  -- the flow is left with less, or it ends and sends one item in each session
  pub data Lowers (at : Checkpoint F) (e : Effect F) : Type 0 where
    lives : (new : Checkpoint F) → e.flow ≡ now_live new → new.flow ≡ at.flow → bare w.machine new + spent e.change + 1 ≤ bare w.machine at → Lowers at e
    dies : (x : FlowState F) → ((flows : List (FlowState F)) → flows_on e.flow flows ≡ placed flows at.flow x) → ((ss : List Session) → flow_left w.machine ss x ≡ 0) → flow_of e.flow ≡ Some at.flow → e.change.opened ≡ None → sent_left w.machine e.change.sent ≤ owns s.sessions at.flow → Lowers at e

  last_total : (body : Body) (xs : List Session) → item_left w.machine body ≡ 1 → sent_left w.machine (map (λ x. item_on (party me) x body) xs) ≡ length xs
  last_total body [] h = refl
  last_total body (x ∷ xs) h = let a = last_total body xs h in omega arith

  module _ (at : Checkpoint F) (fair : flow_is_fair w.machine (state.Live at) ≡ true) where
    abbrev m : Machine F
    m = w.machine

    act_fair : is_fair m at.stack.top at.waiting ≡ true
    act_fair = (and_parts (is_fair m at.stack.top at.waiting) _ fair).0

    below_fair : list_all (λ frame. not (m.over frame)) at.stack.below ≡ true
    below_fair = (and_parts (is_fair m at.stack.top at.waiting) _ fair).1

    low : (e x : Effect F) → e ≡ x → Lowers at x → Lowers at e
    low e x i k = subst (Lowers at) (sym i) k

    pub gives_lowers : (e : Effect F) → Gives w me s now at at.waiting e → Lowers at e
    gives_lowers e (goes d o p i) =
        let less = falls at.stack.top d.0 (place w me at.flow at.step now) (top_fair m at.stack.top at.waiting act_fair o) in
        let c = done_spends at.flow at.waiting d p in
        low e _ i (lives _ refl refl (omega arith))
    gives_lowers e (pushed frame i j k) =
        let c = ap (cost m) i in
        let f : is_fair m at.stack.top (act.Sub frame) ≡ true = ap (is_fair m at.stack.top) (sym i) ∙ act_fair in
        let less = falls frame resumed.Started (place w me at.flow at.step now) (not-true _ (and_parts (not (m.over at.stack.top)) (not (m.over frame)) f).1) in
        low e _ k (lives _ refl refl (omega arith))
    gives_lowers e (popped value frame below i j k) =
        let c = ap (cost m) i in
        let f : list_all (λ x. not (m.over x)) (frame ∷ below) ≡ true = ap (list_all (λ x. not (m.over x))) (sym j) ∙ below_fair in
        let less = falls frame (resumed.Returned value) (place w me at.flow at.step now) (not-true _ (and_parts (not (m.over frame)) (list_all (λ x. not (m.over x)) below) f).0) in
        let b = ap (total m.weight) j in
        low e _ k (lives _ refl refl (omega arith))
    gives_lowers e (finished value i j k) =
        let a = last_total body_of.End (sessions_of at.flow s.sessions) refl in let b = owns_counted at.flow s.sessions in
        low e _ k (dies (state.Ended (at.step + 1) at.class value) (λ flows. refl) (λ ss. refl) refl refl (omega arith))
    gives_lowers e (failed code i k) =
        let a = last_total (body_of.Error code) (sessions_of at.flow s.sessions) refl in let b = owns_counted at.flow s.sessions in
        low e _ k (dies (state.Failed (at.step + 1) at.class code) (λ flows. refl) (λ ss. refl) refl refl (omega arith))

-- ---- a node that acts, with what arrived held fixed

module _ {F : Type 0} (w : Environment F) (net : List (NodeState F)) where
  abbrev S : List Session → ℕ
  S ss = Items w net ss

  pub items_sent : (stamp : ℕ) (items : List SentItem) (ss : List Session) → keys_differ ss ≡ true → S (sent_on stamp items ss) ≤ S ss + sent_left w.machine items
  items_sent stamp [] ss h = omega arith
  items_sent stamp (item ∷ items) ss h =
      let y : Sent = record { body = item.body; stamp = stamp } in
      let a = items_one w net item.key y ss h in
      let b = items_sent stamp items (changed_at item.key (with_sent y) ss) (keys_map (at_key item.key (with_sent y)) (at_key_same item.key (with_sent y) (λ x. refl)) ss ∙ h) in omega arith

  items_taken : (o : Option (Key × ℕ)) (ss : List Session) → S (taken_on o ss) ≡ S ss
  items_taken None ss = refl
  items_taken (Some taken) ss = items_quiet w net taken.0 (with_taken taken.1) ss (λ x. refl)

  items_opened : (o : Option (Key × Party)) (owner : Option ℕ) (ss : List Session) → S (opened_on o owner ss) ≡ S ss
  items_opened None owner ss = refl
  items_opened (Some opened) owner ss = items_append w net ss (new_session opened.0 opened.1 owner []) refl

  pub node_parts : (s : NodeState F) (cause : Cause) (e : Effect F) → node_left w net (apply_effect s cause e) ≡ total (flow_left w.machine (sessions_on cause e s.sessions)) (flows_on e.flow s.flows) + S (sessions_on cause e s.sessions)
  unfolding apply_effect
  node_parts s cause e = refl

pub came_none : (ev : Event) (f : ℕ) (bodies : List Body) (owner : Option ℕ) (ss : List Session) → (ev ≡ event.Move f) ⊎ (ev ≡ event.Lapse f) → came_on ev bodies owner ss ≡ ss
came_none ev f bodies owner ss h = ⊎_elim (λ k. ap (λ (v : Event). came_on v bodies owner ss) k) (λ k. ap (λ (v : Event). came_on v bodies owner ss) k) h

checkpoint_live : {F : Type 0} (x : FlowState F) (at : Checkpoint F) → checkpoint_of x ≡ Some at → x ≡ state.Live at
checkpoint_live (state.Live y) at h = ap state.Live (some_eq h)
checkpoint_live (state.Ended step class v) at h = cc
checkpoint_live (state.Failed step class code) at h = cc

pub live_get : {F : Type 0} (s : NodeState F) (f : ℕ) (at : Checkpoint F) → live_at s f ≡ Some at → slice_get s.flows f ≡ Some (state.Live at)
live_get s f at h = from_then _ checkpoint_of (slice_get s.flows f) at h (λ x is k. is ∙ ap Some (checkpoint_live x at k))

module _ {F : Type 0} (w : Environment F) (net : List (NodeState F)) (me : ℕ) (s : NodeState F) (sound : IsSound me s) where
  other_flows : (old new : List Session) (i : ℕ) → ((g : ℕ) → (g ≡ i → ⊥) → owns new g ≡ owns old g) → (j : ℕ) (y : FlowState F) → (j ≡ i → ⊥) → slice_get s.flows j ≡ Some y → flow_left w.machine new y ≤ flow_left w.machine old y
  other_flows old new i f j (state.Live at) ne is =
      let there : at.flow ≡ j = sound.numbered j at (ap (option_and_then checkpoint_of) is) in
      let same = f at.flow (λ k. ne (sym there ∙ k)) in omega arith
  other_flows old new i f j (state.Ended step class v) ne is = omega arith
  other_flows old new i f j (state.Failed step class code) ne is = omega arith

  node_acts : (cause : Cause) (e : Effect F) (f : ℕ) (at : Checkpoint F) → Fits w me s cause e → (cause.event ≡ event.Move f) ⊎ (cause.event ≡ event.Lapse f) → live_at s f ≡ Some at → flow_of e.flow ≡ Some at.flow → (x : FlowState F) → flows_on e.flow s.flows ≡ placed s.flows at.flow x
      → flow_left w.machine (sessions_on cause e s.sessions) x + sent_left w.machine e.change.sent + 1 ≤ flow_left w.machine s.sessions (state.Live at)
      → node_left w net (apply_effect s cause e) + 1 ≤ node_left w net s
  node_acts cause e f at fits ev is owner x flows less =
      let came = came_none cause.event f (option_to_list e.change.came) (flow_of e.flow) s.sessions ev in
      let before = came_on cause.event (option_to_list e.change.came) (flow_of e.flow) s.sessions in
      let opened = opened_on e.change.opened (flow_of e.flow) before in
      let after = sessions_on cause e s.sessions in
      let kept = opened_kept w me s sound e.change.opened (flow_of e.flow) e.change.sent opened before (came_count w me s sound cause.event e fits.event) fits.change.opened (came_kept w me s sound cause.event e fits.event) in
      let a = items_sent w net cause.stamp e.change.sent opened kept.keys in
      let b = items_taken w net e.change.taken (sent_on cause.stamp e.change.sent opened) in
      let c = items_opened w net e.change.opened (flow_of e.flow) before in
      let d = ap (Items w net) came in
      let there : at.flow ≡ f = sound.numbered f at is in
      let get : slice_get s.flows at.flow ≡ Some (state.Live at) = ap (slice_get s.flows) there ∙ live_get s f at is in
      let small = slice_get_within s.flows at.flow (state.Live at) get in
      let not_new : (at.flow == length s.flows) ≡ false = ne_eqb at.flow (length s.flows) (λ k. omega arith) in
      let set : flows_on e.flow s.flows ≡ slice_set s.flows at.flow x = flows ∙ ap (λ (t : Bool). cond t (s.flows ++ x ∷ []) (slice_set s.flows at.flow x)) not_new in
      let same : (g : ℕ) → (g ≡ at.flow → ⊥) → owns after g ≡ owns s.sessions g = λ g ne.
      owns_taken g e.change.taken (sent_on cause.stamp e.change.sent opened) ∙ (owns_sent g cause.stamp e.change.sent opened ∙ (ap (λ (o : Option ℕ). owns (opened_on e.change.opened o before) g) owner ∙ (owns_other at.flow g e.change.opened before ne ∙ ap (λ (l : List Session). owns l g) came))) in
      let sum = total_set_le (flow_left w.machine after) (flow_left w.machine s.sessions) s.flows at.flow (state.Live at) x get (λ j y ne k. other_flows s.sessions after at.flow same j y ne k) in
      let parts = node_parts w net s cause e in
      let total_is = ap (total (flow_left w.machine after)) set in
      omega arith

  pub acts_lower : (now : ℕ) (falls : Falls w.machine) (cause : Cause) (e : Effect F) (f : ℕ) (at : Checkpoint F) → Fits w me s cause e → (cause.event ≡ event.Move f) ⊎ (cause.event ≡ event.Lapse f) → live_at s f ≡ Some at → 1 ≤ bare w.machine at → Lowers w me s now falls at e → node_left w net (apply_effect s cause e) + 1 ≤ node_left w net s
  acts_lower now falls cause e f at fits ev is some (lives new flow number less) =
      let owner : flow_of e.flow ≡ Some at.flow = ap flow_of flow ∙ ap Some number in
      let came = came_none cause.event f (option_to_list e.change.came) (flow_of e.flow) s.sessions ev in
      let before = came_on cause.event (option_to_list e.change.came) (flow_of e.flow) s.sessions in
      let opened = opened_on e.change.opened (flow_of e.flow) before in
      let a = owns_taken at.flow e.change.taken (sent_on cause.stamp e.change.sent opened) in
      let b = owns_sent at.flow cause.stamp e.change.sent opened in
      let c = ap (λ (o : Option ℕ). owns (opened_on e.change.opened o before) at.flow) owner in
      let d = owns_opened at.flow at.flow e.change.opened before in
      let g = ap (λ (l : List Session). owns l at.flow) came in
      let h = ap (owns (sessions_on cause e s.sessions)) number in
      node_acts cause e f at fits ev is owner (state.Live new) (ap (λ (p : FlowPart F). flows_on p s.flows) flow ∙ ap (λ (n : ℕ). placed s.flows n (state.Live new)) number) (omega arith)
  acts_lower now falls cause e f at fits ev is some (dies x flows zero_left owner opened sent) =
      let z = zero_left (sessions_on cause e s.sessions) in
      node_acts cause e f at fits ev is owner x (flows s.flows) (omega arith)
