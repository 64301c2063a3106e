-- In a run what is left falls at each cause but Start.
use Rattle.std.proofs.Common.{◌≡◌, ℕ, ◌+◌, ◌<◌, ◌≤◌, ⊎_elim, List, [], ◌∷◌, ◌++◌, Option, Some, None, Bool, true, false, cond, ◌==◌, not, nat_lt, drop, is_none, option_map, option_and_then, option_to_list, slice_get, slice_set, length, refl, sym, ap, subst, ◌∙◌, arith, length-append, length-set}
use Rattle.std.specs.List.{list_all}
use Rattle.std.proofs.lemmas.Bool.{and_parts, and_from, eqb-true, eq-eqb, ne_eqb, ltb-true, lt-ltb}
use Rattle.std.proofs.lemmas.Option.{slice_get_within}
use Rattle.net_base.specs.declared.names.Key.{Key}
use Rattle.net_base.specs.declared.values.Party.{Party}
use Rattle.net_base.specs.declared.causes.Cause.{Cause}
use Rattle.net_base.specs.declared.causes.Event.{Event}
use Rattle.net_base.specs.declared.causes.Event.TheVariants as event
use Rattle.net_base.proofs.Options.{none_of, some_eq}
use Rattle.net_base.proofs.Lists.{find_map, get_there, find_test, find_push, passes_weaken}
use Rattle.ledger_types.specs.declared.value.Value.{Value}
use Rattle.session_wire.specs.declared.body.Body.{Body}
use Rattle.session_wire.specs.declared.body.Body.TheVariants as body_of
use Rattle.session_wire.specs.declared.change.SentItem.{SentItem}
use Rattle.flow_machine.specs.declared.acts.Act.{Act}
use Rattle.flow_machine.specs.declared.acts.Act.TheVariants as act
use Rattle.flow_machine.specs.declared.flows.Checkpoint.{Checkpoint}
use Rattle.flow_machine.specs.declared.flows.FlowState.{FlowState}
use Rattle.flow_machine.specs.declared.flows.FlowState.TheVariants as state
use Rattle.session_wire.specs.Sessions.{Sent, Session, changed_at, key_eq, new_session, opened_on, sent_on, session_of, taken_on, with_came, with_sent, with_taken}
use Rattle.session_wire.specs.Rules.{is_owner, is_new_key, direction_in}
use Rattle.session_wire.proofs.Keys.{key_exact, key_same}
use Rattle.flow_machine.specs.Machine.{Machine}
use Rattle.net_model.specs.Environment.{Environment, party}
use Rattle.net_model.specs.State.{NodeState, FlowPart, no_flow, now_live, now_ended, now_failed, Effect, nothing, came_on, sessions_on, flow_of, flows_on, placed, apply_effect, fresh}
use Rattle.net_model.specs.Steps.{place, live_at, checkpoint_of, answering, body_in}
use Rattle.net_model.specs.Runs.{sent_to, item_from, item_for, net_step, fresh_net, run_from, run_of}
use Rattle.net_model.specs.Fits.{IsSound, Fits, keys_differ}
use Rattle.flow_machine.specs.Flows.{Falls, LoadHolds, is_fair, OversHold}
use Rattle.net_model.specs.Left.{total, one_of, owns, flow_is_fair, flow_left, item_left, came_in, arrived_at, session_left, node_left, left, is_start, owner_below, IsFair, AreFair, LeftFalls}
use Rattle.net_model.proofs.Basics.{from_then, from_cond, get_set, apply_sessions}
use Rattle.net_model.proofs.Effects.{step_taken}
use Rattle.net_model.proofs.Local.{net_taken}
use Rattle.net_model.proofs.Acts.{Gives, goes, pushed, popped, finished, failed, Does, starts, answers_to, arrives, acts, effect_does}
use Rattle.net_model.proofs.Lists.{all_append, all_one, all_set, all_get, all_mapped}
use Rattle.net_model.proofs.Local.{body_in_item}
use Rattle.net_model.proofs.Basics.{fresh_get}
use Rattle.net_model.proofs.Fitting.{step_fits}
use Rattle.net_model.proofs.Sound.{fits_sound, fresh_sound, came_kept}
use Rattle.net_model.proofs.Totals.{sessions_come, rest_come, total_le, total_append, total_set, total_less, total_find, drop_less, drop_first, Items, items_append, items_quiet, total_all}
use Rattle.net_model.proofs.Falling.{costs, gives_lowers, acts_lower, node_parts, owns_append, owns_changed, owns_sent, live_get, items_sent}

-- ---- fair flows stay fair

abbrev part_is_fair : {F : Type 0} → Machine F → FlowPart F → Bool
part_is_fair m no_flow = true
part_is_fair m (now_live at) = flow_is_fair m (state.Live at)
part_is_fair m (now_ended f step class v) = true
part_is_fair m (now_failed f step class code) = true

length_placed : {F : Type 0} (flows : List (FlowState F)) (f : ℕ) (x : FlowState F) → length flows ≤ length (placed flows f x)
length_placed flows f x = let a = length-append flows (x ∷ []) in let b = length-set flows f x in elim (f == length flows) as (λ b. length flows ≤ length (cond b (flows ++ x ∷ []) (slice_set flows f x))) [ true ↦ omega arith | false ↦ omega arith ]

length_on : {F : Type 0} (p : FlowPart F) (flows : List (FlowState F)) → length flows ≤ length (flows_on p flows)
length_on no_flow flows = omega arith
length_on (now_live at) flows = length_placed flows at.flow (state.Live at)
length_on (now_ended f step class v) flows = length_placed flows f (state.Ended step class v)
length_on (now_failed f step class code) flows = length_placed flows f (state.Failed step class code)

module _ {F : Type 0} (m : Machine F) where
  fair_placed : (flows : List (FlowState F)) (f : ℕ) (x : FlowState F) → list_all (flow_is_fair m) flows ≡ true → flow_is_fair m x ≡ true → list_all (flow_is_fair m) (placed flows f x) ≡ true
  fair_placed flows f x h k = elim (f == length flows) as (λ b. list_all (flow_is_fair m) (cond b (flows ++ x ∷ []) (slice_set flows f x)) ≡ true) [ true ↦ all_append (flow_is_fair m) flows (x ∷ []) h (all_one (flow_is_fair m) x k) | false ↦ all_set (flow_is_fair m) flows f x h k ]

  fair_on : (p : FlowPart F) (flows : List (FlowState F)) → part_is_fair m p ≡ true → list_all (flow_is_fair m) flows ≡ true → list_all (flow_is_fair m) (flows_on p flows) ≡ true
  fair_on no_flow flows k h = h
  fair_on (now_live at) flows k h = fair_placed flows at.flow (state.Live at) h k
  fair_on (now_ended f step class v) flows k h = fair_placed flows f (state.Ended step class v) h refl
  fair_on (now_failed f step class code) flows k h = fair_placed flows f (state.Failed step class code) h refl

  abbrev Below : ℕ → List Session → Type 0
  Below n ss = list_all (λ x. owner_below n x.owner) ss ≡ true

  below_changed : (n : ℕ) (key : Key) (change : Session → Session) (ss : List Session) → ((x : Session) → (change x).owner ≡ x.owner) → Below n ss → Below n (changed_at key change ss)
  below_changed n key change ss f h = all_mapped (λ x. owner_below n x.owner) (λ x. cond (key_eq key x.key) (change x) x) ss (λ x k. elim (key_eq key x.key) as (λ b. owner_below n (cond b (change x) x).owner ≡ true) [ true ↦ ap (owner_below n) (f x) ∙ k | false ↦ k ]) h

  below_append : (n : ℕ) (ss : List Session) (x : Session) → Below n ss → owner_below n x.owner ≡ true → Below n (ss ++ x ∷ [])
  below_append n ss x h k = all_append (λ y. owner_below n y.owner) ss (x ∷ []) h (all_one (λ y. owner_below n y.owner) x k)

  below_came : (n : ℕ) (ev : Event) (bodies : List Body) (owner : Option ℕ) (ss : List Session) → owner_below n owner ≡ true → Below n ss → Below n (came_on ev bodies owner ss)
  below_came n (event.Answer key) bodies owner ss k h = below_append n ss _ h k
  below_came n (event.Arrive key direction number) bodies owner ss k h = below_changed n key (with_came bodies) ss (λ x. refl) h
  below_came n (event.Start f class args) bodies owner ss k h = h
  below_came n (event.Move f) bodies owner ss k h = h
  below_came n (event.Lapse f) bodies owner ss k h = h

  below_opened : (n : ℕ) (o : Option (Key × Party)) (owner : Option ℕ) (ss : List Session) → owner_below n owner ≡ true → Below n ss → Below n (opened_on o owner ss)
  below_opened n None owner ss k h = h
  below_opened n (Some opened) owner ss k h = below_append n ss _ h k

  below_sent : (n stamp : ℕ) (items : List SentItem) (ss : List Session) → Below n ss → Below n (sent_on stamp items ss)
  below_sent n stamp [] ss h = h
  below_sent n stamp (item ∷ items) ss h = below_sent n stamp items _ (below_changed n item.key (with_sent (record { body = item.body; stamp = stamp })) ss (λ x. refl) h)

  below_taken : (n : ℕ) (o : Option (Key × ℕ)) (ss : List Session) → Below n ss → Below n (taken_on o ss)
  below_taken n None ss h = h
  below_taken n (Some taken) ss h = below_changed n taken.0 (with_taken taken.1) ss (λ x. refl) h

  below_more : (n k : ℕ) (o : Option ℕ) → n ≤ k → owner_below n o ≡ true → owner_below k o ≡ true
  below_more n k None l h = refl
  below_more n k (Some f) l h = let a = ltb-true f n h in lt-ltb f k (omega arith)

  fair_applied : (s : NodeState F) (cause : Cause) (e : Effect F) → IsFair m s → part_is_fair m e.flow ≡ true → owner_below (length (flows_on e.flow s.flows)) (flow_of e.flow) ≡ true → IsFair m (apply_effect s cause e)
  unfolding apply_effect
  fair_applied s cause e h fair owner =
      let n = length (flows_on e.flow s.flows) in
      let old : Below n s.sessions = passes_weaken (λ x. owner_below (length s.flows) x.owner) (λ x. owner_below n x.owner) s.sessions (λ x k. below_more (length s.flows) n x.owner (length_on e.flow s.flows) k) h.owners in
      record {
        flows = fair_on e.flow s.flows fair h.flows;
        owners = below_taken n e.change.taken _ (below_sent n cause.stamp e.change.sent _ (below_opened n e.change.opened (flow_of e.flow) _ owner (below_came n cause.event (option_to_list e.change.came) (flow_of e.flow) s.sessions owner old)));
      }

-- what a defined event makes is fair, and its flow stands in the table
record Fairly {F : Type 0} (m : Machine F) (flows : List (FlowState F)) (p : FlowPart F) : Type 0 where
  fair : part_is_fair m p ≡ true
  owner : owner_below (length (flows_on p flows)) (flow_of p) ≡ true

at_end : {F : Type 0} (flows : List (FlowState F)) (f : ℕ) (x : FlowState F) → f ≡ length flows → nat_lt f (length (placed flows f x)) ≡ true
at_end flows f x h = let a = length-append flows (x ∷ []) in lt-ltb f (length (placed flows f x)) (rw (eq-eqb f (length flows) h) (omega arith))

within : {F : Type 0} (flows : List (FlowState F)) (f : ℕ) (x : FlowState F) → f < length flows → nat_lt f (length (placed flows f x)) ≡ true
within flows f x h = let a = length_placed flows f x in lt-ltb f (length (placed flows f x)) (omega arith)

module _ {F : Type 0} (w : Environment F) (me : ℕ) (s : NodeState F) (now : ℕ) (overs : OversHold w.machine) (sound : IsSound me s) (is_fair_now : IsFair w.machine s) where
  fair_at : (f : ℕ) (at : Checkpoint F) → live_at s f ≡ Some at → flow_is_fair w.machine (state.Live at) ≡ true
  fair_at f at h = all_get (flow_is_fair w.machine) s.flows f (state.Live at) is_fair_now.flows (live_get s f at h)

  gives_fair : (at : Checkpoint F) (e : Effect F) → at.flow < length s.flows → flow_is_fair w.machine (state.Live at) ≡ true → Gives w me s now at at.waiting e → Fairly w.machine s.flows e.flow
  gives_fair at e small fair (goes d o p i) =
      let f = and_parts (is_fair w.machine at.stack.top at.waiting) (list_all (λ x. not (w.machine.over x)) at.stack.below) fair in
      subst (λ (x : Effect F). Fairly w.machine s.flows x.flow) (sym i) (record { fair = and_from _ _ (overs.next at.stack.top d.0 (place w me at.flow at.step now)) f.1; owner = within s.flows at.flow _ small })
  gives_fair at e small fair (pushed frame i j k) =
      let f = and_parts (is_fair w.machine at.stack.top at.waiting) (list_all (λ x. not (w.machine.over x)) at.stack.below) fair in
      let g : is_fair w.machine at.stack.top (act.Sub frame) ≡ true = ap (is_fair w.machine at.stack.top) (sym i) ∙ f.0 in
      let t = (and_parts (not (w.machine.over at.stack.top)) (not (w.machine.over frame)) g).0 in
      subst (λ (x : Effect F). Fairly w.machine s.flows x.flow) (sym k) (record { fair = and_from _ _ (overs.next frame _ (place w me at.flow at.step now)) (and_from _ _ t f.1); owner = within s.flows at.flow _ small })
  gives_fair at e small fair (popped value frame below i j k) =
      let f = and_parts (is_fair w.machine at.stack.top at.waiting) (list_all (λ x. not (w.machine.over x)) at.stack.below) fair in
      let b : list_all (λ x. not (w.machine.over x)) (frame ∷ below) ≡ true = ap (list_all (λ x. not (w.machine.over x))) (sym j) ∙ f.1 in
      subst (λ (x : Effect F). Fairly w.machine s.flows x.flow) (sym k) (record { fair = and_from _ _ (overs.next frame _ (place w me at.flow at.step now)) (and_parts (not (w.machine.over frame)) (list_all (λ x. not (w.machine.over x)) below) b).1; owner = within s.flows at.flow _ small })
  gives_fair at e small fair (finished value i j k) = subst (λ (x : Effect F). Fairly w.machine s.flows x.flow) (sym k) (record { fair = refl; owner = within s.flows at.flow _ small })
  gives_fair at e small fair (failed code i k) = subst (λ (x : Effect F). Fairly w.machine s.flows x.flow) (sym k) (record { fair = refl; owner = within s.flows at.flow _ small })

  answering_fair : (key : Key) (class : ℕ) (init : Body) (o : Option (F × Act F)) → w.machine.begun class key (place w me (length s.flows) 0 now) ≡ o → Fairly w.machine s.flows (answering key (length s.flows) class init o).flow
  answering_fair key class init None i = record { fair = refl; owner = refl }
  answering_fair key class init (Some made) i = record { fair = and_from _ _ (overs.begun class key _ made i) refl; owner = at_end s.flows (length s.flows) _ refl }

  does_fair : (ev : Event) (body : Option Body) (e : Effect F) → Does w me s now ev body e → Fairly w.machine s.flows e.flow
  does_fair ev body e (starts f class args made i j k l) = subst (λ (x : Effect F). Fairly w.machine s.flows x.flow) (sym l) (record { fair = and_from _ _ (overs.made class args _ made k) refl; owner = at_end s.flows f _ j })
  does_fair ev body e (answers_to key class first i j k l) = subst (λ (x : Effect F). Fairly w.machine s.flows x.flow) (sym l) (answering_fair key class _ _ refl)
  does_fair ev body e (arrives key direction number b session i j k l o) = subst (λ (x : Effect F). Fairly w.machine s.flows x.flow) (sym o) (record { fair = refl; owner = refl })
  does_fair ev body e (acts f at i j g) =
      let there : at.flow ≡ f = sound.numbered f at j in
      let l = slice_get_within s.flows f (state.Live at) (live_get s f at j) in
      gives_fair at e (omega arith) (fair_at f at j) g

-- ---- what arrived grows, and so what is left of other nodes doesn't

module _ {F : Type 0} (w : Environment F) (net : List (NodeState F)) (p : ℕ) (s : NodeState F) (cause : Cause) (e : Effect F) (is : slice_get net p ≡ Some s) where
  abbrev New : List (NodeState F)
  New = slice_set net p (apply_effect s cause e)

  came_more : (key : Key) → came_in (session_of key s.sessions) ≤ came_in (session_of key (apply_effect s cause e).sessions)
  came_more key = let a = (sessions_come cause e s.sessions).less key in let b = ap (λ (l : List Session). came_in (session_of key l)) (apply_sessions s cause e) in omega arith

  arrived_more : (q : ℕ) (key : Key) → arrived_at (slice_get net q) key ≤ arrived_at (slice_get New q) key
  arrived_more q key = ⊎_elim
      (λ k. let a = ap (λ (o : Option (NodeState F)). arrived_at o key) k.1 in let b = ap (λ (o : Option (NodeState F)). arrived_at o key) (ap (slice_get net) k.0 ∙ is) in let c = came_more key in omega arith)
      (λ k. let a = ap (λ (o : Option (NodeState F)). arrived_at o key) k in omega arith)
      (get_set net p s (apply_effect s cause e) q is)

  session_less : (x : Session) → session_left w New x ≤ session_left w net x
  session_less x = drop_less (λ (i : Sent). item_left w.machine i.body) _ _ x.sent (arrived_more x.peer.0 x.key)

  node_less : (t : NodeState F) → node_left w New t ≤ node_left w net t
  node_less t = let a = total_le (session_left w New) (session_left w net) t.sessions session_less in omega arith

  -- the node itself has less
  left_own : node_left w New (apply_effect s cause e) + 1 ≤ node_left w New s → left w New + 1 ≤ left w net
  left_own h =
      let a = total_set (node_left w New) net p s (apply_effect s cause e) is in
      let b = total_le (node_left w New) (node_left w net) net node_less in omega arith

  -- a sender has less by what the node took
  left_taken : (q n : ℕ) (key : Key) (item : Sent) (extra : ℕ) → item_from net p q key n ≡ Some item → came_in (session_of key s.sessions) ≡ n → n + 1 ≤ came_in (session_of key (apply_effect s cause e).sessions) → node_left w New (apply_effect s cause e) ≤ node_left w New s + extra → extra + 1 ≤ item_left w.machine item.body → left w New + 1 ≤ left w net
  unfolding item_from
  left_taken q n key item extra from now after own more =
      from_then _ (λ t. sent_to p n (session_of key t.sessions)) (slice_get net q) item from (λ t there k.
      let c = sender t (session_of key t.sessions) refl k in
      let a = total_set (node_left w New) net p s (apply_effect s cause e) is in
      let b = total_less (node_left w New) (node_left w net) net q t (item_left w.machine item.body) node_less there c in omega arith)
    where
      sender : (t : NodeState F) (o : Option Session) → session_of key t.sessions ≡ o → sent_to p n o ≡ Some item → node_left w New t + item_left w.machine item.body ≤ node_left w net t
      sender t None i k = cc
      sender t (Some x) i k = from_cond _ (x.peer.0 == p) (slice_get x.sent n) item k (λ to get.
          let peer : x.peer.0 ≡ p = eqb-true x.peer.0 p to in
          let own : key ≡ x.key = key_exact key x.key (find_test (λ y. key_eq key y.key) t.sessions x i) in
          let old : arrived_at (slice_get net x.peer.0) x.key ≡ n = ap (λ (j : ℕ). arrived_at (slice_get net j) x.key) peer ∙ (ap (λ (o : Option (NodeState F)). arrived_at o x.key) is ∙ (ap (λ (y : Key). came_in (session_of y s.sessions)) (sym own) ∙ now)) in
          let new : arrived_at (slice_get New x.peer.0) x.key ≡ came_in (session_of key (apply_effect s cause e).sessions) = ap (λ (j : ℕ). arrived_at (slice_get New j) x.key) peer ∙ (ap (λ (o : Option (NodeState F)). arrived_at o x.key) (get_there net p s (apply_effect s cause e) is) ∙ ap (λ (y : Key). came_in (session_of y (apply_effect s cause e).sessions)) (sym own)) in
          let f = λ (i : Sent). item_left w.machine i.body in
          let a = drop_less f (n + 1) (arrived_at (slice_get New x.peer.0) x.key) x.sent (omega arith) in
          let b = drop_first f n x.sent item get in
          let c = ap (λ (j : ℕ). total f (drop j x.sent)) old in
          let d : session_left w New x + item_left w.machine item.body ≤ session_left w net x = omega arith in
          let g = total_find (λ y. key_eq key y.key) (session_left w New) (session_left w net) t.sessions x (item_left w.machine item.body) session_less i d in omega arith)

-- ---- a node that accepts an item, with what arrived held fixed

owns_none : (ss : List Session) (n : ℕ) → list_all (λ x. owner_below n x.owner) ss ≡ true → owns ss n ≡ 0
owns_none [] n h = refl
owns_none (x ∷ xs) n h =
    let p = and_parts (owner_below n x.owner) (list_all (λ y. owner_below n y.owner) xs) h in
    let a = not_own x.owner p.0 in let b = owns_none xs n p.1 in omega arith
  where
    not_own : (o : Option ℕ) → owner_below n o ≡ true → one_of (is_owner n o) ≡ 0
    not_own None k = refl
    not_own (Some f) k = let l = ltb-true f n k in let e : (n == f) ≡ false = ne_eqb n f (λ q. omega arith) in ap one_of e

same_owns : {F : Type 0} (m : Machine F) (old new : List Session) → ((f : ℕ) → owns new f ≡ owns old f) → (x : FlowState F) → flow_left m new x ≤ flow_left m old x
same_owns m old new h (state.Live at) = let a = h at.flow in omega arith
same_owns m old new h (state.Ended step class v) = omega arith
same_owns m old new h (state.Failed step class code) = omega arith

module _ {F : Type 0} (w : Environment F) (net : List (NodeState F)) (s : NodeState F) where
  node_arrives : (cause : Cause) (e : Effect F) (key : Key) (direction number : ℕ) (b : Body) → cause.event ≡ event.Arrive key direction number → e ≡ record { flow = no_flow; change = record nothing { came = Some b } } → node_left w net (apply_effect s cause e) ≤ node_left w net s + 0
  node_arrives cause e key direction number b ev i =
      let x : Effect F = record { flow = no_flow; change = record nothing { came = Some b } } in
      let new = changed_at key (with_came (b ∷ [])) s.sessions in
      let to : sessions_on cause e s.sessions ≡ new = ap (λ (y : Effect F). sessions_on cause y s.sessions) i ∙ ap (λ (v : Event). came_on v (b ∷ []) None s.sessions) ev in
      let flows : flows_on e.flow s.flows ≡ s.flows = ap (λ (y : Effect F). flows_on y.flow s.flows) i in
      let parts = node_parts w net s cause e in
      let a = ap (λ (l : List Session). total (flow_left w.machine l) (flows_on e.flow s.flows) + Items w net l) to in
      let b1 = ap (λ (l : List (FlowState F)). total (flow_left w.machine new) l) flows in
      let c = total_le (flow_left w.machine new) (flow_left w.machine s.sessions) s.flows (same_owns w.machine s.sessions new (λ f. owns_changed f key (with_came (b ∷ [])) s.sessions (λ y. refl))) in
      let d = items_quiet w net key (with_came (b ∷ [])) s.sessions (λ y. refl) in
      omega arith

  module _ (me : ℕ) (sound : IsSound me s) (fair : IsFair w.machine s) where
    -- the flows of now have no more, where only a flow behind them owns a new session
    old_flows : (new : List Session) → ((g : ℕ) → g < length s.flows → owns new g ≡ owns s.sessions g) → total (flow_left w.machine new) s.flows ≤ total (flow_left w.machine s.sessions) s.flows
    old_flows new h = total_all (flow_left w.machine new) (flow_left w.machine s.sessions) s.flows (λ j x is. one j x is)
      where
        one : (j : ℕ) (x : FlowState F) → slice_get s.flows j ≡ Some x → flow_left w.machine new x ≤ flow_left w.machine s.sessions x
        one j (state.Live at) is = let there : at.flow ≡ j = sound.numbered j at (ap (option_and_then checkpoint_of) is) in let l = slice_get_within s.flows j (state.Live at) is in let a = h at.flow (omega arith) in omega arith
        one j (state.Ended step class v) is = omega arith
        one j (state.Failed step class code) is = omega arith

    -- the sessions with the new one, which has sent its answer
    abbrev Answered : ℕ → Key → Option ℕ → Body → Body → List Session
    Answered stamp key owner init body = sent_on stamp (record { key = key; direction = 1; seq = 0; body = body } ∷ []) (s.sessions ++ new_session key key.initiator owner (init ∷ []) ∷ [])

    answered_items : (stamp : ℕ) (key : Key) (owner : Option ℕ) (init body : Body) → keys_differ (s.sessions ++ new_session key key.initiator owner (init ∷ []) ∷ []) ≡ true → item_left w.machine body ≡ 1 → Items w net (Answered stamp key owner init body) ≤ Items w net s.sessions + 1
    answered_items stamp key owner init body keys one =
        let a = items_sent w net stamp (record { key = key; direction = 1; seq = 0; body = body } ∷ []) (s.sessions ++ new_session key key.initiator owner (init ∷ []) ∷ []) keys in
        let b = items_append w net s.sessions (new_session key key.initiator owner (init ∷ [])) refl in omega arith

    answered_owns : (stamp g : ℕ) (key : Key) (owner : Option ℕ) (init body : Body) → owns (Answered stamp key owner init body) g ≡ owns s.sessions g + one_of (is_owner g owner)
    answered_owns stamp g key owner init body = owns_sent g stamp (record { key = key; direction = 1; seq = 0; body = body } ∷ []) _ ∙ owns_append g s.sessions (new_session key key.initiator owner (init ∷ []))

    node_answers : (cause : Cause) (key : Key) (class : ℕ) (first : Value) (o : Option (F × Act F)) → cause.event ≡ event.Answer key → w.machine.begun class key (place w me (length s.flows) 0 cause.moment.0) ≡ o → LoadHolds w.machine → keys_differ (s.sessions ++ new_session key key.initiator (flow_of (answering key (length s.flows) class (body_of.Init class first) o).flow) (body_of.Init class first ∷ []) ∷ []) ≡ true
        → node_left w net (apply_effect s cause (answering key (length s.flows) class (body_of.Init class first) o)) ≤ node_left w net s + (w.machine.load class + 2)
    node_answers cause key class first None ev i load keys =
        let e = answering {F = F} key (length s.flows) class (body_of.Init class first) None in
        let new = Answered cause.stamp key None (body_of.Init class first) (body_of.Reject 5) in
        let to : sessions_on cause e s.sessions ≡ new = ap (λ (v : Event). sent_on cause.stamp (record { key = key; direction = 1; seq = 0; body = body_of.Reject 5 } ∷ []) (came_on v (body_of.Init class first ∷ []) None s.sessions)) ev in
        let parts = node_parts w net s cause e in
        let a = ap (λ (l : List Session). total (flow_left w.machine l) s.flows + Items w net l) to in
        let b = old_flows new (λ g less. answered_owns cause.stamp g key None (body_of.Init class first) (body_of.Reject 5) ∙ zero_more (owns s.sessions g)) in
        let c = answered_items cause.stamp key None (body_of.Init class first) (body_of.Reject 5) keys refl in
        omega arith
      where
        zero_more : (n : ℕ) → n + 0 ≡ n
        zero_more n = omega arith
    node_answers cause key class first (Some made) ev i load keys =
        let n = length s.flows in
        let init = body_of.Init class first in
        let e = answering {F = F} key n class init (Some made) in
        let at : Checkpoint F = record { flow = n; step = 0; class = class; waiting = made.1; stack = record { top = made.0; below = [] } } in
        let new = Answered cause.stamp key (Some n) init body_of.Confirm in
        let to : sessions_on cause e s.sessions ≡ new = ap (λ (v : Event). sent_on cause.stamp (record { key = key; direction = 1; seq = 0; body = body_of.Confirm } ∷ []) (came_on v (init ∷ []) (Some n) s.sessions)) ev in
        let flows : placed s.flows n (state.Live at) ≡ s.flows ++ state.Live at ∷ [] = ap (λ (t : Bool). cond t (s.flows ++ state.Live at ∷ []) (slice_set s.flows n (state.Live at))) (eq-eqb n n refl) in
        let parts = node_parts w net s cause e in
        let a = ap (λ (l : List Session). total (flow_left w.machine l) (placed s.flows n (state.Live at)) + Items w net l) to in
        let b = ap (total (flow_left w.machine new)) flows in
        let c = total_append (flow_left w.machine new) s.flows (state.Live at ∷ []) in
        let d = old_flows new (λ g less. answered_owns cause.stamp g key (Some n) init body_of.Confirm ∙ other g less) in
        let f = answered_items cause.stamp key (Some n) init body_of.Confirm keys refl in
        let g = answered_owns cause.stamp n key (Some n) init body_of.Confirm in
        let h = ap one_of (eq-eqb n n refl) in
        let j = owns_none s.sessions n fair.owners in
        let k = load class key (place w me n 0 cause.moment.0) made i in
        omega arith
      where
        other : (g : ℕ) → g < length s.flows → owns s.sessions g + one_of (g == length s.flows) ≡ owns s.sessions g
        other g less = let e : one_of (g == length s.flows) ≡ 0 = ap one_of (ne_eqb g (length s.flows) (λ q. omega arith)) in omega arith

-- ---- a step of the network

item_costs : {F : Type 0} (m : Machine F) (b : Body) → 1 ≤ item_left m b
item_costs m (body_of.Init class first) = omega arith
item_costs m body_of.Confirm = omega arith
item_costs m (body_of.Reject code) = omega arith
item_costs m (body_of.Data v) = omega arith
item_costs m (body_of.Error code) = omega arith
item_costs m body_of.End = omega arith

module _ {F : Type 0} (w : Environment F) (falls : Falls w.machine) (load : LoadHolds w.machine) (net : List (NodeState F)) (p : ℕ) (s : NodeState F) (cause : Cause) (e : Effect F) (is : slice_get net p ≡ Some s) (sound : IsSound p s) (fair : IsFair w.machine s) (fits : Fits w p s cause e) where
  answers_fall : (key : Key) (class : ℕ) (first : Value) (item : Sent) → cause.event ≡ event.Answer key → item_for net p s cause.event ≡ Some item → item.body ≡ body_of.Init class first → is_new_key w.nodes (party p) s.sessions key ≡ true → e ≡ answering key (length s.flows) class (body_of.Init class first) (w.machine.begun class key (place w p (length s.flows) 0 cause.moment.0)) → left w (slice_set net p (apply_effect s cause e)) + 1 ≤ left w net
  answers_fall key class first item ev from body new i =
      let init = body_of.Init class first in
      let o = w.machine.begun class key (place w p (length s.flows) 0 cause.moment.0) in
      let x = answering key (length s.flows) class init o in
      let q = and_parts (is_none (session_of key s.sessions)) _ new in
      let none = none_of (session_of key s.sessions) q.0 in
      let there : item_from net p key.initiator.0 key 0 ≡ Some item = ap (λ (v : Event). item_for net p s v) (sym ev) ∙ from in
      let made = new_session key key.initiator (flow_of x.flow) (option_to_list x.change.came) in
      let came : came_on cause.event (option_to_list e.change.came) (flow_of e.flow) s.sessions ≡ s.sessions ++ made ∷ [] = ap (λ (y : Effect F). came_on cause.event (option_to_list y.change.came) (flow_of y.flow) s.sessions) i ∙ ap (λ (v : Event). came_on v (option_to_list x.change.came) (flow_of x.flow) s.sessions) ev in
      let found = find_push (λ y. key_eq key y.key) s.sessions made none (key_same key) in
      let rest = (rest_come cause e s.sessions).less key in
      let a = ap (λ (l : List Session). came_in (session_of key l)) came in
      let b = ap came_in found in
      let c = one_came key class init o in
      let d = ap (λ (l : List Session). came_in (session_of key l)) (apply_sessions s cause e) in
      let z = ap came_in none in
      let keys = (came_kept w p s sound cause.event e fits.event).keys in
      let keys_new : keys_differ (s.sessions ++ made ∷ []) ≡ true = ap keys_differ (sym came) ∙ keys in
      let answers = node_answers w (slice_set net p (apply_effect s cause e)) s p sound fair cause key class first o ev refl load (keys_as key class init o (s.sessions) keys_new) in
      let own = ap (λ (y : Effect F). node_left w (slice_set net p (apply_effect s cause e)) (apply_effect s cause y)) i in
      let price = ap (item_left w.machine) body in
      left_taken w net p s cause e is key.initiator.0 0 key item (w.machine.load class + 2) there z (omega arith) (omega arith) (omega arith)
    where
      one_came : (key : Key) (class : ℕ) (init : Body) (o : Option (F × Act F)) → length (option_to_list (answering {F = F} key (length s.flows) class init o).change.came) ≡ 1
      one_came key class init None = refl
      one_came key class init (Some made) = refl

      keys_as : (key : Key) (class : ℕ) (init : Body) (o : Option (F × Act F)) (ss : List Session) → keys_differ (ss ++ new_session key key.initiator (flow_of (answering key (length s.flows) class init o).flow) (option_to_list (answering key (length s.flows) class init o).change.came) ∷ []) ≡ true → keys_differ (ss ++ new_session key key.initiator (flow_of (answering key (length s.flows) class init o).flow) (init ∷ []) ∷ []) ≡ true
      keys_as key class init None ss h = h
      keys_as key class init (Some made) ss h = h

  arrives_fall : (key : Key) (direction number : ℕ) (b : Body) (session : Session) (item : Sent) → cause.event ≡ event.Arrive key direction number → item_for net p s cause.event ≡ Some item → session_of key s.sessions ≡ Some session → number ≡ length session.came → e ≡ record { flow = no_flow; change = record nothing { came = Some b } } → left w (slice_set net p (apply_effect s cause e)) + 1 ≤ left w net
  arrives_fall key direction number b session item ev from stands expected i =
      let there : item_from net p session.peer.0 key number ≡ Some item = ap (option_and_then (λ x. item_from net p x.peer.0 key number)) (sym stands) ∙ (ap (λ (v : Event). item_for net p s v) (sym ev) ∙ from) in
      let change = λ (y : Session). cond (key_eq key y.key) (with_came (b ∷ []) y) y in
      let came : came_on cause.event (option_to_list e.change.came) (flow_of e.flow) s.sessions ≡ changed_at key (with_came (b ∷ [])) s.sessions = ap (λ (y : Effect F). came_on cause.event (option_to_list y.change.came) (flow_of y.flow) s.sessions) i ∙ ap (λ (v : Event). came_on v (b ∷ []) None s.sessions) ev in
      let same : key_eq key session.key ≡ true = find_test (λ y. key_eq key y.key) s.sessions session stands in
      let mapped = find_map (λ y. key_eq key y.key) change s.sessions (λ y. elim (key_eq key y.key) as (λ t. key_eq key (cond t (with_came (b ∷ []) y) y).key ≡ key_eq key y.key) [ true ↦ refl | false ↦ refl ]) in
      let found : session_of key (changed_at key (with_came (b ∷ [])) s.sessions) ≡ Some (with_came (b ∷ []) session) = mapped ∙ (ap (option_map change) stands ∙ ap (λ (t : Bool). Some (cond t (with_came (b ∷ []) session) session)) same) in
      let rest = (rest_come cause e s.sessions).less key in
      let a = ap (λ (l : List Session). came_in (session_of key l)) came in
      let c = ap came_in found in
      let d = length-append session.came (b ∷ []) in
      let f = ap (λ (l : List Session). came_in (session_of key l)) (apply_sessions s cause e) in
      let now : came_in (session_of key s.sessions) ≡ number = ap came_in stands ∙ sym expected in
      let own = node_arrives w (slice_set net p (apply_effect s cause e)) s cause e key direction number b ev i in
      let price = item_costs w.machine item.body in
      left_taken w net p s cause e is session.peer.0 number key item 0 there now (omega arith) own (omega arith)

  does_fall : Does w p s cause.moment.0 cause.event (body_in (item_for net p s cause.event)) e → is_start cause.event ≡ false → left w (slice_set net p (apply_effect s cause e)) + 1 ≤ left w net
  does_fall (starts f class args made i j k l) start = let k2 : true ≡ false = ap is_start (sym i) ∙ start in cc
  does_fall (answers_to key class first i j k l) start = let b = body_in_item (item_for net p s cause.event) (body_of.Init class first) j in answers_fall key class first b.0 i b.1 b.2 k l
  does_fall (arrives key direction number b session i j k l m) start =
      let c = body_in_item (item_for net p s cause.event) b j in
      let q = and_parts (direction == direction_in (party p) key) _ l in let r = and_parts (number == length session.came) _ q.1 in
      arrives_fall key direction number b session c.0 i c.1 k (eqb-true number (length session.came) r.0) m
  does_fall (acts f at i j g) start =
      let fair_at = all_get (flow_is_fair w.machine) s.flows f (state.Live at) fair.flows (live_get s f at j) in
      let c = costs w.machine at.waiting in
      left_own w net p s cause e is (acts_lower w (slice_set net p (apply_effect s cause e)) p s sound cause.moment.0 falls cause e f at fits i j (omega arith) (gives_lowers w p s cause.moment.0 falls at fair_at e g))

pub step_falls : {F : Type 0} (w : Environment F) → Falls w.machine → LoadHolds w.machine → (net next : List (NodeState F)) (p : ℕ) (cause : Cause) (e : Effect F) → AreFair w net → net_step w net p cause ≡ Some (next, e) → is_start cause.event ≡ false → left w next + 1 ≤ left w net
step_falls {F} w falls load net next p cause e all h start =
    let k = net_taken w net next p cause e h in
    let st = step_taken w p k.old _ cause (item_for net p k.old cause.event) e k.step in
    let mine = all p k.old k.is in
    let fits = step_fits w p k.old _ cause (item_for net p k.old cause.event) e mine.0 k.step in
    let does = effect_does w p k.old cause.moment.0 cause.event (body_in (item_for net p k.old cause.event)) e st.effect in
    subst (λ (n : List (NodeState F)). left w n + 1 ≤ left w net) (sym k.new) (does_fall w falls load net p k.old cause e k.is mine.0 mine.1 fits does start)

-- ---- runs keep their nodes fair

pub fair_kept : {F : Type 0} (w : Environment F) → OversHold w.machine → (net next : List (NodeState F)) (p : ℕ) (cause : Cause) (e : Effect F) → AreFair w net → net_step w net p cause ≡ Some (next, e) → AreFair w next
fair_kept {F} w overs net next p cause e all h =
    let k = net_taken w net next p cause e h in
    let st = step_taken w p k.old _ cause (item_for net p k.old cause.event) e k.step in
    let mine = all p k.old k.is in
    let fits = step_fits w p k.old _ cause (item_for net p k.old cause.event) e mine.0 k.step in
    let does = effect_does w p k.old cause.moment.0 cause.event (body_in (item_for net p k.old cause.event)) e st.effect in
    let f = does_fair w p k.old cause.moment.0 overs mine.0 mine.1 cause.event (body_in (item_for net p k.old cause.event)) e does in
    let sound = fits_sound w p k.old mine.0 cause e fits in
    let fair = fair_applied w.machine k.old cause e mine.1 f.fair f.owner in
    let new : AreFair w (slice_set net p (apply_effect k.old cause e)) = λ q t is. ⊎_elim
    (λ l. subst (λ (x : NodeState F). IsSound q x × IsFair w.machine x) (some_eq (sym l.1 ∙ is)) (subst (λ (j : ℕ). IsSound j (apply_effect k.old cause e)) (sym l.0) sound, fair))
    (λ l. all q t (sym l ∙ is))
    (get_set net p k.old (apply_effect k.old cause e) q k.is) in
    subst (λ (n : List (NodeState F)). AreFair w n) (sym k.new) new

fair_fresh : {F : Type 0} (w : Environment F) → AreFair w (fresh_net w)
fair_fresh {F} w q s h = subst (λ (x : NodeState F). IsSound q x × IsFair w.machine x) (fresh_get w.nodes q fresh s h) (fresh_sound q, record { flows = refl; owners = refl })

fair_from : {F : Type 0} (w : Environment F) → OversHold w.machine → (net last : List (NodeState F)) (causes : List (ℕ × Cause)) → run_from w net causes ≡ Some last → AreFair w net → AreFair w last
fair_from {F} w overs net last [] h all = subst (λ (n : List (NodeState F)). AreFair w n) (some_eq h) all
fair_from w overs net last (x ∷ xs) h all = from_then _ (λ done. run_from w done.0 xs) (net_step w net x.0 x.1) last h (λ done is k. fair_from w overs done.0 last xs k (fair_kept w overs net done.0 x.0 x.1 done.1 all is))

pub run_fair : {F : Type 0} (w : Environment F) → OversHold w.machine → (causes : List (ℕ × Cause)) (net : List (NodeState F)) → run_of w causes ≡ Some net → AreFair w net
unfolding run_of
run_fair w overs causes net h = fair_from w overs (fresh_net w) net causes h (fair_fresh w)

pub left_falls : {F : Type 0} → LeftFalls F
left_falls w causes net next p cause e falls load overs run step start = step_falls w falls load net next p cause e (run_fair w overs causes net run) step start
