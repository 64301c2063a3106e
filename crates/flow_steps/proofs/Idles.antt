-- What one flow does leaves the flows before it idle.
use Rattle.std.proofs.Common.{◌≡◌, ℕ, zero, suc, ◌+◌, ◌<◌, ◌==◌, min, ◌⊎◌, inl, inr, List, [], ◌∷◌, ◌++◌, length, slice_get, slice_set, option_map, option_to_list, is_none, Option, Some, None, Bool, true, false, cond, refl, sym, ◌∙◌, ap, subst, arith}
use Rattle.std.specs.Option.{option_and_then}
use Rattle.std.proofs.lemmas.Bool.{eqb-true}
use Rattle.net_base.specs.declared.names.Key.{Key}
use Rattle.net_base.specs.declared.values.Party.{Party}
use Rattle.net_base.specs.declared.causes.Cause.{Cause}
use Rattle.net_base.specs.declared.causes.Event.{Event}
use Rattle.net_base.specs.declared.causes.Event.TheVariants as event
use Rattle.net_base.proofs.Lists.{find_map, find_test}
use Rattle.net_base.proofs.Options.{some_eq}
use Rattle.session_wire.specs.declared.body.Body.{Body}
use Rattle.session_wire.specs.declared.change.SentItem.{SentItem}
use Rattle.session_wire.specs.Sessions.{Sent, Session, key_eq, session_of, changed_at, new_session, next_item, with_sent, with_taken, opened_on, sent_on, taken_on}
use Rattle.session_wire.specs.Rules.{is_owner, owned_by, owned, waits_for}
use Rattle.session_wire.proofs.Keys.{key_exact}
use Rattle.flow_machine.specs.declared.acts.Act.{Act}
use Rattle.flow_machine.specs.declared.acts.Act.TheVariants as act
use Rattle.flow_machine.specs.declared.flows.Checkpoint.{Checkpoint}
use Rattle.flow_machine.specs.declared.flows.FlowState.{FlowState}
use Rattle.flow_machine.specs.declared.flows.FlowState.TheVariants.{Live, Ended, Failed}
use Rattle.net_model.specs.Environment.{Environment}
use Rattle.net_model.specs.State.{NodeState, FlowPart, no_flow, now_live, now_ended, now_failed, Change, Effect, came_on, flow_of, placed, flows_on, sessions_on, apply_effect}
use Rattle.net_model.specs.Steps.{Done, takes, checkpoint_of, live_at, effect_of}
use Rattle.net_model.specs.Enabled.{enabling, enabled_event}
use Rattle.net_model.proofs.Basics.{find_before}
use Rattle.net_model.proofs.Acts.{Performs, tells, opens_to, sends_on, takes_from, has_found, has_tagged, has_locked, has_answered, has_recorded, Gives, goes, pushed, popped, finished, failed, Does, starts, answers_to, arrives, acts, effect_does, owned_there}
use Rattle.net_model.proofs.Falling.{came_none}
use Rattle.flow_steps.specs.Going.{event_there, flow_in}
use Rattle.flow_steps.specs.Idle.{IdleBelow}

-- ---- a flow that waits in a session

-- the session is there, the flow owns it, and no item of it is there
record Waits (g : ℕ) (o : Option Session) : Type 0 where
  session : Session
  there : o ≡ Some session
  own : is_owner g session.owner ≡ true
  none : is_none (next_item session session.ending) ≡ true

waits_at : (g : ℕ) (o : Option Session) → waits_for (owned_by g o) ≡ true → Waits g o
waits_at g None h = cc
waits_at g (Some x) h = by (is_owner g x.owner) refl h
  where
    by : (b : Bool) → is_owner g x.owner ≡ b → waits_for (cond b (Some x) None) ≡ true → Waits g (Some x)
    by true is k = record { session = x; there = refl; own = is; none = k }
    by false is k = cc

waits_of : (g : ℕ) (o : Option Session) → Waits g o → waits_for (owned_by g o) ≡ true
waits_of g o t = ap (λ (p : Option Session). waits_for (owned_by g p)) t.there ∙ ap (λ (b : Bool). waits_for (cond b (Some t.session) None)) t.own ∙ t.none

-- a flow that owns a session is its owner
owner_there : (f : ℕ) (o : Option Session) (x : Session) → owned_by f o ≡ Some x → is_owner f x.owner ≡ true
owner_there f None x h = cc
owner_there f (Some y) x h = by (is_owner f y.owner) refl h
  where
    by : (b : Bool) → is_owner f y.owner ≡ b → cond b (Some y) None ≡ Some x → is_owner f x.owner ≡ true
    by true is k = let same : y ≡ x = some_eq k in subst (λ (z : Session). is_owner f z.owner ≡ true) same is
    by false is k = cc

-- a session has one owner
one_owner : (f g : ℕ) (o : Option ℕ) → is_owner f o ≡ true → is_owner g o ≡ true → f ≡ g
one_owner f g None h k = cc
one_owner f g (Some n) h k = eqb-true f n h ∙ sym (eqb-true g n k)

-- ---- other sessions

-- each flow before this one that waited in a session waits there still
abbrev Still : ℕ → List Session → List Session → Type 0
Still f old new = (g : ℕ) → g < f → (key : Key) → waits_for (owned g key old) ≡ true → waits_for (owned g key new) ≡ true

-- the session of a key is that one, changed or not
changed_found : (k key : Key) (change : Session → Session) (ss : List Session) → ((x : Session) → (change x).key ≡ x.key) → session_of key (changed_at k change ss) ≡ option_map (λ x. cond (key_eq k x.key) (change x) x) (session_of key ss)
changed_found k key change ss same =
    find_map (λ x. key_eq key x.key) (λ x. cond (key_eq k x.key) (change x) x) ss
    (λ x. elim (key_eq k x.key) as (λ b. key_eq key (cond b (change x) x).key ≡ key_eq key x.key) [ true ↦ ap (key_eq key) (same x) | false ↦ refl ])

waits_changed : (g : ℕ) (k key : Key) (change : Session → Session) (ss : List Session) → ((x : Session) → (change x).key ≡ x.key) → (t : Waits g (session_of key ss))
    → (key_eq k t.session.key ≡ true → Waits g (Some (change t.session))) → Waits g (session_of key (changed_at k change ss))
waits_changed g k key change ss same t one = subst (λ (o : Option Session). Waits g o) (sym there) (by (key_eq k t.session.key) refl)
  where
    there : session_of key (changed_at k change ss) ≡ Some (cond (key_eq k t.session.key) (change t.session) t.session)
    there = changed_found k key change ss same ∙ ap (option_map (λ x. cond (key_eq k x.key) (change x) x)) t.there

    by : (b : Bool) → key_eq k t.session.key ≡ b → Waits g (Some (cond b (change t.session) t.session))
    by true is = one is
    by false is = record { session = t.session; there = refl; own = t.own; none = t.none }

-- one session more
still_added : (f : ℕ) (ss : List Session) (x : Session) → Still f ss (ss ++ x ∷ [])
still_added f ss x g lt key h =
    let t = waits_at g (session_of key ss) h in
    waits_of g (session_of key (ss ++ x ∷ [])) (record { session = t.session; there = find_before (λ s. key_eq key s.key) ss (x ∷ []) t.session t.there; own = t.own; none = t.none })

still_opened : (f : ℕ) (opened : Option (Key × Party)) (owner : Option ℕ) (ss : List Session) → Still f ss (opened_on opened owner ss)
still_opened f None owner ss g lt key h = h
still_opened f (Some opened) owner ss g lt key h = still_added f ss (new_session opened.0 opened.1 owner []) g lt key h

-- items that are sent
sent_next : (y : Sent) (x : Session) (ending : Option Body) → next_item (with_sent y x) ending ≡ next_item x ending
sent_next y x None = refl
sent_next y x (Some e) = refl

sent_waits : (g : ℕ) (k key : Key) (y : Sent) (ss : List Session) → Waits g (session_of key ss) → Waits g (session_of key (changed_at k (with_sent y) ss))
sent_waits g k key y ss t = waits_changed g k key (with_sent y) ss (λ x. refl) t (λ is. record { session = with_sent y t.session; there = refl; own = t.own; none = ap is_none (sent_next y t.session t.session.ending) ∙ t.none })

still_sent : (f stamp : ℕ) (items : List SentItem) (ss : List Session) → Still f ss (sent_on stamp items ss)
still_sent f stamp [] ss g lt key h = h
still_sent f stamp (item ∷ items) ss g lt key h =
    let y : Sent = record { body = item.body; stamp = stamp } in
    let next : List Session = changed_at item.key (with_sent y) ss in
    still_sent f stamp items next g lt key (waits_of g (session_of key next) (sent_waits g item.key key y ss (waits_at g (session_of key ss) h)))

-- items that are taken of a session which this flow owns
taken_apart : (f g : ℕ) (key other : Key) (ss : List Session) (x t : Session) → owned f key ss ≡ Some x → session_of other ss ≡ Some t → is_owner g t.owner ≡ true → key_eq x.key t.key ≡ true → f ≡ g
taken_apart f g key other ss x t own there mine same =
    let found : session_of key ss ≡ Some x = owned_there f (session_of key ss) x own in
    let first : key ≡ x.key = key_exact key x.key (find_test (λ s. key_eq key s.key) ss x found) in
    let second : other ≡ t.key = key_exact other t.key (find_test (λ s. key_eq other s.key) ss t there) in
    let keys : key ≡ other = first ∙ key_exact x.key t.key same ∙ sym second in
    let both : Some x ≡ Some t = sym found ∙ ap (λ (k : Key). session_of k ss) keys ∙ there in
    let one : x ≡ t = some_eq both in
    one_owner f g t.owner (subst (λ (z : Session). is_owner f z.owner ≡ true) one (owner_there f (session_of key ss) x own)) mine

still_taken : (f n : ℕ) (key : Key) (x : Session) (ss : List Session) → owned f key ss ≡ Some x → Still f ss (taken_on (Some (x.key, n)) ss)
still_taken f n key x ss own g lt other h =
    let t = waits_at g (session_of other ss) h in
    waits_of g (session_of other (changed_at x.key (with_taken n) ss))
    (waits_changed g x.key other (with_taken n) ss (λ y. refl) t
    (λ same. let one : f ≡ g = taken_apart f g key other ss x t.session own t.there t.own same in absurd (omega (arith, lt, one))))

still_takes : (f : ℕ) (key : Key) (x : Session) (next : Option ℕ) (ss : List Session) → owned f key ss ≡ Some x → Still f ss (taken_on (option_map (λ n. (x.key, n + 1)) next) ss)
still_takes f key x None ss own g lt other h = h
still_takes f key x (Some n) ss own g lt other h = still_taken f (n + 1) key x ss own g lt other h

-- ---- what acts change

-- the sessions after a change by a flow
abbrev change_on : ℕ → Option ℕ → Change → List Session → List Session
change_on stamp owner c ss = taken_on c.taken (sent_on stamp c.sent (opened_on c.opened owner ss))

-- a change takes no items, or it takes items of a session which the flow owns and does nothing else
data Takes (f : ℕ) (ss : List Session) (c : Change) : Type 0 where
  takes_none : c.taken ≡ None → Takes f ss c
  takes_own : (key : Key) (x : Session) (next : Option ℕ × Body) → owned f key ss ≡ Some x → c ≡ (takes x next).1 → Takes f ss c

still_change : (f stamp : ℕ) (owner : Option ℕ) (c : Change) (ss : List Session) → Takes f ss c → Still f ss (change_on stamp owner c ss)
still_change f stamp owner c ss (takes_none is) g lt key h =
    let begun : List Session = opened_on c.opened owner ss in
    subst (λ (taken : Option (Key × ℕ)). waits_for (owned g key (taken_on taken (sent_on stamp c.sent begun))) ≡ true) (sym is)
    (still_sent f stamp c.sent begun g lt key (still_opened f c.opened owner ss g lt key h))
still_change f stamp owner c ss (takes_own k x next own is) g lt key h =
    subst (λ (d : Change). waits_for (owned g key (change_on stamp owner d ss)) ≡ true) (sym is) (still_takes f k x next.0 ss own g lt key h)

module _ {F : Type 0} (w : Environment F) (me : ℕ) (s : NodeState F) (now : ℕ) where
  done_takes : (f : ℕ) (a : Act F) (d : Done) → Performs w me s now f a d → Takes f s.sessions d.1
  done_takes f a d (tells told e) = takes_none (ap (λ (c : Change). c.taken) e)
  done_takes f a d (opens_to to class first i j k e) = takes_none (ap (λ (x : Done). x.1.taken) e)
  done_takes f a d (sends_on key value session i j e) = takes_none (ap (λ (x : Done). x.1.taken) e)
  done_takes f a d (takes_from key session next i j e) = takes_own key session next i (ap (λ (x : Done). x.1) e)
  done_takes f a d (has_found id stx i e) = takes_none (ap (λ (x : Done). x.1.taken) e)
  done_takes f a d (has_tagged id i e) = takes_none (ap (λ (x : Done). x.1.taken) e)
  done_takes f a d (has_locked token amount list i e) = takes_none (ap (λ (x : Done). x.1.taken) e)
  done_takes f a d (has_answered q i e) = takes_none (ap (λ (x : Done). x.1.taken) e)
  done_takes f a d (has_recorded stx states i j k l m n e) = takes_none (ap (λ (x : Done). x.1.taken) e)

  gives_takes : (at : Checkpoint F) (a : Act F) (e : Effect F) → Gives w me s now at a e → Takes at.flow s.sessions e.change
  gives_takes at a e (goes d i p is) = subst (λ (c : Change). Takes at.flow s.sessions c) (sym (ap (λ (x : Effect F). x.change) is)) (done_takes at.flow a d p)
  gives_takes at a e (pushed frame i j is) = takes_none (ap (λ (x : Effect F). x.change.taken) is)
  gives_takes at a e (popped value frame below i j is) = takes_none (ap (λ (x : Effect F). x.change.taken) is)
  gives_takes at a e (finished value i j is) = takes_none (ap (λ (x : Effect F). x.change.taken) is)
  gives_takes at a e (failed code i is) = takes_none (ap (λ (x : Effect F). x.change.taken) is)

  -- the flow that an act changes is its own
  gives_flow : (at : Checkpoint F) (a : Act F) (e : Effect F) → Gives w me s now at a e → flow_of e.flow ≡ Some at.flow
  gives_flow at a e (goes d i p is) = ap (λ (x : Effect F). flow_of x.flow) is
  gives_flow at a e (pushed frame i j is) = ap (λ (x : Effect F). flow_of x.flow) is
  gives_flow at a e (popped value frame below i j is) = ap (λ (x : Effect F). flow_of x.flow) is
  gives_flow at a e (finished value i j is) = ap (λ (x : Effect F). flow_of x.flow) is
  gives_flow at a e (failed code i is) = ap (λ (x : Effect F). flow_of x.flow) is

-- ---- the flows before one that changes

get_front : {X : Type 0} (xs ys : List X) (n : ℕ) → n < length xs → slice_get (xs ++ ys) n ≡ slice_get xs n
get_front [] ys n h = absurd (omega (arith, h))
get_front (x ∷ xs) ys zero h = refl
get_front (x ∷ xs) ys (suc n) h = get_front xs ys n (omega (arith, h))

get_before_set : {X : Type 0} (xs : List X) (p : ℕ) (x : X) (n : ℕ) → n < p → slice_get (slice_set xs p x) n ≡ slice_get xs n
get_before_set [] p x n h = refl
get_before_set (y ∷ ys) zero x n h = absurd (omega (arith, h))
get_before_set (y ∷ ys) (suc p) x zero h = refl
get_before_set (y ∷ ys) (suc p) x (suc n) h = get_before_set ys p x n (omega (arith, h))

-- they stand as they stood
module _ {F : Type 0} (flows : List (FlowState F)) where
  placed_before : (f : ℕ) (x : FlowState F) (g : ℕ) → g < f → slice_get (placed flows f x) g ≡ slice_get flows g
  placed_before f x g lt = by (f == length flows) refl
    where
      by : (b : Bool) → (f == length flows) ≡ b → slice_get (cond b (flows ++ x ∷ []) (slice_set flows f x)) g ≡ slice_get flows g
      by true is = let last : f ≡ length flows = eqb-true f (length flows) is in get_front flows (x ∷ []) g (omega (arith, lt, last))
      by false is = get_before_set flows f x g lt

  flows_before : (part : FlowPart F) (f g : ℕ) → flow_of part ≡ Some f → g < f → slice_get (flows_on part flows) g ≡ slice_get flows g
  flows_before no_flow f g is lt = refl
  flows_before (now_live at) f g is lt = let one : at.flow ≡ f = some_eq is in placed_before at.flow (Live at) g (omega (arith, lt, one))
  flows_before (now_ended flow step class value) f g is lt = let one : flow ≡ f = some_eq is in placed_before flow (Ended step class value) g (omega (arith, lt, one))
  flows_before (now_failed flow step class code) f g is lt = let one : flow ≡ f = some_eq is in placed_before flow (Failed step class code) g (omega (arith, lt, one))

-- ---- a flow that can't go on

-- no event where a flow waits, and none where it waits still
wait_kept : (b c : Bool) (o : Option Event) (e : Event) → (b ≡ true → c ≡ true) → cond b o (Some e) ≡ None → cond c o (Some e) ≡ None
wait_kept true c o e k h = subst (λ (d : Bool). cond d o (Some e) ≡ None) (sym (k refl)) h
wait_kept false c o e k h = cc

-- where a flow waits still in each session in which it waited, it can't go on if it couldn't
module _ {F : Type 0} (old new : List Session) (now g : ℕ) (still : (key : Key) → waits_for (owned g key old) ≡ true → waits_for (owned g key new) ≡ true) where
  enabling_kept : (a : Act F) → enabling old g now a ≡ None → enabling new g now a ≡ None
  enabling_kept (act.Sleep until) h = h
  enabling_kept (act.Receive key) h = wait_kept (waits_for (owned g key old)) (waits_for (owned g key new)) _ _ (still key) h
  enabling_kept (act.ReceiveBy key until) h = wait_kept (waits_for (owned g key old)) (waits_for (owned g key new)) _ _ (still key) h
  enabling_kept _ h = cc

event_kept : {F : Type 0} (f : ℕ) (old new : List Session) (now g : ℕ) (x : FlowState F) → Still f old new → g < f → ((at : Checkpoint F) → x ≡ Live at → at.flow ≡ g) → enabled_event old now x ≡ None → enabled_event new now x ≡ None
event_kept f old new now g (Live at) still lt own h =
    let one : at.flow ≡ g = own at refl in
    enabling_kept old new now at.flow (λ key. still at.flow (omega (arith, lt, one)) key) at.waiting h
event_kept f old new now g (Ended step class value) still lt own h = refl
event_kept f old new now g (Failed step class code) still lt own h = refl

-- ---- an event

-- the flow of an event by which a flow goes on
of_kind : (f : ℕ) (ev : Event) → (ev ≡ event.Move f) ⊎ (ev ≡ event.Lapse f) → flow_in ev ≡ f
of_kind f ev (inl k) = ap flow_in k
of_kind f ev (inr k) = ap flow_in k

module _ {F : Type 0} (s : NodeState F) (cause : Cause) (e : Effect F) (n moment : ℕ) (numbered : (f : ℕ) (at : Checkpoint F) → live_at s f ≡ Some at → at.flow ≡ f) (idle : IdleBelow s.sessions moment s.flows n) where
  module _ (f : ℕ) (flow : flow_of e.flow ≡ Some f) (came : came_on cause.event (option_to_list e.change.came) (flow_of e.flow) s.sessions ≡ s.sessions) (taken : Takes f s.sessions e.change) where
    still_after : Still f s.sessions (sessions_on cause e s.sessions)
    still_after g lt key h =
        subst (λ (ss : List Session). waits_for (owned g key (change_on cause.stamp (flow_of e.flow) e.change ss)) ≡ true) (sym came)
        (still_change f cause.stamp (flow_of e.flow) e.change s.sessions taken g lt key h)

    idle_there : (g : ℕ) → g < f → (o : Option (FlowState F)) → slice_get s.flows g ≡ o → option_and_then (enabled_event s.sessions moment) o ≡ None → option_and_then (enabled_event (sessions_on cause e s.sessions) moment) o ≡ None
    idle_there g lt None is h = refl
    idle_there g lt (Some x) is h =
        event_kept f s.sessions (sessions_on cause e s.sessions) moment g x still_after lt
        (λ at live. numbered g at (ap (option_and_then checkpoint_of) (is ∙ ap (λ (y : FlowState F). Some y) live))) h

    idle_kept : (g : ℕ) → g < n → g < f → event_there (apply_effect s cause e).sessions moment (apply_effect s cause e).flows g ≡ None
    unfolding apply_effect
    idle_kept g below lt =
        ap (option_and_then (enabled_event (sessions_on cause e s.sessions) moment)) (flows_before s.flows e.flow f g flow lt)
        ∙ idle_there g lt (slice_get s.flows g) refl (idle g below)

  idle_does : (w : Environment F) (me now : ℕ) (body : Option Body) → Does w me s now cause.event body e → IdleBelow (apply_effect s cause e).sessions moment (apply_effect s cause e).flows (min n (flow_in cause.event))
  idle_does w me now body (starts f class args made is last first gives) g lt =
      let number : flow_in cause.event ≡ f = ap flow_in is in
      idle_kept f (ap (λ (x : Effect F). flow_of x.flow) gives) (ap (λ (x : Event). came_on x (option_to_list e.change.came) (flow_of e.flow) s.sessions) is) (takes_none (ap (λ (x : Effect F). x.change.taken) gives)) g (omega (arith, lt)) (omega (arith, lt, number))
  idle_does w me now body (answers_to key class first is init new gives) g lt = let none : flow_in cause.event ≡ 0 = ap flow_in is in absurd (omega (arith, lt, none))
  idle_does w me now body (arrives key direction number b session is one found next gives) g lt = let none : flow_in cause.event ≡ 0 = ap flow_in is in absurd (omega (arith, lt, none))
  idle_does w me now body (acts f at kind there gives) g lt =
      let own : at.flow ≡ f = numbered f at there in
      let number : flow_in cause.event ≡ f = of_kind f cause.event kind in
      idle_kept f (gives_flow w me s now at at.waiting e gives ∙ ap (λ (k : ℕ). Some k) own) (came_none cause.event f (option_to_list e.change.came) (flow_of e.flow) s.sessions kind)
      (subst (λ (k : ℕ). Takes k s.sessions e.change) own (gives_takes w me s now at at.waiting e gives)) g (omega (arith, lt)) (omega (arith, lt, number))

-- what an event makes of a node leaves each flow idle that was, and that is before the flow which the event changes
pub idle_after : {F : Type 0} (w : Environment F) (me now moment : ℕ) (s : NodeState F) (cause : Cause) (body : Option Body) (e : Effect F) (n : ℕ)
    → ((f : ℕ) (at : Checkpoint F) → live_at s f ≡ Some at → at.flow ≡ f)
    → effect_of w me s now cause.event body ≡ Some e
    → IdleBelow s.sessions moment s.flows n
    → IdleBelow (apply_effect s cause e).sessions moment (apply_effect s cause e).flows (min n (flow_in cause.event))
idle_after w me now moment s cause body e n numbered effect idle = idle_does s cause e n moment numbered idle w me now body (effect_does w me s now cause.event body e effect)
