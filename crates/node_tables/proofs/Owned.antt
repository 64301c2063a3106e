-- Who owns the sessions of a node, and their keys, after one record more.
use Rattle.std.proofs.Common.{◌≡◌, ℕ, ◌<◌, ◌≤◌, List, [], ◌∷◌, ◌++◌, length, filter, map, option_to_list, Option, Some, None, Bool, true, false, cond, refl, sym, ◌∙◌, ap, subst, arith}
use Rattle.std.specs.List.{AllByRecursion}
use Rattle.std.specs.Option.{IfSome}
use Rattle.std.proofs.lemmas.Bool.{eqb-true, ne_eqb}
use Rattle.net_base.specs.declared.names.Key.{Key}
use Rattle.net_base.specs.declared.values.Party.{Party}
use Rattle.net_base.specs.declared.causes.Cause.{Cause}
use Rattle.net_base.specs.declared.causes.Event.{Event}
use Rattle.net_base.specs.declared.causes.Event.TheVariants as event
use Rattle.net_base.specs.Names.{IsKey}
use Rattle.net_base.proofs.Lists.{all_weaken, all_push, length_filter}
use Rattle.net_base.proofs.Options.{some_eq}
use Rattle.session_wire.specs.declared.body.Body.{Body}
use Rattle.session_wire.specs.declared.body.Body.TheVariants as body_of
use Rattle.session_wire.specs.declared.change.SentItem.{SentItem}
use Rattle.session_wire.specs.Sessions.{Sent, Session, key_eq, changed_at, new_session, with_came, with_sent, with_taken, opened_on, sent_on, taken_on}
use Rattle.session_wire.specs.Rules.{is_owner, sessions_of}
use Rattle.transition_record.specs.Causes.{IsEvent}
use Rattle.transition_record.specs.Changes.{IsOpened}
use Rattle.net_model.specs.Environment.{Environment}
use Rattle.net_model.specs.State.{NodeState, FlowPart, Effect, flow_of, came_on, sessions_on}
use Rattle.net_model.specs.Fits.{Fits, FitsEvent, FitsOpened, AcceptsInit, AnswersFirst, AnswersBy}
use Rattle.node_tables.specs.Fits.{begun_by}
use Rattle.node_tables.specs.Seen.{AreOwned}
use Rattle.node_tables.proofs.Small.{all_changed}
use Rattle.node_tables.proofs.Linking.{new_flow_of}

-- ---- how many pass a test

module _ {X : Type 0} (P : X → Bool) where
  -- one more that doesn't
  filter_other : (xs : List X) (x : X) → P x ≡ false → length (filter P (xs ++ x ∷ [])) ≡ length (filter P xs)
  filter_other [] x h = rw h refl
  filter_other (y ∷ ys) x h = let k = filter_other ys x h in elim (P y) as (λ b. length (cond b (y ∷ filter P (ys ++ x ∷ [])) (filter P (ys ++ x ∷ []))) ≡ length (cond b (y ∷ filter P ys) (filter P ys))) [ true ↦ omega arith | false ↦ k ]

  -- as many, where a change keeps who does
  filter_map : (change : X → X) → ((x : X) → P (change x) ≡ P x) → (xs : List X) → length (filter P (map change xs)) ≡ length (filter P xs)
  filter_map change same [] = refl
  filter_map change same (y ∷ ys) =
      let k = filter_map change same ys in
      rw (same y) (elim (P y) as (λ b. length (cond b (change y ∷ filter P (map change ys)) (filter P (map change ys))) ≡ length (cond b (y ∷ filter P ys) (filter P ys))) [ true ↦ omega arith | false ↦ k ])

  -- none, where none does
  filter_none : (xs : List X) → AllByRecursion (λ x. P x ≡ false) xs → length (filter P xs) ≡ 0
  filter_none [] h = refl
  filter_none (x ∷ xs) h = let here : P x ≡ false = h.0 in rw here (filter_none xs h.1)

-- ---- owners

owner_true : (f : ℕ) (o : Option ℕ) → is_owner f o ≡ true → o ≡ Some f
owner_true f None h = cc
owner_true f (Some owner) h = ap (λ (n : ℕ). Some n) (sym (eqb-true f owner h))

owner_below : (n : ℕ) (o : Option ℕ) → IfSome o (λ f. f < n) → is_owner n o ≡ false
owner_below n None h = refl
owner_below n (Some owner) h = ne_eqb n owner (λ e. absurd (omega (arith, e, h)))

if_below : (n m : ℕ) (o : Option ℕ) → n ≤ m → IfSome o (λ f. f < n) → IfSome o (λ f. f < m)
if_below n m None more h = tt
if_below n m (Some owner) more h = omega (arith, more, h)

-- a flow that isn't there yet owns none
new_owns_none : (n : ℕ) (ss : List Session) → AreOwned n ss → length (sessions_of n ss) ≡ 0
new_owns_none n ss h = filter_none (λ s. is_owner n s.owner) ss (all_weaken (λ s. IfSome s.owner (λ f. f < n)) (λ s. is_owner n s.owner ≡ false) ss (λ s k. owner_below n s.owner k) h.owners)

more_flows : (n m : ℕ) (ss : List Session) → n ≤ m → AreOwned n ss → AreOwned m ss
more_flows n m ss more h = record { keys = h.keys; owners = all_weaken (λ s. IfSome s.owner (λ f. f < n)) (λ s. IfSome s.owner (λ f. f < m)) ss (λ s k. if_below n m s.owner more k) h.owners; few = h.few }

-- one session more
owned_push : (n : ℕ) (ss : List Session) (x : Session) → AreOwned n ss → IsKey x.key → IfSome x.owner (λ f. f < n) → ((f : ℕ) → x.owner ≡ Some f → length (sessions_of f (ss ++ x ∷ [])) ≤ 64) → AreOwned n (ss ++ x ∷ [])
owned_push n ss x h key below few =
    record {
      keys = all_push (λ s. IsKey s.key) ss x h.keys key;
      owners = all_push (λ s. IfSome s.owner (λ f. f < n)) ss x h.owners below;
      few = λ f. by f (is_owner f x.owner) refl;
    }
  where
    by : (f : ℕ) (b : Bool) → is_owner f x.owner ≡ b → length (sessions_of f (ss ++ x ∷ [])) ≤ 64
    by f true is = few f (owner_true f x.owner is)
    by f false is = subst (λ k. k ≤ 64) (sym (filter_other (λ s. is_owner f s.owner) ss x is)) (h.few f)

-- a session changes, and neither its key nor its owner
owned_changed : (n : ℕ) (key : Key) (change : Session → Session) (ss : List Session) → ((s : Session) → (change s).key ≡ s.key) → ((s : Session) → (change s).owner ≡ s.owner) → AreOwned n ss → AreOwned n (changed_at key change ss)
owned_changed n key change ss same_key same_owner h =
    record {
      keys = all_changed (λ s. IsKey s.key) (λ s. IsKey s.key) key change ss (λ s k. subst (λ (x : Key). IsKey x) (sym (same_key s)) k) (λ s k. k) h.keys;
      owners = all_changed (λ s. IfSome s.owner (λ f. f < n)) (λ s. IfSome s.owner (λ f. f < n)) key change ss (λ s k. subst (λ (o : Option ℕ). IfSome o (λ f. f < n)) (sym (same_owner s)) k) (λ s k. k) h.owners;
      few = λ f. subst (λ k. k ≤ 64) (sym (filter_map (λ s. is_owner f s.owner) (λ s. cond (key_eq key s.key) (change s) s) (λ s. elim (key_eq key s.key) as (λ b. is_owner f (cond b (change s) s).owner ≡ is_owner f s.owner) [ true ↦ ap (is_owner f) (same_owner s) | false ↦ refl ]) ss)) (h.few f);
    }

sent_owned : (n stamp : ℕ) (items : List SentItem) (ss : List Session) → AreOwned n ss → AreOwned n (sent_on stamp items ss)
sent_owned n stamp [] ss h = h
sent_owned n stamp (item ∷ items) ss h =
    let y : Sent = record { body = item.body; stamp = stamp } in
    sent_owned n stamp items (changed_at item.key (with_sent y) ss) (owned_changed n item.key (with_sent y) ss (λ s. refl) (λ s. refl) h)

taken_owned : (n : ℕ) (taken : Option (Key × ℕ)) (ss : List Session) → AreOwned n ss → AreOwned n (taken_on taken ss)
taken_owned n None ss h = h
taken_owned n (Some taken) ss h = owned_changed n taken.0 (with_taken taken.1) ss (λ s. refl) (λ s. refl) h

-- ---- the flow that answers is new

by_new : {F : Type 0} (f class n : ℕ) (flow : FlowPart F) (body : Body) → AnswersBy f class flow body → flow_of flow ≡ Some n → n ≡ f
by_new f class n flow body_of.Confirm h is = some_eq (sym is ∙ new_flow_of f class flow h)
by_new {F} f class n flow (body_of.Reject code) h is = let none = ap (λ (p : FlowPart F). flow_of p) h in cc
by_new f class n flow (body_of.Init c first) h is = absurd h
by_new f class n flow (body_of.Data value) h is = absurd h
by_new f class n flow (body_of.Error code) h is = absurd h
by_new f class n flow body_of.End h is = absurd h

first_new : {F : Type 0} (f : ℕ) (key : Key) (class n : ℕ) (flow : FlowPart F) (items : List SentItem) → AnswersFirst f key class flow items → flow_of flow ≡ Some n → n ≡ f
first_new f key class n flow [] h is = absurd h
first_new f key class n flow (item ∷ items) h is = by_new f class n flow item.body h.3 is

init_new : {F : Type 0} (f : ℕ) (key : Key) (n : ℕ) (e : Effect F) (o : Option Body) → AcceptsInit f key e o → flow_of e.flow ≡ Some n → n ≡ f
init_new f key n e None h is = absurd h
init_new f key n e (Some (body_of.Init class first)) h is = first_new f key class n e.flow e.change.sent h is
init_new f key n e (Some body_of.Confirm) h is = absurd h
init_new f key n e (Some (body_of.Reject code)) h is = absurd h
init_new f key n e (Some (body_of.Data value)) h is = absurd h
init_new f key n e (Some (body_of.Error code)) h is = absurd h
init_new f key n e (Some body_of.End) h is = absurd h

-- ---- one record more, after which there are m flows

came_owned : {F : Type 0} (w : Environment F) (me : ℕ) (s : NodeState F) (event : Event) (e : Effect F) (m : ℕ) → IsEvent event → FitsEvent w me s event e → length s.flows ≤ m → IfSome (flow_of e.flow) (λ f. f < m) → AreOwned (length s.flows) s.sessions
    → AreOwned m (came_on event (option_to_list e.change.came) (flow_of e.flow) s.sessions)
came_owned w me s (event.Start f class args) e m limits h more below all = more_flows (length s.flows) m s.sessions more all
came_owned w me s (event.Move f) e m limits h more below all = more_flows (length s.flows) m s.sessions more all
came_owned w me s (event.Lapse f) e m limits h more below all = more_flows (length s.flows) m s.sessions more all
came_owned w me s (event.Arrive key direction number) e m limits h more below all =
    owned_changed m key (with_came (option_to_list e.change.came)) s.sessions (λ x. refl) (λ x. refl) (more_flows (length s.flows) m s.sessions more all)
came_owned w me s (event.Answer key) e m limits h more below all =
    owned_push m s.sessions x (more_flows (length s.flows) m s.sessions more all) limits below (λ f is.
    let new : f ≡ length s.flows = init_new (length s.flows) key f e e.change.came h.1 is in
    let none : length (sessions_of f s.sessions) ≡ 0 = subst (λ k. length (sessions_of k s.sessions) ≡ 0) (sym new) (new_owns_none (length s.flows) s.sessions all) in
    one_more f none (is_owner f x.owner) refl)
  where
    x : Session
    x = new_session key key.initiator (flow_of e.flow) (option_to_list e.change.came)

    one_more : (f : ℕ) → length (sessions_of f s.sessions) ≡ 0 → (b : Bool) → is_owner f x.owner ≡ b → length (sessions_of f (s.sessions ++ x ∷ [])) ≤ 64
    one_more f none true is = let one = length_filter (λ y. is_owner f y.owner) s.sessions x is in omega (arith, one, none)
    one_more f none false is = let same = filter_other (λ y. is_owner f y.owner) s.sessions x is in omega (arith, same, none)

opened_owned : {F : Type 0} (w : Environment F) (me : ℕ) (s : NodeState F) (owner : Option ℕ) (sent : List SentItem) (opened : Option (Key × Party)) (ss : List Session) (m : ℕ) → IfSome opened IsOpened → FitsOpened w me s (opened_on opened owner ss) owner sent opened → IfSome owner (λ f. f < m) → AreOwned m ss
    → AreOwned m (opened_on opened owner ss)
opened_owned w me s owner sent None ss m limits h below all = all
opened_owned w me s owner sent (Some opened) ss m limits h below all =
    owned_push m ss (new_session opened.0 opened.1 owner []) all limits.0 below
    (λ f is. subst (λ k. length (sessions_of k (opened_on (Some opened) owner ss)) ≤ 64) (some_eq (sym h.owned ∙ is)) h.few)

pub record_owned : {F : Type 0} (w : Environment F) (me : ℕ) (s : NodeState F) (cause : Cause) (e : Effect F) (m : ℕ) → IsEvent cause.event → IfSome e.change.opened IsOpened → Fits w me s cause e → length s.flows ≤ m → IfSome (flow_of e.flow) (λ f. f < m) → AreOwned (length s.flows) s.sessions
    → AreOwned m (sessions_on cause e s.sessions)
record_owned w me s cause e m event opened h more below all =
    let came = came_on cause.event (option_to_list e.change.came) (flow_of e.flow) s.sessions in
    let begun = begun_by cause e s.sessions in
    let at_came = came_owned w me s cause.event e m event h.event more below all in
    let at_begun = opened_owned w me s (flow_of e.flow) e.change.sent e.change.opened came m opened h.change.opened below at_came in
    taken_owned m e.change.taken (sent_on cause.stamp e.change.sent begun) (sent_owned m cause.stamp e.change.sent begun at_begun)
