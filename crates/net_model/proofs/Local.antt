-- Journals of a run are those whose records are steps of their nodes alone, over the items that the senders have in the end.
use Rattle.std.proofs.Common.{◌≡◌, ℕ, ◌+◌, ◌<◌, ◌≤◌, ⊎_elim, List, [], ◌∷◌, Option, Some, None, Bool, true, false, cond, ◌==◌, max, option_map, option_and_then, length, slice_get, slice_set, refl, sym, ap, subst, ◌∙◌, arith, length-set}
use Rattle.std.specs.Prelude.{⊤}
use Rattle.std.specs.List.{AllByRecursion}
use Rattle.std.proofs.lemmas.Bool.{eq-eqb, eqb-true, eqb-false, and_parts}
use Rattle.net_base.specs.declared.names.Key.{Key}
use Rattle.net_base.specs.declared.causes.Cause.{Cause}
use Rattle.net_base.specs.declared.causes.Event.{Event}
use Rattle.net_base.specs.declared.causes.Event.TheVariants as event
use Rattle.net_base.proofs.Lists.{get_there, get_below}
use Rattle.net_base.proofs.Options.{some_eq}
use Rattle.session_wire.specs.declared.body.Body.{Body}
use Rattle.session_wire.specs.Sessions.{Sent, Session, session_of}
use Rattle.net_model.specs.Environment.{Environment}
use Rattle.net_model.specs.State.{NodeState, Effect, Record, apply_effect}
use Rattle.net_model.specs.Steps.{node_step, in_order, body_in}
use Rattle.net_model.specs.Runs.{item_from, item_for, net_step, net_step_at, Follows, IsLocalFrom, IsMatchedFrom, IsItem, accepts, stamped, record_stamp, ItemsStay, ItemsAreStamped}
use Rattle.net_model.proofs.Basics.{from_then, get_set, apply_sessions, no_item}
use Rattle.net_model.proofs.Growth.{item_in, Grows, sessions_grow}
use Rattle.net_model.proofs.Effects.{Stepped, step_taken, step_of, effect_plain, effect_accepts}

-- ---- the network as the effects alone make it

abbrev pub applied_at : {F : Type 0} → List (NodeState F) → ℕ × Record F → Option (NodeState F) → List (NodeState F)
applied_at net x None = net
applied_at net x (Some s) = slice_set net x.0 (apply_effect s x.1.cause x.1.effect)

abbrev pub applied : {F : Type 0} → List (NodeState F) → ℕ × Record F → List (NodeState F)
applied net x = applied_at net x (slice_get net x.0)

abbrev pub ends : {F : Type 0} → List (NodeState F) → List (ℕ × Record F) → List (NodeState F)
ends net [] = net
ends net (x ∷ xs) = ends (applied net x) xs

-- no item of any node is lost or changed, and items of stamps below t are old
pub record NetGrows {F : Type 0} (t : ℕ) (old new : List (NodeState F)) : Type 0 where
  pub on : (q me n : ℕ) (key : Key) (item : Sent) → item_from old me q key n ≡ Some item → item_from new me q key n ≡ Some item
  pub back : (q me n : ℕ) (key : Key) (item : Sent) → item_from new me q key n ≡ Some item → item.stamp < t → item_from old me q key n ≡ Some item

net_same : {F : Type 0} (t : ℕ) (net : List (NodeState F)) → NetGrows t net net
net_same t net = record { on = λ q me n key item h. h; back = λ q me n key item h l. h }

net_then : {F : Type 0} {t : ℕ} {a b c : List (NodeState F)} → NetGrows t a b → NetGrows t b c → NetGrows t a c
net_then g h = record { on = λ q me n key item k. h.on q me n key item (g.on q me n key item k); back = λ q me n key item k l. g.back q me n key item (h.back q me n key item k l) l }

at_node : {F : Type 0} (net : List (NodeState F)) (q me n : ℕ) (key : Key) (s : NodeState F) → slice_get net q ≡ Some s → item_from net me q key n ≡ item_in s.sessions me key n
unfolding item_from
at_node net q me n key s is = rw is

apply_grows : {F : Type 0} (s : NodeState F) (cause : Cause) (e : Effect F) → Grows cause.stamp s.sessions (apply_effect s cause e).sessions
apply_grows s cause e = subst (Grows cause.stamp s.sessions) (sym (apply_sessions s cause e)) (sessions_grow cause e s.sessions)

same_net : {F : Type 0} (old new : List (NodeState F)) (q me n : ℕ) (key : Key) → slice_get new q ≡ slice_get old q → item_from new me q key n ≡ item_from old me q key n
unfolding item_from
same_net old new q me n key e = rw e

-- what a cause makes new bears its stamp
set_stamped : {F : Type 0} (net : List (NodeState F)) (p : ℕ) (s : NodeState F) (cause : Cause) (e : Effect F) → slice_get net p ≡ Some s
    → (q me n : ℕ) (key : Key) (item : Sent) → item_from (slice_set net p (apply_effect s cause e)) me q key n ≡ Some item → (item.stamp ≡ cause.stamp → ⊥) → item_from net me q key n ≡ Some item
set_stamped net p s cause e is q me n key item h l =
    let new = slice_set net p (apply_effect s cause e) in
    ⊎_elim
    (λ k. at_node net q me n key s (ap (slice_get net) k.0 ∙ is) ∙ (apply_grows s cause e).back me n key item (sym (at_node new q me n key _ k.1) ∙ h) l)
    (λ k. sym (same_net net new q me n key k) ∙ h)
    (get_set net p s (apply_effect s cause e) q is)

pub set_grows : {F : Type 0} (net : List (NodeState F)) (p : ℕ) (s : NodeState F) (cause : Cause) (e : Effect F) → slice_get net p ≡ Some s → NetGrows cause.stamp net (slice_set net p (apply_effect s cause e))
set_grows net p s cause e is =
    let new = slice_set net p (apply_effect s cause e) in
    let g = apply_grows s cause e in
    record {
      on = λ q me n key item h. ⊎_elim
          (λ k. at_node new q me n key _ k.1 ∙ g.on me n key item (sym (at_node net q me n key s (ap (slice_get net) k.0 ∙ is)) ∙ h))
          (λ k. same_net net new q me n key k ∙ h)
          (get_set net p s (apply_effect s cause e) q is);
      back = λ q me n key item h l. set_stamped net p s cause e is q me n key item h (λ k. omega (arith, k, l));
    }

applied_grows_at : {F : Type 0} (net : List (NodeState F)) (x : ℕ × Record F) (o : Option (NodeState F)) → slice_get net x.0 ≡ o → NetGrows (record_stamp x.1) net (applied_at net x o)
applied_grows_at net x None is = net_same (record_stamp x.1) net
applied_grows_at net x (Some s) is = set_grows net x.0 s x.1.cause x.1.effect is

applied_grows : {F : Type 0} (net : List (NodeState F)) (x : ℕ × Record F) → NetGrows (record_stamp x.1) net (applied net x)
applied_grows net x = applied_grows_at net x (slice_get net x.0) refl

net_weaker : {F : Type 0} {t u : ℕ} {a b : List (NodeState F)} → NetGrows u a b → t ≤ u → NetGrows t a b
net_weaker {t = t} {u = u} g h = record { on = g.on; back = λ q me n key item k l. let m : item.stamp < u = omega arith in g.back q me n key item k m }

-- the stamps don't fall along the list
abbrev pub Rising : {F : Type 0} → List (ℕ × Record F) → Type 0
Rising [] = ⊤
Rising (x ∷ xs) = AllByRecursion (λ y. record_stamp x.1 ≤ record_stamp y.1) xs × Rising xs

ends_grows : {F : Type 0} (t : ℕ) (net : List (NodeState F)) (xs : List (ℕ × Record F)) → AllByRecursion (λ y. t ≤ record_stamp y.1) xs → NetGrows t net (ends net xs)
ends_grows t net [] h = net_same t net
ends_grows t net (x ∷ xs) h = net_then (net_weaker (applied_grows net x) h.0) (ends_grows t (applied net x) xs h.1)

-- the network in the end has the items of now, and those below the stamp of the next record are those of now
ends_from : {F : Type 0} (net : List (NodeState F)) (x : ℕ × Record F) (xs : List (ℕ × Record F)) → Rising (x ∷ xs) → NetGrows (record_stamp x.1) net (ends net (x ∷ xs))
ends_from net x xs h = net_then (applied_grows net x) (ends_grows (record_stamp x.1) (applied net x) xs h.0)

-- ---- the item of an event, now and in the end

arrive_on : {F : Type 0} (t : ℕ) (old new : List (NodeState F)) (p number : ℕ) (key : Key) (o : Option Session) (item : Sent) → NetGrows t old new → option_and_then (λ x. item_from old p x.peer.0 key number) o ≡ Some item → option_and_then (λ x. item_from new p x.peer.0 key number) o ≡ Some item
arrive_on t old new p number key None item g h = cc
arrive_on t old new p number key (Some x) item g h = g.on x.peer.0 p number key item h

arrive_back : {F : Type 0} (t : ℕ) (old new : List (NodeState F)) (p number : ℕ) (key : Key) (o : Option Session) (item : Sent) → NetGrows t old new → option_and_then (λ x. item_from new p x.peer.0 key number) o ≡ Some item → item.stamp < t → option_and_then (λ x. item_from old p x.peer.0 key number) o ≡ Some item
arrive_back t old new p number key None item g h l = cc
arrive_back t old new p number key (Some x) item g h l = g.back x.peer.0 p number key item h l

pub item_on : {F : Type 0} (t : ℕ) (old new : List (NodeState F)) (p : ℕ) (s : NodeState F) (ev : Event) (item : Sent) → NetGrows t old new → item_for old p s ev ≡ Some item → item_for new p s ev ≡ Some item
item_on t old new p s (event.Answer key) item g h = g.on key.initiator.0 p 0 key item h
item_on t old new p s (event.Arrive key direction number) item g h = arrive_on t old new p number key (session_of key s.sessions) item g h
item_on t old new p s (event.Start f class args) item g h = cc
item_on t old new p s (event.Move f) item g h = cc
item_on t old new p s (event.Lapse f) item g h = cc

item_back : {F : Type 0} (t : ℕ) (old new : List (NodeState F)) (p : ℕ) (s : NodeState F) (ev : Event) (item : Sent) → NetGrows t old new → item_for new p s ev ≡ Some item → item.stamp < t → item_for old p s ev ≡ Some item
item_back t old new p s (event.Answer key) item g h l = g.back key.initiator.0 p 0 key item h l
item_back t old new p s (event.Arrive key direction number) item g h l = arrive_back t old new p number key (session_of key s.sessions) item g h l
item_back t old new p s (event.Start f class args) item g h l = cc
item_back t old new p s (event.Move f) item g h l = cc
item_back t old new p s (event.Lapse f) item g h l = cc

-- a step with no item is one of an event that accepts none
plain_step : {F : Type 0} (w : Environment F) (p : ℕ) (s next : NodeState F) (cause : Cause) (e : Effect F) (b : Bool) → accepts cause.event ≡ b → Stepped w p s cause None next e → accepts cause.event ≡ false
plain_step w p s next cause e false a st = a
plain_step w p s next cause e true a st = let k = effect_accepts w p s cause.moment.0 cause.event None e a st.effect in cc (k.1)

earlier : {F : Type 0} (s : NodeState F) (cause : Cause) (n : ℕ) → in_order s cause n ≡ true → cause.stamp ≡ max s.stamp n + 1
earlier s cause n h = eqb-true cause.stamp (max s.stamp n + 1) (and_parts _ _ h).0

-- what a step takes now is what it takes in the end, and back
now_to_end : {F : Type 0} (w : Environment F) (t : ℕ) (old new : List (NodeState F)) (p : ℕ) (s next : NodeState F) (cause : Cause) (e : Effect F) (o : Option Sent) → NetGrows t old new → item_for old p s cause.event ≡ o → Stepped w p s cause o next e → item_for new p s cause.event ≡ o
now_to_end w t old new p s next cause e (Some item) g is st = item_on t old new p s cause.event item g is
now_to_end w t old new p s next cause e None g is st = no_item new p s cause.event (plain_step w p s next cause e _ refl st)

end_to_now : {F : Type 0} (w : Environment F) (old new : List (NodeState F)) (p : ℕ) (s next : NodeState F) (cause : Cause) (e : Effect F) (o : Option Sent) → NetGrows cause.stamp old new → item_for new p s cause.event ≡ o → Stepped w p s cause o next e → item_for old p s cause.event ≡ o
end_to_now w old new p s next cause e (Some item) g is st =
    let k = earlier s cause item.stamp st.ordered in
    let l : item.stamp < cause.stamp = omega arith in
    item_back cause.stamp old new p s cause.event item g is l
end_to_now w old new p s next cause e None g is st = no_item old p s cause.event (plain_step w p s next cause e _ refl st)

pub body_in_item : (o : Option Sent) (b : Body) → body_in o ≡ Some b → (item : Sent) × (o ≡ Some item) × (item.body ≡ b)
body_in_item None b h = cc
body_in_item (Some item) b h = (item, refl, some_eq h)

-- ---- one step of the network

pub record NetStepped {F : Type 0} (w : Environment F) (net : List (NodeState F)) (p : ℕ) (cause : Cause) (next : List (NodeState F)) (e : Effect F) : Type 0 where
  pub old : NodeState F
  pub is : slice_get net p ≡ Some old
  pub step : node_step w p old cause (item_for net p old cause.event) ≡ Some (apply_effect old cause e, e)
  pub new : next ≡ slice_set net p (apply_effect old cause e)

net_split : {F : Type 0} (w : Environment F) (net next : List (NodeState F)) (p : ℕ) (cause : Cause) (e : Effect F) (s : NodeState F) (o : Option (NodeState F × Effect F)) → slice_get net p ≡ Some s → node_step w p s cause (item_for net p s cause.event) ≡ o → option_map {U = List (NodeState F) × Effect F} (λ done. (slice_set net p done.0, done.1)) o ≡ Some (next, e) → NetStepped w net p cause next e
net_split w net next p cause e s None is step h = cc
net_split {F} w net next p cause e s (Some done) is step h =
    let same : (slice_set net p done.0, done.1) ≡ (next, e) = some_eq h in
    let first : slice_set net p done.0 ≡ next = ap (λ (q : List (NodeState F) × Effect F). q.0) same in
    let second : done.1 ≡ e = ap (λ (q : List (NodeState F) × Effect F). q.1) same in
    let taken : node_step w p s cause (item_for net p s cause.event) ≡ Some (done.0, e) = step ∙ ap (λ (x : Effect F). Some (done.0, x)) second in
    let st = step_taken w p s done.0 cause _ e taken in
    record { old = s; is = is; step = taken ∙ ap (λ (x : NodeState F). Some (x, e)) st.state; new = sym first ∙ ap (slice_set net p) st.state }

pub net_taken : {F : Type 0} (w : Environment F) (net next : List (NodeState F)) (p : ℕ) (cause : Cause) (e : Effect F) → net_step w net p cause ≡ Some (next, e) → NetStepped w net p cause next e
unfolding net_step
net_taken w net next p cause e h = from_then _ (net_step_at w net p cause) (slice_get net p) (next, e) h (λ s is k. net_split w net next p cause e s _ is refl k)

net_step_of : {F : Type 0} (w : Environment F) (net : List (NodeState F)) (p : ℕ) (cause : Cause) (e : Effect F) (s : NodeState F) → slice_get net p ≡ Some s → node_step w p s cause (item_for net p s cause.event) ≡ Some (apply_effect s cause e, e) → net_step w net p cause ≡ Some (slice_set net p (apply_effect s cause e), e)
unfolding net_step
net_step_of w net p cause e s is step = rw (is, step)

pub applied_is : {F : Type 0} (net : List (NodeState F)) (x : ℕ × Record F) (s : NodeState F) → slice_get net x.0 ≡ Some s → applied net x ≡ slice_set net x.0 (apply_effect s x.1.cause x.1.effect)
applied_is net x s is = ap (applied_at net x) is

-- ---- all steps, with the items of a last network

pub record StepAt {F : Type 0} (w : Environment F) (last net : List (NodeState F)) (x : ℕ × Record F) : Type 0 where
  pub old : NodeState F
  pub is : slice_get net x.0 ≡ Some old
  pub step : node_step w x.0 old x.1.cause (item_for last x.0 old x.1.cause.event) ≡ Some (apply_effect old x.1.cause x.1.effect, x.1.effect)

abbrev pub StepsBy : {F : Type 0} → Environment F → List (NodeState F) → List (NodeState F) → List (ℕ × Record F) → Type 0
StepsBy w last net [] = ⊤
StepsBy w last net (x ∷ xs) = StepAt w last net x × StepsBy w last (applied net x) xs

pub follows_steps : {F : Type 0} (w : Environment F) (net : List (NodeState F)) (xs : List (ℕ × Record F)) → Rising xs → Follows w net xs → StepsBy w (ends net xs) net xs
follows_steps w net [] r h = tt
follows_steps {F} w net (x ∷ xs) r h =
    let k = net_taken w net h.0 x.0 x.1.cause x.1.effect h.1 in
    let st = step_taken w x.0 k.old _ x.1.cause _ x.1.effect k.step in
    let same = now_to_end w (record_stamp x.1) net (ends net (x ∷ xs)) x.0 k.old _ x.1.cause x.1.effect _ (ends_from net x xs r) refl st in
    let there : h.0 ≡ applied net x = k.new ∙ sym (applied_is net x k.old k.is) in
    (record { old = k.old; is = k.is; step = ap (node_step w x.0 k.old x.1.cause) same ∙ k.step }, follows_steps w (applied net x) xs r.1 (subst (λ (n : List (NodeState F)). Follows w n xs) there h.2))

pub steps_follow : {F : Type 0} (w : Environment F) (net : List (NodeState F)) (xs : List (ℕ × Record F)) → Rising xs → StepsBy w (ends net xs) net xs → Follows w net xs
steps_follow w net [] r h = tt
steps_follow {F} w net (x ∷ xs) r h =
    let k = h.0 in
    let st = step_taken w x.0 k.old _ x.1.cause _ x.1.effect k.step in
    let same = end_to_now w net (ends net (x ∷ xs)) x.0 k.old _ x.1.cause x.1.effect _ (ends_from net x xs r) refl st in
    let step = net_step_of w net x.0 x.1.cause x.1.effect k.old k.is (ap (node_step w x.0 k.old x.1.cause) same ∙ k.step) in
    let there = applied_is net x k.old k.is in
    (applied net x, step ∙ ap (λ (n : List (NodeState F)). Some (n, x.1.effect)) (sym there), steps_follow w (applied net x) xs r.1 h.1)

-- ---- node by node

abbrev pub of_node : {X : Type 0} → ℕ → List (ℕ × X) → List X
of_node p [] = []
of_node p (x ∷ xs) = cond (p == x.0) (x.1 ∷ of_node p xs) (of_node p xs)

-- a record of a node is a step of it alone, and its item is the last network's
pub record OneStep {F : Type 0} (w : Environment F) (last : List (NodeState F)) (p : ℕ) (s : NodeState F) (r : Record F) : Type 0 where
  pub stamp : ℕ
  pub step : node_step w p s r.cause (stamped stamp r.effect.change.came) ≡ Some (apply_effect s r.cause r.effect, r.effect)
  pub item : accepts r.cause.event ≡ true → IsItem last p s r

module _ {F : Type 0} (w : Environment F) (last : List (NodeState F)) (p : ℕ) (s : NodeState F) (r : Record F) where
  abbrev Next : NodeState F
  Next = apply_effect s r.cause r.effect

  under : (n : ℕ) {a b : Option Body} → a ≡ b → node_step w p s r.cause (stamped n a) ≡ node_step w p s r.cause (stamped n b)
  under n h = ap (λ (o : Option Body). node_step w p s r.cause (stamped n o)) h

  one_of : (b : Bool) (o : Option Sent) → accepts r.cause.event ≡ b → item_for last p s r.cause.event ≡ o → node_step w p s r.cause o ≡ Some (Next, r.effect) → OneStep w last p s r
  one_of false None a is step =
      let st = step_taken w p s Next r.cause None r.effect step in
      let none = effect_plain w p s r.cause.moment.0 r.cause.event None r.effect a st.effect in
      record { stamp = 0; step = under 0 none ∙ step; item = λ yes. cc }
  one_of false (Some item) a is step = let none = no_item last p s r.cause.event a in cc
  one_of true None a is step = let no = plain_step w p s Next r.cause r.effect true a (step_taken w p s Next r.cause None r.effect step) in cc
  one_of true (Some item) a is step =
      let st = step_taken w p s Next r.cause (Some item) r.effect step in
      let k = effect_accepts w p s r.cause.moment.0 r.cause.event (Some item.body) r.effect a st.effect in
      let came : r.effect.change.came ≡ Some item.body = cc (k.1, k.2) in
      record { stamp = item.stamp; step = under item.stamp came ∙ step; item = λ yes. record { item = item; is_sent = is; is_body = came; in_turn = earlier s r.cause item.stamp st.ordered } }

  in_turn_order : (n m : ℕ) → in_order s r.cause n ≡ true → r.cause.stamp ≡ max s.stamp m + 1 → in_order s r.cause m ≡ true
  in_turn_order n m h e = rw (eq-eqb r.cause.stamp (max s.stamp m + 1) e) (and_parts _ _ h).1

  step_by : (b : Bool) → accepts r.cause.event ≡ b → OneStep w last p s r → node_step w p s r.cause (item_for last p s r.cause.event) ≡ Some (Next, r.effect)
  step_by false a one =
      let st = step_taken w p s Next r.cause _ r.effect one.step in
      let none = effect_plain w p s r.cause.moment.0 r.cause.event _ r.effect a st.effect in
      ap (node_step w p s r.cause) (no_item last p s r.cause.event a) ∙ (sym (under one.stamp none) ∙ one.step)
  step_by true a one =
      let it = one.item a in
      let step : node_step w p s r.cause (stamped one.stamp (Some it.item.body)) ≡ Some (Next, r.effect) = sym (under one.stamp it.is_body) ∙ one.step in
      let st = step_taken w p s Next r.cause _ r.effect step in
      ap (node_step w p s r.cause) it.is_sent ∙ step_of w p s r.cause (Some it.item) r.effect (in_turn_order one.stamp it.item.stamp st.ordered it.in_turn) st.effect

-- ---- the whole law over a list of all nodes

abbrev pub AreBelow : {F : Type 0} → ℕ → List (ℕ × Record F) → Type 0
AreBelow n xs = AllByRecursion (λ x. x.0 < n) xs

-- the records of a node are steps of it alone, over the items of the last network
abbrev pub IsOwn : {F : Type 0} → Environment F → List (NodeState F) → ℕ → NodeState F → List (Record F) → Type 0
IsOwn w last p s records = IsLocalFrom w p s records × IsMatchedFrom last p s records

own_more : {F : Type 0} (w : Environment F) (last : List (NodeState F)) (p : ℕ) (s : NodeState F) (r : Record F) (rs : List (Record F)) → OneStep w last p s r → IsOwn w last p (apply_effect s r.cause r.effect) rs → IsOwn w last p s (r ∷ rs)
own_more w last p s r rs one rest = ((one.stamp, apply_effect s r.cause r.effect, one.step, rest.0), (one.item, rest.1))

own_first : {F : Type 0} (w : Environment F) (last : List (NodeState F)) (p : ℕ) (s : NodeState F) (r : Record F) (rs : List (Record F)) → IsOwn w last p s (r ∷ rs) → OneStep w last p s r × IsOwn w last p (apply_effect s r.cause r.effect) rs
own_first {F} w last p s r rs h =
    let st = step_taken w p s h.0.1 r.cause _ r.effect h.0.2 in
    (record { stamp = h.0.0; step = h.0.2 ∙ ap (λ (x : NodeState F). Some (x, r.effect)) st.state; item = h.1.0 }, (subst (λ (x : NodeState F). IsLocalFrom w p x rs) st.state h.0.3, h.1.1))

pub get_applied : {F : Type 0} (net : List (NodeState F)) (x : ℕ × Record F) (s : NodeState F) → slice_get net x.0 ≡ Some s → slice_get (applied net x) x.0 ≡ Some (apply_effect s x.1.cause x.1.effect)
get_applied net x s is = ap (λ (n : List _). slice_get n x.0) (applied_is net x s is) ∙ get_there net x.0 s (apply_effect s x.1.cause x.1.effect) is

pub get_other : {F : Type 0} (net : List (NodeState F)) (x : ℕ × Record F) (s : NodeState F) (q : ℕ) → slice_get net x.0 ≡ Some s → (q == x.0) ≡ false → slice_get (applied net x) q ≡ slice_get net q
get_other net x s q is ne =
    let e = ap (λ (n : List _). slice_get n q) (applied_is net x s is) in
    ⊎_elim (λ k. absurd (eqb-false q x.0 ne k.0)) (λ k. e ∙ k) (get_set net x.0 s (apply_effect s x.1.cause x.1.effect) q is)

own_at : {F : Type 0} (w : Environment F) (last net : List (NodeState F)) (x : ℕ × Record F) (xs : List (ℕ × Record F)) (b : Bool) (q : ℕ) (s : NodeState F) → StepAt w last net x → ((q : ℕ) (s : NodeState F) → slice_get (applied net x) q ≡ Some s → IsOwn w last q s (of_node q xs)) → (q == x.0) ≡ b → slice_get net q ≡ Some s → IsOwn w last q s (cond b (x.1 ∷ of_node q xs) (of_node q xs))
own_at {F} w last net x xs true q s k rest e is =
    let there : q ≡ x.0 = eqb-true q x.0 e in
    let same : k.old ≡ s = some_eq (sym k.is ∙ (ap (slice_get net) (sym there) ∙ is)) in
    let own : IsOwn w last x.0 k.old (x.1 ∷ of_node x.0 xs) = own_more w last x.0 k.old x.1 (of_node x.0 xs) (one_of w last x.0 k.old x.1 _ _ refl refl k.step) (rest x.0 _ (get_applied net x k.old k.is)) in
    subst (λ (t : NodeState F). IsOwn w last q t (x.1 ∷ of_node q xs)) same (subst (λ (m : ℕ). IsOwn w last m k.old (x.1 ∷ of_node m xs)) (sym there) own)
own_at w last net x xs false q s k rest e is = rest q s (get_other net x k.old q k.is e ∙ is)

pub steps_own : {F : Type 0} (w : Environment F) (last net : List (NodeState F)) (xs : List (ℕ × Record F)) → StepsBy w last net xs → (q : ℕ) (s : NodeState F) → slice_get net q ≡ Some s → IsOwn w last q s (of_node q xs)
steps_own w last net [] h q s is = (tt, tt)
steps_own w last net (x ∷ xs) h q s is = own_at w last net x xs (q == x.0) q s h.0 (steps_own w last (applied net x) xs h.1) refl is

same_test : (n : ℕ) → (n == n) ≡ true
same_test n = eq-eqb n n refl

own_head : {F : Type 0} (w : Environment F) (last : List (NodeState F)) (x : ℕ × Record F) (xs : List (ℕ × Record F)) (s : NodeState F) → IsOwn w last x.0 s (of_node x.0 (x ∷ xs)) → IsOwn w last x.0 s (x.1 ∷ of_node x.0 xs)
own_head w last x xs s h = rw same_test at h

-- what the first record leaves of the facts on each node
own_rest : {F : Type 0} (w : Environment F) (last net : List (NodeState F)) (x : ℕ × Record F) (xs : List (ℕ × Record F)) (s : NodeState F) (b : Bool) (q : ℕ) (t : NodeState F) → slice_get net x.0 ≡ Some s → IsOwn w last x.0 s (x.1 ∷ of_node x.0 xs) → (q == x.0) ≡ b → ((u : NodeState F) → slice_get net q ≡ Some u → IsOwn w last q u (cond b (x.1 ∷ of_node q xs) (of_node q xs))) → slice_get (applied net x) q ≡ Some t → IsOwn w last q t (of_node q xs)
own_rest {F} w last net x xs s true q t is own e all there =
    let q_is : q ≡ x.0 = eqb-true q x.0 e in
    let same : apply_effect s x.1.cause x.1.effect ≡ t = some_eq (sym (get_applied net x s is) ∙ (ap (slice_get (applied net x)) (sym q_is) ∙ there)) in
    subst (λ (u : NodeState F). IsOwn w last q u (of_node q xs)) same (subst (λ (m : ℕ). IsOwn w last m (apply_effect s x.1.cause x.1.effect) (of_node m xs)) (sym q_is) (own_first w last x.0 s x.1 (of_node x.0 xs) own).1)
own_rest w last net x xs s false q t is own e all there = all t (sym (get_other net x s q is e) ∙ there)

own_step : {F : Type 0} (w : Environment F) (last net : List (NodeState F)) (x : ℕ × Record F) (s : NodeState F) → slice_get net x.0 ≡ Some s → OneStep w last x.0 s x.1 → StepAt w last net x
own_step w last net x s is one = record { old = s; is = is; step = step_by w last x.0 s x.1 _ refl one }

length_applied : {F : Type 0} (net : List (NodeState F)) (x : ℕ × Record F) (o : Option (NodeState F)) → length (applied_at net x o) ≡ length net
length_applied net x None = refl
length_applied net x (Some s) = length-set net x.0 _

pub own_steps : {F : Type 0} (w : Environment F) (last net : List (NodeState F)) (xs : List (ℕ × Record F)) → AreBelow (length net) xs → ((q : ℕ) (s : NodeState F) → slice_get net q ≡ Some s → IsOwn w last q s (of_node q xs)) → StepsBy w last net xs
own_steps w last net [] below h = tt
own_steps {F} w last net (x ∷ xs) below h =
    let found = get_below net x.0 below.0 in
    let s = found.0 in
    let own = own_head w last x xs s (h x.0 s found.1) in
    let one = (own_first w last x.0 s x.1 (of_node x.0 xs) own).0 in
    (own_step w last net x s found.1 one, own_steps w last (applied net x) xs (subst (λ (n : ℕ). AreBelow n xs) (sym (length_applied net x (slice_get net x.0))) below.1) (λ q t there. own_rest w last net x xs s (q == x.0) q t found.1 own refl (h q) there))

-- a list of all nodes in rising order is a run exactly where each node's records are its own steps over the items of the end
pub follows_own : {F : Type 0} (w : Environment F) (net : List (NodeState F)) (xs : List (ℕ × Record F)) → Rising xs → Follows w net xs → (q : ℕ) (s : NodeState F) → slice_get net q ≡ Some s → IsOwn w (ends net xs) q s (of_node q xs)
follows_own w net xs r h = steps_own w (ends net xs) net xs (follows_steps w net xs r h)

pub own_follows : {F : Type 0} (w : Environment F) (net : List (NodeState F)) (xs : List (ℕ × Record F)) → Rising xs → AreBelow (length net) xs → ((q : ℕ) (s : NodeState F) → slice_get net q ≡ Some s → IsOwn w (ends net xs) q s (of_node q xs)) → Follows w net xs
own_follows w net xs r below h = steps_follow w net xs r (own_steps w (ends net xs) net xs below h)

pub step_grows : {F : Type 0} (w : Environment F) (net next : List (NodeState F)) (p : ℕ) (cause : Cause) (e : Effect F) → net_step w net p cause ≡ Some (next, e) → NetGrows cause.stamp net next
step_grows {F} w net next p cause e h =
    let k = net_taken w net next p cause e h in
    subst (λ (n : List (NodeState F)). NetGrows cause.stamp net n) (sym k.new) (set_grows net p k.old cause e k.is)

pub items_stay : {F : Type 0} → ItemsStay F
items_stay w net next p cause e h = (step_grows w net next p cause e h).on

pub items_are_stamped : {F : Type 0} → ItemsAreStamped F
items_are_stamped {F} w net next p cause e h q me n key item there other =
    let k = net_taken w net next p cause e h in
    let new : item_from (slice_set net p (apply_effect k.old cause e)) me q key n ≡ Some item = subst (λ (l : List (NodeState F)). item_from l me q key n ≡ Some item) k.new there in
    set_stamped net p k.old cause e k.is q me n key item new other
