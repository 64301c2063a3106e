-- What has come into a session was sent there by its peer, in the same order.
use Rattle.std.proofs.Common.{◌≡◌, ⊎_elim, ℕ, zero, suc, List, [], ◌∷◌, ◌++◌, Option, Some, None, Bool, true, false, cond, ◌==◌, map, take, option_and_then, slice_get, slice_set, length, refl, sym, ap, subst, ◌∙◌, append-nil}
use Rattle.std.specs.Prelude.{⊤, option_to_list}
use Rattle.std.proofs.lemmas.Bool.{and_parts, eqb-true}
use Rattle.net_base.specs.declared.names.Key.{Key}
use Rattle.net_base.specs.declared.values.Party.{Party}
use Rattle.net_base.specs.declared.causes.Cause.{Cause}
use Rattle.net_base.specs.declared.causes.Event.{Event}
use Rattle.net_base.specs.declared.causes.Event.TheVariants as event
use Rattle.net_base.proofs.Lists.{find_map, find_test, get_push}
use Rattle.net_base.proofs.Options.{some_eq}
use Rattle.session_wire.specs.declared.body.Body.{Body}
use Rattle.session_wire.specs.declared.change.SentItem.{SentItem}
use Rattle.session_wire.specs.Sessions.{Sent, Session, changed_at, key_eq, opened_on, sent_on, session_of, taken_on, with_came, with_sent, with_taken}
use Rattle.session_wire.specs.Rules.{direction_in, is_next}
use Rattle.session_wire.proofs.Keys.{key_exact}
use Rattle.net_model.specs.Environment.{Environment, party}
use Rattle.net_model.specs.State.{NodeState, Effect, came_on, sessions_on, flow_of, apply_effect, fresh, replay}
use Rattle.net_model.specs.Steps.{arrived, effect_of, body_in}
use Rattle.net_model.specs.Runs.{sent_to, sent_in, items_from, item_from, item_for, net_step, fresh_net, run_from, run_of, network_of, merged, accepts, CameFromPeers, CameWasSent, CameWasSentInJournals}
use Rattle.net_model.proofs.Basics.{from_map, from_then, from_cond, find_last, get_set, apply_sessions, fresh_get}
use Rattle.net_model.proofs.Effects.{step_taken, effect_plain, effect_accepts}
use Rattle.net_model.proofs.Local.{body_in_item, net_taken, set_grows}
use Rattle.net_model.proofs.Faithful.{faithful_run}

-- ---- what holds of each item that came

-- of each item that came P holds, with the key of its session, the session's peer, and its number
abbrev Came : (Key → Party → ℕ → Body → Type 0) → List Session → Type 0
Came P ss = (key : Key) (session : Session) (n : ℕ) (body : Body) → session_of key ss ≡ Some session → slice_get session.came n ≡ Some body → P key session.peer n body

-- the new item, if there is one, is the first of a new session or the next of its session
abbrev Brings : (Key → Party → ℕ → Body → Type 0) → Event → List Session → Option Body → Type 0
Brings P (event.Answer key) ss came = (body : Body) → came ≡ Some body → P key key.initiator 0 body
Brings P (event.Arrive key direction number) ss came = (session : Session) (body : Body) → session_of key ss ≡ Some session → came ≡ Some body → P key session.peer (length session.came) body
Brings P (event.Start flow class args) ss came = ⊤
Brings P (event.Move flow) ss came = ⊤
Brings P (event.Lapse flow) ss came = ⊤

module _ (P : Key → Party → ℕ → Body → Type 0) where
  came_added : (ss : List Session) (x : Session) → Came P ss → ((n : ℕ) (body : Body) → slice_get x.came n ≡ Some body → P x.key x.peer n body) → Came P (ss ++ x ∷ [])
  came_added ss x all new key session n body h g =
      ⊎_elim
      (λ k. all key session n body k g)
      (λ k.
      let same : key ≡ session.key = key_exact key session.key (find_test (λ y. key_eq key y.key) (ss ++ x ∷ []) session h) in
      let here : P session.key session.peer n body = subst (λ (y : Session). slice_get y.came n ≡ Some body → P y.key y.peer n body) k (new n body) g in
      subst (λ (i : Key). P i session.peer n body) (sym same) here)
      (find_last (λ y. key_eq key y.key) ss x session h)

  -- one session is changed, which keeps its key and peer
  came_changed : (there : Key) (change : Session → Session) (ss : List Session) → ((x : Session) → (change x).key ≡ x.key) → ((x : Session) → (change x).peer ≡ x.peer)
      → ((x : Session) (n : ℕ) (body : Body) → session_of there ss ≡ Some x → slice_get (change x).came n ≡ Some body → P there x.peer n body) → Came P ss → Came P (changed_at there change ss)
  came_changed there change ss keys peers new all key session n body h g =
      let f : Session → Session = λ x. cond (key_eq there x.key) (change x) x in
      let mapped = find_map (λ y. key_eq key y.key) f ss (λ x. elim (key_eq there x.key) as (λ b. key_eq key (cond b (change x) x).key ≡ key_eq key x.key) [ true ↦ ap (key_eq key) (keys x) | false ↦ refl ]) in
      from_map (λ (y : Session). slice_get y.came n ≡ Some body → P key y.peer n body) f (session_of key ss) session (sym mapped ∙ h) (λ x is. by x is (key_eq there x.key) refl) g
    where
      by : (x : Session) → session_of key ss ≡ Some x → (b : Bool) → key_eq there x.key ≡ b → slice_get (cond b (change x) x).came n ≡ Some body → P key (cond b (change x) x).peer n body
      by x is true e k =
          let same : there ≡ key = key_exact there x.key e ∙ sym (key_exact key x.key (find_test (λ y. key_eq key y.key) ss x is)) in
          let found : session_of there ss ≡ Some x = ap (λ (i : Key). session_of i ss) same ∙ is in
          subst (λ (i : Key). P i (change x).peer n body) same (subst (λ (q : Party). P there q n body) (sym (peers x)) (new x n body found k))
      by x is false e k = all key x n body is k

  came_kept : (there : Key) (change : Session → Session) (ss : List Session) → ((x : Session) → (change x).key ≡ x.key) → ((x : Session) → (change x).peer ≡ x.peer) → ((x : Session) → (change x).came ≡ x.came) → Came P ss → Came P (changed_at there change ss)
  came_kept there change ss keys peers cames all = came_changed there change ss keys peers (λ x n body is k. all there x n body is (subst (λ (l : List Body). slice_get l n ≡ Some body) (cames x) k)) all

  came_opened : (o : Option (Key × Party)) (owner : Option ℕ) (ss : List Session) → Came P ss → Came P (opened_on o owner ss)
  came_opened None owner ss all = all
  came_opened (Some opened) owner ss all = came_added ss _ all (λ n body k. cc)

  came_sent : (stamp : ℕ) (items : List SentItem) (ss : List Session) → Came P ss → Came P (sent_on stamp items ss)
  came_sent stamp [] ss all = all
  came_sent stamp (item ∷ items) ss all = came_sent stamp items _ (came_kept item.key (with_sent (record { body = item.body; stamp = stamp })) ss (λ x. refl) (λ x. refl) (λ x. refl) all)

  came_taken : (o : Option (Key × ℕ)) (ss : List Session) → Came P ss → Came P (taken_on o ss)
  came_taken None ss all = all
  came_taken (Some taken) ss all = came_kept taken.0 (with_taken taken.1) ss (λ x. refl) (λ x. refl) (λ x. refl) all

  first_came : (key : Key) (o : Option Body) (n : ℕ) (body : Body) → ((body : Body) → o ≡ Some body → P key key.initiator 0 body) → slice_get (option_to_list o) n ≡ Some body → P key key.initiator n body
  first_came key None n body new k = cc
  first_came key (Some b) zero body new k = new body k
  first_came key (Some b) (suc n) body new k = cc

  next_came : (key : Key) (o : Option Body) (x : Session) (n : ℕ) (body : Body) → ((n : ℕ) (body : Body) → slice_get x.came n ≡ Some body → P key x.peer n body) → ((body : Body) → o ≡ Some body → P key x.peer (length x.came) body)
      → slice_get (x.came ++ option_to_list o) n ≡ Some body → P key x.peer n body
  next_came key None x n body old new k = old n body (subst (λ (l : List Body). slice_get l n ≡ Some body) (append-nil x.came) k)
  next_came key (Some b) x n body old new k = ⊎_elim (λ l. old n body l) (λ l. subst (λ (i : ℕ). P key x.peer i body) l.0 (new body (ap Some l.1))) (get_push x.came b n body k)

  came_came : (ev : Event) (o : Option Body) (owner : Option ℕ) (ss : List Session) → Brings P ev ss o → Came P ss → Came P (came_on ev (option_to_list o) owner ss)
  came_came (event.Answer key) o owner ss new all = came_added ss _ all (λ n body k. first_came key o n body new k)
  came_came (event.Arrive key direction number) o owner ss new all = came_changed key (with_came (option_to_list o)) ss (λ x. refl) (λ x. refl) (λ x n body is k. next_came key o x n body (λ i b l. all key x i b is l) (λ b e. new x b is e) k) all
  came_came (event.Start f class args) o owner ss new all = all
  came_came (event.Move f) o owner ss new all = all
  came_came (event.Lapse f) o owner ss new all = all

  -- what a cause makes of the sessions
  came_after : {F : Type 0} (cause : Cause) (e : Effect F) (ss : List Session) → Brings P cause.event ss e.change.came → Came P ss → Came P (sessions_on cause e ss)
  came_after cause e ss new all = came_taken e.change.taken _ (came_sent cause.stamp e.change.sent _ (came_opened e.change.opened (flow_of e.flow) _ (came_came cause.event e.change.came (flow_of e.flow) ss new all)))

-- ---- a step accepts what its sender has

-- the peer has sent the item to the node, under that number
abbrev WasSent : {F : Type 0} → List (NodeState F) → ℕ → Key → Party → ℕ → Body → Type 0
WasSent net p key peer n body = (item : Sent) × (item_from net p peer.0 key n ≡ Some item) × (item.body ≡ body)

abbrev AllSent : {F : Type 0} → List (NodeState F) → Type 0
AllSent {F} net = (p : ℕ) (s : NodeState F) → slice_get net p ≡ Some s → Came (WasSent net p) s.sessions

module _ {F : Type 0} (w : Environment F) (net : List (NodeState F)) (p : ℕ) (s : NodeState F) (now : ℕ) (e : Effect F) where
  accepted : (ev : Event) (body : Body) → effect_of w p s now ev (body_in (item_for net p s ev)) ≡ Some e → e.change.came ≡ Some body → (item : Sent) × (item_for net p s ev ≡ Some item) × (item.body ≡ body)
  accepted ev body h came = by (accepts ev) refl
    where
      by : (b : Bool) → accepts ev ≡ b → (item : Sent) × (item_for net p s ev ≡ Some item) × (item.body ≡ body)
      by true a =
          let k = effect_accepts w p s now ev (body_in (item_for net p s ev)) e a h in
          let i = body_in_item (item_for net p s ev) k.0 k.1 in
          (i.0, i.1, i.2 ∙ some_eq (sym k.2 ∙ came))
      by false a = let k = effect_plain w p s now ev (body_in (item_for net p s ev)) e a h in cc

  -- the number of an item that arrives is how many came before it
  counted : (key : Key) (direction number : ℕ) (o : Option Body) (session : Session) → session_of key s.sessions ≡ Some session → effect_of w p s now (event.Arrive key direction number) o ≡ Some e → number ≡ length session.came
  unfolding effect_of
  counted key direction number o session is h =
      from_then _ (λ x. option_and_then (λ b. arrived p key direction number b x) o) (session_of key s.sessions) e h (λ x there k.
      from_then _ (λ b. arrived p key direction number b x) o e k (λ b _ l.
      from_cond _ (is_next (party p) key direction number b x) _ e l (λ t _.
      let q = and_parts (direction == direction_in (party p) key) _ t in
      let r = and_parts (number == length x.came) _ q.1 in
      eqb-true number (length x.came) r.0 ∙ ap (λ (y : Session). length y.came) (some_eq (sym there ∙ is)))))

  brings : (ev : Event) → effect_of w p s now ev (body_in (item_for net p s ev)) ≡ Some e → Brings (WasSent net p) ev s.sessions e.change.came
  brings (event.Answer key) h = λ body came. accepted (event.Answer key) body h came
  brings (event.Arrive key direction number) h = λ session body is came.
      let a = accepted (event.Arrive key direction number) body h came in
      let there : item_from net p session.peer.0 key number ≡ Some a.0 = ap (option_and_then (λ x. item_from net p x.peer.0 key number)) (sym is) ∙ a.1 in
      (a.0, subst (λ (n : ℕ). item_from net p session.peer.0 key n ≡ Some a.0) (counted key direction number _ session is h) there, a.2)
  brings (event.Start f class args) h = tt
  brings (event.Move f) h = tt
  brings (event.Lapse f) h = tt

-- ---- along a run

module _ {F : Type 0} (w : Environment F) where
  step_sent : (net next : List (NodeState F)) (p : ℕ) (cause : Cause) (e : Effect F) → net_step w net p cause ≡ Some (next, e) → AllSent net → AllSent next
  step_sent net next p cause e h all =
      let k = net_taken w net next p cause e h in
      let s = k.old in
      let st = step_taken w p s _ cause (item_for net p s cause.event) e k.step in
      let new = slice_set net p (apply_effect s cause e) in
      let on = (set_grows net p s cause e k.is).on in
      let then : (q : ℕ) (key : Key) (peer : Party) (n : ℕ) (body : Body) → WasSent net q key peer n body → WasSent new q key peer n body = λ q key peer n body i. (i.0, on peer.0 q n key i.0 i.1, i.2) in
      let came : Came (WasSent net p) (sessions_on cause e s.sessions) = came_after (WasSent net p) cause e s.sessions (brings w net p s cause.moment.0 e cause.event st.effect) (all p s k.is) in
      let mine : Came (WasSent net p) (apply_effect s cause e).sessions = subst (Came (WasSent net p)) (sym (apply_sessions s cause e)) came in
      let there : AllSent new = λ q t is key session n body found at. then q key session.peer n body (⊎_elim
      (λ l. subst (λ (i : ℕ). WasSent net i key session.peer n body) (sym l.0) (mine key session n body (ap (λ (x : NodeState F). session_of key x.sessions) (some_eq (sym l.1 ∙ is)) ∙ found) at))
      (λ l. all q t (sym l ∙ is) key session n body found at)
      (get_set net p s (apply_effect s cause e) q k.is)) in
      subst (λ (n : List (NodeState F)). AllSent n) (sym k.new) there

  fresh_sent : AllSent (fresh_net w)
  fresh_sent q s h = subst (λ (x : NodeState F). Came (WasSent (fresh_net w) q) x.sessions) (fresh_get w.nodes q fresh s h) (λ key session n body found at. cc)

  sent_from : (net last : List (NodeState F)) (causes : List (ℕ × Cause)) → run_from w net causes ≡ Some last → AllSent net → AllSent last
  sent_from net last [] h all = subst (λ (n : List (NodeState F)). AllSent n) (some_eq h) all
  sent_from net last (x ∷ xs) h all = from_then _ (λ done. run_from w done.0 xs) (net_step w net x.0 x.1) last h (λ done is k. sent_from done.0 last xs k (step_sent net done.0 x.0 x.1 done.1 is all))

  run_sent : (causes : List (ℕ × Cause)) (net : List (NodeState F)) → run_of w causes ≡ Some net → AllSent net
  unfolding run_of
  run_sent causes net h = sent_from (fresh_net w) net causes h fresh_sent

-- ---- as lists

-- what stands in a list of items at each place is a front of it
front_of : (xs : List Body) (ys : List Sent) → ((n : ℕ) (body : Body) → slice_get xs n ≡ Some body → (item : Sent) × (slice_get ys n ≡ Some item) × (item.body ≡ body)) → xs ≡ take (length xs) (map (λ i. i.body) ys)
front_of [] ys h = refl
front_of (x ∷ xs) [] h = let k = h 0 x refl in let no = k.1 in cc
front_of (x ∷ xs) (y ∷ ys) h =
    let k = h 0 x refl in
    let first : x ≡ y.body = sym (ap (λ (i : Sent). i.body) (some_eq k.1) ∙ k.2) in
    let rest = front_of xs ys (λ n body is. h (suc n) body is) in
    ap (λ (b : Body). b ∷ xs) first ∙ ap (λ (l : List Body). y.body ∷ l) rest

item_of : {F : Type 0} (net : List (NodeState F)) (me sender : ℕ) (key : Key) (n : ℕ) → item_from net me sender key n ≡ slice_get (items_from net me sender key) n
unfolding item_from
item_of {F} net me sender key n = by (slice_get net sender)
  where
    in_session : (o : Option Session) → sent_to me n o ≡ slice_get (sent_in me o) n
    in_session None = refl
    in_session (Some session) = elim (session.peer.0 == me) as (λ b. cond b (slice_get session.sent n) None ≡ slice_get (cond b session.sent []) n) [ true ↦ refl | false ↦ refl ]

    by : (o : Option (NodeState F)) → option_and_then (λ s. sent_to me n (session_of key s.sessions)) o ≡ slice_get (sent_in me (option_and_then (λ s. session_of key s.sessions) o)) n
    by None = refl
    by (Some s) = in_session (session_of key s.sessions)

came_front : {F : Type 0} (net : List (NodeState F)) → AllSent net → CameFromPeers net
came_front net all p s key session is found =
    front_of session.came (items_from net p session.peer.0 key) (λ n body at.
    let i = all p s is key session n body found at in
    (i.0, sym (item_of net p session.peer.0 key n) ∙ i.1, i.2))

pub came_was_sent : {F : Type 0} → CameWasSent F
came_was_sent w causes net h = came_front net (run_sent w causes net h)

pub came_was_sent_in_journals : {F : Type 0} → CameWasSentInJournals F
unfolding network_of
came_was_sent_in_journals w journals size h = came_was_sent w (merged (map (map (λ r. r.cause)) journals)) (map replay journals) (faithful_run w journals size h)
