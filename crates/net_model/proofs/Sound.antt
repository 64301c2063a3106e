-- Records that fit keep a state sound, and so the records of a node's own steps all fit.
use Rattle.std.proofs.Common.{◌≡◌, ℕ, zero, suc, ◌+◌, ◌≤◌, ◌⊎◌, inl, inr, ⊎_elim, List, [], ◌∷◌, ◌++◌, Option, Some, None, Bool, true, false, cond, ◌==◌, ◌&&◌, ◌||◌, not, nat_lt, map, filter, find, is_none, option_and_then, option_to_list, slice_get, slice_set, length, refl, sym, ap, subst, ◌∙◌, arith, append-nil, length-append}
use Rattle.std.specs.Prelude.{⊤}
use Rattle.std.specs.List.{list_all, list_any}
use Rattle.std.proofs.lemmas.Bool.{and_parts, and_from, or_cases, or_parts, or_left, or_right, or_from, both_ways, not-true, not_from_false, eqb-true, eq-eqb, ltb-true, lt-ltb, ne_eqb}
use Rattle.net_base.specs.declared.names.Key.{Key}
use Rattle.net_base.specs.declared.values.Hash32.{Hash32}
use Rattle.net_base.specs.declared.values.Party.{Party}
use Rattle.net_base.specs.declared.causes.Cause.{Cause}
use Rattle.net_base.specs.declared.causes.Event.{Event}
use Rattle.net_base.specs.declared.causes.Event.TheVariants as event
use Rattle.net_base.proofs.Options.{none_of, some_eq}
use Rattle.net_base.proofs.Lists.{any_weaken, none_push, passes_weaken}
use Rattle.ledger_types.specs.declared.tx.SignedTx.{SignedTx}
use Rattle.session_wire.specs.declared.body.Body.{Body}
use Rattle.session_wire.specs.declared.body.Body.TheVariants as body_of
use Rattle.session_wire.specs.declared.change.SentItem.{SentItem}
use Rattle.flow_machine.specs.declared.flows.Checkpoint.{Checkpoint}
use Rattle.flow_machine.specs.declared.flows.FlowState.{FlowState}
use Rattle.flow_machine.specs.declared.flows.FlowState.TheVariants as state
use Rattle.ledger_types.specs.Names.{hash_eq}
use Rattle.ledger_types.proofs.Names.{hash_swapped}
use Rattle.session_wire.specs.Sessions.{Sent, Session, changed_at, key_eq, new_session, opened_on, sent_on, session_of, taken_on, with_came, with_sent, with_taken}
use Rattle.session_wire.specs.Rules.{is_init_of, is_no_peer}
use Rattle.session_wire.proofs.Keys.{key_exact, key_same, key_turned}
use Rattle.net_model.specs.Environment.{Environment, party}
use Rattle.ledger_types.specs.Stores.{is_stored, may_record}
use Rattle.ledger_types.specs.Signatures.{tx_id}
use Rattle.net_model.specs.State.{NodeState, FlowPart, no_flow, now_live, now_ended, now_failed, Effect, Record, with_ids, apply_effect, came_on, sessions_on, flow_of, flows_on, placed, fresh}
use Rattle.net_model.specs.Steps.{checkpoint_of}
use Rattle.net_model.specs.Runs.{IsLocalFrom}
use Rattle.net_model.specs.Fits.{AnswersFirst, AcceptsInit, FitsEvent, FitsOpened, Fits, keys_differ, ids_differ, is_counted, IsSound, FitsKeepSound, FreshIsSound}
use Rattle.net_model.proofs.Basics.{get_set}
use Rattle.net_model.proofs.Effects.{step_taken}
use Rattle.net_model.proofs.Fitting.{step_fits, not_counted, initiator_other}
use Rattle.net_model.proofs.Lists.{all_append, all_one, all_mapped}

-- ---- flows keep their numbers

abbrev AreNumbered : {F : Type 0} → List (FlowState F) → Type 0
AreNumbered {F} flows = (f : ℕ) (at : Checkpoint F) → option_and_then checkpoint_of (slice_get flows f) ≡ Some at → at.flow ≡ f

get_append : {X : Type 0} (xs : List X) (y : X) (n : ℕ) → (slice_get (xs ++ y ∷ []) n ≡ slice_get xs n) ⊎ ((n ≡ length xs) × (slice_get (xs ++ y ∷ []) n ≡ Some y))
get_append [] y zero = inr (omega arith, refl)
get_append [] y (suc n) = inl refl
get_append (x ∷ xs) y zero = inl refl
get_append (x ∷ xs) y (suc n) = ⊎_elim (λ k. inl k) (λ k. let e = k.0 in inr (omega arith, k.1)) (get_append xs y n)

set_past : {X : Type 0} (xs : List X) (p : ℕ) (y : X) (q : ℕ) → slice_get xs p ≡ None → slice_get (slice_set xs p y) q ≡ slice_get xs q
set_past [] p y q h = refl
set_past (x ∷ xs) zero y q h = cc
set_past (x ∷ xs) (suc p) y zero h = refl
set_past (x ∷ xs) (suc p) y (suc q) h = set_past xs p y q h

get_or_none : {X : Type 0} (xs : List X) (p : ℕ) (y : X) (q : ℕ) (o : Option X) → slice_get xs p ≡ o → ((q ≡ p) × (slice_get (slice_set xs p y) q ≡ Some y)) ⊎ (slice_get (slice_set xs p y) q ≡ slice_get xs q)
get_or_none xs p y q (Some x) h = get_set xs p x y q h
get_or_none xs p y q None h = inr (set_past xs p y q h)

module _ {F : Type 0} where
  placed_numbered : (flows : List (FlowState F)) (f : ℕ) (x : FlowState F) → AreNumbered flows → ((at : Checkpoint F) → checkpoint_of x ≡ Some at → at.flow ≡ f) → AreNumbered (placed flows f x)
  placed_numbered flows f x h k =
      (elim (f == length flows) as (λ b. (f == length flows) ≡ b → AreNumbered (cond b (flows ++ x ∷ []) (slice_set flows f x))) [
        | true ↦ λ e n at is. ⊎_elim (λ l. h n at (ap (option_and_then checkpoint_of) (sym l) ∙ is)) (λ l. k at (ap (option_and_then checkpoint_of) (sym l.1) ∙ is) ∙ (eqb-true f (length flows) e ∙ sym l.0)) (get_append flows x n)
        | false ↦ λ e n at is. ⊎_elim (λ l. k at (ap (option_and_then checkpoint_of) (sym l.1) ∙ is) ∙ sym l.0) (λ l. h n at (ap (option_and_then checkpoint_of) (sym l) ∙ is)) (get_or_none flows f x n (slice_get flows f) refl)
      ]) refl

  flows_numbered : (p : FlowPart F) (flows : List (FlowState F)) → AreNumbered flows → AreNumbered (flows_on p flows)
  flows_numbered no_flow flows h = h
  flows_numbered (now_live cp) flows h = placed_numbered flows cp.flow (state.Live cp) h (λ at is. ap (λ (x : Checkpoint F). x.flow) (sym (some_eq is)))
  flows_numbered (now_ended f step class v) flows h = placed_numbered flows f (state.Ended step class v) h (λ at is. cc)
  flows_numbered (now_failed f step class code) flows h = placed_numbered flows f (state.Failed step class code) h (λ at is. cc)

-- ---- sessions

abbrev pub begun : Session → Bool
begun x = not (length x.sent == 0)

-- the session has sent, or is about to send
abbrev pub waits : List SentItem → Session → Bool
waits items x = begun x || list_any (λ item. key_eq item.key x.key) items

abbrev pub count : ℕ → List Session → ℕ
count me ss = length (filter (λ x. x.key.initiator.0 == me) ss)

pub record Kept (me : ℕ) (items : List SentItem) (ss : List Session) : Type 0 where
  pub begun : list_all (waits items) ss ≡ true
  pub counted : list_all (is_counted me (count me ss)) ss ≡ true
  pub keys : keys_differ ss ≡ true

more_counted : (me n m : ℕ) (x : Session) → n ≤ m → is_counted me n x ≡ true → is_counted me m x ≡ true
more_counted me n m x l h = ⊎_elim (λ k. or_left _ _ k) (λ k. let b = ltb-true x.key.number n k in or_right _ _ (lt-ltb x.key.number m (omega arith))) (or_cases _ _ h)

count_append : (me : ℕ) (ss : List Session) (x : Session) → count me ss ≤ count me (ss ++ x ∷ [])
count_append me [] x = omega arith
count_append me (y ∷ ys) x = let k = count_append me ys x in elim (y.key.initiator.0 == me) as (λ b. length (cond b (y ∷ filter (λ z. z.key.initiator.0 == me) ys) (filter (λ z. z.key.initiator.0 == me) ys)) ≤ length (cond b (y ∷ filter (λ z. z.key.initiator.0 == me) (ys ++ x ∷ [])) (filter (λ z. z.key.initiator.0 == me) (ys ++ x ∷ [])))) [ true ↦ omega arith | false ↦ k ]

count_own : (me : ℕ) (ss : List Session) (x : Session) → (x.key.initiator.0 == me) ≡ true → count me (ss ++ x ∷ []) ≡ count me ss + 1
count_own me [] x h = rw h (omega arith)
count_own me (y ∷ ys) x h = let k = count_own me ys x h in elim (y.key.initiator.0 == me) as (λ b. length (cond b (y ∷ filter (λ z. z.key.initiator.0 == me) (ys ++ x ∷ [])) (filter (λ z. z.key.initiator.0 == me) (ys ++ x ∷ []))) ≡ length (cond b (y ∷ filter (λ z. z.key.initiator.0 == me) ys) (filter (λ z. z.key.initiator.0 == me) ys)) + 1) [ true ↦ omega arith | false ↦ k ]

none_head : {X : Type 0} (P : X → Bool) (x : X) (xs : List X) → find P (x ∷ xs) ≡ None → (P x ≡ false) × (find P xs ≡ None)
none_head {X} P x xs h = (elim (P x) as (λ b. cond b (Some x) (find P xs) ≡ None → (b ≡ false) × (find P xs ≡ None)) [ true ↦ λ k. cc | false ↦ λ k. (refl, k) ]) h

keys_append : (ss : List Session) (x : Session) → keys_differ ss ≡ true → session_of x.key ss ≡ None → keys_differ (ss ++ x ∷ []) ≡ true
keys_append [] x h k = refl
keys_append (y ∷ ys) x h k =
    let p = and_parts _ _ h in let q = none_head (λ z. key_eq x.key z.key) y ys k in
    and_from _ _ (not_from_false _ (none_push (λ z. key_eq y.key z.key) ys x (not-true _ p.0) (key_turned x.key y.key q.0))) (keys_append ys x p.1 q.1)

pub kept_append : (me : ℕ) (items : List SentItem) (ss : List Session) (x : Session) → Kept me items ss → list_any (λ item. key_eq item.key x.key) items ≡ true → session_of x.key ss ≡ None → is_counted me (count me (ss ++ x ∷ [])) x ≡ true → Kept me items (ss ++ x ∷ [])
kept_append me items ss x h sent new own = record {
  begun = all_append (waits items) ss (x ∷ []) h.begun (all_one (waits items) x (or_right _ _ sent));
  counted = all_append (is_counted me (count me (ss ++ x ∷ []))) ss (x ∷ []) (passes_weaken (is_counted me (count me ss)) (is_counted me (count me (ss ++ x ∷ []))) ss (λ y. more_counted me (count me ss) (count me (ss ++ x ∷ [])) y (count_append me ss x)) h.counted) (all_one (is_counted me (count me (ss ++ x ∷ []))) x own);
  keys = keys_append ss x h.keys new;
}

count_other : (me : ℕ) (ss : List Session) (x : Session) → (x.key.initiator.0 == me) ≡ false → count me (ss ++ x ∷ []) ≡ count me ss
count_other me [] x h = rw h refl
count_other me (y ∷ ys) x h = let k = count_other me ys x h in elim (y.key.initiator.0 == me) as (λ b. length (cond b (y ∷ filter (λ z. z.key.initiator.0 == me) (ys ++ x ∷ [])) (filter (λ z. z.key.initiator.0 == me) (ys ++ x ∷ []))) ≡ length (cond b (y ∷ filter (λ z. z.key.initiator.0 == me) ys) (filter (λ z. z.key.initiator.0 == me) ys))) [ true ↦ omega arith | false ↦ k ]

module _ (change : Session → Session) (same : (x : Session) → (change x).key ≡ x.key) where
  count_map : (me : ℕ) (ss : List Session) → count me (map change ss) ≡ count me ss
  count_map me [] = refl
  count_map me (x ∷ xs) =
      let k = count_map me xs in
      let e : ((change x).key.initiator.0 == me) ≡ (x.key.initiator.0 == me) = ap (λ (key : Key). key.initiator.0 == me) (same x) in
      rw e (elim (x.key.initiator.0 == me) as (λ b. length (cond b (change x ∷ filter (λ z. z.key.initiator.0 == me) (map change xs)) (filter (λ z. z.key.initiator.0 == me) (map change xs))) ≡ length (cond b (x ∷ filter (λ z. z.key.initiator.0 == me) xs) (filter (λ z. z.key.initiator.0 == me) xs))) [ true ↦ omega arith | false ↦ k ])

  any_map : (key : Key) (ss : List Session) → list_any (λ z. key_eq key z.key) (map change ss) ≡ list_any (λ z. key_eq key z.key) ss
  any_map key [] = refl
  any_map key (x ∷ xs) = ap (λ (k : Key). key_eq key k || list_any (λ z. key_eq key z.key) (map change xs)) (same x) ∙ ap (λ (b : Bool). key_eq key x.key || b) (any_map key xs)

  pub keys_map : (ss : List Session) → keys_differ (map change ss) ≡ keys_differ ss
  keys_map [] = refl
  keys_map (x ∷ xs) = ap (λ (k : Key). not (list_any (λ z. key_eq k z.key) (map change xs)) && keys_differ (map change xs)) (same x) ∙ (ap (λ (b : Bool). not b && keys_differ (map change xs)) (any_map x.key xs) ∙ ap (λ (b : Bool). not (list_any (λ z. key_eq x.key z.key) xs) && b) (keys_map xs))

  kept_map : (me : ℕ) (items later : List SentItem) (ss : List Session) → ((x : Session) → waits items x ≡ true → waits later (change x) ≡ true) → Kept me items ss → Kept me later (map change ss)
  kept_map me items later ss f h = record {
    begun = all_seen ss h.begun;
    counted = subst (λ (n : ℕ). list_all (is_counted me n) (map change ss) ≡ true) (sym (count_map me ss)) (all_mapped (is_counted me (count me ss)) change ss (λ x k. ap (λ (key : Key). not (key.initiator.0 == me) || nat_lt key.number (count me ss)) (same x) ∙ k) h.counted);
    keys = keys_map ss ∙ h.keys;
  }
    where
      all_seen : (xs : List Session) → list_all (waits items) xs ≡ true → list_all (waits later) (map change xs) ≡ true
      all_seen [] k = refl
      all_seen (x ∷ xs) k = let p = and_parts _ _ k in and_from _ _ (f x p.0) (all_seen xs p.1)

abbrev pub at_key : Key → (Session → Session) → Session → Session
at_key key change x = cond (key_eq key x.key) (change x) x

pub at_key_same : (key : Key) (change : Session → Session) → ((x : Session) → (change x).key ≡ x.key) → (x : Session) → (at_key key change x).key ≡ x.key
at_key_same key change f x = elim (key_eq key x.key) as (λ b. (cond b (change x) x).key ≡ x.key) [ true ↦ f x | false ↦ refl ]

-- a change that sends nothing
kept_quiet : (me : ℕ) (items : List SentItem) (key : Key) (change : Session → Session) (ss : List Session) → ((x : Session) → (change x).key ≡ x.key) → ((x : Session) → (change x).sent ≡ x.sent) → Kept me items ss → Kept me items (changed_at key change ss)
kept_quiet me items key change ss f g h =
    kept_map (at_key key change) (at_key_same key change f) me items items ss
    (λ x k. elim (key_eq key x.key) as (λ b. waits items (cond b (change x) x) ≡ true)
    [ true ↦ ap (λ (l : List Sent). not (length l == 0) || list_any (λ item. key_eq item.key (change x).key) items) (g x) ∙ (ap (λ (y : Key). not (length x.sent == 0) || list_any (λ item. key_eq item.key y) items) (f x) ∙ k) | false ↦ k ]) h

sent_now : (x : Session) (y : Sent) → begun (with_sent y x) ≡ true
sent_now x y = let k = length-append x.sent (y ∷ []) in not_from_false _ (ne_eqb (length (x.sent ++ y ∷ [])) 0 (λ e. omega arith))

waits_less : (item : SentItem) (items : List SentItem) (x : Session) → key_eq item.key x.key ≡ false → waits (item ∷ items) x ≡ true → waits items x ≡ true
waits_less item items x e h =
    let rest = list_any (λ (i : SentItem). key_eq i.key x.key) items in
    ⊎_elim (λ k. or_left _ _ k) (λ k. or_right _ _ (⊎_elim (λ l. absurd (both_ways (key_eq item.key x.key) e l)) (λ l. l) (or_cases (key_eq item.key x.key) rest k))) (or_cases (begun x) (key_eq item.key x.key || rest) h)

kept_sent : (me stamp : ℕ) (items : List SentItem) (ss : List Session) → Kept me items ss → Kept me [] (sent_on stamp items ss)
kept_sent me stamp [] ss h = h
kept_sent me stamp (item ∷ items) ss h =
    let y : Sent = record { body = item.body; stamp = stamp } in
    kept_sent me stamp items _ (kept_map (at_key item.key (with_sent y)) (at_key_same item.key (with_sent y) (λ x. refl)) me (item ∷ items) items ss
    (λ x k. (elim (key_eq item.key x.key) as (λ b. key_eq item.key x.key ≡ b → waits items (cond b (with_sent y x) x) ≡ true) [ true ↦ λ e. or_left _ _ (sent_now x y) | false ↦ λ e. waits_less item items x e k ]) refl) h)

kept_taken : (me : ℕ) (o : Option (Key × ℕ)) (ss : List Session) → Kept me [] ss → Kept me [] (taken_on o ss)
kept_taken me None ss h = h
kept_taken me (Some taken) ss h = kept_quiet me [] taken.0 (with_taken taken.1) ss (λ x. refl) (λ x. refl) h

kept_more : (me : ℕ) (items : List SentItem) (ss : List Session) → list_all begun ss ≡ true → list_all (is_counted me (count me ss)) ss ≡ true → keys_differ ss ≡ true → Kept me items ss
kept_more me items ss h k l = record { begun = passes_weaken begun (waits items) ss (λ x b. or_left _ _ b) h; counted = k; keys = l }

module _ {F : Type 0} (w : Environment F) (me : ℕ) (s : NodeState F) (sound : IsSound me s) where
  answers_key : (f : ℕ) (key : Key) (class : ℕ) (flow : FlowPart F) (items : List SentItem) → AnswersFirst f key class flow items → list_any (λ item. key_eq item.key key) items ≡ true
  answers_key f key class flow [] h = absurd h
  answers_key f key class flow (item ∷ items) h = or_left _ _ (subst (λ (k : Key). key_eq item.key k ≡ true) h.0 (key_same item.key))

  accepts_key : (f : ℕ) (key : Key) (e : Effect F) (o : Option Body) → AcceptsInit f key e o → list_any (λ item. key_eq item.key key) e.change.sent ≡ true
  accepts_key f key e None h = absurd h
  accepts_key f key e (Some (body_of.Init class first)) h = answers_key f key class e.flow e.change.sent h
  accepts_key f key e (Some body_of.Confirm) h = absurd h
  accepts_key f key e (Some (body_of.Reject code)) h = absurd h
  accepts_key f key e (Some (body_of.Data v)) h = absurd h
  accepts_key f key e (Some (body_of.Error code)) h = absurd h
  accepts_key f key e (Some body_of.End) h = absurd h

  start_kept : (items : List SentItem) → Kept me items s.sessions
  start_kept items = kept_more me items s.sessions sound.begun sound.counted sound.keys

  pub came_kept : (ev : Event) (e : Effect F) → FitsEvent w me s ev e → Kept me e.change.sent (came_on ev (option_to_list e.change.came) (flow_of e.flow) s.sessions)
  came_kept (event.Answer key) e h =
      let p = and_parts (is_none (session_of key s.sessions)) (not (is_no_peer w.nodes (party me) key.initiator)) h.0 in
      let new = new_session key key.initiator (flow_of e.flow) (option_to_list e.change.came) in
      kept_append me e.change.sent s.sessions new (start_kept e.change.sent) (accepts_key (length s.flows) key e e.change.came h.1) (none_of _ p.0) (or_left (not (key.initiator.0 == me)) (nat_lt key.number (count me (s.sessions ++ new ∷ []))) (not_from_false _ (initiator_other w.nodes me s.sessions key h.0)))
  came_kept (event.Arrive key direction number) e h = kept_quiet me e.change.sent key (with_came (option_to_list e.change.came)) s.sessions (λ x. refl) (λ x. refl) (start_kept e.change.sent)
  came_kept (event.Start f class args) e h = start_kept e.change.sent
  came_kept (event.Move f) e h = start_kept e.change.sent
  came_kept (event.Lapse f) e h = start_kept e.change.sent

  pub came_count : (ev : Event) (e : Effect F) → FitsEvent w me s ev e → count me (came_on ev (option_to_list e.change.came) (flow_of e.flow) s.sessions) ≡ count me s.sessions
  came_count (event.Answer key) e h =
      count_other me s.sessions (new_session key key.initiator (flow_of e.flow) (option_to_list e.change.came)) (initiator_other w.nodes me s.sessions key h.0)
  came_count (event.Arrive key direction number) e h = count_map (at_key key (with_came (option_to_list e.change.came))) (at_key_same key (with_came (option_to_list e.change.came)) (λ x. refl)) me s.sessions
  came_count (event.Start f class args) e h = refl
  came_count (event.Move f) e h = refl
  came_count (event.Lapse f) e h = refl

  pub opened_kept : (o : Option (Key × Party)) (owner : Option ℕ) (sent : List SentItem) (after before : List Session) → count me before ≡ count me s.sessions → FitsOpened w me s after owner sent o → Kept me sent before → Kept me sent (opened_on o owner before)
  opened_kept None owner sent after before size h k = k
  opened_kept (Some opened) owner sent after before size h k =
      let new = new_session opened.0 opened.1 owner [] in
      let key : opened.0 ≡ record { initiator = party me; number = count me before } = h.opens.next ∙ ap (λ (n : ℕ). record { initiator = party me; number = n }) (sym size) in
      let none : session_of opened.0 before ≡ None = ap (λ (x : Key). session_of x before) key ∙ not_counted w me s 0 sound (count me before) before k.counted in
      let own : (opened.0.initiator.0 == me) ≡ true = eq-eqb opened.0.initiator.0 me (ap (λ (x : Key). x.initiator.0) key) in
      let number : opened.0.number ≡ count me before = ap (λ (x : Key). x.number) key in
      let bigger = count_own me before new own in
      kept_append me sent before new k
      (any_weaken (is_init_of opened.0) (λ item. key_eq item.key opened.0) sent (λ item i. let p = and_parts (key_eq opened.0 item.key) _ i in subst (λ (x : Key). key_eq x opened.0 ≡ true) (key_exact opened.0 item.key p.0) (key_same opened.0)) h.opens.init)
      none (or_right (not (opened.0.initiator.0 == me)) _ (lt-ltb opened.0.number (count me (before ++ new ∷ [])) (omega arith)))

  sessions_sound : (cause : Cause) (e : Effect F) → Fits w me s cause e → Kept me [] (taken_on e.change.taken (sent_on cause.stamp e.change.sent (opened_on e.change.opened (flow_of e.flow) (came_on cause.event (option_to_list e.change.came) (flow_of e.flow) s.sessions))))
  sessions_sound cause e h =
      kept_taken me e.change.taken _ (kept_sent me cause.stamp e.change.sent _ (opened_kept e.change.opened (flow_of e.flow) e.change.sent _ _ (came_count cause.event e h.event) h.change.opened (came_kept cause.event e h.event)))

  -- ---- ids

  not_last : (id : Hash32) (xs : List SignedTx) (stx : SignedTx) → is_stored (with_ids xs) id ≡ false → hash_eq id (tx_id stx.tx) ≡ false → is_stored (with_ids (xs ++ stx ∷ [])) id ≡ false
  not_last id [] stx h k = or_from _ _ k refl
  not_last id (x ∷ xs) stx h k = let p = or_parts (hash_eq id (tx_id x.tx)) (is_stored (with_ids xs) id) h in or_from _ _ p.0 (not_last id xs stx p.1 k)

  ids_append : (stored : List SignedTx) (stx : SignedTx) → ids_differ stored ≡ true → is_stored (with_ids stored) (tx_id stx.tx) ≡ false → ids_differ (stored ++ stx ∷ []) ≡ true
  ids_append [] stx h k = refl
  ids_append (x ∷ xs) stx h k =
      let p = and_parts (not (is_stored (with_ids xs) (tx_id x.tx))) (ids_differ xs) h in let q = or_parts (hash_eq (tx_id stx.tx) (tx_id x.tx)) (is_stored (with_ids xs) (tx_id stx.tx)) k in
      and_from _ _ (not_from_false _ (not_last (tx_id x.tx) xs stx (not-true _ p.0) (hash_swapped (tx_id x.tx) (tx_id stx.tx) ∙ q.0))) (ids_append xs stx p.1 q.1)

  ids_on : (o : Option SignedTx) → may_record (with_ids s.stored) o ≡ true → ids_differ (s.stored ++ option_to_list o) ≡ true
  ids_on None h = ap ids_differ (append-nil s.stored) ∙ sound.ids
  ids_on (Some stx) h = ids_append s.stored stx sound.ids (not-true _ (and_parts _ _ h).0)

  begun_only : (ss : List Session) → list_all (waits []) ss ≡ true → list_all begun ss ≡ true
  begun_only ss h = passes_weaken (waits []) begun ss (λ x k. ⊎_elim (λ l. l) (λ l. cc) (or_cases (begun x) false k)) h

  -- a record that fits keeps the state sound
  pub fits_sound : (cause : Cause) (e : Effect F) → Fits w me s cause e → IsSound me (apply_effect s cause e)
  unfolding apply_effect
  fits_sound cause e h =
      let k = sessions_sound cause e h in
      record { numbered = flows_numbered e.flow s.flows sound.numbered; begun = begun_only (sessions_on cause e s.sessions) k.begun; counted = k.counted; keys = k.keys; ids = ids_on e.change.recorded h.change.recorded }

pub fresh_sound : {F : Type 0} (me : ℕ) → IsSound me (fresh {F = F})
fresh_sound me = record { numbered = λ f at h. cc; begun = refl; counted = refl; keys = refl; ids = refl }

-- each record fits after those before it
abbrev pub AllFit : {F : Type 0} → Environment F → ℕ → NodeState F → List (Record F) → Type 0
AllFit w p s [] = ⊤
AllFit w p s (r ∷ rs) = Fits w p s r.cause r.effect × AllFit w p (apply_effect s r.cause r.effect) rs

pub local_fits : {F : Type 0} (w : Environment F) (p : ℕ) (s : NodeState F) (rs : List (Record F)) → IsSound p s → IsLocalFrom w p s rs → AllFit w p s rs
local_fits w p s [] sound h = tt
local_fits {F} w p s (r ∷ rs) sound h =
    let fits = step_fits w p s h.1 r.cause _ r.effect sound h.2 in
    let st = step_taken w p s h.1 r.cause _ r.effect h.2 in
    (fits, local_fits w p (apply_effect s r.cause r.effect) rs (fits_sound w p s sound r.cause r.effect fits) (subst (λ (x : NodeState F). IsLocalFrom w p x rs) st.state h.3))

pub fits_keep_sound : {F : Type 0} → FitsKeepSound F
fits_keep_sound w p s cause e sound h = fits_sound w p s sound cause e h

pub fresh_is_sound : {F : Type 0} → FreshIsSound F
fresh_is_sound p = fresh_sound p
