-- The two sides of a session: each has the other as its peer.
use Rattle.std.proofs.Common.{◌≡◌, ◌≢◌, ℕ, List, [], ◌∷◌, Option, Some, None, Bool, true, false, cond, not, ◌==◌, is_none, nat_le, find, option_to_list, slice_get, refl, sym, ◌∙◌, ap, subst}
use Rattle.std.specs.List.{AllByRecursion}
use Rattle.std.proofs.lemmas.Bool.{and_parts, or_parts, not-true, eqb-true, eqb-false, eq-eqb}
use Rattle.net_base.specs.declared.names.Key.{Key}
use Rattle.net_base.specs.declared.values.Party.{Party}
use Rattle.net_base.specs.declared.causes.Event.{Event}
use Rattle.net_base.specs.declared.causes.Event.TheVariants as event
use Rattle.net_base.proofs.Options.{cond_all}
use Rattle.net_base.proofs.Lists.{all_push}
use Rattle.session_wire.specs.declared.change.SentItem.{SentItem}
use Rattle.session_wire.specs.Sessions.{Sent, Session, key_eq, changed_at, new_session, opened_on, sent_on, taken_on, session_of, with_came, with_sent, with_taken}
use Rattle.session_wire.specs.Rules.{is_opened_by, is_no_peer, is_new_key, direction_out}
use Rattle.session_wire.proofs.Keys.{key_exact}
use Rattle.session_frames.specs.Agreement.{IsOtherSide}
use Rattle.net_model.specs.Environment.{Environment, party}
use Rattle.net_model.specs.State.{NodeState, Record, apply_effect, came_on, sessions_on, flow_of, fresh, replay, replay_from}
use Rattle.net_model.specs.Runs.{IsLocal, IsLocalFrom, IsMatchedFrom, IsItem, accepts, item_from, sent_to, stamped}
use Rattle.net_model.specs.Fits.{Fits, FitsEvent, FitsOpened, IsSound}
use Rattle.net_model.proofs.Effects.{step_is_its_effect}
use Rattle.net_model.proofs.Fitting.{steps_fit}
use Rattle.net_model.proofs.Sound.{fits_keep_sound, fresh_is_sound}

-- a session is with another party; where that party opened it, it sent the first item of it to this one
pub record IsSided {F : Type 0} (net : List (NodeState F)) (me : ℕ) (s : Session) : Type 0 where
  pub other : s.peer.0 ≢ me
  pub answered : is_opened_by (party me) s.key ≡ false → (s.peer ≡ s.key.initiator) × (item : Sent) × (item_from net me s.key.initiator.0 s.key 0 ≡ Some item)

-- ---- lists

pub all_found : {X : Type 0} (P : X → Type 0) (test : X → Bool) (xs : List X) (x : X) → AllByRecursion P xs → find test xs ≡ Some x → P x × (test x ≡ true)
all_found P test [] x h is = cc
all_found {X} P test (y ∷ ys) x h is =
    (elim (test y) as (λ b. test y ≡ b → cond b (Some y) (find test ys) ≡ Some x → P x × (test x ≡ true)) [
      | true ↦ λ t e. let same : y ≡ x = cc in subst (λ (z : X). P z × (test z ≡ true)) same (h.0, t)
      | false ↦ λ t e. all_found P test ys x h.1 e
    ]) refl is

module _ {F : Type 0} (net : List (NodeState F)) (me : ℕ) where
  abbrev All : List Session → Type 0
  All ss = AllByRecursion (IsSided net me) ss

  -- ---- changes that keep keys and peers

  changed_all : (key : Key) (change : Session → Session) → ((s : Session) → IsSided net me s → IsSided net me (change s)) → (ss : List Session) → All ss → All (changed_at key change ss)
  changed_all key change keeps [] h = tt
  changed_all key change keeps (s ∷ ss) h = (cond_all (IsSided net me) (key_eq key s.key) (change s) s (keeps s h.0) h.0, changed_all key change keeps ss h.1)

  sent_all : (stamp : ℕ) (items : List SentItem) (ss : List Session) → All ss → All (sent_on stamp items ss)
  sent_all stamp [] ss h = h
  sent_all stamp (item ∷ items) ss h =
      sent_all stamp items (changed_at item.key (with_sent (record { body = item.body; stamp = stamp })) ss)
      (changed_all item.key (with_sent (record { body = item.body; stamp = stamp })) (λ s k. record { other = k.other; answered = k.answered }) ss h)

  taken_all : (taken : Option (Key × ℕ)) (ss : List Session) → All ss → All (taken_on taken ss)
  taken_all None ss h = h
  taken_all (Some taken) ss h = changed_all taken.0 (with_taken taken.1) (λ s k. record { other = k.other; answered = k.answered }) ss h

  -- ---- sessions that are made

  other_initiator : (nodes : ℕ) (ss : List Session) (key : Key) → is_new_key nodes (party me) ss key ≡ true → key.initiator.0 ≢ me
  other_initiator nodes ss key h =
      let p = and_parts (is_none (session_of key ss)) (not (is_no_peer nodes (party me) key.initiator)) h in
      let q = or_parts (key.initiator.0 == me) (nat_le nodes key.initiator.0) (not-true _ p.1) in
      eqb-false key.initiator.0 me q.0

  came_all : (w : Environment F) (s : NodeState F) (r : Record F) (ev : Event) → r.cause.event ≡ ev → FitsEvent w me s ev r.effect → (accepts ev ≡ true → IsItem net me s r) → All s.sessions → All (came_on ev (option_to_list r.effect.change.came) (flow_of r.effect.flow) s.sessions)
  came_all w s r (event.Start f class args) is fits item all = all
  came_all w s r (event.Move f) is fits item all = all
  came_all w s r (event.Lapse f) is fits item all = all
  came_all w s r (event.Arrive key direction number) is fits item all = changed_all key (with_came (option_to_list r.effect.change.came)) (λ s k. record { other = k.other; answered = k.answered }) s.sessions all
  came_all w s r (event.Answer key) is fits item all =
      let there = item refl in
      let first : item_from net me key.initiator.0 key 0 ≡ Some there.item = rw is at there.is_sent in
      all_push (IsSided net me) s.sessions (new_session key key.initiator (flow_of r.effect.flow) (option_to_list r.effect.change.came)) all
      (record { other = other_initiator w.nodes s.sessions key fits.0; answered = λ no. (refl, there.item, first) })

  opened_all : (w : Environment F) (s : NodeState F) (later : List Session) (owner : Option ℕ) (sent : List SentItem) (opened : Option (Key × Party)) (ss : List Session) → FitsOpened w me s later owner sent opened → All ss → All (opened_on opened owner ss)
  opened_all w s later owner sent None ss fits h = h
  opened_all w s later owner sent (Some opened) ss fits h =
      let own : is_opened_by (party me) opened.0 ≡ true = eq-eqb opened.0.initiator.0 me (ap (λ (k : Key). k.initiator.0) fits.opens.next) in
      all_push (IsSided net me) ss (new_session opened.0 opened.1 owner []) h (record { other = eqb-false opened.1.0 me fits.opens.other; answered = λ no. absurd cc })

  record_all : (w : Environment F) (s : NodeState F) (r : Record F) → Fits w me s r.cause r.effect → (accepts r.cause.event ≡ true → IsItem net me s r) → All s.sessions → All (sessions_on r.cause r.effect s.sessions)
  record_all w s r fits item all =
      let came = came_on r.cause.event (option_to_list r.effect.change.came) (flow_of r.effect.flow) s.sessions in
      let begun = opened_on r.effect.change.opened (flow_of r.effect.flow) came in
      taken_all r.effect.change.taken (sent_on r.cause.stamp r.effect.change.sent begun)
      (sent_all r.cause.stamp r.effect.change.sent begun
      (opened_all w s begun (flow_of r.effect.flow) r.effect.change.sent r.effect.change.opened came fits.change.opened
      (came_all w s r r.cause.event refl fits.event item all)))

  applied_all : (w : Environment F) (s : NodeState F) (r : Record F) → Fits w me s r.cause r.effect → (accepts r.cause.event ≡ true → IsItem net me s r) → All s.sessions → All (apply_effect s r.cause r.effect).sessions
  unfolding apply_effect
  applied_all w s r fits item all = record_all w s r fits item all

  sided_from : (w : Environment F) (s : NodeState F) (rs : List (Record F)) → IsSound me s → IsLocalFrom w me s rs → IsMatchedFrom net me s rs → All s.sessions → All (replay_from s rs).sessions
  sided_from w s [] sound local matched all = all
  sided_from w s (r ∷ rs) sound (n, next, step, rest) (item, more) all =
      let fits = steps_fit w me s next r.cause (stamped n r.effect.change.came) r.effect sound step in
      let same : next ≡ apply_effect s r.cause r.effect = step_is_its_effect w me s next r.cause (stamped n r.effect.change.came) r.effect step in
      sided_from w (apply_effect s r.cause r.effect) rs (fits_keep_sound w me s r.cause r.effect sound fits) (subst (λ (z : NodeState F). IsLocalFrom w me z rs) same rest) more (applied_all w s r fits item all)

  -- the sessions of a node's own records, whose accepted items are their senders'
  pub sided : (w : Environment F) (rs : List (Record F)) → IsLocal w me rs → IsMatchedFrom net me fresh rs → AllByRecursion (IsSided net me) (replay rs).sessions
  unfolding replay
  sided w rs local matched = sided_from w fresh rs (fresh_is_sound me) local matched tt

-- ---- the other side

module _ {F : Type 0} (net : List (NodeState F)) (p q : ℕ) (s : Session) (mine : IsSided net p s) (peer : s.peer.0 ≡ q) (state : NodeState F) (there : slice_get net q ≡ Some state) (sides : AllByRecursion (IsSided net q) state.sessions) where
  party_is : (a : Party) (n : ℕ) → a.0 ≡ n → a ≡ party n
  party_is a n is = ap (λ (k : ℕ). party k) is

  -- where this side opened it, the other one answered
  of_opened : (t : Session) → is_opened_by (party p) s.key ≡ true → key_eq s.key t.key ≡ true → IsSided net q t → (b : Bool) → is_opened_by (party q) t.key ≡ b → t.peer ≡ party p
  of_opened t opened key h true is =
      let same = key_exact s.key t.key key in
      let a : s.key.initiator.0 ≡ p = eqb-true s.key.initiator.0 p opened in
      let b : t.key.initiator.0 ≡ q = eqb-true t.key.initiator.0 q is in
      absurd (mine.other (peer ∙ sym b ∙ ap (λ (k : Key). k.initiator.0) (sym same) ∙ a))
  of_opened t opened key h false is =
      let same = key_exact s.key t.key key in
      let a : s.key.initiator.0 ≡ p = eqb-true s.key.initiator.0 p opened in
      party_is t.peer p (ap (λ (x : Party). x.0) (h.answered is).0 ∙ ap (λ (k : Key). k.initiator.0) (sym same) ∙ a)

  came_from : (number : ℕ) (item : Sent) (o : Option Session) → sent_to p number o ≡ Some item → (t : Session) × (o ≡ Some t) × (t.peer ≡ party p)
  came_from number item None h = cc
  came_from number item (Some t) h =
      (elim (t.peer.0 == p) as (λ b. (t.peer.0 == p) ≡ b → cond b (slice_get t.sent number) None ≡ Some item → (u : Session) × (Some t ≡ Some u) × (u.peer ≡ party p)) [
        | true ↦ λ is e. (t, refl, party_is t.peer p (eqb-true t.peer.0 p is))
        | false ↦ λ is e. absurd cc
      ]) refl h

  from_there : (number : ℕ) (item : Sent) → item_from net p q s.key number ≡ Some item → sent_to p number (session_of s.key state.sessions) ≡ Some item
  unfolding item_from
  from_there number item h = rw there at h

  by_way : (b : Bool) (o : Option Session) → is_opened_by (party p) s.key ≡ b → session_of s.key state.sessions ≡ o → IsOtherSide (party p) (direction_out (party p) s.key) o
  by_way true None opened is = rw opened refl
  by_way true (Some t) opened is =
      let found = all_found (IsSided net q) (λ x. key_eq s.key x.key) state.sessions t sides is in
      of_opened t opened found.1 found.0 (is_opened_by (party q) t.key) refl
  by_way false o opened is =
      let answer = mine.answered opened in
      let from : s.key.initiator.0 ≡ q = ap (λ (x : Party). x.0) (sym answer.0) ∙ peer in
      let item : item_from net p q s.key 0 ≡ Some answer.1 = subst (λ (k : ℕ). item_from net p k s.key 0 ≡ Some answer.1) from answer.2 in
      let one = came_from 0 answer.1 (session_of s.key state.sessions) (from_there 0 answer.1 item) in
      subst (IsOtherSide (party p) (direction_out (party p) s.key)) (sym one.1 ∙ is) one.2

  -- the node is the other side of the session for its peer
  pub other_side : IsOtherSide (party p) (direction_out (party p) s.key) (session_of s.key state.sessions)
  other_side = by_way (is_opened_by (party p) s.key) (session_of s.key state.sessions) refl refl
