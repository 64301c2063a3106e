-- What is said of a frame that waits.
use Rattle.std.proofs.Common.{◌≡◌, ℕ, zero, suc, ◌+◌, ◌≤◌, ◌⊎◌, inl, inr, List, [], ◌∷◌, Option, Some, None, Bool, true, false, cond, not, ◌==◌, ◌&&◌, ◌||◌, max, nat_lt, is_none, length, slice_get, refl, sym, ap, subst, arith, eq-eqb, length-append}
use Rattle.std.specs.Prelude.{⊤}
use Rattle.std.proofs.lemmas.Bool.{and_parts, or_parts, not-false, eqb-true, cond_both}
use Rattle.net_base.specs.declared.names.Identity.{Identity}
use Rattle.net_base.specs.declared.names.Key.{Key}
use Rattle.net_base.specs.declared.values.Party.{Party}
use Rattle.net_base.specs.declared.causes.Event.{Event}
use Rattle.net_base.specs.declared.causes.Event.TheVariants as event
use Rattle.net_base.proofs.Options.{none_of, some_eq}
use Rattle.net_base.proofs.Lists.{find_map, find_test, find_push}
use Rattle.session_wire.specs.declared.body.Body.{Body}
use Rattle.session_wire.specs.declared.frame.Frame.{Frame}
use Rattle.session_wire.specs.declared.frame.Frame.TheVariants.{Message, Ack}
use Rattle.session_wire.specs.Rules.{direction_in, direction_out, is_init, is_lawful, is_no_peer}
use Rattle.session_wire.specs.Sessions.{Session, key_eq, new_session, session_of, with_came}
use Rattle.session_wire.proofs.Keys.{key_same}
use Rattle.session_table.specs.Tables.{raised}
use Rattle.session_frames.specs.declared.judged.Judged.{Judged}
use Rattle.session_frames.specs.declared.judged.Judged.TheVariants.{Garbled, NotMine, NoSession, Early, Acked, Again, Next}
use Rattle.session_frames.specs.Items.{BeginsSession, GoesOn}
use Rattle.session_frames.specs.Judging.{is_other, is_no_node, is_with, arrived, sent, lacks_session, or_else, judge}
use Rattle.session_frames.specs.Sending.{addressee}
use Rattle.net_model.specs.State.{came_on}
use Rattle.net_model.specs.Runs.{accepts}
use Rattle.node_core.specs.Takes.{accepting}

module _ (node : Identity) (ss : List Session) where
  -- what it tells of the frame
  abbrev pub Says : Frame → Judged → Type 0
  Says f Garbled = ⊥
  Says f (NotMine to) = (addressee f).0 ≡ node.party.0 → ⊥
  Says f NoSession = ⊤
  Says f (Early expected) = ⊤
  Says f (Acked key direction upto) = (from : Party) × (to : Party) × (f ≡ Ack from to key direction upto) × (is_with from (session_of key ss) ≡ true)
  Says f (Again from key direction expected) = expected ≡ arrived (session_of key ss)
  Says f (Next from key direction number stamp body) = (to : Party) × (f ≡ Message from to key direction number stamp body)

  not_mine : (to : Party) → is_other to node.party ≡ true → to.0 ≡ node.party.0 → ⊥
  not_mine to other mine = no (to.0 == node.party.0) other (eq-eqb to.0 node.party.0 mine)
    where
      no : (b : Bool) → not b ≡ true → b ≡ true → ⊥
      no true h k = cc
      no false h k = cc

  pub says : (f : Frame) → Says f (judge node ss f)
  says (Message from to key direction seq stamp body) =
      let o = session_of key ss in
      let f = Message from to key direction seq stamp body in
      let P : Option Judged → Type 0 = λ said. Says f (or_else said (Next from key direction seq stamp body)) in
      cond_both (is_other to node.party) (Some (NotMine to)) _ P (λ other. not_mine to other) (λ mine.
      cond_both (is_no_node node.nodes from || lacks_session from direction o) (Some NoSession) _ P (λ none. tt) (λ known.
      cond_both (nat_lt seq (arrived o)) (Some (Again from key direction (arrived o))) _ P (λ below. refl) (λ above.
      cond_both (nat_lt (arrived o) seq) (Some (Early (arrived o))) None P (λ early. tt) (λ at. (to, refl)))))
  says (Ack from to key direction upto) =
      let o = session_of key ss in
      let P : Judged → Type 0 = Says (Ack from to key direction upto) in
      cond_both (is_other to node.party) (NotMine to) _ P (λ other. not_mine to other) (λ mine.
      cond_both (is_no_node node.nodes from || not (is_with from o)) NoSession _ P (λ none. tt) (λ known.
      cond_both (nat_lt (sent o) upto) (Early (sent o)) (Acked key direction upto) P (λ early. tt) (λ at. (from, to, refl, not-false _ (or_parts _ _ known).1))))

-- ---- acknowledged numbers that are raised

-- each stays, or is raised in a session of the key
pub raised_get : (me : Party) (key : Key) (direction upto : ℕ) (ss : List Session) (ns : List ℕ) (i n : ℕ) (s : Session) → slice_get ss i ≡ Some s → slice_get (raised me key direction upto ss ns) i ≡ Some n
    → (m : ℕ) × (slice_get ns i ≡ Some m) × ((n ≡ m) ⊎ ((key_eq key s.key ≡ true) × (n ≡ max m upto)))
raised_get me key direction upto [] ns i n s at h = cc
raised_get me key direction upto (t ∷ ss) [] i n s at h = cc
raised_get me key direction upto (t ∷ ss) (m ∷ ns) zero n s at h = by (key_eq key t.key && (direction == direction_out me key)) refl (some_eq h)
  where
    by : (b : Bool) → (key_eq key t.key && (direction == direction_out me key)) ≡ b → cond b (max m upto) m ≡ n → (k : ℕ) × (Some m ≡ Some k) × ((n ≡ k) ⊎ ((key_eq key s.key ≡ true) × (n ≡ max k upto)))
    by true is same =
        let test = (and_parts (key_eq key t.key) (direction == direction_out me key) is).0 in
        (m, refl, inr (subst (λ (x : Session). key_eq key x.key ≡ true) (some_eq at) test, sym same))
    by false is same = (m, refl, inl (sym same))
raised_get me key direction upto (t ∷ ss) (m ∷ ns) (suc i) n s at h = raised_get me key direction upto ss ns i n s at h

-- ---- an item that comes next

module _ (node : Identity) (ss : List Session) (from : Party) (key : Key) (direction number : ℕ) (body : Body) where
  abbrev pub IsPlace : Type 0
  IsPlace = BeginsSession node ss from key direction number body ⊎ GoesOn node ss from key direction number body

  pub begins_new : BeginsSession node ss from key direction number body → is_none (session_of key ss) ≡ true
  begins_new b = (and_parts (is_none (session_of key ss)) (not (is_no_peer node.nodes node.party key.initiator)) b.is_new).0

  pub answers : BeginsSession node ss from key direction number body → accepting ss key direction number ≡ event.Answer key
  answers b = let new = begins_new b in rw new refl

  pub arrives : GoesOn node ss from key direction number body → accepting ss key direction number ≡ event.Arrive key direction number
  arrives g = let stands = g.stands in rw stands refl

  pub accepts_it : IsPlace → accepts (accepting ss key direction number) ≡ true
  accepts_it (inl b) = ap accepts (answers b)
  accepts_it (inr g) = ap accepts (arrives g)

  -- then as many arrived
  answered : (owner : Option ℕ) → BeginsSession node ss from key direction number body → number + 1 ≤ arrived (session_of key (came_on (event.Answer key) (body ∷ []) owner ss))
  answered owner b =
      let found = find_push (λ s. key_eq key s.key) ss (new_session key key.initiator owner (body ∷ [])) (none_of (session_of key ss) (begins_new b)) (key_same key) in
      rw found (omega (arith, b.first))

  arrived_on : (owner : Option ℕ) → GoesOn node ss from key direction number body → number + 1 ≤ arrived (session_of key (came_on (event.Arrive key direction number) (body ∷ []) owner ss))
  arrived_on owner g =
      let change : Session → Session = λ s. cond (key_eq key s.key) (with_came (body ∷ []) s) s in
      let found = find_map (λ s. key_eq key s.key) change ss (λ s. same s (key_eq key s.key) refl) in
      let test = find_test (λ s. key_eq key s.key) ss g.session g.stands in
      let all = and_parts (direction == direction_in node.party key) ((number == length g.session.came) && (is_lawful direction number body && not (is_init body))) g.next in
      let at = eqb-true number (length g.session.came) (and_parts (number == length g.session.came) (is_lawful direction number body && not (is_init body)) all.1).0 in
      let stands = g.stands in
      rw (found, stands, test) (omega (arith, at, length-append g.session.came (body ∷ [])))
    where
      same : (s : Session) (b : Bool) → key_eq key s.key ≡ b → key_eq key (cond b (with_came (body ∷ []) s) s).key ≡ key_eq key s.key
      same s true is = refl
      same s false is = refl

  pub comes : (owner : Option ℕ) → IsPlace → number + 1 ≤ arrived (session_of key (came_on (accepting ss key direction number) (body ∷ []) owner ss))
  comes owner (inl b) = subst (λ (ev : Event). number + 1 ≤ arrived (session_of key (came_on ev (body ∷ []) owner ss))) (sym (answers b)) (answered owner b)
  comes owner (inr g) = subst (λ (ev : Event). number + 1 ≤ arrived (session_of key (came_on ev (body ∷ []) owner ss))) (sym (arrives g)) (arrived_on owner g)
