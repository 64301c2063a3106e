-- What holds of what was judged.
use Rattle.std.proofs.Common.{◌≡◌, ◌≢◌, ◌⊎◌, inl, inr, ◌≤◌, ℕ, Bool, true, false, cond, not, ◌&&◌, ◌||◌, List, [], ◌∷◌, Option, Some, None, refl, ap, sym, subst, ◌∙◌, nat_eq, nat_lt, eq-eqb, length, arith}
use Rattle.std.specs.List.{AllByRecursion}
use Rattle.std.proofs.lemmas.Bool.{eqb-true, ne_eqb, ltb-true, ltb-false, or_parts, and_from, not-false, not_from_false, and_left, and_right, cond_both}
use Rattle.net_base.specs.declared.names.Identity.{Identity}
use Rattle.net_base.specs.declared.names.Key.{Key}
use Rattle.net_base.specs.declared.values.Party.{Party}
use Rattle.session_wire.specs.Bodies.{IsBodyAt}
use Rattle.session_wire.specs.Frames.{IsFrame}
use Rattle.session_wire.specs.Rules.{is_opened_by, direction_out, is_no_peer}
use Rattle.session_wire.specs.Sessions.{Session, key_eq, session_of}
use Rattle.session_wire.specs.declared.body.Body.{Body}
use Rattle.session_wire.specs.declared.frame.Frame.{Frame}
use Rattle.session_wire.specs.declared.frame.Frame.TheVariants.{Message, Ack}
use Rattle.session_wire.proofs.Keys.{key_exact}
use Rattle.session_frames.specs.declared.judged.Judged.{Judged}
use Rattle.session_frames.specs.declared.judged.Judged.TheVariants.{NotMine, NoSession, Early, Acked, Again, Next}
use Rattle.session_frames.specs.Judging.{is_other, is_no_node, is_with, arrived, sent, lacks_session, or_else, judge}
use Rattle.session_frames.specs.Lawful.{IsAnswered, IsLawful, AreLawful}
use Rattle.session_frames.specs.Items.{BeginsSession, GoesOn, IsOfSent, GoesFurther}
use Rattle.session_frames.proofs.Routes.{IsRoute, side_of, differ_of, party_exact, incoming, acknowledged, answer_route}
use Rattle.session_frames.proofs.Bodies.{lawful_at, no_init_at, init_first}

-- a frame that is not for another is for the node
pub is_mine : (me to : Party) → is_other to me ≡ false → to.0 ≡ me.0
is_mine me to e = eqb-true _ _ (not-false _ e)

-- the session that is found is one of a list's, and has the key
pub lawful_session : (me : Party) (sessions : List Session) (key : Key) (s : Session) → AllByRecursion (IsLawful me) sessions → session_of key sessions ≡ Some s → IsLawful me s × (key ≡ s.key)
lawful_session me [] key s h stands = absurd cc
lawful_session me (t ∷ ts) key s h stands = by (key_eq key t.key) refl stands (lawful_session me ts key s h.1)
  where
    by : (b : Bool) → key_eq key t.key ≡ b → cond b (Some t) (session_of key ts) ≡ Some s → (session_of key ts ≡ Some s → IsLawful me s × (key ≡ s.key)) → IsLawful me s × (key ≡ s.key)
    by true is found rest =
        let same : t ≡ s = cc found in
        (subst (λ (x : Session). IsLawful me x) same h.0, key_exact key t.key is ∙ ap (λ (x : Session). x.key) same)
    by false is found rest = rest found

-- the two directions
pub directions : (from to a b : Party) (key : Key) (direction : ℕ) → IsRoute from to key direction a b → (direction ≡ 0) ⊎ (direction ≡ 1)
directions from to a b key direction route = elim (side_of key direction a b route.1) [ inl s ↦ inl s.0 | inr s ↦ inr s.0 ]

-- an item of a session that isn't known begins it
begins : (node : Identity) (sessions : List Session) (from to : Party) (key : Key) (direction number : ℕ) (body : Body) → IsRoute from to key direction from to → IsBodyAt direction number body → to.0 ≡ node.party.0 → is_no_node node.nodes from ≡ false → lacks_session from direction None ≡ false → number ≡ 0 → session_of key sessions ≡ None
    → BeginsSession node sessions from key direction number body
begins node sessions from to key direction number body route lawful mine known lacking zero none =
    let d : direction ≡ 0 = elim (side_of key direction from to route.1) [
      | inl s ↦ s.0
      | inr s ↦ absurd (cc (lacking, and_from (nat_eq direction 1) true (eq-eqb direction 1 s.0) refl))
    ] in
    let initiator : key.initiator.0 ≡ from.0 = elim (side_of key direction from to route.1) [ inl s ↦ s.1 | inr s ↦ absurd (omega (arith, d, s.0)) ] in
    let other : key.initiator.0 ≢ node.party.0 = λ e. differ_of from to key route.0 (mine ∙ sym e ∙ initiator) in
    let peer : is_no_peer node.nodes node.party key.initiator ≡ false = rw (ne_eqb key.initiator.0 node.party.0 other, initiator) known in
    record {
      is_new = rw (none, peer) refl;
      initiator = party_exact key.initiator from initiator;
      outgoing = d;
      first = zero;
      init = init_first body (subst (λ (n : ℕ). IsBodyAt 0 n body) zero (subst (λ (n : ℕ). IsBodyAt n number body) d lawful));
    }

-- the session of a key goes on
goes_on : (node : Identity) (sessions : List Session) (from to : Party) (key : Key) (direction number : ℕ) (body : Body) → (s : Session) → IsRoute from to key direction from to → IsBodyAt direction number body → to.0 ≡ node.party.0 → lacks_session from direction (Some s) ≡ false → number ≡ length s.came → session_of key sessions ≡ Some s → AreLawful node.party sessions
    → GoesOn node sessions from key direction number body
goes_on node sessions from to key direction number body s route lawful mine lacking next stands answered =
    record {
      session = s;
      stands = stands;
      peer = elim (side_of key direction from to route.1) [
        | inl o ↦ (answer o.1).peer ∙ sym (ap (λ (k : Key). k.initiator) at.1) ∙ party_exact key.initiator from o.1
        | inr o ↦ party_exact s.peer from (eqb-true _ _ (with_sender (eq-eqb direction 1 o.0)))
      ];
      next = and_from _ _ (eq-eqb _ _ (incoming node.party from to key direction route mine)) (and_from _ _ (eq-eqb _ _ next) (and_from _ _ (lawful_at direction number body (directions from to from to key direction route) lawful) (not_from_false _ (no_init_at direction number body lawful no_first))));
    }
  where
    at : IsLawful node.party s × (key ≡ s.key)
    at = lawful_session node.party sessions key s answered.each stands

    other : key.initiator.0 ≡ from.0 → is_opened_by node.party key ≡ false
    other initiator = ne_eqb key.initiator.0 node.party.0 (λ e. differ_of from to key route.0 (mine ∙ sym e ∙ initiator))

    answer : key.initiator.0 ≡ from.0 → IsAnswered s
    answer initiator = at.0.answered (subst (λ (k : Key). is_opened_by node.party k ≡ false) at.1 (other initiator))

    with_sender : nat_eq direction 1 ≡ true → is_with from (Some s) ≡ true
    with_sender one = not-false _ (other_false (nat_eq direction 1) (not (is_with from (Some s))) one lacking)
      where
        other_false : (a b : Bool) → a ≡ true → (a && b) ≡ false → b ≡ false
        other_false true b is lacks = lacks
        other_false false b is lacks = absurd (cc is)

    no_first : (nat_eq direction 0 && nat_eq number 0) ≡ false
    no_first = elim (side_of key direction from to route.1) [
      | inl o ↦ and_right (nat_eq direction 0) (nat_eq number 0) (ne_eqb number 0 (λ e. absurd (omega (arith, e, next, (answer o.1).came))))
      | inr o ↦ and_left (nat_eq direction 0) (nat_eq number 0) (ne_eqb direction 0 (λ e. absurd (omega (arith, e, o.0))))
    ]

-- the next item of a message
is_next_item : (node : Identity) (sessions : List Session) (from to : Party) (key : Key) (direction number : ℕ) (body : Body) → (o : Option Session) → session_of key sessions ≡ o → IsRoute from to key direction from to → IsBodyAt direction number body → to.0 ≡ node.party.0 → is_no_node node.nodes from ≡ false → lacks_session from direction o ≡ false → number ≡ arrived o → AreLawful node.party sessions
    → BeginsSession node sessions from key direction number body ⊎ GoesOn node sessions from key direction number body
is_next_item node sessions from to key direction number body None stands route lawful mine known lacking next answered = inl (begins node sessions from to key direction number body route lawful mine known lacking next stands)
is_next_item node sessions from to key direction number body (Some s) stands route lawful mine known lacking next answered = inr (goes_on node sessions from to key direction number body s route lawful mine lacking next stands answered)

-- of a message
message_further : (node : Identity) (sessions : List Session) (from to : Party) (key : Key) (direction seq stamp : ℕ) (body : Body) → IsFrame (Message from to key direction seq stamp body) → AreLawful node.party sessions → GoesFurther node sessions (judge node sessions (Message from to key direction seq stamp body))
message_further node sessions from to key direction seq stamp body h answered =
    let o = session_of key sessions in
    let next = Next from key direction seq stamp body in
    cond_both (is_other to node.party) (Some (NotMine to)) _ P (λ _. tt) (λ other.
    cond_both (is_no_node node.nodes from || lacks_session from direction o) (Some NoSession) _ P (λ _. tt) (λ known.
    cond_both (nat_lt seq (arrived o)) (Some (Again from key direction (arrived o))) _ P
    (λ below fits. (let route = answer_route node.party from to key direction (h.0, h.1.0) (is_mine node.party to other) in (route.0, (route.1, (omega (arith, ltb-true seq (arrived o) below), fits)))))
    (λ above. cond_both (nat_lt (arrived o) seq) (Some (Early (arrived o))) None P (λ _. tt) (λ ahead.
    let parts = or_parts (is_no_node node.nodes from) (lacks_session from direction o) known in
    let at_number : seq ≡ arrived o = omega (arith, ltb-false seq (arrived o) above, ltb-false (arrived o) seq ahead) in
    let mine = is_mine node.party to other in
    record {
      place = is_next_item node sessions from to key direction seq body o refl (h.0, h.1.0) h.1.1.1.1 mine parts.0 parts.1 at_number answered;
      within = h.1.1.1.1.0;
      stamped = h.1.1.1.0;
      answered = λ fits. let route = answer_route node.party from to key direction (h.0, h.1.0) mine in (route.0, (route.1, (omega arith, fits)));
    }))))
  where
    P : Option Judged → Type 0
    P said = GoesFurther node sessions (or_else said (Next from key direction seq stamp body))

-- of an acknowledgement
ack_further : (node : Identity) (sessions : List Session) (from to : Party) (key : Key) (direction upto : ℕ) → IsFrame (Ack from to key direction upto) → GoesFurther node sessions (judge node sessions (Ack from to key direction upto))
ack_further node sessions from to key direction upto h =
    let o = session_of key sessions in
    cond_both (is_other to node.party) (NotMine to) _ (GoesFurther node sessions) (λ _. tt) (λ other.
    cond_both (is_no_node node.nodes from || not (is_with from o)) NoSession _ (GoesFurther node sessions) (λ _. tt) (λ known.
    cond_both (nat_lt (sent o) upto) (Early (sent o)) (Acked key direction upto) (GoesFurther node sessions) (λ _. tt) (λ below.
    of_session o refl (not-false _ (or_parts _ _ known).1) (ltb-false (sent o) upto below) (acknowledged node.party from to key direction (h.0, h.1.0) (is_mine node.party to other)))))
  where
    of_session : (o : Option Session) → session_of key sessions ≡ o → is_with from o ≡ true → upto ≤ sent o → direction ≡ direction_out node.party key → IsOfSent node.party sessions key direction upto
    of_session None stands there below out = absurd (cc there)
    of_session (Some s) stands there below out = record { session = s; stands = stands; outgoing = out; below = below }

-- of any frame
pub further : (node : Identity) (sessions : List Session) (f : Frame) → IsFrame f → AreLawful node.party sessions → GoesFurther node sessions (judge node sessions f)
further node sessions (Message from to key direction seq stamp body) h answered = message_further node sessions from to key direction seq stamp body h answered
further node sessions (Ack from to key direction upto) h answered = ack_further node sessions from to key direction upto h
