-- The spelling of frames, with the rules that they keep.
use Rattle.std.proofs.Common.{◌≡◌, ◌≢◌, ◌⊎◌, inl, inr, ◌<◌, ◌^◌, ℕ, zero, suc, Bool, true, false, cond, List, [], ◌∷◌, ◌++◌, Result, refl, ap, sym, subst, ◌∙◌, eq-eqb, arith}
use Rattle.std.specs.Prelude.{nat_eq, ◌||◌}
use Rattle.std.specs.List.{list_any}
use Rattle.std.specs.Int.{w32, w64}
use Rattle.std.proofs.lemmas.Bool.{eqb-true, ne_eqb, or_right, or_cases}
use Rattle.net_base.specs.declared.values.Party.{Party}
use Rattle.net_base.specs.Reading.{number}
use Rattle.net_base.specs.Forms.{below_at, number_at}
use Rattle.net_base.specs.Laws.{Laws}
use Rattle.net_base.specs.Combining.{mapped_at, mapped_laws, pair_at, pair_laws}
use Rattle.net_base.specs.Fields.{below_laws, u32_laws}
use Rattle.net_base.specs.Kinds.{kind_at, kind_laws, kinds_of, cases_at, cases_laws}
use Rattle.net_base.specs.Framing.{both_at, both_laws}
use Rattle.net_base.specs.Tested.{below_except_at, below_except_laws, positive_at, positive32_laws, stamp_at, stamp_laws}
use Rattle.net_base.specs.Values.{IsParty, party}
use Rattle.net_base.specs.Names.{IsKey}
use Rattle.session_wire.specs.Bodies.{IsBodyAt, body_text, body_at, body_laws}
use Rattle.session_wire.specs.declared.body.Body.{Body}
use Rattle.net_base.specs.declared.names.Key.{Key}
use Rattle.session_wire.specs.declared.frame.Frame.{Frame}
use Rattle.session_wire.specs.declared.frame.Frame.TheVariants.{Message, Ack}

-- The two sides of a frame, which differ, and its session.
pub record AreSides (from to : Party) (key : Key) : Type 0 where
  pub from_is : IsParty from
  pub to_is : IsParty to
  pub differ : from ≢ to
  pub key_is : IsKey key

-- The direction at which an item of the session goes from the sender to the receiver: 0 where the sender is the session's
-- initiator, 1 where the receiver is.
abbrev pub GoesAt : ℕ → Key → Party → Party → Type 0
GoesAt direction key sender receiver = ((direction ≡ 0) × (sender ≡ key.initiator)) ⊎ ((direction ≡ 1) × (receiver ≡ key.initiator))

-- A frame. A message carries an item that goes from `from` to `to`, its stamp is 1 to 2 ^ 63 - 1, and its body is lawful at
-- its direction and number. An acknowledgement goes the other way than its items, which go from `to` to `from`, and it is
-- for at least one.
abbrev pub IsFrame : Frame → Type 0
IsFrame (Message from to key direction seq stamp body) = AreSides from to key × (GoesAt direction key from to × ((seq < 2 ^ 32) × (((0 < stamp) × (stamp < 2 ^ 63)) × IsBodyAt direction seq body)))
IsFrame (Ack from to key direction upto) = AreSides from to key × (GoesAt direction key to from × ((0 < upto) × (upto < 2 ^ 32)))

-- the byte by which each kind of frame begins
abbrev pub frame_kind : Frame → ℕ
frame_kind (Message from to key direction seq stamp body) = 1
frame_kind (Ack from to key direction upto) = 2

-- the spelling of the sides, the session and the direction
abbrev pub route_text : Party → Party → Key → ℕ → List ℕ
route_text from to key direction = party from ++ (party to ++ (party key.initiator ++ (number w32 key.number ++ direction ∷ [])))

-- the spelling of what follows the first byte
abbrev pub frame_fields : Frame → List ℕ
frame_fields (Message from to key direction seq stamp body) = route_text from to key direction ++ (number w32 seq ++ (number w64 stamp ++ body_text body))
frame_fields (Ack from to key direction upto) = route_text from to key direction ++ number w32 upto

-- the spelling of a frame
abbrev pub frame : Frame → List ℕ
frame f = frame_kind f ∷ frame_fields f

-- ---- reading

-- from, to, initiator, session number and direction, as they are read
abbrev RouteParts : Type 0
RouteParts = ℕ × (ℕ × (ℕ × (ℕ × ℕ)))

-- the direction at which the initiator may be that party
abbrev pub side : ℕ → ℕ → ℕ → ℕ → ℕ
side first second from initiator = cond (nat_eq initiator from) first second

-- reading these: at each byte what can still come
abbrev pub route_at : ℕ → ℕ → List ℕ → Result (RouteParts × List ℕ) ℕ
route_at first second = both_at (below_at 16) (λ f. both_at (below_except_at 16 f) (λ t. both_at (kind_at (f ∷ t ∷ [])) (λ i. both_at (number_at w32) (λ n. kind_at (side first second f i ∷ [])))))

-- the number, stamp and body of a message
abbrev Rest : Type 0
Rest = ℕ × (ℕ × Body)

-- frames of what was read
abbrev message_of : RouteParts × Rest → Frame
message_of p = Message (record { 0 = p.0.0 }) (record { 0 = p.0.1.0 }) (record { initiator = record { 0 = p.0.1.1.0 }; number = p.0.1.1.1.0 }) p.0.1.1.1.1 p.1.0 p.1.1.0 p.1.1.1

abbrev ack_of : RouteParts × ℕ → Frame
ack_of p = Ack (record { 0 = p.0.0 }) (record { 0 = p.0.1.0 }) (record { initiator = record { 0 = p.0.1.1.0 }; number = p.0.1.1.1.0 }) p.0.1.1.1.1 p.1

-- reading a message behind its first byte
unfoldable pub message_at : List ℕ → Result (Frame × List ℕ) ℕ
message_at = mapped_at message_of (both_at (route_at 0 1) (λ r. both_at (number_at w32) (λ q. pair_at stamp_at (body_at r.1.1.1.1 q))))

-- reading an acknowledgement behind its first byte
unfoldable pub ack_at : List ℕ → Result (Frame × List ℕ) ℕ
ack_at = mapped_at ack_of (pair_at (route_at 1 0) (positive_at w32))

-- reading a frame
abbrev frame_arms : List (ℕ × (List ℕ → Result (Frame × List ℕ) ℕ))
frame_arms = (1, message_at) ∷ (2, ack_at) ∷ []

-- reading a frame
unfoldable pub frame_at : List ℕ → Result (Frame × List ℕ) ℕ
frame_at = cases_at frame_arms

-- ---- the laws

same_is : (n : ℕ) → nat_eq n n ≡ true
same_is n = eq-eqb n n refl

-- a number that is one of these
abbrev OneOf : ℕ → List ℕ → Type 0
OneOf n kinds = list_any (λ y. nat_eq y n) kinds ≡ true

-- what was read passed the tests
abbrev RouteWithin : ℕ → ℕ → RouteParts → Type 0
RouteWithin first second r = (r.0 < 16) × (((r.1.0 < 16) × (r.1.0 ≢ r.0)) × (OneOf r.1.1.0 (r.0 ∷ r.1.0 ∷ []) × ((r.1.1.1.0 < 2 ^ 32) × OneOf r.1.1.1.1 (side first second r.0 r.1.1.0 ∷ []))))

-- a party other than this one
other_than : ℕ → ℕ
other_than zero = 1
other_than (suc f) = 0

other_fits : (f : ℕ) → (other_than f < 16) × (other_than f ≢ f)
unfolding other_than
other_fits zero = (omega arith, omega arith)
other_fits (suc f) = (omega arith, omega arith)

-- the laws of routes
route_laws : (first second : ℕ) → Laws (RouteWithin first second) (λ (r : RouteParts). (r.0 ∷ []) ++ ((r.1.0 ∷ []) ++ ((r.1.1.0 ∷ []) ++ (number w32 r.1.1.1.0 ++ (r.1.1.1.1 ∷ []))))) (route_at first second)
route_laws first second =
    both_laws (below_laws 16 (omega arith)) (λ f hf.
    both_laws (below_except_laws 16 f (other_than f) (other_fits f).0 (other_fits f).1) (λ t ht.
    both_laws (kind_laws f (f ∷ t ∷ []) (rw (same_is f) refl)) (λ i hi.
    both_laws u32_laws (λ n hn. kind_laws (side first second f i) (side first second f i ∷ []) (rw (same_is (side first second f i)) refl)))))

-- tests of one number or another
one_of_one : (n k : ℕ) → OneOf n (k ∷ []) → n ≡ k
one_of_one n k h =
    elim (or_cases (nat_eq k n) false h) [
      | inl e ↦ sym (eqb-true k n e)
      | inr e ↦ absurd cc
    ]

one_of_two : (n k l : ℕ) → OneOf n (k ∷ l ∷ []) → (n ≡ k) ⊎ (n ≡ l)
one_of_two n k l h =
    elim (or_cases (nat_eq k n) (nat_eq l n || false) h) [
      | inl e ↦ inl (sym (eqb-true k n e))
      | inr e ↦ inr (one_of_one n l e)
    ]

is_one : (n k : ℕ) → n ≡ k → OneOf n (k ∷ [])
is_one n k e = rw e (rw (same_is k) refl)

first_of_two : (n k l : ℕ) → n ≡ k → OneOf n (k ∷ l ∷ [])
first_of_two n k l e = rw e (rw (same_is k) refl)

second_of_two : (n k l : ℕ) → n ≡ l → OneOf n (k ∷ l ∷ [])
second_of_two n k l e = or_right (nat_eq k n) (nat_eq l n || false) (is_one n l e)

-- at the first direction the first side is the session's initiator, at the second the other
abbrev LeadsAt : ℕ → ℕ → ℕ → Key → Party → Party → Type 0
LeadsAt first second direction key from to = ((direction ≡ first) × (from ≡ key.initiator)) ⊎ ((direction ≡ second) × (to ≡ key.initiator))

-- said of the sides in the other order
turned : (first second direction : ℕ) (key : Key) (from to : Party) → LeadsAt first second direction key from to → LeadsAt second first direction key to from
turned first second direction key from to (inl s) = inr s
turned first second direction key from to (inr s) = inl s

-- the party of a number
abbrev party_of : ℕ → Party
party_of n = record { 0 = n }

-- the number of a party
abbrev number_of : Party → ℕ
number_of p = p.0

-- the direction for an initiator that is the first side, and for one that is not
first_side : (first second from initiator : ℕ) → initiator ≡ from → side first second from initiator ≡ first
first_side first second from initiator e = ap (λ (t : Bool). cond t first second) (ap (λ (k : ℕ). nat_eq k from) e ∙ same_is from)

second_side : (first second from to initiator : ℕ) → to ≢ from → initiator ≡ to → side first second from initiator ≡ second
second_side first second from to initiator ne e = ap (λ (t : Bool). cond t first second) (ne_eqb initiator from (subst (λ (k : ℕ). k ≢ from) (sym e) ne))

-- the session that was read
abbrev key_read : RouteParts → Key
key_read r = record { initiator = party_of r.1.1.0; number = r.1.1.1.0 }

-- what was read are sides, and a direction of one of them
sides_read : (first second : ℕ) (r : RouteParts) → RouteWithin first second r → AreSides (party_of r.0) (party_of r.1.0) (key_read r) × LeadsAt first second r.1.1.1.1 (key_read r) (party_of r.0) (party_of r.1.0)
sides_read first second r h =
    let d : r.1.1.1.1 ≡ side first second r.0 r.1.1.0 = one_of_one _ _ h.1.1.1.1 in
    let differ : party_of r.0 ≢ party_of r.1.0 = λ same. h.1.0.1 (sym (ap number_of same)) in
    elim (one_of_two r.1.1.0 r.0 r.1.0 h.1.1.0) [
      | inl e ↦
          (record { from_is = h.0; to_is = h.1.0.0; differ = differ; key_is = (subst (λ (n : ℕ). n < 16) (sym e) h.0, h.1.1.1.0) }, inl (d ∙ first_side first second r.0 r.1.1.0 e, ap party_of (sym e)))
      | inr e ↦
          (record { from_is = h.0; to_is = h.1.0.0; differ = differ; key_is = (subst (λ (n : ℕ). n < 16) (sym e) h.1.0.0, h.1.1.1.0) }, inr (d ∙ second_side first second r.0 r.1.0 r.1.1.0 h.1.0.1 e, ap party_of (sym e)))
    ]

-- sides and a direction of one of them are read
sides_within : (first second : ℕ) (from to : Party) (key : Key) (direction : ℕ) → AreSides from to key → LeadsAt first second direction key from to → RouteWithin first second (from.0, (to.0, (key.initiator.0, (key.number, direction))))
sides_within first second from to key direction sides leads =
    let differ : to.0 ≢ from.0 = λ e. sides.differ (ap party_of (sym e)) in
    elim leads [
      | inl s ↦
          let e : key.initiator.0 ≡ from.0 = ap number_of (sym s.1) in
          (sides.from_is, ((sides.to_is, differ), (first_of_two key.initiator.0 from.0 to.0 e, (sides.key_is.1, is_one direction _ (s.0 ∙ sym (first_side first second from.0 key.initiator.0 e))))))
      | inr s ↦
          let e : key.initiator.0 ≡ to.0 = ap number_of (sym s.1) in
          (sides.from_is, ((sides.to_is, differ), (second_of_two key.initiator.0 from.0 to.0 e, (sides.key_is.1, is_one direction _ (s.0 ∙ sym (second_side first second from.0 to.0 key.initiator.0 differ e))))))
    ]

message_from : (f : Frame) → IsFrame f × (frame_kind f ≡ 1) → (p : RouteParts × Rest) × ((RouteWithin 0 1 p.0 × ((p.1.0 < 2 ^ 32) × (((0 < p.1.1.0) × (p.1.1.0 < 2 ^ 63)) × IsBodyAt p.0.1.1.1.1 p.1.0 p.1.1.1))) × (message_of p ≡ f))
message_from (Message from to key direction seq stamp body) h =
    (((from.0, (to.0, (key.initiator.0, (key.number, direction)))), (seq, (stamp, body))), ((sides_within 0 1 from to key direction h.0.0 h.0.1.0, h.0.1.1), refl))
message_from other h = absurd (omega (arith, h.1))

ack_from : (f : Frame) → IsFrame f × (frame_kind f ≡ 2) → (p : RouteParts × ℕ) × ((RouteWithin 1 0 p.0 × ((0 < p.1) × (p.1 < 2 ^ 32))) × (ack_of p ≡ f))
ack_from (Ack from to key direction upto) h =
    (((from.0, (to.0, (key.initiator.0, (key.number, direction)))), upto), ((sides_within 1 0 from to key direction h.0.0 (turned 0 1 direction key to from h.0.1.0), h.0.1.1), refl))
ack_from other h = absurd (omega (arith, h.1))

-- the laws of messages
pub message_laws : Laws (λ (f : Frame). IsFrame f × (frame_kind f ≡ 1)) frame_fields message_at
unfolding message_at
message_laws =
    mapped_laws message_of (both_laws (route_laws 0 1) (λ r hr. both_laws u32_laws (λ q hq. pair_laws stamp_laws (body_laws r.1.1.1.1 q)))) (record {
      keeps = λ p h. let read = sides_read 0 1 p.0 h.0 in (((read.0, (read.1, h.1)), refl), refl);
      from = message_from;
    })

-- the laws of acknowledgements
pub ack_laws : Laws (λ (f : Frame). IsFrame f × (frame_kind f ≡ 2)) frame_fields ack_at
unfolding ack_at
ack_laws =
    mapped_laws ack_of (pair_laws (route_laws 1 0) positive32_laws) (record {
      keeps = λ p h.
          let read = sides_read 1 0 p.0 h.0 in
          (((read.0, (turned 1 0 p.0.1.1.1.1 (key_read p.0) (party_of p.0.0) (party_of p.0.1.0) read.1, h.1)), refl), refl);
      from = ack_from;
    })

frame_covered : (f : Frame) → (list_any (λ y. nat_eq y (frame_kind f)) (kinds_of frame_arms) ≡ true) × (frame f ≡ frame_kind f ∷ frame_fields f)
frame_covered (Message from to key direction seq stamp body) = (refl, refl)
frame_covered (Ack from to key direction upto) = (refl, refl)

-- the laws of frames
pub frame_laws : Laws IsFrame frame frame_at
unfolding frame_at
frame_laws = cases_laws {kind = frame_kind} {body = frame_fields} frame_arms 1 refl (λ f h. frame_covered f) (message_laws, (ack_laws, tt))
