-- The spelling of acts, by the spelling of the frames in them.
use Rattle.std.proofs.Common.{◌≡◌, ◌<◌, ◌≤◌, ◌^◌, ℕ, true, List, [], ◌∷◌, ◌++◌, length, Result, refl, ap, arith}
use Rattle.std.specs.Prelude.{nat_eq}
use Rattle.std.specs.List.{list_any}
use Rattle.std.specs.Int.{w16, w64}
use Rattle.net_base.specs.declared.values.Hash32.{Hash32}
use Rattle.net_base.specs.declared.values.Party.{Party}
use Rattle.net_base.specs.declared.names.Key.{Key}
use Rattle.net_base.specs.declared.names.Token.{Token}
use Rattle.net_base.specs.Reading.{number}
use Rattle.net_base.specs.Forms.{number_at, bytes16}
use Rattle.net_base.specs.Laws.{Laws, LawsIf, weaker}
use Rattle.net_base.specs.Combining.{mapped_at, mapped_laws, pair_at, pair_laws, iso_laws}
use Rattle.net_base.specs.Fields.{u16_laws, u64_laws}
use Rattle.net_base.specs.Kinds.{kinds_of, cases_at, cases_laws}
use Rattle.net_base.specs.Framing.{bytes16_at, bytes16_laws}
use Rattle.net_base.specs.Values.{IsHash, hash, hash_at, hash_laws, IsParty, party, party_at, party_laws}
use Rattle.net_base.specs.Names.{IsKey, key, key_at, key_laws, IsToken, token, token_at, token_laws}
use Rattle.ledger_types.specs.declared.tx.Tx.{Tx}
use Rattle.ledger_types.specs.declared.tx.SignedTx.{SignedTx}
use Rattle.ledger_types.specs.declared.notary.Request.{Request}
use Rattle.ledger_types.specs.declared.value.Value.{Value}
use Rattle.ledger_types.specs.Txs.{IsTx, tx, tx_at, tx_laws, IsSignedTx, signed_tx, signed_tx_at, signed_tx_laws}
use Rattle.ledger_types.specs.Requests.{IsRequest, request, request_at, request_laws}
use Rattle.ledger_types.specs.Values.{IsValue, value, value_at, value_laws}
use Rattle.flow_machine.specs.declared.act_spelling.FrameBytes.{FrameBytes}
use Rattle.flow_machine.specs.declared.acts.Act.{Act}
use Rattle.flow_machine.specs.declared.acts.Act.TheVariants as act
use Rattle.flow_machine.specs.Limits.{IsAct}

-- ---- a frame as bytes

-- at most 32,768 bytes
abbrev pub IsFrameBytes : FrameBytes → Type 0
IsFrameBytes f = length f.0 ≤ 32768

-- two bytes of length, and the bytes
abbrev pub frame_bytes : FrameBytes → List ℕ
frame_bytes f = bytes16 f.0

-- reading the bytes of a frame
unfoldable pub frame_bytes_at : List ℕ → Result (FrameBytes × List ℕ) ℕ
frame_bytes_at = mapped_at (λ b. record { 0 = b }) (bytes16_at 32768)

-- the laws of frames as bytes
pub frame_bytes_laws : Laws IsFrameBytes frame_bytes frame_bytes_at
unfolding frame_bytes_at
frame_bytes_laws = iso_laws (λ b. record { 0 = b }) (λ f. f.0) (λ _. refl) (λ _. refl) (bytes16_laws 32768 (omega arith))

-- ---- Act: u8 kind, 1 to 15 in the order of the acts, and the act's fields in order; a class or code is u16, a moment or amount u64

-- the byte of kind
abbrev pub act_kind : {F : Type 0} → Act F → ℕ
act_kind (act.Open to class first) = 1
act_kind (act.Send k v) = 2
act_kind (act.Receive k) = 3
act_kind (act.ReceiveBy k until) = 4
act_kind (act.Sleep until) = 5
act_kind (act.Sub frame) = 6
act_kind (act.Verify t) = 7
act_kind (act.Reserve t amount) = 8
act_kind (act.Lookup id) = 9
act_kind (act.Missing t) = 10
act_kind (act.Sign id) = 11
act_kind (act.Notarise r) = 12
act_kind (act.Record stx) = 13
act_kind (act.Return v) = 14
act_kind (act.Fail code) = 15

-- what stands behind the kind, by the spelling of frames
abbrev pub act_fields : {F : Type 0} → (F → List ℕ) → Act F → List ℕ
act_fields frame_text (act.Open to class first) = party to ++ (number w16 class ++ value first)
act_fields frame_text (act.Send k v) = key k ++ value v
act_fields frame_text (act.Receive k) = key k
act_fields frame_text (act.ReceiveBy k until) = key k ++ number w64 until
act_fields frame_text (act.Sleep until) = number w64 until
act_fields frame_text (act.Sub frame) = frame_text frame
act_fields frame_text (act.Verify t) = tx t
act_fields frame_text (act.Reserve t amount) = token t ++ number w64 amount
act_fields frame_text (act.Lookup id) = hash id
act_fields frame_text (act.Missing t) = tx t
act_fields frame_text (act.Sign id) = hash id
act_fields frame_text (act.Notarise r) = request r
act_fields frame_text (act.Record stx) = signed_tx stx
act_fields frame_text (act.Return v) = value v
act_fields frame_text (act.Fail code) = number w16 code

-- the spelling of an act, by that of frames
abbrev pub act_text : {F : Type 0} → (F → List ℕ) → Act F → List ℕ
act_text frame_text a = act_kind a ∷ act_fields frame_text a

-- acts of their fields
abbrev open_of : {F : Type 0} → Party × (ℕ × Value) → Act F
open_of p = act.Open p.0 p.1.0 p.1.1

abbrev send_of : {F : Type 0} → Key × Value → Act F
send_of p = act.Send p.0 p.1

abbrev receive_of : {F : Type 0} → Key → Act F
receive_of k = act.Receive k

abbrev receive_by_of : {F : Type 0} → Key × ℕ → Act F
receive_by_of p = act.ReceiveBy p.0 p.1

abbrev sleep_of : {F : Type 0} → ℕ → Act F
sleep_of until = act.Sleep until

abbrev sub_of : {F : Type 0} → F → Act F
sub_of frame = act.Sub frame

abbrev verify_of : {F : Type 0} → Tx → Act F
verify_of t = act.Verify t

abbrev reserve_of : {F : Type 0} → Token × ℕ → Act F
reserve_of p = act.Reserve p.0 p.1

abbrev lookup_of : {F : Type 0} → Hash32 → Act F
lookup_of id = act.Lookup id

abbrev missing_of : {F : Type 0} → Tx → Act F
missing_of t = act.Missing t

abbrev sign_of : {F : Type 0} → Hash32 → Act F
sign_of id = act.Sign id

abbrev notarise_of : {F : Type 0} → Request → Act F
notarise_of r = act.Notarise r

abbrev record_of : {F : Type 0} → SignedTx → Act F
record_of stx = act.Record stx

abbrev return_of : {F : Type 0} → Value → Act F
return_of v = act.Return v

abbrev fail_of : {F : Type 0} → ℕ → Act F
fail_of code = act.Fail code

-- what is read behind each kind
abbrev act_arms : {F : Type 0} → (List ℕ → Result (F × List ℕ) ℕ) → List (ℕ × (List ℕ → Result (Act F × List ℕ) ℕ))
act_arms frame_at =
    (1, mapped_at open_of (pair_at party_at (pair_at (number_at w16) value_at)))
    ∷ (2, mapped_at send_of (pair_at key_at value_at))
    ∷ (3, mapped_at receive_of key_at)
    ∷ (4, mapped_at receive_by_of (pair_at key_at (number_at w64)))
    ∷ (5, mapped_at sleep_of (number_at w64))
    ∷ (6, mapped_at sub_of frame_at)
    ∷ (7, mapped_at verify_of tx_at)
    ∷ (8, mapped_at reserve_of (pair_at token_at (number_at w64)))
    ∷ (9, mapped_at lookup_of hash_at)
    ∷ (10, mapped_at missing_of tx_at)
    ∷ (11, mapped_at sign_of hash_at)
    ∷ (12, mapped_at notarise_of request_at)
    ∷ (13, mapped_at record_of signed_tx_at)
    ∷ (14, mapped_at return_of value_at)
    ∷ (15, mapped_at fail_of (number_at w16))
    ∷ []

-- reading an act, by how frames are read
unfoldable pub act_at : {F : Type 0} → (List ℕ → Result (F × List ℕ) ℕ) → List ℕ → Result (Act F × List ℕ) ℕ
act_at frame_at = cases_at (act_arms frame_at)

-- the fields of an act of each kind
from_open : {F : Type 0} (is_frame : F → Type 0) (a : Act F) → IsAct is_frame a × (act_kind a ≡ 1) → (p : Party × (ℕ × Value)) × ((IsParty p.0 × ((p.1.0 < 2 ^ 16) × IsValue p.1.1)) × (open_of p ≡ a))
from_open is_frame (act.Open to class first) h = ((to, (class, first)), (h.0, refl))
from_open is_frame other h = absurd (omega (arith, h.1))

from_send : {F : Type 0} (is_frame : F → Type 0) (a : Act F) → IsAct is_frame a × (act_kind a ≡ 2) → (p : Key × Value) × ((IsKey p.0 × IsValue p.1) × (send_of p ≡ a))
from_send is_frame (act.Send k v) h = ((k, v), (h.0, refl))
from_send is_frame other h = absurd (omega (arith, h.1))

from_receive : {F : Type 0} (is_frame : F → Type 0) (a : Act F) → IsAct is_frame a × (act_kind a ≡ 3) → (k : Key) × (IsKey k × (receive_of k ≡ a))
from_receive is_frame (act.Receive k) h = (k, (h.0, refl))
from_receive is_frame other h = absurd (omega (arith, h.1))

from_receive_by : {F : Type 0} (is_frame : F → Type 0) (a : Act F) → IsAct is_frame a × (act_kind a ≡ 4) → (p : Key × ℕ) × ((IsKey p.0 × (p.1 < 2 ^ 64)) × (receive_by_of p ≡ a))
from_receive_by is_frame (act.ReceiveBy k until) h = ((k, until), (h.0, refl))
from_receive_by is_frame other h = absurd (omega (arith, h.1))

from_sleep : {F : Type 0} (is_frame : F → Type 0) (a : Act F) → IsAct is_frame a × (act_kind a ≡ 5) → (n : ℕ) × ((n < 2 ^ 64) × (sleep_of n ≡ a))
from_sleep is_frame (act.Sleep until) h = (until, (h.0, refl))
from_sleep is_frame other h = absurd (omega (arith, h.1))

from_sub : {F : Type 0} (is_frame : F → Type 0) (a : Act F) → IsAct is_frame a × (act_kind a ≡ 6) → (f : F) × (is_frame f × (sub_of f ≡ a))
from_sub is_frame (act.Sub frame) h = (frame, (h.0, refl))
from_sub is_frame other h = absurd (omega (arith, h.1))

from_verify : {F : Type 0} (is_frame : F → Type 0) (a : Act F) → IsAct is_frame a × (act_kind a ≡ 7) → (t : Tx) × (IsTx t × (verify_of t ≡ a))
from_verify is_frame (act.Verify t) h = (t, (h.0, refl))
from_verify is_frame other h = absurd (omega (arith, h.1))

from_reserve : {F : Type 0} (is_frame : F → Type 0) (a : Act F) → IsAct is_frame a × (act_kind a ≡ 8) → (p : Token × ℕ) × ((IsToken p.0 × (p.1 < 2 ^ 64)) × (reserve_of p ≡ a))
from_reserve is_frame (act.Reserve t amount) h = ((t, amount), (h.0, refl))
from_reserve is_frame other h = absurd (omega (arith, h.1))

from_lookup : {F : Type 0} (is_frame : F → Type 0) (a : Act F) → IsAct is_frame a × (act_kind a ≡ 9) → (id : Hash32) × (IsHash id × (lookup_of id ≡ a))
from_lookup is_frame (act.Lookup id) h = (id, (h.0, refl))
from_lookup is_frame other h = absurd (omega (arith, h.1))

from_missing : {F : Type 0} (is_frame : F → Type 0) (a : Act F) → IsAct is_frame a × (act_kind a ≡ 10) → (t : Tx) × (IsTx t × (missing_of t ≡ a))
from_missing is_frame (act.Missing t) h = (t, (h.0, refl))
from_missing is_frame other h = absurd (omega (arith, h.1))

from_sign : {F : Type 0} (is_frame : F → Type 0) (a : Act F) → IsAct is_frame a × (act_kind a ≡ 11) → (id : Hash32) × (IsHash id × (sign_of id ≡ a))
from_sign is_frame (act.Sign id) h = (id, (h.0, refl))
from_sign is_frame other h = absurd (omega (arith, h.1))

from_notarise : {F : Type 0} (is_frame : F → Type 0) (a : Act F) → IsAct is_frame a × (act_kind a ≡ 12) → (r : Request) × (IsRequest r × (notarise_of r ≡ a))
from_notarise is_frame (act.Notarise r) h = (r, (h.0, refl))
from_notarise is_frame other h = absurd (omega (arith, h.1))

from_record : {F : Type 0} (is_frame : F → Type 0) (a : Act F) → IsAct is_frame a × (act_kind a ≡ 13) → (stx : SignedTx) × (IsSignedTx stx × (record_of stx ≡ a))
from_record is_frame (act.Record stx) h = (stx, (h.0, refl))
from_record is_frame other h = absurd (omega (arith, h.1))

from_return : {F : Type 0} (is_frame : F → Type 0) (a : Act F) → IsAct is_frame a × (act_kind a ≡ 14) → (v : Value) × (IsValue v × (return_of v ≡ a))
from_return is_frame (act.Return v) h = (v, (h.0, refl))
from_return is_frame other h = absurd (omega (arith, h.1))

from_fail : {F : Type 0} (is_frame : F → Type 0) (a : Act F) → IsAct is_frame a × (act_kind a ≡ 15) → (n : ℕ) × ((n < 2 ^ 16) × (fail_of n ≡ a))
from_fail is_frame (act.Fail code) h = (code, (h.0, refl))
from_fail is_frame other h = absurd (omega (arith, h.1))

-- each kind is among the arms
act_covered : {F : Type 0} (frame_text : F → List ℕ) (frame_at : List ℕ → Result (F × List ℕ) ℕ) (a : Act F) → (list_any (λ y. nat_eq y (act_kind a)) (kinds_of (act_arms frame_at)) ≡ true) × (act_text frame_text a ≡ act_kind a ∷ act_fields frame_text a)
act_covered frame_text frame_at (act.Fail code) = (refl, refl)
act_covered frame_text frame_at other = (refl, refl)

-- the laws of acts, by those of frames
pub act_laws : {F : Type 0} {is_frame : F → Type 0} {frame_text : F → List ℕ} {frame_at : List ℕ → Result (F × List ℕ) ℕ} {exact : Type 0} → LawsIf exact is_frame frame_text frame_at → LawsIf exact (IsAct is_frame) (act_text frame_text) (act_at frame_at)
unfolding act_at
act_laws {F} {is_frame} {frame_text} {frame_at} {exact} frames =
    cases_laws {kind = act_kind} {body = act_fields frame_text} (act_arms frame_at) 1 refl (λ a h. act_covered frame_text frame_at a) (
      mapped_laws open_of (weaker exact (pair_laws party_laws (pair_laws u16_laws value_laws))) (record { keeps = λ p h. ((h, refl), refl); from = from_open is_frame }),
      (
        mapped_laws send_of (weaker exact (pair_laws key_laws value_laws)) (record { keeps = λ p h. ((h, refl), refl); from = from_send is_frame }),
        (
          mapped_laws receive_of (weaker exact key_laws) (record { keeps = λ p h. ((h, refl), refl); from = from_receive is_frame }),
          (
            mapped_laws receive_by_of (weaker exact (pair_laws key_laws u64_laws)) (record { keeps = λ p h. ((h, refl), refl); from = from_receive_by is_frame }),
            (
              mapped_laws sleep_of (weaker exact u64_laws) (record { keeps = λ p h. ((h, refl), refl); from = from_sleep is_frame }),
              (
                mapped_laws sub_of frames (record { keeps = λ p h. ((h, refl), refl); from = from_sub is_frame }),
                (
                  mapped_laws verify_of (weaker exact tx_laws) (record { keeps = λ p h. ((h, refl), refl); from = from_verify is_frame }),
                  (
                    mapped_laws reserve_of (weaker exact (pair_laws token_laws u64_laws)) (record { keeps = λ p h. ((h, refl), refl); from = from_reserve is_frame }),
                    (
                      mapped_laws lookup_of (weaker exact hash_laws) (record { keeps = λ p h. ((h, refl), refl); from = from_lookup is_frame }),
                      (
                        mapped_laws missing_of (weaker exact tx_laws) (record { keeps = λ p h. ((h, refl), refl); from = from_missing is_frame }),
                        (
                          mapped_laws sign_of (weaker exact hash_laws) (record { keeps = λ p h. ((h, refl), refl); from = from_sign is_frame }),
                          (
                            mapped_laws notarise_of (weaker exact request_laws) (record { keeps = λ p h. ((h, refl), refl); from = from_notarise is_frame }),
                            (
                              mapped_laws record_of (weaker exact signed_tx_laws) (record { keeps = λ p h. ((h, refl), refl); from = from_record is_frame }),
                              (
                                mapped_laws return_of (weaker exact value_laws) (record { keeps = λ p h. ((h, refl), refl); from = from_return is_frame }),
                                (
                                  mapped_laws fail_of (weaker exact u16_laws) (record { keeps = λ p h. ((h, refl), refl); from = from_fail is_frame }),
                                  tt,
                                ),
                              ),
                            ),
                          ),
                        ),
                      ),
                    ),
                  ),
                ),
              ),
            ),
          ),
        ),
      ),
    )

-- ---- the same act with its frames seen as another type's

-- the act with its frame, where it has one, replaced
abbrev pub act_with : {F G : Type 0} → (F → G) → Act F → Act G
act_with see (act.Open to class first) = act.Open to class first
act_with see (act.Send k v) = act.Send k v
act_with see (act.Receive k) = act.Receive k
act_with see (act.ReceiveBy k until) = act.ReceiveBy k until
act_with see (act.Sleep until) = act.Sleep until
act_with see (act.Sub frame) = act.Sub (see frame)
act_with see (act.Verify t) = act.Verify t
act_with see (act.Reserve t amount) = act.Reserve t amount
act_with see (act.Lookup id) = act.Lookup id
act_with see (act.Missing t) = act.Missing t
act_with see (act.Sign id) = act.Sign id
act_with see (act.Notarise r) = act.Notarise r
act_with see (act.Record stx) = act.Record stx
act_with see (act.Return v) = act.Return v
act_with see (act.Fail code) = act.Fail code

-- each frame within its limits is seen as one within its own, with the same bytes
abbrev pub SameBytes : {F G : Type 0} → (F → Type 0) → (F → List ℕ) → (G → Type 0) → (G → List ℕ) → (F → G) → Type 0
SameBytes {F} {G} is_f f is_g g see = (x : F) → is_f x → is_g (see x) × (g (see x) ≡ f x)

-- then the act has the same bytes, and keeps its limits
pub act_same : {F G : Type 0} (is_f : F → Type 0) (f : F → List ℕ) (is_g : G → Type 0) (g : G → List ℕ) (see : F → G) → SameBytes is_f f is_g g see → SameBytes (IsAct is_f) (act_text f) (IsAct is_g) (act_text g) (act_with see)
act_same is_f f is_g g see same (act.Sub frame) h = ((same frame h).0, ap (λ (l : List ℕ). 6 ∷ l) (same frame h).1)
act_same is_f f is_g g see same other h = (h, refl)
