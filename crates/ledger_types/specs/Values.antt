-- The spelling of what flows hand to one another.
use Rattle.std.proofs.Common.{◌≡◌, ◌<◌, ◌≤◌, ◌^◌, ℕ, true, List, [], ◌∷◌, length, Result, refl, arith}
use Rattle.std.specs.Prelude.{nat_eq}
use Rattle.std.specs.List.{list_any}
use Rattle.std.specs.Int.{w64}
use Rattle.net_base.specs.declared.values.Hash32.{Hash32}
use Rattle.net_base.specs.declared.names.Tag.{Tag}
use Rattle.net_base.specs.Reading.{number}
use Rattle.net_base.specs.Forms.{number_at, list8, bytes16}
use Rattle.net_base.specs.Laws.{Laws, done}
use Rattle.net_base.specs.Combining.{mapped_at, mapped_laws}
use Rattle.net_base.specs.Fields.{u64_laws}
use Rattle.net_base.specs.Kinds.{kinds_of, cases_at, cases_laws, bare_laws}
use Rattle.net_base.specs.Framing.{bytes16_at, bytes16_laws}
use Rattle.net_base.specs.Values.{IsHash, hash, hash_at, hash_laws}
use Rattle.net_base.specs.Names.{tag}
use Rattle.ledger_types.specs.declared.tx.SignedTx.{SignedTx}
use Rattle.ledger_types.specs.declared.notary.Request.{Request}
use Rattle.ledger_types.specs.declared.notary.NotaryAnswer.{NotaryAnswer}
use Rattle.ledger_types.specs.declared.value.Value.{Value}
use Rattle.ledger_types.specs.declared.value.Value.TheVariants as v
use Rattle.ledger_types.specs.Txs.{IsSignedTx, signed_tx, signed_tx_at, signed_tx_laws, IsTagList, tag_list_at, tag_list_laws}
use Rattle.ledger_types.specs.Requests.{IsRequest, request, request_at, request_laws, IsNotaryAnswer, notary_answer, notary_answer_at, notary_answer_laws}

-- ---- Value: u8 kind; 0 Unit; 1 Number: u64; 2 Id: hash; 3 Tx: SignedTx; 4 Request; 5 Answer: NotaryAnswer; 6 Tags: list8 Tag (16), strictly ascending by by; 7 Bytes: bytes16 of at most 4,096

-- the limits of a value
abbrev pub IsValue : Value → Type 0
IsValue v.Unit = Unit {0}
IsValue (v.Number n) = n < 2 ^ 64
IsValue (v.Id h) = IsHash h
IsValue (v.Tx stx) = IsSignedTx stx
IsValue (v.Request r) = IsRequest r
IsValue (v.Answer a) = IsNotaryAnswer a
IsValue (v.Tags tags) = IsTagList tags
IsValue (v.Bytes bytes) = length bytes ≤ 4096

-- the byte of kind
abbrev pub value_kind : Value → ℕ
value_kind v.Unit = 0
value_kind (v.Number n) = 1
value_kind (v.Id h) = 2
value_kind (v.Tx stx) = 3
value_kind (v.Request r) = 4
value_kind (v.Answer a) = 5
value_kind (v.Tags tags) = 6
value_kind (v.Bytes bytes) = 7

-- what stands behind the kind
abbrev pub value_fields : Value → List ℕ
value_fields v.Unit = []
value_fields (v.Number n) = number w64 n
value_fields (v.Id h) = hash h
value_fields (v.Tx stx) = signed_tx stx
value_fields (v.Request r) = request r
value_fields (v.Answer a) = notary_answer a
value_fields (v.Tags tags) = list8 tag tags
value_fields (v.Bytes bytes) = bytes16 bytes

-- the spelling of a value
abbrev pub value : Value → List ℕ
value x = value_kind x ∷ value_fields x

-- a number
abbrev of_number : ℕ → Value
of_number n = v.Number n

-- an id
abbrev of_id : Hash32 → Value
of_id h = v.Id h

-- a transaction
abbrev of_tx : SignedTx → Value
of_tx s = v.Tx s

-- a request
abbrev of_request : Request → Value
of_request r = v.Request r

-- a notary's answer
abbrev of_answer : NotaryAnswer → Value
of_answer a = v.Answer a

-- tags
abbrev of_tags : List Tag → Value
of_tags t = v.Tags t

-- bytes
abbrev of_bytes : List ℕ → Value
of_bytes b = v.Bytes b

-- nothing
abbrev of_unit : Value
of_unit = v.Unit

-- what is read behind each kind
abbrev value_arms : List (ℕ × (List ℕ → Result (Value × List ℕ) ℕ))
value_arms =
    (0, λ bytes. done (of_unit, bytes))
    ∷ (1, mapped_at of_number (number_at w64))
    ∷ (2, mapped_at of_id hash_at)
    ∷ (3, mapped_at of_tx signed_tx_at)
    ∷ (4, mapped_at of_request request_at)
    ∷ (5, mapped_at of_answer notary_answer_at)
    ∷ (6, mapped_at of_tags tag_list_at)
    ∷ (7, mapped_at of_bytes (bytes16_at 4096))
    ∷ []

-- reading a value
unfoldable pub value_at : List ℕ → Result (Value × List ℕ) ℕ
value_at = cases_at value_arms

-- 0 is one value alone
only_unit : (x : Value) → IsValue x × (value_kind x ≡ 0) → x ≡ of_unit
only_unit v.Unit h = refl
only_unit other h = absurd (omega (arith, h.1))

-- 1 comes with a number
from_number : (x : Value) → IsValue x × (value_kind x ≡ 1) → (n : ℕ) × ((n < 2 ^ 64) × (of_number n ≡ x))
from_number (v.Number n) h = (n, (h.0, refl))
from_number other h = absurd (omega (arith, h.1))

-- 2 comes with a hash
from_id : (x : Value) → IsValue x × (value_kind x ≡ 2) → (n : Hash32) × (IsHash n × (of_id n ≡ x))
from_id (v.Id n) h = (n, (h.0, refl))
from_id other h = absurd (omega (arith, h.1))

-- 3 comes with a transaction
from_tx : (x : Value) → IsValue x × (value_kind x ≡ 3) → (n : SignedTx) × (IsSignedTx n × (of_tx n ≡ x))
from_tx (v.Tx n) h = (n, (h.0, refl))
from_tx other h = absurd (omega (arith, h.1))

-- 4 comes with a request
from_request : (x : Value) → IsValue x × (value_kind x ≡ 4) → (n : Request) × (IsRequest n × (of_request n ≡ x))
from_request (v.Request n) h = (n, (h.0, refl))
from_request other h = absurd (omega (arith, h.1))

-- 5 comes with an answer
from_answer : (x : Value) → IsValue x × (value_kind x ≡ 5) → (n : NotaryAnswer) × (IsNotaryAnswer n × (of_answer n ≡ x))
from_answer (v.Answer n) h = (n, (h.0, refl))
from_answer other h = absurd (omega (arith, h.1))

-- 6 comes with tags
from_tags : (x : Value) → IsValue x × (value_kind x ≡ 6) → (n : List Tag) × (IsTagList n × (of_tags n ≡ x))
from_tags (v.Tags n) h = (n, (h.0, refl))
from_tags other h = absurd (omega (arith, h.1))

-- 7 comes with bytes
from_bytes : (x : Value) → IsValue x × (value_kind x ≡ 7) → (n : List ℕ) × ((length n ≤ 4096) × (of_bytes n ≡ x))
from_bytes (v.Bytes n) h = (n, (h.0, refl))
from_bytes other h = absurd (omega (arith, h.1))

-- each kind is among the arms
value_covered : (x : Value) → (list_any (λ y. nat_eq y (value_kind x)) (kinds_of value_arms) ≡ true) × (value x ≡ value_kind x ∷ value_fields x)
value_covered v.Unit = (refl, refl)
value_covered other = (refl, refl)

-- the laws of values
pub value_laws : Laws IsValue value value_at
unfolding value_at
value_laws =
    cases_laws {kind = value_kind} {body = value_fields} value_arms 0 refl (λ d h. value_covered d) (
      bare_laws of_unit (tt, refl) refl only_unit,
      (
        mapped_laws of_number u64_laws (record { keeps = λ p h. ((h, refl), refl); from = from_number }),
        (
          mapped_laws of_id hash_laws (record { keeps = λ p h. ((h, refl), refl); from = from_id }),
          (
            mapped_laws of_tx signed_tx_laws (record { keeps = λ p h. ((h, refl), refl); from = from_tx }),
            (
              mapped_laws of_request request_laws (record { keeps = λ p h. ((h, refl), refl); from = from_request }),
              (
                mapped_laws of_answer notary_answer_laws (record { keeps = λ p h. ((h, refl), refl); from = from_answer }),
                (
                  mapped_laws of_tags tag_list_laws (record { keeps = λ p h. ((h, refl), refl); from = from_tags }),
                  (
                    mapped_laws of_bytes (bytes16_laws 4096 (omega arith)) (record { keeps = λ p h. ((h, refl), refl); from = from_bytes }),
                    tt,
                  ),
                ),
              ),
            ),
          ),
        ),
      ),
    )
