-- The spelling of what a notary is asked, answers and books.
use Rattle.std.proofs.Common.{◌≡◌, ◌<◌, ◌^◌, ℕ, true, List, [], ◌∷◌, ◌++◌, Result, refl, arith}
use Rattle.std.specs.Prelude.{nat_eq}
use Rattle.std.specs.List.{list_any}
use Rattle.std.specs.Int.{w32}
use Rattle.net_base.specs.declared.values.Hash32.{Hash32}
use Rattle.net_base.specs.declared.values.Party.{Party}
use Rattle.net_base.specs.declared.values.Moment.{Moment}
use Rattle.net_base.specs.declared.names.StateRef.{StateRef}
use Rattle.net_base.specs.declared.names.Tag.{Tag}
use Rattle.net_base.specs.Reading.{number}
use Rattle.net_base.specs.Forms.{number_at, list8, list8_at, ListWithin}
use Rattle.net_base.specs.Laws.{Laws, done}
use Rattle.net_base.specs.Combining.{mapped_at, mapped_laws, pair_at, pair_laws, iso_laws}
use Rattle.net_base.specs.Fields.{u32_laws, list8_laws}
use Rattle.net_base.specs.Kinds.{kinds_of, cases_at, cases_laws, bare_laws}
use Rattle.net_base.specs.Framing.{ListBetween, list8_between_at, list8_between_laws}
use Rattle.net_base.specs.Values.{IsHash, hash, hash_at, hash_laws, IsParty, party, party_at, party_laws, IsMoment, moment, moment_at, moment_laws}
use Rattle.net_base.specs.Names.{IsStateRef, state_ref, state_ref_at, state_ref_laws, IsTag, tag, tag_at, tag_laws}
use Rattle.ledger_types.specs.declared.torn.TornTx.{TornTx}
use Rattle.ledger_types.specs.declared.notary.Request.{Request}
use Rattle.ledger_types.specs.declared.notary.RefKind.{RefKind}
use Rattle.ledger_types.specs.declared.notary.RefKind.TheVariants.{Input, Reference}
use Rattle.ledger_types.specs.declared.notary.ConflictItem.{ConflictItem}
use Rattle.ledger_types.specs.declared.notary.NotaryAnswer.{NotaryAnswer}
use Rattle.ledger_types.specs.declared.notary.NotaryAnswer.TheVariants.{Signed, WrongNotary, BadTear, BadRequestTag, Conflict, OutsideWindow}
use Rattle.ledger_types.specs.declared.notary.Entry.{Entry}
use Rattle.ledger_types.specs.Torn.{IsTornTx, torn_tx, torn_tx_at, torn_tx_laws}

-- ---- Request: party, u32 flow, TornTx, Tag

-- the limits of a request
abbrev pub IsRequest : Request → Type 0
IsRequest r = IsParty r.party × ((r.flow < 2 ^ 32) × (IsTornTx r.torn × IsTag r.tag))

-- the spelling of a request
abbrev pub request : Request → List ℕ
request r = party r.party ++ (number w32 r.flow ++ (torn_tx r.torn ++ tag r.tag))

-- a request of its fields
abbrev request_of : Party × (ℕ × (TornTx × Tag)) → Request
request_of p = record { party = p.0; flow = p.1.0; torn = p.1.1.0; tag = p.1.1.1 }

-- reading a request
unfoldable pub request_at : List ℕ → Result (Request × List ℕ) ℕ
request_at = mapped_at request_of (pair_at party_at (pair_at (number_at w32) (pair_at torn_tx_at tag_at)))

-- the laws of requests
pub request_laws : Laws IsRequest request request_at
unfolding request_at
request_laws = iso_laws request_of (λ r. (r.party, (r.flow, (r.torn, r.tag)))) (λ _. refl) (λ _. refl) (pair_laws party_laws (pair_laws u32_laws (pair_laws torn_tx_laws tag_laws)))

-- ---- RefKind: u8 0 input or 1 reference

-- the number of a kind of reference
abbrev pub ref_kind_number : RefKind → ℕ
ref_kind_number Input = 0
ref_kind_number Reference = 1

-- each kind of reference is spelt
abbrev pub IsRefKind : RefKind → Type 0
IsRefKind k = Unit {0}

-- the spelling of a kind of reference
abbrev pub ref_kind : RefKind → List ℕ
ref_kind k = ref_kind_number k ∷ []

-- nothing stands behind the number
abbrev no_fields : RefKind → List ℕ
no_fields k = []

-- the input kind
abbrev kind_input : RefKind
kind_input = Input

-- the reference kind
abbrev kind_reference : RefKind
kind_reference = Reference

-- what is read behind each number
abbrev ref_kind_arms : List (ℕ × (List ℕ → Result (RefKind × List ℕ) ℕ))
ref_kind_arms = (0, λ bytes. done (kind_input, bytes)) ∷ (1, λ bytes. done (kind_reference, bytes)) ∷ []

-- reading a kind of reference
unfoldable pub ref_kind_at : List ℕ → Result (RefKind × List ℕ) ℕ
ref_kind_at = cases_at ref_kind_arms

-- 0 is the input kind alone
only_input : (k : RefKind) → IsRefKind k × (ref_kind_number k ≡ 0) → k ≡ kind_input
only_input Input h = refl
only_input Reference h = absurd (omega (arith, h.1))

-- 1 is the reference kind alone
only_reference : (k : RefKind) → IsRefKind k × (ref_kind_number k ≡ 1) → k ≡ kind_reference
only_reference Input h = absurd (omega (arith, h.1))
only_reference Reference h = refl

-- each number is among the arms
ref_kind_covered : (k : RefKind) → (list_any (λ y. nat_eq y (ref_kind_number k)) (kinds_of ref_kind_arms) ≡ true) × (ref_kind k ≡ ref_kind_number k ∷ no_fields k)
ref_kind_covered Input = (refl, refl)
ref_kind_covered Reference = (refl, refl)

-- the laws of kinds of reference
pub ref_kind_laws : Laws IsRefKind ref_kind ref_kind_at
unfolding ref_kind_at
ref_kind_laws =
    cases_laws {kind = ref_kind_number} {body = no_fields} ref_kind_arms 0 refl (λ k h. ref_kind_covered k)
    (bare_laws kind_input (tt, refl) refl only_input, (bare_laws kind_reference (tt, refl) refl only_reference, tt))

-- ---- ConflictItem: StateRef, hash, RefKind

-- the limits of an item of a conflict
abbrev pub IsConflictItem : ConflictItem → Type 0
IsConflictItem i = IsStateRef i.reference × (IsHash i.consumer_hash × IsRefKind i.kind)

-- the spelling of an item of a conflict
abbrev pub conflict_item : ConflictItem → List ℕ
conflict_item i = state_ref i.reference ++ (hash i.consumer_hash ++ ref_kind i.kind)

-- an item of a conflict of its fields
abbrev conflict_item_of : StateRef × (Hash32 × RefKind) → ConflictItem
conflict_item_of p = record { reference = p.0; consumer_hash = p.1.0; kind = p.1.1 }

-- reading an item of a conflict
unfoldable pub conflict_item_at : List ℕ → Result (ConflictItem × List ℕ) ℕ
conflict_item_at = mapped_at conflict_item_of (pair_at state_ref_at (pair_at hash_at ref_kind_at))

-- the laws of items of a conflict
pub conflict_item_laws : Laws IsConflictItem conflict_item conflict_item_at
unfolding conflict_item_at
conflict_item_laws = iso_laws conflict_item_of (λ i. (i.reference, (i.consumer_hash, i.kind))) (λ _. refl) (λ _. refl) (pair_laws state_ref_laws (pair_laws hash_laws ref_kind_laws))

-- ---- NotaryAnswer: u8 0 Signed: Tag; 41; 42; 43; 44 Conflict: list8 ConflictItem (1 to 80); 45 OutsideWindow: u64

-- the limits of an answer
abbrev pub IsNotaryAnswer : NotaryAnswer → Type 0
IsNotaryAnswer (Signed t) = IsTag t
IsNotaryAnswer WrongNotary = Unit {0}
IsNotaryAnswer BadTear = Unit {0}
IsNotaryAnswer BadRequestTag = Unit {0}
IsNotaryAnswer (Conflict list) = ListBetween 1 80 IsConflictItem list
IsNotaryAnswer (OutsideWindow now) = IsMoment now

-- the code of an answer
abbrev pub answer_code : NotaryAnswer → ℕ
answer_code (Signed t) = 0
answer_code WrongNotary = 41
answer_code BadTear = 42
answer_code BadRequestTag = 43
answer_code (Conflict list) = 44
answer_code (OutsideWindow now) = 45

-- what stands behind the code
abbrev pub answer_fields : NotaryAnswer → List ℕ
answer_fields (Signed t) = tag t
answer_fields WrongNotary = []
answer_fields BadTear = []
answer_fields BadRequestTag = []
answer_fields (Conflict list) = list8 conflict_item list
answer_fields (OutsideWindow now) = moment now

-- the spelling of an answer
abbrev pub notary_answer : NotaryAnswer → List ℕ
notary_answer a = answer_code a ∷ answer_fields a

-- an answer with a tag
abbrev signed_of : Tag → NotaryAnswer
signed_of t = Signed t

-- an answer with a conflict
abbrev conflict_of : List ConflictItem → NotaryAnswer
conflict_of list = Conflict list

-- an answer with a moment
abbrev outside_of : Moment → NotaryAnswer
outside_of now = OutsideWindow now

-- an answer without fields
abbrev bare : NotaryAnswer → List ℕ → Result (NotaryAnswer × List ℕ) ℕ
bare a bytes = done (a, bytes)

-- what is read behind each code
abbrev answer_arms : List (ℕ × (List ℕ → Result (NotaryAnswer × List ℕ) ℕ))
answer_arms =
    (0, mapped_at signed_of tag_at)
    ∷ (41, bare WrongNotary)
    ∷ (42, bare BadTear)
    ∷ (43, bare BadRequestTag)
    ∷ (44, mapped_at conflict_of (list8_between_at 1 80 conflict_item_at))
    ∷ (45, mapped_at outside_of moment_at)
    ∷ []

-- reading an answer
unfoldable pub notary_answer_at : List ℕ → Result (NotaryAnswer × List ℕ) ℕ
notary_answer_at = cases_at answer_arms

-- 0 comes with a tag
from_signed : (a : NotaryAnswer) → IsNotaryAnswer a × (answer_code a ≡ 0) → (t : Tag) × (IsTag t × (signed_of t ≡ a))
from_signed (Signed t) h = (t, (h.0, refl))
from_signed other h = absurd (omega (arith, h.1))

-- 44 comes with a conflict
from_conflict : (a : NotaryAnswer) → IsNotaryAnswer a × (answer_code a ≡ 44) → (list : List ConflictItem) × (ListBetween 1 80 IsConflictItem list × (conflict_of list ≡ a))
from_conflict (Conflict list) h = (list, (h.0, refl))
from_conflict other h = absurd (omega (arith, h.1))

-- 45 comes with a moment
from_outside : (a : NotaryAnswer) → IsNotaryAnswer a × (answer_code a ≡ 45) → (now : Moment) × (IsMoment now × (outside_of now ≡ a))
from_outside (OutsideWindow now) h = (now, (h.0, refl))
from_outside other h = absurd (omega (arith, h.1))

-- 41 is one answer alone
only_wrong_notary : (a : NotaryAnswer) → IsNotaryAnswer a × (answer_code a ≡ 41) → a ≡ WrongNotary
only_wrong_notary WrongNotary h = refl
only_wrong_notary other h = absurd (omega (arith, h.1))

-- 42 is one answer alone
only_bad_tear : (a : NotaryAnswer) → IsNotaryAnswer a × (answer_code a ≡ 42) → a ≡ BadTear
only_bad_tear BadTear h = refl
only_bad_tear other h = absurd (omega (arith, h.1))

-- 43 is one answer alone
only_bad_request_tag : (a : NotaryAnswer) → IsNotaryAnswer a × (answer_code a ≡ 43) → a ≡ BadRequestTag
only_bad_request_tag BadRequestTag h = refl
only_bad_request_tag other h = absurd (omega (arith, h.1))

-- each code is among the arms
answer_covered : (a : NotaryAnswer) → (list_any (λ y. nat_eq y (answer_code a)) (kinds_of answer_arms) ≡ true) × (notary_answer a ≡ answer_code a ∷ answer_fields a)
answer_covered (Signed t) = (refl, refl)
answer_covered other = (refl, refl)

-- the laws of answers
pub notary_answer_laws : Laws IsNotaryAnswer notary_answer notary_answer_at
unfolding notary_answer_at
notary_answer_laws =
    cases_laws {kind = answer_code} {body = answer_fields} answer_arms 0 refl (λ a h. answer_covered a) (
      mapped_laws signed_of tag_laws (record { keeps = λ t h. ((h, refl), refl); from = from_signed }),
      (
        bare_laws WrongNotary (tt, refl) refl only_wrong_notary,
        (
          bare_laws BadTear (tt, refl) refl only_bad_tear,
          (
            bare_laws BadRequestTag (tt, refl) refl only_bad_request_tag,
            (
              mapped_laws conflict_of (list8_between_laws 1 80 (omega arith) conflict_item_laws) (record { keeps = λ list h. ((h, refl), refl); from = from_conflict }),
              (
                mapped_laws outside_of moment_laws (record { keeps = λ now h. ((h, refl), refl); from = from_outside }),
                tt,
              ),
            ),
          ),
        ),
      ),
    )

-- ---- Entry: Request, list8 StateRef inputs (64), NotaryAnswer

-- the limits of an entry of a notary's book
abbrev pub IsEntry : Entry → Type 0
IsEntry e = IsRequest e.request × (ListWithin 64 IsStateRef e.inputs × IsNotaryAnswer e.answer)

-- the spelling of an entry
abbrev pub entry : Entry → List ℕ
entry e = request e.request ++ (list8 state_ref e.inputs ++ notary_answer e.answer)

-- an entry of its fields
abbrev entry_of : Request × (List StateRef × NotaryAnswer) → Entry
entry_of p = record { request = p.0; inputs = p.1.0; answer = p.1.1 }

-- reading an entry
unfoldable pub entry_at : List ℕ → Result (Entry × List ℕ) ℕ
entry_at = mapped_at entry_of (pair_at request_at (pair_at (list8_at 64 state_ref_at) notary_answer_at))

-- the laws of entries
pub entry_laws : Laws IsEntry entry entry_at
unfolding entry_at
entry_laws = iso_laws entry_of (λ e. (e.request, (e.inputs, e.answer))) (λ _. refl) (λ _. refl) (pair_laws request_laws (pair_laws (list8_laws 64 state_ref_laws) notary_answer_laws))
