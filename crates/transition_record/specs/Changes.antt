-- The spelling of what a transition changes: of a flow, of sessions, of the ledger.
use Rattle.std.proofs.Common.{◌≡◌, ◌<◌, ◌^◌, ℕ, Bool, true, false, List, [], ◌∷◌, ◌++◌, Option, Result, Ok, Err, refl, sym, ap, arith}
use Rattle.std.specs.Prelude.{nat_eq, IfSome}
use Rattle.std.specs.List.{list_any}
use Rattle.std.specs.Int.{w16, w32}
use Rattle.net_base.specs.declared.names.Key.{Key}
use Rattle.net_base.specs.declared.names.StateRef.{StateRef}
use Rattle.net_base.specs.declared.values.Party.{Party}
use Rattle.net_base.specs.Reading.{number}
use Rattle.net_base.specs.Forms.{byte_at, number_at, option_at, option_of, list8_at, list8, ListWithin}
use Rattle.net_base.specs.Laws.{Laws, done}
use Rattle.net_base.specs.Combining.{mapped_at, mapped_laws, pair_at, pair_laws, iso_laws}
use Rattle.net_base.specs.Fields.{byte_laws, u16_laws, u32_laws, option_laws, list8_laws}
use Rattle.net_base.specs.Kinds.{kinds_of, cases_at, cases_laws, bare_laws}
use Rattle.net_base.specs.Values.{IsParty, party, party_at, party_laws}
use Rattle.net_base.specs.Names.{IsKey, key, key_at, key_laws, IsStateRef, state_ref, state_ref_at, state_ref_laws}
use Rattle.ledger_types.specs.declared.value.Value.{Value}
use Rattle.ledger_types.specs.declared.tx.SignedTx.{SignedTx}
use Rattle.ledger_types.specs.declared.notary.Entry.{Entry}
use Rattle.ledger_types.specs.declared.change.LedgerChange.{LedgerChange}
use Rattle.ledger_types.specs.Txs.{IsSignedTx, signed_tx, signed_tx_at, signed_tx_laws}
use Rattle.ledger_types.specs.Requests.{IsEntry, entry, entry_at, entry_laws}
use Rattle.ledger_types.specs.Values.{IsValue, value, value_at, value_laws}
use Rattle.session_wire.specs.declared.body.Body.{Body}
use Rattle.session_wire.specs.declared.change.SentItem.{SentItem}
use Rattle.session_wire.specs.declared.change.SessionChange.{SessionChange}
use Rattle.session_wire.specs.declared.effect.FlowPart.{FlowPart}
use Rattle.session_wire.specs.declared.effect.FlowPart.TheVariants as part
use Rattle.session_wire.specs.Bodies.{IsBody, body_text, any_body_at, any_body_laws}
use Rattle.flow_machine.specs.declared.act_spelling.FrameBytes.{FrameBytes}
use Rattle.flow_machine.specs.declared.flows.Checkpoint.{Checkpoint}
use Rattle.flow_machine.specs.Acts.{IsFrameBytes, frame_bytes, frame_bytes_at, frame_bytes_laws}
use Rattle.flow_machine.specs.Checkpoints.{IsCheckpoint, checkpoint_text, checkpoint_at, checkpoint_laws}

-- ---- the flow: u8 kind; 0 none; 1 live: a checkpoint; 2 ended: u32 flow, u32 step, u16 class, Value; 3 failed: u32 flow, u32 step, u16 class, u16 code

-- some checkpoint's bytes, whatever flow set its frames belong to
abbrev pub IsCheckpointText : List ℕ → Type 0
IsCheckpointText bytes = (c : Checkpoint FrameBytes) × (IsCheckpoint IsFrameBytes c × (bytes ≡ checkpoint_text frame_bytes c))

-- the limits of what becomes of a flow
abbrev pub IsFlowPart : FlowPart → Type 0
IsFlowPart part.Absent = Unit {0}
IsFlowPart (part.Live checkpoint) = IsCheckpointText checkpoint
IsFlowPart (part.Ended flow step class v) = (flow < 2 ^ 32) × ((step < 2 ^ 32) × ((class < 2 ^ 16) × IsValue v))
IsFlowPart (part.Failed flow step class code) = (flow < 2 ^ 32) × ((step < 2 ^ 32) × ((class < 2 ^ 16) × (code < 2 ^ 16)))

-- the byte of kind
abbrev pub part_kind : FlowPart → ℕ
part_kind part.Absent = 0
part_kind (part.Live checkpoint) = 1
part_kind (part.Ended flow step class v) = 2
part_kind (part.Failed flow step class code) = 3

-- what stands behind the kind
abbrev pub part_fields : FlowPart → List ℕ
part_fields part.Absent = []
part_fields (part.Live checkpoint) = checkpoint
part_fields (part.Ended flow step class v) = number w32 flow ++ (number w32 step ++ (number w16 class ++ value v))
part_fields (part.Failed flow step class code) = number w32 flow ++ (number w32 step ++ (number w16 class ++ number w16 code))

-- the spelling of what becomes of a flow
abbrev pub part_text : FlowPart → List ℕ
part_text p = part_kind p ∷ part_fields p

-- the number that was read, 0 where none could be
abbrev pub number_read : Result (ℕ × List ℕ) ℕ → ℕ
number_read (Ok x) = x.0
number_read (Err n) = 0

-- the flow's number with which a checkpoint begins
abbrev pub checkpoint_flow : List ℕ → ℕ
checkpoint_flow bytes = number_read (number_at w32 bytes)

-- the number of the flow of which a record tells, 0 where it tells of none
abbrev pub part_flow : FlowPart → ℕ
part_flow part.Absent = 0
part_flow (part.Live checkpoint) = checkpoint_flow checkpoint
part_flow (part.Ended flow step class v) = flow
part_flow (part.Failed flow step class code) = flow

-- whether that flow is over
abbrev pub part_over : FlowPart → Bool
part_over part.Absent = false
part_over (part.Live checkpoint) = false
part_over (part.Ended flow step class v) = true
part_over (part.Failed flow step class code) = true

-- a checkpoint begins with its flow's number
pub checkpoint_flow_is : {F : Type 0} (frame_text : F → List ℕ) (c : Checkpoint F) → c.flow < 2 ^ 32 → checkpoint_flow (checkpoint_text frame_text c) ≡ c.flow
checkpoint_flow_is frame_text c small = ap number_read (u32_laws.again c.flow _ small)

-- the bytes of a checkpoint
abbrev pub bytes_of : Checkpoint FrameBytes → List ℕ
bytes_of c = checkpoint_text frame_bytes c

-- reading a checkpoint, for its bytes
unfoldable pub checkpoint_bytes_at : List ℕ → Result (List ℕ × List ℕ) ℕ
checkpoint_bytes_at = mapped_at bytes_of (checkpoint_at frame_bytes_at)

-- the laws of a checkpoint's bytes
pub checkpoint_bytes_laws : Laws IsCheckpointText (λ (b : List ℕ). b) checkpoint_bytes_at
unfolding checkpoint_bytes_at
checkpoint_bytes_laws = mapped_laws bytes_of (checkpoint_laws frame_bytes_laws) (record { keeps = λ c h. ((c, (h, refl)), refl); from = λ b h. (h.0, (h.1.0, sym h.1.1)) })

-- flow parts of their fields
abbrev absent_of : FlowPart
absent_of = part.Absent

abbrev live_of : List ℕ → FlowPart
live_of checkpoint = part.Live checkpoint

abbrev ended_of : ℕ × (ℕ × (ℕ × Value)) → FlowPart
ended_of p = part.Ended p.0 p.1.0 p.1.1.0 p.1.1.1

abbrev failed_of : ℕ × (ℕ × (ℕ × ℕ)) → FlowPart
failed_of p = part.Failed p.0 p.1.0 p.1.1.0 p.1.1.1

-- what is read behind each kind
abbrev part_arms : List (ℕ × (List ℕ → Result (FlowPart × List ℕ) ℕ))
part_arms =
    (0, λ bytes. done (absent_of, bytes))
    ∷ (1, mapped_at live_of checkpoint_bytes_at)
    ∷ (2, mapped_at ended_of (pair_at (number_at w32) (pair_at (number_at w32) (pair_at (number_at w16) value_at))))
    ∷ (3, mapped_at failed_of (pair_at (number_at w32) (pair_at (number_at w32) (pair_at (number_at w16) (number_at w16)))))
    ∷ []

-- reading what becomes of a flow
unfoldable pub part_at : List ℕ → Result (FlowPart × List ℕ) ℕ
part_at = cases_at part_arms

-- the fields of a flow part of each kind
only_absent : (p : FlowPart) → IsFlowPart p × (part_kind p ≡ 0) → p ≡ absent_of
only_absent part.Absent h = refl
only_absent other h = absurd (omega (arith, h.1))

from_live : (p : FlowPart) → IsFlowPart p × (part_kind p ≡ 1) → (b : List ℕ) × (IsCheckpointText b × (live_of b ≡ p))
from_live (part.Live checkpoint) h = (checkpoint, (h.0, refl))
from_live other h = absurd (omega (arith, h.1))

from_ended : (p : FlowPart) → IsFlowPart p × (part_kind p ≡ 2) → (x : ℕ × (ℕ × (ℕ × Value))) × (((x.0 < 2 ^ 32) × ((x.1.0 < 2 ^ 32) × ((x.1.1.0 < 2 ^ 16) × IsValue x.1.1.1))) × (ended_of x ≡ p))
from_ended (part.Ended flow step class v) h = ((flow, (step, (class, v))), (h.0, refl))
from_ended other h = absurd (omega (arith, h.1))

from_failed : (p : FlowPart) → IsFlowPart p × (part_kind p ≡ 3) → (x : ℕ × (ℕ × (ℕ × ℕ))) × (((x.0 < 2 ^ 32) × ((x.1.0 < 2 ^ 32) × ((x.1.1.0 < 2 ^ 16) × (x.1.1.1 < 2 ^ 16)))) × (failed_of x ≡ p))
from_failed (part.Failed flow step class code) h = ((flow, (step, (class, code))), (h.0, refl))
from_failed other h = absurd (omega (arith, h.1))

-- each kind is among the arms
part_covered : (p : FlowPart) → (list_any (λ y. nat_eq y (part_kind p)) (kinds_of part_arms) ≡ true) × (part_text p ≡ part_kind p ∷ part_fields p)
part_covered part.Absent = (refl, refl)
part_covered other = (refl, refl)

-- the laws of what becomes of a flow
pub part_laws : Laws IsFlowPart part_text part_at
unfolding part_at
part_laws =
    cases_laws {kind = part_kind} {body = part_fields} part_arms 0 refl (λ p h. part_covered p) (
      bare_laws absent_of (tt, refl) refl only_absent,
      (
        mapped_laws live_of checkpoint_bytes_laws (record { keeps = λ b h. ((h, refl), refl); from = from_live }),
        (
          mapped_laws ended_of (pair_laws u32_laws (pair_laws u32_laws (pair_laws u16_laws value_laws))) (record { keeps = λ x h. ((h, refl), refl); from = from_ended }),
          (
            mapped_laws failed_of (pair_laws u32_laws (pair_laws u32_laws (pair_laws u16_laws u16_laws))) (record { keeps = λ x h. ((h, refl), refl); from = from_failed }),
            tt,
          ),
        ),
      ),
    )

-- ---- an item that is sent: Key, u8 direction, u32 seq, Body

-- the limits of an item that is sent
abbrev pub IsSentItem : SentItem → Type 0
IsSentItem s = IsKey s.key × ((s.direction < 256) × ((s.seq < 2 ^ 32) × IsBody s.body))

-- the spelling of an item that is sent
abbrev pub sent_item : SentItem → List ℕ
sent_item s = key s.key ++ (s.direction ∷ (number w32 s.seq ++ body_text s.body))

-- an item of its fields
abbrev sent_item_of : Key × (ℕ × (ℕ × Body)) → SentItem
sent_item_of p = record { key = p.0; direction = p.1.0; seq = p.1.1.0; body = p.1.1.1 }

-- reading an item that is sent
unfoldable pub sent_item_at : List ℕ → Result (SentItem × List ℕ) ℕ
sent_item_at = mapped_at sent_item_of (pair_at key_at (pair_at byte_at (pair_at (number_at w32) any_body_at)))

-- the laws of items that are sent
pub sent_item_laws : Laws IsSentItem sent_item sent_item_at
unfolding sent_item_at
sent_item_laws = iso_laws sent_item_of (λ s. (s.key, (s.direction, (s.seq, s.body)))) (λ _. refl) (λ _. refl) (pair_laws key_laws (pair_laws byte_laws (pair_laws u32_laws any_body_laws)))

-- ---- the sessions: option of Key and party for an opened one; list8 of sent items; option Body, the accepted item; option of Key and u32 for the taken ones

-- the limits of a session and its other side
abbrev pub IsOpened : Key × Party → Type 0
IsOpened p = IsKey p.0 × IsParty p.1

-- the spelling of a session and its other side
abbrev pub opened_text : Key × Party → List ℕ
opened_text p = key p.0 ++ party p.1

-- the limits of a session and how many of its items are taken
abbrev pub IsTaken : Key × ℕ → Type 0
IsTaken p = IsKey p.0 × (p.1 < 2 ^ 32)

-- the spelling of a session and how many of its items are taken
abbrev pub taken_text : Key × ℕ → List ℕ
taken_text p = key p.0 ++ number w32 p.1

-- the limits of what is spelt of a change of sessions
abbrev pub IsSessionPart : SessionChange → Type 0
IsSessionPart s = IfSome s.opened IsOpened × (ListWithin 255 IsSentItem s.sent × (IfSome s.came IsBody × IfSome s.taken IsTaken))

-- the spelling of a change of sessions
abbrev pub session_text : SessionChange → List ℕ
session_text s = option_of opened_text s.opened ++ (list8 sent_item s.sent ++ (option_of body_text s.came ++ option_of taken_text s.taken))

-- a change of sessions with this owner and this session of the accepted item, which aren't spelt
abbrev pub IsSession : ℕ → Option Key → SessionChange → Type 0
IsSession owner came_key s = IsSessionPart s × ((s.owner ≡ owner) × (s.came_key ≡ came_key))

-- a change of sessions of its parts
abbrev session_of : ℕ → Option Key → Option (Key × Party) × (List SentItem × (Option Body × Option (Key × ℕ))) → SessionChange
session_of owner came_key p = record { opened = p.0; owner = owner; sent = p.1.0; came = p.1.1.0; came_key = came_key; taken = p.1.1.1 }

-- reading a change of sessions
unfoldable pub session_at : ℕ → Option Key → List ℕ → Result (SessionChange × List ℕ) ℕ
session_at owner came_key =
    mapped_at (session_of owner came_key) (pair_at (option_at (pair_at key_at party_at)) (pair_at (list8_at 255 sent_item_at) (pair_at (option_at any_body_at) (option_at (pair_at key_at (number_at w32))))))

-- the laws of changes of sessions
pub session_laws : (owner : ℕ) (came_key : Option Key) → Laws (IsSession owner came_key) session_text (session_at owner came_key)
unfolding session_at
session_laws owner came_key =
    mapped_laws (session_of owner came_key) (pair_laws (option_laws (pair_laws key_laws party_laws)) (pair_laws (list8_laws 255 sent_item_laws) (pair_laws (option_laws any_body_laws) (option_laws (pair_laws key_laws u32_laws))))) (record {
      keeps = λ p h. ((h, (refl, refl)), refl);
      from = λ s h.
          ((s.opened, (s.sent, (s.came, s.taken))), (h.0, λ i. record { opened = s.opened; owner = sym h.1.0 i; sent = s.sent; came = s.came; came_key = sym h.1.1 i; taken = s.taken }));
    })

-- ---- the ledger: option SignedTx recorded; list8 StateRef locked; option Entry booked

-- the limits of what is spelt of a change of the ledger
abbrev pub IsLedgerPart : LedgerChange → Type 0
IsLedgerPart l = IfSome l.recorded IsSignedTx × (ListWithin 255 IsStateRef l.locked × IfSome l.booked IsEntry)

-- the spelling of a change of the ledger
abbrev pub ledger_text : LedgerChange → List ℕ
ledger_text l = option_of signed_tx l.recorded ++ (list8 state_ref l.locked ++ option_of entry l.booked)

-- a change of the ledger by this flow, which ends with it or not: neither is spelt
abbrev pub IsLedger : ℕ → Bool → LedgerChange → Type 0
IsLedger owner ended l = IsLedgerPart l × ((l.owner ≡ owner) × (l.ended ≡ ended))

-- a change of the ledger of its parts
abbrev ledger_of : ℕ → Bool → Option SignedTx × (List StateRef × Option Entry) → LedgerChange
ledger_of owner ended p = record { recorded = p.0; locked = p.1.0; owner = owner; ended = ended; booked = p.1.1 }

-- reading a change of the ledger
unfoldable pub ledger_at : ℕ → Bool → List ℕ → Result (LedgerChange × List ℕ) ℕ
ledger_at owner ended = mapped_at (ledger_of owner ended) (pair_at (option_at signed_tx_at) (pair_at (list8_at 255 state_ref_at) (option_at entry_at)))

-- the laws of changes of the ledger
pub ledger_laws : (owner : ℕ) (ended : Bool) → Laws (IsLedger owner ended) ledger_text (ledger_at owner ended)
unfolding ledger_at
ledger_laws owner ended =
    mapped_laws (ledger_of owner ended) (pair_laws (option_laws signed_tx_laws) (pair_laws (list8_laws 255 state_ref_laws) (option_laws entry_laws))) (record {
      keeps = λ p h. ((h, (refl, refl)), refl);
      from = λ l h. ((l.recorded, (l.locked, l.booked)), (h.0, λ i. record { recorded = l.recorded; locked = l.locked; owner = sym h.1.0 i; ended = sym h.1.1 i; booked = l.booked }));
    })
