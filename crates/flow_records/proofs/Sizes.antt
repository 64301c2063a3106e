-- How many bytes the record of a flow has at most.
use Rattle.std.proofs.Common.{◌≡◌, ◌≤◌, ℕ, suc, List, ◌∷◌, ◌++◌, length, Option, Some, None, ap, arith}
use Rattle.std.specs.Prelude.{IfSome}
use Rattle.net_base.specs.declared.names.StateRef.{StateRef}
use Rattle.net_base.specs.Names.{IsStateRef, state_ref}
use Rattle.net_base.specs.Values.{hash}
use Rattle.ledger_types.specs.declared.tx.SignedTx.{SignedTx}
use Rattle.ledger_types.specs.declared.notary.Entry.{Entry}
use Rattle.ledger_types.specs.declared.change.LedgerChange.{LedgerChange}
use Rattle.ledger_types.specs.Txs.{IsSignedTx, signed_tx}
use Rattle.ledger_types.specs.Requests.{IsEntry, entry}
use Rattle.std.specs.Int.{w16, w32, w64}
use Rattle.std.proofs.lemmas.List.{length-reverse}
use Rattle.net_base.specs.declared.names.Key.{Key}
use Rattle.net_base.specs.declared.causes.Event.TheVariants as event
use Rattle.net_base.specs.declared.causes.Cause.{Cause}
use Rattle.net_base.specs.Reading.{number}
use Rattle.net_base.specs.Forms.{bytes16, list8, option_of}
use Rattle.net_base.specs.Values.{party, moment}
use Rattle.net_base.specs.Names.{key, token}
use Rattle.net_base.proofs.Lists.{all_reverse}
use Rattle.ledger_types.specs.declared.value.Value.{Value}
use Rattle.ledger_types.specs.Values.{IsValue, value}
use Rattle.ledger_types.proofs.Sizes.{Fits, number16_fits, number32_fits, number64_fits, joined, items_fit, code_fits, tx_fits, signed_fits, request_fits, entry_fits, value_fits}
use Rattle.session_wire.specs.declared.change.SessionChange.{SessionChange}
use Rattle.session_wire.specs.declared.effect.FlowPart.{FlowPart as SpokenPart}
use Rattle.session_wire.specs.declared.effect.FlowPart.TheVariants as part
use Rattle.flow_machine.specs.declared.acts.Act.TheVariants as act
use Rattle.flow_machine.specs.Machine.{Machine}
use Rattle.flow_machine.specs.Flows.{SpellsContent}
use Rattle.flow_machine.specs.Limits.{IsAct, IsStack}
use Rattle.flow_machine.specs.Acts.{act_text}
use Rattle.flow_machine.specs.Checkpoints.{bottom_up, stack_text, IsCheckpoint, checkpoint_text}
use Rattle.transition_record.specs.Causes.{IsEvent, event_text, IsCause, cause_text}
use Rattle.transition_record.specs.Changes.{part_text, session_text, IsLedgerPart, ledger_text}
use Rattle.transition_record.specs.Records.{effect_text, record_text}
use Rattle.flow_records.specs.Steps.{spoken_by}

pub key_short : (k : Key) → length (key k) ≤ 5
key_short k = joined (party k.initiator) (number w32 k.number) 1 4 (omega arith) (number32_fits k.number)

-- ---- causes

event_fits : Fits IsEvent event_text 65544
event_fits (event.Start flow class args) h =
    let words = joined (number w16 (length args)) args 2 65535 (number16_fits (length args)) h.1.1 in
    let parts = joined (number w32 flow) (number w16 class ++ bytes16 args) 4 65539 (number32_fits flow) (joined (number w16 class) (bytes16 args) 2 65537 (number16_fits class) words) in
    omega (arith, parts)
event_fits (event.Answer k) h = let fits = key_short k in omega (arith, fits)
event_fits (event.Arrive k direction n) h =
    let count = number32_fits n in
    let parts = joined (key k) (direction ∷ number w32 n) 5 5 (key_short k) (omega (arith, count)) in
    omega (arith, parts)
event_fits (event.Move flow) h = let fits = number32_fits flow in omega (arith, fits)
event_fits (event.Lapse flow) h = let fits = number32_fits flow in omega (arith, fits)

-- a cause in at most 65,560 bytes
pub cause_fits : Fits IsCause cause_text 65560
cause_fits c h =
    joined (number w64 c.stamp) (moment c.moment ++ event_text c.event) 8 65552 (number64_fits c.stamp) (joined (moment c.moment) (event_text c.event) 8 65544 (number64_fits c.moment.0) (event_fits c.event h.1.1))

-- ---- checkpoints

-- an act over frames of at most 32,770 bytes, in at most 32,771
act_fits : {F : Type 0} (within : F → Type 0) (spelling : F → List ℕ) → Fits within spelling 32770 → Fits (IsAct within) (act_text spelling) 32771
act_fits within spelling frames (act.Open to class first) h =
    let parts = joined (party to) (number w16 class ++ value first) 1 9811 (omega arith) (joined (number w16 class) (value first) 2 9809 (number16_fits class) (value_fits first h.1.1)) in
    omega (arith, parts)
act_fits within spelling frames (act.Send k v) h = let parts = joined (key k) (value v) 5 9809 (key_short k) (value_fits v h.1) in omega (arith, parts)
act_fits within spelling frames (act.Receive k) h = let parts = key_short k in omega (arith, parts)
act_fits within spelling frames (act.ReceiveBy k until) h = let parts = joined (key k) (number w64 until) 5 8 (key_short k) (number64_fits until) in omega (arith, parts)
act_fits within spelling frames (act.Sleep until) h = let parts = number64_fits until in omega (arith, parts)
act_fits within spelling frames (act.Sub frame) h = let parts = frames frame h in omega (arith, parts)
act_fits within spelling frames (act.Verify t) h = let parts = tx_fits t h in omega (arith, parts)
act_fits within spelling frames (act.Reserve t amount) h = let parts = joined (token t) (number w64 amount) 4 8 (joined (party t.issuer) t.code 1 3 (omega arith) (code_fits t.code h.0.1)) (number64_fits amount) in omega (arith, parts)
act_fits within spelling frames (act.Lookup id) h = omega (arith, h)
act_fits within spelling frames (act.Missing t) h = let parts = tx_fits t h in omega (arith, parts)
act_fits within spelling frames (act.Sign id) h = omega (arith, h)
act_fits within spelling frames (act.Notarise r) h = let parts = request_fits r h in omega (arith, parts)
act_fits within spelling frames (act.Record stx) h = let parts = signed_fits stx h in omega (arith, parts)
act_fits within spelling frames (act.Return v) h = let parts = value_fits v h in omega (arith, parts)
act_fits within spelling frames (act.Fail code) h = let parts = number16_fits code in omega (arith, parts)

-- a stack of frames of at most 32,770 bytes, in at most 262,161
stack_fits : {F : Type 0} (within : F → Type 0) (spelling : F → List ℕ) → Fits within spelling 32770 → Fits (IsStack within) (stack_text spelling) 262161
stack_fits within spelling frames s h =
    let all = all_reverse within (s.top ∷ s.below) (h.0, h.1.1) in
    let items = items_fit within spelling 32770 frames (bottom_up s) all in
    let depth : length (bottom_up s) ≡ suc (length s.below) = length-reverse (s.top ∷ s.below) in
    omega (arith, items, depth, h.1.0)

-- a checkpoint over such frames, in at most 294,942
pub checkpoint_fits : {F : Type 0} (within : F → Type 0) (spelling : F → List ℕ) → Fits within spelling 32770 → Fits (IsCheckpoint within) (checkpoint_text spelling) 294942
checkpoint_fits within spelling frames c h =
    joined (number w32 c.flow) _ 4 294938 (number32_fits c.flow)
    (joined (number w32 c.step) _ 4 294934 (number32_fits c.step)
    (joined (number w16 c.class) _ 2 294932 (number16_fits c.class)
    (joined (act_text spelling c.waiting) (stack_text spelling c.stack) 32771 262161 (act_fits within spelling frames c.waiting h.1.1.1.0) (stack_fits within spelling frames c.stack h.1.1.1.1))))

-- ---- flows

-- a frame's bytes, of which there are at most 32,768, behind their length
pub content_fits : {F : Type 0} (within : F → Type 0) (spelling : F → List ℕ) (m : Machine F) → SpellsContent within spelling m → Fits within spelling 32770
content_fits within spelling m frames f h =
    let bytes = joined (number w16 (length (m.content f))) (m.content f) 2 32768 (number16_fits (length (m.content f))) (frames.short f h) in
    omega (arith, bytes, ap length (frames.framed f h))

-- a flow that has ended or failed
pub ended_fits : (number step class : ℕ) (v : Value) → IsValue v → length (part_text (part.Ended number step class v)) ≤ 300000
ended_fits flow step class v h =
    let parts = joined (number w32 flow) _ 4 9815 (number32_fits flow) (joined (number w32 step) _ 4 9811 (number32_fits step) (joined (number w16 class) (value v) 2 9809 (number16_fits class) (value_fits v h))) in
    omega (arith, parts)

pub failed_fits : (number step class code : ℕ) → length (part_text (part.Failed number step class code)) ≤ 300000
failed_fits flow step class code =
    let parts = joined (number w32 flow) _ 4 8 (number32_fits flow) (joined (number w32 step) _ 4 4 (number32_fits step) (joined (number w16 class) (number w16 code) 2 2 (number16_fits class) (number16_fits code))) in
    omega (arith, parts)

-- ---- records

-- what changes of the ledger: at most 6,060 bytes of what is recorded, 9,181 of what is locked, 17,574 of what is booked
recorded_fits : (o : Option SignedTx) → IfSome o IsSignedTx → length (option_of signed_tx o) ≤ 6060
recorded_fits None h = omega arith
recorded_fits (Some x) h = let n = signed_fits x h in omega (arith, n)

booked_fits : (o : Option Entry) → IfSome o IsEntry → length (option_of entry o) ≤ 17574
booked_fits None h = omega arith
booked_fits (Some x) h = let n = entry_fits x h in omega (arith, n)

ref_fits : (r : StateRef) → IsStateRef r → length (state_ref r) ≤ 36
ref_fits r h = let id : length r.id.0 ≡ 32 = h.0 in joined (hash r.id) (number w32 r.index) 32 4 (omega (arith, id)) (number32_fits r.index)

pub ledger_fits : (l : LedgerChange) → IsLedgerPart l → length (ledger_text l) ≤ 32815
ledger_fits l h =
    let refs = items_fit IsStateRef state_ref 36 ref_fits l.locked h.1.0.1 in
    let few = h.1.0.0 in
    let locked : length (list8 state_ref l.locked) ≤ 9181 = omega (arith, refs, few) in
    let rest = joined (list8 state_ref l.locked) (option_of entry l.booked) 9181 17574 locked (booked_fits l.booked h.1.1) in
    let all = joined (option_of signed_tx l.recorded) (list8 state_ref l.locked ++ option_of entry l.booked) 6060 26755 (recorded_fits l.recorded h.0) rest in
    omega (arith, all)

-- a record is short where what is spelt of the flow and of the sessions is: 65,560 + 300,000 + 50,000 + 32,815 = 448,375
pub spoken_fits : (c : Cause) (p : SpokenPart) (s : SessionChange) (l : LedgerChange) → IsCause c → IsLedgerPart l → length (part_text p) ≤ 300000 → length (session_text s) ≤ 50000 → length (record_text c (spoken_by p s l)) ≤ 524288
spoken_fits c p s l h hl short few =
    let e = spoken_by p s l in
    let rest = joined (session_text s) (ledger_text l) 50000 32815 few (ledger_fits l hl) in
    let effect = joined (part_text p) (session_text s ++ ledger_text l) 300000 82815 short rest in
    let all = joined (cause_text c) (effect_text e) 65560 382815 (cause_fits c h) effect in
    omega (arith, all)
