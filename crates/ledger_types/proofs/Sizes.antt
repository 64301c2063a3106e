-- How many bytes the spellings of transactions, requests, answers, entries and values have at most.
use Rattle.std.proofs.Common.{◌≡◌, ◌+◌, ◌*◌, ◌<◌, ◌≤◌, ℕ, zero, suc, List, [], ◌∷◌, ◌++◌, length, Option, Some, None, Result, Ok, Err, ap, ◌∙◌, length-append, add_comm, arith}
use Rattle.std.specs.Prelude.{IfSome}
use Rattle.std.specs.List.{flat_map, AllByRecursion}
use Rattle.std.specs.Int.{w16, w32, w64}
use Rattle.std.proofs.lemmas.List.Concat.{flat_map-cons}
use Rattle.std.proofs.Math.Nat.{suc-mul, mul-le-mul_right}
use Rattle.net_base.specs.declared.names.Tag.{Tag}
use Rattle.net_base.specs.Reading.{number, Puts}
use Rattle.net_base.specs.Forms.{list8, bytes16, option_of, ListWithin}
use Rattle.net_base.specs.Fields.{wide16, wide32, wide64}
use Rattle.net_base.specs.Values.{IsHash, hash, IsParty, party, IsMoment, moment}
use Rattle.net_base.specs.Names.{IsStateRef, state_ref, IsTag, tag, IsCode, IsToken, token}
use Rattle.net_base.specs.Parties.{IsPartySet, party_set, members_is, few_members}
use Rattle.ledger_types.specs.declared.state.StateData.TheVariants.{Cash, TimeLock, Fact, Iou}
use Rattle.ledger_types.specs.declared.tx.Deed.TheVariants.{CashIssue, CashExit}
use Rattle.ledger_types.specs.declared.torn.TornGroup.{TornGroup}
use Rattle.ledger_types.specs.declared.torn.TornGroup.TheVariants.{Hidden, Shown}
use Rattle.ledger_types.specs.declared.notary.NotaryAnswer.TheVariants.{Signed, Conflict, OutsideWindow}
use Rattle.ledger_types.specs.declared.value.Value.TheVariants as v
use Rattle.ledger_types.specs.States.{IsStateData, state_data, IsTxState, tx_state}
use Rattle.ledger_types.specs.Txs.{IsDeed, deed, IsCommand, command, IsWindow, window, IsTx, tx, IsTagList, IsSignedTx, signed_tx}
use Rattle.ledger_types.specs.Torn.{IsTornPart, torn_part, IsTornGroup, shown_of, torn_group, shown_in, IsTornTx, torn_tx}
use Rattle.ledger_types.specs.Requests.{IsRequest, request, IsConflictItem, conflict_item, IsNotaryAnswer, notary_answer, IsEntry, entry}
use Rattle.ledger_types.specs.Values.{IsValue, value}

-- spellings within the limits have at most this number of bytes
abbrev pub Fits : {V : Type 0} → (V → Type 0) → (V → List ℕ) → ℕ → Type 0
Fits {V} within spelling limit = (v : V) → within v → length (spelling v) ≤ limit

-- the bytes of numbers
length-number16 : (n : ℕ) → length (number w16 n) ≡ 2
unfolding number
length-number16 n = wide16.len n

pub length-number32 : (n : ℕ) → length (number w32 n) ≡ 4
unfolding number
length-number32 n = wide32.len n

pub length-number64 : (n : ℕ) → length (number w64 n) ≡ 8
unfolding number
length-number64 n = wide64.len n

-- as bounds
pub number16_fits : (n : ℕ) → length (number w16 n) ≤ 2
number16_fits n = omega (arith, length-number16 n)

pub number32_fits : (n : ℕ) → length (number w32 n) ≤ 4
number32_fits n = omega (arith, length-number32 n)

pub number64_fits : (n : ℕ) → length (number w64 n) ≤ 8
number64_fits n = omega (arith, length-number64 n)

-- items of at most n bytes
pub items_fit : {V : Type 0} (within : V → Type 0) (spelling : V → List ℕ) (n : ℕ) → Fits within spelling n → (vs : List V) → AllByRecursion within vs → length (flat_map spelling vs) ≤ length vs * n
items_fit within spelling n fits [] all = omega arith
items_fit within spelling n fits (v ∷ vs) all =
    let rest = items_fit within spelling n fits vs all.1 in
    let one = fits v all.0 in
    let parts = ap length (flat_map-cons spelling v vs) in
    let both = length-append (spelling v) (flat_map spelling vs) in
    let product : length (v ∷ vs) * n ≡ n + length vs * n = suc-mul (length vs) n ∙ add_comm (length vs * n) n in
    omega (arith, rest, one, parts, both, product)

-- a list of at most this number of items
list_fits : {V : Type 0} (within : V → Type 0) (spelling : V → List ℕ) (n limit : ℕ) → Fits within spelling n → Fits (ListWithin limit within) (list8 spelling) (1 + limit * n)
list_fits within spelling n limit fits vs h =
    let items = items_fit within spelling n fits vs h.1 in
    let few : length vs * n ≤ limit * n = mul-le-mul_right n h.0 in
    omega (arith, items, few)

-- a value that may lack
option_fits : {V : Type 0} (within : V → Type 0) (spelling : V → List ℕ) (n : ℕ) → Fits within spelling n → Fits (λ (o : Option V). IfSome o within) (option_of spelling) (1 + n)
option_fits within spelling n fits None h = omega arith
option_fits within spelling n fits (Some v) h = omega (arith, fits v h)

-- two parts, one behind the other
pub joined : (a b : List ℕ) (m n : ℕ) → length a ≤ m → length b ≤ n → length (a ++ b) ≤ m + n
joined a b m n ha hb = omega (arith, length-append a b, ha, hb)

-- what was put, or nothing, is as short as its bytes
pub put_fits : {U E : Type 0} (bytes old new : List ℕ) (result : Result U E) (n : ℕ) → Puts bytes result old new → length bytes ≤ n → length new ≤ length old + n
put_fits bytes old new (Ok done) n puts few = omega (arith, ap length puts, length-append old bytes, few)
put_fits bytes old new (Err e) n puts few = omega (arith, ap length puts)

hash_fits : Fits IsHash hash 32
hash_fits h is = omega (arith, is)

party_fits : Fits IsParty party 1
party_fits p is = omega arith

ref_fits : Fits IsStateRef state_ref 36
ref_fits r h = joined (hash r.id) (number w32 r.index) 32 4 (hash_fits r.id h.0) (number32_fits r.index)

tag_fits : Fits IsTag tag 65
tag_fits t h = joined (party t.by) (hash t.of ++ hash t.mark) 1 64 (party_fits t.by h.0) (joined (hash t.of) (hash t.mark) 32 32 (hash_fits t.of h.1.0) (hash_fits t.mark h.1.1))

pub code_fits : (code : List ℕ) → IsCode code → length code ≤ 3
code_fits (a ∷ b ∷ c ∷ []) h = omega arith
code_fits other h = absurd h

token_fits : Fits IsToken token 4
token_fits t h = joined (party t.issuer) t.code 1 3 (party_fits t.issuer h.0) (code_fits t.code h.1)

moment_fits : Fits IsMoment moment 8
moment_fits m h = number64_fits m.0

state_data_fits : Fits IsStateData state_data 18
state_data_fits (Cash t amount owner) h = let parts = joined (token t) (number w64 amount ++ party owner) 4 9 (token_fits t h.0) (joined (number w64 amount) (party owner) 8 1 (number64_fits amount) (omega arith)) in omega (arith, parts)
state_data_fits (TimeLock owner until) h = let parts = joined (party owner) (moment until) 1 8 (omega arith) (number64_fits until.0) in omega (arith, parts)
state_data_fits (Fact issuer name value) h = let parts = joined (party issuer) (number w64 name ++ number w64 value) 1 16 (omega arith) (joined (number w64 name) (number w64 value) 8 8 (number64_fits name) (number64_fits value)) in omega (arith, parts)
state_data_fits (Iou lender borrower t amount) h = let parts = joined (party lender) (party borrower ++ (token t ++ number w64 amount)) 1 13 (omega arith) (joined (party borrower) (token t ++ number w64 amount) 1 12 (omega arith) (joined (token t) (number w64 amount) 4 8 (token_fits t h.1.1.0) (number64_fits amount))) in omega (arith, parts)

byte_fits : Fits (λ (n : ℕ). n < 256) (λ (n : ℕ). n ∷ []) 1
byte_fits n h = omega arith

tx_state_fits : Fits IsTxState tx_state 21
tx_state_fits s h =
    joined (state_data s.body) (party s.notary ++ option_of (λ n. n ∷ []) s.encumbrance) 18 3 (state_data_fits s.body h.0)
    (joined (party s.notary) (option_of (λ n. n ∷ []) s.encumbrance) 1 2 (omega arith) (option_fits (λ (n : ℕ). n < 256) (λ n. n ∷ []) 1 byte_fits s.encumbrance h.1.1))

deed_fits : Fits IsDeed deed 13
deed_fits (CashIssue t amount) h = let parts = joined (token t) (number w64 amount) 4 8 (token_fits t h.0) (number64_fits amount) in omega (arith, parts)
deed_fits (CashExit t amount) h = let parts = joined (token t) (number w64 amount) 4 8 (token_fits t h.0) (number64_fits amount) in omega (arith, parts)
deed_fits other h = omega arith

set_fits : Fits IsPartySet party_set 17
unfolding party_set
set_fits s h = omega (arith, ap length (members_is s), few_members 0 16 s.0)

command_fits : Fits IsCommand command 30
command_fits c h = joined (deed c.deed) (party_set c.signers) 13 17 (deed_fits c.deed h.0) (set_fits c.signers h.1)

window_fits : Fits IsWindow window 18
window_fits w h = joined (option_of moment w.from) (option_of moment w.until) 9 9 (option_fits IsMoment moment 8 moment_fits w.from h.0) (option_fits IsMoment moment 8 moment_fits w.until h.1)

-- a transaction is spelt in at most 5,018 bytes
pub tx_fits : Fits IsTx tx 5018
tx_fits t h =
    let references = list_fits IsStateRef state_ref 36 16 ref_fits t.references h.1.1.1.1.1.1.1 in
    let its_window = option_fits IsWindow window 18 window_fits t.window h.1.1.1.1.1.1.0 in
    let notary = option_fits IsParty party 1 party_fits t.notary h.1.1.1.1.1.0 in
    let attachments = list_fits IsHash hash 32 8 hash_fits t.attachments h.1.1.1.1.0 in
    let commands = list_fits IsCommand command 30 16 command_fits t.commands h.1.1.1.0 in
    let outputs = list_fits IsTxState tx_state 21 64 tx_state_fits t.outputs h.1.1.0 in
    let inputs = list_fits IsStateRef state_ref 36 64 ref_fits t.inputs h.1.0 in
    joined (hash t.salt) _ 32 4986 (hash_fits t.salt h.0)
    (joined (list8 state_ref t.inputs) _ 2305 2681 inputs
    (joined (list8 tx_state t.outputs) _ 1345 1336 outputs
    (joined (list8 command t.commands) _ 481 855 commands
    (joined (list8 hash t.attachments) _ 257 598 attachments
    (joined (option_of party t.notary) _ 2 596 notary
    (joined (option_of window t.window) (list8 state_ref t.references) 19 577 its_window references))))))

-- tags in at most 1,041 bytes
tags_fit : Fits IsTagList (λ (tags : List Tag). list8 tag tags) 1041
tags_fit tags h = list_fits IsTag tag 65 16 tag_fits tags (h.0, h.1.0)

-- with 16 tags in at most 6,059
pub signed_fits : Fits IsSignedTx signed_tx 6059
signed_fits s h = joined (tx s.tx) (list8 tag s.tags) 5018 1041 (tx_fits s.tx h.0) (tags_fit s.tags h.1)

part_fits : Fits IsTornPart torn_part 98
part_fits p h =
    let bytes = joined (number w16 (length p.bytes)) p.bytes 2 64 (number16_fits (length p.bytes)) h.1 in
    joined (hash p.nonce) (bytes16 p.bytes) 32 66 (hash_fits p.nonce h.0) bytes

-- whether a group shows its parts, as a number
abbrev is_shown : TornGroup → ℕ
is_shown (Hidden root) = 0
is_shown (Shown parts) = 1

-- how many groups show their parts
abbrev count_shown : List TornGroup → ℕ
count_shown [] = 0
count_shown (g ∷ gs) = is_shown g + count_shown gs

-- a group that shows its parts has 2 bytes beside them, a hidden one 33
group_fits : (g : TornGroup) → IsTornGroup g → (length (torn_group g) + is_shown g * 31 ≤ 33 + shown_of g * 98) × (shown_of g ≤ is_shown g * 64)
group_fits (Hidden root) h = let fits = hash_fits root h in (omega (arith, fits), omega arith)
group_fits (Shown parts) h = let items = items_fit IsTornPart torn_part 98 part_fits parts h.1 in (omega (arith, items), omega (arith, h.0))

groups_fit : (gs : List TornGroup) → AllByRecursion IsTornGroup gs → (length (flat_map torn_group gs) + count_shown gs * 31 ≤ length gs * 33 + shown_in gs * 98) × (shown_in gs ≤ count_shown gs * 64)
groups_fit [] all = (omega arith, omega arith)
groups_fit (g ∷ gs) all =
    let rest = groups_fit gs all.1 in
    let one = group_fits g all.0 in
    let parts = ap length (flat_map-cons torn_group g gs) in
    let both = length-append (torn_group g) (flat_map torn_group gs) in
    (omega (arith, rest.0, one.0, parts, both), omega (arith, rest.1, one.1))

-- at most 9 groups with 96 parts: where all 96 are shown, two groups show them
most_shown : (bytes groups parts k : ℕ) → bytes + k * 31 ≤ groups * 33 + parts * 98 → parts ≤ k * 64 → groups ≤ 9 → parts ≤ 96 → bytes ≤ 9643
most_shown bytes groups parts zero all each few some = omega (arith, all, each, few, some)
most_shown bytes groups parts (suc zero) all each few some = omega (arith, all, each, few, some)
most_shown bytes groups parts (suc (suc k)) all each few some = omega (arith, all, few, some)

-- a transaction of which not all is shown in at most 9,676
pub torn_fits : Fits IsTornTx torn_tx 9676
torn_fits t h =
    let groups = groups_fit t.groups h.1.0.1 in
    let bytes = most_shown (length (flat_map torn_group t.groups)) (length t.groups) (shown_in t.groups) (count_shown t.groups) groups.0 groups.1 h.1.0.0 h.1.1 in
    joined (hash t.id) (list8 torn_group t.groups) 32 9644 (hash_fits t.id h.0) (omega (arith, bytes))

-- a request in at most 9,746
pub request_fits : Fits IsRequest request 9746
request_fits r h =
    joined (party r.party) _ 1 9745 (party_fits r.party h.0)
    (joined (number w32 r.flow) _ 4 9741 (number32_fits r.flow)
    (joined (torn_tx r.torn) (tag r.tag) 9676 65 (torn_fits r.torn h.1.1.0) (tag_fits r.tag h.1.1.1)))

-- an item of a conflict in 69
conflict_item_fits : Fits IsConflictItem conflict_item 69
conflict_item_fits i h =
    joined (state_ref i.reference) _ 36 33 (ref_fits i.reference h.0)
    (joined (hash i.consumer_hash) _ 32 1 (hash_fits i.consumer_hash h.1.0) (omega arith))

-- an answer of a notary in at most 5,522
pub answer_fits : Fits IsNotaryAnswer notary_answer 5522
answer_fits (Signed t) h = let fits = tag_fits t h in omega (arith, fits)
answer_fits (Conflict list) h =
    let items = items_fit IsConflictItem conflict_item 69 conflict_item_fits list h.1 in
    omega (arith, items, h.0)
answer_fits (OutsideWindow now) h = let fits = moment_fits now h in omega (arith, fits)
answer_fits other h = omega arith

-- an entry of a notary's book in at most 17,573
pub entry_fits : Fits IsEntry entry 17573
entry_fits e h =
    let inputs = list_fits IsStateRef state_ref 36 64 ref_fits e.inputs h.1.0 in
    joined (request e.request) _ 9746 7827 (request_fits e.request h.0)
    (joined (list8 state_ref e.inputs) (notary_answer e.answer) 2305 5522 inputs (answer_fits e.answer h.1.1))

-- a value in at most 9,809
pub value_fits : Fits IsValue value 9809
value_fits v.Unit h = omega arith
value_fits (v.Number n) h = let fits = number64_fits n in omega (arith, fits)
value_fits (v.Id id) h = let fits = hash_fits id h in omega (arith, fits)
value_fits (v.Tx stx) h = let fits = signed_fits stx h in omega (arith, fits)
value_fits (v.Request r) h = let fits = request_fits r h in omega (arith, fits)
value_fits (v.Answer a) h = let fits = answer_fits a h in omega (arith, fits)
value_fits (v.Tags tags) h = let fits = tags_fit tags h in omega (arith, fits)
value_fits (v.Bytes bytes) h = let fits = joined (number w16 (length bytes)) bytes 2 4096 (number16_fits (length bytes)) h in omega (arith, fits)
