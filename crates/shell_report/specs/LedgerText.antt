-- What is printed of a ledger: a vault, its balances, a notary's book, and a recorded transaction.
use Rattle.std.specs.Prelude.{ℕ, ◌+◌, Bool, false, List, [], ◌∷◌, ◌++◌, Option, Some, None, map, length, codes, decimal}
use Rattle.std.specs.Cmp.Lexicographic.{slice_cmp}
use Rattle.std.specs.Ordering.{nat_cmp, ordering_then, match_ordering}
use Rattle.std.specs.declared.cmp.Ordering.{Ordering}
use Rattle.std.specs.List.{position_or_len}
use Rattle.hex.specs.Hex.{encode_lower}
use Rattle.net_base.specs.declared.values.Hash32.{Hash32}
use Rattle.net_base.specs.declared.names.Token.{Token}
use Rattle.ledger_types.specs.declared.state.StateData.{StateData}
use Rattle.ledger_types.specs.declared.state.StateData.TheVariants.{Cash, TimeLock, Fact, Iou}
use Rattle.ledger_types.specs.declared.held.Held.{Held}
use Rattle.ledger_types.specs.declared.notary.ConflictItem.{ConflictItem}
use Rattle.ledger_types.specs.declared.notary.Entry.{Entry}
use Rattle.ledger_types.specs.declared.notary.NotaryAnswer.{NotaryAnswer}
use Rattle.ledger_types.specs.declared.notary.NotaryAnswer.TheVariants as answer
use Rattle.ledger_types.specs.declared.notary.RefKind.{RefKind}
use Rattle.ledger_types.specs.declared.notary.RefKind.TheVariants.{Input, Reference}
use Rattle.ledger_types.specs.declared.tx.SignedTx.{SignedTx}
use Rattle.ledger_types.specs.declared.tx.Tx.{Tx}
use Rattle.ledger_types.specs.Names.{hash_eq}
use Rattle.ledger_types.specs.Vaults.{balance_of}

-- ---- names

-- an id or another hash: its lower-case hexadecimal digits
abbrev pub hash_text : Hash32 → List ℕ
hash_text hash = encode_lower hash.0

-- a token: its issuer, and the letters of its code
abbrev pub token_text : Token → List ℕ
token_text token = decimal token.issuer.0 ++ codes "." ++ token.code

-- the ids of recorded transactions
abbrev pub ids_of : List (Hash32 × SignedTx) → List Hash32
ids_of recorded = map (λ p. p.0) recorded

-- the place of an id among those of the recorded transactions, from 0; as many as there are where it is none of them
abbrev pub place_in : Hash32 → List Hash32 → ℕ
place_in id ids = position_or_len (hash_eq id) ids

-- whether there is a transaction, and it has this id
abbrev pub is_this : Hash32 → Option (Hash32 × SignedTx) → Bool
is_this id None = false
is_this id (Some p) = hash_eq id p.0

-- ---- a vault

-- what a state says
abbrev pub body_text : StateData → List ℕ
body_text (Cash token amount owner) = codes "cash " ++ token_text token ++ codes " " ++ decimal amount
body_text (TimeLock owner until) = codes "lock " ++ decimal until.0
body_text (Fact issuer name value) = codes "fact " ++ decimal issuer.0 ++ codes " " ++ decimal name ++ codes " " ++ decimal value
body_text (Iou lender borrower token amount) = codes "iou " ++ decimal lender.0 ++ codes " " ++ decimal borrower.0 ++ codes " " ++ token_text token ++ codes " " ++ decimal amount

-- the flow that has a state soft-locked, where one has
abbrev pub locked_text : Option ℕ → List ℕ
locked_text None = []
locked_text (Some flow) = codes " locked " ++ decimal flow

-- the output that encumbers a state, where one does
abbrev pub encumbered_text : Option ℕ → List ℕ
encumbered_text None = []
encumbered_text (Some output) = codes " encumbered " ++ decimal output

-- the line of an unconsumed state, without its end: the place of its transaction, its own place among the outputs, and what it says
unfoldable pub state_line : List Hash32 → Held → List ℕ
state_line ids h = codes "state " ++ decimal (place_in h.reference.id ids) ++ codes " " ++ decimal h.reference.index ++ codes " " ++ body_text h.state.body ++ locked_text h.locked ++ encumbered_text h.state.encumbrance

-- a line for each state
abbrev pub state_lines : List Hash32 → List Held → List ℕ
state_lines ids [] = []
state_lines ids (h ∷ hs) = state_line ids h ++ 10 ∷ state_lines ids hs

-- a line for each state of a vault over the recorded transactions of these ids, or one line where there is none
abbrev pub vault_text : List Hash32 → List Held → List ℕ
vault_text ids [] = codes "none\n"
vault_text ids (h ∷ hs) = state_lines ids (h ∷ hs)

-- ---- balances

-- by issuer, and then by code as in a dictionary
abbrev pub token_order : Token → Token → Ordering
token_order a b = ordering_then (nat_cmp a.issuer.0 b.issuer.0) (slice_cmp nat_cmp a.code b.code)

-- ascending tokens with one more; each stands once
abbrev pub with_token : Token → List Token → List Token
with_token token [] = token ∷ []
with_token token (t ∷ ts) = match_ordering (token_order token t) (token ∷ t ∷ ts) (t ∷ ts) (t ∷ with_token token ts)

-- ascending tokens with that of a state, where it is Cash
abbrev pub with_body : StateData → List Token → List Token
with_body (Cash token amount owner) tokens = with_token token tokens
with_body (TimeLock owner until) tokens = tokens
with_body (Fact issuer name value) tokens = tokens
with_body (Iou lender borrower token amount) tokens = tokens

-- ascending tokens with those of the Cash among states
abbrev pub tokens_onto : List Token → List Held → List Token
tokens_onto tokens [] = tokens
tokens_onto tokens (h ∷ hs) = tokens_onto (with_body h.state.body tokens) hs

-- the tokens of the Cash among states, each once and ascending
abbrev pub tokens_of : List Held → List Token
tokens_of held = tokens_onto [] held

-- the line of a token, without its end
abbrev pub balance_line : List Held → Token → List ℕ
balance_line held token = codes "balance " ++ token_text token ++ codes " " ++ decimal (balance_of token held)

-- a line for each of these tokens
abbrev pub balance_lines : List Held → List Token → List ℕ
balance_lines held [] = []
balance_lines held (t ∷ ts) = balance_line held t ++ 10 ∷ balance_lines held ts

-- a line for each of these tokens, or one line where there is none
abbrev pub balances_of : List Held → List Token → List ℕ
balances_of held [] = codes "none\n"
balances_of held (t ∷ ts) = balance_lines held (t ∷ ts)

-- a line for each token of which a vault holds Cash, ascending, or one line where there is none
abbrev pub balance_text : List Held → List ℕ
balance_text held = balances_of held (tokens_of held)

-- ---- totals

-- the line of a token among the states of several vaults, without its end
abbrev pub total_line : List Held → Token → List ℕ
total_line held token = codes "total " ++ token_text token ++ codes " " ++ decimal (balance_of token held)

-- a line for each of these tokens
abbrev pub total_lines : List Held → List Token → List ℕ
total_lines held [] = []
total_lines held (t ∷ ts) = total_line held t ++ 10 ∷ total_lines held ts

-- a line for each token of which there is Cash among the states of several vaults, ascending; none where there is none
abbrev pub totals_text : List Held → List ℕ
totals_text held = total_lines held (tokens_of held)

-- ---- a notary's book

-- what a notary answered: that it signed, or the code of its refusal
abbrev pub answer_text : NotaryAnswer → List ℕ
answer_text (answer.Signed tag) = codes "signed"
answer_text answer.WrongNotary = codes "41"
answer_text answer.BadTear = codes "42"
answer_text answer.BadRequestTag = codes "43"
answer_text (answer.Conflict list) = codes "44"
answer_text (answer.OutsideWindow now) = codes "45"

-- how the refused transaction names a state
abbrev pub kind_text : RefKind → List ℕ
kind_text Input = codes "input"
kind_text Reference = codes "reference"

-- the line of a state that another transaction has consumed, without its end: how it is named, and the digest of the consumer's id
abbrev pub conflict_line : ConflictItem → List ℕ
conflict_line c = codes "conflict " ++ hash_text c.reference.id ++ codes ":" ++ decimal c.reference.index ++ codes " " ++ kind_text c.kind ++ codes " " ++ hash_text c.consumer_hash

-- a line for each of these states
abbrev pub conflict_lines : List ConflictItem → List ℕ
conflict_lines [] = []
conflict_lines (c ∷ cs) = conflict_line c ++ 10 ∷ conflict_lines cs

-- the states over which a request conflicts
abbrev pub conflicts_of : NotaryAnswer → List ConflictItem
conflicts_of (answer.Signed tag) = []
conflicts_of answer.WrongNotary = []
conflicts_of answer.BadTear = []
conflicts_of answer.BadRequestTag = []
conflicts_of (answer.Conflict list) = list
conflicts_of (answer.OutsideWindow now) = []

-- the line of an entry, without its end: its place, who asks, that party's flow, the id, and the answer
abbrev pub entry_line : ℕ → Entry → List ℕ
entry_line j e = codes "entry " ++ decimal j ++ codes " " ++ decimal e.request.party.0 ++ codes " " ++ decimal e.request.flow ++ codes " " ++ hash_text e.request.torn.id ++ codes " " ++ answer_text e.answer

-- the lines of an entry: behind a conflict there is one for each state
abbrev pub entry_text : ℕ → Entry → List ℕ
entry_text j e = entry_line j e ++ 10 ∷ conflict_lines (conflicts_of e.answer)

-- the lines of entries, the first of them entry j
abbrev pub entry_lines : ℕ → List Entry → List ℕ
entry_lines j [] = []
entry_lines j (e ∷ es) = entry_text j e ++ entry_lines (j + 1) es

-- how many entries there are, and their lines
abbrev pub book_text : List Entry → List ℕ
book_text entries = codes "entries " ++ decimal (length entries) ++ 10 ∷ entry_lines 0 entries

-- ---- a recorded transaction

-- how many states a transaction consumes and makes, and how many commands it has
abbrev pub parts_text : Tx → List ℕ
parts_text tx = codes " inputs " ++ decimal (length tx.inputs) ++ codes " outputs " ++ decimal (length tx.outputs) ++ codes " commands " ++ decimal (length tx.commands)

-- the line of a transaction of this id, with its end: how many of each of its parts it has, and how many tags
abbrev pub tx_text : Hash32 → SignedTx → List ℕ
tx_text id stx = codes "tx " ++ hash_text id ++ parts_text stx.tx ++ codes " references " ++ decimal (length stx.tx.references) ++ codes " tags " ++ decimal (length stx.tags) ++ 10 ∷ []
