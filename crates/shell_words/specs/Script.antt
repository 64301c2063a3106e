-- The script: its lines, their words, and what the words ask for.
use Rattle.std.specs.Prelude.{◌≡◌, ◌≢◌, ◌<◌, ◌≤◌, ℕ, ◌-◌, List, [], ◌∷◌, ◌++◌, Bool, true, false, Option, Some, None, Result, Ok, Err, is_some, option_and_then, All, nat_lt, nat_le, ◌==◌, ◌&&◌, ◌||◌, not, if◌then◌else◌, length, codes, take, slice_index, map}
use Rattle.std.specs.List.{list_all, list_any, flat_map}
use Rattle.std.specs.Str.{bytes_eq}
use Rattle.hex.specs.Hex.{decode_sized}
use Rattle.hex.specs.declared.error.FromHexError.{FromHexError}
use Rattle.net_base.specs.declared.values.Hash32.{Hash32}
use Rattle.net_base.specs.Numbers.{number_of}
use Rattle.shell_words.specs.declared.commands.Command.{Command}
use Rattle.shell_words.specs.declared.commands.TxName.{TxName}
use Rattle.shell_words.specs.declared.commands.TxName.TheVariants.{Id, Place}
use Rattle.shell_words.specs.declared.commands.Command.TheVariants.{Clock, Start, Turn, Post, Deliver, Repeat, Lose, Cut, Boot, Drain, Flows, Flow, Vault, Balance, Book, TxLine, History, Load, Workers, Quit, Unknown}

-- ---- lines

-- a line with the LF that ends it
abbrev pub ended_line : List ℕ → List ℕ
ended_line line = line ++ 10 ∷ []

-- no byte of it is LF
abbrev pub HasNoEnd : List ℕ → Type 0
HasNoEnd bytes = All (λ b. b ≢ 10) bytes

-- the bytes are these whole lines, each with its LF, and then a rest without an LF
pub record AreLines (bytes : List ℕ) (lines : List (List ℕ)) (rest : List ℕ) : Type 0 where
  pub whole : bytes ≡ flat_map ended_line lines ++ rest
  pub each : All HasNoEnd lines
  pub open_rest : HasNoEnd rest

-- a line without a CR at its end
abbrev pub without_cr : List ℕ → List ℕ
without_cr line = if (nat_lt 0 (length line) && (slice_index line (length line - 1) == 13)) then take (length line - 1) line else line

-- the whole lines, each without a CR before its LF
abbrev pub whole_lines : List (List ℕ) → List (List ℕ)
whole_lines lines = map without_cr lines

-- a last line that no LF ends, where there is one
abbrev pub last_line : List ℕ → List (List ℕ)
last_line [] = []
last_line (b ∷ bs) = (b ∷ bs) ∷ []

-- ---- words

-- a space or a tab
abbrev pub is_blank : ℕ → Bool
is_blank b = (b == 32) || (b == 9)

-- printable ASCII, or a tab
abbrev pub is_plain : ℕ → Bool
is_plain b = (nat_le 32 b && nat_lt b 127) || (b == 9)

-- a line that begins with `#`
abbrev pub is_comment : List ℕ → Bool
is_comment [] = false
is_comment (b ∷ bs) = b == 35

-- a comment, or a line without a word: it has no answer
abbrev pub has_no_answer : List ℕ → Bool
has_no_answer line = is_comment line || list_all is_blank line

-- at most 4,096 bytes, each of them plain
abbrev pub is_readable : List ℕ → Bool
is_readable line = nat_le (length line) 4096 && list_all is_plain line

-- a word that has come to its end
abbrev pub ended : List ℕ → List (List ℕ)
ended [] = []
ended (b ∷ bs) = (b ∷ bs) ∷ []

-- the words of bytes that follow these of a word
abbrev pub words_onto : List ℕ → List ℕ → List (List ℕ)
words_onto word [] = ended word
words_onto word (b ∷ bs) = if is_blank b then ended word ++ words_onto [] bs else words_onto (word ++ b ∷ []) bs

-- the words of a line, between blanks
abbrev pub words_of : List ℕ → List (List ℕ)
words_of line = words_onto [] line

-- ---- marks

-- what follows a first `#`
abbrev pub after_hash : List ℕ → Option (List ℕ)
after_hash [] = None
after_hash (b ∷ bs) = if b == 35 then Some bs else None

-- there are bytes, and they are a number
abbrev pub is_number : Option (List ℕ) → Bool
is_number None = false
is_number (Some bytes) = is_some (number_of bytes)

-- `#` with a number behind it, as `#k` names a recorded transaction
abbrev pub is_mark : List ℕ → Bool
is_mark word = is_number (after_hash word)

-- some word is such a mark
abbrev pub has_mark : List (List ℕ) → Bool
has_mark args = list_any is_mark args

-- the place that `#` with a number names
abbrev pub mark_of : List ℕ → Option ℕ
mark_of word = option_and_then number_of (after_hash word)

-- bytes that were read
abbrev pub hash_in : Result (List ℕ) FromHexError → Option Hash32
hash_in (Ok bytes) = Some (record { 0 = bytes })
hash_in (Err e) = None

-- the id that a word is: 64 hexadecimal digits, in either case
abbrev pub id_of : List ℕ → Option Hash32
id_of word = hash_in (decode_sized word 32)

-- a transaction named by its id, if by anything
abbrev pub named_by_id : Option Hash32 → Option TxName
named_by_id None = None
named_by_id (Some id) = Some (Id id)

-- a transaction named by its place, or by its id
abbrev pub named_by : Option ℕ → Option Hash32 → Option TxName
named_by None id = named_by_id id
named_by (Some place) id = Some (Place place)

-- the transaction that a word names: `#` and its place, or its id
abbrev pub tx_name : List ℕ → Option TxName
tx_name word = named_by (mark_of word) (id_of word)

-- ---- commands

-- `clock` with a moment
abbrev pub clock_of : Option ℕ → Command
clock_of None = Unknown
clock_of (Some to) = Clock to

-- `start` with a node
abbrev pub start_of : Option ℕ → Command
start_of None = Unknown
start_of (Some node) = Start node

-- `turn` with a node, the flow left open
abbrev pub turn_of : Option ℕ → Command
turn_of None = Unknown
turn_of (Some node) = Turn node None

-- `turn` with a node and one of its flows
abbrev pub picked_turn_of : Option ℕ → Option ℕ → Command
picked_turn_of None flow = Unknown
picked_turn_of (Some node) None = Unknown
picked_turn_of (Some node) (Some flow) = Turn node (Some flow)

-- `cut` with a node, a count of calls and an outcome of at most 3
abbrev pub cut_of : Option ℕ → Option ℕ → Option ℕ → Command
cut_of None calls outcome = Unknown
cut_of (Some node) None outcome = Unknown
cut_of (Some node) (Some calls) None = Unknown
cut_of (Some node) (Some calls) (Some outcome) = if nat_le outcome 3 then Cut node calls outcome else Unknown

-- 1 to 16 workers, with 1 to 10,000 turns each
abbrev pub plan_of : ℕ → ℕ → ℕ → Command
plan_of workers turns seed = if ((nat_le 1 workers && nat_le workers 16) && nat_le 1 turns) && nat_le turns 10000 then Workers workers turns seed else Unknown

-- `workers` with how many there are, how many turns each makes, and a seed
abbrev pub workers_of : Option ℕ → Option ℕ → Option ℕ → Command
workers_of None turns seed = Unknown
workers_of (Some workers) None seed = Unknown
workers_of (Some workers) (Some turns) None = Unknown
workers_of (Some workers) (Some turns) (Some seed) = plan_of workers turns seed

-- `boot` with a node
abbrev pub boot_of : Option ℕ → Command
boot_of None = Unknown
boot_of (Some node) = Boot node

-- `flows` with a node
abbrev pub flows_of : Option ℕ → Command
flows_of None = Unknown
flows_of (Some node) = Flows node

-- `vault` with a node
abbrev pub vault_of : Option ℕ → Command
vault_of None = Unknown
vault_of (Some node) = Vault node

-- `balance` with a node
abbrev pub balance_of : Option ℕ → Command
balance_of None = Unknown
balance_of (Some node) = Balance node

-- `tx` with a node and the name of a transaction
abbrev pub tx_of : Option ℕ → Option TxName → Command
tx_of None name = Unknown
tx_of (Some node) None = Unknown
tx_of (Some node) (Some name) = TxLine node name

-- `flow` with a node and one of its flows
abbrev pub flow_of : Option ℕ → Option ℕ → Command
flow_of None flow = Unknown
flow_of (Some node) None = Unknown
flow_of (Some node) (Some flow) = Flow node flow

-- `post` with a node
abbrev pub post_of : Option ℕ → Command
post_of None = Unknown
post_of (Some node) = Post node

-- `deliver` with a node and the place of a frame
abbrev pub deliver_of : Option ℕ → Option ℕ → Command
deliver_of None place = Unknown
deliver_of (Some node) None = Unknown
deliver_of (Some node) (Some place) = Deliver node place

-- `repeat` with a node and the place of a frame
abbrev pub repeat_of : Option ℕ → Option ℕ → Command
repeat_of None place = Unknown
repeat_of (Some node) None = Unknown
repeat_of (Some node) (Some place) = Repeat node place

-- `lose` with a node and the place of a frame
abbrev pub lose_of : Option ℕ → Option ℕ → Command
lose_of None place = Unknown
lose_of (Some node) None = Unknown
lose_of (Some node) (Some place) = Lose node place

-- `load` with a seed and a count of at most 1,000 payments
abbrev pub load_of : Option ℕ → Option ℕ → Command
load_of None count = Unknown
load_of (Some seed) None = Unknown
load_of (Some seed) (Some count) = if nat_le count 1000 then Load seed count else Unknown

-- what one word asks for: `drain`, `book`, `history` or `quit`
abbrev pub one_word : List ℕ → Command
one_word w = if bytes_eq w (codes "drain") then Drain else if bytes_eq w (codes "book") then Book else if bytes_eq w (codes "history") then History else if bytes_eq w (codes "quit") then Quit else Unknown

-- what two words ask for of a node's ledger: `vault N` or `balance N`
abbrev pub ledger_words : List ℕ → List ℕ → Command
ledger_words w n = if bytes_eq w (codes "vault") then vault_of (number_of n) else if bytes_eq w (codes "balance") then balance_of (number_of n) else Unknown

-- what two words ask for: `clock T`, `turn N`, `post N`, `boot N`, `flows N`, `vault N` or `balance N`
abbrev pub two_words : List ℕ → List ℕ → Command
two_words w n = if bytes_eq w (codes "clock") then clock_of (number_of n) else if bytes_eq w (codes "turn") then turn_of (number_of n) else if bytes_eq w (codes "post") then post_of (number_of n) else if bytes_eq w (codes "boot") then boot_of (number_of n) else if bytes_eq w (codes "flows") then flows_of (number_of n) else ledger_words w n

-- what three and more words ask for where no other command has that number: `start N CLASS ARGS..`
abbrev pub many_words : List ℕ → List ℕ → Command
many_words w n = if bytes_eq w (codes "start") then start_of (number_of n) else Unknown

-- what three words ask for where no other command has that number: `load SEED COUNT` or `start N CLASS`
abbrev pub load_words : List ℕ → List ℕ → List ℕ → Command
load_words w n m = if bytes_eq w (codes "load") then load_of (number_of n) (number_of m) else many_words w n

-- what three words ask for of a frame: `deliver N I`, `repeat N I` or `lose N I`; or `load SEED COUNT` or `start N CLASS`
abbrev pub frame_words : List ℕ → List ℕ → List ℕ → Command
frame_words w n m =
    if bytes_eq w (codes "deliver") then deliver_of (number_of n) (number_of m)
    else if bytes_eq w (codes "repeat") then repeat_of (number_of n) (number_of m)
    else if bytes_eq w (codes "lose") then lose_of (number_of n) (number_of m)
    else load_words w n m

-- what three words ask for: `turn N F`, `flow N F`, `tx N NAME`, what is asked of a frame, `load SEED COUNT`, or `start N CLASS`
abbrev pub three_words : List ℕ → List ℕ → List ℕ → Command
three_words w n m = if bytes_eq w (codes "turn") then picked_turn_of (number_of n) (number_of m) else if bytes_eq w (codes "flow") then flow_of (number_of n) (number_of m) else if bytes_eq w (codes "tx") then tx_of (number_of n) (tx_name m) else frame_words w n m

-- what four words ask for: `cut N CALLS OUTCOME`, `workers W T SEED` or `start N CLASS ARG`
abbrev pub four_words : List ℕ → List ℕ → List ℕ → List ℕ → Command
four_words w n m k =
    if bytes_eq w (codes "cut") then cut_of (number_of n) (number_of m) (number_of k)
    else if bytes_eq w (codes "workers") then workers_of (number_of n) (number_of m) (number_of k)
    else many_words w n

-- what words ask for, by their count
abbrev pub command_of : List (List ℕ) → Command
command_of [] = Unknown
command_of (w ∷ []) = one_word w
command_of (w ∷ n ∷ []) = two_words w n
command_of (w ∷ n ∷ m ∷ []) = three_words w n m
command_of (w ∷ n ∷ m ∷ k ∷ []) = four_words w n m k
command_of (w ∷ n ∷ m ∷ k ∷ x ∷ more) = many_words w n

-- the command, where one is known
abbrev pub asked : Option Command → Command
asked None = Unknown
asked (Some command) = command

-- what a line asks for: nothing that is known where it has no answer or can't be read
abbrev pub asked_by : List ℕ → Command
asked_by line = if has_no_answer line || not (is_readable line) then Unknown else command_of (words_of line)

-- the command is `quit`
abbrev pub asks_quit : Command → Bool
asks_quit (Clock to) = false
asks_quit (Start node) = false
asks_quit (Turn node pick) = false
asks_quit (Post node) = false
asks_quit (Deliver node place) = false
asks_quit (Repeat node place) = false
asks_quit (Lose node place) = false
asks_quit (Cut node calls outcome) = false
asks_quit (Boot node) = false
asks_quit Drain = false
asks_quit (Flows node) = false
asks_quit (Flow node flow) = false
asks_quit (Vault node) = false
asks_quit (Balance node) = false
asks_quit Book = false
asks_quit (TxLine node name) = false
asks_quit History = false
asks_quit (Load seed count) = false
asks_quit (Workers workers turns seed) = false
asks_quit Quit = true
asks_quit Unknown = false

-- a line that asks for `quit`
abbrev pub is_quit : List ℕ → Bool
is_quit line = asks_quit (asked_by line)
