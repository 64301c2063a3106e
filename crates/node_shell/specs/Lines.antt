-- What a line is answered with, and what it makes of the world.
use Rattle.std.specs.Prelude.{◌≡◌, ◌⊎◌, ℕ, suc, ◌-◌, ◌^◌, min, List, [], ◌∷◌, ◌++◌, length, map, Option, Some, None, Result, Ok, Err, Bool, true, false, MatchBool, drop, slice_get, slice_index_or, if◌then◌else◌, option_map, option_and_then}
use Rattle.std.specs.List.{list_all}
use Rattle.std.specs.Option.{option_map_or}
use Rattle.net_base.specs.declared.causes.Cause.{Cause}
use Rattle.flow_machine.specs.declared.flows.FlowState.{FlowState}
use Rattle.flow_machine.specs.declared.flows.FlowState.TheVariants as flow
use Rattle.flow_machine.specs.declared.flow_set.WordFault.{WordFault}
use Rattle.flow_machine.specs.declared.flow_set.WordFault.TheVariants as word
use Rattle.flow_machine.specs.Machine.{Machine}
use Rattle.net_model.specs.Environment.{Environment}
use Rattle.net_model.specs.Print.{printed, of_flows, of_flow, of_history}
use Rattle.net_model.specs.State.{with_ids}
use Rattle.net_base.specs.declared.values.Hash32.{Hash32}
use Rattle.ledger_types.specs.declared.held.Held.{Held}
use Rattle.ledger_types.specs.declared.tx.SignedTx.{SignedTx}
use Rattle.shell_report.specs.LedgerText.{hash_text}
use Rattle.node_shell.specs.LedgerPrint.{LedgerQuery, printed_ledger, of_vault, of_balance, of_book, of_tx, of_tx_at, with_id, vault_in}
use Rattle.node_tables.specs.Journals.{Reads, causes_of, state_of}
use Rattle.network_core.specs.declared.refusal.Refusal.TheVariants as refusal
use Rattle.network_core.specs.declared.steps.Outcome.{Outcome}
use Rattle.network_core.specs.declared.steps.Step.{Step}
use Rattle.network_core.specs.declared.steps.Step.TheVariants as step
use Rattle.network_core.specs.Worlds.{World, NodeWorld, Coherent}
use Rattle.network_core.specs.Following.{Serve, Follows}
use Rattle.work_law.specs.Works.{WorldWorks}
use Rattle.flow_workers.specs.Ends.{KeepsTails}
use Rattle.shell_words.specs.declared.commands.Command.{Command}
use Rattle.shell_words.specs.declared.commands.Command.TheVariants as command
use Rattle.shell_words.specs.declared.commands.TxName.{TxName}
use Rattle.shell_words.specs.declared.commands.TxName.TheVariants as name
use Rattle.shell_words.specs.Script.{has_no_answer, is_readable, words_of, command_of, asked_by, mark_of, has_mark}
use Rattle.node_shell.specs.declared.replies.Reply.{Reply}
use Rattle.node_shell.specs.declared.replies.Reply.TheVariants.{Silence, Quit, Told}
use Rattle.node_shell.specs.Replies.{reply_text, IsRefused}
use Rattle.node_shell.specs.Loads.{Course, load, work, CourseStates, all_but, GoesOver}

-- ---- what words ask for

-- a number of a node, where it is too great the greatest that names a node's place: no network has that many
abbrev pub node_at : ℕ → ℕ
node_at n = min n 255

-- a number of a flow, where it is too great the greatest that names a flow: no journal holds that many
abbrev pub flow_of : ℕ → ℕ
flow_of n = min n (2 ^ 32 - 1)

-- a place of a waiting frame, where it is too great the greatest that names one: no list of frames is so long
abbrev pub frame_of : ℕ → ℕ
frame_of n = min n (2 ^ 32 - 1)

-- a place of a recorded transaction, where it is too great the greatest that names one: no node records that many
abbrev pub record_of : ℕ → ℕ
record_of k = min k (2 ^ 32 - 1)

-- the recorded transaction that is named
abbrev pub named_in : TxName → List (Hash32 × SignedTx) → Option (Hash32 × SignedTx)
named_in (name.Id id) recorded = with_id id recorded
named_in (name.Place k) recorded = slice_get recorded (record_of k)

-- the digits of the id of a recorded transaction; where there is none the word as it is
abbrev pub digits_or : List ℕ → Option (Hash32 × SignedTx) → List ℕ
digits_or word None = word
digits_or word (Some found) = hash_text found.0

-- an argument of a start: `#k` stands for the 64 digits of the id of the k-th recorded transaction, from 0, where there is one
abbrev pub put_in : List (Hash32 × SignedTx) → List ℕ → List ℕ
put_in recorded word = digits_or word (option_and_then (λ k. named_in (name.Place k) recorded) (mark_of word))

-- a class and arguments; an argument that still is `#k` names no recorded transaction, and is refused
abbrev pub unmarked : Bool → Result (ℕ × List ℕ) WordFault → Result (ℕ × List ℕ) WordFault
unmarked false words = words
unmarked true (Ok words) = Err word.BadArgs
unmarked true (Err fault) = Err fault

-- the class and the arguments that these words ask for
abbrev pub named_by : {F : Type 0} → Machine F → List ℕ → List (List ℕ) → Result (ℕ × List ℕ) WordFault
named_by m class args = unmarked (has_mark args) (m.worded class args)

-- the class and the arguments that the words of a start ask for, at a node that recorded these transactions: those of the words with the ids put in
abbrev pub started_by : {F : Type 0} → Machine F → List (Hash32 × SignedTx) → List (List ℕ) → Result (ℕ × List ℕ) WordFault
started_by m recorded words = named_by m (slice_index_or words 2 []) (map (put_in recorded) (drop 3 words))

-- what a command does: it asks for something and changes nothing, it makes one step, or it goes over several
pub data Doing : Type 0 where
  asking : Doing
  making : Step → Doing
  going : Course → Doing

-- the start of a flow, where words name one
abbrev pub start_step : ℕ → Result (ℕ × List ℕ) WordFault → Doing
start_step node (Ok words) = making (step.Start node words.0 words.1)
start_step node (Err fault) = asking

-- what a command does, by what each node recorded
abbrev pub doing_of : {F : Type 0} → Machine F → (ℕ → List (Hash32 × SignedTx)) → Command → List (List ℕ) → Doing
doing_of m recorded (command.Clock to) words = making (step.Clock (record { 0 = to }))
doing_of m recorded (command.Start node) words = start_step (node_at node) (started_by m (recorded (node_at node)) words)
doing_of m recorded (command.Turn node pick) words = making (step.Turn (node_at node) (option_map flow_of pick))
doing_of m recorded (command.Post node) words = making (step.Post (node_at node))
doing_of m recorded (command.Deliver node at) words = making (step.Deliver (node_at node) (frame_of at))
doing_of m recorded (command.Repeat node at) words = making (step.Repeat (node_at node) (frame_of at))
doing_of m recorded (command.Lose node at) words = making (step.Lose (node_at node) (frame_of at))
doing_of m recorded (command.Cut node calls kind) words = making (step.Cut (node_at node) calls kind)
doing_of m recorded (command.Boot node) words = making (step.Boot (node_at node))
doing_of m recorded command.Drain words = making step.Drain
doing_of m recorded (command.Flows node) words = asking
doing_of m recorded (command.Flow node flow) words = asking
doing_of m recorded (command.Vault node) words = asking
doing_of m recorded (command.Balance node) words = asking
doing_of m recorded command.Book words = asking
doing_of m recorded (command.TxLine node name) words = asking
doing_of m recorded command.History words = asking
doing_of m recorded (command.Load seed count) words = going (load seed count)
doing_of m recorded (command.Workers workers turns seed) words = going (work workers turns seed)
doing_of m recorded command.Quit words = asking
doing_of m recorded command.Unknown words = asking

-- the transactions that the records of a journal store, with their ids, in order
abbrev pub recorded_by : {F : Type 0} → Reads F → List (List ℕ) → List (Hash32 × SignedTx)
recorded_by frame_at bodies = with_ids (state_of frame_at bodies).stored

-- what a node of a world recorded, where it is up; none where it is down, so that no word of a start at it stands for an id
abbrev pub recorded_up : {F : Type 0} → Reads F → NodeWorld → List (Hash32 × SignedTx)
recorded_up frame_at x = if x.up then recorded_by frame_at x.journal else []

-- what the node at a place recorded, where it is there and up
abbrev pub recorded_in : {F : Type 0} → Environment F → World → ℕ → List (Hash32 × SignedTx)
recorded_in e w p = option_map_or (recorded_up e.frame_at) (slice_get w.nodes p) []

-- ---- the states that such a command goes over, of worlds

-- whether a flow has ended without failure
abbrev pub is_ended : {F : Type 0} → Option (FlowState F) → Bool
is_ended None = false
is_ended (Some (flow.Live checkpoint)) = false
is_ended (Some (flow.Ended step class value)) = true
is_ended (Some (flow.Failed step class code)) = false

-- whether a flow of a journal has
abbrev pub ended_by : {F : Type 0} → Reads F → ℕ → List (List ℕ) → Bool
ended_by frame_at f bodies = is_ended (slice_get (state_of frame_at bodies).flows f)

-- whether a flow of a node that is up has
abbrev pub ended_up : {F : Type 0} → Reads F → ℕ → NodeWorld → Bool
ended_up frame_at f x = if x.up then ended_by frame_at f x.journal else false

-- so of the node at a place
abbrev pub ended_in : {F : Type 0} → Environment F → ℕ → ℕ → World → Bool
ended_in e p f w = option_map_or (ended_up e.frame_at f) (slice_get w.nodes p) false

-- the unconsumed states in the vaults of these nodes, where they are up, the first of them at this place
abbrev pub held_from : {F : Type 0} → Reads F → ℕ → List NodeWorld → List Held
held_from frame_at p [] = []
held_from frame_at p (x ∷ xs) = (if x.up then vault_in p (state_of frame_at x.journal) else []) ++ held_from frame_at (suc p) xs

-- the frames that wait at each node of a world
abbrev pub waiting_in : World → List (List (List ℕ))
waiting_in w = map (λ (x : NodeWorld). x.waiting) w.nodes

-- worlds; work side by side leads from one to a coherent one, where what waited at each node beyond the first 1,024 frames waits last
abbrev pub world_states : {F : Type 0} → Environment F → CourseStates World
world_states e = record {
  payers = λ w. all_but e.notary.0 (length w.nodes);
  are_up = λ w. list_all (λ (x : NodeWorld). x.up) w.nodes;
  follows = Follows e;
  has_ended = ended_in e;
  held = λ w. held_from e.frame_at 0 w.nodes;
  works = λ commits w v. WorldWorks commits w v × KeepsTails (waiting_in w) (waiting_in v) × Coherent e v;
}

-- ---- answers that change nothing

-- a command at a node: refused where there is no such node, or it is down
abbrev pub AtNode : World → ℕ → Reply → (NodeWorld → Type 0) → Type 0
AtNode w p reply asks =
    ((slice_get w.nodes p ≡ None) × IsRefused refusal.UnknownNode reply)
    ⊎ ((x : NodeWorld) × (slice_get w.nodes p ≡ Some x) × (((x.up ≡ false) × IsRefused refusal.NodeDown reply) ⊎ ((x.up ≡ true) × asks x)))

-- the causes of the journals of all nodes
abbrev pub causes_in : {F : Type 0} → Environment F → World → List (List Cause)
causes_in e w = map (λ x. causes_of e.frame_at x.journal) w.nodes

-- the words of a start name no flow; of want of memory nothing is answered
abbrev pub RefusesWords : World → ℕ → Result (ℕ × List ℕ) WordFault → Reply → Type 0
RefusesWords w p (Ok words) reply = ⊥
RefusesWords w p (Err word.UnknownClass) reply = AtNode w p reply (λ x. IsRefused refusal.UnknownClass reply)
RefusesWords w p (Err word.BadArgs) reply = AtNode w p reply (λ x. IsRefused refusal.BadArgs reply)
RefusesWords w p (Err word.Memory) reply = ⊥

-- the line of a flow, or that there is none
abbrev pub AsksFlow : {F : Type 0} → Environment F → World → ℕ → ℕ → Reply → NodeWorld → Type 0
AsksFlow {F} e w p f reply x =
    ((slice_get (state_of e.frame_at x.journal).flows f ≡ None) × IsRefused refusal.NoFlow reply)
    ⊎ (((flow : FlowState F) × (slice_get (state_of e.frame_at x.journal).flows f ≡ Some flow)) × (reply_text reply ≡ printed e (causes_in e w) (of_flow p f)))

-- the query of a transaction of a node
abbrev pub tx_query : ℕ → TxName → LedgerQuery
tx_query p (name.Id id) = of_tx p id
tx_query p (name.Place k) = of_tx_at p (record_of k)

-- the line of a recorded transaction, or that the node recorded none that is so named
abbrev pub AsksTx : {F : Type 0} → Environment F → World → ℕ → TxName → Reply → NodeWorld → Type 0
AsksTx e w p named reply x =
    ((named_in named (with_ids (state_of e.frame_at x.journal).stored) ≡ None) × IsRefused refusal.NoTransaction reply)
    ⊎ (((found : Hash32 × SignedTx) × (named_in named (with_ids (state_of e.frame_at x.journal).stored) ≡ Some found)) × (reply_text reply ≡ printed_ledger e (causes_in e w) (tx_query p named)))

-- the merged causes of all nodes, or that one is down
abbrev pub AsksHistory : {F : Type 0} → Environment F → World → Reply → Type 0
AsksHistory e w reply =
    (((p : ℕ) × (x : NodeWorld) × (slice_get w.nodes p ≡ Some x) × (x.up ≡ false)) × IsRefused refusal.NodeDown reply)
    ⊎ (((p : ℕ) (x : NodeWorld) → slice_get w.nodes p ≡ Some x → x.up ≡ true) × (reply_text reply ≡ printed e (causes_in e w) of_history))

-- the reply to a command that asks
abbrev pub Answers : {F : Type 0} → Environment F → World → Command → List (List ℕ) → Reply → Type 0
Answers e w (command.Start node) words reply = RefusesWords w (node_at node) (started_by e.machine (recorded_in e w (node_at node)) words) reply
Answers e w (command.Flows node) words reply = AtNode w (node_at node) reply (λ x. reply_text reply ≡ printed e (causes_in e w) (of_flows (node_at node)))
Answers e w (command.Flow node flow) words reply = AtNode w (node_at node) reply (AsksFlow e w (node_at node) (flow_of flow) reply)
Answers e w (command.Vault node) words reply = AtNode w (node_at node) reply (λ x. reply_text reply ≡ printed_ledger e (causes_in e w) (of_vault (node_at node)))
Answers e w (command.Balance node) words reply = AtNode w (node_at node) reply (λ x. reply_text reply ≡ printed_ledger e (causes_in e w) (of_balance (node_at node)))
Answers e w command.Book words reply = AtNode w e.notary.0 reply (λ x. reply_text reply ≡ printed_ledger e (causes_in e w) (of_book e.notary.0))
Answers e w (command.TxLine node named) words reply = AtNode w (node_at node) reply (AsksTx e w (node_at node) named reply)
Answers e w command.History words reply = AsksHistory e w reply
Answers e w command.Quit words reply = reply ≡ Quit
Answers e w command.Unknown words reply = IsRefused refusal.Syntax reply
Answers e w (command.Clock to) words reply = ⊥
Answers e w (command.Turn node pick) words reply = ⊥
Answers e w (command.Post node) words reply = ⊥
Answers e w (command.Deliver node at) words reply = ⊥
Answers e w (command.Repeat node at) words reply = ⊥
Answers e w (command.Lose node at) words reply = ⊥
Answers e w (command.Cut node calls kind) words reply = ⊥
Answers e w (command.Boot node) words reply = ⊥
Answers e w command.Drain words reply = ⊥
Answers e w (command.Load seed count) words reply = ⊥
Answers e w (command.Workers workers turns seed) words reply = ⊥

-- ---- lines

-- a command's step is made and its outcome told, or it goes over several, or it makes none and changes nothing
abbrev pub Makes : {F : Type 0} → Environment F → World → Doing → Command → List (List ℕ) → Reply → World → Type 0
Makes e w (making step) asked words reply v = (o : Outcome) × Serve e step w (Some o) v × (reply ≡ Told o)
Makes e w (going course) asked words reply v = GoesOver (world_states e) e.machine course w (Some reply) v
Makes e w asking asked words reply v = Answers e w asked words reply × (v ≡ w)

-- the reply to a command with its words, and the world after it
abbrev pub CommandReplies : {F : Type 0} → Environment F → World → Command → List (List ℕ) → Reply → World → Type 0
CommandReplies e w asked words reply v = Makes e w (doing_of e.machine (recorded_in e w) asked words) asked words reply v

-- the reply to a line, and the world after it
abbrev pub RepliesTo : {F : Type 0} → Environment F → World → List ℕ → Reply → World → Type 0
RepliesTo e w line reply v =
    MatchBool (has_no_answer line) ((reply ≡ Silence) × (v ≡ w))
    (MatchBool (is_readable line) (CommandReplies e w (command_of (words_of line)) (words_of line) reply v) (IsRefused refusal.Syntax reply × (v ≡ w)))

-- one link of a story: a line, its answer, and the world after it
pub record Link {F : Type 0} (e : Environment F) (w : World) (line text : List ℕ) (v : World) : Type 0 where
  pub reply : Reply
  pub replies : RepliesTo e w line reply v
  pub spelt : text ≡ reply_text reply

-- ---- want of memory

-- what want of memory leaves of what a command does
abbrev pub Leaves : {F : Type 0} → Environment F → Doing → World → World → Type 0
Leaves e asking w v = v ≡ w
Leaves e (making step) w v = (v ≡ w) ⊎ Serve e step w None v
Leaves e (going course) w v = GoesOver (world_states e) e.machine course w None v

-- a line was left without an answer for want of memory: it was left off, or it was served and its answer could not be spelt
abbrev pub RunsShort : {F : Type 0} → Environment F → World → List ℕ → World → Type 0
RunsShort e w line v = Leaves e (doing_of e.machine (recorded_in e w) (asked_by line) (words_of line)) w v ⊎ ((text : List ℕ) × Link e w line text v)

-- how a command ended: its reply, or want of memory
abbrev pub Comes : {F E : Type 0} → Environment F → World → Command → List (List ℕ) → Result Reply E → World → Type 0
Comes e w asked words (Ok reply) v = CommandReplies e w asked words reply v
Comes e w asked words (Err fault) v = Leaves e (doing_of e.machine (recorded_in e w) asked words) w v

-- how a line ended: its reply, or want of memory
abbrev pub LineComes : {F E : Type 0} → Environment F → World → List ℕ → Result Reply E → World → Type 0
LineComes e w line (Ok reply) v = RepliesTo e w line reply v
LineComes e w line (Err fault) v = Leaves e (doing_of e.machine (recorded_in e w) (asked_by line) (words_of line)) w v

-- how a step ended: its outcome, told, or want of memory
abbrev pub StepComes : {F E : Type 0} → Environment F → World → Step → Result Reply E → World → Type 0
StepComes e w step (Ok reply) v = (o : Outcome) × Serve e step w (Some o) v × (reply ≡ Told o)
StepComes e w step (Err fault) v = Serve e step w None v

-- whether a command ends the script
abbrev pub is_quit_command : Command → Bool
is_quit_command command.Quit = true
is_quit_command (command.Clock to) = false
is_quit_command (command.Start node) = false
is_quit_command (command.Turn node pick) = false
is_quit_command (command.Post node) = false
is_quit_command (command.Deliver node at) = false
is_quit_command (command.Repeat node at) = false
is_quit_command (command.Lose node at) = false
is_quit_command (command.Cut node calls kind) = false
is_quit_command (command.Boot node) = false
is_quit_command command.Drain = false
is_quit_command (command.Flows node) = false
is_quit_command (command.Flow node flow) = false
is_quit_command (command.Vault node) = false
is_quit_command (command.Balance node) = false
is_quit_command command.Book = false
is_quit_command (command.TxLine node name) = false
is_quit_command command.History = false
is_quit_command (command.Load seed count) = false
is_quit_command (command.Workers workers turns seed) = false
is_quit_command command.Unknown = false
