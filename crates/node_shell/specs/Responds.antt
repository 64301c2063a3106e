-- What a line is answered with over any network, whatever its disks tell and its journals hold: each refusal has its cause in what the network shows.
use Rattle.std.specs.Prelude.{◌≡◌, ◌⊎◌, ℕ, Bool, false, List, [], ◌∷◌, ◌++◌, length, Option, Some, None, Result, Ok, Err, IfSome, MatchOption, MatchBool, is_some, slice_get, option_map, option_and_then}
use Rattle.std.specs.List.{flat_map, list_all}
use Rattle.std.specs.Option.{option_map_or}
use Rattle.net_base.specs.declared.causes.Cause.{Cause}
use Rattle.flow_machine.specs.declared.flow_set.WordFault.{WordFault}
use Rattle.flow_machine.specs.declared.flow_set.WordFault.TheVariants as word
use Rattle.net_base.specs.declared.values.Hash32.{Hash32}
use Rattle.net_base.specs.declared.values.Party.{Party}
use Rattle.ledger_types.specs.declared.held.Held.{Held}
use Rattle.ledger_types.specs.declared.tx.SignedTx.{SignedTx}
use Rattle.ledger_types.specs.Stores.{untagged}
use Rattle.ledger_types.specs.Vaults.{vault_of}
use Rattle.net_model.specs.Environment.{Meaning}
use Rattle.net_model.specs.State.{with_ids}
use Rattle.net_model.specs.Print.{flows_text, flow_line, history_text}
use Rattle.net_model.specs.Runs.{merged}
use Rattle.shell_report.specs.LedgerText.{ids_of, vault_text, balance_text, book_text, tx_text}
use Rattle.node_tables.specs.Journals.{Reads, causes_of, state_of}
use Rattle.node_core.specs.Seen.{NodeSeen}
use Rattle.network_core.specs.declared.refusal.Refusal.TheVariants as refusal
use Rattle.network_core.specs.declared.steps.Outcome.{Outcome}
use Rattle.network_core.specs.declared.steps.Outcome.TheVariants as outcome
use Rattle.network_core.specs.declared.steps.Step.{Step}
use Rattle.network_core.specs.Worlds.{NetSeen, KeepsWorld}
use Rattle.network_core.specs.Answers.{Answered, answer_of}
use Rattle.network_core.specs.Following.{NetFollows, ServesPairs, FollowPairs}
use Rattle.flow_workers.specs.Ends.{WorkedOn}
use Rattle.shell_words.specs.declared.commands.Command.{Command}
use Rattle.shell_words.specs.declared.commands.Command.TheVariants as command
use Rattle.shell_words.specs.declared.commands.TxName.{TxName}
use Rattle.shell_words.specs.Script.{has_no_answer, is_readable, words_of, command_of, asked_by}
use Rattle.node_shell.specs.declared.replies.Reply.{Reply}
use Rattle.node_shell.specs.declared.replies.Reply.TheVariants.{Silence, Quit, Told}
use Rattle.node_shell.specs.Replies.{reply_text, IsRefused}
use Rattle.node_shell.specs.Loads.{CourseStates, all_but, GoesOver}
use Rattle.node_shell.specs.Lines.{Doing, asking, making, going, node_at, flow_of, named_in, started_by, doing_of, recorded_by, recorded_in, ended_by, RepliesTo, Leaves}

-- ---- answers that change nothing

-- a command at a node: refused where there is no such node, or it is down; of a node that is up it asks so much of its journal
abbrev pub AtSeen : NetSeen → ℕ → Reply → (List (List ℕ) → Type 0) → Type 0
AtSeen net p reply asks = MatchOption (slice_get net.nodes p) (IsRefused refusal.UnknownNode reply) (λ n. MatchOption n.journal (IsRefused refusal.NodeDown reply) asks)

-- what the node at a place recorded, where it is there and up
abbrev pub recorded_seen : {F : Type 0} → Reads F → NetSeen → ℕ → List (Hash32 × SignedTx)
recorded_seen frame_at net p = option_map_or (recorded_by frame_at) (option_and_then (λ n. n.journal) (slice_get net.nodes p)) []

-- the words of a start name no flow; of want of memory nothing is answered
abbrev pub StartsNone : NetSeen → ℕ → Result (ℕ × List ℕ) WordFault → Reply → Type 0
StartsNone net p (Ok words) reply = ⊥
StartsNone net p (Err word.UnknownClass) reply = AtSeen net p reply (λ bodies. IsRefused refusal.UnknownClass reply)
StartsNone net p (Err word.BadArgs) reply = AtSeen net p reply (λ bodies. IsRefused refusal.BadArgs reply)
StartsNone net p (Err word.Memory) reply = ⊥

-- the lines of the flows of a journal
abbrev pub PrintsFlows : {F : Type 0} → Reads F → Reply → List (List ℕ) → Type 0
PrintsFlows frame_at reply bodies = reply_text reply ≡ flows_text (state_of frame_at bodies).flows

-- the line of a flow of a journal, or that there is none
abbrev pub PrintsFlow : {F : Type 0} → Reads F → ℕ → Reply → List (List ℕ) → Type 0
PrintsFlow frame_at f reply bodies = MatchOption (slice_get (state_of frame_at bodies).flows f) (IsRefused refusal.NoFlow reply) (λ flow. reply_text reply ≡ flow_line f flow ++ 10 ∷ [])

-- the causes of the journals of all nodes, where each is up
abbrev pub causes_up : {F : Type 0} → Reads F → List NodeSeen → Option (List (List Cause))
causes_up frame_at [] = Some []
causes_up frame_at (n ∷ ns) = option_and_then (λ bodies. option_map (λ lists. causes_of frame_at bodies ∷ lists) (causes_up frame_at ns)) n.journal

-- the merged causes of all nodes, or that one is down
abbrev pub PrintsHistory : {F : Type 0} → Reads F → NetSeen → Reply → Type 0
PrintsHistory frame_at net reply = MatchOption (causes_up frame_at net.nodes) (IsRefused refusal.NodeDown reply) (λ lists. reply_text reply ≡ history_text (merged lists))

-- a command at a node, which asks also whose node it is
abbrev pub OfSeen : NetSeen → ℕ → Reply → (Party → List (List ℕ) → Type 0) → Type 0
OfSeen net p reply asks = MatchOption (slice_get net.nodes p) (IsRefused refusal.UnknownNode reply) (λ n. MatchOption n.journal (IsRefused refusal.NodeDown reply) (asks n.identity.party))

-- the lines of the vault of a party by a journal
abbrev pub PrintsVault : {F : Type 0} → Reads F → Reply → Party → List (List ℕ) → Type 0
PrintsVault frame_at reply me bodies =
    let s = state_of frame_at bodies in
    reply_text reply ≡ vault_text (ids_of (with_ids s.stored)) (vault_of me (untagged (with_ids s.stored)) s.locked)

-- the lines of its balances
abbrev pub PrintsBalance : {F : Type 0} → Reads F → Reply → Party → List (List ℕ) → Type 0
PrintsBalance frame_at reply me bodies =
    let s = state_of frame_at bodies in
    reply_text reply ≡ balance_text (vault_of me (untagged (with_ids s.stored)) s.locked)

-- the lines of the book of a journal
abbrev pub PrintsBook : {F : Type 0} → Reads F → Reply → List (List ℕ) → Type 0
PrintsBook frame_at reply bodies = reply_text reply ≡ book_text (state_of frame_at bodies).entries

-- the line of a transaction of a journal, or that there is none that is so named
abbrev pub PrintsTx : {F : Type 0} → Reads F → TxName → Reply → List (List ℕ) → Type 0
PrintsTx frame_at named reply bodies =
    MatchOption (named_in named (with_ids (state_of frame_at bodies).stored)) (IsRefused refusal.NoTransaction reply) (λ found. reply_text reply ≡ tx_text found.0 found.1)

-- the line of a recorded transaction, or that there is none that is so named
abbrev pub IsLineOf : TxName → List (Hash32 × SignedTx) → Option (List ℕ) → Type 0
IsLineOf named recorded line =
    MatchOption line (named_in named recorded ≡ None) (λ text. (found : Hash32 × SignedTx) × (named_in named recorded ≡ Some found) × (text ≡ tx_text found.0 found.1))

-- the place of the notary, as the first node has it; without a node it is no matter which
abbrev pub notary_seen : NetSeen → ℕ
notary_seen net = option_map_or (λ n. n.identity.notary.0) (slice_get net.nodes 0) 0

-- the reply to a command that asks, by what the network shows
abbrev pub IsShown : {F : Type 0} → Meaning F → NetSeen → Command → List (List ℕ) → Reply → Type 0
IsShown m net (command.Start node) words reply = StartsNone net (node_at node) (started_by m.machine (recorded_seen m.frame_at net (node_at node)) words) reply
IsShown m net (command.Flows node) words reply = AtSeen net (node_at node) reply (PrintsFlows m.frame_at reply)
IsShown m net (command.Flow node flow) words reply = AtSeen net (node_at node) reply (PrintsFlow m.frame_at (flow_of flow) reply)
IsShown m net (command.Vault node) words reply = OfSeen net (node_at node) reply (PrintsVault m.frame_at reply)
IsShown m net (command.Balance node) words reply = OfSeen net (node_at node) reply (PrintsBalance m.frame_at reply)
IsShown m net command.Book words reply = AtSeen net (notary_seen net) reply (PrintsBook m.frame_at reply)
IsShown m net (command.TxLine node named) words reply = AtSeen net (node_at node) reply (PrintsTx m.frame_at named reply)
IsShown m net command.History words reply = PrintsHistory m.frame_at net reply
IsShown m net command.Quit words reply = reply ≡ Quit
IsShown m net command.Unknown words reply = IsRefused refusal.Syntax reply
IsShown m net (command.Clock to) words reply = ⊥
IsShown m net (command.Turn node pick) words reply = ⊥
IsShown m net (command.Post node) words reply = ⊥
IsShown m net (command.Deliver node at) words reply = ⊥
IsShown m net (command.Repeat node at) words reply = ⊥
IsShown m net (command.Lose node at) words reply = ⊥
IsShown m net (command.Cut node calls kind) words reply = ⊥
IsShown m net (command.Boot node) words reply = ⊥
IsShown m net command.Drain words reply = ⊥
IsShown m net (command.Load seed count) words reply = ⊥
IsShown m net (command.Workers workers turns seed) words reply = ⊥

-- ---- the states that such a command goes over, of networks

-- whether a flow of the node at a place has ended without failure, where the node is up
abbrev pub ended_seen : {F : Type 0} → Reads F → ℕ → ℕ → NetSeen → Bool
ended_seen frame_at p f net = option_map_or (ended_by frame_at f) (option_and_then (λ n. n.journal) (slice_get net.nodes p)) false

-- the unconsumed states of a party by a journal
abbrev pub held_by : {F : Type 0} → Reads F → Party → List (List ℕ) → List Held
held_by frame_at me bodies = let s = state_of frame_at bodies in vault_of me (untagged (with_ids s.stored)) s.locked

-- those of a node, where it is up
abbrev pub held_of : {F : Type 0} → Reads F → NodeSeen → List Held
held_of frame_at n = option_map_or (held_by frame_at n.identity.party) n.journal []

-- networks; what steps make of one they make also of each coherent world that it shows, and so does work side by side
abbrev pub net_states : {F : Type 0} → Meaning F → CourseStates NetSeen
net_states m = record {
  payers = λ net. all_but (notary_seen net) (length net.nodes);
  are_up = λ net. list_all (λ (n : NodeSeen). is_some n.journal) net.nodes;
  follows = λ steps outcomes all old new. NetFollows m steps outcomes all old new × FollowPairs m steps outcomes all old new;
  has_ended = ended_seen m.frame_at;
  held = λ net. flat_map (held_of m.frame_at) net.nodes;
  works = λ commits old new. WorkedOn m old new commits false;
}

-- ---- lines

-- the reply that was given, none for want of memory
abbrev pub given : {E : Type 0} → Result Reply E → Option Reply
given (Ok reply) = Some reply
given (Err fault) = None

-- a step was made, and its outcome, which has its cause, is told; or memory ran out before it or within it. So also of each coherent world that the
-- network shows: the step is made of both at once
abbrev pub StepResponds : {F : Type 0} → Meaning F → Step → NetSeen → Option Reply → NetSeen → Type 0
StepResponds m step old (Some reply) new = (o : Outcome) × Answered m step old (answer_of (Some o)) new × (reply ≡ Told o) × ServesPairs m step (Some o) old new
StepResponds m step old None new = (new ≡ old) ⊎ (Answered m step old (answer_of None) new × ServesPairs m step None old new)

-- a command's step is made, or it goes over several, or it makes none and changes nothing
abbrev pub Responds : {F : Type 0} → Meaning F → Doing → Command → List (List ℕ) → NetSeen → Option Reply → NetSeen → Type 0
Responds m (making step) asked words old reply new = StepResponds m step old reply new
Responds m (going course) asked words old reply new = GoesOver (net_states m) m.machine course old reply new
Responds m asking asked words old reply new = IfSome reply (IsShown m old asked words) × (new ≡ old)

-- how a command with its words ended
abbrev pub CommandResponds : {F : Type 0} → Meaning F → Command → List (List ℕ) → NetSeen → Option Reply → NetSeen → Type 0
CommandResponds m asked words old reply new = Responds m (doing_of m.machine (recorded_seen m.frame_at old) asked words) asked words old reply new

-- how a line ended
abbrev pub LineResponds : {F : Type 0} → Meaning F → List ℕ → NetSeen → Option Reply → NetSeen → Type 0
LineResponds m line old reply new =
    MatchBool (has_no_answer line) ((reply ≡ Some Silence) × (new ≡ old))
    (MatchBool (is_readable line) (CommandResponds m (command_of (words_of line)) (words_of line) old reply new) ((reply ≡ Some (Told (outcome.Refused refusal.Syntax))) × (new ≡ old)))

-- ---- stories of networks

-- one link of a story of networks: a line, its answer, and the network after it; in each coherent world that the network shows it is a link of worlds
pub record NetLink {F : Type 0} (m : Meaning F) (old : NetSeen) (line text : List ℕ) (new : NetSeen) : Type 0 where
  pub reply : Reply
  pub responds : LineResponds m line old (Some reply) new
  pub spelt : text ≡ reply_text reply
  pub worlds : KeepsWorld m old new (λ e w v. RepliesTo e w line reply v)

-- a line was left off for want of memory
pub record NetLeft {F : Type 0} (m : Meaning F) (old : NetSeen) (line : List ℕ) (new : NetSeen) : Type 0 where
  pub responds : LineResponds m line old None new
  pub worlds : KeepsWorld m old new (λ e w v. Leaves e (doing_of e.machine (recorded_in e w) (asked_by line) (words_of line)) w v)

-- a line was left without an answer for want of memory: it was left off, or it was served and its answer could not be spelt
abbrev pub NetShort : {F : Type 0} → Meaning F → NetSeen → List ℕ → NetSeen → Type 0
NetShort m old line new = NetLeft m old line new ⊎ ((text : List ℕ) × NetLink m old line text new)
