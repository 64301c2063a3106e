-- Stories of networks together with the worlds that they show, and what a whole script comes by.
use Rattle.std.proofs.Common.{inl, inr}
use Rattle.std.specs.Prelude.{◌≡◌, ◌⊎◌, ℕ, ◌+◌, ◌≤◌, List, [], ◌∷◌, map, Option, Some, None, false}
use Rattle.outside.specs.Disk.{DiskSeen}
use Rattle.net_base.specs.declared.causes.Cause.{Cause}
use Rattle.net_base.specs.declared.names.Identity.{Identity}
use Rattle.net_model.specs.Environment.{Environment, environment, Meaning}
use Rattle.net_model.specs.Runs.{merged}
use Rattle.node_tables.specs.Journals.{causes_of}
use Rattle.node_core.specs.Disks.{Image, spelt}
use Rattle.network_core.specs.declared.steps.Outcome.{Outcome}
use Rattle.network_core.specs.declared.steps.Step.{Step}
use Rattle.network_core.specs.Acknowledged.{Acknowledged, StandsOnce}
use Rattle.network_core.specs.Drains.{Pair, with_world}
use Rattle.network_core.specs.Left.{HoldImages, MayBegin}
use Rattle.network_core.specs.Moments.{Instant, IsChoice, IsKept}
use Rattle.network_core.specs.Following.{PairServes, PairFollows}
use Rattle.network_core.specs.Worlds.{World, NetSeen, Shows, AreOpenable, Coherent}
use Rattle.work_law.specs.Works.{WorldWorks}
use Rattle.work_law.specs.Passages.{Passage, times_worked, IsPassed}
use Rattle.flow_workers.specs.Ends.{WorkedOn, KeepsTails}
use Rattle.shell_words.specs.declared.commands.Command.{Command}
use Rattle.shell_words.specs.declared.commands.Command.TheVariants as command
use Rattle.shell_words.specs.Script.{words_of, asked_by}
use Rattle.node_shell.specs.declared.replies.Reply.{Reply}
use Rattle.node_shell.specs.declared.replies.Reply.TheVariants.{Told}
use Rattle.node_shell.specs.declared.statuses.Status.{Status}
use Rattle.node_shell.specs.declared.statuses.Status.TheVariants as status
use Rattle.node_shell.specs.Loads.{CourseStates, GoesOver}
use Rattle.node_shell.specs.Lines.{Doing, asking, making, going, doing_of, recorded_in, waiting_in, RepliesTo, Leaves, Link, RunsShort}
use Rattle.node_shell.specs.Responds.{net_states, recorded_seen, NetLink, NetLeft, NetShort}
use Rattle.node_shell.specs.Story.{Story, begins, goes_on, all_lines, EndsWith, ScriptRun}

-- ---- a line

-- how a step ended, of a network and of the world that it shows at once: its outcome, which is told; or memory ran out before it or within it
abbrev pub StepGoes : {F : Type 0} (m : Meaning F) (id : Identity)
    → Step → Option Reply → Pair (environment m id) → Pair (environment m id) → Type 0
StepGoes m id s (Some reply) a b = (o : Outcome) × PairServes m id s (Some o) a b × (reply ≡ Told o)
StepGoes m id s None a b = (b ≡ a) ⊎ PairServes m id s None a b

-- networks together with their worlds, as such a command goes over them; what waits in the worlds is kept as in the networks
abbrev pub pair_states : {F : Type 0} (m : Meaning F) (id : Identity) → CourseStates (Pair (environment m id))
pair_states m id = record {
  payers = λ a. (net_states m).payers a.net;
  are_up = λ a. (net_states m).are_up a.net;
  follows = PairFollows m id;
  has_ended = λ p f a. (net_states m).has_ended p f a.net;
  held = λ a. (net_states m).held a.net;
  works = λ commits a b. WorkedOn m a.net b.net commits false × WorldWorks commits a.world b.world × KeepsTails (waiting_in a.world) (waiting_in b.world);
}

-- so of what a line does; where it only asks both stay as they are
abbrev pub Goes : {F : Type 0} (m : Meaning F) (id : Identity)
    → Doing → Option Reply → Pair (environment m id) → Pair (environment m id) → Type 0
Goes m id (making s) reply a b = StepGoes m id s reply a b
Goes m id (going course) reply a b = GoesOver (pair_states m id) m.machine course a reply b
Goes m id asking reply a b = b ≡ a

abbrev pub LineGoes : {F : Type 0} (m : Meaning F) (id : Identity)
    → List ℕ → Option Reply → Pair (environment m id) → Pair (environment m id) → Type 0
LineGoes m id line reply a b = Goes m id (doing_of m.machine (recorded_seen m.frame_at a.net) (asked_by line) (words_of line)) reply a b

-- one link of a story of networks together with worlds: it is one of the networks and, with the same reply, one of the worlds, and what the line made it
-- made of both at once
pub record PairLink {F : Type 0} (m : Meaning F) (id : Identity) (a : Pair (environment m id))
    (line text : List ℕ) (b : Pair (environment m id)) : Type 0 where
  pub net : NetLink m a.net line text b.net
  pub replies : RepliesTo (environment m id) a.world line net.reply b.world
  pub goes : LineGoes m id line (Some net.reply) a b

-- a line was left off for want of memory
pub record PairLeft {F : Type 0} (m : Meaning F) (id : Identity) (a : Pair (environment m id))
    (line : List ℕ) (b : Pair (environment m id)) : Type 0 where
  pub net : NetLeft m a.net line b.net
  pub leaves : Leaves (environment m id)
      (doing_of m.machine (recorded_in (environment m id) a.world) (asked_by line) (words_of line)) a.world b.world
  pub goes : LineGoes m id line None a b

-- a line was left without an answer for want of memory: it was left off, or it was served and its answer could not be spelt
abbrev pub PairShort : {F : Type 0} (m : Meaning F) (id : Identity)
    → Pair (environment m id) → List ℕ → Pair (environment m id) → Type 0
PairShort m id a line b = PairLeft m id a line b ⊎ ((text : List ℕ) × PairLink m id a line text b)

-- the network shows some coherent world, and of the two this holds
pub record InPair {F : Type 0} (e : Environment F) (net : NetSeen) (P : Pair e → Type 0) : Type 0 where
  pub world : World
  pub shows : Shows e net world
  pub coherent : Coherent e world
  pub holds : P (with_world net world shows coherent)

-- ---- what a script comes by

-- a story comes by what it begins with, and by what each of its links leads to
abbrev pub ComesBy : {W : Type 0} {link : W → List ℕ → List ℕ → W → Type 0} {start : W} {lines : List (List ℕ)} {out : List ℕ} {last : W}
    → Story link start lines out last → W → Type 0
ComesBy {start = start} begins u = u ≡ start
ComesBy (goes_on {after = after} line text before none link all longer) u = ComesBy before u ⊎ (u ≡ after)

-- so the end of a script: by what the lines that were answered came by, and by what the last one left
abbrev pub EndComesBy : {W : Type 0} (link : W → List ℕ → List ℕ → W → Type 0) (short : W → List ℕ → W → Type 0) (start : W) (left written0 written1 : Option (List ℕ)) (count : ℕ) (lines : List (List ℕ)) (rest : List ℕ) (last : W) (s : Status)
    → EndsWith link short start left written0 written1 count lines rest last s → W → Type 0
EndComesBy link short start left written0 written1 count lines rest last status.Finished h = ComesBy h.1.story
EndComesBy link short start left written0 written1 count lines rest last status.BadWords h = λ u. ⊥
EndComesBy link short start left written0 written1 count lines rest last status.TooLong h = ComesBy h.2.story
EndComesBy link short start left written0 written1 count lines rest last status.ReadFault h = ComesBy h.1.story
EndComesBy link short start left written0 written1 count lines rest last status.WriteFault h = λ u. ComesBy h.0.story u ⊎ (u ≡ last)
EndComesBy link short start left written0 written1 count lines rest last status.DiskFault h = λ u. ⊥
EndComesBy link short start left written0 written1 count lines rest last status.NoMemory (inl h) = λ u. ComesBy h.0.story u ⊎ (u ≡ last)
EndComesBy link short start left written0 written1 count lines rest last status.NoMemory (inr h) = ComesBy h.2.story
EndComesBy link short start left written0 written1 count lines rest last status.BadJournal h = λ u. ⊥

-- ---- laws

-- how many times a command has the nodes worked on side by side: once by `workers`, else never
abbrev pub work_asked : Command → ℕ
work_asked (command.Workers workers turns seed) = 1
work_asked _ = 0

-- so all these lines together
abbrev pub work_asked_by : List (List ℕ) → ℕ
work_asked_by [] = 0
work_asked_by (line ∷ lines) = work_asked (asked_by line) + work_asked_by lines

-- From a network with its world there is a passage to another one, on which the nodes were worked on side by side this many times at most. At every moment on
-- its ways, whichever images power cuts leave of the disks, all is kept, what was acknowledged as it began stands once in the merged journals, and a
-- network whose nodes are down over disks that hold these images shows a coherent world; no opening refuses one, where none refused an image as the passage
-- began.
pub record LeadsOn {F : Type 0} (m : Meaning F) (id : Identity) (most : ℕ) (a b : Pair (environment m id)) : Type 0 where
  pub passage : Passage m id a b
  pub few : times_worked passage ≤ most
  pub kept : (s : Instant) → IsPassed passage s → IsKept (environment m id) a.net s
  pub acknowledged : (s : Instant) → IsPassed passage s → (images : List Image) → IsChoice s images → (p : ℕ) (cause : Cause)
      → Acknowledged (environment m id) a.world p cause → StandsOnce (p, cause) (merged (map (causes_of m.frame_at) (map spelt images)))
  pub again : (s : Instant) → IsPassed passage s → (images : List Image) → IsChoice s images → (disks : List DiskSeen) → HoldImages disks images → MayBegin (environment m id) disks (AreOpenable a.world)

-- a passage leads through the whole script, and one to and one on from all that it comes by
pub record IsOnePassage {F : Type 0} (m : Meaning F) (id : Identity) (most : ℕ) (a b : Pair (environment m id))
    (passes : Pair (environment m id) → Type 0) : Type 0 where
  pub whole : LeadsOn m id most a b
  pub to : (u : Pair (environment m id)) → passes u → LeadsOn m id most a u
  pub on : (u : Pair (environment m id)) → passes u → LeadsOn m id most u b

-- so of each script: the nodes are worked on side by side as often as its lines ask for it, at most
abbrev pub ScriptsArePassages : (F : Type 0) → Type 0
ScriptsArePassages F = (m : Meaning F) (id : Identity) (a b : Pair (environment m id)) (left0 left1 written0 written1 : Option (List ℕ)) (count : ℕ) (s : Status)
    (run : ScriptRun (PairLink m id) (PairShort m id) a left0 left1 written0 written1 count b s)
    → IsOnePassage m id (work_asked_by (all_lines run.lines run.rest)) a b (EndComesBy (PairLink m id) (PairShort m id) a left1 written0 written1 count run.lines run.rest b s run.ends)

-- so of each line, whether it was answered or not: it is a way, unless it asks for work side by side
abbrev pub LinesArePassages : (F : Type 0) → Type 0
LinesArePassages F = (m : Meaning F) (id : Identity) (a b : Pair (environment m id)) (line : List ℕ) → PairShort m id a line b → LeadsOn m id (work_asked (asked_by line)) a b

-- what a script makes of networks together with worlds, it makes of the worlds alone and of the networks alone
pub record IsBoth {F : Type 0} (m : Meaning F) (id : Identity) (a b : Pair (environment m id))
    (left0 left1 written0 written1 : Option (List ℕ)) (count : ℕ) (s : Status) : Type 0 where
  pub worlds : ScriptRun (Link (environment m id)) (RunsShort (environment m id)) a.world left0 left1 written0 written1 count b.world s
  pub nets : ScriptRun (NetLink m) (NetShort m) a.net left0 left1 written0 written1 count b.net s

abbrev pub ScriptsAreBoth : (F : Type 0) → Type 0
ScriptsAreBoth F = (m : Meaning F) (id : Identity) (a b : Pair (environment m id)) (left0 left1 written0 written1 : Option (List ℕ)) (count : ℕ) (s : Status)
    → ScriptRun (PairLink m id) (PairShort m id) a left0 left1 written0 written1 count b s → IsBoth m id a b left0 left1 written0 written1 count s
