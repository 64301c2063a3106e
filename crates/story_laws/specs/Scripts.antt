-- What holds throughout a script.
use Rattle.std.specs.Prelude.{ℕ, ◌≤◌, List, map, Option}
use Rattle.node_core.specs.Disks.{Image, spelt}
use Rattle.net_base.specs.declared.names.Identity.{Identity}
use Rattle.net_model.specs.Environment.{environment, party, Meaning}
use Rattle.network_core.specs.Begins.{member}
use Rattle.network_core.specs.Drains.{Pair}
use Rattle.network_core.specs.Moments.{Instant, IsChoice}
use Rattle.work_law.specs.Passages.{Passage, times_worked, IsPassed}
use Rattle.network_core.specs.Worlds.{Choice}
use Rattle.shell_words.specs.Program.{IsNetwork}
use Rattle.shell_words.specs.declared.program.NetworkWords.{NetworkWords}
use Rattle.node_shell.specs.declared.statuses.Status.{Status}
use Rattle.node_shell.specs.Story.{all_lines, ScriptRun}
use Rattle.node_shell.specs.Together.{PairLink, PairShort, EndComesBy, work_asked_by}
use Rattle.ledger_laws.specs.Places.{Fact}

-- a fact of all journals holds at every moment on a passage, on which the nodes were worked on side by side this many times at most, whichever images power cuts leave of the disks, and of each world that is passed, whichever journals they leave of it
pub record Throughout {F : Type 0} (m : Meaning F) (fact : Fact F) (id : Identity) (most : ℕ) (a b : Pair (environment m id)) (passes : Pair (environment m id) → Type 0) : Type 0 where
  pub passage : Passage m id a b
  pub few : times_worked passage ≤ most
  pub moments : (s : Instant) (images : List Image) → IsPassed passage s → IsChoice s images → fact (environment m id) (map spelt images)
  pub worlds : (u : Pair (environment m id)) (lists : List (List (List ℕ))) → passes u → Choice u.world lists → fact (environment m id) lists

-- the identity by which the network of these words is known
abbrev pub known_as : NetworkWords → Identity
known_as n = member n.nodes (party n.notary) 0

-- so it is of each script of networks together with worlds, of the world in which it begins and of that after each line
abbrev pub InScripts : {F : Type 0} → Meaning F → Fact F → Type 0
InScripts m fact = (n : NetworkWords) (a b : Pair (environment m (known_as n))) (left0 left1 written0 written1 : Option (List ℕ)) (count : ℕ) (s : Status)
    (run : ScriptRun (PairLink m (known_as n)) (PairShort m (known_as n)) a left0 left1 written0 written1 count b s) → IsNetwork n
    → Throughout m fact (known_as n) (work_asked_by (all_lines run.lines run.rest)) a b (EndComesBy (PairLink m (known_as n)) (PairShort m (known_as n)) a left1 written0 written1 count run.lines run.rest b s run.ends)
