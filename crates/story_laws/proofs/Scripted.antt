-- What holds of coherent worlds and on ways holds throughout a script.
use Rattle.std.proofs.Common.{ℕ, List, inl, inr, map, arith}
use Rattle.disk_journal.specs.Journal.{journal_of}
use Rattle.net_base.specs.declared.names.Identity.{Identity}
use Rattle.net_base.specs.Names.{IsIdentity}
use Rattle.net_model.specs.Environment.{environment, Meaning}
use Rattle.network_core.specs.Drains.{Pair}
use Rattle.network_core.specs.Moments.{Instant, IsChoice}
use Rattle.shell_words.specs.Program.{IsNetwork}
use Rattle.shell_words.specs.declared.program.NetworkWords.{NetworkWords}
use Rattle.node_shell.proofs.Together.{scripts_are_passages}
use Rattle.work_law.specs.Passages.{Passage, goes, works, IsPassed}
use Rattle.ledger_laws.specs.Places.{Fact, InWorlds, OnWays}
use Rattle.story_laws.specs.Scripts.{known_as, InScripts}

-- it is the identity of a node
is_identity : (n : NetworkWords) → IsNetwork n → IsIdentity (known_as n)
is_identity n h = let some = h.some in let few = h.few in let notary = h.notary in (omega arith, ((omega (arith, some), omega (arith, few)), omega (arith, few, notary)))

-- a fact that holds on ways holds on passages
on_passages : {F : Type 0} (m : Meaning F) (fact : Fact F) → OnWays m fact → (id : Identity) → IsIdentity id → (a b : Pair (environment m id)) (passage : Passage m id a b) (s : Instant) (images : List (List ℕ))
    → IsPassed passage s → IsChoice s images → fact (environment m id) (map journal_of images)
on_passages m fact ways id is a b (goes way) s images on choice = ways id a b way s images is on choice
on_passages m fact ways id is a d (works {b = b} {c = c} commits before worked way) s images (inl on) choice = on_passages m fact ways id is a b before s images on choice
on_passages m fact ways id is a d (works {b = b} {c = c} commits before worked way) s images (inr on) choice = ways id c d way s images is on choice

pub in_scripts : {F : Type 0} (m : Meaning F) (fact : Fact F) → InWorlds m fact → OnWays m fact → InScripts m fact
in_scripts m fact worlds ways n a b left0 left1 written0 written1 count s run is =
    let one = scripts_are_passages m (known_as n) a b left0 left1 written0 written1 count s run in
    record {
      passage = one.whole.passage;
      few = one.whole.few;
      moments = λ t images on choice. on_passages m fact ways (known_as n) (is_identity n is) a b one.whole.passage t images on choice;
      worlds = λ u lists passes choice. worlds (known_as n) u.world lists (is_identity n is) u.coherent choice;
    }
