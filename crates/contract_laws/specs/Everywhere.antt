-- Where a fact of all journals holds.
use Rattle.net_model.specs.Environment.{Meaning}
use Rattle.ledger_laws.specs.Places.{Fact, InWorlds, OnWays}
use Rattle.story_laws.specs.Scripts.{InScripts}

-- of every coherent world, whichever journals power cuts leave of it; at every moment of a way, whichever images they leave of the disks; and throughout a script but within `workers`
pub record Everywhere {F : Type 0} (m : Meaning F) (fact : Fact F) : Type 0 where
  pub worlds : InWorlds m fact
  pub moments : OnWays m fact
  pub scripts : InScripts m fact
