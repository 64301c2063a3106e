-- How a refusal is told: its number and its name.
use Rattle.std.specs.Prelude.{ℕ, List, codes}
use Rattle.network_core.specs.declared.refusal.Refusal.{Refusal}
use Rattle.network_core.specs.declared.refusal.Refusal.TheVariants as refusal

-- its number
abbrev pub code_of : Refusal → ℕ
code_of refusal.Syntax = 1
code_of refusal.UnknownNode = 2
code_of refusal.NodeDown = 3
code_of refusal.NodeUp = 4
code_of refusal.UnknownClass = 5
code_of refusal.BadArgs = 6
code_of refusal.NoFrame = 7
code_of refusal.NoFuse = 8
code_of refusal.Full = 9
code_of refusal.Backwards = 10
code_of refusal.NoFlow = 11
code_of refusal.NoTransaction = 12
code_of refusal.Journal = 13

-- its name
abbrev pub name_of : Refusal → List ℕ
name_of refusal.Syntax = codes "Syntax"
name_of refusal.UnknownNode = codes "UnknownNode"
name_of refusal.NodeDown = codes "NodeDown"
name_of refusal.NodeUp = codes "NodeUp"
name_of refusal.UnknownClass = codes "UnknownClass"
name_of refusal.BadArgs = codes "BadArgs"
name_of refusal.NoFrame = codes "NoFrame"
name_of refusal.NoFuse = codes "NoFuse"
name_of refusal.Full = codes "Full"
name_of refusal.Backwards = codes "Backwards"
name_of refusal.NoFlow = codes "NoFlow"
name_of refusal.NoTransaction = codes "NoTransaction"
name_of refusal.Journal = codes "Journal"
