-- What was added to a list that contracts alone see.
use Rattle.std.specs.Prelude.{List, [], ◌∷◌, ◌++◌}
use Rattle.node_tables.specs.declared.trace.Last.{Last}
use Rattle.node_tables.specs.declared.trace.Last.TheVariants.{Nothing, After}

-- the items, the last one at the end
abbrev pub added : {T : Type 0} → Last T → List T
added Nothing = []
added (After before item) = before.value ++ item.value ∷ []
