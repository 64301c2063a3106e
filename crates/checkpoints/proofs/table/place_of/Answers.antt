use Rattle.std.proofs.Common.{ℕ, List, subst}
use Rattle.std.proofs.lemmas.List.Sorted.{searched}
use Rattle.checkpoints.proofs.Places.{Searched, placed}
use Rattle.checkpoints.proofs.table.place_of.Goals as goal

pub returns-clause-place : goal.returns-clause-place
returns-clause-place c lower upper there is all_lower all_upper =
    let told = searched c.args.live.now c.args.flow c.binary_search.result c.binary_search.ensures.position c.requires in
    placed lower upper there c.args.flow c.binary_search.result (subst (λ (xs : List ℕ). Searched c.args.flow xs c.binary_search.result) is told) all_lower all_upper
