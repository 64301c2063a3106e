use Rattle.std.proofs.Common.{◌≡◌, ◌∙◌, ◌+◌, ◌/◌, ◌%◌, length, take, arith, rules}
use Rattle.std.proofs.lemmas.List.{length-take-le}
use Rattle.component_merkle.proofs.Folding.{one_up}
use Rattle.component_merkle.proofs.tree.+root_padded.Goals as goal

pub returns : goal.returns
returns t c d fits least =
    let old = c.args.leaves.now in
    let new = c.fold_pairs.new.leaves in
    let half = length old / 2 + length old % 2 in
    let same : length new ≡ length old = search rules in
    let long : length (take half new) ≡ half = length-take-le half new (omega (arith, same)) in
    one_up d c.args.pad.now old new c.root_padded.result (omega (arith, c.requires, c.if-count-eq1.false)) same c.fold_pairs.ensures fits least
    (λ e le lt. c.root_padded.ensures e le lt ∙ c.pad_above-above.ensures e (take half new) long (omega (arith, long, le)) (omega (arith, long, lt)))
