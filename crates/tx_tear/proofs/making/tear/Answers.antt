use Rattle.std.proofs.Common.{◌∙◌}
use Rattle.tx_tear.proofs.Limits.{built_within}
use Rattle.tx_tear.proofs.making.tear.Goals as goal

pub returns-clause-within : goal.returns-clause-within
returns-clause-within c =
    let torn = rw c.deref.ensures at c.in_ok-groups.ensures in
    let count = rw c.deref-2.ensures at c.group_count.ensures in
    built_within c.args.tx.now c.id.result c.in_ok-groups.groups.items c.from_vec.result c.group_count.result c.requires c.id.ensures torn count (c.from_vec.ensures ∙ c.truncate.ensures.items)
