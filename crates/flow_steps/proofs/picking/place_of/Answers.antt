use Rattle.std.proofs.Common.{ℕ, arith, rules}
use Rattle.std.proofs.Math.Dec.{ltb}
use Rattle.std.proofs.lemmas.Bool.{ltb-true}
use Rattle.std.proofs.lemmas.List.Sorted.{IsPartitionPoint-from_clause, IsPartitionedBy-ltb}
use Rattle.flow_steps.proofs.Firsts.{rising_by}
use Rattle.flow_steps.proofs.picking.place_of.Goals as goal

pub returns-clause-below : goal.returns-clause-below
returns-clause-below c =
    let parted = IsPartitionedBy-ltb (λ (n : ℕ). n) _ c.args.number (rising_by _ c.requires) in
    let point = IsPartitionPoint-from_clause (λ (n : ℕ). ltb n c.args.number) _ _ c.partition_point.ensures.partitioned parted (λ a r q k. search rules) in
    λ k l. ltb-true _ _ (point.0 k 0 (omega arith) l)
