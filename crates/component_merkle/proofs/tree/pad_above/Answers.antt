use Rattle.std.proofs.Common.{◌∙◌, sym}
use Rattle.component_merkle.proofs.Padding.{any_pad}
use Rattle.component_merkle.proofs.tree.pad_above.Goals as goal

pub returns-then-is_power_of_two : goal.returns-then-is_power_of_two
returns-then-is_power_of_two c = any_pad c.args.half _ _ (sym c.is_power_of_two.ensures ∙ c.if-is_power_of_two.true)
