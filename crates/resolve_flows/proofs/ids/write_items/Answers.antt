use Rattle.std.proofs.Common.{take, subst, List, ℕ}
use Rattle.std.specs.List.{flat_map}
use Rattle.std.proofs.lemmas.Result.{err_from_is_err_and}
use Rattle.net_base.specs.Parts.{Grows}
use Rattle.net_base.proofs.Items.{Grows-back}
use Rattle.resolve_flows.proofs.ids.write_items.Goals as goal

pub returns-in_err-write_part : goal.returns-in_err-write_part
returns-in_err-write_part g c =
    let p = err_from_is_err_and c.from_residual.result c.from_residual.ensures.1 in
    let so_far = subst (λ (o : List ℕ). Grows o c.write_part.new.out) c.loop-item.invariant c.in_err-write_part.ensures in
    rw p.1 (Grows-back c.args.out.now (flat_map g.T.Spelt.spelling (take c.loop-item.item-index c.args.items.now)) c.write_part.new.out so_far)
