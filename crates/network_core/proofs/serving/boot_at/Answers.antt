use Rattle.std.proofs.Common.{◌≡◌, inr, None, arith}
use Rattle.std.proofs.lemmas.Grind.{common_steps}
use Rattle.network_core.proofs.serving.boot_at.Goals as goal

pub returns : goal.returns
returns g c =
    let down : c.args.node.now.journal ≡ None = grind (arith, common_steps, c.is_up.ensures, c.if-is_up.false) in
    let r = c.restore_power.ensures in
    inr (down, (c.restore_power.new.self, c.boot.result, record { journal = r.journal; identity = r.identity; disk = r.disk; calm = r.calm; stays_calm = r.stays_calm }, c.boot.ensures, c.boot_outcome.ensures))
