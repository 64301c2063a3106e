use Rattle.std.proofs.Common.{◌∙◌, sym}
use Rattle.net_base.specs.Laws.{cancels}
use Rattle.net_base.proofs.spelt.decode.Goals as goal

pub returns-in-Ok : goal.returns-in-Ok
returns-in-Ok g c =
    let laws = g.met.T.Spelt.laws in
    let h = rw c.again-trial.ensures at c.in-Ok.ensures in
    let v = c.in-Ok.value in
    let rest = c.read_part.new.from.left in
    let t = laws.takes c.args.from.now.left (v, rest) c.place-at.ensures.bytes h.0 in
    ((t.1, t.0), (h.1, λ w more b. (cancels laws w v more rest b.0 t.1 (sym b.1 ∙ t.0)).0))
