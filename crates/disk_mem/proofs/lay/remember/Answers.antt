use Rattle.std.proofs.Common.{rules, ◌≡◌, ◌++◌, ◌∷◌, []}
use Rattle.disk_mem.proofs.lay.remember.Goals as goal

pub returns-clause-items : goal.returns-clause-items
returns-clause-items c =
    let pushed : c.push.new.self.items ≡ c.args.past.now.items ++ c.of.result ∷ [] = search rules in
    (c.of.result, c.of.ensures, pushed)
