use Rattle.std.proofs.Common.{◌≡◌, ℕ, List, Result, Ok, Err, sym, ap, subst}
use Rattle.ledger_types.specs.declared.verdict.Verdict.TheVariants as verdict
use Rattle.net_model.specs.Environment.{Judgement, environment, meaning}
use Rattle.node_core.specs.declared.faults.SharedTurn.{SharedTurn}
use Rattle.node_core.specs.Claims.{TurnAnswersBeside}
use Rattle.node_core.proofs.Claims.{handed}
use Rattle.node_acts.specs.Script.{script, script_at}
use Rattle.node_acts.proofs.bench.turned.Goals as goal

pub new-requires : goal.new-requires
new-requires c =
    let old = c.args.node.now.node in
    let judge : Judgement = λ tx resolved. verdict.Accepted in
    let w = environment (meaning script script_at judge) old.identity in
    let t = subst (λ (x : SharedTurn). TurnAnswersBeside w c.args.now.0 c.args.pick c.args.node.now.claims old (Ok x) c.turn.new.self.node) c.in-Ok-Job.field-0-is (c.in-Ok-Job.ensures.turn judge) in
    (handed w c.args.now.0 c.args.pick c.args.node.now.claims c.in-Ok-Job.job old c.turn.new.self.node t).0
