use Rattle.std.proofs.Common.{sym, ◌∙◌}
use Rattle.session_acts.proofs.Fitting.{taking_made}
use Rattle.session_acts.proofs.Limits.{taking_within}
use Rattle.session_acts.proofs.Owning.{receives_made}
use Rattle.session_acts.proofs.acts.receive.Goals as goal

pub returns-clause-done : goal.returns-clause-done
returns-clause-done c = receives_made c.args.flow c.args.key.now c.args.sessions.now.list c.in-Some.body.now c.in_ok-with.with c.new.result c.taken_with.result (sym c.owns.ensures ∙ c.if-not-owns.false) c.in-Some.ensures c.in_ok-with.ensures c.new.ensures c.taken_with.ensures.taken

pub returns-clause-fits : goal.returns-clause-fits
returns-clause-fits c = λ stamp. taking_made c.args.sessions.now.party stamp c.args.sessions.now.list c.args.flow c.args.key.now c.new.result c.taken_with.result (sym c.owns.ensures ∙ c.if-not-owns.false) c.new.ensures c.taken_with.ensures.taken

pub returns-clause-limits : goal.returns-clause-limits
returns-clause-limits c = λ key. taking_within c.args.flow c.new.result c.taken_with.result c.new.ensures (c.taken_with.ensures.limits key)
