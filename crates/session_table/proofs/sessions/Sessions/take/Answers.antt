use Rattle.std.proofs.Common.{ℕ, sym, ◌∙◌, ap, Option}
use Rattle.net_base.specs.declared.names.Key.{Key}
use Rattle.session_wire.specs.Sessions.{taken_on}
use Rattle.session_table.proofs.sessions.Sessions.take.Goals as goal

pub set_taken-requires : goal.set_taken-requires
set_taken-requires c = c.requires c.in-Some.key c.in-Some.number c.in-Some.is

pub returns-in-Some-clause-list : goal.returns-in-Some-clause-list
returns-in-Some-clause-list c = c.set_taken.ensures.list ∙ sym (ap (λ (o : Option (Key × ℕ)). taken_on o c.args.self.now.list) c.in-Some.is)

pub returns-in_default-clause-list : goal.returns-in_default-clause-list
returns-in_default-clause-list c = sym (ap (λ (o : Option (Key × ℕ)). taken_on o c.args.self.now.list) c.in_default.is)
