use Rattle.std.proofs.Common.{true≢false, sym}
use Rattle.session_table.specs.Changes.{begun_on}
use Rattle.session_table.proofs.Fitting.{continues_by, continues_nowhere}
use Rattle.session_table.proofs.sessions.Sessions.continues.Goals as goal

pub returns-in-None : goal.returns-in-None
returns-in-None c = λ stamp. (
  λ yes. absurd (true≢false (sym yes)),
  λ goes. absurd (continues_nowhere c.args.self.now.party c.args.item.now c.args.done.now (begun_on c.args.change.now c.args.self.now.list) c.in-None.ensures stamp goes),
)

pub returns-in-Some : goal.returns-in-Some
returns-in-Some c = continues_by c.args.self.now.party c.args.item.now c.args.done.now (begun_on c.args.change.now c.args.self.now.list) c.outgoing.result c.in-Some.first c.count_of.result c.is_placed.result c.in-Some.ensures c.outgoing.ensures c.count_of.ensures c.is_placed.ensures
