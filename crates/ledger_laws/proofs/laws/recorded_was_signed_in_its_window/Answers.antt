use Rattle.ledger_laws.specs.Windows.{KeepsWindows}
use Rattle.ledger_laws.proofs.Placed.{in_worlds, on_ways, windows_each_run}
use Rattle.ledger_laws.proofs.laws.recorded_was_signed_in_its_window.Goals as goal

pub returns-clause-worlds : goal.returns-clause-worlds
returns-clause-worlds g c = λ contracts. in_worlds _ KeepsWindows (windows_each_run _ g.met.F.FlowSet.keeps_tags g.met.F.FlowSet.begins_bare (λ id. g.J.Judge.names_notary contracts))

pub returns-clause-moments : goal.returns-clause-moments
returns-clause-moments g c = λ contracts. on_ways _ KeepsWindows (windows_each_run _ g.met.F.FlowSet.keeps_tags g.met.F.FlowSet.begins_bare (λ id. g.J.Judge.names_notary contracts))
