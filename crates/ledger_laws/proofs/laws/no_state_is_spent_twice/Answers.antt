use Rattle.ledger_laws.specs.Ledgers.{HasNoneSpentTwice}
use Rattle.ledger_laws.specs.Places.{Made}
use Rattle.ledger_laws.proofs.Placed.{in_worlds, on_ways, spent_each_run}
use Rattle.ledger_laws.proofs.laws.no_state_is_spent_twice.Goals as goal

pub returns-clause-worlds : goal.returns-clause-worlds
returns-clause-worlds g c = λ contracts. in_worlds _ (Made HasNoneSpentTwice) (spent_each_run _ g.met.F.FlowSet.keeps_tags g.met.F.FlowSet.begins_bare (λ id. g.J.Judge.names_notary contracts))

pub returns-clause-moments : goal.returns-clause-moments
returns-clause-moments g c = λ contracts. on_ways _ (Made HasNoneSpentTwice) (spent_each_run _ g.met.F.FlowSet.keeps_tags g.met.F.FlowSet.begins_bare (λ id. g.J.Judge.names_notary contracts))
