use Rattle.ledger_laws.specs.Ledgers.{IsSignedInBook}
use Rattle.ledger_laws.specs.Places.{Made}
use Rattle.ledger_laws.proofs.Placed.{in_worlds, on_ways, signed_each_run}
use Rattle.ledger_laws.proofs.laws.what_is_held_was_signed.Goals as goal

pub returns-clause-worlds : goal.returns-clause-worlds
returns-clause-worlds g c = λ contracts. in_worlds _ (Made IsSignedInBook) (signed_each_run _ g.met.F.FlowSet.keeps_tags g.met.F.FlowSet.begins_bare (λ id. g.J.Judge.names_notary contracts))

pub returns-clause-moments : goal.returns-clause-moments
returns-clause-moments g c = λ contracts. on_ways _ (Made IsSignedInBook) (signed_each_run _ g.met.F.FlowSet.keeps_tags g.met.F.FlowSet.begins_bare (λ id. g.J.Judge.names_notary contracts))
