use Rattle.ledger_laws.specs.Ledgers.{HasWholeChains}
use Rattle.ledger_laws.specs.Places.{Made}
use Rattle.ledger_laws.proofs.Placed.{in_worlds, on_ways, chains_each_run}
use Rattle.ledger_laws.proofs.laws.back_chains_are_whole.Goals as goal

pub returns-clause-worlds : goal.returns-clause-worlds
returns-clause-worlds g c = λ m. in_worlds _ (Made HasWholeChains) (chains_each_run m)

pub returns-clause-moments : goal.returns-clause-moments
returns-clause-moments g c = λ m. on_ways _ (Made HasWholeChains) (chains_each_run m)
