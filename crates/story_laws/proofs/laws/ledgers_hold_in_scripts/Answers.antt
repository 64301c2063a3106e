use Rattle.ledger_laws.specs.Ledgers.{HasOneConsumerEach, IsSignedInBook, HasWholeChains, HasNoneSpentTwice}
use Rattle.ledger_laws.specs.Windows.{KeepsWindows}
use Rattle.ledger_laws.specs.Places.{Made}
use Rattle.ledger_laws.proofs.Placed.{in_worlds, on_ways, one_each_run, chains_each_run, signed_each_run, spent_each_run, windows_each_run}
use Rattle.story_laws.proofs.Scripted.{in_scripts}
use Rattle.story_laws.proofs.laws.ledgers_hold_in_scripts.Goals as goal

pub returns-clause-one_consumer : goal.returns-clause-one_consumer
returns-clause-one_consumer g c = λ contracts.
    in_scripts _ (Made HasOneConsumerEach) (in_worlds _ (Made HasOneConsumerEach) (one_each_run _)) (on_ways _ (Made HasOneConsumerEach) (one_each_run _))

pub returns-clause-signed : goal.returns-clause-signed
returns-clause-signed g c = λ contracts.
    in_scripts _ (Made IsSignedInBook) (in_worlds _ (Made IsSignedInBook) (signed_each_run _ g.met.F.FlowSet.keeps_tags g.met.F.FlowSet.begins_bare (λ id. g.J.Judge.names_notary contracts)))
    (on_ways _ (Made IsSignedInBook) (signed_each_run _ g.met.F.FlowSet.keeps_tags g.met.F.FlowSet.begins_bare (λ id. g.J.Judge.names_notary contracts)))

pub returns-clause-whole_chains : goal.returns-clause-whole_chains
returns-clause-whole_chains g c = λ contracts.
    in_scripts _ (Made HasWholeChains) (in_worlds _ (Made HasWholeChains) (chains_each_run _)) (on_ways _ (Made HasWholeChains) (chains_each_run _))

pub returns-clause-none_twice : goal.returns-clause-none_twice
returns-clause-none_twice g c = λ contracts.
    in_scripts _ (Made HasNoneSpentTwice) (in_worlds _ (Made HasNoneSpentTwice) (spent_each_run _ g.met.F.FlowSet.keeps_tags g.met.F.FlowSet.begins_bare (λ id. g.J.Judge.names_notary contracts)))
    (on_ways _ (Made HasNoneSpentTwice) (spent_each_run _ g.met.F.FlowSet.keeps_tags g.met.F.FlowSet.begins_bare (λ id. g.J.Judge.names_notary contracts)))

pub returns-clause-windows : goal.returns-clause-windows
returns-clause-windows g c = λ contracts.
    in_scripts _ KeepsWindows (in_worlds _ KeepsWindows (windows_each_run _ g.met.F.FlowSet.keeps_tags g.met.F.FlowSet.begins_bare (λ id. g.J.Judge.names_notary contracts)))
    (on_ways _ KeepsWindows (windows_each_run _ g.met.F.FlowSet.keeps_tags g.met.F.FlowSet.begins_bare (λ id. g.J.Judge.names_notary contracts)))
