use Rattle.std.proofs.Common.{List, [], sym, subst}
use Rattle.net_base.specs.declared.values.Hash32.{Hash32}
use Rattle.net_base.specs.declared.values.Party.{Party}
use Rattle.std.specs.List.{AllByRecursion}
use Rattle.ledger_types.specs.declared.tx.SignedTx.{SignedTx}
use Rattle.ledger_types.specs.Requests.{IsEntry}
use Rattle.ledger_types.specs.Stores.{untagged}
use Rattle.vault.specs.Holdings.{IsVault}
use Rattle.ledger_tables.proofs.tables.LedgerTables.new.Goals as goal

pub invariant_of-result : goal.invariant_of-result
invariant_of-result c =
    let held = c.new-2.result.held in
    let stored = subst (λ (l : List (Hash32 × SignedTx)). IsVault c.args.party (untagged l) [] held) (sym c.new.ensures) c.new-2.ensures.vault in
    let none : AllByRecursion IsEntry c.new-3.result.entries = subst (AllByRecursion IsEntry) (sym c.new-3.ensures) tt in
    (record { locks = []; is = subst (λ (p : Party). IsVault p (untagged c.new.result.list) [] held) (sym c.new-2.ensures.party) stored }, none)
