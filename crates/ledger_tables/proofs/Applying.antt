-- What the test of a change says of its parts.
use Rattle.std.proofs.Common.{◌≡◌, true, false, not, ◌&&◌, List}
use Rattle.std.specs.List.{list_all}
use Rattle.std.proofs.lemmas.Bool.{and_parts, not-true}
use Rattle.net_base.specs.declared.values.Hash32.{Hash32}
use Rattle.net_base.specs.declared.values.Party.{Party}
use Rattle.ledger_types.specs.declared.tx.SignedTx.{SignedTx}
use Rattle.ledger_types.specs.declared.held.Held.{Held}
use Rattle.ledger_types.specs.declared.notary.Entry.{Entry}
use Rattle.ledger_types.specs.declared.change.LedgerChange.{LedgerChange}
use Rattle.ledger_types.specs.Names.{ref_eq, has_repeat}
use Rattle.ledger_types.specs.Stores.{may_record}
use Rattle.ledger_types.specs.Vaults.{has_coin}
use Rattle.ledger_tables.specs.Ledgers.{held_with, may_apply, may_lock, may_book}

-- what is so of a change that may be applied
pub record MayParts (me notary : Party) (store : List (Hash32 × SignedTx)) (states : List Held) (entries : List Entry) (change : LedgerChange) : Type 0 where
  pub next : may_record store change.recorded ≡ true
  pub coins : list_all (has_coin (held_with me change.recorded states)) change.locked ≡ true
  pub once : has_repeat ref_eq change.locked ≡ false
  pub booked : may_book me notary entries change.booked ≡ true

pub may_parts : (me notary : Party) (store : List (Hash32 × SignedTx)) (states : List Held) (entries : List Entry) (change : LedgerChange) → may_apply me notary store states entries change ≡ true → MayParts me notary store states entries change
unfolding may_apply
may_parts me notary store states entries change may =
    let p = and_parts (may_record store change.recorded) (may_lock me change.recorded states change.locked && may_book me notary entries change.booked) may in
    let q = and_parts (may_lock me change.recorded states change.locked) (may_book me notary entries change.booked) p.1 in
    let r = and_parts (list_all (has_coin (held_with me change.recorded states)) change.locked) (not (has_repeat ref_eq change.locked)) q.0 in
    record { next = p.0; coins = r.0; once = not-true _ r.1; booked = q.1 }
