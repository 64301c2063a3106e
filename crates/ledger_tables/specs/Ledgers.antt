-- What contracts see of a node's ledger, and what one change makes of it.
use Rattle.std.specs.Prelude.{ℕ, ◌+◌, ◌<◌, ◌≤◌, ◌^◌, ◌&&◌, not, is_some, find, Bool, true, List, [], ◌∷◌, ◌++◌, ◌≡◌, Option, Some, None, IfSome, option_to_list, length, map, if◌then◌else◌}
use Rattle.std.specs.List.{list_all}
use Rattle.net_base.specs.declared.values.Hash32.{Hash32}
use Rattle.net_base.specs.declared.names.StateRef.{StateRef}
use Rattle.net_base.specs.declared.values.Party.{Party}
use Rattle.ledger_types.specs.declared.tx.Tx.{Tx}
use Rattle.ledger_types.specs.declared.tx.SignedTx.{SignedTx}
use Rattle.ledger_types.specs.declared.held.Held.{Held}
use Rattle.ledger_types.specs.declared.notary.Entry.{Entry}
use Rattle.ledger_types.specs.declared.change.LedgerChange.{LedgerChange}
use Rattle.ledger_types.specs.Signatures.{tx_id}
use Rattle.ledger_types.specs.Names.{party_eq, ref_eq, has_repeat}
use Rattle.ledger_types.specs.Notary.{repeats}
use Rattle.ledger_types.specs.Stores.{may_record, untagged}
use Rattle.ledger_types.specs.Vaults.{Lock, has_coin, locks_of, released}
use Rattle.tx_store.specs.Stored.{Stored}
use Rattle.vault.specs.Holdings.{Holding, held_after, locked_in, freed_of, IsVault}
use Rattle.notary_book.specs.Booked.{Booked}

-- what contracts see of a node's ledger: the recorded transactions, the vault over them, and the notary's book
pub record Ledger : Type 0 where
  pub store : Stored
  pub vault : Holding
  pub book : Booked

-- these states are the party's vault over the recorded transactions, by some soft locks
pub record HasVault (me : Party) (recorded : List (Hash32 × Tx)) (held : List Held) : Type 0 where
  pub locks : List Lock
  pub is : IsVault me recorded locks held

-- ---- what a change asks

-- where there is a transaction, the store has fewer than 2^32 with it
abbrev pub HasPlace : Option SignedTx → List (Hash32 × SignedTx) → Type 0
HasPlace recorded store = IfSome recorded (λ _. length store + 1 < 2 ^ 32)

-- room for the transaction of a change, in the store and in the vault
abbrev pub HasRecordRoom : Option SignedTx → Stored → Holding → Type 0
HasRecordRoom recorded store vault = IfSome recorded (λ stx. (0 < store.room) × (length stx.tx.outputs ≤ vault.room))

-- room for the entry of a change in the book
abbrev pub HasEntryRoom : Option Entry → Booked → Type 0
HasEntryRoom booked book = IfSome booked (λ _. 0 < book.room)

-- ---- what a change makes

-- the transaction of a change, under its id
abbrev pub recorded_in : Option SignedTx → List (Hash32 × SignedTx)
recorded_in None = []
recorded_in (Some stx) = (tx_id stx.tx, stx) ∷ []

-- how many states the transaction of a change makes
abbrev pub outputs_in : Option SignedTx → ℕ
outputs_in None = 0
outputs_in (Some stx) = length stx.tx.outputs

-- the states of a vault behind the transaction of a change
abbrev pub held_with : Party → Option SignedTx → List Held → List Held
held_with me None states = states
held_with me (Some stx) states = held_after me (tx_id stx.tx) stx.tx states

-- the states without a flow's locks, where it ends
abbrev pub freed_at_end : ℕ → Bool → List Held → List Held
freed_at_end flow ended states = if ended then map (freed_of flow) states else states

-- the locks without a flow's, where it ends
abbrev pub released_at_end : ℕ → Bool → List Lock → List Lock
released_at_end flow ended locks = if ended then released flow locks else locks

-- the states behind a change: its transaction is recorded, its states are locked, and then the locks of a flow that ends are released
abbrev pub held_by : Party → LedgerChange → List Held → List Held
held_by me change states = freed_at_end change.owner change.ended (map (locked_in change.owner change.locked) (held_with me change.recorded states))

-- the soft locks behind a change
abbrev pub locks_by : LedgerChange → List Lock → List Lock
locks_by change locks = released_at_end change.owner change.ended (locks ++ locks_of change.owner change.locked)

-- ---- which change may be applied

-- whether an entry, where there is one, may be added: the party is its network's notary, and no entry answers the same request
abbrev pub may_book : Party → Party → List Entry → Option Entry → Bool
may_book me notary entries None = true
may_book me notary entries (Some e) = party_eq me notary && not (is_some (find (repeats e.request) entries))

-- whether these states are coins behind the transaction, and none stands twice
abbrev pub may_lock : Party → Option SignedTx → List Held → List StateRef → Bool
may_lock me recorded states locked = list_all (has_coin (held_with me recorded states)) locked && not (has_repeat ref_eq locked)

-- whether a change may be applied: its transaction may be recorded, its states locked and its entry added
unfoldable pub may_apply : Party → Party → List (Hash32 × SignedTx) → List Held → List Entry → LedgerChange → Bool
may_apply me notary store states entries change = may_record store change.recorded && (may_lock me change.recorded states change.locked && may_book me notary entries change.booked)

-- ---- what applying a change leaves

-- the ledger behind a change: its transaction recorded, its states locked, its entry booked, and a flow that ends with no locks
pub record IsChanged (change : LedgerChange) (old new : Ledger) : Type 0 where
  pub store : new.store.list ≡ old.store.list ++ recorded_in change.recorded
  pub party : new.vault.party ≡ old.vault.party
  pub held : new.vault.held ≡ held_by old.vault.party change old.vault.held
  pub book : new.book.entries ≡ old.book.entries ++ option_to_list change.booked
  pub vault : (locks : List Lock) → IsVault old.vault.party (untagged old.store.list) locks old.vault.held → IsVault old.vault.party (untagged new.store.list) (locks_by change locks) new.vault.held

-- a change takes no more room in each table than was made for it
pub record TakesRoom (change : LedgerChange) (old new : Ledger) : Type 0 where
  pub store : old.store.room ≤ new.store.room + length (recorded_in change.recorded)
  pub vault : old.vault.room ≤ new.vault.room + outputs_in change.recorded
  pub book : old.book.room ≤ new.book.room + length (option_to_list change.booked)
