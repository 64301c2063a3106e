-- What contracts see of a vault, what each call makes of it, and how that goes with the list of recorded transactions.
use Rattle.std.specs.Prelude.{◌≡◌, ℕ, Bool, true, false, not, ◌==◌, ◌&&◌, List, [], ◌++◌, Option, Some, None, map, filter, is_none, if◌then◌else◌}
use Rattle.std.specs.List.{list_any, list_all, AllByRecursion}
use Rattle.net_base.specs.declared.values.Hash32.{Hash32}
use Rattle.net_base.specs.declared.values.Party.{Party}
use Rattle.net_base.specs.declared.names.StateRef.{StateRef}
use Rattle.net_base.specs.declared.names.Token.{Token}
use Rattle.ledger_types.specs.declared.state.TxState.{TxState}
use Rattle.ledger_types.specs.declared.tx.Tx.{Tx}
use Rattle.ledger_types.specs.declared.held.Held.{Held}
use Rattle.ledger_types.specs.Names.{hash_eq, ref_eq, has_ref, has_repeat}
use Rattle.ledger_types.specs.Vaults.{IsHeld, Lock, is_cash, is_coin, is_relevant, outputs_from, vault_of, is_coin_of}

-- what contracts see of a vault: whose it is, what it holds in order of recording, and for how many more states there is room
pub record Holding : Type 0 where
  pub party : Party
  pub held : List Held
  pub room : ℕ

-- whether a state is relevant to the party
abbrev pub is_own : Party → Held → Bool
is_own me h = is_relevant me h.state.body

-- each of these states is within its limits and relevant to the party
abbrev pub AreHeld : Party → List Held → Type 0
AreHeld me states = AllByRecursion IsHeld states × (list_all (is_own me) states ≡ true)

-- the references of states
abbrev pub references_of : List Held → List StateRef
references_of states = map (λ h. h.reference) states

-- whether a state is a coin of the token, and relevant to the party: its owner is this party
abbrev pub is_own_coin : Party → Token → Held → Bool
is_own_coin me token h = is_own me h && is_coin_of token h

-- ---- what each call makes of the states

-- the outputs of a transaction that are relevant to the party, none of them locked
abbrev pub gained : Party → Hash32 → Tx → List Held
gained me id tx = filter (λ h. is_relevant me h.state.body) (outputs_from [] id 0 tx.outputs)

-- the states behind a transaction: without those that it consumes, and with its relevant outputs
abbrev pub held_after : Party → Hash32 → Tx → List Held → List Held
held_after me id tx states = filter (λ h. not (has_ref h.reference tx.inputs)) states ++ gained me id tx

-- whether an output is a coin of the party once its transaction is noted: relevant Cash that nothing encumbers
abbrev pub becomes_coin : Party → TxState → Bool
becomes_coin me state = is_relevant me state.body && (is_cash state.body && is_none state.encumbrance)

-- whether a state is one of the party's that the reference names, and a coin
abbrev pub gains : Party → StateRef → Held → Bool
gains me r h = is_relevant me h.state.body && (ref_eq h.reference r && is_coin h)

-- a state, soft-locked by the flow where it is one of the references
abbrev pub locked_in : ℕ → List StateRef → Held → Held
locked_in flow refs h = if has_ref h.reference refs then (record h { locked = Some flow }) else h

-- whether this is the flow that has a state locked
abbrev pub is_flow : ℕ → Option ℕ → Bool
is_flow flow None = false
is_flow flow (Some other) = other == flow

-- a state without the lock of the flow
abbrev pub freed_of : ℕ → Held → Held
freed_of flow h = if is_flow flow h.locked then (record h { locked = None }) else h

-- ---- the list of recorded transactions, and the list of soft locks

-- whether a transaction of this id is recorded
abbrev pub is_noted : List (Hash32 × Tx) → Hash32 → Bool
is_noted recorded id = list_any (λ t. hash_eq id t.0) recorded

-- whether each transaction whose output this one consumes is recorded
abbrev pub has_sources : List (Hash32 × Tx) → Tx → Bool
has_sources recorded tx = list_all (λ r. is_noted recorded r.id) tx.inputs

-- whether a transaction may be recorded next: its id is new, and what it consumes was recorded
abbrev pub may_note : List (Hash32 × Tx) → Hash32 → Tx → Bool
may_note recorded id tx = not (is_noted recorded id) && has_sources recorded tx

-- whether no id is recorded twice
abbrev pub are_once : List (Hash32 × Tx) → Bool
are_once recorded = not (has_repeat (λ u t. hash_eq t.0 u.0) recorded)

-- whether no reference is locked twice
abbrev pub are_apart : List Lock → Bool
are_apart locks = not (has_repeat ref_eq (map (λ l. l.reference) locks))

-- these states are the party's vault over the recorded transactions and the soft locks. No id is recorded twice, each recorded transaction
-- consumes states of recorded ones, by their ids, each lock is on such a state, and none is locked twice
pub record IsVault (me : Party) (recorded : List (Hash32 × Tx)) (locks : List Lock) (held : List Held) : Type 0 where
  pub states : held ≡ vault_of me recorded locks
  pub once : are_once recorded ≡ true
  pub sources : list_all (λ t. has_sources recorded t.1) recorded ≡ true
  pub known : list_all (λ l. is_noted recorded l.reference.id) locks ≡ true
  pub apart : are_apart locks ≡ true
