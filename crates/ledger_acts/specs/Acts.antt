-- What acts on a node's ledger do, in the words of the network machine.
use Rattle.std.specs.Prelude.{◌≡◌, ℕ, ◌==◌, List, Some, false, if◌then◌else◌}
use Rattle.net_base.specs.declared.values.Hash32.{Hash32}
use Rattle.net_base.specs.declared.values.Party.{Party}
use Rattle.net_base.specs.declared.values.Moment.{Moment}
use Rattle.net_base.specs.declared.names.Identity.{Identity}
use Rattle.net_base.specs.declared.names.Token.{Token}
use Rattle.signing.specs.Marks.{keyed_mark}
use Rattle.ledger_types.specs.declared.tx.Tx.{Tx}
use Rattle.ledger_types.specs.declared.held.Held.{Held}
use Rattle.ledger_types.specs.declared.notary.Request.{Request}
use Rattle.ledger_types.specs.declared.change.LedgerChange.{LedgerChange}
use Rattle.ledger_types.specs.Stores.{stored_of, missing_ids, untagged}
use Rattle.ledger_types.specs.Vaults.{vault_of, reserved, reservable}
use Rattle.ledger_types.specs.Notary.{reply, tag_by}
use Rattle.ledger_tables.specs.Ledgers.{Ledger}
use Rattle.flow_machine.specs.declared.acts.Act.TheVariants as act
use Rattle.flow_machine.specs.declared.acts.Resumed.TheVariants as resumed
use Rattle.flow_machine.specs.declared.flows.Checkpoint.{Checkpoint}
use Rattle.flow_machine.specs.Limits.{IsResumed}
use Rattle.transition_record.specs.Changes.{IsLedger}
use Rattle.net_model.specs.Environment.{Environment, party, identity}
use Rattle.net_model.specs.State.{NodeState, Change, nothing, with_ids}
use Rattle.net_model.specs.Steps.{Done, goes_on, performed, reserves, finds, booked_by}
use Rattle.node_ledger.specs.Ledgered.{LedgerState, ledger_in, HoldsLedger}
use Rattle.ledger_acts.specs.declared.outcome.LedgerOutcome.{LedgerOutcome}

-- ---- what a call answers

-- what changes of a node where its ledger changes so: nothing of its sessions
abbrev pub ledger_part : LedgerChange → Change
ledger_part change = record nothing { recorded = change.recorded; locked = change.locked; booked = change.booked }

-- what an act does: what the frame is resumed with, and what changes
abbrev pub done_of : LedgerOutcome → Done
done_of p = (p.with, ledger_part p.change)

-- tables that hold a state of a ledger, of whichever party, do what is meant over that state
abbrev pub Does : Ledger → (Party → LedgerState → Done) → LedgerOutcome → Type 0
Does tables meant p = (me : Party) (s : LedgerState) → HoldsLedger me s tables → done_of p ≡ meant me s

-- an outcome is within its limits, and changes the ledger by this flow, which goes on
pub record IsOutcome (flow : ℕ) (p : LedgerOutcome) : Type 0 where
  pub result : IsResumed p.with
  pub change : IsLedger flow false p.change

-- ---- what each act is meant to do

-- the vault of a party
abbrev pub vault_in : Party → LedgerState → List Held
vault_in me s = vault_of me (untagged (with_ids s.stored)) s.locked

-- coins of a token that are worth the amount are reserved, or their sum is told
abbrev pub reserving : Token → ℕ → Party → LedgerState → Done
reserving token amount me s = reserves (reservable token (vault_in me s)) (reserved token amount (vault_in me s))

-- the recorded transaction of an id is found, if there is one
abbrev pub finding : Hash32 → Party → LedgerState → Done
finding id me s = finds (stored_of (with_ids s.stored) id)

-- the ids that a transaction names and that are not recorded are told
abbrev pub lacking : Tx → Party → LedgerState → Done
lacking tx me s = (resumed.Ids (missing_ids (with_ids s.stored) tx), nothing)

-- the node's party signs an id, unless it is its network's notary
abbrev pub signing : Identity → Hash32 → Done
signing me id = if me.notary.0 == me.party.0 then (resumed.Refused 46, nothing) else (resumed.Tagged (tag_by keyed_mark me.party id), nothing)

-- the node's book decides a request at a moment
abbrev pub notarising : Identity → Moment → Request → Party → LedgerState → Done
notarising node now request me s =
    let r = reply keyed_mark s.entries request node now in
    (resumed.Answer r.answer, record nothing { booked = booked_by request r })

-- ---- a law

-- how a live flow of a node goes on by each act on the ledger that waits for no job: as is meant above
pub record GoesAsMeant {F : Type 0} (w : Environment F) (me : ℕ) (s : NodeState F) (now : ℕ) (at : Checkpoint F) : Type 0 where
  pub reserve : (token : Token) (amount : ℕ) → performed w me s now at (act.Reserve token amount) ≡ Some (goes_on w me now at (reserving token amount (party me) (ledger_in s)))
  pub look_up : (id : Hash32) → performed w me s now at (act.Lookup id) ≡ Some (goes_on w me now at (finding id (party me) (ledger_in s)))
  pub missing : (tx : Tx) → performed w me s now at (act.Missing tx) ≡ Some (goes_on w me now at (lacking tx (party me) (ledger_in s)))
  pub sign : (id : Hash32) → performed w me s now at (act.Sign id) ≡ Some (goes_on w me now at (signing (identity w me) id))
  pub notarise : (request : Request) → performed w me s now at (act.Notarise request) ≡ Some (goes_on w me now at (notarising (identity w me) (record { 0 = now }) request (party me) (ledger_in s)))

-- where marks are those of the keyed digest, each act on the ledger does in the machine what is meant above
abbrev pub ActsAsMeant : (F : Type 0) → Type 0
ActsAsMeant F = (w : Environment F) (me : ℕ) (s : NodeState F) (now : ℕ) (at : Checkpoint F) → w.mark ≡ keyed_mark → GoesAsMeant w me s now at
