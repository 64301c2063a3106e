-- What the definitions of a network are given.
use Rattle.std.specs.Prelude.{ℕ, List, None, Result}
use Rattle.net_base.specs.declared.values.Hash32.{Hash32}
use Rattle.net_base.specs.declared.values.Party.{Party}
use Rattle.net_base.specs.declared.names.Identity.{Identity}
use Rattle.signing.specs.Marks.{keyed_mark}
use Rattle.ledger_types.specs.declared.tx.Tx.{Tx}
use Rattle.ledger_types.specs.declared.tx.Resolved.{Resolved}
use Rattle.ledger_types.specs.declared.verdict.Verdict.{Verdict}
use Rattle.ledger_types.specs.Verdicts.{verdict_of}
use Rattle.flow_machine.specs.Machine.{Machine}

-- what a network is given from outside
pub record Environment (F : Type 0) : Type 0 where
  -- what the flow set means
  pub machine : Machine F
  -- how many nodes there are
  pub nodes : ℕ
  pub notary : Party
  -- the verdict on a transaction with the states that it names
  pub judge : Tx → Resolved → Verdict
  -- the mark that a party gives under an id
  pub mark : Party → Hash32 → Hash32
  -- how a frame is read from the front of bytes, with the bytes behind it
  pub frame_at : List ℕ → Result (F × List ℕ) ℕ

-- the party of a node
abbrev pub party : ℕ → Party
party p = record { 0 = p }

-- which node of which network a node is
abbrev pub identity : {F : Type 0} → Environment F → ℕ → Identity
identity w me = record { party = party me; nodes = w.nodes; notary = w.notary }

-- what contracts say of a transaction with the states that it names
abbrev pub Judgement : Type 0
Judgement = Tx → Resolved → Verdict

-- what a network means, however many nodes it has: its environment but for the identity of a node
pub record Meaning (F : Type 0) : Type 0 where
  pub machine : Machine F
  pub frame_at : List ℕ → Result (F × List ℕ) ℕ
  pub judge : Judgement
  pub mark : Party → Hash32 → Hash32

-- the environment of a node of this identity
abbrev pub environment : {F : Type 0} → Meaning F → Identity → Environment F
environment m me = record { machine = m.machine; nodes = me.nodes; notary = me.notary; judge = m.judge; mark = m.mark; frame_at = m.frame_at }

-- what a network of a flow set means whose contracts judge so: marks are those of the keyed digest
abbrev pub meaning : {F : Type 0} → Machine F → (List ℕ → Result (F × List ℕ) ℕ) → Judgement → Meaning F
meaning m frame_at judge = record { machine = m; frame_at = frame_at; judge = judge; mark = keyed_mark }

-- what is said of a transaction where no contract is known
abbrev pub judge_without_contracts : Judgement
judge_without_contracts tx resolved = verdict_of (λ id t r. None) tx resolved

-- what a network of a flow set means whose nodes know no contract
abbrev pub unjudged : {F : Type 0} → Machine F → (List ℕ → Result (F × List ℕ) ℕ) → Meaning F
unjudged m frame_at = meaning m frame_at judge_without_contracts
