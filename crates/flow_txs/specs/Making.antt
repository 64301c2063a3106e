-- What the transactions that flows make are made of.
use Rattle.std.specs.Prelude.{◌%◌, ◌^◌, List, [], ◌∷◌, ◌++◌, codes, bit_or, Some, None}
use Rattle.std.specs.Int.{w32}
use Rattle.component_merkle.specs.Merkle.{digest_of}
use Rattle.net_base.specs.declared.names.StateRef.{StateRef}
use Rattle.net_base.specs.declared.parties.PartySet.{PartySet}
use Rattle.net_base.specs.declared.values.Hash32.{Hash32}
use Rattle.net_base.specs.declared.values.Party.{Party}
use Rattle.net_base.specs.Reading.{number}
use Rattle.net_base.specs.Values.{party}
use Rattle.ledger_types.specs.declared.state.StateData.{StateData}
use Rattle.ledger_types.specs.declared.state.TxState.{TxState}
use Rattle.ledger_types.specs.declared.tx.Deed.{Deed}
use Rattle.ledger_types.specs.declared.tx.Tx.{Tx}
use Rattle.flow_machine.specs.declared.acts.Place.{Place}

-- the salt of a transaction that a flow makes: the digest of "salt", the node, the flow's number, and how often it was resumed before
abbrev pub salt_of : Place → Hash32
salt_of here = record { 0 = digest_of (codes "salt" ++ (party here.me ++ (number w32 here.flow ++ number w32 here.step))) }

-- the set of one party: of its 16 bits the party's alone is 1
abbrev pub alone : Party → PartySet
alone p = record { 0 = 2 ^ p.0 % 2 ^ 16 }

-- the set of two parties: each bit that is 1 in the set of one of them
abbrev pub both : Party → Party → PartySet
both p q = record { 0 = bit_or (alone p).0 (alone q).0 }

-- a state under the network's notary, without an encumbrance
abbrev pub plain : Place → StateData → TxState
plain here body = record { body = body; notary = here.notary; encumbrance = None }

-- A transaction that a flow makes of inputs, outputs and one command: under the network's notary, without attachments, time window and references.
abbrev pub made : List StateRef → List TxState → Deed → PartySet → Place → Tx
made inputs outputs deed signers here = record {
  salt = salt_of here;
  inputs = inputs;
  outputs = outputs;
  commands = record { deed = deed; signers = signers } ∷ [];
  attachments = [];
  notary = Some here.notary;
  window = None;
  references = [];
}
