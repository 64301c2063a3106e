-- The limits of what the transactions that flows make are made of.
use Rattle.std.specs.Prelude.{◌++◌, List, ◌^◌, codes}
use Rattle.std.specs.Int.{w32}
use Rattle.std.proofs.Common.{arith}
use Rattle.std.proofs.Math.Nat.{mod-lt}
use Rattle.std.proofs.lemmas.Nat.{or_lt}
use Rattle.sha2.proofs.Facts256.{length-sha256}
use Rattle.net_base.specs.declared.names.StateRef.{StateRef}
use Rattle.net_base.specs.declared.parties.PartySet.{PartySet}
use Rattle.net_base.specs.declared.values.Party.{Party}
use Rattle.net_base.specs.Reading.{number}
use Rattle.net_base.specs.Forms.{ListWithin}
use Rattle.net_base.specs.Names.{IsStateRef}
use Rattle.net_base.specs.Parties.{IsPartySet}
use Rattle.net_base.specs.Values.{IsHash, party}
use Rattle.ledger_types.specs.declared.state.TxState.{TxState}
use Rattle.ledger_types.specs.declared.tx.Deed.{Deed}
use Rattle.ledger_types.specs.States.{IsTxState}
use Rattle.ledger_types.specs.Txs.{IsDeed, IsTx}
use Rattle.flow_machine.specs.declared.acts.Place.{Place}
use Rattle.flow_machine.specs.Limits.{IsPlace}
use Rattle.flow_txs.specs.Making.{salt_of, alone, both, made}

-- a salt has 32 bytes
pub salt_is : (here : Place) → IsHash (salt_of here)
salt_is here = length-sha256 (codes "salt" ++ (party here.me ++ (number w32 here.flow ++ number w32 here.step)))

-- a set of one party has 16 bits
pub alone_is : (p : Party) → IsPartySet (alone p)
alone_is p = mod-lt (2 ^ p.0) (omega arith)

-- so has a set of two
pub both_is : (p q : Party) → IsPartySet (both p q)
both_is p q = or_lt 16 (alone p).0 (alone q).0 (alone_is p) (alone_is q)

-- a transaction is within its limits that is made of what is within its own
pub made_within : (inputs : List StateRef) (outputs : List TxState) (deed : Deed) (signers : PartySet) (here : Place) → ListWithin 64 IsStateRef inputs → ListWithin 64 IsTxState outputs → IsDeed deed → IsPartySet signers → IsPlace here
    → IsTx (made inputs outputs deed signers here)
made_within inputs outputs deed signers here ins outs does set place = (salt_is here, (ins, (outs, ((omega arith, ((does, set), tt)), ((omega arith, tt), (place.notary, (tt, (omega arith, tt))))))))
