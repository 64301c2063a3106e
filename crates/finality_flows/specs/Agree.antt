-- Agreeing, class 22: a transaction that makes nothing but debts to this party, and uses no state, is judged and signed, and the tag sent back.
use Rattle.std.specs.Prelude.{ℕ, ◌==◌, ◌≤◌, ◌&&◌, List, [], ◌∷◌, ◌++◌, length, Bool, false, Option, Some, None, option_map, if◌then◌else◌, refl}
use Rattle.std.specs.List.{list_all}
use Rattle.net_base.specs.declared.names.Tag.{Tag}
use Rattle.net_base.specs.declared.values.Hash32.{Hash32}
use Rattle.net_base.specs.declared.values.Party.{Party}
use Rattle.net_base.specs.Names.{IsTag, tag, tag_at, tag_laws}
use Rattle.net_base.specs.Values.{hash, party}
use Rattle.ledger_types.specs.declared.state.StateData.{StateData}
use Rattle.ledger_types.specs.declared.state.StateData.TheVariants.{Iou}
use Rattle.ledger_types.specs.declared.state.TxState.{TxState}
use Rattle.ledger_types.specs.declared.tx.Tx.{Tx}
use Rattle.ledger_types.specs.declared.value.Value.TheVariants as value
use Rattle.ledger_types.specs.declared.verdict.Verdict.TheVariants as verdict
use Rattle.ledger_types.specs.Names.{party_eq}
use Rattle.ledger_types.specs.Signatures.{tx_id}
use Rattle.ledger_types.specs.Txs.{IsTx, tx, tx_at, tx_laws}
use Rattle.ledger_types.proofs.Sizes.{tx_fits, joined}
use Rattle.flow_machine.specs.declared.acts.Act.TheVariants as act
use Rattle.flow_machine.specs.declared.acts.Resumed.TheVariants as resumed
use Rattle.flow_forms.specs.declared.forms.Goes.{Goes}
use Rattle.flow_forms.specs.declared.forms.Goes.TheVariants.{On, Ends, Stops}
use Rattle.flow_forms.specs.Kept.{Field, party_few}
use Rattle.flow_forms.specs.Sizes.{hash_fits}
use Rattle.flow_forms.specs.Usual.{Place, Resumed, Form, unnamed, tags_in, Numbers, Kept, kept_as, before, option_field, key_field, Key}
use Rattle.finality_flows.specs.declared.agree.Agree.{Agree}
use Rattle.finality_flows.specs.declared.agree.AgreePlace.{AgreePlace}
use Rattle.finality_flows.specs.declared.agree.AgreePlace.TheVariants.{Receiving, Verifying, Signing, Sending}

-- ---- what it agrees to

-- whether a state is a debt to the party
abbrev pub is_debt_to : Party → StateData → Bool
is_debt_to me (Iou lender borrower token amount) = party_eq lender me
is_debt_to me other = false

-- whether each of these is
abbrev pub are_debts_to : Party → List TxState → Bool
are_debts_to me states = list_all (λ s. is_debt_to me s.body) states

-- whether a transaction has no input and no reference, and each of its outputs is a debt to the party
abbrev pub only_lends : Party → Tx → Bool
only_lends me t = (length t.inputs == 0) && ((length t.references == 0) && are_debts_to me t.outputs)

-- ---- where it goes

-- its fields as it answers an Init in a session
abbrev pub fresh : Key → Agree
fresh k = record { key = k; tx = None; tag = None }

-- to place 1: the transaction is awaited
abbrev pub begins : Agree → Goes AgreePlace Agree
begins a = On Receiving a (act.Receive a.key)

-- to place 2: the transaction is kept and judged
abbrev pub judges : Tx → Agree → Goes AgreePlace Agree
judges t a = On Verifying (record a { tx = Some t }) (act.Verify t)

-- to place 3: the id is signed, 54 where there is none
abbrev pub signs : Option Hash32 → Agree → Goes AgreePlace Agree
signs None a = Stops a 54
signs (Some id) a = On Signing a (act.Sign id)

-- ---- the places, by the results

-- 1, Receive: what only lends is judged, 56 for any other transaction
abbrev pub received : Agree → Resumed → Place → Goes AgreePlace Agree
received a (resumed.Got (value.Tx stx)) here = if only_lends here.me stx.tx then judges stx.tx a else Stops a 56
received a other here = unnamed a other

-- 2, Verify: what is accepted this party signs
abbrev pub verified : Agree → Resumed → Goes AgreePlace Agree
verified a (resumed.Verdict verdict.Accepted) = signs (option_map tx_id a.tx) a
verified a other = unnamed a other

-- 3, Sign: the tag is kept, and sent alone
abbrev pub signed : Agree → Resumed → Goes AgreePlace Agree
signed a (resumed.Tagged t) = On Sending (record a { tag = Some t }) (act.Send a.key (value.Tags (t ∷ [])))
signed a other = unnamed a other

-- 4, Send: Unit is returned
abbrev pub sent : Agree → Resumed → Goes AgreePlace Agree
sent a resumed.Sent = Ends a value.Unit
sent a other = unnamed a other

-- how it goes on by where it waits
abbrev pub moves : AgreePlace → Agree → Resumed → Place → Goes AgreePlace Agree
moves Receiving a with here = received a with here
moves Verifying a with here = verified a with
moves Signing a with here = signed a with
moves Sending a with here = sent a with

-- the weight of a frame
abbrev pub weight : AgreePlace → Agree → ℕ
weight Receiving a = 5
weight Verifying a = 4
weight Signing a = 3
weight Sending a = 1

-- the tags of its fields
abbrev pub tags : Agree → List Tag
tags a = tags_in (λ t. t ∷ []) a.tag

-- what the machine is
abbrev pub form : Form AgreePlace Agree
form = record { starts = λ a here. begins a; moves = moves; weight = weight; called = λ a. 6; tags = tags }

-- ---- its bytes

-- a transaction, in at most 5,018 bytes
abbrev tx_field : Field Tx
tx_field = record { exact = Unit {0}; within = IsTx; spelling = tx; reading = tx_at; laws = tx_laws; most = 5018; few = tx_fits }

pub tag_few : (t : Tag) → IsTag t → length (tag t) ≤ 65
tag_few t h = joined (party t.by) (hash t.of ++ hash t.mark) 1 64 (party_few t.by h.0) (joined (hash t.of) (hash t.mark) 32 32 (hash_fits t.of h.1.0) (hash_fits t.mark h.1.1))

-- a tag, in at most 65 bytes
abbrev tag_field : Field Tag
tag_field = record { exact = Unit {0}; within = IsTag; spelling = tag; reading = tag_at; laws = tag_laws; most = 65; few = tag_few }

-- its fields: the session, the transaction once it came, and the tag once it was made
abbrev pub kept : Kept Agree
kept = kept_as (before key_field (before (option_field tx_field) (option_field tag_field))) (λ p. record { key = p.0; tx = p.1.0; tag = p.1.1 }) (λ a. (a.key, (a.tx, a.tag))) (λ _. refl) (λ _. refl) refl

-- its places: 1 Receive, 2 Verify, 3 Sign, 4 Send, 5 Return
abbrev pub numbers : Numbers AgreePlace
numbers = record { all = Receiving ∷ Verifying ∷ Signing ∷ Sending ∷ []; number = elim [ Receiving ↦ 1 | Verifying ↦ 2 | Signing ↦ 3 | Sending ↦ 4 ]; told = λ callable. elim [ Receiving ↦ refl | Verifying ↦ refl | Signing ↦ refl | Sending ↦ refl ]; few = refl }
