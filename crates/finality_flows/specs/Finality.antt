-- Finality: the transaction is judged, signed by all who have to sign it, notarised, recorded, and shown to the peers.
use Rattle.std.specs.Prelude.{ℕ, ◌+◌, ◌*◌, ◌-◌, ◌<◌, ◌==◌, ◌&&◌, ◌^◌, List, [], ◌∷◌, ◌++◌, length, filter, find, slice_get, Bool, false, not, Option, Some, None, Result, IfSome, nat_lt, nat_le, if◌then◌else◌}
use Rattle.std.specs.Int.{w16}
use Rattle.std.specs.List.{range_with_len}
use Rattle.net_base.specs.declared.names.Key.{Key}
use Rattle.net_base.specs.declared.names.Tag.{Tag}
use Rattle.net_base.specs.declared.parties.PartySet.{PartySet}
use Rattle.net_base.specs.declared.values.Hash32.{Hash32}
use Rattle.net_base.specs.declared.values.Party.{Party}
use Rattle.net_base.specs.Reading.{number}
use Rattle.net_base.specs.Forms.{byte_at, number_at, option_of, option_at, list8, list8_at, ListWithin}
use Rattle.net_base.specs.Combining.{mapped_at, pair_at}
use Rattle.net_base.specs.Names.{IsKey, key, key_at, by_of}
use Rattle.net_base.specs.Parties.{has_party}
use Rattle.net_base.specs.Values.{IsParty, party, party_at}
use Rattle.ledger_types.specs.declared.notary.NotaryAnswer.{NotaryAnswer}
use Rattle.ledger_types.specs.declared.notary.NotaryAnswer.TheVariants as answer
use Rattle.ledger_types.specs.declared.notary.Request.{Request}
use Rattle.ledger_types.specs.declared.tx.SignedTx.{SignedTx}
use Rattle.ledger_types.specs.declared.tx.Tx.{Tx}
use Rattle.ledger_types.specs.declared.value.Value.TheVariants as value
use Rattle.ledger_types.specs.declared.verdict.Verdict.TheVariants as verdict
use Rattle.ledger_types.specs.Names.{hash_eq}
use Rattle.ledger_types.specs.Requests.{answer_code}
use Rattle.ledger_types.specs.Signatures.{tx_id, needs, needed}
use Rattle.ledger_types.specs.Txs.{IsSignedTx, signed_tx, signed_tx_at}
use Rattle.tx_tear.specs.Tearing.{tear_of}
use Rattle.flow_machine.specs.declared.acts.Act.TheVariants as act
use Rattle.flow_machine.specs.declared.acts.Resumed.TheVariants as resumed
use Rattle.flow_forms.specs.declared.calls.Call.TheVariants as call
use Rattle.flow_forms.specs.declared.forms.Goes.{Goes}
use Rattle.flow_forms.specs.declared.forms.Goes.TheVariants.{On, Ends, Stops}
use Rattle.flow_forms.specs.Usual.{Place, Resumed, Form, unnamed, raised, tags_in}
use Rattle.finality_flows.specs.declared.finality.Finality.{Finality}
use Rattle.finality_flows.specs.declared.finality.FinalityPlace.{FinalityPlace}
use Rattle.finality_flows.specs.declared.finality.FinalityPlace.TheVariants.{Verifying, Signing, OpeningSigner, ReceivingTags, Notarising, Recording, OpeningPeer, Serving, LookingUp, SendingTx}
use Rattle.finality_flows.specs.Tagging.{with_tag}

-- ---- where it goes

-- it is called with a transaction that has no tag yet, and with the peers that are to be told
abbrev pub first : Tx → List Party → Finality
first tx peers = record { stx = record { tx = tx; tags = [] }; peers = peers; asked = 0; told = 0; served = 0; key = None; fetched = None }

-- to place 1: the transaction is judged
abbrev pub begins : Finality → Goes FinalityPlace Finality
begins f = On Verifying f (act.Verify f.stx.tx)

-- the transaction with one more tag
abbrev pub tagged : Tag → Finality → Finality
tagged t f = record f { stx = record f.stx { tags = with_tag t f.stx.tags } }

-- whether the party is neither of the two
abbrev pub is_neither : Party → Party → ℕ → Bool
is_neither me notary p = not (p == me.0) && not (p == notary.0)

-- the parties of a set below a number beside these two, ascending
abbrev pub others_below : PartySet → Party → Party → ℕ → List ℕ
others_below set me notary count = filter (λ p. has_party set p && is_neither me notary p) (range_with_len 0 count)

-- the parties that have to sign beside this one and the notary, ascending
unfoldable pub others : Tx → Place → List ℕ
others tx here = filter (is_neither here.me here.notary) (needed tx)

-- to place 6: the transaction is recorded
abbrev pub records : Finality → Goes FinalityPlace Finality
records f = On Recording f (act.Record f.stx)

-- the request of this flow, with the tear-off of the transaction and a tag
abbrev pub asked_of : Tag → Finality → Place → Request
asked_of t f here = record { party = here.me; flow = here.flow; torn = tear_of f.stx.tx; tag = t }

-- to place 5: the notary is asked with this party's own tag, 54 where there is none
abbrev pub asks_notary_with : Option Tag → Finality → Place → Goes FinalityPlace Finality
asks_notary_with None f here = Stops f 54
asks_notary_with (Some t) f here = On Notarising f (act.Sub (call.Client (asked_of t f here)))

-- to place 5 where the notary has to sign, else to 6
abbrev pub notarises : Finality → Place → Goes FinalityPlace Finality
notarises f here = if needs f.stx.tx here.notary.0 then asks_notary_with (find (λ t. by_of t == here.me.0) f.stx.tags) f here else records f

-- to place 3 where a signer is left, who is shown the transaction with its tags; else to 5 or 6
abbrev pub asks_signer : Option ℕ → Finality → Place → Goes FinalityPlace Finality
asks_signer None f here = notarises f here
asks_signer (Some p) f here = On OpeningSigner f (act.Open (record { 0 = p }) 22 (value.Tx f.stx))

-- the signers are taken in ascending order, by how many were asked
abbrev pub signs_on : Finality → Place → Goes FinalityPlace Finality
signs_on f here = asks_signer (slice_get (others f.stx.tx here) f.asked) f here

-- the peer that is to be told next; a count that stands still at its end tells no further one
abbrev pub peer_at : ℕ → List Party → Option Party
peer_at told peers = if nat_lt told 255 then slice_get peers told else None

-- to place 7 where a peer is left, who is shown the transaction with its tags; else the id is returned
abbrev pub tells_peer : Option Party → Finality → Goes FinalityPlace Finality
tells_peer None f = Ends f (value.Id (tx_id f.stx.tx))
tells_peer (Some p) f = On OpeningPeer f (act.Open p 21 (value.Tx f.stx))

-- the peers are taken in their order, by how many were told
abbrev pub tells : Finality → Goes FinalityPlace Finality
tells f = tells_peer (peer_at f.told f.peers) f

-- to place 8: what the peer asks for is awaited
abbrev pub serves : Option Key → Finality → Goes FinalityPlace Finality
serves None f = Stops f 54
serves (Some k) f = On Serving f (act.Receive k)

-- to place 9: what is asked for is looked up, 62 where more than 512 were
abbrev pub looks_up : Hash32 → Finality → Goes FinalityPlace Finality
looks_up x f = if nat_le f.served 512 then On LookingUp f (act.Lookup x) else Stops f 62

-- to place 10: the transaction is sent
abbrev pub sends : Option Key → SignedTx → Finality → Goes FinalityPlace Finality
sends None stx f = Stops f 54
sends (Some k) stx f = On SendingTx f (act.Send k (value.Tx stx))

-- ---- the places, by the results

-- 1, Verify: what is accepted this party signs
abbrev pub verified : Finality → Resumed → Goes FinalityPlace Finality
verified f (resumed.Verdict verdict.Accepted) = On Signing f (act.Sign (tx_id f.stx.tx))
verified f other = unnamed f other

-- 2, Sign: the tag is added, and the others are asked
abbrev pub signed : Finality → Resumed → Place → Goes FinalityPlace Finality
signed f (resumed.Tagged t) here = signs_on (tagged t f) here
signed f other here = unnamed f other

-- 3, Open: the signer's tag is awaited
abbrev pub signer_opened : Finality → Resumed → Goes FinalityPlace Finality
signer_opened f (resumed.Opened k) = On ReceivingTags (record f { key = Some k }) (act.Receive k)
signer_opened f other = unnamed f other

-- whether the tag is by the signer that was asked, over the id
abbrev pub is_asked_for : Option ℕ → Finality → Tag → Bool
is_asked_for None f t = false
is_asked_for (Some p) f t = by_of t == p && hash_eq t.of (tx_id f.stx.tx)

-- the tag of the signer that was asked is added, and `asked` rises; 54 for another
abbrev pub collects : Tag → Finality → Place → Goes FinalityPlace Finality
collects t f here = if is_asked_for (slice_get (others f.stx.tx here) f.asked) f t then signs_on (record (tagged t f) { asked = raised 255 f.asked }) here else Stops f 54

-- 4, Receive: one tag; 54 for none or more
abbrev pub collected : Finality → Resumed → Place → Goes FinalityPlace Finality
collected f (resumed.Got (value.Tags (t ∷ []))) here = collects t f here
collected f other here = unnamed f other

-- the notary's tag is added and the transaction recorded; another answer fails with its code
abbrev pub answered : NotaryAnswer → Finality → Goes FinalityPlace Finality
answered (answer.Signed t) f = records (tagged t f)
answered other f = Stops f (answer_code other)

-- 5, Sub notary client: its answer
abbrev pub notarised : Finality → Resumed → Goes FinalityPlace Finality
notarised f (resumed.Returned (value.Answer a)) = answered a f
notarised f other = unnamed f other

-- 6, Record: the peers are told
abbrev pub recorded : Finality → Resumed → Goes FinalityPlace Finality
recorded f resumed.Recorded = tells f
recorded f other = unnamed f other

-- 7, Open: the peer may ask
abbrev pub peer_opened : Finality → Resumed → Goes FinalityPlace Finality
peer_opened f (resumed.Opened k) = serves (Some k) (record f { key = Some k })
peer_opened f other = unnamed f other

-- 8, Receive: with an id `served` rises; where the peer ends, `told` rises and the next one is told
abbrev pub served : Finality → Resumed → Goes FinalityPlace Finality
served f (resumed.Got (value.Id x)) = looks_up x (record f { served = raised 65535 f.served })
served f resumed.Ended = tells (record f { told = raised 255 f.told })
served f other = unnamed f other

-- 9, Lookup: what is found is kept and sent, 35 where there is none
abbrev pub looked_up : Finality → Resumed → Goes FinalityPlace Finality
looked_up f (resumed.Found stx) = sends f.key stx (record f { fetched = Some stx })
looked_up f resumed.Absent = Stops f 35
looked_up f other = unnamed f other

-- 10, Send: the next request is awaited
abbrev pub sent : Finality → Resumed → Goes FinalityPlace Finality
sent f resumed.Sent = serves f.key f
sent f other = unnamed f other

-- how it goes on by where it waits
abbrev pub moves : FinalityPlace → Finality → Resumed → Place → Goes FinalityPlace Finality
moves Verifying f with here = verified f with
moves Signing f with here = signed f with here
moves OpeningSigner f with here = signer_opened f with
moves ReceivingTags f with here = collected f with here
moves Notarising f with here = notarised f with
moves Recording f with here = recorded f with
moves OpeningPeer f with here = peer_opened f with
moves Serving f with here = served f with
moves LookingUp f with here = looked_up f with
moves SendingTx f with here = sent f with

-- ---- what it may cause

-- what is left of 512 requests, and how many peers are to be told
abbrev pub serving : Finality → ℕ → ℕ
serving f peers = 4 * (512 - f.served) + 2573 * peers

-- the same, and how many signers are to be asked
abbrev pub signing : Finality → ℕ → ℕ
signing f signers = serving f (length f.peers - f.told) + 40 + 13 * signers

-- the weight of a frame that waits at a place
abbrev pub weight : FinalityPlace → Finality → ℕ
weight Verifying f = signing f (16 - f.asked) + 1
weight Signing f = signing f (16 - f.asked)
weight OpeningSigner f = signing f (16 - f.asked - 1) + 1
weight ReceivingTags f = signing f (16 - f.asked - 1)
weight Notarising f = serving f (length f.peers - f.told) + 2
weight Recording f = serving f (length f.peers - f.told) + 1
weight OpeningPeer f = serving f (length f.peers - f.told - 1) + 2
weight Serving f = serving f (length f.peers - f.told - 1) + 1
weight LookingUp f = serving f (length f.peers - f.told - 1) + 4
weight SendingTx f = serving f (length f.peers - f.told - 1) + 2

-- the tags of its fields
abbrev pub tags : Finality → List Tag
tags f = f.stx.tags ++ tags_in (λ s. s.tags) f.fetched

-- what the machine is
abbrev pub form : Form FinalityPlace Finality
form = record { starts = λ f here. begins f; moves = moves; weight = weight; called = λ f. signing f (16 - f.asked) + 2; tags = tags }

-- ---- its bytes

-- the limits of its fields
abbrev pub IsFinality : Finality → Type 0
IsFinality f = IsSignedTx f.stx × (ListWithin 255 IsParty f.peers × ((f.asked < 256) × ((f.told < 256) × ((f.served < 2 ^ 16) × (IfSome f.key IsKey × IfSome f.fetched IsSignedTx)))))

-- the bytes of its fields
abbrev pub finality : Finality → List ℕ
finality f = signed_tx f.stx ++ (list8 party f.peers ++ (f.asked ∷ f.told ∷ (number w16 f.served ++ (option_of key f.key ++ option_of signed_tx f.fetched))))

-- fields of their parts
abbrev pub finality_of : SignedTx × (List Party × (ℕ × (ℕ × (ℕ × (Option Key × Option SignedTx))))) → Finality
finality_of p = record { stx = p.0; peers = p.1.0; asked = p.1.1.0; told = p.1.1.1.0; served = p.1.1.1.1.0; key = p.1.1.1.1.1.0; fetched = p.1.1.1.1.1.1 }

-- reading its fields
unfoldable pub finality_at : List ℕ → Result (Finality × List ℕ) ℕ
finality_at = mapped_at finality_of (pair_at signed_tx_at (pair_at (list8_at 255 party_at) (pair_at byte_at (pair_at byte_at (pair_at (number_at w16) (pair_at (option_at key_at) (option_at signed_tx_at)))))))

-- the numbers of its places
abbrev pub place_number : FinalityPlace → ℕ
place_number Verifying = 1
place_number Signing = 2
place_number OpeningSigner = 3
place_number ReceivingTags = 4
place_number Notarising = 5
place_number Recording = 6
place_number OpeningPeer = 7
place_number Serving = 8
place_number LookingUp = 9
place_number SendingTx = 10

-- its places; the number behind theirs is that of Return
abbrev pub places : List FinalityPlace
places = Verifying ∷ Signing ∷ OpeningSigner ∷ ReceivingTags ∷ Notarising ∷ Recording ∷ OpeningPeer ∷ Serving ∷ LookingUp ∷ SendingTx ∷ []
