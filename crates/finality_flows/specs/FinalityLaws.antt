-- The laws of finality.
use Rattle.std.specs.Prelude.{◌≡◌, ℕ, ◌+◌, ◌-◌, ◌≤◌, ◌<◌, ◌==◌, List, [], ◌∷◌, ◌++◌, length, find, slice_get, Bool, true, false, refl, Option, Some, None, IfSome, nat_lt, nat_le, if◌then◌else◌}
use Rattle.std.specs.List.{list_all, AllByRecursion, range_with_len}
use Rattle.std.specs.Int.{w16}
use Rattle.std.proofs.Common.{arith, subst}
use Rattle.std.proofs.lemmas.Bool.{ltb-true, leb-true}
use Rattle.std.proofs.lemmas.Option.{slice_get_within}
use Rattle.net_base.specs.declared.names.Key.{Key}
use Rattle.net_base.specs.declared.names.Tag.{Tag}
use Rattle.net_base.specs.declared.values.Hash32.{Hash32}
use Rattle.net_base.specs.declared.values.Party.{Party}
use Rattle.net_base.specs.Reading.{number}
use Rattle.net_base.specs.Forms.{option_of, list8}
use Rattle.net_base.specs.Laws.{Laws}
use Rattle.net_base.specs.Combining.{pair_laws, iso_laws}
use Rattle.net_base.specs.Fields.{byte_laws, u16_laws, option_laws, list8_laws}
use Rattle.net_base.specs.Names.{IsKey, key, key_laws, IsTag, by_of}
use Rattle.net_base.specs.Values.{IsHash, IsParty, party, party_laws}
use Rattle.net_base.proofs.Lists.{all_kept, all_get, all_find, found_passes, filter_length}
use Rattle.ledger_types.specs.declared.notary.NotaryAnswer.{NotaryAnswer}
use Rattle.ledger_types.specs.declared.notary.NotaryAnswer.TheVariants as answer
use Rattle.ledger_types.specs.declared.tx.SignedTx.{SignedTx}
use Rattle.ledger_types.specs.declared.tx.Tx.{Tx}
use Rattle.ledger_types.specs.declared.value.Value.TheVariants as value
use Rattle.ledger_types.specs.declared.verdict.Verdict.TheVariants as verdict
use Rattle.ledger_types.specs.Ids.{groups, present}
use Rattle.ledger_types.specs.Requests.{answer_code}
use Rattle.ledger_types.specs.Signatures.{tx_id, needs, needed}
use Rattle.ledger_types.specs.Torn.{IsTornTx}
use Rattle.ledger_types.specs.Txs.{IsTx, IsSignedTx, signed_tx, signed_tx_laws}
use Rattle.ledger_types.proofs.Sizes.{signed_fits, joined, number16_fits}
use Rattle.tx_tear.specs.Tearing.{tear_of, torn_from}
use Rattle.tx_tear.proofs.Limits.{built_within}
use Rattle.tx_tear.proofs.Groups.{truncated}
use Rattle.flow_machine.specs.declared.acts.Act.TheVariants as act
use Rattle.flow_machine.specs.declared.acts.Resumed.TheVariants as resumed
use Rattle.flow_machine.specs.Limits.{IsResumed}
use Rattle.flow_machine.specs.Tags.{resumed_tags}
use Rattle.flow_forms.specs.declared.calls.Call.TheVariants as call
use Rattle.flow_forms.specs.declared.forms.At.TheVariants as stands
use Rattle.flow_forms.specs.declared.forms.Goes.{Goes}
use Rattle.flow_forms.specs.declared.forms.Goes.TheVariants.{On, Stops}
use Rattle.flow_forms.specs.Calls.{IsCall}
use Rattle.flow_forms.specs.Shared.{Keeps, same, fails_owes}
use Rattle.flow_forms.specs.Sizes.{option_fits, list_fits, key_fits}
use Rattle.flow_forms.specs.Usual.{Place, Resumed, Owes, IsForm, unnamed_owes, Numbers, places_of, IsAt, raised, tags_in, owes_if, joined_pass, parts_pass, Kept}
use Rattle.finality_flows.specs.declared.finality.Finality.{Finality}
use Rattle.finality_flows.specs.declared.finality.FinalityPlace.{FinalityPlace}
use Rattle.finality_flows.specs.declared.finality.FinalityPlace.TheVariants.{Verifying, Signing, OpeningSigner, ReceivingTags, Notarising, Recording, OpeningPeer, Serving, LookingUp, SendingTx}
use Rattle.finality_flows.specs.Tagging.{with_tag, with_within, with_passes, range_below, needed_few}
use Rattle.finality_flows.specs.Finality.{first, tagged, is_neither, others, records, asks_notary_with, notarises, asks_signer, signs_on, verified, signed, signer_opened, is_asked_for, collected, answered, notarised, peer_at, tells_peer, recorded, serves, peer_opened, looks_up, served, sends, looked_up, sent, moves, serving, signing, weight, tags, form, IsFinality, finality, finality_of, finality_at, place_number, places}

-- its fields' laws
pub finality_laws : Laws IsFinality finality finality_at
unfolding finality_at
finality_laws = iso_laws finality_of (λ f. (f.stx, (f.peers, (f.asked, (f.told, (f.served, (f.key, f.fetched))))))) (λ _. refl) (λ _. refl) (pair_laws signed_tx_laws (pair_laws (list8_laws 255 party_laws) (pair_laws byte_laws (pair_laws byte_laws (pair_laws u16_laws (pair_laws (option_laws key_laws) (option_laws signed_tx_laws)))))))

-- its places' laws
pub told : (callable : Bool) (p : FinalityPlace) → IsAt (places_of callable places place_number) (stands.Asking p)
told callable Verifying = refl
told callable other = refl

abbrev pub numbers : Numbers FinalityPlace
numbers = record { all = places; number = place_number; told = told; few = refl }

-- its fields are short
pub short : (f : Finality) → IsFinality f → length (finality f) ≤ 32766
short f h =
    let fetched = option_fits IsSignedTx signed_tx 6059 signed_fits f.fetched h.1.1.1.1.1.1 in
    let rest = joined (option_of key f.key) (option_of signed_tx f.fetched) 6 6060 (option_fits IsKey key 5 key_fits f.key h.1.1.1.1.1.0) fetched in
    let counts = joined (number w16 f.served) (option_of key f.key ++ option_of signed_tx f.fetched) 2 6066 (number16_fits f.served) rest in
    let peers = joined (list8 party f.peers) (f.asked ∷ f.told ∷ (number w16 f.served ++ (option_of key f.key ++ option_of signed_tx f.fetched))) 256 6070 (list_fits IsParty party 1 255 (λ p is. omega arith) f.peers h.1.0) (omega (arith, counts)) in
    let all = joined (signed_tx f.stx) (list8 party f.peers ++ (f.asked ∷ f.told ∷ (number w16 f.served ++ (option_of key f.key ++ option_of signed_tx f.fetched)))) 6059 6326 (signed_fits f.stx h.0) peers in
    omega (arith, all)

-- what it keeps
abbrev pub kept : Kept Finality
kept = record { exact = Unit {0}; within = IsFinality; spelling = finality; reading = finality_at; laws = finality_laws; short = short }

-- ---- the tear-off, and who signs

-- the tear-off of a transaction is within its limits
torn_within : (tx : Tx) → IsTx tx → IsTornTx (tear_of tx)
unfolding tear_of
torn_within tx h = built_within tx (tx_id tx) (torn_from tx.salt.0 0 (groups tx)) (torn_from tx.salt.0 0 (present (groups tx))) (length (present (groups tx))) h refl refl refl (truncated tx.salt.0 0 (groups tx))

-- the other signers are parties, at most sixteen
others_are : (tx : Tx) (here : Place) → AllByRecursion (λ p. p < 16) (others tx here)
unfolding others
others_are tx here = all_kept (λ p. p < 16) (is_neither here.me here.notary) (needed tx) (all_kept (λ p. p < 16) (needs tx) (range_with_len 0 16) (range_below 16 0 16 (omega arith)))

others_few : (tx : Tx) (here : Place) → length (others tx here) ≤ 16
unfolding others
others_few tx here = omega (arith, filter_length (is_neither here.me here.notary) (needed tx), needed_few tx)

-- the next one is before the sixteenth
next_few : (tx : Tx) (here : Place) (n p : ℕ) → slice_get (others tx here) n ≡ Some p → n < 16
next_few tx here n p is = omega (arith, slice_get_within (others tx here) n p is, others_few tx here)

-- an id is a hash
pub id_long : (tx : Tx) → IsTx tx → IsHash (tx_id tx)
unfolding tear_of
id_long tx h = (torn_within tx h).0

-- ---- what it owes

-- fields g that came of f
abbrev Came : Finality → Finality → Resumed → Place → Type 0
Came f g with here = Keeps form IsFinality f g with here

-- what it owes where it goes on from f
abbrev Owed : ℕ → Finality → Resumed → Place → Goes FinalityPlace Finality → Type 0
Owed most f with here g = Owes form IsFinality most f with here g

-- the tags of the transaction are among them
of_stx : (test : Tag → Bool) (f : Finality) → list_all test (tags f) ≡ true → list_all test f.stx.tags ≡ true
of_stx test f h = (parts_pass test f.stx.tags (tags_in (λ s. s.tags) f.fetched) h).0

-- a tag that came is added
tagged_from : (t : Tag) (f : Finality) (with : Resumed) (here : Place) → (IsResumed with → IsTag t) → ((test : Tag → Bool) → list_all test (resumed_tags with) ≡ true → list_all test (t ∷ []) ≡ true) → Came f (tagged t f) with here
tagged_from t f with here is came = record {
  limits = λ h small place. ((h.0.0, with_within t f.stx.tags (is small) h.0.1), h.1);
  passes = λ test old given.
      let parts = parts_pass test f.stx.tags (tags_in (λ s. s.tags) f.fetched) old in
      joined_pass test (with_tag t f.stx.tags) (tags_in (λ s. s.tags) f.fetched) (with_passes test t f.stx.tags (came test given) parts.0) parts.1;
}

records_owes : (most : ℕ) (f g : Finality) (with : Resumed) (here : Place) → Came f g with here → serving g (length g.peers - g.told) + 2 ≤ most → Owed most f with here (records g)
records_owes most f g with here k le = record {
  limits = λ h small place. let w = k.limits h small place in (w, w.0);
  tags = λ test old given. let all = k.passes test old given in (all, of_stx test g all);
  falls = omega (arith, le);
  asks = refl;
}

asks_notary_owes : (most : ℕ) (f g : Finality) (with : Resumed) (here : Place) → Came f g with here → serving g (length g.peers - g.told) + 40 ≤ most → (o : Option Tag) → find (λ t. by_of t == here.me.0) g.stx.tags ≡ o → Owed most f with here (asks_notary_with o g here)
asks_notary_owes most f g with here k le None is = fails_owes form IsFinality most f g with here 54 k (omega arith) (omega (arith, le))
asks_notary_owes most f g with here k le (Some t) is = record {
  limits = λ h small place. let w = k.limits h small place in (w, (place.me, (place.flow, (torn_within g.stx.tx w.0.0, all_find IsTag (λ t. by_of t == here.me.0) g.stx.tags t w.0.1.1.0 is))));
  tags = λ test old given. let all = k.passes test old given in (all, let p = found_passes test (λ t. by_of t == here.me.0) g.stx.tags t (of_stx test g all) is in rw p refl);
  falls = omega (arith, le);
  asks = refl;
}

notarises_owes : (most : ℕ) (f g : Finality) (with : Resumed) (here : Place) → Came f g with here → serving g (length g.peers - g.told) + 40 ≤ most → Owed most f with here (notarises g here)
notarises_owes most f g with here k le =
    owes_if form IsFinality most f with here (needs g.stx.tx here.notary.0) (asks_notary_with (find (λ t. by_of t == here.me.0) g.stx.tags) g here) (records g)
    (λ _. asks_notary_owes most f g with here k le (find (λ t. by_of t == here.me.0) g.stx.tags) refl) (λ _. records_owes most f g with here k (omega (arith, le)))

asks_signer_owes : (most : ℕ) (f g : Finality) (with : Resumed) (here : Place) → Came f g with here → signing g (16 - g.asked) ≤ most → (o : Option ℕ) → slice_get (others g.stx.tx here) g.asked ≡ o → Owed most f with here (asks_signer o g here)
asks_signer_owes most f g with here k le None is = notarises_owes most f g with here k (omega (arith, le))
asks_signer_owes most f g with here k le (Some p) is = record {
  limits = λ h small place. let w = k.limits h small place in (w, (all_get (λ q. q < 16) (others g.stx.tx here) g.asked p (others_are g.stx.tx here) is, (omega arith, w.0)));
  tags = λ test old given. let all = k.passes test old given in (all, of_stx test g all);
  falls = omega (arith, le, next_few g.stx.tx here g.asked p is);
  asks = refl;
}

signs_on_owes : (most : ℕ) (f g : Finality) (with : Resumed) (here : Place) → Came f g with here → signing g (16 - g.asked) ≤ most → Owed most f with here (signs_on g here)
signs_on_owes most f g with here k le = asks_signer_owes most f g with here k le (slice_get (others g.stx.tx here) g.asked) refl

verified_owes : (f : Finality) (with : Resumed) (here : Place) → Owed (weight Verifying f) f with here (verified f with)
verified_owes f (resumed.Verdict verdict.Accepted) here = record { limits = λ h small place. (h, id_long f.stx.tx h.0.0); tags = λ test old given. (old, refl); falls = omega arith; asks = refl }
verified_owes f other here = unnamed_owes form IsFinality (weight Verifying f) f other here (omega arith)

signed_owes : (f : Finality) (with : Resumed) (here : Place) → Owed (weight Signing f) f with here (signed f with here)
signed_owes f (resumed.Tagged t) here = signs_on_owes (weight Signing f) f (tagged t f) (resumed.Tagged t) here (tagged_from t f (resumed.Tagged t) here (λ is. is) (λ test given. given)) (omega arith)
signed_owes f other here = unnamed_owes form IsFinality (weight Signing f) f other here (omega arith)

signer_opened_owes : (f : Finality) (with : Resumed) (here : Place) → Owed (weight OpeningSigner f) f with here (signer_opened f with)
signer_opened_owes f (resumed.Opened key) here = record { limits = λ h small place. ((h.0, (h.1.0, (h.1.1.0, (h.1.1.1.0, (h.1.1.1.1.0, (small, h.1.1.1.1.1.1)))))), small); tags = λ test old given. (old, refl); falls = omega arith; asks = refl }
signer_opened_owes f other here = unnamed_owes form IsFinality (weight OpeningSigner f) f other here (omega arith)

-- a tag was added, and one signer more was asked
collected_from : (t : Tag) (f : Finality) (here : Place) → Came f (record (tagged t f) { asked = raised 255 f.asked }) (resumed.Got (value.Tags (t ∷ []))) here
collected_from t f here =
    let k = tagged_from t f (resumed.Got (value.Tags (t ∷ []))) here (λ is. is.1.0.0) (λ test given. given) in
    record { limits = λ h small place. let w = k.limits h small place in (w.0, (w.1.0, (omega arith, w.1.1.1))); passes = k.passes }

collected_owes : (f : Finality) (with : Resumed) (here : Place) → Owed (weight ReceivingTags f) f with here (collected f with here)
collected_owes f (resumed.Got (value.Tags (t ∷ []))) here =
    let most = weight ReceivingTags f in
    let came = resumed.Got (value.Tags (t ∷ [])) in
    owes_if form IsFinality most f came here (is_asked_for (slice_get (others f.stx.tx here) f.asked) f t) (signs_on (record (tagged t f) { asked = raised 255 f.asked }) here) (Stops f 54)
    (λ _. signs_on_owes most f (record (tagged t f) { asked = raised 255 f.asked }) came here (collected_from t f here) (omega arith))
    (λ _. fails_owes form IsFinality most f f came here 54 (same form IsFinality f came here) (omega arith) (omega arith))
collected_owes f other here = unnamed_owes form IsFinality (weight ReceivingTags f) f other here (omega arith)

answered_owes : (a : NotaryAnswer) (f : Finality) (here : Place) → Owed (weight Notarising f) f (resumed.Returned (value.Answer a)) here (answered a f)
answered_owes (answer.Signed t) f here = records_owes (weight Notarising f) f (tagged t f) (resumed.Returned (value.Answer (answer.Signed t))) here (tagged_from t f (resumed.Returned (value.Answer (answer.Signed t))) here (λ is. is) (λ test given. given)) (omega arith)
answered_owes other f here = fails_owes form IsFinality (weight Notarising f) f f (resumed.Returned (value.Answer other)) here (answer_code other) (same form IsFinality f (resumed.Returned (value.Answer other)) here) (omega arith) (omega arith)

notarised_owes : (f : Finality) (with : Resumed) (here : Place) → Owed (weight Notarising f) f with here (notarised f with)
notarised_owes f (resumed.Returned (value.Answer a)) here = answered_owes a f here
notarised_owes f other here = unnamed_owes form IsFinality (weight Notarising f) f other here (omega arith)

-- a peer that is there
peer_is : (test : Bool) (o : Option Party) (p : Party) → (if test then o else None) ≡ Some p → (test ≡ true) × (o ≡ Some p)
peer_is true o p e = (refl, e)
peer_is false o p e = absurd cc

tells_peer_owes : (most : ℕ) (f g : Finality) (with : Resumed) (here : Place) → Came f g with here → 1 ≤ most → (g.told < 255 → serving g (length g.peers - g.told) + 1 ≤ most) → (o : Option Party) → peer_at g.told g.peers ≡ o → Owed most f with here (tells_peer o g)
tells_peer_owes most f g with here k some le None is = record { limits = λ h small place. (k.limits h small place, id_long g.stx.tx (k.limits h small place).0.0); tags = λ test old given. (k.passes test old given, refl); falls = some; asks = refl }
tells_peer_owes most f g with here k some le (Some p) is =
    let there = peer_is (nat_lt g.told 255) (slice_get g.peers g.told) p is in
    let more = slice_get_within g.peers g.told p there.1 in
    let enough = le (ltb-true g.told 255 there.0) in
    record {
      limits = λ h small place. let w = k.limits h small place in (w, (all_get IsParty g.peers g.told p w.1.0.1 there.1, (omega arith, w.0)));
      tags = λ test old given. let all = k.passes test old given in (all, of_stx test g all);
      falls = omega (arith, enough, more);
      asks = refl;
    }

recorded_owes : (f : Finality) (with : Resumed) (here : Place) → Owed (weight Recording f) f with here (recorded f with)
recorded_owes f resumed.Recorded here = tells_peer_owes (weight Recording f) f f resumed.Recorded here (same form IsFinality f resumed.Recorded here) (omega arith) (λ _. omega arith) (peer_at f.told f.peers) refl
recorded_owes f other here = unnamed_owes form IsFinality (weight Recording f) f other here (omega arith)

serves_owes : (most : ℕ) (f g : Finality) (with : Resumed) (here : Place) → Came f g with here → serving g (length g.peers - g.told - 1) + 2 ≤ most → (o : Option Key) → (IsFinality f → IsResumed with → IfSome o IsKey) → Owed most f with here (serves o g)
serves_owes most f g with here k le None is = fails_owes form IsFinality most f g with here 54 k (omega arith) (omega (arith, le))
serves_owes most f g with here k le (Some key) is = record { limits = λ h small place. (k.limits h small place, is h small); tags = λ test old given. (k.passes test old given, refl); falls = omega (arith, le); asks = refl }

peer_opened_owes : (f : Finality) (with : Resumed) (here : Place) → Owed (weight OpeningPeer f) f with here (peer_opened f with)
peer_opened_owes f (resumed.Opened key) here = serves_owes (weight OpeningPeer f) f (record f { key = Some key }) (resumed.Opened key) here (record { limits = λ h small place. (h.0, (h.1.0, (h.1.1.0, (h.1.1.1.0, (h.1.1.1.1.0, (small, h.1.1.1.1.1.1)))))); passes = λ test old given. old }) (omega arith) (Some key) (λ h small. small)
peer_opened_owes f other here = unnamed_owes form IsFinality (weight OpeningPeer f) f other here (omega arith)

looks_up_owes : (x : Hash32) (f g : Finality) (here : Place) → Came f g (resumed.Got (value.Id x)) here → (length g.peers ≡ length f.peers) × ((g.told ≡ f.told) × (g.served ≡ raised 65535 f.served)) → Owed (weight Serving f) f (resumed.Got (value.Id x)) here (looks_up x g)
looks_up_owes x f g here k is =
    let most = weight Serving f in
    let came = resumed.Got (value.Id x) in
    owes_if form IsFinality most f came here (nat_le g.served 512) (On LookingUp g (act.Lookup x)) (Stops g 62)
    (λ few. let le = leb-true g.served 512 few in record { limits = λ h small place. (k.limits h small place, small); tags = λ test old given. (k.passes test old given, refl); falls = omega (arith, le, is.0, is.1.0, is.1.1); asks = refl })
    (λ _. fails_owes form IsFinality most f g came here 62 k (omega arith) (omega arith))

served_owes : (f : Finality) (with : Resumed) (here : Place) → Owed (weight Serving f) f with here (served f with)
served_owes f (resumed.Got (value.Id x)) here =
    looks_up_owes x f (record f { served = raised 65535 f.served }) here (record { limits = λ h small place. (h.0, (h.1.0, (h.1.1.0, (h.1.1.1.0, (omega arith, h.1.1.1.1.1))))); passes = λ test old given. old }) (refl, (refl, refl))
served_owes f resumed.Ended here =
    let g = record f { told = raised 255 f.told } in
    tells_peer_owes (weight Serving f) f g resumed.Ended here (record { limits = λ h small place. (h.0, (h.1.0, (h.1.1.0, (omega arith, h.1.1.1.1)))); passes = λ test old given. old }) (omega arith) (λ few. omega (arith, few)) (peer_at g.told g.peers) refl
served_owes f other here = unnamed_owes form IsFinality (weight Serving f) f other here (omega arith)

sends_with : (f : Finality) (stx : SignedTx) (here : Place) → Came f (record f { fetched = Some stx }) (resumed.Found stx) here → (o : Option Key) → f.key ≡ o → Owed (weight LookingUp f) f (resumed.Found stx) here (sends o stx (record f { fetched = Some stx }))
sends_with f stx here k None is = fails_owes form IsFinality (weight LookingUp f) f (record f { fetched = Some stx }) (resumed.Found stx) here 54 k (omega arith) (omega arith)
sends_with f stx here k (Some key) is = record { limits = λ h small place. (k.limits h small place, (subst (λ o. IfSome o IsKey) is h.1.1.1.1.1.0, small)); tags = λ test old given. (k.passes test old given, given); falls = omega arith; asks = refl }

sends_owes : (f : Finality) (stx : SignedTx) (here : Place) (o : Option Key) → f.key ≡ o → Owed (weight LookingUp f) f (resumed.Found stx) here (sends o stx (record f { fetched = Some stx }))
sends_owes f stx here o is =
    let k : Came f (record f { fetched = Some stx }) (resumed.Found stx) here = record {
      limits = λ h small place. (h.0, (h.1.0, (h.1.1.0, (h.1.1.1.0, (h.1.1.1.1.0, (h.1.1.1.1.1.0, small))))));
      passes = λ test old given. joined_pass test f.stx.tags stx.tags (of_stx test f old) given;
    } in
    sends_with f stx here k o is

looked_up_owes : (f : Finality) (with : Resumed) (here : Place) → Owed (weight LookingUp f) f with here (looked_up f with)
looked_up_owes f (resumed.Found stx) here = sends_owes f stx here f.key refl
looked_up_owes f resumed.Absent here = fails_owes form IsFinality (weight LookingUp f) f f resumed.Absent here 35 (same form IsFinality f resumed.Absent here) (omega arith) (omega arith)
looked_up_owes f other here = unnamed_owes form IsFinality (weight LookingUp f) f other here (omega arith)

sent_owes : (f : Finality) (with : Resumed) (here : Place) → Owed (weight SendingTx f) f with here (sent f with)
sent_owes f resumed.Sent here = serves_owes (weight SendingTx f) f f resumed.Sent here (same form IsFinality f resumed.Sent here) (omega arith) f.key (λ h small. h.1.1.1.1.1.0)
sent_owes f other here = unnamed_owes form IsFinality (weight SendingTx f) f other here (omega arith)

moves_owe : (p : FinalityPlace) (f : Finality) (with : Resumed) (here : Place) → Owed (weight p f) f with here (moves p f with here)
moves_owe Verifying f with here = verified_owes f with here
moves_owe Signing f with here = signed_owes f with here
moves_owe OpeningSigner f with here = signer_opened_owes f with here
moves_owe ReceivingTags f with here = collected_owes f with here
moves_owe Notarising f with here = notarised_owes f with here
moves_owe Recording f with here = recorded_owes f with here
moves_owe OpeningPeer f with here = peer_opened_owes f with here
moves_owe Serving f with here = served_owes f with here
moves_owe LookingUp f with here = looked_up_owes f with here
moves_owe SendingTx f with here = sent_owes f with here

-- the machine owes nothing more
pub is_form : IsForm IsFinality form
is_form = record {
  starts = λ f here. record { limits = λ h small place. (h, h.0.0); tags = λ test old given. (old, refl); falls = omega arith; asks = refl };
  moves = moves_owe;
}

-- ---- the frame of a call

-- it is within its limits
pub call_fits : (tx : Tx) (peers : List Party) → IsCall (call.Finality tx peers) → IsFinality (first tx peers)
call_fits tx peers h = ((h.0, (omega arith, (tt, tt))), (h.1, (omega arith, (omega arith, (omega arith, (tt, tt))))))
