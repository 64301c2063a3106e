-- The laws of the notary client.
use Rattle.std.specs.Prelude.{ℕ, ◌+◌, ◌*◌, ◌-◌, ◌≤◌, ◌<◌, ◌∷◌, ◌++◌, length, refl, nat_lt, Bool}
use Rattle.std.proofs.Common.{arith}
use Rattle.std.proofs.lemmas.Bool.{ltb-true}
use Rattle.net_base.specs.Forms.{option_of}
use Rattle.net_base.specs.Laws.{Laws}
use Rattle.net_base.specs.Combining.{pair_laws, iso_laws}
use Rattle.net_base.specs.Fields.{byte_laws, option_laws}
use Rattle.net_base.specs.Names.{IsKey, key, key_laws}
use Rattle.ledger_types.specs.declared.value.Value.TheVariants as value
use Rattle.ledger_types.specs.Requests.{request, request_laws, IsNotaryAnswer, notary_answer, notary_answer_laws}
use Rattle.ledger_types.proofs.Sizes.{request_fits, answer_fits, joined}
use Rattle.flow_machine.specs.declared.acts.Resumed.TheVariants as resumed
use Rattle.flow_machine.specs.Tags.{answer_tags}
use Rattle.flow_forms.specs.declared.forms.At.TheVariants as stands
use Rattle.flow_forms.specs.declared.forms.Goes.TheVariants.{Stops}
use Rattle.flow_forms.specs.Shared.{stops_owes, first_passes, both_pass}
use Rattle.flow_forms.specs.Sizes.{option_fits, key_fits}
use Rattle.flow_forms.specs.Usual.{Place, Resumed, Owes, IsForm, Numbers, places_of, IsAt, unnamed_owes, raised, tags_in, owes_if, Kept}
use Rattle.notary_flows.specs.declared.client.Client.{Client}
use Rattle.notary_flows.specs.declared.client.ClientPlace.{ClientPlace}
use Rattle.notary_flows.specs.declared.client.ClientPlace.TheVariants.{Opening, Receiving}
use Rattle.notary_flows.specs.Client.{opens, opened, answered, moves, weight, form, IsClient, client, client_of, client_at, place_number, places}

-- its fields' laws
pub client_laws : Laws IsClient client client_at
unfolding client_at
client_laws = iso_laws client_of (λ c. (c.request, (c.tries, (c.key, c.answer)))) (λ _. refl) (λ _. refl) (pair_laws request_laws (pair_laws byte_laws (pair_laws (option_laws key_laws) (option_laws notary_answer_laws))))

-- its places' laws
pub told : (callable : Bool) (p : ClientPlace) → IsAt (places_of callable places place_number) (stands.Asking p)
told callable Opening = refl
told callable other = refl

abbrev pub numbers : Numbers ClientPlace
numbers = record { all = places; number = place_number; told = told; few = refl }

-- its fields are short
pub short : (c : Client) → IsClient c → length (client c) ≤ 32766
short c h =
    let rest = joined (option_of key c.key) (option_of notary_answer c.answer) 6 5523 (option_fits IsKey key 5 key_fits c.key h.1.1.0) (option_fits IsNotaryAnswer notary_answer 5522 answer_fits c.answer h.1.1.1) in
    let all = joined (request c.request) (c.tries ∷ (option_of key c.key ++ option_of notary_answer c.answer)) 9746 5530 (request_fits c.request h.0) (omega (arith, rest)) in
    omega (arith, all)

-- what it keeps
abbrev pub kept : Kept Client
kept = record { exact = Unit {0}; within = IsClient; spelling = client; reading = client_at; laws = client_laws; short = short }

-- ---- what it owes

-- opening, from fields that differ in the number of tries
opens_owes : (most n : ℕ) (c : Client) (with : Resumed) (here : Place) → n < 256 → 12 * (2 - n) + 13 ≤ most → Owes form IsClient most c with here (opens (record c { tries = n }) here)
opens_owes most n c with here small le = record {
  limits = λ h fits place. ((h.0, (small, h.1.1)), (place.notary, (omega arith, h.0)));
  tags = λ test old given. (old, first_passes test c.request.tag (tags_in answer_tags c.answer) old);
  falls = omega (arith, le);
  asks = refl;
}

opened_owes : (c : Client) (with : Resumed) (here : Place) → Owes form IsClient (weight Opening c) c with here (opened c with here)
opened_owes c (resumed.Opened k) here = record { limits = λ h small place. ((h.0, (h.1.0, (small, h.1.1.1))), (small, omega arith)); tags = λ test old given. (old, refl); falls = omega arith; asks = refl }
opened_owes c other here = unnamed_owes form IsClient (weight Opening c) c other here (omega arith)

answered_owes : (c : Client) (with : Resumed) (here : Place) → Owes form IsClient (weight Receiving c) c with here (answered c with here)
answered_owes c (resumed.Got (value.Answer a)) here = record {
  limits = λ h small place. ((h.0, (h.1.0, (h.1.1.0, small))), small);
  tags = λ test old given. (both_pass test c.request.tag (answer_tags a) (first_passes test c.request.tag (tags_in answer_tags c.answer) old) given, given);
  falls = omega arith;
  asks = refl;
}
answered_owes c resumed.Lapsed here =
    let n = raised 255 c.tries in
    owes_if form IsClient (weight Receiving c) c resumed.Lapsed here (nat_lt n 3) (opens (record c { tries = n }) here) (Stops (record c { tries = n }) 53)
    (λ less. let few : n < 3 = ltb-true n 3 less in opens_owes (weight Receiving c) n c resumed.Lapsed here (omega arith) (omega (arith, few)))
    (λ _. stops_owes form IsClient (weight Receiving c) c (record c { tries = n }) resumed.Lapsed here 53 (omega arith) (omega arith) (λ h small. (h.0, (omega arith, h.1.1))) (λ test old. old))
answered_owes c other here = unnamed_owes form IsClient (weight Receiving c) c other here (omega arith)

moves_owe : (p : ClientPlace) (c : Client) (with : Resumed) (here : Place) → Owes form IsClient (weight p c) c with here (moves p c with here)
moves_owe Opening c with here = opened_owes c with here
moves_owe Receiving c with here = answered_owes c with here

-- the machine owes nothing more
pub is_form : IsForm IsClient form
is_form = record {
  starts = λ c here. record { limits = λ h fits place. (h, (place.notary, (omega arith, h.0))); tags = λ test old given. (old, first_passes test c.request.tag (tags_in answer_tags c.answer) old); falls = omega arith; asks = refl };
  moves = moves_owe;
}
