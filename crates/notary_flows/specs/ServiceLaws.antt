-- The laws of the notary service.
use Rattle.std.specs.Prelude.{◌≤◌, [], ◌∷◌, ◌++◌, length, refl, Bool}
use Rattle.std.proofs.Common.{arith}
use Rattle.net_base.specs.Forms.{option_of}
use Rattle.net_base.specs.Laws.{Laws}
use Rattle.net_base.specs.Combining.{pair_laws, iso_laws}
use Rattle.net_base.specs.Fields.{option_laws}
use Rattle.net_base.specs.Names.{key, key_laws}
use Rattle.ledger_types.specs.declared.value.Value.TheVariants as value
use Rattle.ledger_types.specs.Requests.{IsRequest, request, request_laws, IsNotaryAnswer, notary_answer, notary_answer_laws}
use Rattle.ledger_types.proofs.Sizes.{request_fits, answer_fits, joined}
use Rattle.flow_machine.specs.declared.acts.Resumed.TheVariants as resumed
use Rattle.flow_machine.specs.Tags.{answer_tags}
use Rattle.flow_forms.specs.declared.forms.At.TheVariants as stands
use Rattle.flow_forms.specs.Ways.{AnswersWithin}
use Rattle.flow_forms.specs.Sizes.{option_fits, key_fits}
use Rattle.flow_forms.specs.Usual.{Place, Resumed, Owes, IsForm, Numbers, places_of, IsAt, unnamed_owes, tags_in, joined_pass, parts_pass, Kept}
use Rattle.notary_flows.specs.declared.service.Service.{Service}
use Rattle.notary_flows.specs.declared.service.ServicePlace.{ServicePlace}
use Rattle.notary_flows.specs.declared.service.ServicePlace.TheVariants.{Receiving, Deciding, Answering}
use Rattle.notary_flows.specs.Service.{received, decided, sent, moves, weight, form, fresh, IsService, service, service_of, service_at, place_number, places}

-- its fields' laws
pub service_laws : Laws IsService service service_at
unfolding service_at
service_laws = iso_laws service_of (λ s. (s.key, (s.request, s.answer))) (λ _. refl) (λ _. refl) (pair_laws key_laws (pair_laws (option_laws request_laws) (option_laws notary_answer_laws)))

-- its places' laws
pub told : (callable : Bool) (p : ServicePlace) → IsAt (places_of callable places place_number) (stands.Asking p)
told callable Receiving = refl
told callable other = refl

abbrev pub numbers : Numbers ServicePlace
numbers = record { all = places; number = place_number; told = told; few = refl }

-- its fields are short
pub short : (s : Service) → IsService s → length (service s) ≤ 32766
short s h =
    let rest = joined (option_of request s.request) (option_of notary_answer s.answer) 9747 5523 (option_fits IsRequest request 9746 request_fits s.request h.1.0) (option_fits IsNotaryAnswer notary_answer 5522 answer_fits s.answer h.1.1) in
    let all = joined (key s.key) (option_of request s.request ++ option_of notary_answer s.answer) 5 15270 (key_fits s.key h.0) rest in
    omega (arith, all)

-- what it keeps
abbrev pub kept : Kept Service
kept = record { exact = Unit {0}; within = IsService; spelling = service; reading = service_at; laws = service_laws; short = short }

-- ---- what it owes

received_owes : (s : Service) (with : Resumed) (here : Place) → Owes form IsService 4 s with here (received s with)
received_owes s (resumed.Got (value.Request r)) here = record {
  limits = λ h small place. ((h.0, (small, h.1.1)), small);
  tags = λ test old given. (joined_pass test (r.tag ∷ []) (tags_in answer_tags s.answer) given (parts_pass test (tags_in (λ q. q.tag ∷ []) s.request) (tags_in answer_tags s.answer) old).1, given);
  falls = omega arith;
  asks = refl;
}
received_owes s other here = unnamed_owes form IsService 4 s other here (omega arith)

decided_owes : (s : Service) (with : Resumed) (here : Place) → Owes form IsService 3 s with here (decided s with)
decided_owes s (resumed.Answer a) here = record {
  limits = λ h small place. ((h.0, (h.1.0, small)), (h.0, small));
  tags = λ test old given. (joined_pass test (tags_in (λ q. q.tag ∷ []) s.request) (answer_tags a) (parts_pass test (tags_in (λ q. q.tag ∷ []) s.request) (tags_in answer_tags s.answer) old).0 given, given);
  falls = omega arith;
  asks = refl;
}
decided_owes s other here = unnamed_owes form IsService 3 s other here (omega arith)

sent_owes : (s : Service) (with : Resumed) (here : Place) → Owes form IsService 1 s with here (sent s with)
sent_owes s resumed.Sent here = record { limits = λ h small place. (h, tt); tags = λ test old given. (old, refl); falls = omega arith; asks = refl }
sent_owes s other here = unnamed_owes form IsService 1 s other here (omega arith)

moves_owe : (p : ServicePlace) (s : Service) (with : Resumed) (here : Place) → Owes form IsService (weight p s) s with here (moves p s with here)
moves_owe Receiving s with here = received_owes s with here
moves_owe Deciding s with here = decided_owes s with here
moves_owe Answering s with here = sent_owes s with here

-- the machine owes nothing more
pub is_form : IsForm IsService form
is_form = record { starts = λ s here. record { limits = λ h small place. (h, h.0); tags = λ test old given. (old, refl); falls = omega arith; asks = refl }; moves = moves_owe }

-- it answers an Init of class 20 within the load of the class
pub answers_within : AnswersWithin IsService form 20 fresh
answers_within k = ((λ h. (h, (tt, tt))), (refl, omega arith))
