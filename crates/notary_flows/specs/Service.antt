-- The notary service, of class 20: it has the node's book decide the request that comes, and sends the answer.
use Rattle.std.specs.Prelude.{ℕ, List, [], ◌∷◌, ◌++◌, Option, Some, None, Result, IfSome}
use Rattle.net_base.specs.declared.names.Key.{Key}
use Rattle.net_base.specs.declared.names.Tag.{Tag}
use Rattle.net_base.specs.Forms.{option_of, option_at}
use Rattle.net_base.specs.Combining.{mapped_at, pair_at}
use Rattle.net_base.specs.Names.{IsKey, key, key_at}
use Rattle.ledger_types.specs.declared.notary.Request.{Request}
use Rattle.ledger_types.specs.declared.notary.NotaryAnswer.{NotaryAnswer}
use Rattle.ledger_types.specs.declared.value.Value.TheVariants as value
use Rattle.ledger_types.specs.Requests.{IsRequest, request, request_at, IsNotaryAnswer, notary_answer, notary_answer_at}
use Rattle.flow_machine.specs.declared.acts.Act.TheVariants as act
use Rattle.flow_machine.specs.declared.acts.Resumed.TheVariants as resumed
use Rattle.flow_machine.specs.Tags.{answer_tags}
use Rattle.flow_forms.specs.declared.forms.Goes.{Goes}
use Rattle.flow_forms.specs.declared.forms.Goes.TheVariants.{On, Ends}
use Rattle.flow_forms.specs.Usual.{Place, Resumed, Form, unnamed, tags_in}
use Rattle.notary_flows.specs.declared.service.Service.{Service}
use Rattle.notary_flows.specs.declared.service.ServicePlace.{ServicePlace}
use Rattle.notary_flows.specs.declared.service.ServicePlace.TheVariants.{Receiving, Deciding, Answering}

-- ---- how it goes on

-- its fields as it answers an Init in a session
abbrev pub fresh : Key → Service
fresh k = record { key = k; request = None; answer = None }

-- it waits for the request
abbrev pub begins : Service → Goes ServicePlace Service
begins s = On Receiving s (act.Receive s.key)

-- the request is decided
abbrev pub received : Service → Resumed → Goes ServicePlace Service
received s (resumed.Got (value.Request r)) = On Deciding (record s { request = Some r }) (act.Notarise r)
received s other = unnamed s other

-- the answer is sent
abbrev pub decided : Service → Resumed → Goes ServicePlace Service
decided s (resumed.Answer a) = On Answering (record s { answer = Some a }) (act.Send s.key (value.Answer a))
decided s other = unnamed s other

-- that is all
abbrev pub sent : Service → Resumed → Goes ServicePlace Service
sent s resumed.Sent = Ends s value.Unit
sent s other = unnamed s other

-- how it goes on by where it waits
abbrev pub moves : ServicePlace → Service → Resumed → Place → Goes ServicePlace Service
moves Receiving s with here = received s with
moves Deciding s with here = decided s with
moves Answering s with here = sent s with

-- the weight of a frame
abbrev pub weight : ServicePlace → Service → ℕ
weight Receiving s = 4
weight Deciding s = 3
weight Answering s = 1

-- the tags of its fields
abbrev pub tags : Service → List Tag
tags s = tags_in (λ r. r.tag ∷ []) s.request ++ tags_in answer_tags s.answer

-- what the machine is
abbrev pub form : Form ServicePlace Service
form = record { starts = λ s here. begins s; moves = moves; weight = weight; called = λ s. 5; tags = tags }

-- ---- its bytes

-- the limits of its fields
abbrev pub IsService : Service → Type 0
IsService s = IsKey s.key × (IfSome s.request IsRequest × IfSome s.answer IsNotaryAnswer)

-- the bytes of its fields
abbrev pub service : Service → List ℕ
service s = key s.key ++ (option_of request s.request ++ option_of notary_answer s.answer)

-- fields of their parts
abbrev pub service_of : Key × (Option Request × Option NotaryAnswer) → Service
service_of p = record { key = p.0; request = p.1.0; answer = p.1.1 }

-- reading its fields
unfoldable pub service_at : List ℕ → Result (Service × List ℕ) ℕ
service_at = mapped_at service_of (pair_at key_at (pair_at (option_at request_at) (option_at notary_answer_at)))

-- the numbers of its places
abbrev pub place_number : ServicePlace → ℕ
place_number Receiving = 1
place_number Deciding = 2
place_number Answering = 3

-- its places; the number behind theirs is that of Return
abbrev pub places : List ServicePlace
places = Receiving ∷ Deciding ∷ Answering ∷ []
