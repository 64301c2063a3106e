-- The notary client: it opens a session of class 20 with the notary by its request, and waits 30 seconds for the answer, at most three times.
use Rattle.std.specs.Prelude.{ℕ, ◌+◌, ◌*◌, ◌-◌, ◌<◌, ◌^◌, List, [], ◌∷◌, ◌++◌, Option, Some, None, Result, IfSome, nat_lt, if◌then◌else◌, min}
use Rattle.net_base.specs.declared.names.Key.{Key}
use Rattle.net_base.specs.declared.names.Tag.{Tag}
use Rattle.net_base.specs.Forms.{option_of, option_at, byte_at}
use Rattle.net_base.specs.Combining.{mapped_at, pair_at}
use Rattle.net_base.specs.Names.{IsKey, key, key_at}
use Rattle.ledger_types.specs.declared.notary.Request.{Request}
use Rattle.ledger_types.specs.declared.notary.NotaryAnswer.{NotaryAnswer}
use Rattle.ledger_types.specs.declared.value.Value.TheVariants as value
use Rattle.ledger_types.specs.Requests.{IsRequest, request, request_at, IsNotaryAnswer, notary_answer, notary_answer_at}
use Rattle.flow_machine.specs.declared.acts.Act.TheVariants as act
use Rattle.flow_machine.specs.declared.acts.Resumed.TheVariants as resumed
use Rattle.flow_machine.specs.Tags.{answer_tags}
use Rattle.flow_forms.specs.declared.forms.Goes.{Goes}
use Rattle.flow_forms.specs.declared.forms.Goes.TheVariants.{On, Ends, Stops}
use Rattle.flow_forms.specs.Usual.{Place, Resumed, Form, unnamed, raised, tags_in}
use Rattle.notary_flows.specs.declared.client.Client.{Client}
use Rattle.notary_flows.specs.declared.client.ClientPlace.{ClientPlace}
use Rattle.notary_flows.specs.declared.client.ClientPlace.TheVariants.{Opening, Receiving}

-- ---- how it goes on

-- its fields as it is called for a request
abbrev pub fresh : Request → Client
fresh r = record { request = r; tries = 0; key = None; answer = None }

-- it opens a session by its request
abbrev pub opens : Client → Place → Goes ClientPlace Client
opens c here = On Opening c (act.Open here.notary 20 (value.Request c.request))

-- in the open session it waits 30 seconds for the answer, at most to the last moment that there is
abbrev pub opened : Client → Resumed → Place → Goes ClientPlace Client
opened c (resumed.Opened k) here = On Receiving (record c { key = Some k }) (act.ReceiveBy k (min (here.now.0 + 30000) (2 ^ 64 - 1)))
opened c other here = unnamed c other

-- it tries again, unless it waited in vain three times
abbrev pub tried : Client → Place → Goes ClientPlace Client
tried c here = if nat_lt c.tries 3 then opens c here else Stops c 53

-- the answer is returned; where it didn't come in time that is one try more
abbrev pub answered : Client → Resumed → Place → Goes ClientPlace Client
answered c (resumed.Got (value.Answer a)) here = Ends (record c { answer = Some a }) (value.Answer a)
answered c resumed.Lapsed here = tried (record c { tries = raised 255 c.tries }) here
answered c other here = unnamed c other

-- how it goes on by where it waits
abbrev pub moves : ClientPlace → Client → Resumed → Place → Goes ClientPlace Client
moves Opening c with here = opened c with here
moves Receiving c with here = answered c with here

-- the weight of a frame: each further try costs twelve
abbrev pub weight : ClientPlace → Client → ℕ
weight Opening c = 12 * (2 - c.tries) + 2
weight Receiving c = 12 * (2 - c.tries) + 1

-- the tags of its fields
abbrev pub tags : Client → List Tag
tags c = c.request.tag ∷ tags_in answer_tags c.answer

-- what the machine is
abbrev pub form : Form ClientPlace Client
form = record { starts = opens; moves = moves; weight = weight; called = λ c. 12 * (2 - c.tries) + 13; tags = tags }

-- ---- its bytes

-- the limits of its fields
abbrev pub IsClient : Client → Type 0
IsClient c = IsRequest c.request × ((c.tries < 256) × (IfSome c.key IsKey × IfSome c.answer IsNotaryAnswer))

-- the bytes of its fields
abbrev pub client : Client → List ℕ
client c = request c.request ++ (c.tries ∷ (option_of key c.key ++ option_of notary_answer c.answer))

-- fields of their parts
abbrev pub client_of : Request × (ℕ × (Option Key × Option NotaryAnswer)) → Client
client_of p = record { request = p.0; tries = p.1.0; key = p.1.1.0; answer = p.1.1.1 }

-- reading its fields
unfoldable pub client_at : List ℕ → Result (Client × List ℕ) ℕ
client_at = mapped_at client_of (pair_at request_at (pair_at byte_at (pair_at (option_at key_at) (option_at notary_answer_at))))

-- the numbers of its places
abbrev pub place_number : ClientPlace → ℕ
place_number Opening = 1
place_number Receiving = 2

-- its places; the number behind theirs is that of Return
abbrev pub places : List ClientPlace
places = Opening ∷ Receiving ∷ []
