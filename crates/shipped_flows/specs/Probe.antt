-- The probe flow: class 10, `probe P CLASS`, opens a session of the class with P, and returns once any value came.
use Rattle.std.specs.Prelude.{ℕ, ◌+◌, ◌<◌, ◌^◌, [], ◌∷◌, Option, Some, None, if◌then◌else◌, refl}
use Rattle.ledger_types.specs.declared.value.Value.TheVariants as value
use Rattle.flow_machine.specs.declared.acts.Act.TheVariants as act
use Rattle.flow_machine.specs.declared.acts.Resumed.TheVariants as resumed
use Rattle.flow_forms.specs.declared.arguments.End.{End}
use Rattle.flow_forms.specs.declared.arguments.Then.{Then}
use Rattle.flow_forms.specs.declared.forms.Goes.{Goes}
use Rattle.flow_forms.specs.declared.forms.Goes.TheVariants.{On, Ends}
use Rattle.flow_forms.specs.Usual.{Place, Resumed, Form, unnamed, Numbers, is_peer, load_of, Owes, IsForm, unnamed_owes, peer_is_party, BeginsWithin, if_some, Kept, kept_as, before, option_field, u16_field, party_field, key_field, arith, subst}
use Rattle.shipped_flows.specs.declared.probe.Probe.{Probe}
use Rattle.shipped_flows.specs.declared.probe.ProbePlace.{ProbePlace}
use Rattle.shipped_flows.specs.declared.probe.ProbePlace.TheVariants.{Opening, Receiving}

-- ---- how it goes on

-- another node, and any class
abbrev pub begins : Then ℕ (Then ℕ End) → Place → Option Probe
begins args here = if is_peer args.first here then Some (record { to = record { 0 = args.first }; class = args.rest.first; key = None }) else None

-- it opens a session of the class, whose first value is Unit
abbrev pub opens : Probe → Goes ProbePlace Probe
opens p = On Opening p (act.Open p.to p.class value.Unit)

-- how it goes on by where it waits
abbrev pub moves : ProbePlace → Probe → Resumed → Place → Goes ProbePlace Probe
moves Opening p (resumed.Opened k) here = On Receiving (record p { key = Some k }) (act.Receive k)
moves Receiving p (resumed.Got v) here = Ends p value.Unit
moves place p other here = unnamed p other

-- it receives once, and returns
abbrev pub weight : ProbePlace → Probe → ℕ
weight Opening p = 2
weight Receiving p = 1

-- what the machine is
abbrev pub form : Form ProbePlace Probe
form = record { starts = λ p here. opens p; moves = moves; weight = weight; called = λ p. load_of p.class + 8; tags = λ p. [] }

-- ---- its bytes

-- its fields: the other party, the class, and the session once it is open
abbrev pub kept : Kept Probe
kept = kept_as (before party_field (before u16_field (option_field key_field))) (λ p. record { to = p.0; class = p.1.0; key = p.1.1 }) (λ p. (p.to, (p.class, p.key))) (λ _. refl) (λ _. refl) refl

-- its places: 1 Open, 2 Receive, 3 Return
abbrev pub numbers : Numbers ProbePlace
numbers = record { all = Opening ∷ Receiving ∷ []; number = elim [ Opening ↦ 1 | Receiving ↦ 2 ]; told = λ callable. elim [ Opening ↦ refl | Receiving ↦ refl ]; few = refl }

-- ---- its laws

pub begins_within : BeginsWithin (λ args. (args.first < 256) × ((args.rest.first < 2 ^ 16) × Unit {0})) kept.within form.tags begins
begins_within args here p e = let made = if_some (is_peer args.first here) e in (λ given place. subst kept.within made.1 (peer_is_party args.first here made.0 place, (given.1.0, tt)), refl)

moves_owe : (place : ProbePlace) (p : Probe) (with : Resumed) (here : Place) → Owes form kept.within (weight place p) p with here (moves place p with here)
moves_owe Opening p (resumed.Opened k) here = record { limits = λ h small place. ((h.0, (h.1.0, small)), small); tags = λ test old given. (refl, refl); falls = omega arith; asks = refl }
moves_owe Receiving p (resumed.Got v) here = record { limits = λ h small place. (h, tt); tags = λ test old given. (refl, refl); falls = omega arith; asks = refl }
moves_owe place p other here = unnamed_owes form kept.within (weight place p) p other here (omega arith)

pub is_form : IsForm kept.within form
is_form = record { starts = λ p here. record { limits = λ h fits place. (h, (h.0, (h.1.0, tt))); tags = λ test old given. (refl, refl); falls = omega arith; asks = refl }; moves = moves_owe }
