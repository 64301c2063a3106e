-- The ping flow: class 2, `ping P K`, opens a session with P's echo, sends it each number that comes, and returns the K-th.
use Rattle.std.specs.Prelude.{ℕ, ◌-◌, ◌+◌, ◌*◌, ◌<◌, ◌^◌, ◌==◌, ◌&&◌, nat_le, false, [], ◌∷◌, Option, Some, None, if◌then◌else◌, ◌≡◌, ◌≤◌, refl}
use Rattle.ledger_types.specs.declared.value.Value.TheVariants as value
use Rattle.flow_machine.specs.declared.acts.Act.TheVariants as act
use Rattle.flow_machine.specs.declared.acts.Resumed.TheVariants as resumed
use Rattle.flow_forms.specs.declared.arguments.End.{End}
use Rattle.flow_forms.specs.declared.arguments.Then.{Then}
use Rattle.flow_forms.specs.declared.forms.Goes.{Goes}
use Rattle.flow_forms.specs.declared.forms.Goes.TheVariants.{On, Ends}
use Rattle.flow_forms.specs.Usual.{Place, Resumed, Form, unnamed, Numbers, needs, is_peer, Owes, IsForm, unnamed_owes, owes_if, needs_owes, there_within, Keeps, same, peer_is_party, BeginsWithin, if_some, Kept, kept_as, before, option_field, u32_field, u64_field, party_field, key_field, IsKey, arith, subst, eqb-false, and_parts}
use Rattle.shipped_flows.specs.declared.ping.Ping.{Ping}
use Rattle.shipped_flows.specs.declared.ping.PingPlace.{PingPlace}
use Rattle.shipped_flows.specs.declared.ping.PingPlace.TheVariants.{Opening, Receiving, Sending}

-- ---- how it goes on

-- another node, and a count of 1 to 1,000
abbrev pub begins : Then ℕ (Then ℕ End) → Place → Option Ping
begins args here = if is_peer args.first here && (nat_le 1 args.rest.first && nat_le args.rest.first 1000) then Some (record { to = record { 0 = args.first }; left = args.rest.first; key = None; last = 0 }) else None

-- it opens a session of class 2, whose first value is 0
abbrev pub opens : Ping → Goes PingPlace Ping
opens p = On Opening p (act.Open p.to 2 (value.Number 0))

-- it receives in its session
abbrev pub receives : Ping → Goes PingPlace Ping
receives p = needs p.key p (λ k. On Receiving p (act.Receive k))

-- with none left it returns the last number, and else sends it
abbrev pub counts : Ping → Goes PingPlace Ping
counts p = if p.left == 0 then Ends p (value.Number p.last) else needs p.key p (λ k. On Sending p (act.Send k (value.Number p.last)))

-- how it goes on by where it waits
abbrev pub moves : PingPlace → Ping → Resumed → Place → Goes PingPlace Ping
moves Opening p (resumed.Opened k) here = receives (record p { key = Some k })
moves Receiving p (resumed.Got (value.Number x)) here = counts (record p { left = p.left - 1; last = x })
moves Sending p resumed.Sent here = receives p
moves place p other here = unnamed p other

-- each number but the last costs three: it is received and sent
abbrev pub weight : PingPlace → Ping → ℕ
weight Opening p = 3 * (p.left - 1) + 2
weight Receiving p = 3 * (p.left - 1) + 1
weight Sending p = 3 * (p.left - 1) + 2

-- what the machine is
abbrev pub form : Form PingPlace Ping
form = record { starts = λ p here. opens p; moves = moves; weight = weight; called = λ p. 3 * (p.left - 1) + 3010; tags = λ p. [] }

-- ---- its bytes

-- its fields: the other party, how many numbers are left, the session once it is open, and the last number
abbrev pub kept : Kept Ping
kept = kept_as (before party_field (before u32_field (before (option_field key_field) u64_field))) (λ p. record { to = p.0; left = p.1.0; key = p.1.1.0; last = p.1.1.1 }) (λ p. (p.to, (p.left, (p.key, p.last)))) (λ _. refl) (λ _. refl) refl

-- its places: 1 Open, 2 Receive, 3 Send, 4 Return
abbrev pub numbers : Numbers PingPlace
numbers = record { all = Opening ∷ Receiving ∷ Sending ∷ []; number = elim [ Opening ↦ 1 | Receiving ↦ 2 | Sending ↦ 3 ]; told = λ callable. elim [ Opening ↦ refl | Receiving ↦ refl | Sending ↦ refl ]; few = refl }

-- ---- its laws

pub begins_within : BeginsWithin (λ args. (args.first < 256) × ((args.rest.first < 2 ^ 32) × Unit {0})) kept.within form.tags begins
begins_within args here p e =
    let made = if_some (is_peer args.first here && (nat_le 1 args.rest.first && nat_le args.rest.first 1000)) e in
    let peer = (and_parts (is_peer args.first here) (nat_le 1 args.rest.first && nat_le args.rest.first 1000) made.0).0 in
    (λ given place. subst kept.within made.1 (peer_is_party args.first here peer place, (given.1.0, (tt, omega arith))), refl)

-- receiving, with a key that is within its limits
receives_owe : (p t : Ping) (with : Resumed) (here : Place) (most : ℕ) → Keeps form kept.within p t with here → weight Receiving t + 1 ≤ most → Owes form kept.within most p with here (receives t)
receives_owe p t with here most keeps falls =
    needs_owes form kept.within most p t with here t.key (λ k. On Receiving t (act.Receive k)) keeps (omega (arith, falls))
    (λ k is. record { limits = λ h small place. let w = keeps.limits h small place in (w, there_within IsKey t.key k is w.1.1.0); tags = λ test old given. (refl, refl); falls = falls; asks = refl })

counts_owe : (p t : Ping) (with : Resumed) (here : Place) → Keeps form kept.within p t with here → t.left ≡ p.left - 1 → Owes form kept.within (weight Receiving p) p with here (counts t)
counts_owe p t with here keeps fewer =
    owes_if form kept.within (weight Receiving p) p with here (t.left == 0) (Ends t (value.Number t.last)) (needs t.key t (λ k. On Sending t (act.Send k (value.Number t.last))))
    (λ _. record { limits = λ h small place. let w = keeps.limits h small place in (w, w.1.1.1); tags = λ test old given. (refl, refl); falls = omega arith; asks = refl })
    (λ some. needs_owes form kept.within (weight Receiving p) p t with here t.key (λ k. On Sending t (act.Send k (value.Number t.last))) keeps (omega arith)
    (λ k is. record { limits = λ h small place. let w = keeps.limits h small place in (w, (there_within IsKey t.key k is w.1.1.0, w.1.1.1)); tags = λ test old given. (refl, refl); falls = omega (arith, fewer, eqb-false t.left 0 some); asks = refl }))

moves_owe : (place : PingPlace) (p : Ping) (with : Resumed) (here : Place) → Owes form kept.within (weight place p) p with here (moves place p with here)
moves_owe Opening p (resumed.Opened k) here = receives_owe p (record p { key = Some k }) (resumed.Opened k) here (weight Opening p) (record { limits = λ h small place. (h.0, (h.1.0, (small, h.1.1.1))); passes = λ test old given. refl }) (omega arith)
moves_owe Receiving p (resumed.Got (value.Number x)) here = counts_owe p (record p { left = p.left - 1; last = x }) (resumed.Got (value.Number x)) here (record { limits = λ h small place. (h.0, (omega (arith, h.1.0), (h.1.1.0, small))); passes = λ test old given. refl }) refl
moves_owe Sending p resumed.Sent here = receives_owe p p resumed.Sent here (weight Sending p) (same form kept.within p resumed.Sent here) (omega arith)
moves_owe place p other here = unnamed_owes form kept.within (weight place p) p other here (omega arith)

pub is_form : IsForm kept.within form
is_form = record { starts = λ p here. record { limits = λ h fits place. (h, (h.0, (omega arith, omega arith))); tags = λ test old given. (refl, refl); falls = omega arith; asks = refl }; moves = moves_owe }
