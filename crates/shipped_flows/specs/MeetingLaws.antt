-- That a ping of an echo returns its count, proved.
use Rattle.std.specs.Prelude.{◌≡◌, ℕ, zero, suc, ◌+◌, ◌-◌, ◌<◌, ◌≤◌, ◌^◌, ◌==◌, ◌&&◌, nat_le, min, List, [], ◌∷◌, length, Bool, true, false, Some, None, Result, Ok, Err, refl, if◌then◌else◌}
use Rattle.std.proofs.Common.{arith, ap, subst, sym, eq-eqb, ◌∙◌}
use Rattle.std.proofs.lemmas.Bool.{and_from, and_parts, le-leb, leb-true, ne_eqb}
use Rattle.std.proofs.lemmas.List.{append-nil}
use Rattle.std.specs.Int.{w32}
use Rattle.net_base.specs.declared.names.Key.{Key}
use Rattle.net_base.specs.declared.values.Party.{Party}
use Rattle.net_base.specs.Reading.{number}
use Rattle.net_base.specs.Forms.{number_at}
use Rattle.net_base.specs.Fields.{u32_laws}
use Rattle.ledger_types.specs.declared.value.Value.TheVariants as value
use Rattle.flow_machine.specs.declared.acts.Act.{Act}
use Rattle.flow_machine.specs.declared.acts.Act.TheVariants as act
use Rattle.flow_machine.specs.declared.acts.Place.{Place}
use Rattle.flow_machine.specs.declared.acts.Resumed.TheVariants as resumed
use Rattle.flow_machine.specs.declared.flow_set.MakeFault.{MakeFault}
use Rattle.flow_machine.specs.declared.flow_set.MakeFault.TheVariants as make
use Rattle.flow_forms.specs.declared.arguments.End.{End}
use Rattle.flow_forms.specs.declared.arguments.Then.{Then}
use Rattle.flow_forms.specs.declared.forms.At.TheVariants as stands
use Rattle.flow_forms.specs.declared.forms.Sum.TheVariants as of
use Rattle.flow_forms.specs.Arguments.{whole_of}
use Rattle.flow_forms.specs.FormLaws.{made_from}
use Rattle.flow_forms.specs.declared.forms.Goes.TheVariants.{On, Ends, Stops}
use Rattle.flow_forms.specs.Forms.{frame}
use Rattle.flow_forms.specs.Sums.{left, right, or_made, made_right}
use Rattle.flow_machine.specs.Machine.{Machine}
use Rattle.shipped_flows.specs.Echo as echo
use Rattle.flow_forms.specs.Ways.{begins_of, fields_of}
use Rattle.flow_forms.specs.Closing.{seen, made_by}
use Rattle.flow_forms.specs.Shared.{is_peer}
use Rattle.shipped_flows.specs.declared.ping.Ping.{Ping}
use Rattle.shipped_flows.specs.declared.ping.PingPlace.{PingPlace}
use Rattle.shipped_flows.specs.declared.ping.PingPlace.TheVariants as ping_place
use Rattle.shipped_flows.specs.declared.echo.Echo.{Echo}
use Rattle.shipped_flows.specs.declared.echo.EchoPlace.{EchoPlace}
use Rattle.shipped_flows.specs.declared.echo.EchoPlace.TheVariants as echo_place
use Rattle.shipped_flows.specs.Ping as ping
use Rattle.shipped_flows.specs.Shipped.{Shipped, no_call, ping_args_at, machine}
use Rattle.shipped_flows.specs.Meeting.{is_same, got, talk, Meets, PingReturnsItsCount}

-- a ping's frame
abbrev of_ping : PingPlace → Ping → Shipped
of_ping place p = of.Second (of.First (record { at = stands.Asking place; fields = p }))

-- an echo's frame
abbrev of_echo : EchoPlace → Echo → Shipped
of_echo place e = of.Second (of.Second (of.Second (record { at = stands.Asking place; fields = e })))

-- a session is the same as itself
same_self : (k : Key) → is_same k k ≡ true
same_self k = and_from _ _ (eq-eqb k.initiator.0 k.initiator.0 refl) (eq-eqb k.number k.number refl)

-- a ping that receives
abbrev waiting : Party → Key → ℕ → ℕ → Shipped × Act Shipped
waiting to k left last = (of_ping ping_place.Receiving (record { to = to; left = left; key = Some k; last = last }), act.Receive k)

-- a ping that sends
abbrev sending : Party → Key → ℕ → ℕ → Shipped × Act Shipped
sending to k left last = (of_ping ping_place.Sending (record { to = to; left = left; key = Some k; last = last }), act.Send k (value.Number last))

-- an echo that receives
abbrev listening : Key → ℕ → ℕ → Shipped × Act Shipped
listening k last turns = (of_echo echo_place.Receiving (record { key = k; last = last; turns = turns }), act.Receive k)

-- an echo that sends
abbrev answering : Key → ℕ → ℕ → Shipped × Act Shipped
answering k last turns = (of_echo echo_place.Sending (record { key = k; last = last; turns = turns }), act.Send k (value.Number (last + 1)))

-- How a machine goes on whose frames are these.
record Plays (m : Machine Shipped) : Type 0 where
  -- the echo answers a number with the next one
  answers : (k : Key) (last turns x : ℕ) (q : Place) → turns + 1 ≤ 1000 → x + 1 < 2 ^ 64 → m.next (listening k last turns).0 (got x) q ≡ answering k x (turns + 1)
  -- and then receives again
  heard : (k : Key) (last turns : ℕ) (q : Place) → m.next (answering k last turns).0 resumed.Sent q ≡ listening k last turns
  -- the ping returns the last number
  returns : (to : Party) (k : Key) (last y : ℕ) (p : Place) → (m.next (waiting to k 1 last).0 (got y) p).1 ≡ act.Return (value.Number y)
  -- it sends another number on
  sends : (to : Party) (k : Key) (n last y : ℕ) (p : Place) → m.next (waiting to k (suc (suc n)) last).0 (got y) p ≡ sending to k (suc n) y
  -- and then receives again
  sent : (to : Party) (k : Key) (left last : ℕ) (p : Place) → m.next (sending to k left last).0 resumed.Sent p ≡ waiting to k left last

echo_answers : (k : Key) (last turns x : ℕ) (q : Place) → turns + 1 ≤ 1000 → x + 1 < 2 ^ 64 → machine.next (listening k last turns).0 (got x) q ≡ answering k x (turns + 1)
echo_answers k last turns x q few small =
    let count : min (turns + 1) (2 ^ 32 - 1) ≡ turns + 1 = omega (arith, few) in
    let answer : min (x + 1) (2 ^ 64 - 1) ≡ x + 1 = omega (arith, small) in
    let goes : Echo → Shipped × Act Shipped = λ e. seen no_call (right (right (right (frame (echo.heard e))))) in
    ap (λ (n : ℕ). goes (record { key = k; last = x; turns = n })) count ∙ may_answer (nat_le (turns + 1) 1000) (le-leb (turns + 1) 1000 few) answer where
      may_answer : (test : Bool) → test ≡ true → min (x + 1) (2 ^ 64 - 1) ≡ x + 1 → ◌≡◌ {A = Shipped × Act Shipped} (seen no_call (right (right (right (frame (if test then On echo_place.Sending (record { key = k; last = x; turns = turns + 1 }) (act.Send k (value.Number (min (x + 1) (2 ^ 64 - 1)))) else Stops (record { key = k; last = x; turns = turns + 1 }) 62)))))) (answering k x (turns + 1))
      may_answer true e same = ap (λ (n : ℕ). (of_echo echo_place.Sending (record { key = k; last = x; turns = turns + 1 }), act.Send k (value.Number n))) same
      may_answer false e same = absurd cc

ping_sends : (to : Party) (k : Key) (n last y : ℕ) (p : Place) → machine.next (waiting to k (suc (suc n)) last).0 (got y) p ≡ sending to k (suc n) y
ping_sends to k n last y p =
    let fewer : suc (suc n) - 1 ≡ suc n = omega arith in
    let goes : ℕ → Bool → Shipped × Act Shipped = λ l none. seen no_call (right (left (frame (if none then Ends (record { to = to; left = l; key = Some k; last = y }) (value.Number y) else On ping_place.Sending (record { to = to; left = l; key = Some k; last = y }) (act.Send k (value.Number y)))))) in
    ap (λ (l : ℕ). goes l (l == 0)) fewer ∙ ap (goes (suc n)) (ne_eqb (suc n) 0 (λ e. omega (arith, e)))

plays : Plays machine
plays = record { answers = echo_answers; heard = λ k last turns q. refl; returns = λ to k last y p. refl; sends = ping_sends; sent = λ to k left last p. refl }

-- with this number left, and a number on its way, the ping returns their sum
talks : (m : Machine Shipped) → Plays m → (n x : ℕ) (p q : ℕ → Place) (i : ℕ) (to : Party) (k : Key) (last heard turns : ℕ) → turns + suc n ≤ 1000 → x + suc n < 2 ^ 64 → talk m k p q i (suc n) x (waiting to k (suc n) last) (listening k heard turns) ≡ Some (x + suc n)
talks m play zero x p q i to k last heard turns few small =
    rw (same_self k, play.answers k heard turns x (q i) few small, same_self k, play.returns to k last (x + 1) (p i)) refl
talks m play (suc n) x p q i to k last heard turns few small =
    let sum : x + 1 + suc n ≡ x + suc (suc n) = omega arith in
    rw (same_self k, play.answers k heard turns x (q i) (omega (arith, few)) (omega (arith, small)), same_self k, play.sends to k n last (x + 1) (p i), same_self k, play.heard k x (turns + 1) (q (i + 1)), play.sent to k (suc n) (x + 1) (p (i + 1)))
    (talks m play n (x + 1) p q (i + 2) to k (x + 1) x (turns + 1) (omega (arith, few)) (omega (arith, small)) ∙ ap (λ (r : ℕ). Some r) sum)

-- what a ping begins with
abbrev opening : ℕ → ℕ → Shipped × Act Shipped
opening to count = (of_ping ping_place.Opening (record { to = record { 0 = to }; left = count; key = None; last = 0 }), act.Open (record { 0 = to }) 2 (value.Number 0))

-- from the start the ping returns its count
returns : (to count : ℕ) (k : Key) (p q : ℕ → Place) → 1 ≤ count → count ≤ 1000 → talk machine k p q 2 count 0 (waiting (record { 0 = to }) k count 0) (listening k 0 0) ≡ Some count
returns to zero k p q some few = absurd (omega (arith, some))
returns to (suc n) k p q some few =
    let sum : 0 + suc n ≡ suc n = omega arith in
    talks machine plays n 0 p q 2 (record { 0 = to }) k 0 0 0 (omega (arith, few)) (omega (arith, few)) ∙ ap (λ (m : ℕ). Some m) sum

-- what a ping begins with meets an echo
meets : (to count : ℕ) (p q : ℕ → Place) (k : Key) → 1 ≤ count → count ≤ 1000 → Meets machine to count p q k (opening to count)
meets to count p q k some few = record { class = 2; first = 0; echo = listening k 0 0; opens = refl; begins = refl; returns = returns to count k p q some few }

-- ---- a ping that is made

-- the arguments
abbrev args_of : ℕ → ℕ → Then ℕ (Then ℕ End)
args_of to count = record { first = to; rest = record { first = count; rest = record {} } }

-- they are read from their bytes
args_are : (to count : ℕ) → count < 2 ^ 32 → ping_args_at (to ∷ number w32 count) ≡ Ok (args_of to count, [])
args_are to count small =
    let spelt : number_at w32 (number w32 count) ≡ Ok (count, []) = ap (number_at w32) (sym (append-nil (number w32 count))) ∙ u32_laws.again count [] small in
    rw spelt refl

-- they are few
args_few : (to count : ℕ) → nat_le (length (to ∷ number w32 count)) 65535 ≡ true
unfolding number
args_few to count = refl

-- what class 2 makes of arguments that were read
abbrev makes : Place → Result (Then ℕ (Then ℕ End) × List ℕ) ℕ → Result (Shipped × Act Shipped) MakeFault
makes here read = made_by (seen no_call) (made_right (or_made (made_from ping.form here (begins_of ping.begins here (whole_of read))) (Err make.UnknownClass)))

class_makes : (to count : ℕ) (here : Place) → count < 2 ^ 32 → machine.made 2 (to ∷ number w32 count) here ≡ makes here (Ok (args_of to count, []))
class_makes to count here small =
    let few = args_few to count in
    (rw few refl) ∙ ap (makes here) (args_are to count small)

-- by whether they are in range
made_by_test : (to count : ℕ) (here : Place) (test : Bool) (g : Shipped × Act Shipped)
    → made_by (seen no_call) (made_right (or_made (made_from ping.form here (fields_of (if test then Some (record { to = record { 0 = to }; left = count; key = None; last = 0 }) else None))) (Err make.UnknownClass))) ≡ Ok g → (test ≡ true) × (opening to count ≡ g)
made_by_test to count here true g e = (refl, cc)
made_by_test to count here false g e = absurd cc

-- a ping of an echo returns its count
pub ping_returns_its_count : PingReturnsItsCount machine
ping_returns_its_count to count p q k g small made =
    let in_range = is_peer to (p 0) && (nat_le 1 count && nat_le count 1000) in
    let m = made_by_test to count (p 0) in_range g (sym (class_makes to count (p 0) small) ∙ made) in
    let range = and_parts (nat_le 1 count) (nat_le count 1000) (and_parts (is_peer to (p 0)) (nat_le 1 count && nat_le count 1000) m.0).1 in
    subst (Meets machine to count p q k) m.1 (meets to count p q k (leb-true 1 count range.0) (leb-true count 1000 range.1))
