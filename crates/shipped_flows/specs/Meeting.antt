-- A ping and the echo that it initiates: the numbers that they hand to and fro in their session.
use Rattle.std.specs.Prelude.{◌≡◌, ◌<◌, ◌^◌, ℕ, zero, suc, ◌+◌, ◌==◌, ◌&&◌, Bool, if◌then◌else◌, ◌∷◌, Option, Some, None, Ok}
use Rattle.std.specs.Int.{w32}
use Rattle.net_base.specs.declared.names.Key.{Key}
use Rattle.net_base.specs.Reading.{number}
use Rattle.ledger_types.specs.declared.value.Value.TheVariants as value
use Rattle.flow_machine.specs.declared.acts.Act.{Act}
use Rattle.flow_machine.specs.declared.acts.Act.TheVariants as act
use Rattle.flow_machine.specs.declared.acts.Place.{Place}
use Rattle.flow_machine.specs.declared.acts.Resumed.{Resumed}
use Rattle.flow_machine.specs.declared.acts.Resumed.TheVariants as resumed
use Rattle.flow_machine.specs.Machine.{Machine}

-- whether the keys are of one session
abbrev pub is_same : Key → Key → Bool
is_same a b = (a.initiator.0 == b.initiator.0) && (a.number == b.number)

-- what follows where a flow waits to receive in the session
abbrev pub receives_in : {F : Type 0} → Key → Act F → Option ℕ → Option ℕ
receives_in k (act.Receive j) more = if is_same j k then more else None
receives_in k other more = None

-- what follows where a flow sends a number in the session
abbrev pub sends_in : {F : Type 0} → Key → Act F → (ℕ → Option ℕ) → Option ℕ
sends_in k (act.Send j (value.Number y)) more = if is_same j k then more y else None
sends_in k other more = None

-- the number that a flow returns, or what follows where it sends one in the session
abbrev pub returns_or : {F : Type 0} → Key → Act F → (ℕ → Option ℕ) → Option ℕ
returns_or k (act.Return (value.Number y)) more = Some y
returns_or k (act.Send j (value.Number y)) more = if is_same j k then more y else None
returns_or k other more = None

-- the frame and the act that follow a result
abbrev pub after : {F : Type 0} → Machine F → Place → Resumed → F × Act F → F × Act F
after m at with flow = m.next flow.0 with at

-- a number that came
abbrev pub got : ℕ → Resumed
got x = resumed.Got (value.Number x)

-- Two flows of a set wait to receive in a session. A number is on its way to the second, which sends an answer there, and the first returns the answer or sends a number on there, within the given number of turns. Each resume of a flow has a place of its own, counted on from i.
abbrev pub talk : {F : Type 0} → Machine F → Key → (ℕ → Place) → (ℕ → Place) → ℕ → ℕ → ℕ → F × Act F → F × Act F → Option ℕ
talk m k p q i zero x first second = None
talk m k p q i (suc n) x first second =
    receives_in k second.1 (
    sends_in k (after m (q i) (got x) second).1 (λ y.
    receives_in k first.1 (
    returns_or k (after m (p i) (got y) first).1 (λ z.
    talk m k p q (i + 2) n z (after m (p (i + 1)) resumed.Sent (after m (p i) (got y) first)) (after m (q (i + 1)) resumed.Sent (after m (q i) (got x) second))))))

-- What begins opens a session with the party by a number, and its Init begins a flow. Once the session is open, the two come, from that number on, within as many turns to the first one's return of the count. Their places are counted from the making of the first.
pub record Meets {F : Type 0} (m : Machine F) (to count : ℕ) (p q : ℕ → Place) (k : Key) (ping : F × Act F) : Type 0 where
  pub class : ℕ
  pub first : ℕ
  pub echo : F × Act F
  pub opens : ping.1 ≡ act.Open (record { 0 = to }) class (value.Number first)
  pub begins : m.begun class k (q 1) ≡ Some echo
  pub returns : talk m k p q 2 count first (after m (p 1) (resumed.Opened k) ping) echo ≡ Some count

-- a ping that is made meets, in each session, the flow that its Init begins
abbrev pub PingReturnsItsCount : {F : Type 0} → Machine F → Type 0
PingReturnsItsCount {F} m =
    (to count : ℕ) (p q : ℕ → Place) (k : Key) (ping : F × Act F) → count < 2 ^ 32 → m.made 2 (to ∷ number w32 count) (p 0) ≡ Ok ping → Meets m to count p q k ping
