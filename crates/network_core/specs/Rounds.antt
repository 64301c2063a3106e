-- A drain over states of any kind: rounds of turns, posts and deliveries, until one commits nothing.
use Rattle.std.specs.Prelude.{◌≡◌, ◌⊎◌, Bool, ℕ, zero, suc, ◌+◌, ◌<◌, true, false, Option, Some, None, Result, Ok, Err}
use Rattle.std.proofs.Common.{inl, inr}
use Rattle.network_core.specs.declared.refusal.Refusal.{Refusal}
use Rattle.network_core.specs.declared.refusal.Refusal.TheVariants as refusal
use Rattle.network_core.specs.declared.steps.Outcome.{Outcome}
use Rattle.network_core.specs.declared.steps.Outcome.TheVariants as outcome
use Rattle.network_core.specs.declared.net.Turning.{Turning}
use Rattle.network_core.specs.declared.net.Turning.TheVariants as turning
use Rattle.network_core.specs.declared.net.Hearing.{Hearing}
use Rattle.network_core.specs.declared.net.Hearing.TheVariants as heard_as

-- What a drain is made of, over states of one kind: how many nodes there are; a turn, a post and a delivery of the first waiting frame, each at a
-- place and with its outcome, none at want of memory; and how the deliveries at a place end, by how many there were and the states before the first
-- one, behind the last one, and at the end.
pub record DrainSteps (W : Type 0) : Type 1 where
  pub count : W → ℕ
  pub turn : ℕ → W → Option Outcome → W → Type 0
  pub post : ℕ → W → Option Outcome → W → Type 0
  pub hand : ℕ → W → Option Outcome → W → Type 0
  pub ends : ℕ → ℕ → W → W → W → Type 0

-- what is stated of a part of a drain, over states of any kind, from its first state to its last
abbrev pub DrainGoal : Type 1
DrainGoal = (W : Type 0) → DrainSteps W → W → W → Type 0

-- ---- the turns at a place

-- this many turns at a place, one after another, each of which let a flow go on
abbrev pub Moves : {W : Type 0} → DrainSteps W → ℕ → ℕ → W → W → Type 0
Moves {W} s p zero w v = v ≡ w
Moves {W} s p (suc n) w v = (u : W) × (f : ℕ) × Moves s p n w u × s.turn p u (Some (outcome.Moved f)) v

-- the turn that ends those at its place: no flow can go on, the disk failed, or the node is down
abbrev pub IsLastTurn : Outcome → Type 0
IsLastTurn o = (o ≡ outcome.Idle) ⊎ ((o ≡ outcome.Fault) ⊎ (o ≡ outcome.Refused refusal.NodeDown))

-- the turns at a place: this many that let a flow go on, and the one that ends them
abbrev pub TurnsAt : {W : Type 0} → DrainSteps W → ℕ → ℕ → W → W → Type 0
TurnsAt {W} s p n w v = (u : W) × (o : Outcome) × Moves s p n w u × s.turn p u (Some o) v × IsLastTurn o

-- turns at a place that let a flow go on, and then one with this outcome
abbrev pub StopsAt : {W : Type 0} → DrainSteps W → ℕ → Option Outcome → W → W → Type 0
StopsAt {W} s p o w v = (n : ℕ) × (u : W) × Moves s p n w u × s.turn p u o v

-- ---- rounds

-- what is done at each of the first places, in their order, each with a number; and the sum of these numbers
abbrev pub InOrder : {W : Type 0} → (ℕ → ℕ → W → W → Type 0) → ℕ → ℕ → W → W → Type 0
InOrder {W} at zero n w v = (n ≡ 0) × (v ≡ w)
InOrder {W} at (suc p) n w v = (u : W) × (k : ℕ) × (j : ℕ) × InOrder at p k w u × at p j u v × (n ≡ k + j)

-- a post of the node at a place; it commits nothing
abbrev pub PostsAt : {W : Type 0} → DrainSteps W → ℕ → ℕ → W → W → Type 0
PostsAt {W} s p n w v = (o : Outcome) × s.post p w (Some o) v × (n ≡ 0)

-- how many records an outcome of a delivery stands for
abbrev pub committed : Outcome → ℕ
committed (outcome.Took upto) = 1
committed _ = 0

-- a delivery took a frame away
abbrev pub IsTaken : Outcome → Type 0
IsTaken o = (why : Refusal) → o ≡ outcome.Refused why → ⊥

-- this many deliveries of the first waiting frame at a place, each of which took it away, and how many of them committed a record
abbrev pub Hands : {W : Type 0} → DrainSteps W → ℕ → ℕ → ℕ → W → W → Type 0
Hands {W} s p zero n w v = (n ≡ 0) × (v ≡ w)
Hands {W} s p (suc d) n w v = (u : W) × (k : ℕ) × (o : Outcome) × Hands s p d k w u × s.hand p u (Some o) v × IsTaken o × (n ≡ k + committed o)

-- a delivery that ends those at its place: no frame waits, or the node is down
abbrev pub EndsHands : {W : Type 0} → (ℕ → W → Option Outcome → W → Type 0) → ℕ → W → W → Type 0
EndsHands hand p u v = (o : Outcome) × hand p u (Some o) v × ((o ≡ outcome.Refused refusal.NoFrame) ⊎ (o ≡ outcome.Refused refusal.NodeDown))

-- the deliveries at a place: of one frame after another, up to how they end
abbrev pub DeliversAt : {W : Type 0} → DrainSteps W → ℕ → ℕ → W → W → Type 0
DeliversAt {W} s p n w v = (d : ℕ) × (u : W) × Hands s p d n w u × s.ends p d w u v

-- deliveries at a place, and then one with this outcome
abbrev pub HandStops : {W : Type 0} → DrainSteps W → ℕ → Option Outcome → W → W → Type 0
HandStops {W} s p o w v = (d : ℕ) × (n : ℕ) × (u : W) × Hands s p d n w u × s.hand p u o v

-- a round: the turns at each node, in the order of places, then the posts of each, then the deliveries at each; this many of them committed a record
abbrev pub Round : {W : Type 0} → DrainSteps W → ℕ → W → W → Type 0
Round {W} s n w v =
    (u : W) × (t : W) × (k : ℕ) × (j : ℕ) × InOrder (TurnsAt s) (s.count w) k w u × InOrder (PostsAt s) (s.count w) 0 u t × InOrder (DeliversAt s) (s.count w) j t v × (n ≡ k + j)

-- the turns of a round at the first nodes, up to one with this outcome
abbrev pub TurnsStop : {W : Type 0} → DrainSteps W → Option Outcome → W → W → Type 0
TurnsStop {W} s o w v = (p : ℕ) × (n : ℕ) × (u : W) × (p < s.count w) × InOrder (TurnsAt s) p n w u × StopsAt s p o u v

-- the posts of a round, up to one for which memory ran out
abbrev pub PostsStop : {W : Type 0} → DrainSteps W → Option Outcome → W → W → Type 0
PostsStop {W} s o w v = (p : ℕ) × (u : W) × (p < s.count w) × InOrder (PostsAt s) p 0 w u × s.post p u None v × (o ≡ None)

-- the deliveries of a round, up to one with this outcome
abbrev pub HandsStop : {W : Type 0} → DrainSteps W → Option Outcome → W → W → Type 0
HandsStop {W} s o w v = (p : ℕ) × (n : ℕ) × (u : W) × (p < s.count w) × InOrder (DeliversAt s) p n w u × HandStops s p o u v

-- the front of a round, up to what had this outcome: a full journal, or none at want of memory
abbrev pub RoundStops : {W : Type 0} → DrainSteps W → Option Outcome → W → W → Type 0
RoundStops {W} s o w v =
    TurnsStop s o w v
    ⊎ (((u : W) × (k : ℕ) × InOrder (TurnsAt s) (s.count w) k w u × PostsStop s o u v)
    ⊎ ((u : W) × (t : W) × (k : ℕ) × InOrder (TurnsAt s) (s.count w) k w u × InOrder (PostsAt s) (s.count w) 0 u t × HandsStop s o t v))

-- this many rounds, one after another, in each of which a record was committed
abbrev pub Rounds : {W : Type 0} → DrainSteps W → ℕ → W → W → Type 0
Rounds {W} s zero w v = v ≡ w
Rounds {W} s (suc r) w v = (u : W) × (n : ℕ) × Rounds s r w u × Round s (suc n) u v

-- ---- a drain

-- rounds in each of which a record was committed, and then one in which none was
abbrev pub IsDrained : {W : Type 0} → DrainSteps W → W → W → Type 0
IsDrained {W} s w v = (r : ℕ) × (u : W) × Rounds s r w u × Round s 0 u v

-- rounds in each of which a record was committed, and then the front of one, up to what had this outcome
abbrev pub DrainStops : {W : Type 0} → DrainSteps W → Option Outcome → W → W → Type 0
DrainStops {W} s o w v = (r : ℕ) × (u : W) × Rounds s r w u × RoundStops s o u v

-- the end of a drain, by its outcome: with true its last turn or delivery met a full journal, with false it ended by itself; none where memory ran out at its last one
abbrev pub DrainsTo : {W : Type 0} → DrainSteps W → W → Option Outcome → W → Type 0
DrainsTo s w None v = DrainStops s None w v
DrainsTo s w (Some (outcome.Drained true)) v = DrainStops s (Some (outcome.Refused refusal.Full)) w v
DrainsTo s w (Some (outcome.Drained false)) v = IsDrained s w v
DrainsTo s w (Some _) v = ⊥

-- the outcome of a drain's call
abbrev pub drain_outcome : {E : Type 0} → Result Bool E → Option Outcome
drain_outcome (Ok full) = Some (outcome.Drained full)
drain_outcome (Err fault) = None

-- how many records the front of a round committed before what stopped it
abbrev pub in_front : {W : Type 0} (s : DrainSteps W) (o : Option Outcome) (w v : W) → RoundStops s o w v → ℕ
in_front s o w v (inl turns) = turns.1 + turns.5.0
in_front s o w v (inr (inl posts)) = posts.1
in_front s o w v (inr (inr hands)) = hands.2 + (hands.5.1 + hands.5.5.1)

-- ---- turns, posts and deliveries in any order

-- a turn, a post or a delivery of a drain
abbrev pub DoesAt : {W : Type 0} → DrainSteps W → ℕ → W → Option Outcome → W → Type 0
DoesAt {W} s p w o v = s.turn p w o v ⊎ (s.post p w o v ⊎ s.hand p w o v)

-- states that turns, posts and deliveries lead to, none of which met a full journal or ran out of memory
pub data Runs {W : Type 0} (s : DrainSteps W) : W → W → Type 0 where
  none : {w v : W} → v ≡ w → Runs s w v
  more : {w u v : W} (p : ℕ) (o : Outcome) → Runs s w u → DoesAt s p u (Some o) v → (o ≡ outcome.Refused refusal.Full → ⊥) → Runs s w v

-- they lead there, and a last one has this outcome
abbrev pub RunsTo : {W : Type 0} → DrainSteps W → W → Option Outcome → W → Type 0
RunsTo {W} s w o v = (u : W) × (p : ℕ) × Runs s w u × DoesAt s p u o v

-- ---- what the loops of a drain come to

-- what was made, by the answer: a count above 0, none, or what was stopped by a full journal or for want of memory
abbrev pub Turns : {W E : Type 0} → Result Turning E → (ℕ → W → W → Type 0) → (Option Outcome → W → W → Type 0) → W → W → Type 0
Turns (Ok turning.Moved) made stops w v = (n : ℕ) × made (suc n) w v
Turns (Ok turning.Quiet) made stops w v = made 0 w v
Turns (Ok turning.Full) made stops w v = stops (Some (outcome.Refused refusal.Full)) w v
Turns (Err fault) made stops w v = stops None w v

-- the end of a turn, by its outcome
abbrev pub turned : Outcome → Turning
turned (outcome.Moved f) = turning.Moved
turned (outcome.Refused refusal.Full) = turning.Full
turned _ = turning.Quiet

-- how the posts of a round ended: each was made, or memory ran out
abbrev pub Posts : {W E : Type 0} → DrainSteps W → W → Result (Unit {0}) E → W → Type 0
Posts {W} s w (Ok u) v = InOrder (PostsAt s) (s.count w) 0 w v
Posts {W} s w (Err fault) v = PostsStop s None w v

-- the end of a delivery, by its outcome
abbrev pub heard : Outcome → Hearing
heard (outcome.Took upto) = heard_as.Took
heard (outcome.Refused refusal.Full) = heard_as.Full
heard (outcome.Refused _) = heard_as.Over
heard _ = heard_as.Noted

-- how turns and then deliveries ended
abbrev pub joined : Turning → Turning → Turning
joined turns turning.Quiet = turns
joined turns turning.Moved = turning.Moved
joined turns turning.Full = turning.Full
