-- Commands that go over several steps, over states of any kind. A made load of payments: its starts and drains, one after another, and what is told of it; and work side by side.
use Rattle.std.specs.Prelude.{◌≡◌, ◌⊎◌, ℕ, zero, suc, ◌+◌, ◌-◌, ◌<◌, ◌≤◌, ◌==◌, Bool, true, false, List, [], ◌∷◌, ◌++◌, length, map, Option, Some, None, Result, Ok, Err, codes, decimal, slice_index_or, if◌then◌else◌}
use Rattle.std.specs.List.{flat_map}
use Rattle.std.specs.Option.{option_map_or}
use Rattle.flow_machine.specs.declared.flow_set.WordFault.{WordFault}
use Rattle.flow_machine.specs.Machine.{Machine}
use Rattle.ledger_types.specs.declared.held.Held.{Held}
use Rattle.load_maker.specs.declared.maker.Payment.{Payment}
use Rattle.load_maker.specs.Load.{load_of, payments}
use Rattle.network_core.specs.declared.refusal.Refusal.TheVariants as refusal
use Rattle.network_core.specs.declared.steps.Outcome.{Outcome}
use Rattle.network_core.specs.declared.steps.Outcome.TheVariants as outcome
use Rattle.network_core.specs.declared.steps.Step.{Step}
use Rattle.network_core.specs.declared.steps.Step.TheVariants as step
use Rattle.shell_report.specs.LedgerText.{totals_text}
use Rattle.node_shell.specs.declared.replies.Reply.{Reply}
use Rattle.node_shell.specs.declared.replies.Reply.TheVariants.{Worked}
use Rattle.node_shell.specs.Replies.{reply_text, IsRefused}

-- a command that goes over several steps: `load` with a seed and a count of payments; or `workers` with how many there are, how many turns each makes, and a seed
pub data Course : Type 0 where
  load : ℕ → ℕ → Course
  work : ℕ → ℕ → ℕ → Course

-- what such a command asks of the states that it goes over
pub record CourseStates (W : Type 0) : Type 1 where
  -- the nodes that issue and pay, ascending
  pub payers : W → List ℕ
  -- whether all nodes are up
  pub are_up : W → Bool
  -- what steps make of a state, one after another, with their outcomes; where it is false, memory ran out in the one behind these
  pub follows : List Step → List Outcome → Bool → W → W → Type 0
  -- whether a flow of a node that is up has ended without failure
  pub has_ended : ℕ → ℕ → W → Bool
  -- the unconsumed states in the vaults of all nodes that are up
  pub held : W → List Held
  -- workers made their turns side by side, and this many records were committed
  pub works : ℕ → W → W → Type 0

-- ---- its steps

-- this many numbers from 0 on without one of them, ascending
abbrev pub all_but : ℕ → ℕ → List ℕ
all_but one zero = []
all_but one (suc n) = all_but one n ++ (if n == one then [] else n ∷ [])

-- the start of a flow at a node, where words name one
abbrev pub start_by : ℕ → Result (ℕ × List ℕ) WordFault → List Step
start_by node (Ok words) = step.Start node words.0 words.1 ∷ []
start_by node (Err fault) = []

-- a node issues 1,000,000 to itself: `issue USD 1000000`
abbrev pub issue_by : {F : Type 0} → Machine F → ℕ → List Step
issue_by m node = start_by node (m.worded (codes "issue") (codes "USD" ∷ codes "1000000" ∷ []))

-- each of these nodes does
abbrev pub issues_by : {F : Type 0} → Machine F → List ℕ → List Step
issues_by m nodes = flat_map (issue_by m) nodes

-- a node pays so much of what it issued to another: `pay TO USD FROM AMOUNT`
abbrev pub pay_by : {F : Type 0} → Machine F → ℕ → ℕ → ℕ → List Step
pay_by m from to amount = start_by from (m.worded (codes "pay") (decimal to ∷ codes "USD" ∷ decimal from ∷ decimal amount ∷ []))

-- a payment: the node that pays, and its start
pub record Deal : Type 0 where
  pub node : ℕ
  pub starts : List Step

-- the payment that was drawn for these nodes
abbrev pub deal_of : {F : Type 0} → Machine F → List ℕ → Payment → Deal
deal_of m nodes p =
    let from = slice_index_or nodes p.from 0 in
    record { node = from; starts = pay_by m from (slice_index_or nodes p.to 0) p.amount }

-- this many payments, drawn from the seed for these nodes
abbrev pub deals_of : {F : Type 0} → Machine F → List ℕ → ℕ → ℕ → List Deal
deals_of m nodes seed count = map (deal_of m nodes) (payments count (load_of seed (length nodes)))

-- starts with a drain behind them
abbrev pub then_drain : List Step → List Step
then_drain starts = starts ++ step.Drain ∷ []

-- ---- what they make of a state

-- the flow that a start began, by the outcomes of it and of the steps behind it
abbrev pub started : List Outcome → Option ℕ
started (outcome.Started flow ∷ rest) = Some flow
started _ = None

-- whether a payment of which these are the outcomes is paid: its flow has ended without failure, and the node that pays is up
abbrev pub is_paid : {W : Type 0} → CourseStates W → ℕ → List Outcome → W → Bool
is_paid s node outcomes v = option_map_or (λ flow. s.has_ended node flow v) (started outcomes) false

-- a payment is made, with a drain behind it, and it is paid or not
abbrev pub IsMade : {W : Type 0} → CourseStates W → Deal → W → W → Bool → Type 0
IsMade s d w v paid = (outcomes : List Outcome) × s.follows (then_drain d.starts) outcomes true w v × (paid ≡ is_paid s d.node outcomes v)

-- payments, each a start and a drain, one after another; and how many of them are paid, each as its drain leaves it
pub data Pays {W : Type 0} (s : CourseStates W) : List Deal → ℕ → W → W → Type 0 where
  none : {deals : List Deal} {paid : ℕ} {w v : W} → deals ≡ [] → paid ≡ 0 → v ≡ w → Pays s deals paid w v
  more : {deals all : List Deal} {paid sum : ℕ} {w u v : W} (d : Deal) (outcomes : List Outcome) → Pays s deals paid w u → s.follows (then_drain d.starts) outcomes true u v
      → all ≡ deals ++ d ∷ [] → sum ≡ paid + (if is_paid s d.node outcomes v then 1 else 0) → Pays s all sum w v

-- a load: all issues and one drain, and then the payments
pub record Loaded {W : Type 0} (s : CourseStates W) (issues : List Step) (deals : List Deal) (paid : ℕ) (w v : W) : Type 0 where
  pub outcomes : List Outcome
  pub funded : W
  pub issued : s.follows (then_drain issues) outcomes true w funded
  pub pays : Pays s deals paid funded v

-- ---- want of memory

-- memory ran out before these steps, or in one of them; the ones before it stand
abbrev pub Breaks : {W : Type 0} → CourseStates W → List Step → W → W → Type 0
Breaks s steps w v = (v ≡ w) ⊎ ((outcomes : List Outcome) × s.follows steps outcomes false w v)

-- it ran out in the first of these payments; or behind the last one
abbrev pub BreaksFirst : {W : Type 0} → CourseStates W → List Deal → W → W → Type 0
BreaksFirst s [] w v = v ≡ w
BreaksFirst s (d ∷ ds) w v = Breaks s (then_drain d.starts) w v

-- some payments were made, and then it ran out
pub record PaysShort {W : Type 0} (s : CourseStates W) (deals : List Deal) (w v : W) : Type 0 where
  pub made : List Deal
  pub rest : List Deal
  pub all : deals ≡ made ++ rest
  pub paid : ℕ
  pub last : W
  pub pays : Pays s made paid w last
  pub breaks : BreaksFirst s rest last v

-- the issues were made, and some payments, and then it ran out
pub record FundedShort {W : Type 0} (s : CourseStates W) (issues : List Step) (deals : List Deal) (w v : W) : Type 0 where
  pub outcomes : List Outcome
  pub funded : W
  pub issued : s.follows (then_drain issues) outcomes true w funded
  pub short : PaysShort s deals funded v

-- it ran out in the issues, or behind them
abbrev pub LoadedShort : {W : Type 0} → CourseStates W → List Step → List Deal → W → W → Type 0
LoadedShort s issues deals w v = Breaks s (then_drain issues) w v ⊎ FundedShort s issues deals w v

-- ---- what is told

-- the line of a load, and those of the totals of all tokens
abbrev pub load_text : ℕ → ℕ → List Held → List ℕ
load_text count paid held =
    codes "load " ++ decimal count ++ codes " paid " ++ decimal paid ++ codes " failed " ++ decimal (count - paid) ++ 10 ∷ totals_text held

-- a load is refused: a node is down, or fewer than two nodes could pay
abbrev pub RefusesLoad : {W : Type 0} → CourseStates W → W → Reply → Type 0
RefusesLoad s w reply = ((s.are_up w ≡ false) × IsRefused refusal.NodeDown reply) ⊎ ((s.are_up w ≡ true) × (length (s.payers w) < 2) × IsRefused refusal.BadArgs reply)

-- and else it is made
abbrev pub TakesLoad : {W : Type 0} → CourseStates W → W → Type 0
TakesLoad s w = (s.are_up w ≡ true) × (2 ≤ length (s.payers w))

-- the result of a load: its reply, none at want of memory
abbrev pub Loads : {W F : Type 0} → CourseStates W → Machine F → ℕ → ℕ → W → Option Reply → W → Type 0
Loads s m seed count w (Some reply) v =
    (RefusesLoad s w reply × (v ≡ w))
    ⊎ (TakesLoad s w × ((paid : ℕ) × Loaded s (issues_by m (s.payers w)) (deals_of m (s.payers w) seed count) paid w v × (reply_text reply ≡ load_text count paid (s.held v))))
Loads s m seed count w None v = (v ≡ w) ⊎ (TakesLoad s w × LoadedShort s (issues_by m (s.payers w)) (deals_of m (s.payers w) seed count) w v)

-- ---- work side by side

-- what workers come to: where a node is down they are refused, and else they make their turns, in whatever order; for want of memory none is made
abbrev pub WorksOrNot : {W : Type 0} → CourseStates W → W → Option Reply → W → Type 0
WorksOrNot s w (Some reply) v =
    ((s.are_up w ≡ false) × IsRefused refusal.NodeDown reply × (v ≡ w))
    ⊎ ((s.are_up w ≡ true) × ((commits : ℕ) × s.works commits w v × (reply ≡ Worked)))
WorksOrNot s w None v = v ≡ w

-- ---- each

-- the result of a command that goes over several steps
abbrev pub GoesOver : {W F : Type 0} → CourseStates W → Machine F → Course → W → Option Reply → W → Type 0
GoesOver s m (load seed count) w reply v = Loads s m seed count w reply v
GoesOver s m (work workers turns seed) w reply v = WorksOrNot s w reply v
