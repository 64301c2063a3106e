-- The rule of an inbox, over the frames that wait in it and what each pass of it has seen.
use Rattle.std.specs.Prelude.{◌≡◌, ◌⊎◌, ℕ, ◌+◌, ◌-◌, ◌<◌, ◌≤◌, List, [], ◌∷◌, ◌++◌, if◌then◌else◌, nat_lt, nat_eq}
use mathlib.Core.Option.{some}
use lib.ListN.{get_elem?}
use lib.Pointwise.{pointwise}
use Rattle.wire_queue.specs.declared.rule.Seen.{Seen}

-- a frame, as its bytes
abbrev pub Frame : Type 0
Frame = List ℕ

-- ---- frames in a list

-- the frame is one of the list
abbrev pub IsIn : Frame → List Frame → Type 0
IsIn f [] = ⊥
IsIn f (x ∷ xs) = (f ≡ x) ⊎ IsIn f xs

-- the weights of the frames, added up
abbrev pub weigh : (Frame → ℕ) → List Frame → ℕ
weigh h [] = 0
weigh h (x ∷ xs) = h x + weigh h xs

-- 1 for this frame and 0 for each other
abbrev pub one : Frame → Frame → ℕ
one f g = if pointwise nat_eq f g then 1 else 0

-- how often the frame stands in the list
abbrev pub times : Frame → List Frame → ℕ
times f fs = weigh (one f) fs

-- ---- what a pass has seen, and its steps

-- what a pass has seen, by its parts
abbrev pub seen : ℕ → List Frame → List Frame → List Frame → Seen
seen shares origins copies pulled = record { shares = shares; origins = origins; copies = copies; pulled = pulled }

-- a frame was posted: one that the pass had pulled is a copy, and any other an origin
abbrev pub posted : Seen → Frame → Seen
posted v x =
    if nat_lt 0 (times x v.pulled) then seen v.shares v.origins (v.copies ++ x ∷ []) v.pulled
    else seen v.shares (v.origins ++ x ∷ []) v.copies v.pulled

-- a frame was pulled
abbrev pub pulled_one : Seen → Frame → Seen
pulled_one v x = seen v.shares v.origins v.copies (v.pulled ++ x ∷ [])

-- a share was given away
abbrev pub fewer : Seen → Seen
fewer v = seen (v.shares - 1) v.origins v.copies v.pulled

-- a pass that was split off
abbrev pub fresh : Seen
fresh = seen 1 [] [] []

-- two passes were joined
abbrev pub join_of : Seen → Seen → Seen
join_of v w = seen (v.shares + w.shares) (v.origins ++ w.origins) (v.copies ++ w.copies) (v.pulled ++ w.pulled)

-- a pass that was joined to another
abbrev pub spent : Seen
spent = seen 0 [] [] []

-- ---- the rule

-- f of each view, added up
abbrev pub total : (Seen → ℕ) → List Seen → ℕ
total f [] = 0
total f (v ∷ vs) = f v + total f vs

-- a pass without a share has empty lists
abbrev pub IdleIsEmpty : List Seen → Type 0
IdleIsEmpty views = (port : ℕ) (v : Seen) → get_elem? views port ≡ some v → v.shares ≡ 0 → (v.origins ≡ []) × (v.copies ≡ []) × (v.pulled ≡ [])

-- what waits in an inbox and what its passes have seen fit together
pub record Ours (items : List Frame) (views : List Seen) : Type 0 where
  pub shares : total (λ v. v.shares) views ≡ 32
  pub idle : IdleIsEmpty views
  -- each frame that was pulled or waits is an origin of some pass
  pub origin : (f : Frame) → 0 < times f items + total (λ v. times f v.pulled) views → 0 < total (λ v. times f v.origins) views
  -- what was posted is what was pulled and what waits, however the frames are weighed
  pub balance : (h : Frame → ℕ) → total (λ v. weigh h v.origins + weigh h v.copies) views ≡ total (λ v. weigh h v.pulled) views + weigh h items

-- ---- what one pass knows by it

-- with every share, each frame pulled is one of the own origins
abbrev pub FromOrigins : Seen → Type 0
FromOrigins v = v.shares ≡ 32 → (f : Frame) → 0 < times f v.pulled → 0 < times f v.origins

-- with every share, what was posted is what was pulled and these, however the frames are weighed
abbrev pub Settled : Seen → List Frame → Type 0
Settled v items = v.shares ≡ 32 → (h : Frame → ℕ) → weigh h v.origins + weigh h v.copies ≡ weigh h v.pulled + weigh h items

-- the law of the rule: a frame that was pulled or waits is an origin of some pass, and it was pulled no more often than it was posted
abbrev pub TakenAsPosted : Type 0
TakenAsPosted = (items : List Frame) (views : List Seen) (f : Frame) → Ours items views
    → (0 < times f items + total (λ v. times f v.pulled) views → 0 < total (λ v. times f v.origins) views)
    × (total (λ v. times f v.pulled) views + times f items ≤ total (λ v. times f v.origins + times f v.copies) views)
