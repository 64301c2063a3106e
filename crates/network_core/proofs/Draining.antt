-- Turns, posts and deliveries at places, rounds and drains, put together.
use Rattle.std.proofs.Common.{◌≡◌, ◌⊎◌, inl, inr, ℕ, zero, suc, ◌+◌, ◌<◌, Bool, true, false, ◌||◌, Option, Some, None, Result, Ok, Err, IsErr, refl, sym, ◌∙◌, ap, subst, arith}
use Rattle.network_core.specs.declared.net.Turning.{Turning}
use Rattle.network_core.specs.declared.net.Turning.TheVariants as turning
use Rattle.network_core.specs.declared.net.Hearing.TheVariants as heard_as
use Rattle.network_core.specs.declared.refusal.Refusal.{Refusal}
use Rattle.network_core.specs.declared.refusal.Refusal.TheVariants as refusal
use Rattle.network_core.specs.declared.steps.Outcome.{Outcome}
use Rattle.network_core.specs.declared.steps.Outcome.TheVariants as outcome
use Rattle.network_core.specs.Rounds.{DrainSteps, Moves, IsLastTurn, TurnsAt, StopsAt, InOrder, PostsAt, Hands, IsTaken, committed, DeliversAt, HandStops, Round, TurnsStop, PostsStop, HandsStop, RoundStops, Rounds, IsDrained, DrainStops, Turns, turned, heard, joined}

-- What the steps of a drain keep, and which turn or delivery ends those at its place, over states of any kind.
pub record DrainLaws {W : Type 0} (s : DrainSteps W) : Type 0 where
  pub turn_count : (p : ℕ) (w v : W) (o : Option Outcome) → s.turn p w o v → s.count v ≡ s.count w
  pub post_count : (p : ℕ) (w v : W) (o : Option Outcome) → s.post p w o v → s.count v ≡ s.count w
  pub turn_last : (p : ℕ) (o : Outcome) (w v : W) → p < s.count w → ((g : ℕ) → o ≡ outcome.Moved g → ⊥) → (o ≡ outcome.Refused refusal.Full → ⊥) → s.turn p w (Some o) v → IsLastTurn o
  pub hand_over : (p d : ℕ) (why : Refusal) (w u v : W) (o : Outcome) → p < s.count u → o ≡ outcome.Refused why → (why ≡ refusal.Full → ⊥) → s.hand p u (Some o) v → s.ends p d w u v

-- as a flag says: with true a number that is not 0, with false none
abbrev pub Counts : {W : Type 0} → Bool → (ℕ → W → W → Type 0) → W → W → Type 0
Counts true made w v = (n : ℕ) × made (suc n) w v
Counts false made w v = made 0 w v

-- as many rounds as it may be
abbrev pub SomeRounds : {W : Type 0} → DrainSteps W → W → W → Type 0
SomeRounds s w v = (r : ℕ) × Rounds s r w v

-- ---- by the answer

pub turns_made : (E : Type 0) {W : Type 0} (made : ℕ → W → W → Type 0) (stops : Option Outcome → W → W → Type 0) (w v : W) (moved : Bool) (t : Turning) → (t ≡ turning.Full → ⊥) → (t ≡ turning.Moved → moved ≡ true) → (t ≡ turning.Quiet → moved ≡ false) → Counts moved made w v → Turns {E = E} (Ok t) made stops w v
turns_made E made stops w v moved turning.Full other any still h = absurd (other refl)
turns_made E made stops w v moved turning.Moved other any still h = subst (λ (b : Bool). Counts b made w v) (any refl) h
turns_made E made stops w v moved turning.Quiet other any still h = subst (λ (b : Bool). Counts b made w v) (still refl) h

-- an answer that is an error
pub turns_short : {W E : Type 0} (made : ℕ → W → W → Type 0) (stops : Option Outcome → W → W → Type 0) (w v : W) (r : Result Turning E) → IsErr r → stops None w v → Turns r made stops w v
turns_short made stops w v (Ok t) is h = cc
turns_short made stops w v (Err x) is h = h

module _ {W E : Type 0} (made : ℕ → W → W → Type 0) (stops : Option Outcome → W → W → Type 0) (w v : W) (r : Result Turning E) where
  pub turns_err : (x : E) → r ≡ Err x → Turns r made stops w v → stops None w v
  turns_err x is h = subst (λ (z : Result Turning E). Turns z made stops w v) is h

  pub turns_full : (t : Turning) → r ≡ Ok t → t ≡ turning.Full → Turns r made stops w v → stops (Some (outcome.Refused refusal.Full)) w v
  turns_full t is full h = subst (λ (z : Result Turning E). Turns z made stops w v) (is ∙ ap Ok full) h

  pub turns_moved : (t : Turning) → r ≡ Ok t → t ≡ turning.Moved → Turns r made stops w v → Counts true made w v
  turns_moved t is moved h = subst (λ (z : Result Turning E). Turns z made stops w v) (is ∙ ap Ok moved) h

  pub turns_quiet : (t : Turning) → r ≡ Ok t → t ≡ turning.Quiet → Turns r made stops w v → made 0 w v
  turns_quiet t is quiet h = subst (λ (z : Result Turning E). Turns z made stops w v) (is ∙ ap Ok quiet) h

-- ---- in the order of places

module _ {W : Type 0} (at : ℕ → ℕ → W → W → Type 0) (p : ℕ) (w u v : W) where
  still_there : (b : Bool) → Counts b (InOrder at p) w u → at p 0 u v → Counts b (InOrder at (suc p)) w v
  still_there true h here = (h.0, (u, suc h.0, 0, h.1, here, omega arith))
  still_there false h here = (u, 0, 0, h, here, refl)

  further_there : (b : Bool) → Counts b (InOrder at p) w u → Counts true (at p) u v → Counts true (InOrder at (suc p)) w v
  further_there true h here = (h.0 + suc here.0, (u, suc h.0, suc here.0, h.1, here.1, omega arith))
  further_there false h here = (here.0, (u, 0, suc here.0, h, here.1, omega arith))

  next_place : (b after : Bool) → after ≡ b → Counts b (InOrder at (suc p)) w v → Counts after (InOrder at (p + 1)) w v
  next_place b after is h =
      let one : suc p ≡ p + 1 = omega arith in
      subst (λ (q : ℕ). Counts after (InOrder at q) w v) one (subst (λ (c : Bool). Counts c (InOrder at (suc p)) w v) (sym is) h)

  -- nothing at one place more
  pub order_still : (moved after : Bool) → after ≡ moved → Counts moved (InOrder at p) w u → at p 0 u v → Counts after (InOrder at (p + 1)) w v
  order_still moved after is h here = next_place moved after is (still_there moved h here)

  -- something at one place more
  pub order_more : (moved after : Bool) → after ≡ true → Counts moved (InOrder at p) w u → Counts true (at p) u v → Counts after (InOrder at (p + 1)) w v
  order_more moved after is h here = next_place true after is (further_there moved h here)

-- all places
pub order_of : {W : Type 0} (at : ℕ → ℕ → W → W → Type 0) (p n : ℕ) (moved : Bool) (w v : W) → n ≡ p → Counts moved (InOrder at p) w v → Counts moved (InOrder at n) w v
order_of at p n moved w v is h = subst (λ (q : ℕ). Counts moved (InOrder at q) w v) (sym is) h

module _ {W : Type 0} (s : DrainSteps W) where
  -- ---- turns at a place

  pub moves_more : (p : ℕ) (moved : Bool) (w u v : W) (o : Outcome) (g : ℕ) → Counts moved (Moves s p) w u → s.turn p u (Some o) v → o ≡ outcome.Moved g → Counts true (Moves s p) w v
  moves_more p true w u v o g h turn is = (suc h.0, (u, g, h.1, subst (λ (z : Outcome). s.turn p u (Some z) v) is turn))
  moves_more p false w u v o g h turn is = (0, (u, g, h, subst (λ (z : Outcome). s.turn p u (Some z) v) is turn))

  pub stops_at : (p : ℕ) (moved : Bool) (o : Option Outcome) (w u v : W) → Counts moved (Moves s p) w u → s.turn p u o v → StopsAt s p o w v
  stops_at p true o w u v h turn = (suc h.0, u, h.1, turn)
  stops_at p false o w u v h turn = (0, u, h, turn)

  -- ---- posts

  -- a post at one place more
  pub posts_more : (p : ℕ) (w u v : W) (o : Outcome) → InOrder (PostsAt s) p 0 w u → s.post p u (Some o) v → InOrder (PostsAt s) (p + 1) 0 w v
  posts_more p w u v o before post =
      let one : suc p ≡ p + 1 = omega arith in
      subst (λ (q : ℕ). InOrder (PostsAt s) q 0 w v) one (u, 0, 0, before, (o, post, refl), refl)

  pub posts_stop : (p : ℕ) (w u v : W) → p < s.count w → InOrder (PostsAt s) p 0 w u → s.post p u None v → PostsStop s None w v
  posts_stop p w u v lt before post = (p, u, lt, before, post, refl)

  -- ---- deliveries at a place

  -- this number of deliveries that took a frame away
  abbrev pub HandsSo : ℕ → ℕ → Bool → W → W → Type 0
  HandsSo p d moved w v = Counts moved (Hands s p d) w v

  -- one more, which committed a record
  pub hands_took : (p d g : ℕ) (moved : Bool) (w u v : W) (o : Outcome) → o ≡ outcome.Took g → HandsSo p d moved w u → s.hand p u (Some o) v → HandsSo p (d + 1) true w v
  hands_took p d g moved w u v o is before hand =
      let one : suc d ≡ d + 1 = omega arith in
      let count : committed o ≡ 1 = ap committed is in
      let taken : IsTaken o = λ why k. cc in
      subst (λ (n : ℕ). HandsSo p n true w v) one (by moved count taken before)
    where
      by : (b : Bool) → committed o ≡ 1 → IsTaken o → HandsSo p d b w u → HandsSo p (suc d) true w v
      by true count taken h = (suc h.0, (u, suc h.0, o, h.1, hand, taken, omega (arith, count)))
      by false count taken h = (0, (u, 0, o, h, hand, taken, omega (arith, count)))

  -- one more, which committed nothing
  pub hands_noted : (p d : ℕ) (moved : Bool) (w u v : W) (o : Outcome) → IsTaken o → committed o ≡ 0 → HandsSo p d moved w u → s.hand p u (Some o) v → HandsSo p (d + 1) moved w v
  hands_noted p d moved w u v o taken count before hand =
      let one : suc d ≡ d + 1 = omega arith in
      subst (λ (n : ℕ). HandsSo p n moved w v) one (by moved before)
    where
      by : (b : Bool) → HandsSo p d b w u → HandsSo p (suc d) b w v
      by true h = (h.0, (u, suc h.0, o, h.1, hand, taken, omega (arith, count)))
      by false h = (u, 0, o, h, hand, taken, omega (arith, count))

  -- one that met a full journal, or for which memory ran out
  pub hand_stops : (p d : ℕ) (moved : Bool) (o : Option Outcome) (w u v : W) → HandsSo p d moved w u → s.hand p u o v → HandStops s p o w v
  hand_stops p d true o w u v h hand = (d, suc h.0, u, h.1, hand)
  hand_stops p d false o w u v h hand = (d, 0, u, h, hand)

  -- no frame is left of those that waited as they began
  pub ends_all : (p d : ℕ) (moved : Bool) (w v : W) → ((n : ℕ) → Hands s p d n w v → s.ends p d w v v) → HandsSo p d moved w v → Counts moved (DeliversAt s p) w v
  ends_all p d true w v ends h = (h.0, (d, v, h.1, ends (suc h.0) h.1))
  ends_all p d false w v ends h = (d, v, h, ends 0 h)

  -- ---- rounds

  pub turns_stop_at : (o : Option Outcome) (p : ℕ) (moved : Bool) (w u v : W) → p < s.count w → Counts moved (InOrder (TurnsAt s) p) w u → StopsAt s p o u v → TurnsStop s o w v
  turns_stop_at o p true w u v lt h stop = (p, suc h.0, u, lt, h.1, stop)
  turns_stop_at o p false w u v lt h stop = (p, 0, u, lt, h, stop)

  pub hands_stop_at : (o : Option Outcome) (p : ℕ) (moved : Bool) (w u v : W) → p < s.count w → Counts moved (InOrder (DeliversAt s) p) w u → HandStops s p o u v → HandsStop s o w v
  hands_stop_at o p true w u v lt h stop = (p, suc h.0, u, lt, h.1, stop)
  hands_stop_at o p false w u v lt h stop = (p, 0, u, lt, h, stop)

  pub round_stops_turns : (o : Option Outcome) (w v : W) → TurnsStop s o w v → RoundStops s o w v
  round_stops_turns o w v stop = inl stop

  pub round_stops_posts : (o : Option Outcome) (a : Bool) (w u v : W) → Counts a (InOrder (TurnsAt s) (s.count w)) w u → PostsStop s o u v → RoundStops s o w v
  round_stops_posts o true w u v h stop = inr (inl (u, suc h.0, h.1, stop))
  round_stops_posts o false w u v h stop = inr (inl (u, 0, h, stop))

  pub rounds_more : (w u v : W) → SomeRounds s w u → Counts true (Round s) u v → SomeRounds s w v
  rounds_more w u v before round = (suc before.0, (u, round.0, before.1, round.1))

  pub drain_stops : (o : Option Outcome) (w u v : W) → SomeRounds s w u → RoundStops s o u v → DrainStops s o w v
  drain_stops o w u v before stop = (before.0, u, before.1, stop)

  pub drain_ends : (w u v : W) → SomeRounds s w u → Round s 0 u v → IsDrained s w v
  drain_ends w u v before round = (before.0, u, before.1, round)

module _ {W : Type 0} (s : DrainSteps W) (laws : DrainLaws s) where
  -- no flow can go on at a place, or its node is down
  pub ends_at : (p : ℕ) (moved : Bool) (o : Outcome) (w u v : W) → p < s.count u → ((g : ℕ) → o ≡ outcome.Moved g → ⊥) → (o ≡ outcome.Refused refusal.Full → ⊥) → Counts moved (Moves s p) w u → s.turn p u (Some o) v → Counts moved (TurnsAt s p) w v
  ends_at p true o w u v lt moved full h turn = (h.0, (u, o, h.1, turn, laws.turn_last p o u v lt moved full turn))
  ends_at p false o w u v lt moved full h turn = (u, o, h, turn, laws.turn_last p o u v lt moved full turn)

  -- no frame waits at a place, or its node is down
  pub hands_over : (p d : ℕ) (why : Refusal) (moved : Bool) (w u v : W) (o : Outcome) → p < s.count u → o ≡ outcome.Refused why → (why ≡ refusal.Full → ⊥) → Counts moved (Hands s p d) w u → s.hand p u (Some o) v → Counts moved (DeliversAt s p) w v
  hands_over p d why true w u v o lt is full h hand = (h.0, (d, u, h.1, laws.hand_over p d why w u v o lt is full hand))
  hands_over p d why false w u v o lt is full h hand = (d, u, h, laws.hand_over p d why w u v o lt is full hand)

  -- turns and posts leave the number of nodes as it is
  moves_count : (p n : ℕ) (w v : W) → Moves s p n w v → s.count v ≡ s.count w
  moves_count p zero w v is = ap s.count is
  moves_count p (suc n) w v (u, g, before, turn) = laws.turn_count p u v (Some (outcome.Moved g)) turn ∙ moves_count p n w u before

  pub turns_count : (p n : ℕ) (w v : W) → InOrder (TurnsAt s) p n w v → s.count v ≡ s.count w
  turns_count zero n w v (is, same) = ap s.count same
  turns_count (suc p) n w v (u, k, j, before, (t, o, moves, turn, last), sum) = laws.turn_count p t v (Some o) turn ∙ moves_count p j u t moves ∙ turns_count p k w u before

  pub posts_count : (p n : ℕ) (w v : W) → InOrder (PostsAt s) p n w v → s.count v ≡ s.count w
  posts_count zero n w v (is, same) = ap s.count same
  posts_count (suc p) n w v (u, k, j, before, (o, post, is), sum) = laws.post_count p u v (Some o) post ∙ posts_count p k w u before

  all_count : (moved : Bool) (w u : W) → Counts moved (InOrder (TurnsAt s) (s.count w)) w u → s.count u ≡ s.count w
  all_count true w u h = turns_count (s.count w) (suc h.0) w u h.1
  all_count false w u h = turns_count (s.count w) 0 w u h

  -- the turns, the posts and the deliveries of a round
  pub round_of : (a b : Bool) (w u t v : W) → Counts a (InOrder (TurnsAt s) (s.count w)) w u → InOrder (PostsAt s) (s.count u) 0 u t → Counts b (InOrder (DeliversAt s) (s.count t)) t v → Counts (a || b) (Round s) w v
  round_of a b w u t v turns posts delivers =
      let first = all_count a w u turns in
      let second = posts_count (s.count u) 0 u t posts in
      by a b turns (subst (λ (n : ℕ). InOrder (PostsAt s) n 0 u t) first posts) (subst (λ (n : ℕ). Counts b (InOrder (DeliversAt s) n) t v) (second ∙ first) delivers)
    where
      by : (c d : Bool) → Counts c (InOrder (TurnsAt s) (s.count w)) w u → InOrder (PostsAt s) (s.count w) 0 u t → Counts d (InOrder (DeliversAt s) (s.count w)) t v → Counts (c || d) (Round s) w v
      by true true h k g = (h.0 + suc g.0, (u, t, suc h.0, suc g.0, h.1, k, g.1, omega arith))
      by true false h k g = (h.0, (u, t, suc h.0, 0, h.1, k, g, omega arith))
      by false true h k g = (g.0, (u, t, 0, suc g.0, h, k, g.1, omega arith))
      by false false h k g = (u, t, 0, 0, h, k, g, omega arith)

  pub round_stops_hands : (o : Option Outcome) (a : Bool) (w u t v : W) → Counts a (InOrder (TurnsAt s) (s.count w)) w u → InOrder (PostsAt s) (s.count u) 0 u t → HandsStop s o t v → RoundStops s o w v
  round_stops_hands o a w u t v turns posts stop = by a turns (subst (λ (n : ℕ). InOrder (PostsAt s) n 0 u t) (all_count a w u turns) posts)
    where
      by : (b : Bool) → Counts b (InOrder (TurnsAt s) (s.count w)) w u → InOrder (PostsAt s) (s.count w) 0 u t → RoundStops s o w v
      by true h k = inr (inr (u, t, suc h.0, h.1, k, stop))
      by false h k = inr (inr (u, t, 0, h, k, stop))

-- ---- by the result of a turn or a delivery

pub was_full : (o : Outcome) → turned o ≡ turning.Full → o ≡ outcome.Refused refusal.Full
was_full (outcome.Refused refusal.Full) h = refl
was_full _ h = cc

pub not_full : (o : Outcome) (t : Turning) → t ≡ turned o → (t ≡ turning.Full → ⊥) → o ≡ outcome.Refused refusal.Full → ⊥
not_full o t is other h = other (is ∙ ap turned h)

pub was_moved : (o : Outcome) → turned o ≡ turning.Moved → (g : ℕ) × (o ≡ outcome.Moved g)
was_moved (outcome.Moved g) h = (g, refl)
was_moved (outcome.Refused refusal.Full) h = cc
was_moved _ h = cc

pub quiet_is_no_move : (t : Turning) → t ≡ turning.Quiet → t ≡ turning.Moved → ⊥
quiet_is_no_move t a b = cc

pub quiet_is_no_full : (t : Turning) → t ≡ turning.Quiet → t ≡ turning.Full → ⊥
quiet_is_no_full t a b = cc

pub not_moved : (o : Outcome) → turned o ≡ turning.Quiet → (g : ℕ) → o ≡ outcome.Moved g → ⊥
not_moved o h g is = quiet_is_no_move (turned o) h (ap turned is)

pub heard_full : (o : Outcome) → heard o ≡ heard_as.Full → o ≡ outcome.Refused refusal.Full
heard_full (outcome.Refused refusal.Full) h = refl
heard_full _ h = cc

pub heard_over : (o : Outcome) → heard o ≡ heard_as.Over → (why : Refusal) × (o ≡ outcome.Refused why) × (why ≡ refusal.Full → ⊥)
heard_over (outcome.Refused refusal.Full) h = cc
heard_over (outcome.Refused why) h = (why, refl, λ full. let was : heard (outcome.Refused why) ≡ heard_as.Full = ap (λ a. heard (outcome.Refused a)) full in cc)
heard_over _ h = cc

pub heard_took : (o : Outcome) → heard o ≡ heard_as.Took → (g : ℕ) × (o ≡ outcome.Took g)
heard_took (outcome.Took g) h = (g, refl)
heard_took (outcome.Refused refusal.Full) h = cc
heard_took _ h = cc

pub heard_noted : (o : Outcome) → heard o ≡ heard_as.Noted → IsTaken o × (committed o ≡ 0)
heard_noted (outcome.Took g) h = cc
heard_noted (outcome.Refused refusal.Full) h = cc
heard_noted (outcome.Refused other) h = cc
heard_noted other h = (λ why is. cc, refl)

-- where turns and then deliveries moved, one of the two did
pub joined_moved : (turns deliveries : Turning) → joined turns deliveries ≡ turning.Moved → (turns ≡ turning.Moved) ⊎ (deliveries ≡ turning.Moved)
joined_moved turns turning.Quiet is = inl is
joined_moved turns turning.Moved is = inr refl
joined_moved turns turning.Full is = cc

-- ---- a whole round, by its answers

module _ {W : Type 0} (s : DrainSteps W) (laws : DrainLaws s) (E : Type 0) where
  pub round_made : (turns deliveries : Turning) (w u t v : W) → (turns ≡ turning.Full → ⊥) → Turns {E = E} (Ok turns) (InOrder (TurnsAt s) (s.count w)) (TurnsStop s) w u → InOrder (PostsAt s) (s.count u) 0 u t
      → Turns {E = E} (Ok deliveries) (InOrder (DeliversAt s) (s.count t)) (HandsStop s) t v → Turns {E = E} (Ok (joined turns deliveries)) (Round s) (RoundStops s) w v
  round_made turning.Full deliveries w u t v other h posts g = absurd (other refl)
  round_made turning.Moved turning.Quiet w u t v other h posts g = round_of s laws true false w u t v h posts g
  round_made turning.Moved turning.Moved w u t v other h posts g = round_of s laws true true w u t v h posts g
  round_made turning.Moved turning.Full w u t v other h posts g = round_stops_hands s laws (Some (outcome.Refused refusal.Full)) true w u t v h posts g
  round_made turning.Quiet turning.Quiet w u t v other h posts g = round_of s laws false false w u t v h posts g
  round_made turning.Quiet turning.Moved w u t v other h posts g = round_of s laws false true w u t v h posts g
  round_made turning.Quiet turning.Full w u t v other h posts g = round_stops_hands s laws (Some (outcome.Refused refusal.Full)) false w u t v h posts g

  -- memory ran out at a post
  pub round_short_post : (turns : Turning) (w u v : W) → (turns ≡ turning.Full → ⊥) → Turns {E = E} (Ok turns) (InOrder (TurnsAt s) (s.count w)) (TurnsStop s) w u → PostsStop s None u v → RoundStops s None w v
  round_short_post turning.Full w u v other h stop = absurd (other refl)
  round_short_post turning.Moved w u v other h stop = round_stops_posts s None true w u v h stop
  round_short_post turning.Quiet w u v other h stop = round_stops_posts s None false w u v h stop

  -- memory ran out at a delivery
  pub round_short_hand : (turns : Turning) (w u t v : W) → (turns ≡ turning.Full → ⊥) → Turns {E = E} (Ok turns) (InOrder (TurnsAt s) (s.count w)) (TurnsStop s) w u → InOrder (PostsAt s) (s.count u) 0 u t → HandsStop s None t v → RoundStops s None w v
  round_short_hand turning.Full w u t v other h posts stop = absurd (other refl)
  round_short_hand turning.Moved w u t v other h posts stop = round_stops_hands s laws None true w u t v h posts stop
  round_short_hand turning.Quiet w u t v other h posts stop = round_stops_hands s laws None false w u t v h posts stop
