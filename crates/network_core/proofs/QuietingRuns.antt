-- A drain makes turns, posts and deliveries and nothing else.
use Rattle.std.proofs.Common.{◌≡◌, inl, inr, ⊎_elim, ℕ, zero, suc, length, Option, Some, refl, sym, ap, subst, arith}
use Rattle.net_model.specs.Environment.{Environment}
use Rattle.network_core.specs.declared.refusal.Refusal.TheVariants as refusal
use Rattle.network_core.specs.declared.steps.Outcome.{Outcome}
use Rattle.network_core.specs.declared.steps.Outcome.TheVariants as outcome
use Rattle.network_core.specs.Worlds.{NodeWorld, World}
use Rattle.network_core.specs.WorldSteps.{WorldPosts, PostsFrom}
use Rattle.network_core.specs.Drains.{world_steps}
use Rattle.network_core.specs.Rounds.{IsLastTurn, Moves, TurnsAt, PostsAt, Hands, DeliversAt, InOrder, Round, Rounds, RoundStops, TurnsStop, PostsStop, HandsStop, IsDrained, DrainStops, Runs, none, more, RunsTo}

module _ {F : Type 0} (e : Environment F) where
  runs_after : (w u v : World) → Runs (world_steps e) w u → Runs (world_steps e) u v → Runs (world_steps e) w v
  runs_after w u v a (none is) = subst (λ (z : World). Runs (world_steps e) w z) (sym is) a
  runs_after w u v a (more {u = t} p o b step full) = more p o (runs_after w u t a b) step full

  -- ---- turns

  moves_run : (p n : ℕ) (w v : World) → Moves (world_steps e) p n w v → Runs (world_steps e) w v
  moves_run p zero w v is = none is
  moves_run p (suc n) w v (u, g, before, turn) = more p (outcome.Moved g) (moves_run p n w u before) (inl turn) (λ is. cc)

  down_not_full : (o : Outcome) → o ≡ outcome.Refused refusal.NodeDown → o ≡ outcome.Refused refusal.Full → ⊥
  down_not_full o down full = cc

  none_not_full : (o : Outcome) → o ≡ outcome.Refused refusal.NoFrame → o ≡ outcome.Refused refusal.Full → ⊥
  none_not_full o empty full = cc

  last_not_full : (o : Outcome) → IsLastTurn o → o ≡ outcome.Refused refusal.Full → ⊥
  last_not_full o (inl idle) is = cc
  last_not_full o (inr (inl fault)) is = cc
  last_not_full o (inr (inr down)) is = down_not_full o down is

  turns_run : (p n : ℕ) (w v : World) → TurnsAt (world_steps e) p n w v → Runs (world_steps e) w v
  turns_run p n w v (u, o, before, turn, last) = more p o (moves_run p n w u before) (inl turn) (last_not_full o last)

  -- ---- posts

  from_not_full : (p : ℕ) (w : World) (x : NodeWorld) (o : Outcome) (v : World) → PostsFrom e p w x (Some o) v → o ≡ outcome.Refused refusal.Full → ⊥
  from_not_full p w x (outcome.Posted count) v h is = cc
  from_not_full p w x (outcome.Refused why) v h is = let down : why ≡ refusal.NodeDown = h.0 in cc
  from_not_full p w x other v h is = h

  post_not_full : (p : ℕ) (w v : World) (o : Outcome) → WorldPosts e p w (Some o) v → o ≡ outcome.Refused refusal.Full → ⊥
  post_not_full p w v o (inl (past, two, same)) is =
      let one : o ≡ outcome.Refused refusal.UnknownNode = cc in
      cc
  post_not_full p w v o (inr (x, there, from)) is = from_not_full p w x o v from is

  posts_run : (p n : ℕ) (w v : World) → PostsAt (world_steps e) p n w v → Runs (world_steps e) w v
  posts_run p n w v (o, post, is) = more p o (none refl) (inr (inl post)) (post_not_full p w v o post)

  -- ---- deliveries

  hands_run : (p d n : ℕ) (w v : World) → Hands (world_steps e) p d n w v → Runs (world_steps e) w v
  hands_run p zero n w v (is, same) = none same
  hands_run p (suc d) n w v (u, k, o, before, hand, taken, sum) = more p o (hands_run p d k w u before) (inr (inr hand)) (taken refusal.Full)

  delivers_run : (p n : ℕ) (w v : World) → DeliversAt (world_steps e) p n w v → Runs (world_steps e) w v
  delivers_run p n w v (d, u, before, (o, hand, over)) =
      more p o (hands_run p d n w u before) (inr (inr hand)) (λ full. ⊎_elim (λ empty. none_not_full o empty full) (λ down. down_not_full o down full) over)

  -- ---- rounds

  order_run : (at : ℕ → ℕ → World → World → Type 0) → ((p n : ℕ) (w v : World) → at p n w v → Runs (world_steps e) w v) → (p n : ℕ) (w v : World) → InOrder at p n w v → Runs (world_steps e) w v
  order_run at run zero n w v (is, same) = none same
  order_run at run (suc p) n w v (u, k, j, before, here, sum) = runs_after w u v (order_run at run p k w u before) (run p j u v here)

  turns_all : (p n : ℕ) (w v : World) → InOrder (TurnsAt (world_steps e)) p n w v → Runs (world_steps e) w v
  turns_all p n w v h = order_run (TurnsAt (world_steps e)) turns_run p n w v h

  posts_all : (p n : ℕ) (w v : World) → InOrder (PostsAt (world_steps e)) p n w v → Runs (world_steps e) w v
  posts_all p n w v h = order_run (PostsAt (world_steps e)) posts_run p n w v h

  delivers_all : (p n : ℕ) (w v : World) → InOrder (DeliversAt (world_steps e)) p n w v → Runs (world_steps e) w v
  delivers_all p n w v h = order_run (DeliversAt (world_steps e)) delivers_run p n w v h

  round_run : (n : ℕ) (w v : World) → Round (world_steps e) n w v → Runs (world_steps e) w v
  round_run n w v (u, t, k, j, turns, posts, delivers, sum) =
      runs_after w t v (runs_after w u t (turns_all (length w.nodes) k w u turns) (posts_all (length w.nodes) 0 u t posts)) (delivers_all (length w.nodes) j t v delivers)

  rounds_run : (r : ℕ) (w v : World) → Rounds (world_steps e) r w v → Runs (world_steps e) w v
  rounds_run zero w v is = none is
  rounds_run (suc r) w v (u, n, before, round) = runs_after w u v (rounds_run r w u before) (round_run (suc n) u v round)

  pub drained_run : (w v : World) → IsDrained (world_steps e) w v → Runs (world_steps e) w v
  drained_run w v (r, u, before, round) = runs_after w u v (rounds_run r w u before) (round_run 0 u v round)

  -- ---- what stopped

  turns_stop : (o : Option Outcome) (w u v : World) → Runs (world_steps e) w u → TurnsStop (world_steps e) o u v → RunsTo (world_steps e) w o v
  turns_stop o w u v before (p, n, t, lt, first, (k, z, moves, turn)) =
      (z, p, runs_after w t z (runs_after w u t before (turns_all p n u t first)) (moves_run p k t z moves), inl turn)

  posts_stop : (o : Option Outcome) (w u v : World) → Runs (world_steps e) w u → PostsStop (world_steps e) o u v → RunsTo (world_steps e) w o v
  posts_stop o w u v before (p, t, lt, first, post, is) =
      (t, p, runs_after w u t before (posts_all p 0 u t first), inr (inl (subst (λ (a : Option Outcome). WorldPosts e p t a v) (sym is) post)))

  hands_stop : (o : Option Outcome) (w u v : World) → Runs (world_steps e) w u → HandsStop (world_steps e) o u v → RunsTo (world_steps e) w o v
  hands_stop o w u v before (p, n, t, lt, first, (d, m, z, hands, hand)) =
      (z, p, runs_after w t z (runs_after w u t before (delivers_all p n u t first)) (hands_run p d m t z hands), inr (inr hand))

  round_stop : (o : Option Outcome) (w u v : World) → Runs (world_steps e) w u → RoundStops (world_steps e) o u v → RunsTo (world_steps e) w o v
  round_stop o w u v before (inl turns) = turns_stop o w u v before turns
  round_stop o w u v before (inr (inl (t, k, turns, posts))) = posts_stop o w t v (runs_after w u t before (turns_all (length u.nodes) k u t turns)) posts
  round_stop o w u v before (inr (inr (t, s, k, turns, posts, hands))) =
      hands_stop o w s v (runs_after w t s (runs_after w u t before (turns_all (length u.nodes) k u t turns)) (posts_all (length u.nodes) 0 t s posts)) hands

  pub stopped_run : (w v : World) (o : Option Outcome) → DrainStops (world_steps e) o w v → RunsTo (world_steps e) w o v
  stopped_run w v o (r, u, before, stop) = round_stop o w u v (rounds_run r w u before) stop
