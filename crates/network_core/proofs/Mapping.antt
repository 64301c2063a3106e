-- A drain over states of one kind is one over states of another kind, of which each step is one.
use Rattle.std.proofs.Common.{◌≡◌, inl, inr, ℕ, zero, suc, ◌<◌, true, false, Option, Some, None, sym, ap, subst}
use Rattle.network_core.specs.declared.refusal.Refusal.TheVariants as refusal
use Rattle.network_core.specs.declared.steps.Outcome.{Outcome}
use Rattle.network_core.specs.declared.steps.Outcome.TheVariants as outcome
use Rattle.network_core.specs.Rounds.{DrainSteps, Moves, TurnsAt, StopsAt, InOrder, PostsAt, Hands, DeliversAt, HandStops, Round, TurnsStop, PostsStop, HandsStop, RoundStops, Rounds, DrainStops, DrainsTo, DoesAt}

-- each step of states of one kind is one of the other's
pub record Maps {W V : Type 0} (s : DrainSteps W) (t : DrainSteps V) (g : W → V) : Type 0 where
  pub count : (w : W) → t.count (g w) ≡ s.count w
  pub turn : (p : ℕ) (w : W) (o : Option Outcome) (v : W) → s.turn p w o v → t.turn p (g w) o (g v)
  pub post : (p : ℕ) (w : W) (o : Option Outcome) (v : W) → s.post p w o v → t.post p (g w) o (g v)
  pub hand : (p : ℕ) (w : W) (o : Option Outcome) (v : W) → s.hand p w o v → t.hand p (g w) o (g v)
  pub ends : (p d : ℕ) (w u v : W) → s.ends p d w u v → t.ends p d (g w) (g u) (g v)

-- what is done in order, of the other kind
pub order_map : {W V : Type 0} (g : W → V) (a : ℕ → ℕ → W → W → Type 0) (b : ℕ → ℕ → V → V → Type 0) → ((p n : ℕ) (w v : W) → a p n w v → b p n (g w) (g v)) → (p n : ℕ) (w v : W) → InOrder a p n w v → InOrder b p n (g w) (g v)
order_map g a b one zero n w v (is, same) = (is, ap g same)
order_map g a b one (suc p) n w v (u, k, j, before, last, sum) = (g u, k, j, order_map g a b one p k w u before, one p j u v last, sum)

module _ {W V : Type 0} (s : DrainSteps W) (t : DrainSteps V) (g : W → V) (maps : Maps s t g) where
  pub moves_map : (p n : ℕ) (w v : W) → Moves s p n w v → Moves t p n (g w) (g v)
  moves_map p zero w v is = ap g is
  moves_map p (suc n) w v (u, o, before, turn) = (g u, o, moves_map p n w u before, maps.turn p u (Some (outcome.Moved o)) v turn)

  turns_map : (p n : ℕ) (w v : W) → TurnsAt s p n w v → TurnsAt t p n (g w) (g v)
  turns_map p n w v (u, o, before, turn, last) = (g u, o, moves_map p n w u before, maps.turn p u (Some o) v turn, last)

  posts_map : (p n : ℕ) (w v : W) → PostsAt s p n w v → PostsAt t p n (g w) (g v)
  posts_map p n w v (o, post, is) = (o, maps.post p w (Some o) v post, is)

  pub hands_map : (p d n : ℕ) (w v : W) → Hands s p d n w v → Hands t p d n (g w) (g v)
  hands_map p zero n w v (is, same) = (is, ap g same)
  hands_map p (suc d) n w v (u, k, o, before, hand, taken, sum) = (g u, k, o, hands_map p d k w u before, maps.hand p u (Some o) v hand, taken, sum)

  delivers_map : (p n : ℕ) (w v : W) → DeliversAt s p n w v → DeliversAt t p n (g w) (g v)
  delivers_map p n w v (d, u, before, ends) = (d, g u, hands_map p d n w u before, maps.ends p d w u v ends)

  -- all places
  all_map : (a : ℕ → ℕ → W → W → Type 0) (b : ℕ → ℕ → V → V → Type 0) → ((p n : ℕ) (w v : W) → a p n w v → b p n (g w) (g v)) → (n : ℕ) (x w v : W) → InOrder a (s.count x) n w v → InOrder b (t.count (g x)) n (g w) (g v)
  all_map a b one n x w v h = subst (λ (q : ℕ). InOrder b q n (g w) (g v)) (sym (maps.count x)) (order_map g a b one (s.count x) n w v h)

  fewer : (p : ℕ) (x : W) → p < s.count x → p < t.count (g x)
  fewer p x lt = subst (λ (q : ℕ). p < q) (sym (maps.count x)) lt

  pub round_map : (n : ℕ) (w v : W) → Round s n w v → Round t n (g w) (g v)
  round_map n w v (u, x, k, j, turns, posts, delivers, sum) =
      (g u, g x, k, j, all_map (TurnsAt s) (TurnsAt t) turns_map k w w u turns, all_map (PostsAt s) (PostsAt t) posts_map 0 w u x posts, all_map (DeliversAt s) (DeliversAt t) delivers_map j w x v delivers, sum)

  stops_map : (p : ℕ) (o : Option Outcome) (w v : W) → StopsAt s p o w v → StopsAt t p o (g w) (g v)
  stops_map p o w v (n, u, before, turn) = (n, g u, moves_map p n w u before, maps.turn p u o v turn)

  hand_stops_map : (p : ℕ) (o : Option Outcome) (w v : W) → HandStops s p o w v → HandStops t p o (g w) (g v)
  hand_stops_map p o w v (d, n, u, before, hand) = (d, n, g u, hands_map p d n w u before, maps.hand p u o v hand)

  turns_stop_map : (o : Option Outcome) (w v : W) → TurnsStop s o w v → TurnsStop t o (g w) (g v)
  turns_stop_map o w v (p, n, u, lt, before, stop) = (p, n, g u, fewer p w lt, order_map g (TurnsAt s) (TurnsAt t) turns_map p n w u before, stops_map p o u v stop)

  posts_stop_map : (o : Option Outcome) (w v : W) → PostsStop s o w v → PostsStop t o (g w) (g v)
  posts_stop_map o w v (p, u, lt, before, post, is) = (p, g u, fewer p w lt, order_map g (PostsAt s) (PostsAt t) posts_map p 0 w u before, maps.post p u None v post, is)

  hands_stop_map : (o : Option Outcome) (w v : W) → HandsStop s o w v → HandsStop t o (g w) (g v)
  hands_stop_map o w v (p, n, u, lt, before, stop) = (p, n, g u, fewer p w lt, order_map g (DeliversAt s) (DeliversAt t) delivers_map p n w u before, hand_stops_map p o u v stop)

  pub round_stops_map : (o : Option Outcome) (w v : W) → RoundStops s o w v → RoundStops t o (g w) (g v)
  round_stops_map o w v (inl turns) = inl (turns_stop_map o w v turns)
  round_stops_map o w v (inr (inl (u, k, turns, stop))) = inr (inl (g u, k, all_map (TurnsAt s) (TurnsAt t) turns_map k w w u turns, posts_stop_map o u v stop))
  round_stops_map o w v (inr (inr (u, x, k, turns, posts, stop))) =
      inr (inr (g u, g x, k, all_map (TurnsAt s) (TurnsAt t) turns_map k w w u turns, all_map (PostsAt s) (PostsAt t) posts_map 0 w u x posts, hands_stop_map o x v stop))

  pub rounds_map : (r : ℕ) (w v : W) → Rounds s r w v → Rounds t r (g w) (g v)
  rounds_map zero w v is = ap g is
  rounds_map (suc r) w v (u, n, before, round) = (g u, n, rounds_map r w u before, round_map (suc n) u v round)

  stopped_map : (o : Option Outcome) (w v : W) → DrainStops s o w v → DrainStops t o (g w) (g v)
  stopped_map o w v (r, u, before, stop) = (r, g u, rounds_map r w u before, round_stops_map o u v stop)

  pub drains_map : (w : W) (o : Option Outcome) (v : W) → DrainsTo s w o v → DrainsTo t (g w) o (g v)
  drains_map w None v h = stopped_map None w v h
  drains_map w (Some (outcome.Drained true)) v h = stopped_map (Some (outcome.Refused refusal.Full)) w v h
  drains_map w (Some (outcome.Drained false)) v (r, u, before, round) = (r, g u, rounds_map r w u before, round_map 0 u v round)
  drains_map w (Some other) v h = absurd h

-- ---- what each turn, post and delivery of a drain goes on with

module _ {W : Type 0} (s : DrainSteps W) (R : W → W → Type 0) (stay : (w v : W) → v ≡ w → R w v) (more : (w u v : W) (p : ℕ) (o : Option Outcome) → R w u → DoesAt s p u o v → R w v) (ends : (w x u v : W) (p d : ℕ) → R w u → s.ends p d x u v → R w v) where
  moves_go : (a : W) (p n : ℕ) (w v : W) → R a w → Moves s p n w v → R a v
  moves_go a p zero w v r is = subst (R a) (sym is) r
  moves_go a p (suc n) w v r (u, o, before, turn) = more a u v p (Some (outcome.Moved o)) (moves_go a p n w u r before) (inl turn)

  turns_go : (a : W) (p n : ℕ) (w v : W) → R a w → TurnsAt s p n w v → R a v
  turns_go a p n w v r (u, o, before, turn, last) = more a u v p (Some o) (moves_go a p n w u r before) (inl turn)

  posts_go : (a : W) (p n : ℕ) (w v : W) → R a w → PostsAt s p n w v → R a v
  posts_go a p n w v r (o, post, is) = more a w v p (Some o) r (inr (inl post))

  hands_go : (a : W) (p d n : ℕ) (w v : W) → R a w → Hands s p d n w v → R a v
  hands_go a p zero n w v r (is, same) = subst (R a) (sym same) r
  hands_go a p (suc d) n w v r (u, k, o, before, hand, taken, sum) = more a u v p (Some o) (hands_go a p d k w u r before) (inr (inr hand))

  delivers_go : (a : W) (p n : ℕ) (w v : W) → R a w → DeliversAt s p n w v → R a v
  delivers_go a p n w v r (d, u, before, end) = ends a w u v p d (hands_go a p d n w u r before) end

  order_go : (at : ℕ → ℕ → W → W → Type 0) → ((a : W) (p n : ℕ) (w v : W) → R a w → at p n w v → R a v) → (a : W) (p n : ℕ) (w v : W) → R a w → InOrder at p n w v → R a v
  order_go at one a zero n w v r (is, same) = subst (R a) (sym same) r
  order_go at one a (suc p) n w v r (u, k, j, before, last, sum) = one a p j u v (order_go at one a p k w u r before) last

  round_go : (a : W) (n : ℕ) (w v : W) → R a w → Round s n w v → R a v
  round_go a n w v r (u, x, k, j, turns, posts, delivers, sum) =
      order_go (DeliversAt s) delivers_go a (s.count w) j x v (order_go (PostsAt s) posts_go a (s.count w) 0 u x (order_go (TurnsAt s) turns_go a (s.count w) k w u r turns) posts) delivers

  turns_stop_go : (o : Option Outcome) (a w v : W) → R a w → TurnsStop s o w v → R a v
  turns_stop_go o a w v r (p, n, u, lt, before, (j, x, moves, turn)) = more a x v p o (moves_go a p j u x (order_go (TurnsAt s) turns_go a p n w u r before) moves) (inl turn)

  round_stops_go : (o : Option Outcome) (a w v : W) → R a w → RoundStops s o w v → R a v
  round_stops_go o a w v r (inl stop) = turns_stop_go o a w v r stop
  round_stops_go o a w v r (inr (inl (u, k, turns, (p, x, lt, before, post, is)))) =
      more a x v p None (order_go (PostsAt s) posts_go a p 0 u x (order_go (TurnsAt s) turns_go a (s.count w) k w u r turns) before) (inr (inl post))
  round_stops_go o a w v r (inr (inr (u, x, k, turns, posts, (p, n, y, lt, before, (d, j, z, hands, hand))))) =
      let first = order_go (PostsAt s) posts_go a (s.count w) 0 u x (order_go (TurnsAt s) turns_go a (s.count w) k w u r turns) posts in
      more a z v p o (hands_go a p d j y z (order_go (DeliversAt s) delivers_go a p n x y first before) hands) (inr (inr hand))

  rounds_go : (r : ℕ) (w v : W) → Rounds s r w v → R w v
  rounds_go zero w v is = stay w v is
  rounds_go (suc r) w v (u, n, before, round) = round_go w (suc n) u v (rounds_go r w u before) round

  pub drains_go : (w : W) (o : Option Outcome) (v : W) → DrainsTo s w o v → R w v
  drains_go w None v (r, u, before, stop) = round_stops_go None w u v (rounds_go r w u before) stop
  drains_go w (Some (outcome.Drained true)) v (r, u, before, stop) = round_stops_go (Some (outcome.Refused refusal.Full)) w u v (rounds_go r w u before) stop
  drains_go w (Some (outcome.Drained false)) v (r, u, before, round) = round_go w 0 u v (rounds_go r w u before) round
  drains_go w (Some other) v h = absurd h
