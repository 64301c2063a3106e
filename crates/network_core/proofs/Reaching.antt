-- What steps lead to, and turns, posts and deliveries: coherent worlds, in which each journal begins with one of before.
use Rattle.std.proofs.Common.{◌≡◌, ℕ, inl, inr, Bool, true, false, Option, Some, None, slice_set, sym, subst}
use Rattle.net_model.specs.Environment.{Environment, party}
use Rattle.node_core.specs.Takes.{unacked_at}
use Rattle.network_core.specs.declared.refusal.Refusal.TheVariants as refusal
use Rattle.network_core.specs.declared.steps.Outcome.{Outcome}
use Rattle.network_core.specs.declared.steps.Outcome.TheVariants as outcome
use Rattle.network_core.specs.declared.steps.Step.{Step}
use Rattle.network_core.specs.declared.steps.Step.TheVariants as step
use Rattle.network_core.specs.Worlds.{NodeWorld, World, Coherent}
use Rattle.network_core.specs.WorldSteps.{WorldClock, WorldPlace, WorldStarts, WorldTurns, WorldCuts, WorldBoots, LosesAt, PostsFrom, WorldPosts, WorldHands, waits_on, handed_over, sent_all}
use Rattle.network_core.specs.Drains.{WorldDrains, world_steps}
use Rattle.network_core.specs.Rounds.{DoesAt, Runs, none, more, RunsTo}
use Rattle.network_core.specs.Following.{Serve}
use Rattle.network_core.specs.Acknowledged.{Reaches, here, by_step, by_part}
use Rattle.network_core.proofs.Agreeing.{start_coherent, turn_coherent, cut_coherent, boot_coherent, lose_coherent, post_coherent, hand_coherent, clock_coherent, does_coherent}
use Rattle.network_core.proofs.QuietingRuns.{drained_run, stopped_run}
use Rattle.network_core.proofs.Lengthening.{Lengthens, AllLengthen, all_same, all_then, all_placed, all_sent_on, over_kept, starts_lengthen, turns_lengthen, cuts_lengthen, boots_lengthen, loses_lengthen, takes_lengthen}

-- a world leads to a coherent one if it is coherent, and to journals that begin with its own
pub record Leads {F : Type 0} (e : Environment F) (w v : World) : Type 0 where
  pub coherent : Coherent e w → Coherent e v
  pub longer : AllLengthen w.nodes v.nodes

-- a step at a place touches one node at most
place_longer : (p : ℕ) (w v : World) (o : Option Outcome) (goal : NodeWorld → Option Outcome → NodeWorld → Type 0) → WorldPlace p w o v goal → ((x y : NodeWorld) → goal x o y → Lengthens x y) → AllLengthen w.nodes v.nodes
place_longer p w v o goal (inl past) longer = subst (λ (z : World). AllLengthen w.nodes z.nodes) (sym past.2) (all_same w.nodes)
place_longer p w v o goal (inr some) longer = subst (λ (z : World). AllLengthen w.nodes z.nodes) (sym some.3) (all_placed w.nodes p some.0 some.1 some.2 (longer some.0 some.1 some.4))

module _ {F : Type 0} (e : Environment F) where
  same_longer : (w v : World) → v ≡ w → AllLengthen w.nodes v.nodes
  same_longer w v is = subst (λ (z : World). AllLengthen w.nodes z.nodes) (sym is) (all_same w.nodes)

  turn_longer : (p : ℕ) (pick : Option ℕ) (w v : World) (o : Option Outcome) → WorldPlace p w o v (λ x r y. WorldTurns e p w.now pick x r y) → AllLengthen w.nodes v.nodes
  turn_longer p pick w v o h = place_longer p w v o (λ x r y. WorldTurns e p w.now pick x r y) h (λ x y goal. turns_lengthen e p w.now x y pick o goal)

  from_longer : (p : ℕ) (w v : World) (x : NodeWorld) (o : Option Outcome) → PostsFrom e p w x o v → AllLengthen w.nodes v.nodes
  from_longer p w v x None h = same_longer w v h.1
  from_longer p w v x (Some (outcome.Posted count)) h = subst (λ (z : World). AllLengthen w.nodes z.nodes) (sym h.2) (all_sent_on (unacked_at e.frame_at (party p) x.journal x.acked) w.nodes)
  from_longer p w v x (Some (outcome.Refused why)) h = same_longer w v h.2
  from_longer p w v x (Some other) h = absurd h

  post_longer : (p : ℕ) (w v : World) (o : Option Outcome) → WorldPosts e p w o v → AllLengthen w.nodes v.nodes
  post_longer p w v o (inl past) = same_longer w v past.2
  post_longer p w v o (inr some) = from_longer p w v some.0 o some.2

  hand_longer : (repeated : Bool) (p i : ℕ) (w v : World) (o : Option Outcome) → WorldHands e repeated p i w o v → AllLengthen w.nodes v.nodes
  hand_longer repeated p i w v o (inl past) = same_longer w v past.2
  hand_longer repeated p i w v o (inr (x, there, inl down)) = same_longer w v down.2
  hand_longer repeated p i w v o (inr (x, there, inr (up, inl gone))) = same_longer w v gone.2
  hand_longer repeated p i w v o (inr (x, there, inr (up, inr (bytes, y, sent, waits, takes, is)))) =
      let over = handed_over (waits_on repeated o) i y in
      let placed = slice_set w.nodes p over in
      let longer = over_kept (waits_on repeated o) i x y (takes_lengthen e p w.now x y bytes o sent takes) in
      subst (λ (z : World). AllLengthen w.nodes z.nodes) (sym is) (all_then w.nodes placed (sent_all sent placed) (all_placed w.nodes p x over there longer) (all_sent_on sent placed))

  clock_longer : (to : ℕ) (w v : World) (o : Option Outcome) → WorldClock to w o v → AllLengthen w.nodes v.nodes
  clock_longer to w v o (inl past) = same_longer w v past.2
  clock_longer to w v o (inr later) = subst (λ (z : World). AllLengthen w.nodes z.nodes) (sym later.2) (all_same w.nodes)

  -- ---- drains

  leads_same : (w v : World) → v ≡ w → Leads e w v
  leads_same w v is = record { coherent = λ coherent. subst (Coherent e) (sym is) coherent; longer = same_longer w v is }

  leads_then : (w u v : World) → Leads e w u → Leads e u v → Leads e w v
  leads_then w u v f g = record { coherent = λ coherent. g.coherent (f.coherent coherent); longer = all_then w.nodes u.nodes v.nodes f.longer g.longer }

  does_leads : (p : ℕ) (w v : World) (o : Option Outcome) → DoesAt (world_steps e) p w o v → Leads e w v
  does_leads p w v o does = record { coherent = λ coherent. does_coherent e p w v o coherent does; longer = by does }
    where
      by : DoesAt (world_steps e) p w o v → AllLengthen w.nodes v.nodes
      by (inl turn) = turn_longer p None w v o turn
      by (inr (inl post)) = post_longer p w v o post
      by (inr (inr hand)) = hand_longer false p 0 w v o hand

  runs_leads : (w v : World) → Runs (world_steps e) w v → Leads e w v
  runs_leads w v (none is) = leads_same w v is
  runs_leads w v (more {u = u} p o before does full) = leads_then w u v (runs_leads w u before) (does_leads p u v (Some o) does)

  to_leads : (w v : World) (o : Option Outcome) → RunsTo (world_steps e) w o v → Leads e w v
  to_leads w v o (u, p, before, does) = leads_then w u v (runs_leads w u before) (does_leads p u v o does)

  drain_leads : (w v : World) (o : Option Outcome) → WorldDrains e w o v → Leads e w v
  drain_leads w v None h = to_leads w v None (stopped_run e w v None h.0)
  drain_leads w v (Some (outcome.Drained true)) h = to_leads w v (Some (outcome.Refused refusal.Full)) (stopped_run e w v (Some (outcome.Refused refusal.Full)) h.0)
  drain_leads w v (Some (outcome.Drained false)) h = runs_leads w v (drained_run e w v h.0)
  drain_leads w v (Some other) h = absurd h.0

  -- ---- steps

  pub serve_leads : (s : Step) (w v : World) (o : Option Outcome) → Serve e s w o v → Leads e w v
  serve_leads (step.Clock to) w v o h = record { coherent = λ coherent. clock_coherent e to.0 w v o coherent h; longer = clock_longer to.0 w v o h }
  serve_leads (step.Start node class args) w v o h = record {
    coherent = λ coherent. start_coherent e node class args w v o coherent h;
    longer = place_longer node w v o (λ x r y. WorldStarts e node w.now class args x r y) h (λ x y goal. starts_lengthen e node w.now x y class args o goal);
  }
  serve_leads (step.Turn node pick) w v o h = record { coherent = λ coherent. turn_coherent e node pick w v o coherent h; longer = turn_longer node pick w v o h }
  serve_leads (step.Post node) w v o h = record { coherent = λ coherent. post_coherent e node w v o coherent h; longer = post_longer node w v o h }
  serve_leads (step.Deliver node at) w v o h = record { coherent = λ coherent. hand_coherent e false node at w v o coherent h; longer = hand_longer false node at w v o h }
  serve_leads (step.Repeat node at) w v o h = record { coherent = λ coherent. hand_coherent e true node at w v o coherent h; longer = hand_longer true node at w v o h }
  serve_leads (step.Lose node at) w v o h = record {
    coherent = λ coherent. lose_coherent e node at w v o coherent h;
    longer = place_longer node w v o (λ x r y. LosesAt at x r y) h (λ x y goal. loses_lengthen e node w.now x y at o goal);
  }
  serve_leads (step.Cut node calls kind) w v o (inl odd) = leads_same w v odd.2
  serve_leads (step.Cut node calls kind) w v o (inr (known, h)) = record {
    coherent = λ coherent. cut_coherent e node calls w v o coherent h;
    longer = place_longer node w v o (λ x r y. WorldCuts calls x r y) h (λ x y goal. cuts_lengthen e node w.now x y calls o goal);
  }
  serve_leads (step.Boot node) w v o h = record {
    coherent = λ coherent. boot_coherent e node w v o coherent h;
    longer = place_longer node w v o (λ x r y. WorldBoots e x r y) h (λ x y goal. boots_lengthen e node w.now x y o goal);
  }
  serve_leads step.Drain w v o h = drain_leads w v o h

  pub reaches_leads : (w v : World) → Reaches e w v → Leads e w v
  reaches_leads w v (here is) = leads_same w v is
  reaches_leads w v (by_step {u = u} s o before serve) = leads_then w u v (reaches_leads w u before) (serve_leads s u v o serve)
  reaches_leads w v (by_part {u = u} p o before does) = leads_then w u v (reaches_leads w u before) (does_leads p u v o does)
