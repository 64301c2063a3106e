-- What a network does, one thing after another, over any disks and as its worlds show it.
use Rattle.std.proofs.Common.{◌≡◌, ◌<◌, ◌⊎◌, inl, inr, ⊎_elim, false, ℕ, length, Option, Some, None, Result, Ok, Err, refl, sym, ◌∙◌, ap, subst, arith}
use Rattle.net_base.specs.declared.names.Identity.{Identity}
use Rattle.network_core.proofs.Mapping.{Maps, round_map, drains_map}
use Rattle.net_base.proofs.Lists.{set_length}
use Rattle.net_model.specs.Environment.{environment, Meaning}
use Rattle.node_core.specs.Seen.{NodeSeen}
use Rattle.node_core.specs.declared.faults.TurnFault.{TurnFault}
use Rattle.node_core.specs.declared.faults.TurnFault.TheVariants as turn_fault
use Rattle.node_core.specs.declared.faults.Turned.{Turned}
use Rattle.node_core.specs.declared.faults.Turned.TheVariants as turned
use Rattle.node_core.specs.declared.faults.Taken.{Taken}
use Rattle.node_core.specs.declared.faults.Taken.TheVariants as taken
use Rattle.node_core.specs.declared.faults.TakeFault.{TakeFault}
use Rattle.node_core.specs.declared.faults.TakeFault.TheVariants as take_fault
use Rattle.network_core.specs.declared.refusal.Refusal.{Refusal}
use Rattle.network_core.specs.declared.refusal.Refusal.TheVariants as refusal
use Rattle.network_core.specs.declared.steps.Outcome.{Outcome}
use Rattle.network_core.specs.declared.steps.Outcome.TheVariants as outcome
use Rattle.network_core.specs.Answers.{said, turn_outcome, take_outcome, AtPlace, TurnServes, Posting, PostServes, Handing, HandServes, answer_of, NetTurn, NetPost, NetHand, net_steps}
use Rattle.network_core.specs.Worlds.{World, NetSeen, Shows, Coherent, KeepsWorld}
use Rattle.network_core.specs.Rounds.{DrainSteps, DrainGoal, IsLastTurn, Round, DrainsTo}
use Rattle.network_core.specs.Drains.{world_steps, room, Pair, with_world, pair_steps, KeepsPair, PairDrains, WorldDrains, Drives, Drains}
use Rattle.network_core.proofs.Draining.{DrainLaws, SomeRounds, drain_ends}
use Rattle.network_core.proofs.Quieting.{quiet}

-- ---- the steps of a drain of a network, over any disks

answer_is : (o : Option Outcome) → said (answer_of o) ≡ o
answer_is (Some o) = refl
answer_is None = refl

-- what is said of an outcome is said whatever stands for want of memory
module _ {F E : Type 0} (m : Meaning F) (p : ℕ) (old new : NetSeen) (r : Result Outcome E) (o : Option Outcome) (was : said r ≡ o) where
  outcome_is : said (answer_of o) ≡ said r
  outcome_is = answer_is o ∙ sym was

  turn_bare : AtPlace p old r new (λ n a k. TurnServes m old.now None n a k) → AtPlace p old (answer_of o) new (λ n a k. TurnServes m old.now None n a k)
  turn_bare (inl (past, is, same)) = inl (past, outcome_is ∙ is, same)
  turn_bare (inr (n, k, at, nodes, waiting, (answer, answers, so))) = inr (n, k, at, nodes, waiting, (answer, answers, outcome_is ∙ so))

  pub net_turn : AtPlace p old r new (λ n a k. TurnServes m old.now None n a k) → new.now ≡ old.now → NetTurn m p old o new
  net_turn at clock = (turn_bare at, clock)

  pub net_post : PostServes m.frame_at p old r new → NetPost m.frame_at p old o new
  net_post (inl (past, is, same)) = inl (past, outcome_is ∙ is, same)
  net_post (inr (n, at, posting)) = inr (n, at, subst (λ (a : Option Outcome). Posting m.frame_at n old a new) (sym outcome_is) posting)

  pub net_hand : HandServes m false p 0 old r new → NetHand m p old o new
  net_hand (inl (past, is, same)) = inl (past, outcome_is ∙ is, same)
  net_hand (inr (n, frames, at, waits, handing)) = inr (n, frames, at, waits, subst (λ (a : Option Outcome). Handing m false p 0 n frames old a new) (sym outcome_is) handing)

-- a step at one place keeps the number of nodes
pub same_count : {E : Type 0} (p : ℕ) (old new : NetSeen) (result : Result Outcome E) (serves : NodeSeen → Result Outcome E → NodeSeen → Type 0) → AtPlace p old result new serves → length new.nodes ≡ length old.nodes
same_count p old new result serves (inl (past, is, same)) = ap (λ z. length z.nodes) same
same_count p old new result serves (inr (n, k, at, nodes, waiting, served)) = ap length nodes ∙ set_length old.nodes p k

turn_says : (answer : Result Turned TurnFault) (o : Outcome) → ((g : ℕ) → o ≡ outcome.Moved g → ⊥) → (o ≡ outcome.Refused refusal.Full → ⊥) → Some o ≡ turn_outcome answer → IsLastTurn o
turn_says (Ok turned.Idle) o moved full so = inl cc
turn_says (Ok (turned.Moved g)) o moved full so = absurd (moved g cc)
turn_says (Err turn_fault.NodeDown) o moved full so = inr (inr cc)
turn_says (Err turn_fault.Full) o moved full so = absurd (full cc)
turn_says (Err turn_fault.Memory) o moved full so = absurd cc
turn_says (Err turn_fault.Fault) o moved full so = inr (inl cc)

take_says : (answer : Result Taken TakeFault) (o : Outcome) (why : Refusal) → o ≡ outcome.Refused why → (why ≡ refusal.Full → ⊥) → Some o ≡ take_outcome answer → (o ≡ outcome.Refused refusal.NoFrame) ⊎ (o ≡ outcome.Refused refusal.NodeDown)
take_says (Ok taken.Acked) o why is full so = absurd cc
take_says (Ok (taken.Again expected ack)) o why is full so = absurd cc
take_says (Ok (taken.Early expected)) o why is full so = absurd cc
take_says (Ok taken.NoSession) o why is full so = absurd cc
take_says (Ok (taken.Took upto ack)) o why is full so = absurd cc
take_says (Err take_fault.NodeDown) o why is full so = inr cc
take_says (Err take_fault.Garbled) o why is full so = absurd cc
take_says (Err (take_fault.NotMine to)) o why is full so = absurd cc
take_says (Err take_fault.Full) o why is full so = absurd (full cc)
take_says (Err take_fault.Memory) o why is full so = absurd cc
take_says (Err take_fault.Fault) o why is full so = absurd cc

module _ {F : Type 0} (m : Meaning F) where
  post_same : (n : NodeSeen) (old new : NetSeen) (o : Option Outcome) → Posting m.frame_at n old o new → (new.nodes ≡ old.nodes) × (new.now ≡ old.now)
  post_same n old new None s = (ap (λ z. z.nodes) s.1, ap (λ z. z.now) s.1)
  post_same n old new (Some (outcome.Posted count)) s = (ap (λ z. z.nodes) s.4, ap (λ z. z.now) s.4)
  post_same n old new (Some (outcome.Refused why)) s = (ap (λ z. z.nodes) s.2, ap (λ z. z.now) s.2)
  post_same n old new (Some _) s = absurd s

  -- a post changes no node, and no moment
  pub post_keeps : {E : Type 0} (p : ℕ) (old new : NetSeen) (result : Result Outcome E) → PostServes m.frame_at p old result new → (new.nodes ≡ old.nodes) × (new.now ≡ old.now)
  post_keeps p old new result (inl (past, is, same)) = (ap (λ z. z.nodes) same, ap (λ z. z.now) same)
  post_keeps p old new result (inr (n, at, posting)) = post_same n old new (said result) posting

  net_last : (p : ℕ) (o : Outcome) (w v : NetSeen) → p < length w.nodes → ((g : ℕ) → o ≡ outcome.Moved g → ⊥) → (o ≡ outcome.Refused refusal.Full → ⊥) → NetTurn m p w (Some o) v → IsLastTurn o
  net_last p o w v lt moved full (inl (past, is, same), clock) = absurd (omega (arith, lt, past))
  net_last p o w v lt moved full (inr (n, k, at, nodes, waiting, (answer, answers, so)), clock) = turn_says answer o moved full so

  net_over : (p : ℕ) (why : Refusal) (w v : NetSeen) (o : Outcome) → p < length w.nodes → o ≡ outcome.Refused why → (why ≡ refusal.Full → ⊥) → NetHand m p w (Some o) v → (o ≡ outcome.Refused refusal.NoFrame) ⊎ (o ≡ outcome.Refused refusal.NodeDown)
  net_over p why w v o lt is full (inl (past, two, same)) = absurd (omega (arith, lt, past))
  net_over p why w v o lt is full (inr (n, frames, at, waits, inl (none, three, same))) = inr cc
  net_over p why w v o lt is full (inr (n, frames, at, waits, inr (up, inl (none, seven, same)))) = inl cc
  net_over p why w v o lt is full (inr (n, frames, at, waits, inr (up, inr h))) = take_says h.answer o why is full h.outcome_is

  pub net_laws : DrainLaws (net_steps m)
  net_laws = record {
    turn_count = λ p w v o at. same_count p w v (answer_of o) (λ n r k. TurnServes m w.now None n r k) at.0;
    post_count = λ p w v o at. ap length (post_keeps p w v (answer_of o) at).0;
    turn_last = net_last;
    hand_over = λ p d why w u v o lt is full hand. inl (o, hand, net_over p why u v o lt is full hand);
  }

  -- ---- those of both

  module _ (id : Identity) where
    abbrev Both : Type 0
    Both = Pair (environment m id)

    pub to_world : Maps (pair_steps m id) (world_steps (environment m id)) (λ (a : Both). a.world)
    to_world = record {
      count = λ a. a.shows.count;
      turn = λ p a o b h. h.1;
      post = λ p a o b h. h.1;
      hand = λ p a o b h. h.1;
      ends = λ p d a c b h. ⊎_elim (λ over. (over.0, over.1.1, over.2)) (λ still. still.2) h;
    }

    pub to_net : Maps (pair_steps m id) (net_steps m) (λ (a : Both). a.net)
    to_net = record {
      count = λ a. refl;
      turn = λ p a o b h. h.0;
      post = λ p a o b h. h.0;
      hand = λ p a o b h. h.0;
      ends = λ p d a c b h. ⊎_elim (λ over. inl (over.0, over.1.0, over.2)) (λ still. still.1) h;
    }

    pub pair_laws : DrainLaws (pair_steps m id)
    pair_laws = record {
      turn_count = λ p a b o h. net_laws.turn_count p a.net b.net o h.0;
      post_count = λ p a b o h. net_laws.post_count p a.net b.net o h.0;
      turn_last = λ p o a b lt moved full h. net_last p o a.net b.net lt moved full h.0;
      hand_over = λ p d why a c b o lt is full h. inl (o, h, net_over p why c.net b.net o lt is full h.0);
    }

  -- what is said of worlds follows
  pub worlds_of : (old new : NetSeen) (o : Option Outcome) → KeepsPair m old new (λ id a b. PairDrains m id o a b) → KeepsWorld m old new (λ e w v. WorldDrains e w o v)
  worlds_of old new o pairs id w shows coherent =
      let b = pairs id w shows coherent in
      (b.0, b.1, b.2, (drains_map (pair_steps m id) (world_steps (environment m id)) (λ (z : Pair (environment m id)). z.world) (to_world id) (with_world old w shows coherent) o (with_world new b.0 b.1 b.2) b.3.0, b.3.1))

  -- ---- one thing after another

  -- nothing was done yet
  pub drives_none : (old new : NetSeen) (goal : DrainGoal) → new ≡ old → ((W : Type 0) (s : DrainSteps W) (w : W) → goal W s w w) → Drives m old new goal
  drives_none old new goal same holds = record {
    pairs = λ id w shows coherent.
        let e = environment m id in
        let a = with_world old w shows coherent in
        subst (λ (n : NetSeen). (v : World) × (later : Shows e n v) × (sound : Coherent e v) × goal (Pair e) (pair_steps m id) a (with_world n v later sound)) (sym same) (w, shows, coherent, holds (Pair e) (pair_steps m id) a);
    seen = subst (λ (n : NetSeen). goal NetSeen (net_steps m) old n) (sym same) (holds NetSeen (net_steps m) old);
    clock = ap (λ (z : NetSeen). z.now) same;
    left = omega (arith, ap room same);
    count = ap (λ (z : NetSeen). length z.nodes) same;
  }

  pub drives_map : (old new : NetSeen) (goal wider : DrainGoal) → ((W : Type 0) (s : DrainSteps W) → DrainLaws s → (w v : W) → goal W s w v → wider W s w v) → Drives m old new goal → Drives m old new wider
  drives_map old new goal wider map d = record {
    pairs = λ id w shows coherent.
        let one = d.pairs id w shows coherent in
        (one.0, one.1, one.2, map (Pair (environment m id)) (pair_steps m id) (pair_laws id) (with_world old w shows coherent) (with_world new one.0 one.1 one.2) one.3);
    seen = map NetSeen (net_steps m) net_laws old new d.seen;
    clock = d.clock;
    left = d.left;
    count = d.count;
  }

  -- one thing after another
  pub drives_then : (old mid new : NetSeen) (first second wider : DrainGoal) → ((W : Type 0) (s : DrainSteps W) → DrainLaws s → (w u v : W) → first W s w u → second W s u v → wider W s w v) → Drives m old mid first → Drives m mid new second → Drives m old new wider
  drives_then old mid new first second wider join before after = record {
    pairs = λ id w shows coherent.
        let one = before.pairs id w shows coherent in
        let two = after.pairs id one.0 one.1 one.2 in
        (two.0, two.1, two.2, join (Pair (environment m id)) (pair_steps m id) (pair_laws id) (with_world old w shows coherent) (with_world mid one.0 one.1 one.2) (with_world new two.0 two.1 two.2) one.3 two.3);
    seen = join NetSeen (net_steps m) net_laws old mid new before.seen after.seen;
    clock = after.clock ∙ before.clock;
    left = omega (arith, before.left, after.left);
    count = after.count ∙ before.count;
  }

  -- a world that the network shows has as many nodes
  pub drives_counted : (old new : NetSeen) (goal : DrainGoal) → Drives m old new goal → Drives m old new (λ W s w v. (s.count w ≡ length old.nodes) × goal W s w v)
  drives_counted old new goal d = record {
    pairs = λ id w shows coherent.
        let one = d.pairs id w shows coherent in
        (one.0, one.1, one.2, (refl, one.3));
    seen = (refl, d.seen);
    clock = d.clock;
    left = d.left;
    count = d.count;
  }

  -- ---- how a drain ends

  -- behind a round in which nothing was committed the network is quiet
  quiet_pairs : (old mid new : NetSeen) → Drives m old mid (λ W s w v. SomeRounds s w v) → Drives m mid new (λ W s w v. Round s 0 w v) → KeepsPair m old new (λ id a b. PairDrains m id (Some (outcome.Drained false)) a b)
  quiet_pairs old mid new before after id w shows coherent =
      let one = before.pairs id w shows coherent in
      let two = after.pairs id one.0 one.1 one.2 in
      let a = with_world old w shows coherent in
      let c = with_world mid one.0 one.1 one.2 in
      let b = with_world new two.0 two.1 two.2 in
      (two.0, two.1, two.2, (drain_ends (pair_steps m id) a c b one.3 two.3, λ is. quiet (environment m id) one.0 two.0 one.2 (round_map (pair_steps m id) (world_steps (environment m id)) (λ (z : Pair (environment m id)). z.world) (to_world id) 0 c b two.3)))

  pub drains_quiet : (old mid new : NetSeen) → Drives m old mid (λ W s w v. SomeRounds s w v) → Drives m mid new (λ W s w v. Round s 0 w v) → Drains m old (Some (outcome.Drained false)) new
  drains_quiet old mid new before after = record {
    pairs = quiet_pairs old mid new before after;
    world = worlds_of old new (Some (outcome.Drained false)) (quiet_pairs old mid new before after);
    seen = drain_ends (net_steps m) old mid new before.seen after.seen;
    clock = after.clock ∙ before.clock;
    left = omega (arith, before.left, after.left);
    count = after.count ∙ before.count;
  }

  -- a full journal or want of memory stopped it
  stopped_pairs : (old new : NetSeen) (o : Option Outcome) → (o ≡ Some (outcome.Drained false) → ⊥) → Drives m old new (λ W s w v. DrainsTo s w o v) → KeepsPair m old new (λ id a b. PairDrains m id o a b)
  stopped_pairs old new o other d id w shows coherent =
      let one = d.pairs id w shows coherent in
      (one.0, one.1, one.2, (one.3, λ is. absurd (other is)))

  pub drains_stopped : (old new : NetSeen) (o : Option Outcome) → (o ≡ Some (outcome.Drained false) → ⊥) → Drives m old new (λ W s w v. DrainsTo s w o v) → Drains m old o new
  drains_stopped old new o other d = record {
    pairs = stopped_pairs old new o other d;
    world = worlds_of old new o (stopped_pairs old new o other d);
    seen = d.seen;
    clock = d.clock;
    left = d.left;
    count = d.count;
  }
