use Rattle.net_model.specs.Environment.{judge_without_contracts, meaning}
use Rattle.std.proofs.Common.{Some, None, Ok, ⊎_elim, sym, ◌∙◌, Option, subst, arith}
use Rattle.std.specs.contracts.alloc.AllocError.{the_row}
use Rattle.network_core.specs.declared.net.Turning.{Turning}
use Rattle.network_core.specs.declared.refusal.Refusal.TheVariants as refusal
use Rattle.network_core.specs.declared.steps.Outcome.{Outcome}
use Rattle.network_core.specs.declared.steps.Outcome.TheVariants as outcome
use Rattle.network_core.specs.Rounds.{DeliversAt, HandsStop, InOrder, Posts, Round, RoundStops, Turns, TurnsAt, TurnsStop}
use Rattle.network_core.proofs.Draining.{joined_moved, turns_err, turns_full, turns_short, round_made, round_short_post, round_short_hand, round_stops_turns}
use Rattle.network_core.proofs.Driving.{drives_map, drives_then}
use Rattle.network_core.proofs.Turning.{PostedSo, posted_so, posts_err, posts_ok, turns_is}
use Rattle.network_core.proofs.net.Net.round.Goals as goal

-- want of memory at a turn
pub returns-in_err-turns-clause-drives : goal.returns-in_err-turns-clause-drives
returns-in_err-turns-clause-drives g c =
    drives_map (meaning g.F.FlowSet.machine g.F.Spelt.reading (g.J.Judge.judges c.args.contracts.now)) _ _ (λ W s w v. Turns c.turns.result (InOrder (TurnsAt s) (s.count w)) (TurnsStop s) w v) (λ W s w v. Turns c.from_residual.result (Round s) (RoundStops s) w v)
    (λ W s laws w v h. turns_short (Round s) (RoundStops s) w v c.from_residual.result c.from_residual.ensures.0 (round_stops_turns s None w v (turns_err (InOrder (TurnsAt s) (s.count w)) (TurnsStop s) w v c.turns.result _ c.in_err-turns.was h)))
    c.turns.ensures.drives

-- a turn met a full journal
pub returns-then-is_full-clause-drives : goal.returns-then-is_full-clause-drives
returns-then-is_full-clause-drives g c =
    let full : Option Outcome = Some (outcome.Refused refusal.Full) in
    drives_map (meaning g.F.FlowSet.machine g.F.Spelt.reading (g.J.Judge.judges c.args.contracts.now)) _ _ (λ W s w v. Turns c.turns.result (InOrder (TurnsAt s) (s.count w)) (TurnsStop s) w v) (λ W s w v. RoundStops s full w v)
    (λ W s laws w v h. round_stops_turns s full w v (turns_full (InOrder (TurnsAt s) (s.count w)) (TurnsStop s) w v c.turns.result _ c.in_ok-turns.was (c.is_full.ensures.full c.if-is_full.true) h))
    c.turns.ensures.drives

-- want of memory at a post
pub returns-in_err-posts-clause-drives : goal.returns-in_err-posts-clause-drives
returns-in_err-posts-clause-drives g c =
    drives_then (meaning g.F.FlowSet.machine g.F.Spelt.reading (g.J.Judge.judges c.args.contracts.now)) _ _ _ (λ W s w v. Turns c.turns.result (InOrder (TurnsAt s) (s.count w)) (TurnsStop s) w v) (λ W s w v. Posts s w c.posts.result v) (λ W s w v. Turns c.from_residual-in_err-posts.result (Round s) (RoundStops s) w v)
    (λ W s laws w u v a b. turns_short (Round s) (RoundStops s) w v c.from_residual-in_err-posts.result c.from_residual-in_err-posts.ensures.0
    (round_short_post s laws the_row.Denot c.in_ok-turns.turns w u v (c.is_full.ensures.other c.if-is_full.false) (turns_is (InOrder (TurnsAt s) (s.count w)) (TurnsStop s) w u c.turns.result c.in_ok-turns.turns c.in_ok-turns.was a) (posts_err s u v c.posts.result _ c.in_err-posts.was b)))
    c.turns.ensures.drives (c.posts.ensures (g.J.Judge.judges c.args.contracts.now))

-- want of memory at a delivery
pub returns-in_err-deliveries-clause-drives : goal.returns-in_err-deliveries-clause-drives
returns-in_err-deliveries-clause-drives g c =
    drives_then (meaning g.F.FlowSet.machine g.F.Spelt.reading (g.J.Judge.judges c.args.contracts.now)) _ _ _ (λ W s w v. PostedSo s the_row.Denot c.in_ok-turns.turns w v) (λ W s w v. Turns c.deliveries.result (InOrder (DeliversAt s) (s.count w)) (HandsStop s) w v) (λ W s w v. Turns c.from_residual-in_err-deliveries.result (Round s) (RoundStops s) w v)
    (λ W s laws w t v a b. turns_short (Round s) (RoundStops s) w v c.from_residual-in_err-deliveries.result c.from_residual-in_err-deliveries.ensures.0
    (round_short_hand s laws the_row.Denot c.in_ok-turns.turns w a.0 t v (c.is_full.ensures.other c.if-is_full.false) a.1 a.2 (turns_err (InOrder (DeliversAt s) (s.count t)) (HandsStop s) t v c.deliveries.result _ c.in_err-deliveries.was b)))
    (drives_then (meaning g.F.FlowSet.machine g.F.Spelt.reading (g.J.Judge.judges c.args.contracts.now)) _ _ _ (λ W s w v. Turns c.turns.result (InOrder (TurnsAt s) (s.count w)) (TurnsStop s) w v) (λ W s w v. Posts s w c.posts.result v) (λ W s w v. PostedSo s the_row.Denot c.in_ok-turns.turns w v)
    (λ W s laws w u v a b. posted_so s the_row.Denot c.in_ok-turns.turns w u v (turns_is (InOrder (TurnsAt s) (s.count w)) (TurnsStop s) w u c.turns.result c.in_ok-turns.turns c.in_ok-turns.was a) (posts_ok s u v c.posts.result _ c.in_ok-posts.was b))
    c.turns.ensures.drives (c.posts.ensures (g.J.Judge.judges c.args.contracts.now)))
    (c.deliveries.ensures.drives (g.J.Judge.judges c.args.contracts.now))

pub returns-clause-drives : goal.returns-clause-drives
returns-clause-drives g c =
    drives_then (meaning g.F.FlowSet.machine g.F.Spelt.reading (g.J.Judge.judges c.args.contracts.now)) _ _ _ (λ W s w v. PostedSo s the_row.Denot c.in_ok-turns.turns w v) (λ W s w v. Turns c.deliveries.result (InOrder (DeliversAt s) (s.count w)) (HandsStop s) w v) (λ W s w v. Turns {E = the_row.Denot} (Ok c.joined.result) (Round s) (RoundStops s) w v)
    (λ W s laws w t v a b.
    subst (λ (k : Turning). Turns {E = the_row.Denot} (Ok k) (Round s) (RoundStops s) w v) (sym c.joined.ensures)
    (round_made s laws the_row.Denot c.in_ok-turns.turns c.in_ok-deliveries.deliveries w a.0 t v (c.is_full.ensures.other c.if-is_full.false) a.1 a.2 (turns_is (InOrder (DeliversAt s) (s.count t)) (HandsStop s) t v c.deliveries.result c.in_ok-deliveries.deliveries c.in_ok-deliveries.was b)))
    (drives_then (meaning g.F.FlowSet.machine g.F.Spelt.reading (g.J.Judge.judges c.args.contracts.now)) _ _ _ (λ W s w v. Turns c.turns.result (InOrder (TurnsAt s) (s.count w)) (TurnsStop s) w v) (λ W s w v. Posts s w c.posts.result v) (λ W s w v. PostedSo s the_row.Denot c.in_ok-turns.turns w v)
    (λ W s laws w u v a b. posted_so s the_row.Denot c.in_ok-turns.turns w u v (turns_is (InOrder (TurnsAt s) (s.count w)) (TurnsStop s) w u c.turns.result c.in_ok-turns.turns c.in_ok-turns.was a) (posts_ok s u v c.posts.result _ c.in_ok-posts.was b))
    c.turns.ensures.drives (c.posts.ensures (g.J.Judge.judges c.args.contracts.now)))
    (c.deliveries.ensures.drives (g.J.Judge.judges c.args.contracts.now))

pub returns-clause-moved : goal.returns-clause-moved
returns-clause-moved g c is =
    let posts = (c.posts.ensures judge_without_contracts).left in
    let deliveries = (c.deliveries.ensures.drives judge_without_contracts).left in
    ⊎_elim
    (λ moved. omega (arith, c.in_ok-turns.ensures.moved moved, posts, deliveries))
    (λ moved. omega (arith, c.in_ok-deliveries.ensures.moved moved, posts, c.turns.ensures.drives.left))
    (joined_moved c.in_ok-turns.turns c.in_ok-deliveries.deliveries (sym c.joined.ensures ∙ is))
