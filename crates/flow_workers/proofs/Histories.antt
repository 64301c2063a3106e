-- What a node did goes on by each of its calls.
use Rattle.std.proofs.Common.{◌≡◌, ⊎_elim, ℕ, ◌+◌, ◌≤◌, List, [], ◌∷◌, ◌++◌, map, slice_get, Some, Result, Ok, refl, sym, ap, subst, ◌∙◌, arith, append-nil}
use Rattle.std.specs.List.{AllByRecursion}
use Rattle.net_base.proofs.Lists.{get_beside, of_map, all_get}
use Rattle.wire_queue.specs.declared.rule.Seen.{Seen}
use Rattle.wire_queue.specs.declared.inbox.InboxPass.{InboxPass}
use Rattle.wire_queue.specs.Wire.{Frame, IsIn, fresh}
use Rattle.wire_queue.proofs.Wires.{in_append}
use Rattle.session_frames.specs.declared.sending.Outgoing.{Outgoing}
use Rattle.wire_rows.specs.Exchanges.{Exchanges}
use Rattle.wire_rows.proofs.Moved.{sent_left, sent_right, moves_then}
use Rattle.net_model.specs.Environment.{Meaning}
use Rattle.ledger_acts.specs.declared.job.Job.{Job}
use Rattle.node_core.specs.declared.faults.SharedTurn.{SharedTurn}
use Rattle.node_core.specs.declared.faults.TurnFault.{TurnFault}
use Rattle.node_core.specs.declared.faults.SettleFault.{SettleFault}
use Rattle.node_core.specs.declared.faults.Taken.{Taken}
use Rattle.node_core.specs.declared.faults.TakeFault.{TakeFault}
use Rattle.node_core.specs.Seen.{NodeSeen, IsBy}
use Rattle.network_core.specs.Answers.{take_sent}
use Rattle.work_law.specs.Calls.{Turns, Settles, Takes, Sends, Went, here, by_turn, by_settle, by_take, by_send, turn_commits, settle_commits, take_commits}
use Rattle.work_law.proofs.Lasting.{histories_last}
use Rattle.flow_workers.specs.Desks.{WorkedAt, Kept}

module _ {F : Type 0} (m : Meaning F) (now : ℕ) (came : List NodeSeen) (p : ℕ) where
  -- the passes went on: the frames that were pulled were taken, and those that were posted were sent
  went_on : (took : List Frame) (sent : List Outgoing) (node next : NodeSeen) (old new : List Seen) (commits after more : ℕ) → (w : WorkedAt m now came p node old commits) → Exchanges p took sent old new → after ≡ commits + more
      → Went m now w.from next (w.log.took ++ took) (w.log.sent ++ sent) (w.log.count + more) → WorkedAt m now came p next new after
  went_on took sent node next old new commits after more w moves is went = record {
    from = w.from;
    came_at = w.came_at;
    log = record { took = w.log.took ++ took; sent = w.log.sent ++ sent; count = w.log.count + more };
    went = went;
    counted = is ∙ ap (λ (n : ℕ). n + more) w.counted;
    pulled = λ s at x has.
        let was = get_beside new old p s moves.count at in
        ⊎_elim (λ first. moves.pulled p was.0 s was.1 at x (w.pulled was.0 was.1 x first)) (λ last. moves.taken s at x last) (in_append x w.log.took took has);
    posted = λ q s at x has.
        let was = get_beside new old q s moves.count at in
        ⊎_elim (λ first. sent_left q x w.log.sent sent (w.posted q was.0 was.1 x first)) (λ last. sent_right q x w.log.sent sent last) (moves.posted q was.0 s was.1 at x has);
    one_share = λ q s at. let was = get_beside new old q s moves.count at in moves.shares q was.0 s was.1 at ∙ w.one_share q was.0 was.1;
  }

  -- a call that takes and sends no frame
  silent : (node next : NodeSeen) (seen : List Seen) (commits after more : ℕ) → (w : WorkedAt m now came p node seen commits) → after ≡ commits + more → Went m now w.from next w.log.took w.log.sent (w.log.count + more) → WorkedAt m now came p next seen after
  silent node next seen commits after more w is went = record {
    from = w.from;
    came_at = w.came_at;
    log = record { took = w.log.took; sent = w.log.sent; count = w.log.count + more };
    went = went;
    counted = is ∙ ap (λ (n : ℕ). n + more) w.counted;
    pulled = w.pulled;
    posted = w.posted;
    one_share = w.one_share;
  }

  pub began : (node : NodeSeen) (passes : List InboxPass) → slice_get came p ≡ Some node → AllByRecursion (λ (q : InboxPass). q.seen ≡ fresh) passes → WorkedAt m now came p node (map (λ (q : InboxPass). q.seen) passes) 0
  began node passes at all = record {
    from = node;
    came_at = at;
    log = record { took = []; sent = []; count = 0 };
    went = here refl;
    counted = refl;
    pulled = λ s is x has. absurd has;
    posted = λ q s is x has. absurd (subst (λ (z : Seen). IsIn x z.origins) (blank q s is) has);
    one_share = λ q s is. ap (λ (z : Seen). z.shares) (blank q s is);
  }
    where
      blank : (q : ℕ) (s : Seen) → slice_get (map (λ (q : InboxPass). q.seen) passes) q ≡ Some s → s ≡ fresh
      blank q s is = let found = of_map (λ (q : InboxPass). q.seen) passes q s is in sym found.2 ∙ all_get (λ (q : InboxPass). q.seen ≡ fresh) passes q found.0 all found.1

  -- a node commits 65,536 records at most
  pub worked_few : (node : NodeSeen) (seen : List Seen) (commits : ℕ) → WorkedAt m now came p node seen commits → commits ≤ 65536
  worked_few node seen commits w =
      let last = histories_last m now w.from node w.log.took w.log.sent w.log.count w.went in
      omega (arith, w.counted, last.1)

  -- without a call of the node
  worked_moves : (node : NodeSeen) (old new : List Seen) (commits : ℕ) → WorkedAt m now came p node old commits → Exchanges p [] [] old new → WorkedAt m now came p node new commits
  worked_moves node old new commits w moves =
      went_on [] [] node node old new commits commits 0 w moves (omega arith)
      (subst (λ (a : List Frame). Went m now w.from node a (w.log.sent ++ []) (w.log.count + 0)) (sym (append-nil w.log.took))
      (subst (λ (b : List Outgoing). Went m now w.from node w.log.took b (w.log.count + 0)) (sym (append-nil w.log.sent))
      (same_count w.from node w.log.took w.log.sent w.log.count w.went)))
    where
      same_count : (from n : NodeSeen) (took : List Frame) (sent : List Outgoing) (count : ℕ) → Went m now from n took sent count → Went m now from n took sent (count + 0)
      same_count from n took sent count went = let is : count ≡ count + 0 = omega arith in subst (λ (c : ℕ). Went m now from n took sent c) is went

  worked_send : (node : NodeSeen) (frames : List Outgoing) (old new : List Seen) (commits : ℕ) → WorkedAt m now came p node old commits → Sends m.frame_at node (Ok frames) → Exchanges p [] frames old new → WorkedAt m now came p node new commits
  worked_send node frames old new commits w sends moves =
      let is : w.log.count ≡ w.log.count + 0 = omega arith in
      went_on [] frames node node old new commits commits 0 w moves (omega arith)
      (subst (λ (a : List Frame). Went m now w.from node a (w.log.sent ++ frames) (w.log.count + 0)) (sym (append-nil w.log.took))
      (subst (λ (c : ℕ). Went m now w.from node w.log.took (w.log.sent ++ frames) c) is (by_send frames w.went sends)))

  -- ---- the calls of a node under its lock

  pub turn_keeps : (t : ℕ) → t ≡ now → (node next : NodeSeen) (seen : List Seen) (commits after : ℕ) (claims : List ℕ) (answer : Result SharedTurn TurnFault) → Kept m now came p node seen commits → IsBy m.frame_at next.journal t → Turns m t claims node answer next
      → after ≡ commits + turn_commits answer → Kept m now came p next seen after
  turn_keeps t same node next seen commits after claims answer kept by turns is = (
    subst (λ (j : ℕ). IsBy m.frame_at next.journal j) same by,
    silent node next seen commits after (turn_commits answer) kept.1 is (by_turn claims answer kept.1.went (subst (λ (j : ℕ). Turns m j claims node answer next) same turns)),
  )

  pub settle_keeps : (t : ℕ) → t ≡ now → (node next : NodeSeen) (seen : List Seen) (commits after : ℕ) (job : Job) (answer : Result ℕ SettleFault) → Kept m now came p node seen commits → IsBy m.frame_at next.journal t → Settles m t job node answer next
      → after ≡ commits + settle_commits answer → Kept m now came p next seen after
  settle_keeps t same node next seen commits after job answer kept by settles is = (
    subst (λ (j : ℕ). IsBy m.frame_at next.journal j) same by,
    silent node next seen commits after (settle_commits answer) kept.1 is (by_settle job answer kept.1.went (subst (λ (j : ℕ). Settles m j job node answer next) same settles)),
  )

  pub send_keeps : (node : NodeSeen) (frames : List Outgoing) (old new : List Seen) (commits : ℕ) → Kept m now came p node old commits → Sends m.frame_at node (Ok frames) → ((at : ℕ) → Exchanges at [] frames old new) → Kept m now came p node new commits
  send_keeps node frames old new commits kept sends moves = (kept.0, worked_send node frames old new commits kept.1 sends (moves p))

  -- nothing was pulled, or it was lost
  pub moves_keep : (node : NodeSeen) (old new : List Seen) (commits : ℕ) → Kept m now came p node old commits → Exchanges p [] [] old new → Kept m now came p node new commits
  moves_keep node old new commits kept moves = (kept.0, worked_moves node old new commits kept.1 moves)

  -- a frame was pulled, and taken; it may have been posted again, and then the acknowledgement was posted
  pub take_keeps : (t : ℕ) → t ≡ now → (node next : NodeSeen) (bytes : Frame) (old mid then new : List Seen) (acks : List Outgoing) (commits after : ℕ) (answer : Result Taken TakeFault) → Kept m now came p node old commits → IsBy m.frame_at next.journal t
      → Takes m t bytes node answer next → Exchanges p (bytes ∷ []) [] old mid → Exchanges p [] [] mid then → ((at : ℕ) → Exchanges at [] acks then new) → acks ≡ take_sent answer → after ≡ commits + take_commits answer → Kept m now came p next new after
  take_keeps t same node next bytes old mid then new acks commits after answer kept by takes first again last acks_are is =
      let moves : Exchanges p (bytes ∷ []) acks old new = moves_then p (bytes ∷ []) [] [] acks old then new (moves_then p (bytes ∷ []) [] [] [] old mid then first again) (last p) in (
        subst (λ (j : ℕ). IsBy m.frame_at next.journal j) same by,
        went_on (bytes ∷ []) (take_sent answer) node next old new commits after (take_commits answer) kept.1 (subst (λ (l : List Outgoing). Exchanges p (bytes ∷ []) l old new) acks_are moves) is
            (by_take bytes answer kept.1.went (subst (λ (j : ℕ). Takes m j bytes node answer next) same takes)),
      )
