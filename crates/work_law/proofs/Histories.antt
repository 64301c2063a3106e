-- What a node went through is a trail of its world.
use Rattle.std.proofs.Common.{arith, ◌≡◌, ℕ, ◌+◌, List, [], ◌∷◌, ◌++◌, None, true, length, sym, subst, append-nil}
use Rattle.net_base.specs.declared.names.Identity.{Identity}
use Rattle.session_frames.specs.declared.sending.Outgoing.{Outgoing}
use Rattle.net_model.specs.Environment.{Environment, Meaning, environment}
use Rattle.node_tables.specs.Journals.{state_of}
use Rattle.node_core.specs.Seen.{NodeSeen}
use Rattle.work_law.specs.Calls.{Went, here, by_turn, by_settle, by_take, by_send, turn_commits, settle_commits, take_commits}
use Rattle.network_core.specs.Answers.{take_sent}
use Rattle.network_core.specs.Worlds.{NodeWorld, MaySpell, NodeShows, Sound}
use Rattle.work_law.proofs.Trails
use Rattle.work_law.proofs.Steps

module _ {F : Type 0} (m : Meaning F) (id : Identity) (p now : ℕ) where
  abbrev e : Environment F
  e = environment m id

  module _ (x : NodeWorld) (from : NodeSeen) (shows : NodeShows e p from x) (sounds : (l : List (List ℕ)) → MaySpell x l → Sound e p now l) (one : x.up ≡ true → x.other ≡ None) (numbers : x.up ≡ true → length x.acked ≡ length (state_of e.frame_at x.journal).sessions) where
    abbrev pub Came : NodeSeen → List (List ℕ) → List Outgoing → ℕ → Type 0
    Came n took sent count = (y : NodeWorld) × NodeShows e p n y × Trails.Trail e p now x y took sent count

    same_took : (y : NodeWorld) (took : List (List ℕ)) (sent : List Outgoing) (count : ℕ) → Trails.Trail e p now x y (took ++ []) sent count → Trails.Trail e p now x y took sent count
    same_took y took sent count t = subst (λ (l : List (List ℕ)). Trails.Trail e p now x y l sent count) (append-nil took) t

    same_sent : (y : NodeWorld) (took : List (List ℕ)) (sent : List Outgoing) (count : ℕ) → Trails.Trail e p now x y took (sent ++ []) count → Trails.Trail e p now x y took sent count
    same_sent y took sent count t = subst (λ (l : List Outgoing). Trails.Trail e p now x y took l count) (append-nil sent) t

    same_count : (y : NodeWorld) (took : List (List ℕ)) (sent : List Outgoing) (count : ℕ) → Trails.Trail e p now x y took sent (count + 0) → Trails.Trail e p now x y took sent count
    same_count y took sent count t = let same : count + 0 ≡ count = omega arith in subst (λ (n : ℕ). Trails.Trail e p now x y took sent n) same t

    -- a call that takes and sends no frame
    silent : (n k : NodeSeen) (took : List (List ℕ)) (sent : List Outgoing) (count more : ℕ) → (b : Came n took sent count) → ((z : NodeWorld) × NodeShows e p k z × Trails.Goes e p now b.0 z [] [] more) → Came k took sent (count + more)
    silent n k took sent count more b s = (s.0, s.1, same_took s.0 took sent (count + more) (same_sent s.0 (took ++ []) sent (count + more) (Trails.trail_then e p now x sounds b.0 s.0 took [] sent [] count more b.2 s.2)))

    pub trail_of : {n : NodeSeen} {took : List (List ℕ)} {sent : List Outgoing} {count : ℕ} → Went m now from n took sent count → Came n took sent count
    trail_of (here is) = (x, subst (λ (z : NodeSeen). NodeShows e p z x) (sym is) shows, Trails.trail_here e p now x sounds one numbers)
    trail_of (by_turn {n = n} {k = k} {took = took} {sent = sent} {count = count} claims answer went turns) =
        let b = trail_of went in
        silent n k took sent count (turn_commits answer) b (Steps.turn_steps m id p now n k b.0 b.1 b.2.one claims answer turns)
    trail_of (by_settle {n = n} {k = k} {took = took} {sent = sent} {count = count} job answer went settles) =
        let b = trail_of went in
        silent n k took sent count (settle_commits answer) b (Steps.settle_steps m id p now n k b.0 b.1 b.2.one job answer settles)
    trail_of (by_take {n = n} {k = k} {took = took} {sent = sent} {count = count} bytes answer went takes) =
        let b = trail_of went in
        let s = Steps.take_steps m id p now n k b.0 b.1 b.2.one bytes answer takes in
        (s.0, s.1, Trails.trail_then e p now x sounds b.0 s.0 took (bytes ∷ []) sent (take_sent answer) count (take_commits answer) b.2 s.2)
    trail_of (by_send {n = n} {took = took} {sent = sent} {count = count} frames went sends) =
        let b = trail_of went in
        let s = Steps.send_steps m id p now n n b.0 b.1 b.2.one frames sends in
        (s.0, s.1, same_count s.0 took (sent ++ frames) count (same_took s.0 took (sent ++ frames) (count + 0) (Trails.trail_then e p now x sounds b.0 s.0 took [] sent frames count 0 b.2 s.2)))
