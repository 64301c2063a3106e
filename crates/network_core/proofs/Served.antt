-- What a step at one node makes of the world.
use Rattle.std.proofs.Common.{◌≡◌, ◌⊎◌, inl, inr, ℕ, zero, suc, ◌+◌, true, false, List, [], ◌∷◌, Option, Some, None, Result, Ok, Err, IsOk, refl, sym, ◌∙◌, ap, subst, arith}
use Rattle.std.proofs.lemmas.Option.{MatchOption-at_none, MatchOption-at_some, none-some}
use Rattle.outside.specs.Disk.{IsImage, DiskSeen}
use Rattle.net_base.specs.declared.names.Identity.{Identity}
use Rattle.net_base.specs.declared.names.Key.{Key}
use Rattle.net_base.specs.declared.values.Party.{Party}
use Rattle.net_base.specs.declared.causes.Event.{Event}
use Rattle.net_base.specs.declared.causes.Event.TheVariants as event
use Rattle.session_wire.specs.Sessions.{Sent}
use Rattle.session_table.specs.Tables.{raised}
use Rattle.session_frames.specs.declared.judged.Judged.{Judged}
use Rattle.session_frames.specs.declared.judged.Judged.TheVariants as judged
use Rattle.session_frames.specs.declared.sending.Outgoing.{Outgoing}
use Rattle.session_frames.specs.Items.{GoesFurther}
use Rattle.session_frames.specs.Judging.{IsJudged}
use Rattle.flow_machine.specs.declared.flow_set.MakeFault.TheVariants as make
use Rattle.disk_journal.specs.Journal.{journal_of}
use Rattle.net_model.specs.Environment.{Environment, environment, identity, party, Meaning}
use Rattle.net_model.specs.Steps.{place}
use Rattle.node_core.specs.declared.faults.StartFault.{StartFault}
use Rattle.node_core.specs.declared.faults.StartFault.TheVariants as start_fault
use Rattle.node_core.specs.declared.faults.TurnFault.{TurnFault}
use Rattle.node_core.specs.declared.faults.TurnFault.TheVariants as turn_fault
use Rattle.node_core.specs.declared.faults.Turned.{Turned}
use Rattle.node_core.specs.declared.faults.Turned.TheVariants as turned
use Rattle.node_core.specs.declared.faults.CutFault.{CutFault}
use Rattle.node_core.specs.declared.faults.CutFault.TheVariants as cut_fault
use Rattle.node_core.specs.declared.faults.Taken.{Taken}
use Rattle.node_core.specs.declared.faults.Taken.TheVariants as taken
use Rattle.node_core.specs.declared.faults.TakeFault.{TakeFault}
use Rattle.node_core.specs.declared.faults.TakeFault.TheVariants as take_fault
use Rattle.node_tables.specs.Journals.{state_of}
use Rattle.node_core.specs.Journals.{is_full}
use Rattle.node_core.specs.Disks.{OneOf}
use Rattle.node_core.specs.Seen.{NodeSeen, StartsAs, StartAnswers, TurnsAs, TurnAnswers, CutsAs, CutAnswers, flow_count, picked_at}
use Rattle.node_core.specs.Takes.{AcceptsAs, Responds, TakesAs, accepting, ack_to}
use Rattle.network_core.specs.declared.refusal.Refusal.TheVariants as refusal
use Rattle.network_core.specs.declared.steps.Outcome.{Outcome}
use Rattle.network_core.specs.declared.steps.Outcome.TheVariants as outcome
use Rattle.network_core.specs.Worlds.{NodeWorld, NodeShows}
use Rattle.network_core.specs.Answers.{start_outcome, turn_outcome, cut_outcome, take_outcome, take_sent, IsCounted}
use Rattle.network_core.specs.WorldSteps.{WorldStarts, WorldTurns, WorldCuts, WorldCommits, WorldFaults, WorldTakes, Hears, HearsNext, RefusesStart, RefusesTurn}
use Rattle.network_core.proofs.Stands.{Goes, commits_world, faults_world, shows_down, shows_same, images_now, young_now}

module _ {F : Type 0} (m : Meaning F) (id : Identity) (p now : ℕ) (n k : NodeSeen) (x : NodeWorld) (shows : NodeShows (environment m id) p n x) where
  abbrev e : Environment F
  e = environment m id

  stays : (goal : NodeWorld → Type 0) → k ≡ n → goal x → Goes e p x k goal
  stays goal same holds = (x, subst (λ (z : NodeSeen). NodeShows e p z x) (sym same) shows, refl, holds)

  -- what is true of the node's own environment is true of the network's
  at_home : (P : Environment F → ℕ → Type 0) → P (environment m n.identity) n.identity.party.0 → P e p
  at_home P h = subst (λ (i : Identity). P (environment m i) i.party.0) shows.identity_is h

  was_down : n.journal ≡ None → x.up ≡ false
  was_down here = rw here at shows.journal

  start_up : (class : ℕ) (args : List ℕ) (bodies : List (List ℕ)) → n.journal ≡ Some bodies → (x.up ≡ true) × (x.journal ≡ bodies) × (x.other ≡ None) → (answer : Result ℕ StartFault) → StartsAs (environment m n.identity) now class args bodies n answer k
      → Goes e p x k (λ y. WorldStarts e p now class args x (start_outcome answer) y)
  start_up class args bodies here stands (Ok g) s =
      let to = commits_world m id p now n k x shows bodies here _ _ s.1 in
      (to.0, to.1, to.2, (rw stands.1 s.0, to.3))
  start_up class args bodies here stands (Err start_fault.NodeDown) s = absurd s
  start_up class args bodies here stands (Err start_fault.UnknownClass) s =
      stays (λ y. RefusesStart e p now class args x refusal.UnknownClass × (y ≡ x)) s.1 (inr (stands.0, inl (refl, rw stands.1 (at_home (λ a q. a.machine.made class args (place a q (flow_count a bodies) 0 now) ≡ Err make.UnknownClass) s.0))), refl)
  start_up class args bodies here stands (Err start_fault.BadArgs) s =
      stays (λ y. RefusesStart e p now class args x refusal.BadArgs × (y ≡ x)) s.1 (inr (stands.0, inr (inl (refl, rw stands.1 (at_home (λ a q. a.machine.made class args (place a q (flow_count a bodies) 0 now) ≡ Err make.BadArgs) s.0)))), refl)
  start_up class args bodies here stands (Err start_fault.Full) s =
      stays (λ y. RefusesStart e p now class args x refusal.Full × (y ≡ x)) s.2 (inr (stands.0, inr (inr (refl, rw stands.1 (at_home (λ a q. IsOk (a.machine.made class args (place a q (flow_count a bodies) 0 now))) s.0), rw stands.1 s.1))), refl)
  start_up class args bodies here stands (Err start_fault.Memory) s = stays (λ y. (x.up ≡ true) × (y ≡ x)) s (stands.0, refl)
  start_up class args bodies here stands (Err start_fault.Fault) s =
      let to = faults_world m id p now n k x shows bodies here _ _ s in
      (to.0, to.1, to.2, subst (λ (b : List (List ℕ)). WorldFaults e p now (event.Start (flow_count e b) class args) None x to.0) (sym stands.1) to.3)

  pub start_any : (class : ℕ) (args : List ℕ) (journal : Option (List (List ℕ))) (answer : Result ℕ StartFault) → n.journal ≡ journal → StartAnswers (environment m n.identity) now class args n answer k → Goes e p x k (λ y. WorldStarts e p now class args x (start_outcome answer) y)
  start_any class args None answer here s =
      let q : (answer ≡ Err start_fault.NodeDown) × (k ≡ n) = MatchOption-at_none _ _ here s in
      rw q.0 (stays (λ y. RefusesStart e p now class args x refusal.NodeDown × (y ≡ x)) q.1 (inl (refl, was_down here), refl))
  start_any class args (Some bodies) answer here s = start_up class args bodies here (rw here at shows.journal) answer (MatchOption-at_some _ _ bodies here s)

  turn_up : (pick : Option ℕ) (bodies : List (List ℕ)) → n.journal ≡ Some bodies → (x.up ≡ true) × (x.journal ≡ bodies) × (x.other ≡ None) → (answer : Result Turned TurnFault) → TurnsAs (environment m n.identity) now pick bodies n answer k → Goes e p x k (λ y. WorldTurns e p now pick x (turn_outcome answer) y)
  turn_up pick bodies here stands (Ok turned.Idle) s = stays (λ y. (x.up ≡ true) × (picked_at e now pick x.journal ≡ None) × (y ≡ x)) s.1 (stands.0, rw stands.1 s.0, refl)
  turn_up pick bodies here stands (Ok (turned.Moved g)) s =
      let to = commits_world m id p now n k x shows bodies here _ _ s.3 in
      (to.0, to.1, to.2, (s.0, rw stands.1 s.1, s.2, to.3))
  turn_up pick bodies here stands (Err turn_fault.NodeDown) s = absurd s
  turn_up pick bodies here stands (Err turn_fault.Full) s = stays (λ y. RefusesTurn e now pick x refusal.Full × (y ≡ x)) s.3 (inr (refl, stands.0, rw stands.1 s.2, s.0, rw stands.1 s.1), refl)
  turn_up pick bodies here stands (Err turn_fault.Memory) s =
      stays (λ y. (x.up ≡ true) × (is_full e.frame_at 0 x.journal ≡ false) × ((event : Event) × (picked_at e now pick x.journal ≡ Some event)) × (y ≡ x)) s.3 (stands.0, rw stands.1 s.2, (s.0, rw stands.1 s.1), refl)
  turn_up pick bodies here stands (Err turn_fault.Fault) s =
      let to = faults_world m id p now n k x shows bodies here _ _ s.2 in
      (to.0, to.1, to.2, (s.0, rw stands.1 s.1, to.3))

  pub turn_any : (pick : Option ℕ) (journal : Option (List (List ℕ))) (answer : Result Turned TurnFault) → n.journal ≡ journal → TurnAnswers (environment m n.identity) now pick n answer k → Goes e p x k (λ y. WorldTurns e p now pick x (turn_outcome answer) y)
  turn_any pick None answer here s =
      let q : (answer ≡ Err turn_fault.NodeDown) × (k ≡ n) = MatchOption-at_none _ _ here s in
      rw q.0 (stays (λ y. RefusesTurn e now pick x refusal.NodeDown × (y ≡ x)) q.1 (inl (refl, was_down here), refl))
  turn_any pick (Some bodies) answer here s = turn_up pick bodies here (rw here at shows.journal) answer (MatchOption-at_some _ _ bodies here s)

  -- where the images spell one journal
  one_list : x.other ≡ None → (l : List (List ℕ)) → (l ≡ x.journal) ⊎ (x.other ≡ Some l) → l ≡ x.journal
  one_list none l (inl is) = is
  one_list none l (inr is) = absurd (none-some _ (sym none ∙ is))

  cut_up : (calls kind : ℕ) (bodies : List (List ℕ)) → n.journal ≡ Some bodies → (x.up ≡ true) × (x.journal ≡ bodies) × (x.other ≡ None) → (answer : Result (Unit {0}) CutFault) → CutsAs calls kind bodies n answer k → Goes e p x k (λ y. WorldCuts calls x (cut_outcome calls answer) y)
  cut_up zero kind bodies here stands (Ok u) s =
      let c = s.3 in
      let tells : k.disk.tells ≡ true = c.moves.tells ∙ shows.tells in
      let one = λ (b : List ℕ) (image : IsImage n.disk.state.now b). one_list stands.2 (journal_of b) (shows.images b image) in (
        record x { up = false; calm = k.disk.calm; acked = [] },
        record {
          identity_is = s.2 ∙ shows.identity_is;
          tells = tells;
          images = λ b image. inl (one b (images_now n.disk k.disk OneOf c.moves shows.tells b image));
          kept = one k.disk.state.kept (c.moves.kept shows.tells);
          journal = shows_down k.journal _ s.0 refl;
          counts = shows.counts ∙ sym c.faults;
          calm_is = refl;
          file_is = shows.file_is ∙ sym c.moves.file;
          acked_is = sym s.1;
          opens = λ on. young_now n.identity k.identity n.disk k.disk s.2 c.form shows.tells (shows.opens on);
        },
        refl,
        (refl, stands.0, shows.file_is ∙ c.memory, refl),
      )
  cut_up (suc calls) kind bodies here stands (Ok u) s =
      let c = s.3 in
      let same : k.disk ≡ record n.disk { fuse = Some (suc calls, kind); calm = k.disk.calm } = c.armed (omega arith) in (
        record x { calm = k.disk.calm },
        record {
          identity_is = s.2 ∙ shows.identity_is;
          tells = c.moves.tells ∙ shows.tells;
          images = λ b image. shows.images b (subst (λ (v : DiskSeen). IsImage v.state.now b) same image);
          kept = ap (λ v. journal_of v.state.kept) same ∙ shows.kept;
          journal = shows_same n.journal k.journal x _ shows.journal (here ∙ sym s.0) refl refl refl;
          counts = shows.counts ∙ sym c.faults;
          calm_is = refl;
          file_is = shows.file_is ∙ sym c.moves.file;
          acked_is = shows.acked_is ∙ sym s.1;
          opens = λ on. young_now n.identity k.identity n.disk k.disk s.2 c.form shows.tells (shows.opens on);
        },
        refl,
        (omega arith, stands.0, shows.file_is ∙ c.memory, refl),
      )
  cut_up calls kind bodies here stands (Err cut_fault.NodeDown) s = absurd s
  cut_up calls kind bodies here stands (Err cut_fault.NoFuse) s = stays (λ y. WorldCuts calls x (Some (outcome.Refused refusal.NoFuse)) y) s.1 (inr (refl, stands.0, shows.file_is ∙ s.0), refl)

  pub cut_any : (calls kind : ℕ) (journal : Option (List (List ℕ))) (answer : Result (Unit {0}) CutFault) → n.journal ≡ journal → CutAnswers calls kind n answer k → Goes e p x k (λ y. WorldCuts calls x (cut_outcome calls answer) y)
  cut_any calls kind None answer here s =
      let q : (answer ≡ Err cut_fault.NodeDown) × (k ≡ n) = MatchOption-at_none _ _ here s in
      rw q.0 (stays (λ y. WorldCuts calls x (Some (outcome.Refused refusal.NodeDown)) y) q.1 (inl (refl, was_down here), refl))
  cut_any calls kind (Some bodies) answer here s = cut_up calls kind bodies here (rw here at shows.journal) answer (MatchOption-at_some _ _ bodies here s)

  -- ---- frames

  module _ (bytes : List ℕ) (bodies : List (List ℕ)) (here : n.journal ≡ Some bodies) (stands : (x.up ≡ true) × (x.journal ≡ bodies) × (x.other ≡ None)) where
    -- what a node heard, and its outcome
    abbrev Heard : Judged → Result Taken TakeFault → NodeWorld → Type 0
    Heard said answer y = (o : Outcome) × (take_outcome answer ≡ Some o) × Hears e p now said x o y (take_sent answer)

    -- an item that comes next
    accepts : (from : Party) (key : Key) (direction number : ℕ) (item : Sent) (answer : Result Taken TakeFault) → IsCounted answer → AcceptsAs (environment m n.identity) now bodies from key direction number item n answer k
        → Goes e p x k (λ y. (o : Outcome) × (take_outcome answer ≡ Some o) × HearsNext e p now from key direction number item x o y (take_sent answer))
    accepts from key direction number item (Ok (taken.Took upto ack)) counted s =
        let to = commits_world m id p now n k x shows bodies here _ _ s.2 in
        let sent : ack ∷ [] ≡ ack_to (party p) from key direction (number + 1) ∷ [] = ap (λ a. a ∷ []) (s.1 ∙ ap (λ (i : Identity). ack_to i.party from key direction (number + 1)) shows.identity_is) in
        (to.0, to.1, to.2, (outcome.Took upto, refl, (s.0, subst (λ (b : List (List ℕ)). WorldCommits e p now (accepting (state_of m.frame_at b).sessions key direction number) (Some item) x to.0) (sym stands.1) to.3, sent, counted)))
    accepts from key direction number item (Ok taken.Acked) counted s = absurd s
    accepts from key direction number item (Ok (taken.Again expected ack)) counted s = absurd s
    accepts from key direction number item (Ok (taken.Early expected)) counted s = absurd s
    accepts from key direction number item (Ok taken.NoSession) counted s = absurd s
    accepts from key direction number item (Err take_fault.NodeDown) counted s = absurd s
    accepts from key direction number item (Err take_fault.Garbled) counted s = absurd s
    accepts from key direction number item (Err (take_fault.NotMine to)) counted s = absurd s
    accepts from key direction number item (Err take_fault.Full) counted s =
        stays (λ y. (o : Outcome) × (Some (outcome.Refused refusal.Full) ≡ Some o) × HearsNext e p now from key direction number item x o y []) s.1 (outcome.Refused refusal.Full, refl, (refl, rw stands.1 s.0, refl, refl))
    accepts from key direction number item (Err take_fault.Memory) counted s = absurd s
    accepts from key direction number item (Err take_fault.Fault) counted s =
        let to = faults_world m id p now n k x shows bodies here _ _ s in
        (to.0, to.1, to.2, (outcome.Fault, refl, (subst (λ (b : List (List ℕ)). WorldFaults e p now (accepting (state_of m.frame_at b).sessions key direction number) (Some item) x to.0) (sym stands.1) to.3, refl)))

    -- an acknowledgement
    notes : (key : Key) (direction upto : ℕ) → k ≡ record n { acked = raised n.identity.party key direction upto (state_of m.frame_at bodies).sessions n.acked }
        → Goes e p x k (λ y. y ≡ record x { acked = raised (party p) key direction upto (state_of e.frame_at x.journal).sessions x.acked })
    notes key direction upto same =
        let z : NodeSeen = record n { acked = raised n.identity.party key direction upto (state_of m.frame_at bodies).sessions n.acked } in
        let y : NodeWorld = record x { acked = raised (party p) key direction upto (state_of e.frame_at x.journal).sessions x.acked } in
        let one : y.acked ≡ raised (party p) key direction upto (state_of m.frame_at bodies).sessions x.acked = ap (λ b. raised (party p) key direction upto (state_of m.frame_at b).sessions x.acked) stands.1 in
        let two : raised (party p) key direction upto (state_of m.frame_at bodies).sessions x.acked ≡ raised (party p) key direction upto (state_of m.frame_at bodies).sessions n.acked = ap (λ a. raised (party p) key direction upto (state_of m.frame_at bodies).sessions a) shows.acked_is in
        let three : raised (party p) key direction upto (state_of m.frame_at bodies).sessions n.acked ≡ z.acked = ap (λ (i : Identity). raised i.party key direction upto (state_of m.frame_at bodies).sessions n.acked) (sym shows.identity_is) in
        let shown : NodeShows e p z y = record {
          identity_is = shows.identity_is;
          tells = shows.tells;
          images = shows.images;
          kept = shows.kept;
          journal = shows_same n.journal n.journal x y shows.journal refl refl refl refl;
          counts = shows.counts;
          calm_is = shows.calm_is;
          file_is = shows.file_is;
          acked_is = one ∙ two ∙ three;
          opens = shows.opens;
        } in
        (y, subst (λ (q : NodeSeen). NodeShows e p q y) (sym same) shown, refl, refl)

    -- a node that stays, and answers so
    still : (said : Judged) (answer : Result Taken TakeFault) (a : Taken) (o : Outcome) → take_outcome (Ok a) ≡ Some o → answer ≡ Ok a → k ≡ n → Hears e p now said x o x (take_sent (Ok a)) → Goes e p x k (λ y. Heard said answer y)
    still said answer a o computes is same hears = stays (λ y. Heard said answer y) same (o, ap take_outcome is ∙ computes, subst (λ (l : Result Taken TakeFault). Hears e p now said x o x (take_sent l)) (sym is) hears)

    responds : (said : Judged) (answer : Result Taken TakeFault) → IsCounted answer → (said ≡ judged.Garbled → ⊥) × ((to : Party) → said ≡ judged.NotMine to → ⊥) → Responds (environment m n.identity) now bodies said n answer k → Goes e p x k (λ y. Heard said answer y)
    responds judged.Garbled answer counted never s = absurd (never.0 refl)
    responds (judged.NotMine to) answer counted never s = absurd (never.1 to refl)
    responds judged.NoSession answer counted never s = still judged.NoSession answer taken.NoSession outcome.NoSession refl s.0 s.1 (refl, refl, refl)
    responds (judged.Early expected) answer counted never s = still (judged.Early expected) answer (taken.Early expected) (outcome.Early expected) refl s.0 s.1 (refl, refl, refl)
    responds (judged.Acked key direction upto) answer counted never s =
        let to = notes key direction upto s.1 in
        (to.0, to.1, to.2, (outcome.Acked, ap take_outcome s.0, (refl, to.3, ap take_sent s.0)))
    responds (judged.Again from key direction expected) answer counted never s =
        still (judged.Again from key direction expected) answer _ (outcome.Again expected) refl s.0 s.1 (refl, refl, ap (λ (i : Identity). ack_to i.party from key direction expected ∷ []) shows.identity_is, subst IsCounted s.0 counted)
    responds (judged.Next from key direction number stamp body) answer counted never s = accepts from key direction number (record { body = body; stamp = stamp }) answer counted s

    takes_of : (said : Judged) (r : Option Outcome) (o : Outcome) (y : NodeWorld) → r ≡ Some o → IsJudged (identity e p) (state_of e.frame_at x.journal).sessions bytes said → GoesFurther (identity e p) (state_of e.frame_at x.journal).sessions said
        → (sent : List Outgoing) → Hears e p now said x o y sent → WorldTakes e p now bytes x r y sent
    takes_of said r o y is judged further sent hears = rw is (said, judged, further, hears)

    pub takes : (answer : Result Taken TakeFault) → IsCounted answer → ((said : Judged) → IsJudged (identity e p) (state_of e.frame_at x.journal).sessions bytes said → (said ≡ judged.Garbled → ⊥) × ((to : Party) → said ≡ judged.NotMine to → ⊥))
        → TakesAs (environment m n.identity) now bytes bodies n answer k → Goes e p x k (λ y. WorldTakes e p now bytes x (take_outcome answer) y (take_sent answer))
    takes answer counted never (inl (is, same)) = rw is (stays (λ y. (y ≡ x) × (take_sent (Err take_fault.Memory) ≡ [])) same (refl, refl))
    takes answer counted never (inr (said, judges, further, s)) =
        let here : IsJudged (identity e p) (state_of e.frame_at x.journal).sessions bytes said = rw stands.1 (subst (λ (i : Identity). IsJudged i (state_of m.frame_at bodies).sessions bytes said) shows.identity_is judges) in
        let on : GoesFurther (identity e p) (state_of e.frame_at x.journal).sessions said = rw stands.1 (subst (λ (i : Identity). GoesFurther i (state_of m.frame_at bodies).sessions said) shows.identity_is further) in
        let to = responds said answer counted (never said here) s in
        (to.0, to.1, to.2, takes_of said (take_outcome answer) to.3.0 to.0 to.3.1 here on (take_sent answer) to.3.2)
