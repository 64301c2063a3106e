-- Each call of a node is a step of its trail.
use Rattle.std.proofs.Common.{◌≡◌, inl, inr, ℕ, suc, ◌+◌, ◌<◌, ◌≤◌, ◌^◌, List, [], ◌∷◌, ◌++◌, Option, Some, None, Result, Ok, Err, true, map, nat_le, slice_get, refl, sym, ap, subst, ◌∙◌, arith, eq-eqb}
use Rattle.std.specs.List.{AllByRecursion}
use Rattle.std.proofs.lemmas.Bool.{true≢false}
use Rattle.std.proofs.lemmas.Option.{MatchOption-at_none, MatchOption-at_some, none-some}
use Rattle.net_base.specs.declared.names.Identity.{Identity}
use Rattle.net_base.specs.declared.names.Key.{Key}
use Rattle.net_base.specs.declared.values.Party.{Party}
use Rattle.net_base.specs.declared.causes.Event.{Event}
use Rattle.net_base.proofs.Lists.{all_append, all_kept, all_weaken}
use Rattle.session_wire.specs.declared.body.Body.{Body}
use Rattle.session_wire.specs.Frames.{IsFrame}
use Rattle.session_wire.specs.declared.frame.Frame.TheVariants.{Ack}
use Rattle.session_wire.specs.Sessions.{Session, Sent, session_of}
use Rattle.session_table.specs.declared.resent.Item.{Item}
use Rattle.session_table.specs.Tables.{item_of, items_from, unacked_in, unacked, raised}
use Rattle.session_frames.specs.declared.judged.Judged.{Judged}
use Rattle.session_frames.specs.declared.judged.Judged.TheVariants as judged
use Rattle.session_frames.specs.declared.sending.Outgoing.{Outgoing}
use Rattle.session_frames.specs.Items.{GoesFurther}
use Rattle.session_frames.specs.Judging.{IsJudged, JudgesFrame, arrived}
use Rattle.session_frames.specs.Sending.{message_of, outgoing, AreMessages}
use Rattle.session_frames.proofs.Messages.{all_items}
use Rattle.net_model.specs.Environment.{Environment, Meaning, environment, identity, party}
use Rattle.net_model.specs.Runs.{accepts, item_from}
use Rattle.node_tables.specs.Journals.{state_of}
use Rattle.node_tables.proofs.Acked.{raised_length}
use Rattle.ledger_acts.specs.declared.job.Job.{Job}
use Rattle.node_core.specs.declared.faults.SharedTurn.{SharedTurn}
use Rattle.node_core.specs.declared.faults.SharedTurn.TheVariants as shared
use Rattle.node_core.specs.declared.faults.SettleFault.{SettleFault}
use Rattle.node_core.specs.declared.faults.SettleFault.TheVariants as settle_fault
use Rattle.node_core.specs.declared.faults.TurnFault.{TurnFault}
use Rattle.node_core.specs.declared.faults.TurnFault.TheVariants as turn_fault
use Rattle.node_core.specs.declared.faults.Taken.{Taken}
use Rattle.node_core.specs.declared.faults.Taken.TheVariants as taken
use Rattle.node_core.specs.declared.faults.TakeFault.{TakeFault}
use Rattle.node_core.specs.declared.faults.TakeFault.TheVariants as take_fault
use Rattle.node_core.specs.declared.faults.UnackedFault.TheVariants as unacked_fault
use Rattle.node_core.specs.Claims.{SettlesAs, SettleAnswers, TurnsBeside, TurnAnswersBeside}
use Rattle.node_core.specs.Seen.{NodeSeen, Commits, Faults}
use Rattle.node_core.specs.Takes.{AcceptsAs, Responds, TakesAs, TakeAnswers, SendsAs, SendAnswers, accepting, ack_to, unacked_at}
use Rattle.network_core.specs.Answers.{IsCounted, take_sent}
use Rattle.work_law.specs.Calls.{Turns, Settles, Takes, Sends, turn_commits, settle_commits, take_commits}
use Rattle.work_law.specs.Works.{Stays, fell}
use Rattle.network_core.specs.WorldSteps.{WorldCommits, WorldFaults}
use Rattle.network_core.specs.Worlds.{NodeWorld, MaySpell, ShowsJournal, NodeShows, Sound}
use Rattle.network_core.proofs.AgreeingSaid.{Says, says}
use Rattle.network_core.proofs.AgreeingKeys.{sound_keys, found_by_key}
use Rattle.network_core.proofs.AgreeingLists.{all_map}
use Rattle.network_core.proofs.Stands.{commits_world, faults_world, shows_same}
use Rattle.work_law.proofs.Trails

-- ---- where items that aren't acknowledged come from

pub record Origin (me : Party) (ss : List Session) (item : Item) : Type 0 where
  pub place : ℕ
  pub session : Session
  pub number : ℕ
  pub sent : Sent
  pub at : slice_get ss place ≡ Some session
  pub there : slice_get session.sent number ≡ Some sent
  pub is : item ≡ item_of me session number sent

later : (me : Party) (s : Session) (ss : List Session) (item : Item) → Origin me ss item → Origin me (s ∷ ss) item
later me s ss item o = record { place = suc o.place; session = o.session; number = o.number; sent = o.sent; at = o.at; there = o.there; is = o.is }

origins : (me : Party) (ss : List Session) (acked : List ℕ) → AllByRecursion (Origin me ss) (unacked me ss acked)
origins me [] acked = tt
origins me (s ∷ ss) [] = tt
origins me (s ∷ ss) (n ∷ ns) =
    let P : Item → Type 0 = Origin me (s ∷ ss) in
    all_append P (unacked_in me (s, n)) (unacked me ss ns)
    (all_kept P (λ item. nat_le n item.number) (items_from me s 0 s.sent) (all_items P me s 0 s.sent (λ k x there.
    let at : 0 + k ≡ k = omega arith in
    record { place = 0; session = s; number = k; sent = x; at = refl; there = there; is = ap (λ (j : ℕ). item_of me s j x) at })))
    (all_weaken (Origin me ss) P (unacked me ss ns) (later me s ss) (origins me ss ns))

all_both : {X : Type 0} (P Q R : X → Type 0) (xs : List X) → ((x : X) → P x → Q x → R x) → AllByRecursion P xs → AllByRecursion Q xs → AllByRecursion R xs
all_both P Q R [] f h k = tt
all_both P Q R (x ∷ xs) f h k = (f x h.0 k.0, all_both P Q R xs f h.1 k.1)

-- ---- one call

module _ {F : Type 0} (m : Meaning F) (id : Identity) (p now : ℕ) where
  abbrev e : Environment F
  e = environment m id

  -- the node is k now, in a world that went on so
  abbrev Stepped : NodeWorld → NodeSeen → List (List ℕ) → List Outgoing → ℕ → Type 0
  Stepped y k took sent count = (z : NodeWorld) × NodeShows e p k z × Trails.Goes e p now y z took sent count

  module _ (n k : NodeSeen) (y : NodeWorld) (shows : NodeShows e p n y) (one : y.up ≡ true → y.other ≡ None) where
    stays : (took : List (List ℕ)) → k ≡ n → Stepped y k took [] 0
    stays took same = (y, subst (λ (z : NodeSeen). NodeShows e p z y) (sym same) shows, Trails.goes_same e p now y took one)

    no_item : (ev : Event) (i : Sent) → None ≡ Some i → accepts ev ≡ true
    no_item ev i is = absurd (none-some _ is)

    -- the count of a disk that failed has not fallen
    fault_later : (z : NodeWorld) → NodeShows e p k z → n.disk.faults ≤ k.disk.faults → y.faults ≤ z.faults
    fault_later z shown later = omega (arith, later, shows.counts, shown.counts)

    module _ (bodies : List (List ℕ)) (here : n.journal ≡ Some bodies) (ev : Event) where
      -- an event that accepts nothing was committed
      plain : Commits (environment m n.identity) now bodies ev None n k → Stepped y k [] [] 1
      plain c =
          let to = commits_world m id p now n k y shows bodies here ev None c in
          (to.0, to.1, Trails.goes_commit e p now y to.0 [] [] ev None to.3 to.2 (no_item ev) (Trails.none_sender e p now y [] ev to.3.body to.3.pends) tt)

      -- the disk failed at one
      plain_fault : Faults (environment m n.identity) now bodies ev None n k → Stepped y k [] [] 0
      plain_fault c =
          let to = faults_world m id p now n k y shows bodies here ev None c in
          (to.0, to.1, Trails.goes_fault e p now y to.0 [] ev None to.3 (fault_later to.0 to.1 c.failing.moves.later) (no_item ev) (Trails.none_sender e p now y [] ev to.3.body to.3.pends))

    turn_up : (claims : List ℕ) (bodies : List (List ℕ)) → n.journal ≡ Some bodies → (answer : Result SharedTurn TurnFault) → TurnsBeside (environment m n.identity) now None claims bodies n answer k → Stepped y k [] [] (turn_commits answer)
    turn_up claims bodies here (Ok shared.Idle) s = stays [] s.1
    turn_up claims bodies here (Ok (shared.Moved g)) s = plain bodies here s.0 s.3
    turn_up claims bodies here (Ok (shared.Job job)) s = stays [] s.2
    turn_up claims bodies here (Err turn_fault.NodeDown) s = absurd s
    turn_up claims bodies here (Err turn_fault.Full) s = stays [] s.3
    turn_up claims bodies here (Err turn_fault.Memory) s = stays [] s.4
    turn_up claims bodies here (Err turn_fault.Fault) s = plain_fault bodies here s.0 s.2

    turn_any : (claims : List ℕ) (journal : Option (List (List ℕ))) (answer : Result SharedTurn TurnFault) → n.journal ≡ journal → TurnAnswersBeside (environment m n.identity) now None claims n answer k → Stepped y k [] [] (turn_commits answer)
    turn_any claims None answer here s = let q : (answer ≡ Err turn_fault.NodeDown) × (k ≡ n) = MatchOption-at_none _ _ here s in rw q.0 (stays [] q.1)
    turn_any claims (Some bodies) answer here s = turn_up claims bodies here answer (MatchOption-at_some _ _ bodies here s)

    pub turn_steps : (claims : List ℕ) (answer : Result SharedTurn TurnFault) → Turns m now claims n answer k → Stepped y k [] [] (turn_commits answer)
    unfolding Turns
    turn_steps claims answer s = turn_any claims n.journal answer refl s

    -- ---- jobs that come back

    settle_up : (job : Job) (bodies : List (List ℕ)) → n.journal ≡ Some bodies → (answer : Result ℕ SettleFault) → SettlesAs (environment m n.identity) now job bodies n answer k → Stepped y k [] [] (settle_commits answer)
    settle_up job bodies here (Ok g) s = plain bodies here _ s.2
    settle_up job bodies here (Err settle_fault.NodeDown) s = absurd s
    settle_up job bodies here (Err (settle_fault.Stale have given)) s = stays [] s.1
    settle_up job bodies here (Err (settle_fault.Foreign g)) s = stays [] s.1
    settle_up job bodies here (Err settle_fault.Full) s = stays [] s.2
    settle_up job bodies here (Err settle_fault.Memory) s = stays [] s.2
    settle_up job bodies here (Err settle_fault.Fault) s = plain_fault bodies here _ s.1

    settle_any : (job : Job) (journal : Option (List (List ℕ))) (answer : Result ℕ SettleFault) → n.journal ≡ journal → SettleAnswers (environment m n.identity) now job n answer k → Stepped y k [] [] (settle_commits answer)
    settle_any job None answer here s = let q : (answer ≡ Err settle_fault.NodeDown) × (k ≡ n) = MatchOption-at_none _ _ here s in rw q.0 (stays [] q.1)
    settle_any job (Some bodies) answer here s = settle_up job bodies here answer (MatchOption-at_some _ _ bodies here s)

    pub settle_steps : (job : Job) (answer : Result ℕ SettleFault) → Settles m now job n answer k → Stepped y k [] [] (settle_commits answer)
    unfolding Settles
    settle_steps job answer s = settle_any job n.journal answer refl s

    -- ---- frames

    module _ (bytes : List ℕ) (bodies : List (List ℕ)) (here : n.journal ≡ Some bodies) where
      up_now : ShowsJournal (Some bodies) y
      up_now = rw here at shows.journal

      abbrev ss : List Session
      ss = (state_of e.frame_at y.journal).sessions

      next_steps : (from : Party) (key : Key) (direction number stamp : ℕ) (body : Body) → IsJudged (identity e p) ss bytes (judged.Next from key direction number stamp body) → GoesFurther (identity e p) ss (judged.Next from key direction number stamp body)
          → (answer : Result Taken TakeFault) → IsCounted answer → AcceptsAs (environment m n.identity) now bodies from key direction number (record { body = body; stamp = stamp }) n answer k → Stepped y k (bytes ∷ []) (take_sent answer) (take_commits answer)
      next_steps from key direction number stamp body judges further (Ok (taken.Took upto ack)) counted s =
          let item : Sent = record { body = body; stamp = stamp } in
          let to = commits_world m id p now n k y shows bodies here _ _ s.2 in
          let c = subst (λ (b : List (List ℕ)). WorldCommits e p now (accepting (state_of m.frame_at b).sessions key direction number) (Some item) y to.0) (sym up_now.1) to.3 in
          let ack_is : ack ≡ ack_to (party p) from key direction (number + 1) = s.1 ∙ ap (λ (i : Identity). ack_to i.party from key direction (number + 1)) shows.identity_is in
          let small : number + 1 < 2 ^ 32 = subst (λ (j : ℕ). j < 2 ^ 32) s.0 counted in
          let came = Trails.now_arrived e p now y.journal bytes from key direction number stamp body judges further c.body c.pends in
          let told = Trails.ack_told e p now y.journal bytes (state_of e.frame_at (y.journal ++ c.body ∷ [])) from key direction (number + 1) (further.answered small) came in (
            to.0,
            to.1,
            Trails.goes_commit e p now y to.0 (bytes ∷ []) (ack ∷ []) _ (Some item) c to.2 (Trails.frame_fits e p now y.journal bytes from key direction number stamp body judges further) (Trails.frame_sender e p now y.journal bytes from key direction number stamp body judges further)
                (subst (λ (o : Outgoing). Trails.Told e p now (state_of e.frame_at (y.journal ++ c.body ∷ [])) o) (sym ack_is) told, tt),
          )
      next_steps from key direction number stamp body judges further (Ok taken.Acked) counted s = absurd s
      next_steps from key direction number stamp body judges further (Ok (taken.Again expected ack)) counted s = absurd s
      next_steps from key direction number stamp body judges further (Ok (taken.Early expected)) counted s = absurd s
      next_steps from key direction number stamp body judges further (Ok taken.NoSession) counted s = absurd s
      next_steps from key direction number stamp body judges further (Err take_fault.NodeDown) counted s = absurd s
      next_steps from key direction number stamp body judges further (Err take_fault.Garbled) counted s = absurd s
      next_steps from key direction number stamp body judges further (Err (take_fault.NotMine to)) counted s = absurd s
      next_steps from key direction number stamp body judges further (Err take_fault.Full) counted s = stays (bytes ∷ []) s.1
      next_steps from key direction number stamp body judges further (Err take_fault.Memory) counted s = absurd s
      next_steps from key direction number stamp body judges further (Err take_fault.Fault) counted s =
          let item : Sent = record { body = body; stamp = stamp } in
          let to = faults_world m id p now n k y shows bodies here _ _ s in
          let c = subst (λ (b : List (List ℕ)). WorldFaults e p now (accepting (state_of m.frame_at b).sessions key direction number) (Some item) y to.0) (sym up_now.1) to.3 in
          (to.0, to.1, Trails.goes_fault e p now y to.0 (bytes ∷ []) _ (Some item) c (fault_later to.0 to.1 s.failing.moves.later) (Trails.frame_fits e p now y.journal bytes from key direction number stamp body judges further) (Trails.frame_sender e p now y.journal bytes from key direction number stamp body judges further))

      notes : (key : Key) (direction upto : ℕ) → IsJudged (identity e p) ss bytes (judged.Acked key direction upto) → k ≡ record n { acked = raised n.identity.party key direction upto (state_of m.frame_at bodies).sessions n.acked } → Stepped y k (bytes ∷ []) [] 0
      notes key direction upto judges same =
          let z : NodeSeen = record n { acked = raised n.identity.party key direction upto (state_of m.frame_at bodies).sessions n.acked } in
          let x : NodeWorld = record y { acked = raised (party p) key direction upto (state_of e.frame_at y.journal).sessions y.acked } in
          let first : x.acked ≡ raised (party p) key direction upto (state_of m.frame_at bodies).sessions y.acked = ap (λ b. raised (party p) key direction upto (state_of m.frame_at b).sessions y.acked) up_now.1 in
          let two : raised (party p) key direction upto (state_of m.frame_at bodies).sessions y.acked ≡ raised (party p) key direction upto (state_of m.frame_at bodies).sessions n.acked = ap (λ a. raised (party p) key direction upto (state_of m.frame_at bodies).sessions a) shows.acked_is in
          let three : raised (party p) key direction upto (state_of m.frame_at bodies).sessions n.acked ≡ z.acked = ap (λ (i : Identity). raised i.party key direction upto (state_of m.frame_at bodies).sessions n.acked) (sym shows.identity_is) in
          let shown : NodeShows e p z x = record {
            identity_is = shows.identity_is;
            tells = shows.tells;
            images = shows.images;
            kept = shows.kept;
            journal = shows_same n.journal n.journal y x shows.journal refl refl refl refl;
            counts = shows.counts;
            calm_is = shows.calm_is;
            file_is = shows.file_is;
            acked_is = first ∙ two ∙ three;
            opens = shows.opens;
          } in
          let noted_stays : (x : NodeWorld) → Stays y (record y { acked = x.acked }) = λ x. record {
            down = λ down. absurd (true≢false (sym up_now.0 ∙ down));
            rose = λ up down. absurd (true≢false (sym up ∙ down));
            later = omega arith;
            calm = λ calm. (calm, refl);
            file = refl;
            openable = λ on. on;
          } in
          let goes : Trails.Goes e p now y x (bytes ∷ []) [] 0 = record {
            one = one;
            waits = refl;
            stays = noted_stays x;
            lists = λ l may. (l, may, Trails.grown_same e p now (bytes ∷ []) (fell y.up y.up) l);
            told = λ sounds l may. tt;
            numbers = λ known up. raised_length (party p) key direction upto ss y.acked (known up);
            acks = λ sounds counts up net t known. Trails.raised_arrived e p now y.journal bytes key direction upto y.acked (sounds y.journal (inl refl)) judges net (t bytes (inl refl)) (known up);
          } in
          (x, subst (λ (q : NodeSeen). NodeShows e p q x) (sym same) shown, goes)

      -- a frame that had come before is acknowledged again
      again : (from : Party) (key : Key) (direction expected : ℕ) → JudgesFrame (identity e p) ss bytes (judged.Again from key direction expected) → IsFrame (Ack (party p) from key direction expected) → k ≡ n → (ack : Outgoing) → ack ≡ ack_to n.identity.party from key direction expected
          → Stepped y k (bytes ∷ []) (ack ∷ []) 0
      again from key direction expected judges lawful same ack is =
          let said : expected ≡ arrived (session_of key ss) = subst (Says (identity e p) ss judges.0) (sym judges.3) (says (identity e p) ss judges.0) in
          let ack_is : ack ≡ ack_to (party p) from key direction expected = is ∙ ap (λ (i : Identity). ack_to i.party from key direction expected) shows.identity_is in
          let told = Trails.ack_told e p now y.journal bytes (state_of e.frame_at y.journal) from key direction expected lawful (omega (arith, said)) in
          let told_here : Trails.Told e p now (state_of e.frame_at y.journal) ack = subst (λ (o : Outgoing). Trails.Told e p now (state_of e.frame_at y.journal) o) (sym ack_is) told in (
            y,
            subst (λ (z : NodeSeen). NodeShows e p z y) (sym same) shows,
            Trails.goes_sent e p now y (bytes ∷ []) (ack ∷ []) one (λ l may sound. subst (λ (j : List (List ℕ)). AllByRecursion (Trails.Told e p now (state_of e.frame_at j)) (ack ∷ [])) (sym (its_own l may)) (told_here, tt)),
          )
        where
          its_own : (l : List (List ℕ)) → MaySpell y l → l ≡ y.journal
          its_own l (inl is) = is
          its_own l (inr is) = absurd (none-some _ (sym up_now.2 ∙ is))

      responds : (said : Judged) → IsJudged (identity e p) ss bytes said → GoesFurther (identity e p) ss said → (answer : Result Taken TakeFault) → IsCounted answer → Responds (environment m n.identity) now bodies said n answer k → Stepped y k (bytes ∷ []) (take_sent answer) (take_commits answer)
      responds judged.Garbled judges further answer counted s = rw s.0 (stays (bytes ∷ []) s.1)
      responds (judged.NotMine to) judges further answer counted s = rw s.0 (stays (bytes ∷ []) s.1)
      responds judged.NoSession judges further answer counted s = rw s.0 (stays (bytes ∷ []) s.1)
      responds (judged.Early expected) judges further answer counted s = rw s.0 (stays (bytes ∷ []) s.1)
      responds (judged.Acked key direction upto) judges further answer counted s = rw s.0 (notes key direction upto judges s.1)
      responds (judged.Again from key direction expected) judges further answer counted s = rw s.0 (again from key direction expected judges (further (subst IsCounted s.0 counted)) s.1 _ refl)
      responds (judged.Next from key direction number stamp body) judges further answer counted s = next_steps from key direction number stamp body judges further answer counted s

      takes_up : (answer : Result Taken TakeFault) → IsCounted answer → TakesAs (environment m n.identity) now bytes bodies n answer k → Stepped y k (bytes ∷ []) (take_sent answer) (take_commits answer)
      takes_up answer counted (inl (is, same)) = rw is (stays (bytes ∷ []) same)
      takes_up answer counted (inr (said, judges, further, s)) =
          let judges_here : IsJudged (identity e p) ss bytes said = rw up_now.1 (subst (λ (i : Identity). IsJudged i (state_of m.frame_at bodies).sessions bytes said) shows.identity_is judges) in
          let on : GoesFurther (identity e p) ss said = rw up_now.1 (subst (λ (i : Identity). GoesFurther i (state_of m.frame_at bodies).sessions said) shows.identity_is further) in
          responds said judges_here on answer counted s

    take_any : (bytes : List ℕ) (journal : Option (List (List ℕ))) (answer : Result Taken TakeFault) → n.journal ≡ journal → IsCounted answer → TakeAnswers (environment m n.identity) now bytes n answer k → Stepped y k (bytes ∷ []) (take_sent answer) (take_commits answer)
    take_any bytes None answer here counted s = let q : (answer ≡ Err take_fault.NodeDown) × (k ≡ n) = MatchOption-at_none _ _ here s in rw q.0 (stays (bytes ∷ []) q.1)
    take_any bytes (Some bodies) answer here counted s = takes_up bytes bodies here answer counted (MatchOption-at_some _ _ bodies here s)

    pub take_steps : (bytes : List ℕ) (answer : Result Taken TakeFault) → Takes m now bytes n answer k → Stepped y k (bytes ∷ []) (take_sent answer) (take_commits answer)
    unfolding Takes
    take_steps bytes answer s = take_any bytes n.journal answer refl s.1 s.0

    -- ---- frames that a node sends

    sends_up : (bodies : List (List ℕ)) → n.journal ≡ Some bodies → (frames : List Outgoing) → SendsAs m.frame_at bodies n (Ok frames) → Stepped y n [] frames 0
    unfolding item_from
    sends_up bodies here frames s = (y, shows, Trails.goes_sent e p now y [] frames one (λ l may sound. rw (its_own l may) (all (rw (its_own l may) at sound))))
      where
        shown : ShowsJournal (Some bodies) y
        shown = rw here at shows.journal

        its_own : (l : List (List ℕ)) → MaySpell y l → l ≡ bodies
        its_own l (inl is) = is ∙ shown.1
        its_own l (inr is) = absurd (none-some _ (sym shown.2 ∙ is))

        me : n.identity.party ≡ party p
        me = ap (λ (i : Identity). i.party) shows.identity_is

        item_told : (sound : Sound e p now bodies) (item : Item) → Origin (party p) (state_of m.frame_at bodies).sessions item → IsFrame (message_of (party p) item) → Trails.Told e p now (state_of m.frame_at bodies) (outgoing (party p) item)
        item_told sound item o lawful net is =
            let keyed = found_by_key (state_of m.frame_at bodies).sessions o.place o.session (sound_keys e p now bodies sound) o.at in
            record {
              carried = message_of (party p) item;
              lawful = lawful;
              whole = refl;
              to = refl;
              true_is = subst (λ (k : Item). item_from net k.peer.0 p k.key k.number ≡ Some (record { body = k.body; stamp = k.stamp })) (sym o.is) (rw (is, keyed, eq-eqb o.session.peer.0 o.session.peer.0 refl) o.there);
            }

        all : Sound e p now bodies → AllByRecursion (Trails.Told e p now (state_of m.frame_at bodies)) frames
        all sound =
            let items = unacked (party p) (state_of m.frame_at bodies).sessions n.acked in
            let messages : AreMessages (party p) items = subst (λ (q : Party). AreMessages q (unacked q (state_of m.frame_at bodies).sessions n.acked)) me s.1 in
            let told = all_both (Origin (party p) (state_of m.frame_at bodies).sessions) (λ item. IsFrame (message_of (party p) item)) (λ item. Trails.Told e p now (state_of m.frame_at bodies) (outgoing (party p) item)) items (item_told sound) (origins (party p) (state_of m.frame_at bodies).sessions n.acked) messages in
            let mapped = all_map (Trails.Told e p now (state_of m.frame_at bodies)) (outgoing (party p)) items told in
            let frames_are : frames ≡ map (outgoing (party p)) items = s.0 ∙ ap (λ (q : Party). unacked_at m.frame_at q bodies n.acked) me in
            subst (AllByRecursion (Trails.Told e p now (state_of m.frame_at bodies))) (sym frames_are) mapped

    send_any : (journal : Option (List (List ℕ))) (frames : List Outgoing) → n.journal ≡ journal → SendAnswers m.frame_at n (Ok frames) → Stepped y n [] frames 0
    send_any None frames here s = let no : Ok frames ≡ Err unacked_fault.NodeDown = MatchOption-at_none _ _ here s in absurd cc
    send_any (Some bodies) frames here s = sends_up bodies here frames (MatchOption-at_some _ _ bodies here s)

    pub send_steps : (frames : List Outgoing) → Sends m.frame_at n (Ok frames) → Stepped y n [] frames 0
    unfolding Sends
    send_steps frames s = send_any n.journal frames refl s
