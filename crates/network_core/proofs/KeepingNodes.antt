-- What a call of a node makes of its disk, at every moment.
use Rattle.std.proofs.Common.{◌≡◌, ◌⊎◌, inl, inr, ⊎_elim, ℕ, ◌≤◌, true, List, [], ◌∷◌, ◌++◌, length, Option, Some, None, Result, Ok, Err, refl, sym, ◌∙◌, ap, subst, arith}
use Rattle.std.specs.List.{slice_get}
use Rattle.std.proofs.lemmas.Option.{MatchOption-at_none, MatchOption-at_some, none-some}
use Rattle.outside.specs.Disk.{DiskState, DiskSeen, Durable, IsImage, EachImage, written_end}
use Rattle.outside.proofs.Moments.{started, weaker}
use Rattle.net_base.specs.declared.names.Identity.{Identity}
use Rattle.net_base.specs.declared.names.Key.{Key}
use Rattle.net_base.specs.declared.values.Party.{Party}
use Rattle.net_base.specs.declared.causes.Event.{Event}
use Rattle.net_base.specs.declared.causes.Event.TheVariants as event
use Rattle.session_wire.specs.Sessions.{Sent}
use Rattle.session_frames.specs.declared.judged.Judged.{Judged}
use Rattle.session_frames.specs.declared.judged.Judged.TheVariants as judged
use Rattle.session_frames.specs.Items.{GoesFurther}
use Rattle.session_frames.specs.Judging.{IsJudged}
use Rattle.disk_journal.specs.Journal.{IsSound, IsYoung, WasSpelt, journal_of}
use Rattle.net_model.specs.Environment.{Environment, environment, identity, Meaning}
use Rattle.net_model.specs.Runs.{accepts}
use Rattle.node_core.specs.declared.faults.StartFault.{StartFault}
use Rattle.node_core.specs.declared.faults.StartFault.TheVariants as start_fault
use Rattle.node_core.specs.declared.faults.TurnFault.{TurnFault}
use Rattle.node_core.specs.declared.faults.TurnFault.TheVariants as turn_fault
use Rattle.node_core.specs.declared.faults.Turned.{Turned}
use Rattle.node_core.specs.declared.faults.Turned.TheVariants as turned
use Rattle.node_core.specs.declared.faults.CutFault.{CutFault}
use Rattle.node_core.specs.declared.faults.CutFault.TheVariants as cut_fault
use Rattle.node_core.specs.declared.faults.BootFault.{BootFault}
use Rattle.node_core.specs.declared.faults.Taken.{Taken}
use Rattle.node_core.specs.declared.faults.Taken.TheVariants as taken
use Rattle.node_core.specs.declared.faults.TakeFault.{TakeFault}
use Rattle.node_core.specs.declared.faults.TakeFault.TheVariants as take_fault
use Rattle.node_tables.specs.Journals.{state_of}
use Rattle.node_core.specs.Disks.{Moves, KeepsForm, KeepsImages, OldOrMore, OneOf}
use Rattle.node_core.specs.Seen.{NodeSeen, Pends, Commits, Faults, StartsAs, StartAnswers, flow_count, TurnsAs, TurnAnswers, CutsAs, CutAnswers, BootsAs}
use Rattle.node_core.specs.Takes.{AcceptsAs, Responds, TakesAs, TakeAnswers, accepting}
use Rattle.network_core.specs.Worlds.{NodeWorld, World, ShowsJournal, NodeShows, Coherent}
use Rattle.network_core.specs.Answers.{Restored}
use Rattle.network_core.proofs.AgreeingPlace.{Adds}
use Rattle.network_core.proofs.AgreeingSteps.{IsSenders, none_senders}
use Rattle.network_core.proofs.AgreeingHeard.{senders, fits}
use Rattle.network_core.proofs.Stands.{pends_here}

-- ---- images

within : (n : ℕ) (ranges : List (ℕ × ℕ)) → n ≤ written_end n ranges
within n [] = omega arith
within n (r ∷ rs) = let rest = within n rs in omega (arith, rest)

-- what stood at the last sync is one of the images
pub synced_image : (s : Durable) → IsImage s s.synced
synced_image s = record { no_shorter = omega arith; no_longer = within (length s.synced) s.pending; elsewhere = λ i lt free. refl }

-- ---- a disk

module _ {F : Type 0} (e : Environment F) (w : World) (p : ℕ) (n : NodeSeen) where
  -- an image spells what an image of the disk spelt, or this with one record more that the node may commit
  abbrev pub Fine : List ℕ → Type 0
  Fine c = (b : List ℕ) × IsImage n.disk.state.now b × ((journal_of c ≡ journal_of b) ⊎ Adds e w p (journal_of b) (journal_of c))

  -- so at each moment since; sound images stayed sound, and those that no opening refuses stayed so
  pub record DiskGoes (k : NodeSeen) : Type 0 where
    pub identity_is : k.identity ≡ n.identity
    pub images : EachImage n.disk.state k.disk.state Fine
    pub sound : ((c : List ℕ) → IsImage n.disk.state.now c → IsSound n.identity c) → EachImage n.disk.state k.disk.state (IsSound n.identity)
    pub young : ((c : List ℕ) → IsImage n.disk.state.now c → IsYoung n.identity c) → EachImage n.disk.state k.disk.state (IsYoung n.identity)

  -- the disk rested
  pub rests : (k : NodeSeen) → k.identity ≡ n.identity → k.disk.state ≡ n.disk.state → DiskGoes k
  rests k id same = record {
    identity_is = id;
    images = subst (λ (z : DiskState). EachImage n.disk.state z Fine) (sym same) (started n.disk.state Fine (λ c image. (c, image, inl refl)));
    sound = λ all. subst (λ (z : DiskState). EachImage n.disk.state z (IsSound n.identity)) (sym same) (started n.disk.state (IsSound n.identity) all);
    young = λ all. subst (λ (z : DiskState). EachImage n.disk.state z (IsYoung n.identity)) (sym same) (started n.disk.state (IsYoung n.identity) all);
  }

  pub unchanged : (k : NodeSeen) → k ≡ n → DiskGoes k
  unchanged k same = rests k (ap (λ (z : NodeSeen). z.identity) same) (ap (λ (z : NodeSeen). z.disk.state) same)

  -- each image spells what one spelt
  pub spelt_before : (k : NodeSeen) (tells : n.disk.tells ≡ true) (may : DiskState → List ℕ → Type 0) → ((c : List ℕ) → may n.disk.state c → (b : List ℕ) × IsImage n.disk.state.now b × (journal_of c ≡ journal_of b)) → k.identity ≡ n.identity
      → Moves n.disk k.disk may → KeepsForm n.identity n.disk k.disk → DiskGoes k
  spelt_before k tells may was id moves form = record {
    identity_is = id;
    images = weaker n.disk.state k.disk.state (may n.disk.state) Fine (λ c h. let b = was c h in (b.0, b.1, inl b.2)) (moves.images tells);
    sound = λ all. form.sound tells all;
    young = λ all. form.young tells all;
  }

module _ {F : Type 0} (m : Meaning F) (id : Identity) (w : World) (p : ℕ) (n k : NodeSeen) (x : NodeWorld) (shows : NodeShows (environment m id) p n x) (coherent : Coherent (environment m id) w) (there : slice_get w.nodes p ≡ Some x) where
  abbrev e : Environment F
  e = environment m id

  abbrev Goes : Type 0
  Goes = DiskGoes e w p n k

  stays : k ≡ n → Goes
  stays same = unchanged e w p n k same

  module _ (bodies : List (List ℕ)) (here : n.journal ≡ Some bodies) where
    stands : ShowsJournal (Some bodies) x
    stands = rw here at shows.journal

    -- every image spells the journal
    spells : (b : List ℕ) → IsImage n.disk.state.now b → journal_of b ≡ x.journal
    spells b image = ⊎_elim (λ is. is) (λ is. absurd (none-some _ (sym stands.2 ∙ is))) (shows.images b image)

    -- one record was on its way
    moved : (ev : Event) (item : Option Sent) (body : List ℕ) → Pends (environment m n.identity) n.identity.party.0 w.now bodies ev item body → ((i : Sent) → item ≡ Some i → accepts ev ≡ true) → (Pends e p w.now x.journal ev item body → IsSenders e w p x x ev item)
        → k.identity ≡ n.identity → Moves n.disk k.disk (OldOrMore bodies body) → KeepsForm n.identity n.disk k.disk → Goes
    moved ev item body pends fit sends id_is moves form =
        let b = n.disk.state.now.synced in
        let image = synced_image n.disk.state.now in
        let was : journal_of b ≡ x.journal = spells b image in
        let mine : Pends e p w.now x.journal ev item body = subst (λ (l : List (List ℕ)). Pends e p w.now l ev item body) (sym stands.1) (pends_here m id p w.now n k x shows bodies ev item body pends) in
        let adds : (l : List (List ℕ)) → l ≡ bodies ++ body ∷ [] → Adds e w p (journal_of b) l = λ l is. subst (λ (o : List (List ℕ)). Adds e w p o l) (sym was) (record { event = ev; item = item; body = body; pends = mine; is = is ∙ ap (λ (o : List (List ℕ)). o ++ body ∷ []) (sym stands.1); fits = fit; sender = sends mine }) in
        record {
          identity_is = id_is;
          images = weaker n.disk.state k.disk.state (OldOrMore bodies body n.disk.state) (Fine e w p n)
              (λ c may. ⊎_elim (λ is. (b, image, inl (is ∙ sym stands.1 ∙ sym was))) (λ is. (b, image, inr (adds (journal_of c) is))) may)
              (moves.images shows.tells);
          sound = λ all. form.sound shows.tells all;
          young = λ all. form.young shows.tells all;
        }

    commits : (ev : Event) (item : Option Sent) → ((i : Sent) → item ≡ Some i → accepts ev ≡ true) → ((body : List ℕ) → Pends e p w.now x.journal ev item body → IsSenders e w p x x ev item) → Commits (environment m n.identity) w.now bodies ev item n k → Goes
    commits ev item fit sends c = moved ev item c.body c.appended.pends fit (sends c.body) c.identity c.appended.moves c.appended.form

    faults : (ev : Event) (item : Option Sent) → ((i : Sent) → item ≡ Some i → accepts ev ≡ true) → ((body : List ℕ) → Pends e p w.now x.journal ev item body → IsSenders e w p x x ev item) → Faults (environment m n.identity) w.now bodies ev item n k → Goes
    faults ev item fit sends c = moved ev item c.body c.failing.pends fit (sends c.body) c.identity c.failing.moves c.failing.form

    no_item : (ev : Event) (i : Sent) → None ≡ Some i → accepts ev ≡ true
    no_item ev i is = cc

    start_up : (class : ℕ) (args : List ℕ) (answer : Result ℕ StartFault) → StartsAs (environment m n.identity) w.now class args bodies n answer k → Goes
    start_up class args (Ok g) s = commits (event.Start g class args) None (no_item (event.Start g class args)) (λ body pends. none_senders e w p x x (event.Start g class args) body pends) s.1
    start_up class args (Err start_fault.NodeDown) s = absurd s
    start_up class args (Err start_fault.UnknownClass) s = stays s.1
    start_up class args (Err start_fault.BadArgs) s = stays s.1
    start_up class args (Err start_fault.Full) s = stays s.2
    start_up class args (Err start_fault.Memory) s = stays s
    start_up class args (Err start_fault.Fault) s =
        let ev = event.Start (flow_count (environment m n.identity) bodies) class args in
        faults ev None (no_item ev) (λ body pends. none_senders e w p x x ev body pends) s

    turn_up : (pick : Option ℕ) (answer : Result Turned TurnFault) → TurnsAs (environment m n.identity) w.now pick bodies n answer k → Goes
    turn_up pick (Ok turned.Idle) s = stays s.1
    turn_up pick (Ok (turned.Moved g)) s = commits s.0 None (no_item s.0) (λ body pends. none_senders e w p x x s.0 body pends) s.3
    turn_up pick (Err turn_fault.NodeDown) s = absurd s
    turn_up pick (Err turn_fault.Full) s = stays s.3
    turn_up pick (Err turn_fault.Memory) s = stays s.3
    turn_up pick (Err turn_fault.Fault) s = faults s.0 None (no_item s.0) (λ body pends. none_senders e w p x x s.0 body pends) s.2

    cut_up : {T : Type 0} (calls kind : ℕ) (answer : Result T CutFault) → CutsAs calls kind bodies n answer k → Goes
    cut_up calls kind (Ok u) s = spelt_before e w p n k shows.tells OneOf (λ c image. (c, image, refl)) s.2 s.3.moves s.3.form
    cut_up calls kind (Err cut_fault.NodeDown) s = absurd s
    cut_up calls kind (Err cut_fault.NoFuse) s = stays s.1

    -- ---- a frame

    module _ (i : ℕ) (bytes : List ℕ) (waits : slice_get x.waiting i ≡ Some bytes) where
      accepts_as : (from : Party) (key : Key) (direction number : ℕ) (item : Sent) → ((j : Sent) → Some item ≡ Some j → accepts (accepting (state_of m.frame_at bodies).sessions key direction number) ≡ true)
          → ((body : List ℕ) → Pends e p w.now x.journal (accepting (state_of m.frame_at bodies).sessions key direction number) (Some item) body → IsSenders e w p x x (accepting (state_of m.frame_at bodies).sessions key direction number) (Some item)) → (answer : Result Taken TakeFault) → AcceptsAs (environment m n.identity) w.now bodies from key direction number item n answer k → Goes
      accepts_as from key direction number item fit sends (Ok (taken.Took upto ack)) s = commits _ (Some item) fit sends s.2
      accepts_as from key direction number item fit sends (Ok taken.Acked) s = absurd s
      accepts_as from key direction number item fit sends (Ok (taken.Again expected ack)) s = absurd s
      accepts_as from key direction number item fit sends (Ok (taken.Early expected)) s = absurd s
      accepts_as from key direction number item fit sends (Ok taken.NoSession) s = absurd s
      accepts_as from key direction number item fit sends (Err take_fault.NodeDown) s = absurd s
      accepts_as from key direction number item fit sends (Err take_fault.Garbled) s = absurd s
      accepts_as from key direction number item fit sends (Err (take_fault.NotMine to)) s = absurd s
      accepts_as from key direction number item fit sends (Err take_fault.Full) s = stays s.1
      accepts_as from key direction number item fit sends (Err take_fault.Memory) s = absurd s
      accepts_as from key direction number item fit sends (Err take_fault.Fault) s = faults _ (Some item) fit sends s

      responds : (said : Judged) → IsJudged n.identity (state_of m.frame_at bodies).sessions bytes said → GoesFurther n.identity (state_of m.frame_at bodies).sessions said → (answer : Result Taken TakeFault) → Responds (environment m n.identity) w.now bodies said n answer k → Goes
      responds judged.Garbled judges further answer s = stays s.1
      responds (judged.NotMine to) judges further answer s = stays s.1
      responds judged.NoSession judges further answer s = stays s.1
      responds (judged.Early expected) judges further answer s = stays s.1
      responds (judged.Acked key direction upto) judges further answer s = rests e w p n k (ap (λ (z : NodeSeen). z.identity) s.1) (ap (λ (z : NodeSeen). z.disk.state) s.1)
      responds (judged.Again from key direction expected) judges further answer s = stays s.1
      responds (judged.Next from key direction number stamp body) judges further answer s =
          let item : Sent = record { body = body; stamp = stamp } in
          let next : Judged = judged.Next from key direction number stamp body in
          let to : (P : List (List ℕ) → Identity → Type 0) → P bodies n.identity → P x.journal (identity e p) = λ P h. subst (λ (l : List (List ℕ)). P l (identity e p)) (sym stands.1) (subst (λ (i : Identity). P bodies i) shows.identity_is h) in
          let said_x : IsJudged (identity e p) (state_of m.frame_at x.journal).sessions bytes next = to (λ l i. IsJudged i (state_of m.frame_at l).sessions bytes next) judges in
          let further_x : GoesFurther (identity e p) (state_of m.frame_at x.journal).sessions next = to (λ l i. GoesFurther i (state_of m.frame_at l).sessions next) further in
          accepts_as from key direction number item
          (subst (λ (l : List (List ℕ)). (j : Sent) → Some item ≡ Some j → accepts (accepting (state_of m.frame_at l).sessions key direction number) ≡ true) stands.1 (fits e w p x coherent there stands.0 i bytes waits from key direction number stamp body said_x further_x))
          (λ more pends. subst (λ (l : List (List ℕ)). IsSenders e w p x x (accepting (state_of m.frame_at l).sessions key direction number) (Some item)) stands.1 (senders e w p x coherent there stands.0 i bytes waits from key direction number stamp body said_x further_x x))
          answer s

      takes_as : (answer : Result Taken TakeFault) → TakesAs (environment m n.identity) w.now bytes bodies n answer k → Goes
      takes_as answer (inl (is, same)) = stays same
      takes_as answer (inr (said, judges, further, s)) = responds said judges further answer s

  -- ---- any node

  pub start_goes : (class : ℕ) (args : List ℕ) (journal : Option (List (List ℕ))) (answer : Result ℕ StartFault) → n.journal ≡ journal → StartAnswers (environment m n.identity) w.now class args n answer k → Goes
  start_goes class args None answer here s =
      let q : (answer ≡ Err start_fault.NodeDown) × (k ≡ n) = MatchOption-at_none _ _ here s in stays q.1
  start_goes class args (Some bodies) answer here s = start_up bodies here class args answer (MatchOption-at_some _ _ bodies here s)

  pub turn_goes : (pick : Option ℕ) (journal : Option (List (List ℕ))) (answer : Result Turned TurnFault) → n.journal ≡ journal → TurnAnswers (environment m n.identity) w.now pick n answer k → Goes
  turn_goes pick None answer here s =
      let q : (answer ≡ Err turn_fault.NodeDown) × (k ≡ n) = MatchOption-at_none _ _ here s in stays q.1
  turn_goes pick (Some bodies) answer here s = turn_up bodies here pick answer (MatchOption-at_some _ _ bodies here s)

  pub cut_goes : {T : Type 0} (calls kind : ℕ) (journal : Option (List (List ℕ))) (answer : Result T CutFault) → n.journal ≡ journal → CutAnswers calls kind n answer k → Goes
  cut_goes calls kind None answer here s =
      let q : (answer ≡ Err cut_fault.NodeDown) × (k ≡ n) = MatchOption-at_none _ _ here s in stays q.1
  cut_goes calls kind (Some bodies) answer here s = cut_up bodies here calls kind answer (MatchOption-at_some _ _ bodies here s)

  pub take_goes : (i : ℕ) (bytes : List ℕ) → slice_get x.waiting i ≡ Some bytes → (journal : Option (List (List ℕ))) (answer : Result Taken TakeFault) → n.journal ≡ journal → TakeAnswers (environment m n.identity) w.now bytes n answer k → Goes
  take_goes i bytes waits None answer here s =
      let q : (answer ≡ Err take_fault.NodeDown) × (k ≡ n) = MatchOption-at_none _ _ here s in stays q.1
  take_goes i bytes waits (Some bodies) answer here s = takes_as bodies here i bytes waits answer (MatchOption-at_some _ _ bodies here s)

  -- a boot, once the power is back: the state of the disk is as it was then
  booted : (mid : NodeSeen) → Restored n mid → k.identity ≡ mid.identity → Moves mid.disk k.disk WasSpelt → KeepsForm mid.identity mid.disk k.disk → Goes
  booted mid r id_is moves form =
      let same : mid.disk.state ≡ n.disk.state = ap (λ (v : DiskSeen). v.state) r.disk in
      let tells : mid.disk.tells ≡ true = ap (λ (v : DiskSeen). v.tells) r.disk ∙ shows.tells in
      let over : (P : Identity → List ℕ → Type 0) → KeepsImages (P mid.identity) mid.disk k.disk → ((c : List ℕ) → IsImage n.disk.state.now c → P n.identity c) → EachImage n.disk.state k.disk.state (P n.identity) =
      λ P keeps all. subst (λ (z : DiskState). EachImage z k.disk.state (P n.identity)) same (subst (λ (i : Identity). EachImage mid.disk.state k.disk.state (P i)) r.identity
      (keeps tells (subst (λ (i : Identity). (c : List ℕ) → IsImage mid.disk.state.now c → P i c) (sym r.identity) (subst (λ (z : DiskState). (c : List ℕ) → IsImage z.now c → P n.identity c) (sym same) all)))) in
      record {
        identity_is = id_is ∙ r.identity;
        images = subst (λ (z : DiskState). EachImage z k.disk.state (Fine e w p n)) same (weaker mid.disk.state k.disk.state (WasSpelt mid.disk.state) (Fine e w p n) (λ c h. (h.0, subst (λ (z : DiskState). IsImage z.now h.0) same h.1, inl h.2)) (moves.images tells));
        sound = over IsSound form.sound;
        young = over IsYoung form.young;
      }

  pub boot_goes : (mid : NodeSeen) {T : Type 0} (answer : Result T BootFault) → Restored n mid → BootsAs m.frame_at mid answer k → Goes
  boot_goes mid (Ok u) r s = booted mid r s.3 s.4.opens.moves s.4.opens.form
  boot_goes mid (Err why) r s = booted mid r s.2 s.3.moves s.3.form
