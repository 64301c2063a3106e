-- What a call of a node makes of what the world shows of it.
use Rattle.std.proofs.Common.{◌≡◌, ◌⊎◌, inl, inr, ℕ, true, false, List, [], ◌∷◌, ◌++◌, Option, Some, None, refl, sym, ◌∙◌, ap, subst}
use Rattle.std.proofs.lemmas.Option.{same_Some}
use Rattle.std.proofs.lemmas.Bool.{false_from_ne_true}
use Rattle.outside.specs.Disk.{DiskState, DiskSeen, IsImage}
use Rattle.outside.specs.Faults.{Rose}
use Rattle.outside.proofs.Moments.{at_now}
use Rattle.net_base.specs.declared.names.Identity.{Identity}
use Rattle.net_base.specs.declared.causes.Event.{Event}
use Rattle.session_wire.specs.Sessions.{Sent}
use Rattle.disk_journal.specs.Journal.{IsYoung, journal_of}
use Rattle.net_model.specs.Environment.{Environment, environment, Meaning}
use Rattle.node_core.specs.Disks.{Moves, KeepsForm, OldOrMore}
use Rattle.node_core.specs.Seen.{NodeSeen, Pends, Commits, Faults, acks_over}
use Rattle.network_core.specs.Worlds.{NodeWorld, MaySpell, ShowsJournal, NodeShows}
use Rattle.network_core.specs.WorldSteps.{WorldCommits, WorldFaults}

-- the node is now k, in a world in which the same frames wait there, and which is so
abbrev pub Goes : {F : Type 0} → Environment F → ℕ → NodeWorld → NodeSeen → (NodeWorld → Type 0) → Type 0
Goes e p x k goal = (y : NodeWorld) × NodeShows e p k y × (y.waiting ≡ x.waiting) × goal y

-- the images now are of those since
pub images_now : (old new : DiskSeen) (may : DiskState → List ℕ → Type 0) → Moves old new may → old.tells ≡ true → (c : List ℕ) → IsImage new.state.now c → may old.state c
images_now old new may moves tells c image = at_now old.state new.state (may old.state) (moves.images tells) c image

-- each image of a disk is one over which an opening of this node gives no refusal
abbrev pub AreYoung : Identity → DiskSeen → Type 0
AreYoung id d = (c : List ℕ) → IsImage d.state.now c → IsYoung id c

-- the images now, where those of before were so
pub young_now : (i j : Identity) (old new : DiskSeen) → j ≡ i → KeepsForm i old new → old.tells ≡ true → AreYoung i old → AreYoung j new
young_now i j old new same form tells was = subst (λ (k : Identity). AreYoung k new) (sym same) (λ c image. at_now old.state new.state (IsYoung i) (form.young tells was) c image)

pub shows_down : (journal : Option (List (List ℕ))) (y : NodeWorld) → journal ≡ None → y.up ≡ false → ShowsJournal journal y
shows_down None y none down = down
shows_down (Some b) y none down = cc

shows_like : (journal : Option (List (List ℕ))) (x y : NodeWorld) → ShowsJournal journal x → y.up ≡ x.up → y.journal ≡ x.journal → y.other ≡ x.other → ShowsJournal journal y
shows_like None x y shows up kept other = up ∙ shows
shows_like (Some b) x y shows up kept other = (up ∙ shows.0, kept ∙ shows.1, other ∙ shows.2)

pub shows_same : (journal after : Option (List (List ℕ))) (x y : NodeWorld) → ShowsJournal journal x → journal ≡ after → y.up ≡ x.up → y.journal ≡ x.journal → y.other ≡ x.other → ShowsJournal after y
shows_same journal after x y shows is up kept other = rw (← is) (shows_like journal x y shows up kept other)

module _ {F : Type 0} (m : Meaning F) (id : Identity) (p now : ℕ) (n k : NodeSeen) (x : NodeWorld) (shows : NodeShows (environment m id) p n x) where
  abbrev e : Environment F
  e = environment m id

  -- the node's own environment is the network's
  pub pends_here : (bodies : List (List ℕ)) (event : Event) (item : Option Sent) (body : List ℕ) → Pends (environment m n.identity) n.identity.party.0 now bodies event item body → Pends e p now bodies event item body
  pends_here bodies event item body pends = subst (λ (i : Identity). Pends (environment m i) i.party.0 now bodies event item body) shows.identity_is pends

  module _ (bodies : List (List ℕ)) (here : n.journal ≡ Some bodies) where
    pub stands : ShowsJournal (Some bodies) x
    stands = rw here at shows.journal

    module _ (event : Event) (item : Option Sent) where
      pub commits_world : Commits (environment m n.identity) now bodies event item n k → Goes e p x k (λ y. WorldCommits e p now event item x y)
      commits_world c =
          let more = bodies ++ c.body ∷ [] in
          let pends = pends_here bodies event item c.body c.appended.pends in
          let tells : k.disk.tells ≡ true = c.appended.moves.tells ∙ shows.tells in (
            record { up = true; journal = more; other = None; faults = k.disk.faults; calm = k.disk.calm; file = x.file; openable = true; acked = acks_over e x.acked more; waiting = x.waiting },
            record {
              identity_is = c.identity ∙ shows.identity_is;
              tells = tells;
              images = λ b image. inl (c.appended.holds.images tells b image);
              kept = c.appended.holds.kept tells;
              journal = rw c.journal (refl, refl, refl);
              counts = refl;
              calm_is = refl;
              file_is = shows.file_is ∙ sym c.appended.moves.file;
              acked_is = ap (λ a. acks_over e a more) shows.acked_is ∙ sym c.acked;
              opens = λ on. subst (λ (i : Identity). AreYoung i k.disk) (sym c.identity) (λ b image. inr (inr (c.appended.holds.sound tells b image)));
            },
            refl,
            record {
              was_up = stands.0;
              room = rw stands.1 c.appended.room;
              body = c.body;
              pends = rw stands.1 pends;
              after = rw stands.1 refl;
              later = rw shows.counts c.appended.moves.later;
              calm = λ calm. c.appended.calm (sym shows.calm_is ∙ calm);
            },
          )

      abbrev Faulted : NodeWorld → List ℕ → Type 0
      Faulted y body = (y.up ≡ false) × (((y.journal ≡ bodies) × (y.other ≡ Some (bodies ++ body ∷ []))) ⊎ ((y.journal ≡ bodies ++ body ∷ []) × (y.other ≡ Some bodies)))

      -- each list that may be spelt is the old one or the one with the pending record
      lists_of : (y : NodeWorld) (body : List ℕ) (l : List (List ℕ)) → Faulted y body → MaySpell y l → (l ≡ bodies) ⊎ (l ≡ bodies ++ body ∷ [])
      lists_of y body l (down, inl (a, b)) (inl is) = inl (is ∙ a)
      lists_of y body l (down, inl (a, b)) (inr is) = inr (same_Some _ _ (sym is ∙ b))
      lists_of y body l (down, inr (a, b)) (inl is) = inr (is ∙ a)
      lists_of y body l (down, inr (a, b)) (inr is) = inl (same_Some _ _ (sym is ∙ b))

      -- and both may be spelt
      spells_of : (y : NodeWorld) (body : List ℕ) (l : List (List ℕ)) → Faulted y body → (l ≡ bodies) ⊎ (l ≡ bodies ++ body ∷ []) → MaySpell y l
      spells_of y body l (down, inl (a, b)) (inl is) = inl (is ∙ sym a)
      spells_of y body l (down, inl (a, b)) (inr is) = inr (b ∙ ap Some (sym is))
      spells_of y body l (down, inr (a, b)) (inl is) = inr (b ∙ ap Some (sym is))
      spells_of y body l (down, inr (a, b)) (inr is) = inl (is ∙ sym a)

      -- the node's world after a fault, but for its lists
      record Rest (y : NodeWorld) (kept : List (List ℕ)) : Type 0 where
        same : kept ≡ y.journal
        faults_are : y.faults ≡ k.disk.faults
        calm_is : y.calm ≡ k.disk.calm
        file_is : y.file ≡ x.file
        openable_is : y.openable ≡ x.openable
        acked_none : y.acked ≡ []
        waiting_is : y.waiting ≡ x.waiting

      world_of_fault : (body : List ℕ) (kept : List (List ℕ)) → (kept ≡ bodies) ⊎ (kept ≡ bodies ++ body ∷ []) → (y : NodeWorld) × Faulted y body × Rest y kept
      world_of_fault body kept (inl is) = (
        record { up = false; journal = bodies; other = Some (bodies ++ body ∷ []); faults = k.disk.faults; calm = k.disk.calm; file = x.file; openable = x.openable; acked = []; waiting = x.waiting },
        (refl, inl (refl, refl)),
        record { same = is; faults_are = refl; calm_is = refl; file_is = refl; openable_is = refl; acked_none = refl; waiting_is = refl },
      )
      world_of_fault body kept (inr is) = (
        record { up = false; journal = bodies ++ body ∷ []; other = Some bodies; faults = k.disk.faults; calm = k.disk.calm; file = x.file; openable = x.openable; acked = []; waiting = x.waiting },
        (refl, inr (refl, refl)),
        record { same = is; faults_are = refl; calm_is = refl; file_is = refl; openable_is = refl; acked_none = refl; waiting_is = refl },
      )

      faults_of : (c : Faults (environment m n.identity) now bodies event item n k) (y : NodeWorld) → Faulted y c.body → Rest y (journal_of k.disk.state.kept) → NodeShows e p k y × WorldFaults e p now event item x y
      faults_of c y faulted rest =
          let pends = pends_here bodies event item c.body c.failing.pends in
          let rose : Rose x.faults y.faults = rw (shows.counts, rest.faults_are) c.failing.rose in (
            record {
              identity_is = c.identity ∙ shows.identity_is;
              tells = c.failing.moves.tells ∙ shows.tells;
              images = λ b image. spells_of y c.body (journal_of b) faulted (images_now n.disk k.disk (OldOrMore bodies c.body) c.failing.moves shows.tells b image);
              kept = rest.same;
              journal = shows_down k.journal y c.journal faulted.0;
              counts = rest.faults_are;
              calm_is = rest.calm_is;
              file_is = rest.file_is ∙ shows.file_is ∙ sym c.failing.moves.file;
              acked_is = rest.acked_none ∙ sym c.acked;
              opens = λ on. young_now n.identity k.identity n.disk k.disk c.identity c.failing.form shows.tells (shows.opens (sym rest.openable_is ∙ on));
            },
            record {
              was_up = stands.0;
              room = rw stands.1 c.failing.room;
              body = c.body;
              pends = rw stands.1 pends;
              down = faulted.0;
              lists = λ l may. rw stands.1 (lists_of y c.body l faulted may);
              rose = rose;
              calm = false_from_ne_true x.calm (λ calm. c.failing.calm (sym shows.calm_is ∙ calm));
              file = rest.file_is;
              openable = rest.openable_is;
              acked = rest.acked_none;
              waiting = rest.waiting_is;
            },
          )

      pub faults_world : Faults (environment m n.identity) now bodies event item n k → Goes e p x k (λ y. WorldFaults e p now event item x y)
      faults_world c =
          let found = world_of_fault c.body (journal_of k.disk.state.kept) (c.failing.moves.kept shows.tells) in
          let all = faults_of c found.0 found.1 found.2 in
          (found.0, all.0, found.2.waiting_is, all.1)
