-- A whole run: the nodes open and the script is played, or one does not open.
use Rattle.std.proofs.Common.{◌≡◌, ◌⊎◌, inl, inr, ⊎_elim, ℕ, true, false, List, [], ◌∷◌, ◌++◌, length, map, Option, Some, refl, sym, ◌∙◌, ap, subst, arith, append_assoc}
use Rattle.std.specs.Prelude.{codes, decimal, None, ◌<◌, ◌≤◌}
use Rattle.std.specs.List.{slice_get}
use Rattle.std.proofs.lemmas.Option.{slice_get_within}
use Rattle.std.proofs.lemmas.Bool.{cases_Bool, cases_lt}
use Rattle.outside.specs.Disk.{DiskSeen, IfTold, IsImage}
use Rattle.outside.proofs.Moments.{at_now}
use Rattle.disk_journal.specs.Journal.{WasSpelt, journal_of, placed, is_unformatted, refusal}
use Rattle.disk_journal.proofs.Fresh.{unformatted_short, short_spells, refusal_unformatted}
use Rattle.disk_journal.specs.declared.fault.OpenFault.{OpenFault}
use Rattle.disk_journal.specs.declared.fault.OpenFault.TheVariants as open_fault
use Rattle.net_base.specs.declared.names.Identity.{Identity}
use Rattle.net_base.specs.declared.values.Party.{Party}
use Rattle.net_base.proofs.Lists.{get_beside}
use Rattle.net_base.proofs.Options.{some_eq}
use Rattle.net_model.specs.Environment.{Environment, environment, Meaning}
use Rattle.node_tables.specs.Journals.{Reads}
use Rattle.node_core.specs.Disks.{roomless}
use Rattle.node_tables.specs.Fits.{misfit}
use Rattle.node_core.specs.Seen.{NodeSeen, BootsAs, GaveUp, boot_of, Refuses as SeenRefuses, Opens, Unopened, Unfit, Unbooted}
use Rattle.node_core.specs.declared.faults.BootFault.{BootFault}
use Rattle.node_core.specs.declared.faults.BootFault.TheVariants as boot
use Rattle.network_core.specs.Worlds.{World, NetSeen, Shows, Coherent}
use Rattle.network_core.specs.Drains.{with_world}
use Rattle.network_core.specs.Begins.{member, node_over, nodes_over, no_boot, BeginsWorld, IsRefused, BootsUpTo}
use Rattle.work_law.proofs.Passing.{attained_are_coherent, attained_openable, acknowledged_is_kept}
use Rattle.network_core.proofs.Beginning.{first_at}
use Rattle.node_shell.specs.declared.statuses.Status.{Status}
use Rattle.node_shell.specs.declared.statuses.Status.TheVariants as status
use Rattle.node_shell.specs.Responds.{NetLink, NetShort}
use Rattle.node_shell.specs.Story.{ScriptRun, IsScriptStatus}
use Rattle.node_shell.specs.Together.{PairLink, PairShort, InPair}
use Rattle.shell_words.specs.Program.{network_of_words}
use Rattle.shell_words.specs.declared.program.NetworkWords.{NetworkWords}
use Rattle.node_shell.specs.Runs.{over, OfNetwork, number_of_status, Plays, PlaysTogether, GoesOn, Refuses, RunsAs, journal_line, PlaysOrRefuses, RefusedWith, IsOpeningStatus, Fails, OneFails, HasCause, MisfitsAt, StaysBut, KeepsCalm, IsOpened, AfterRefusal, GivesUp, IsUnready, IsToldWhy, KeepsOwn, KeepOwn, IsRefusedStatus, IsPlayedNumber, AllStay, MadeReady, GoesOrHalts, RunsAnyhow}
use Rattle.node_shell.proofs.Readying.{fails_since, stays_then, stay_same, stay_then}
use Rattle.node_shell.proofs.Together.{scripts_are_both}
use Rattle.node_shell.proofs.Attained.{story_attains, script_attains}
use Rattle.node_shell.proofs.Resting.{counted, begun_openable, down_openable, made_openable, stay_openable, made_same, made_then, made_fewer, same_fewer, made_journals, same_journals, stands, rests, made_coherent, made_counted, counted_shows, refused_rests, down_fewer}

no_memory : status.DiskFault ≡ status.NoMemory → ⊥
no_memory same = cc

-- ---- why

-- bytes that are refused are those of a journal that was begun and finished
refused_begun : (id : Identity) (x : List ℕ) (why : OpenFault) → refusal id x ≡ Some why → is_unformatted x ≡ false
refused_begun id x why is = by (cases_Bool (is_unformatted x))
  where
    by : (is_unformatted x ≡ true) ⊎ (is_unformatted x ≡ false) → is_unformatted x ≡ false
    by (inl young) = let none = refusal_unformatted id x young in cc
    by (inr begun) = begun

none_misfits : {F : Type 0} (f : Reads F) (id : Identity) → misfit f id.notary id.nodes id.party [] ≡ None
unfolding misfit
none_misfits f id = refl

-- and so are those with a record that does not fit
misfit_begun : {F : Type 0} (f : Reads F) (id : Identity) (x : List ℕ) (at : ℕ) → misfit f id.notary id.nodes id.party (placed 16 (journal_of x)) ≡ Some at → is_unformatted x ≡ false
misfit_begun f id x at is = by (cases_Bool (is_unformatted x))
  where
    by : (is_unformatted x ≡ true) ⊎ (is_unformatted x ≡ false) → is_unformatted x ≡ false
    by (inl young) =
        let none : misfit f id.notary id.nodes id.party (placed 16 (journal_of x)) ≡ None = ap (λ l. misfit f id.notary id.nodes id.party (placed 16 l)) (short_spells x (unformatted_short x young)) ∙ none_misfits f id in
        cc
    by (inr begun) = begun

-- but after a fault a disk on which a journal was begun and finished keeps the same bytes
abbrev KeepsBytes : BootFault → DiskSeen → DiskSeen → Type 0
KeepsBytes why d b = (why ≡ boot.Fault → ⊥) → IfTold d b (λ x y. is_unformatted x.kept ≡ false → y.kept ≡ x.kept)

not_foreign : boot.NotAJournal ≡ boot.Fault → ⊥
not_foreign same = cc

not_wrong : (found : Identity) → boot.WrongNode found ≡ boot.Fault → ⊥
not_wrong found same = cc

not_damaged : (at : ℕ) → boot.Damaged at ≡ boot.Fault → ⊥
not_damaged at same = cc

-- a refused opening has its cause
refuses_cause : {F : Type 0} (f : Reads F) (id : Identity) (fault : OpenFault) (d b : DiskSeen) → KeepsBytes (boot_of fault) d b → SeenRefuses id fault (roomless d) (roomless b) → HasCause f id d (boot_of fault) b
refuses_cause f id open_fault.Fault d b keeps r = record { rose = r.0; uneasy = r.1 }
refuses_cause f id open_fault.Memory d b keeps r = tt
refuses_cause f id open_fault.NotAJournal d b keeps r = λ tells. (r tells, keeps not_foreign tells (refused_begun id d.state.kept open_fault.NotAJournal (r tells)))
refuses_cause f id (open_fault.WrongNode found) d b keeps r = λ tells. (r tells, keeps (not_wrong found) tells (refused_begun id d.state.kept (open_fault.WrongNode found) (r tells)))
refuses_cause f id (open_fault.Damaged at) d b keeps r = λ tells. (inl (r tells), keeps (not_damaged at) tells (refused_begun id d.state.kept (open_fault.Damaged at) (r tells)))

-- and so have records that do not fit
unfit_cause : {F : Type 0} (f : Reads F) (id : Identity) (why : BootFault) (d b : DiskSeen) → KeepsBytes why d b → Unfit f id (roomless d) why (roomless b) → HasCause f id d why b
unfit_cause f id (boot.Damaged at) d b keeps u = λ tells.
    let is : misfit f id.notary id.nodes id.party (placed 16 (journal_of d.state.kept)) ≡ Some at = subst (λ l. misfit f id.notary id.nodes id.party l ≡ Some at) (u.1.told tells) u.2 in
    (inr (u.1.format tells, is), keeps (not_damaged at) tells (misfit_begun f id d.state.kept at is))
unfit_cause f id boot.Memory d b keeps u = tt
unfit_cause f id boot.Fault d b keeps u = absurd u
unfit_cause f id boot.NotAJournal d b keeps u = absurd u
unfit_cause f id (boot.WrongNode found) d b keeps u = absurd u

-- a boot that was refused has its cause
boot_cause : {F : Type 0} (f : Reads F) (id : Identity) (why : BootFault) (d b : DiskSeen) → Unbooted f id (roomless d) why (roomless b) → HasCause f id d why b
boot_cause f id why d b u =
    ⊎_elim
    (λ (o : Unopened id (roomless d) why (roomless b)). subst (λ y. HasCause f id d y b) (sym o.1) (refuses_cause f id o.0 d b (subst (λ y. KeepsBytes y d b) o.1 u.bytes) o.2))
    (unfit_cause f id why d b u.bytes)
    u.cause

-- and leaves this of its disk
boot_left : {F : Type 0} (f : Reads F) (id : Identity) (why : BootFault) (d b : DiskSeen) → Unbooted f id (roomless d) why (roomless b) → AfterRefusal why d b
boot_left f id why d b u = λ tells. (
  at_now d.state b.state (WasSpelt d.state) (u.moves.images tells),
  λ no. (u.same no tells, u.bytes no tells),
)

-- a disk that was left is as before
same_refused : (why : BootFault) (d b : DiskSeen) → d ≡ b → AfterRefusal why d b
same_refused why d b same = subst (AfterRefusal why d) same (λ tells. ((λ c image. (c, image, refl)), λ no. (refl, λ begun. refl)))

same_stays : (d b : DiskSeen) → b ≡ d → StaysBut d b
same_stays d b same = subst (StaysBut d) (sym same) (refl, omega arith)

same_calm : (d b : DiskSeen) → roomless b ≡ roomless d → KeepsCalm d b
same_calm d b same = let faults : b.faults ≡ d.faults = ap (λ (x : DiskSeen). x.faults) same in (omega (arith, faults), λ calm. ap (λ (x : DiskSeen). x.calm) same ∙ calm)

-- a boot leaves this of a disk on which it opened a journal
boot_opened : (id : Identity) (d b k : DiskSeen) (list : List (ℕ × List ℕ)) → roomless b ≡ k → Opens id (roomless d) k list → IsOpened id d b
boot_opened id d b k list same o = λ tells.
    let told : k.tells ≡ true = o.moves.tells ∙ tells in (
      ap (λ (x : DiskSeen). x.state.kept) same ∙ o.left tells,
      λ c image. o.holds.images told c (subst (λ (x : DiskSeen). IsImage x.state.now c) same image) ∙ sym (o.holds.kept told) ∙ o.same tells,
    )

boot_calm : (id : Identity) (d b k : DiskSeen) (list : List (ℕ × List ℕ)) → roomless b ≡ k → Opens id (roomless d) k list → KeepsCalm d b
boot_calm id d b k list same o =
    let faults : b.faults ≡ k.faults = ap (λ (x : DiskSeen). x.faults) same in
    let later = o.moves.later in
    (omega (arith, faults, later), λ calm. ap (λ (x : DiskSeen). x.calm) same ∙ o.calm calm)

-- a making ready before changes nothing of what is kept
pub own_since : {F : Type 0} (f : Reads F) (id : Identity) (d k : DiskSeen) → k ≡ record d { faults = k.faults; attached = k.attached } → KeepsOwn f id k → KeepsOwn f id d
own_since f id d k same own = λ tells.
    subst (λ (x : DiskSeen). (refusal id x.state.kept ≡ None) × (misfit f id.notary id.nodes id.party (placed 16 (journal_of x.state.kept)) ≡ None)) same (own (ap (λ (x : DiskSeen). x.tells) same ∙ tells))

-- nodes that came up over disks opened their own journals
pub boots_own : {F : Type 0} (f : Reads F) (nodes : ℕ) (notary : Party) (ds : List DiskSeen) (now : ℕ) (new : List NodeSeen) → length ds ≡ nodes → BootsUpTo f nodes now (nodes_over nodes notary 0 ds) new → KeepOwn f nodes notary ds
boots_own f nodes notary ds now new count r p d at =
    let n = first_at nodes notary ds p d at in
    let k = get_beside (nodes_over nodes notary 0 ds) new p (node_over nodes notary p d) (sym r.count) n in
    let within = slice_get_within ds p d at in
    let b = r.done p (node_over nodes notary p d) k.0 (omega (arith, within, count)) n k.1 in
    let id = member nodes notary p in
    λ tells. (b.4.opens.format tells, subst (λ l. misfit f id.notary id.nodes id.party l ≡ None) (b.4.opens.told tells) b.4.fits)

pub all_own_since : {F : Type 0} (f : Reads F) (nodes : ℕ) (notary : Party) (ds ks : List DiskSeen) → AllStay ds ks → KeepOwn f nodes notary ks → KeepOwn f nodes notary ds
all_own_since f nodes notary ds ks stay own p d at =
    let k = get_beside ds ks p d (sym stay.count) at in
    own_since f (member nodes notary p) d k.0 (stay.each p d k.0 at k.1).0 (own p k.0 k.1)

-- a refused opening whose disk failed is told so
status_of_fault : (node : ℕ) (why : BootFault) (written0 written1 : Option (List ℕ)) (s : Status) → why ≡ boot.Fault → RefusedWith node why written0 written1 s → s ≡ status.DiskFault
status_of_fault node why written0 written1 s is told = (subst (λ y. RefusedWith node y written0 written1 s) is told).0

-- a status that comes only once all nodes have opened is not that of an opening that was refused
pub refused_unplayed : (s : Status) → IsRefusedStatus s → IsPlayedNumber (number_of_status s) → ⊥
refused_unplayed status.Finished kind is = kind
refused_unplayed status.TooLong kind is = kind
refused_unplayed status.ReadFault kind is = kind
refused_unplayed status.BadWords kind is = kind
refused_unplayed status.WriteFault kind is = ⊎_elim (λ h. omega (arith, h)) (λ r. ⊎_elim (λ h. omega (arith, h)) (λ h. omega (arith, h)) r) is
refused_unplayed status.DiskFault kind is = ⊎_elim (λ h. omega (arith, h)) (λ r. ⊎_elim (λ h. omega (arith, h)) (λ h. omega (arith, h)) r) is
refused_unplayed status.NoMemory kind is = ⊎_elim (λ h. omega (arith, h)) (λ r. ⊎_elim (λ h. omega (arith, h)) (λ h. omega (arith, h)) r) is
refused_unplayed status.BadJournal kind is = ⊎_elim (λ h. omega (arith, h)) (λ r. ⊎_elim (λ h. omega (arith, h)) (λ h. omega (arith, h)) r) is

-- the statuses of these numbers
pub is_disk_fault : (s : Status) → number_of_status s ≡ 6 → s ≡ status.DiskFault
is_disk_fault status.DiskFault is = refl
is_disk_fault status.Finished is = cc
is_disk_fault status.BadWords is = cc
is_disk_fault status.TooLong is = cc
is_disk_fault status.ReadFault is = cc
is_disk_fault status.WriteFault is = cc
is_disk_fault status.NoMemory is = cc
is_disk_fault status.BadJournal is = cc

pub is_too_long : (s : Status) → number_of_status s ≡ 3 → s ≡ status.TooLong
is_too_long status.TooLong is = refl
is_too_long status.Finished is = cc
is_too_long status.BadWords is = cc
is_too_long status.ReadFault is = cc
is_too_long status.WriteFault is = cc
is_too_long status.DiskFault is = cc
is_too_long status.NoMemory is = cc
is_too_long status.BadJournal is = cc

pub is_read_fault : (s : Status) → number_of_status s ≡ 4 → s ≡ status.ReadFault
is_read_fault status.ReadFault is = refl
is_read_fault status.Finished is = cc
is_read_fault status.BadWords is = cc
is_read_fault status.TooLong is = cc
is_read_fault status.WriteFault is = cc
is_read_fault status.DiskFault is = cc
is_read_fault status.NoMemory is = cc
is_read_fault status.BadJournal is = cc

pub is_write_fault : (s : Status) → number_of_status s ≡ 5 → s ≡ status.WriteFault
is_write_fault status.WriteFault is = refl
is_write_fault status.Finished is = cc
is_write_fault status.BadWords is = cc
is_write_fault status.TooLong is = cc
is_write_fault status.ReadFault is = cc
is_write_fault status.DiskFault is = cc
is_write_fault status.NoMemory is = cc
is_write_fault status.BadJournal is = cc

pub is_bad_words : (s : Status) → number_of_status s ≡ 2 → s ≡ status.BadWords
is_bad_words status.BadWords is = refl
is_bad_words status.Finished is = cc
is_bad_words status.TooLong is = cc
is_bad_words status.ReadFault is = cc
is_bad_words status.WriteFault is = cc
is_bad_words status.DiskFault is = cc
is_bad_words status.NoMemory is = cc
is_bad_words status.BadJournal is = cc

-- the statuses of a disk that was not made ready are 6 and 7
pub opening_number : (s : Status) (number : ℕ) → IsOpeningStatus s → number ≡ number_of_status s → (number ≡ 6) ⊎ (number ≡ 7)
opening_number status.DiskFault number is same = inl same
opening_number status.NoMemory number is same = inr same
opening_number status.Finished number is same = absurd is
opening_number status.BadWords number is same = absurd is
opening_number status.TooLong number is same = absurd is
opening_number status.ReadFault number is same = absurd is
opening_number status.WriteFault number is same = absurd is
opening_number status.BadJournal number is same = absurd is

pub is_bad_journal : (s : Status) → number_of_status s ≡ 8 → s ≡ status.BadJournal
is_bad_journal status.BadJournal is = refl
is_bad_journal status.Finished is = cc
is_bad_journal status.BadWords is = cc
is_bad_journal status.TooLong is = cc
is_bad_journal status.ReadFault is = cc
is_bad_journal status.WriteFault is = cc
is_bad_journal status.DiskFault is = cc
is_bad_journal status.NoMemory is = cc

-- a making ready before changes no cause
cause_since : {F : Type 0} (f : Reads F) (id : Identity) (why : BootFault) (d k b : DiskSeen) → k ≡ record d { faults = k.faults; attached = k.attached } → d.faults ≤ k.faults → HasCause f id k why b → HasCause f id d why b
cause_since f id boot.Fault d k b same later h = fails_since d k b (same, later) h
cause_since f id boot.Memory d k b same later h = tt
cause_since f id boot.NotAJournal d k b same later h = λ tells.
    subst (λ (x : DiskSeen). (refusal id x.state.kept ≡ Some open_fault.NotAJournal) × (b.state.kept ≡ x.state.kept)) same (h (ap (λ (x : DiskSeen). x.tells) same ∙ tells))
cause_since f id (boot.WrongNode found) d k b same later h = λ tells.
    subst (λ (x : DiskSeen). (refusal id x.state.kept ≡ Some (open_fault.WrongNode found)) × (b.state.kept ≡ x.state.kept)) same (h (ap (λ (x : DiskSeen). x.tells) same ∙ tells))
cause_since f id (boot.Damaged at) d k b same later h = λ tells.
    subst (λ (x : DiskSeen). ((refusal id x.state.kept ≡ Some (open_fault.Damaged at)) ⊎ MisfitsAt f id x.state.kept at) × (b.state.kept ≡ x.state.kept)) same (h (ap (λ (x : DiskSeen). x.tells) same ∙ tells))

opened_since : (id : Identity) (d k b : DiskSeen) → k ≡ record d { faults = k.faults; attached = k.attached } → IsOpened id k b → IsOpened id d b
opened_since id d k b same h = subst (λ (x : DiskSeen). IsOpened id x b) same h

refused_since : (why : BootFault) (d k b : DiskSeen) → k ≡ record d { faults = k.faults; attached = k.attached } → AfterRefusal why k b → AfterRefusal why d b
refused_since why d k b same h = subst (λ (x : DiskSeen). AfterRefusal why x b) same h

calm_since : (d k b : DiskSeen) → StaysBut d k → KeepsCalm k b → KeepsCalm d b
calm_since d k b stays h = (omega (arith, stays.1, h.0), λ calm. h.1 (ap (λ (x : DiskSeen). x.calm) stays.0 ∙ calm))

roomless_stays : (d k : DiskSeen) → StaysBut d k → StaysBut (roomless d) (roomless k)
roomless_stays d k stays = (ap roomless stays.0, stays.1)

pub told_since : {F : Type 0} (f : Reads F) (nodes : ℕ) (notary : Party) (ds ks bs : List DiskSeen) (written0 written1 : Option (List ℕ)) (s : Status) → AllStay ds ks
    → IsToldWhy f nodes notary ks bs written0 written1 s → IsToldWhy f nodes notary ds bs written0 written1 s
told_since f nodes notary ds ks bs written0 written1 s stay t = record {
  node = t.node;
  within = t.within;
  earlier = λ p d before at.
      let k = get_beside ds ks p d (sym stay.count) at in
      own_since f (member nodes notary p) d k.0 (stay.each p d k.0 at k.1).0 (t.earlier p k.0 before k.1);
  opened = λ p d b before at there.
      let k = get_beside ds ks p d (sym stay.count) at in
      opened_since (member nodes notary p) d k.0 b (stay.each p d k.0 at k.1).0 (t.opened p k.0 b before k.1 there);
  later = λ p d b behind at there.
      let k = get_beside ds ks p d (sym stay.count) at in
      stays_then (roomless d) (roomless k.0) (roomless b) (roomless_stays d k.0 (stay.each p d k.0 at k.1)) (t.later p k.0 b behind k.1 there);
  why = t.why;
  cause = λ d b at there.
      let k = get_beside ds ks t.node d (sym stay.count) at in
      let stays = stay.each t.node d k.0 at k.1 in
      cause_since f (member nodes notary t.node) t.why d k.0 b stays.0 stays.1 (t.cause k.0 b k.1 there);
  left = λ d b at there.
      let k = get_beside ds ks t.node d (sym stay.count) at in
      refused_since t.why d k.0 b (stay.each t.node d k.0 at k.1).0 (t.left k.0 b k.1 there);
  calm = λ p d b at there.
      let k = get_beside ds ks p d (sym stay.count) at in
      calm_since d k.0 b (stay.each p d k.0 at k.1) (t.calm p k.0 b k.1 there);
  told = t.told;
}

pub told_at : {F : Type 0} (f : Reads F) (nodes : ℕ) (notary : Party) (ds ks bs es : List DiskSeen) (written0 written1 : Option (List ℕ)) (s : Status) → es ≡ bs → AllStay ds ks
    → IsToldWhy f nodes notary ks bs written0 written1 s → IsToldWhy f nodes notary ds es written0 written1 s
told_at f nodes notary ds ks bs es written0 written1 s there stay t = subst (λ x. IsToldWhy f nodes notary ds x written0 written1 s) (sym there) (told_since f nodes notary ds ks bs written0 written1 s stay t)

-- a status that says that the disk failed tells of a fault
told_of_fault : {F : Type 0} (f : Reads F) (id : Identity) (why : BootFault) (d b : DiskSeen) (node : ℕ) (written0 written1 : Option (List ℕ)) → HasCause f id d why b
    → RefusedWith node why written0 written1 status.DiskFault → Fails d b
told_of_fault f id boot.Fault d b node written0 written1 h r = h
told_of_fault f id boot.Memory d b node written0 written1 h r = absurd (no_memory r.0)
told_of_fault f id boot.NotAJournal d b node written0 written1 h r = absurd r
told_of_fault f id (boot.WrongNode found) d b node written0 written1 h r = absurd r
told_of_fault f id (boot.Damaged at) d b node written0 written1 h r = absurd r

-- what an opening that failed is told by
pub opening_why : (s : Status) (written0 written1 : Option (List ℕ)) → IsOpeningStatus s → written1 ≡ written0 → GivesUp written0 written1 s
opening_why status.DiskFault written0 written1 is same = (inl refl, same)
opening_why status.NoMemory written0 written1 is same = (inr refl, same)
opening_why status.Finished written0 written1 is same = absurd is
opening_why status.BadWords written0 written1 is same = absurd is
opening_why status.TooLong written0 written1 is same = absurd is
opening_why status.ReadFault written0 written1 is same = absurd is
opening_why status.WriteFault written0 written1 is same = absurd is
opening_why status.BadJournal written0 written1 is same = absurd is

-- a first opening that gave up is told by its status alone
gave_up_told : (node : ℕ) (why : BootFault) (written0 written1 : Option (List ℕ)) (s : Status) → GaveUp why → RefusedWith node why written0 written1 s → GivesUp written0 written1 s
gave_up_told node boot.Fault written0 written1 s gave told = (inl told.0, told.1)
gave_up_told node boot.Memory written0 written1 s gave told = (inr told.0, told.1)
gave_up_told node boot.NotAJournal written0 written1 s gave told = absurd gave
gave_up_told node (boot.WrongNode found) written0 written1 s gave told = absurd gave
gave_up_told node (boot.Damaged at) written0 written1 s gave told = absurd gave

module _ {F : Type 0} (m : Meaning F) (nodes : ℕ) (notary : Party) where
  abbrev e : Environment F
  e = environment m (member nodes notary 0)

  pub played : (ds bs : List DiskSeen) (w : World) (begun ended : NetSeen) (left0 left1 written0 written1 : Option (List ℕ)) (count : ℕ) (s : Status)
      → IsScriptStatus s → KeepOwn m.frame_at nodes notary ds → BeginsWorld m nodes notary ds begun
      → BootsUpTo m.frame_at nodes begun.now (nodes_over nodes notary 0 ds) begun.nodes → begun.waiting ≡ map (λ (n : NodeSeen). []) begun.nodes
      → ScriptRun (NetLink m) (NetShort m) begun left0 left1 written0 written1 count ended s
      → ((id : Identity) (start : World) (first : Shows (environment m id) begun start) (sound : Coherent (environment m id) start) → InPair (environment m id) ended (λ v. ScriptRun (PairLink m id) (PairShort m id) (with_world begun start first sound) left0 left1 written0 written1 count v s))
      → map (λ (n : NodeSeen). n.disk) ended.nodes ≡ map roomless bs
      → Shows e (over e w.now ds) w → Coherent e w → PlaysOrRefuses m nodes notary w ds bs left0 left1 written0 written1 count s
  played ds bs w begun ended left0 left1 written0 written1 count s script own begins boots quiet went ran disks shows coherent =
      let start = begins w.now w shows coherent in
      let end = ran (member nodes notary 0) start.0 start.1 start.2 in
      let first = with_world begun start.0 start.1 start.2 in
      let last = with_world ended end.world end.shows end.coherent in
      let worlds = (scripts_are_both m (member nodes notary 0) first last left0 left1 written0 written1 count s end.holds).worlds in
      let attains = script_attains e start.0 left0 left1 written0 written1 count end.world s worlds in
      inl (record {
        plays = record {
          is_script = script;
          own = own;
          ready = w;
          made = made_same w;
          start = start.0;
          begins = start.3;
          last = end.world;
          script = worlds;
          rests = rests m nodes notary ended end.world bs end.shows end.coherent disks;
          openable = down_openable end.world (attained_openable e start.0 end.world attains (begun_openable e w start.0 start.3));
          attains = attains;
          coherent = λ u to. attained_are_coherent e start.0 u start.2 to;
          on_the_way = λ lines out u story. story_attains e start.0 lines out u story;
          acknowledged = λ u v to on. acknowledged_is_kept e u v (attained_are_coherent e start.0 u start.2 to) on;
        };
        together = record {
          went = record { ready = ds; made = stay_same ds; begun = begun; opened = boots; quiet = quiet; last = ended; script = went; back = disks };
          shows = start.1;
          coherent = start.2;
          shows_last = end.shows;
          coherent_last = end.coherent;
          script = end.holds;
        };
      })

  -- the boot that was refused
  abbrev Stopped : List DiskSeen → ℕ → BootFault → List DiskSeen → Type 0
  Stopped ds node why bs = (x : DiskSeen) × (y : DiskSeen) × (slice_get ds node ≡ Some x) × (slice_get bs node ≡ Some y) × BootsAs m.frame_at (node_over nodes notary node x) (no_boot why) (node_over nodes notary node y)

  stopped_cause : (ds bs : List DiskSeen) (node : ℕ) (why : BootFault) → Stopped ds node why bs → (d b : DiskSeen) → slice_get ds node ≡ Some d → slice_get bs node ≡ Some b → HasCause m.frame_at (member nodes notary node) d why b
  stopped_cause ds bs node why q d b at there =
      let one : q.0 ≡ d = cc in
      let two : q.1 ≡ b = cc in
      subst (λ u. HasCause m.frame_at (member nodes notary node) u why b) one (subst (HasCause m.frame_at (member nodes notary node) q.0 why) two (boot_cause m.frame_at (member nodes notary node) why q.0 q.1 q.4.3))

  stopped_left : (ds bs : List DiskSeen) (node : ℕ) (why : BootFault) → Stopped ds node why bs → (d b : DiskSeen) → slice_get ds node ≡ Some d → slice_get bs node ≡ Some b → AfterRefusal why d b
  stopped_left ds bs node why q d b at there =
      subst (λ u. AfterRefusal why u b) (some_eq (sym q.2 ∙ at)) (subst (AfterRefusal why q.0) (some_eq (sym q.3 ∙ there)) (boot_left m.frame_at (member nodes notary node) why q.0 q.1 q.4.3))

  stopped_calm : (ds bs : List DiskSeen) (node : ℕ) (why : BootFault) → Stopped ds node why bs → (d b : DiskSeen) → slice_get ds node ≡ Some d → slice_get bs node ≡ Some b → KeepsCalm d b
  stopped_calm ds bs node why q d b at there =
      subst (λ u. KeepsCalm u b) (some_eq (sym q.2 ∙ at)) (subst (KeepsCalm q.0) (some_eq (sym q.3 ∙ there)) (q.4.3.moves.later, q.4.3.calm))

  pub told_why : (ds bs : List DiskSeen) (node : ℕ) (why : BootFault) (written0 written1 : Option (List ℕ)) (s : Status) → 0 < nodes → length ds ≡ nodes → IsRefused m nodes notary ds node why bs
      → RefusedWith node why written0 written1 s → IsToldWhy m.frame_at nodes notary ds bs written0 written1 s
  told_why ds bs node why written0 written1 s some count r told = record {
    node = node;
    within = ⊎_elim (λ (p : (why ≡ boot.Memory) × (node ≡ 0) × (bs ≡ ds)). let first = p.1 in omega (arith, first, some)) (λ (q : Stopped ds node why bs). let within = slice_get_within ds node q.0 q.2 in omega (arith, within, count)) r.refused;
    earlier = λ p d before at.
        let b = get_beside ds bs p d (sym r.count) at in
        let up = r.earlier p d b.0 before at b.1 in
        let id = member nodes notary p in
        λ tells. (up.1.4.opens.format tells, subst (λ l. misfit m.frame_at id.notary id.nodes id.party l ≡ None) (up.1.4.opens.told tells) up.1.4.fits);
    opened = λ p d b before at there.
        let up = r.earlier p d b before at there in
        boot_opened (member nodes notary p) d b up.0.disk up.1.0 up.2 up.1.4.opens;
    later = λ p d b behind at there. same_stays (roomless d) (roomless b) (r.later p d b behind at there);
    why = why;
    cause = λ d b at there.
        ⊎_elim (λ (p : (why ≡ boot.Memory) × (node ≡ 0) × (bs ≡ ds)). subst (λ y. HasCause m.frame_at (member nodes notary node) d y b) (sym p.0) tt) (λ (q : Stopped ds node why bs). stopped_cause ds bs node why q d b at there) r.refused;
    left = λ d b at there.
        ⊎_elim (λ (p : (why ≡ boot.Memory) × (node ≡ 0) × (bs ≡ ds)). same_refused why d b (some_eq (sym at ∙ ap (λ l. slice_get l node) (sym p.2) ∙ there))) (λ (q : Stopped ds node why bs). stopped_left ds bs node why q d b at there) r.refused;
    calm = λ p d b at there.
        ⊎_elim
        (λ (before : p < node).
        let up = r.earlier p d b before at there in
        boot_calm (member nodes notary p) d b up.0.disk up.1.0 up.2 up.1.4.opens)
        (λ (behind : node ≤ p).
        ⊎_elim (λ (above : node < p). same_calm d b (r.later p d b above at there))
        (λ (below : p ≤ node).
        let here : p ≡ node = omega (arith, behind, below) in
        let old : slice_get ds node ≡ Some d = subst (λ n. slice_get ds n ≡ Some d) here at in
        let new : slice_get bs node ≡ Some b = subst (λ n. slice_get bs n ≡ Some b) here there in
        ⊎_elim (λ (m : (why ≡ boot.Memory) × (node ≡ 0) × (bs ≡ ds)). same_calm d b (ap roomless (some_eq (sym new ∙ ap (λ l. slice_get l node) m.2 ∙ old)))) (λ (q : Stopped ds node why bs). stopped_calm ds bs node why q d b old new) r.refused)
        (cases_lt node p))
        (cases_lt p node);
    told = told;
  }

  pub fault_why : (ds bs : List DiskSeen) (node : ℕ) (why : BootFault) (written0 written1 : Option (List ℕ)) (s : Status) → length ds ≡ nodes → IsRefused m nodes notary ds node why bs → RefusedWith node why written0 written1 s → s ≡ status.DiskFault → OneFails nodes ds bs
  fault_why ds bs node why written0 written1 s count r told is =
      let so : RefusedWith node why written0 written1 status.DiskFault = subst (RefusedWith node why written0 written1) is told in
      ⊎_elim
      (λ (p : (why ≡ boot.Memory) × (node ≡ 0) × (bs ≡ ds)). absurd (no_memory (subst (λ y. RefusedWith node y written0 written1 status.DiskFault) p.0 so).0))
      (λ (q : Stopped ds node why bs).
      let within = slice_get_within ds node q.0 q.2 in
      record { place = node; own = omega (arith, within, count); before = q.0; after = q.1; at = q.2; now = q.3; is = told_of_fault m.frame_at (member nodes notary node) why q.0 q.1 node written0 written1 (boot_cause m.frame_at (member nodes notary node) why q.0 q.1 q.4.3) so })
      r.refused

  pub refused : (ds bs : List DiskSeen) (w : World) (node : ℕ) (why : BootFault) (left written0 written1 : Option (List ℕ)) (s : Status) → 0 < nodes → length ds ≡ nodes
      → IsRefused m nodes notary ds node why bs → RefusedWith node why written0 written1 s
      → Shows e (over e w.now ds) w → Coherent e w → PlaysOrRefuses m nodes notary w ds bs left left written0 written1 0 s
  refused ds bs w node why left written0 written1 s some count r told shows coherent =
      let v = r.world w.now w shows coherent in
      inr (record {
        unread = refl;
        none = refl;
        world = v.0;
        rests = refused_rests m nodes notary w v.0 bs v.1 v.2;
        fewer = down_fewer why w v.0 v.3;
        kept = λ no p x y at there. (v.3.each p x y at there).kept (λ (is : why ≡ boot.Fault). no (status_of_fault node why written0 written1 s is told));
        openable = stay_openable why w v.0 v.3;
        why = inr (told_why ds bs node why written0 written1 s some count r told);
        opens = λ on. gave_up_told node why written0 written1 s (v.3.gave_up on) told;
      })

  -- the disks were not made ready, or there was no memory for that
  pub unready : (ds es : List DiskSeen) (w : World) (left written : Option (List ℕ)) (s : Status) → IsOpeningStatus s → AllStay ds es
      → Shows e (over e w.now ds) w → Coherent e w → PlaysOrRefuses m nodes notary w ds es left left written written 0 s
  unready ds es w left written s is stay shows coherent =
      let v = counted es w in
      let made = made_counted m nodes notary w ds es stay shows in
      inr (record {
        unread = refl;
        none = refl;
        world = v;
        rests = stands m nodes notary v es (counted_shows m nodes notary w ds es stay shows) (made_coherent m nodes notary w v made coherent);
        fewer = made_fewer w v v made (same_fewer v);
        kept = λ no. made_journals w v v made (same_journals v);
        openable = made_openable w v made;
        why = inl (opening_why s written written is refl, stay);
        opens = λ on. opening_why s written written is refl;
      })

  plays_with : (w v : World) (ds ks bs : List DiskSeen) (left0 left1 written0 written1 : Option (List ℕ)) (count : ℕ) (s : Status) → MadeReady w v → AllStay ds ks
      → Plays e v ks bs left0 left1 written0 written1 count s → Plays e w ds bs left0 left1 written0 written1 count s
  plays_with w v ds ks bs left0 left1 written0 written1 count s made stay p = record {
    is_script = p.is_script;
    own = all_own_since m.frame_at nodes notary ds ks stay p.own;
    ready = p.ready;
    made = made_then w v p.ready made p.made;
    start = p.start;
    begins = p.begins;
    last = p.last;
    script = p.script;
    rests = p.rests;
    openable = p.openable;
    attains = p.attains;
    coherent = p.coherent;
    on_the_way = p.on_the_way;
    acknowledged = p.acknowledged;
  }

  goes_with : (ds ks bs : List DiskSeen) (left0 left1 written0 written1 : Option (List ℕ)) (count : ℕ) (s : Status) → AllStay ds ks → GoesOn m nodes notary ks bs left0 left1 written0 written1 count s → GoesOn m nodes notary ds bs left0 left1 written0 written1 count s
  goes_with ds ks bs left0 left1 written0 written1 count s stay g = record { ready = g.ready; made = stay_then ds ks g.ready stay g.made; begun = g.begun; opened = g.opened; quiet = g.quiet; last = g.last; script = g.script; back = g.back }

  together_with : (w v : World) (ds ks bs : List DiskSeen) (left0 left1 written0 written1 : Option (List ℕ)) (count : ℕ) (s : Status) → MadeReady w v → AllStay ds ks
      → PlaysTogether m nodes notary v ks bs left0 left1 written0 written1 count s → PlaysTogether m nodes notary w ds bs left0 left1 written0 written1 count s
  unfolding goes_with plays_with
  together_with w v ds ks bs left0 left1 written0 written1 count s made stay p = record {
    plays = plays_with w v ds ks bs left0 left1 written0 written1 count s made stay p.plays;
    together = record {
      went = goes_with ds ks bs left0 left1 written0 written1 count s stay p.together.went;
      shows = p.together.shows;
      coherent = p.together.coherent;
      shows_last = p.together.shows_last;
      coherent_last = p.together.coherent_last;
      script = p.together.script;
    };
  }

  refuses_with : (w v : World) (ds ks bs : List DiskSeen) (left0 left1 written0 written1 : Option (List ℕ)) (count : ℕ) (s : Status) → MadeReady w v → AllStay ds ks
      → Refuses e v ks bs left0 left1 written0 written1 count s → Refuses e w ds bs left0 left1 written0 written1 count s
  refuses_with w v ds ks bs left0 left1 written0 written1 count s made stay r = record {
    unread = r.unread;
    none = r.none;
    world = r.world;
    rests = r.rests;
    fewer = made_fewer w v r.world made r.fewer;
    kept = λ no. made_journals w v r.world made (r.kept no);
    openable = λ on. r.openable (made_openable w v made on);
    opens = λ on. r.opens (made_openable w v made on);
    why = ⊎_elim (λ (u : IsUnready ks bs written0 written1 s). inl (u.0, stay_then ds ks bs stay u.1)) (λ (t : IsToldWhy m.frame_at nodes notary ks bs written0 written1 s). inr (told_since m.frame_at nodes notary ds ks bs written0 written1 s stay t)) r.why;
  }

  pub runs_as : (w : World) (ds bs : List DiskSeen) (left0 left1 written0 written1 : Option (List ℕ)) (count counted number : ℕ) (s : Status) → number ≡ number_of_status s → counted ≡ count
      → PlaysOrRefuses m nodes notary w ds bs left0 left1 written0 written1 count s → RunsAs m nodes notary w ds bs left0 left1 written0 written1 counted number
  runs_as w ds bs left0 left1 written0 written1 count counted number s is same ran = record { status = s; is = is; ran = subst (λ n. PlaysOrRefuses m nodes notary w ds bs left0 left1 written0 written1 n s) (sym same) ran }

  -- a run over disks that were made ready, since before that
  pub runs_since : (ds ks bs : List DiskSeen) (w : World) (left0 left1 written0 written1 : Option (List ℕ)) (count number : ℕ) → AllStay ds ks
      → ((v : World) → Shows e (over e v.now ks) v → Coherent e v → RunsAs m nodes notary v ks bs left0 left1 written0 written1 count number)
      → Shows e (over e w.now ds) w → Coherent e w → RunsAs m nodes notary w ds bs left0 left1 written0 written1 count number
  runs_since ds ks bs w left0 left1 written0 written1 count number stay runs shows coherent =
      let v = counted ks w in
      let made = made_counted m nodes notary w ds ks stay shows in
      let ran = runs v (counted_shows m nodes notary w ds ks stay shows) (made_coherent m nodes notary w v made coherent) in
      record {
        status = ran.status;
        is = ran.is;
        ran = ⊎_elim (λ (p : PlaysTogether m nodes notary v ks bs left0 left1 written0 written1 count ran.status). inl (together_with w v ds ks bs left0 left1 written0 written1 count ran.status made stay p))
            (λ (r : Refuses e v ks bs left0 left1 written0 written1 count ran.status). inr (refuses_with w v ds ks bs left0 left1 written0 written1 count ran.status made stay r))
            ran.ran;
      }

  -- the same of what it handed back
  pub runs_at : (ds ks bs es : List DiskSeen) (w : World) (left0 left1 written0 written1 : Option (List ℕ)) (count number counted told : ℕ) → es ≡ bs → told ≡ number → counted ≡ count → AllStay ds ks
      → ((v : World) → Shows e (over e v.now ks) v → Coherent e v → RunsAs m nodes notary v ks bs left0 left1 written0 written1 count number)
      → Shows e (over e w.now ds) w → Coherent e w → RunsAs m nodes notary w ds es left0 left1 written0 written1 counted told
  runs_at ds ks bs es w left0 left1 written0 written1 count number counted told there is same stay runs shows coherent =
      rw (there, is, same) (runs_since ds ks bs w left0 left1 written0 written1 count number stay runs shows coherent)

-- ---- over any disks

module _ {F : Type 0} (m : Meaning F) (nodes : ℕ) (notary : Party) where
  -- the disks were made ready before
  went_since : (ds ks bs : List DiskSeen) (left0 left1 written0 written1 : Option (List ℕ)) (count : ℕ) (s : Status) → AllStay ds ks
      → GoesOrHalts m nodes notary ks bs left0 left1 written0 written1 count s → GoesOrHalts m nodes notary ds bs left0 left1 written0 written1 count s
  went_since ds ks bs left0 left1 written0 written1 count s stay (inl g) = inl (goes_with m nodes notary ds ks bs left0 left1 written0 written1 count s stay g)
  went_since ds ks bs left0 left1 written0 written1 count s stay (inr h) =
      inr (record {
        unread = h.unread;
        none = h.none;
        why = ⊎_elim (λ (u : IsUnready ks bs written0 written1 s). inl (u.0, stay_then ds ks bs stay u.1)) (λ (t : IsToldWhy m.frame_at nodes notary ks bs written0 written1 s). inr (told_since m.frame_at nodes notary ds ks bs written0 written1 s stay t)) h.why;
      })

  pub runs_anyhow_since : (ds ks bs : List DiskSeen) (left0 left1 written0 written1 : Option (List ℕ)) (count number : ℕ) → AllStay ds ks
      → RunsAnyhow m nodes notary ks bs left0 left1 written0 written1 count number → RunsAnyhow m nodes notary ds bs left0 left1 written0 written1 count number
  runs_anyhow_since ds ks bs left0 left1 written0 written1 count number stay ran = record { status = ran.status; is = ran.is; ran = went_since ds ks bs left0 left1 written0 written1 count ran.status stay ran.ran }

  -- the same of what it handed back
  pub went_at : (ds ks bs es : List DiskSeen) (left0 left1 written0 written1 : Option (List ℕ)) (count number counted told : ℕ) → es ≡ bs → told ≡ number → counted ≡ count → AllStay ds ks
      → RunsAnyhow m nodes notary ks bs left0 left1 written0 written1 count number → RunsAnyhow m nodes notary ds es left0 left1 written0 written1 counted told
  went_at ds ks bs es left0 left1 written0 written1 count number counted told there is same stay ran =
      rw (there, is, same) (runs_anyhow_since ds ks bs left0 left1 written0 written1 count number stay ran)

  -- the disks were not made ready, or there was no memory for that
  pub went_unready : (ds es : List DiskSeen) (left written : Option (List ℕ)) (counted number : ℕ) (s : Status) → IsOpeningStatus s → AllStay ds es → number ≡ number_of_status s → counted ≡ 0
      → RunsAnyhow m nodes notary ds es left left written written counted number
  went_unready ds es left written counted number s is stay equal none = record { status = s; is = equal; ran = inr (record { unread = refl; none = none; why = inl (opening_why s written written is refl, stay) }) }

-- the line for a damaged journal
pub damaged_line : (node at : ℕ) (why : BootFault) (line : List ℕ) → why ≡ boot.Damaged at → line ≡ codes "! journal " ++ (decimal node ++ (codes " damaged " ++ (decimal at ++ 10 ∷ []))) → line ≡ journal_line node why
damaged_line node at why line is same =
    let a = codes "! journal " in
    let b = codes " damaged " in
    let n = decimal node in
    let t = decimal at in
    let l : List ℕ = 10 ∷ [] in
    same ∙ sym (append_assoc (a ++ n ++ b) t l ∙ append_assoc (a ++ n) b (t ++ l) ∙ append_assoc a n (b ++ (t ++ l))) ∙ ap (journal_line node) (sym is)

-- what holds of the network that the words ask for
pub asked_only : (words : List (List ℕ)) (k : NetworkWords) (P : NetworkWords → Type 0) → network_of_words words ≡ Some k → P k → OfNetwork words P
asked_only words k P asked h n is = subst P (some_eq (sym asked ∙ is)) h

-- words that ask for a network are not refused
pub not_refused : (words : List (List ℕ)) (k : NetworkWords) → network_of_words words ≡ Some k → network_of_words words ≡ None → ⊥
not_refused words k asked none = let same : Some k ≡ None = sym asked ∙ none in absurd cc
