-- A node that is up: its power is cut, or it takes no more records.
use Rattle.std.proofs.Common.{◌≡◌, inl, inr, ℕ, zero, suc, ◌<◌, List, [], Option, Some, None, Result, Ok, Err, IsOk, OnOk, Bool, true, false, max, refl, sym, ◌∙◌, ap, subst, arith}
use Rattle.std.specs.Result.{is_err}
use Rattle.outside.specs.Disk.{DiskState, DiskSeen, IsImage, CutsPower, clean}
use Rattle.outside.proofs.Moments.{started, after_cut as image_after_cut}
use Rattle.net_base.specs.declared.names.Identity.{Identity}
use Rattle.net_base.specs.declared.causes.Event.{Event}
use Rattle.session_wire.specs.Sessions.{Sent}
use Rattle.node_core.specs.declared.faults.CommitFault.{CommitFault}
use Rattle.node_core.specs.declared.faults.CommitFault.TheVariants as commit_fault
use Rattle.disk_journal.specs.Journal.{IsSound, IsYoung}
use Rattle.flow_machine.specs.Machine.{Machine}
use Rattle.net_model.specs.Environment.{Environment, environment, unjudged}
use Rattle.net_model.specs.Steps.{place}
use Rattle.node_core.specs.declared.node.State.{State}
use Rattle.node_core.specs.declared.node.State.TheVariants.{Down, Up}
use Rattle.node_core.specs.declared.faults.StartFault.TheVariants as start_fault
use Rattle.node_tables.specs.Journals.{Reads}
use Rattle.node_core.specs.declared.faults.Taken.{Taken}
use Rattle.node_core.specs.declared.faults.TakeFault.{TakeFault}
use Rattle.node_core.specs.declared.faults.TakeFault.TheVariants as take_fault
use Rattle.node_core.specs.Journals.{is_full}
use Rattle.node_core.specs.Disks.{roomless, OneOf, CutsNow}
use Rattle.node_core.specs.States.{disk_in, journal_in, acked_in, IsDown, IsWhole, seen_in, seen_over, seen_up, seen_down, seen_after, is_fault}
use Rattle.node_core.specs.Seen.{UpSeen, Tied, flow_count, after_cut, acks_after_cut, CommitsAs, CutsDisk, CutAnswers, StartAnswers}
use Rattle.node_core.proofs.Boots.{kept_image}

pub where_ok : {T E : Type 0} (P : Type 0) (r : Result T E) → is_err r ≡ false → OnOk r P → P
where_ok P (Ok u) is h = h
where_ok P (Err u) is h = cc

cut_kept : (d e : DiskState) → CutsPower d e → IsImage d.now e.kept
cut_kept d e (inl lost) = lost.left
cut_kept d e (inr same) = subst (λ (x : DiskState). IsImage d.now x.kept) (sym same.0) (subst (λ s. IsImage s d.kept) (sym same.1) (kept_image d.kept))

-- a disk on which a fuse was armed
abbrev pub fused : DiskSeen → Option (ℕ × ℕ) → Bool → DiskSeen
fused old fuse calm = record old { fuse = fuse; calm = calm }

cuts_now : (id : Identity) (outcome : ℕ) (old new : DiskSeen) (fuse : Option (ℕ × ℕ)) (calm : Bool) → old.of_file ≡ false → CutsNow outcome (fused old fuse calm) new → CutsDisk id zero outcome old new
cuts_now id outcome old new fuse calm memory cut = record {
  memory = memory;
  moves = record {
    file = cut.file;
    attached = cut.attached;
    tells = cut.tells;
    later = omega (arith, cut.faults);
    images = λ told. image_after_cut old.state new.state (OneOf old.state) (λ c i. i) (cut.state told);
    kept = λ told. cut_kept old.state new.state (cut.state told);
  };
  form = record { sound = λ told was. image_after_cut old.state new.state (IsSound id) was (cut.state told); young = λ told was. image_after_cut old.state new.state (IsYoung id) was (cut.state told) };
  dark = λ now. (cut.power, cut.fuse);
  left = λ now. cut.left;
  armed = λ later. absurd (omega (arith, later));
  faults = cut.faults;
}

arms : (id : Identity) (calls outcome : ℕ) (old : DiskSeen) (calm : Bool) → 0 < calls → old.of_file ≡ false → (old.tells ≡ true → old.state.now ≡ clean old.state.kept) → CutsDisk id calls outcome old (fused old (Some (calls, outcome)) calm)
arms id calls outcome old calm some memory synced = record {
  memory = memory;
  moves = record {
    file = refl;
    attached = refl;
    tells = refl;
    later = omega arith;
    images = λ told. started old.state (OneOf old.state) (λ c i. i);
    kept = λ told. subst (λ s. IsImage s old.state.kept) (sym (synced told)) (kept_image old.state.kept);
  };
  form = record { sound = λ told was. started old.state (IsSound id) was; young = λ told was. started old.state (IsYoung id) was };
  dark = λ now. absurd (omega (arith, now, some));
  left = λ now. absurd (omega (arith, now, some));
  armed = λ later. refl;
  faults = refl;
}

-- a node without a journal is down
pub is_down : {D F : Type 0} (id : Identity) (state : State D F) → IsWhole id state → journal_in state ≡ None → IsDown state
is_down id (Up up) whole none = cc
is_down id state whole none = whole

pub down_seen : {D F : Type 0} (seen : D → DiskSeen) (id : Identity) (state : State D F) (disk : D) → state ≡ Down disk → seen_in seen id state ≡ seen_over id (seen disk)
down_seen seen id state disk is = ap (seen_in seen id) is

down_journal : {D F : Type 0} (state : State D F) → IsDown state → journal_in state ≡ None
down_journal (Down disk) h = refl
down_journal _ h = absurd h

down_acked : {D F : Type 0} (state : State D F) → IsDown state → acked_in state ≡ []
down_acked (Down disk) h = refl
down_acked _ h = absurd h

pub cut_down : {D F : Type 0} (seen : D → DiskSeen) (id : Identity) (calls outcome : ℕ) (fuse : Option (ℕ × ℕ)) (up armed : UpSeen) (fallen state : State D F) → calls ≡ 0 → up.journal.disk.of_file ≡ false → armed.journal.disk ≡ record up.journal.disk { fuse = fuse; calm = armed.journal.disk.calm } → disk_in seen fallen ≡ roomless armed.journal.disk
    → CutsNow outcome (disk_in seen fallen) (disk_in seen state) → IsDown state → CutAnswers {T = Unit {0}} calls outcome (seen_up id up) (Ok tt) (record { identity = id; disk = disk_in seen state; journal = journal_in state; acked = acked_in state })
cut_down seen id calls outcome fuse up armed fallen state none memory is fell cut down =
    let before : disk_in seen fallen ≡ fused (roomless up.journal.disk) fuse armed.journal.disk.calm = fell ∙ ap roomless is in
    let now : CutsNow outcome (fused (roomless up.journal.disk) fuse armed.journal.disk.calm) (disk_in seen state) = subst (λ d. CutsNow outcome d (disk_in seen state)) before cut in
    subst (λ (n : ℕ). CutAnswers {T = Unit {0}} n outcome (seen_up id up) (Ok tt) (record { identity = id; disk = disk_in seen state; journal = journal_in state; acked = acked_in state })) (sym none)
    (down_journal state down, down_acked state down, refl, cuts_now id outcome (roomless up.journal.disk) (disk_in seen state) fuse armed.journal.disk.calm memory now)

after_some : (calls : ℕ) (bodies : List (List ℕ)) → (calls ≡ 0 → ⊥) → Some bodies ≡ after_cut calls bodies
after_some zero bodies some = absurd (some refl)
after_some (suc n) bodies some = refl

acks_some : (calls : ℕ) (acked : List ℕ) → (calls ≡ 0 → ⊥) → acked ≡ acks_after_cut calls acked
acks_some zero acked some = absurd (some refl)
acks_some (suc n) acked some = refl

pub cut_later : (id : Identity) (calls outcome most : ℕ) (up armed : UpSeen) → (calls ≡ 0 → ⊥) → most ≡ max calls 1 → Tied id up.journal up.bodies → up.journal.disk.of_file ≡ false → armed.bodies ≡ up.bodies → armed.acked ≡ up.acked → armed.journal.disk ≡ record up.journal.disk { fuse = Some (most, outcome); calm = armed.journal.disk.calm }
    → CutAnswers {T = Unit {0}} calls outcome (seen_up id up) (Ok tt) (seen_up id armed)
cut_later id calls outcome most up armed some at tied memory same acks is =
    let above : 0 < calls = omega (arith, some) in
    let exact : most ≡ calls = omega (arith, at, above) in
    let after : fused (roomless up.journal.disk) (Some (calls, outcome)) armed.journal.disk.calm ≡ roomless armed.journal.disk = sym (ap roomless is ∙ ap (λ n. fused (roomless up.journal.disk) (Some (n, outcome)) armed.journal.disk.calm) exact) in
    let done : CutsDisk id calls outcome (roomless up.journal.disk) (roomless armed.journal.disk) = subst (CutsDisk id calls outcome (roomless up.journal.disk)) after (arms id calls outcome (roomless up.journal.disk) armed.journal.disk.calm above memory (λ told. (tied.ready told).synced)) in
    (ap Some same ∙ after_some calls up.bodies some, acks ∙ acks_some calls up.acked some, refl, done)

-- a node by which nothing was committed
pub same_up : (id : Identity) (up new : UpSeen) → new.bodies ≡ up.bodies → new.acked ≡ up.acked → roomless new.journal.disk ≡ roomless up.journal.disk → seen_up id new ≡ seen_up id up
same_up id up new bodies acked disk = λ i. record { identity = id; disk = disk i; journal = Some (bodies i); acked = acked i }

pub memory_up : {F : Type 0} (w : Environment F) (id : Identity) (now : ℕ) (event : Event) (item : Option Sent) (up new : UpSeen) (fault : CommitFault) → fault ≡ commit_fault.Memory → CommitsAs w id now event item {T = Unit {0}} up (Err fault) new → seen_up id new ≡ seen_up id up
memory_up w id now event item up new fault is said =
    let h : CommitsAs w id now event item {T = Unit {0}} up (Err commit_fault.Memory) new = subst (λ (k : CommitFault). CommitsAs w id now event item {T = Unit {0}} up (Err k) new) is said in
    same_up id up new h.0 h.1 h.2

-- a node that took a frame
pub fell : {D F : Type 0} (seen : D → DiskSeen) (id : Identity) (up : UpSeen) (state : State D F) → disk_in seen state ≡ roomless up.journal.disk → IsDown state → record { identity = id; disk = disk_in seen state; journal = journal_in state; acked = acked_in state } ≡ seen_down id up
fell seen id up state disk down = λ i. record { identity = id; disk = disk i; journal = down_journal state down i; acked = down_acked state down i }

pub after_fault : (id : Identity) (answer : Result Taken TakeFault) (up : UpSeen) → is_fault answer ≡ true → seen_after id answer up ≡ seen_down id up
after_fault id (Err take_fault.Fault) up h = refl
after_fault id other up h = cc

pub after_answer : (id : Identity) (answer : Result Taken TakeFault) (up : UpSeen) → is_fault answer ≡ false → seen_after id answer up ≡ seen_up id up
after_answer id (Err take_fault.Fault) up h = cc
after_answer id other up h = refl

-- a start at a node that is full
pub start_full : {F : Type 0} (m : Machine F) (f : Reads F) (now class : ℕ) (args : List ℕ) (id : Identity) (up : UpSeen) → IsOk (m.made class args (place (environment (unjudged m f) id) id.party.0 (flow_count (environment (unjudged m f) id) up.bodies) 0 now)) → is_full f 0 up.bodies ≡ true
    → StartAnswers (environment (unjudged m f) id) now class args (seen_up id up) (Err start_fault.Full) (seen_up id up)
start_full m f now class args id up made full = (made, full, refl)
