-- How a journal is opened.
use Rattle.std.proofs.Common.{◌≡◌, ◌⊎◌, inl, inr, ⊎_elim, ℕ, ◌+◌, ◌≤◌, List, [], ◌∷◌, length, Some, None, Err, true, false, refl, sym, ◌∙◌, ap, subst, arith}
use Rattle.std.proofs.lemmas.List.{length-map}
use Rattle.outside.specs.Disk.{DiskSeen, IsImage, EachImage, IfTold, Burns, BurnsUpTo, clean}
use Rattle.outside.specs.Faults.{Rose}
use Rattle.outside.proofs.Moments.{at_now}
use Rattle.net_base.specs.declared.names.Identity.{Identity}
use Rattle.net_base.specs.Names.{IsIdentity}
use Rattle.disk_journal.specs.Journal.{JournalSeen, IsReady, IsSound, IsYoung, GivesUp, WasSpelt, journal_of, is_unformatted, formatted, opening_calls, refusal, placed, size_of}
use Rattle.disk_journal.specs.declared.fault.OpenFault.{OpenFault}
use Rattle.disk_journal.specs.declared.fault.OpenFault.TheVariants as open_fault
use Rattle.node_tables.specs.declared.boot.RebuildFault.{RebuildFault}
use Rattle.node_tables.specs.declared.boot.RebuildFault.TheVariants as rebuild_fault
use Rattle.node_tables.specs.Journals.{Reads}
use Rattle.node_tables.specs.Seen.{RebuildsAs}
use Rattle.node_tables.proofs.Boots.{bodies_in}
use Rattle.node_core.specs.Journals.{bytes_of}
use Rattle.node_core.specs.Disks.{roomless}
use Rattle.node_core.specs.Seen.{Tied, Opens, Refuses, Unfit, Unbooted, GaveUp, boot_by, boot_of}
use Rattle.node_core.proofs.Commits.{tied_holds}
use Rattle.node_core.proofs.Power.{burns_roomless, up_to_roomless}

-- ---- a list with places

placed_bodies : (at : ℕ) (bodies : List (List ℕ)) → bodies_in (placed at bodies) ≡ bodies
placed_bodies at [] = refl
placed_bodies at (b ∷ rest) = ap (λ l. b ∷ l) (placed_bodies (at + (5 + length b)) rest)

sizes : (list : List (ℕ × List ℕ)) → bytes_of (bodies_in list) ≡ size_of list
sizes [] = refl
sizes (x ∷ xs) = ap (λ n. 5 + length x.1 + n) (sizes xs)

-- ---- an opening

-- what is kept is an image, where nothing is pending
pub kept_image : (x : List ℕ) → IsImage (clean x) x
kept_image x = record { no_shorter = omega arith; no_longer = omega arith; elsewhere = λ i below free. refl }

-- all that an opening says of the journal that it gives
pub record Opening (id : Identity) (old : DiskSeen) (journal : JournalSeen) (list : List (ℕ × List ℕ)) : Type 0 where
  pub limits : IsIdentity id
  pub format : old.tells ≡ true → refusal id old.state.kept ≡ None
  pub told : old.tells ≡ true → list ≡ placed 16 (journal_of old.state.kept)
  pub ready : IsReady journal × (journal.of ≡ id)
  pub left : IfTold old journal.disk (λ d e. e.kept ≡ formatted id d.kept)
  pub same : IfTold old journal.disk (λ d e. journal_of e.kept ≡ journal_of d.kept)
  pub counts : (journal.count ≡ length list) × (journal.length ≡ 17 + size_of list) × (journal.count ≤ 65536)
  pub moments : IfTold old journal.disk (λ d e. EachImage d e (WasSpelt d))
  pub young : IfTold old journal.disk (λ d e. ((c : List ℕ) → IsImage d.now c → IsYoung id c) → EachImage d e (IsYoung id))
  pub sound : IfTold old journal.disk (λ d e. ((c : List ℕ) → IsImage d.now c → IsSound id c) → EachImage d e (IsSound id))
  pub later : old.faults ≤ journal.disk.faults
  pub calm : old.calm ≡ true → journal.disk.calm ≡ true
  pub power : (old.power ≡ true) × (journal.disk.power ≡ true)
  pub burns : old.tells ≡ true → Burns (opening_calls old.state.kept) old journal.disk
  pub no_more : BurnsUpTo 7 old journal.disk
  pub attached : journal.disk.attached ≡ old.attached
  pub rest : (journal.disk.of_file ≡ old.of_file) × (journal.disk.tells ≡ old.tells)

pub opening_tied : (id : Identity) (old : DiskSeen) (journal : JournalSeen) (list : List (ℕ × List ℕ)) (bodies : List (List ℕ)) → Opening id old journal list → bodies ≡ bodies_in list → Tied id journal bodies
opening_tied id old journal list bodies o is =
    let t : Tied id journal (bodies_in list) = record {
      limits = o.limits;
      of = o.ready.1;
      ready = o.ready.0;
      counted = o.counts.0 ∙ sym (length-map list (λ (y : ℕ × List ℕ). y.1));
      ended = o.counts.1 ∙ ap (λ n. 17 + n) (sym (sizes list));
      kept = λ told.
          let before : old.tells ≡ true = sym o.rest.1 ∙ told in
          o.same before ∙ sym (placed_bodies 16 (journal_of old.state.kept)) ∙ ap bodies_in (sym (o.told before));
    } in
    subst (Tied id journal) (sym is) t

pub opening_opens : (id : Identity) (old : DiskSeen) (journal : JournalSeen) (list : List (ℕ × List ℕ)) → Opening id old journal list → Opens id (roomless old) (roomless journal.disk) list
opening_opens id old journal list o = record {
  moves = record {
    file = o.rest.0;
    attached = o.attached;
    tells = o.rest.1;
    later = o.later;
    images = o.moments;
    kept = λ told.
        let after : journal.disk.tells ≡ true = o.rest.1 ∙ told in
        let now : IsImage journal.disk.state.now journal.disk.state.kept = subst (λ s. IsImage s journal.disk.state.kept) (sym (o.ready.0 after).synced) (kept_image journal.disk.state.kept) in
        at_now old.state journal.disk.state (WasSpelt old.state) (o.moments told) journal.disk.state.kept now;
  };
  form = record { sound = o.sound; young = o.young };
  holds = tied_holds id journal (bodies_in list) (opening_tied id old journal list (bodies_in list) o refl);
  few = omega (arith, o.counts.0, o.counts.2);
  told = o.told;
  format = o.format;
  left = o.left;
  same = o.same;
  calm = o.calm;
  power = o.power;
  burns = λ told. burns_roomless (opening_calls old.state.kept) old journal.disk (o.burns told);
  no_more = up_to_roomless 7 old journal.disk o.no_more;
}

-- all that an opening says of the disk that it gives back
pub record Closing (id : Identity) (old : DiskSeen) (why : OpenFault) (new : DiskSeen) : Type 0 where
  pub refused : old.tells ≡ true → GivesUp why ⊎ (refusal id old.state.kept ≡ Some why)
  pub begun : old.tells ≡ true → IsYoung id old.state.kept → GivesUp why
  pub was : old.tells ≡ true → IsImage old.state.now old.state.kept
  pub kept : (why ≡ open_fault.Fault → ⊥) → IfTold old new (λ d e. journal_of e.kept ≡ journal_of d.kept)
  pub bytes : (why ≡ open_fault.Fault → ⊥) → IfTold old new (λ d e. (e.kept ≡ d.kept) × (e.now ≡ clean e.kept))
  pub moments : IfTold old new (λ d e. EachImage d e (WasSpelt d) × WasSpelt d e.kept)
  pub young : IfTold old new (λ d e. ((c : List ℕ) → IsImage d.now c → IsYoung id c) → EachImage d e (IsYoung id))
  pub sound : IfTold old new (λ d e. ((c : List ℕ) → IsImage d.now c → IsSound id c) → EachImage d e (IsSound id))
  pub cause : why ≡ open_fault.Fault → Rose old.faults new.faults
  pub later : old.faults ≤ new.faults
  pub calm : old.calm ≡ true → (new.calm ≡ true) × (why ≡ open_fault.Fault → ⊥)
  pub power : (why ≡ open_fault.Fault → ⊥) → (old.power ≡ true) × (new.power ≡ true)
  pub burns : (why ≡ open_fault.Fault → ⊥) → Burns 1 old new
  pub no_more : BurnsUpTo 7 old new
  pub attached : new.attached ≡ old.attached
  pub rest : (new.of_file ≡ old.of_file) × (new.tells ≡ old.tells)

refuses : (id : Identity) (old new : DiskSeen) (why : OpenFault) → Closing id old why new → Refuses id why old new
refuses id old new open_fault.Fault c = (c.cause refl, λ calm. (c.calm calm).1 refl)
refuses id old new open_fault.Memory c = tt
refuses id old new open_fault.NotAJournal c = λ told. ⊎_elim (λ (g : ⊥). absurd g) (λ e. e) (c.refused told)
refuses id old new (open_fault.WrongNode found) c = λ told. ⊎_elim (λ (g : ⊥). absurd g) (λ e. e) (c.refused told)
refuses id old new (open_fault.Damaged at) c = λ told. ⊎_elim (λ (g : ⊥). absurd g) (λ e. e) (c.refused told)

refuses_roomless : (id : Identity) (old new : DiskSeen) (why : OpenFault) → Refuses id why old new → Refuses id why (roomless old) (roomless new)
refuses_roomless id old new open_fault.Fault h = h
refuses_roomless id old new open_fault.Memory h = h
refuses_roomless id old new open_fault.NotAJournal h = h
refuses_roomless id old new (open_fault.WrongNode found) h = h
refuses_roomless id old new (open_fault.Damaged at) h = h

gave_up : (why : OpenFault) → GivesUp why → GaveUp (boot_of why)
gave_up open_fault.Fault h = tt
gave_up open_fault.Memory h = tt
gave_up open_fault.NotAJournal h = absurd h
gave_up (open_fault.WrongNode found) h = absurd h
gave_up (open_fault.Damaged at) h = absurd h

pub unopened : {F : Type 0} (f : Reads F) (id : Identity) (old new : DiskSeen) (why : OpenFault) → Closing id old why new → Unbooted f id (roomless old) (boot_of why) (roomless new)
unopened f id old new why c = record {
  moves = record { file = c.rest.0; attached = c.attached; tells = c.rest.1; later = c.later; images = λ told. (c.moments told).0; kept = λ told. (c.moments told).1 };
  form = record { sound = c.sound; young = c.young };
  same = λ other. c.kept (λ is. other (ap boot_of is));
  bytes = λ other told journal. (c.bytes (λ is. other (ap boot_of is)) told).0;
  calm = λ calm. (c.calm calm).0;
  no_more = up_to_roomless 7 old new c.no_more;
  power = λ other. c.power (λ is. other (ap boot_of is));
  burns = λ other. inl (burns_roomless 1 old new (c.burns (λ is. other (ap boot_of is))));
  cause = inl (why, refl, refuses_roomless id old new why (refuses id old new why c));
  begun = λ told young. inl (gave_up why (c.begun told (young old.state.kept (c.was told))));
}

unfit : {F : Type 0} (f : Reads F) (id : Identity) (old new : DiskSeen) (list : List (ℕ × List ℕ)) (why : RebuildFault) → RebuildsAs f id.notary id.nodes id.party list (Err why) → Opens id old new list → Unfit f id old (boot_by why) new
unfit f id old new list (rebuild_fault.Damaged at) said o = (list, o, said)
unfit f id old new list rebuild_fault.Memory said o = (list, o)

-- a disk on which a journal was begun and finished is left as it is
formatted_stays : (id : Identity) (x : List ℕ) → is_unformatted x ≡ false → formatted id x ≡ x
formatted_stays id x is = rw is refl

pub unbooted : {F : Type 0} (f : Reads F) (id : Identity) (old : DiskSeen) (journal : JournalSeen) (list : List (ℕ × List ℕ)) (why : RebuildFault) → Opening id old journal list → RebuildsAs f id.notary id.nodes id.party list (Err why) → Unbooted f id (roomless old) (boot_by why) (roomless journal.disk)
unbooted f id old journal list why o said =
    let opens = opening_opens id old journal list o in
    let unfits = unfit f id (roomless old) (roomless journal.disk) list why said opens in
    record {
      moves = opens.moves;
      form = opens.form;
      same = λ other. opens.same;
      bytes = λ other told is. opens.left told ∙ formatted_stays id old.state.kept is;
      calm = opens.calm;
      no_more = opens.no_more;
      power = λ other. opens.power;
      burns = λ other. inr unfits;
      cause = inr unfits;
      begun = λ told young. inr unfits;
    }
