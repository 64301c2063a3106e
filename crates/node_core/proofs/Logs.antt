-- What an append of a record makes of a journal.
use Rattle.std.proofs.Common.{◌≡◌, ◌⊎◌, inr, ℕ, ◌+◌, ◌≤◌, List, [], ◌∷◌, ◌++◌, length, Some, Ok, Err, true, sym, ◌∙◌, ap, subst, arith, length-append}
use Rattle.outside.specs.Disk.{DiskSeen, EachImage, IfTold, SameRest, BurnsUpTo}
use Rattle.outside.specs.Faults.{Rose}
use Rattle.outside.proofs.Moments.{weaker}
use Rattle.net_model.specs.State.{Record}
use Rattle.disk_journal.specs.Journal.{JournalSeen, IsReady, IsSound, IsYoung, IsOldOrNew, journal_of}
use Rattle.flow_records.specs.Records.{record_of}
use Rattle.node_core.specs.declared.faults.CommitFault.TheVariants as commit_fault
use Rattle.node_tables.specs.Journals.{Reads}
use Rattle.node_core.specs.Journals.{bytes_of}
use Rattle.node_core.specs.Disks.{roomless, Moves, KeepsForm, OldOrMore}
use Rattle.node_core.specs.Seen.{Tied, LogsAs, AppendsWithPower}
use Rattle.node_core.proofs.Power.{up_to_roomless, powered_roomless}

pub bytes_push : (bs : List (List ℕ)) (b : List ℕ) → bytes_of (bs ++ b ∷ []) ≡ bytes_of bs + (5 + length b)
bytes_push [] b = omega arith
bytes_push (x ∷ xs) b = let e = bytes_push xs b in omega (arith, e)

-- the same journal but for room
pub record SameButRoom (old new : JournalSeen) : Type 0 where
  pub same : new ≡ record old { disk = new.disk; buffer = new.buffer }
  pub disk : new.disk ≡ record old.disk { room_end = new.disk.room_end; room_writes = new.disk.room_writes }

pub same_whole : (old new : JournalSeen) → SameButRoom old new → new ≡ record old { disk = record old.disk { room_end = new.disk.room_end; room_writes = new.disk.room_writes }; buffer = new.buffer }
same_whole old new is = is.same ∙ ap (λ d. record old { disk = d; buffer = new.buffer }) is.disk

-- what a call of the disk leaves of a journal
pub record Stays (old new : JournalSeen) (body : List ℕ) : Type 0 where
  pub rest : SameRest old.disk new.disk × (new.of ≡ old.of)
  pub later : old.disk.faults ≤ new.disk.faults
  pub moments : IfTold old.disk new.disk (λ d e. EachImage d e (λ c. IsOldOrNew (journal_of d.kept) body c × IsSound old.of c))
  pub kept : IfTold old.disk new.disk (λ d e. IsOldOrNew (journal_of d.kept) body e.kept)

old_or_more : (list bodies : List (List ℕ)) (body c : List ℕ) → list ≡ bodies → IsOldOrNew list body c → (journal_of c ≡ bodies) ⊎ (journal_of c ≡ bodies ++ body ∷ [])
old_or_more list bodies body c same h = subst (λ l. (journal_of c ≡ l) ⊎ (journal_of c ≡ l ++ body ∷ [])) same h

pub stays_moves : (old new : JournalSeen) (bodies : List (List ℕ)) (body : List ℕ) → Tied old.of old bodies → Stays old new body → Moves (roomless old.disk) (roomless new.disk) (OldOrMore bodies body)
stays_moves old new bodies body tied h = record {
  file = h.rest.0.of_file;
  attached = h.rest.0.attached;
  tells = h.rest.0.tells;
  later = h.later;
  images = λ told. weaker old.disk.state new.disk.state _ (OldOrMore bodies body old.disk.state) (λ c p. old_or_more (journal_of old.disk.state.kept) bodies body c (tied.kept told) p.0) (h.moments told);
  kept = λ told. old_or_more (journal_of old.disk.state.kept) bodies body new.disk.state.kept (tied.kept told) (h.kept told);
}

pub stays_form : (old new : JournalSeen) (body : List ℕ) → Stays old new body → KeepsForm old.of (roomless old.disk) (roomless new.disk)
stays_form old new body h = record {
  sound = λ told was. weaker old.disk.state new.disk.state _ (IsSound old.of) (λ c p. p.1) (h.moments told);
  young = λ told was. weaker old.disk.state new.disk.state _ (IsYoung old.of) (λ c p. inr (inr p.1)) (h.moments told);
}

-- the journal is tied as before where nothing but its room changed
pub tied_same : (old new : JournalSeen) (bodies : List (List ℕ)) → Tied old.of old bodies → SameButRoom old new → IsReady new → Tied old.of new bodies
tied_same old new bodies tied is ready =
    let same = same_whole old new is in
    record {
      limits = tied.limits;
      of = ap (λ (j : JournalSeen). j.of) same;
      ready = ready;
      counted = ap (λ (j : JournalSeen). j.count) same ∙ tied.counted;
      ended = ap (λ (j : JournalSeen). j.length) same ∙ tied.ended;
      kept = subst (λ (d : DiskSeen). d.tells ≡ true → journal_of d.state.kept ≡ bodies) (sym (ap (λ (j : JournalSeen). record j.disk { room_end = 0; room_writes = 0 }) same)) tied.kept;
    }

module _ {F : Type 0} (f : Reads F) (r : Record F) (bodies : List (List ℕ)) (body : List ℕ) (reads : record_of f body ≡ Some r) where
  logged : (old new : JournalSeen) → Tied old.of old bodies → Stays old new body → IsReady new → IfTold old.disk new.disk (λ d e. journal_of e.kept ≡ journal_of d.kept ++ body ∷ [])
      → (new.length ≡ old.length + 5 + length body) × (new.count ≡ old.count + 1) → (old.disk.calm ≡ true → new.disk.calm ≡ true) → AppendsWithPower old.disk new.disk → LogsAs f r bodies old (Ok body) new
  logged old new tied stays ready done counts calm power = (
    reads,
    record {
      limits = tied.limits;
      of = stays.rest.1;
      ready = ready;
      counted = omega (arith, counts.1, tied.counted, length-append bodies (body ∷ []));
      ended = omega (arith, counts.0, tied.ended, bytes_push bodies body);
      kept = λ told. let before : old.disk.tells ≡ true = sym stays.rest.0.tells ∙ told in done before ∙ ap (λ l. l ++ body ∷ []) (tied.kept before);
    },
    stays_moves old new bodies body tied stays,
    stays_form old new body stays,
    calm,
    powered_roomless old.disk new.disk power,
  )

  failed : (old new : JournalSeen) → Tied old.of old bodies → Stays old new body → Rose old.disk.faults new.disk.faults → (old.disk.calm ≡ true → ⊥) → BurnsUpTo 4 old.disk new.disk → LogsAs f r bodies old (Err commit_fault.Fault) new
  failed old new tied stays rose calm burns = (body, reads, stays_moves old new bodies body tied stays, stays_form old new body stays, rose, calm, up_to_roomless 4 old.disk new.disk burns)

  -- an append after room was made
  pub logs : (old roomy new : JournalSeen) → Tied old.of old bodies → SameButRoom old roomy → IsReady roomy → Stays roomy new body → IsReady new → IfTold roomy.disk new.disk (λ d e. journal_of e.kept ≡ journal_of d.kept ++ body ∷ [])
      → (new.length ≡ roomy.length + 5 + length body) × (new.count ≡ roomy.count + 1) → (roomy.disk.calm ≡ true → new.disk.calm ≡ true) → AppendsWithPower roomy.disk new.disk → LogsAs f r bodies old (Ok body) new
  logs old roomy new tied is first stays ready done counts calm power =
      let same = same_whole old roomy is in
      let t : Tied roomy.of roomy bodies = subst (λ id. Tied id roomy bodies) (sym (ap (λ (j : JournalSeen). j.of) same)) (tied_same old roomy bodies tied is first) in
      subst (λ (j : JournalSeen). LogsAs f r bodies j (Ok body) new) same (logged roomy new t stays ready done counts calm power)

  pub fails : (old roomy new : JournalSeen) → Tied old.of old bodies → SameButRoom old roomy → IsReady roomy → Stays roomy new body → Rose roomy.disk.faults new.disk.faults → (roomy.disk.calm ≡ true → ⊥) → BurnsUpTo 4 roomy.disk new.disk → LogsAs f r bodies old (Err commit_fault.Fault) new
  fails old roomy new tied is first stays rose calm burns =
      let same = same_whole old roomy is in
      let t : Tied roomy.of roomy bodies = subst (λ id. Tied id roomy bodies) (sym (ap (λ (j : JournalSeen). j.of) same)) (tied_same old roomy bodies tied is first) in
      subst (λ (j : JournalSeen). LogsAs f r bodies j (Err commit_fault.Fault) new) same (failed roomy new t stays rose calm burns)
