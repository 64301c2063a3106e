-- A node's history, over any disk: what each call leaves, and how many records all committed.
use Rattle.std.proofs.Common.{◌≡◌, ◌⊎◌, inl, inr, ⊎_elim, ℕ, zero, suc, ◌+◌, ◌*◌, ◌<◌, ◌≤◌, ◌||◌, List, [], ◌∷◌, ◌++◌, Option, Some, None, Result, Ok, Err, Bool, true, false, length, nat_le, refl, sym, ap, subst, ◌∙◌, arith, append-nil, length-append}
use Rattle.std.proofs.lemmas.Bool.{true≢false}
use Rattle.std.proofs.lemmas.Bool.Decides.{nat_tests}
use Rattle.std.proofs.lemmas.Option.{MatchOption-at_none, MatchOption-at_some, none-some}
use Rattle.net_base.proofs.Options.{some_eq}
use Rattle.outside.specs.Disk.{DiskSeen, EachImage, IfTold, Burns, BurnsUpTo}
use Rattle.outside.specs.Faults.{Rose}
use Rattle.outside.proofs.Burning.{burns_none, burns_then, up_to}
use Rattle.outside.proofs.Moments.{at_now, started, then, weaker}
use Rattle.disk_journal.specs.Journal.{IsSound, IsYoung, journal_of}
use Rattle.net_base.specs.declared.names.Identity.{Identity}
use Rattle.net_base.specs.declared.names.Key.{Key}
use Rattle.net_base.specs.declared.values.Party.{Party}
use Rattle.net_base.specs.declared.causes.Event.{Event}
use Rattle.session_wire.specs.Sessions.{Sent}
use Rattle.session_frames.specs.declared.judged.Judged.{Judged}
use Rattle.session_frames.specs.declared.judged.Judged.TheVariants as judged
use Rattle.session_frames.specs.declared.sending.Outgoing.{Outgoing}
use Rattle.net_model.specs.Environment.{Environment, Meaning, environment}
use Rattle.net_model.specs.Steps.{stamp_in}
use Rattle.ledger_acts.specs.declared.job.Job.{Job}
use Rattle.node_core.specs.declared.faults.SharedTurn.{SharedTurn}
use Rattle.node_core.specs.declared.faults.SharedTurn.TheVariants as shared
use Rattle.node_core.specs.declared.faults.TurnFault.{TurnFault}
use Rattle.node_core.specs.declared.faults.TurnFault.TheVariants as turn_fault
use Rattle.node_core.specs.declared.faults.SettleFault.{SettleFault}
use Rattle.node_core.specs.declared.faults.SettleFault.TheVariants as settle_fault
use Rattle.node_core.specs.declared.faults.Taken.{Taken}
use Rattle.node_core.specs.declared.faults.Taken.TheVariants as taken
use Rattle.node_core.specs.declared.faults.TakeFault.{TakeFault}
use Rattle.node_core.specs.declared.faults.TakeFault.TheVariants as take_fault
use Rattle.node_core.specs.Claims.{SettlesAs, SettleAnswers, TurnsBeside, TurnAnswersBeside}
use Rattle.node_core.specs.Disks.{KeepsForm, KeepsImages, Moves, OldOrMore}
use Rattle.node_core.specs.Journals.{is_full}
use Rattle.node_core.specs.Seen.{NodeSeen, Commits, Faults}
use Rattle.node_core.specs.Takes.{AcceptsAs, Responds, TakesAs, TakeAnswers}
use Rattle.node_tables.specs.Journals.{Reads}
use Rattle.work_law.specs.Calls.{Turns, Settles, Takes, Went, here, by_turn, by_settle, by_take, by_send, turn_commits, settle_commits, take_commits}
use Rattle.work_law.specs.Lasting.{GoesOnBy, HoldsJournal, SpellsBetween, ImagesGo, WritesEach, Lasts, HistoriesLast}
use Rattle.work_law.proofs.Worlds.{append_twice, grows_one, grows_same, grows_then, grows_wider, rose_later}

-- ---- a disk, at every moment

keeps_then : (P : List ℕ → Type 0) (a b c : DiskSeen) → b.tells ≡ a.tells → KeepsImages P a b → KeepsImages P b c → KeepsImages P a c
keeps_then P a b c told h k tells all =
    let first = h tells all in
    then a.state b.state c.state P first (k (told ∙ tells) (λ x image. at_now a.state b.state P first x image))

form_then : (i j : Identity) (a b c : DiskSeen) → j ≡ i → b.tells ≡ a.tells → KeepsForm i a b → KeepsForm j b c → KeepsForm i a c
form_then i j a b c same told h k = record {
  sound = keeps_then (IsSound i) a b c told h.sound (subst (λ (z : Identity). KeepsImages (IsSound z) b c) same k.sound);
  young = keeps_then (IsYoung i) a b c told h.young (subst (λ (z : Identity). KeepsImages (IsYoung z) b c) same k.young);
}

form_same : (i : Identity) (a : DiskSeen) → KeepsForm i a a
form_same i a = record {
  sound = λ tells all. started a.state (IsSound i) all;
  young = λ tells all. started a.state (IsYoung i) all;
}

-- an image that spells a journal on the way spells one on a longer way
between_to : (first mid last rest : List (List ℕ)) (c : List ℕ) → last ≡ mid ++ rest → SpellsBetween first mid c → SpellsBetween first last c
between_to first mid last rest c is s = record {
  more = s.more;
  on = s.on;
  rest = s.rest ++ rest;
  to = is ∙ ap (λ (l : List (List ℕ)). l ++ rest) s.to ∙ append_twice (journal_of c) s.rest rest;
}

between_from : (first mid last more : List (List ℕ)) (c : List ℕ) → mid ≡ first ++ more → SpellsBetween mid last c → SpellsBetween first last c
between_from first mid last more c is s = record {
  more = more ++ s.more;
  on = s.on ∙ ap (λ (l : List (List ℕ)). l ++ s.more) is ∙ append_twice first more s.more;
  rest = s.rest;
  to = s.to;
}

between_same : (bodies : List (List ℕ)) (c : List ℕ) → journal_of c ≡ bodies → SpellsBetween bodies bodies c
between_same bodies c is = record {
  more = [];
  on = is ∙ sym (append-nil bodies);
  rest = [];
  to = sym is ∙ sym (append-nil (journal_of c));
}

-- while a record is appended
between_one : (bodies : List (List ℕ)) (body : List ℕ) (c : List ℕ) → (journal_of c ≡ bodies) ⊎ (journal_of c ≡ bodies ++ body ∷ []) → SpellsBetween bodies (bodies ++ body ∷ []) c
between_one bodies body c (inl at) = record {
  more = [];
  on = at ∙ sym (append-nil bodies);
  rest = body ∷ [];
  to = ap (λ (z : List (List ℕ)). z ++ body ∷ []) (sym at);
}
between_one bodies body c (inr at) = record {
  more = body ∷ [];
  on = at;
  rest = [];
  to = sym at ∙ sym (append-nil (journal_of c));
}

-- a record was appended, or may have been
images_one : (count : ℕ) (bodies : List (List ℕ)) (body : List ℕ) (n k : NodeSeen) → count ≤ 1 → ((all : List (List ℕ)) → k.journal ≡ Some all → bodies ++ body ∷ [] ≡ all) → Moves n.disk k.disk (OldOrMore bodies body) → ImagesGo count bodies n k
images_one count bodies body n k few is moves = record {
  last = bodies ++ body ∷ [];
  is_last = is;
  grows = grows_one count 1 bodies (bodies ++ body ∷ []) body few (omega arith) refl;
  images = λ tells.
      weaker n.disk.state k.disk.state (OldOrMore bodies body n.disk.state) (SpellsBetween bodies (bodies ++ body ∷ []))
      (λ c may. between_one bodies body c may)
      (moves.images tells);
}

-- ---- one call after another

up_or_down : (P : Type 0) (j : Option (List (List ℕ))) → (j ≡ None → P) → ((bodies : List (List ℕ)) → j ≡ Some bodies → P) → P
up_or_down P None down up = down refl
up_or_down P (Some bodies) down up = up bodies refl

not_both : (j : Option (List (List ℕ))) (bodies : List (List ℕ)) → j ≡ Some bodies → j ≡ None → ⊥
not_both j bodies is none = none-some _ (sym none ∙ is)

goes_on_then : (ca cb : ℕ) (a b c : List (List ℕ)) → GoesOnBy ca a b → GoesOnBy cb b c → GoesOnBy (ca + cb) a c
goes_on_then ca cb a b c h k = record {
  more = h.more ++ k.more;
  front = k.front ∙ ap (λ (l : List (List ℕ)). l ++ k.more) h.front ∙ append_twice a h.more k.more;
  counted = omega (arith, h.counted, k.counted, length-append h.more k.more);
}

-- a disk that rested
images_same : (n k : NodeSeen) (bodies : List (List ℕ)) → k.journal ≡ n.journal → k.disk ≡ n.disk → HoldsJournal n → n.journal ≡ Some bodies → ImagesGo 0 bodies n k
images_same n k bodies journal disk held was = record {
  last = bodies;
  is_last = λ all is. some_eq (sym was ∙ sym journal ∙ is);
  grows = grows_wider 0 0 1 bodies bodies (omega arith) (grows_same 0 bodies);
  images = λ tells.
      subst (λ (v : DiskSeen). EachImage n.disk.state v.state (SpellsBetween bodies bodies)) (sym disk)
      (started n.disk.state (SpellsBetween bodies bodies) (λ c image. between_same bodies c (held bodies was tells c image)));
}

-- a node that is down rests
images_rest : (ca cb : ℕ) (n k l : NodeSeen) (bodies : List (List ℕ)) → k.journal ≡ None → (l ≡ k) × (cb ≡ 0) → ImagesGo ca bodies n k → ImagesGo (ca + cb) bodies n l
images_rest ca cb n k l bodies gone rests h = record {
  last = h.last;
  is_last = λ all is. absurd (not_both l.journal all is (ap (λ (z : NodeSeen). z.journal) rests.0 ∙ gone));
  grows = record { more = h.grows.more; front = h.grows.front; least = omega (arith, h.grows.least, rests.1); bound = omega (arith, h.grows.bound, rests.1) };
  images = subst (λ (z : NodeSeen). IfTold n.disk z.disk (λ d e. EachImage d e (SpellsBetween bodies h.last))) (sym rests.0) h.images;
}

images_then : (ca cb : ℕ) (n k l : NodeSeen) (bodies mid : List (List ℕ)) → GoesOnBy ca bodies mid → k.disk.tells ≡ n.disk.tells → ImagesGo ca bodies n k → k.journal ≡ Some mid → ImagesGo cb mid k l → ImagesGo (ca + cb) bodies n l
images_then ca cb n k l bodies mid on told h at g = record {
  last = g.last;
  is_last = g.is_last;
  grows = grows_then ca cb 0 1 bodies mid g.last (record { more = on.more; front = on.front; least = omega (arith, on.counted); bound = omega (arith, on.counted) }) g.grows;
  images = λ tells.
      let is : mid ≡ h.last = sym (h.is_last mid at) in
      let to : g.last ≡ h.last ++ g.grows.more = g.grows.front ∙ ap (λ (z : List (List ℕ)). z ++ g.grows.more) is in
      then n.disk.state k.disk.state l.disk.state (SpellsBetween bodies g.last)
      (weaker n.disk.state k.disk.state (SpellsBetween bodies h.last) (SpellsBetween bodies g.last) (λ c s. between_to bodies h.last g.last g.grows.more c to s) (h.images tells))
      (weaker k.disk.state l.disk.state (SpellsBetween mid g.last) (SpellsBetween bodies g.last) (λ c s. between_from bodies mid g.last on.more c on.front s) (g.images (told ∙ tells)));
}

-- a disk that rested
writes_none : (n k : NodeSeen) → k.disk ≡ n.disk → WritesEach 0 n k
writes_none n k disk = record {
  mid = n.disk;
  each = burns_none n.disk n.disk refl refl;
  power = refl;
  powered = λ some. absurd (omega (arith, some));
  rest = subst (BurnsUpTo 4 n.disk) (sym disk) (up_to 0 4 n.disk n.disk (omega arith) (burns_none n.disk n.disk refl refl));
  up = λ bodies is. disk;
}

writes_rest : (ca cb : ℕ) (n k l : NodeSeen) → (l ≡ k) × (cb ≡ 0) → WritesEach ca n k → WritesEach (ca + cb) n l
writes_rest ca cb n k l rests h =
    let same : ca ≡ ca + cb = omega (arith, rests.1) in
    subst (λ (c : ℕ). WritesEach c n l) same (subst (WritesEach ca n) (sym rests.0) h)

either : (ca cb : ℕ) → 0 < ca + cb → (0 < ca) ⊎ (0 < cb)
either zero cb some = inr (omega (arith, some))
either (suc ca) cb some = inl (omega arith)

writes_then : (ca cb : ℕ) (n k l : NodeSeen) (mid : List (List ℕ)) → k.journal ≡ Some mid → WritesEach ca n k → WritesEach cb k l → WritesEach (ca + cb) n l
writes_then ca cb n k l mid at h g =
    let is : k.disk ≡ h.mid = h.up mid at in
    let first : Burns (4 * ca) n.disk k.disk = subst (Burns (4 * ca) n.disk) (sym is) h.each in
    let power : k.disk.power ≡ n.disk.power = ap (λ (d : DiskSeen). d.power) is ∙ h.power in
    let calls : 4 * ca + 4 * cb ≡ 4 * (ca + cb) = omega arith in
    record {
      mid = g.mid;
      each = subst (λ (c : ℕ). Burns c n.disk g.mid) calls (burns_then (4 * ca) (4 * cb) n.disk k.disk g.mid first g.each);
      power = g.power ∙ power;
      powered = λ some. ⊎_elim (λ one. h.powered one) (λ two. sym power ∙ g.powered two) (either ca cb some);
      rest = g.rest;
      up = g.up;
    }

lasts_then : (ca cb : ℕ) (n k l : NodeSeen) → Lasts ca n k → Lasts cb k l → Lasts (ca + cb) n l
lasts_then ca cb n k l h g = record {
  identity = g.identity ∙ h.identity;
  down = λ down.
      let one = h.down down in
      let two = g.down (ap (λ (z : NodeSeen). z.journal) one.0 ∙ down) in
      (two.0 ∙ one.0, omega (arith, one.1, two.1));
  journal = λ bodies more was is. up_or_down (GoesOnBy (ca + cb) bodies more) k.journal
      (λ none. absurd (not_both l.journal more is (ap (λ (z : NodeSeen). z.journal) (g.down none).0 ∙ none)))
      (λ mid at. goes_on_then ca cb bodies mid more (h.journal bodies mid was at) (g.journal mid more at is));
  rose = λ bodies was none. up_or_down (Rose n.disk.faults l.disk.faults) k.journal
      (λ gone. subst (λ (z : NodeSeen). Rose n.disk.faults z.disk.faults) (sym (g.down gone).0) (h.rose bodies was gone))
      (λ mid at. rose_later n.disk.faults k.disk.faults l.disk.faults h.later (g.rose mid at none));
  later = omega (arith, h.later, g.later);
  calm = λ calm. g.calm (h.calm calm);
  stays_up = λ bodies calm was none. up_or_down ⊥ k.journal
      (λ gone. h.stays_up bodies calm was gone)
      (λ mid at. g.stays_up mid (h.calm calm) at none);
  file = g.file ∙ h.file;
  attached = g.attached ∙ h.attached;
  tells = g.tells ∙ h.tells;
  writes = up_or_down (WritesEach (ca + cb) n l) k.journal
      (λ gone. writes_rest ca cb n k l (g.down gone) h.writes)
      (λ mid at. writes_then ca cb n k l mid at h.writes g.writes);
  form = form_then n.identity k.identity n.disk k.disk l.disk h.identity h.tells h.form g.form;
  holds = λ held. g.holds (h.holds held);
  images = λ held bodies was. up_or_down (ImagesGo (ca + cb) bodies n l) k.journal
      (λ gone. images_rest ca cb n k l bodies gone (g.down gone) (h.images held bodies was))
      (λ mid at. images_then ca cb n k l bodies mid (h.journal bodies mid was at) h.tells (h.images held bodies was) at (g.images (h.holds held) mid at));
}

lasts_same : (n : NodeSeen) → Lasts 0 n n
lasts_same n = record {
  identity = refl;
  down = λ down. (refl, refl);
  journal = λ bodies more was is. record { more = []; front = some_eq (sym is ∙ was) ∙ sym (append-nil bodies); counted = refl };
  rose = λ bodies was none. absurd (not_both n.journal bodies was none);
  later = omega arith;
  calm = λ calm. calm;
  stays_up = λ bodies calm was none. not_both n.journal bodies was none;
  file = refl;
  attached = refl;
  tells = refl;
  writes = writes_none n n refl;
  form = form_same n.identity n.disk;
  holds = λ held. held;
  images = λ held bodies was. images_same n n bodies refl refl held was;
}

-- ---- how many

-- this number of records was committed, and a node that is up has them all
record Few (count : ℕ) (n : NodeSeen) : Type 0 where
  most : count ≤ 65536
  within : (bodies : List (List ℕ)) → n.journal ≡ Some bodies → count ≤ length bodies

-- one call
record Call (more : ℕ) (n k : NodeSeen) : Type 0 where
  lasts : Lasts more n k
  few : (count : ℕ) → Few count n → Few (count + more) k

call_same : (n k : NodeSeen) → k ≡ n → Call 0 n k
call_same n k same = subst (λ (z : NodeSeen). Call 0 n z) (sym same) (record {
  lasts = lasts_same n;
  few = λ count few. record { most = omega (arith, few.most); within = λ bodies is. omega (arith, few.within bodies is) };
})

call_noted : (n k : NodeSeen) (acked : List ℕ) (bodies : List (List ℕ)) → n.journal ≡ Some bodies → k ≡ record n { acked = acked } → Call 0 n k
call_noted n k acked bodies is same = subst (λ (z : NodeSeen). Call 0 n z) (sym same) (record {
  lasts = record {
    identity = refl;
    down = λ down. absurd (not_both n.journal bodies is down);
    journal = (lasts_same n).journal;
    rose = (lasts_same n).rose;
    later = omega arith;
    calm = λ calm. calm;
    stays_up = (lasts_same n).stays_up;
    file = refl;
    attached = refl;
    tells = refl;
    writes = writes_none n (record n { acked = acked }) refl;
    form = form_same n.identity n.disk;
    holds = λ held. held;
    images = λ held old was. images_same n (record n { acked = acked }) old refl refl held was;
  };
  few = λ count few. record { most = omega (arith, few.most); within = λ l at. omega (arith, few.within l at) };
})

-- a journal that is not full has fewer records
not_full : {F : Type 0} (frame_at : Reads F) (stamp : ℕ) (bodies : List (List ℕ)) → is_full frame_at stamp bodies ≡ false → length bodies < 65536
not_full frame_at stamp bodies room = by (nat_le 65536 (length bodies)) _ _ refl room
  where
    by : (b rest last : Bool) → nat_le 65536 (length bodies) ≡ b → ((b || rest) || last) ≡ false → length bodies < 65536
    by true rest last is full = absurd (true≢false full)
    by false rest last is full = grind (arith, nat_tests, is)

module _ {F : Type 0} (w : Environment F) (now : ℕ) (n k : NodeSeen) (bodies : List (List ℕ)) (up : n.journal ≡ Some bodies) where
  same_bodies : (old : List (List ℕ)) → n.journal ≡ Some old → old ≡ bodies
  same_bodies old is = some_eq (sym is ∙ up)

  call_commit : (ev : Event) (item : Option Sent) → Commits w now bodies ev item n k → Call 1 n k
  call_commit ev item c = record {
    lasts = record {
      identity = c.identity;
      down = λ down. absurd (not_both n.journal bodies up down);
      journal = λ old more was is. record {
        more = c.body ∷ [];
        front = some_eq (sym is ∙ c.journal) ∙ ap (λ (l : List (List ℕ)). l ++ c.body ∷ []) (sym (same_bodies old was));
        counted = refl;
      };
      rose = λ old was none. absurd (not_both k.journal (bodies ++ c.body ∷ []) c.journal none);
      later = c.appended.moves.later;
      calm = c.appended.calm;
      stays_up = λ old calm was none. not_both k.journal (bodies ++ c.body ∷ []) c.journal none;
      file = c.appended.moves.file;
      attached = c.appended.moves.attached;
      tells = c.appended.moves.tells;
      writes = record {
        mid = k.disk;
        each = c.appended.power.burns;
        power = c.appended.power.after ∙ sym c.appended.power.before;
        powered = λ some. c.appended.power.before;
        rest = up_to 0 4 k.disk k.disk (omega arith) (burns_none k.disk k.disk refl refl);
        up = λ all at. refl;
      };
      form = c.appended.form;
      holds = λ held all at tells x image. c.appended.holds.images tells x image ∙ some_eq (sym c.journal ∙ at);
      images = λ held old was.
          subst (λ (l : List (List ℕ)). ImagesGo 1 l n k) (sym (same_bodies old was))
          (images_one 1 bodies c.body n k (omega arith) (λ all at. some_eq (sym c.journal ∙ at)) c.appended.moves);
    };
    few = λ count few.
        let room = not_full w.frame_at (stamp_in item) bodies c.appended.room in
        let had = few.within bodies up in
        record {
          most = omega (arith, room, had);
          within = λ l at. let len = ap (λ (x : List (List ℕ)). length x) (some_eq (sym at ∙ c.journal)) in omega (arith, len, had, length-append bodies (c.body ∷ []));
        };
  }

  call_fault : (ev : Event) (item : Option Sent) → Faults w now bodies ev item n k → Call 0 n k
  call_fault ev item c = record {
    lasts = record {
      identity = c.identity;
      down = λ down. absurd (not_both n.journal bodies up down);
      journal = λ old more was is. absurd (not_both k.journal more is c.journal);
      rose = λ old was none. c.failing.rose;
      later = c.failing.moves.later;
      calm = λ calm. absurd (c.failing.calm calm);
      stays_up = λ old calm was none. c.failing.calm calm;
      file = c.failing.moves.file;
      attached = c.failing.moves.attached;
      tells = c.failing.moves.tells;
      writes = record {
        mid = n.disk;
        each = burns_none n.disk n.disk refl refl;
        power = refl;
        powered = λ some. absurd (omega (arith, some));
        rest = c.failing.burns;
        up = λ all at. absurd (not_both k.journal all at c.journal);
      };
      form = c.failing.form;
      holds = λ held all at. absurd (not_both k.journal all at c.journal);
      images = λ held old was.
          subst (λ (l : List (List ℕ)). ImagesGo 0 l n k) (sym (same_bodies old was))
          (images_one 0 bodies c.body n k (omega arith) (λ all at. absurd (not_both k.journal all at c.journal)) c.failing.moves);
    };
    few = λ count few. record { most = omega (arith, few.most); within = λ l at. absurd (not_both k.journal l at c.journal) };
  }

  turned : (claims : List ℕ) (answer : Result SharedTurn TurnFault) → TurnsBeside w now None claims bodies n answer k → Call (turn_commits answer) n k
  turned claims (Ok shared.Idle) s = call_same n k s.1
  turned claims (Ok (shared.Moved g)) s = call_commit s.0 None s.3
  turned claims (Ok (shared.Job job)) s = call_same n k s.2
  turned claims (Err turn_fault.NodeDown) s = absurd s
  turned claims (Err turn_fault.Full) s = call_same n k s.3
  turned claims (Err turn_fault.Memory) s = call_same n k s.4
  turned claims (Err turn_fault.Fault) s = call_fault s.0 None s.2

  settled : (job : Job) (answer : Result ℕ SettleFault) → SettlesAs w now job bodies n answer k → Call (settle_commits answer) n k
  settled job (Ok g) s = call_commit _ None s.2
  settled job (Err settle_fault.NodeDown) s = absurd s
  settled job (Err (settle_fault.Stale have given)) s = call_same n k s.1
  settled job (Err (settle_fault.Foreign g)) s = call_same n k s.1
  settled job (Err settle_fault.Full) s = call_same n k s.2
  settled job (Err settle_fault.Memory) s = call_same n k s.2
  settled job (Err settle_fault.Fault) s = call_fault _ None s.1

  accepted : (from : Party) (key : Key) (direction number : ℕ) (item : Sent) (answer : Result Taken TakeFault) → AcceptsAs w now bodies from key direction number item n answer k → Call (take_commits answer) n k
  accepted from key direction number item (Ok (taken.Took upto ack)) s = call_commit _ (Some item) s.2
  accepted from key direction number item (Ok taken.Acked) s = absurd s
  accepted from key direction number item (Ok (taken.Again expected ack)) s = absurd s
  accepted from key direction number item (Ok (taken.Early expected)) s = absurd s
  accepted from key direction number item (Ok taken.NoSession) s = absurd s
  accepted from key direction number item (Err take_fault.NodeDown) s = absurd s
  accepted from key direction number item (Err take_fault.Garbled) s = absurd s
  accepted from key direction number item (Err (take_fault.NotMine to)) s = absurd s
  accepted from key direction number item (Err take_fault.Full) s = call_same n k s.1
  accepted from key direction number item (Err take_fault.Memory) s = absurd s
  accepted from key direction number item (Err take_fault.Fault) s = call_fault _ (Some item) s

  responded : (said : Judged) (answer : Result Taken TakeFault) → Responds w now bodies said n answer k → Call (take_commits answer) n k
  responded judged.Garbled answer s = rw s.0 (call_same n k s.1)
  responded (judged.NotMine to) answer s = rw s.0 (call_same n k s.1)
  responded judged.NoSession answer s = rw s.0 (call_same n k s.1)
  responded (judged.Early expected) answer s = rw s.0 (call_same n k s.1)
  responded (judged.Acked key direction upto) answer s = rw s.0 (call_noted n k _ bodies up s.1)
  responded (judged.Again from key direction expected) answer s = rw s.0 (call_same n k s.1)
  responded (judged.Next from key direction number stamp body) answer s = accepted from key direction number (record { body = body; stamp = stamp }) answer s

  took_up : (bytes : List ℕ) (answer : Result Taken TakeFault) → TakesAs w now bytes bodies n answer k → Call (take_commits answer) n k
  took_up bytes answer (inl (is, same)) = rw is (call_same n k same)
  took_up bytes answer (inr (said, judges, further, s)) = responded said answer s

-- ---- the calls as the history has them

module _ {F : Type 0} (m : Meaning F) (now : ℕ) (n k : NodeSeen) where
  turn_at : (claims : List ℕ) (journal : Option (List (List ℕ))) (answer : Result SharedTurn TurnFault) → n.journal ≡ journal → TurnAnswersBeside (environment m n.identity) now None claims n answer k → Call (turn_commits answer) n k
  turn_at claims None answer at s = let q : (answer ≡ Err turn_fault.NodeDown) × (k ≡ n) = MatchOption-at_none _ _ at s in rw q.0 (call_same n k q.1)
  turn_at claims (Some bodies) answer at s = turned (environment m n.identity) now n k bodies at claims answer (MatchOption-at_some _ _ bodies at s)

  turn_call : (claims : List ℕ) (answer : Result SharedTurn TurnFault) → Turns m now claims n answer k → Call (turn_commits answer) n k
  unfolding Turns
  turn_call claims answer s = turn_at claims n.journal answer refl s

  settle_at : (job : Job) (journal : Option (List (List ℕ))) (answer : Result ℕ SettleFault) → n.journal ≡ journal → SettleAnswers (environment m n.identity) now job n answer k → Call (settle_commits answer) n k
  settle_at job None answer at s = let q : (answer ≡ Err settle_fault.NodeDown) × (k ≡ n) = MatchOption-at_none _ _ at s in rw q.0 (call_same n k q.1)
  settle_at job (Some bodies) answer at s = settled (environment m n.identity) now n k bodies at job answer (MatchOption-at_some _ _ bodies at s)

  settle_call : (job : Job) (answer : Result ℕ SettleFault) → Settles m now job n answer k → Call (settle_commits answer) n k
  unfolding Settles
  settle_call job answer s = settle_at job n.journal answer refl s

  take_at : (bytes : List ℕ) (journal : Option (List (List ℕ))) (answer : Result Taken TakeFault) → n.journal ≡ journal → TakeAnswers (environment m n.identity) now bytes n answer k → Call (take_commits answer) n k
  take_at bytes None answer at s = let q : (answer ≡ Err take_fault.NodeDown) × (k ≡ n) = MatchOption-at_none _ _ at s in rw q.0 (call_same n k q.1)
  take_at bytes (Some bodies) answer at s = took_up (environment m n.identity) now n k bodies at bytes answer (MatchOption-at_some _ _ bodies at s)

  take_call : (bytes : List ℕ) (answer : Result Taken TakeFault) → Takes m now bytes n answer k → Call (take_commits answer) n k
  unfolding Takes
  take_call bytes answer s = take_at bytes n.journal answer refl s.0

-- ---- the history

abbrev Lasted : ℕ → NodeSeen → NodeSeen → Type 0
Lasted count from n = Lasts count from n × Few count n

lasted_then : (count more : ℕ) (from n k : NodeSeen) → Lasted count from n → Call more n k → Lasted (count + more) from k
lasted_then count more from n k h c = (lasts_then count more from n k h.0 c.lasts, c.few count h.1)

lasted : {F : Type 0} (m : Meaning F) (now : ℕ) (from : NodeSeen) {n : NodeSeen} {took : List (List ℕ)} {sent : List Outgoing} {count : ℕ} → Went m now from n took sent count → Lasted count from n
lasted m now from (here is) = subst (λ (z : NodeSeen). Lasted 0 from z) (sym is) (lasts_same from, record { most = omega arith; within = λ bodies at. omega arith })
lasted m now from (by_turn {n = n} {k = k} {count = count} claims answer went turns) = lasted_then count (turn_commits answer) from n k (lasted m now from went) (turn_call m now n k claims answer turns)
lasted m now from (by_settle {n = n} {k = k} {count = count} job answer went settles) = lasted_then count (settle_commits answer) from n k (lasted m now from went) (settle_call m now n k job answer settles)
lasted m now from (by_take {n = n} {k = k} {count = count} bytes answer went takes) = lasted_then count (take_commits answer) from n k (lasted m now from went) (take_call m now n k bytes answer takes)
lasted m now from (by_send {n = n} frames went sends) = lasted m now from went

pub histories_last : {F : Type 0} → HistoriesLast F
histories_last m now from n took sent count went = let all = lasted m now from went in (all.0, all.1.most)
