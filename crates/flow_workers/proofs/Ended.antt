-- What the work leaves.
use Rattle.std.proofs.Common.{◌≡◌, ◌+◌, ◌≤◌, inl, inr, ⊎_elim, ℕ, zero, suc, Bool, true, false, if◌then◌else◌, List, [], ◌∷◌, ◌++◌, length, map, take, drop, Vec, Global, refl, sym, ap, subst, ◌∙◌, arith, length-append}
use Rattle.std.specs.List.{AllByRecursion}
use lib.ListN.{take-append-drop}
use Rattle.std.proofs.lemmas.List.{length-map}
use Rattle.net_base.proofs.Lists.{all_get, get_beside, get_map, of_map}
use Rattle.net_base.proofs.Options.{some_eq}
use Rattle.waiting_frames.specs.Waiting.{WaitingSeen, is_waiting, joined}
use Rattle.wire_queue.specs.declared.rule.Seen.{Seen}
use Rattle.wire_queue.specs.Wire.{Frame, IsIn}
use Rattle.wire_rows.specs.Rows.{Spread}
use Rattle.waiting_heads.specs.Heads.{PutEach, joined_all}
use Rattle.waiting_heads.proofs.Turns.{put_has}
use Rattle.net_model.specs.Environment.{Meaning}
use Rattle.node_core.specs.Seen.{NodeSeen, IsBy}
use Rattle.network_core.specs.Parts.{IsNet}
use Rattle.network_core.specs.Worlds.{NetSeen}
use Rattle.work_law.specs.Calls.{Went, here}
use Rattle.work_law.specs.Lasting.{Lasts}
use Rattle.work_law.specs.Works.{Log, Works, added}
use Rattle.work_law.proofs.Lasting.{histories_last}
use Rattle.work_law.proofs.Together.{works_coherently}
use Rattle.flow_workers.specs.Ends.{NodesLast, KeepsTails, WorkedOn}

abbrev frames_of : List WaitingSeen → List (List Frame)
frames_of waiting = map (λ (w : WaitingSeen). w.frames) waiting

abbrev count_of : Log → ℕ
count_of log = log.count

in_drop : (n : ℕ) (xs : List Frame) (x : Frame) → IsIn x (drop n xs) → IsIn x xs
in_drop zero xs x h = h
in_drop (suc n) [] x h = h
in_drop (suc n) (y ∷ xs) x h = inr (in_drop n xs x h)

-- as many were set up as there are nodes
pub spread_nodes : (waiting : List WaitingSeen) (nodes : List NodeSeen) (own : List Seen) → length (frames_of waiting) ≡ length nodes → Spread (frames_of waiting) (length waiting) own → Spread (frames_of waiting) (length nodes) own
spread_nodes waiting nodes own each spread = subst (λ (n : ℕ). Spread (frames_of waiting) n own) (sym (length-map waiting (λ (w : WaitingSeen). w.frames)) ∙ each) spread

-- there is a list for each
pub lists_each : {F : Type 0} (m : Meaning F) (now commits : ℕ) (came nodes : List NodeSeen) (old mid : List WaitingSeen) (lists : List (Vec Frame Global)) → frames_of mid ≡ frames_of old → Works m now came (frames_of old) nodes (map (λ (v : Vec Frame Global). v.items) lists) commits → length lists ≡ length mid
lists_each m now commits came nodes old mid lists same w =
    let l = ap (λ (x : List (List Frame)). length x) same in
    omega (arith, l, w.lists, length-map lists (λ (v : Vec Frame Global). v.items), length-map old (λ (w : WaitingSeen). w.frames), length-map mid (λ (w : WaitingSeen). w.frames))

pub few_items : (lists : List (Vec Frame Global)) → AllByRecursion (λ (v : Vec Frame Global). length v.items ≤ 1024) lists → AllByRecursion (λ (l : List Frame). length l ≤ 1024) (map (λ (v : Vec Frame Global). v.items) lists)
few_items [] h = h
few_items (v ∷ lists) h = (h.0, few_items lists h.1)

-- ---- what was left is put before what waits

module _ {F : Type 0} (m : Meaning F) (now : ℕ) (came nodes : List NodeSeen) (commits : ℕ) where
  pub works_put : (old new : List WaitingSeen) (lists : List (List Frame)) → Works m now came (frames_of old) nodes lists commits → PutEach lists old new → Works m now came (frames_of old) nodes (frames_of new) commits
  works_put old new lists w put = record {
    logs = w.logs;
    count = w.count;
    lists = length-map new (λ (w : WaitingSeen). w.frames) ∙ put.count ∙ sym (length-map old (λ (w : WaitingSeen). w.frames));
    logged = w.logged;
    each = w.each;
    took = w.took;
    left = λ q frames at x there.
        let v = of_map (λ (w : WaitingSeen). w.frames) new q frames at in
        let u = get_beside new old q v.0 put.count v.1 in
        let l = get_beside old lists q u.0 (sym (length-map old (λ (w : WaitingSeen). w.frames)) ∙ sym w.lists) u.1 in
        let here = subst (λ (f : List Frame). IsIn x f) (sym v.2) there in
        ⊎_elim
        (λ waits. inl (u.0.frames, get_map (λ (w : WaitingSeen). w.frames) old q u.0 u.1, in_drop 1024 u.0.frames x waits))
        (λ was_left. w.left q l.0 l.1 x was_left)
        (put_has l.0 (drop 1024 u.0.frames) v.0.frames x (put.each q l.0 u.0 v.0 l.1 u.1 v.1) here);
    committed = w.committed;
  }

  -- each node lasts
  pub nodes_last : (waited waiting : List (List Frame)) → Works m now came waited nodes waiting commits → NodesLast commits came nodes
  nodes_last waited waiting w = record {
    count = w.count;
    counts = map count_of w.logs;
    counted = length-map w.logs count_of ∙ w.logged ∙ w.count;
    each = λ p n x z at old new.
        let log = of_map count_of w.logs p n at in
        let did = w.each p z log.0 new log.1 in
        let from_is : did.0 ≡ x = some_eq (sym did.1 ∙ old) in
        let lasts = (histories_last m now did.0 z log.0.took log.0.sent log.0.count did.2).0 in
        subst (λ (k : ℕ). Lasts k x z) log.2 (subst (λ (k : NodeSeen). Lasts log.0.count k z) from_is lasts);
    sum = w.committed;
  }

-- no more stand first than were put there
one_more : (x : Frame) (ys : List Frame) → length (joined x ys) ≤ length ys + 1
one_more x ys = by (is_waiting x ys)
  where
    by : (b : Bool) → length (if b then ys else ys ++ x ∷ []) ≤ length ys + 1
    by true = omega arith
    by false = omega (arith, length-append ys (x ∷ []))

joined_few : (xs ys : List Frame) → length (joined_all xs ys) ≤ length ys + length xs
joined_few [] ys = omega arith
joined_few (x ∷ xs) ys = omega (arith, joined_few xs (joined x ys), one_more x ys)

tails_put : (old new : List WaitingSeen) (lists : List (List Frame)) → length lists ≡ length old → AllByRecursion (λ (l : List Frame). length l ≤ 1024) lists → PutEach lists old new → KeepsTails (frames_of old) (frames_of new)
tails_put old new lists len few put = record {
  count = length-map new (λ (w : WaitingSeen). w.frames) ∙ put.count ∙ sym (length-map old (λ (w : WaitingSeen). w.frames));
  each = λ q w v at be.
      let u = of_map (λ (w : WaitingSeen). w.frames) old q w at in
      let z = of_map (λ (w : WaitingSeen). w.frames) new q v be in
      let l = get_beside old lists q u.0 (sym len) u.1 in
      let first = put.each q l.0 u.0 z.0 l.1 u.1 z.1 in
      let all = ap (λ (f : List Frame). length f) first.once in
      let most = all_get (λ (l : List Frame). length l ≤ 1024) lists q l.0 few l.1 in
      (first.front, sym z.2 ∙ first.is ∙ ap (λ (f : List Frame). first.front ++ drop 1024 f) u.2, omega (arith, all, most, length-append (drop 1024 u.0.frames) first.front, joined_few l.0 (drop 1024 u.0.frames)));
}

take_few : (n : ℕ) (xs : List Frame) → length (take n xs) ≤ n
take_few zero xs = omega arith
take_few (suc n) [] = omega arith
take_few (suc n) (x ∷ xs) = omega (arith, take_few n xs)

tails_same : (lists : List (List Frame)) → KeepsTails lists lists
tails_same lists = record {
  count = refl;
  each = λ q w v at be. (take 1024 w, some_eq (sym be ∙ at) ∙ sym (take-append-drop 1024 w), take_few 1024 w);
}

-- ---- nothing was done

abbrev no_log : Log
no_log = record { took = []; sent = []; count = 0 }

none_added : (nodes : List NodeSeen) → 0 ≡ added (map count_of (map (λ (n : NodeSeen). no_log) nodes))
none_added [] = refl
none_added (n ∷ nodes) = omega (arith, none_added nodes)

works_none : {F : Type 0} (m : Meaning F) (now : ℕ) (nodes : List NodeSeen) (waiting : List (List Frame)) → Works m now nodes waiting nodes waiting 0
works_none m now nodes waiting = record {
  logs = map (λ (n : NodeSeen). no_log) nodes;
  count = refl;
  lists = refl;
  logged = length-map nodes (λ (n : NodeSeen). no_log);
  each = λ p n log at be.
      let found = of_map (λ (n : NodeSeen). no_log) nodes p log be in
      (n, at, subst (λ (l : Log). Went m now n n l.took l.sent l.count) found.2 (here refl));
  took = λ p log be x has.
      let found = of_map (λ (n : NodeSeen). no_log) nodes p log be in
      absurd (subst (λ (l : Log). IsIn x l.took) (sym found.2) has);
  left = λ q frames at x there. inl (frames, at, there);
  committed = none_added nodes;
}

-- ---- all of it

abbrev net : List NodeSeen → List (List Frame) → ℕ → NetSeen
net nodes waiting now = record { nodes = nodes; waiting = waiting; now = now }

pub worked_on : {F : Type 0} (m : Meaning F) (now : ℕ) (came nodes : List NodeSeen) (old mid new : List WaitingSeen) (lists : List (List Frame)) (commits : ℕ) → IsNet m.frame_at (net came (frames_of old) now) → frames_of mid ≡ frames_of old → Works m now came (frames_of old) nodes lists commits
    → AllByRecursion (λ (l : List Frame). length l ≤ 1024) lists → PutEach lists mid new → AllByRecursion (λ (n : NodeSeen). IsBy m.frame_at n.journal now) nodes → WorkedOn m (net came (frames_of old) now) (net nodes (frames_of new) now) commits false
worked_on m now came nodes old mid new lists commits is same w few put by =
    let here : Works m now came (frames_of mid) nodes lists commits = subst (λ (l : List (List Frame)). Works m now came l nodes lists commits) (sym same) w in
    let put_works = works_put m now came nodes commits mid new lists here put in
    let done : Works m now came (frames_of old) nodes (frames_of new) commits = subst (λ (l : List (List Frame)). Works m now came l nodes (frames_of new) commits) same put_works in
    let len : length lists ≡ length mid = here.lists ∙ length-map mid (λ (w : WaitingSeen). w.frames) in
    record {
      works = done;
      leads = works_coherently m now commits came nodes (frames_of old) (frames_of new) done;
      lasts = nodes_last m now came nodes commits (frames_of old) (frames_of new) done;
      tails = subst (λ (l : List (List Frame)). KeepsTails l (frames_of new)) same (tails_put mid new lists len few put);
      now = refl;
      whole = record {
        by = by;
        few = let f = is.few in omega (arith, f, done.count);
        each = done.lists ∙ is.each ∙ sym done.count;
      };
      unchanged = λ no. cc;
    }

pub not_worked : {F : Type 0} (m : Meaning F) (now commits : ℕ) (came nodes : List NodeSeen) (waited waiting : List (List Frame)) (short : Bool) → IsNet m.frame_at (net came waited now) → nodes ≡ came → waiting ≡ waited → commits ≡ 0 → WorkedOn m (net came waited now) (net nodes waiting now) commits short
not_worked m now commits came nodes waited waiting short is same_nodes same_frames none =
    let new_is : net nodes waiting now ≡ net came waited now = ap (λ (l : List NodeSeen). net l waiting now) same_nodes ∙ ap (λ (l : List (List Frame)). net came l now) same_frames in
    let works = works_none m now came waited in
    let here : WorkedOn m (net came waited now) (net came waited now) 0 short = record {
      works = works;
      leads = works_coherently m now 0 came came waited waited works;
      lasts = nodes_last m now came came 0 waited waited works;
      tails = tails_same waited;
      now = refl;
      whole = is;
      unchanged = λ so. (refl, refl);
    } in
    subst (λ (c : ℕ). WorkedOn m (net came waited now) (net nodes waiting now) c short) (sym none) (subst (λ (n : NetSeen). WorkedOn m (net came waited now) n 0 short) (sym new_is) here)
