-- What comes out of the locks is put together.
use Rattle.wire_rows.specs.Rows.{Spread}
use Rattle.std.proofs.Common.{◌-◌, ◌<◌, ◌≡◌, ◌⊎◌, inl, inr, ⊎_elim, ℕ, zero, suc, ◌+◌, ◌≤◌, List, [], ◌∷◌, ◌++◌, length, map, slice_get, Some, refl, sym, ap, subst, ◌∙◌, arith, length-append}
use Rattle.std.proofs.lemmas.List.{length-map}
use Rattle.atomic_table.specs.Seated.{TableId}
use Rattle.wire_queue.specs.declared.inbox.InboxPass.{InboxPass}
use Rattle.net_base.proofs.Lists.{get_beside, get_push}
use Rattle.net_base.proofs.Options.{some_eq}
use Rattle.net_model.specs.Environment.{Meaning}
use Rattle.wire_queue.specs.declared.rule.Seen.{Seen}
use Rattle.wire_queue.specs.Wire.{Frame, IsIn, FromOrigins}
use Rattle.wire_queue.proofs.Wires.{in_append, in_left, in_right, in_origins}
use Rattle.node_core.specs.Seen.{NodeSeen}
use Rattle.wire_rows.specs.Exchanges.{Exchanges}
use Rattle.wire_rows.specs.Ends.{Joined, Drained}
use Rattle.wire_rows.proofs.Drains.{left_in}
use Rattle.flow_workers.specs.Desks.{WorkedAt}
use Rattle.work_law.specs.Calls.{Went}
use Rattle.flow_workers.specs.Gathers.{Gathered, Gathers}
use Rattle.work_law.specs.Works.{Log, Source, Works, added}

front : {X : Type 0} (xs : List X) (y : X) (n : ℕ) (x : X) → slice_get xs n ≡ Some x → slice_get (xs ++ y ∷ []) n ≡ Some x
front [] y n x at = cc
front (z ∷ xs) y zero x at = at
front (z ∷ xs) y (suc n) x at = front xs y n x at

last : {X : Type 0} (xs : List X) (y : X) → slice_get (xs ++ y ∷ []) (length xs) ≡ Some y
last [] y = refl
last (z ∷ xs) y = last xs y

abbrev counts : List Log → List ℕ
counts logs = map (λ (log : Log). log.count) logs

counts_push : (logs : List Log) (log : Log) → added (counts (logs ++ log ∷ [])) ≡ added (counts logs) + log.count
counts_push [] log = omega arith
counts_push (x ∷ logs) log = omega (arith, counts_push logs log)

source_more : (waited : List (List Frame)) (logs : List Log) (log : Log) (q : ℕ) (x : Frame) → Source waited logs q x → Source waited (logs ++ log ∷ []) q x
source_more waited logs log q x (inl waiting) = inl waiting
source_more waited logs log q x (inr (r, one, at, to)) = inr (r, one, front logs log r one at, to)

module _ {F : Type 0} (m : Meaning F) (now : ℕ) (came : List NodeSeen) (waited : List (List Frame)) where
  -- one node more
  pub gathered_more : (nodes : List NodeSeen) (own row new : List Seen) (parts commits some more : ℕ) (node : NodeSeen) → Gathered m now came waited nodes own parts commits → WorkedAt m now came (length nodes) node row some → Joined own row new → more ≡ commits + some
      → Gathered m now came waited (nodes ++ node ∷ []) new (parts + 1) more
  gathered_more nodes own row new parts commits some more node g w joined few = record {
    logs = g.logs ++ w.log ∷ [];
    logged = length-append g.logs (w.log ∷ []) ∙ ap (λ n. n + 1) g.logged ∙ sym (length-append nodes (node ∷ []));
    each = λ p n log is be. ⊎_elim
        (λ old. g.each p n log old (⊎_elim (λ same. same) (λ new_one. absurd (past nodes p n old (omega (arith, new_one.0, g.logged)))) (get_push g.logs w.log p log be)))
        (λ now_one.
        let log_is : w.log ≡ log = some_eq (sym (last g.logs w.log) ∙ ap (slice_get (g.logs ++ w.log ∷ [])) (g.logged ∙ now_one.0) ∙ be) in (
          w.from,
          subst (λ (j : ℕ). slice_get came j ≡ Some w.from) now_one.0 w.came_at,
          subst (λ (l : Log). Went m now w.from n l.took l.sent l.count) log_is (subst (λ (k : NodeSeen). Went m now w.from k w.log.took w.log.sent w.log.count) now_one.1 w.went),
        ))
        (get_push nodes node p n is);
    pulled = λ p log u be at x has.
        let s = get_beside new own p u joined.count at in
        let t = get_beside new row p u (joined.count ∙ sym joined.beside) at in
        let is = joined.each p s.0 t.0 u s.1 t.1 at in
        ⊎_elim
        (λ old. subst (λ (z : Seen). IsIn x z.pulled) (sym is) (in_left x s.0.pulled t.0.pulled (g.pulled p log s.0 old s.1 x has)))
        (λ new_one.
        let there : slice_get row (length nodes) ≡ Some t.0 = ap (slice_get row) (sym g.logged ∙ new_one.0) ∙ t.1 in
        subst (λ (z : Seen). IsIn x z.pulled) (sym is) (in_right x s.0.pulled t.0.pulled (w.pulled t.0 there x (subst (λ (l : Log). IsIn x l.took) (sym new_one.1) has))))
        (get_push g.logs w.log p log be);
    posted = λ q u at x has.
        let s = get_beside new own q u joined.count at in
        let t = get_beside new row q u (joined.count ∙ sym joined.beside) at in
        let is = joined.each q s.0 t.0 u s.1 t.1 at in
        ⊎_elim
        (λ old. source_more waited g.logs w.log q x (g.posted q s.0 s.1 x old))
        (λ new_one. inr (length g.logs, w.log, last g.logs w.log, w.posted q t.0 t.1 x new_one))
        (in_append x s.0.origins t.0.origins (subst (λ (z : Seen). IsIn x z.origins) is has));
    shares = λ q u at.
        let s = get_beside new own q u joined.count at in
        let t = get_beside new row q u (joined.count ∙ sym joined.beside) at in
        let is = joined.each q s.0 t.0 u s.1 t.1 at in
        omega (arith, ap (λ (z : Seen). z.shares) is, g.shares q s.0 s.1, w.one_share q t.0 t.1);
    committed = omega (arith, few, g.committed, w.counted, counts_push g.logs w.log);
  }
    where
      past : {X : Type 0} (xs : List X) (n : ℕ) (x : X) → slice_get xs n ≡ Some x → length xs ≡ n → ⊥
      past [] n x at is = cc
      past (y ∷ xs) zero x at is = omega (arith, is)
      past (y ∷ xs) (suc n) x at is = past xs n x at (omega (arith, is))

  -- the call's own passes pull on
  pub gathered_moves : (nodes : List NodeSeen) (own new : List Seen) (parts commits at : ℕ) (took : List Frame) → Gathered m now came waited nodes own parts commits → Exchanges at took [] own new → Gathered m now came waited nodes new parts commits
  gathered_moves nodes own new parts commits at took g moves = record {
    logs = g.logs;
    logged = g.logged;
    each = g.each;
    pulled = λ p log u be is x has. let s = get_beside new own p u moves.count is in moves.pulled p s.0 u s.1 is x (g.pulled p log s.0 be s.1 x has);
    posted = λ q u is x has. let s = get_beside new own q u moves.count is in ⊎_elim (λ old. g.posted q s.0 s.1 x old) (λ none. absurd none) (moves.posted q s.0 u s.1 is x has);
    shares = λ q u is. let s = get_beside new own q u moves.count is in moves.shares q s.0 u s.1 is ∙ g.shares q s.0 s.1;
    committed = g.committed;
  }

  -- what a pass with all shares has pulled was sent, or had waited
  pub sources : (nodes : List NodeSeen) (own : List Seen) (commits : ℕ) → (g : Gathered m now came waited nodes own 32 commits) → (q : ℕ) (s : Seen) → slice_get own q ≡ Some s → FromOrigins s → (x : Frame) → IsIn x s.pulled → Source waited g.logs q x
  sources nodes own commits g q s at from x has = g.posted q s at x (in_origins s x (g.shares q s at) from has)

  -- all nodes are out, and nothing more is in the inboxes
  pub works : (nodes : List NodeSeen) (own : List Seen) (waiting : List (List Frame)) (commits : ℕ) → Gathered m now came waited nodes own 32 commits → length nodes ≡ length came → length own ≡ length came → length waiting ≡ length waited → ((q : ℕ) (s : Seen) → slice_get own q ≡ Some s → FromOrigins s)
      → ((q : ℕ) (s : Seen) (frames : List Frame) → slice_get own q ≡ Some s → slice_get waiting q ≡ Some frames → (x : Frame) → IsIn x frames → IsIn x s.pulled ⊎ ((old : List Frame) × (slice_get waited q ≡ Some old) × IsIn x old))
      → length waiting ≡ length own
      → Works m now came waited nodes waiting commits
  works nodes own waiting commits g count passes lists whole left beside = record {
    logs = g.logs;
    count = count;
    lists = lists;
    logged = g.logged;
    each = g.each;
    took = λ p log be x has.
        let s = get_beside g.logs own p log (g.logged ∙ count ∙ sym passes) be in
        sources nodes own commits g p s.0 s.1 (whole p s.0 s.1) x (g.pulled p log s.0 be s.1 x has);
    left = λ q frames at x has.
        let s = get_beside waiting own q frames beside at in
        ⊎_elim (λ pulled. sources nodes own commits g q s.0 s.1 (whole q s.0 s.1) x pulled) (λ waits. inl waits) (left q s.0 frames s.1 at x has);
    committed = g.committed;
  }

module _ {F : Type 0} (m : Meaning F) (now : ℕ) (came : List NodeSeen) where
  pub gathers_begin : (nodes : List NodeSeen) (own : List Seen) → nodes ≡ [] → Gathers m now came own nodes own 0
  unfolding Gathers
  gathers_begin nodes own none waited parts g =
      let is : parts ≡ parts + length nodes = let l = ap (λ (x : List NodeSeen). length x) none in omega (arith, l) in
      subst (λ (n : ℕ). Gathered m now came waited nodes own n 0) is (subst (λ (l : List NodeSeen). Gathered m now came waited l own parts 0) (sym none) g)

  pub gathers_step : (first : List Seen) (nodes later : List NodeSeen) (own row new : List Seen) (commits some more place : ℕ) (node : NodeSeen) → later ≡ nodes ++ node ∷ [] → place ≡ length nodes → Gathers m now came first nodes own commits → WorkedAt m now came place node row some → Joined own row new → more ≡ commits + some
      → Gathers m now came first later new more
  unfolding Gathers
  gathers_step first nodes later own row new commits some more place node is at g w joined sum waited parts begins =
      let next = gathered_more m now came waited nodes own row new (parts + length nodes) commits some more node (g waited parts begins) (subst (λ (p : ℕ). WorkedAt m now came p node row some) at w) joined sum in
      let len : parts + length nodes + 1 ≡ parts + length (nodes ++ node ∷ []) = omega (arith, length-append nodes (node ∷ [])) in
      subst (λ (l : List NodeSeen). Gathered m now came waited l new (parts + length l) more) (sym is) (subst (λ (n : ℕ). Gathered m now came waited (nodes ++ node ∷ []) new n more) len next)

  begun : (waited : List (List Frame)) (own : List Seen) (given : ℕ) → Spread waited given own → Gathered m now came waited [] own (32 - given) 0
  begun waited own given spread = record {
    logs = [];
    logged = refl;
    each = λ p n log at be. cc;
    pulled = λ p log s be at x there. cc;
    posted = λ q s at x there. inl (spread.posted q s at x there);
    shares = λ q s at. let all = spread.shares q s at in omega (arith, all);
    committed = refl;
  }

  -- all is put together: the nodes are out, and the inboxes were drained by passes with all shares
  pub works_all : (waited : List (List Frame)) (own mid new : List Seen) (nodes : List NodeSeen) (lists : List (List Frame)) (k commits : ℕ) → Spread waited k own → k ≤ 16 → length nodes ≡ k → length came ≡ k → length waited ≡ k → length lists ≡ k → length new ≡ k
      → Gathers m now came own nodes mid commits → Exchanges 0 [] [] mid new → Drained k lists mid new → Works m now came waited nodes lists commits
  unfolding Gathers
  works_all waited own mid new nodes lists k commits spread few nodes_k came_k waited_k lists_k new_k gathers moves drained =
      let g = gathers waited (32 - k) (begun waited own k spread) in
      let all : 32 - k + length nodes ≡ 32 = omega (arith, few, nodes_k) in
      let g32 = subst (λ (n : ℕ). Gathered m now came waited nodes mid n commits) all g in
      let last_g = gathered_moves m now came waited nodes mid new 32 commits 0 [] g32 moves in
      works m now came waited nodes new lists commits last_g (nodes_k ∙ sym came_k) (new_k ∙ sym came_k) (lists_k ∙ sym waited_k)
      (λ q s at. drained.whole q s (omega (arith, less new q s at, new_k)) at)
      (λ q s frames at be x there. inl (left_in k lists mid new drained q frames s be at x there))
      (lists_k ∙ sym new_k)
    where
      less : (xs : List Seen) (i : ℕ) (x : Seen) → slice_get xs i ≡ Some x → i < length xs
      less [] i x at = cc
      less (y ∷ xs) zero x at = omega arith
      less (y ∷ xs) (suc i) x at = omega (arith, less xs i x at)

-- the same of what it is called elsewhere
pub works_here : {F : Type 0} (m k : Meaning F) (a b : ℕ) (came nodes : List NodeSeen) (waited : List (List Frame)) (after : List NodeSeen) (waiting : List (List Frame)) (commits : ℕ) → m ≡ k → a ≡ b → came ≡ nodes → Works m a came waited after waiting commits → Works k b nodes waited after waiting commits
works_here m k a b came nodes waited after waiting commits same_meaning same_now same_nodes w =
    subst (λ (l : List NodeSeen). Works k b l waited after waiting commits) same_nodes
    (subst (λ (t : ℕ). Works k t came waited after waiting commits) same_now (subst (λ (z : Meaning _). Works z a came waited after waiting commits) same_meaning w))

pub drained_count : (n k : ℕ) (lists : List (List Frame)) (own new : List Seen) → n ≡ k → Drained n lists own new → Drained k lists own new
drained_count n k lists own new is d = subst (λ (j : ℕ). Drained j lists own new) is d

pub seen_length : (own : List InboxPass) (ids : List TableId) (k : ℕ) → map (λ (p : InboxPass). p.of) own ≡ ids → length ids ≡ k → length (map (λ (p : InboxPass). p.seen) own) ≡ k
seen_length own ids k of is =
    let a = ap (λ (l : List TableId). length l) of in
    omega (arith, a, is, length-map own (λ (p : InboxPass). p.of), length-map own (λ (p : InboxPass). p.seen))
