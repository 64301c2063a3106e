-- The states of a vault, as transactions are recorded and states are locked and released.
use Rattle.std.proofs.Common.{◌≡◌, ◌+◌, ◌<◌, ◌==◌, ℕ, zero, suc, Bool, true, false, cond, not, is_none, ◌&&◌, ◌||◌, List, [], ◌∷◌, ◌++◌, Option, Some, None, length, take, get_or, map, filter, refl, sym, ◌∙◌, ap, subst, true≢false, arith, append-nil, append_assoc, if◌then◌else◌}
use Rattle.std.specs.List.{list_all}
use Rattle.std.proofs.lemmas.Bool.{and_parts, and_from, or_parts, not_from_false, not-true}
use Rattle.std.proofs.lemmas.Grind.{flat_map-append}
use Rattle.std.proofs.lemmas.Simd.{map-map}
use Rattle.std.proofs.lemmas.List.{map-append, append-nil}
use Rattle.std.proofs.lemmas.List.Elements.{filter-append}
use Rattle.std.proofs.lemmas.List.Folds.{list_any-append, list_all-append, list_all-map}
use Rattle.net_base.proofs.Options.{none_of}
use Rattle.net_base.specs.declared.values.Hash32.{Hash32}
use Rattle.net_base.specs.declared.values.Party.{Party}
use Rattle.net_base.specs.declared.names.StateRef.{StateRef}
use Rattle.net_base.proofs.Lists.{none_filter, passes_weaken, all_filter}
use Rattle.ledger_types.specs.declared.state.TxState.{TxState}
use Rattle.ledger_types.specs.declared.tx.Tx.{Tx}
use Rattle.ledger_types.specs.declared.held.Held.{Held}
use Rattle.ledger_types.specs.Names.{hash_eq, ref_eq, has_ref, has_repeat}
use Rattle.ledger_types.specs.Vaults.{Lock, is_relevant, locked_by, held, outputs_from, is_consumed, all_outputs, vault_of, is_cash, is_free, is_coin, has_coin, locks_of, released}
use Rattle.ledger_types.proofs.Names.{ref_exact, hash_swapped}
use Rattle.vault.specs.Holdings.{held_after, locked_in, is_flow, freed_of, is_noted, has_sources, may_note, are_apart, IsVault}
use Rattle.vault.proofs.Passing.{filter_twice, filter_changed, map_same, true_or_false}
use Rattle.vault.proofs.Distinct.{once_more}
use Rattle.vault.proofs.Locking.{absent_unlocked, locked_more, locked_less, apart_more, apart_less}

-- a transaction with its id
abbrev Noted : Type 0
Noted = Hash32 × Tx

-- ---- outputs one by one

-- the first n + 1 outputs
outputs_more_from : (id : Hash32) (states : List TxState) (n i : ℕ) (d : TxState) → i < length states → outputs_from [] id n (take (i + 1) states) ≡ outputs_from [] id n (take i states) ++ held [] (record { id = id; index = n + i }) (get_or states i d) ∷ []
outputs_more_from id [] n i d lt = absurd (omega (arith, lt))
outputs_more_from id (s ∷ states) n zero d lt = ap (λ (k : ℕ). held [] (record { id = id; index = k }) s ∷ []) (let e : n ≡ n + 0 = omega arith in e)
outputs_more_from id (s ∷ states) n (suc i) d lt =
    let e : (n + 1) + i ≡ n + suc i = omega arith in
    let k : suc i + 1 ≡ suc (i + 1) = omega arith in
    ap (λ (m : ℕ). outputs_from [] id n (take m (s ∷ states))) k
    ∙ ap (λ (l : List Held). held [] (record { id = id; index = n }) s ∷ l) (outputs_more_from id states (n + 1) i d (omega (arith, lt)) ∙ ap (λ (k : ℕ). outputs_from [] id (n + 1) (take i states) ++ held [] (record { id = id; index = k }) (get_or states i d) ∷ []) e)

pub gained_more : (me : Party) (id : Hash32) (states : List TxState) (i : ℕ) (d : TxState) (before items : List Held) → i < length states → items ≡ before ++ filter (λ h. is_relevant me h.state.body) (outputs_from [] id 0 (take i states))
    → items ++ (if is_relevant me (get_or states i d).body then held [] (record { id = id; index = i }) (get_or states i d) ∷ [] else []) ≡ before ++ filter (λ h. is_relevant me h.state.body) (outputs_from [] id 0 (take (i + 1) states))
gained_more me id states i d before items lt is =
    let last = held [] (record { id = id; index = i }) (get_or states i d) in
    let test = λ (h : Held). is_relevant me h.state.body in
    let rest = filter test (outputs_from [] id 0 (take i states)) in
    ap (λ (l : List Held). l ++ filter test (last ∷ [])) is
    ∙ append_assoc before rest (filter test (last ∷ []))
    ∙ ap (λ (l : List Held). before ++ l) (sym (filter-append test (outputs_from [] id 0 (take i states)) (last ∷ [])) ∙ ap (filter test) (sym (outputs_more_from id states 0 i d lt ∙ ap (λ (k : ℕ). outputs_from [] id 0 (take i states) ++ held [] (record { id = id; index = k }) (get_or states i d) ∷ []) zero_add)))
  where
    zero_add : 0 + i ≡ i
    zero_add = omega arith

-- ---- other locks over the same transactions

-- a state with the flow that has it locked by these locks
abbrev relocked : List Lock → Held → Held
relocked locks h = held locks h.reference h.state

outputs_relocked : (before locks : List Lock) (id : Hash32) (n : ℕ) (states : List TxState) → outputs_from locks id n states ≡ map (relocked locks) (outputs_from before id n states)
outputs_relocked before locks id n [] = refl
outputs_relocked before locks id n (s ∷ states) = ap (λ (l : List Held). held locks (record { id = id; index = n }) s ∷ l) (outputs_relocked before locks id (n + 1) states)

all_relocked : (before locks : List Lock) (recorded : List Noted) → all_outputs locks recorded ≡ map (relocked locks) (all_outputs before recorded)
all_relocked before locks [] = refl
all_relocked before locks (t ∷ recorded) =
    ap (λ (l : List Held). l ++ all_outputs locks recorded) (outputs_relocked before locks t.0 0 t.1.outputs)
    ∙ ap (λ (l : List Held). map (relocked locks) (outputs_from before t.0 0 t.1.outputs) ++ l) (all_relocked before locks recorded)
    ∙ sym (map-append (relocked locks) (outputs_from before t.0 0 t.1.outputs) (all_outputs before recorded))

-- the vault by other locks is the vault with each state locked anew
vault_relocked : (me : Party) (recorded : List Noted) (before locks : List Lock) → vault_of me recorded locks ≡ map (relocked locks) (vault_of me recorded before)
unfolding vault_of
vault_relocked me recorded before locks =
    let test = λ (h : Held). is_relevant me h.state.body && not (is_consumed recorded h.reference) in
    ap (filter test) (all_relocked before locks recorded) ∙ filter_changed test (relocked locks) (λ h. refl) (all_outputs before recorded)

-- a change of each state that gives it its lock by the later locks gives the vault by these
vault_changed : (me : Party) (recorded : List Noted) (before locks : List Lock) (change : Held → Held) → ((h : Held) → relocked locks h ≡ change (relocked before h)) → vault_of me recorded locks ≡ map change (vault_of me recorded before)
vault_changed me recorded before locks change is =
    let vault = vault_of me recorded before in
    vault_relocked me recorded before locks
    ∙ map_same (relocked locks) (λ h. change (relocked before h)) is vault
    ∙ sym (map-map change (relocked before) vault)
    ∙ ap (map change) (sym (vault_relocked me recorded before before))

-- ---- what a coin tells

-- a state that is found among these by a test of its reference is locked as the locks say, where the test asks that it be free
free_unlocked : (locks : List Lock) (r : StateRef) (states : List Held) → has_coin (map (relocked locks) states) r ≡ true → locked_by locks r ≡ None
free_unlocked locks r [] found = absurd (true≢false (sym found))
free_unlocked locks r (h ∷ states) found = true_or_false (ref_eq h.reference r && is_coin (relocked locks h)) here (λ no. free_unlocked locks r states (sym (ap (λ b. b || has_coin (map (relocked locks) states) r) no) ∙ found))
  where
    here : (ref_eq h.reference r && is_coin (relocked locks h)) ≡ true → locked_by locks r ≡ None
    here e =
        let both = and_parts (ref_eq h.reference r) (is_coin (relocked locks h)) e in
        let coin = and_parts (is_cash h.state.body) (is_free (relocked locks h)) both.1 in
        let free = and_parts (is_none h.state.encumbrance) (is_none (locked_by locks h.reference)) coin.1 in
        subst (λ (s : StateRef). locked_by locks s ≡ None) (ref_exact h.reference r both.0) (none_of (locked_by locks h.reference) free.1)

coin_unlocked : (me : Party) (recorded : List Noted) (locks : List Lock) (r : StateRef) → has_coin (vault_of me recorded locks) r ≡ true → locked_by locks r ≡ None
coin_unlocked me recorded locks r coin = free_unlocked locks r (vault_of me recorded locks) (ap (λ (l : List Held). has_coin l r) (sym (vault_relocked me recorded locks locks)) ∙ coin)

-- an output of a transaction has its id
outputs_named : (locks : List Lock) (r : StateRef) (id : Hash32) (n : ℕ) (states : List TxState) → hash_eq r.id id ≡ false → has_coin (outputs_from locks id n states) r ≡ false
outputs_named locks r id n [] other = refl
outputs_named locks r id n (s ∷ states) other =
    let one = held locks (record { id = id; index = n }) s in
    ap (λ b. ((b && (n == r.index)) && is_coin one) || has_coin (outputs_from locks id (n + 1) states) r) (hash_swapped id r.id ∙ other) ∙ outputs_named locks r id (n + 1) states other

all_named : (locks : List Lock) (r : StateRef) (recorded : List Noted) → is_noted recorded r.id ≡ false → has_coin (all_outputs locks recorded) r ≡ false
all_named locks r [] none = refl
all_named locks r (t ∷ recorded) none =
    let both = or_parts (hash_eq r.id t.0) (is_noted recorded r.id) none in
    list_any-append (λ h. ref_eq h.reference r && is_coin h) (outputs_from locks t.0 0 t.1.outputs) (all_outputs locks recorded)
    ∙ ap (λ b. b || has_coin (all_outputs locks recorded) r) (outputs_named locks r t.0 0 t.1.outputs both.0)
    ∙ all_named locks r recorded both.1

coin_noted : (me : Party) (recorded : List Noted) (locks : List Lock) (r : StateRef) → has_coin (vault_of me recorded locks) r ≡ true → is_noted recorded r.id ≡ true
unfolding vault_of
coin_noted me recorded locks r coin =
    true_or_false (is_noted recorded r.id) (λ t. t) (λ none. absurd (true≢false (sym coin ∙ none_filter (λ h. ref_eq h.reference r && is_coin h) (λ h. is_relevant me h.state.body && not (is_consumed recorded h.reference)) (all_outputs locks recorded) (all_named locks r recorded none))))

-- what all references of a list pass, each of them passes
each_of : (test : StateRef → Bool) (refs : List StateRef) (r : StateRef) → list_all test refs ≡ true → has_ref r refs ≡ true → test r ≡ true
each_of test [] r all there = absurd (true≢false (sym there))
each_of test (s ∷ refs) r all there =
    let both = and_parts (test s) (list_all test refs) all in
    true_or_false (ref_eq s r) (λ e. subst (λ (q : StateRef). test q ≡ true) (ref_exact s r e) both.0) (λ e. each_of test refs r both.1 (sym (ap (λ b. b || has_ref r refs) e) ∙ there))

-- ---- locking and releasing

pub lock_keeps : (me : Party) (recorded : List Noted) (locks : List Lock) (states : List Held) (flow : ℕ) (refs : List StateRef) → IsVault me recorded locks states → list_all (has_coin states) refs ≡ true → has_repeat ref_eq refs ≡ false → IsVault me recorded (locks ++ locks_of flow refs) (map (locked_in flow refs) states)
lock_keeps me recorded locks states flow refs v coins once =
    let vault = vault_of me recorded locks in
    let all : list_all (has_coin vault) refs ≡ true = ap (λ (l : List Held). list_all (has_coin l) refs) (sym v.states) ∙ coins in
    let free : (r : StateRef) → has_ref r refs ≡ true → locked_by locks r ≡ None = λ r there. coin_unlocked me recorded locks r (each_of (has_coin vault) refs r all there) in
    record {
      states = ap (map (locked_in flow refs)) v.states ∙ sym (vault_changed me recorded locks (locks ++ locks_of flow refs) (locked_in flow refs) (λ h. changed h (free h.reference)));
      once = v.once;
      sources = v.sources;
      known = list_all-append (λ l. is_noted recorded l.reference.id) locks (locks_of flow refs) ∙ and_from _ _ v.known (list_all-map (λ l. is_noted recorded l.reference.id) (λ r. record { reference = r; flow = flow }) refs ∙ passes_weaken (has_coin vault) (λ r. is_noted recorded r.id) refs (λ r coin. coin_noted me recorded locks r coin) all);
      apart = apart_more locks flow refs v.apart once free;
    }
  where
    changed : (h : Held) → (has_ref h.reference refs ≡ true → locked_by locks h.reference ≡ None) → relocked (locks ++ locks_of flow refs) h ≡ locked_in flow refs (relocked locks h)
    changed h free = ap (λ (o : Option ℕ). record { reference = h.reference; state = h.state; locked = o }) (locked_more locks flow refs h.reference free) ∙ by (has_ref h.reference refs)
      where
        by : (b : Bool) → record { reference = h.reference; state = h.state; locked = cond b (Some flow) (locked_by locks h.reference) } ≡ (if b then (record (relocked locks h) { locked = Some flow }) else relocked locks h)
        by true = refl
        by false = refl

pub release_keeps : (me : Party) (recorded : List Noted) (locks : List Lock) (states : List Held) (flow : ℕ) → IsVault me recorded locks states → IsVault me recorded (released flow locks) (map (freed_of flow) states)
release_keeps me recorded locks states flow v =
    record {
      states = ap (map (freed_of flow)) v.states ∙ sym (vault_changed me recorded locks (released flow locks) (freed_of flow) (λ h. changed h v.apart));
      once = v.once;
      sources = v.sources;
      known = all_filter (λ l. is_noted recorded l.reference.id) (λ l. not (l.flow == flow)) locks v.known;
      apart = apart_less flow locks v.apart;
    }
  where
    changed : (h : Held) → are_apart locks ≡ true → relocked (released flow locks) h ≡ freed_of flow (relocked locks h)
    changed h apart = ap (λ (o : Option ℕ). record { reference = h.reference; state = h.state; locked = o }) (locked_less flow locks h.reference apart) ∙ by (is_flow flow (locked_by locks h.reference))
      where
        by : (b : Bool) → record { reference = h.reference; state = h.state; locked = cond b None (locked_by locks h.reference) } ≡ (if b then (record (relocked locks h) { locked = None }) else relocked locks h)
        by true = refl
        by false = refl

-- ---- recording

-- nothing is held where nothing is recorded
pub vault_none : (me : Party) → IsVault me [] [] []
unfolding vault_of
vault_none me = record { states = refl; once = refl; sources = refl; known = refl; apart = refl }

noted_more : (recorded : List Noted) (t : Noted) (id : Hash32) → is_noted recorded id ≡ true → is_noted (recorded ++ t ∷ []) id ≡ true
noted_more recorded t id there = list_any-append (λ u. hash_eq id u.0) recorded (t ∷ []) ∙ ap (λ b. b || is_noted (t ∷ []) id) there

sources_more : (recorded : List Noted) (t : Noted) (tx : Tx) → has_sources recorded tx ≡ true → has_sources (recorded ++ t ∷ []) tx ≡ true
sources_more recorded t tx all = passes_weaken (λ r. is_noted recorded r.id) (λ r. is_noted (recorded ++ t ∷ []) r.id) tx.inputs (λ r there. noted_more recorded t r.id there) all

-- a reference into a transaction that isn't recorded is none of those whose transactions are
not_among : (recorded : List Noted) (r : StateRef) (refs : List StateRef) → is_noted recorded r.id ≡ false → list_all (λ s. is_noted recorded s.id) refs ≡ true → has_ref r refs ≡ false
not_among recorded r refs none all = true_or_false (has_ref r refs) (λ there. absurd (true≢false (sym (each_of (λ s. is_noted recorded s.id) refs r all there) ∙ none))) (λ f. f)

not_consumed : (recorded some : List Noted) (r : StateRef) → is_noted recorded r.id ≡ false → list_all (λ t. has_sources recorded t.1) some ≡ true → is_consumed some r ≡ false
not_consumed recorded [] r none all = refl
not_consumed recorded (t ∷ some) r none all =
    let both = and_parts (has_sources recorded t.1) (list_all (λ u. has_sources recorded u.1) some) all in
    ap (λ b. b || is_consumed some r) (not_among recorded r t.1.inputs none both.0) ∙ not_consumed recorded some r none both.1

not_locked : (recorded : List Noted) (locks : List Lock) (r : StateRef) → is_noted recorded r.id ≡ false → list_all (λ l. is_noted recorded l.reference.id) locks ≡ true → has_ref r (map (λ l. l.reference) locks) ≡ false
not_locked recorded locks r none known = not_among recorded r (map (λ l. l.reference) locks) none (list_all-map (λ (s : StateRef). is_noted recorded s.id) (λ (l : Lock). l.reference) locks ∙ known)

-- the outputs of a new transaction are neither consumed nor locked
outputs_fresh : (me : Party) (locks : List Lock) (recorded : List Noted) (id : Hash32) (n : ℕ) (states : List TxState) → ((k : ℕ) → is_consumed recorded (record { id = id; index = k }) ≡ false) → ((k : ℕ) → locked_by locks (record { id = id; index = k }) ≡ None)
    → filter (λ h. is_relevant me h.state.body && not (is_consumed recorded h.reference)) (outputs_from locks id n states) ≡ filter (λ h. is_relevant me h.state.body) (outputs_from [] id n states)
outputs_fresh me locks recorded id n [] unspent free = refl
outputs_fresh me locks recorded id n (s ∷ states) unspent free =
    let test = λ (h : Held). is_relevant me h.state.body && not (is_consumed recorded h.reference) in
    let one : held locks (record { id = id; index = n }) s ≡ held [] (record { id = id; index = n }) s = ap (λ (o : Option ℕ). record { reference = record { id = id; index = n }; state = s; locked = o }) (free n) in
    ap (λ b. cond (is_relevant me s.body && not b) (held locks (record { id = id; index = n }) s ∷ filter test (outputs_from locks id (n + 1) states)) (filter test (outputs_from locks id (n + 1) states))) (unspent n)
    ∙ ap (λ b. cond b (held locks (record { id = id; index = n }) s ∷ filter test (outputs_from locks id (n + 1) states)) (filter test (outputs_from locks id (n + 1) states))) (and_true (is_relevant me s.body))
    ∙ (λ i. cond (is_relevant me s.body) (one i ∷ outputs_fresh me locks recorded id (n + 1) states unspent free i) (outputs_fresh me locks recorded id (n + 1) states unspent free i))
  where
    and_true : (b : Bool) → (b && true) ≡ b
    and_true true = refl
    and_true false = refl

-- a state stays relevant and unconsumed where the new transaction does not consume it
stays : (r b c : Bool) → (r && not (b || (c || false))) ≡ ((r && not b) && not c)
stays true true c = refl
stays true false true = refl
stays true false false = refl
stays false b c = refl

vault_noted : (me : Party) (recorded : List Noted) (locks : List Lock) (id : Hash32) (tx : Tx) → ((k : ℕ) → is_consumed (recorded ++ (id, tx) ∷ []) (record { id = id; index = k }) ≡ false) → ((k : ℕ) → locked_by locks (record { id = id; index = k }) ≡ None)
    → vault_of me (recorded ++ (id, tx) ∷ []) locks ≡ held_after me id tx (vault_of me recorded locks)
unfolding vault_of
vault_noted me recorded locks id tx unspent free =
    let now = recorded ++ (id, tx) ∷ [] in
    let before = λ (h : Held). is_relevant me h.state.body && not (is_consumed recorded h.reference) in
    let test = λ (h : Held). is_relevant me h.state.body && not (is_consumed now h.reference) in
    let kept = λ (h : Held). not (has_ref h.reference tx.inputs) in
    let outputs = outputs_from locks id 0 tx.outputs in
    let all : all_outputs locks now ≡ all_outputs locks recorded ++ outputs = flat_map-append (λ (t : Noted). outputs_from locks t.0 0 t.1.outputs) recorded ((id, tx) ∷ []) ∙ ap (λ (l : List Held). all_outputs locks recorded ++ l) (append-nil outputs) in
    let both : (h : Held) → test h ≡ (before h && kept h) = λ h. ap (λ b. is_relevant me h.state.body && not b) (list_any-append (λ (t : Noted). has_ref h.reference t.1.inputs) recorded ((id, tx) ∷ [])) ∙ stays (is_relevant me h.state.body) (is_consumed recorded h.reference) (has_ref h.reference tx.inputs) in
    ap (filter test) all
    ∙ filter-append test (all_outputs locks recorded) outputs
    ∙ ap (λ (l : List Held). l ++ filter test outputs) (filter_twice before kept test both (all_outputs locks recorded))
    ∙ ap (λ (l : List Held). filter kept (filter before (all_outputs locks recorded)) ++ l) (outputs_fresh me locks now id 0 tx.outputs unspent free)

pub note_keeps : (me : Party) (recorded : List Noted) (locks : List Lock) (states : List Held) (id : Hash32) (tx : Tx) → IsVault me recorded locks states → may_note recorded id tx ≡ true → IsVault me (recorded ++ (id, tx) ∷ []) locks (held_after me id tx states)
note_keeps me recorded locks states id tx v may =
    let both = and_parts (not (is_noted recorded id)) (has_sources recorded tx) may in
    let none : is_noted recorded id ≡ false = not-true _ both.0 in
    let unspent : (k : ℕ) → is_consumed (recorded ++ (id, tx) ∷ []) (record { id = id; index = k }) ≡ false =
    λ k. let r : StateRef = record { id = id; index = k } in
    list_any-append (λ (t : Noted). has_ref r t.1.inputs) recorded ((id, tx) ∷ []) ∙ ap (λ b. b || (has_ref r tx.inputs || false)) (not_consumed recorded recorded r none v.sources) ∙ ap (λ b. b || false) (not_among recorded r tx.inputs none both.1) in
    let free : (k : ℕ) → locked_by locks (record { id = id; index = k }) ≡ None = λ k. let r : StateRef = record { id = id; index = k } in absent_unlocked locks r (not_locked recorded locks r none v.known) in
    record {
      states = ap (held_after me id tx) v.states ∙ sym (vault_noted me recorded locks id tx unspent free);
      once = not_from_false _ (once_more recorded (id, tx) (not-true _ v.once) none);
      sources = list_all-append (λ (t : Noted). has_sources (recorded ++ (id, tx) ∷ []) t.1) recorded ((id, tx) ∷ []) ∙ and_from _ _ (passes_weaken (λ (t : Noted). has_sources recorded t.1) (λ t. has_sources (recorded ++ (id, tx) ∷ []) t.1) recorded (λ t h. sources_more recorded (id, tx) t.1 h) v.sources) (and_from _ _ (sources_more recorded (id, tx) tx both.1) refl);
      known = passes_weaken (λ (l : Lock). is_noted recorded l.reference.id) (λ l. is_noted (recorded ++ (id, tx) ∷ []) l.reference.id) locks (λ l h. noted_more recorded (id, tx) l.reference.id h) v.known;
      apart = v.apart;
    }
