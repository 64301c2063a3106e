-- The list of soft locks, as flows lock and release states.
use Rattle.std.proofs.Common.{◌≡◌, ◌==◌, ℕ, Bool, true, false, cond, not, ◌||◌, List, [], ◌∷◌, ◌++◌, Some, None, map, find, option_map, refl, sym, ◌∙◌, ap, subst, true≢false}
use Rattle.std.proofs.lemmas.Bool.{or_parts, not_from_false, not-true}
use Rattle.std.proofs.lemmas.List.{map-append}
use Rattle.std.proofs.lemmas.List.Folds.{list_any-append}
use Rattle.net_base.specs.declared.names.StateRef.{StateRef}
use Rattle.ledger_types.specs.Names.{ref_eq, has_ref, has_repeat}
use Rattle.ledger_types.specs.Vaults.{Lock, locked_by, locks_of, released}
use Rattle.ledger_types.proofs.Names.{ref_same, ref_exact, ref_swapped}
use Rattle.vault.specs.Holdings.{is_flow, are_apart}
use Rattle.vault.proofs.Passing.{true_or_false}

-- what the locks lock
abbrev pub refs_of : List Lock → List StateRef
refs_of locks = map (λ l. l.reference) locks

locked_on : (l : Lock) (locks : List Lock) (r : StateRef) → locked_by (l ∷ locks) r ≡ cond (ref_eq r l.reference) (Some l.flow) (locked_by locks r)
locked_on l locks r = by (ref_eq r l.reference)
  where
    by : (b : Bool) → option_map (λ (m : Lock). m.flow) (cond b (Some l) (find (λ (m : Lock). ref_eq r m.reference) locks)) ≡ cond b (Some l.flow) (locked_by locks r)
    by true = refl
    by false = refl

-- the locks of a flow on references
locks_of_lock : (flow : ℕ) (refs : List StateRef) (r : StateRef) → locked_by (locks_of flow refs) r ≡ cond (has_ref r refs) (Some flow) None
locks_of_lock flow [] r = refl
locks_of_lock flow (s ∷ refs) r = locked_on (record { reference = s; flow = flow }) (locks_of flow refs) r ∙ ap (λ b. cond b (Some flow) (locked_by (locks_of flow refs) r)) (ref_swapped r s) ∙ by (locks_of_lock flow refs r) (ref_eq s r)
  where
    by : locked_by (locks_of flow refs) r ≡ cond (has_ref r refs) (Some flow) None → (b : Bool) → cond b (Some flow) (locked_by (locks_of flow refs) r) ≡ cond (b || has_ref r refs) (Some flow) None
    by more true = refl
    by more false = more

-- behind further locks a reference that none of them locked before is locked by these, and any other as before
pub locked_more : (locks : List Lock) (flow : ℕ) (refs : List StateRef) (r : StateRef) → (has_ref r refs ≡ true → locked_by locks r ≡ None) → locked_by (locks ++ locks_of flow refs) r ≡ cond (has_ref r refs) (Some flow) (locked_by locks r)
locked_more [] flow refs r free = locks_of_lock flow refs r
locked_more (l ∷ locks) flow refs r free =
    locked_on l (locks ++ locks_of flow refs) r ∙ by (locked_more locks flow refs r) (ref_eq r l.reference) (has_ref r refs) refl refl ∙ ap (cond (has_ref r refs) (Some flow)) (sym (locked_on l locks r))
  where
    by : ((has_ref r refs ≡ true → locked_by locks r ≡ None) → locked_by (locks ++ locks_of flow refs) r ≡ cond (has_ref r refs) (Some flow) (locked_by locks r)) → (b h : Bool) → ref_eq r l.reference ≡ b → has_ref r refs ≡ h → cond b (Some l.flow) (locked_by (locks ++ locks_of flow refs) r) ≡ cond (has_ref r refs) (Some flow) (cond b (Some l.flow) (locked_by locks r))
    by more true true e h = absurd (some_none (sym (ap (λ c. cond c (Some l.flow) (locked_by locks r)) e) ∙ sym (locked_on l locks r) ∙ free h))
      where
        some_none : {X : Type 0} {x : X} → Some x ≡ None → ⊥
        some_none f = cc f
    by more true false e h = ap (λ c. cond c (Some flow) (Some l.flow)) (sym h)
    by more false b e h = more (λ t. sym (ap (λ c. cond c (Some l.flow) (locked_by locks r)) e) ∙ sym (locked_on l locks r) ∙ free t)

-- what no lock is on is not locked
pub absent_unlocked : (locks : List Lock) (r : StateRef) → has_ref r (refs_of locks) ≡ false → locked_by locks r ≡ None
absent_unlocked [] r none = refl
absent_unlocked (l ∷ locks) r none =
    let both = or_parts (ref_eq l.reference r) (has_ref r (refs_of locks)) none in
    locked_on l locks r ∙ ap (λ b. cond b (Some l.flow) (locked_by locks r)) (ref_swapped r l.reference ∙ both.0) ∙ absent_unlocked locks r both.1

pub unlocked_absent : (locks : List Lock) (r : StateRef) → locked_by locks r ≡ None → has_ref r (refs_of locks) ≡ false
unlocked_absent [] r free = refl
unlocked_absent (l ∷ locks) r free = by (unlocked_absent locks r) (ref_eq r l.reference) refl (sym (locked_on l locks r) ∙ free)
  where
    by : (locked_by locks r ≡ None → has_ref r (refs_of locks) ≡ false) → (b : Bool) → ref_eq r l.reference ≡ b → cond b (Some l.flow) (locked_by locks r) ≡ None → (ref_eq l.reference r || has_ref r (refs_of locks)) ≡ false
    by more true e f = absurd (some_none f)
      where
        some_none : {X : Type 0} {x : X} → Some x ≡ None → ⊥
        some_none g = cc g
    by more false e f = ap (λ c. c || has_ref r (refs_of locks)) (ref_swapped l.reference r ∙ e) ∙ more f

refs_released : (flow : ℕ) (locks : List Lock) (r : StateRef) → has_ref r (refs_of locks) ≡ false → has_ref r (refs_of (released flow locks)) ≡ false
refs_released flow [] r none = refl
refs_released flow (l ∷ locks) r none = let both = or_parts (ref_eq l.reference r) (has_ref r (refs_of locks)) none in by both.0 (refs_released flow locks r both.1) (not (l.flow == flow))
  where
    by : ref_eq l.reference r ≡ false → has_ref r (refs_of (released flow locks)) ≡ false → (b : Bool) → has_ref r (refs_of (cond b (l ∷ released flow locks) (released flow locks))) ≡ false
    by here more true = ap (λ c. c || has_ref r (refs_of (released flow locks))) here ∙ more
    by here more false = more

-- whether the first is on nothing that the others are on, and so on
apart_parts : (l : Lock) (locks : List Lock) → are_apart (l ∷ locks) ≡ true → (has_ref l.reference (refs_of locks) ≡ false) × (are_apart locks ≡ true)
apart_parts l locks apart =
    let both = or_parts (has_ref l.reference (refs_of locks)) (has_repeat ref_eq (refs_of locks)) (not-true _ apart) in
    (both.0, not_from_false _ both.1)

-- behind a release a reference is locked by another flow alone
pub locked_less : (flow : ℕ) (locks : List Lock) (r : StateRef) → are_apart locks ≡ true → locked_by (released flow locks) r ≡ cond (is_flow flow (locked_by locks r)) None (locked_by locks r)
locked_less flow [] r apart = refl
locked_less flow (l ∷ locks) r apart = let both = apart_parts l locks apart in by both.0 (locked_less flow locks r both.1) (l.flow == flow) (ref_eq r l.reference) refl refl ∙ ap (λ o. cond (is_flow flow o) None o) (sym (locked_on l locks r))
  where
    by : has_ref l.reference (refs_of locks) ≡ false → locked_by (released flow locks) r ≡ cond (is_flow flow (locked_by locks r)) None (locked_by locks r) → (f b : Bool) → (l.flow == flow) ≡ f → ref_eq r l.reference ≡ b → locked_by (cond (not f) (l ∷ released flow locks) (released flow locks)) r ≡ cond (is_flow flow (cond b (Some l.flow) (locked_by locks r))) None (cond b (Some l.flow) (locked_by locks r))
    by here more true true e h = absent_unlocked (released flow locks) r (refs_released flow locks r (subst (λ s. has_ref s (refs_of locks) ≡ false) (sym (ref_exact r l.reference h)) here)) ∙ ap (λ c. cond c None (Some l.flow)) (sym e)
    by here more true false e h = more
    by here more false true e h = locked_on l (released flow locks) r ∙ ap (λ c. cond c (Some l.flow) (locked_by (released flow locks) r)) h ∙ ap (λ c. cond c None (Some l.flow)) (sym e)
    by here more false false e h = locked_on l (released flow locks) r ∙ ap (λ c. cond c (Some l.flow) (locked_by (released flow locks) r)) h ∙ more

-- ---- no reference is locked twice

repeat_more : (xs ys : List StateRef) → has_repeat ref_eq xs ≡ false → has_repeat ref_eq ys ≡ false → ((r : StateRef) → has_ref r ys ≡ true → has_ref r xs ≡ false) → has_repeat ref_eq (xs ++ ys) ≡ false
repeat_more [] ys p q apart = q
repeat_more (x ∷ xs) ys p q apart =
    let both = or_parts (has_ref x xs) (has_repeat ref_eq xs) p in
    let other : has_ref x ys ≡ false = true_or_false (has_ref x ys) (λ t. absurd (true≢false (sym (ref_same x) ∙ (or_parts (ref_eq x x) (has_ref x xs) (apart x t)).0))) (λ f. f) in
    ap (λ b. b || has_repeat ref_eq (xs ++ ys)) (list_any-append (λ s. ref_eq s x) xs ys ∙ ap (λ b. b || has_ref x ys) both.0 ∙ other)
    ∙ repeat_more xs ys both.1 q (λ r t. (or_parts (ref_eq x r) (has_ref r xs) (apart r t)).1)

refs_of_locks : (flow : ℕ) (refs : List StateRef) → refs_of (locks_of flow refs) ≡ refs
refs_of_locks flow [] = refl
refs_of_locks flow (r ∷ refs) = ap (λ (l : List StateRef). r ∷ l) (refs_of_locks flow refs)

pub apart_more : (locks : List Lock) (flow : ℕ) (refs : List StateRef) → are_apart locks ≡ true → has_repeat ref_eq refs ≡ false → ((r : StateRef) → has_ref r refs ≡ true → locked_by locks r ≡ None) → are_apart (locks ++ locks_of flow refs) ≡ true
apart_more locks flow refs apart once free =
    let joined : refs_of (locks ++ locks_of flow refs) ≡ refs_of locks ++ refs = map-append (λ (l : Lock). l.reference) locks (locks_of flow refs) ∙ ap (λ (l : List StateRef). refs_of locks ++ l) (refs_of_locks flow refs) in
    ap (λ (l : List StateRef). not (has_repeat ref_eq l)) joined
    ∙ not_from_false _ (repeat_more (refs_of locks) refs (not-true _ apart) once (λ r t. unlocked_absent locks r (free r t)))

pub apart_less : (flow : ℕ) (locks : List Lock) → are_apart locks ≡ true → are_apart (released flow locks) ≡ true
apart_less flow [] apart = refl
apart_less flow (l ∷ locks) apart = let both = apart_parts l locks apart in by both.0 (apart_less flow locks both.1) (not (l.flow == flow))
  where
    by : has_ref l.reference (refs_of locks) ≡ false → are_apart (released flow locks) ≡ true → (b : Bool) → are_apart (cond b (l ∷ released flow locks) (released flow locks)) ≡ true
    by here more true = ap (λ c. not (c || has_repeat ref_eq (refs_of (released flow locks)))) (refs_released flow locks l.reference here) ∙ more
    by here more false = more
