-- States had one after the other.
use Rattle.std.proofs.Common.{◌≡◌, zero, suc, ◌+◌, ◌<◌, length, take, get_or, slice_get, Ok, Err, arith, ℕ, ◌↔◌, Bool, true, false, ◌&&◌, IsTrue, List, [], ◌∷◌, ◌++◌, Option, Some, None, refl, sym, ◌∙◌, ap, is_some, is_none, option_map, option_and_then}
use Rattle.std.specs.List.{list_all}
use Rattle.std.proofs.lemmas.Bool.{and_parts, and_from}
use Rattle.std.proofs.lemmas.Option.{none-some}
use Rattle.std.proofs.lemmas.List.{take_more, append-nil}
use Rattle.net_base.proofs.Options.{some_eq}
use Rattle.net_base.specs.declared.values.Hash32.{Hash32}
use Rattle.net_base.specs.declared.names.StateRef.{StateRef}
use Rattle.ledger_types.specs.declared.state.TxState.{TxState}
use Rattle.ledger_types.specs.declared.tx.Tx.{Tx}
use Rattle.ledger_types.specs.declared.tx.SignedTx.{SignedTx}
use Rattle.ledger_types.specs.declared.tx.Resolved.{Resolved}
use Rattle.ledger_types.specs.Tears.{joined}
use Rattle.ledger_types.specs.Stores.{stored_of, is_stored, refs_of, state_of, states_of, resolved_of}
use Rattle.tx_store.specs.declared.fault.ResolveFault.{ResolveFault}
use Rattle.tx_store.specs.Stored.{HasEach, first_lost}
use Rattle.tx_store.specs.declared.fault.ResolveFault.TheVariants.{Lacking, NoOutput, Memory}
use Rattle.tx_store.specs.Faults.{fault_at, fault_of, value_or, state_or_fault, Misses, Lacks}
use Rattle.tx_store.proofs.Ordered.{lookup_is, lookup_some}

-- what joins a state to states, taken apart
pub joined_parts : (s : Option TxState) (rest : Option (List TxState)) (all : List TxState) → joined s rest ≡ Some all → (state : TxState) × ((states : List TxState) × ((s ≡ Some state) × ((rest ≡ Some states) × (all ≡ state ∷ states))))
joined_parts None rest all e = absurd (none-some all e)
joined_parts (Some s) None all e = absurd (none-some all e)
joined_parts (Some s) (Some states) all e = (s, (states, (refl, (refl, cc e))))

-- one more state
pub states_push : (store : List (Hash32 × SignedTx)) (refs : List StateRef) (r : StateRef) (states : List TxState) (state : TxState) → states_of store refs ≡ Some states → state_of store r ≡ Some state → states_of store (refs ++ r ∷ []) ≡ Some (states ++ state ∷ [])
states_push store [] r states state had one =
    let none : [] ≡ states = cc had in
    (λ i. joined (one i) (Some [])) ∙ ap (λ (l : List TxState). Some (l ++ state ∷ [])) none
states_push store (q ∷ refs) r states state had one =
    let p = joined_parts (state_of store q) (states_of store refs) states had in
    let rest = states_push store refs r p.1.0 state p.1.1.1.0 one in
    (λ i. joined (p.1.1.0 i) (rest i)) ∙ ap (λ (l : List TxState). Some (l ++ state ∷ [])) (sym p.1.1.1.1)

-- references whose states can be had are no fault
pub lost_past : (store : List (Hash32 × SignedTx)) (refs more : List StateRef) (states : List TxState) → states_of store refs ≡ Some states → first_lost store (refs ++ more) ≡ first_lost store more
lost_past store [] more states had = refl
lost_past store (q ∷ refs) more states had =
    let p = joined_parts (state_of store q) (states_of store refs) states had in
    rw p.1.1.0 (lost_past store refs more p.1.0 p.1.1.1.0)

-- a transaction that isn't found isn't stored
stored_is : (store : List (Hash32 × SignedTx)) (id : Hash32) (o : Option SignedTx) → stored_of store id ≡ o → is_stored store id ≡ is_some o
stored_is store id o e = sym (lookup_some id store) ∙ ap is_some (lookup_is id store) ∙ ap is_some e

pub fault_absent : (store : List (Hash32 × SignedTx)) (r : StateRef) → stored_of store r.id ≡ None → Err (Lacking r.id) ≡ state_or_fault store r
fault_absent store r e = let no = stored_is store r.id None e in rw e (rw no refl)

pub fault_no_output : (store : List (Hash32 × SignedTx)) (r : StateRef) (stx : SignedTx) → stored_of store r.id ≡ Some stx → slice_get stx.tx.outputs r.index ≡ None → Err (NoOutput r) ≡ state_or_fault store r
fault_no_output store r stx e none = let yes = stored_is store r.id (Some stx) e in rw e (rw none (rw yes refl))

pub state_had : (store : List (Hash32 × SignedTx)) (r : StateRef) (stx : SignedTx) (state : TxState) → stored_of store r.id ≡ Some stx → slice_get stx.tx.outputs r.index ≡ Some state → Ok state ≡ state_or_fault store r
state_had store r stx state e some = rw e (rw some refl)

-- the first fault is that of the first state that can't be had
pub fault_found : (store : List (Hash32 × SignedTx)) (refs : List StateRef) (i : ℕ) (d : StateRef) (states : List TxState) (e : ResolveFault) → i < length refs → states_of store (take i refs) ≡ Some states → state_or_fault store (get_or refs i d) ≡ Err e → fault_of store refs ≡ Some e
fault_found store [] i d states e lt had err = absurd (omega (arith, lt))
fault_found store (q ∷ refs) zero d states e lt had err = by (state_of store q) refl err
  where
    by : (o : Option TxState) → state_of store q ≡ o → value_or (fault_at store q) o ≡ Err e → fault_of store (q ∷ refs) ≡ Some e
    by None is same = let one : fault_at store q ≡ e = cc same in rw is (ap Some one)
    by (Some state) is same = absurd (ok_err same)
      where
        ok_err : {X Y : Type 0} {x : X} {y : Y} → Ok x ≡ Err y → ⊥
        ok_err b = cc b
fault_found store (q ∷ refs) (suc i) d states e lt had err =
    let p = joined_parts (state_of store q) (states_of store (take i refs)) states had in
    rw p.1.1.0 (fault_found store refs i d p.1.0 e (omega (arith, lt)) p.1.1.1.0 err)

-- the state of a reference, by the answer
had_is : (o : Option TxState) (fault : ResolveFault) (state : TxState) → value_or fault o ≡ Ok state → o ≡ Some state
had_is None fault state e = absurd (err_ok e)
  where
    err_ok : {X Y : Type 0} {x : X} {y : Y} → Err y ≡ Ok x → ⊥
    err_ok b = cc b
had_is (Some s) fault state e = let same : s ≡ state = cc e in ap Some same

-- one more of the list
pub states_more : (store : List (Hash32 × SignedTx)) (refs : List StateRef) (i : ℕ) (d : StateRef) (states : List TxState) (state : TxState) → i < length refs → states_of store (take i refs) ≡ Some states → state_or_fault store (get_or refs i d) ≡ Ok state → states_of store (take (i + 1) refs) ≡ Some (states ++ state ∷ [])
states_more store refs i d states state lt had one =
    let r = get_or refs i d in
    ap (λ (l : List StateRef). states_of store l) (take_more refs i d lt) ∙ states_push store (take i refs) r states state had (had_is (state_of store r) (fault_at store r) state one)

-- a fault of the first list is the fault of both
pub fault_first : (store : List (Hash32 × SignedTx)) (refs more : List StateRef) (e : ResolveFault) → fault_of store refs ≡ Some e → fault_of store (refs ++ more) ≡ Some e
fault_first store [] more e is = absurd (none-some e is)
fault_first store (q ∷ refs) more e is = by (is_none (state_of store q)) refl (λ rest. fault_first store refs more e rest)
  where
    by : (b : Bool) → is_none (state_of store q) ≡ b → (fault_of store refs ≡ Some e → fault_of store (refs ++ more) ≡ Some e) → fault_of store (q ∷ (refs ++ more)) ≡ Some e
    by true t rest = rw t (let one : Some (fault_at store q) ≡ Some e = rw t at is in one)
    by false t rest = rw t (rest (rw t at is))

-- where the first list has none, the fault of the second is that of both
pub fault_second : (store : List (Hash32 × SignedTx)) (refs more : List StateRef) (states : List TxState) (e : ResolveFault) → states_of store refs ≡ Some states → fault_of store more ≡ Some e → fault_of store (refs ++ more) ≡ Some e
fault_second store refs more states e had is = ap (option_map (fault_at store)) (lost_past store refs more states had) ∙ is

-- ---- states had or not

joined_had : (s : Option TxState) (rest : Option (List TxState)) → is_some (joined s rest) ≡ (is_some s && is_some rest)
joined_had None rest = refl
joined_had (Some s) None = refl
joined_had (Some s) (Some states) = refl

-- all states are had exactly where each is
pub all_had : (store : List (Hash32 × SignedTx)) (refs : List StateRef) → list_all (λ r. is_some (state_of store r)) refs ≡ is_some (states_of store refs)
all_had store [] = refl
all_had store (r ∷ refs) = ap (λ b. is_some (state_of store r) && b) (all_had store refs) ∙ sym (joined_had (state_of store r) (states_of store refs))

-- the states of both lists, where each can be had
abbrev both : Option (List TxState) → Option (List TxState) → Option Resolved
both a b = option_and_then (λ inputs. option_map (λ references. record { inputs = inputs; references = references }) b) a

both_parts : (a b : Option (List TxState)) (states : Resolved) → both a b ≡ Some states → (a ≡ Some states.inputs) × (b ≡ Some states.references)
both_parts None b states e = absurd (none-some states e)
both_parts (Some x) None states e = absurd (none-some states e)
both_parts (Some x) (Some y) states e = let same : record { inputs = x; references = y } ≡ states = some_eq e in (ap (λ (s : Resolved). Some s.inputs) same, ap (λ (s : Resolved). Some s.references) same)

-- a transaction's states are had exactly where those of both lists are
pub both_had : (store : List (Hash32 × SignedTx)) (tx : Tx) → (is_some (states_of store tx.inputs) && is_some (states_of store tx.references)) ≡ is_some (resolved_of store tx)
both_had store tx = by (states_of store tx.inputs) (states_of store tx.references)
  where
    by : (a b : Option (List TxState)) → (is_some a && is_some b) ≡ is_some (both a b)
    by None b = refl
    by (Some x) None = refl
    by (Some x) (Some y) = refl

-- where a reference is at fault no states are had
pub not_resolved : (store : List (Hash32 × SignedTx)) (tx : Tx) (e : ResolveFault) → fault_of store (refs_of tx) ≡ Some e → resolved_of store tx ≡ None
not_resolved store tx e fault = by (states_of store tx.inputs) (states_of store tx.references) refl refl
  where
    none : (refs : List StateRef) (states : List TxState) → states_of store refs ≡ Some states → first_lost store refs ≡ None
    none refs states had = ap (first_lost store) (sym (append-nil refs)) ∙ lost_past store refs [] states had

    no : (o : Option StateRef) → o ≡ None → option_map (fault_at store) o ≡ Some e → ⊥
    no o is h = absurd (none-some e (sym (ap (option_map (fault_at store)) is) ∙ h))

    by : (a b : Option (List TxState)) → states_of store tx.inputs ≡ a → states_of store tx.references ≡ b → both a b ≡ None
    by None b i j = refl
    by (Some x) None i j = refl
    by (Some x) (Some y) i j = absurd (no (first_lost store (refs_of tx)) (lost_past store tx.inputs tx.references x i ∙ none tx.references y j) fault)

-- ---- by the fault

pub misses_first : (store : List (Hash32 × SignedTx)) (tx : Tx) (e : ResolveFault) → Misses store tx.inputs e → Lacks store tx e
misses_first store tx (Lacking id) is = let f = fault_first store tx.inputs tx.references (Lacking id) is in (f, not_resolved store tx (Lacking id) f)
misses_first store tx (NoOutput r) is = let f = fault_first store tx.inputs tx.references (NoOutput r) is in (f, not_resolved store tx (NoOutput r) f)
misses_first store tx Memory is = tt

pub misses_second : (store : List (Hash32 × SignedTx)) (tx : Tx) (states : List TxState) (e : ResolveFault) → states_of store tx.inputs ≡ Some states → Misses store tx.references e → Lacks store tx e
misses_second store tx states (Lacking id) had is = let f = fault_second store tx.inputs tx.references states (Lacking id) had is in (f, not_resolved store tx (Lacking id) f)
misses_second store tx states (NoOutput r) had is = let f = fault_second store tx.inputs tx.references states (NoOutput r) had is in (f, not_resolved store tx (NoOutput r) f)
misses_second store tx states Memory had is = tt

pub fault_missed : (store : List (Hash32 × SignedTx)) (refs : List StateRef) (e : ResolveFault) → fault_of store refs ≡ Some e → Misses store refs e
fault_missed store refs (Lacking id) is = is
fault_missed store refs (NoOutput r) is = is
fault_missed store refs Memory is = tt

-- ---- lengths

-- there are as many states as references
pub states_long : (store : List (Hash32 × SignedTx)) (refs : List StateRef) (states : List TxState) → states_of store refs ≡ Some states → length states ≡ length refs
states_long store [] states h = let none : [] ≡ states = cc h in ap length (sym none)
states_long store (r ∷ refs) states h =
    let p = joined_parts (state_of store r) (states_of store refs) states h in
    ap length p.1.1.1.1 ∙ ap suc (states_long store refs p.1.0 p.1.1.1.0)

-- what a transaction's states are made of
pub resolved_parts : (store : List (Hash32 × SignedTx)) (tx : Tx) (states : Resolved) → resolved_of store tx ≡ Some states → (states_of store tx.inputs ≡ Some states.inputs) × (states_of store tx.references ≡ Some states.references)
resolved_parts store tx states e = both_parts (states_of store tx.inputs) (states_of store tx.references) states e

-- a transaction has a state for each input and each reference
pub resolved_long : (store : List (Hash32 × SignedTx)) (tx : Tx) (states : Resolved) → resolved_of store tx ≡ Some states → HasEach tx states
resolved_long store tx states e = let p = resolved_parts store tx states e in (states_long store tx.inputs states.inputs p.0, states_long store tx.references states.references p.1)

-- ---- states compared one by one

cons_head : {X : Type 0} {x y : X} {xs ys : List X} → x ∷ xs ≡ y ∷ ys → x ≡ y
cons_head e = cc e

cons_tail : {X : Type 0} {x y : X} {xs ys : List X} → x ∷ xs ≡ y ∷ ys → xs ≡ ys
cons_tail e = cc e

-- a first state and the others are had exactly where they are had one by one
pub joins : (store : List (Hash32 × SignedTx)) (r : StateRef) (refs : List StateRef) (s : TxState) (states : List TxState) (a b : Bool) → (IsTrue a ↔ (state_of store r ≡ Some s)) → (IsTrue b ↔ (states_of store refs ≡ Some states)) → IsTrue (a && b) ↔ (states_of store (r ∷ refs) ≡ Some (s ∷ states))
joins store r refs s states a b f g = (
  λ t. let p = and_parts a b t in (λ i. joined (f.0 p.0 i) (g.0 p.1 i)),
  λ e.
      let p = joined_parts (state_of store r) (states_of store refs) (s ∷ states) e in
      and_from _ _ (f.1 (p.1.1.0 ∙ ap (λ (x : TxState). Some x) (sym (cons_head p.1.1.1.1)))) (g.1 (p.1.1.1.0 ∙ ap (λ (x : List TxState). Some x) (sym (cons_tail p.1.1.1.1)))),
)

pub some_states : (store : List (Hash32 × SignedTx)) (s : TxState) (states : List TxState) → states_of store [] ≡ Some (s ∷ states) → IsTrue false
some_states store s states e = cc e

pub no_states : (store : List (Hash32 × SignedTx)) (r : StateRef) (refs : List StateRef) → states_of store (r ∷ refs) ≡ Some [] → IsTrue false
no_states store r refs e = let p = joined_parts (state_of store r) (states_of store refs) [] e in not_empty p.1.1.1.1
  where
    not_empty : {X : Type 0} {x : X} {xs : List X} → [] ≡ x ∷ xs → IsTrue false
    not_empty e = cc e

-- both lists of states are had exactly where the transaction resolves to them
pub resolves : (store : List (Hash32 × SignedTx)) (tx : Tx) (states : Resolved) (a b : Bool) → (IsTrue a ↔ (states_of store tx.inputs ≡ Some states.inputs)) → (IsTrue b ↔ (states_of store tx.references ≡ Some states.references)) → IsTrue (a && b) ↔ (resolved_of store tx ≡ Some states)
resolves store tx states a b f g =
    (λ t. let p = and_parts a b t in to (states_of store tx.inputs) (states_of store tx.references) (f.0 p.0) (g.0 p.1), λ e. let q = resolved_parts store tx states e in and_from _ _ (f.1 q.0) (g.1 q.1))
  where
    to : (i r : Option (List TxState)) → i ≡ Some states.inputs → r ≡ Some states.references → both i r ≡ Some states
    to i r e h = (λ k. both (e k) (h k))
