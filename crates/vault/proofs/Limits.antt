-- What a vault holds is within its limits and relevant to its party, whatever is recorded, locked and released.
use Rattle.std.proofs.Common.{◌≡◌, ◌≤◌, ◌<◌, ◌+◌, ◌^◌, ℕ, Bool, true, false, cond, not, List, [], ◌∷◌, Some, None, length, map, filter, refl, ◌∙◌, arith, if◌then◌else◌}
use Rattle.std.specs.List.{list_all, AllByRecursion}
use Rattle.std.proofs.lemmas.Bool.{and_parts, and_from}
use Rattle.std.proofs.lemmas.List.Folds.{list_all-append}
use Rattle.net_base.specs.Forms.{ListWithin}
use Rattle.net_base.specs.Values.{IsHash}
use Rattle.net_base.specs.declared.values.Hash32.{Hash32}
use Rattle.net_base.specs.declared.values.Party.{Party}
use Rattle.net_base.specs.declared.names.StateRef.{StateRef}
use Rattle.net_base.proofs.Lists.{all_append, all_kept, all_filter}
use Rattle.ledger_types.specs.declared.state.TxState.{TxState}
use Rattle.ledger_types.specs.declared.tx.Tx.{Tx}
use Rattle.ledger_types.specs.declared.held.Held.{Held}
use Rattle.ledger_types.specs.States.{IsTxState}
use Rattle.ledger_types.specs.Names.{has_ref}
use Rattle.ledger_types.specs.Vaults.{is_relevant, outputs_from, IsHeld}
use Rattle.vault.specs.Holdings.{is_own, AreHeld, held_after, locked_in, is_flow, freed_of}

-- ---- properties of all of a list

-- what a filter keeps passes its test
pub filter_passes : {X : Type 0} (test : X → Bool) (xs : List X) → list_all test (filter test xs) ≡ true
filter_passes test [] = refl
filter_passes {X} test (x ∷ xs) = by (test x) refl (filter_passes test xs)
  where
    by : (b : Bool) → test x ≡ b → list_all test (filter test xs) ≡ true → list_all test (cond b (x ∷ filter test xs) (filter test xs)) ≡ true
    by true e more = and_from _ _ e more
    by false e more = more

-- ---- recording

outputs_held : (id : Hash32) (n : ℕ) (states : List TxState) → IsHash id → n + length states ≤ 64 → AllByRecursion IsTxState states → AllByRecursion IsHeld (outputs_from [] id n states)
outputs_held id n [] hash few h = tt
outputs_held id n (s ∷ states) hash few h = (((hash, omega (arith, few)), (h.0, tt)), outputs_held id (n + 1) states hash (omega (arith, few)) h.1)

pub note_held : (me : Party) (id : Hash32) (tx : Tx) (states : List Held) → IsHash id → ListWithin 64 IsTxState tx.outputs → AreHeld me states → AreHeld me (held_after me id tx states)
note_held me id tx states hash within h =
    let left = λ (s : Held). not (has_ref s.reference tx.inputs) in
    let mine = λ (s : Held). is_relevant me s.state.body in
    let new = outputs_from [] id 0 tx.outputs in (
      all_append IsHeld (filter left states) (filter mine new) (all_kept IsHeld left states h.0) (all_kept IsHeld mine new (outputs_held id 0 tx.outputs hash (omega (arith, within.0)) within.1)),
      list_all-append (is_own me) (filter left states) (filter mine new) ∙ and_from _ _ (all_filter (is_own me) left states h.1) (filter_passes mine new),
    )

-- ---- locking and releasing

locked_limits : (flow : ℕ) (refs : List StateRef) (h : Held) → flow < 2 ^ 32 → IsHeld h → IsHeld (locked_in flow refs h)
locked_limits flow refs h small k = by (has_ref h.reference refs)
  where
    by : (b : Bool) → IsHeld (if b then (record h { locked = Some flow }) else h)
    by true = (k.0, (k.1.0, small))
    by false = k

locked_own : (me : Party) (flow : ℕ) (refs : List StateRef) (h : Held) → is_own me (locked_in flow refs h) ≡ is_own me h
locked_own me flow refs h = by (has_ref h.reference refs)
  where
    by : (b : Bool) → is_own me (if b then (record h { locked = Some flow }) else h) ≡ is_own me h
    by true = refl
    by false = refl

pub lock_held : (me : Party) (flow : ℕ) (refs : List StateRef) (states : List Held) → flow < 2 ^ 32 → AreHeld me states → AreHeld me (map (locked_in flow refs) states)
lock_held me flow refs [] small h = (tt, refl)
lock_held me flow refs (s ∷ states) small h =
    let both = and_parts (is_own me s) (list_all (is_own me) states) h.1 in
    let rest = lock_held me flow refs states small (h.0.1, both.1) in
    ((locked_limits flow refs s small h.0.0, rest.0), and_from _ _ (locked_own me flow refs s ∙ both.0) rest.1)

freed_limits : (flow : ℕ) (h : Held) → IsHeld h → IsHeld (freed_of flow h)
freed_limits flow h k = by (is_flow flow h.locked)
  where
    by : (b : Bool) → IsHeld (if b then (record h { locked = None }) else h)
    by true = (k.0, (k.1.0, tt))
    by false = k

freed_own : (me : Party) (flow : ℕ) (h : Held) → is_own me (freed_of flow h) ≡ is_own me h
freed_own me flow h = by (is_flow flow h.locked)
  where
    by : (b : Bool) → is_own me (if b then (record h { locked = None }) else h) ≡ is_own me h
    by true = refl
    by false = refl

pub release_held : (me : Party) (flow : ℕ) (states : List Held) → AreHeld me states → AreHeld me (map (freed_of flow) states)
release_held me flow [] h = (tt, refl)
release_held me flow (s ∷ states) h =
    let both = and_parts (is_own me s) (list_all (is_own me) states) h.1 in
    let rest = release_held me flow states (h.0.1, both.1) in
    ((freed_limits flow s h.0.0, rest.0), and_from _ _ (freed_own me flow s ∙ both.0) rest.1)
