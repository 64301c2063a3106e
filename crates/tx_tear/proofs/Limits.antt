-- The tear-off of a transaction within its limits is within its own.
use Rattle.std.proofs.Common.{◌≡◌, ℕ, zero, suc, ◌+◌, ◌≤◌, List, [], ◌∷◌, length, take, map, Option, Some, None, option_to_list, refl, sym, ap, subst, ◌∙◌, arith}
use Rattle.std.specs.Prelude.{IfSome}
use Rattle.std.specs.List.{AllByRecursion}
use Rattle.std.specs.Int.{w32}
use Rattle.std.proofs.lemmas.List.{length-append, length-map}
use Rattle.net_base.specs.Reading.{number}
use Rattle.net_base.specs.Forms.{ListWithin, option_of}
use Rattle.net_base.specs.declared.names.StateRef.{StateRef}
use Rattle.net_base.specs.declared.values.Moment.{Moment}
use Rattle.net_base.specs.declared.values.Hash32.{Hash32}
use Rattle.net_base.specs.Values.{moment, party}
use Rattle.net_base.specs.Names.{IsStateRef, state_ref}
use Rattle.net_base.proofs.Lists.{all_take}
use Rattle.ledger_types.specs.declared.tx.Tx.{Tx}
use Rattle.ledger_types.specs.declared.tx.Window.{Window}
use Rattle.ledger_types.specs.declared.torn.TornGroup.{TornGroup}
use Rattle.ledger_types.specs.Txs.{IsTx, window}
use Rattle.ledger_types.specs.Ids.{groups, present, id_of, values_from, kept}
use Rattle.ledger_types.specs.Torn.{IsTornPart, IsTornGroup, AreGroups, IsTornTx, shown_of, shown_in}
use Rattle.ledger_types.proofs.Sizes.{length-number32, length-number64}
use Rattle.tx_tear.specs.Tearing.{parts_from, shown_group, torn_from}
use Rattle.tx_tear.proofs.Groups.{truncated}
use Rattle.tx_tear.proofs.Lengths.{length_digest, long_root, long_value, long_values}

-- ---- sizes of components

-- at most 64 bytes
abbrev IsSmall : List ℕ → Type 0
IsSmall bytes = length bytes ≤ 64

small_ref : (r : StateRef) → IsStateRef r → IsSmall (state_ref r)
small_ref r h = omega (arith, length-append r.id.0 (number w32 r.index), length-number32 r.index, h.0)

length_moment : (o : Option Moment) → length (option_of moment o) ≤ 9
length_moment None = omega arith
length_moment (Some m) = omega (arith, length-number64 m.0)

small_window : (w : Window) → IsSmall (window w)
small_window w = omega (arith, length-append (option_of moment w.from) (option_of moment w.until), length_moment w.from, length_moment w.until)

-- ---- parts

small_parts : (salt : List ℕ) (group place : ℕ) (bs : List (List ℕ)) → AllByRecursion IsSmall bs → AllByRecursion IsTornPart (parts_from salt group place bs)
small_parts salt group place [] h = tt
small_parts salt group place (b ∷ bs) h = ((length_digest _, h.0), small_parts salt group (place + 1) bs h.1)

length_parts : (salt : List ℕ) (group place : ℕ) (bs : List (List ℕ)) → length (parts_from salt group place bs) ≡ length bs
length_parts salt group place [] = refl
length_parts salt group place (b ∷ bs) = omega (arith, length_parts salt group (place + 1) bs)

small_items : {V : Type 0} (spelling : V → List ℕ) (within : V → Type 0) (vs : List V) → ((v : V) → within v → IsSmall (spelling v)) → AllByRecursion within vs → AllByRecursion IsSmall (map spelling vs)
small_items spelling within [] f h = tt
small_items spelling within (v ∷ vs) f h = (f v h.0, small_items spelling within vs f h.1)

-- a shown group whose components are few and small is within its limits, and shows no more parts
record Shows (limit : ℕ) (g : TornGroup) : Type 0 where
  is : IsTornGroup g
  few : shown_of g ≤ limit

shows_items : {V : Type 0} (spelling : V → List ℕ) (within : V → Type 0) (salt : List ℕ) (group limit : ℕ) (vs : List V) → limit ≤ 64 → ((v : V) → within v → IsSmall (spelling v)) → ListWithin limit within vs → Shows limit (shown_group salt group (map spelling vs))
shows_items spelling within salt group limit vs low f h =
    let count : length (parts_from salt group 0 (map spelling vs)) ≡ length vs = length_parts salt group 0 (map spelling vs) ∙ length-map vs spelling in
    record { is = (omega (arith, count, h.0), small_parts salt group 0 (map spelling vs) (small_items spelling within vs f h.1)); few = omega (arith, count, h.0) }

one : {V : Type 0} (within : V → Type 0) (o : Option V) → IfSome o within → ListWithin 1 within (option_to_list o)
one within None h = (omega arith, tt)
one within (Some v) h = (omega arith, (h, tt))

-- ---- all eight groups, and those that are listed

shown_take : (n : ℕ) (gs : List TornGroup) → shown_in (take n gs) ≤ shown_in gs
shown_take zero gs = omega arith
shown_take (suc n) [] = omega arith
shown_take (suc n) (g ∷ gs) = omega (arith, shown_take n gs)

length_torn : (salt : List ℕ) (group : ℕ) (gs : List (List (List ℕ))) → length (torn_from salt group gs) ≡ length gs
length_torn salt group [] = refl
length_torn salt group (bs ∷ gs) = omega (arith, length_torn salt (group + 1) gs)

length_kept : (bs : List (List ℕ)) (gs : List (List (List ℕ))) → length (kept bs gs) ≤ suc (length gs)
length_kept bs (g ∷ gs) = omega arith
length_kept (b ∷ bs) [] = omega arith
length_kept [] [] = omega arith

length_present : (gs : List (List (List ℕ))) → length (present gs) ≤ length gs
length_present [] = omega arith
length_present (bs ∷ gs) = omega (arith, length_kept bs (present gs), length_present gs)

record AreEight (tx : Tx) : Type 0 where
  each : AllByRecursion IsTornGroup (torn_from tx.salt.0 0 (groups tx))
  few : shown_in (torn_from tx.salt.0 0 (groups tx)) ≤ 96

eight : (tx : Tx) → IsTx tx → AreEight tx
eight tx h =
    let s = tx.salt.0 in
    let inputs = shows_items state_ref IsStateRef s 0 64 tx.inputs (omega arith) small_ref h.1.0 in
    let notary = shows_items party _ s 4 1 (option_to_list tx.notary) (omega arith) (λ p w. omega arith) (one _ tx.notary h.1.1.1.1.1.0) in
    let shown_window = shows_items window _ s 5 1 (option_to_list tx.window) (omega arith) (λ w k. small_window w) (one _ tx.window h.1.1.1.1.1.1.0) in
    let references = shows_items state_ref IsStateRef s 7 16 tx.references (omega arith) small_ref h.1.1.1.1.1.1.1 in
    record {
      each = (inputs.is, (long_value s 1 _, (long_value s 2 _, (long_value s 3 _, (notary.is, (shown_window.is, (long_value s 6 _, (references.is, tt))))))));
      few = omega (arith, inputs.few, notary.few, shown_window.few, references.few);
    }

groups_within : (tx : Tx) → IsTx tx → AreGroups (torn_from tx.salt.0 0 (present (groups tx)))
groups_within tx h =
    let all = eight tx h in
    let n = length (present (groups tx)) in
    let front : torn_from tx.salt.0 0 (present (groups tx)) ≡ take n (torn_from tx.salt.0 0 (groups tx)) = truncated tx.salt.0 0 (groups tx) in
    let count : length (torn_from tx.salt.0 0 (present (groups tx))) ≡ n = length_torn tx.salt.0 0 (present (groups tx)) in (
      (omega (arith, count, length_present (groups tx)), subst (λ (gs : List TornGroup). AllByRecursion IsTornGroup gs) (sym front) (all_take IsTornGroup n (torn_from tx.salt.0 0 (groups tx)) all.each)),
      subst (λ (gs : List TornGroup). shown_in gs ≤ 96) (sym front) (omega (arith, all.few, shown_take n (torn_from tx.salt.0 0 (groups tx)))),
    )

long_id : (tx : Tx) → length (id_of tx) ≡ 32
unfolding id_of
long_id tx = long_root (values_from tx.salt.0 0 (present (groups tx))) (long_values tx.salt.0 0 (present (groups tx)))

-- the tear-off as it is built: a front of all eight groups, behind the id
pub built_within : (tx : Tx) (id : Hash32) (all gs : List TornGroup) (n : ℕ) → IsTx tx → id.0 ≡ id_of tx → all ≡ torn_from tx.salt.0 0 (groups tx) → n ≡ length (present (groups tx)) → gs ≡ take n all → IsTornTx (record { id = id; groups = gs })
built_within tx id all gs n h same are count front =
    let listed : gs ≡ torn_from tx.salt.0 0 (present (groups tx)) = front ∙ (λ i. take (count i) (are i)) ∙ sym (truncated tx.salt.0 0 (groups tx)) in
    (ap length same ∙ long_id tx, subst (λ (l : List TornGroup). AreGroups l) (sym listed) (groups_within tx h))
