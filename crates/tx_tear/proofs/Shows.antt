-- The tear-off of a transaction shows what a notary is to see.
use Rattle.std.proofs.Common.{◌≡◌, ℕ, Bool, true, cond, List, map, Option, Some, None, Result, option_map, option_and_then, option_to_list, bytes_eq, refl, sym, ap, ◌∙◌, arith}
use Rattle.std.specs.Prelude.{IfSome}
use Rattle.std.specs.List.{AllByRecursion, slice_get}
use Rattle.std.proofs.lemmas.Slice.Eq.{bytes_eq-Decides}
use Rattle.net_base.specs.declared.values.Hash32.{Hash32}
use Rattle.net_base.specs.declared.values.Party.{Party}
use Rattle.net_base.specs.declared.names.StateRef.{StateRef}
use Rattle.net_base.specs.Laws.{Laws}
use Rattle.net_base.specs.Values.{party_laws}
use Rattle.net_base.specs.Names.{state_ref_laws}
use Rattle.component_merkle.specs.Merkle.{root_of}
use Rattle.ledger_types.specs.declared.tx.Tx.{Tx}
use Rattle.ledger_types.specs.declared.tx.Window.{Window}
use Rattle.ledger_types.specs.declared.torn.TornTx.{TornTx}
use Rattle.ledger_types.specs.declared.torn.Visible.{Visible}
use Rattle.ledger_types.specs.Txs.{IsTx, window_laws}
use Rattle.ledger_types.specs.Ids.{groups, present, id_of}
use Rattle.ledger_types.specs.Tears.{torn_root, parts_at, spelt_by, at_most_one, shown_refs, shown_notary, shown_window, shown_by, visible_of}
use Rattle.tx_tear.specs.Tearing.{parts_from, is_shown, tear_of, seen_of}
use Rattle.tx_tear.proofs.Groups.{values_torn, components_of, present_at, torn_at}
use Rattle.tx_tear.proofs.Spelling.{spelt_all}

shown_at : {V : Type 0} {within : V → Type 0} {spelling : V → List ℕ} {reading : List ℕ → Result (V × List ℕ) ℕ} (laws : Laws within spelling reading) (tx : Tx) (k : ℕ) (vs : List V) → is_shown k ≡ true
    → components_of (slice_get (groups tx) k) ≡ map spelling vs → AllByRecursion within vs → option_and_then (spelt_by reading) (parts_at (tear_of tx) k) ≡ Some vs
unfolding tear_of
shown_at {V} {within} {spelling} {reading} laws tx k vs shown are h =
    ap (option_and_then (spelt_by reading)) (torn_at tx.salt.0 0 k k (present (groups tx)) (omega arith) shown)
    ∙ ap (λ (bs : List (List ℕ)). spelt_by reading (parts_from tx.salt.0 k 0 bs)) (present_at (groups tx) k ∙ are)
    ∙ spelt_all laws tx.salt.0 k 0 vs h

pub one_of : {V : Type 0} (o : Option V) → at_most_one (option_to_list o) ≡ Some o
one_of None = refl
one_of (Some v) = refl

pub all_of : {V : Type 0} (within : V → Type 0) (o : Option V) → IfSome o within → AllByRecursion within (option_to_list o)
all_of within None h = tt
all_of within (Some v) h = (h, tt)

-- what the four groups show together
abbrev pub together : Hash32 → Option (List StateRef) → Option (Option Party) → Option (Option Window) → Option (List StateRef) → Option Visible
together id inputs notary window references =
    option_and_then (λ i.
    option_and_then (λ n.
    option_and_then (λ w.
    option_map (λ r. record { id = id; inputs = i; references = r; notary = n; window = w })
    references) window) notary) inputs

pub shown_together : (torn : TornTx) (inputs references : List StateRef) (notary : Option Party) (window : Option Window) → shown_refs torn 0 ≡ Some inputs → shown_notary torn ≡ Some notary → shown_window torn ≡ Some window → shown_refs torn 7 ≡ Some references
    → shown_by torn ≡ Some (record { id = torn.id; inputs = inputs; references = references; notary = notary; window = window })
shown_together torn inputs references notary window i n w r =
    ap (λ (o : Option (List StateRef)). together torn.id o (shown_notary torn) (shown_window torn) (shown_refs torn 7)) i
    ∙ ap (λ (o : Option (Option Party)). together torn.id (Some inputs) o (shown_window torn) (shown_refs torn 7)) n
    ∙ ap (λ (o : Option (Option Window)). together torn.id (Some inputs) (Some notary) o (shown_refs torn 7)) w
    ∙ ap (λ (o : Option (List StateRef)). together torn.id (Some inputs) (Some notary) (Some window) o) r

root_torn : (tx : Tx) → torn_root (tear_of tx) ≡ id_of tx
unfolding tear_of id_of
root_torn tx = ap root_of (values_torn tx.salt.0 0 (present (groups tx)))

id_torn : (tx : Tx) → (tear_of tx).id.0 ≡ id_of tx
unfolding tear_of
id_torn tx = refl

shown_torn : (tx : Tx) → IsTx tx → shown_by (tear_of tx) ≡ Some (record { id = (tear_of tx).id; inputs = tx.inputs; references = tx.references; notary = tx.notary; window = tx.window })
shown_torn tx h =
    shown_together (tear_of tx) tx.inputs tx.references tx.notary tx.window
    (shown_at state_ref_laws tx 0 tx.inputs refl refl h.1.0.1)
    (ap (option_and_then at_most_one) (shown_at party_laws tx 4 (option_to_list tx.notary) refl refl (all_of _ tx.notary h.1.1.1.1.1.0)) ∙ one_of tx.notary)
    (ap (option_and_then at_most_one) (shown_at window_laws tx 5 (option_to_list tx.window) refl refl (all_of _ tx.window h.1.1.1.1.1.1.0)) ∙ one_of tx.window)
    (shown_at state_ref_laws tx 7 tx.references refl refl h.1.1.1.1.1.1.1.1)

seen_torn : (tx : Tx) → Some (record { id = (tear_of tx).id; inputs = tx.inputs; references = tx.references; notary = tx.notary; window = tx.window }) ≡ Some (seen_of tx)
unfolding tear_of
seen_torn tx = refl

pub shows : (tx : Tx) → IsTx tx → visible_of (tear_of tx) ≡ Some (seen_of tx)
unfolding visible_of
shows tx h =
    let same : bytes_eq (torn_root (tear_of tx)) (tear_of tx).id.0 ≡ true = (bytes_eq-Decides (torn_root (tear_of tx)) (tear_of tx).id.0).1 (root_torn tx ∙ sym (id_torn tx)) in
    ap (λ (b : Bool). cond b (shown_by (tear_of tx)) None) same ∙ shown_torn tx h ∙ seen_torn tx
