-- What all nodes recorded, each id once: what it names there is what it names at its node.
use Rattle.std.proofs.Common.{◌≡◌, ℕ, zero, suc, ◌||◌, Bool, true, false, cond, List, [], ◌∷◌, ◌++◌, Option, Some, None, slice_get, flat_map, option_map, option_and_then, refl, sym, ap, subst, ◌∙◌}
use Rattle.std.specs.List.{AllByRecursion, list_any}
use Rattle.std.proofs.lemmas.Bool.{or_parts}
use Rattle.net_base.specs.declared.values.Hash32.{Hash32}
use Rattle.net_base.specs.declared.names.StateRef.{StateRef}
use Rattle.net_base.proofs.Lists.{all_append, all_front, all_from_get, all_get, all_push}
use Rattle.net_base.proofs.Options.{some_eq}
use Rattle.ledger_types.specs.declared.state.TxState.{TxState}
use Rattle.ledger_types.specs.declared.tx.Tx.{Tx}
use Rattle.ledger_types.specs.declared.tx.Resolved.{Resolved}
use Rattle.ledger_types.specs.declared.tx.SignedTx.{SignedTx}
use Rattle.ledger_types.specs.Names.{hash_eq, ref_eq, has_repeat}
use Rattle.ledger_types.specs.Signatures.{tx_id}
use Rattle.ledger_types.specs.Stores.{stored_of, is_stored, state_of, states_of, resolved_of}
use Rattle.ledger_types.specs.Tears.{joined}
use Rattle.ledger_types.proofs.Names.{hash_same, hash_exact, hash_swapped}
use Rattle.tx_tear.specs.Hashed.{AreApart}
use Rattle.tx_tear.proofs.Collisions.{all_right}
use Rattle.net_model.specs.Environment.{Environment}
use Rattle.net_model.specs.State.{NodeState, with_ids}
use Rattle.net_model.specs.Tags.{book_of}
use Rattle.ledger_laws.specs.Ledgers.{HasWholeChains, HasNoneSpentTwice, hashed_to_sign}
use Rattle.contract_laws.specs.Lawful.{Contracts, AreLawful}
use Rattle.contract_laws.specs.Values.{KeepsValue, KeepsAllValue}
use Rattle.contract_laws.specs.Supply.{without_tags, IsAccounted, IsAtNode, once_by_id, recorded_by_all, AreToldApart, AreAccounted}
use Rattle.contract_laws.proofs.Spent.{each_once, apart_once, inputs_once, Item, none_twice}
use Rattle.contract_laws.proofs.Supply.{accounted}

-- ---- gathering

ids_push : (found : List SignedTx) (stx : SignedTx) → without_tags (found ++ stx ∷ []) ≡ without_tags found ++ (tx_id stx.tx, stx.tx) ∷ []
ids_push [] stx = refl
ids_push (x ∷ xs) stx = ap (λ (l : List (Hash32 × Tx)). (tx_id x.tx, x.tx) ∷ l) (ids_push xs stx)

stored_push : (found more : List SignedTx) (id : Hash32) → is_stored (with_ids (found ++ more)) id ≡ (is_stored (with_ids found) id || is_stored (with_ids more) id)
stored_push [] more id = refl
stored_push (x ∷ xs) more id = by (hash_eq id (tx_id x.tx)) (stored_push xs more id)
  where
    by : (b : Bool) → is_stored (with_ids (xs ++ more)) id ≡ (is_stored (with_ids xs) id || is_stored (with_ids more) id) → (b || is_stored (with_ids (xs ++ more)) id) ≡ ((b || is_stored (with_ids xs) id) || is_stored (with_ids more) id)
    by true rest = refl
    by false rest = rest

-- a found one is told apart from a new id
apart_from : (found : List SignedTx) (stx : SignedTx) → is_stored (with_ids found) (tx_id stx.tx) ≡ false
    → AllByRecursion (λ u. list_any {X = Hash32 × Tx} (λ t. hash_eq u.0 t.0) ((tx_id stx.tx, stx.tx) ∷ []) ≡ false) (without_tags found)
apart_from [] stx new = tt
apart_from (x ∷ xs) stx new = let both = or_parts (hash_eq (tx_id stx.tx) (tx_id x.tx)) (is_stored (with_ids xs) (tx_id stx.tx)) new in
    (ap (λ b. b || false) (hash_swapped (tx_id x.tx) (tx_id stx.tx) ∙ both.0), apart_from xs stx both.1)

gather_once : (found more : List SignedTx) → has_repeat (λ u t. hash_eq t.0 u.0) (without_tags found) ≡ false → has_repeat (λ u t. hash_eq t.0 u.0) (without_tags (once_by_id found more)) ≡ false
gather_once found [] once = once
gather_once found (x ∷ more) once = by (is_stored (with_ids found) (tx_id x.tx)) refl (λ next o. gather_once next more o)
  where
    by : (b : Bool) → is_stored (with_ids found) (tx_id x.tx) ≡ b → ((next : List SignedTx) → has_repeat (λ u t. hash_eq t.0 u.0) (without_tags next) ≡ false → has_repeat (λ u t. hash_eq t.0 u.0) (without_tags (once_by_id next more)) ≡ false)
        → has_repeat (λ u t. hash_eq t.0 u.0) (without_tags (once_by_id (cond b found (found ++ x ∷ [])) more)) ≡ false
    by true e go = go found once
    by false e go = go (found ++ x ∷ []) (subst (λ (l : List (Hash32 × Tx)). has_repeat (λ u t. hash_eq t.0 u.0) l ≡ false) (sym (ids_push found x))
        (apart_once (λ u t. hash_eq t.0 u.0) (without_tags found) ((tx_id x.tx, x.tx) ∷ []) once refl (apart_from found x e)))

gather_all : (P : SignedTx → Type 0) (found more : List SignedTx) → AllByRecursion P found → AllByRecursion P more → AllByRecursion P (once_by_id found more)
gather_all P found [] all rest = all
gather_all P found (x ∷ more) all rest = by (is_stored (with_ids found) (tx_id x.tx)) (λ next a. gather_all P next more a rest.1)
  where
    by : (b : Bool) → ((next : List SignedTx) → AllByRecursion P next → AllByRecursion P (once_by_id next more)) → AllByRecursion P (once_by_id (cond b found (found ++ x ∷ [])) more)
    by true go = go found all
    by false go = go (found ++ x ∷ []) (all_push P found x all rest.0)

gather_keeps : (found more : List SignedTx) (id : Hash32) → is_stored (with_ids found) id ≡ true → is_stored (with_ids (once_by_id found more)) id ≡ true
gather_keeps found [] id there = there
gather_keeps found (x ∷ more) id there = by (is_stored (with_ids found) (tx_id x.tx)) (λ next t. gather_keeps next more id t)
  where
    by : (b : Bool) → ((next : List SignedTx) → is_stored (with_ids next) id ≡ true → is_stored (with_ids (once_by_id next more)) id ≡ true) → is_stored (with_ids (once_by_id (cond b found (found ++ x ∷ [])) more)) id ≡ true
    by true go = go found there
    by false go = go (found ++ x ∷ []) (stored_push found (x ∷ []) id ∙ ap (λ b. b || is_stored (with_ids (x ∷ [])) id) there)

-- the id of a transaction is among these once more are once_by_id
abbrev Has : List SignedTx → List SignedTx → SignedTx → Type 0
Has found more stx = is_stored (with_ids (once_by_id found more)) (tx_id stx.tx) ≡ true

gather_has : (found more : List SignedTx) → AllByRecursion (Has found more) more
gather_has found [] = tt
gather_has found (x ∷ more) = by (is_stored (with_ids found) (tx_id x.tx)) refl (λ next. gather_has next more)
  where
    last : (b : Bool) → (b || (true || false)) ≡ true
    last true = refl
    last false = refl

    by : (b : Bool) → is_stored (with_ids found) (tx_id x.tx) ≡ b → ((next : List SignedTx) → AllByRecursion (Has next more) more) → AllByRecursion (Has (cond b found (found ++ x ∷ [])) more) (x ∷ more)
    by true e rest = (gather_keeps found more (tx_id x.tx) e, rest found)
    by false e rest = (
      gather_keeps (found ++ x ∷ []) more (tx_id x.tx)
          (stored_push found (x ∷ []) (tx_id x.tx) ∙ ap (λ b. is_stored (with_ids found) (tx_id x.tx) || (b || false)) (hash_same (tx_id x.tx)) ∙ last (is_stored (with_ids found) (tx_id x.tx))),
      rest (found ++ x ∷ []),
    )

-- ---- lists of lists

all_flat : {X Y : Type 0} (P : Y → Type 0) (f : X → List Y) (xs : List X) → AllByRecursion (λ x. AllByRecursion P (f x)) xs → AllByRecursion P (flat_map f xs)
all_flat P f [] all = tt
all_flat P f (x ∷ xs) all = all_append P (f x) (flat_map f xs) all.0 (all_flat P f xs all.1)

one_flat : {X Y : Type 0} (P : Y → Type 0) (f : X → List Y) (xs : List X) (n : ℕ) (x : X) → slice_get xs n ≡ Some x → AllByRecursion P (flat_map f xs) → AllByRecursion P (f x)
one_flat P f [] n x at all = absurd cc
one_flat P f (y ∷ ys) zero x at all = subst (λ z. AllByRecursion P (f z)) (some_eq at) (all_front P (f y) (flat_map f ys) all)
one_flat P f (y ∷ ys) (suc n) x at all = one_flat P f ys n x at (all_right P (f y) (flat_map f ys) all)

-- ---- what is found by an id

-- one of these, of this id
record One (P : SignedTx → Type 0) (some : List SignedTx) (id : Hash32) : Type 0 where
  stx : SignedTx
  there : stored_of (with_ids some) id ≡ Some stx
  named : tx_id stx.tx ≡ id
  holds : P stx

found : (P : SignedTx → Type 0) (some : List SignedTx) (id : Hash32) → AllByRecursion P some → is_stored (with_ids some) id ≡ true → One P some id
found P [] id all h = absurd cc
found P (x ∷ xs) id all h = by (hash_eq id (tx_id x.tx)) refl h (found P xs id all.1)
  where
    by : (b : Bool) → hash_eq id (tx_id x.tx) ≡ b → b || is_stored (with_ids xs) id ≡ true → (is_stored (with_ids xs) id ≡ true → One P xs id) → One P (x ∷ xs) id
    by true same h more = record { stx = x; there = rw same refl; named = sym (hash_exact id (tx_id x.tx) same); holds = all.0 }
    by false other h more = let f = more h in record { stx = f.stx; there = rw other f.there; named = f.named; holds = f.holds }

-- whether one is found
is_found : (some : List SignedTx) (id : Hash32) (stx : SignedTx) → stored_of (with_ids some) id ≡ Some stx → is_stored (with_ids some) id ≡ true
is_found [] id stx is = absurd cc
is_found (x ∷ xs) id stx is = by (hash_eq id (tx_id x.tx)) refl (is_found xs id stx)
  where
    by : (b : Bool) → hash_eq id (tx_id x.tx) ≡ b → (stored_of (with_ids xs) id ≡ Some stx → is_stored (with_ids xs) id ≡ true) → b || is_stored (with_ids xs) id ≡ true
    by true same more = refl
    by false other more = more (sym (rw other refl) ∙ is)

-- ---- all nodes

module _ {F : Type 0} (e : Environment F) (net : List (NodeState F)) (told : AreToldApart e net) where
  abbrev all : List SignedTx
  all = recorded_by_all net

  at_place : (p n : ℕ) (s : NodeState F) (stx : SignedTx) → slice_get net p ≡ Some s → slice_get s.stored n ≡ Some stx → IsAtNode net stx
  at_place p n s stx at there = record { node = p; state = s; up = at; place = n; there = there }

  all_recorded : AllByRecursion (IsAtNode net) all
  all_recorded = gather_all (IsAtNode net) [] (flat_map (λ s. s.stored) net) tt
      (all_flat (IsAtNode net) (λ s. s.stored) net (all_from_get (λ s. AllByRecursion (IsAtNode net) s.stored) net
      (λ p s at. all_from_get (IsAtNode net) s.stored (λ n stx there. at_place p n s stx at there))))

  once : has_repeat (λ u t. hash_eq t.0 u.0) (without_tags all) ≡ false
  once = gather_once [] (flat_map (λ s. s.stored) net) refl

  -- what is recorded at a node
  module _ (p : ℕ) (s : NodeState F) (at : slice_get net p ≡ Some s) where
    here : AllByRecursion (IsAtNode net) s.stored
    here = all_from_get (IsAtNode net) s.stored (λ n stx there. at_place p n s stx at there)

    gathered_too : AllByRecursion (λ stx. is_stored (with_ids all) (tx_id stx.tx) ≡ true) s.stored
    gathered_too = one_flat (λ stx. is_stored (with_ids all) (tx_id stx.tx) ≡ true) (λ x. x.stored) net p s at (gather_has [] (flat_map (λ x. x.stored) net))

    -- a state that is named there is named among all
    same_state : (r : StateRef) (x : TxState) → state_of (with_ids s.stored) r ≡ Some x → state_of (with_ids all) r ≡ Some x
    same_state r x is = by (stored_of (with_ids s.stored) r.id) refl is
      where
        by : (o : Option SignedTx) → stored_of (with_ids s.stored) r.id ≡ o → option_and_then (λ stx. slice_get stx.tx.outputs r.index) o ≡ Some x → state_of (with_ids all) r ≡ Some x
        by None e is = absurd cc
        by (Some stx) e is =
            let both : AllByRecursion (λ y. IsAtNode net y × (is_stored (with_ids all) (tx_id y.tx) ≡ true)) s.stored =
            all_from_get (λ y. IsAtNode net y × (is_stored (with_ids all) (tx_id y.tx) ≡ true)) s.stored (λ n y there. (all_get (IsAtNode net) s.stored n y here there, all_get (λ z. is_stored (with_ids all) (tx_id z.tx) ≡ true) s.stored n y gathered_too there)) in
            let one = found (λ y. IsAtNode net y × (is_stored (with_ids all) (tx_id y.tx) ≡ true)) s.stored r.id both (is_found s.stored r.id stx e) in
            let same : one.stx ≡ stx = some_eq (sym one.there ∙ e) in
            let other = found (IsAtNode net) all r.id all_recorded (subst (λ (id : Hash32). is_stored (with_ids all) id ≡ true) one.named one.holds.1) in
            let equal : other.stx.tx ≡ stx.tx = told.named other.stx one.stx other.holds one.holds.0 (other.named ∙ sym one.named) ∙ ap (λ (y : SignedTx). y.tx) same in
            ap (option_and_then (λ y. slice_get y.tx.outputs r.index)) other.there ∙ (ap (λ (t : Tx). slice_get t.outputs r.index) equal ∙ is)

    same_states : (refs : List StateRef) (xs : List TxState) → states_of (with_ids s.stored) refs ≡ Some xs → states_of (with_ids all) refs ≡ Some xs
    same_states [] xs is = is
    same_states (r ∷ refs) xs is = by (state_of (with_ids s.stored) r) (states_of (with_ids s.stored) refs) refl refl is (same_states refs)
      where
        by : (o : Option TxState) (os : Option (List TxState)) → state_of (with_ids s.stored) r ≡ o → states_of (with_ids s.stored) refs ≡ os → joined o os ≡ Some xs
            → ((ys : List TxState) → states_of (with_ids s.stored) refs ≡ Some ys → states_of (with_ids all) refs ≡ Some ys) → joined (state_of (with_ids all) r) (states_of (with_ids all) refs) ≡ Some xs
        by None os e k j more = absurd cc
        by (Some x) None e k j more = absurd cc
        by (Some x) (Some ys) e k j more = ap (λ o. joined o (states_of (with_ids all) refs)) (same_state r x e) ∙ (ap (λ os. joined (Some x) os) (more ys k) ∙ j)

    same_resolved : (tx : Tx) (states : Resolved) → resolved_of (with_ids s.stored) tx ≡ Some states → resolved_of (with_ids all) tx ≡ Some states
    same_resolved tx states is = by (states_of (with_ids s.stored) tx.inputs) (states_of (with_ids s.stored) tx.references) refl refl is
      where
        by : (o q : Option (List TxState)) → states_of (with_ids s.stored) tx.inputs ≡ o → states_of (with_ids s.stored) tx.references ≡ q
            → option_and_then (λ xs. option_map (λ ys. record { inputs = xs; references = ys }) q) o ≡ Some states → resolved_of (with_ids all) tx ≡ Some states
        by None q e k j = absurd cc
        by (Some xs) None e k j = absurd cc
        by (Some xs) (Some ys) e k j = rw (same_states tx.inputs xs e) (rw (same_states tx.references ys k) j)

    kept_too : (tx : Tx) → KeepsValue s.stored tx → KeepsValue all tx
    kept_too tx k = record { states = k.states; resolves = same_resolved tx k.states k.resolves; accepted = k.accepted; conserved = k.conserved; untouched = k.untouched }

  all_kept : KeepsAllValue e net → AllByRecursion (λ stx. KeepsValue all stx.tx) all
  all_kept values = all_from_get (λ stx. KeepsValue all stx.tx) all (λ n stx there.
      let one = all_get (IsAtNode net) all n stx all_recorded there in
      kept_too one.node one.state one.up stx.tx (values one.node one.place one.state stx one.up one.there))

-- ---- both

pub are_accounted : {F : Type 0} (contracts : Contracts) (e : Environment F) (net : List (NodeState F)) → HasWholeChains e net → HasNoneSpentTwice e net → AreLawful contracts e net → KeepsAllValue e net → AreAccounted e net
are_accounted {F} contracts e net chains spent lawful values = record { each = each; together = together }
  where
    once_each : (stx : SignedTx) → IsAtNode net stx → has_repeat ref_eq stx.tx.inputs ≡ false
    once_each stx i = let one = lawful i.node i.place i.state stx i.up i.there in inputs_once stx.tx one.states one.rules

    each : (p : ℕ) (s : NodeState F) → slice_get net p ≡ Some s → AllByRecursion (λ stx. AreApart (hashed_to_sign (book_of e net) stx.tx)) s.stored → IsAccounted s.stored
    each p s at apart =
        let differ = each_once [] (with_ids s.stored) (chains p s at).ordered in
        let items = all_from_get (Item e net spent) s.stored (λ n stx there.
        let i : IsAtNode net stx = record { node = p; state = s; up = at; place = n; there = there } in
        record { there = i; apart = all_get (λ x. AreApart (hashed_to_sign (book_of e net) x.tx)) s.stored n stx apart there; once = once_each stx i }) in
        accounted s.stored differ (all_from_get (λ stx. KeepsValue s.stored stx.tx) s.stored (λ n stx there. values p n s stx at there)) (none_twice e net spent s.stored items differ)

    together : AreToldApart e net → IsAccounted (recorded_by_all net)
    together told =
        let all = recorded_by_all net in
        let items = all_from_get (Item e net spent) all (λ n stx there.
        let i = all_get (IsAtNode net) all n stx (all_recorded e net told) there in record { there = i; apart = told.signed stx i; once = once_each stx i }) in
        accounted all (once e net told) (all_kept e net told values) (none_twice e net spent all items (once e net told))
