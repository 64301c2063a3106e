-- The tear-off over which an id was signed shows the inputs and the time window of the transaction of that id, where no digests collide.
use Rattle.std.proofs.Common.{◌≡◌, ℕ, zero, ◌+◌, ◌<◌, Bool, true, false, cond, List, [], ◌∷◌, length, map, Option, Some, None, Result, option_map, option_to_list, bytes_eq, find, slice_get, refl, sym, ◌∙◌, ap, subst, arith}
use Rattle.std.specs.Prelude.{is_some, IfSome}
use Rattle.std.specs.List.{AllByRecursion, Contains, flat_map}
use Rattle.std.proofs.lemmas.List.{length-take}
use Rattle.std.proofs.lemmas.Option.{slice_get_within}
use Rattle.std.proofs.lemmas.Slice.Eq.{bytes_eq-Decides}
use Rattle.net_base.specs.declared.values.Hash32.{Hash32}
use Rattle.net_base.specs.declared.values.Party.{Party}
use Rattle.net_base.specs.declared.names.StateRef.{StateRef}
use Rattle.net_base.specs.Values.{party, party_at}
use Rattle.net_base.specs.Names.{IsStateRef, state_ref_at, state_ref_laws}
use Rattle.net_base.proofs.Lists.{all_front}
use Rattle.net_base.proofs.Options.{some_eq}
use Rattle.component_merkle.specs.Merkle.{root_of}
use Rattle.ledger_types.specs.declared.state.TxState.{TxState}
use Rattle.ledger_types.specs.declared.tx.Window.{Window}
use Rattle.ledger_types.specs.declared.tx.Tx.{Tx}
use Rattle.ledger_types.specs.declared.tx.SignedTx.{SignedTx}
use Rattle.ledger_types.specs.declared.tx.Resolved.{Resolved}
use Rattle.ledger_types.specs.declared.torn.TornPart.{TornPart}
use Rattle.ledger_types.specs.declared.torn.TornGroup.{TornGroup}
use Rattle.ledger_types.specs.declared.torn.TornGroup.TheVariants.{Hidden, Shown}
use Rattle.ledger_types.specs.declared.torn.TornTx.{TornTx}
use Rattle.ledger_types.specs.declared.torn.Visible.{Visible}
use Rattle.ledger_types.specs.Ids.{groups, present, id_of, values_from}
use Rattle.ledger_types.specs.Names.{hash_eq}
use Rattle.ledger_types.specs.Signatures.{tx_id}
use Rattle.ledger_types.specs.Stores.{stored_of, state_of, states_of, resolved_of}
use Rattle.ledger_types.specs.Txs.{IsWindow, window_at, window_laws}
use Rattle.ledger_types.specs.Tears.{group_value, torn_root, parts_of, parts_at, whole, joined, spelt_by, at_most_one, shown_refs, shown_notary, shown_window, shown_by, visible_of}
use Rattle.ledger_types.proofs.Names.{hash_exact}
use Rattle.tx_tear.specs.Tearing.{parts_from, shown_group, hidden_group, is_shown, torn_from, tear_of}
use Rattle.tx_tear.specs.Hashed.{AreApart, Includes, hashed_for_group, hashed_for_groups, hashed_for_root, hashed_for_torn, hashed_for_all}
use Rattle.tx_tear.proofs.Collisions.{Inside, Nonces32, bytes_of, inside, all_right}
use Rattle.tx_tear.proofs.Groups.{values_torn, truncated, components_of, present_at, torn_at}
use Rattle.tx_tear.proofs.Lengths.{length_digest, long_root, long_value, long_values}
use Rattle.tx_tear.proofs.Places.{IsSized, IsSound, sound, same_bytes_named}
use Rattle.tx_tear.proofs.Shows.{one_of, all_of}
use Rattle.tx_tear.proofs.Sights.{tear_included}
use Rattle.tx_tear.proofs.Spelling.{spelt_of}
use Rattle.net_model.specs.State.{with_ids}
use Rattle.net_model.proofs.Basics.{from_cond, from_map, from_then}
use Rattle.ledger_laws.proofs.Reading.{IsSizedTorn, HasFewOutputs}

-- ---- the states that a recorded transaction names

-- a value before others, where there are both
record Joined {V : Type 0} (o : Option V) (rest : Option (List V)) (vs : List V) : Type 0 where
  first : V
  more : List V
  one : o ≡ Some first
  others : rest ≡ Some more
  all : first ∷ more ≡ vs

joined_some : {V : Type 0} (o : Option V) (rest : Option (List V)) (vs : List V) → joined o rest ≡ Some vs → Joined o rest vs
joined_some None rest vs e = absurd cc
joined_some (Some v) None vs e = absurd cc
joined_some (Some v) (Some ws) vs e = record { first = v; more = ws; one = refl; others = refl; all = some_eq e }

long_id : (tx : Tx) → length (id_of tx) ≡ 32
unfolding id_of
long_id tx = long_root (values_from tx.salt.0 0 (present (groups tx))) (long_values tx.salt.0 0 (present (groups tx)))

named_by : (stored : List SignedTx) (id : Hash32) (stx : SignedTx) → AllByRecursion HasFewOutputs stored → stored_of (with_ids stored) id ≡ Some stx → (tx_id stx.tx ≡ id) × HasFewOutputs stx
named_by [] id stx few h = absurd cc
named_by (x ∷ xs) id stx few h = by (hash_eq id (tx_id x.tx)) refl h (named_by xs id stx few.1)
  where
    by : (b : Bool) → hash_eq id (tx_id x.tx) ≡ b → option_map (λ p. p.1) (cond b (Some (tx_id x.tx, x)) (find (λ p. hash_eq id p.0) (with_ids xs))) ≡ Some stx → (stored_of (with_ids xs) id ≡ Some stx → (tx_id stx.tx ≡ id) × HasFewOutputs stx)
        → (tx_id stx.tx ≡ id) × HasFewOutputs stx
    by true same h more = subst (λ (y : SignedTx). (tx_id y.tx ≡ id) × HasFewOutputs y) (some_eq h) (sym (hash_exact id (tx_id x.tx) same), few.0)
    by false other h more = more h

ref_within : (stored : List SignedTx) (r : StateRef) (s : TxState) → AllByRecursion HasFewOutputs stored → state_of (with_ids stored) r ≡ Some s → IsStateRef r
ref_within stored r s few h =
    from_then (IsStateRef r) (λ stx. slice_get stx.tx.outputs r.index) (stored_of (with_ids stored) r.id) s h (λ stx there out.
    let named = named_by stored r.id stx few there in
    (subst (λ (id : Hash32). length id.0 ≡ 32) named.0 (long_id stx.tx), omega (arith, named.1, slice_get_within stx.tx.outputs r.index s out)))

refs_within : (stored : List SignedTx) (refs : List StateRef) (states : List TxState) → AllByRecursion HasFewOutputs stored → states_of (with_ids stored) refs ≡ Some states → AllByRecursion IsStateRef refs
refs_within stored [] states few h = tt
refs_within stored (r ∷ refs) states few h =
    let j = joined_some (state_of (with_ids stored) r) (states_of (with_ids stored) refs) states h in
    (ref_within stored r j.first few j.one, refs_within stored refs j.more few j.others)

-- the inputs of a transaction that resolves are within their limits
pub inputs_within : (stored : List SignedTx) (tx : Tx) (states : Resolved) → AllByRecursion HasFewOutputs stored → resolved_of (with_ids stored) tx ≡ Some states → AllByRecursion IsStateRef tx.inputs
inputs_within stored tx states few h = from_then (AllByRecursion IsStateRef tx.inputs) _ (states_of (with_ids stored) tx.inputs) states h (λ inputs there rest. refs_within stored tx.inputs inputs few there)

-- ---- a transaction's own tear-off

nonces_parts : (salt : List ℕ) (group place : ℕ) (bs : List (List ℕ)) → Nonces32 (parts_from salt group place bs)
nonces_parts salt group place [] = tt
nonces_parts salt group place (b ∷ bs) = (length_digest _, nonces_parts salt group (place + 1) bs)

sized_from : (salt : List ℕ) (group : ℕ) (gs : List (List (List ℕ))) → AllByRecursion IsSized (torn_from salt group gs)
sized_from salt group [] = tt
sized_from salt group (bs ∷ gs) = (by (is_shown group), sized_from salt (group + 1) gs)
  where
    by : (b : Bool) → IsSized (cond b (shown_group salt group bs) (hidden_group salt group bs))
    by true = nonces_parts salt group 0 bs
    by false = long_value salt group bs

few_groups : (tx : Tx) → length (torn_from tx.salt.0 0 (present (groups tx))) < 10
few_groups tx =
    let all : length (torn_from tx.salt.0 0 (groups tx)) ≡ 8 = refl in
    let n = length (present (groups tx)) in
    omega (arith, all, ap length (truncated tx.salt.0 0 (groups tx)), length-take n (torn_from tx.salt.0 0 (groups tx)))

bytes_parts : (salt : List ℕ) (group place : ℕ) (bs : List (List ℕ)) → bytes_of (parts_from salt group place bs) ≡ bs
bytes_parts salt group place [] = refl
bytes_parts salt group place (b ∷ bs) = ap (λ (l : List (List ℕ)). b ∷ l) (bytes_parts salt group (place + 1) bs)

-- one part, shown
one_shown : (o : Option TornGroup) (p : TornPart) → parts_of o ≡ Some (p ∷ []) → o ≡ Some (Shown (p ∷ []))
one_shown None p e = absurd cc
one_shown (Some (Hidden root)) p e = absurd cc
one_shown (Some (Shown ps)) p e = ap (λ (l : List TornPart). Some (Shown l)) (some_eq e)

own_notary : (tx : Tx) → is_some tx.notary ≡ true → (p : TornPart) × (slice_get (torn_from tx.salt.0 0 (present (groups tx))) 4 ≡ Some (Shown (p ∷ [])))
own_notary tx named = by tx.notary named (present_at (groups tx) 4)
  where
    by : (o : Option Party) → is_some o ≡ true → components_of (slice_get (present (groups tx)) 4) ≡ map party (option_to_list o) → (p : TornPart) × (slice_get (torn_from tx.salt.0 0 (present (groups tx))) 4 ≡ Some (Shown (p ∷ [])))
    by None named is = absurd cc
    by (Some n) named is = (_, one_shown _ _ (torn_at tx.salt.0 0 4 4 (present (groups tx)) (omega arith) refl ∙ ap (λ (bs : List (List ℕ)). Some (parts_from tx.salt.0 4 0 bs)) is))

-- ---- the tear-off over which it was signed

spelt_long : {V : Type 0} (reading : List ℕ → Result (V × List ℕ) ℕ) (ps : List TornPart) (vs : List V) → spelt_by reading ps ≡ Some vs → length ps ≡ length vs
spelt_long {V} reading [] vs e = ap length (some_eq e)
spelt_long {V} reading (p ∷ ps) vs e =
    let j = joined_some (whole (reading p.bytes)) (spelt_by reading ps) vs e in
    omega (arith, spelt_long reading ps j.more j.others, ap length j.all)

one_named : (ps : List Party) (n : Option Party) → at_most_one ps ≡ Some n → is_some n ≡ true → length ps ≡ 1
one_named [] n e named = absurd cc
one_named (p ∷ []) n e named = refl
one_named (p ∷ q ∷ ps) n e named = absurd cc

one_part : (o : Option TornGroup) (ps : List TornPart) → parts_of o ≡ Some ps → length ps ≡ 1 → (p : TornPart) × (o ≡ Some (Shown (p ∷ [])))
one_part o [] e n = absurd (omega (arith, n))
one_part o (p ∷ []) e n = (p, one_shown o p e)
one_part o (p ∷ q ∷ ps) e n = absurd (omega (arith, n))

-- its groups give its id, its inputs and its window are spelt in parts, and it shows one part that names a notary
record IsSeen (torn : TornTx) (seen : Visible) : Type 0 where
  root : torn_root torn ≡ torn.id.0
  parts : List TornPart
  there : parts_at torn 0 ≡ Some parts
  inputs : spelt_by state_ref_at parts ≡ Some seen.inputs
  named : (p : TornPart) × (slice_get torn.groups 4 ≡ Some (Shown (p ∷ [])))
  of_window : List TornPart
  window_there : parts_at torn 5 ≡ Some of_window
  windows : List Window
  spelt_window : spelt_by window_at of_window ≡ Some windows
  window : at_most_one windows ≡ Some seen.window

seen_is : (torn : TornTx) (seen : Visible) → visible_of torn ≡ Some seen → is_some seen.notary ≡ true → IsSeen torn seen
unfolding visible_of
seen_is torn seen e named =
    from_cond (IsSeen torn seen) (bytes_eq (torn_root torn) torn.id.0) (shown_by torn) seen e (λ same shown.
    from_then (IsSeen torn seen) _ (shown_refs torn 0) seen shown (λ inputs a e1.
    from_then (IsSeen torn seen) _ (shown_notary torn) seen e1 (λ notary b e2.
    from_then (IsSeen torn seen) _ (shown_window torn) seen e2 (λ window c e3.
    from_map (λ (v : Visible). is_some v.notary ≡ true → IsSeen torn v) _ (shown_refs torn 7) seen e3 (λ references d is.
    from_then (IsSeen torn _) (spelt_by state_ref_at) (parts_at torn 0) inputs a (λ parts there spelt.
    from_then (IsSeen torn _) at_most_one _ notary b (λ ps f most.
    from_then (IsSeen torn _) (spelt_by party_at) (parts_at torn 4) ps f (λ qs at spelt4.
    from_then (IsSeen torn _) at_most_one _ window c (λ ws g one.
    from_then (IsSeen torn _) (spelt_by window_at) (parts_at torn 5) ws g (λ of_window at5 spelt5.
    record {
      root = (bytes_eq-Decides (torn_root torn) torn.id.0).0 same;
      parts = parts;
      there = there;
      inputs = spelt;
      named = one_part (slice_get torn.groups 4) qs at (spelt_long party_at qs ps spelt4 ∙ one_named ps notary most is);
      of_window = of_window;
      window_there = at5;
      windows = ws;
      spelt_window = spelt5;
      window = one;
    })))))) named))))

-- ---- both

in_groups : (hashed : List (List ℕ)) (torn : TornTx) → Includes hashed (hashed_for_torn torn) → Inside hashed (hashed_for_groups torn.groups)
unfolding hashed_for_torn
in_groups hashed torn has = inside hashed (hashed_for_groups torn.groups) has

module _ (hashed : List (List ℕ)) where
  sound_all : (gs : List TornGroup) → AllByRecursion IsSized gs → Inside hashed (hashed_for_groups gs) → AllByRecursion (IsSound hashed) gs
  sound_all gs sized has = sound hashed gs sized (all_front (Contains hashed) (flat_map hashed_for_group gs) (hashed_for_root (map group_value gs)) has)

  for_root : (gs : List TornGroup) → Inside hashed (hashed_for_groups gs) → Inside hashed (hashed_for_root (map group_value gs))
  for_root gs has = all_right (Contains hashed) (flat_map hashed_for_group gs) (hashed_for_root (map group_value gs)) has

root_own : (tx : Tx) → root_of (map group_value (torn_from tx.salt.0 0 (present (groups tx)))) ≡ id_of tx
unfolding id_of
root_own tx = ap root_of (values_torn tx.salt.0 0 (present (groups tx)))

own_inside : (hashed : List (List ℕ)) (tx : Tx) → Includes hashed (hashed_for_torn (tear_of tx)) → Inside hashed (hashed_for_groups (torn_from tx.salt.0 0 (present (groups tx))))
unfolding tear_of
own_inside hashed tx has = in_groups hashed (tear_of tx) has

module _ (tx : Tx) (torn : TornTx) (seen : Visible) (apart : AreApart (hashed_for_all [] (tear_of tx ∷ torn ∷ []))) (sized : IsSizedTorn torn) (same : tx_id tx ≡ torn.id) (sees : visible_of torn ≡ Some seen) (named : is_some tx.notary ≡ true) (seen_named : is_some seen.notary ≡ true) where
  good : IsSeen torn seen
  good = seen_is torn seen sees seen_named

  -- a group that it shows has the bytes of the transaction's
  shown_bytes : (k : ℕ) (parts : List TornPart) → k < 8 → is_shown k ≡ true → parts_at torn k ≡ Some parts → bytes_of parts ≡ components_of (slice_get (groups tx) k)
  shown_bytes k parts lt shows there =
      let hashed = hashed_for_all [] (tear_of tx ∷ torn ∷ []) in
      let gs = torn_from tx.salt.0 0 (present (groups tx)) in
      let own_in = own_inside hashed tx (tear_included [] (tear_of tx ∷ torn ∷ []) (tear_of tx) (zero, omega arith, refl)) in
      let torn_in = in_groups hashed torn (tear_included [] (tear_of tx ∷ torn ∷ []) torn (1, omega arith, refl)) in
      let own = own_notary tx named in
      let roots : root_of (map group_value gs) ≡ root_of (map group_value torn.groups) = root_own tx ∙ ap (λ (id : Hash32). id.0) same ∙ sym good.root in
      sym
      (same_bytes_named hashed apart gs torn.groups own.0 good.named.0 (sound_all hashed gs (sized_from tx.salt.0 0 (present (groups tx))) own_in) (sound_all hashed torn.groups sized.1 torn_in) (for_root hashed gs own_in) (for_root hashed torn.groups torn_in)
      (slice_get_within gs 4 (Shown (own.0 ∷ [])) own.1) (few_groups tx) (slice_get_within torn.groups 4 (Shown (good.named.0 ∷ [])) good.named.1) (omega (arith, sized.0)) own.1 good.named.1 roots k
      (parts_from tx.salt.0 k 0 (components_of (slice_get (present (groups tx)) k))) parts lt (torn_at tx.salt.0 0 k k (present (groups tx)) (omega arith) shows) there)
      ∙ bytes_parts tx.salt.0 k 0 (components_of (slice_get (present (groups tx)) k)) ∙ present_at (groups tx) k

  pub signed_inputs : AllByRecursion IsStateRef tx.inputs → seen.inputs ≡ tx.inputs
  signed_inputs limits = some_eq (sym good.inputs ∙ spelt_of state_ref_laws good.parts tx.inputs limits (shown_bytes 0 good.parts (omega arith) refl good.there))

  -- the window is shown, if there is one, where its moments have 64 bits
  pub signed_window : IfSome tx.window IsWindow → seen.window ≡ tx.window
  signed_window limits =
      let windows : good.windows ≡ option_to_list tx.window = some_eq (sym good.spelt_window ∙ spelt_of window_laws good.of_window (option_to_list tx.window) (all_of IsWindow tx.window limits) (shown_bytes 5 good.of_window (omega arith) refl good.window_there)) in
      some_eq (sym good.window ∙ ap at_most_one windows ∙ one_of tx.window)
