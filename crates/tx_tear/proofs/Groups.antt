-- The groups of a tear-off.
use Rattle.std.proofs.Common.{◌≡◌, ℕ, zero, suc, ◌+◌, ◌<◌, Bool, true, false, cond, List, [], ◌∷◌, ◌++◌, length, take, get_or, map, Option, Some, None, refl, sym, ap, ◌∙◌, arith}
use Rattle.std.specs.List.{slice_get}
use Rattle.std.proofs.lemmas.List.{map_more, length-map, length-take}
use Rattle.component_merkle.specs.Merkle.{nonce_of, leaf_of, group_of}
use Rattle.ledger_types.specs.declared.torn.TornPart.{TornPart}
use Rattle.ledger_types.specs.declared.torn.TornGroup.{TornGroup}
use Rattle.ledger_types.specs.Ids.{leaves_from, value_of, values_from, kept, present}
use Rattle.ledger_types.specs.Tears.{group_value, parts_of}
use Rattle.tx_tear.specs.Tearing.{part_of, parts_from, shown_group, hidden_group, is_shown, torn_group, torn_from}

-- ---- parts one after the other

parts_push : (salt : List ℕ) (group place : ℕ) (bs : List (List ℕ)) (b : List ℕ) → parts_from salt group place (bs ++ b ∷ []) ≡ parts_from salt group place bs ++ part_of salt group (place + length bs) b ∷ []
parts_push salt group place [] b = let same : place ≡ place + 0 = omega arith in ap (λ (k : ℕ). part_of salt group k b ∷ []) same
parts_push salt group place (c ∷ bs) b =
    let same : (place + 1) + length bs ≡ place + length (c ∷ bs) = omega arith in
    ap (λ (l : List TornPart). part_of salt group place c ∷ l) (parts_push salt group (place + 1) bs b ∙ ap (λ (k : ℕ). parts_from salt group (place + 1) bs ++ part_of salt group k b ∷ []) same)

pub parts_more : {T : Type 0} (text : T → List ℕ) (salt : List ℕ) (group i : ℕ) (items : List T) (item : T) (p : TornPart) (so_far : List TornPart) → i < length items → item ≡ get_or items i item
    → p ≡ part_of salt group i (text item) → so_far ≡ parts_from salt group 0 (map text (take i items)) → so_far ++ p ∷ [] ≡ parts_from salt group 0 (map text (take (i + 1) items))
parts_more {T} text salt group i items item p so_far lt is part done =
    let before = map text (take i items) in
    let count : 0 + length before ≡ i = omega (arith, length-map (take i items) text, length-take i items) in
    let more : map text (take (i + 1) items) ≡ before ++ text item ∷ [] = map_more text items i item lt ∙ ap (λ (x : T). before ++ text x ∷ []) (sym is) in
    ap (λ (l : List TornPart). l ++ p ∷ []) done
    ∙ ap (λ (q : TornPart). parts_from salt group 0 before ++ q ∷ []) part
    ∙ ap (λ (k : ℕ). parts_from salt group 0 before ++ part_of salt group k (text item) ∷ []) (sym count)
    ∙ sym (parts_push salt group 0 before (text item)) ∙ ap (parts_from salt group 0) (sym more)

-- ---- values

leaves_shown : (salt : List ℕ) (group place : ℕ) (bs : List (List ℕ)) → map (λ (p : TornPart). leaf_of p.nonce.0 p.bytes) (parts_from salt group place bs) ≡ leaves_from salt group place bs
leaves_shown salt group place [] = refl
leaves_shown salt group place (b ∷ bs) = ap (λ (l : List (List ℕ)). leaf_of (nonce_of salt group place) b ∷ l) (leaves_shown salt group (place + 1) bs)

-- the value of a group that is shown is the value of its components
pub value_shown : (salt : List ℕ) (group : ℕ) (bs : List (List ℕ)) → group_value (shown_group salt group bs) ≡ value_of salt group bs
unfolding value_of
value_shown salt group bs = ap group_of (leaves_shown salt group 0 bs)

value_torn : (salt : List ℕ) (group : ℕ) (bs : List (List ℕ)) → group_value (torn_group salt group bs) ≡ value_of salt group bs
value_torn salt group bs =
    elim (is_shown group) as (λ b. group_value (cond b (shown_group salt group bs) (hidden_group salt group bs)) ≡ value_of salt group bs) [
      | true ↦ value_shown salt group bs
      | false ↦ refl
    ]

-- the values of a tear-off's groups are those of the transaction's
pub values_torn : (salt : List ℕ) (group : ℕ) (gs : List (List (List ℕ))) → map group_value (torn_from salt group gs) ≡ values_from salt group gs
values_torn salt group [] = refl
values_torn salt group (bs ∷ gs) = λ i. value_torn salt group bs i ∷ values_torn salt (group + 1) gs i

-- ---- the groups up to the last that has a component

kept_taken : (salt : List ℕ) (group : ℕ) (bs : List (List ℕ)) (front more : List (List (List ℕ))) → torn_from salt (group + 1) front ≡ take (length front) (torn_from salt (group + 1) more)
    → torn_from salt group (kept bs front) ≡ take (length (kept bs front)) (torn_from salt group (bs ∷ more))
kept_taken salt group bs (next ∷ front) more h = ap (λ (l : List TornGroup). torn_group salt group bs ∷ l) h
kept_taken salt group (b ∷ bs) [] more h = refl
kept_taken salt group [] [] more h = refl

-- they are a front of all
pub truncated : (salt : List ℕ) (group : ℕ) (gs : List (List (List ℕ))) → torn_from salt group (present gs) ≡ take (length (present gs)) (torn_from salt group gs)
truncated salt group [] = refl
truncated salt group (bs ∷ gs) = kept_taken salt group bs (present gs) gs (truncated salt (group + 1) gs)

-- the components of a group; none where it isn't there
abbrev pub components_of : Option (List (List ℕ)) → List (List ℕ)
components_of None = []
components_of (Some bs) = bs

kept_at : (bs : List (List ℕ)) (front more : List (List (List ℕ))) → ((j : ℕ) → components_of (slice_get front j) ≡ components_of (slice_get more j)) → (j : ℕ) → components_of (slice_get (kept bs front) j) ≡ components_of (slice_get (bs ∷ more) j)
kept_at bs (next ∷ front) more h zero = refl
kept_at bs (next ∷ front) more h (suc j) = h j
kept_at (b ∷ bs) [] more h zero = refl
kept_at (b ∷ bs) [] more h (suc j) = h j
kept_at [] [] more h zero = refl
kept_at [] [] more h (suc j) = h j

-- a group that is left out has no component
pub present_at : (gs : List (List (List ℕ))) (j : ℕ) → components_of (slice_get (present gs) j) ≡ components_of (slice_get gs j)
present_at [] j = refl
present_at (bs ∷ gs) j = kept_at bs (present gs) gs (present_at gs) j

-- the parts of a shown group are its components
pub torn_at : (salt : List ℕ) (group j k : ℕ) (gs : List (List (List ℕ))) → group + j ≡ k → is_shown k ≡ true → parts_of (slice_get (torn_from salt group gs) j) ≡ Some (parts_from salt k 0 (components_of (slice_get gs j)))
torn_at salt group j k [] is shown = refl
torn_at salt group zero k (bs ∷ gs) is shown =
    let same : group ≡ k = omega (arith, is) in
    ap (λ (n : ℕ). parts_of (Some (torn_group salt n bs))) same ∙ ap (λ (b : Bool). parts_of (Some (cond b (shown_group salt k bs) (hidden_group salt k bs)))) shown
torn_at salt group (suc j) k (bs ∷ gs) is shown = torn_at salt (group + 1) j k gs (omega (arith, is)) shown
