-- Leaves one after the other.
use Rattle.std.proofs.Common.{◌≡◌, ℕ, ◌+◌, ◌<◌, List, [], ◌∷◌, ◌++◌, length, take, set, get_or, map, sym, ap, ◌∙◌, arith}
use Rattle.std.proofs.lemmas.List.{take_more_set, map_more, length-map, length-take}
use Rattle.component_merkle.specs.Merkle.{nonce_of, leaf_of}
use Rattle.ledger_types.specs.Ids.{leaves_from}

leaves_push : (salt : List ℕ) (group place : ℕ) (bs : List (List ℕ)) (b : List ℕ) → leaves_from salt group place (bs ++ b ∷ []) ≡ leaves_from salt group place bs ++ leaf_of (nonce_of salt group (place + length bs)) b ∷ []
leaves_push salt group place [] b = let same : place ≡ place + 0 = omega arith in ap (λ (k : ℕ). leaf_of (nonce_of salt group k) b ∷ []) same
leaves_push salt group place (c ∷ bs) b =
    let same : (place + 1) + length bs ≡ place + length (c ∷ bs) = omega arith in
    ap (λ (l : List (List ℕ)). leaf_of (nonce_of salt group place) c ∷ l) (leaves_push salt group (place + 1) bs b ∙ ap (λ (k : ℕ). leaves_from salt group (place + 1) bs ++ leaf_of (nonce_of salt group k) b ∷ []) same)

pub leaves_more : {T : Type 0} (text : T → List ℕ) (salt : List ℕ) (group i : ℕ) (leaves : List (List ℕ)) (items : List T) (item : T) (l : List ℕ) → i < length leaves → i < length items → item ≡ get_or items i item
    → l ≡ leaf_of (nonce_of salt group i) (text item) → take i leaves ≡ leaves_from salt group 0 (map text (take i items)) → take (i + 1) (set leaves i l) ≡ leaves_from salt group 0 (map text (take (i + 1) items))
leaves_more {T} text salt group i leaves items item l in_leaves in_items is leaf so_far =
    let done = map text (take i items) in
    let count : 0 + length done ≡ i = omega (arith, length-map (take i items) text, length-take i items) in
    let more : map text (take (i + 1) items) ≡ done ++ text item ∷ [] = map_more text items i item in_items ∙ ap (λ (x : T). done ++ text x ∷ []) (sym is) in
    take_more_set leaves i l in_leaves ∙ ap (λ (x : List (List ℕ)). x ++ l ∷ []) so_far
    ∙ ap (λ (x : List ℕ). leaves_from salt group 0 done ++ x ∷ []) leaf
    ∙ ap (λ (k : ℕ). leaves_from salt group 0 done ++ leaf_of (nonce_of salt group k) (text item) ∷ []) (sym count)
    ∙ sym (leaves_push salt group 0 done (text item)) ∙ ap (leaves_from salt group 0) (sym more)
