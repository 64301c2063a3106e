-- The place of an id among recorded transactions.
use Rattle.std.proofs.Common.{◌≡◌, true, false, List, ℕ, zero, suc, [], ◌∷◌, ◌+◌, ◌<◌, length, drop, refl, arith, ap, ◌∙◌}
use Rattle.std.specs.Prelude.{slice_get}
use Rattle.net_base.specs.declared.values.Hash32.{Hash32}
use Rattle.ledger_types.specs.declared.tx.SignedTx.{SignedTx}
use Rattle.shell_report.specs.LedgerText.{ids_of, place_in, is_this}

-- the transaction of this id is at its place
pub at_found : (id : Hash32) (list : List (Hash32 × SignedTx)) (k : ℕ) → is_this id (slice_get list k) ≡ true → place_in id (ids_of (drop k list)) ≡ 0
at_found id [] k h = cc
at_found id (p ∷ ps) zero h = rw h refl
at_found id (p ∷ ps) (suc k) h = at_found id ps k h

at_next : (id : Hash32) (list : List (Hash32 × SignedTx)) (k : ℕ) → k < length list → is_this id (slice_get list k) ≡ false → place_in id (ids_of (drop k list)) ≡ 1 + place_in id (ids_of (drop (suc k) list))
at_next id [] k few h = absurd (omega (arith, few))
at_next id (p ∷ ps) zero few h = rw h refl
at_next id (p ∷ ps) (suc k) few h = at_next id ps k (omega (arith, few)) h

-- one that has another id is passed
pub passed : (id : Hash32) (list : List (Hash32 × SignedTx)) (k place : ℕ) → k < length list → is_this id (slice_get list k) ≡ false → place ≡ k + place_in id (ids_of (drop k list)) → place ≡ k + 1 + place_in id (ids_of (drop (k + 1) list))
passed id list k place few none before =
    let next : suc k ≡ k + 1 = omega arith in
    let here = at_next id list k few none ∙ ap (λ j. 1 + place_in id (ids_of (drop j list))) next in
    omega (arith, before, here)
