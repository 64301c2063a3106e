-- A list of ids behind two bytes of count, at most 256.
use Rattle.std.proofs.Common.{◌≡◌, ◌≤◌, ◌*◌, ℕ, List, ◌++◌, length, Result, refl, ap, arith}
use Rattle.std.specs.List.{flat_map, AllByRecursion}
use Rattle.std.specs.Int.{w16}
use Rattle.std.proofs.Math.Nat.{mul-le-mul_right}
use Rattle.net_base.specs.declared.values.Hash32.{Hash32}
use Rattle.net_base.specs.Reading.{number}
use Rattle.net_base.specs.Forms.{◌>>=◌, items_at, ListWithin}
use Rattle.net_base.specs.Laws.{Laws}
use Rattle.net_base.specs.Combining.{bind_laws}
use Rattle.net_base.specs.Fields.{items_laws}
use Rattle.net_base.specs.Framing.{at_most_at, at_most_laws}
use Rattle.net_base.specs.Values.{IsHash, hash, hash_at, hash_laws}
use Rattle.ledger_types.proofs.Sizes.{items_fit, joined, number16_fits}
use Rattle.flow_forms.specs.Sizes.{hash_fits}

-- two bytes of count, and the ids
abbrev pub ids : List Hash32 → List ℕ
ids list = number w16 (length list) ++ flat_map hash list

-- reading them
unfoldable pub ids_at : List ℕ → Result (List Hash32 × List ℕ) ℕ
ids_at bytes = at_most_at 256 bytes >>= λ n. items_at hash_at n.0 n.1

-- their laws
pub ids_laws : Laws (λ (list : List Hash32). ListWithin 256 IsHash list) ids ids_at
unfolding ids_at
ids_laws =
    bind_laws {second = λ n (list : List Hash32). (length list ≡ n) × AllByRecursion IsHash list} {second_spelling = λ n (list : List Hash32). flat_map hash list} {second_reading = λ n bytes. items_at hash_at n bytes} (at_most_laws 256 (omega arith))
    (λ n h. items_laws hash_laws n)
    (record {
      join = λ n list hn h. ((omega (arith, hn, h.0), h.1), ap (λ (k : ℕ). number w16 k ++ flat_map hash list) h.0);
      split = λ list h. (length list, (h.0, (refl, h.1)));
    })

-- how many bytes they have
pub ids_fit : (list : List Hash32) → ListWithin 256 IsHash list → length (ids list) ≤ 8194
ids_fit list h =
    let items = items_fit IsHash hash 32 hash_fits list h.1 in
    let few : length list * 32 ≤ 256 * 32 = mul-le-mul_right 32 h.0 in
    joined (number w16 (length list)) (flat_map hash list) 2 8192 (number16_fits (length list)) (omega (arith, items, few))
