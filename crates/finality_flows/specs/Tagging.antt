-- A tag added to the tags of a transaction, in the place of one by the same party.
use Rattle.std.specs.Prelude.{◌≡◌, ℕ, zero, suc, ◌+◌, ◌≤◌, ◌<◌, List, [], ◌∷◌, ◌++◌, length, Bool, true, false, refl, filter, nat_lt}
use Rattle.std.specs.List.{list_all, AllByRecursion, range_with_len}
use Rattle.std.proofs.Common.{arith, cond}
use Rattle.std.proofs.lemmas.Bool.{ltb-true}
use Rattle.std.proofs.lemmas.List.FromFn.{length-range_with_len}
use Rattle.net_base.specs.declared.names.Tag.{Tag}
use Rattle.net_base.specs.Names.{IsTag, by_of}
use Rattle.net_base.specs.Runs.{Ascends}
use Rattle.net_base.proofs.Lists.{filter_length, all_append, all_kept, all_filter}
use Rattle.ledger_types.specs.declared.tx.Tx.{Tx}
use Rattle.ledger_types.specs.Signatures.{needs, needed}
use Rattle.ledger_types.specs.Txs.{IsTagList}
use Rattle.flow_forms.specs.Shared.{both_pass, joined_pass}

-- ---- a tag added

-- the tags of the parties below, and of those above
abbrev pub below : Tag → List Tag → List Tag
below t tags = filter (λ u. nat_lt (by_of u) (by_of t)) tags

abbrev pub above : Tag → List Tag → List Tag
above t tags = filter (λ u. nat_lt (by_of t) (by_of u)) tags

-- the tags with one more, in the order of their parties
abbrev pub with_tag : Tag → List Tag → List Tag
with_tag t tags = below t tags ++ t ∷ above t tags

-- what holds of each tag and of the new one holds of each then
pub with_all : (P : Tag → Type 0) (t : Tag) (tags : List Tag) → P t → AllByRecursion P tags → AllByRecursion P (with_tag t tags)
with_all P t tags h all = all_append P (below t tags) (t ∷ above t tags) (all_kept P (λ u. nat_lt (by_of u) (by_of t)) tags all) (h, all_kept P (λ u. nat_lt (by_of t) (by_of u)) tags all)

-- a test that the tags and the new one pass is passed then
pub with_passes : (test : Tag → Bool) (t : Tag) (tags : List Tag) → list_all test (t ∷ []) ≡ true → list_all test tags ≡ true → list_all test (with_tag t tags) ≡ true
with_passes test t tags h all =
    joined_pass test (below t tags) (t ∷ above t tags) (all_filter test (λ u. nat_lt (by_of u) (by_of t)) tags all) (both_pass test t (above t tags) h (all_filter test (λ u. nat_lt (by_of t) (by_of u)) tags all))

-- both by a test
by_test : (P : List Tag → Type 0) (b : Bool) (x y : List Tag) → (b ≡ true → P x) → (b ≡ false → P y) → P (cond b x y)
by_test P true x y hx hy = hx refl
by_test P false x y hx hy = hy refl

-- keys that ascend from one on ascend from a lower one on
ascends_lower : (low lower : ℕ) (tags : List Tag) → lower ≤ low → Ascends by_of low tags → Ascends by_of lower tags
ascends_lower low lower [] le up = tt
ascends_lower low lower (u ∷ more) le up = (omega (arith, le, up.0), up.1)

-- so do those that a test lets through
ascends_kept : (p : Tag → Bool) (low : ℕ) (tags : List Tag) → Ascends by_of low tags → Ascends by_of low (filter p tags)
ascends_kept p low [] up = tt
ascends_kept p low (u ∷ more) up =
    by_test (Ascends by_of low) (p u) (u ∷ filter p more) (filter p more) (λ _. (up.0, ascends_kept p (suc (by_of u)) more up.1))
    (λ _. ascends_lower (suc (by_of u)) low (filter p more) (omega (arith, up.0)) (ascends_kept p (suc (by_of u)) more up.1))

-- those above ascend from there on
above_ascends : (t : Tag) (low : ℕ) (tags : List Tag) → Ascends by_of low tags → Ascends by_of (suc (by_of t)) (above t tags)
above_ascends t low [] up = tt
above_ascends t low (u ∷ more) up =
    by_test (Ascends by_of (suc (by_of t))) (nat_lt (by_of t) (by_of u)) (u ∷ above t more) (above t more)
    (λ less. let lt = ltb-true (by_of t) (by_of u) less in (omega (arith, lt), ascends_kept (λ v. nat_lt (by_of t) (by_of v)) (suc (by_of u)) more up.1))
    (λ _. above_ascends t (suc (by_of u)) more up.1)

-- and those below come before
below_ascends : (t : Tag) (low : ℕ) (tags rest : List Tag) → low ≤ by_of t → Ascends by_of low tags → Ascends by_of (suc (by_of t)) rest → Ascends by_of low (below t tags ++ t ∷ rest)
below_ascends t low [] rest le up behind = (le, behind)
below_ascends t low (u ∷ more) rest le up behind =
    by_test (λ l. Ascends by_of low (l ++ t ∷ rest)) (nat_lt (by_of u) (by_of t)) (u ∷ below t more) (below t more)
    (λ less. let lt = ltb-true (by_of u) (by_of t) less in (up.0, below_ascends t (suc (by_of u)) more rest (omega (arith, lt)) up.1 behind))
    (λ _. below_ascends t low more rest le (ascends_lower (suc (by_of u)) low more (omega (arith, up.0)) up.1) behind)

-- tags whose parties ascend are few
room : (low : ℕ) (tags : List Tag) → low ≤ 16 → AllByRecursion IsTag tags → Ascends by_of low tags → low + length tags ≤ 16
room low [] le all up = omega (arith, le)
room low (u ∷ more) le all up =
    let small = all.0.0 in
    let rest = room (suc (by_of u)) more (omega (arith, small)) all.1 up.1 in
    omega (arith, rest, up.0)

-- the limits are kept
pub with_within : (t : Tag) (tags : List Tag) → IsTag t → IsTagList tags → IsTagList (with_tag t tags)
with_within t tags h is =
    let all = with_all IsTag t tags h is.1.0 in
    let up = below_ascends t 0 tags (above t tags) (omega arith) is.1.1 (above_ascends t 0 tags is.1.1) in
    let few = room 0 (with_tag t tags) (omega arith) all up in
    (omega (arith, few), (all, up))

-- ---- who has to sign

-- each number of a range is below its end
pub range_below : (n start most : ℕ) → start + n ≤ most → AllByRecursion (λ p. p < most) (range_with_len start n)
range_below zero start most le = tt
range_below (suc n) start most le = (omega (arith, le), range_below n (start + 1) most (omega (arith, le)))

-- at most sixteen parties have to sign
pub needed_few : (tx : Tx) → length (needed tx) ≤ 16
needed_few tx = omega (arith, filter_length (needs tx) (range_with_len 0 16), length-range_with_len 0 16)
