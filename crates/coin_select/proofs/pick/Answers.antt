use Rattle.std.proofs.Common.{arith, ◌≡◌, inl, inr, ◌<◌, ◌≤◌, ℕ, List, length, take, ap, sym, ◌∙◌}
use Rattle.std.proofs.lemmas.Bool.{cases_lt}
use Rattle.std.proofs.lemmas.List.{take_all}
use Rattle.coin_select.specs.Picking.{worth_of}
use Rattle.coin_select.proofs.pick.Goals as goal

-- all that are looked at
take_all_looked : {X : Type 0} (xs : List X) (i : ℕ) → i ≤ 64 → i ≤ length xs → (i < 64 → length xs ≤ i) → take i xs ≡ take 64 xs
take_all_looked xs i few there all =
    elim (cases_lt i 64) [
      | inl lt ↦ take_all i xs (all lt) ∙ sym (take_all 64 xs (omega (arith, all lt)))
      | inr ge ↦ let same : i ≡ 64 = omega arith in ap (λ n. take n xs) same
    ]

pub returns-then-have-amount-2-clause-short : goal.returns-then-have-amount-2-clause-short
returns-then-have-amount-2-clause-short c =
    let e = c.min-looked.ensures in
    let i = c.loop-i.i in
    let few : i ≤ 64 = omega (arith, e, c.loop-i.auto.i-end) in
    let there : i ≤ length c.args.coins.now = omega (arith, e, c.loop-i.auto.i-end) in
    let all : i < 64 → length c.args.coins.now ≤ i = λ lt. omega (arith, e, c.loop-i-test.false) in
    (c.loop-i.invariant.sum ∙ ap worth_of (take_all_looked c.args.coins.now i few there all), c.if-have-amount-2.true)
