-- Parts that depend on those before, and bytes behind their length.
use Rattle.std.proofs.Common.{◌≡◌, ◌≢◌, ◌+◌, ◌*◌, ◌/◌, ◌%◌, ◌<◌, ◌≤◌, ◌^◌, ℕ, cond, List, [], ◌∷◌, ◌++◌, length, Result, Ok, refl, sym, ap, subst, ◌∙◌, arith}
use Rattle.std.specs.Prelude.{nat_eq}
use Rattle.std.specs.List.{flat_map, AllByRecursion}
use Rattle.std.specs.Int.{w16}
use Rattle.std.proofs.lemmas.Bool.{eqb-true, eqb-false}
use Rattle.net_base.specs.Reading.{number}
use Rattle.net_base.specs.Forms.{◌>>=◌, byte_at, bytes_at, below_at, bytes16, list8, items_at}
use Rattle.net_base.specs.Laws.{Laws}
use Rattle.net_base.specs.Combining.{bind_laws, mapped_at, mapped_laws, restated_laws}
use Rattle.net_base.specs.Fields.{below_laws, byte_laws, bytes_laws, items_laws}
use Rattle.net_base.specs.Kinds.{IsBetween, between_at, between_laws, cond_laws}

-- ---- two parts, the second by the first

-- reading a first part, and a second one that depends on it
abbrev pub both_at : {A B : Type 0} → (List ℕ → Result (A × List ℕ) ℕ) → (A → List ℕ → Result (B × List ℕ) ℕ) → List ℕ → Result ((A × B) × List ℕ) ℕ
both_at a b bytes = a bytes >>= λ x. b x.0 x.1 >>= λ y. Ok ((x.0, y.0), y.1)

-- the laws of two parts of which the second depends on the first
pub both_laws : {A B : Type 0} {wa : A → Type 0} {sa : A → List ℕ} {ra : List ℕ → Result (A × List ℕ) ℕ} {wb : A → B → Type 0} {sb : A → B → List ℕ} {rb : A → List ℕ → Result (B × List ℕ) ℕ}
    → Laws wa sa ra → ((a : A) → wa a → Laws (wb a) (sb a) (rb a)) → Laws (λ (p : A × B). wa p.0 × wb p.0 p.1) (λ (p : A × B). sa p.0 ++ sb p.0 p.1) (both_at ra rb)
both_laws {A} {B} {wa} {sa} {ra} {wb} {sb} {rb} one two =
    bind_laws {second = λ a (p : A × B). wb a p.1 × (p.0 ≡ a)} {second_spelling = λ a (p : A × B). sb a p.1} {second_reading = λ a bytes. rb a bytes >>= λ y. Ok ((a, y.0), y.1)} one
    (λ a h. mapped_laws (λ (y : B). (a, y)) (two a h) (record {
      keeps = λ y hy. ((hy, refl), refl);
      from = λ p hp. (p.1, (hp.0, λ i. (sym hp.1 i, p.1)));
    }))
    (record {
      join = λ a p ha hp. ((subst wa (sym hp.1) ha, subst (λ (z : A). wb z p.1) (sym hp.1) hp.0), ap (λ (z : A). sa z ++ sb z p.1) hp.1);
      split = λ p hp. (p.0, (hp.0, (hp.1, refl)));
    })

-- ---- two bytes of length, at most a limit, and the bytes

-- reading the two bytes of a length of at most the limit, each tested where it stands
abbrev pub length_at : ℕ → List ℕ → Result ((ℕ × ℕ) × List ℕ) ℕ
length_at limit = both_at (below_at (limit / 256 + 1)) (λ high bytes. cond (nat_eq high (limit / 256)) (below_at (limit % 256 + 1) bytes) (byte_at bytes))

-- the number of two bytes
abbrev value_of : ℕ × ℕ → ℕ
value_of p = 256 * p.0 + p.1

-- reading a length of at most the limit
unfoldable pub at_most_at : ℕ → List ℕ → Result (ℕ × List ℕ) ℕ
at_most_at limit = mapped_at value_of (length_at limit)

-- the two bytes of a number below 2 ^ 16
two_bytes : (n : ℕ) → n < 2 ^ 16 → number w16 n ≡ n / 256 ∷ n % 256 ∷ []
unfolding number
two_bytes n lt =
    let a : n / 256 % 256 ≡ n / 256 = omega arith in
    ap (λ (k : ℕ). k ∷ n % 256 ∷ []) a

-- the laws of the low byte behind a high byte
low_laws : (limit high : ℕ) → high ≤ limit / 256 → Laws (λ (low : ℕ). (low < 256) × (256 * high + low ≤ limit)) (λ (low : ℕ). low ∷ []) (λ bytes. cond (nat_eq high (limit / 256)) (below_at (limit % 256 + 1) bytes) (byte_at bytes))
low_laws limit high le =
    cond_laws (nat_eq high (limit / 256)) (below_at (limit % 256 + 1)) byte_at
    (λ holds. let same : high ≡ limit / 256 = eqb-true _ _ holds in restated_laws (λ low h. ((omega (arith, h), omega (arith, same, h)), refl)) (λ low h. omega (arith, same, h.1)) (below_laws (limit % 256 + 1) (omega arith)))
    (λ fails. let other : high ≢ limit / 256 = eqb-false _ _ fails in let less : high < limit / 256 = omega (arith, other, le) in restated_laws (λ low h. ((h, omega (arith, less, h)), refl)) (λ low h. h.0) byte_laws)

-- the laws of a length of at most the limit
pub at_most_laws : (limit : ℕ) → limit < 2 ^ 16 → Laws (λ (n : ℕ). n ≤ limit) (λ (n : ℕ). number w16 n) (at_most_at limit)
unfolding at_most_at
at_most_laws limit small =
    mapped_laws value_of (both_laws (below_laws (limit / 256 + 1) (omega arith)) (λ high h. low_laws limit high (omega (arith, h)))) (record {
      keeps = λ p h.
          let fits : 256 * p.0 + p.1 < 2 ^ 16 = omega (arith, h.1.1) in
          let high : (256 * p.0 + p.1) / 256 ≡ p.0 = omega (arith, h.1.0) in
          let low : (256 * p.0 + p.1) % 256 ≡ p.1 = omega (arith, h.1.0) in
          (h.1.1, two_bytes (256 * p.0 + p.1) fits ∙ (λ i. high i ∷ low i ∷ []));
      from = λ n h. ((n / 256, n % 256), ((omega (arith, h), (omega arith, omega (arith, h))), omega arith));
    })

-- bytes of a length at most the limit
unfoldable pub bytes16_at : ℕ → List ℕ → Result (List ℕ × List ℕ) ℕ
bytes16_at limit bytes = at_most_at limit bytes >>= λ n. bytes_at n.0 n.1

-- the laws of two bytes of length and the bytes
pub bytes16_laws : (limit : ℕ) → limit < 2 ^ 16 → Laws (λ (b : List ℕ). length b ≤ limit) (λ (b : List ℕ). bytes16 b) (bytes16_at limit)
unfolding bytes16_at
bytes16_laws limit small =
    bind_laws {second = λ n (b : List ℕ). length b ≡ n} {second_spelling = λ n (b : List ℕ). b} {second_reading = bytes_at} (at_most_laws limit small) (λ n h. bytes_laws n)
    (record {
      join = λ n b hn hb. (omega (arith, hn, hb), ap (λ (k : ℕ). number w16 k ++ b) hb);
      split = λ b h. (length b, (h, refl));
    })

-- ---- a byte of count from least to limit, and the items

-- from least to limit items, each within its limits
abbrev pub ListBetween : {V : Type 0} → ℕ → ℕ → (V → Type 0) → List V → Type 0
ListBetween least limit within vs = IsBetween least (limit + 1) (length vs) × AllByRecursion within vs

-- reading such a list
unfoldable pub list8_between_at : {V : Type 0} → ℕ → ℕ → (List ℕ → Result (V × List ℕ) ℕ) → List ℕ → Result (List V × List ℕ) ℕ
list8_between_at least limit read bytes = between_at least (limit + 1) bytes >>= λ n. items_at read n.0 n.1

-- the laws of such lists
pub list8_between_laws : {V : Type 0} {within : V → Type 0} {spelling : V → List ℕ} {reading : List ℕ → Result (V × List ℕ) ℕ} (least limit : ℕ) → least ≤ limit
    → Laws within spelling reading → Laws (λ (vs : List V). ListBetween least limit within vs) (λ (vs : List V). list8 spelling vs) (list8_between_at least limit reading)
unfolding list8_between_at
list8_between_laws {V} {within} {spelling} {reading} least limit le one =
    bind_laws {second = λ n (vs : List V). (length vs ≡ n) × AllByRecursion within vs} {second_spelling = λ n (vs : List V). flat_map spelling vs} {second_reading = λ n bytes. items_at reading n bytes} (between_laws least (limit + 1) (omega arith))
    (λ n h. items_laws one n)
    (record {
      join = λ n vs hn h. ((subst (λ (k : ℕ). IsBetween least (limit + 1) k) (sym h.0) hn, h.1), ap (λ (k : ℕ). k ∷ flat_map spelling vs) h.0);
      split = λ vs h. (length vs, (h.0, (refl, h.1)));
    })
