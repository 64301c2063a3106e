-- Bytes and numbers that are tested where they stand.
use Rattle.std.proofs.Common.{◌≡◌, ◌≢◌, ◌⊎◌, inl, inr, ◌+◌, ◌-◌, ◌/◌, ◌%◌, ◌<◌, ◌^◌, ℕ, suc, Bool, true, false, cond, List, [], ◌∷◌, ◌++◌, length, take, drop, replicate, get_or, Result, Ok, Err, refl, sym, ap, subst, ◌∙◌, append_assoc, arith}
use Rattle.std.specs.Prelude.{nat_eq, nat_lt, not, ◌&&◌}
use Rattle.std.specs.Int.{Width, w32, w64, byte_len, from_be_bytes, to_be_bytes}
use Rattle.std.proofs.lemmas.Bool.{eqb-true, eqb-false, ne_eqb, lt-ltb, ltb-true, cases_lt}
use Rattle.std.proofs.lemmas.Bool.Decides.{nat_tests}
use Rattle.std.proofs.lemmas.List.{length-append, length-replicate, nil_from_length, get_or-append_right, get_or-replicate, get_or_past, get_or_at, append-nil}
use Rattle.net_base.specs.Reading.{IsBytes, number}
use Rattle.net_base.specs.Forms.{◌>>=◌, byte_at, number_at}
use Rattle.net_base.specs.Laws.{IsFault, Laws, err_is, bind_ok, bind_err, cancels}
use Rattle.net_base.specs.Combining.{restated_laws}
use Rattle.net_base.specs.Fields.{guard_ok, guard_err, guard_less_ok, guard_less_err, IsWide, wide32, wide64, number_laws, IsBytes-append}

-- ---- a byte that passes a test

-- reading a byte that passes a test
abbrev pub tested_at : (ℕ → Bool) → List ℕ → Result (ℕ × List ℕ) ℕ
tested_at test bytes = byte_at bytes >>= λ x. cond (test x.0) (Ok x) (Err (length bytes))

-- the laws of a byte that passes a test
pub tested_laws : (test : ℕ → Bool) (first : ℕ) → test first ≡ true → Laws (λ (n : ℕ). test n ≡ true) (λ (n : ℕ). n ∷ []) (tested_at test)
tested_laws test first is_first = record {
  takes = elim [
    | [] ↦ λ x fits e. absurd cc
    | b ∷ rest ↦ λ x fits e.
        let g = guard_ok (test b) (suc (length rest)) (b, rest) x e in
        subst (λ (p : ℕ × List ℕ). (b ∷ rest ≡ p.0 ∷ p.1) × (test p.0 ≡ true)) g.1 (refl, g.0)
  ];
  again = λ n rest h. rw h refl;
  faults = λ sure. elim [
    | [] ↦ λ n fits e. record { front = []; rest = []; parts = refl; left = err_is {A = ℕ × List ℕ} 0 n e; goes = (first, (is_first, (first ∷ [], refl))); stops = λ b after is v h more same. absurd cc }
    | c ∷ rest ↦ λ n fits e.
        let g = guard_err (test c) (suc (length rest)) n (c, rest) e in
        record {
          front = [];
          rest = c ∷ rest;
          parts = refl;
          left = g.1;
          goes = (first, (is_first, (first ∷ [], refl)));
          stops = λ b after is v h more same.
              let one : v ≡ c = cc (is, same) in
              let wrong : test c ≡ true = subst (λ (k : ℕ). test k ≡ true) one h in
              absurd (cc (wrong, g.0));
        }
  ];
  some = first;
  some_within = is_first;
}

-- a byte below the limit, and not another
unfoldable pub below_except_at : ℕ → ℕ → List ℕ → Result (ℕ × List ℕ) ℕ
below_except_at limit other = tested_at (λ n. nat_lt n limit && not (nat_eq n other))

-- such a byte passes the test
below_except_test : (limit other n : ℕ) → n < limit → n ≢ other → (nat_lt n limit && not (nat_eq n other)) ≡ true
below_except_test limit other n lt ne = rw (lt-ltb n limit lt, ne_eqb n other ne) refl

-- what passes the test is such a byte
test_below_except : (limit other n : ℕ) → (nat_lt n limit && not (nat_eq n other)) ≡ true → (n < limit) × (n ≢ other)
test_below_except limit other n e = grind (arith, nat_tests)

-- the laws of a byte below the limit that is not another
pub below_except_laws : (limit other first : ℕ) → first < limit → first ≢ other → Laws (λ (n : ℕ). (n < limit) × (n ≢ other)) (λ (n : ℕ). n ∷ []) (below_except_at limit other)
unfolding below_except_at
below_except_laws limit other first lt ne =
    restated_laws (λ n h. (test_below_except limit other n h, refl)) (λ n h. below_except_test limit other n h.0 h.1) (tested_laws (λ n. nat_lt n limit && not (nat_eq n other)) first (below_except_test limit other first lt ne))

-- ---- a number that isn't 0

-- reading a number that isn't 0
unfoldable pub positive_at : Width → List ℕ → Result (ℕ × List ℕ) ℕ
positive_at w bytes = number_at w bytes >>= λ x. cond (nat_eq x.0 0) (Err (suc (length x.1))) (Ok x)

-- the spellings of 0 and 1 differ in the last byte alone
pub record IsOrdered (w : Width) : Type 0 where
  pub none : number w 0 ≡ replicate (byte_len w - 1) 0 ++ 0 ∷ []
  pub one : number w 1 ≡ replicate (byte_len w - 1) 0 ++ 1 ∷ []
  pub some : 0 < byte_len w

-- 0 and 1 in 32 bits
ordered32 : IsOrdered w32
unfolding number
ordered32 = record { none = refl; one = refl; some = omega arith }

-- 0 and 1 in 64 bits
ordered64 : IsOrdered w64
unfolding number
ordered64 = record { none = refl; one = refl; some = omega arith }

-- filled up with ones, which is not 0
ones : ℕ → List ℕ → List ℕ
ones n bytes = bytes ++ replicate (n - length bytes) 1

-- ones are bytes
IsBytes-ones : (n : ℕ) → IsBytes (replicate n 1)
IsBytes-ones n i =
    elim (cases_lt i n) [
      | inl lt ↦ rw (get_or-replicate {A = ℕ} n i 1 0 lt) (omega arith)
      | inr le ↦ rw (get_or_past {X = ℕ} (replicate n 1) i 0 (omega (arith, length-replicate {A = ℕ} n 1))) (omega arith)
    ]

-- the length of what is filled up with ones
length-ones : (n : ℕ) (bytes : List ℕ) → length bytes < n → length (ones n bytes) ≡ n
unfolding ones
length-ones n bytes lt = omega (arith, length-append bytes (replicate (n - length bytes) 1), length-replicate {A = ℕ} (n - length bytes) 1)

-- what is filled up with ones ends with 1
last_one : (n : ℕ) (bytes : List ℕ) → length bytes < n → get_or (ones n bytes) (n - 1) 0 ≡ 1
unfolding ones
last_one n bytes lt = get_or-append_right bytes (replicate (n - length bytes) 1) (length bytes) (n - 1) 0 refl (omega arith) ∙ get_or-replicate {A = ℕ} (n - length bytes) (n - 1 - length bytes) 1 0 (omega arith)

-- a number whose last byte is 1 isn't 0
not_zero : (w : Width) → IsOrdered w → (text : List ℕ) (v : ℕ) → number w v ≡ text → get_or text (byte_len w - 1) 0 ≡ 1 → 0 < v
not_zero w ordered text v is one =
    elim (cases_lt 0 v) [
      | inl lt ↦ lt
      | inr le ↦
          let zero_v : v ≡ 0 = omega arith in
          let same : text ≡ replicate (byte_len w - 1) 0 ++ 0 ∷ [] = sym is ∙ ap (number w) zero_v ∙ ordered.none in
          let here : get_or text (byte_len w - 1) 0 ≡ 0 = ap (λ (l : List ℕ). get_or l (byte_len w - 1) 0) same ∙ get_or_at (replicate (byte_len w - 1) 0) 0 [] 0 (byte_len w - 1) (length-replicate {A = ℕ} (byte_len w - 1) 0) in
          absurd (omega (arith, one, here))
    ]

-- each number of a width has as many bytes
length-number : (w : Width) (limit : ℕ) → IsWide w limit → (n : ℕ) → length (number w n) ≡ byte_len w
unfolding number
length-number w limit wide n = wide.len n

-- too few bytes for a number that isn't 0
short_number : (w : Width) (limit : ℕ) → IsWide w limit → IsOrdered w → (bytes : List ℕ) (n : ℕ) → IsBytes bytes → number_at w bytes ≡ Err n → IsFault (λ (n : ℕ). (0 < n) × (n < limit)) (λ (n : ℕ). number w n) bytes n
unfolding number_at number ones
short_number w limit wide ordered bytes n fits e =
    let g = guard_less_err (nat_lt (length bytes) (byte_len w)) 0 n (from_be_bytes w (take (byte_len w) bytes), drop (byte_len w) bytes) e in
    let short : length bytes < byte_len w = ltb-true _ _ g.0 in
    let whole = ones (byte_len w) bytes in
    let whole_fits : IsBytes whole = IsBytes-append bytes (replicate (byte_len w - length bytes) 1) fits (IsBytes-ones (byte_len w - length bytes)) in
    let text : to_be_bytes w (from_be_bytes w whole) ≡ whole = wide.back whole (length-ones (byte_len w) bytes short) whole_fits in
    record {
      front = bytes;
      rest = [];
      parts = sym (append-nil bytes);
      left = g.1;
      goes = (from_be_bytes w whole, ((not_zero w ordered whole (from_be_bytes w whole) text (last_one (byte_len w) bytes short), wide.below whole whole_fits), (replicate (byte_len w - length bytes) 1, text)));
      stops = λ b after is v h more same. absurd cc;
    }

-- the laws of numbers that aren't 0
pub positive_laws : (w : Width) (limit : ℕ) → IsWide w limit → IsOrdered w → 1 < limit → Laws (λ (n : ℕ). (0 < n) × (n < limit)) (λ (n : ℕ). number w n) (positive_at w)
unfolding positive_at
positive_laws w limit wide ordered top =
    let plain = number_laws w limit wide in
    record {
      takes = λ bytes x fits e.
          let b = bind_ok (number_at w bytes) (λ x. cond (nat_eq x.0 0) (Err (suc (length x.1))) (Ok x)) x e in
          let t = plain.takes bytes b.0 fits b.1.0 in
          let g = guard_less_ok (nat_eq b.0.0 0) (suc (length b.0.1)) b.0 x b.1.1 in
          let ne : b.0.0 ≢ 0 = eqb-false _ _ g.0 in
          subst (λ (p : ℕ × List ℕ). (bytes ≡ number w p.0 ++ p.1) × ((0 < p.0) × (p.0 < limit))) g.1 (t.0, (omega (arith, ne), t.1));
      again = λ n rest h.
          let ne : n ≢ 0 = omega (arith, h.0) in
          rw (plain.again n rest h.1, ne_eqb n 0 ne) refl;
      faults = λ sure bytes n fits e.
          elim (bind_err (number_at w bytes) (λ x. cond (nat_eq x.0 0) (Err (suc (length x.1))) (Ok x)) n e) [
            | inl e1 ↦ short_number w limit wide ordered bytes n fits e1
            | inr e2 ↦
                let x = e2.0 in
                let t = plain.takes bytes x fits e2.1.0 in
                let g = guard_less_err (nat_eq x.0 0) (suc (length x.1)) n x e2.1.1 in
                let is_zero : x.0 ≡ 0 = eqb-true _ _ g.0 in
                let z : List ℕ = replicate (byte_len w - 1) 0 in
                record {
                  front = z;
                  rest = 0 ∷ x.1;
                  parts = t.0 ∙ ap (λ (k : ℕ). number w k ++ x.1) is_zero ∙ ap (λ (l : List ℕ). l ++ x.1) ordered.none ∙ append_assoc z (0 ∷ []) x.1;
                  left = g.1;
                  goes = (1, ((omega arith, top), (1 ∷ [], ordered.one)));
                  stops = λ b after is v h more same.
                      let b_zero : b ≡ 0 = cc in
                      let long : length (number w v) ≡ byte_len w = length-number w limit wide v in
                      let zs : length z ≡ byte_len w - 1 = length-replicate {A = ℕ} (byte_len w - 1) 0 in
                      let count : length (number w v) ≡ length z + suc (length more) = ap length same ∙ length-append z (b ∷ more) in
                      let some = ordered.some in
                      let none : more ≡ [] = nil_from_length more (omega (arith, long, zs, count, some)) in
                      let text : number w v ++ [] ≡ number w 0 ++ [] = ap (λ (l : List ℕ). l ++ []) (same ∙ (λ i. z ++ b_zero i ∷ none i) ∙ sym ordered.none) in
                      let zero_v = (cancels plain v 0 [] [] h.1 (omega (arith, top)) text).0 in
                      absurd (omega (arith, zero_v, h.0));
                }
          ];
      some = 1;
      some_within = (omega arith, top);
    }

-- the laws of numbers of 32 bits that aren't 0
pub positive32_laws : Laws (λ (n : ℕ). (0 < n) × (n < 2 ^ 32)) (λ (n : ℕ). number w32 n) (positive_at w32)
positive32_laws = positive_laws w32 (2 ^ 32) wide32 ordered32 (omega arith)

-- the laws of numbers of 64 bits that aren't 0
pub positive64_laws : Laws (λ (n : ℕ). (0 < n) × (n < 2 ^ 64)) (λ (n : ℕ). number w64 n) (positive_at w64)
positive64_laws = positive_laws w64 (2 ^ 64) wide64 ordered64 (omega arith)

-- ---- a first byte that passes a test

-- reading a value whose first byte passes a test
unfoldable pub headed_at : {V : Type 0} → (ℕ → Bool) → (List ℕ → Result (V × List ℕ) ℕ) → List ℕ → Result (V × List ℕ) ℕ
headed_at test read [] = read []
headed_at test read (b ∷ bytes) = cond (test b) (read (b ∷ bytes)) (Err (suc (length bytes)))

-- what was read passed the test
guard_cond : {A : Type 0} (b : Bool) (d : ℕ) (r : Result A ℕ) (y : A) → cond b r (Err d) ≡ Ok y → (b ≡ true) × (r ≡ Ok y)
guard_cond true d r y e = (refl, e)
guard_cond false d r y e = absurd cc

-- a fault of the test, or behind it
cond_err : {A : Type 0} (b : Bool) (d n : ℕ) (r : Result A ℕ) → cond b r (Err d) ≡ Err n → ((b ≡ false) × (d ≡ n)) ⊎ ((b ≡ true) × (r ≡ Err n))
cond_err true d n r e = inr (refl, e)
cond_err {A} false d n r e = inl (refl, err_is {A = A} d n e)

-- a front with a first byte that passes goes on
headed_goes : {V : Type 0} (test : ℕ → Bool) (head : V → ℕ) (spelling : V → List ℕ) (within : V → Type 0) → ((v : V) → within v → (tail : List ℕ) × (spelling v ≡ head v ∷ tail)) → (first : V) → within first → test (head first) ≡ true
    → (c : ℕ) (bytes front rest : List ℕ) → c ∷ bytes ≡ front ++ rest → test c ≡ true → (v : V) × (within v × ((more : List ℕ) × (spelling v ≡ front ++ more)))
    → (v : V) × ((within v × (test (head v) ≡ true)) × ((more : List ℕ) × (spelling v ≡ front ++ more)))
headed_goes test head spelling within begins first first_within first_passes c bytes [] rest parts passes goes = (first, ((first_within, first_passes), (spelling first, refl)))
headed_goes test head spelling within begins first first_within first_passes c bytes (d ∷ front) rest parts passes goes =
    let s = begins goes.0 goes.1.0 in
    let same : c ≡ head goes.0 = cc (parts, goes.1.1.1, s.1) in
    (goes.0, ((goes.1.0, subst (λ (k : ℕ). test k ≡ true) same passes), goes.1.1))

-- the laws of a value whose first byte passes a test
pub headed_laws : {V : Type 0} {within : V → Type 0} {spelling : V → List ℕ} {reading : List ℕ → Result (V × List ℕ) ℕ} (test : ℕ → Bool) (head : V → ℕ) → ((v : V) → within v → (tail : List ℕ) × (spelling v ≡ head v ∷ tail)) → (first : V) → within first → test (head first) ≡ true
    → Laws within spelling reading → Laws (λ (v : V). within v × (test (head v) ≡ true)) spelling (headed_at test reading)
unfolding headed_at
headed_laws {V} {within} {spelling} {reading} test head begins first first_within first_passes one = record {
  takes = elim [
    | [] ↦ λ x fits e.
        let t = one.takes [] x fits e in
        let b = begins x.0 t.1 in
        absurd (cc (t.0, b.1))
    | c ∷ bytes ↦ λ x fits e.
        let g = guard_cond (test c) (suc (length bytes)) (reading (c ∷ bytes)) x e in
        let t = one.takes (c ∷ bytes) x fits g.1 in
        let b = begins x.0 t.1 in
        let same : head x.0 ≡ c = cc (t.0, b.1) in
        (t.0, (t.1, subst (λ (k : ℕ). test k ≡ true) (sym same) g.0))
  ];
  again = λ v rest h.
      let b = begins v h.0 in
      let whole : spelling v ++ rest ≡ head v ∷ (b.0 ++ rest) = ap (λ (l : List ℕ). l ++ rest) b.1 in
      ap (headed_at test reading) whole ∙ ap (λ (t : Bool). cond t (reading (head v ∷ (b.0 ++ rest))) (Err (suc (length (b.0 ++ rest))))) h.1 ∙ ap reading (sym whole) ∙ one.again v rest h.0;
  faults = λ sure. elim [
    | [] ↦ λ n fits e.
        let f = one.faults sure [] n fits e in
        let empty : f.front ≡ [] = nil_from_length f.front (omega (arith, ap length f.parts, length-append f.front f.rest)) in
        record {
          front = f.front;
          rest = f.rest;
          parts = f.parts;
          left = f.left;
          goes = (first, ((first_within, first_passes), (spelling first, ap (λ (l : List ℕ). l ++ spelling first) (sym empty))));
          stops = λ b after is v h more same. f.stops b after is v h.0 more same;
        }
    | c ∷ bytes ↦ λ n fits e.
        elim (cond_err (test c) (suc (length bytes)) n (reading (c ∷ bytes)) e) [
          | inl p ↦ record {
            front = [];
            rest = c ∷ bytes;
            parts = refl;
            left = p.1;
            goes = (first, ((first_within, first_passes), (spelling first, refl)));
            stops = λ b after is v h more same.
                let s = begins v h.0 in
                let same_head : head v ≡ c = cc (is, same, s.1) in
                let wrong : test c ≡ true = subst (λ (k : ℕ). test k ≡ true) same_head h.1 in
                absurd (cc (wrong, p.0));
          }
          | inr p ↦ let f = one.faults sure (c ∷ bytes) n fits p.1 in record {
            front = f.front;
            rest = f.rest;
            parts = f.parts;
            left = f.left;
            goes = headed_goes test head spelling within begins first first_within first_passes c bytes f.front f.rest f.parts p.0 f.goes;
            stops = λ b after is v h more same. f.stops b after is v h.0 more same;
          }
        ]
  ];
  some = first;
  some_within = (first_within, first_passes);
}

-- ---- a stamp: not 0, and below 2 ^ 63

-- reading a stamp
unfoldable pub stamp_at : List ℕ → Result (ℕ × List ℕ) ℕ
stamp_at = headed_at (λ b. nat_lt b 128) (positive_at w64)

-- the first byte of a number of 64 bits
stamp_head : ℕ → ℕ
stamp_head n = n / 2 ^ 56 % 256

-- a number begins with its first byte
stamp_begins : (n : ℕ) → (0 < n) × (n < 2 ^ 64) → (tail : List ℕ) × (number w64 n ≡ stamp_head n ∷ tail)
unfolding number stamp_head
stamp_begins n h = (drop 1 (to_be_bytes w64 n), refl)

-- the laws of stamps
pub stamp_laws : Laws (λ (n : ℕ). (0 < n) × (n < 2 ^ 63)) (λ (n : ℕ). number w64 n) stamp_at
unfolding stamp_at stamp_head
stamp_laws =
    restated_laws (λ n h. let low = ltb-true _ _ h.1 in ((h.0.0, omega (arith, low, h.0.1)), refl)) (λ n h. ((h.0, omega (arith, h.1)), lt-ltb _ _ (omega (arith, h.1))))
    (headed_laws (λ b. nat_lt b 128) stamp_head stamp_begins 1 (omega arith, omega arith) refl positive64_laws)
