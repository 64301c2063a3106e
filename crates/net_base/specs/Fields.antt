-- The laws of fields: numbers, bytes, options and lists.
use Rattle.std.proofs.Common.{◌≡◌, inl, inr, ◌-◌, ◌<◌, ◌≤◌, ◌^◌, ℕ, zero, suc, Bool, true, false, cond, ltb, List, [], ◌∷◌, ◌++◌, length, take, drop, replicate, Option, Some, None, Result, Ok, Err, refl, sym, ap, subst, ◌∙◌, arith}
use Rattle.std.specs.Prelude.{IfSome, ◌==◌}
use Rattle.std.specs.List.{flat_map, AllByRecursion}
use Rattle.std.specs.Int.{Width, w16, w32, w64, byte_len, from_be_bytes, to_be_bytes}
use Rattle.std.proofs.lemmas.Bool.{cases_lt, ltb-false, le-ltb, ltb-true, lt-ltb}
use Rattle.std.proofs.lemmas.List.{take_at, drop_at, take-append-drop, length-append, length-take, length-replicate, append-nil, nil_from_length, get_or-take, get_or_past, get_or-append_right, get_or_append_left, get_or-replicate}
use Rattle.std.proofs.lemmas.List.Concat.{flat_map-cons}
use Rattle.std.proofs.lemmas.Nat.{be_bytes_2, be_bytes_4, be_bytes_8, from_be_bytes-to_be_bytes_2, from_be_bytes-to_be_bytes_4, from_be_bytes-to_be_bytes_8}
use Rattle.net_base.specs.Reading.{IsBytes, number}
use Rattle.net_base.specs.Forms.{◌>>=◌, byte_at, bytes_at, number_at, below_at, option_at, items_at, list8_at, option_of, list8, ListWithin}
use Rattle.net_base.specs.Laws.{Laws, LawsIf, weaker, done, ok_is, err_is, ok_not_err}
use Rattle.net_base.specs.Combining.{bind_laws, mapped_laws, restated_laws}

-- ---- nothing is read

-- the laws of one value that is spelt by nothing
pub done_laws : {V : Type 0} (v : V) → Laws (λ (w : V). w ≡ v) (λ (w : V). []) (λ (bytes : List ℕ). done (v, bytes))
done_laws {V} v = record {
  takes = λ bytes x fits e. (ap (λ (p : V × List ℕ). p.1) (ok_is (v, bytes) x e), sym (ap (λ (p : V × List ℕ). p.0) (ok_is (v, bytes) x e)));
  again = λ w rest h. ap (λ (z : V). done (z, rest)) (sym h);
  faults = λ sure bytes n fits e. absurd (ok_not_err (done (v, bytes)) (v, bytes) n refl e);
  some = v;
  some_within = refl;
}

-- ---- a byte that passes a test

-- what passed a test
pub guard_ok : {A : Type 0} (b : Bool) (d : ℕ) (x y : A) → cond b (Ok x) (Err d) ≡ Ok y → (b ≡ true) × (x ≡ y)
guard_ok true d x y e = (refl, cc)
guard_ok false d x y e = absurd cc

-- what failed a test
pub guard_err : {A : Type 0} (b : Bool) (d n : ℕ) (x : A) → cond b (Ok x) (Err d) ≡ Err n → (b ≡ false) × (d ≡ n)
guard_err true d n x e = absurd cc
guard_err {A} false d n x e = (refl, err_is {A = A} d n e)

-- the laws of a byte below a limit
pub below_laws : (limit : ℕ) → 0 < limit → Laws (λ (n : ℕ). n < limit) (λ (n : ℕ). n ∷ []) (below_at limit)
unfolding below_at
below_laws limit some = record {
  takes = elim [
    | [] ↦ λ x fits e. absurd cc
    | b ∷ rest ↦ λ x fits e.
        let g = guard_ok (ltb b limit) (suc (length rest)) (b, rest) x e in
        subst (λ (p : ℕ × List ℕ). (b ∷ rest ≡ p.0 ∷ p.1) × (p.0 < limit)) g.1 (refl, ltb-true b limit g.0)
  ];
  again = λ n rest h. rw (lt-ltb n limit h) refl;
  faults = λ sure. elim [
    | [] ↦ λ n fits e. record { front = []; rest = []; parts = refl; left = err_is {A = ℕ × List ℕ} 0 n e; goes = (0, (some, (0 ∷ [], refl))); stops = λ b after is v h more same. absurd cc }
    | c ∷ rest ↦ λ n fits e.
        let g = guard_err (ltb c limit) (suc (length rest)) n (c, rest) e in
        record {
          front = [];
          rest = c ∷ rest;
          parts = refl;
          left = g.1;
          goes = (0, (some, (0 ∷ [], refl)));
          stops = λ b after is v h more same.
              let one : c ≡ v = cc (is, same) in
              let not_less = ltb-false c limit g.0 in
              absurd (omega (arith, one, h, not_less));
        }
  ];
  some = 0;
  some_within = some;
}

-- ---- bytes of one length

-- what did not fall short
pub guard_less_ok : {A : Type 0} (b : Bool) (d : ℕ) (x y : A) → cond b (Err d) (Ok x) ≡ Ok y → (b ≡ false) × (x ≡ y)
guard_less_ok true d x y e = absurd cc
guard_less_ok false d x y e = (refl, cc)

-- what fell short
pub guard_less_err : {A : Type 0} (b : Bool) (d n : ℕ) (x : A) → cond b (Err d) (Ok x) ≡ Err n → (b ≡ true) × (d ≡ n)
guard_less_err {A} true d n x e = (refl, err_is {A = A} d n e)
guard_less_err false d n x e = absurd cc

-- filled up with zeros
filled : ℕ → List ℕ → List ℕ
filled n bytes = bytes ++ replicate (n - length bytes) 0

-- the length of what is filled up
length-filled : (n : ℕ) (bytes : List ℕ) → length bytes < n → length (filled n bytes) ≡ n
unfolding filled
length-filled n bytes lt = omega (arith, length-append bytes (replicate (n - length bytes) 0), length-replicate {A = ℕ} (n - length bytes) 0)

-- the laws of bytes of one length
pub bytes_laws : (n : ℕ) → Laws (λ (b : List ℕ). length b ≡ n) (λ (b : List ℕ). b) (bytes_at n)
unfolding filled bytes_at
bytes_laws n = record {
  takes = λ bytes x fits e.
      let g = guard_less_ok (ltb (length bytes) n) 0 (take n bytes, drop n bytes) x e in
      let long : n ≤ length bytes = ltb-false _ _ g.0 in
      subst (λ (p : List ℕ × List ℕ). (bytes ≡ p.0 ++ p.1) × (length p.0 ≡ n)) g.1 (sym (take-append-drop n bytes), omega (arith, length-take n bytes));
  again = λ b rest h.
      let long : ltb (length (b ++ rest)) n ≡ false = le-ltb _ _ (omega (arith, length-append b rest)) in
      rw (long, take_at b rest n h, drop_at b rest n h) refl;
  faults = λ sure bytes m fits e.
      let g = guard_less_err (ltb (length bytes) n) 0 m (take n bytes, drop n bytes) e in
      let short : length bytes < n = ltb-true _ _ g.0 in
      record {
        front = bytes;
        rest = [];
        parts = sym (append-nil bytes);
        left = g.1;
        goes = (filled n bytes, (length-filled n bytes short, (replicate (n - length bytes) 0, refl)));
        stops = λ b after is v h more same. absurd cc;
      };
  some = replicate n 0;
  some_within = length-replicate n 0;
}

-- ---- numbers

-- a width's numbers and their bytes
pub record IsWide (w : Width) (limit : ℕ) : Type 0 where
  pub len : (n : ℕ) → length (to_be_bytes w n) ≡ byte_len w
  pub back : (bytes : List ℕ) → length bytes ≡ byte_len w → IsBytes bytes → to_be_bytes w (from_be_bytes w bytes) ≡ bytes
  pub again : (n : ℕ) → n < limit → from_be_bytes w (to_be_bytes w n) ≡ n
  pub below : (bytes : List ℕ) → IsBytes bytes → from_be_bytes w bytes < limit
  pub some : 0 < limit

-- numbers of 16 bits
pub wide16 : IsWide w16 (2 ^ 16)
wide16 = record {
  len = λ n. refl;
  back = λ bytes len fits. be_bytes_2 bytes _ len fits refl;
  again = λ n lt. from_be_bytes-to_be_bytes_2 n lt;
  below = λ bytes fits. omega (arith, fits 0, fits 1);
  some = omega arith;
}

-- numbers of 32 bits
pub wide32 : IsWide w32 (2 ^ 32)
wide32 = record {
  len = λ n. refl;
  back = λ bytes len fits. be_bytes_4 bytes _ len fits refl;
  again = λ n lt. from_be_bytes-to_be_bytes_4 n lt;
  below = λ bytes fits. omega (arith, fits 0, fits 1, fits 2, fits 3);
  some = omega arith;
}

-- numbers of 64 bits
pub wide64 : IsWide w64 (2 ^ 64)
wide64 = record {
  len = λ n. refl;
  back = λ bytes len fits. be_bytes_8 bytes _ len fits refl;
  again = λ n lt. from_be_bytes-to_be_bytes_8 n lt;
  below = λ bytes fits. omega (arith, fits 0, fits 1, fits 2, fits 3, fits 4, fits 5, fits 6, fits 7);
  some = omega arith;
}

-- the first of some bytes are bytes
IsBytes-take : (n : ℕ) (bytes : List ℕ) → IsBytes bytes → IsBytes (take n bytes)
IsBytes-take n bytes h i =
    elim (cases_lt i n) [
      | inl lt ↦ rw (get_or-take n bytes i 0 lt) (h i)
      | inr le ↦ rw (get_or_past (take n bytes) i 0 (omega (arith, length-take n bytes))) (omega arith)
    ]

-- zeros are bytes
IsBytes-zeros : (n : ℕ) → IsBytes (replicate n 0)
IsBytes-zeros n i =
    elim (cases_lt i n) [
      | inl lt ↦ rw (get_or-replicate {A = ℕ} n i 0 0 lt) (omega arith)
      | inr le ↦ rw (get_or_past {X = ℕ} (replicate n 0) i 0 (omega (arith, length-replicate {A = ℕ} n 0))) (omega arith)
    ]

-- bytes after bytes are bytes
pub IsBytes-append : (a b : List ℕ) → IsBytes a → IsBytes b → IsBytes (a ++ b)
IsBytes-append a b ha hb i =
    elim (cases_lt i (length a)) [
      | inl lt ↦ rw (get_or_append_left a b 0 i lt) (ha i)
      | inr le ↦ rw (get_or-append_right a b (length a) i 0 refl le) (hb (i - length a))
    ]

-- the laws of numbers of a width
pub number_laws : (w : Width) (limit : ℕ) → IsWide w limit → Laws (λ (n : ℕ). n < limit) (λ (n : ℕ). number w n) (number_at w)
unfolding filled number number_at
number_laws w limit wide = record {
  takes = λ bytes x fits e.
      let g = guard_less_ok (ltb (length bytes) (byte_len w)) 0 (from_be_bytes w (take (byte_len w) bytes), drop (byte_len w) bytes) x e in
      let long : byte_len w ≤ length bytes = ltb-false _ _ g.0 in
      let front : to_be_bytes w (from_be_bytes w (take (byte_len w) bytes)) ≡ take (byte_len w) bytes = wide.back (take (byte_len w) bytes) (omega (arith, length-take (byte_len w) bytes)) (IsBytes-take (byte_len w) bytes fits) in
      subst (λ (p : ℕ × List ℕ). (bytes ≡ to_be_bytes w p.0 ++ p.1) × (p.0 < limit)) g.1
      (sym (take-append-drop (byte_len w) bytes) ∙ ap (λ (l : List ℕ). l ++ drop (byte_len w) bytes) (sym front), wide.below (take (byte_len w) bytes) (IsBytes-take (byte_len w) bytes fits));
  again = λ n rest lt.
      let len = wide.len n in
      let long : ltb (length (to_be_bytes w n ++ rest)) (byte_len w) ≡ false = le-ltb _ _ (omega (arith, length-append (to_be_bytes w n) rest)) in
      rw (long, take_at (to_be_bytes w n) rest (byte_len w) len, drop_at (to_be_bytes w n) rest (byte_len w) len, wide.again n lt) refl;
  faults = λ sure bytes m fits e.
      let g = guard_less_err (ltb (length bytes) (byte_len w)) 0 m (from_be_bytes w (take (byte_len w) bytes), drop (byte_len w) bytes) e in
      let short : length bytes < byte_len w = ltb-true _ _ g.0 in
      let whole = filled (byte_len w) bytes in
      let whole_fits : IsBytes whole = IsBytes-append bytes (replicate (byte_len w - length bytes) 0) fits (IsBytes-zeros (byte_len w - length bytes)) in
      record {
        front = bytes;
        rest = [];
        parts = sym (append-nil bytes);
        left = g.1;
        goes = (from_be_bytes w whole, (wide.below whole whole_fits, (replicate (byte_len w - length bytes) 0, wide.back whole (length-filled (byte_len w) bytes short) whole_fits)));
        stops = λ b after is v h more same. absurd cc;
      };
  some = 0;
  some_within = wide.some;
}

-- the laws of numbers of 16 bits
pub u16_laws : Laws (λ (n : ℕ). n < 2 ^ 16) (λ (n : ℕ). number w16 n) (number_at w16)
u16_laws = number_laws w16 (2 ^ 16) wide16

-- the laws of numbers of 32 bits
pub u32_laws : Laws (λ (n : ℕ). n < 2 ^ 32) (λ (n : ℕ). number w32 n) (number_at w32)
u32_laws = number_laws w32 (2 ^ 32) wide32

-- the laws of numbers of 64 bits
pub u64_laws : Laws (λ (n : ℕ). n < 2 ^ 64) (λ (n : ℕ). number w64 n) (number_at w64)
u64_laws = number_laws w64 (2 ^ 64) wide64

-- ---- options

-- the flag of an option
flag_of : {V : Type 0} → Option V → ℕ
flag_of None = 0
flag_of (Some v) = 1

-- what stands behind the flag
behind : {V : Type 0} → (V → List ℕ) → Option V → List ℕ
behind spell None = []
behind spell (Some v) = spell v

-- the laws of options
pub option_laws : {V : Type 0} {within : V → Type 0} {spelling : V → List ℕ} {reading : List ℕ → Result (V × List ℕ) ℕ} {exact : Type 0}
    → LawsIf exact within spelling reading → LawsIf exact (λ (o : Option V). IfSome o within) (λ (o : Option V). option_of spelling o) (option_at reading)
unfolding option_at flag_of behind
option_laws {V} {within} {spelling} {reading} {exact} one =
    bind_laws {second = λ f (o : Option V). (flag_of o ≡ f) × IfSome o within} {second_spelling = λ f o. behind spelling o} {second_reading = λ f bytes. cond (f == 0) (Ok (None, bytes)) (reading bytes >>= λ x. Ok (Some x.0, x.1))} (weaker exact (below_laws 2 (omega arith)))
    (elim [
      | zero ↦ λ h. restated_laws (λ o is. rw is ((refl, tt), refl)) (elim [ None ↦ λ w. refl | Some v ↦ λ w. absurd cc ]) (weaker exact (done_laws {V = Option V} None))
      | suc zero ↦ λ h. mapped_laws (λ (v : V). Some v) one (record { keeps = λ v hv. ((refl, hv), refl); from = elim [ None ↦ λ w. absurd cc | Some v ↦ λ w. (v, (w.1, refl)) ] })
      | suc (suc f) ↦ λ h. absurd (omega arith)
    ])
    (record {
      join = λ f. elim [ None ↦ λ hf ho. (tt, ap (λ (n : ℕ). n ∷ []) ho.0) | Some v ↦ λ hf ho. (ho.1, ap (λ (n : ℕ). n ∷ spelling v) ho.0) ];
      split = elim [ None ↦ λ ho. (0, (omega arith, (refl, ho))) | Some v ↦ λ ho. (1, (omega arith, (refl, ho))) ];
    })

-- ---- lists

-- the laws of n items
pub items_laws : {V : Type 0} {within : V → Type 0} {spelling : V → List ℕ} {reading : List ℕ → Result (V × List ℕ) ℕ} {exact : Type 0}
    → LawsIf exact within spelling reading → (n : ℕ) → LawsIf exact (λ (vs : List V). (length vs ≡ n) × AllByRecursion within vs) (λ (vs : List V). flat_map spelling vs) (items_at reading n)
unfolding items_at
items_laws {V} {within} {spelling} {reading} {exact} one zero =
    restated_laws (λ vs is. rw is ((refl, tt), refl)) (λ vs w. nil_from_length vs w.0) (weaker exact (done_laws {V = List V} []))
items_laws {V} {within} {spelling} {reading} one (suc n) =
    bind_laws {second = λ v (vs : List V). (others : List V) × (((length others ≡ n) × AllByRecursion within others) × (vs ≡ v ∷ others))} {second_spelling = λ v (vs : List V). flat_map spelling (drop 1 vs)} {second_reading = λ v bytes. items_at reading n bytes >>= λ xs. Ok (v ∷ xs.0, xs.1)} one
    (λ v hv. mapped_laws (λ (vs : List V). v ∷ vs) (items_laws one n) (record {
      keeps = λ vs h. ((vs, (h, refl)), refl);
      from = λ vs h. (h.0, (h.1.0, sym h.1.1));
    }))
    (record {
      join = λ v vs hv h. rw h.1.1 ((ap suc h.1.0.0, (hv, h.1.0.1)), flat_map-cons spelling v h.0);
      split = elim [ [] ↦ λ h. absurd cc | v ∷ vs ↦ λ h. (v, (h.1.0, (vs, ((omega (arith, h.0), h.1.1), refl)))) ];
    })

-- the laws of a byte of count and the items
pub list8_laws : {V : Type 0} {within : V → Type 0} {spelling : V → List ℕ} {reading : List ℕ → Result (V × List ℕ) ℕ} (limit : ℕ)
    → Laws within spelling reading → Laws (λ (vs : List V). ListWithin limit within vs) (λ (vs : List V). list8 spelling vs) (list8_at limit reading)
unfolding list8_at
list8_laws {V} {within} {spelling} {reading} limit one =
    bind_laws {second = λ n (vs : List V). (length vs ≡ n) × AllByRecursion within vs} {second_spelling = λ n (vs : List V). flat_map spelling vs} {second_reading = λ n bytes. items_at reading n bytes} (below_laws (suc limit) (omega arith))
    (λ n h. items_laws one n)
    (record {
      join = λ n vs hn h. ((omega (arith, hn, h.0), h.1), ap (λ (k : ℕ). k ∷ flat_map spelling vs) h.0);
      split = λ vs h. (length vs, (omega (arith, h.0), (refl, h.1)));
    })

-- ---- a byte

-- the laws of a byte
pub byte_laws : Laws (λ (n : ℕ). n < 256) (λ (n : ℕ). n ∷ []) byte_at
byte_laws = record {
  takes = elim [
    | [] ↦ λ x fits e. absurd cc
    | b ∷ rest ↦ λ x fits e. subst (λ (p : ℕ × List ℕ). (b ∷ rest ≡ p.0 ∷ p.1) × (p.0 < 256)) (ok_is (b, rest) x e) (refl, fits 0)
  ];
  again = λ n rest h. refl;
  faults = λ sure. elim [
    | [] ↦ λ n fits e. record { front = []; rest = []; parts = refl; left = err_is {A = ℕ × List ℕ} 0 n e; goes = (0, (omega arith, (0 ∷ [], refl))); stops = λ b after is v h more same. absurd cc }
    | c ∷ rest ↦ λ n fits e. absurd cc
  ];
  some = 0;
  some_within = omega arith;
}
