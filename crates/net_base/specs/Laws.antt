-- The laws of a spelling, and of a spelling that is made of others.
use Rattle.std.proofs.Common.{◌≡◌, ◌⊎◌, inl, inr, ◌+◌, ℕ, List, [], ◌∷◌, ◌++◌, length, Result, Ok, Err, refl, sym, ap, ◌∙◌}
use Rattle.std.proofs.lemmas.List.{get_or-append-add}
use Rattle.net_base.specs.Reading.{IsBytes}
use Rattle.net_base.specs.Forms.{◌>>=◌}

-- The front of some value's spelling stops n bytes before the end: no value's spelling goes on with the byte that comes there.
pub record IsFault {V : Type 0} (within : V → Type 0) (spelling : V → List ℕ) (bytes : List ℕ) (n : ℕ) : Type 0 where
  pub front : List ℕ
  pub rest : List ℕ
  pub parts : bytes ≡ front ++ rest
  pub left : length rest ≡ n
  pub goes : (v : V) × (within v × ((more : List ℕ) × (spelling v ≡ front ++ more)))
  pub stops : (b : ℕ) (after : List ℕ) → rest ≡ b ∷ after → (v : V) → within v → (more : List ℕ) → spelling v ≡ front ++ b ∷ more → ⊥

-- What is read is spelt so, and what is spelt so is read, whatever follows; where it is exact, a fault is the first one. Each type has a value.
pub record LawsIf (exact : Type 0) {V : Type 0} (within : V → Type 0) (spelling : V → List ℕ) (reading : List ℕ → Result (V × List ℕ) ℕ) : Type 0 where
  pub takes : (bytes : List ℕ) (x : V × List ℕ) → IsBytes bytes → reading bytes ≡ Ok x → (bytes ≡ spelling x.0 ++ x.1) × within x.0
  pub again : (v : V) (rest : List ℕ) → within v → reading (spelling v ++ rest) ≡ Ok (v, rest)
  pub faults : exact → (bytes : List ℕ) (n : ℕ) → IsBytes bytes → reading bytes ≡ Err n → IsFault within spelling bytes n
  pub some : V
  pub some_within : within some

-- the laws of a spelling whose faults are exact
abbrev pub Laws : {V : Type 0} → (V → Type 0) → (V → List ℕ) → (List ℕ → Result (V × List ℕ) ℕ) → Type 0
Laws within spelling reading = LawsIf (Unit {0}) within spelling reading

-- ---- tools

-- what was read
abbrev pub done : {A : Type 0} → A → Result A ℕ
done x = Ok x

-- nothing was read
abbrev pub stopped : {A : Type 0} → ℕ → Result A ℕ
stopped x = Err x

-- what was read is one value
pub ok_is : {A : Type 0} (x y : A) → done x ≡ done y → x ≡ y
ok_is x y e = cc

-- a fault is one number
pub err_is : {A : Type 0} (x y : ℕ) → stopped {A = A} x ≡ stopped y → x ≡ y
err_is x y e = cc

-- what was read is no fault
pub ok_not_err : {A : Type 0} (r : Result A ℕ) (x : A) (n : ℕ) → r ≡ Ok x → r ≡ Err n → ⊥
ok_not_err r x n e f = absurd cc

-- a second part was read, so a first one was
pub bind_ok : {A B : Type 0} (r : Result A ℕ) (f : A → Result B ℕ) (y : B) → (r >>= f) ≡ Ok y → (x : A) × ((r ≡ Ok x) × (f x ≡ Ok y))
bind_ok (Ok x) f y e = (x, (refl, e))
bind_ok (Err d) f y e = absurd cc

-- a fault is one of the first part or of the second
pub bind_err : {A B : Type 0} (r : Result A ℕ) (f : A → Result B ℕ) (n : ℕ) → (r >>= f) ≡ Err n → (r ≡ Err n) ⊎ ((x : A) × ((r ≡ Ok x) × (f x ≡ Err n)))
bind_err {A} (Ok x) f n e = inr (x, (refl, e))
bind_err {A} (Err d) f n e = inl (ap (λ (k : ℕ). stopped {A = A} k) (err_is d n e))

-- the last of some bytes are bytes
pub IsBytes-rest : (a b : List ℕ) → IsBytes (a ++ b) → IsBytes b
IsBytes-rest a b h i = rw (← get_or-append-add a b i 0) (h (length a + i))

-- of two fronts of one list one begins the other
pub split_prefix : (a x b y : List ℕ) → a ++ x ≡ b ++ y → ((t : List ℕ) × ((b ≡ a ++ t) × (x ≡ t ++ y))) ⊎ ((t : List ℕ) × ((a ≡ b ++ t) × (y ≡ t ++ x)))
split_prefix [] x b y e = inl (b, (refl, e))
split_prefix (c ∷ a) x [] y e = inr (c ∷ a, (refl, sym e))
split_prefix (c ∷ a) x (d ∷ b) y e =
    let heads : c ≡ d = cc in
    let tails : a ++ x ≡ b ++ y = cc in
    elim (split_prefix a x b y tails) [
      | inl w ↦ inl (w.0, (cc (heads, w.1.0), w.1.1))
      | inr w ↦ inr (w.0, (cc (heads, w.1.0), w.1.1))
    ]

-- laws with exact faults are laws
pub weaker : {V : Type 0} {within : V → Type 0} {spelling : V → List ℕ} {reading : List ℕ → Result (V × List ℕ) ℕ} (exact : Type 0) → Laws within spelling reading → LawsIf exact within spelling reading
weaker exact one = record { takes = one.takes; again = one.again; faults = λ sure. one.faults tt; some = one.some; some_within = one.some_within }

-- laws whose faults are known to be exact
pub surely : {V : Type 0} {within : V → Type 0} {spelling : V → List ℕ} {reading : List ℕ → Result (V × List ℕ) ℕ} {exact : Type 0} → exact → LawsIf exact within spelling reading → Laws within spelling reading
surely sure one = record { takes = one.takes; again = one.again; faults = λ _. one.faults sure; some = one.some; some_within = one.some_within }

-- no spelling begins another, and each value has one
pub cancels : {V : Type 0} {within : V → Type 0} {spelling : V → List ℕ} {reading : List ℕ → Result (V × List ℕ) ℕ} {exact : Type 0} (laws : LawsIf exact within spelling reading) (v w : V) (x y : List ℕ) → within v → within w → spelling v ++ x ≡ spelling w ++ y → (v ≡ w) × (x ≡ y)
cancels {V} {within} {spelling} {reading} laws v w x y hv hw e =
    let p = laws.again v x hv in
    let q = laws.again w y hw in
    let same : (v, x) ≡ (w, y) = ok_is (v, x) (w, y) (sym p ∙ ap reading e ∙ q) in
    (ap (λ (z : V × List ℕ). z.0) same, ap (λ (z : V × List ℕ). z.1) same)
