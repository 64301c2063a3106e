-- A value behind two bytes of its spelling's length.
use Rattle.std.proofs.Common.{◌≡◌, ◌≤◌, ℕ, List, [], ◌∷◌, ◌++◌, length, Option, Some, None, Result, Ok, Err, inl, inr, sym, ap, subst, ◌∙◌, arith, append_assoc}
use Rattle.std.specs.Int.{w16}
use Rattle.std.proofs.lemmas.Bool.{cases_lt}
use Rattle.std.proofs.lemmas.List.{append-nil, get_or_append_left, get_or_past}
use Rattle.net_base.specs.Reading.{IsBytes, number}
use Rattle.net_base.specs.Forms.{◌>>=◌, bytes16}
use Rattle.net_base.specs.Laws.{LawsIf, bind_ok, done, IsBytes-rest}
use Rattle.net_base.specs.Framing.{bytes16_at, bytes16_laws}

-- the value whose spelling all of the bytes are
abbrev pub whole : {V : Type 0} → Result (V × List ℕ) ℕ → Option V
whole (Ok (v, [])) = Some v
whole (Ok (v, b ∷ more)) = None
whole (Err n) = None

-- it, and the rest behind it
abbrev pub whole_in : {V : Type 0} → Option V → List ℕ → Result (V × List ℕ) ℕ
whole_in None rest = Err (length rest)
whole_in (Some v) rest = Ok (v, rest)

-- reading two bytes of length, and a value whose spelling has that length
unfoldable pub framed_at : {V : Type 0} → (List ℕ → Result (V × List ℕ) ℕ) → List ℕ → Result (V × List ℕ) ℕ
framed_at read bytes = bytes16_at 32768 bytes >>= λ x. whole_in (whole (read x.0)) x.1

-- what was whole
whole_is : {V : Type 0} (r : Result (V × List ℕ) ℕ) (rest : List ℕ) (x : V × List ℕ) → whole_in (whole r) rest ≡ Ok x → (r ≡ done (x.0, [])) × (rest ≡ x.1)
whole_is (Ok (v, [])) rest x e = (cc, cc)
whole_is (Ok (v, b ∷ more)) rest x e = absurd cc
whole_is (Err n) rest x e = absurd cc

-- the first of some bytes are bytes
first_bytes : (a b : List ℕ) → IsBytes (a ++ b) → IsBytes a
first_bytes a b h i =
    elim (cases_lt i (length a)) [
      | inl lt ↦ rw (← get_or_append_left a b 0 i lt) (h i)
      | inr le ↦ rw (get_or_past a i 0 le) (omega arith)
    ]

-- The laws of a value behind its length. Of faults they say nothing.
pub framed_laws : {V : Type 0} {within : V → Type 0} {content : V → List ℕ} {read : List ℕ → Result (V × List ℕ) ℕ} {exact : Type 0} → ((v : V) → within v → length (content v) ≤ 32768) → LawsIf exact within content read → LawsIf ⊥ within (λ (v : V). bytes16 (content v)) (framed_at read)
unfolding framed_at
framed_laws {V} {within} {content} {read} short one =
    let frames = bytes16_laws 32768 (omega arith) in
    record {
      takes = λ bytes x fits e.
          let b = bind_ok (bytes16_at 32768 bytes) (λ y. whole_in (whole (read y.0)) y.1) x e in
          let t = frames.takes bytes b.0 fits b.1.0 in
          let w = whole_is (read b.0.0) b.0.1 x b.1.1 in
          let inner : IsBytes b.0.0 = first_bytes b.0.0 b.0.1 (IsBytes-rest (number w16 (length b.0.0)) (b.0.0 ++ b.0.1) (subst IsBytes (t.0 ∙ append_assoc (number w16 (length b.0.0)) b.0.0 b.0.1) fits)) in
          let u = one.takes b.0.0 (x.0, []) inner w.0 in
          let same : b.0.0 ≡ content x.0 = u.0 ∙ append-nil (content x.0) in
          (t.0 ∙ (λ i. bytes16 (same i) ++ w.1 i), u.1);
      again = λ v rest h.
          ap (λ (r : Result (List ℕ × List ℕ) ℕ). r >>= λ x. whole_in (whole (read x.0)) x.1) (frames.again (content v) rest (short v h))
          ∙ ap (λ (r : Result (V × List ℕ) ℕ). whole_in (whole r) rest) (ap read (sym (append-nil (content v))) ∙ one.again v [] h);
      faults = λ never. absurd never;
      some = one.some;
      some_within = one.some_within;
    }
