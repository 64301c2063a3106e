-- The laws of a spelling that is made of others.
use Rattle.std.proofs.Common.{◌≡◌, inl, inr, ℕ, List, [], ◌∷◌, ◌++◌, Result, Ok, refl, sym, ap, subst, ◌∙◌, append_assoc}
use Rattle.net_base.specs.Reading.{IsBytes}
use Rattle.net_base.specs.Forms.{◌>>=◌}
use Rattle.net_base.specs.Laws.{LawsIf, ok_is, ok_not_err, bind_ok, bind_err, IsBytes-rest, split_prefix, cancels}

-- ---- a first part, and what is read after it

-- How the whole is made of a first part a and what follows it.
pub record Joins {A V : Type 0} (first : A → Type 0) (first_spelling : A → List ℕ) (second : A → V → Type 0) (second_spelling : A → V → List ℕ) (within : V → Type 0) (spelling : V → List ℕ) : Type 0 where
  pub join : (a : A) (v : V) → first a → second a v → within v × (spelling v ≡ first_spelling a ++ second_spelling a v)
  pub split : (v : V) → within v → (a : A) × (first a × second a v)

-- the laws of a whole whose second part is read after the first
pub bind_laws : {A V : Type 0} {first : A → Type 0} {first_spelling : A → List ℕ} {first_reading : List ℕ → Result (A × List ℕ) ℕ} {second : A → V → Type 0} {second_spelling : A → V → List ℕ} {second_reading : A → List ℕ → Result (V × List ℕ) ℕ} {within : V → Type 0} {spelling : V → List ℕ} {exact : Type 0}
    → LawsIf exact first first_spelling first_reading → ((a : A) → first a → LawsIf exact (second a) (second_spelling a) (second_reading a))
    → Joins first first_spelling second second_spelling within spelling
    → LawsIf exact within spelling (λ bytes. first_reading bytes >>= λ x. second_reading x.0 x.1)
bind_laws {A} {V} {first} {first_spelling} {first_reading} {second} {second_spelling} {second_reading} {within} {spelling} one two joins = record {
  takes = λ bytes x fits e.
      let b = bind_ok (first_reading bytes) (λ y. second_reading y.0 y.1) x e in
      let t = one.takes bytes b.0 fits b.1.0 in
      let fits' : IsBytes b.0.1 = IsBytes-rest (first_spelling b.0.0) b.0.1 (subst IsBytes t.0 fits) in
      let u = (two b.0.0 t.1).takes b.0.1 x fits' b.1.1 in
      let j = joins.join b.0.0 x.0 t.1 u.1 in
      (t.0 ∙ ap (λ (l : List ℕ). first_spelling b.0.0 ++ l) u.0 ∙ sym (append_assoc (first_spelling b.0.0) (second_spelling b.0.0 x.0) x.1) ∙ ap (λ (l : List ℕ). l ++ x.1) (sym j.1), j.0);
  again = λ v rest h.
      let s = joins.split v h in
      let j = joins.join s.0 v s.1.0 s.1.1 in
      let regrouped : spelling v ++ rest ≡ first_spelling s.0 ++ (second_spelling s.0 v ++ rest) = ap (λ (l : List ℕ). l ++ rest) j.1 ∙ append_assoc (first_spelling s.0) (second_spelling s.0 v) rest in
      ap (λ (l : List ℕ). first_reading l >>= λ x. second_reading x.0 x.1) regrouped
      ∙ ap (λ (r : Result (A × List ℕ) ℕ). r >>= λ x. second_reading x.0 x.1) (one.again s.0 (second_spelling s.0 v ++ rest) s.1.0)
      ∙ (two s.0 s.1.0).again v rest s.1.1;
  faults = λ sure bytes n fits e.
      elim (bind_err (first_reading bytes) (λ y. second_reading y.0 y.1) n e) [
        | inl e1 ↦
            let f = one.faults sure bytes n fits e1 in
            let a = f.goes.0 in
            let more = f.goes.1.1.0 in
            let two_a = two a f.goes.1.0 in
            let v = two_a.some in
            let j = joins.join a v f.goes.1.0 two_a.some_within in
            record {
              front = f.front;
              rest = f.rest;
              parts = f.parts;
              left = f.left;
              goes = (v, (j.0, (more ++ second_spelling a v, j.1 ∙ ap (λ (l : List ℕ). l ++ second_spelling a v) f.goes.1.1.1 ∙ append_assoc f.front more (second_spelling a v))));
              stops = λ b after is w hw more' same.
                  let s = joins.split w hw in
                  let jw = joins.join s.0 w s.1.0 s.1.1 in
                  let both : first_spelling s.0 ++ second_spelling s.0 w ≡ f.front ++ b ∷ more' = sym jw.1 ∙ same in
                  let both' : first_spelling s.0 ++ second_spelling s.0 w ≡ (f.front ++ b ∷ []) ++ more' = both ∙ sym (append_assoc f.front (b ∷ []) more') in
                  elim (split_prefix (first_spelling s.0) (second_spelling s.0 w) (f.front ++ b ∷ []) more' both') [
                    | inl p ↦
                        let whole : bytes ≡ first_spelling s.0 ++ (p.0 ++ after) = f.parts ∙ ap (λ (l : List ℕ). f.front ++ l) is ∙ sym (append_assoc f.front (b ∷ []) after) ∙ ap (λ (l : List ℕ). l ++ after) p.1.0 ∙ append_assoc (first_spelling s.0) p.0 after in
                        ok_not_err (first_reading bytes) (s.0, p.0 ++ after) n (ap first_reading whole ∙ one.again s.0 (p.0 ++ after) s.1.0) e1
                    | inr p ↦ f.stops b after is s.0 s.1.0 p.0 (p.1.0 ∙ append_assoc f.front (b ∷ []) p.0)
                  ];
            }
        | inr e2 ↦
            let a = e2.0.0 in
            let t = one.takes bytes e2.0 fits e2.1.0 in
            let fits' : IsBytes e2.0.1 = IsBytes-rest (first_spelling a) e2.0.1 (subst IsBytes t.0 fits) in
            let f = (two a t.1).faults sure e2.0.1 n fits' e2.1.1 in
            let v = f.goes.0 in
            let j = joins.join a v t.1 f.goes.1.0 in
            record {
              front = first_spelling a ++ f.front;
              rest = f.rest;
              parts = t.0 ∙ ap (λ (l : List ℕ). first_spelling a ++ l) f.parts ∙ sym (append_assoc (first_spelling a) f.front f.rest);
              left = f.left;
              goes = (v, (j.0, (f.goes.1.1.0, j.1 ∙ ap (λ (l : List ℕ). first_spelling a ++ l) f.goes.1.1.1 ∙ sym (append_assoc (first_spelling a) f.front f.goes.1.1.0))));
              stops = λ b after is w hw more same.
                  let s = joins.split w hw in
                  let jw = joins.join s.0 w s.1.0 s.1.1 in
                  let both : first_spelling s.0 ++ second_spelling s.0 w ≡ first_spelling a ++ (f.front ++ b ∷ more) = sym jw.1 ∙ same ∙ append_assoc (first_spelling a) f.front (b ∷ more) in
                  let c = cancels one s.0 a (second_spelling s.0 w) (f.front ++ b ∷ more) s.1.0 t.1 both in
                  let here : second a w = subst (λ (z : A). second z w) c.0 s.1.1 in
                  let text : second_spelling a w ≡ f.front ++ b ∷ more = subst (λ (z : A). second_spelling z w ≡ f.front ++ b ∷ more) c.0 c.1 in
                  f.stops b after is w here more text;
            }
      ];
  some = (two one.some one.some_within).some;
  some_within = (joins.join one.some (two one.some one.some_within).some one.some_within (two one.some one.some_within).some_within).0;
}

-- ---- the same, seen as another type

-- a value of A within its limits is seen as one of B, with the same spelling, and each one of B is
pub record Seen {A B : Type 0} (to : A → B) (inner : A → Type 0) (inner_spelling : A → List ℕ) (within : B → Type 0) (spelling : B → List ℕ) : Type 0 where
  pub keeps : (a : A) → inner a → within (to a) × (spelling (to a) ≡ inner_spelling a)
  pub from : (b : B) → within b → (a : A) × (inner a × (to a ≡ b))

-- reading by an inner reading, and seeing what it gives as another type
abbrev pub mapped_at : {A B : Type 0} → (A → B) → (List ℕ → Result (A × List ℕ) ℕ) → List ℕ → Result (B × List ℕ) ℕ
mapped_at to reading bytes = reading bytes >>= λ x. Ok (to x.0, x.1)

-- what was read, seen as another type
abbrev seen_as : {A B : Type 0} → (A → B) → Result (A × List ℕ) ℕ → Result (B × List ℕ) ℕ
seen_as to read = read >>= λ x. Ok (to x.0, x.1)

-- the laws of a spelling that is seen as another type's
pub mapped_laws : {A B : Type 0} {inner : A → Type 0} {inner_spelling : A → List ℕ} {reading : List ℕ → Result (A × List ℕ) ℕ} {within : B → Type 0} {spelling : B → List ℕ} {exact : Type 0} (to : A → B)
    → LawsIf exact inner inner_spelling reading → Seen to inner inner_spelling within spelling → LawsIf exact within spelling (mapped_at to reading)
mapped_laws {A} {B} {inner} {inner_spelling} {reading} {within} {spelling} to one seen = record {
  takes = λ bytes x fits e.
      let b = bind_ok (reading bytes) (λ y. Ok (to y.0, y.1)) x e in
      let t = one.takes bytes b.0 fits b.1.0 in
      let k = seen.keeps b.0.0 t.1 in
      subst (λ (z : B × List ℕ). (bytes ≡ spelling z.0 ++ z.1) × within z.0) (ok_is (to b.0.0, b.0.1) x b.1.1) (t.0 ∙ ap (λ (l : List ℕ). l ++ b.0.1) (sym k.1), k.0);
  again = λ v rest h.
      let s = seen.from v h in
      let k = seen.keeps s.0 s.1.0 in
      subst (λ (z : B). mapped_at to reading (spelling z ++ rest) ≡ Ok (z, rest)) s.1.1
      (ap (λ (l : List ℕ). mapped_at to reading (l ++ rest)) k.1 ∙ ap (λ (r : Result (A × List ℕ) ℕ). seen_as to r) (one.again s.0 rest s.1.0));
  faults = λ sure bytes n fits e.
      elim (bind_err (reading bytes) (λ y. Ok (to y.0, y.1)) n e) [
        | inl e1 ↦
            let f = one.faults sure bytes n fits e1 in
            let k = seen.keeps f.goes.0 f.goes.1.0 in
            record {
              front = f.front;
              rest = f.rest;
              parts = f.parts;
              left = f.left;
              goes = (to f.goes.0, (k.0, (f.goes.1.1.0, k.1 ∙ f.goes.1.1.1)));
              stops = λ b after is w hw more same.
                  let s = seen.from w hw in
                  let ks = seen.keeps s.0 s.1.0 in
                  f.stops b after is s.0 s.1.0 more (sym ks.1 ∙ ap spelling s.1.1 ∙ same);
            }
        | inr e2 ↦ absurd cc
      ];
  some = to one.some;
  some_within = (seen.keeps one.some one.some_within).0;
}

-- ---- two parts

-- reading a pair
abbrev pub pair_at : {A B : Type 0} → (List ℕ → Result (A × List ℕ) ℕ) → (List ℕ → Result (B × List ℕ) ℕ) → List ℕ → Result ((A × B) × List ℕ) ℕ
pair_at a b bytes = a bytes >>= λ x. b x.1 >>= λ y. Ok ((x.0, y.0), y.1)

-- the laws of pairs
pub pair_laws : {A B : Type 0} {wa : A → Type 0} {sa : A → List ℕ} {ra : List ℕ → Result (A × List ℕ) ℕ} {wb : B → Type 0} {sb : B → List ℕ} {rb : List ℕ → Result (B × List ℕ) ℕ} {exact : Type 0}
    → LawsIf exact wa sa ra → LawsIf exact wb sb rb → LawsIf exact (λ (p : A × B). wa p.0 × wb p.1) (λ (p : A × B). sa p.0 ++ sb p.1) (pair_at ra rb)
pair_laws {A} {B} {wa} {sa} {ra} {wb} {sb} {rb} one two =
    bind_laws {second = λ a (p : A × B). wb p.1 × (p.0 ≡ a)} {second_spelling = λ a (p : A × B). sb p.1} {second_reading = λ a bytes. rb bytes >>= λ y. Ok ((a, y.0), y.1)} one
    (λ a h. mapped_laws (λ (y : B). (a, y)) two (record {
      keeps = λ y hy. ((hy, refl), refl);
      from = λ p hp. (p.1, (hp.0, λ i. (sym hp.1 i, p.1)));
    }))
    (record {
      join = λ a p ha hp. ((subst wa (sym hp.1) ha, hp.0), ap (λ (z : A). sa z ++ sb p.1) hp.1);
      split = λ p hp. (p.0, (hp.0, (hp.1, refl)));
    })

-- the same limits and spelling in other words
pub restated_laws : {V : Type 0} {w : V → Type 0} {s : V → List ℕ} {w' : V → Type 0} {s' : V → List ℕ} {reading : List ℕ → Result (V × List ℕ) ℕ} {exact : Type 0}
    → ((v : V) → w v → w' v × (s' v ≡ s v)) → ((v : V) → w' v → w v) → LawsIf exact w s reading → LawsIf exact w' s' reading
restated_laws {V} {w} {s} {w'} {s'} {reading} there back one = record {
  takes = λ bytes x fits e.
      let t = one.takes bytes x fits e in
      let k = there x.0 t.1 in
      (t.0 ∙ ap (λ (l : List ℕ). l ++ x.1) (sym k.1), k.0);
  again = λ v rest h.
      let k = there v (back v h) in
      ap (λ (l : List ℕ). reading (l ++ rest)) k.1 ∙ one.again v rest (back v h);
  faults = λ sure bytes n fits e.
      let f = one.faults sure bytes n fits e in
      let k = there f.goes.0 f.goes.1.0 in
      record {
        front = f.front;
        rest = f.rest;
        parts = f.parts;
        left = f.left;
        goes = (f.goes.0, (k.0, (f.goes.1.1.0, k.1 ∙ f.goes.1.1.1)));
        stops = λ b after is v h more same.
            let h' = back v h in
            f.stops b after is v h' more (sym (there v h').1 ∙ same);
      };
  some = one.some;
  some_within = (there one.some one.some_within).0;
}

-- the same, as a record of the fields
pub iso_laws : {A B : Type 0} {within : A → Type 0} {spelling : A → List ℕ} {reading : List ℕ → Result (A × List ℕ) ℕ} {exact : Type 0} (to : A → B) (from : B → A)
    → ((b : B) → to (from b) ≡ b) → ((a : A) → from (to a) ≡ a) → LawsIf exact within spelling reading → LawsIf exact (λ (b : B). within (from b)) (λ (b : B). spelling (from b)) (mapped_at to reading)
iso_laws {A} {B} {within} {spelling} {reading} to from there back one =
    mapped_laws to one (record { keeps = λ a h. (subst within (sym (back a)) h, ap spelling (back a)); from = λ b h. (from b, (h, there b)) })
