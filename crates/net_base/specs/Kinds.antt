-- Values that begin with a byte of kind.
use Rattle.std.proofs.Common.{◌≡◌, ◌<◌, ◌≤◌, ℕ, suc, Bool, true, false, cond, List, [], ◌∷◌, length, Result, Ok, Err, refl, ap, subst, ◌∙◌, arith}
use Rattle.std.specs.Prelude.{nat_eq, nat_le, nat_lt, ◌||◌, ◌&&◌}
use Rattle.std.specs.List.{list_any}
use Rattle.std.proofs.lemmas.Bool.{eqb-true, le-leb, lt-ltb}
use Rattle.std.proofs.lemmas.Bool.Decides.{nat_tests}
use Rattle.net_base.specs.Forms.{◌>>=◌, byte_at}
use Rattle.net_base.specs.Laws.{Laws, LawsIf, weaker, done, err_is}
use Rattle.net_base.specs.Combining.{bind_laws, restated_laws}
use Rattle.net_base.specs.Fields.{guard_ok, guard_err, done_laws}

-- one of these kinds
unfoldable pub kind_at : List ℕ → List ℕ → Result (ℕ × List ℕ) ℕ
kind_at kinds bytes = byte_at bytes >>= λ x. cond (list_any (λ y. nat_eq y x.0) kinds) (Ok x) (Err (length bytes))

-- what is read behind each kind; the last stands for all others
abbrev pub arms_at : {V : Type 0} → List (ℕ × (List ℕ → Result (V × List ℕ) ℕ)) → ℕ → List ℕ → Result (V × List ℕ) ℕ
arms_at [] k bytes = Err 0
arms_at (a ∷ []) k bytes = a.1 bytes
arms_at (a ∷ b ∷ more) k bytes = cond (nat_eq a.0 k) (a.1 bytes) (arms_at (b ∷ more) k bytes)

-- the kinds of arms
abbrev pub kinds_of : {V : Type 0} → List (ℕ × (List ℕ → Result (V × List ℕ) ℕ)) → List ℕ
kinds_of [] = []
kinds_of (a ∷ arms) = a.0 ∷ kinds_of arms

-- reading a byte of kind, and what stands behind it
abbrev pub cases_at : {V : Type 0} → List (ℕ × (List ℕ → Result (V × List ℕ) ℕ)) → List ℕ → Result (V × List ℕ) ℕ
cases_at arms bytes = kind_at (kinds_of arms) bytes >>= λ k. arms_at arms k.0 k.1

-- Each arm reads the values of its kind.
abbrev pub ArmsLawsIf : Type 0 → {V : Type 0} → (V → Type 0) → (V → ℕ) → (V → List ℕ) → List (ℕ × (List ℕ → Result (V × List ℕ) ℕ)) → Type 0
ArmsLawsIf exact within kind body [] = Unit {0}
ArmsLawsIf exact {V} within kind body (a ∷ arms) = LawsIf exact (λ (v : V). within v × (kind v ≡ a.0)) body a.1 × ArmsLawsIf exact within kind body arms

-- the laws of a byte of kind
pub kind_laws : (first : ℕ) (kinds : List ℕ) → list_any (λ y. nat_eq y first) kinds ≡ true → Laws (λ (k : ℕ). list_any (λ y. nat_eq y k) kinds ≡ true) (λ (k : ℕ). k ∷ []) (kind_at kinds)
unfolding kind_at
kind_laws first kinds is_first = record {
  takes = elim [
    | [] ↦ λ x fits e. absurd cc
    | b ∷ rest ↦ λ x fits e.
        let g = guard_ok (list_any (λ y. nat_eq y b) kinds) (suc (length rest)) (b, rest) x e in
        subst (λ (p : ℕ × List ℕ). (b ∷ rest ≡ p.0 ∷ p.1) × (list_any (λ y. nat_eq y p.0) kinds ≡ true)) g.1 (refl, g.0)
  ];
  again = λ n rest h. rw h refl;
  faults = λ sure. elim [
    | [] ↦ λ n fits e. record { front = []; rest = []; parts = refl; left = err_is {A = ℕ × List ℕ} 0 n e; goes = (first, (is_first, (first ∷ [], refl))); stops = λ b after is v h more same. absurd cc }
    | c ∷ rest ↦ λ n fits e.
        let g = guard_err (list_any (λ y. nat_eq y c) kinds) (suc (length rest)) n (c, rest) e in
        record {
          front = [];
          rest = c ∷ rest;
          parts = refl;
          left = g.1;
          goes = (first, (is_first, (first ∷ [], refl)));
          stops = λ b after is v h more same.
              let one : v ≡ c = cc (is, same) in
              let wrong : list_any (λ y. nat_eq y c) kinds ≡ true = subst (λ (k : ℕ). list_any (λ y. nat_eq y k) kinds ≡ true) one h in
              absurd (cc (wrong, g.0));
        }
  ];
  some = first;
  some_within = is_first;
}

-- by a test
pub cond_laws : {V : Type 0} {within : V → Type 0} {spelling : V → List ℕ} {exact : Type 0} (b : Bool) (r s : List ℕ → Result (V × List ℕ) ℕ) → (b ≡ true → LawsIf exact within spelling r) → (b ≡ false → LawsIf exact within spelling s) → LawsIf exact within spelling (λ bytes. cond b (r bytes) (s bytes))
cond_laws true r s holds fails = holds refl
cond_laws false r s holds fails = fails refl

-- if not the one, then the other
or_else : (a b : Bool) → (a || b) ≡ true → a ≡ false → b ≡ true
or_else true b e fails = absurd cc
or_else false b e fails = e

-- the last of the tests
or_last : (a : Bool) → (a || false) ≡ true → a ≡ true
or_last true e = refl
or_last false e = absurd cc

-- the laws of what stands behind one kind
arm_laws : {V : Type 0} {within : V → Type 0} {kind : V → ℕ} {body : V → List ℕ} {exact : Type 0} (arms : List (ℕ × (List ℕ → Result (V × List ℕ) ℕ))) (k : ℕ)
    → ArmsLawsIf exact within kind body arms → list_any (λ y. nat_eq y k) (kinds_of arms) ≡ true → LawsIf exact (λ (v : V). within v × (kind v ≡ k)) body (arms_at arms k)
arm_laws [] k laws among = absurd cc
arm_laws {V} {within} {kind} {body} {exact} (a ∷ []) k laws among =
    let same : a.0 ≡ k = eqb-true a.0 k (or_last (nat_eq a.0 k) among) in
    subst (λ (n : ℕ). LawsIf exact (λ (v : V). within v × (kind v ≡ n)) body a.1) same laws.0
arm_laws {V} {within} {kind} {body} {exact} (a ∷ b ∷ more) k laws among =
    cond_laws (nat_eq a.0 k) a.1 (arms_at (b ∷ more) k)
    (λ holds. subst (λ (n : ℕ). LawsIf exact (λ (v : V). within v × (kind v ≡ n)) body a.1) (eqb-true a.0 k holds) laws.0)
    (λ fails. arm_laws (b ∷ more) k laws.1 (or_else (nat_eq a.0 k) (list_any (λ y. nat_eq y k) (kinds_of (b ∷ more))) among fails))

-- the laws of values that begin with a byte of kind
pub cases_laws : {V : Type 0} {within : V → Type 0} {kind : V → ℕ} {body : V → List ℕ} {spelling : V → List ℕ} {exact : Type 0} (arms : List (ℕ × (List ℕ → Result (V × List ℕ) ℕ))) (first : ℕ)
    → list_any (λ y. nat_eq y first) (kinds_of arms) ≡ true
    → ((v : V) → within v → (list_any (λ y. nat_eq y (kind v)) (kinds_of arms) ≡ true) × (spelling v ≡ kind v ∷ body v))
    → ArmsLawsIf exact within kind body arms → LawsIf exact within spelling (cases_at arms)
cases_laws {V} {within} {kind} {body} {spelling} {exact} arms first is_first covered laws =
    bind_laws {second = λ k (v : V). within v × (kind v ≡ k)} {second_spelling = λ k (v : V). body v} {second_reading = arms_at arms} (weaker exact (kind_laws first (kinds_of arms) is_first))
    (λ k h. arm_laws arms k laws h)
    (record {
      join = λ k v hk hv. (hv.0, (covered v hv.0).1 ∙ ap (λ (n : ℕ). n ∷ body v) hv.1);
      split = λ v h. (kind v, ((covered v h).0, (h, refl)));
    })

-- an arm with nothing behind the kind
pub bare_laws : {V : Type 0} {within : V → Type 0} {spelling : V → List ℕ} (v : V) → within v → spelling v ≡ [] → ((w : V) → within w → w ≡ v) → Laws within spelling (λ bytes. done (v, bytes))
bare_laws {V} {within} {spelling} v h e only = restated_laws (λ w is. rw is (h, e)) only (done_laws {V = V} v)

-- ---- a byte from low up to below high

-- reading a byte from low up to below high
unfoldable pub between_at : ℕ → ℕ → List ℕ → Result (ℕ × List ℕ) ℕ
between_at low high bytes = byte_at bytes >>= λ x. cond (nat_le low x.0 && nat_lt x.0 high) (Ok x) (Err (length bytes))

-- from low up to below high
abbrev pub IsBetween : ℕ → ℕ → ℕ → Type 0
IsBetween low high n = (low ≤ n) × (n < high)

-- what is between passes the test
between_test : (low high n : ℕ) → IsBetween low high n → (nat_le low n && nat_lt n high) ≡ true
between_test low high n h = rw (le-leb low n h.0, lt-ltb n high h.1) refl

-- what passes the test is between
test_between : (low high n : ℕ) → (nat_le low n && nat_lt n high) ≡ true → IsBetween low high n
test_between low high n e = grind (arith, nat_tests)

-- the laws of a byte from low up to below high
pub between_laws : (low high : ℕ) → low < high → Laws (λ (n : ℕ). IsBetween low high n) (λ (n : ℕ). n ∷ []) (between_at low high)
unfolding between_at
between_laws low high lt = record {
  takes = elim [
    | [] ↦ λ x fits e. absurd cc
    | b ∷ rest ↦ λ x fits e.
        let g = guard_ok (nat_le low b && nat_lt b high) (suc (length rest)) (b, rest) x e in
        subst (λ (p : ℕ × List ℕ). (b ∷ rest ≡ p.0 ∷ p.1) × IsBetween low high p.0) g.1 (refl, test_between low high b g.0)
  ];
  again = λ n rest h. rw (between_test low high n h) refl;
  faults = λ sure. elim [
    | [] ↦ λ n fits e. record { front = []; rest = []; parts = refl; left = err_is {A = ℕ × List ℕ} 0 n e; goes = (low, ((omega arith, lt), (low ∷ [], refl))); stops = λ b after is v h more same. absurd cc }
    | c ∷ rest ↦ λ n fits e.
        let g = guard_err (nat_le low c && nat_lt c high) (suc (length rest)) n (c, rest) e in
        record {
          front = [];
          rest = c ∷ rest;
          parts = refl;
          left = g.1;
          goes = (low, ((omega arith, lt), (low ∷ [], refl)));
          stops = λ b after is v h more same.
              let one : v ≡ c = cc (is, same) in
              let wrong = between_test low high c (subst (λ (k : ℕ). IsBetween low high k) one h) in
              absurd (cc (wrong, g.0));
        }
  ];
  some = low;
  some_within = (omega arith, lt);
}
