-- Decoding all of the bytes.
use Rattle.std.proofs.Common.{◌≡◌, ℕ, ◌+◌, ◌-◌, ◌≤◌, ◌<◌, List, [], ◌∷◌, ◌++◌, length, Result, Ok, Err, refl, sym, ap, ◌∙◌, arith}
use Rattle.std.proofs.lemmas.List.{append-nil, length-append, nil_from_length}
use Rattle.net_base.specs.Reading.{IsBytes}
use Rattle.net_base.specs.Parts.{IsFirstFault}
use Rattle.net_base.specs.Laws.{IsFault, Laws, LawsIf, cancels, ok_not_err}

pub fault_left : {V : Type 0} {within : V → Type 0} {spelling : V → List ℕ} {bytes : List ℕ} {n : ℕ} → IsFault within spelling bytes n → n ≤ length bytes
fault_left f = omega (arith, f.left, ap length f.parts, length-append f.front f.rest)

pub first_fault : {V : Type 0} {within : V → Type 0} {spelling : V → List ℕ} {reading : List ℕ → Result (V × List ℕ) ℕ} → Laws within spelling reading → (bytes : List ℕ) (n at : ℕ) → IsBytes bytes → reading bytes ≡ Err n → at ≡ length bytes - n → IsFirstFault within spelling bytes at
first_fault {V} {within} {spelling} {reading} laws bytes n at fits e is =
    let f = laws.faults tt bytes n fits e in
    let few = fault_left f in
    record {
      left = n;
      place = omega (arith, few, is);
      fault = f;
      none = λ v h same. ok_not_err (reading bytes) (v, []) n (ap reading (same ∙ sym (append-nil (spelling v))) ∙ laws.again v [] h) e;
    }

-- bytes stand behind a whole spelling
pub extra_fault : {V : Type 0} {within : V → Type 0} {spelling : V → List ℕ} {reading : List ℕ → Result (V × List ℕ) ℕ} → Laws within spelling reading → (bytes rest : List ℕ) (v : V) (at : ℕ) → IsBytes bytes → reading bytes ≡ Ok (v, rest) → 0 < length rest → at + length rest ≡ length bytes → IsFirstFault within spelling bytes at
extra_fault {V} {within} {spelling} {reading} laws bytes rest v at fits e some is =
    let t = laws.takes bytes (v, rest) fits e in
    record {
      left = length rest;
      place = is;
      fault = record {
        front = spelling v;
        rest = rest;
        parts = t.0;
        left = refl;
        goes = (v, (t.1, ([], sym (append-nil (spelling v)))));
        stops = λ b after there w hw more same.
            let c = cancels laws w v [] (b ∷ more) hw t.1 (append-nil (spelling w) ∙ same) in
            absurd cc;
      };
      none = λ w hw same.
          let c = cancels laws w v [] rest hw t.1 (append-nil (spelling w) ∙ sym same ∙ t.0) in
          absurd (omega (arith, ap length c.1, some));
    }

pub is_whole : {V : Type 0} {within : V → Type 0} {spelling : V → List ℕ} {reading : List ℕ → Result (V × List ℕ) ℕ} {exact : Type 0} → LawsIf exact within spelling reading → (bytes rest : List ℕ) (v : V) → IsBytes bytes → reading bytes ≡ Ok (v, rest) → length rest ≤ 0 → within v × (bytes ≡ spelling v)
is_whole {V} {within} {spelling} {reading} laws bytes rest v fits e none =
    let t = laws.takes bytes (v, rest) fits e in
    (t.1, t.0 ∙ ap (λ (l : List ℕ). spelling v ++ l) (nil_from_length rest (omega arith)) ∙ append-nil (spelling v))

-- what can't be read is no value's spelling
pub unread_none : {V : Type 0} {within : V → Type 0} {spelling : V → List ℕ} {reading : List ℕ → Result (V × List ℕ) ℕ} {exact : Type 0} → LawsIf exact within spelling reading → (bytes : List ℕ) (n : ℕ) → reading bytes ≡ Err n → (v : V) → within v → bytes ≡ spelling v → ⊥
unread_none {V} {within} {spelling} {reading} laws bytes n e v h same =
    ok_not_err (reading bytes) (v, []) n (ap reading (same ∙ sym (append-nil (spelling v))) ∙ laws.again v [] h) e

-- what has more behind it is no value's spelling
pub longer_none : {V : Type 0} {within : V → Type 0} {spelling : V → List ℕ} {reading : List ℕ → Result (V × List ℕ) ℕ} {exact : Type 0} → LawsIf exact within spelling reading → (bytes rest : List ℕ) (v : V) → IsBytes bytes → reading bytes ≡ Ok (v, rest) → 0 < length rest → (w : V) → within w → bytes ≡ spelling w → ⊥
longer_none {V} {within} {spelling} {reading} laws bytes rest v fits e some w hw same =
    let t = laws.takes bytes (v, rest) fits e in
    let c = cancels laws w v [] rest hw t.1 (append-nil (spelling w) ∙ sym same ∙ t.0) in
    absurd (omega (arith, ap length c.1, some))
