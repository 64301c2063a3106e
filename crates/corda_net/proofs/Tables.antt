-- What is read of an object is what its own type says.
use mathlib.Core.Path.{◌≡◌, ◌∙◌}
use denote.Param.Table.{Table, Entry}
use denote.Param.Object.{Made, read_made}

pub reads {ℓ} : {G : Type 0 → Type 1} {C : Type 0} (T : Table G C) {e : Entry G C} {at i : T.I} {y : (T.entry i).0.Denot} {x : e.0.Denot} {Z : Type ℓ}
    → Made (λ j. (T.entry j).0.coded.code) e.0.coded.code at i y x → e ≡ T.entry at → (read : (j : Entry G C) → j.0.Denot → Z) → {z : Z} → read e x ≡ z → read (T.entry i) y ≡ z
reads T {e = e} {at = at} {i = i} {y = y} {x = x} {Z = Z} made same read is = read_made T e at same Z read i y x made ∙ is
