-- Keys that are one, values that lack, lists of none.
use Rattle.std.proofs.Common.{◌≡◌, Option, None, true, refl, sym, subst, is_none}

pub none_from : {X : Type 0} (o : Option X) → o ≡ None → is_none o ≡ true
none_from {X} o h = subst (λ (x : Option X). is_none x ≡ true) (sym h) refl
