-- Options, results, and one of two values.
use Rattle.std.proofs.Common.{◌≡◌, Result, Ok, Err, IfOk, OnOk, Bool, true, false, cond, Option, Some, None, is_none, refl, subst}

-- equal values
pub some_eq : {A : Type 0} {a b : A} → Some a ≡ Some b → a ≡ b
some_eq h = cc

-- there is none
pub none_of : {X : Type 0} (o : Option X) → is_none o ≡ true → o ≡ None
none_of None h = refl
none_of (Some x) h = cc

-- what is said of a result, whatever it is
pub of_ok : {X E : Type 0} (P : Type 0) (r : Result X E) (x : X) → r ≡ Ok x → IfOk r (λ y. P) → P
of_ok P (Ok y) x is h = h
of_ok P (Err e) x is h = cc

-- the same of what follows from it
pub on_ok : {T E : Type 0} {P : Type 0} (r : Result T E) (v : T) → r ≡ Ok v → OnOk r P → P
on_ok {T} {E} {P} r v is h = let Q : Result T E → Type 0 = λ s. OnOk s P in subst Q is h

-- what holds of both holds of either
pub cond_all : {A : Type 0} (P : A → Type 0) (t : Bool) (x y : A) → P x → P y → P (cond t x y)
cond_all P true x y p q = p
cond_all P false x y p q = q
