-- The machines of the set.
use Rattle.std.specs.Prelude.{◌≡◌, ℕ, List, [], ◌∷◌, true}
use Rattle.std.proofs.Common.{sym, subst}
use Rattle.flow_forms.specs.Bytes.{distinct}

-- their numbers: those that calls may call, those that answer an Init, and those of cash, of talks, and of agreements
abbrev pub machines : List ℕ
machines = 1 ∷ 31 ∷ 32 ∷ 30 ∷ 11 ∷ 20 ∷ 21 ∷ 22 ∷ 3 ∷ 4 ∷ 5 ∷ 8 ∷ 2 ∷ 10 ∷ 6 ∷ 7 ∷ 9 ∷ []

-- numbers that are these differ as these do
pub unlike_as : (known kinds : List ℕ) → kinds ≡ known → distinct known ≡ true → distinct kinds ≡ true
unlike_as known kinds same unlike = subst (λ l. distinct l ≡ true) (sym same) unlike
