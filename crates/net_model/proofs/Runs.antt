-- Runs that go on by one cause.
use Rattle.std.proofs.Common.{◌≡◌, ℕ, ◌-◌, List, [], ◌∷◌, ◌++◌, Bool, Bor, length, take, drop, refl, ap, sym, ◌∙◌}
use Rattle.std.proofs.lemmas.List.{length-drop, nil_from_length}
use Rattle.std.proofs.Math.Seq.{take-length}
use Rattle.net_base.specs.declared.causes.Cause.{Cause}
use Rattle.net_model.specs.Runs.{merge_two, stamp_of, is_before, at_node, merged_with, lent}

-- a list put together with an empty one
pub merge_none : {X : Type 0} (before : X → X → Bool) (xs : List X) → merge_two before xs [] ≡ xs
merge_none before [] = refl
merge_none before (x ∷ xs) = ap (λ l. x ∷ l) (merge_none before xs)

-- where no cause of the nodes behind is left those of the node follow
pub ends_with : (p n : ℕ) (causes : List Cause) (later : List (ℕ × Bor Cause)) (all new whole : List (ℕ × Cause)) → length later ≡ 0 → all ++ merged_with p (drop n causes) (lent later) ≡ whole
    → new ≡ all ++ at_node p (take (length causes - n) (drop n causes)) → new ≡ whole
ends_with p n causes later all new whole none h e =
    let k : all ++ merged_with p (drop n causes) [] ≡ whole = rw (nil_from_length later none) at h in
    let rest = ap (λ k. take k (drop n causes)) (sym (length-drop n causes)) ∙ take-length (drop n causes) in
    e ∙ (ap (λ (l : List Cause). all ++ at_node p l) rest ∙ (ap (λ (l : List (ℕ × Cause)). all ++ l) (sym (merge_none (is_before stamp_of) (at_node p (drop n causes)))) ∙ k))
