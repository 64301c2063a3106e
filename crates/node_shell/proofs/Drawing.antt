-- Payments that were drawn, one after another.
use Rattle.std.proofs.Common.{◌≡◌, ◌⊎◌, inl, inr, ℕ, zero, suc, ◌+◌, ◌<◌, Bool, List, [], ◌∷◌, ◌++◌, map, refl, sym, ◌∙◌, ap, subst, arith, append_assoc}
use Rattle.std.specs.Prelude.{if◌then◌else◌}
use Rattle.std.proofs.lemmas.List.{map-append}
use Rattle.flow_machine.specs.Machine.{Machine}
use Rattle.load_maker.specs.Load.{Load, payments, payment_drawn, after_payments}
use Rattle.node_shell.specs.Loads.{CourseStates, Deal, Pays, none, more, Breaks, PaysShort, IsMade, deal_of, then_drain}

-- a number below the next one is that one, or below it
nearer : (k n : ℕ) → k < suc n → (k ≡ n) ⊎ (k < n)
nearer zero zero within = inl refl
nearer zero (suc n) within = inr (omega arith)
nearer (suc k) zero within = absurd (omega (arith, within))
nearer (suc k) (suc n) within = up (nearer k n (omega (arith, within)))
  where
    up : (k ≡ n) ⊎ (k < n) → (suc k ≡ suc n) ⊎ (suc k < suc n)
    up (inl is) = inl (ap suc is)
    up (inr before) = inr (omega (arith, before))

-- a load stays between as many parties
pub parties_kept : (k : ℕ) (l : Load) → (after_payments k l).parties ≡ l.parties
parties_kept zero l = refl
parties_kept (suc k) l = parties_kept k l

module _ {F : Type 0} (m : Machine F) (nodes : List ℕ) (l : Load) where
  -- the first n, and the one behind them
  abbrev pub first : ℕ → List Deal
  first k = map (deal_of m nodes) (payments k l)

  abbrev pub next : ℕ → Deal
  next k = deal_of m nodes (payment_drawn (after_payments k l))

  first_more : (k : ℕ) → first (suc k) ≡ first k ++ next k ∷ []
  first_more k = map-append (deal_of m nodes) (payments k l) (payment_drawn (after_payments k l) ∷ [])

  first_split : (n k : ℕ) → k < n → (rest : List Deal) × (first n ≡ first k ++ next k ∷ rest)
  first_split zero k within = absurd (omega (arith, within))
  first_split (suc n) k within = by (first_split n k) (nearer k n within)
    where
      by : (k < n → (rest : List Deal) × (first n ≡ first k ++ next k ∷ rest)) → (k ≡ n) ⊎ (k < n) → (rest : List Deal) × (first (suc n) ≡ first k ++ next k ∷ rest)
      by earlier (inl is) = ([], subst (λ j. first (suc n) ≡ first j ++ next j ∷ []) (sym is) (first_more n))
      by earlier (inr before) =
          let h = earlier before in
          (h.0 ++ next n ∷ [], first_more n ∙ ap (λ ds. ds ++ next n ∷ []) h.1 ∙ append_assoc (first k) (next k ∷ h.0) (next n ∷ []))

  module _ {W : Type 0} (s : CourseStates W) where
    -- nothing is paid yet
    pub pays_none : (w : W) → Pays s (first 0) 0 w w
    pays_none w = none refl refl refl

    -- one payment more
    pub pays_next : (k paid sum : ℕ) (w u v : W) (b : Bool) → Pays s (first k) paid w u → IsMade s (next k) u v b → sum ≡ paid + (if b then 1 else 0) → Pays s (first (suc k)) sum w v
    pays_next k paid sum w u v b before (outcomes, follows, same) is = more (next k) outcomes before follows (first_more k) (is ∙ ap (λ (p : Bool). paid + (if p then 1 else 0)) same)

    -- memory ran out in the next payment
    pub pays_short : (n k paid : ℕ) (w u v : W) → k < n → Pays s (first k) paid w u → Breaks s (then_drain (next k).starts) u v → PaysShort s (first n) w v
    pays_short n k paid w u v within before breaks =
        let h = first_split n k within in
        record { made = first k; rest = next k ∷ h.0; all = h.1; paid = paid; last = u; pays = before; breaks = breaks }
