-- A journal of a node's own steps fits: none of its records is one that a boot refuses.
use Rattle.std.proofs.Common.{◌≡◌, ℕ, suc, ◌+◌, ◌≤◌, List, [], ◌∷◌, ◌++◌, length, Option, Some, None, true, cond, option_to_list, refl, subst, arith}
use Rattle.session_wire.specs.Sessions.{Sent}
use Rattle.disk_journal.specs.Journal.{placed}
use Rattle.net_model.specs.Environment.{Environment, party}
use Rattle.net_model.specs.Fits.{IsSound}
use Rattle.net_model.specs.Runs.{IsLocal, IsLocalFrom, stamped}
use Rattle.net_model.specs.State.{NodeState, Record, apply_effect, fresh}
use Rattle.net_model.specs.Steps.{node_step}
use Rattle.net_model.proofs.Effects.{step_is_its_effect}
use Rattle.net_model.proofs.Fitting.{steps_fit}
use Rattle.net_model.proofs.Sound.{fits_keep_sound, fresh_is_sound}
use Rattle.flow_records.specs.Records.{record_of}
use Rattle.node_tables.specs.Fits.{fits, fits_read, apply_read, misfit_from, misfit}
use Rattle.node_tables.specs.Journals.{Reads, records_of}
use Rattle.node_tables.proofs.Ruled.{fits_as_ruled}

-- ---- a journal of a node's own steps

-- no body is more than one record's
one_more : {X : Type 0} (o : Option X) (xs : List X) (n : ℕ) → length xs ≤ n → length (option_to_list o ++ xs) ≤ suc n
one_more None xs n few = omega (arith, few)
one_more (Some x) xs n few = omega (arith, few)

few_records : {F : Type 0} (f : Reads F) (bodies : List (List ℕ)) → length (records_of f bodies) ≤ length bodies
few_records f [] = omega arith
few_records f (b ∷ bs) = one_more (record_of f b) (records_of f bs) (length bs) (few_records f bs)

module _ {F : Type 0} (w : Environment F) (me : ℕ) where
  fits_here : (s next : NodeState F) (r : Record F) (item : Option Sent) → IsSound me s → node_step w me s r.cause item ≡ Some (next, r.effect) → fits w.notary w.nodes (party me) s r ≡ true
  fits_here s next r item sound step = (fits_as_ruled w me s r).1 (steps_fit w me s next r.cause item r.effect sound step)

  -- where the first body is this record, if it is one
  abbrev Fit : NodeState F → ℕ → List (List ℕ) → Type 0
  Fit s at bodies = IsSound me s → IsLocalFrom w me s (records_of w.frame_at bodies) → length (records_of w.frame_at bodies) ≡ length bodies → misfit_from w.frame_at w.notary w.nodes (party me) s (placed at bodies) ≡ None

  next_fits : (s : NodeState F) (at next : ℕ) (bs : List (List ℕ)) (o : Option (Record F)) → ((t : NodeState F) → Fit t next bs) → IsSound me s → IsLocalFrom w me s (option_to_list o ++ records_of w.frame_at bs) → length (option_to_list o ++ records_of w.frame_at bs) ≡ suc (length bs)
      → cond (fits_read w.notary w.nodes (party me) s o) (misfit_from w.frame_at w.notary w.nodes (party me) (apply_read s o) (placed next bs)) (Some at) ≡ None
  next_fits s at next bs None rest sound local whole = absurd (omega (arith, whole, few_records w.frame_at bs))
  next_fits s at next bs (Some r) rest sound (n, state, step, more) whole =
      let item = stamped n r.effect.change.came in
      let same : state ≡ apply_effect s r.cause r.effect = step_is_its_effect w me s state r.cause item r.effect step in
      let later : IsSound me (apply_effect s r.cause r.effect) = fits_keep_sound w me s r.cause r.effect sound (steps_fit w me s state r.cause item r.effect sound step) in
      rw (fits_here s state r item sound step)
      (rest (apply_effect s r.cause r.effect) later (subst (λ (z : NodeState F). IsLocalFrom w me z (records_of w.frame_at bs)) same more) (omega (arith, whole)))

  all_fit : (s : NodeState F) (at : ℕ) (bodies : List (List ℕ)) → Fit s at bodies
  all_fit s at [] sound local whole = refl
  all_fit s at (b ∷ bs) sound local whole = next_fits s at (at + (5 + length b)) bs (record_of w.frame_at b) (λ t. all_fit t (at + (5 + length b)) bs) sound local whole

  pub local_fits : (at : ℕ) (bodies : List (List ℕ)) → IsLocal w me (records_of w.frame_at bodies) → length (records_of w.frame_at bodies) ≡ length bodies → misfit w.frame_at w.notary w.nodes (party me) (placed at bodies) ≡ None
  unfolding misfit
  local_fits at bodies local whole = all_fit fresh at bodies (fresh_is_sound me) local whole
