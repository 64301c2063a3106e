-- How the tables are rebuilt from the bodies of a journal.
use Rattle.std.proofs.Common.{◌≡◌, ℕ, suc, ◌+◌, ◌<◌, ◌≤◌, List, [], ◌∷◌, ◌++◌, length, map, Option, Some, None, true, false, cond, refl, sym, ◌∙◌, ap, subst, arith, append_assoc, length-append}
use Rattle.std.proofs.lemmas.List.{length-map}
use Rattle.net_base.specs.declared.values.Party.{Party}
use Rattle.net_model.specs.State.{NodeState, Record, replay}
use Rattle.flow_records.specs.Records.{record_of}
use Rattle.node_tables.specs.Journals.{Reads, state_of}
use Rattle.node_tables.specs.Fits.{fits_read, apply_read, misfit_from, misfit}
use Rattle.node_tables.specs.Seen.{no_acks}
use Rattle.node_tables.proofs.Runs.{state_push}

abbrev pub bodies_in : List (ℕ × List ℕ) → List (List ℕ)
bodies_in list = map (λ x. x.1) list

-- what is no record doesn't fit
pub unread : {F : Type 0} (notary : Party) (nodes : ℕ) (me : Party) (s : NodeState F) (o : Option (Record F)) → o ≡ None → fits_read notary nodes me s o ≡ false
unread {F} notary nodes me s o h = subst (λ (x : Option (Record F)). fits_read notary nodes me s x ≡ false) (sym h) refl

-- the place of the first misfit of all is that of the bodies left
pub record Rebuilding {F : Type 0} (f : Reads F) (notary : Party) (nodes : ℕ) (me : Party) (all : List (ℕ × List ℕ)) (built : List (List ℕ)) (left : List (ℕ × List ℕ)) : Type 0 where
  pub all_of : built ++ bodies_in left ≡ bodies_in all
  pub place : misfit f notary nodes me all ≡ misfit_from f notary nodes me (state_of f built) left

pub rebuilding_none : {F : Type 0} (f : Reads F) (notary : Party) (nodes : ℕ) (me : Party) (all : List (ℕ × List ℕ)) (built : List (List ℕ)) → built ≡ [] → Rebuilding f notary nodes me all built all
unfolding misfit state_of replay
rebuilding_none f notary nodes me all built none = rw none (record { all_of = refl; place = refl })

module _ {F : Type 0} (f : Reads F) (notary : Party) (nodes : ℕ) (me : Party) (all : List (ℕ × List ℕ)) (built : List (List ℕ)) (left : List (ℕ × List ℕ)) (so_far : Rebuilding f notary nodes me all built left) where
  pub rebuilding_more : (more : List (List ℕ)) (rest : List (ℕ × List ℕ)) (x : ℕ × List ℕ) → left ≡ x ∷ rest → more ≡ built ++ x.1 ∷ [] → fits_read notary nodes me (state_of f built) (record_of f x.1) ≡ true → Rebuilding f notary nodes me all more rest
  rebuilding_more more rest x next same ok =
      let here : misfit_from f notary nodes me (state_of f built) left ≡ misfit_from f notary nodes me (apply_read (state_of f built) (record_of f x.1)) rest =
      ap (misfit_from f notary nodes me (state_of f built)) next ∙ ap (λ b. cond b (misfit_from f notary nodes me (apply_read (state_of f built) (record_of f x.1)) rest) (Some x.0)) ok in
      let there : Rebuilding f notary nodes me all (built ++ x.1 ∷ []) rest = record {
        all_of = append_assoc built (x.1 ∷ []) (bodies_in rest) ∙ ap (λ l. built ++ bodies_in l) (sym next) ∙ so_far.all_of;
        place = so_far.place ∙ here ∙ ap (λ s. misfit_from f notary nodes me s rest) (sym (state_push f built x.1));
      } in
      subst (λ b. Rebuilding f notary nodes me all b rest) (sym same) there

  -- fewer bodies were built than there are, while some are left
  pub fewer : (rest : List (ℕ × List ℕ)) (x : ℕ × List ℕ) → left ≡ x ∷ rest → length all ≤ 65536 → length built < 65536
  fewer rest x next few =
      let sizes : length built + length (bodies_in left) ≡ length (bodies_in all) = sym (length-append built (bodies_in left)) ∙ ap length so_far.all_of in
      let left_size : length left ≡ suc (length rest) = ap length next in
      omega (arith, sizes, length-map left (λ (y : ℕ × List ℕ). y.1), length-map all (λ (y : ℕ × List ℕ). y.1), left_size, few)

-- where nothing has happened nothing is acknowledged
pub none_at_first : {F : Type 0} (f : Reads F) (built : List (List ℕ)) (acked : List ℕ) → built ≡ [] → acked ≡ [] → acked ≡ no_acks (state_of f built).sessions
unfolding state_of replay
none_at_first f built acked none nothing = rw none nothing
