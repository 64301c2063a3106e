-- How a load of a network ends.
use Rattle.std.proofs.Common.{◌≡◌, inl, inr, ℕ, zero, suc, ◌<◌, ◌≤◌, Bool, true, false, List, [], ◌∷◌, ◌++◌, length, Some, refl, sym, subst, append-nil, length-append, arith}
use Rattle.std.specs.Prelude.{◌==◌, if◌then◌else◌, Result, Ok, Err, IsErr, OnErr}
use Rattle.net_model.specs.Environment.{Meaning}
use Rattle.network_core.specs.declared.refusal.Refusal.TheVariants as refusal
use Rattle.network_core.specs.declared.steps.Outcome.{Outcome}
use Rattle.network_core.specs.Worlds.{NetSeen}
use Rattle.node_shell.specs.declared.replies.Reply.{Reply}
use Rattle.node_shell.specs.Replies.{reply_text, IsRefused}
use Rattle.node_shell.specs.Loads.{Loads, Loaded, Pays, PaysShort, Breaks, LoadedShort, all_but, issues_by, deals_of, load_text, then_drain}
use Rattle.node_shell.specs.Responds.{given, net_states}

-- what an error leaves
pub on_err : {T E : Type 0} {P : Type 0} (result : Result T E) → P → OnErr result P
on_err (Ok x) h = tt
on_err (Err fault) h = h

-- there are no more numbers than were counted
pub few_but : (one n : ℕ) → length (all_but one n) ≤ n
few_but one zero = omega arith
few_but one (suc n) = by (few_but one n) (n == one)
  where
    by : length (all_but one n) ≤ n → (b : Bool) → length (all_but one n ++ (if b then [] else n ∷ [])) ≤ suc n
    by few true = omega (arith, few, length-append (all_but one n) [])
    by few false = omega (arith, few, length-append (all_but one n) (n ∷ []))

module _ {F : Type 0} (m : Meaning F) (seed count : ℕ) (old : NetSeen) where
  -- it is refused
  pub down_refused : (reply : Reply) → (net_states m).are_up old ≡ false → IsRefused refusal.NodeDown reply → Loads (net_states m) m.machine seed count old (Some reply) old
  down_refused reply down is = inl (inl (down, is), refl)

  module _ (nodes : List ℕ) (up : (net_states m).are_up old ≡ true) (own : nodes ≡ (net_states m).payers old) where
    pub few_refused : (reply : Reply) → length nodes < 2 → IsRefused refusal.BadArgs reply → Loads (net_states m) m.machine seed count old (Some reply) old
    few_refused reply few is = inl (inr (up, subst (λ (l : List ℕ). length l < 2) own few, is), refl)

    module _ (enough : 2 ≤ length nodes) where
      -- memory ran out
      short : {E : Type 0} (result : Result Reply E) (new : NetSeen) → IsErr result → LoadedShort (net_states m) (issues_by m.machine nodes) (deals_of m.machine nodes seed count) old new → Loads (net_states m) m.machine seed count old (given result) new
      short (Ok reply) new is h = cc
      short (Err fault) new is h =
          inr ((up, subst (λ (l : List ℕ). 2 ≤ length l) own enough), subst (λ (l : List ℕ). LoadedShort (net_states m) (issues_by m.machine l) (deals_of m.machine l seed count) old new) own h)

      pub issues_short : {E : Type 0} (result : Result Reply E) (new : NetSeen) → IsErr result → Breaks (net_states m) (then_drain (issues_by m.machine nodes)) old new → Loads (net_states m) m.machine seed count old (given result) new
      issues_short result new is h = short result new is (inl h)

      module _ (outcomes : List Outcome) (funded : NetSeen) (issued : (net_states m).follows (then_drain (issues_by m.machine nodes)) outcomes true old funded) where
        pub payments_short : {E : Type 0} (result : Result Reply E) (new : NetSeen) → IsErr result → PaysShort (net_states m) (deals_of m.machine nodes seed count) funded new → Loads (net_states m) m.machine seed count old (given result) new
        payments_short result new is h = short result new is (inr (record { outcomes = outcomes; funded = funded; issued = issued; short = h }))

        -- it ran out behind the last payment
        pub text_short : {E : Type 0} (result : Result Reply E) (new : NetSeen) (paid : ℕ) → IsErr result → Pays (net_states m) (deals_of m.machine nodes seed count) paid funded new → Loads (net_states m) m.machine seed count old (given result) new
        text_short result new paid is pays =
            payments_short result new is (record { made = deals_of m.machine nodes seed count; rest = []; all = sym (append-nil _); paid = paid; last = new; pays = pays; breaks = refl })

        -- it is told
        pub told_whole : (new : NetSeen) (paid : ℕ) (reply : Reply) → Pays (net_states m) (deals_of m.machine nodes seed count) paid funded new → reply_text reply ≡ load_text count paid ((net_states m).held new)
            → Loads (net_states m) m.machine seed count old (Some reply) new
        told_whole new paid reply pays is = inr (
          (up, subst (λ (l : List ℕ). 2 ≤ length l) own enough),
          (
            paid,
            subst (λ (l : List ℕ). Loaded (net_states m) (issues_by m.machine l) (deals_of m.machine l seed count) paid old new) own (record { outcomes = outcomes; funded = funded; issued = issued; pays = pays }),
            is,
          ),
        )
