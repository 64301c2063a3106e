-- A run in which nothing was read, since a disk was not made ready or there was no memory.
use Rattle.std.proofs.Common.{◌≡◌, ◌⊎◌, inl, inr, ⊎_elim, ℕ, List, length, map, Option, sym, ap, subst, arith}
use Rattle.std.specs.Prelude.{◌<◌}
use Rattle.outside.specs.Disk.{DiskSeen}
use Rattle.net_model.specs.Environment.{Meaning, party}
use Rattle.node_core.specs.Disks.{attached_as}
use Rattle.shell_words.specs.declared.program.NetworkWords.{NetworkWords}
use Rattle.node_shell.specs.declared.statuses.Status.{Status}
use Rattle.node_shell.specs.Runs.{Ran, IsStory, Went, ToldWhy, OpensOwn, KeepsSeconds, KeepsOthers, IsPlayed, EndsWell, AllStay, SecondsStay, IsOpeningStatus, IsPlayedNumber, number_of_status, of_nodes, views}
use Rattle.node_shell.proofs.Readying.{stay_same, seconds_same, first_stay}
use Rattle.node_shell.proofs.Opening.{unready, runs_as, went_unready, opening_number}

-- a run that read and wrote nothing
abbrev pub still : {B : Type 0} → List (List ℕ) → List B → List B → Option (List ℕ) → Option (List ℕ) → ℕ → ℕ → ℕ → ℕ → Ran B
still words ds es left written a b count number = record {
  words = words;
  disks = record { old = ds; new = es };
  left = record { old = left; new = left };
  written = record { old = written; new = written };
  source_faults = record { old = a; new = a };
  sink_faults = record { old = b; new = b };
  count = count;
  status = number;
}

-- a number that is 6 or 7 is no other
no_other : (k number : ℕ) → (k < 6) ⊎ (7 < k) → (number ≡ 6) ⊎ (number ≡ 7) → number ≡ k → ⊥
no_other k number other is same = ⊎_elim (λ o. ⊎_elim (λ h. omega (arith, o, h, same)) (λ h. omega (arith, o, h, same)) is) (λ o. ⊎_elim (λ h. omega (arith, o, h, same)) (λ h. omega (arith, o, h, same)) is) other

pub not_played : (number : ℕ) → (number ≡ 6) ⊎ (number ≡ 7) → IsPlayedNumber number → ⊥
not_played number is played =
    ⊎_elim (λ h. no_other 0 number (inl (omega arith)) is h) (λ r. ⊎_elim (λ h. no_other 3 number (inl (omega arith)) is h) (λ h. no_other 4 number (inl (omega arith)) is h) r) played

module _ {F B : Type 0} (m : Meaning F) (seen : B → DiskSeen) (words : List (List ℕ)) (ds es : List B) (left written : Option (List ℕ)) (a b count number : ℕ) (n : NetworkWords) (s : Status)
    (is : IsOpeningStatus s) (equal : number ≡ number_of_status s) (none : count ≡ 0) where
  abbrev r : Ran B
  r = still words ds es left written a b count number

  abbrev which : (number ≡ 6) ⊎ (number ≡ 7)
  which = opening_number s number is equal

  pub still_ends : length es ≡ 16 → KeepsOthers r.disks n → EndsWell r n
  still_ends all others = record {
    words = λ h. no_other 2 number (inl (omega arith)) which h;
    too_long = (λ h. absurd (no_other 3 number (inl (omega arith)) which h), λ h. absurd (omega (arith, none, h)));
    few = omega (arith, none);
    disks = all;
    others = others;
    read_fault = λ h. absurd (no_other 4 number (inl (omega arith)) which h);
    write_fault = λ h. absurd (no_other 5 number (inl (omega arith)) which h);
    later = (omega arith, omega arith);
  }

  module _ (stay : AllStay (map seen ds) (map seen es)) where
    pub still_story : IsStory m r (of_nodes n.nodes (views seen r.disks)) n
    still_story = λ w shows coherent.
        runs_as m n.nodes (party n.notary) w _ _ _ _ _ _ _ _ _ s equal none
        (unready m n.nodes (party n.notary) _ _ w _ _ s is (first_stay n.nodes (map seen ds) (map seen es) stay) shows coherent)

    pub still_went : Went m r (of_nodes n.nodes (views seen r.disks)) n
    still_went = went_unready m n.nodes (party n.notary) _ _ _ _ _ _ s is (first_stay n.nodes (map seen ds) (map seen es) stay) equal none

    pub still_told : (number ≡ 8) → ToldWhy m r (of_nodes n.nodes (views seen r.disks)) n
    still_told h = absurd (no_other 8 number (inr (omega arith)) which h)

    pub still_own : IsPlayedNumber number → OpensOwn m (of_nodes n.nodes (views seen r.disks)) n
    still_own h = absurd (not_played number which h)

  pub still_seconds : SecondsStay (map seen ds) (map seen es) → KeepsSeconds (views seen r.disks) n
  still_seconds stay = λ p d e within at there. stay p d e at there

  -- and left each disk as it was
  pub still_played : es ≡ ds → IsPlayed m seen r n
  still_played same =
      let stay : AllStay (map seen ds) (map seen es) = subst (λ l. AllStay (map seen ds) (map seen l)) (sym same) (stay_same (map seen ds)) in
      record {
        story = still_story stay;
        went = still_went stay;
        bad_journal = still_told stay;
        own = still_own stay;
        seconds = still_seconds (subst (λ l. SecondsStay (map seen ds) (map seen l)) (sym same) (seconds_same (map seen ds)));
        attached = ap (λ l. attached_as (map seen l)) same;
      }
