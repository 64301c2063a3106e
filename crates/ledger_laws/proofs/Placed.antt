-- What holds of all journals of a run holds of every coherent world, and at every moment of a way.
use Rattle.std.proofs.Common.{◌≡◌, ℕ, List, length, map, Option, Some, None, slice_get, refl, sym, subst, ◌∙◌}
use Rattle.std.specs.List.{AllByRecursion}
use Rattle.std.proofs.lemmas.List.{length-map}
use Rattle.net_base.specs.declared.names.Identity.{Identity}
use Rattle.net_base.specs.Names.{IsIdentity}
use Rattle.net_base.proofs.Lists.{map_twice, of_map}
use Rattle.disk_journal.specs.Journal.{journal_of}
use Rattle.flow_machine.specs.Tags.{KeepsTags, BeginsBare}
use Rattle.net_model.specs.Environment.{Environment, environment, Meaning}
use Rattle.net_model.specs.State.{NodeState, Record, replay}
use Rattle.net_model.specs.Runs.{IsFaithful}
use Rattle.net_model.specs.Stores.{NamesNotary}
use Rattle.net_model.specs.Tags.{entries_at, book_of}
use Rattle.net_model.proofs.Faithful.{faithful_exactly}
use Rattle.node_tables.specs.Journals.{records_of, state_of}
use Rattle.network_core.specs.Worlds.{World, Coherent, Choice, states_of}
use Rattle.network_core.proofs.Faithful.{coherent_is_faithful}
use Rattle.network_core.proofs.KeepingWays.{kept_on_ways}
use Rattle.ledger_laws.specs.Ledgers.{HasOneConsumerEach, IsSignedInBook, HasWholeChains, HasNoneSpentTwice}
use Rattle.ledger_laws.specs.Windows.{AreSignedInWindows, KeepsWindows}
use Rattle.ledger_laws.specs.Places.{Fact, Made, InWorlds, OnWays}
use Rattle.ledger_laws.proofs.Runs.{is_book, one_each, signed_in_book, all_proven, whole_chains}
use Rattle.ledger_laws.proofs.Reading.{IsSizedEntry}
use Rattle.ledger_laws.proofs.Limits.{IsWithin, state_within}
use Rattle.ledger_laws.proofs.Spending.{none_twice}
use Rattle.ledger_laws.proofs.Windows.{in_windows}

-- a fact of all journals of a run
abbrev pub OfRuns : {F : Type 0} → Meaning F → Fact F → Type 0
OfRuns m fact = (id : Identity) (lists : List (List (List ℕ))) → IsIdentity id → length lists ≡ id.nodes → IsFaithful (environment m id) (map (records_of m.frame_at) lists) → fact (environment m id) lists

pub in_worlds : {F : Type 0} (m : Meaning F) (fact : Fact F) → OfRuns m fact → InWorlds m fact
in_worlds m fact by id w lists is coherent choice = by id lists is (choice.count ∙ coherent.count) (coherent_is_faithful (environment m id) w lists coherent choice).0

pub on_ways : {F : Type 0} (m : Meaning F) (fact : Fact F) → OfRuns m fact → OnWays m fact
on_ways m fact by id a b way s images is on choice =
    let kept = kept_on_ways m id a b way s on in
    by id (map journal_of images) is (length-map images journal_of ∙ choice.count ∙ kept.count ∙ sym a.shows.count ∙ a.coherent.count) (kept.faithful images choice)

-- what journals make is what their records make
replayed : {F : Type 0} (e : Environment F) (lists : List (List (List ℕ))) → map replay (map (records_of e.frame_at) lists) ≡ states_of e lists
unfolding state_of
replayed e lists = map_twice replay (records_of e.frame_at) (state_of e.frame_at) lists (λ l. refl)

-- of every coherent world, whatever its network
pub one_each_world : {F : Type 0} (e : Environment F) (w : World) (lists : List (List (List ℕ))) → Coherent e w → Choice w lists → HasOneConsumerEach e (states_of e lists)
one_each_world e w lists coherent choice =
    subst (HasOneConsumerEach e) (replayed e lists)
    (one_each e (map (records_of e.frame_at) lists) (length-map lists (records_of e.frame_at) ∙ choice.count ∙ coherent.count) (coherent_is_faithful e w lists coherent choice).0)

module _ {F : Type 0} (m : Meaning F) (id : Identity) (lists : List (List (List ℕ))) (is : IsIdentity id) (count : length lists ≡ id.nodes) (faithful : IsFaithful (environment m id) (map (records_of m.frame_at) lists)) where
  abbrev e : Environment F
  e = environment m id

  abbrev journals : List (List (Record F))
  journals = map (records_of m.frame_at) lists

  made : map replay journals ≡ states_of e lists
  made = replayed e lists

  all : length journals ≡ id.nodes
  all = length-map lists (records_of m.frame_at) ∙ count

  one_of_run : HasOneConsumerEach e (states_of e lists)
  one_of_run = subst (HasOneConsumerEach e) made (one_each e journals all faithful)

  chains_of_run : HasWholeChains e (states_of e lists)
  chains_of_run = subst (HasWholeChains e) made (whole_chains e journals all faithful)

  module _ (keeps : KeepsTags m.machine) (bare : BeginsBare m.machine) (names : NamesNotary e) where
    signed_of_run : IsSignedInBook e (map replay journals)
    signed_of_run = signed_in_book e journals all faithful keeps bare names is.1.1

    within : (p : ℕ) (s : NodeState F) → slice_get (map replay journals) p ≡ Some s → IsWithin s
    within p s at =
        let records = of_map replay journals p s at in
        let bodies = of_map (records_of m.frame_at) lists p records.0 records.1 in
        subst IsWithin records.2 (subst (λ (rs : List (Record F)). IsWithin (replay rs)) bodies.2 (state_within m.frame_at bodies.0))

    booked : AllByRecursion IsSizedEntry (book_of e (map replay journals))
    booked = booked_at (slice_get (map replay journals) e.notary.0) refl
      where
        booked_at : (o : Option (NodeState F)) → slice_get (map replay journals) e.notary.0 ≡ o → AllByRecursion IsSizedEntry (entries_at o)
        booked_at None at = tt
        booked_at (Some s) at = (within e.notary.0 s at).entries

    spent_of_run : HasNoneSpentTwice e (map replay journals)
    spent_of_run = none_twice e (map replay journals) (is_book e journals all faithful) (all_proven e journals all faithful) signed_of_run names (λ p s at. (within p s at).stored) booked

    windows_of_run : AreSignedInWindows e lists (map replay journals)
    windows_of_run = in_windows e lists (is_book e journals all faithful) (((faithful_exactly e journals all).0 faithful).0) (all_proven e journals all faithful) signed_of_run names booked

-- ---- of all runs

pub one_each_run : {F : Type 0} (m : Meaning F) → OfRuns m (Made HasOneConsumerEach)
one_each_run m id lists is count faithful = one_of_run m id lists is count faithful

pub chains_each_run : {F : Type 0} (m : Meaning F) → OfRuns m (Made HasWholeChains)
chains_each_run m id lists is count faithful = chains_of_run m id lists is count faithful

module _ {F : Type 0} (m : Meaning F) (keeps : KeepsTags m.machine) (bare : BeginsBare m.machine) (names : (id : Identity) → NamesNotary (environment m id)) where
  pub signed_each_run : OfRuns m (Made IsSignedInBook)
  signed_each_run id lists is count faithful = subst (IsSignedInBook (environment m id)) (made m id lists is count faithful) (signed_of_run m id lists is count faithful keeps bare (names id))

  pub spent_each_run : OfRuns m (Made HasNoneSpentTwice)
  spent_each_run id lists is count faithful = subst (HasNoneSpentTwice (environment m id)) (made m id lists is count faithful) (spent_of_run m id lists is count faithful keeps bare (names id))

  pub windows_each_run : OfRuns m KeepsWindows
  windows_each_run id lists is count faithful = subst (AreSignedInWindows (environment m id) lists) (made m id lists is count faithful) (windows_of_run m id lists is count faithful keeps bare (names id))
