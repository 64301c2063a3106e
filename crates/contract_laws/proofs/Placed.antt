-- What follows from whole back-chains, or from these and another law of `ledger_laws`, holds wherever these do: of every coherent world, at every moment of a way, and throughout a script.
use Rattle.std.proofs.Common.{ℕ, List, Result, refl}
use Rattle.net_base.specs.declared.names.Identity.{Identity}
use Rattle.ledger_types.specs.Verdicts.{verdict_of}
use Rattle.contract_verify.specs.Naming.{accepted_names}
use Rattle.flow_machine.specs.Machine.{Machine}
use Rattle.flow_machine.specs.Tags.{KeepsTags, BeginsBare}
use Rattle.net_model.specs.Environment.{Environment, environment, Meaning, meaning}
use Rattle.net_model.specs.State.{NodeState}
use Rattle.net_model.specs.Stores.{StoresHold, NamesNotary}
use Rattle.network_core.specs.Worlds.{states_of}
use Rattle.ledger_laws.specs.Ledgers.{HasWholeChains, HasNoneSpentTwice}
use Rattle.ledger_laws.specs.Windows.{KeepsWindows}
use Rattle.ledger_laws.specs.Places.{Fact, Made}
use Rattle.ledger_laws.proofs.Placed.{OfRuns, in_worlds, on_ways, chains_each_run, spent_each_run, windows_each_run}
use Rattle.story_laws.proofs.Scripted.{in_scripts}
use Rattle.contract_laws.specs.Everywhere.{Everywhere}
use Rattle.contract_laws.specs.Lawful.{Contracts, AreLawful}
use Rattle.contract_laws.specs.Values.{GovernsCash, KeepsAllValue}
use Rattle.contract_laws.specs.Authority.{AreSignedFor}
use Rattle.contract_laws.specs.Locks.{GovernsLocks, LocksWereDue}
use Rattle.contract_laws.specs.Deals.{GovernsFacts, KeepsAllFacts, GovernsDebts, KeepsAllDebts}
use Rattle.contract_laws.specs.Supply.{AreAccounted}
use Rattle.contract_laws.proofs.Lawful.{lawful}
use Rattle.contract_laws.proofs.Values.{keeps_value}
use Rattle.contract_laws.proofs.Authority.{signed_for}
use Rattle.contract_laws.proofs.Locks.{open_when_due}
use Rattle.contract_laws.proofs.Deals.{keep_facts, keep_debts}
use Rattle.contract_laws.proofs.Gathered.{are_accounted}

module _ {F : Type 0} (m : Meaning F) where
  abbrev e : Identity → Environment F
  e id = environment m id

  of_runs : (fact : Fact F) → OfRuns m fact → Everywhere m fact
  of_runs fact by = record { worlds = in_worlds m fact by; moments = on_ways m fact by; scripts = in_scripts m fact (in_worlds m fact by) (on_ways m fact by) }

  pub from_chains : (fact : Environment F → List (NodeState F) → Type 0) → ((id : Identity) (net : List (NodeState F)) → HasWholeChains (e id) net → fact (e id) net) → Everywhere m (Made fact)
  from_chains fact turns = of_runs (Made fact) (λ id lists is count faithful. turns id _ (chains_each_run m id lists is count faithful))

  module _ (keeps : KeepsTags m.machine) (bare : BeginsBare m.machine) (names : (id : Identity) → NamesNotary (e id)) where
    pub from_both : (fact : Environment F → List (NodeState F) → Type 0) → ((id : Identity) (net : List (NodeState F)) → HasWholeChains (e id) net → HasNoneSpentTwice (e id) net → fact (e id) net) → Everywhere m (Made fact)
    from_both fact turns = of_runs (Made fact) (λ id lists is count faithful. turns id _ (chains_each_run m id lists is count faithful) (spent_each_run m keeps bare names id lists is count faithful))

    pub from_windows : (fact : Fact F) → ((id : Identity) (lists : List (List (List ℕ))) → HasWholeChains (e id) (states_of (e id) lists) → KeepsWindows (e id) lists → fact (e id) lists) → Everywhere m fact
    from_windows fact turns = of_runs fact (λ id lists is count faithful. turns id lists (chains_each_run m id lists is count faithful) (windows_each_run m keeps bare names id lists is count faithful))

-- ---- by any contracts

stores_of : {F : Type 0} (e : Environment F) (net : List (NodeState F)) → HasWholeChains e net → StoresHold e net
stores_of e net whole p s at = (whole p s at).proven

module _ {F : Type 0} (machine : Machine F) (frame_at : List ℕ → Result (F × List ℕ) ℕ) (contracts : Contracts) where
  abbrev judged : Meaning F
  judged = meaning machine frame_at (verdict_of contracts)

  are_lawful : (id : Identity) (net : List (NodeState F)) → HasWholeChains (environment judged id) net → AreLawful contracts (environment judged id) net
  are_lawful id net whole = lawful contracts (environment judged id) net refl (stores_of (environment judged id) net whole)

  pub all_lawful : Everywhere judged (Made (AreLawful contracts))
  all_lawful = from_chains judged (AreLawful contracts) are_lawful

  module _ (cash : GovernsCash contracts) where
    keep_value : (id : Identity) (net : List (NodeState F)) → HasWholeChains (environment judged id) net → KeepsAllValue (environment judged id) net
    keep_value id net whole = keeps_value contracts cash (environment judged id) net refl (stores_of (environment judged id) net whole)

    pub all_value_kept : Everywhere judged (Made KeepsAllValue)
    all_value_kept = from_chains judged KeepsAllValue keep_value

    pub all_signed_for : Everywhere judged (Made AreSignedFor)
    all_signed_for = from_chains judged AreSignedFor (λ id net whole. signed_for contracts cash (environment judged id) net refl (stores_of (environment judged id) net whole))

    pub all_accounted : KeepsTags machine → BeginsBare machine → Everywhere judged (Made AreAccounted)
    all_accounted keeps bare = from_both judged keeps bare (λ id. accepted_names contracts) AreAccounted
        (λ id net whole spent. are_accounted contracts (environment judged id) net whole spent (are_lawful id net whole) (keep_value id net whole))

  pub all_due : GovernsLocks contracts → KeepsTags machine → BeginsBare machine → Everywhere judged LocksWereDue
  all_due locks keeps bare = from_windows judged keeps bare (λ id. accepted_names contracts) LocksWereDue
      (λ id lists whole windows. open_when_due contracts locks (environment judged id) lists _ refl (stores_of (environment judged id) _ whole) windows)

  pub all_claimed : GovernsFacts contracts → Everywhere judged (Made KeepsAllFacts)
  all_claimed facts = from_chains judged KeepsAllFacts (λ id net whole. keep_facts contracts facts (environment judged id) net refl (stores_of (environment judged id) net whole))

  pub all_agreed : GovernsDebts contracts → Everywhere judged (Made KeepsAllDebts)
  all_agreed ious = from_chains judged KeepsAllDebts (λ id net whole. keep_debts contracts ious (environment judged id) net refl (stores_of (environment judged id) net whole))
