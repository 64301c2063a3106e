-- Journals of a run: its book, its tags and its stores.
use Rattle.std.proofs.Common.{◌≡◌, ◌<◌, List, length, map, Option, Some, None, slice_get, refl}
use Rattle.net_base.specs.declared.names.StateRef.{StateRef}
use Rattle.net_base.proofs.Lists.{of_map}
use Rattle.ledger_types.specs.Notary.{IsBook}
use Rattle.flow_machine.specs.Tags.{KeepsTags, BeginsBare}
use Rattle.notary_book.proofs.Once.{one_consumer}
use Rattle.notary_book.proofs.Caused.{book_caused}
use Rattle.net_model.specs.Environment.{Environment, identity}
use Rattle.net_model.specs.State.{NodeState, Record, replay}
use Rattle.net_model.specs.Runs.{IsFaithful, merged, network_of, run_of}
use Rattle.net_model.specs.Stores.{StoresHold, NamesNotary}
use Rattle.net_model.specs.Tags.{entries_at, book_of}
use Rattle.net_model.proofs.BookKept.{books_of_runs}
use Rattle.net_model.proofs.Faithful.{faithful_exactly, faithful_run}
use Rattle.net_model.proofs.HoldsKept.{notary_tags_hold}
use Rattle.net_model.proofs.Proven.{stores_hold}
use Rattle.net_model.proofs.Spent.{stored_is_signed}
use Rattle.ledger_laws.specs.Ledgers.{HasOneConsumerEach, IsSignedInBook, HasWholeChains}
use Rattle.ledger_laws.proofs.Chains.{local_whole}

module _ {F : Type 0} (e : Environment F) (journals : List (List (Record F))) (count : length journals ≡ e.nodes) (faithful : IsFaithful e journals) where
  abbrev net : List (NodeState F)
  net = map replay journals

  run : run_of e (merged (map (map (λ (r : Record F). r.cause)) journals)) ≡ Some net
  unfolding network_of
  run = faithful_run e journals count faithful

  -- the notary's book, also where there is no such node
  book_at : (o : Option (NodeState F)) → slice_get net e.notary.0 ≡ o → IsBook e.mark (identity e e.notary.0) (entries_at o)
  unfolding IsBook
  book_at None at = tt
  book_at (Some s) at = books_of_runs e (merged (map (map (λ (r : Record F). r.cause)) journals)) net e.notary.0 s run at

  pub is_book : IsBook e.mark (identity e e.notary.0) (book_of e net)
  is_book = book_at (slice_get net e.notary.0) refl

  pub one_each : HasOneConsumerEach e net
  one_each = record { one = λ (r : StateRef). one_consumer e.mark (identity e e.notary.0) (book_of e net) r is_book; named = book_caused e.mark (identity e e.notary.0) (book_of e net) is_book }

  pub signed_in_book : KeepsTags e.machine → BeginsBare e.machine → NamesNotary e → e.notary.0 < 16 → IsSignedInBook e net
  signed_in_book keeps bare names small = record {
    tags = notary_tags_hold e (merged (map (map (λ (r : Record F). r.cause)) journals)) net keeps bare run;
    stored = λ p n s stx at there asks. stored_is_signed e (merged (map (map (λ (r : Record F). r.cause)) journals)) net p n s stx keeps bare names small run at there asks;
  }

  pub all_proven : StoresHold e net
  all_proven = stores_hold e (merged (map (map (λ (r : Record F). r.cause)) journals)) net run

  pub whole_chains : HasWholeChains e net
  whole_chains p s at =
      let found = of_map replay journals p s at in
      local_whole e p s (all_proven p s at) found.0 (((faithful_exactly e journals count).0 faithful).0 p found.0 found.1) found.2
