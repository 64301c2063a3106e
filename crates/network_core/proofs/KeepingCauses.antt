-- What is acknowledged stands once in the merged journals, at every moment.
use Rattle.std.proofs.Common.{◌≡◌, ℕ, List, Some, length, map, slice_get, sym, ◌∙◌, ap}
use Rattle.std.proofs.lemmas.List.{length-map}
use Rattle.net_base.specs.declared.causes.Cause.{Cause}
use Rattle.net_base.proofs.Lists.{get_beside, get_map}
use Rattle.disk_journal.specs.Journal.{journal_of}
use Rattle.net_model.specs.Environment.{Environment, environment}
use Rattle.net_model.specs.State.{Record}
use Rattle.net_model.specs.Runs.{merged, IsLocal}
use Rattle.net_model.proofs.Basics.{get_before}
use Rattle.net_model.proofs.Faithful.{faithful_exactly}
use Rattle.node_tables.specs.Journals.{records_of, causes_of}
use Rattle.network_core.specs.Worlds.{World, NetSeen, Shows, Coherent}
use Rattle.network_core.specs.Acknowledged.{Acknowledged, StandsOnce}
use Rattle.network_core.specs.Moments.{Instant, IsChoice, IsKept}
use Rattle.network_core.specs.Ways.{AcknowledgedAtAllMoments}
use Rattle.network_core.proofs.Standing.{stands_chosen}
use Rattle.network_core.proofs.KeepingWays.{kept_on_ways}

module _ {F : Type 0} (e : Environment F) (net : NetSeen) (w : World) (shows : Shows e net w) (coherent : Coherent e w) (s : Instant) (kept : IsKept e net s) (images : List (List ℕ)) (choice : IsChoice s images) where
  abbrev lists : List (List (List ℕ))
  lists = map journal_of images

  abbrev journals : List (List (Record F))
  journals = map (records_of e.frame_at) lists

  count : length journals ≡ e.nodes
  count = length-map lists (records_of e.frame_at) ∙ length-map images journal_of ∙ choice.count ∙ kept.count ∙ sym shows.count ∙ coherent.count

  pub stands_at : (p : ℕ) (cause : Cause) → Acknowledged e w p cause → StandsOnce (p, cause) (merged (map (causes_of e.frame_at) lists))
  stands_at p cause known =
      let n = get_beside w.nodes net.nodes p known.node shows.count known.there in
      let d = get_beside net.nodes s p n.0 (sym kept.count) n.1 in
      let c = get_beside s images p d.0 (sym choice.count) d.1 in
      let begin = kept.begins p n.0 d.0 c.0 n.1 d.1 (choice.each p d.0 c.0 d.1 c.1) in
      let was = known.each (journal_of begin.0) ((shows.each p n.0 known.node n.1 known.there).images begin.0 begin.1) in
      let journal : List (List ℕ) = journal_of c.0 in
      let stays : slice_get (causes_of e.frame_at journal) was.0 ≡ Some cause = ap (λ (l : List Cause). slice_get l was.0) begin.3 ∙ get_before (causes_of e.frame_at (journal_of begin.0)) begin.2 was.0 cause was.1 in
      let at : slice_get lists p ≡ Some journal = get_map journal_of images p c.0 c.1 in
      let local : IsLocal e p (records_of e.frame_at journal) = ((faithful_exactly e journals count).0 (kept.faithful images choice)).0 p (records_of e.frame_at journal) (get_map (records_of e.frame_at) lists p journal at) in
      stands_chosen e p lists journal at local was.0 cause stays

pub acknowledged_at_all_moments : {F : Type 0} → AcknowledgedAtAllMoments F
acknowledged_at_all_moments m id a b way s on images choice p cause known = stands_at (environment m id) a.net a.world a.shows a.coherent s (kept_on_ways m id a b way s on) images choice p cause known
