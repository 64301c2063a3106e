-- Coherent worlds and runs.
use Rattle.std.proofs.Common.{◌≡◌, ℕ, List, length, map, Some, refl, ◌∙◌, ap, subst}
use Rattle.std.proofs.lemmas.List.{length-map}
use Rattle.net_base.proofs.Lists.{get_beside, map_twice, of_map}
use Rattle.net_model.specs.Environment.{Environment}
use Rattle.net_model.specs.State.{Record, replay}
use Rattle.net_model.specs.Runs.{AreLocal, IsFaithful, network_of}
use Rattle.net_model.proofs.Faithful.{faithful_exactly, faithful_run}
use Rattle.node_tables.specs.Journals.{records_of, state_of, causes_of}
use Rattle.network_core.specs.Worlds.{World, Coherent, Choice, CoherentIsFaithful}

module _ {F : Type 0} (e : Environment F) (w : World) (lists : List (List (List ℕ))) (coherent : Coherent e w) (choice : Choice w lists) where
  abbrev journals : List (List (Record F))
  journals = map (records_of e.frame_at) lists

  count : length journals ≡ e.nodes
  count = length-map lists (records_of e.frame_at) ∙ choice.count ∙ coherent.count

  local : AreLocal e journals
  local p records at =
      let found = of_map (records_of e.frame_at) lists p records at in
      let there = get_beside lists w.nodes p found.0 choice.count found.1 in
      rw (← found.2) ((coherent.each p there.0 there.1).every found.0 (choice.each p there.0 found.0 there.1 found.1)).local

  faithful : IsFaithful e journals
  faithful = (faithful_exactly e journals count).1 (local, (coherent.agrees lists choice).matched)

  run : network_of e (map (causes_of e.frame_at) lists) ≡ Some (map (state_of e.frame_at) lists)
  unfolding causes_of state_of
  run =
      let all = faithful_run e journals count faithful in
      let causes = map_twice (map (λ (r : Record F). r.cause)) (records_of e.frame_at) (causes_of e.frame_at) lists (λ l. refl) in
      let states = map_twice replay (records_of e.frame_at) (state_of e.frame_at) lists (λ l. refl) in
      subst (λ x. network_of e x ≡ Some (map (state_of e.frame_at) lists)) causes (all ∙ ap Some states)

pub coherent_is_faithful : {F : Type 0} → CoherentIsFaithful F
coherent_is_faithful e w lists coherent choice = (faithful e w lists coherent choice, run e w lists coherent choice)
