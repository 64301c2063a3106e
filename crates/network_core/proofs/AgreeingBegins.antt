-- A network that begins, or whose first boot is refused, is coherent where its disks were; and a later moment keeps a world coherent.
use Rattle.std.proofs.Common.{◌≡◌, ℕ, ◌≤◌, inl, ⊎_elim, List, [], Some, None, false, length, slice_get, sym, ap, subst, ◌∙◌}
use Rattle.std.specs.List.{AllByRecursion}
use Rattle.std.proofs.lemmas.Bool.{true≢false}
use Rattle.net_base.proofs.Lists.{get_beside}
use Rattle.net_model.specs.Environment.{Environment}
use Rattle.node_tables.specs.Journals.{state_of}
use Rattle.node_core.specs.declared.faults.BootFault.{BootFault}
use Rattle.network_core.specs.Worlds.{NodeWorld, World, MaySpell, Choice, states_of, Sound, WaitsAt, AreArrived, Coherent}
use Rattle.network_core.specs.Begins.{Begun, BeginsUp, StayDown}
use Rattle.node_tables.specs.Seen.{padded}
use Rattle.network_core.proofs.AgreeingPlace.{sound_later}
use Rattle.network_core.proofs.AgreeingSteps.{padded_length, none_arrived}

-- nothing waits
none_wait : (P : List ℕ → Type 0) (frames : List (List ℕ)) → frames ≡ [] → AllByRecursion P frames
none_wait P frames none = subst (AllByRecursion P) (sym none) tt

module _ {F : Type 0} (e : Environment F) (w v : World) (coherent : Coherent e w) (count : length v.nodes ≡ length w.nodes) where
  -- the node that stood at a place
  before : (q : ℕ) (z : NodeWorld) → slice_get v.nodes q ≡ Some z → (x : NodeWorld) × (slice_get w.nodes q ≡ Some x)
  before q z at = get_beside v.nodes w.nodes q z count at

  -- journals that the images may spell now are those that they might spell before
  chosen : ((q : ℕ) (x z : NodeWorld) (l : List (List ℕ)) → slice_get w.nodes q ≡ Some x → slice_get v.nodes q ≡ Some z → MaySpell z l → MaySpell x l) → (lists : List (List (List ℕ))) → Choice v lists → Choice w lists
  chosen spells lists choice = record {
    count = choice.count ∙ count;
    each = λ q x l there at.
        let now = get_beside w.nodes v.nodes q x (sym count) there in
        spells q x now.0 l there now.1 (choice.each q now.0 l now.1 at);
  }

  pub begins_coherent : Begun e w v → Coherent e v
  begins_coherent begun = record {
    count = count ∙ coherent.count;
    each = λ q z at. record { every = λ l may. sound q z at l may; one = λ up. other q z at };
    numbers = λ q z at up. ap length (acked q z at) ∙ padded_length [] (state_of e.frame_at z.journal).sessions;
    agrees = λ lists choice. record {
      matched = (coherent.agrees lists (chosen spells lists choice)).matched;
      waits = λ q z at. none_wait (WaitsAt (states_of e lists) q) z.waiting (ap (λ (y : NodeWorld). y.waiting) (is q z at).after);
      arrived = λ q z at up. subst (AreArrived (states_of e lists) (state_of e.frame_at z.journal).sessions) (sym (acked q z at)) (none_arrived (states_of e lists) (state_of e.frame_at z.journal).sessions);
    };
  }
    where
      is : (q : ℕ) (z : NodeWorld) (at : slice_get v.nodes q ≡ Some z) → BeginsUp e (before q z at).0 z
      is q z at = begun.each q (before q z at).0 z (before q z at).1 at

      journal : (q : ℕ) (z : NodeWorld) (at : slice_get v.nodes q ≡ Some z) → z.journal ≡ (before q z at).0.journal
      journal q z at = ap (λ (y : NodeWorld). y.journal) (is q z at).after

      other : (q : ℕ) (z : NodeWorld) → slice_get v.nodes q ≡ Some z → z.other ≡ None
      other q z at = ap (λ (y : NodeWorld). y.other) (is q z at).after

      acked : (q : ℕ) (z : NodeWorld) → slice_get v.nodes q ≡ Some z → z.acked ≡ padded [] (state_of e.frame_at z.journal).sessions
      acked q z at = ap (λ (y : NodeWorld). y.acked) (is q z at).after ∙ ap (λ (j : List (List ℕ)). padded [] (state_of e.frame_at j).sessions) (sym (journal q z at))

      its_own : (q : ℕ) (z : NodeWorld) (l : List (List ℕ)) → slice_get v.nodes q ≡ Some z → MaySpell z l → l ≡ z.journal
      its_own q z l at may = ⊎_elim (λ same. same) (λ more. absurd (let no : Some l ≡ None = sym more ∙ other q z at in cc)) may

      spells : (q : ℕ) (x z : NodeWorld) (l : List (List ℕ)) → slice_get w.nodes q ≡ Some x → slice_get v.nodes q ≡ Some z → MaySpell z l → MaySpell x l
      spells q x z l there at may =
          let same = ap (λ (y : NodeWorld). y.journal) (begun.each q x z there at).after in
          inl (its_own q z l at may ∙ same)

      sound : (q : ℕ) (z : NodeWorld) → slice_get v.nodes q ≡ Some z → (l : List (List ℕ)) → MaySpell z l → Sound e q v.now l
      sound q z at l may =
          let old : Sound e q w.now z.journal = (coherent.each q (before q z at).0 (before q z at).1).every z.journal (inl (journal q z at)) in
          let now : Sound e q v.now z.journal = record { local = old.local; whole = old.whole; by = begun.latest q z at } in
          subst (λ (j : List (List ℕ)). Sound e q v.now j) (sym (its_own q z l at may)) now

  pub stays_down_coherent : (why : BootFault) → StayDown why w v → v.now ≡ w.now → ((q : ℕ) (z : NodeWorld) → slice_get v.nodes q ≡ Some z → z.waiting ≡ []) → Coherent e v
  stays_down_coherent why stay now waiting = record {
    count = count ∙ coherent.count;
    each = λ q z at. record {
      every = λ l may. subst (λ (n : ℕ). Sound e q n l) (sym now) ((coherent.each q (before q z at).0 (before q z at).1).every l ((stay.each q (before q z at).0 z (before q z at).1 at).lists l may));
      one = λ up. absurd (true≢false (sym up ∙ down q z at));
    };
    numbers = λ q z at up. absurd (true≢false (sym up ∙ down q z at));
    agrees = λ lists choice. record {
      matched = (coherent.agrees lists (chosen (λ q x z l there at may. (stay.each q x z there at).lists l may) lists choice)).matched;
      waits = λ q z at. none_wait (WaitsAt (states_of e lists) q) z.waiting (waiting q z at);
      arrived = λ q z at up. absurd (true≢false (sym up ∙ down q z at));
    };
  }
    where
      down : (q : ℕ) (z : NodeWorld) → slice_get v.nodes q ≡ Some z → z.up ≡ false
      down q z at = (stay.each q (before q z at).0 z (before q z at).1 at).down

-- a later moment
pub later_coherent : {F : Type 0} (e : Environment F) (w : World) (to : ℕ) → w.now ≤ to → Coherent e w → Coherent e (record { nodes = w.nodes; now = to })
later_coherent e w to le coherent = record {
  count = coherent.count;
  each = λ q z at. record { every = λ l may. sound_later e q w.now to l le ((coherent.each q z at).every l may); one = (coherent.each q z at).one };
  numbers = coherent.numbers;
  agrees = λ lists choice. let known = coherent.agrees lists (record { count = choice.count; each = choice.each }) in record { matched = known.matched; waits = known.waits; arrived = known.arrived };
}
