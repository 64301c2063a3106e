-- A coherent world stays coherent where one node changes as said here.
use Rattle.std.proofs.Common.{◌≡◌, ℕ, ◌⊎◌, ⊎_elim, List, Some, None, true, map, length, slice_get, slice_set, sym, ap, subst, ◌∙◌}
use Rattle.std.specs.List.{AllByRecursion}
use Rattle.net_base.proofs.Options.{some_eq}
use Rattle.net_base.proofs.Lists.{get_there, set_length, set_own, get_beside, get_other}
use Rattle.net_model.specs.Environment.{Environment}
use Rattle.net_model.specs.State.{NodeState}
use Rattle.net_model.specs.Runs.{IsMatched}
use Rattle.node_tables.specs.Journals.{records_of, state_of}
use Rattle.network_core.specs.Worlds.{NodeWorld, World, MaySpell, Choice, states_of, Sound, NodeCoherent, WaitsAt, AreArrived, Agrees, Coherent}
use Rattle.network_core.proofs.AgreeingLists.{in_set, set_twice}
use Rattle.network_core.proofs.AgreeingNets.{Wider, wider_same, wider_all, wider_arrived}
use Rattle.network_core.proofs.AgreeingPlace.{Adds, Widens, adds_widens, sound_push}

module _ {F : Type 0} (e : Environment F) where
  -- one node changes so that each of its lists is one of before, or one with a body more; no frame is added to those that wait at it
  pub record Goes (w : World) (p : ℕ) (x y : NodeWorld) : Type 0 where
    pub one : y.up ≡ true → y.other ≡ None
    pub lists : (l : List (List ℕ)) → MaySpell y l → (old : List (List ℕ)) × MaySpell x old × ((l ≡ old) ⊎ Adds e w p old l)
    pub waits : (old : List (List (List ℕ))) → Choice w old → AllByRecursion (WaitsAt (states_of e old) p) x.waiting → AllByRecursion (WaitsAt (states_of e old) p) y.waiting
    pub numbers : y.up ≡ true → length y.acked ≡ length (state_of e.frame_at y.journal).sessions
    pub acks : y.up ≡ true → (net : List (NodeState F)) → AllByRecursion (WaitsAt net p) x.waiting → (x.up ≡ true → AreArrived net (state_of e.frame_at x.journal).sessions x.acked) → AreArrived net (state_of e.frame_at y.journal).sessions y.acked

  module _ (w : World) (p : ℕ) (x y : NodeWorld) (coherent : Coherent e w) (there : slice_get w.nodes p ≡ Some x) (goes : Goes w p x y) where
    abbrev v : World
    v = record { nodes = slice_set w.nodes p y; now = w.now }

    every : (l : List (List ℕ)) → MaySpell y l → Sound e p w.now l
    every l may =
        let back = goes.lists l may in
        let sound = (coherent.each p x there).every back.0 back.1 in
        ⊎_elim (λ same. subst (λ (j : List (List ℕ)). Sound e p w.now j) (sym same) sound)
        (λ adds. subst (λ (j : List (List ℕ)). Sound e p w.now j) (sym adds.is) (sound_push e p w.now back.0 adds.event adds.item adds.body adds.pends adds.fits sound))
        back.2

    each : (q : ℕ) (z : NodeWorld) → slice_get v.nodes q ≡ Some z → NodeCoherent e q w.now z
    each q z at = ⊎_elim
        (λ here. subst (λ (j : ℕ). NodeCoherent e j w.now z) (sym here.0) (subst (λ (k : NodeWorld). NodeCoherent e p w.now k) (sym here.1) (record { every = every; one = goes.one })))
        (λ other. coherent.each q z other.1)
        (in_set w.nodes p x y q z there at)

    numbers : (q : ℕ) (z : NodeWorld) → slice_get v.nodes q ≡ Some z → z.up ≡ true → length z.acked ≡ length (state_of e.frame_at z.journal).sessions
    numbers q z at = ⊎_elim
        (λ here. subst (λ (k : NodeWorld). k.up ≡ true → length k.acked ≡ length (state_of e.frame_at k.journal).sessions) (sym here.1) goes.numbers)
        (λ other. coherent.numbers q z other.1)
        (in_set w.nodes p x y q z there at)

    module _ (lists : List (List (List ℕ))) (choice : Choice v lists) where
      mine : (l : List (List ℕ)) × (slice_get lists p ≡ Some l)
      mine = get_beside v.nodes lists p y (sym choice.count) (get_there w.nodes p x y there)

      back : (old : List (List ℕ)) × MaySpell x old × ((mine.0 ≡ old) ⊎ Adds e w p old mine.0)
      back = goes.lists mine.0 (choice.each p y mine.0 (get_there w.nodes p x y there) mine.1)

      abbrev before : List (List (List ℕ))
      before = slice_set lists p back.0

      chosen : Choice w before
      chosen = record {
        count = set_length lists p back.0 ∙ choice.count ∙ set_length w.nodes p y;
        each = λ q z l at list_at. ⊎_elim
            (λ here.
            let same : z ≡ x = some_eq (sym at ∙ ap (slice_get w.nodes) here.0 ∙ there) in
            subst (λ (k : NodeWorld). MaySpell k l) (sym same) (subst (λ (j : List (List ℕ)). MaySpell x j) (sym here.1) back.1))
            (λ other. choice.each q z l (get_other w.nodes p y q other.0 ∙ at) other.1)
            (in_set lists p mine.0 back.0 q l mine.1 list_at);
      }

      restored : slice_set before p mine.0 ≡ lists
      restored = set_twice lists p back.0 mine.0 ∙ set_own lists p mine.0 mine.1

      known : Agrees e w before
      known = coherent.agrees before chosen

      widens : Widens e before lists
      widens = ⊎_elim
          (λ same.
          let is : before ≡ lists = ap (slice_set lists p) (sym same) ∙ set_own lists p mine.0 mine.1 in
          record {
            matched = subst (λ (l : List (List (List ℕ))). IsMatched (map (records_of e.frame_at) l)) is known.matched;
            wider = subst (λ (l : List (List (List ℕ))). Wider (states_of e before) (states_of e l)) is (wider_same (states_of e before));
          })
          (λ adds. subst (λ (l : List (List (List ℕ))). Widens e before l) restored (adds_widens e w p before chosen back.0 mine.0 (get_there lists p mine.0 back.0 mine.1) adds known.matched))
          back.2

      abbrev net : List (NodeState F)
      net = states_of e lists

      waited : (q : ℕ) (z : NodeWorld) → slice_get w.nodes q ≡ Some z → AllByRecursion (WaitsAt net q) z.waiting
      waited q z at = wider_all (states_of e before) net widens.wider q z.waiting (known.waits q z at)

      acked : (q : ℕ) (z : NodeWorld) → slice_get w.nodes q ≡ Some z → z.up ≡ true → AreArrived net (state_of e.frame_at z.journal).sessions z.acked
      acked q z at up = wider_arrived (states_of e before) net widens.wider (state_of e.frame_at z.journal).sessions z.acked (known.arrived q z at up)

      waits_here : AllByRecursion (WaitsAt net p) y.waiting
      waits_here = wider_all (states_of e before) net widens.wider p y.waiting (goes.waits before chosen (known.waits p x there))

      agree : Agrees e v lists
      agree = record {
        matched = widens.matched;
        waits = λ q z at. ⊎_elim
            (λ here. subst (λ (j : ℕ). AllByRecursion (WaitsAt net j) z.waiting) (sym here.0) (subst (λ (k : NodeWorld). AllByRecursion (WaitsAt net p) k.waiting) (sym here.1) waits_here))
            (λ other. waited q z other.1)
            (in_set w.nodes p x y q z there at);
        arrived = λ q z at. ⊎_elim
            (λ here. subst (λ (k : NodeWorld). k.up ≡ true → AreArrived net (state_of e.frame_at k.journal).sessions k.acked) (sym here.1) (λ up. goes.acks up net (waited p x there) (acked p x there)))
            (λ other. acked q z other.1)
            (in_set w.nodes p x y q z there at);
      }

    pub goes_coherent : Coherent e (record { nodes = slice_set w.nodes p y; now = w.now })
    goes_coherent = record {
      count = set_length w.nodes p y ∙ coherent.count;
      each = each;
      numbers = numbers;
      agrees = agree;
    }
