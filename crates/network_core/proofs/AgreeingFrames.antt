-- What a node says of a frame that waits at it tells of that frame.
use Rattle.std.proofs.Common.{◌≡◌, ℕ, inl, List, Some, map, option_map, slice_get, sym, ap, subst, ◌∙◌}
use Rattle.std.specs.List.{AllByRecursion}
use Rattle.std.proofs.lemmas.Option.{slice_get-map}
use Rattle.std.proofs.lemmas.List.{length-map}
use Rattle.net_base.specs.declared.values.Party.{Party}
use Rattle.net_base.proofs.Lists.{all_get}
use Rattle.net_base.proofs.Options.{some_eq}
use Rattle.session_frames.specs.declared.judged.Judged.{Judged}
use Rattle.session_frames.specs.declared.judged.Judged.TheVariants as judged
use Rattle.session_frames.specs.Judging.{IsJudged}
use Rattle.session_frames.proofs.Spelled.{spelled}
use Rattle.net_model.specs.Environment.{Environment, identity}
use Rattle.net_model.specs.State.{NodeState}
use Rattle.node_tables.specs.Journals.{state_of}
use Rattle.network_core.specs.Worlds.{NodeWorld, World, Choice, states_of, WaitsAt, Coherent}
use Rattle.network_core.proofs.AgreeingSaid.{Says, says}

-- the journals that the disks keep
first_choice : (w : World) → Choice w (map (λ (z : NodeWorld). z.journal) w.nodes)
first_choice w = record { count = length-map w.nodes (λ (y : NodeWorld). y.journal); each = λ q z l at is. inl (some_eq (sym is ∙ (slice_get-map (λ (y : NodeWorld). y.journal) w.nodes q ∙ ap (option_map (λ (y : NodeWorld). y.journal)) at))) }

module _ {F : Type 0} (e : Environment F) (w : World) (p : ℕ) (x : NodeWorld) (coherent : Coherent e w) (there : slice_get w.nodes p ≡ Some x) where
  abbrev state : NodeState F
  state = state_of e.frame_at x.journal

  module _ (i : ℕ) (bytes : List ℕ) (waits : slice_get x.waiting i ≡ Some bytes) where
    pub waiting_frame : (net : List (NodeState F)) → AllByRecursion (WaitsAt net p) x.waiting → WaitsAt net p bytes
    waiting_frame net all = all_get (WaitsAt net p) x.waiting i bytes all waits

    -- what is said tells of the frame
    pub told_of : (said : Judged) (net : List (NodeState F)) → IsJudged (identity e p) state.sessions bytes said → (h : WaitsAt net p bytes) → Says (identity e p) state.sessions h.carried said
    told_of said net judges h =
        let is = spelled (identity e p) state.sessions h.carried said h.lawful (subst (λ (b : List ℕ). IsJudged (identity e p) state.sessions b said) h.whole judges) in
        subst (Says (identity e p) state.sessions h.carried) (sym is) (says (identity e p) state.sessions h.carried)

    pub frame_in : (lists : List (List (List ℕ))) → Choice w lists → WaitsAt (states_of e lists) p bytes
    frame_in lists choice = waiting_frame (states_of e lists) ((coherent.agrees lists choice).waits p x there)

    pub first_frame : WaitsAt (states_of e (map (λ (z : NodeWorld). z.journal) w.nodes)) p bytes
    first_frame = frame_in (map (λ (z : NodeWorld). z.journal) w.nodes) (first_choice w)

    pub first_says : (said : Judged) → IsJudged (identity e p) state.sessions bytes said → Says (identity e p) state.sessions first_frame.carried said
    first_says said judges = told_of said (states_of e (map (λ (z : NodeWorld). z.journal) w.nodes)) judges first_frame

    pub not_garbled : IsJudged (identity e p) state.sessions bytes judged.Garbled → ⊥
    not_garbled judges = first_says judged.Garbled judges

    pub not_other : (to : Party) → IsJudged (identity e p) state.sessions bytes (judged.NotMine to) → ⊥
    not_other to judges = first_says (judged.NotMine to) judges first_frame.to
