-- What a waiting acknowledgement tells to have arrived is not lost.
use Rattle.std.proofs.Common.{◌≡◌, ℕ, ◌<◌, ◌≤◌, ⊎_elim, inl, List, [], ◌∷◌, ◌++◌, map, slice_get, slice_set, Some, None, refl, sym, ◌∙◌, ap, subst, arith, append-nil}
use Rattle.std.proofs.lemmas.List.{length-map}
use Rattle.std.proofs.lemmas.Option.{none-some}
use Rattle.net_base.specs.Laws.{cancels}
use Rattle.net_base.specs.declared.values.Party.{Party}
use Rattle.net_base.specs.declared.names.Key.{Key}
use Rattle.net_base.proofs.Lists.{all_get, get_beside, get_map, get_set, get_there, of_map, set_length}
use Rattle.net_base.proofs.Options.{some_eq}
use Rattle.session_wire.specs.Frames.{IsFrame, frame, frame_laws}
use Rattle.session_wire.specs.Sessions.{Session, session_of}
use Rattle.session_wire.specs.declared.frame.Frame.{Frame}
use Rattle.session_wire.specs.declared.frame.Frame.TheVariants.{Ack}
use Rattle.session_frames.specs.Judging.{arrived}
use Rattle.net_model.specs.Environment.{Environment}
use Rattle.net_model.specs.State.{NodeState, Record, apply_effect, fresh, replay, replay_from}
use Rattle.net_model.proofs.Basics.{apply_sessions}
use Rattle.node_tables.specs.Journals.{Reads, records_of, state_of}
use Rattle.network_core.specs.Worlds.{NodeWorld, World, MaySpell, Choice, states_of, came_at, IsTrue, WaitsAt, Coherent}
use Rattle.network_core.proofs.AgreeingNets.{Keeps, keeps_same, keeps_then, keeps_sessions, came_there}
use Rattle.network_core.proofs.Standing.{records_append}
use Rattle.work_law.specs.Passages.{Attains, AcksAreKept}
use Rattle.work_law.proofs.Passing.{attains_leads, later}
use Rattle.work_law.proofs.Together.{no_came, by_option}

-- ---- a longer journal

-- records lose no item that arrived
keeps_replayed : {F : Type 0} (s : NodeState F) (rs : List (Record F)) → Keeps s.sessions (replay_from s rs).sessions
keeps_replayed s [] = keeps_same s.sessions
keeps_replayed s (r ∷ rs) =
    let next = apply_effect s r.cause r.effect in
    let one : Keeps s.sessions next.sessions = subst (λ (ss : List Session). Keeps s.sessions ss) (sym (apply_sessions s r.cause r.effect)) (keeps_sessions r.cause r.effect s.sessions) in
    keeps_then s.sessions next.sessions (replay_from next rs).sessions one (keeps_replayed next rs)

replay_both : {F : Type 0} (s : NodeState F) (xs ys : List (Record F)) → replay_from s (xs ++ ys) ≡ replay_from (replay_from s xs) ys
replay_both s [] ys = refl
replay_both s (x ∷ xs) ys = replay_both (apply_effect s x.cause x.effect) xs ys

keeps_longer : {F : Type 0} (f : Reads F) (old rest : List (List ℕ)) → Keeps (state_of f old).sessions (state_of f (old ++ rest)).sessions
unfolding state_of replay
keeps_longer f old rest =
    let same : replay_from fresh (records_of f (old ++ rest)) ≡ replay_from (replay_from fresh (records_of f old)) (records_of f rest) = ap (replay_from fresh) (records_append f old rest) ∙ replay_both fresh (records_of f old) (records_of f rest) in
    subst (λ (s : NodeState _). Keeps (replay_from fresh (records_of f old)).sessions s.sessions) (sym same) (keeps_replayed (replay_from fresh (records_of f old)) (records_of f rest))

-- ---- an acknowledgement that waits

module _ {F : Type 0} (e : Environment F) (w : World) (coherent : Coherent e w) (from to : Party) (key : Key) (direction upto : ℕ) (lawful : IsFrame (Ack from to key direction upto)) where
  abbrev p : ℕ
  p = from.0

  abbrev ack : Frame
  ack = Ack from to key direction upto

  -- the journals that the disks keep, with another one of its sender
  abbrev journals : List (List (List ℕ))
  journals = map (λ (z : NodeWorld). z.journal) w.nodes

  chosen : (old : List (List ℕ)) → ((x : NodeWorld) → slice_get w.nodes p ≡ Some x → MaySpell x old) → Choice w (slice_set journals p old)
  chosen old may = record {
    count = set_length journals p old ∙ length-map w.nodes (λ (z : NodeWorld). z.journal);
    each = λ q z l there at. ⊎_elim
        (λ s. subst (λ (k : List (List ℕ)). MaySpell z k) (sym s.1) (may z (subst (λ (i : ℕ). slice_get w.nodes i ≡ Some z) s.0 there)))
        (λ h. let found = of_map (λ (z : NodeWorld). z.journal) w.nodes q l h in inl (sym found.2 ∙ ap (λ (z : NodeWorld). z.journal) (some_eq (sym found.1 ∙ there))))
        (get_set journals p old q l at);
  }

  -- it tells what is
  told : (q place : ℕ) (y : NodeWorld) → slice_get w.nodes q ≡ Some y → slice_get y.waiting place ≡ Some (frame ack) → (lists : List (List (List ℕ))) → Choice w lists → upto ≤ came_at (states_of e lists) p key
  told q place y there waits lists choice =
      let at : WaitsAt (states_of e lists) q (frame ack) = all_get (WaitsAt (states_of e lists) q) y.waiting place (frame ack) ((coherent.agrees lists choice).waits q y there) waits in
      let same : at.carried ≡ ack = (cancels frame_laws at.carried ack [] [] at.lawful lawful (append-nil (frame at.carried) ∙ sym at.whole ∙ sym (append-nil (frame ack)))).0 in
      subst (λ (f : Frame). IsTrue (states_of e lists) f) same at.true_is

  -- its sender is a node
  sends : (q place : ℕ) (y : NodeWorld) → slice_get w.nodes q ≡ Some y → slice_get y.waiting place ≡ Some (frame ack) → slice_get w.nodes p ≡ None → ⊥
  sends q place y there waits none =
      let choice = chosen [] (λ x is. absurd (none-some x (sym none ∙ is))) in
      let lists = slice_set journals p [] in
      let less = told q place y there waits lists choice in
      let some : 0 < upto = lawful.1.1.0 in
      by_option ⊥ (slice_get (states_of e lists) p)
      (λ no. let zero_is = no_came (states_of e lists) p key no in absurd (omega (arith, zero_is, less, some)))
      (λ s is.
      let l = of_map (state_of e.frame_at) lists p s is in
      let x = get_beside lists w.nodes p l.0 choice.count l.1 in
      none-some x.0 (sym none ∙ x.1))

  module _ (v : World) (attains : Attains e w v) (lists : List (List (List ℕ))) (choice : Choice v lists) where
    stays : (q place : ℕ) (y x : NodeWorld) → slice_get w.nodes q ≡ Some y → slice_get y.waiting place ≡ Some (frame ack) → slice_get w.nodes p ≡ Some x → upto ≤ came_at (states_of e lists) p key
    stays q place y x there waits here =
        let k = later e w v lists p x coherent (attains_leads e w v attains) choice here in
        let olds = slice_set journals p k.old in
        let less = told q place y there waits olds (chosen k.old (λ z is. subst (λ (n : NodeWorld). MaySpell n k.old) (some_eq (sym here ∙ is)) k.spelt)) in
        let was : slice_get olds p ≡ Some k.old = get_there journals p x.journal k.old (get_map (λ (z : NodeWorld). z.journal) w.nodes p x here) in
        let before = came_there (states_of e olds) p key (state_of e.frame_at k.old) (get_map (state_of e.frame_at) olds p k.old was) in
        let now = came_there (states_of e lists) p key (state_of e.frame_at k.journal) (get_map (state_of e.frame_at) lists p k.journal k.there) in
        let more : arrived (session_of key (state_of e.frame_at k.old).sessions) ≤ arrived (session_of key (state_of e.frame_at k.journal).sessions)
        = subst (λ (l : List (List ℕ)). arrived (session_of key (state_of e.frame_at k.old).sessions) ≤ arrived (session_of key (state_of e.frame_at l).sessions)) (sym k.begins) ((keeps_longer e.frame_at k.old k.rest).came key) in
        omega (arith, less, before, now, more)

pub acks_are_kept : {F : Type 0} → AcksAreKept F
acks_are_kept e w v coherent attains lists choice q y there from to key direction upto place lawful waits =
    by_option (upto ≤ came_at (states_of e lists) from.0 key) (slice_get w.nodes from.0)
    (λ none. absurd (sends e w coherent from to key direction upto lawful q place y there waits none))
    (λ x here. stays e w coherent from to key direction upto lawful v attains lists choice q place y x there waits here)
