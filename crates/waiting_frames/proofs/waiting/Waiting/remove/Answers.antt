use Rattle.std.proofs.Common.{◌≡◌, Vec, Global, ℕ, List, Some, sym, arith, drop, ◌∙◌, ap, map, remove, slice_get, option_map}
use Rattle.std.proofs.lemmas.Option.{slice_get-map}
use Rattle.waiting_frames.proofs.Seen.{once_is, removed_is}
use Rattle.waiting_frames.proofs.waiting.Waiting.remove.Goals as goal
use Rattle.waiting_frames.proofs.waiting.Waiting.remove.Goals.{in-Some, in-None}

abbrev bytes : Vec ℕ Global → List ℕ
bytes f = f.items

pub invariant_of-self : goal.invariant_of-self
invariant_of-self c = rw c.compact.ensures.gone (omega arith, once_is bytes c.shift_remove_index.new.self.keys c.shift_remove_index.ensures.unique)

pub returns-clause-frame : goal.returns-clause-frame
returns-clause-frame c =
    let same : map bytes (drop c.self.inside.gone c.self.inside.frames.keys) ≡ c.args.self.now.frames = ap (λ w. w.frames) c.self.view_is in
    let there =
    ap (option_map bytes) c.shift_remove_index.ensures.key
    ∙ sym (slice_get-map bytes c.compact.new.frames.keys c.args.place)
    ∙ ap (λ (l : List (Vec ℕ Global)). slice_get (map bytes l) c.args.place) c.compact.ensures.frames
    ∙ ap (λ (l : List (List ℕ)). slice_get l c.args.place) same
    in
    elim c.match-shift_remove_index.branch [
      | in-Some w ↦ w.result-is ∙ ap Some w.from_vec.ensures ∙ ap (option_map bytes) (sym w.in-Some.is) ∙ there
      | in-None w ↦ w.result-is ∙ ap (option_map bytes) (sym w.in-None.is) ∙ there
    ]

pub returns-clause-frames : goal.returns-clause-frames
returns-clause-frames c =
    let same : map bytes (drop c.self.inside.gone c.self.inside.frames.keys) ≡ c.args.self.now.frames = ap (λ w. w.frames) c.self.view_is in
    rw c.compact.ensures.gone
    (ap (map bytes) c.shift_remove_index.ensures.keys
    ∙ removed_is bytes c.compact.new.frames.keys c.args.place
    ∙ ap (λ (l : List (Vec ℕ Global)). remove (map bytes l) c.args.place) c.compact.ensures.frames
    ∙ ap (λ (l : List (List ℕ)). remove l c.args.place) same)
