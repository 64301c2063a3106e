use Rattle.std.proofs.Common.{◌≡◌, Vec, Global, ℕ, List, Some, sym, ◌∙◌, ap, map, drop, slice_get, option_map}
use Rattle.std.proofs.lemmas.Option.{slice_get-map}
use Rattle.waiting_frames.proofs.Seen.{get_behind}
use Rattle.waiting_frames.proofs.waiting.Waiting.get.Goals as goal

abbrev bytes : Vec ℕ Global → List ℕ
bytes f = f.items

pub returns-in-Some : goal.returns-in-Some
returns-in-Some c =
    let keys = c.self.inside.frames.keys in
    let same : map bytes (drop c.self.inside.gone keys) ≡ c.args.self.now.frames = ap (λ w. w.frames) c.self.view_is in
    ap Some c.as_slice.ensures.value
    ∙ ap (option_map bytes) c.in-Some.ensures.key
    ∙ sym (ap (option_map bytes) (get_behind c.self.inside.gone c.args.place keys))
    ∙ sym (slice_get-map bytes (drop c.self.inside.gone keys) c.args.place)
    ∙ ap (λ (l : List (List ℕ)). slice_get l c.args.place) same
