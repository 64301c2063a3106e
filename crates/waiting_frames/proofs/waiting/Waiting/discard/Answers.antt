use Rattle.std.proofs.Common.{◌≡◌, Vec, Global, ℕ, List, ◌∙◌, ap, arith, map, drop, remove}
use Rattle.waiting_frames.proofs.Seen.{dropped_next, once_fewer, removed_is}
use Rattle.waiting_frames.proofs.waiting.Waiting.discard.Goals as goal

abbrev bytes : Vec ℕ Global → List ℕ
bytes f = f.items

pub invariant_of-self : goal.invariant_of-self
invariant_of-self c = (omega (arith, c.if-self-len.true, c.len.ensures.len), once_fewer bytes c.self.inside.gone c.self.inside.frames.keys c.self.invariant.1)

pub returns-then-self-len-clause-frames : goal.returns-then-self-len-clause-frames
returns-then-self-len-clause-frames c =
    let keys = c.self.inside.frames.keys in
    let same : map bytes (drop c.self.inside.gone keys) ≡ c.args.self.now.frames = ap (λ w. w.frames) c.self.view_is in
    let first : 0 ≡ c.args.place = omega (arith, c.if-place-gt0.false) in
    ap (map bytes) (dropped_next c.self.inside.gone keys) ∙ removed_is bytes (drop c.self.inside.gone keys) 0 ∙ ap (λ (l : List (List ℕ)). remove l 0) same ∙ ap (remove c.args.self.now.frames) first
