use Rattle.std.proofs.Common.{◌≡◌, Vec, Global, ℕ, List, not, arith, drop, ◌∙◌, ap, map}
use Rattle.waiting_frames.specs.Waiting.{is_waiting, joined}
use Rattle.waiting_frames.proofs.Seen.{any_is, once_is, joined_is}
use Rattle.waiting_frames.proofs.waiting.Waiting.join.Goals as goal

abbrev bytes : Vec ℕ Global → List ℕ
bytes f = f.items

pub invariant_of-self : goal.invariant_of-self
invariant_of-self c = rw c.compact.ensures.gone (omega arith, once_is bytes c.insert.new.self.keys c.insert.ensures.unique)

pub returns-clause-frames : goal.returns-clause-frames
returns-clause-frames c =
    let keys = rw c.unwrap.ensures at c.insert.ensures.keys in
    let same : map bytes (drop c.self.inside.gone c.self.inside.frames.keys) ≡ c.args.self.now.frames = ap (λ w. w.frames) c.self.view_is in
    let waited = ap (map bytes) c.compact.ensures.frames ∙ same in
    rw c.compact.ensures.gone (ap (map bytes) keys ∙ joined_is bytes c.into_vec.result c.compact.new.frames.keys ∙ (λ i. joined (c.into_vec.ensures i) (waited i)))

pub returns-clause-added : goal.returns-clause-added
returns-clause-added c =
    let added = rw c.unwrap.ensures at c.insert.ensures.added in
    let same : map bytes (drop c.self.inside.gone c.self.inside.frames.keys) ≡ c.args.self.now.frames = ap (λ w. w.frames) c.self.view_is in
    let waited = ap (map bytes) c.compact.ensures.frames ∙ same in
    added ∙ ap not (any_is bytes c.into_vec.result.items c.compact.new.frames.keys ∙ (λ i. is_waiting (c.into_vec.ensures i) (waited i)))
