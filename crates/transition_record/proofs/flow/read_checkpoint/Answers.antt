use Rattle.std.proofs.Common.{◌≡◌, ◌-◌, ◌∙◌, List, ℕ, take, ap, sym, arith}
use Rattle.net_base.specs.Laws.{done}
use Rattle.transition_record.proofs.Checkpoints.{no_earlier, bytes_between}
use Rattle.transition_record.proofs.flow.read_checkpoint.Goals as goal

pub overflow_sub-place : goal.overflow_sub-place
overflow_sub-place c =
    let later = no_earlier c.args.from.now c.read_part.new.from c.in_ok-read_part.field-0 c.place-at.ensures.bytes c.in_ok-read_part.ensures.0 c.in_ok-read_part.ensures.1 in
    omega (arith, later, c.place-at.ensures.place, c.place.ensures.place)

pub returns : goal.returns
returns c =
    let old = c.args.from.now in
    let new = c.read_part.new.from in
    let read = bytes_between old new c.in_ok-read_part.field-0 c.place-at.ensures.bytes c.in_ok-read_part.ensures.0 c.in_ok-read_part.ensures.1 in
    let same : c.in_ok-from_slice.field-0 ≡ take (new.place - old.place) old.left = cc (c.in_ok-from_slice.ensures, c.in_ok-bytes.ensures.1, c.again-start.ensures, c.place.ensures.place, c.place-at.ensures.place) in
    (read ∙ ap (λ (l : List ℕ). done (l, new.left)) (sym same), c.in_ok-read_part.ensures.1)
