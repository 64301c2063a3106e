use Rattle.std.proofs.Common.{◌∙◌, sym}
use Rattle.std.proofs.lemmas.List.{length-map}
use Rattle.waiting_frames.specs.Waiting.{WaitingSeen}
use Rattle.network_core.proofs.net.Net.from_parts.Goals as goal

pub invariant_of-result : goal.invariant_of-result
invariant_of-result g c =
    let w = c.requires.whole in
    (w.by, c.requires.empty, c.requires.room, w.few, sym (length-map c.args.parts.waiting.items (λ (w : WaitingSeen). w.frames)) ∙ w.each)
