use Rattle.std.proofs.Common.{◌∙◌}
use Rattle.std.proofs.lemmas.List.{length-map}
use Rattle.waiting_frames.specs.Waiting.{WaitingSeen}
use Rattle.network_core.proofs.net.Net.into_parts.Goals as goal

pub returns-clause-whole : goal.returns-clause-whole
returns-clause-whole g c =
    let i = c.self.invariant in
    rw (← c.self.view_is) (record { by = i.0; few = i.3; each = length-map c.self.inside.waiting.items (λ (w : WaitingSeen). w.frames) ∙ i.4 })
