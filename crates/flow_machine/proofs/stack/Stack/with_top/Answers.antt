use Rattle.std.proofs.Common.{◌≡◌, map, reverse, ap, ◌∙◌}
use Rattle.std.specs.Arc.{arc_value}
use Rattle.flow_machine.proofs.stack.Stack.with_top.Goals as goal

pub returns : goal.returns
returns g c =
    let top : arc_value c.in_ok-top.top ≡ c.args.top = c.in_ok-top.ensures.ok in
    let below : reverse (map (λ frame. arc_value frame) c.in_ok-below.below.items) ≡ c.args.self.now.below = ap reverse (c.in_ok-below.ensures ∙ ap (map (λ frame. arc_value frame)) c.as_slice.ensures.value) ∙ ap (λ s. s.below) c.self.view_is in
    c.from_bottom.ensures ∙ (λ i. record { top = top i; below = below i })
