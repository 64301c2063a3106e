use Rattle.std.proofs.Common.{◌≡◌, ◌∷◌, map, reverse, ap, ◌∙◌}
use Rattle.std.specs.Arc.{arc_value}
use Rattle.flow_machine.proofs.Sharing.{seen_more}
use Rattle.flow_machine.proofs.stack.Stack.with_callee.Goals as goal

pub returns : goal.returns
returns g c =
    let top : arc_value c.in_ok-top.top ≡ c.args.top = c.in_ok-top.ensures.ok in
    let waits : arc_value c.in_ok-try_clone.field-0 ≡ c.args.self.now.top = c.in_ok-try_clone.ensures ∙ ap (λ s. s.top) c.self.view_is in
    let below : reverse (map (λ frame. arc_value frame) c.in_ok-below.below.items) ≡ c.args.self.now.below = ap reverse (c.in_ok-below.ensures ∙ ap (map (λ frame. arc_value frame)) c.as_slice.ensures.value) ∙ ap (λ s. s.below) c.self.view_is in
    let more : reverse (map (λ frame. arc_value frame) c.push.new.self.items) ≡ c.args.self.now.top ∷ c.args.self.now.below = ap (λ xs. reverse (map (λ frame. arc_value frame) xs)) c.in_ok-push.ensures.items ∙ seen_more (λ frame. arc_value frame) c.in_ok-below.below.items c.in_ok-try_clone.field-0 ∙ (λ i. waits i ∷ below i) in
    c.from_bottom.ensures ∙ (λ i. record { top = top i; below = more i })
