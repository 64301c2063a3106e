use Rattle.std.proofs.Common.{◌≡◌, ◌<◌, ◌-◌, take, drop, length, map, reverse, sym, ap, ◌∙◌, arith}
use Rattle.std.specs.Arc.{arc_value}
use Rattle.std.proofs.lemmas.List.{length-map, length-reverse}
use Rattle.flow_machine.proofs.Sharing.{seen_less}
use Rattle.flow_machine.proofs.stack.Stack.with_caller.Goals as goal

pub returns : goal.returns
returns g c =
    let items = c.self.inside.below.items in
    let top : arc_value c.in_ok-top.top ≡ c.args.caller = c.in_ok-top.ensures.ok in
    let all : reverse (map (λ frame. arc_value frame) items) ≡ c.args.self.now.below = ap (λ s. s.below) c.self.view_is in
    let more : 0 < length items = omega (arith, c.requires, ap length all, length-reverse (map (λ frame. arc_value frame) items), length-map items (λ frame. arc_value frame)) in
    let count = c.len.ensures ∙ sym c.deref.ensures.len ∙ ap length c.deref.ensures.value in
    let below : reverse (map (λ frame. arc_value frame) c.in_ok-below.below.items) ≡ drop 1 c.args.self.now.below = ap reverse c.in_ok-below.ensures ∙ (λ i. reverse (map (λ frame. arc_value frame) (take (count i - 1) (c.deref.ensures.value i)))) ∙ seen_less (λ frame. arc_value frame) items more ∙ ap (drop 1) all in
    c.from_bottom.ensures ∙ (λ i. record { top = top i; below = below i })
