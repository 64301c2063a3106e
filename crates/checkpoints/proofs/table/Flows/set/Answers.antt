use Rattle.std.proofs.Common.{arith, ◌≡◌, ◌≤◌, ◌<◌, ◌-◌, ◌++◌, ◌∷◌, ◌^◌, suc, take, drop, List, Bool, length, subst, sym, ap, ◌∙◌}
use Rattle.flow_machine.specs.declared.flows.FlowState.{FlowState}
use Rattle.checkpoints.specs.Tables.{Table, live_numbers, where_true, IsRising, AreNumberedFrom}
use Rattle.checkpoints.proofs.Live.{live_rises, marked, numbered_with}
use Rattle.checkpoints.proofs.Items.{length_within}
use Rattle.checkpoints.proofs.table.Flows.set.Goals as goal

pub mark-requires-clause-rising : goal.mark-requires-clause-rising
mark-requires-clause-rising g c = subst IsRising (sym c.self.invariant.0) (live_rises 0 c.self.inside.states.items)

pub invariant_of-self : goal.invariant_of-self
invariant_of-self g c =
    let flows = c.self.inside.states.items in
    let state = c.args.state in
    let flow = c.args.flow in
    let le : flow ≤ length flows = subst (λ (t : Table _). flow ≤ length t.flows) (sym {A = Table _} c.self.view_is) c.requires.place in
    let now = sym c.put_at.ensures.items in
    let lives = marked flow state flows c.self.inside.live.items c.mark.new.live.items le c.self.invariant.0 (λ lower upper there is all_lower all_upper. subst (λ (b : Bool). c.mark.new.live.items ≡ lower ++ (where_true b flow ++ upper)) c.goes_on-live.ensures (c.mark.ensures.marked lower upper there is all_lower all_upper)) in
    let numbered = numbered_with 0 flow flow state flows (omega arith) c.self.invariant.1.0 c.requires.own le in
    let few : length (take flow flows ++ state ∷ drop (suc flow) flows) ≤ 2 ^ 32 - 1 = length_within flows flow (2 ^ 32 - 1) state le c.requires.last (omega (arith, c.self.invariant.1.1)) in
    (lives ∙ ap live_numbers now, (subst (AreNumberedFrom 0) now numbered, subst (λ (l : List (FlowState _)). length l < 2 ^ 32) now (omega (arith, few))))
