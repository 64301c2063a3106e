use Rattle.net_model.specs.Environment.{meaning}
use Rattle.std.proofs.Common.{◌≡◌, ◌≤◌, ℕ, suc, ◌+◌, Bool, refl, sym, ◌∙◌, ap, subst, arith, length}
use Rattle.std.specs.Prelude.{if◌then◌else◌}
use Rattle.load_maker.specs.declared.maker.Payment.{Payment}
use Rattle.load_maker.specs.Load.{Load, load_of, payment_drawn, after_payment, after_payments}
use Rattle.node_shell.specs.Loads.{Breaks, IsMade, Pays, deal_of, then_drain}
use Rattle.node_shell.specs.Responds.{net_states}
use Rattle.node_shell.proofs.Drawing.{first, parties_kept, pays_none, pays_next, pays_short}
use Rattle.node_shell.proofs.LoadEnds.{on_err}
use Rattle.node_shell.proofs.loads.pay_all.Goals.{then-branch, else-branch}
use Rattle.node_shell.proofs.loads.pay_all.Goals as goal

pub payments-init : goal.payments-init
payments-init g c =
    let s = net_states (meaning g.F.FlowSet.machine g.F.Spelt.reading (g.J.Judge.judges c.args.contracts.now)) in
    record {
      maker = c.new-maker.ensures;
      pays = pays_none g.F.FlowSet.machine c.args.nodes.now (load_of c.args.seed (length c.args.nodes.now)) s c.args.net.now;
      few = omega arith;
      within = omega arith;
      nodes = refl;
    }

pub pay-requires : goal.pay-requires
pay-requires g c =
    let parties = ap (λ (l : Load). l.parties) c.payments.invariant.maker ∙ parties_kept c.payments.counter (load_of c.args.seed (length c.args.nodes.now)) in
    (omega (arith, c.next.ensures.parties.0, parties), omega (arith, c.next.ensures.parties.1, parties))

pub returns-in_err-pay-clause-err : goal.returns-in_err-pay-clause-err
returns-in_err-pay-clause-err g c =
    let m = g.F.FlowSet.machine in
    let s = net_states (meaning m g.F.Spelt.reading (g.J.Judge.judges c.args.contracts.now)) in
    let nodes = c.args.nodes.now in
    let before = c.payments.invariant in
    let drawn = c.next.ensures.value ∙ ap payment_drawn before.maker in
    let breaks = subst (λ (p : Payment). Breaks s (then_drain (deal_of m nodes p).starts) c.payments.net c.pay.new.net) drawn c.in_err-pay.ensures.err in
    on_err c.from_residual.result (pays_short m nodes (load_of c.args.seed (length nodes)) s c.args.count c.payments.counter c.payments.paid c.args.net.now c.payments.net c.pay.new.net c.payments-test.true before.pays breaks)

pub payments-preserved : goal.payments-preserved
payments-preserved g c =
    let m = g.F.FlowSet.machine in
    let s = net_states (meaning m g.F.Spelt.reading (g.J.Judge.judges c.args.contracts.now)) in
    let nodes = c.args.nodes.now in
    let l = load_of c.args.seed (length nodes) in
    let k = c.payments.counter in
    let paid = c.payments.paid in
    let before = c.payments.invariant in
    let drawn = c.next.ensures.value ∙ ap payment_drawn before.maker in
    let made = subst (λ (p : Payment). IsMade s (deal_of m nodes p) c.payments.net c.pay.new.net c.in_ok-pay.field-0) drawn c.in_ok-pay.ensures.ok in
    let next : suc k ≡ k + 1 = omega arith in
    let none : paid ≡ paid + 0 = omega arith in
    let counts : c.if-branch.paid ≡ paid + (if c.in_ok-pay.field-0 then 1 else 0) =
    elim c.if-branch.branch [
      | then-branch w ↦ w.paid-is ∙ ap (λ (b : Bool). paid + (if b then 1 else 0)) (sym w.if-branch.true)
      | else-branch w ↦ w.paid-is ∙ none ∙ ap (λ (b : Bool). paid + (if b then 1 else 0)) (sym w.if-branch.false)
    ] in
    let few : c.if-branch.paid ≤ k + 1 =
    elim c.if-branch.branch [
      | then-branch w ↦ omega (arith, w.paid-is, before.few)
      | else-branch w ↦ omega (arith, w.paid-is, before.few)
    ] in
    record {
      maker = subst (λ (j : ℕ). c.next.new.self ≡ after_payments j l) next (c.next.ensures.after ∙ ap after_payment before.maker);
      pays = subst (λ (j : ℕ). Pays s (first m nodes l j) c.if-branch.paid c.args.net.now c.pay.new.net) next
          (pays_next m nodes l s k paid c.if-branch.paid c.args.net.now c.payments.net c.pay.new.net c.in_ok-pay.field-0 before.pays made counts);
      few = few;
      within = omega (arith, c.payments-test.true);
      nodes = c.pay.ensures.count ∙ before.nodes;
    }
