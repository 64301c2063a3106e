use Rattle.std.proofs.Common.{◌++◌, [], suc, drop, List, length, refl, sym, ◌∙◌, ap, subst, arith, add-one, append-nil}
use Rattle.std.specs.List.{AllByRecursion, flat_map}
use Rattle.std.proofs.lemmas.Option.{slice_get_read}
use Rattle.net_base.proofs.Lists.{all_append}
use Rattle.ledger_types.specs.declared.held.Held.{Held}
use Rattle.ledger_types.specs.Vaults.{IsHeld}
use Rattle.node_shell.specs.Responds.{held_of}
use Rattle.node_shell.proofs.Loaded.{held_down, held_up, held_step}
use Rattle.node_shell.proofs.loads.held.Goals.{in-Some+in_ok-states+in_ok-extend_from_slice, in_default}
use Rattle.node_shell.proofs.loads.held.Goals as goal

pub loop-node-preserved : goal.loop-node-preserved
loop-node-preserved g c =
    let f = g.F.Spelt.reading in
    let ns = c.args.nodes.now in
    let i = c.loop-node.node-index in
    let n = c.node-item.result in
    let held = c.loop-node.held.items in
    let before = c.loop-node.invariant in
    let at = slice_get_read ns (length ns) i n refl (omega (arith, c.loop-node-test.true)) c.node-item.is in
    elim c.match-ledger.branch [
      | in-Some+in_ok-states+in_ok-extend_from_slice w ↦
          let up = w.in-Some.ensures in
          let states = w.as_slice.ensures ∙ w.in_ok-states.ensures.held ∙ ap (λ v. v.held) w.vault.ensures.lent in
          let own = states ∙ held_up f n up.0 w.in-Some.ledger.now up.1 up.2 in
          let within = subst (λ (l : List Held). AllByRecursion IsHeld l) (sym w.as_slice.ensures) w.in_ok-states.ensures.limits in
          record {
            held = rw (w.held-is, w.in_ok-extend_from_slice.ensures.items, add-one) (held_step f ns i n held w.as_slice.result.now at own ∙ before.held);
            limits = rw (w.held-is, w.in_ok-extend_from_slice.ensures.items) (all_append IsHeld held w.as_slice.result.now before.limits within);
          }
      | in_default w ↦
          let rest = flat_map (held_of f) (drop (suc i) ns) in
          record {
            held = rw (w.held-is, add-one) (ap (λ (l : List Held). l ++ rest) (sym (append-nil held)) ∙ held_step f ns i n held [] at (sym (held_down f n w.in_default.ensures)) ∙ before.held);
            limits = rw w.held-is before.limits;
          }
    ]
