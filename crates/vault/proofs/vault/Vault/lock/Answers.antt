use Rattle.std.proofs.Common.{◌≡◌, ◌++◌, List, length, map, ap, sym, subst, ◌∙◌, arith}
use Rattle.std.proofs.lemmas.List.{length-map}
use Rattle.net_base.proofs.Lists.{take_written}
use Rattle.ledger_types.specs.declared.held.Held.{Held}
use Rattle.ledger_types.specs.Vaults.{locks_of}
use Rattle.vault.specs.Holdings.{AreHeld, locked_in, IsVault}
use Rattle.vault.proofs.Limits.{lock_held}
use Rattle.vault.proofs.Vaults.{lock_keeps}
use Rattle.vault.proofs.vault.Vault.lock.Goals as goal

pub returns-clause-vault : goal.returns-clause-vault
returns-clause-vault c = λ recorded locks v.
    let me = c.args.self.now.party in
    let refs = c.args.list.now in
    let items = c.self.inside.states.items in
    let same : items ≡ c.args.self.now.held = ap (λ h. h.held) c.self.view_is in
    let new : c.lock_each.new.states ≡ map (locked_in c.args.flow refs) items = c.lock_each.ensures ∙ (λ i. map (locked_in c.args.flow (c.as_slice.ensures i)) (c.deref_mut.ensures.value i)) in
    let long : length c.lock_each.new.states ≡ length items = ap length new ∙ length-map items (locked_in c.args.flow refs) in
    let whole = take_written c.lock_each.new.states items c.self.inside.states.len long c.self.inside.states.ok.0 ∙ new ∙ ap (map (locked_in c.args.flow refs)) same in
    subst (λ (l : List Held). IsVault me recorded (locks ++ locks_of c.args.flow refs) l) (sym whole) (lock_keeps me recorded locks c.args.self.now.held c.args.flow refs v c.requires.coins c.requires.once)

pub invariant_of-self : goal.invariant_of-self
invariant_of-self c =
    let refs = c.args.list.now in
    let items = c.self.inside.states.items in
    let new : c.lock_each.new.states ≡ map (locked_in c.args.flow refs) items = c.lock_each.ensures ∙ (λ i. map (locked_in c.args.flow (c.as_slice.ensures i)) (c.deref_mut.ensures.value i)) in
    let long : length c.lock_each.new.states ≡ length items = ap length new ∙ length-map items (locked_in c.args.flow refs) in
    let whole = take_written c.lock_each.new.states items c.self.inside.states.len long c.self.inside.states.ok.0 ∙ new in
    subst (AreHeld c.self.inside.party) (sym whole) (lock_held c.self.inside.party c.args.flow refs items (omega (arith, c.ranges.flow)) c.self.invariant)
