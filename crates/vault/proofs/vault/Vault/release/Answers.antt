use Rattle.std.proofs.Common.{◌≡◌, List, length, map, ap, sym, subst, ◌∙◌}
use Rattle.std.proofs.lemmas.List.{length-map}
use Rattle.net_base.proofs.Lists.{take_written}
use Rattle.ledger_types.specs.declared.held.Held.{Held}
use Rattle.ledger_types.specs.Vaults.{released}
use Rattle.vault.specs.Holdings.{AreHeld, freed_of, IsVault}
use Rattle.vault.proofs.Limits.{release_held}
use Rattle.vault.proofs.Vaults.{release_keeps}
use Rattle.vault.proofs.vault.Vault.release.Goals as goal

pub returns-clause-vault : goal.returns-clause-vault
returns-clause-vault c = λ recorded locks v.
    let me = c.args.self.now.party in
    let items = c.self.inside.states.items in
    let same : items ≡ c.args.self.now.held = ap (λ h. h.held) c.self.view_is in
    let new : c.free_each.new.states ≡ map (freed_of c.args.flow) items = c.free_each.ensures ∙ ap (map (freed_of c.args.flow)) c.deref_mut.ensures.value in
    let long : length c.free_each.new.states ≡ length items = ap length new ∙ length-map items (freed_of c.args.flow) in
    let whole = take_written c.free_each.new.states items c.self.inside.states.len long c.self.inside.states.ok.0 ∙ new ∙ ap (map (freed_of c.args.flow)) same in
    subst (λ (l : List Held). IsVault me recorded (released c.args.flow locks) l) (sym whole) (release_keeps me recorded locks c.args.self.now.held c.args.flow v)

pub invariant_of-self : goal.invariant_of-self
invariant_of-self c =
    let items = c.self.inside.states.items in
    let new : c.free_each.new.states ≡ map (freed_of c.args.flow) items = c.free_each.ensures ∙ ap (map (freed_of c.args.flow)) c.deref_mut.ensures.value in
    let long : length c.free_each.new.states ≡ length items = ap length new ∙ length-map items (freed_of c.args.flow) in
    let whole = take_written c.free_each.new.states items c.self.inside.states.len long c.self.inside.states.ok.0 ∙ new in
    subst (AreHeld c.self.inside.party) (sym whole) (release_held c.self.inside.party c.args.flow items c.self.invariant)
