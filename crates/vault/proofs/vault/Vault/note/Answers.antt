use Rattle.std.proofs.Common.{◌≡◌, ◌++◌, ◌∷◌, [], List, ap, sym, subst, ◌∙◌, filter, not}
use Rattle.ledger_types.specs.declared.held.Held.{Held}
use Rattle.ledger_types.specs.Names.{has_ref}
use Rattle.ledger_types.specs.Vaults.{is_relevant, outputs_from}
use Rattle.vault.specs.Holdings.{AreHeld, held_after, IsVault}
use Rattle.vault.proofs.Limits.{note_held}
use Rattle.vault.proofs.Vaults.{note_keeps}
use Rattle.vault.proofs.vault.Vault.note.Goals as goal

pub returns-clause-vault : goal.returns-clause-vault
returns-clause-vault c = λ recorded locks v may.
    let me = c.args.self.now.party in
    let id = c.args.id.now in
    let tx = c.args.tx.now in
    let party : c.self.inside.party ≡ me = ap (λ h. h.party) c.self.view_is in
    let same : c.self.inside.states.items ≡ c.args.self.now.held = ap (λ h. h.held) c.self.view_is in
    let left : c.remove_consumed.new.states.items ≡ filter (λ h. not (has_ref h.reference tx.inputs)) c.args.self.now.held =
    c.remove_consumed.ensures.items ∙ (λ i. filter (λ h. not (has_ref h.reference (c.as_slice.ensures i))) (same i)) in
    let new : c.add_relevant.new.states.items ≡ held_after me id tx c.args.self.now.held =
    c.add_relevant.ensures.items ∙ (λ i. left i ++ filter (λ h. is_relevant (party i) h.state.body) (outputs_from [] id 0 (c.as_slice-2.ensures i))) in
    subst (λ (l : List Held). IsVault me (recorded ++ (id, tx) ∷ []) locks l) (sym new) (note_keeps me recorded locks c.args.self.now.held id tx v may)

pub invariant_of-self : goal.invariant_of-self
invariant_of-self c =
    let me = c.self.inside.party in
    let id = c.args.id.now in
    let tx = c.args.tx.now in
    let items = c.self.inside.states.items in
    let left : c.remove_consumed.new.states.items ≡ filter (λ h. not (has_ref h.reference tx.inputs)) items =
    c.remove_consumed.ensures.items ∙ (λ i. filter (λ h. not (has_ref h.reference (c.as_slice.ensures i))) items) in
    let new : c.add_relevant.new.states.items ≡ held_after me id tx items =
    c.add_relevant.ensures.items ∙ (λ i. left i ++ filter (λ h. is_relevant me h.state.body) (outputs_from [] id 0 (c.as_slice-2.ensures i))) in
    subst (AreHeld me) (sym new) (note_held me id tx items c.law_known.ensures c.requires.limits c.self.invariant)
