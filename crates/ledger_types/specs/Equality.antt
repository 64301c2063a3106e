-- What == says of transactions, of the states that they name, and of tags: that they are the same, part by part.
use Rattle.std.specs.Prelude.{◌≡◌, Bool, ◌&&◌, List, Option}
use Rattle.std.specs.Bool.{Decides}
use Rattle.std.specs.Cmp.{IsPartialEquivalence, both_ways}
use Rattle.std.specs.Cmp.Lexicographic.{pointwise, pointwise_decides}
use Rattle.std.specs.Option.{option_eq}
use Rattle.std.proofs.Common.{sym, ap, ◌∙◌, rules}
use Rattle.std.proofs.lemmas.Bool.{and_parts, and_from}
use Rattle.net_base.specs.declared.values.Hash32.{Hash32}
use Rattle.net_base.specs.declared.values.Party.{Party}
use Rattle.net_base.specs.declared.names.StateRef.{StateRef}
use Rattle.net_base.specs.declared.names.Tag.{Tag}
use Rattle.net_base.specs.contracts.values.Hash32PartialEq.TheImpl as hash_eq
use Rattle.net_base.specs.contracts.values.PartyPartialEq.TheImpl as party_eq
use Rattle.net_base.specs.contracts.names.StateRefPartialEq.TheImpl as ref_eq
use Rattle.net_base.specs.contracts.names.TagPartialEq.TheImpl as tag_eq
use Rattle.ledger_types.specs.declared.state.TxState.{TxState}
use Rattle.ledger_types.specs.declared.tx.Command.{Command}
use Rattle.ledger_types.specs.declared.tx.Window.{Window}
use Rattle.ledger_types.specs.declared.tx.Tx.{Tx}
use Rattle.ledger_types.specs.declared.tx.Resolved.{Resolved}
use Rattle.ledger_types.specs.contracts.state.TxStatePartialEq.TheImpl as state_eq
use Rattle.ledger_types.specs.contracts.tx.CommandPartialEq.TheImpl as command_eq
use Rattle.ledger_types.specs.contracts.tx.WindowPartialEq.TheImpl as window_eq

-- whether references are the same
abbrev pub same_refs : List StateRef → List StateRef → Bool
same_refs = pointwise (ref_eq.ghosts).eq

-- whether states are the same
abbrev pub same_states : List TxState → List TxState → Bool
same_states = pointwise (state_eq.ghosts).eq

-- whether tags are the same
abbrev pub same_tags : List Tag → List Tag → Bool
same_tags = pointwise (tag_eq.ghosts).eq

-- whether transactions consume, make and refer to the same
abbrev pub moves_same : Tx → Tx → Bool
moves_same a b = same_refs a.inputs b.inputs && (same_states a.outputs b.outputs && same_refs a.references b.references)

-- whether the commands and attachments of transactions are the same
abbrev pub says_same : Tx → Tx → Bool
says_same a b = pointwise (command_eq.ghosts).eq a.commands b.commands && pointwise (hash_eq.ghosts).eq a.attachments b.attachments

-- whether the salts, notaries and windows of transactions are the same
abbrev pub stands_same : Tx → Tx → Bool
stands_same a b = (hash_eq.ghosts).eq a.salt b.salt && (option_eq (party_eq.ghosts).eq a.notary b.notary && option_eq (window_eq.ghosts).eq a.window b.window)

-- whether transactions are the same
abbrev pub same_tx : Tx → Tx → Bool
same_tx a b = stands_same a b && (moves_same a b && says_same a b)

-- whether the states that transactions name are the same
abbrev pub same_resolved : Resolved → Resolved → Bool
same_resolved a b = same_states a.inputs b.inputs && same_states a.references b.references

-- ---- each of these tests says that the two are one

-- both tests hold where each says that parts are the same
both : (s t : Bool) {P Q : Type 0} → Decides s P → Decides t Q → Decides (s && t) (P × Q)
both s t d e = (λ h. let p = and_parts s t h in (d.0 p.0, e.0 p.1), λ p. and_from s t (d.1 p.0) (e.1 p.1))

hash_exact : (a b : Hash32) → Decides ((hash_eq.ghosts).eq a b) (a ≡ b)
hash_exact a b = (λ h. search rules, λ h. search rules)

notary_exact : (a b : Option Party) → Decides (option_eq (party_eq.ghosts).eq a b) (a ≡ b)
notary_exact a b = (λ h. search rules, λ h. search rules)

window_exact : (a b : Option Window) → Decides (option_eq (window_eq.ghosts).eq a b) (a ≡ b)
window_exact a b = (λ h. search rules, λ h. search rules)

refs_exact : (a b : List StateRef) → Decides (same_refs a b) (a ≡ b)
refs_exact = pointwise_decides (λ x y. (λ h. search rules, λ h. search rules))

states_exact : (a b : List TxState) → Decides (same_states a b) (a ≡ b)
states_exact = pointwise_decides (λ x y. (λ h. search rules, λ h. search rules))

-- tags that test the same are the same
pub tags_exact : (a b : List Tag) → Decides (same_tags a b) (a ≡ b)
tags_exact = pointwise_decides (λ x y. (λ h. search rules, λ h. search rules))

commands_exact : (a b : List Command) → Decides (pointwise (command_eq.ghosts).eq a b) (a ≡ b)
commands_exact = pointwise_decides (λ x y. (λ h. search rules, λ h. search rules))

hashes_exact : (a b : List Hash32) → Decides (pointwise (hash_eq.ghosts).eq a b) (a ≡ b)
hashes_exact = pointwise_decides hash_exact

-- the parts of same transactions are the same
abbrev AreSame : Tx → Tx → Type 0
AreSame a b =
    ((a.salt ≡ b.salt) × ((a.notary ≡ b.notary) × (a.window ≡ b.window)))
    × (((a.inputs ≡ b.inputs) × ((a.outputs ≡ b.outputs) × (a.references ≡ b.references))) × ((a.commands ≡ b.commands) × (a.attachments ≡ b.attachments)))

parts_exact : (a b : Tx) → Decides (same_tx a b) (AreSame a b)
parts_exact a b =
    both _ _ (both _ _ (hash_exact a.salt b.salt) (both _ _ (notary_exact a.notary b.notary) (window_exact a.window b.window)))
    (both _ _ (both _ _ (refs_exact a.inputs b.inputs) (both _ _ (states_exact a.outputs b.outputs) (refs_exact a.references b.references)))
    (both _ _ (commands_exact a.commands b.commands) (hashes_exact a.attachments b.attachments)))

-- transactions of the same parts are one
joined : (a b : Tx) → AreSame a b → a ≡ b
joined a b p = λ i. record {
  salt = p.0.0 i;
  inputs = p.1.0.0 i;
  outputs = p.1.0.1.0 i;
  commands = p.1.1.0 i;
  attachments = p.1.1.1 i;
  notary = p.0.1.0 i;
  window = p.0.1.1 i;
  references = p.1.0.1.1 i;
}

-- the parts of one transaction are the same
parted : (a b : Tx) → a ≡ b → AreSame a b
parted a b e = (
  (ap (λ (t : Tx). t.salt) e, (ap (λ (t : Tx). t.notary) e, ap (λ (t : Tx). t.window) e)),
  ((ap (λ (t : Tx). t.inputs) e, (ap (λ (t : Tx). t.outputs) e, ap (λ (t : Tx). t.references) e)), (ap (λ (t : Tx). t.commands) e, ap (λ (t : Tx). t.attachments) e)),
)

-- transactions that test the same are one
pub tx_exact : (a b : Tx) → Decides (same_tx a b) (a ≡ b)
tx_exact a b = (λ h. joined a b ((parts_exact a b).0 h), λ e. (parts_exact a b).1 (parted a b e))

states_both : (a b : Resolved) → Decides (same_resolved a b) ((a.inputs ≡ b.inputs) × (a.references ≡ b.references))
states_both a b = both _ _ (states_exact a.inputs b.inputs) (states_exact a.references b.references)

-- states that test the same are one
pub resolved_exact : (a b : Resolved) → Decides (same_resolved a b) (a ≡ b)
resolved_exact a b = (
  λ h. let p = (states_both a b).0 h in λ i. record { inputs = p.0 i; references = p.1 i },
  λ e. (states_both a b).1 (ap (λ (r : Resolved). r.inputs) e, ap (λ (r : Resolved). r.references) e),
)

-- a test that says that two are one is symmetric and transitive
exact_laws : {K : Type 0} {E : K → K → Bool} → ((a b : K) → Decides (E a b) (a ≡ b)) → IsPartialEquivalence E
exact_laws {E = E} d = record {
  symm = λ a b. both_ways (E a b) (E b a) (λ h. (d b a).1 (sym ((d a b).0 h))) (λ h. (d a b).1 (sym ((d b a).0 h)));
  trans = λ a b c h k. (d a c).1 ((d a b).0 h ∙ (d b c).0 k);
}

-- the laws of == of transactions
pub tx_equality : IsPartialEquivalence same_tx
tx_equality = exact_laws tx_exact

-- the laws of == of states that transactions name
pub resolved_equality : IsPartialEquivalence same_resolved
resolved_equality = exact_laws resolved_exact
