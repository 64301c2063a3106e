use Rattle.std.proofs.Common.{◌≡◌, slice_get, IfOk, Option, ℕ, ap, subst, ◌∙◌}
use Rattle.ledger_types.specs.declared.tx.Tx.{Tx}
use Rattle.ledger_types.specs.declared.tx.SignedTx.{SignedTx}
use Rattle.finality_flows.specs.Finality.{others, asks_signer}
use Rattle.finality_flows.proofs.finality.Finality.signs_on.Goals as goal

pub returns : goal.returns
returns c =
    let f = c.args.self in
    let here = c.args.here.now in
    let tx : c.deref.result.now ≡ f.stx.tx = c.deref.ensures ∙ ap (λ (s : SignedTx). s.tx) c.get.ensures in
    let e : c.next_signer-signer.result ≡ slice_get (others f.stx.tx here) f.asked = c.next_signer-signer.ensures ∙ ap (λ (t : Tx). slice_get (others t here) f.asked) tx in
    subst (λ (o : Option ℕ). IfOk c.asks_signer.result (λ g. g ≡ asks_signer o f here)) e c.asks_signer.ensures
