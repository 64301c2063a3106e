-- The line of a recorded transaction, by its id and by its place.
use Rattle.std.proofs.Common.{◌≡◌, ℕ, List, Option, Some, None, refl, sym, ◌∙◌, ap}
use Rattle.std.specs.Prelude.{MatchOption, Result, Ok, Err, IfOk, option_map}
use Rattle.std.specs.List.{slice_get}
use Rattle.std.proofs.lemmas.Option.{same_Some}
use Rattle.net_base.specs.declared.values.Hash32.{Hash32}
use Rattle.net_base.proofs.Lists.{find_test}
use Rattle.ledger_types.specs.declared.tx.SignedTx.{SignedTx}
use Rattle.ledger_types.specs.Names.{hash_eq}
use Rattle.ledger_types.specs.Stores.{stored_of}
use Rattle.ledger_types.proofs.Names.{hash_exact}
use Rattle.shell_report.specs.LedgerText.{tx_text}
use Rattle.shell_words.specs.declared.commands.TxName.TheVariants as name
use Rattle.node_shell.specs.LedgerPrint.{with_id}
use Rattle.node_shell.specs.Lines.{record_of}
use Rattle.node_shell.specs.Responds.{IsLineOf}

module _ {T : Type 0} (bytes : T → List ℕ) (recorded : List (Hash32 × SignedTx)) where
  found_none : (o : Option (Hash32 × SignedTx)) → option_map (λ p. p.1) o ≡ None → o ≡ None
  found_none None none = refl
  found_none (Some p) none = cc

  found_some : (id : Hash32) (stx : SignedTx) (o : Option (Hash32 × SignedTx)) → with_id id recorded ≡ o → option_map (λ p. p.1) o ≡ Some stx → with_id id recorded ≡ Some (id, stx)
  found_some id stx None at some = cc
  found_some id stx (Some p) at some =
      let own = sym (hash_exact id p.0 (find_test (λ q. hash_eq id q.0) recorded p at)) in
      at ∙ ap (λ (i : Hash32). Some (i, p.1)) own ∙ ap (λ (s : SignedTx). Some (id, s)) (same_Some _ _ some)

  pub line_by_id : {E : Type 0} (id : Hash32) (r : Result (Option T) E)
      → IfOk r (λ line. MatchOption line (stored_of recorded id ≡ None) (λ text. (stx : SignedTx) × (stored_of recorded id ≡ Some stx) × (bytes text ≡ tx_text id stx)))
      → IfOk r (λ line. IsLineOf (name.Id id) recorded (option_map bytes line))
  line_by_id id (Err fault) h = h
  line_by_id id (Ok None) h = found_none (with_id id recorded) h
  line_by_id id (Ok (Some text)) h = ((id, h.0), found_some id h.0 (with_id id recorded) refl h.1, h.2)

  pub line_at : {E : Type 0} (k : ℕ) (r : Result (Option T) E)
      → IfOk r (λ line. MatchOption line (slice_get recorded (record_of k) ≡ None) (λ text. (p : Hash32 × SignedTx) × (slice_get recorded (record_of k) ≡ Some p) × (bytes text ≡ tx_text p.0 p.1)))
      → IfOk r (λ line. IsLineOf (name.Place k) recorded (option_map bytes line))
  line_at k (Err fault) h = h
  line_at k (Ok None) h = h
  line_at k (Ok (Some text)) h = h
