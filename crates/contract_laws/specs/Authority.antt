-- Who signed for the Cash that recorded transactions issue, exit and consume.
use Rattle.std.specs.Prelude.{◌≡◌, ◌⊎◌, ℕ, ◌<◌, true, List, Some, slice_get, Contains}
use Rattle.net_base.specs.declared.values.Party.{Party}
use Rattle.net_base.specs.declared.names.Token.{Token}
use Rattle.ledger_types.specs.declared.state.StateData.TheVariants.{Cash}
use Rattle.ledger_types.specs.declared.state.TxState.{TxState}
use Rattle.ledger_types.specs.declared.tx.Command.{Command}
use Rattle.ledger_types.specs.declared.tx.Deed.TheVariants.{CashIssue, CashExit}
use Rattle.ledger_types.specs.declared.tx.Resolved.{Resolved}
use Rattle.ledger_types.specs.declared.tx.SignedTx.{SignedTx}
use Rattle.ledger_types.specs.Signatures.{has_signed}
use Rattle.ledger_types.specs.Stores.{resolved_of}
use Rattle.net_model.specs.Environment.{Environment}
use Rattle.net_model.specs.State.{NodeState, with_ids}
use Rattle.contract_laws.specs.Values.{has_cash}

-- Where a transaction consumes or makes Cash, the issuer of each token that it issues or exits has a tag on it, over its id, that checks; and the owner of each Cash that it consumes has one. It is said of parties 0 to 15, of which networks are.
pub record IsSignedFor {F : Type 0} (e : Environment F) (stored : List SignedTx) (stx : SignedTx) : Type 0 where
  pub states : Resolved
  pub resolves : resolved_of (with_ids stored) stx.tx ≡ Some states
  pub issuer : (c : Command) (token : Token) (amount : ℕ) → has_cash stx.tx states ≡ true → Contains stx.tx.commands c → (c.deed ≡ CashIssue token amount) ⊎ (c.deed ≡ CashExit token amount) → token.issuer.0 < 16
      → has_signed e.mark stx token.issuer.0 ≡ true
  pub owner : (s : TxState) (token : Token) (amount : ℕ) (owner : Party) → Contains states.inputs s → s.body ≡ Cash token amount owner → owner.0 < 16 → has_signed e.mark stx owner.0 ≡ true

-- so is each recorded transaction of every node
abbrev pub AreSignedFor : {F : Type 0} → Environment F → List (NodeState F) → Type 0
AreSignedFor {F} e net = (p n : ℕ) (s : NodeState F) (stx : SignedTx) → slice_get net p ≡ Some s → slice_get s.stored n ≡ Some stx → IsSignedFor e s.stored stx
