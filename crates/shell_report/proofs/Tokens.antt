-- The tokens of states within their limits.
use Rattle.std.proofs.Common.{◌≡◌, List, [], ◌∷◌, refl}
use Rattle.std.specs.List.{AllByRecursion}
use Rattle.std.specs.declared.cmp.Ordering.{Ordering}
use Rattle.std.specs.declared.cmp.Ordering.TheVariants.{Less, Equal, Greater}
use Rattle.net_base.specs.declared.names.Token.{Token}
use Rattle.net_base.specs.Names.{IsToken}
use Rattle.ledger_types.specs.declared.state.StateData.{StateData}
use Rattle.ledger_types.specs.declared.state.StateData.TheVariants.{Cash, TimeLock, Fact, Iou}
use Rattle.ledger_types.specs.declared.held.Held.{Held}
use Rattle.ledger_types.specs.States.{IsStateData}
use Rattle.ledger_types.specs.Vaults.{IsHeld}
use Rattle.shell_report.specs.LedgerText.{token_order, with_token, with_body, tokens_onto, tokens_of}

with_within : (t : Token) (ts : List Token) → IsToken t → AllByRecursion IsToken ts → AllByRecursion IsToken (with_token t ts)
with_within t [] h all = (h, tt)
with_within t (u ∷ us) h all = go (token_order t u) refl (with_within t us h all.1)
  where
    go : (o : Ordering) → token_order t u ≡ o → AllByRecursion IsToken (with_token t us) → AllByRecursion IsToken (with_token t (u ∷ us))
    go Less is rest = rw is (h, all)
    go Equal is rest = rw is all
    go Greater is rest = rw is (all.0, rest)

body_within : (body : StateData) (ts : List Token) → IsStateData body → AllByRecursion IsToken ts → AllByRecursion IsToken (with_body body ts)
body_within (Cash token amount owner) ts h all = with_within token ts h.0 all
body_within (TimeLock owner until) ts h all = all
body_within (Fact issuer name value) ts h all = all
body_within (Iou lender borrower token amount) ts h all = all

onto_within : (ts : List Token) (held : List Held) → AllByRecursion IsToken ts → AllByRecursion IsHeld held → AllByRecursion IsToken (tokens_onto ts held)
onto_within ts [] all each = all
onto_within ts (h ∷ hs) all each = onto_within (with_body h.state.body ts) hs (body_within h.state.body ts each.0.1.0.0 all) each.1

-- the tokens of states within their limits are within theirs
pub tokens_within : (held : List Held) → AllByRecursion IsHeld held → AllByRecursion IsToken (tokens_of held)
tokens_within held each = onto_within [] held tt each
