use Rattle.tx_rules.proofs.Signed.{signed_is}
use Rattle.tx_rules.proofs.laws.signed_where_none_is_missing.Goals as goal

pub returns : goal.returns
returns c = λ mark stx. signed_is mark stx
