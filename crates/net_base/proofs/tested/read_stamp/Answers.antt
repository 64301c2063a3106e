use Rattle.std.proofs.lemmas.Result.{err_from_is_err_and}
use Rattle.net_base.proofs.Stamps.{no_byte}
use Rattle.net_base.proofs.tested.read_stamp.Goals as goal

pub returns-in_err-read_u8-clause-given : goal.returns-in_err-read_u8-clause-given
returns-in_err-read_u8-clause-given c =
    let p = err_from_is_err_and c.from_residual.result c.from_residual.ensures.1 in
    let h = rw c.again.ensures at c.in_err-read_u8.ensures.given in
    rw (p.1, p.2) (no_byte c.in_err-read_u8.field-0.0 c.args.from.now.left h)
