use Rattle.net_base.proofs.Written.{written_8}
use Rattle.ledger_types.proofs.tx.TxSpelt.write_part.Goals as goal

pub returns : goal.returns
returns c = written_8 _ _ _ _ _ _ _ _ _ c.in_ok-write_part.ensures c.in_ok-write_list.ensures c.in_ok-write_list-2.ensures c.in_ok-write_list-3.ensures c.in_ok-write_list-4.ensures c.in_ok-write_part-2.ensures c.in_ok-write_part-3.ensures c.in_ok-write_list-5.ensures
