use Rattle.contract_verify.specs.Naming.{accepted_names}
use Rattle.contract_verify.proofs.laws.accepted_names_a_notary.Goals as goal

pub returns : goal.returns
returns c = λ told. accepted_names told
