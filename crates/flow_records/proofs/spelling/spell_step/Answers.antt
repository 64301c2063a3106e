use Rattle.flow_records.proofs.Meaning.{step_is_record, step_written}
use Rattle.flow_records.proofs.spelling.spell_step.Goals as goal

pub encode_parts-bytes-requires : goal.encode_parts-bytes-requires
encode_parts-bytes-requires g c =
    let step = c.args.step.now in
    step_is_record g.F.Spelt.reading step.cause step.flow c.in_ok-part.part step.session step.ledger c.requires.cause c.in_ok-part.ensures c.requires.session c.requires.ledger c.requires.few

pub returns-clause-record : goal.returns-clause-record
returns-clause-record g c =
    let step = c.args.step.now in
    step_written g.F.Spelt.reading step.cause step.flow c.in_ok-part.part step.session step.ledger c.requires.cause c.in_ok-part.ensures c.requires.session c.requires.ledger c.requires.few c.encode_parts-bytes.result c.encode_parts-bytes.ensures.text
