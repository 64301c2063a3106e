use Rattle.std.proofs.Common.{◌≡◌, false, ap, ◌∙◌, sym}
use Rattle.net_base.specs.Numbers.{is_numeral, number_of}
use Rattle.net_base.proofs.NumberLemmas.{number_parsed}
use Rattle.net_base.proofs.numbers.number.Goals as goal

pub returns-then-is_numeral : goal.returns-then-is_numeral
returns-then-is_numeral c = c.ok.ensures.value ∙ number_parsed c.args.word.now c.parse.result c.parse.ensures.value.0 (ap is_numeral (sym c.as_bytes.ensures.value) ∙ sym c.is_numeral.ensures ∙ c.if-is_numeral.true)

pub returns-else-is_numeral : goal.returns-else-is_numeral
unfolding number_of
returns-else-is_numeral c = let e : is_numeral c.args.word.now ≡ false = ap is_numeral (sym c.as_bytes.ensures.value) ∙ sym c.is_numeral.ensures ∙ c.if-is_numeral.false in rw e
