use Rattle.std.proofs.Common.{string_bytes, ◌∙◌, sym, ap}
use Rattle.shell_words.specs.Script.{many_words}
use Rattle.shell_words.proofs.FiveWords.{five_words}
use Rattle.shell_words.proofs.commands.parse.Goals as goal

pub returns-in-len5-up : goal.returns-in-len5-up
returns-in-len5-up c = c.many_words.ensures ∙ ap (λ t. many_words t c.as_str-in-len5-up-2.result.now) c.as_str-in-len5-up.ensures.value ∙ ap (many_words (string_bytes c.w-item-2.result)) c.as_str-in-len5-up-2.ensures.value ∙ sym (five_words (λ s. string_bytes s) c.args.words.now c.w-item-2.result c.n-item-2.result c.in-len5-up.len_at_least c.w-item-2.is c.n-item-2.is)
