use Rattle.shell_words.proofs.GoodWords.{help_is_refused}
use Rattle.shell_words.proofs.laws.help_alone_is_refused.Goals as goal

pub returns : goal.returns
returns c = help_is_refused
