use Rattle.shell_words.proofs.GoodWords.{network_is_taken}
use Rattle.shell_words.proofs.laws.network_words_are_taken.Goals as goal

pub returns : goal.returns
returns c = network_is_taken
