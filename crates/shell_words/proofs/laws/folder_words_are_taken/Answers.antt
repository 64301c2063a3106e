use Rattle.shell_words.proofs.GoodWords.{folder_is_taken}
use Rattle.shell_words.proofs.laws.folder_words_are_taken.Goals as goal

pub returns : goal.returns
returns c = folder_is_taken
