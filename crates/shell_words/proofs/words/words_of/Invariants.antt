use Rattle.std.proofs.Common.{◌≡◌, ◌++◌, drop, map, string_bytes}
use Rattle.shell_words.specs.Script.{words_onto, words_of}
use Rattle.shell_words.proofs.words.words_of.Given as goal

-- the words so far, and those of what is left, are those of the line
abbrev pub invariant-bytes : goal.invariant-bytes
invariant-bytes l = map (λ s. string_bytes s) l.words.items ++ words_onto (string_bytes l.word) (drop l.b-index l.line) ≡ words_of l.line
