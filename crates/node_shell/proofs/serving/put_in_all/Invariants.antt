use Rattle.std.proofs.Common.{◌≡◌, ◌++◌, drop, map, string_bytes}
use Rattle.node_shell.specs.Lines.{put_in}
use Rattle.node_shell.proofs.serving.put_in_all.Given as goal

-- the words so far, and those of what is left with the ids put in, are all
abbrev pub invariant-loop-word : goal.invariant-loop-word
invariant-loop-word l = map (λ s. string_bytes s) l.filled.items ++ map (put_in l.store.list) (map (λ s. string_bytes s) (drop l.word-index l.args)) ≡ map (put_in l.store.list) (map (λ s. string_bytes s) l.args)
