use Rattle.std.proofs.Common.{◌≡◌, ◌≤◌, length, map, take}
use Rattle.std.specs.List.{AllByRecursion}
use Rattle.waiting_heads.proofs.heads.heads_of.Given as goal

abbrev pub invariant-lists : goal.invariant-lists
invariant-lists l = (l.heads.items ≡ map (λ w. take 1024 w.frames) (take l.frames-index l.waiting)) × AllByRecursion (λ h. length h ≤ 1024) l.heads.items
