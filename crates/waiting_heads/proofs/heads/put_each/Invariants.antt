use Rattle.std.proofs.Common.{◌≡◌, ◌≤◌, ◌++◌, length, map}
use Rattle.std.specs.List.{AllByRecursion}
use Rattle.waiting_heads.proofs.Each.{Put}
use Rattle.waiting_heads.proofs.heads.put_each.Given as goal

abbrev pub invariant-lists : goal.invariant-lists
invariant-lists l = record {
  can_next : goal.iterator-lists.can_next l.frames-iterator;
  is_finite : goal.iterator-lists.is_finite l.frames-iterator;
  at : l.at ≡ length l.yielded;
  all : l.yielded ++ l.frames-iterator.rest.items ≡ l.fn.lists.items;
  few : AllByRecursion (λ v. length v.items ≤ 1024) l.frames-iterator.rest.items;
  put : Put (map (λ v. v.items) l.yielded) l.fn.waiting.items l.waiting.items;
}
