use Rattle.std.proofs.Common.{◌≡◌, ◌≤◌, ◌+◌, take}
use Rattle.std.specs.List.{list_any}
use Rattle.indexmap.specs.IndexMap.{get, spare}
use Rattle.notary_book.specs.Indexed.{first_of}
use Rattle.notary_book.proofs.index.note_each.Given as goal

-- the place stands under the keys so far, and no more room was used than for them
pub record Noted (Places Room : Type 0) : Type 0 where
  pub places : Places
  pub room : Room

abbrev pub invariant-loop-key : goal.invariant-loop-key
invariant-loop-key g l =
    Noted ((k : _) → get g.K.PartialEq.eq l.index k ≡ first_of (get g.K.PartialEq.eq l.fn.index k) (list_any (λ s. g.K.PartialEq.eq s k) (take l.key-index l.keys)) l.place)
    (spare l.fn.index ≤ spare l.index + l.key-index)
