-- What is answered to an id that was not signed, by whether there are conflicts.
use Rattle.std.proofs.Common.{◌≡◌, ◌<◌, ◌≤◌, List, [], ◌∷◌, Option, cond, length, take, refl, arith}
use Rattle.net_base.specs.declared.values.Hash32.{Hash32}
use Rattle.net_base.specs.declared.values.Party.{Party}
use Rattle.net_base.specs.declared.values.Moment.{Moment}
use Rattle.ledger_types.specs.declared.tx.Window.{Window}
use Rattle.ledger_types.specs.declared.notary.ConflictItem.{ConflictItem}
use Rattle.ledger_types.specs.declared.notary.NotaryAnswer.TheVariants as answer
use Rattle.ledger_types.specs.Notary.{tag_by, is_inside, answer_unsigned}

pub conflicting : (mark : Party → Hash32 → Hash32) (me : Party) (id : Hash32) (now : Moment) (window : Option Window) (items : List ConflictItem) → 0 < length items → answer_unsigned mark me id now window items ≡ answer.Conflict (take 80 items)
conflicting mark me id now window [] some = absurd (omega (arith, some))
conflicting mark me id now window (item ∷ items) some = refl

pub free : (mark : Party → Hash32 → Hash32) (me : Party) (id : Hash32) (now : Moment) (window : Option Window) (items : List ConflictItem) → length items ≤ 0 → answer_unsigned mark me id now window items ≡ cond (is_inside window now) (answer.Signed (tag_by mark me id)) (answer.OutsideWindow now)
free mark me id now window [] none = refl
free mark me id now window (item ∷ items) none = absurd (omega (arith, none))
