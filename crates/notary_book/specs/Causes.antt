-- What the conflicts of a book name.
use Rattle.std.specs.Prelude.{◌≡◌, ⊤, List, [], ◌∷◌, ◌++◌, Some, find, Bool, true, false}
use Rattle.std.specs.List.{AllByRecursion}
use Rattle.net_base.specs.declared.values.Hash32.{Hash32}
use Rattle.ledger_types.specs.declared.notary.ConflictItem.{ConflictItem}
use Rattle.ledger_types.specs.declared.notary.NotaryAnswer.{NotaryAnswer}
use Rattle.ledger_types.specs.declared.notary.NotaryAnswer.TheVariants as answer
use Rattle.ledger_types.specs.declared.notary.Entry.{Entry}
use Rattle.ledger_types.specs.Notary.{consumes, consumer_hash_of}

-- whether an answer is a conflict
abbrev pub is_conflict : NotaryAnswer → Bool
is_conflict (answer.Conflict list) = true
is_conflict _ = false

-- the item names the first of these entries that signed another id with the reference among its inputs
abbrev pub IsCaused : List Entry → Hash32 → ConflictItem → Type 0
IsCaused before id item = (e : Entry) × ((find (consumes id item.reference) before ≡ Some e) × (item.consumer_hash ≡ consumer_hash_of e))

-- each item of a conflict does; another answer has none
abbrev pub AnswerIsCaused : List Entry → Hash32 → NotaryAnswer → Type 0
AnswerIsCaused before id (answer.Conflict list) = AllByRecursion (IsCaused before id) list
AnswerIsCaused before id _ = ⊤

-- so it is with the answer of each entry, over the entries before and those ahead of it
abbrev pub AreCausedAfter : List Entry → List Entry → Type 0
AreCausedAfter before [] = ⊤
AreCausedAfter before (e ∷ es) = AnswerIsCaused before e.request.torn.id e.answer × AreCausedAfter (before ++ e ∷ []) es

-- each item of each conflict in the book names the first entry before it that signed another id with the reference among its inputs
abbrev pub AreCaused : List Entry → Type 0
AreCaused book = AreCausedAfter [] book
