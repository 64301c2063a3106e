-- Requests of one id that show the same.
use Rattle.std.specs.Prelude.{◌≡◌, ℕ, ⊤, ◌&&◌, List, [], ◌∷◌, ◌++◌, Some, Bool, true}
use Rattle.std.specs.List.{AllByRecursion}
use Rattle.net_base.specs.declared.values.Hash32.{Hash32}
use Rattle.net_base.specs.declared.values.Party.{Party}
use Rattle.ledger_types.specs.declared.torn.Visible.{Visible}
use Rattle.ledger_types.specs.declared.notary.Request.{Request}
use Rattle.ledger_types.specs.declared.notary.Entry.{Entry}
use Rattle.ledger_types.specs.Names.{hash_eq, is_party}
use Rattle.ledger_types.specs.Tears.{visible_of}
use Rattle.ledger_types.specs.Torn.{IsTornTx}
use Rattle.tx_tear.specs.Hashed.{AreApart, Includes, hashed_for_torn}
use Rattle.notary_book.specs.Causes.{is_conflict}

-- whether an entry answered a conflict to this id
abbrev pub refuses : Hash32 → Entry → Bool
refuses id e = is_conflict e.answer && hash_eq id e.request.torn.id

-- two requests, where they are of one id and both tear-offs are good and name me, show the same
abbrev pub Agree : Party → Request → Request → Type 0
Agree me p q = p.torn.id ≡ q.torn.id → (v w : Visible) → visible_of p.torn ≡ Some v → visible_of q.torn ≡ Some w → is_party me v.notary ≡ true → is_party me w.notary ≡ true → v ≡ w

-- the request agrees with that of each entry
abbrev pub AgreesWith : Party → Request → List Entry → Type 0
AgreesWith me q entries = AllByRecursion (λ e. Agree me q e.request) entries

-- the request of each of these entries agrees with those of the entries before and ahead of it
abbrev pub AgreeAfter : Party → List Entry → List Entry → Type 0
AgreeAfter me before [] = ⊤
AgreeAfter me before (e ∷ es) = AgreesWith me e.request before × AgreeAfter me (before ++ e ∷ []) es

-- the requests of the entries agree with one another
abbrev pub AllAgree : Party → List Entry → Type 0
AllAgree me book = AgreeAfter me [] book

-- the tear-off of a request is within its limits, and all that is hashed to find its id is among these
abbrev pub IsHashedAmong : List (List ℕ) → Request → Type 0
IsHashedAmong hashed q = IsTornTx q.torn × Includes hashed (hashed_for_torn q.torn)

-- where no digests collide, the requests of such entries agree with one another
abbrev pub EntriesAgree : Type 0
EntriesAgree = (hashed : List (List ℕ)) (me : Party) (book : List Entry) → AreApart hashed → AllByRecursion (λ e. IsHashedAmong hashed e.request) book → AllAgree me book

-- where no digests collide, such a request agrees with those of such entries
abbrev pub RequestAgrees : Type 0
RequestAgrees = (hashed : List (List ℕ)) (me : Party) (q : Request) (book : List Entry) → AreApart hashed → IsHashedAmong hashed q → AllByRecursion (λ e. IsHashedAmong hashed e.request) book → AgreesWith me q book
