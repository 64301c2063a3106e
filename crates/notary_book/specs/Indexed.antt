-- Where a book's entries are found by what they answer.
use Rattle.std.specs.Prelude.{◌≡◌, ℕ, Bool, ◌==◌, ◌&&◌, List, Option, Some, None, if◌then◌else◌}
use Rattle.std.specs.List.{AllByRecursion, position}
use Rattle.std.specs.Map.{lookup}
use Rattle.net_base.specs.declared.values.Hash32.{Hash32}
use Rattle.net_base.specs.declared.names.StateRef.{StateRef}
use Rattle.ledger_types.specs.declared.notary.Request.{Request}
use Rattle.ledger_types.specs.declared.notary.Entry.{Entry}
use Rattle.ledger_types.specs.Names.{hash_eq, party_eq, ref_eq, has_ref}
use Rattle.ledger_types.specs.Notary.{is_signature, signs}
use Rattle.ledger_types.specs.Requests.{IsNotaryAnswer}
use Rattle.notary_book.specs.declared.index.RequestKey.{RequestKey}

-- what two requests have in common where they are the same: the party, the flow and the id
abbrev pub key_of : Request → RequestKey
key_of q = record { party = q.party; flow = q.flow; id = q.torn.id }

-- whether two are the same
abbrev pub key_eq : RequestKey → RequestKey → Bool
key_eq a b = party_eq a.party b.party && ((a.flow == b.flow) && hash_eq a.id b.id)

-- whether an entry answers the request of this key
abbrev pub asks : RequestKey → Entry → Bool
asks k e = key_eq k (key_of e.request)

-- whether an entry signed an id and has the reference among its inputs
abbrev pub takes : StateRef → Entry → Bool
takes r e = is_signature e.answer && has_ref r e.inputs

-- the place that was there, else this one where it is one
abbrev pub first_of : Option ℕ → Bool → ℕ → Option ℕ
first_of (Some there) here place = Some there
first_of None here place = if here then Some place else None

-- each answer is within its limits, and each index gives the place of the first entry that answers a request, signed an id, or signed an id that takes a reference
pub record IsIndexed (entries : List Entry) (by_request : List (RequestKey × ℕ)) (by_id : List (Hash32 × ℕ)) (by_reference : List (StateRef × ℕ)) : Type 0 where
  pub answers : AllByRecursion (λ e. IsNotaryAnswer e.answer) entries
  pub requests : (k : RequestKey) → lookup (key_eq k) by_request ≡ position (asks k) entries
  pub ids : (id : Hash32) → lookup (hash_eq id) by_id ≡ position (signs id) entries
  pub references : (r : StateRef) → lookup (ref_eq r) by_reference ≡ position (takes r) entries
