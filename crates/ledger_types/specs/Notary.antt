-- What a notary answers over the entries of its book, and which transactions consume a state.
use Rattle.std.specs.Prelude.{◌≡◌, ⊤, ◌==◌, ◌&&◌, not, List, [], ◌∷◌, ◌++◌, Option, Some, None, Bool, true, false, if◌then◌else◌, take, find, filter_map, option_map}
use Rattle.std.specs.List.{list_any}
use Rattle.net_base.specs.declared.values.Hash32.{Hash32}
use Rattle.net_base.specs.declared.values.Party.{Party}
use Rattle.net_base.specs.declared.values.Moment.{Moment}
use Rattle.net_base.specs.declared.names.StateRef.{StateRef}
use Rattle.net_base.specs.declared.names.Tag.{Tag}
use Rattle.net_base.specs.declared.names.Identity.{Identity}
use Rattle.component_merkle.specs.Merkle.{digest_of}
use Rattle.ledger_types.specs.declared.tx.Window.{Window}
use Rattle.ledger_types.specs.declared.torn.Visible.{Visible}
use Rattle.ledger_types.specs.declared.notary.Request.{Request}
use Rattle.ledger_types.specs.declared.notary.RefKind.{RefKind}
use Rattle.ledger_types.specs.declared.notary.RefKind.TheVariants as kind
use Rattle.ledger_types.specs.declared.notary.ConflictItem.{ConflictItem}
use Rattle.ledger_types.specs.declared.notary.NotaryAnswer.{NotaryAnswer}
use Rattle.ledger_types.specs.declared.notary.NotaryAnswer.TheVariants as answer
use Rattle.ledger_types.specs.declared.notary.Entry.{Entry}
use Rattle.ledger_types.specs.Names.{hash_eq, party_eq, is_party, has_ref}
use Rattle.ledger_types.specs.Signatures.{is_tag}
use Rattle.ledger_types.specs.Windows.{window_holds}
use Rattle.ledger_types.specs.Tears.{visible_of}

-- whether an answer is a signature
abbrev pub is_signature : NotaryAnswer → Bool
is_signature (answer.Signed tag) = true
is_signature _ = false

-- whether an entry signed this id
abbrev pub signs : Hash32 → Entry → Bool
signs id e = is_signature e.answer && hash_eq id e.request.torn.id

-- whether an entry answers the same request: one party, one flow, one id
abbrev pub repeats : Request → Entry → Bool
repeats q e = party_eq q.party e.request.party && ((q.flow == e.request.flow) && hash_eq q.torn.id e.request.torn.id)

-- whether an entry signed another id that has the reference among its inputs
abbrev pub consumes : Hash32 → StateRef → Entry → Bool
consumes id r e = is_signature e.answer && (not (hash_eq id e.request.torn.id) && has_ref r e.inputs)

-- the digest of the id that an entry signed
abbrev pub consumer_hash_of : Entry → Hash32
consumer_hash_of e = record { 0 = digest_of e.request.torn.id.0 }

-- the conflict over a reference: the first entry that signed another id that consumes it
abbrev pub conflict_over : List Entry → Hash32 → RefKind → StateRef → Option ConflictItem
conflict_over entries id k r = option_map (λ e. record { reference = r; consumer_hash = consumer_hash_of e; kind = k }) (find (consumes id r) entries)

-- every conflict of a request, inputs first, in the request's order
abbrev pub conflicts : List Entry → Hash32 → Visible → List ConflictItem
conflicts entries id v = filter_map (conflict_over entries id kind.Input) v.inputs ++ filter_map (conflict_over entries id kind.Reference) v.references

-- whether a window, if there is one, holds the moment
abbrev pub is_inside : Option Window → Moment → Bool
is_inside None now = true
is_inside (Some window) now = window_holds window now

-- the notary's own tag over an id
abbrev pub tag_by : (Party → Hash32 → Hash32) → Party → Hash32 → Tag
tag_by mark by id = record { by = by; of = id; mark = mark by id }

-- whether the requester's tag is by the requesting party, over the id, and checks
abbrev pub has_good_tag : (Party → Hash32 → Hash32) → Request → Bool
has_good_tag mark q = is_tag mark q.torn.id q.party.0 q.tag

-- what is answered to an id that was not signed before: a conflict, of which at most 80 items are named; or that the moment is outside the window; else the notary's tag
abbrev pub answer_unsigned : (Party → Hash32 → Hash32) → Party → Hash32 → Moment → Option Window → List ConflictItem → NotaryAnswer
answer_unsigned mark me id now window (item ∷ items) = answer.Conflict (take 80 (item ∷ items))
answer_unsigned mark me id now window [] = if is_inside window now then answer.Signed (tag_by mark me id) else answer.OutsideWindow now

-- what is answered to a good tear-off that names me: that the requester's tag is bad; the notary's tag where the id was signed before; else the answer to an id that was not
abbrev pub answer_shown : (Party → Hash32 → Hash32) → Party → List Entry → Request → Moment → Visible → NotaryAnswer
answer_shown mark me entries q now v =
    if not (has_good_tag mark q) then answer.BadRequestTag
    else if list_any (signs q.torn.id) entries then answer.Signed (tag_by mark me q.torn.id)
    else answer_unsigned mark me q.torn.id now v.window (conflicts entries q.torn.id v)

-- what a notary answers to a request that no entry repeats: that the tear-off is bad, or that it names no notary or another one; else the answer to a good one
abbrev pub answer_torn : (Party → Hash32 → Hash32) → Party → List Entry → Request → Moment → Option Visible → NotaryAnswer
answer_torn mark me entries q now None = answer.BadTear
answer_torn mark me entries q now (Some v) = if is_party me v.notary then answer_shown mark me entries q now v else answer.WrongNotary

-- whether the node is its network's notary
abbrev pub is_notary : Identity → Bool
is_notary me = party_eq me.party me.notary

-- what a node answers to a request that no entry repeats; it signs only where it is its network's notary
abbrev pub answer_new : (Party → Hash32 → Hash32) → Identity → List Entry → Request → Moment → NotaryAnswer
answer_new mark me entries q now = if is_notary me then answer_torn mark me.party entries q now (visible_of q.torn) else answer.WrongNotary

-- an answer, and whether it is fresh, so that an entry of it is added
pub record Reply : Type 0 where
  pub answer : NotaryAnswer
  pub fresh : Bool

-- the answer of the entry that the request repeats; else a new answer, fresh where the node is its network's notary
abbrev pub reply_over : (Party → Hash32 → Hash32) → Identity → List Entry → Request → Moment → Option Entry → Reply
reply_over mark me entries q now (Some e) = record { answer = e.answer; fresh = false }
reply_over mark me entries q now None = record { answer = answer_new mark me entries q now; fresh = is_notary me }

-- what the notary replies to a request over the entries of its book
unfoldable pub reply : (Party → Hash32 → Hash32) → List Entry → Request → Identity → Moment → Reply
reply mark entries q me now = reply_over mark me entries q now (find (repeats q) entries)

-- the inputs that a tear-off shows, none where it is bad
abbrev pub inputs_of : Option Visible → List StateRef
inputs_of None = []
inputs_of (Some v) = v.inputs

-- the entry that is added for a fresh answer
abbrev pub entry_of : Request → NotaryAnswer → Entry
entry_of q given = record { request = q; inputs = inputs_of (visible_of q.torn); answer = given }

-- the ids whose first signed entry has the reference among its inputs; before are the entries that stand before these
abbrev pub consumers_after : List Entry → List Entry → StateRef → List Hash32
consumers_after before [] r = []
consumers_after before (e ∷ es) r =
    if (is_signature e.answer && not (list_any (signs e.request.torn.id) before)) && has_ref r e.inputs
    then e.request.torn.id ∷ consumers_after (before ++ e ∷ []) es r
    else consumers_after (before ++ e ∷ []) es r

-- the ids whose first signed entry in the book has the reference among its inputs
unfoldable pub consumers : List Entry → StateRef → List Hash32
consumers book r = consumers_after [] book r

-- an entry was added for a fresh answer over the entries before it, at this moment
abbrev pub IsBookedAt : (Party → Hash32 → Hash32) → Identity → List Entry → Moment → Entry → Type 0
IsBookedAt mark me before now e =
    ((reply mark before e.request me now).fresh ≡ true) × (entry_of e.request (reply mark before e.request me now).answer ≡ e)

-- an entry was added so at some moment
abbrev pub IsBooked : (Party → Hash32 → Hash32) → Identity → List Entry → Entry → Type 0
IsBooked mark me before e = (now : Moment) × IsBookedAt mark me before now e

-- each of these entries was, over the entries before and those ahead of it
abbrev pub IsBookAfter : (Party → Hash32 → Hash32) → Identity → List Entry → List Entry → Type 0
IsBookAfter mark me before [] = ⊤
IsBookAfter mark me before (e ∷ es) = IsBooked mark me before e × IsBookAfter mark me (before ++ e ∷ []) es

-- each entry of the book was added for a fresh answer over the entries before it
unfoldable pub IsBook : (Party → Hash32 → Hash32) → Identity → List Entry → Type 0
IsBook mark me book = IsBookAfter mark me [] book
