-- The tags that a network holds, and when those of the notary are good.
use Rattle.std.specs.Prelude.{◌≡◌, ℕ, ◌&&◌, ◌||◌, not, List, [], Option, Some, None, Bool, true, slice_get}
use Rattle.std.specs.List.{list_all, list_any}
use Rattle.net_base.specs.declared.names.Tag.{Tag}
use Rattle.net_base.specs.declared.causes.Cause.{Cause}
use Rattle.ledger_types.specs.declared.notary.Entry.{Entry}
use Rattle.ledger_types.specs.Names.{party_eq}
use Rattle.ledger_types.specs.Signatures.{checks}
use Rattle.ledger_types.specs.Notary.{signs}
use Rattle.session_wire.specs.declared.body.Body.{Body}
use Rattle.session_wire.specs.declared.body.Body.TheVariants as body_of
use Rattle.flow_machine.specs.Machine.{Machine}
use Rattle.flow_machine.specs.declared.flows.FlowState.{FlowState}
use Rattle.flow_machine.specs.declared.flows.FlowState.TheVariants as state
use Rattle.flow_machine.specs.Tags.{answer_tags, value_tags, act_tags, KeepsTags, BeginsBare}
use Rattle.session_wire.specs.Sessions.{Session}
use Rattle.net_model.specs.Environment.{Environment}
use Rattle.net_model.specs.State.{NodeState}
use Rattle.net_model.specs.Runs.{run_of}

-- the tags in a body
abbrev pub body_tags : Body → List Tag
body_tags (body_of.Init class first) = value_tags first
body_tags (body_of.Data v) = value_tags v
body_tags _ = []

-- whether each tag of a flow passes a test
abbrev pub flow_passes : {F : Type 0} → (F → List Tag) → (Tag → Bool) → FlowState F → Bool
flow_passes tags test (state.Live at) = list_all test (tags at.stack.top) && (list_all (λ frame. list_all test (tags frame)) at.stack.below && list_all test (act_tags tags at.waiting))
flow_passes tags test (state.Ended step class v) = list_all test (value_tags v)
flow_passes tags test (state.Failed step class code) = true

-- whether each tag of a body does
abbrev pub body_passes : (Tag → Bool) → Body → Bool
body_passes test body = list_all test (body_tags body)

-- whether each tag of an ending does
abbrev pub ending_passes : (Tag → Bool) → Option Body → Bool
ending_passes test None = true
ending_passes test (Some body) = body_passes test body

-- whether each tag of a session does
abbrev pub session_passes : (Tag → Bool) → Session → Bool
session_passes test s = list_all (λ sent. body_passes test sent.body) s.sent && (list_all (body_passes test) s.came && ending_passes test s.ending)

-- whether each tag of an entry does
abbrev pub entry_passes : (Tag → Bool) → Entry → Bool
entry_passes test e = test e.request.tag && list_all test (answer_tags e.answer)

-- each tag of a node passes the test
pub record Passes {F : Type 0} (m : Machine F) (test : Tag → Bool) (s : NodeState F) : Type 0 where
  pub flows : list_all (flow_passes m.tags test) s.flows ≡ true
  pub sessions : list_all (session_passes test) s.sessions ≡ true
  pub stored : list_all (λ stx. list_all test stx.tags) s.stored ≡ true
  pub entries : list_all (entry_passes test) s.entries ≡ true

-- whether a tag, if it is the notary's, checks and is over an id that the book has signed
abbrev pub is_good : {F : Type 0} → Environment F → List Entry → Tag → Bool
is_good w book tag = not (party_eq tag.by w.notary) || (checks w.mark tag && list_any (signs tag.of) book)

-- the entries of a node, none where there is no node
abbrev pub entries_at : {F : Type 0} → Option (NodeState F) → List Entry
entries_at None = []
entries_at (Some s) = s.entries

-- the notary's book
abbrev pub book_of : {F : Type 0} → Environment F → List (NodeState F) → List Entry
book_of w net = entries_at (slice_get net w.notary.0)

-- each tag by the notary that a network holds is good
abbrev pub Holds : {F : Type 0} → Environment F → List (NodeState F) → Type 0
Holds {F} w net = (p : ℕ) (s : NodeState F) → slice_get net p ≡ Some s → Passes w.machine (is_good w (book_of w net)) s

-- ---- laws

-- in a run each tag by the notary is good
abbrev pub NotaryTagsHold : (F : Type 0) → Type 0
NotaryTagsHold F = (w : Environment F) (causes : List (ℕ × Cause)) (net : List (NodeState F)) → KeepsTags w.machine → BeginsBare w.machine → run_of w causes ≡ Some net → Holds w net
