-- Runs of the whole network, and which journals are those of a run.
use Rattle.std.specs.Prelude.{◌≡◌, ℕ, ◌+◌, ◌<◌, ◌==◌, ◌&&◌, ◌||◌, get_or, List, [], ◌∷◌, ◌++◌, Option, Some, None, Bool, true, false, if◌then◌else◌, IsSome, length, map, max, option_map, option_and_then, nat_lt, replicate, slice_get, slice_set, take, ⊤, ◌↔◌}
use Rattle.std.specs.Borrow.{Bor}
use Rattle.std.specs.List.{AllByRecursion}
use Rattle.net_base.specs.declared.names.Key.{Key}
use Rattle.net_base.specs.declared.causes.Cause.{Cause}
use Rattle.net_base.specs.declared.causes.Event.{Event}
use Rattle.net_base.specs.declared.causes.Event.TheVariants as event
use Rattle.session_wire.specs.declared.body.Body.{Body}
use Rattle.session_wire.specs.Sessions.{Sent, Session, session_of}
use Rattle.net_model.specs.Environment.{Environment}
use Rattle.net_model.specs.State.{NodeState, Effect, Record, apply_effect, fresh, replay}
use Rattle.net_model.specs.Steps.{node_step}

-- ---- one step of the network

-- the item of that number, where the session is with the node
abbrev pub sent_to : ℕ → ℕ → Option Session → Option Sent
sent_to me number None = None
sent_to me number (Some session) = if session.peer.0 == me then slice_get session.sent number else None

-- the item of that number that a sender has for the node in the session of the key
unfoldable pub item_from : {F : Type 0} → List (NodeState F) → ℕ → ℕ → Key → ℕ → Option Sent
item_from net me sender key number = option_and_then (λ s. sent_to me number (session_of key s.sessions)) (slice_get net sender)

-- the item that an event accepts: the first one of the initiator, or the one of that number of the session's peer
abbrev pub item_for : {F : Type 0} → List (NodeState F) → ℕ → NodeState F → Event → Option Sent
item_for net me s (event.Answer key) = item_from net me key.initiator.0 key 0
item_for net me s (event.Arrive key direction number) = option_and_then (λ session. item_from net me session.peer.0 key number) (session_of key s.sessions)
item_for net me s _ = None

-- the network once the state of node p has changed, with the effect
abbrev pub net_step_at : {F : Type 0} → Environment F → List (NodeState F) → ℕ → Cause → NodeState F → Option (List (NodeState F) × Effect F)
net_step_at w net p cause s = option_map (λ done. (slice_set net p done.0, done.1)) (node_step w p s cause (item_for net p s cause.event))

-- node p does what the cause says, and all others stay
unfoldable pub net_step : {F : Type 0} → Environment F → List (NodeState F) → ℕ → Cause → Option (List (NodeState F) × Effect F)
net_step w net p cause = option_and_then (net_step_at w net p cause) (slice_get net p)

-- ---- runs

-- the network in which nothing has happened
abbrev pub fresh_net : {F : Type 0} → Environment F → List (NodeState F)
fresh_net w = replicate w.nodes fresh

-- the network after these causes, each at its node, where each is a step
abbrev pub run_from : {F : Type 0} → Environment F → List (NodeState F) → List (ℕ × Cause) → Option (List (NodeState F))
run_from w net [] = Some net
run_from w net (x ∷ xs) = option_and_then (λ done. run_from w done.0 xs) (net_step w net x.0 x.1)

-- the network after these causes from the beginning
unfoldable pub run_of : {F : Type 0} → Environment F → List (ℕ × Cause) → Option (List (NodeState F))
run_of w causes = run_from w (fresh_net w) causes

-- each cause in turn is a step
abbrev pub IsLegal : {F : Type 0} → Environment F → List (ℕ × Cause) → Type 0
IsLegal w causes = IsSome (run_of w causes)

-- ---- lists of all nodes in one order

-- by stamp and then by node
abbrev pub is_before : {X : Type 0} → (X → ℕ) → ℕ × X → ℕ × X → Bool
is_before stamp a b = nat_lt (stamp a.1) (stamp b.1) || ((stamp a.1 == stamp b.1) && nat_lt a.0 b.0)

-- x, after those of the list that are before it, then the rest
abbrev pub put : {X : Type 0} → (X → X → Bool) → X → (List X → List X) → List X → List X
put before x rest [] = x ∷ rest []
put before x rest (y ∷ ys) = elim (before y x) [ true ↦ y ∷ put before x rest ys | false ↦ x ∷ rest (y ∷ ys) ]

-- two lists as one: again and again the lesser of their heads
abbrev pub merge_two : {X : Type 0} → (X → X → Bool) → List X → List X → List X
merge_two before [] ys = ys
merge_two before (x ∷ xs) ys = put before x (merge_two before xs) ys

-- the lists of the nodes from p on as one
abbrev pub merge_from : {X : Type 0} → (X → ℕ) → ℕ → List (List X) → List (ℕ × X)
merge_from stamp p [] = []
merge_from stamp p (xs ∷ rest) = merge_two (is_before stamp) (map (λ x. (p, x)) xs) (merge_from stamp (p + 1) rest)

-- the lists of the nodes as one, by stamp and then by node
unfoldable pub merge : {X : Type 0} → (X → ℕ) → List (List X) → List (ℕ × X)
merge stamp lists = merge_from stamp 0 lists

-- the stamp of a cause
abbrev pub stamp_of : Cause → ℕ
stamp_of cause = cause.stamp

-- the journals of the nodes as one list of causes
abbrev pub merged : List (List Cause) → List (ℕ × Cause)
merged journals = merge stamp_of journals

-- each of a list with its node
abbrev pub at_node : {X : Type 0} → ℕ → List X → List (ℕ × X)
at_node p xs = map (λ x. (p, x)) xs

-- the causes of a node and those of the nodes behind it as one list
abbrev pub merged_with : ℕ → List Cause → List (ℕ × Cause) → List (ℕ × Cause)
merged_with p causes later = merge_two (is_before stamp_of) (at_node p causes) later

-- causes that are lent, each with its node
abbrev pub lent : List (ℕ × Bor Cause) → List (ℕ × Cause)
lent causes = map (λ x. (x.0, x.1.now)) causes

-- the network after the causes of all journals, where they are a run
unfoldable pub network_of : {F : Type 0} → Environment F → List (List Cause) → Option (List (NodeState F))
network_of w journals = run_of w (merged journals)

-- ---- journals of records

-- the stamp of a record
abbrev pub record_stamp : {F : Type 0} → Record F → ℕ
record_stamp r = r.cause.stamp

-- the network goes on by these records, each effect the one that its cause has there
abbrev pub Follows : {F : Type 0} → Environment F → List (NodeState F) → List (ℕ × Record F) → Type 0
Follows w net [] = ⊤
Follows {F} w net (x ∷ xs) = (next : List (NodeState F)) × (net_step w net x.0 x.1.cause ≡ Some (next, x.1.effect)) × Follows w next xs

-- the merged journals are a run, with the effects that they hold
abbrev pub IsFaithful : {F : Type 0} → Environment F → List (List (Record F)) → Type 0
IsFaithful w journals = Follows w (fresh_net w) (merge record_stamp journals)

-- a body as an item with a stamp
abbrev pub stamped : ℕ → Option Body → Option Sent
stamped stamp body = option_map (λ b. record { body = b; stamp = stamp }) body

-- each record is a step of its node alone, with its own item under some stamp
abbrev pub IsLocalFrom : {F : Type 0} → Environment F → ℕ → NodeState F → List (Record F) → Type 0
IsLocalFrom w p s [] = ⊤
IsLocalFrom {F} w p s (r ∷ rs) = (stamp : ℕ) × (next : NodeState F) × (node_step w p s r.cause (stamped stamp r.effect.change.came) ≡ Some (next, r.effect)) × IsLocalFrom w p next rs

-- a journal is one that its node alone may have
abbrev pub IsLocal : {F : Type 0} → Environment F → ℕ → List (Record F) → Type 0
IsLocal w p records = IsLocalFrom w p fresh records

-- the accepted item is the one that its sender has, and its stamp is kept to
pub record IsItem {F : Type 0} (net : List (NodeState F)) (p : ℕ) (s : NodeState F) (r : Record F) : Type 0 where
  pub item : Sent
  pub is_sent : item_for net p s r.cause.event ≡ Some item
  pub is_body : r.effect.change.came ≡ Some item.body
  pub in_turn : r.cause.stamp ≡ max s.stamp item.stamp + 1

-- whether an event accepts an item
abbrev pub accepts : Event → Bool
accepts (event.Answer key) = true
accepts (event.Arrive key direction number) = true
accepts _ = false

-- each accepted item of these records is its sender's in the network
abbrev pub IsMatchedFrom : {F : Type 0} → List (NodeState F) → ℕ → NodeState F → List (Record F) → Type 0
IsMatchedFrom net p s [] = ⊤
IsMatchedFrom net p s (r ∷ rs) = (accepts r.cause.event ≡ true → IsItem net p s r) × IsMatchedFrom net p (apply_effect s r.cause r.effect) rs

-- each accepted item is its sender's, by the whole journals
abbrev pub IsMatched : {F : Type 0} → List (List (Record F)) → Type 0
IsMatched {F} journals = (p : ℕ) (records : List (Record F)) → slice_get journals p ≡ Some records → IsMatchedFrom (map replay journals) p fresh records

-- each journal is one that its node alone may have
abbrev pub AreLocal : {F : Type 0} → Environment F → List (List (Record F)) → Type 0
AreLocal {F} w journals = (p : ℕ) (records : List (Record F)) → slice_get journals p ≡ Some records → IsLocal w p records

-- ---- laws

-- each is before all that follow
abbrev pub AreOrdered : {X : Type 0} → (X → ℕ) → List (ℕ × X) → Type 0
AreOrdered stamp [] = ⊤
AreOrdered stamp (x ∷ xs) = AllByRecursion (λ y. is_before stamp x y ≡ true) xs × AreOrdered stamp xs

-- the stamps rise, from above n
abbrev pub AreRising : {X : Type 0} → (X → ℕ) → ℕ → List X → Type 0
AreRising stamp n [] = ⊤
AreRising stamp n (x ∷ xs) = (n < stamp x) × AreRising stamp (stamp x) xs

-- lists with rising stamps are merged in order
abbrev pub MergesInOrder : (X : Type 0) → Type 0
MergesInOrder X = (stamp : X → ℕ) (lists : List (List X)) → AllByRecursion (AreRising stamp 0) lists → AreOrdered stamp (merge stamp lists)

-- the causes of one node, out of those of all
abbrev pub causes_at : ℕ → List (ℕ × Cause) → List Cause
causes_at p [] = []
causes_at p (x ∷ xs) = elim (x.0 == p) [ true ↦ x.1 ∷ causes_at p xs | false ↦ causes_at p xs ]

-- the merged journals hold the causes of each node as its journal has them, and none of other nodes
abbrev pub MergesEach : Type 0
MergesEach = (journals : List (List Cause)) (p : ℕ) → causes_at p (merged journals) ≡ get_or journals p []

-- each prefix of a run is a run
abbrev pub PrefixesAreRuns : (F : Type 0) → Type 0
PrefixesAreRuns F = (w : Environment F) (first rest : List (ℕ × Cause)) → IsLegal w (first ++ rest) → IsLegal w first

-- along a run the stamps of each node rise
abbrev pub StampsRise : (F : Type 0) → Type 0
StampsRise F = (w : Environment F) (causes : List (ℕ × Cause)) → IsLegal w causes → (p : ℕ) → AreRising stamp_of 0 (causes_at p causes)

-- the state after a step is what its effect makes of the state before
abbrev pub StepIsItsEffect : (F : Type 0) → Type 0
StepIsItsEffect F = (w : Environment F) (p : ℕ) (s next : NodeState F) (cause : Cause) (item : Option Sent) (e : Effect F) → node_step w p s cause item ≡ Some (next, e) → next ≡ apply_effect s cause e

-- a step loses and changes no item that was sent
abbrev pub ItemsStay : (F : Type 0) → Type 0
ItemsStay F = (w : Environment F) (net next : List (NodeState F)) (p : ℕ) (cause : Cause) (e : Effect F) → net_step w net p cause ≡ Some (next, e)
    → (q me n : ℕ) (key : Key) (item : Sent) → item_from net me q key n ≡ Some item → item_from next me q key n ≡ Some item

-- what a step sends bears its stamp: an item of another stamp was sent before it
abbrev pub ItemsAreStamped : (F : Type 0) → Type 0
ItemsAreStamped F = (w : Environment F) (net next : List (NodeState F)) (p : ℕ) (cause : Cause) (e : Effect F) → net_step w net p cause ≡ Some (next, e)
    → (q me n : ℕ) (key : Key) (item : Sent) → item_from next me q key n ≡ Some item → (item.stamp ≡ cause.stamp → ⊥) → item_from net me q key n ≡ Some item

-- journals, one of each node, are those of a run exactly where each record is a step of its node alone and each accepted item is its sender's
abbrev pub FaithfulExactly : (F : Type 0) → Type 0
FaithfulExactly F = (w : Environment F) (journals : List (List (Record F))) → length journals ≡ w.nodes → (IsFaithful w journals ↔ (AreLocal w journals × IsMatched journals))

-- the merged causes of such journals are a legal run, and the network after it is what each journal makes
abbrev pub FaithfulRun : (F : Type 0) → Type 0
FaithfulRun F = (w : Environment F) (journals : List (List (Record F))) → length journals ≡ w.nodes → IsFaithful w journals → network_of w (map (map (λ r. r.cause)) journals) ≡ Some (map replay journals)

-- one more record that is a step of its node over some item keeps journals local
abbrev pub CommitsKeepLocal : (F : Type 0) → Type 0
CommitsKeepLocal F = (w : Environment F) (journals : List (List (Record F))) (p n : ℕ) (records : List (Record F)) (r : Record F) (next : NodeState F) → slice_get journals p ≡ Some records → AreLocal w journals
    → node_step w p (replay records) r.cause (stamped n r.effect.change.came) ≡ Some (next, r.effect) → AreLocal w (slice_set journals p (records ++ r ∷ []))

-- one more record whose accepted item, if it has one, is its sender's keeps journals matched
abbrev pub CommitsKeepMatched : (F : Type 0) → Type 0
CommitsKeepMatched F = (journals : List (List (Record F))) (p : ℕ) (records : List (Record F)) (r : Record F) → slice_get journals p ≡ Some records → IsMatched journals
    → (accepts r.cause.event ≡ true → IsItem (map replay journals) p (replay records) r) → IsMatched (slice_set journals p (records ++ r ∷ []))

-- what a node has sent in a session, where the session is with the node `me`
abbrev pub sent_in : ℕ → Option Session → List Sent
sent_in me None = []
sent_in me (Some session) = if session.peer.0 == me then session.sent else []

-- what a sender has sent to the node in the session of the key
abbrev pub items_from : {F : Type 0} → List (NodeState F) → ℕ → ℕ → Key → List Sent
items_from net me sender key = sent_in me (option_and_then (λ s. session_of key s.sessions) (slice_get net sender))

-- what has come into each session of each node is a front of what the session's peer has sent there: in order, none passed over, none twice, none that was not sent
abbrev pub CameFromPeers : {F : Type 0} → List (NodeState F) → Type 0
CameFromPeers {F} net = (p : ℕ) (s : NodeState F) (key : Key) (session : Session) → slice_get net p ≡ Some s → session_of key s.sessions ≡ Some session
    → session.came ≡ take (length session.came) (map (λ sent. sent.body) (items_from net p session.peer.0 key))

-- so it is in a run
abbrev pub CameWasSent : (F : Type 0) → Type 0
CameWasSent F = (w : Environment F) (causes : List (ℕ × Cause)) (net : List (NodeState F)) → run_of w causes ≡ Some net → CameFromPeers net

-- and with what the journals of a run make
abbrev pub CameWasSentInJournals : (F : Type 0) → Type 0
CameWasSentInJournals F = (w : Environment F) (journals : List (List (Record F))) → length journals ≡ w.nodes → IsFaithful w journals → CameFromPeers (map replay journals)
