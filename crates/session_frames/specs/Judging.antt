-- What a node says of a frame before it commits anything.
use Rattle.std.specs.Prelude.{◌≡◌, ℕ, ◌==◌, ◌&&◌, ◌||◌, nat_le, nat_lt, not, List, Option, Some, None, Bool, false, if◌then◌else◌, length}
use Rattle.std.specs.Option.{option_map_or}
use Rattle.net_base.specs.declared.names.Identity.{Identity}
use Rattle.net_base.specs.declared.names.Key.{Key}
use Rattle.net_base.specs.declared.values.Party.{Party}
use Rattle.session_wire.specs.Frames.{IsFrame, frame}
use Rattle.session_wire.specs.Sessions.{Session, session_of}
use Rattle.session_wire.specs.declared.frame.Frame.{Frame}
use Rattle.session_wire.specs.declared.frame.Frame.TheVariants.{Message, Ack}
use Rattle.session_frames.specs.declared.judged.Judged.{Judged}
use Rattle.session_frames.specs.declared.judged.Judged.TheVariants.{Garbled, NotMine, NoSession, Early, Acked, Again, Next}

-- whether two parties differ
abbrev pub is_other : Party → Party → Bool
is_other a b = not (a.0 == b.0)

-- whether a party is outside a network of this number of nodes
abbrev pub is_no_node : ℕ → Party → Bool
is_no_node nodes party = nat_le nodes party.0

-- whether a session is there, and with this party
abbrev pub is_with : Party → Option Session → Bool
is_with party None = false
is_with party (Some session) = session.peer.0 == party.0

-- how many items arrived in a session; 0 where there is none
abbrev pub arrived : Option Session → ℕ
arrived session = option_map_or (λ s. length s.came) session 0

-- how many items were sent in a session; 0 where there is none
abbrev pub sent : Option Session → ℕ
sent session = option_map_or (λ s. length s.sent) session 0

-- whether a message lacks the session that it needs: one to the session's initiator needs it, with its sender
abbrev pub lacks_session : Party → ℕ → Option Session → Bool
lacks_session from direction session = (direction == 1) && not (is_with from session)

-- what is said of an item, but where its number is the expected one: it came before, or is ahead
abbrev pub misplaced : ℕ → Party → Key → ℕ → ℕ → Option Judged
misplaced expected from key direction number = if nat_lt number expected then Some (Again from key direction expected) else if nat_lt expected number then Some (Early expected) else None

-- what is said of a message, but where its item is the next one; the session is the one of its key
abbrev pub objection : Identity → Option Session → Party → Party → Key → ℕ → ℕ → Option Judged
objection node session from to key direction number =
    if is_other to node.party then Some (NotMine to)
    else if is_no_node node.nodes from || lacks_session from direction session then Some NoSession
    else misplaced (arrived session) from key direction number

-- what was said, or else this
abbrev pub or_else : Option Judged → Judged → Judged
or_else None judged = judged
or_else (Some judged) other = judged

-- what is said of an acknowledgement: it may not tell of more items than were sent
abbrev pub judge_ack : Identity → Option Session → Party → Party → Key → ℕ → ℕ → Judged
judge_ack node session from to key direction upto =
    if is_other to node.party then NotMine to
    else if is_no_node node.nodes from || not (is_with from session) then NoSession
    else if nat_lt (sent session) upto then Early (sent session) else Acked key direction upto

-- what a node with these sessions says of a frame
abbrev pub judge : Identity → List Session → Frame → Judged
judge node sessions (Message from to key direction seq stamp body) = or_else (objection node (session_of key sessions) from to key direction seq) (Next from key direction seq stamp body)
judge node sessions (Ack from to key direction upto) = judge_ack node (session_of key sessions) from to key direction upto

-- it is what the node says of the frame that the bytes spell
abbrev pub JudgesFrame : Identity → List Session → List ℕ → Judged → Type 0
JudgesFrame node sessions bytes judged = (f : Frame) × IsFrame f × (bytes ≡ frame f) × (judged ≡ judge node sessions f)

-- what the node says of these bytes: garbled exactly where they spell no frame, and else what it says of the frame that they spell
abbrev pub IsJudged : Identity → List Session → List ℕ → Judged → Type 0
IsJudged node sessions bytes Garbled = (f : Frame) → IsFrame f → bytes ≡ frame f → ⊥
IsJudged node sessions bytes judged = JudgesFrame node sessions bytes judged
