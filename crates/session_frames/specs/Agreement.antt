-- What the other side says of the frames that a node sends.
use Rattle.std.specs.Prelude.{◌≡◌, ℕ, ◌<◌, nat_lt, List, Option, Some, None, if◌then◌else◌, length}
use Rattle.net_base.specs.declared.names.Identity.{Identity}
use Rattle.net_base.specs.declared.names.Key.{Key}
use Rattle.net_base.specs.declared.values.Party.{Party}
use Rattle.session_wire.specs.Frames.{IsFrame, frame}
use Rattle.session_wire.specs.Sessions.{Session, session_of}
use Rattle.session_wire.specs.declared.frame.Frame.{Frame}
use Rattle.session_wire.specs.declared.frame.Frame.TheVariants.{Ack}
use Rattle.session_table.specs.declared.resent.Item.{Item}
use Rattle.session_frames.specs.declared.judged.Judged.{Judged}
use Rattle.session_frames.specs.declared.judged.Judged.TheVariants.{Early, Acked, Again, Next}
use Rattle.session_frames.specs.Judging.{arrived, judge, IsJudged}
use Rattle.session_frames.specs.Sending.{message_of}

-- the node is a party's other side in a session; where it has none of that key, the party sends as its initiator
abbrev pub IsOtherSide : Party → ℕ → Option Session → Type 0
IsOtherSide me direction None = direction ≡ 0
IsOtherSide me direction (Some session) = session.peer ≡ me

-- what is said of an item's message where this number of items of its session arrived
abbrev pub said_of : Party → Item → ℕ → Judged
said_of me item count =
    if nat_lt item.number count then Again me item.key item.direction count
    else if nat_lt count item.number then Early count
    else Next me item.key item.direction item.number item.stamp item.body

-- The addressee of an item's message says that it is the next item, with the body and the stamp that were sent, where exactly those before it arrived; that it came before where more did; and that it is early where fewer did.
abbrev pub MessagesAreJudged : Type 0
MessagesAreJudged = (me : Party) (item : Item) (node : Identity) (sessions : List Session) → item.peer ≡ node.party → me.0 < node.nodes → IsOtherSide me item.direction (session_of item.key sessions)
    → judge node sessions (message_of me item) ≡ said_of me item (arrived (session_of item.key sessions))

-- what is said of an acknowledgement where this number of items was sent
abbrev pub noted : Key → ℕ → ℕ → ℕ → Judged
noted key direction upto count = if nat_lt count upto then Early count else Acked key direction upto

-- The addressee of an acknowledgement notes it where it sent as many items as are acknowledged, and says that it is early where it sent fewer.
abbrev pub AcknowledgementsAreJudged : Type 0
AcknowledgementsAreJudged = (me : Party) (key : Key) (direction upto : ℕ) (node : Identity) (sessions : List Session) (session : Session) → me.0 < node.nodes → session_of key sessions ≡ Some session → session.peer ≡ me
    → judge node sessions (Ack me node.party key direction upto) ≡ noted key direction upto (length session.sent)

-- what is said of a frame's spelling is said of the frame
abbrev pub SpellingsAreJudged : Type 0
SpellingsAreJudged = (node : Identity) (sessions : List Session) (f : Frame) (judged : Judged) → IsFrame f → IsJudged node sessions (frame f) judged → judged ≡ judge node sessions f
