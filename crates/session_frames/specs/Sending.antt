-- The frames that a node sends.
use Rattle.std.specs.Prelude.{◌≡◌, List}
use Rattle.std.specs.List.{AllByRecursion}
use Rattle.net_base.specs.declared.values.Party.{Party}
use Rattle.session_wire.specs.Frames.{IsFrame, frame}
use Rattle.session_wire.specs.declared.frame.Frame.{Frame}
use Rattle.session_wire.specs.declared.frame.Frame.TheVariants.{Message, Ack}
use Rattle.session_table.specs.declared.resent.Item.{Item}
use Rattle.session_frames.specs.declared.sending.Outgoing.{Outgoing}

-- the message that carries an item
abbrev pub message_of : Party → Item → Frame
message_of me item = Message me item.peer item.key item.direction item.number item.stamp item.body

-- the message's spelling, with its addressee
abbrev pub outgoing : Party → Item → Outgoing
outgoing me item = record { to = item.peer; bytes = frame (message_of me item) }

-- the party that a frame is sent to
abbrev pub addressee : Frame → Party
addressee (Message from to key direction seq stamp body) = to
addressee (Ack from to key direction upto) = to

-- the bytes are a frame's, and it is sent to the party that is named
pub record IsAddressed (sent : Outgoing) : Type 0 where
  pub carried : Frame
  pub lawful : IsFrame carried
  pub whole : sent.bytes ≡ frame carried
  pub to : addressee carried ≡ sent.to

-- the message of each item is a frame
abbrev pub AreMessages : Party → List Item → Type 0
AreMessages me items = AllByRecursion (λ item. IsFrame (message_of me item)) items
