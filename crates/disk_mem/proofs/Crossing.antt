-- A disk in memory may go to another thread: it owns bytes, numbers and names, and nothing of the thread that made it.
use denote.Param.Send.{IsSend, sendable, view_send}
use Rattle.std.proofs.Crossing.{crosses}
use Rattle.disk_mem.specs.contracts.label.Label as Label
use Rattle.disk_mem.specs.contracts.label.Said as Said
use Rattle.disk_mem.specs.contracts.lay.Fuse as Fuse
use Rattle.disk_mem.specs.contracts.lay.Last as Last
use Rattle.disk_mem.specs.contracts.lay.Medium as Medium
use Rattle.disk_mem.specs.contracts.mem.MemDisk as MemDisk
use Rattle.disk_mem.specs.contracts.mem.MemDisk.TheInside as Inside

pair : {A B : Type 0} → A → B → A × B
pair a b = (a, b)

fuse_send : IsSend Fuse.the_row
fuse_send = search (pair, sendable) depth 40

said_send : IsSend Said.the_row
said_send = search sendable depth 40

label_send : IsSend Label.the_row
label_send = search (said_send, pair, sendable) depth 40

medium_send : IsSend Medium.the_row
medium_send = search (crosses, pair, sendable) depth 40

last_send : IsSend Last.the_row
last_send = search (crosses, pair, sendable) depth 40

inside_send : IsSend Inside.the_row
inside_send = search (medium_send, last_send, fuse_send, label_send, crosses, pair, sendable) depth 100 fits 100000

pub mem_send : IsSend MemDisk.the_row
mem_send = view_send Inside.the_row _ _ _ _ inside_send
