-- A disk of the host may go to another thread, where its runtime may be shared: it owns a file or a disk in memory, and refers to the runtime.
use denote.Param.Send.{IsSend, IsSync, sendable, view_send}
use denote.Ref.{NamedLft}
use denote.RattleType.{RattleType}
use Rattle.std.proofs.Crossing.{crosses}
use Rattle.std.specs.declared.fs.File.{File}
use Rattle.std.specs.declared.io.traits.Read as Read
use Rattle.std.specs.declared.io.traits.Seek as Seek
use Rattle.std.specs.declared.io.traits.Write as Write
use Rattle.disk_mem.proofs.Crossing.{mem_send}
use Rattle.disk_host.specs.contracts.file.LockedFile as LockedFile
use Rattle.disk_host.specs.contracts.host.HostDisk as HostDisk
use Rattle.disk_host.specs.contracts.host.HostDisk.TheInside as Inside

pair : {A B : Type 0} → A → B → A × B
pair a b = (a, b)

locked_send : IsSend LockedFile.the_row
locked_send = search (crosses, pair, sendable) depth 40

module _ (a : NamedLft) (R N : RattleType) (r : Read.Ghosts File) (w : Write.Ghosts File) (s : Seek.Ghosts File) (n : Read.Ghosts N.Denot) (y : IsSync R) where
  inside_send : IsSend (Inside.the_row a R N r w s n)
  inside_send = search (mem_send, locked_send, pair, sendable) depth 100 fits 100000

  pub host_send : IsSend (HostDisk.the_row a R N r w s n)
  host_send = view_send (Inside.the_row a R N r w s n) _ _ _ _ inside_send
