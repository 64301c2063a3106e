use Rattle.node_core.specs.Seen.{Tied}
use Rattle.node_core.proofs.Boots.{Opening, Closing, opening_tied, opening_opens, unopened, unbooted}
use Rattle.node_core.proofs.up.Up.open.Goals as goal

pub returns-in-Ok-rebuild-clause-ok : goal.returns-in-Ok-rebuild-clause-ok
returns-in-Ok-rebuild-clause-ok g c =
    let o = c.in-Ok.ensures in
    let journal = c.in-Ok.opened.0 in
    let list = c.in-Ok.opened.1 in
    let old = g.D.Disk.seen c.args.disk in
    let opening : Opening c.args.identity old journal list = record { limits = c.requires; format = o.opened; told = o.list; ready = o.ready; left = o.left; same = o.same; counts = o.counts; moments = o.moments; young = o.young; sound = o.sound; later = o.later; calm = o.calm; power = o.power; burns = o.burns; no_more = o.no_more; attached = o.attached; rest = o.of_file } in
    let run = c.in-Ok-rebuild.ensures in
    let tied : Tied c.args.identity journal c.in-Ok-rebuild.tables.bodies = opening_tied c.args.identity old journal list c.in-Ok-rebuild.tables.bodies opening run.0 in
    (list, run.0, run.5, record { opens = opening_opens c.args.identity old journal list opening; fits = run.4 }, tied)

pub returns-in-Err-rebuild-clause-refused : goal.returns-in-Err-rebuild-clause-refused
returns-in-Err-rebuild-clause-refused g c =
    let o = c.in-Ok.ensures in
    let journal = c.in-Ok.opened.0 in
    let list = c.in-Ok.opened.1 in
    let old = g.D.Disk.seen c.args.disk in
    let opening : Opening c.args.identity old journal list = record { limits = c.requires; format = o.opened; told = o.list; ready = o.ready; left = o.left; same = o.same; counts = o.counts; moments = o.moments; young = o.young; sound = o.sound; later = o.later; calm = o.calm; power = o.power; burns = o.burns; no_more = o.no_more; attached = o.attached; rest = o.of_file } in
    rw (c.from-in-Err-rebuild.ensures, c.into_disk.ensures) (unbooted g.F.Spelt.reading c.args.identity old journal list c.in-Err-rebuild.why opening c.in-Err-rebuild.ensures)

pub returns-in-Err-clause-refused : goal.returns-in-Err-clause-refused
returns-in-Err-clause-refused g c =
    let o = c.in-Err.ensures in
    let old = g.D.Disk.seen c.args.disk in
    let new = g.D.Disk.seen c.in-Err.refused.disk in
    let closing : Closing c.args.identity old c.in-Err.refused.why new = record { refused = o.refused; begun = o.begun; was = o.was; kept = o.kept; bytes = o.bytes; moments = o.moments; young = o.young; sound = o.sound; cause = o.cause; later = o.later; calm = o.calm; power = o.refused_power; burns = o.refused_burns; no_more = o.no_more; attached = o.attached; rest = o.of_file } in
    rw c.from.ensures (unopened g.F.Spelt.reading c.args.identity old new c.in-Err.refused.why closing)
