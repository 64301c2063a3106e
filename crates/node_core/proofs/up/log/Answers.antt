use Rattle.std.proofs.Common.{◌≡◌, Err, refl, ◌∙◌, ap, subst}
use Rattle.node_core.proofs.Logs.{SameButRoom, Stays, logs, fails}
use Rattle.node_core.proofs.up.log.Goals as goal

pub returns-in-Ok-clause-logs : goal.returns-in-Ok-clause-logs
returns-in-Ok-clause-logs g c =
    let a = c.append.ensures in
    let is : c.as_slice.result.now ≡ c.in_ok-body.body = c.as_slice.ensures in
    let room : SameButRoom c.args.journal.now c.make_room-2.new.self = record { same = c.make_room-2.ensures.same; disk = c.make_room-2.ensures.disk } in
    let stays : Stays c.make_room-2.new.self c.append.new.self c.in_ok-body.body = subst (Stays c.make_room-2.new.self c.append.new.self) is (record { rest = a.rest; later = a.later; moments = a.moments; kept = a.kept }) in
    logs g.F.Spelt.reading _ c.args.tables.now.bodies c.in_ok-body.body c.in_ok-body.ensures.record c.args.journal.now c.make_room-2.new.self c.append.new.self c.requires.tied room (c.make_room-2.ensures.ready c.requires.tied.ready) stays
    c.in-Ok.ensures.ready (rw is at c.in-Ok.ensures.done) (rw is at c.in-Ok.ensures.counts) (λ calm. (a.calm calm).0) (record { burns = c.in-Ok.ensures.burns; before = c.in-Ok.ensures.power.0; after = c.in-Ok.ensures.power.1 })

pub returns-in-Err-Fault-clause-logs : goal.returns-in-Err-Fault-clause-logs
returns-in-Err-Fault-clause-logs g c =
    let a = c.append.ensures in
    let is : c.as_slice.result.now ≡ c.in_ok-body.body = c.as_slice.ensures in
    let failed = c.in-Err-Fault.is ∙ ap Err c.in-Err-Fault.field-0-is in
    let room : SameButRoom c.args.journal.now c.make_room-2.new.self = record { same = c.make_room-2.ensures.same; disk = c.make_room-2.ensures.disk } in
    let stays : Stays c.make_room-2.new.self c.append.new.self c.in_ok-body.body = subst (Stays c.make_room-2.new.self c.append.new.self) is (record { rest = a.rest; later = a.later; moments = a.moments; kept = a.kept }) in
    fails g.F.Spelt.reading _ c.args.tables.now.bodies c.in_ok-body.body c.in_ok-body.ensures.record c.args.journal.now c.make_room-2.new.self c.append.new.self c.requires.tied room (c.make_room-2.ensures.ready c.requires.tied.ready) stays
    (a.cause (rw failed refl)) (λ calm. (a.calm calm).1 (rw failed refl)) a.no_more
