use Rattle.flow_workers.proofs.working.work.Given as goal

abbrev pub ghosts-work_as : goal.ghosts-work_as
ghosts-work_as g a = record { now = a.now.0; came = a.nodes.items; inboxes = a.stage.inboxes.items; judge = g.C.Judge.judges a.contracts.now }
