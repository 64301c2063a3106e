use Rattle.std.proofs.Common.{◌≡◌, length, ap, sym, ◌∙◌, arith, rules}
use Rattle.std.proofs.lemmas.List.{length-map}
use Rattle.net_model.specs.Environment.{meaning}
use Rattle.flow_workers.proofs.Gathering.{works_all, works_here, drained_count, seen_length}
use Rattle.flow_workers.proofs.working.work_as.Goals as goal

pub fill_desks-desks-requires-clause-by : goal.fill_desks-desks-requires-clause-by
fill_desks-desks-requires-clause-by g c = rw c.requires.now c.requires.by

pub gather-nodes-requires-clause-room : goal.gather-nodes-requires-clause-room
gather-nodes-requires-clause-room g c =
    let n : c.len-2.result ≡ length c.args.nodes.items = search rules in
    omega (arith, n, c.fill_desks-desks.ensures, c.in-Ok-with_capacity.ensures.capacity)

pub returns-clause-by : goal.returns-clause-by
returns-clause-by g c = rw (sym c.requires.now) c.gather-nodes.ensures.by

pub returns-clause-works : goal.returns-clause-works
returns-clause-works g c waited spread len =
    let k = length c.args.nodes.items in
    let ids : length c.inboxes.result.now ≡ k = ap (λ l. length l) (c.inboxes.ensures ∙ c.requires.inboxes) ∙ c.requires.stage.inboxes in
    let before = meaning g.F.FlowSet.machine g.F.Spelt.reading g.J.Call.judge in
    works_here before _ _ _ _ _ waited _ _ _ (ap (meaning g.F.FlowSet.machine g.F.Spelt.reading) c.requires.judge) c.requires.now c.requires.came
    (works_all before g.J.Call.now g.J.Call.came waited _ _ _ _ _ k _ spread c.requires.few (c.gather-nodes.ensures.count ∙ c.fill_desks-desks.ensures) (ap (λ l. length l) c.requires.came) len
    (length-map c.drain_all-lists.result.items (λ v. v.items) ∙ c.drain_all-lists.ensures.count ∙ ids)
    (seen_length c.drain_all-lists.new.own.items c.inboxes.result.now k c.drain_all-lists.ensures.of ids)
    c.gather-nodes.ensures.gathered
    (c.drain_all-lists.ensures.moves 0)
    (drained_count _ k _ _ _ ids c.drain_all-lists.ensures.left))
