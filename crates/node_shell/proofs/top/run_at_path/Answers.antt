use Rattle.std.proofs.Common.{inl, inr, length, map, drop, [], Some, sym, ◌∙◌, ap, subst}
use Rattle.std.specs.Prelude.{Err}
use Rattle.node_shell.specs.declared.statuses.Status.{Status}
use Rattle.net_model.specs.Environment.{meaning}
use Rattle.node_disks.specs.Pair.{pair_seen}
use Rattle.node_shell.specs.Runs.{SomeRises, NoneFalls, StopsNaming}
use Rattle.node_shell.proofs.Readying.{kept_count, fails_rises, named_same}
use Rattle.node_shell.proofs.Opening.{opening_number, is_disk_fault}
use Rattle.node_shell.proofs.Unread.{still_ends, still_played}
use Rattle.node_shell.proofs.top.run_at_path.Goals as goal

-- a disk was not made ready
pub returns-in-Err : goal.returns-in-Err
returns-in-Err g c =
    let m = meaning g.F.FlowSet.machine g.F.Spelt.reading (g.J.Judge.judges c.args.contracts.now) in
    let seen = pair_seen g.B.Disk.seen in
    let n = c.args.network in
    let s = c.in-Err.status in
    let end = c.end_with.ensures in
    let same = ap (λ v. v.items) end.1 in
    let there = ap (map seen) (sym same) in
    let olds = map seen c.args.disks.items in
    let a = c.attach_all.ensures in
    let kind = c.in-Err.ensures.kinds in
    let left = g.S.Source.left c.args.source.now in
    let written = g.K.Sink.written c.args.sink.now in
    let a0 = g.S.Source.faults c.args.source.now in
    let b0 = g.K.Sink.faults c.args.sink.now in
    let falls : NoneFalls olds (map seen c.end_with.result.disks.items) = subst (NoneFalls olds) there a.none_falls in
    record {
      files = record {
        ready = c.attach_all.new.disks.items;
        none_falls = a.none_falls;
        played = still_played m seen [] _ _ left written a0 b0 _ _ n s kind end.0 end.2 same;
        disk_fault = λ six. subst (SomeRises n.nodes olds) there (c.in-Err.ensures.rose (ap (λ (x : Status). Err x) (is_disk_fault s (sym end.0 ∙ six))));
      };
      named = inr (record { named = inl (subst (StopsNaming (Some c.args.dir.now) n.nodes olds) there c.in-Err.ensures.stopped); stay = falls; none = end.2; status_is = opening_number s _ kind end.0 });
      ends = still_ends m seen [] _ _ left written a0 b0 _ _ n s kind end.0 end.2 (ap length same ∙ kept_count seen c.args.disks.items c.attach_all.new.disks.items a.none_falls ∙ c.requires.disks) (ap (λ l. drop n.nodes l) same ∙ a.rest);
    }

pub returns-in-Ok : goal.returns-in-Ok
returns-in-Ok g c =
    let seen = pair_seen g.B.Disk.seen in
    let n = c.args.network in
    let a = c.attach_all.ensures in
    let olds = map seen c.args.disks.items in
    let ready = map seen c.attach_all.new.disks.items in
    let news = map seen c.run_ready.result.disks.items in
    let r = c.run_ready.ensures in
    record {
      files = record {
        ready = c.attach_all.new.disks.items;
        none_falls = a.none_falls;
        played = r.played;
        disk_fault = λ six. fails_rises n.nodes olds ready news a.none_falls (r.disk_fault six);
      };
      named = inl (named_same (Some c.args.dir.now) n.nodes olds ready news r.played.attached c.in-Ok.ensures.named);
      ends = record {
        words = r.ends.words;
        too_long = r.ends.too_long;
        few = r.ends.few;
        disks = r.ends.disks;
        others = r.ends.others ∙ a.rest;
        read_fault = r.ends.read_fault;
        write_fault = r.ends.write_fault;
        later = r.ends.later;
      };
    }
