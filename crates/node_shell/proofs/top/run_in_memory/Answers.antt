use Rattle.std.proofs.Common.{inl, inr, length, map, take, drop, [], None, refl, sym, ◌∙◌, ap, subst}
use Rattle.std.specs.Prelude.{Err}
use Rattle.node_shell.specs.declared.statuses.Status.{Status}
use Rattle.net_model.specs.Environment.{meaning, party}
use Rattle.net_base.proofs.Lists.{get_beside}
use Rattle.node_disks.specs.Pair.{pair_seen}
use Rattle.node_shell.specs.Runs.{AllStay, StayIn, SomeFails, StopsNaming}
use Rattle.node_shell.proofs.Readying.{first_stay, beside_then, kept_count, some_fails_since, named_same}
use Rattle.node_shell.proofs.Opening.{runs_since, runs_anyhow_since, told_since, all_own_since, opening_number, is_disk_fault}
use Rattle.node_shell.proofs.Unread.{still_ends, still_story, still_went, still_told, still_own, still_seconds}
use Rattle.node_shell.proofs.top.run_in_memory.Goals as goal

-- a disk was not made ready
pub returns-in-Err : goal.returns-in-Err
returns-in-Err g c =
    let m = meaning g.F.FlowSet.machine g.F.Spelt.reading (g.J.Judge.judges c.args.contracts.now) in
    let seen = pair_seen g.B.Disk.seen in
    let n = c.args.network in
    let s = c.in-Err.status in
    let end = c.end_with.ensures in
    let same = ap (λ v. v.items) end.1 in
    let olds = map seen c.args.disks.items in
    let a = c.attach_all.ensures in
    let both : StayIn None olds (map seen c.end_with.result.disks.items) = subst (λ l. StayIn None olds (map seen l)) (sym same) a.stay in
    let stay = both.0 in
    let kind = c.in-Err.ensures.kinds in
    let left = g.S.Source.left c.args.source.now in
    let written = g.K.Sink.written c.args.sink.now in
    let a0 = g.S.Source.faults c.args.source.now in
    let b0 = g.K.Sink.faults c.args.sink.now in
    record {
      story = still_story m seen [] _ _ left written a0 b0 _ _ n s kind end.0 end.2 stay;
      went = still_went m seen [] _ _ left written a0 b0 _ _ n s kind end.0 end.2 stay;
      disk_fault = λ six. subst (SomeFails n.nodes olds) (ap (map seen) (sym same)) (c.in-Err.ensures.cause refl (ap (λ (x : Status). Err x) (is_disk_fault s (sym end.0 ∙ six))));
      bad_journal = still_told m seen [] _ _ left written a0 b0 _ _ n s kind end.0 end.2 stay;
      own = still_own m seen [] _ _ left written a0 b0 _ _ n s kind end.0 end.2 stay;
      seconds = still_seconds m seen [] _ _ left written a0 b0 _ _ n s kind end.0 end.2 both.1;
      named = inr (record { named = inl (subst (StopsNaming None n.nodes olds) (ap (map seen) (sym same)) c.in-Err.ensures.stopped); stay = both; none = end.2; status_is = opening_number s _ kind end.0 });
      ends = still_ends m seen [] _ _ left written a0 b0 _ _ n s kind end.0 end.2 (ap length same ∙ kept_count seen c.args.disks.items c.attach_all.new.disks.items a.none_falls ∙ c.requires.disks) (ap (λ l. drop n.nodes l) same ∙ a.rest);
    }

pub returns-in-Ok : goal.returns-in-Ok
returns-in-Ok g c =
    let m = meaning g.F.FlowSet.machine g.F.Spelt.reading (g.J.Judge.judges c.args.contracts.now) in
    let f = g.F.Spelt.reading in
    let seen = pair_seen g.B.Disk.seen in
    let n = c.args.network in
    let notary = party n.notary in
    let a = c.attach_all.ensures in
    let olds = map seen c.args.disks.items in
    let ready = map seen c.attach_all.new.disks.items in
    let news = map seen c.run_ready.result.disks.items in
    let stay : AllStay (take n.nodes olds) (take n.nodes ready) = first_stay n.nodes olds ready a.stay.0 in
    let r = c.run_ready.ensures in
    let p = r.played in
    record {
      story = λ w shows coherent. runs_since m n.nodes notary _ _ _ w _ _ _ _ _ _ stay p.story shows coherent;
      went = runs_anyhow_since m n.nodes notary _ _ _ _ _ _ _ _ _ stay p.went;
      disk_fault = λ six. some_fails_since n.nodes olds ready news a.stay.0 a.stay.1 (r.disk_fault six);
      bad_journal = λ eight. told_since f n.nodes notary _ _ _ _ _ _ stay (p.bad_journal eight);
      own = λ number. all_own_since f n.nodes notary _ _ stay (p.own number);
      seconds = λ q d e within at there.
          let k = get_beside olds ready q d (sym a.stay.0.count) at in
          beside_then d.attached.beside k.0.attached.beside e.attached.beside (a.stay.1 q d k.0 at k.1) (p.seconds q k.0 e within k.1 there);
      named = inl (named_same None n.nodes olds ready news p.attached c.in-Ok.ensures.named);
      ends = record {
        words = r.ends.words;
        too_long = r.ends.too_long;
        few = r.ends.few;
        disks = r.ends.disks;
        others = r.ends.others ∙ a.rest;
        read_fault = r.ends.read_fault;
        write_fault = r.ends.write_fault;
        later = r.ends.later;
      };
    }
