use Rattle.std.proofs.Common.{◌≡◌, ◌+◌, length, map, take, drop, sym, ◌∙◌, ap, subst, arith}
use Rattle.std.proofs.lemmas.List.{length-append}
use Rattle.net_model.specs.Environment.{meaning, party}
use Rattle.node_disks.specs.Pair.{pair_seen}
use Rattle.node_shell.specs.declared.statuses.Status.TheVariants as status
use Rattle.node_shell.specs.Runs.{IsPlayedNumber}
use Rattle.node_shell.proofs.Running.{Handed, last, last_count, last_behind, last_second, last_attached, own_stay, one_failed}
use Rattle.node_shell.proofs.Opening.{runs_at, all_own_since, told_at, went_at}
use Rattle.node_shell.proofs.Unread.{still_ends, still_played}
use Rattle.node_shell.proofs.top.run_ready.Goals as goal

-- there was no memory
pub returns-in_default : goal.returns-in_default
returns-in_default g c =
    let m = meaning g.F.FlowSet.machine g.F.Spelt.reading (g.J.Judge.judges c.args.contracts.now) in
    let seen = pair_seen g.B.Disk.seen in
    let end = c.end_with.ensures in
    let same = ap (λ v. v.items) end.1 in
    record {
      played = still_played m seen _ _ _ _ _ _ _ _ _ c.args.network status.NoMemory tt end.0 end.2 same;
      disk_fault = λ six. let other : 7 ≡ 6 = sym end.0 ∙ six in absurd cc;
      ends = still_ends m seen _ _ _ _ _ _ _ _ _ c.args.network status.NoMemory tt end.0 end.2 (ap length same ∙ c.requires.disks) (ap (λ l. drop c.args.network.nodes l) same);
    }

pub take_first-requires-clause-few : goal.take_first-requires-clause-few
take_first-requires-clause-few g c = omega (arith, c.requires.within.few, c.requires.disks)

pub put_back-requires : goal.put_back-requires
put_back-requires g c =
    let own = c.take_first.new.own.items in
    let rest = c.take_first.new.disks.items in
    let both : length own + length rest ≡ length c.args.disks.items = sym (length-append own rest) ∙ ap length c.take_first.ensures.whole in
    omega (arith, both, c.play-status.ensures.count, c.take_first.ensures.room, c.args.disks.ok.0, c.args.disks.ok.1)

pub returns : goal.returns
returns g c =
    let m = meaning g.F.FlowSet.machine g.F.Spelt.reading (g.J.Judge.judges c.args.contracts.now) in
    let f = g.F.Spelt.reading in
    let seen = pair_seen g.B.Disk.seen in
    let n = c.args.network.nodes in
    let notary = party c.args.network.notary in
    let ready = c.args.disks.items in
    let own = c.take_first.new.own.items in
    let rest = c.take_first.new.disks.items in
    let back = c.play-status.result.2.items in
    let ends = c.end_with-2.result.disks.items in
    let h : Handed n ready own rest back ends = record { all = c.requires.disks; taken = c.take_first.ensures.whole; count = c.take_first.ensures.count; same = c.play-status.ensures.count; put = ap (λ v. v.items) c.end_with-2.ensures.1 ∙ c.put_back.ensures } in
    let end = c.end_with-2.ensures in
    let p = c.play-status.ensures in
    let stay = own_stay seen n ready own rest back ends h in
    let there = last seen n ready own rest back ends h in
    let olds = take n (map seen ready) in
    record {
      played = record {
        story = λ w shows coherent. runs_at m n notary olds (map seen own) (map seen back) _ w _ _ _ _ _ _ _ _ there end.0 end.2 stay p.runs shows coherent;
        went = went_at m n notary olds (map seen own) (map seen back) _ _ _ _ _ _ _ _ _ there end.0 end.2 stay p.went;
        bad_journal = λ eight. told_at f n notary olds (map seen own) (map seen back) _ _ _ status.BadJournal there stay (p.bad_journal (sym end.0 ∙ eight));
        own = λ number. all_own_since f n notary olds (map seen own) stay (p.own (subst IsPlayedNumber end.0 number));
        seconds = λ q d e within at there. last_second seen n ready own rest back ends h p.attached q d e at there;
        attached = last_attached seen n ready own rest back ends h p.attached;
      };
      disk_fault = λ six. one_failed seen n ready own rest back ends h (p.disk_fault (sym end.0 ∙ six));
      ends = record {
        words = λ two. p.words (sym end.0 ∙ two);
        too_long = (λ three. end.2 ∙ p.too_long.0 (sym end.0 ∙ three), λ full. end.0 ∙ p.too_long.1 (sym end.2 ∙ full));
        few = omega (arith, p.few, end.2);
        disks = last_count seen n ready own rest back ends h;
        others = last_behind seen n ready own rest back ends h;
        read_fault = λ four. p.read_fault (sym end.0 ∙ four);
        write_fault = λ five. p.write_fault (sym end.0 ∙ five);
        later = p.later;
      };
    }
