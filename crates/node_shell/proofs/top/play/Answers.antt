use Rattle.std.proofs.Common.{◌≡◌, ℕ, inl, inr, map, length, refl, sym, ◌∙◌, ap, subst, arith}
use Rattle.std.proofs.lemmas.List.{length-map}
use Rattle.net_base.proofs.Lists.{map_both}
use Rattle.net_model.specs.Environment.{meaning, party}
use Rattle.outside.specs.Disk.{DiskSeen}
use Rattle.node_core.specs.Disks.{roomless, attached_as}
use Rattle.node_core.specs.Seen.{NodeSeen}
use Rattle.network_core.proofs.Naming.{names_of, begun_names, refused_names}
use Rattle.node_shell.specs.Story.{IsScriptStatus}
use Rattle.node_shell.specs.Runs.{IsToldWhy, IsRefusedStatus, number_of_status}
use Rattle.node_shell.proofs.Readying.{stay_same}
use Rattle.node_shell.proofs.Opening.{played, refused, told_why, fault_why, boots_own, runs_as, refused_unplayed, is_bad_words, is_too_long, is_read_fault, is_write_fault, is_disk_fault, is_bad_journal}
use Rattle.node_shell.proofs.Naming.{script_keeps}
use Rattle.node_shell.proofs.top.play.Goals as goal

-- the nodes opened, and the script was played
pub returns-in-Ok : goal.returns-in-Ok
returns-in-Ok g c =
    let f = g.F.Spelt.reading in
    let m = meaning g.F.FlowSet.machine f (g.J.Judge.judges c.args.contracts.now) in
    let n = c.args.network.nodes in
    let notary = party c.args.network.notary in
    let own = map g.B.Disk.seen c.args.own.items in
    let back = c.into_disks.result.items in
    let last = c.session-end.new.net in
    let begun = c.in-Ok.ensures in
    let end = c.session-end.ensures in
    let s = c.session-end.result.status in
    let count : length own ≡ n = length-map c.args.own.items g.B.Disk.seen ∙ c.requires.disks in
    let disks = sym c.into_disks.ensures ∙ sym (map_both roomless g.B.Disk.seen back) in
    let opens = boots_own f n notary own c.in-Ok.net.now c.in-Ok.net.nodes count begun.boots in
    let out : attached_as (map g.B.Disk.seen back) ≡ names_of last.nodes =
    map_both (λ (d : DiskSeen). d.attached) g.B.Disk.seen back ∙ sym (map_both (λ (d : DiskSeen). d.attached) (λ d. roomless (g.B.Disk.seen d)) back) ∙ ap attached_as c.into_disks.ensures ∙ map_both (λ (d : DiskSeen). d.attached) (λ (n : NodeSeen). n.disk) last.nodes in
    record {
      runs = λ w shows coherent. runs_as m n notary w _ _ _ _ _ _ _ _ _ s refl refl
          (played m n notary own (map g.B.Disk.seen back) w c.in-Ok.net last _ _ _ _ _ s end.kinds opens (begun.ok (g.J.Judge.judges c.args.contracts.now)) begun.boots begun.waiting end.went end.ran disks shows coherent);
      went = record {
        status = s;
        is = refl;
        ran = inl (record { ready = own; made = stay_same own; begun = c.in-Ok.net; opened = begun.boots; quiet = begun.waiting; last = last; script = end.went; back = disks });
      };
      words = λ two. subst IsScriptStatus (is_bad_words s two) end.kinds;
      too_long = (λ three. end.too_long.0 (is_too_long s three), λ full. ap number_of_status (end.too_long.1 full));
      few = end.few;
      read_fault = λ four. end.read_fault (is_read_fault s four);
      write_fault = λ five. end.write_fault (is_write_fault s five);
      disk_fault = λ six. absurd (subst IsScriptStatus (is_disk_fault s six) end.kinds);
      bad_journal = λ eight. absurd (subst IsScriptStatus (is_bad_journal s eight) end.kinds);
      own = λ number. opens;
      count = sym (length-map back (λ d. roomless (g.B.Disk.seen d))) ∙ ap length c.into_disks.ensures ∙ length-map last.nodes (λ n. n.disk) ∙ end.count ∙ begun.count ∙ sym c.requires.disks;
      attached = out ∙ script_keeps m c.in-Ok.net _ _ _ _ _ last _ end.went ∙ begun_names f n notary own c.in-Ok.net.now c.in-Ok.net.nodes count begun.boots;
      later = end.later;
    }

-- a node did not open
pub returns-in-Err : goal.returns-in-Err
returns-in-Err g c =
    let f = g.F.Spelt.reading in
    let m = meaning g.F.FlowSet.machine f (g.J.Judge.judges c.args.contracts.now) in
    let n = c.args.network.nodes in
    let notary = party c.args.network.notary in
    let own = map g.B.Disk.seen c.args.own.items in
    let node = c.in-Err.refused.node in
    let why = c.in-Err.refused.why in
    let some = c.requires.within.some in
    let count : length own ≡ n = length-map c.args.own.items g.B.Disk.seen ∙ c.requires.disks in
    let refusal = c.in-Err.ensures.refused (g.J.Judge.judges c.args.contracts.now) in
    let told = c.refuse-status.ensures in
    let s = c.refuse-status.result in
    let tells = told_why m n notary own _ node why _ _ s some count refusal told.refused in
    record {
      runs = λ w shows coherent. runs_as m n notary w _ _ _ _ _ _ _ _ _ s refl refl (refused m n notary own _ w node why _ _ _ s some count refusal told.refused shows coherent);
      went = record { status = s; is = refl; ran = inr (record { unread = refl; none = refl; why = inr tells }) };
      words = λ two. subst IsRefusedStatus (is_bad_words s two) told.kinds;
      too_long = (λ three. absurd (subst IsRefusedStatus (is_too_long s three) told.kinds), λ full. absurd (omega (arith, full)));
      few = omega arith;
      read_fault = λ four. absurd (subst IsRefusedStatus (is_read_fault s four) told.kinds);
      write_fault = λ five. told.cause (is_write_fault s five);
      disk_fault = λ six. fault_why m n notary own _ node why _ _ s count refusal told.refused (is_disk_fault s six);
      bad_journal = λ eight. subst (IsToldWhy f n notary own _ _ _) (is_bad_journal s eight) tells;
      own = λ number. absurd (refused_unplayed s told.kinds number);
      count = sym (length-map c.in-Err.refused.disks.items g.B.Disk.seen) ∙ refusal.count ∙ length-map c.args.own.items g.B.Disk.seen;
      attached = refused_names m n notary own node why _ refusal;
      later = (omega arith, told.later);
    }
