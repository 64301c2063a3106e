use Rattle.std.proofs.Common.{◌≡◌, inl, inr, length, map, drop, refl, sym, ◌∙◌, ap, subst, arith, ℕ, List, Option}
use Rattle.std.specs.Prelude.{string_bytes, option_map, Some, None}
use Rattle.net_model.specs.Environment.{meaning}
use Rattle.shell_words.specs.Program.{network_of_words, dir_of_words}
use Rattle.node_shell.specs.declared.statuses.Status.TheVariants as status
use Rattle.node_disks.specs.Pair.{pair_seen}
use Rattle.node_shell.specs.Runs.{AllStay, SecondsStay, StayIn, NamesDisks, IsPlayedNumber}
use Rattle.node_shell.proofs.Readying.{stay_same, seconds_same, falls_same, stay_in_same}
use Rattle.node_shell.proofs.Opening.{asked_only, not_refused}
use Rattle.node_shell.proofs.Unread.{still_story, still_went, still_seconds, still_played, not_played}
use Rattle.node_shell.proofs.top.run.Goals as goal

named_by : (P : Option (List ℕ) → Type 0) (a b : Option (List ℕ)) → P b → a ≡ b → P a
named_by P a b h same = subst P (sym same) h

-- in memory
pub returns-in-None : goal.returns-in-None
returns-in-None g c =
    let words = map (λ s. string_bytes s) c.args.words.now in
    let k = c.in-Ok.asked.network in
    let asked : network_of_words words ≡ Some k = c.in-Ok.ensures.network in
    let memory : dir_of_words words ≡ None = c.in-Ok.ensures.dir ∙ ap (λ dir. option_map (λ s. string_bytes s) dir) c.in-None.is in
    let e = c.run_in_memory.ensures in
    record {
      run = record {
        story = λ none. asked_only words k _ asked e.story;
        went = λ none. asked_only words k _ asked e.went;
        causes = record {
          read_fault = e.ends.read_fault;
          write_fault = e.ends.write_fault;
          disk_fault = λ is none. asked_only words k _ asked (e.disk_fault is);
          bad_journal = λ is none. asked_only words k _ asked (e.bad_journal is);
          own = λ is none. asked_only words k _ asked (e.own is);
        };
        seconds = λ none. asked_only words k _ asked e.seconds;
        files = λ path some. let bad : None ≡ Some path = sym memory ∙ some in absurd cc;
        words = λ is. absurd (e.ends.words is);
        refused = λ none. absurd (not_refused words k asked none);
        untouched = λ none. absurd (not_refused words k asked none);
        too_long = e.ends.too_long;
        few = e.ends.few;
        disks = e.ends.disks;
        others = asked_only words k _ asked e.ends.others;
        named = asked_only words k _ asked (rw memory e.named);
        later = e.ends.later;
      };
    }

-- on the files of a folder
pub returns-in-Some : goal.returns-in-Some
returns-in-Some g c =
    let words = map (λ s. string_bytes s) c.args.words.now in
    let k = c.in-Ok.asked.network in
    let asked : network_of_words words ≡ Some k = c.in-Ok.ensures.network in
    let folder : dir_of_words words ≡ Some (string_bytes c.in-Some.dir) = c.in-Ok.ensures.dir ∙ ap (λ dir. option_map (λ s. string_bytes s) dir) c.in-Some.is in
    let e = c.run_in_folder.ensures in
    let seen = pair_seen g.B.Disk.seen in
    let named : NamesDisks (dir_of_words words) k.nodes (map seen c.args.disks.items) (map seen c.run_in_folder.result.disks.items) c.run_in_folder.result.bytes_read c.run_in_folder.result.status =
    named_by (λ (f : Option (List ℕ)). NamesDisks f k.nodes (map seen c.args.disks.items) (map seen c.run_in_folder.result.disks.items) c.run_in_folder.result.bytes_read c.run_in_folder.result.status) (dir_of_words words) _ e.named (c.in-Ok.ensures.dir ∙ (rw c.in-Some.is refl)) in
    record {
      run = record {
        story = λ none. let bad : Some (string_bytes c.in-Some.dir) ≡ None = sym folder ∙ none in absurd cc;
        went = λ none. let bad : Some (string_bytes c.in-Some.dir) ≡ None = sym folder ∙ none in absurd cc;
        causes = record {
          read_fault = e.ends.read_fault;
          write_fault = e.ends.write_fault;
          disk_fault = λ is none. let bad : Some (string_bytes c.in-Some.dir) ≡ None = sym folder ∙ none in absurd cc;
          bad_journal = λ is none. let bad : Some (string_bytes c.in-Some.dir) ≡ None = sym folder ∙ none in absurd cc;
          own = λ is none. let bad : Some (string_bytes c.in-Some.dir) ≡ None = sym folder ∙ none in absurd cc;
        };
        seconds = λ none. let bad : Some (string_bytes c.in-Some.dir) ≡ None = sym folder ∙ none in absurd cc;
        files = λ path some. asked_only words k _ asked (record {
          ready = e.files.ready;
          none_falls = e.files.none_falls;
          played = record {
            story = e.files.played.story;
            went = e.files.played.went;
            bad_journal = e.files.played.bad_journal;
            own = e.files.played.own;
            seconds = e.files.played.seconds;
            attached = e.files.played.attached;
          };
          disk_fault = e.files.disk_fault;
        });
        words = λ is. absurd (e.ends.words is);
        refused = λ none. absurd (not_refused words k asked none);
        untouched = λ none. absurd (not_refused words k asked none);
        too_long = e.ends.too_long;
        few = e.ends.few;
        disks = e.ends.disks;
        others = asked_only words k _ asked e.ends.others;
        named = asked_only words k _ asked named;
        later = e.ends.later;
      };
    }

pub returns-in-Err-Refused : goal.returns-in-Err-Refused
returns-in-Err-Refused g c =
    let words = map (λ s. string_bytes s) c.args.words.now in
    let refused : network_of_words words ≡ None = c.in-Err-Refused.ensures.refused c.in-Err-Refused.field-0-is in
    let end = c.end_with.ensures in
    let same = ap (λ v. v.items) end.1 in
    record {
      run = record {
        story = λ none n is. absurd (not_refused words n is refused);
        went = λ none n is. absurd (not_refused words n is refused);
        causes = record {
          read_fault = λ h. let bad : 2 ≡ 4 = sym end.0 ∙ h in absurd cc;
          write_fault = λ h. let bad : 2 ≡ 5 = sym end.0 ∙ h in absurd cc;
          disk_fault = λ h none n is. absurd (not_refused words n is refused);
          bad_journal = λ h none n is. absurd (not_refused words n is refused);
          own = λ h none n is. absurd (not_refused words n is refused);
        };
        seconds = λ none n is. absurd (not_refused words n is refused);
        files = λ path some n is. absurd (not_refused words n is refused);
        words = λ is. refused;
        refused = λ none. inl end.0;
        untouched = λ none. record { count = end.2; disks = same; left = refl; written = refl };
        too_long = (λ h. let bad : 2 ≡ 3 = sym end.0 ∙ h in absurd cc, λ h. let bad : 0 ≡ 16777217 = sym end.2 ∙ h in absurd cc);
        few = omega (arith, end.2);
        disks = ap length same ∙ c.requires;
        others = λ n is. absurd (not_refused words n is refused);
        named = λ n is. absurd (not_refused words n is refused);
        later = (omega arith, omega arith);
      };
    }

-- there was no memory for the words
pub returns-in-Err-Memory : goal.returns-in-Err-Memory
returns-in-Err-Memory g c =
    let m = meaning g.F.FlowSet.machine g.F.Spelt.reading (g.J.Judge.judges c.args.contracts.now) in
    let seen = pair_seen g.B.Disk.seen in
    let words = map (λ s. string_bytes s) c.args.words.now in
    let end = c.end_with-in-Err-Memory.ensures in
    let same = ap (λ v. v.items) end.1 in
    let olds = map seen c.args.disks.items in
    let left = g.S.Source.left c.args.source.now in
    let written = g.K.Sink.written c.args.sink.now in
    let a0 = g.S.Source.faults c.args.source.now in
    let b0 = g.K.Sink.faults c.args.sink.now in
    let stay : AllStay olds (map seen c.end_with-in-Err-Memory.result.disks.items) = subst (λ l. AllStay olds (map seen l)) (sym same) (stay_same olds) in
    let seconds : SecondsStay olds (map seen c.end_with-in-Err-Memory.result.disks.items) = subst (λ l. SecondsStay olds (map seen l)) (sym same) (seconds_same olds) in
    record {
      run = record {
        story = λ none n is. still_story m seen words _ _ left written a0 b0 _ _ n status.NoMemory tt end.0 end.2 stay;
        went = λ none n is. still_went m seen words _ _ left written a0 b0 _ _ n status.NoMemory tt end.0 end.2 stay;
        causes = record {
          read_fault = λ h. let bad : 7 ≡ 4 = sym end.0 ∙ h in absurd cc;
          write_fault = λ h. let bad : 7 ≡ 5 = sym end.0 ∙ h in absurd cc;
          disk_fault = λ h. let bad : 7 ≡ 6 = sym end.0 ∙ h in absurd cc;
          bad_journal = λ h. let bad : 7 ≡ 8 = sym end.0 ∙ h in absurd cc;
          own = λ h. absurd (not_played 7 (inr refl) (subst IsPlayedNumber end.0 h));
        };
        seconds = λ none n is. still_seconds m seen words _ _ left written a0 b0 _ _ n status.NoMemory tt end.0 end.2 seconds;
        files = λ path some n is. record {
          ready = c.args.disks.items;
          none_falls = falls_same olds;
          played = still_played m seen words _ _ left written a0 b0 _ _ n status.NoMemory tt end.0 end.2 same;
          disk_fault = λ h. let bad : 7 ≡ 6 = sym end.0 ∙ h in absurd cc;
        };
        words = λ h. let bad : 7 ≡ 2 = sym end.0 ∙ h in absurd cc;
        refused = λ none. inr end.0;
        untouched = λ none. record { count = end.2; disks = same; left = refl; written = refl };
        too_long = (λ h. let bad : 7 ≡ 3 = sym end.0 ∙ h in absurd cc, λ h. let bad : 0 ≡ 16777217 = sym end.2 ∙ h in absurd cc);
        few = omega (arith, end.2);
        disks = ap length same ∙ c.requires;
        others = λ n is. ap (λ l. drop n.nodes l) same;
        named = λ n is. inr (record { named = inr (ap (map seen) same); stay = subst (StayIn (dir_of_words words) olds) (ap (map seen) (sym same)) (stay_in_same (dir_of_words words) olds); none = end.2; status_is = inr end.0 });
        later = (omega arith, omega arith);
      };
    }
