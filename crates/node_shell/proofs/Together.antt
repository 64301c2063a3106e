-- A story of networks is one of them together with the worlds that they show, that is one of each alone, and it is one passage.
use Rattle.std.proofs.Common.{◌≡◌, ◌⊎◌, inl, inr, ℕ, ◌+◌, ◌≤◌, List, [], ◌∷◌, ◌++◌, Bool, true, false, Option, Some, None, Result, Ok, Err, refl, sym, ap, subst, arith}
use Rattle.std.specs.Prelude.{◌||◌, not, if◌then◌else◌, MatchBool}
use Rattle.net_base.specs.declared.names.Identity.{Identity}
use Rattle.net_base.specs.declared.values.Hash32.{Hash32}
use Rattle.net_base.proofs.Options.{some_eq}
use Rattle.ledger_types.specs.declared.tx.SignedTx.{SignedTx}
use Rattle.flow_machine.specs.declared.flow_set.WordFault.{WordFault}
use Rattle.flow_machine.specs.Machine.{Machine}
use Rattle.net_model.specs.Environment.{Environment, environment, Meaning}
use Rattle.network_core.specs.declared.refusal.Refusal.TheVariants as refusal
use Rattle.network_core.specs.declared.steps.Outcome.{Outcome}
use Rattle.network_core.specs.declared.steps.Outcome.TheVariants as outcome
use Rattle.network_core.specs.declared.steps.Step.{Step}
use Rattle.network_core.specs.Drains.{Pair, with_world}
use Rattle.network_core.specs.Following.{PairFollows}
use Rattle.network_core.specs.Ways.{Way, stay}
use Rattle.network_core.specs.Worlds.{World, NetSeen, Shows, Coherent}
use Rattle.network_core.proofs.Leaving.{left_is_coherent}
use Rattle.network_core.proofs.KeepingCalls.{calls_are_ways}
use Rattle.work_law.specs.Passages.{Passage, goes, works, times_worked}
use Rattle.work_law.proofs.Passing.{way_then, passage_then, times_then, kept_on_passages, acknowledged_on_passages}
use Rattle.shell_words.specs.declared.commands.Command.{Command}
use Rattle.shell_words.specs.declared.commands.Command.TheVariants.{Unknown}
use Rattle.shell_words.specs.declared.commands.Command.TheVariants as command
use Rattle.shell_words.specs.Script.{has_no_answer, is_readable, words_of, command_of, asked_by, whole_lines, last_line}
use Rattle.node_shell.specs.declared.replies.Reply.{Reply}
use Rattle.node_shell.specs.declared.replies.Reply.TheVariants.{Silence, Told}
use Rattle.node_shell.specs.declared.statuses.Status.{Status}
use Rattle.node_shell.specs.declared.statuses.Status.TheVariants as status
use Rattle.node_shell.specs.Replies.{IsRefused}
use Rattle.node_shell.specs.Loads.{Course, load, work, GoesOver}
use Rattle.node_shell.specs.Lines.{Doing, asking, making, going, world_states, node_at, started_by, start_step, doing_of, recorded_in, Makes, CommandReplies, RepliesTo, Link, Leaves, RunsShort}
use Rattle.node_shell.specs.Responds.{net_states, recorded_seen, Responds, CommandResponds, LineResponds, NetLink, NetShort}
use Rattle.node_shell.specs.Story.{Story, begins, goes_on, Answered, CutOff, LeftOff, all_lines, EndsWith, ScriptRun}
use Rattle.node_shell.specs.Together.{pair_states, Goes, LineGoes, PairLink, PairShort, InPair, ComesBy, EndComesBy, work_asked, work_asked_by, LeadsOn, ScriptsArePassages, LinesArePassages, ScriptsAreBoth}
use Rattle.node_shell.proofs.Shown.{shown_answers, step_shown}
use Rattle.node_shell.proofs.Loading.{load_goes}
use Rattle.node_shell.proofs.Loaded.{course_in, course_world}

-- ---- a line, from each coherent world that the network shows

module _ {F : Type 0} (m : Meaning F) (id : Identity) (old : NetSeen) (w : World) (shows : Shows (environment m id) old w) (coherent : Coherent (environment m id) w) where
  abbrev e : Environment F
  e = environment m id

  abbrev a : Pair e
  a = with_world old w shows coherent

  -- nothing has changed
  unmoved : (P : Pair e → Type 0) (new : NetSeen) → new ≡ old → P a → InPair e new P
  unmoved P new is h = subst (λ (n : NetSeen). InPair e n P) (sym is) (record { world = w; shows = shows; coherent = coherent; holds = h })

  -- what goes over several steps
  course_both : (c : Course) (reply : Option Reply) (new : NetSeen) → GoesOver (net_states m) m.machine c old reply new
      → InPair e new (λ b. GoesOver (world_states e) m.machine c w reply b.world × GoesOver (pair_states m id) m.machine c a reply b)
  course_both c reply new h =
      let b = course_in m id c reply a new h in
      record { world = b.world; shows = b.shows; coherent = b.coherent; holds = (course_world m id c reply a (with_world new b.world b.shows b.coherent) b.holds, b.holds) }

  responds_in : (d : Doing) (asked : Command) (ws : List (List ℕ)) (reply : Reply) (new : NetSeen) → Responds m d asked ws old (Some reply) new
      → InPair e new (λ b. Makes e w d asked ws reply b.world × Goes m id d (Some reply) a b)
  responds_in (going c) asked ws reply new h = course_both c (Some reply) new h
  responds_in (making s) asked ws reply new (o, answers, told, pairs) =
      let b = pairs id w shows coherent in
      record { world = b.0; shows = b.1; coherent = b.2; holds = ((o, b.3.1, told), (o, b.3, told)) }
  responds_in asking asked ws reply new (shown, is) =
      unmoved (λ b. Makes e w asking asked ws reply b.world × Goes m id asking (Some reply) a b) new is ((shown_answers m id old w shows coherent asked ws reply shown, refl), refl)

  -- so of what words ask for: the step is the same by what the network shows and by what the world has
  served_in : (asked : Command) (ws : List (List ℕ)) (reply : Reply) (new : NetSeen) → CommandResponds m asked ws old (Some reply) new
      → InPair e new (λ b. CommandReplies e w asked ws reply b.world × Goes m id (doing_of m.machine (recorded_seen m.frame_at old) asked ws) (Some reply) a b)
  served_in asked ws reply new h =
      let s = doing_of m.machine (recorded_seen m.frame_at old) asked ws in
      subst (λ (t : Doing). InPair e new (λ b. Makes e w t asked ws reply b.world × Goes m id s (Some reply) a b)) (step_shown e old w shows asked ws) (responds_in s asked ws reply new h)

  pub line_in : (line : List ℕ) (reply : Reply) (new : NetSeen) → LineResponds m line old (Some reply) new → InPair e new (λ b. RepliesTo e w line reply b.world × LineGoes m id line (Some reply) a b)
  line_in line reply new h = by (has_no_answer line) (is_readable line) h
    where
      by : (blank plain : Bool)
          → MatchBool blank ((Some reply ≡ Some Silence) × (new ≡ old)) (MatchBool plain (CommandResponds m (command_of (words_of line)) (words_of line) old (Some reply) new) ((Some reply ≡ Some (Told (outcome.Refused refusal.Syntax))) × (new ≡ old)))
          → InPair e new (λ b. MatchBool blank ((reply ≡ Silence) × (b.world ≡ w)) (MatchBool plain (CommandReplies e w (command_of (words_of line)) (words_of line) reply b.world) (IsRefused refusal.Syntax reply × (b.world ≡ w)))
          × Goes m id (doing_of m.machine (recorded_seen m.frame_at old) (if blank || not plain then Unknown else command_of (words_of line)) (words_of line)) (Some reply) a b)
      by true plain h = unmoved (λ b. ((reply ≡ Silence) × (b.world ≡ w)) × (b ≡ a)) new h.1 ((some_eq h.0, refl), refl)
      by false true h = served_in (command_of (words_of line)) (words_of line) reply new h
      by false false h = unmoved (λ b. (IsRefused refusal.Syntax reply × (b.world ≡ w)) × (b ≡ a)) new h.1 ((some_eq h.0, refl), refl)

  -- want of memory
  leaves_in : (d : Doing) (asked : Command) (ws : List (List ℕ)) (new : NetSeen) → Responds m d asked ws old None new → InPair e new (λ b. Leaves e d w b.world × Goes m id d None a b)
  leaves_in (going c) asked ws new h = course_both c None new h
  leaves_in (making s) asked ws new (inl is) = unmoved (λ b. Leaves e (making s) w b.world × Goes m id (making s) None a b) new is (inl refl, inl refl)
  leaves_in (making s) asked ws new (inr h) =
      let b = h.1 id w shows coherent in
      record { world = b.0; shows = b.1; coherent = b.2; holds = (inr b.3.1, inr b.3) }
  leaves_in asking asked ws new h = unmoved (λ b. Leaves e asking w b.world × Goes m id asking None a b) new h.1 (refl, refl)

  unserved_in : (asked : Command) (ws : List (List ℕ)) (new : NetSeen) → CommandResponds m asked ws old None new
      → InPair e new (λ b. Leaves e (doing_of m.machine (recorded_in e w) asked ws) w b.world × Goes m id (doing_of m.machine (recorded_seen m.frame_at old) asked ws) None a b)
  unserved_in asked ws new h =
      let s = doing_of m.machine (recorded_seen m.frame_at old) asked ws in
      subst (λ (t : Doing). InPair e new (λ b. Leaves e t w b.world × Goes m id s None a b)) (step_shown e old w shows asked ws) (leaves_in s asked ws new h)

  pub left_in : (line : List ℕ) (new : NetSeen) → LineResponds m line old None new → InPair e new (λ b. Leaves e (doing_of m.machine (recorded_in e w) (asked_by line) (words_of line)) w b.world × LineGoes m id line None a b)
  left_in line new h = by (has_no_answer line) (is_readable line) h
    where
      no_reply : (reply : Reply) → None ≡ Some reply → ⊥
      no_reply reply is = cc

      by : (blank plain : Bool)
          → MatchBool blank ((None ≡ Some Silence) × (new ≡ old)) (MatchBool plain (CommandResponds m (command_of (words_of line)) (words_of line) old None new) ((None ≡ Some (Told (outcome.Refused refusal.Syntax))) × (new ≡ old)))
          → InPair e new (λ b. Leaves e (doing_of m.machine (recorded_in e w) (if blank || not plain then Unknown else command_of (words_of line)) (words_of line)) w b.world
          × Goes m id (doing_of m.machine (recorded_seen m.frame_at old) (if blank || not plain then Unknown else command_of (words_of line)) (words_of line)) None a b)
      by true plain h = absurd (no_reply Silence h.0)
      by false true h = unserved_in (command_of (words_of line)) (words_of line) new h
      by false false h = absurd (no_reply (Told (outcome.Refused refusal.Syntax)) h.0)

-- ---- a story of networks

module _ {F : Type 0} (m : Meaning F) (id : Identity) where
  abbrev env : Environment F
  env = environment m id

  abbrev paired : Pair env → List ℕ → List ℕ → Pair env → Type 0
  paired a line text b = PairLink m id a line text b

  abbrev unpaired : Pair env → List ℕ → Pair env → Type 0
  unpaired a line b = PairShort m id a line b

  link_in : (k : NetSeen) (line text : List ℕ) (a : Pair env) → NetLink m a.net line text k → InPair env k (λ b. PairLink m id a line text b)
  link_in k line text a l =
      let b = line_in m id a.net a.world a.shows a.coherent line l.reply k l.responds in
      record { world = b.world; shows = b.shows; coherent = b.coherent; holds = record { net = l; replies = b.holds.0; goes = b.holds.1 } }

  short_in : (k : NetSeen) (line : List ℕ) (a : Pair env) → NetShort m a.net line k → InPair env k (λ b. PairShort m id a line b)
  short_in k line a (inl l) =
      let b = left_in m id a.net a.world a.shows a.coherent line k l.responds in
      record { world = b.world; shows = b.shows; coherent = b.coherent; holds = inl (record { net = l; leaves = b.holds.0; goes = b.holds.1 }) }
  short_in k line a (inr (text, l)) = let b = link_in k line text a l in record { world = b.world; shows = b.shows; coherent = b.coherent; holds = inr (text, b.holds) }

  module _ (start : NetSeen) (first : World) (shows : Shows env start first) (coherent : Coherent env first) where
    abbrev opening : Pair env
    opening = with_world start first shows coherent

    story_in : (lines : List (List ℕ)) (out : List ℕ) (n : NetSeen) → Story (NetLink m) start lines out n → InPair env n (λ b. Story paired opening lines out b)
    story_in lines out n begins = record { world = first; shows = shows; coherent = coherent; holds = begins }
    story_in lines out n (goes_on {lines = earlier} {out = said} {before = b} line text before none linked all longer) =
        let u = story_in earlier said b before in
        let v = link_in n line text (with_world b u.world u.shows u.coherent) linked in
        record { world = v.world; shows = v.shows; coherent = v.coherent; holds = goes_on line text u.holds none v.holds all longer }

    answered_in : (written0 written1 : Option (List ℕ)) (lines : List (List ℕ)) (n : NetSeen) → Answered (NetLink m) start written0 written1 lines n → InPair env n (λ b. Answered paired opening written0 written1 lines b)
    answered_in written0 written1 lines n h =
        let u = story_in lines h.out n h.story in
        record { world = u.world; shows = u.shows; coherent = u.coherent; holds = record { out = h.out; story = u.holds; appended = h.appended } }

    cut_in : (written0 written1 : Option (List ℕ)) (lines : List (List ℕ)) (n : NetSeen) → CutOff (NetLink m) start written0 written1 lines n → InPair env n (λ b. CutOff paired opening written0 written1 lines b)
    cut_in written0 written1 lines n c =
        let u = story_in c.earlier c.out c.before c.story in
        let mid = with_world c.before u.world u.shows u.coherent in
        let v = link_in n c.line (c.front ++ c.missing) mid c.linked in
        record {
          world = v.world;
          shows = v.shows;
          coherent = v.coherent;
          holds = record { before = mid; earlier = c.earlier; line = c.line; out = c.out; front = c.front; missing = c.missing; all = c.all; story = u.holds; open_end = c.open_end; linked = v.holds; proper = c.proper; appended = c.appended };
        }

    left_off_in : (written0 written1 : Option (List ℕ)) (lines : List (List ℕ)) (n : NetSeen) → LeftOff (NetLink m) (NetShort m) start written0 written1 lines n → InPair env n (λ b. LeftOff paired unpaired opening written0 written1 lines b)
    left_off_in written0 written1 lines n l =
        let u = story_in l.earlier l.out l.before l.story in
        let mid = with_world l.before u.world u.shows u.coherent in
        let v = short_in n l.line mid l.ran_short in
        record { world = v.world; shows = v.shows; coherent = v.coherent; holds = record { before = mid; earlier = l.earlier; line = l.line; out = l.out; all = l.all; story = u.holds; open_end = l.open_end; ran_short = v.holds; appended = l.appended } }

    module _ (left written0 written1 : Option (List ℕ)) (count : ℕ) (lines : List (List ℕ)) (rest : List ℕ) (n : NetSeen) where
      ends_in : (s : Status) → EndsWith (NetLink m) (NetShort m) start left written0 written1 count lines rest n s → InPair env n (λ b. EndsWith paired unpaired opening left written0 written1 count lines rest b s)
      ends_in status.Finished h = let x = answered_in written0 written1 _ n h.1 in record { world = x.world; shows = x.shows; coherent = x.coherent; holds = (h.0, x.holds) }
      ends_in status.BadWords h = absurd h
      ends_in status.TooLong h = let x = answered_in written0 written1 _ n h.2 in record { world = x.world; shows = x.shows; coherent = x.coherent; holds = (h.0, h.1, x.holds) }
      ends_in status.ReadFault h = let x = answered_in written0 written1 _ n h.1 in record { world = x.world; shows = x.shows; coherent = x.coherent; holds = (h.0, x.holds) }
      ends_in status.WriteFault h = let c = cut_in written0 written1 _ n h.0 in record { world = c.world; shows = c.shows; coherent = c.coherent; holds = (c.holds, h.1) }
      ends_in status.DiskFault h = absurd h
      ends_in status.NoMemory (inl l) = let c = left_off_in written0 written1 _ n l.0 in record { world = c.world; shows = c.shows; coherent = c.coherent; holds = inl (c.holds, l.1) }
      ends_in status.NoMemory (inr u) = let x = answered_in written0 written1 _ n u.2 in record { world = x.world; shows = x.shows; coherent = x.coherent; holds = inr (u.0, u.1, x.holds) }
      ends_in status.BadJournal h = absurd h

    -- from each coherent world that the first network shows
    pub run_in : (left0 left1 written0 written1 : Option (List ℕ)) (count : ℕ) (n : NetSeen) (s : Status) → ScriptRun (NetLink m) (NetShort m) start left0 left1 written0 written1 count n s
        → InPair env n (λ b. ScriptRun paired unpaired opening left0 left1 written0 written1 count b s)
    run_in left0 left1 written0 written1 count n s r =
        let x = ends_in left1 written0 written1 count r.lines r.rest n s r.ends in
        record { world = x.world; shows = x.shows; coherent = x.coherent; holds = record { read = r.read; lines = r.lines; rest = r.rest; consumed = r.consumed; counted = r.counted; split = r.split; ends = x.holds } }

-- ---- a part of what goes together

-- a script over some states is one over what each shows, where links and what is left off are
module _ {W V : Type 0} (link : W → List ℕ → List ℕ → W → Type 0) (short : W → List ℕ → W → Type 0) (other : V → List ℕ → List ℕ → V → Type 0) (left_short : V → List ℕ → V → Type 0) (g : W → V)
    (linked : (a : W) (line text : List ℕ) (b : W) → link a line text b → other (g a) line text (g b)) (shortened : (a : W) (line : List ℕ) (b : W) → short a line b → left_short (g a) line (g b)) (start : W) where
  story_of : (lines : List (List ℕ)) (out : List ℕ) (w : W) → Story link start lines out w → Story other (g start) lines out (g w)
  story_of lines out w begins = begins
  story_of lines out w (goes_on {lines = earlier} {out = said} {before = u} line text before none l all longer) = goes_on line text (story_of earlier said u before) none (linked u line text w l) all longer

  module _ (written0 written1 : Option (List ℕ)) (lines : List (List ℕ)) (w : W) where
    answered_of : Answered link start written0 written1 lines w → Answered other (g start) written0 written1 lines (g w)
    answered_of h = record { out = h.out; story = story_of lines h.out w h.story; appended = h.appended }

    cut_of : CutOff link start written0 written1 lines w → CutOff other (g start) written0 written1 lines (g w)
    cut_of c = record {
      before = g c.before;
      earlier = c.earlier;
      line = c.line;
      out = c.out;
      front = c.front;
      missing = c.missing;
      all = c.all;
      story = story_of c.earlier c.out c.before c.story;
      open_end = c.open_end;
      linked = linked c.before c.line (c.front ++ c.missing) w c.linked;
      proper = c.proper;
      appended = c.appended;
    }

    left_of : LeftOff link short start written0 written1 lines w → LeftOff other left_short (g start) written0 written1 lines (g w)
    left_of l = record {
      before = g l.before;
      earlier = l.earlier;
      line = l.line;
      out = l.out;
      all = l.all;
      story = story_of l.earlier l.out l.before l.story;
      open_end = l.open_end;
      ran_short = shortened l.before l.line w l.ran_short;
      appended = l.appended;
    }

  ends_of : (left written0 written1 : Option (List ℕ)) (count : ℕ) (lines : List (List ℕ)) (rest : List ℕ) (w : W) (s : Status) → EndsWith link short start left written0 written1 count lines rest w s
      → EndsWith other left_short (g start) left written0 written1 count lines rest (g w) s
  ends_of left written0 written1 count lines rest w status.Finished h = (h.0, answered_of written0 written1 _ w h.1)
  ends_of left written0 written1 count lines rest w status.BadWords h = absurd h
  ends_of left written0 written1 count lines rest w status.TooLong h = (h.0, h.1, answered_of written0 written1 _ w h.2)
  ends_of left written0 written1 count lines rest w status.ReadFault h = (h.0, answered_of written0 written1 _ w h.1)
  ends_of left written0 written1 count lines rest w status.WriteFault h = (cut_of written0 written1 _ w h.0, h.1)
  ends_of left written0 written1 count lines rest w status.DiskFault h = absurd h
  ends_of left written0 written1 count lines rest w status.NoMemory (inl l) = inl (left_of written0 written1 _ w l.0, l.1)
  ends_of left written0 written1 count lines rest w status.NoMemory (inr u) = inr (u.0, u.1, answered_of written0 written1 _ w u.2)
  ends_of left written0 written1 count lines rest w status.BadJournal h = absurd h

  run_of : (left0 left1 written0 written1 : Option (List ℕ)) (count : ℕ) (w : W) (s : Status) → ScriptRun link short start left0 left1 written0 written1 count w s → ScriptRun other left_short (g start) left0 left1 written0 written1 count (g w) s
  run_of left0 left1 written0 written1 count w s r = record { read = r.read; lines = r.lines; rest = r.rest; consumed = r.consumed; counted = r.counted; split = r.split; ends = ends_of left1 written0 written1 count r.lines r.rest w s r.ends }

module _ {F : Type 0} (m : Meaning F) (id : Identity) where
  abbrev of_worlds : (a : Pair (environment m id)) → World
  of_worlds a = a.world

  abbrev of_nets : (a : Pair (environment m id)) → NetSeen
  of_nets a = a.net

  world_link : (a : Pair (environment m id)) (line text : List ℕ) (b : Pair (environment m id)) → PairLink m id a line text b → Link (environment m id) a.world line text b.world
  world_link a line text b l = record { reply = l.net.reply; replies = l.replies; spelt = l.net.spelt }

  world_short : (a : Pair (environment m id)) (line : List ℕ) (b : Pair (environment m id)) → PairShort m id a line b → RunsShort (environment m id) a.world line b.world
  world_short a line b (inl l) = inl l.leaves
  world_short a line b (inr (text, l)) = inr (text, world_link a line text b l)

  net_link : (a : Pair (environment m id)) (line text : List ℕ) (b : Pair (environment m id)) → PairLink m id a line text b → NetLink m a.net line text b.net
  net_link a line text b l = l.net

  net_short : (a : Pair (environment m id)) (line : List ℕ) (b : Pair (environment m id)) → PairShort m id a line b → NetShort m a.net line b.net
  net_short a line b (inl l) = inl l.net
  net_short a line b (inr (text, l)) = inr (text, l.net)

pub scripts_are_both : {F : Type 0} → ScriptsAreBoth F
scripts_are_both m id a b left0 left1 written0 written1 count s run = record {
  worlds = run_of (PairLink m id) (PairShort m id) (Link (environment m id)) (RunsShort (environment m id)) (of_worlds m id) (world_link m id) (world_short m id) a left0 left1 written0 written1 count b s run;
  nets = run_of (PairLink m id) (PairShort m id) (NetLink m) (NetShort m) (of_nets m id) (net_link m id) (net_short m id) a left0 left1 written0 written1 count b s run;
}

-- ---- how often lines have the nodes worked on

asked_append : (xs ys : List (List ℕ)) → work_asked_by (xs ++ ys) ≡ work_asked_by xs + work_asked_by ys
asked_append [] ys = omega arith
asked_append (x ∷ xs) ys = let is = asked_append xs ys in omega (arith, is)

-- a line more
asked_more : (all earlier : List (List ℕ)) (line : List ℕ) → all ≡ earlier ++ line ∷ [] → work_asked_by earlier + work_asked (asked_by line) ≡ work_asked_by all
asked_more all earlier line is =
    let more = ap work_asked_by is in
    let both = asked_append earlier (line ∷ []) in
    omega (arith, more, both)

-- so often does what a line does
abbrev work_done : Doing → ℕ
work_done asking = 0
work_done (making s) = 0
work_done (going (load seed count)) = 0
work_done (going (work workers turns seed)) = 1

start_done : (node : ℕ) (named : Result (ℕ × List ℕ) WordFault) → work_done (start_step node named) ≡ 0
start_done node (Ok words) = refl
start_done node (Err fault) = refl

done_is : {F : Type 0} (m : Machine F) (recorded : ℕ → List (Hash32 × SignedTx)) (asked : Command) (words : List (List ℕ)) → work_done (doing_of m recorded asked words) ≡ work_asked asked
done_is m recorded (command.Clock to) words = refl
done_is m recorded (command.Start node) words = start_done (node_at node) (started_by m (recorded (node_at node)) words)
done_is m recorded (command.Turn node pick) words = refl
done_is m recorded (command.Post node) words = refl
done_is m recorded (command.Deliver node at) words = refl
done_is m recorded (command.Repeat node at) words = refl
done_is m recorded (command.Lose node at) words = refl
done_is m recorded (command.Cut node calls kind) words = refl
done_is m recorded (command.Boot node) words = refl
done_is m recorded command.Drain words = refl
done_is m recorded (command.Flows node) words = refl
done_is m recorded (command.Flow node flow) words = refl
done_is m recorded (command.Vault node) words = refl
done_is m recorded (command.Balance node) words = refl
done_is m recorded command.Book words = refl
done_is m recorded (command.TxLine node name) words = refl
done_is m recorded command.History words = refl
done_is m recorded (command.Load seed count) words = refl
done_is m recorded (command.Workers workers turns seed) words = refl
done_is m recorded command.Quit words = refl
done_is m recorded command.Unknown words = refl

-- ---- the passage

-- a passage on which the nodes were worked on this many times at most
record Few {F : Type 0} (m : Meaning F) (id : Identity) (most : ℕ) (a b : Pair (environment m id)) : Type 0 where
  pub passage : Passage m id a b
  pub few : times_worked passage ≤ most

-- from what it begins with to an end, by way of what it comes by
record Passages {F : Type 0} (m : Meaning F) (id : Identity) (most : ℕ) (a b : Pair (environment m id)) (passes : Pair (environment m id) → Type 0) : Type 0 where
  pub whole : Few m id most a b
  pub to : (u : Pair (environment m id)) → passes u → Few m id most a u
  pub on : (u : Pair (environment m id)) → passes u → Few m id most u b

module _ {F : Type 0} (m : Meaning F) (id : Identity) where
  abbrev shown : Type 0
  shown = Pair (environment m id)

  by_way : (most : ℕ) (a b : shown) → Way m id a b → Few m id most a b
  by_way most a b way = record { passage = goes way; few = omega arith }

  nothing : (most : ℕ) (a b : shown) → b ≡ a → Few m id most a b
  nothing most a b is = by_way most a b (stay is)

  follow_on : (i j : ℕ) (a b c : shown) → Few m id i a b → Few m id j b c → Few m id (i + j) a c
  follow_on i j a b c one two =
      let is = times_then m id a b c one.passage two.passage in
      let first = one.few in
      let second = two.few in
      record { passage = passage_then m id a b c one.passage two.passage; few = omega (arith, is, first, second) }

  more_often : (i j : ℕ) → i ≤ j → (a b : shown) → Few m id i a b → Few m id j a b
  more_often i j less a b one = let few = one.few in record { passage = one.passage; few = omega (arith, less, few) }

  follows_way : (steps : List Step) (outcomes : List Outcome) (all : Bool) (a b : shown) → PairFollows m id steps outcomes all a b → Way m id a b
  follows_way steps outcomes all a b follows = (calls_are_ways m id a b).apply_all steps outcomes all follows

  goes_passage : (d : Doing) (reply : Option Reply) (a b : shown) → Goes m id d reply a b → Few m id (work_done d) a b
  goes_passage (making s) (Some reply) a b (o, serves, told) = by_way 0 a b ((calls_are_ways m id a b).apply s (Some o) serves)
  goes_passage (making s) None a b (inl is) = nothing 0 a b is
  goes_passage (making s) None a b (inr serves) = by_way 0 a b ((calls_are_ways m id a b).apply s None serves)
  goes_passage (going (load seed count)) reply a b h =
      by_way 0 a b (load_goes (pair_states m id) (Way m id) (λ x y is. stay is) (way_then m id) follows_way m.machine seed count reply a b h)
  goes_passage (going (work workers turns seed)) (Some reply) a b (inl refused) = nothing 1 a b refused.2
  goes_passage (going (work workers turns seed)) (Some reply) a b (inr (up, (commits, worked, told))) =
      record { passage = works commits (goes (stay refl)) (record { works = worked.0.works; world = worked.1 }) (stay refl); few = omega arith }
  goes_passage (going (work workers turns seed)) None a b is = nothing 1 a b is
  goes_passage asking reply a b is = nothing 0 a b is

  line_passage : (line : List ℕ) (reply : Option Reply) (a b : shown) → LineGoes m id line reply a b → Few m id (work_asked (asked_by line)) a b
  line_passage line reply a b h =
      let recorded = recorded_seen m.frame_at a.net in
      subst (λ (k : ℕ). Few m id k a b) (done_is m.machine recorded (asked_by line) (words_of line)) (goes_passage (doing_of m.machine recorded (asked_by line) (words_of line)) reply a b h)

  link_passage : (a : shown) (line text : List ℕ) (b : shown) → PairLink m id a line text b → Few m id (work_asked (asked_by line)) a b
  link_passage a line text b l = line_passage line (Some l.net.reply) a b l.goes

  short_passage : (a : shown) (line : List ℕ) (b : shown) → PairShort m id a line b → Few m id (work_asked (asked_by line)) a b
  short_passage a line b (inl l) = line_passage line None a b l.goes
  short_passage a line b (inr (text, l)) = link_passage a line text b l

  leads_on : (most : ℕ) (a b : shown) → Few m id most a b → LeadsOn m id most a b
  leads_on most a b one = record {
    passage = one.passage;
    few = one.few;
    kept = kept_on_passages m id a b one.passage;
    acknowledged = acknowledged_on_passages m id a b one.passage;
    again = λ s on images choice disks hold. left_is_coherent m id a s images disks (kept_on_passages m id a b one.passage s on) choice hold;
  }

  -- a line more
  one_more : (all earlier : List (List ℕ)) (line : List ℕ) → all ≡ earlier ++ line ∷ [] → (a c b : shown) → Few m id (work_asked_by earlier) a c → Few m id (work_asked (asked_by line)) c b → Few m id (work_asked_by all) a b
  one_more all earlier line is a c b before last =
      subst (λ (k : ℕ). Few m id k a b) (asked_more all earlier line is) (follow_on (work_asked_by earlier) (work_asked (asked_by line)) a c b before last)

  story_passage : (a : shown) (lines : List (List ℕ)) (out : List ℕ) (b : shown) → Story (PairLink m id) a lines out b → Few m id (work_asked_by lines) a b
  story_passage a lines out b begins = nothing 0 a a refl
  story_passage a lines out b (goes_on {lines = earlier} {out = said} {before = c} line text before none l all longer) =
      one_more lines earlier line all a c b (story_passage a earlier said c before) (link_passage c line text b l)

  story_to : (a : shown) (lines : List (List ℕ)) (out : List ℕ) (b : shown) (story : Story (PairLink m id) a lines out b) (u : shown) → ComesBy story u → Few m id (work_asked_by lines) a u
  story_to a lines out b begins u is = nothing 0 a u is
  story_to a lines out b (goes_on {lines = earlier} {out = said} {before = c} line text before none l all longer) u (inl earlier_on) =
      let is = asked_more lines earlier line all in
      more_often (work_asked_by earlier) (work_asked_by lines) (omega (arith, is)) a u (story_to a earlier said c before u earlier_on)
  story_to a lines out b (goes_on {lines = earlier} {out = said} {before = c} line text before none l all longer) u (inr is) =
      subst (Few m id (work_asked_by lines) a) (sym is) (one_more lines earlier line all a c b (story_passage a earlier said c before) (link_passage c line text b l))

  story_on : (a : shown) (lines : List (List ℕ)) (out : List ℕ) (b : shown) (story : Story (PairLink m id) a lines out b) (u : shown) → ComesBy story u → Few m id (work_asked_by lines) u b
  story_on a lines out b begins u is = nothing 0 u _ (sym is)
  story_on a lines out b (goes_on {lines = earlier} {out = said} {before = c} line text before none l all longer) u (inl earlier_on) =
      one_more lines earlier line all u c b (story_on a earlier said c before u earlier_on) (link_passage c line text b l)
  story_on a lines out b (goes_on {lines = earlier} {out = said} {before = c} line text before none l all longer) u (inr is) = nothing (work_asked_by lines) u _ (sym is)

  story_passages : (a : shown) (lines : List (List ℕ)) (out : List ℕ) (b : shown) (story : Story (PairLink m id) a lines out b) → Passages m id (work_asked_by lines) a b (ComesBy story)
  story_passages a lines out b story = record { whole = story_passage a lines out b story; to = story_to a lines out b story; on = story_on a lines out b story }

  -- a last line more
  last_passages : (all earlier : List (List ℕ)) (line : List ℕ) → all ≡ earlier ++ line ∷ [] → (a b c : shown) (passes : shown → Type 0) → Passages m id (work_asked_by earlier) a b passes → Few m id (work_asked (asked_by line)) b c
      → Passages m id (work_asked_by all) a c (λ u. passes u ⊎ (u ≡ c))
  last_passages all earlier line all_is a b c passes story last = record {
    whole = one_more all earlier line all_is a b c story.whole last;
    to = λ u h. to_last u h;
    on = λ u h. on_last u h;
  }
    where
      to_last : (u : shown) → passes u ⊎ (u ≡ c) → Few m id (work_asked_by all) a u
      to_last u (inl h) = let is = asked_more all earlier line all_is in more_often (work_asked_by earlier) (work_asked_by all) (omega (arith, is)) a u (story.to u h)
      to_last u (inr is) = subst (Few m id (work_asked_by all) a) (sym is) (one_more all earlier line all_is a b c story.whole last)

      on_last : (u : shown) → passes u ⊎ (u ≡ c) → Few m id (work_asked_by all) u c
      on_last u (inl h) = one_more all earlier line all_is u b c (story.on u h) last
      on_last u (inr is) = nothing (work_asked_by all) u _ (sym is)

  -- where only the whole lines were answered
  widened : (lines : List (List ℕ)) (rest : List ℕ) (a b : shown) (passes : shown → Type 0) → Passages m id (work_asked_by (whole_lines lines)) a b passes → Passages m id (work_asked_by (all_lines lines rest)) a b passes
  widened lines rest a b passes story =
      let is = asked_append (whole_lines lines) (last_line rest) in
      let wider : work_asked_by (whole_lines lines) ≤ work_asked_by (all_lines lines rest) = omega (arith, is) in
      let more = more_often (work_asked_by (whole_lines lines)) (work_asked_by (all_lines lines rest)) wider in
      record { whole = more a b story.whole; to = λ u h. more a u (story.to u h); on = λ u h. more u b (story.on u h) }

  module _ (a b : shown) (left written0 written1 : Option (List ℕ)) (count : ℕ) (lines : List (List ℕ)) (rest : List ℕ) where
    ends_passages : (s : Status) (h : EndsWith (PairLink m id) (PairShort m id) a left written0 written1 count lines rest b s)
        → Passages m id (work_asked_by (all_lines lines rest)) a b (EndComesBy (PairLink m id) (PairShort m id) a left written0 written1 count lines rest b s h)
    ends_passages status.Finished h = story_passages a _ h.1.out b h.1.story
    ends_passages status.BadWords h = absurd h
    ends_passages status.TooLong h = widened lines rest a b (ComesBy h.2.story) (story_passages a _ h.2.out b h.2.story)
    ends_passages status.ReadFault h = widened lines rest a b (ComesBy h.1.story) (story_passages a _ h.1.out b h.1.story)
    ends_passages status.WriteFault h =
        last_passages (all_lines lines rest) h.0.earlier h.0.line h.0.all a h.0.before b (ComesBy h.0.story) (story_passages a h.0.earlier h.0.out h.0.before h.0.story) (link_passage h.0.before h.0.line _ b h.0.linked)
    ends_passages status.DiskFault h = absurd h
    ends_passages status.NoMemory (inl h) =
        last_passages (all_lines lines rest) h.0.earlier h.0.line h.0.all a h.0.before b (ComesBy h.0.story) (story_passages a h.0.earlier h.0.out h.0.before h.0.story) (short_passage h.0.before h.0.line b h.0.ran_short)
    ends_passages status.NoMemory (inr h) = widened lines rest a b (ComesBy h.2.story) (story_passages a _ h.2.out b h.2.story)
    ends_passages status.BadJournal h = absurd h

pub scripts_are_passages : {F : Type 0} → ScriptsArePassages F
scripts_are_passages m id a b left0 left1 written0 written1 count s run =
    let most = work_asked_by (all_lines run.lines run.rest) in
    let all = ends_passages m id a b left1 written0 written1 count run.lines run.rest s run.ends in
    record {
      whole = leads_on m id most a b all.whole;
      to = λ u h. leads_on m id most a u (all.to u h);
      on = λ u h. leads_on m id most u b (all.on u h);
    }

pub lines_are_passages : {F : Type 0} → LinesArePassages F
lines_are_passages m id a b line short = leads_on m id (work_asked (asked_by line)) a b (short_passage m id a line b short)
