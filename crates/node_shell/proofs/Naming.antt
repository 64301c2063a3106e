-- A script leaves each disk attached as it was.
use Rattle.std.proofs.Common.{◌≡◌, inl, inr, ⊎_elim, ℕ, List, Bool, true, false, Option, Some, None, refl, ◌∙◌, ap}
use Rattle.std.specs.Prelude.{MatchBool}
use Rattle.net_model.specs.Environment.{Meaning}
use Rattle.network_core.specs.declared.refusal.Refusal.TheVariants as refusal
use Rattle.network_core.specs.declared.steps.Outcome.{Outcome}
use Rattle.network_core.specs.declared.steps.Outcome.TheVariants as outcome
use Rattle.network_core.specs.declared.steps.Step.{Step}
use Rattle.network_core.specs.Worlds.{NetSeen}
use Rattle.network_core.specs.Answers.{answer_of}
use Rattle.network_core.specs.Following.{NetServe}
use Rattle.network_core.proofs.Naming.{names_of, step_names}
use Rattle.work_law.proofs.Passing.{names_stay}
use Rattle.shell_words.specs.declared.commands.Command.{Command}
use Rattle.shell_words.specs.Script.{has_no_answer, is_readable, words_of, command_of}
use Rattle.node_shell.specs.declared.replies.Reply.{Reply}
use Rattle.node_shell.specs.declared.replies.Reply.TheVariants.{Silence, Told}
use Rattle.node_shell.specs.declared.statuses.Status.{Status}
use Rattle.node_shell.specs.declared.statuses.Status.TheVariants as status
use Rattle.node_shell.specs.Lines.{Doing, asking, making, going, doing_of}
use Rattle.node_shell.specs.Responds.{net_states, recorded_seen, StepResponds, Responds, CommandResponds, LineResponds, NetLink, NetShort}
use Rattle.node_shell.specs.Story.{Story, begins, goes_on, CutOff, LeftOff, EndsWith, ScriptRun}
use Rattle.node_shell.proofs.Loading.{leads_go, course_goes}

module _ {F : Type 0} (m : Meaning F) where
  abbrev Keeps : NetSeen → NetSeen → Type 0
  Keeps a b = names_of b.nodes ≡ names_of a.nodes

  unmoved : (a b : NetSeen) → b ≡ a → Keeps a b
  unmoved a b is = ap (λ (z : NetSeen). names_of z.nodes) is

  step_responds : (s : Step) (a b : NetSeen) (reply : Option Reply) → StepResponds m s a reply b → Keeps a b
  step_responds s a b (Some reply) h = step_names m s a b (answer_of (Some h.0)) h.1
  step_responds s a b None (inl is) = unmoved a b is
  step_responds s a b None (inr h) = step_names m s a b (answer_of None) h.0

  follows : (steps : List Step) (outcomes : List Outcome) (all : Bool) (a b : NetSeen) → (net_states m).follows steps outcomes all a b → Keeps a b
  follows steps outcomes all a b h = leads_go (NetServe m) Keeps unmoved (λ x y z one two. two ∙ one) (λ s x o y answers. step_names m s x y (answer_of o) answers) steps outcomes all a b h.0

  responds : (d : Doing) (asked : Command) (words : List (List ℕ)) (a b : NetSeen) (reply : Option Reply) → Responds m d asked words a reply b → Keeps a b
  responds (making s) asked words a b reply h = step_responds s a b reply h
  responds (going c) asked words a b reply h = course_goes (net_states m) Keeps unmoved (λ x y z one two. two ∙ one) follows (λ commits x y work. names_stay m x.now commits x.nodes y.nodes x.waiting y.waiting work.works) m.machine c reply a b h
  responds asking asked words a b reply h = unmoved a b h.1

  line_keeps : (a b : NetSeen) (line : List ℕ) (reply : Option Reply) → LineResponds m line a reply b → Keeps a b
  line_keeps a b line reply h = by (has_no_answer line) (is_readable line) h
    where
      by : (blank plain : Bool) → MatchBool blank ((reply ≡ Some Silence) × (b ≡ a)) (MatchBool plain (CommandResponds m (command_of (words_of line)) (words_of line) a reply b) ((reply ≡ Some (Told (outcome.Refused refusal.Syntax))) × (b ≡ a))) → Keeps a b
      by true plain h = unmoved a b h.1
      by false true h = responds (doing_of m.machine (recorded_seen m.frame_at a) (command_of (words_of line)) (words_of line)) (command_of (words_of line)) (words_of line) a b reply h
      by false false h = unmoved a b h.1

  link_keeps : (a b : NetSeen) (line text : List ℕ) → NetLink m a line text b → Keeps a b
  link_keeps a b line text link = line_keeps a b line (Some link.reply) link.responds

  short_keeps : (a b : NetSeen) (line : List ℕ) → NetShort m a line b → Keeps a b
  short_keeps a b line (inl left) = line_keeps a b line None left.responds
  short_keeps a b line (inr (text, link)) = link_keeps a b line text link

  module _ (start : NetSeen) where
    story_keeps : (lines : List (List ℕ)) (out : List ℕ) (b : NetSeen) → Story (NetLink m) start lines out b → Keeps start b
    story_keeps lines out b begins = refl
    story_keeps lines out b (goes_on {lines = earlier} {out = said} {before = a} line text before none link all longer) = link_keeps a b line text link ∙ story_keeps earlier said a before

    module _ {written0 written1 : Option (List ℕ)} {lines : List (List ℕ)} {b : NetSeen} where
      cut_keeps : CutOff (NetLink m) start written0 written1 lines b → Keeps start b
      cut_keeps c = link_keeps c.before b c.line _ c.linked ∙ story_keeps c.earlier c.out c.before c.story

      left_keeps : LeftOff (NetLink m) (NetShort m) start written0 written1 lines b → Keeps start b
      left_keeps l = short_keeps l.before b l.line l.ran_short ∙ story_keeps l.earlier l.out l.before l.story

    ends_keeps : (left written0 written1 : Option (List ℕ)) (count : ℕ) (lines : List (List ℕ)) (rest : List ℕ) (b : NetSeen) (s : Status) → EndsWith (NetLink m) (NetShort m) start left written0 written1 count lines rest b s → Keeps start b
    ends_keeps left written0 written1 count lines rest b status.Finished h = story_keeps _ h.1.out b h.1.story
    ends_keeps left written0 written1 count lines rest b status.BadWords h = absurd h
    ends_keeps left written0 written1 count lines rest b status.TooLong h = story_keeps _ h.2.out b h.2.story
    ends_keeps left written0 written1 count lines rest b status.ReadFault h = story_keeps _ h.1.out b h.1.story
    ends_keeps left written0 written1 count lines rest b status.WriteFault h = cut_keeps h.0
    ends_keeps left written0 written1 count lines rest b status.DiskFault h = absurd h
    ends_keeps left written0 written1 count lines rest b status.NoMemory h = ⊎_elim (λ l. left_keeps l.0) (λ unread. story_keeps _ unread.2.out b unread.2.story) h
    ends_keeps left written0 written1 count lines rest b status.BadJournal h = absurd h

    pub script_keeps : (left0 left1 written0 written1 : Option (List ℕ)) (count : ℕ) (b : NetSeen) (s : Status) → ScriptRun (NetLink m) (NetShort m) start left0 left1 written0 written1 count b s → Keeps start b
    script_keeps left0 left1 written0 written1 count b s run = ends_keeps left1 written0 written1 count run.lines run.rest b s run.ends
