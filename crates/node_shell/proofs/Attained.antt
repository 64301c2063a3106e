-- A script leads from the opening world to its last by steps, and by work side by side.
use Rattle.std.proofs.Common.{◌≡◌, inl, inr, ⊎_elim, ℕ, List, Bool, true, false, Option, Some, None, refl, sym, subst}
use Rattle.std.specs.Prelude.{MatchBool}
use Rattle.net_model.specs.Environment.{Environment}
use Rattle.network_core.specs.declared.refusal.Refusal.TheVariants as refusal
use Rattle.network_core.specs.declared.steps.Step.{Step}
use Rattle.network_core.specs.declared.steps.Outcome.{Outcome}
use Rattle.network_core.specs.Following.{Serve, Follows}
use Rattle.network_core.specs.Worlds.{World, Coherent}
use Rattle.network_core.specs.Acknowledged.{here, by_step}
use Rattle.work_law.specs.Works.{WorldWorks}
use Rattle.work_law.specs.Passages.{Attains, by_steps, by_work}
use Rattle.shell_words.specs.declared.commands.Command.{Command}
use Rattle.shell_words.specs.Script.{has_no_answer, is_readable, words_of, command_of, asked_by}
use Rattle.node_shell.specs.declared.replies.Reply.{Reply}
use Rattle.node_shell.specs.declared.replies.Reply.TheVariants.{Silence}
use Rattle.node_shell.specs.declared.statuses.Status.{Status}
use Rattle.node_shell.specs.declared.statuses.Status.TheVariants as status
use Rattle.node_shell.specs.Replies.{IsRefused}
use Rattle.node_shell.specs.Loads.{Course, GoesOver}
use Rattle.node_shell.specs.Lines.{Doing, asking, making, going, world_states, doing_of, recorded_in, Makes, CommandReplies, RepliesTo, Link, Leaves, RunsShort}
use Rattle.node_shell.specs.Story.{Story, begins, goes_on, CutOff, LeftOff, EndsWith, ScriptRun}
use Rattle.node_shell.proofs.Loading.{leads_go, course_goes}

module _ {F : Type 0} (e : Environment F) (start : World) where
  unmoved : (w v : World) → Attains e start w → v ≡ w → Attains e start v
  unmoved w v before is = subst (Attains e start) (sym is) before

  -- one step more
  one_more : (w v : World) (s : Step) (o : Option Outcome) → Attains e start w → Serve e s w o v → Attains e start v
  one_more w v s o (by_steps before) serve = by_steps (by_step s o before serve)
  one_more w v s o (by_work commits before works coherent steps) serve = by_work commits before works coherent (by_step s o steps serve)

  -- steps one after another, and what goes over several
  abbrev On : World → World → Type 0
  On w v = Attains e start w → Attains e start v

  follows_on : (steps : List Step) (outcomes : List Outcome) (all : Bool) (w v : World) → Follows e steps outcomes all w v → On w v
  follows_on = leads_go (Serve e) On (λ w v is before. unmoved w v before is) (λ w u v one two before. two (one before)) (λ s w o v serve before. one_more w v s o before serve)

  course_on : (c : Course) (reply : Option Reply) (w v : World) → GoesOver (world_states e) e.machine c w reply v → On w v
  course_on = course_goes (world_states e) On (λ w v is before. unmoved w v before is) (λ w u v one two before. two (one before)) follows_on
      (λ commits w v works before. by_work commits before works.0 works.2 (here refl)) e.machine

  makes_attains : (w v : World) (d : Doing) (asked : Command) (words : List (List ℕ)) (reply : Reply) → Attains e start w → Makes e w d asked words reply v → Attains e start v
  makes_attains w v (making s) asked words reply before (o, serve, told) = one_more w v s (Some o) before serve
  makes_attains w v (going c) asked words reply before h = course_on c (Some reply) w v h before
  makes_attains w v asking asked words reply before (answer, is) = unmoved w v before is

  replies_attains : (w v : World) (line : List ℕ) (reply : Reply) → Attains e start w → RepliesTo e w line reply v → Attains e start v
  replies_attains w v line reply before h = by (has_no_answer line) (is_readable line) h
    where
      by : (blank plain : Bool) → MatchBool blank ((reply ≡ Silence) × (v ≡ w)) (MatchBool plain (CommandReplies e w (command_of (words_of line)) (words_of line) reply v) (IsRefused refusal.Syntax reply × (v ≡ w))) → Attains e start v
      by true plain h = unmoved w v before h.1
      by false true h = makes_attains w v (doing_of e.machine (recorded_in e w) (command_of (words_of line)) (words_of line)) (command_of (words_of line)) (words_of line) reply before h
      by false false h = unmoved w v before h.1

  link_attains : (w v : World) (line text : List ℕ) → Attains e start w → Link e w line text v → Attains e start v
  link_attains w v line text before link = replies_attains w v line link.reply before link.replies

  pub story_attains : (lines : List (List ℕ)) (out : List ℕ) (w : World) → Story (Link e) start lines out w → Attains e start w
  story_attains lines out w begins = by_steps (here refl)
  story_attains lines out w (goes_on {lines = earlier} {out = said} {before = u} line text before none link all longer) = link_attains u w line text (story_attains earlier said u before) link

  -- ---- the end of a script

  leaves_attains : (w v : World) (d : Doing) → Attains e start w → Leaves e d w v → Attains e start v
  leaves_attains w v asking before is = unmoved w v before is
  leaves_attains w v (making s) before (inl is) = unmoved w v before is
  leaves_attains w v (making s) before (inr serve) = one_more w v s None before serve
  leaves_attains w v (going c) before h = course_on c None w v h before

  short_attains : (w v : World) (line : List ℕ) → Attains e start w → RunsShort e w line v → Attains e start v
  short_attains w v line before (inl leaves) = leaves_attains w v (doing_of e.machine (recorded_in e w) (asked_by line) (words_of line)) before leaves
  short_attains w v line before (inr (text, link)) = link_attains w v line text before link

  module _ {written0 written1 : Option (List ℕ)} {lines : List (List ℕ)} {w : World} where
    cut_attains : CutOff (Link e) start written0 written1 lines w → Attains e start w
    cut_attains c = link_attains c.before w c.line _ (story_attains c.earlier c.out c.before c.story) c.linked

    left_attains : LeftOff (Link e) (RunsShort e) start written0 written1 lines w → Attains e start w
    left_attains l = short_attains l.before w l.line (story_attains l.earlier l.out l.before l.story) l.ran_short

  ends_attains : (left written0 written1 : Option (List ℕ)) (count : ℕ) (lines : List (List ℕ)) (rest : List ℕ) (w : World) (s : Status) → EndsWith (Link e) (RunsShort e) start left written0 written1 count lines rest w s → Attains e start w
  ends_attains left written0 written1 count lines rest w status.Finished h = story_attains _ h.1.out w h.1.story
  ends_attains left written0 written1 count lines rest w status.BadWords h = absurd h
  ends_attains left written0 written1 count lines rest w status.TooLong h = story_attains _ h.2.out w h.2.story
  ends_attains left written0 written1 count lines rest w status.ReadFault h = story_attains _ h.1.out w h.1.story
  ends_attains left written0 written1 count lines rest w status.WriteFault h = cut_attains h.0
  ends_attains left written0 written1 count lines rest w status.DiskFault h = absurd h
  ends_attains left written0 written1 count lines rest w status.NoMemory h = ⊎_elim (λ l. left_attains l.0) (λ unread. story_attains _ unread.2.out w unread.2.story) h
  ends_attains left written0 written1 count lines rest w status.BadJournal h = absurd h

  pub script_attains : (left0 left1 written0 written1 : Option (List ℕ)) (count : ℕ) (w : World) (s : Status) → ScriptRun (Link e) (RunsShort e) start left0 left1 written0 written1 count w s → Attains e start w
  script_attains left0 left1 written0 written1 count w s run = ends_attains left1 written0 written1 count run.lines run.rest w s run.ends
