-- The result of a command.
use Rattle.std.proofs.Common.{◌≡◌, inl, inr, ℕ, true, false, List, Option, Some, None, Result, Ok, Err, refl, sym, ◌∙◌, ap, subst}
use Rattle.std.specs.Prelude.{IfOk, IsErr}
use Rattle.flow_machine.specs.declared.flow_set.WordFault.{WordFault}
use Rattle.net_model.specs.Environment.{Environment, environment, Meaning}
use Rattle.network_core.specs.declared.steps.Outcome.{Outcome}
use Rattle.network_core.specs.declared.steps.Step.{Step}
use Rattle.network_core.specs.declared.steps.Step.TheVariants as step
use Rattle.network_core.specs.Following.{Serve, ServesPairs}
use Rattle.network_core.specs.Answers.{Answered, answer_of}
use Rattle.network_core.specs.Worlds.{World, NetSeen, KeepsWorld}
use Rattle.shell_words.specs.declared.commands.Command.{Command}
use Rattle.shell_words.specs.declared.commands.Command.TheVariants as command
use Rattle.shell_words.specs.Script.{command_of, words_of, has_no_answer, is_readable, asked_by}
use Rattle.node_shell.specs.declared.replies.Reply.{Reply}
use Rattle.node_shell.specs.declared.replies.Reply.TheVariants.{Told}
use Rattle.node_shell.specs.Loads.{load, work}
use Rattle.node_shell.specs.Lines.{Doing, asking, making, going, doing_of, start_step, started_by, recorded_in, node_at, Answers, Comes, LineComes, StepComes, Makes, CommandReplies, Leaves}
use Rattle.node_shell.specs.Responds.{recorded_seen, StartsNone, IsShown, StepResponds, Responds, CommandResponds, LineResponds, given}
use Rattle.node_shell.proofs.Shown.{shown_answers, step_shown}

-- nothing was done
pub still : {F : Type 0} (e : Environment F) (d : Doing) (w : World) → Leaves e d w w
still e asking w = refl
still e (making s) w = inl refl
still e (going (load seed count)) w = inl refl
still e (going (work workers turns seed)) w = refl

-- a step was made
pub step_comes : {F E : Type 0} (e : Environment F) (w : World) (asked : Command) (ws : List (List ℕ)) (s : Step) (result : Result Reply E) (v : World) → doing_of e.machine (recorded_in e w) asked ws ≡ making s → StepComes e w s result v → Comes e w asked ws result v
step_comes e w asked ws s (Ok reply) v is h = rw is h
step_comes e w asked ws s (Err fault) v is h = rw is (inr h)

answer_comes : {F E : Type 0} (e : Environment F) (w : World) (asked : Command) (ws : List (List ℕ)) (result : Result Reply E) → doing_of e.machine (recorded_in e w) asked ws ≡ asking → IfOk result (λ reply. Answers e w asked ws reply) → Comes e w asked ws result w
answer_comes e w asked ws (Ok reply) is h = rw is (h, refl)
answer_comes e w asked ws (Err fault) is h = rw is refl

all_ok : {E : Type 0} {P Q : Reply → Type 0} (result : Result Reply E) → ((reply : Reply) → P reply → Q reply) → IfOk result P → IfOk result Q
all_ok (Ok reply) to h = to reply h
all_ok (Err fault) to h = h

-- what a step answers does not depend on how want of memory is told
abbrev ok_outcome : (E : Type 0) → Outcome → Result Outcome E
ok_outcome E o = Ok o

abbrev err_outcome : {E : Type 0} → E → Result Outcome E
err_outcome fault = Err fault

module _ {F : Type 0} (E : Type 0) (m : Meaning F) (old new : NetSeen) where
  as_told : (s : Step) (o : Outcome) → Answered m s old (ok_outcome E o) new → Answered m s old (answer_of (Some o)) new
  as_told (step.Clock to) o h = h
  as_told (step.Start node class args) o h = h
  as_told (step.Turn node pick) o h = h
  as_told (step.Post node) o h = h
  as_told (step.Deliver node at) o h = h
  as_told (step.Repeat node at) o h = h
  as_told (step.Lose node at) o h = h
  as_told (step.Cut node calls kind) o h = h
  as_told (step.Boot node) o h = h
  as_told step.Drain o h = h

  as_untold : (s : Step) (fault : E) → Answered m s old (err_outcome fault) new → Answered m s old (answer_of None) new
  as_untold (step.Clock to) fault h = h
  as_untold (step.Start node class args) fault h = h
  as_untold (step.Turn node pick) fault h = h
  as_untold (step.Post node) fault h = h
  as_untold (step.Deliver node at) fault h = h
  as_untold (step.Repeat node at) fault h = h
  as_untold (step.Lose node at) fault h = h
  as_untold (step.Cut node calls kind) fault h = h
  as_untold (step.Boot node) fault h = h
  as_untold step.Drain fault h = h

module _ {F : Type 0} (m : Meaning F) where
  -- an outcome is told
  pub told : (old new : NetSeen) (s : Step) (o : Outcome) → KeepsWorld m old new (λ e w v. Serve e s w (Some o) v) → KeepsWorld m old new (λ e w v. (p : Outcome) × Serve e s w (Some p) v × (Told o ≡ Told p))
  told old new s o keeps id w shows coherent = let k = keeps id w shows coherent in (k.0, k.1, k.2, (o, k.3, refl))

  pub untold : {E : Type 0} (old new : NetSeen) (s : Step) (result : Result Reply E) → IsErr result → KeepsWorld m old new (λ e w v. Serve e s w None v) → KeepsWorld m old new (λ e w v. StepComes e w s result v)
  untold old new s (Ok reply) is keeps = cc
  untold old new s (Err fault) is keeps = keeps

  -- what the words ask for
  pub asked_as : {E : Type 0} (old new : NetSeen) (asked : Command) (ws : List (List ℕ)) (result : Result Reply E) → asked ≡ command_of ws → KeepsWorld m old new (λ e w v. Comes e w asked ws result v)
      → KeepsWorld m old new (λ e w v. Comes e w (command_of ws) ws result v)
  asked_as old new asked ws result is keeps = subst (λ (a : Command). KeepsWorld m old new (λ e w v. Comes e w a ws result v)) is keeps

  pub made : {E : Type 0} (old new : NetSeen) (asked : Command) (ws : List (List ℕ)) (s : Step) (result : Result Reply E) → doing_of m.machine (recorded_seen m.frame_at old) asked ws ≡ making s
      → KeepsWorld m old new (λ e w v. StepComes e w s result v) → KeepsWorld m old new (λ e w v. Comes e w asked ws result v)
  made old new asked ws s result is keeps id w shows coherent =
      let k = keeps id w shows coherent in
      (k.0, k.1, k.2, step_comes (environment m id) w asked ws s result k.0 (sym (step_shown (environment m id) old w shows asked ws) ∙ is) k.3)

  pub answered : {E : Type 0} (net : NetSeen) (asked : Command) (ws : List (List ℕ)) (result : Result Reply E) → doing_of m.machine (recorded_seen m.frame_at net) asked ws ≡ asking
      → IfOk result (IsShown m net asked ws) → KeepsWorld m net net (λ e w v. Comes e w asked ws result v)
  answered net asked ws result is shown id w shows coherent =
      let e = environment m id in
      (w, shows, coherent, answer_comes e w asked ws result (sym (step_shown e net w shows asked ws) ∙ is) (all_ok result (shown_answers m id net w shows coherent asked ws) shown))

  -- a start of a flow whose words are known
  pub started : {E : Type 0} (old new : NetSeen) (node : ℕ) (ws : List (List ℕ)) (class : ℕ) (args : List ℕ) (result : Result Reply E) → started_by m.machine (recorded_seen m.frame_at old (node_at node)) ws ≡ Ok (class, args)
      → KeepsWorld m old new (λ e w v. StepComes e w (step.Start (node_at node) class args) result v) → KeepsWorld m old new (λ e w v. Comes e w (command.Start node) ws result v)
  started old new node ws class args result is keeps =
      made old new (command.Start node) ws (step.Start (node_at node) class args) result (ap (λ x. start_step (node_at node) x) is) keeps

  -- words that start no flow
  none_shown : (net : NetSeen) (node : ℕ) (ws : List (List ℕ)) (fault : WordFault) (reply : Reply) → started_by m.machine (recorded_seen m.frame_at net (node_at node)) ws ≡ Err fault → StartsNone net (node_at node) (Err fault) reply → IsShown m net (command.Start node) ws reply
  none_shown net node ws fault reply is given = subst (λ x. StartsNone net (node_at node) x reply) (sym is) given

  pub unstarted : (net : NetSeen) (node : ℕ) (ws : List (List ℕ)) (fault : WordFault) (reply : Reply) → started_by m.machine (recorded_seen m.frame_at net (node_at node)) ws ≡ Err fault → StartsNone net (node_at node) (Err fault) reply
      → KeepsWorld m net net (λ e w v. CommandReplies e w (command.Start node) ws reply v)
  unstarted net node ws fault reply is shown id w shows coherent =
      let e = environment m id in
      let none : doing_of m.machine (recorded_in e w) (command.Start node) ws ≡ asking = sym (step_shown e net w shows (command.Start node) ws) ∙ ap (λ x. start_step (node_at node) x) is in
      (w, shows, coherent, subst (λ (s : Doing). Makes e w s (command.Start node) ws reply w) (sym none) (shown_answers m id net w shows coherent (command.Start node) ws reply (none_shown net node ws fault reply is shown), refl))

  -- ---- over any network

  no_err : false ≡ true → ⊥
  no_err is = cc

  -- an outcome is told, and want of memory is
  pub told_so : {E : Type 0} (old new : NetSeen) (s : Step) (answer : Result Outcome E) (o : Outcome) → answer ≡ Ok o → Answered m s old answer new → ServesPairs m s (Some o) old new → StepResponds m s old (Some (Told o)) new
  told_so {E} old new s answer o is h pairs = (o, as_told E m old new s o (subst (λ r. Answered m s old r new) is h), refl, pairs)

  pub untold_so : {E G : Type 0} (old new : NetSeen) (s : Step) (result : Result Reply E) (fault : G) → IsErr result → Answered m s old (err_outcome fault) new → ServesPairs m s None old new → StepResponds m s old (given result) new
  untold_so old new s (Ok reply) fault is h pairs = absurd (no_err is)
  untold_so {G = G} old new s (Err why) fault is h pairs = inr (as_untold G m old new s fault h, pairs)

  pub asked_responds : (old new : NetSeen) (asked : Command) (ws : List (List ℕ)) (reply : Option Reply) → asked ≡ command_of ws → CommandResponds m asked ws old reply new → CommandResponds m (command_of ws) ws old reply new
  asked_responds old new asked ws reply is h = subst (λ (a : Command). CommandResponds m a ws old reply new) is h

  pub shown_responds : {E : Type 0} (net : NetSeen) (asked : Command) (ws : List (List ℕ)) (result : Result Reply E) → doing_of m.machine (recorded_seen m.frame_at net) asked ws ≡ asking → IfOk result (IsShown m net asked ws) → CommandResponds m asked ws net (given result) net
  shown_responds net asked ws (Ok reply) is h = rw is (h, refl)
  shown_responds net asked ws (Err fault) is h = rw is (tt, refl)

  pub start_responds : (old new : NetSeen) (node : ℕ) (ws : List (List ℕ)) (class : ℕ) (args : List ℕ) (reply : Option Reply) → started_by m.machine (recorded_seen m.frame_at old (node_at node)) ws ≡ Ok (class, args)
      → StepResponds m (step.Start (node_at node) class args) old reply new → CommandResponds m (command.Start node) ws old reply new
  start_responds old new node ws class args reply is h = subst (λ x. Responds m (start_step (node_at node) x) (command.Start node) ws old reply new) (sym is) h

  pub none_responds : (net : NetSeen) (node : ℕ) (ws : List (List ℕ)) (fault : WordFault) (reply : Reply) → started_by m.machine (recorded_seen m.frame_at net (node_at node)) ws ≡ Err fault → StartsNone net (node_at node) (Err fault) reply
      → CommandResponds m (command.Start node) ws net (Some reply) net
  none_responds net node ws fault reply is shown =
      subst (λ x. Responds m (start_step (node_at node) x) (command.Start node) ws net (Some reply) net) (sym is) (none_shown net node ws fault reply is shown, refl)

  -- a line whose words were not read for want of memory
  pub line_unread : {E : Type 0} (net : NetSeen) (line : List ℕ) (result : Result Reply E) → IsErr result → KeepsWorld m net net (λ e w v. LineComes e w line result v)
  line_unread net line (Ok reply) is = absurd (no_err is)
  line_unread net line (Err fault) is = λ id w shows coherent.
      let e = environment m id in
      (w, shows, coherent, still e (doing_of e.machine (recorded_in e w) (asked_by line) (words_of line)) w)

  -- want of memory before a step was begun
  pub unbegun : (net : NetSeen) (d : Doing) (asked : Command) (ws : List (List ℕ)) → Responds m d asked ws net None net
  unbegun net asking asked ws = (tt, refl)
  unbegun net (making s) asked ws = inl refl
  unbegun net (going (load seed count)) asked ws = inl refl
  unbegun net (going (work workers turns seed)) asked ws = refl

-- ---- a line

line_comes : {F E : Type 0} (e : Environment F) (w : World) (line : List ℕ) (result : Result Reply E) (v : World) → has_no_answer line ≡ false → is_readable line ≡ true
    → Comes e w (command_of (words_of line)) (words_of line) result v → LineComes e w line result v
line_comes e w line (Ok reply) v some plain h = rw (some, plain) h
line_comes e w line (Err fault) v some plain h = rw (some, plain) h

module _ {F : Type 0} (m : Meaning F) where
  pub line_served : {E : Type 0} (old new : NetSeen) (line : List ℕ) (ws : List (List ℕ)) (result : Result Reply E) → has_no_answer line ≡ false → is_readable line ≡ true → ws ≡ words_of line
      → KeepsWorld m old new (λ e w v. Comes e w (command_of ws) ws result v) → KeepsWorld m old new (λ e w v. LineComes e w line result v)
  line_served old new line ws result some plain is keeps id w shows coherent =
      let k = keeps id w shows coherent in
      let e = environment m id in
      (k.0, k.1, k.2, line_comes e w line result k.0 some plain (subst (λ (t : List (List ℕ)). Comes e w (command_of t) t result k.0) is k.3))

  pub line_responds : (old new : NetSeen) (line : List ℕ) (ws : List (List ℕ)) (reply : Option Reply) → has_no_answer line ≡ false → is_readable line ≡ true → ws ≡ words_of line
      → CommandResponds m (command_of ws) ws old reply new → LineResponds m line old reply new
  line_responds old new line ws reply some plain is h = rw (some, plain) (subst (λ (t : List (List ℕ)). CommandResponds m (command_of t) t old reply new) is h)
