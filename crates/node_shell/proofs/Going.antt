-- How a script goes on by a line.
use Rattle.std.proofs.Common.{◌≡◌, ℕ, ◌+◌, ◌<◌, ◌≤◌, List, [], ◌∷◌, ◌++◌, length, Option, Bool, true, false, Result, Ok, Err, sym, ap, subst, ◌∙◌, append-nil}
use Rattle.std.specs.Io.KnownBytes.{Consumes, IsAtEnd}
use Rattle.std.proofs.KnownBytes.{Keeps-refl}
use Rattle.std.proofs.lemmas.List.{nil_from_length}
use Rattle.shell_words.specs.Script.{without_cr, whole_lines, last_line, is_quit}
use Rattle.shell_words.proofs.Splitting.{last_one}
use Rattle.node_shell.specs.declared.session.Stop.{Stop}
use Rattle.node_shell.specs.declared.statuses.Status.TheVariants as status
use Rattle.node_shell.specs.Story.{Progress, ScriptRun, Answered, AnswerComes, status_of}
use Rattle.node_shell.proofs.Stories.{answered_more, progress_line, run_finished, run_cut_at_end, run_cut, run_quit}

-- an answer that was written, and one that was not
abbrev pub done : Bool → Result Bool Stop
done quit = Ok quit

abbrev pub stopped_by : Stop → Result Bool Stop
stopped_by why = Err why

module _ {W : Type 0} (link : W → List ℕ → List ℕ → W → Type 0) (short : W → List ℕ → W → Type 0) {start old : W} {line : List ℕ} {left0 left1 written0 written1 : Option (List ℕ)} {count : ℕ} where
  -- the input ended behind a whole line
  pub last_empty : length line ≡ 0 → count ≤ 16777216 → IsAtEnd left1 → Progress link start left0 left1 written0 written1 count old line → ScriptRun link short start left0 left1 written0 written1 count old status.Finished
  last_empty none small end h =
      let same : last_line line ≡ [] = ap last_line (nil_from_length line none) in
      let all : whole_lines h.lines ++ last_line line ≡ whole_lines h.lines = ap (λ l. whole_lines h.lines ++ l) same ∙ append-nil (whole_lines h.lines) in
      run_finished h (Keeps-refl left1) end small (subst (λ lines. Answered link start written0 written1 lines old) (sym all) h.answered)

module _ {W : Type 0} (link : W → List ℕ → List ℕ → W → Type 0) (short : W → List ℕ → W → Type 0) {start old : W} (new : W) {line : List ℕ} {left0 left1 written0 written1 : Option (List ℕ)} (written2 : Option (List ℕ)) {count : ℕ} where
  -- the input ended, and the line that it ended with was answered
  pub last_done : (quit : Bool) → AnswerComes link short old line written1 written2 (done quit) new → count ≤ 16777216 → IsAtEnd left1 → 0 < length line → Progress link start left0 left1 written0 written1 count old line
      → ScriptRun link short start left0 left1 written0 written2 count new status.Finished
  last_done quit k small end some h = run_finished h (Keeps-refl left1) end small (answered_more h.answered h.open_end k.1 k.2 (ap (λ l. whole_lines h.lines ++ l) (last_one line some)))

  -- the input ended, and the line that it ended with was not answered
  pub last_stopped : (why : Stop) → AnswerComes link short old line written1 written2 (stopped_by why) new → count ≤ 16777216 → IsAtEnd left1 → 0 < length line → Progress link start left0 left1 written0 written1 count old line
      → ScriptRun link short start left0 left1 written0 written2 count new (status_of why)
  last_stopped why k small end some h = run_cut_at_end h why (Keeps-refl left1) end small some k

  module _ (left2 : Option (List ℕ)) where
    -- a line was answered, and the script goes on
    pub line_done : AnswerComes link short old (without_cr line) written1 written2 (done false) new → is_quit (without_cr line) ≡ false → Consumes left1 left2 (10 ∷ []) → Progress link start left0 left1 written0 written1 count old line
        → Progress link start left0 left2 written0 written2 (count + 1) new []
    line_done k goes c h = progress_line h k.0 c goes k.1 k.2

    -- a line asked to quit
    pub line_quits : AnswerComes link short old (without_cr line) written1 written2 (done true) new → is_quit (without_cr line) ≡ true → count < 16777216 → Consumes left1 left2 (10 ∷ []) → Progress link start left0 left1 written0 written1 count old line
        → ScriptRun link short start left0 left2 written0 written2 (count + 1) new status.Finished
    line_quits k asks small c h = run_quit h k.0 c small asks k.1 k.2

    -- a line was not answered
    pub line_stopped : (why : Stop) → AnswerComes link short old (without_cr line) written1 written2 (stopped_by why) new → count < 16777216 → Consumes left1 left2 (10 ∷ []) → Progress link start left0 left1 written0 written1 count old line
        → ScriptRun link short start left0 left2 written0 written2 (count + 1) new (status_of why)
    line_stopped why k small c h = run_cut h why c small k
