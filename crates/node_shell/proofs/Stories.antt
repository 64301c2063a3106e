-- How a run goes on by one byte, and how it ends.
use Rattle.std.proofs.Common.{◌≡◌, ◌≢◌, ℕ, ◌+◌, ◌<◌, ◌≤◌, List, [], ◌∷◌, ◌++◌, length, Option, false, true, refl, sym, ap, subst, ◌∙◌, inl, inr, append-nil, length-append, arith}
use Rattle.std.proofs.lemmas.List.{take_all, take_at}
use Rattle.std.specs.Io.KnownBytes.{Appends, Consumes, Keeps, IsAtEnd}
use Rattle.std.proofs.KnownBytes.{Appends-nil, Appends-trans, Consumes-nil, Consumes-trans, Consumes-kept}
use Rattle.node_shell.specs.declared.statuses.Status.{Status}
use Rattle.node_shell.specs.declared.statuses.Status.TheVariants as status
use Rattle.node_shell.specs.declared.session.Stop.{Stop}
use Rattle.node_shell.specs.declared.session.Stop.TheVariants as stop
use Rattle.shell_words.specs.Script.{AreLines, without_cr, whole_lines, last_line, is_quit}
use Rattle.node_shell.specs.Story.{begins, goes_on, NoneQuits, Answered, all_lines, Progress, EndsWith, ScriptRun, StopsAs, status_of}
use Rattle.shell_words.proofs.Splitting.{lines_none, lines_byte, lines_end, whole_more, last_one}

none_push : (lines : List (List ℕ)) (line : List ℕ) → NoneQuits lines → is_quit line ≡ false → NoneQuits (lines ++ line ∷ [])
none_push [] line none goes = (goes, tt)
none_push (x ∷ xs) line none goes = (none.0, none_push xs line none.1 goes)

module _ {W : Type 0} {link : W → List ℕ → List ℕ → W → Type 0} {start : W} where
  -- one line more is answered
  pub answered_more : {written0 written1 written2 : Option (List ℕ)} {lines more : List (List ℕ)} {before after : W} {line text : List ℕ} → Answered link start written0 written1 lines before → NoneQuits lines → link before line text after → Appends written1 written2 text → more ≡ lines ++ line ∷ [] → Answered link start written0 written2 more after
  answered_more {written0 = written0} {written1 = written1} {written2 = written2} {line = line} {text = text} a none linked appends all = record {
    out = a.out ++ text;
    story = goes_on line text a.story none linked all refl;
    appended = Appends-trans written0 written1 written2 a.out text a.appended appends;
  }

  -- nothing was read yet
  pub progress_start : (left written : Option (List ℕ)) → Progress link start left left written written 0 start []
  progress_start left written = record {
    read = [];
    lines = [];
    consumed = Consumes-nil left;
    counted = refl;
    split = lines_none;
    open_end = tt;
    answered = record { out = []; story = begins; appended = Appends-nil written };
  }

  module _ {left0 left1 written0 written1 : Option (List ℕ)} {count : ℕ} {old : W} {rest : List ℕ} (r : Progress link start left0 left1 written0 written1 count old rest) where
    -- a byte that ends no line
    pub progress_byte : {left2 : Option (List ℕ)} → (b : ℕ) → Consumes left1 left2 (b ∷ []) → b ≢ 10 → Progress link start left0 left2 written0 written1 (count + 1) old (rest ++ b ∷ [])
    progress_byte {left2 = left2} b c open_b = record {
      read = r.read ++ b ∷ [];
      lines = r.lines;
      consumed = Consumes-trans left0 left1 left2 _ _ r.consumed c;
      counted = omega (arith, length-append r.read (b ∷ []), r.counted);
      split = lines_byte r.split b open_b;
      open_end = r.open_end;
      answered = r.answered;
    }

    -- a byte that ends a line, which is answered
    pub progress_line : {left2 : Option (List ℕ)} {written2 : Option (List ℕ)} {new : W} → (text : List ℕ) → Consumes left1 left2 (10 ∷ []) → is_quit (without_cr rest) ≡ false → link old (without_cr rest) text new → Appends written1 written2 text → Progress link start left0 left2 written0 written2 (count + 1) new []
    progress_line {left2 = left2} text c goes linked appends = record {
      read = r.read ++ 10 ∷ [];
      lines = r.lines ++ rest ∷ [];
      consumed = Consumes-trans left0 left1 left2 _ _ r.consumed c;
      counted = omega (arith, length-append r.read (10 ∷ []), r.counted);
      split = lines_end r.split;
      open_end = subst NoneQuits (sym (whole_more r.lines rest)) (none_push (whole_lines r.lines) (without_cr rest) r.open_end goes);
      answered = answered_more r.answered r.open_end linked appends (whole_more r.lines rest);
    }

    -- the run ends before another byte
    ends_here : {short : W → List ℕ → W → Type 0} → {left2 : Option (List ℕ)} {written2 : Option (List ℕ)} {new : W} → (s : Status) → Keeps left1 left2 → count ≤ 16777216 → EndsWith link short start left2 written0 written2 count r.lines rest new s → ScriptRun link short start left0 left2 written0 written2 count new s
    ends_here {left2 = left2} s k small ends = record {
      read = r.read;
      lines = r.lines;
      rest = rest;
      consumed = Consumes-kept left0 left1 left2 _ r.consumed k;
      counted = r.counted;
      split = subst (λ bytes. AreLines bytes r.lines rest) (sym (take_all 16777216 r.read (omega (arith, r.counted)))) r.split;
      ends = ends;
    }

    -- the run ends after one byte more, with these lines
    ends_after : {short : W → List ℕ → W → Type 0} → {left2 : Option (List ℕ)} {written2 : Option (List ℕ)} {new : W} → (b : ℕ) (s : Status) (lines : List (List ℕ)) (rest' : List ℕ) → Consumes left1 left2 (b ∷ []) → count < 16777216 → AreLines (r.read ++ b ∷ []) lines rest' → EndsWith link short start left2 written0 written2 (count + 1) lines rest' new s → ScriptRun link short start left0 left2 written0 written2 (count + 1) new s
    ends_after {left2 = left2} b s lines rest' c small split ends = record {
      read = r.read ++ b ∷ [];
      lines = lines;
      rest = rest';
      consumed = Consumes-trans left0 left1 left2 _ _ r.consumed c;
      counted = omega (arith, length-append r.read (b ∷ []), r.counted);
      split = subst (λ bytes. AreLines bytes lines rest') (sym (take_all 16777216 (r.read ++ b ∷ []) (omega (arith, length-append r.read (b ∷ []), r.counted)))) split;
      ends = ends;
    }

    -- a read failed
    pub run_unread : {short : W → List ℕ → W → Type 0} → {left2 : Option (List ℕ)} → Keeps left1 left2 → count ≤ 16777216 → ScriptRun link short start left0 left2 written0 written1 count old status.ReadFault
    run_unread k small = ends_here status.ReadFault k small (r.open_end, r.answered)

    -- a byte too many came
    pub run_long : {short : W → List ℕ → W → Type 0} → {left2 : Option (List ℕ)} → (b : ℕ) → Consumes left1 left2 (b ∷ []) → count ≡ 16777216 → ScriptRun link short start left0 left2 written0 written1 (count + 1) old status.TooLong
    run_long {left2 = left2} b c full = record {
      read = r.read ++ b ∷ [];
      lines = r.lines;
      rest = rest;
      consumed = Consumes-trans left0 left1 left2 _ _ r.consumed c;
      counted = omega (arith, length-append r.read (b ∷ []), r.counted);
      split = subst (λ bytes. AreLines bytes r.lines rest) (sym (take_at r.read (b ∷ []) 16777216 (r.counted ∙ full))) r.split;
      ends = (omega (arith, full), r.open_end, r.answered);
    }

    -- there is no memory for a byte of a line
    pub run_unkept : {short : W → List ℕ → W → Type 0} → {left2 : Option (List ℕ)} → (b : ℕ) → Consumes left1 left2 (b ∷ []) → b ≢ 10 → count < 16777216 → ScriptRun link short start left0 left2 written0 written1 (count + 1) old status.NoMemory
    run_unkept b c open_b small = ends_after b status.NoMemory r.lines (rest ++ b ∷ []) c small (lines_byte r.split b open_b) (inr (omega (arith, length-append rest (b ∷ [])), r.open_end, r.answered))

    -- the input ended, and what it ended with was answered
    pub run_finished : {short : W → List ℕ → W → Type 0} → {left2 : Option (List ℕ)} {written2 : Option (List ℕ)} {new : W} → Keeps left1 left2 → IsAtEnd left2 → count ≤ 16777216 → Answered link start written0 written2 (whole_lines r.lines ++ last_line rest) new → ScriptRun link short start left0 left2 written0 written2 count new status.Finished
    run_finished k end small answered = ends_here status.Finished k small (inl end, answered)

    -- what stops a run at its last line
    stopped : (short : W → List ℕ → W → Type 0) (left written2 : Option (List ℕ)) (new : W) (lines : List (List ℕ)) (rest' line : List ℕ) (n : ℕ) (why : Stop) → all_lines lines rest' ≡ whole_lines r.lines ++ line ∷ [] → (0 < length rest' → IsAtEnd left) → StopsAs link short old line new written1 written2 why → EndsWith link short start left written0 written2 n lines rest' new (status_of why)
    stopped short left written2 new lines rest' line n stop.Write all at_end (front, missing, linked, proper, appends) = (
      record {
        before = old;
        earlier = whole_lines r.lines;
        line = line;
        out = r.answered.out;
        front = front;
        missing = missing;
        all = all;
        story = r.answered.story;
        open_end = r.open_end;
        linked = linked;
        proper = proper;
        appended = Appends-trans written0 written1 written2 _ _ r.answered.appended appends;
      },
      at_end,
    )
    stopped short left written2 new lines rest' line n stop.Memory all at_end (ran_short, same) = inl (
      record {
        before = old;
        earlier = whole_lines r.lines;
        line = line;
        out = r.answered.out;
        all = all;
        story = r.answered.story;
        open_end = r.open_end;
        ran_short = ran_short;
        appended = subst (λ written. Appends written0 written r.answered.out) (sym same) r.answered.appended;
      },
      at_end,
    )

    -- the input ended, and the line that it ended with was not answered
    pub run_cut_at_end : {short : W → List ℕ → W → Type 0} → {left2 : Option (List ℕ)} {written2 : Option (List ℕ)} {new : W} → (why : Stop) → Keeps left1 left2 → IsAtEnd left2 → count ≤ 16777216 → 0 < length rest → StopsAs link short old rest new written1 written2 why → ScriptRun link short start left0 left2 written0 written2 count new (status_of why)
    run_cut_at_end {short = short} {left2 = left2} {written2 = written2} {new = new} why k end small some stops = ends_here (status_of why) k small (stopped short left2 written2 new r.lines rest rest count why (ap (λ l. whole_lines r.lines ++ l) (last_one rest some)) (λ _. end) stops)

    -- a line that ended was not answered
    pub run_cut : {short : W → List ℕ → W → Type 0} → {left2 : Option (List ℕ)} {written2 : Option (List ℕ)} {new : W} → (why : Stop) → Consumes left1 left2 (10 ∷ []) → count < 16777216 → StopsAs link short old (without_cr rest) new written1 written2 why → ScriptRun link short start left0 left2 written0 written2 (count + 1) new (status_of why)
    run_cut {short = short} {left2 = left2} {written2 = written2} {new = new} why c small stops = ends_after 10 (status_of why) (r.lines ++ rest ∷ []) [] c small (lines_end r.split) (stopped short left2 written2 new (r.lines ++ rest ∷ []) [] (without_cr rest) (count + 1) why (append-nil _ ∙ whole_more r.lines rest) (λ none. absurd (omega arith)) stops)

    -- a line asked to quit, and its answer was written
    pub run_quit : {short : W → List ℕ → W → Type 0} → {left2 : Option (List ℕ)} {written2 : Option (List ℕ)} {new : W} → (text : List ℕ) → Consumes left1 left2 (10 ∷ []) → count < 16777216 → is_quit (without_cr rest) ≡ true → link old (without_cr rest) text new → Appends written1 written2 text → ScriptRun link short start left0 left2 written0 written2 (count + 1) new status.Finished
    run_quit {written2 = written2} {new = new} text c small asks linked appends =
        let answered : Answered link start written0 written2 (whole_lines (r.lines ++ rest ∷ [])) new = answered_more r.answered r.open_end linked appends (whole_more r.lines rest) in
        ends_after 10 status.Finished (r.lines ++ rest ∷ []) [] c small (lines_end r.split) (
          inr (record { earlier = whole_lines r.lines; line = without_cr rest; all = whole_more r.lines rest; asks = asks; none = refl }),
          subst (λ lines. Answered link start written0 written2 lines new) (sym (append-nil (whole_lines (r.lines ++ rest ∷ [])))) answered,
        )

    -- nothing was read besides
    pub progress_kept : {left2 : Option (List ℕ)} → Keeps left1 left2 → Progress link start left0 left2 written0 written1 count old rest
    progress_kept {left2 = left2} k = record {
      read = r.read;
      lines = r.lines;
      consumed = Consumes-kept left0 left1 left2 _ r.consumed k;
      counted = r.counted;
      split = r.split;
      open_end = r.open_end;
      answered = r.answered;
    }
