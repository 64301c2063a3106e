-- The story of a script: a chain of worlds, or of networks, one link a line; and how a script ends.
use Rattle.std.specs.Prelude.{◌≡◌, ℕ, ◌<◌, List, [], ◌∷◌, ◌++◌, length, Option, take, ◌⊎◌, false, true, Result, Ok, Err, ⊤}
use Rattle.std.specs.List.{AllByRecursion}
use Rattle.std.specs.Io.KnownBytes.{Consumes, Appends, IsAtEnd}
use Rattle.shell_words.specs.Script.{AreLines, whole_lines, last_line, is_quit}
use Rattle.node_shell.specs.declared.statuses.Status.{Status}
use Rattle.node_shell.specs.declared.statuses.Status.TheVariants as status
use Rattle.node_shell.specs.declared.session.Stop.{Stop}
use Rattle.node_shell.specs.declared.session.Stop.TheVariants as stop

-- ---- stories

-- no line asks to quit
abbrev pub NoneQuits : List (List ℕ) → Type 0
NoneQuits lines = AllByRecursion (λ line. is_quit line ≡ false) lines

-- from the opening these lines lead, link by link and with these answers, to this; no line follows on a quit. The links are those of worlds, or of networks
pub data Story {W : Type 0} (link : W → List ℕ → List ℕ → W → Type 0) (start : W) : List (List ℕ) → List ℕ → W → Type 0 where
  begins : Story link start [] [] start
  goes_on : {lines more : List (List ℕ)} {out longer : List ℕ} {before after : W} (line text : List ℕ) → Story link start lines out before → NoneQuits lines → link before line text after
      → more ≡ lines ++ line ∷ [] → longer ≡ out ++ text → Story link start more longer after

-- the lines have a story whose answers were written whole
pub record Answered {W : Type 0} (link : W → List ℕ → List ℕ → W → Type 0) (start : W) (written0 written1 : Option (List ℕ)) (lines : List (List ℕ)) (last : W) : Type 0 where
  pub out : List ℕ
  pub story : Story link start lines out last
  pub appended : Appends written0 written1 out

-- of the lines all but the last have a story; of its answer a proper front was written
pub record CutOff {W : Type 0} (link : W → List ℕ → List ℕ → W → Type 0) (start : W) (written0 written1 : Option (List ℕ)) (lines : List (List ℕ)) (last : W) : Type 0 where
  pub before : W
  pub earlier : List (List ℕ)
  pub line : List ℕ
  pub out : List ℕ
  pub front : List ℕ
  pub missing : List ℕ
  pub all : lines ≡ earlier ++ line ∷ []
  pub story : Story link start earlier out before
  pub open_end : NoneQuits earlier
  pub linked : link before line (front ++ missing) last
  pub proper : 0 < length missing
  pub appended : Appends written0 written1 (out ++ front)

-- of the lines all but the last have a story, and their answers were written; the last has none, for want of memory
pub record LeftOff {W : Type 0} (link : W → List ℕ → List ℕ → W → Type 0) (short : W → List ℕ → W → Type 0) (start : W) (written0 written1 : Option (List ℕ)) (lines : List (List ℕ)) (last : W) : Type 0 where
  pub before : W
  pub earlier : List (List ℕ)
  pub line : List ℕ
  pub out : List ℕ
  pub all : lines ≡ earlier ++ line ∷ []
  pub story : Story link start earlier out before
  pub open_end : NoneQuits earlier
  pub ran_short : short before line last
  pub appended : Appends written0 written1 out

-- ---- scripts

-- the lines that a script has to have answered once no more of the input comes: the whole ones, and a last one without LF
abbrev pub all_lines : List (List ℕ) → List ℕ → List (List ℕ)
all_lines lines rest = whole_lines lines ++ last_line rest

-- how far a script has come: the bytes that were read are whole lines, none of which quits and which were answered, and a rest
pub record Progress {W : Type 0} (link : W → List ℕ → List ℕ → W → Type 0) (start : W) (left0 left1 written0 written1 : Option (List ℕ)) (count : ℕ) (last : W) (rest : List ℕ) : Type 0 where
  pub read : List ℕ
  pub lines : List (List ℕ)
  pub consumed : Consumes left0 left1 read
  pub counted : length read ≡ count
  pub split : AreLines read lines rest
  pub open_end : NoneQuits (whole_lines lines)
  pub answered : Answered link start written0 written1 (whole_lines lines) last

-- the last of the whole lines asked to quit, and behind it nothing was read
pub record Quits (lines : List (List ℕ)) (rest : List ℕ) : Type 0 where
  pub earlier : List (List ℕ)
  pub line : List ℕ
  pub all : lines ≡ earlier ++ line ∷ []
  pub asks : is_quit line ≡ true
  pub none : rest ≡ []

-- what is so at the end of a script, by its status, where the bytes that were read are these whole lines and this rest; a rest is a line of
-- its own only where the input has ended, and want of memory may come while one is read
abbrev pub EndsWith : {W : Type 0} → (W → List ℕ → List ℕ → W → Type 0) → (W → List ℕ → W → Type 0) → W → Option (List ℕ) → Option (List ℕ) → Option (List ℕ) → ℕ → List (List ℕ) → List ℕ → W → Status → Type 0
EndsWith link short start left written0 written1 count lines rest last status.Finished = (IsAtEnd left ⊎ Quits (whole_lines lines) rest) × Answered link start written0 written1 (all_lines lines rest) last
EndsWith link short start left written0 written1 count lines rest last status.BadWords = ⊥
EndsWith link short start left written0 written1 count lines rest last status.TooLong = (count ≡ 16777217) × NoneQuits (whole_lines lines) × Answered link start written0 written1 (whole_lines lines) last
EndsWith link short start left written0 written1 count lines rest last status.ReadFault = NoneQuits (whole_lines lines) × Answered link start written0 written1 (whole_lines lines) last
EndsWith link short start left written0 written1 count lines rest last status.WriteFault = CutOff link start written0 written1 (all_lines lines rest) last × (0 < length rest → IsAtEnd left)
EndsWith link short start left written0 written1 count lines rest last status.DiskFault = ⊥
EndsWith link short start left written0 written1 count lines rest last status.NoMemory = (LeftOff link short start written0 written1 (all_lines lines rest) last × (0 < length rest → IsAtEnd left)) ⊎ ((0 < length rest) × NoneQuits (whole_lines lines) × Answered link start written0 written1 (whole_lines lines) last)
EndsWith link short start left written0 written1 count lines rest last status.BadJournal = ⊥

-- a whole script: what was read, and how it ended
pub record ScriptRun {W : Type 0} (link : W → List ℕ → List ℕ → W → Type 0) (short : W → List ℕ → W → Type 0) (start : W) (left0 left1 written0 written1 : Option (List ℕ)) (count : ℕ) (last : W) (status : Status) : Type 0 where
  pub read : List ℕ
  pub lines : List (List ℕ)
  pub rest : List ℕ
  pub consumed : Consumes left0 left1 read
  pub counted : length read ≡ count
  pub split : AreLines (take 16777216 read) lines rest
  pub ends : EndsWith link short start left1 written0 written1 count lines rest last status

-- why a line wasn't answered: a proper front of its answer was written, or memory ran out
abbrev pub StopsAs : {W : Type 0} → (W → List ℕ → List ℕ → W → Type 0) → (W → List ℕ → W → Type 0) → W → List ℕ → W → Option (List ℕ) → Option (List ℕ) → Stop → Type 0
StopsAs link short w line v written0 written1 stop.Write = (front missing : List ℕ) × link w line (front ++ missing) v × (0 < length missing) × Appends written0 written1 front
StopsAs link short w line v written0 written1 stop.Memory = short w line v × (written1 ≡ written0)

-- the status of a script that stopped at a line
abbrev pub status_of : Stop → Status
status_of stop.Write = status.WriteFault
status_of stop.Memory = status.NoMemory

-- how an answer ended: its text was written, or it was not, and why
abbrev pub AnswerComes : {W T : Type 0} → (W → List ℕ → List ℕ → W → Type 0) → (W → List ℕ → W → Type 0) → W → List ℕ → Option (List ℕ) → Option (List ℕ) → Result T Stop → W → Type 0
AnswerComes link short w line written0 written1 (Ok _) v = (text : List ℕ) × link w line text v × Appends written0 written1 text
AnswerComes link short w line written0 written1 (Err why) v = StopsAs link short w line v written0 written1 why

-- the statuses with which a line may end a script
abbrev pub IsLastStatus : Status → Type 0
IsLastStatus status.Finished = ⊤
IsLastStatus status.WriteFault = ⊤
IsLastStatus status.NoMemory = ⊤
IsLastStatus status.BadWords = ⊥
IsLastStatus status.TooLong = ⊥
IsLastStatus status.ReadFault = ⊥
IsLastStatus status.DiskFault = ⊥
IsLastStatus status.BadJournal = ⊥

-- the statuses with which a script may end
abbrev pub IsScriptStatus : Status → Type 0
IsScriptStatus status.BadWords = ⊥
IsScriptStatus status.DiskFault = ⊥
IsScriptStatus status.BadJournal = ⊥
IsScriptStatus status.Finished = ⊤
IsScriptStatus status.TooLong = ⊤
IsScriptStatus status.ReadFault = ⊤
IsScriptStatus status.WriteFault = ⊤
IsScriptStatus status.NoMemory = ⊤
