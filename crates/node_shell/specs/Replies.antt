-- What a line is answered with, as text.
use Rattle.std.specs.Prelude.{◌≡◌, ℕ, List, [], ◌∷◌, ◌++◌, Bool, true, false, codes, decimal, string_bytes}
use Rattle.network_core.specs.declared.refusal.Refusal.{Refusal}
use Rattle.network_core.specs.declared.steps.Outcome.{Outcome}
use Rattle.network_core.specs.declared.steps.Outcome.TheVariants as outcome
use Rattle.network_core.specs.Refusals.{code_of, name_of}
use Rattle.node_shell.specs.declared.replies.Reply.{Reply}
use Rattle.node_shell.specs.declared.replies.Reply.TheVariants.{Silence, Quit, Told, Printed, Worked}

-- what an outcome prints: one line, with its end
abbrev pub outcome_text : Outcome → List ℕ
outcome_text outcome.Fine = codes "ok\n"
outcome_text (outcome.Started flow) = codes "flow " ++ decimal flow ++ 10 ∷ []
outcome_text (outcome.Moved flow) = codes "moved " ++ decimal flow ++ 10 ∷ []
outcome_text outcome.Idle = codes "idle\n"
outcome_text (outcome.Posted count) = codes "posted " ++ decimal count ++ 10 ∷ []
outcome_text (outcome.Took upto) = codes "took\n"
outcome_text outcome.Acked = codes "acked\n"
outcome_text (outcome.Again expected) = codes "again " ++ decimal expected ++ 10 ∷ []
outcome_text (outcome.Early expected) = codes "early " ++ decimal expected ++ 10 ∷ []
outcome_text outcome.NoSession = codes "nosession\n"
outcome_text outcome.Lost = codes "lost\n"
outcome_text outcome.Armed = codes "armed\n"
outcome_text outcome.Down = codes "down\n"
outcome_text outcome.Booted = codes "booted\n"
outcome_text outcome.Fault = codes "fault\n"
outcome_text (outcome.Drained true) = codes "drained full\n"
outcome_text (outcome.Drained false) = codes "drained\n"
outcome_text (outcome.Refused why) = codes "! " ++ decimal (code_of why) ++ codes " " ++ name_of why ++ 10 ∷ []

-- what a reply prints: nothing, the line of an outcome, printed lines, or that workers made their turns
abbrev pub reply_text : Reply → List ℕ
reply_text Silence = []
reply_text Quit = []
reply_text (Told o) = outcome_text o
reply_text (Printed text) = string_bytes text
reply_text Worked = codes "worked\n"

-- whether a reply ends the script
abbrev pub is_end : Reply → Bool
is_end Quit = true
is_end Silence = false
is_end (Told o) = false
is_end (Printed text) = false
is_end Worked = false

-- the reply is a refusal
abbrev pub IsRefused : Refusal → Reply → Type 0
IsRefused why reply = reply ≡ Told (outcome.Refused why)
