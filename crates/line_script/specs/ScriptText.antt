-- The script that a text says, or its first faulty line and the first cause that fits it.
use Rattle.std.specs.Prelude.{ℕ, ◌+◌, List, [], ◌∷◌, ◌++◌, Option, Result, Ok, Err, ◌==◌}
use Rattle.std.specs.List.{slice_split}
use Rattle.std.specs.Option.{option_to_list}
use Rattle.line_script.specs.declared.fault.Cause.{Cause}
use Rattle.script_parts.specs.declared.script.Event.{Event}
use Rattle.script_parts.specs.declared.script.Script.{Script}
use Rattle.line_script.specs.declared.reader.Reader.{Reader}
use Rattle.line_script.specs.declared.profile.Profile.{Profile}
use Rattle.line_script.specs.declared.profile.Profile.TheVariants.{Replay, Route, Rehearse}
use Rattle.line_script.specs.Readers.{fresh_for}
use Rattle.line_script.specs.Lines.{TextLine, finished, line_for, lines_from}

-- an answer, or the cause of a line with its number
abbrev pub at_line : {T : Type 0} → ℕ → Result T Cause → (T → Result Script (ℕ × Cause)) → Result Script (ℕ × Cause)
at_line number (Err cause) next = Err (number, cause)
at_line number (Ok answer) next = next answer

-- what is known after a line, and the events with its own
abbrev pub with_event : List Event → Result (Reader × Option Event) Cause → Result (Reader × List Event) Cause
with_event events (Err cause) = Err cause
with_event events (Ok step) = Ok (step.0, events ++ option_to_list step.1)

-- the script, from the lines from a number on: after what is known and the events of the lines before them
abbrev pub lines_for : Profile → Reader → List Event → ℕ → List TextLine → Result Script (ℕ × Cause)
lines_for profile d events number [] = at_line number (finished d events) Ok
lines_for profile d events number (line ∷ lines) =
    at_line number (with_event events (line_for profile d line)) (λ step. lines_for profile step.0 step.1 (number + 1) lines)

abbrev pub script_from : Reader → List Event → ℕ → List TextLine → Result Script (ℕ × Cause)
script_from = lines_for Replay

-- the parts of a text between its line feeds
abbrev pub parts : List ℕ → List (List ℕ)
parts text = slice_split (λ byte. byte == 10) text

-- the script that the lines of a text say
abbrev pub text_for : Profile → List ℕ → Result Script (ℕ × Cause)
text_for profile text = lines_for profile (fresh_for profile) [] 1 (lines_from 0 (parts text))

-- the script that a text says, or the number of its first faulty line, counted from 1, and the first cause that fits it
unfoldable pub script_of : List ℕ → Result Script (ℕ × Cause)
script_of text = text_for Replay text

-- the same by what it is read for
unfoldable pub script_for : Profile → List ℕ → Result Script (ℕ × Cause)
script_for Replay text = script_of text
script_for Route text = text_for Route text
script_for Rehearse text = text_for Rehearse text
