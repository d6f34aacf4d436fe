-- What is left, after some lines, of the commands that an end may issue and of the events that a script may have: a function of
-- the events of those lines alone.
use Rattle.std.specs.Prelude.{List, [], ◌∷◌, Result, Ok, Err}
use Rattle.duplex_script.specs.Left as duplex
use Rattle.half_script.specs.Read as half
use Rattle.line_script.specs.declared.fault.Cause.{Cause}
use Rattle.script_parts.specs.declared.script.Event.{Event}
use Rattle.line_script.specs.declared.reader.Reader.{Reader}
use Rattle.line_script.specs.declared.reader.Reader.TheVariants.{Full, Half}
use Rattle.line_script.specs.Lines.{TextLine, after_line}
use Rattle.line_script.specs.ScriptText.{with_event}

-- an answer, where there is one, goes on
abbrev pub and_then : {T : Type 0} → Result T Cause → (T → Result T Cause) → Result T Cause
and_then (Err cause) next = Err cause
and_then (Ok answer) next = next answer

-- what is known after these lines, and the events with theirs; or the cause of the first that is faulty
abbrev pub after_lines : Reader → List Event → List TextLine → Result (Reader × List Event) Cause
after_lines d events [] = Ok (d, events)
after_lines d events (line ∷ lines) = and_then (with_event events (after_line d line)) (λ step. after_lines step.0 step.1 lines)

-- in full mode 65,535 commands of each end, in half mode 65,535 of the master, and 4,000,000 events, less those of the lines so far
abbrev pub IsLeft : Reader → List Event → Type 0
IsLeft (Full d) events = duplex.IsLeft d events
IsLeft (Half d) events = half.IsLeft d events
