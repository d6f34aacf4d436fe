-- A text that comes byte by byte, as far as it has come: what its lines say that a line feed has ended, and the line that is begun.
use Rattle.std.specs.Prelude.{◌≡◌, ℕ, ◌+◌, ◌-◌, List, [], ◌∷◌, ◌++◌, length, take, Result, Ok, Err, false, ◌==◌}
use Rattle.std.specs.List.{list_any}
use Rattle.line_script.specs.declared.fault.Cause.{Cause}
use Rattle.line_script.specs.declared.fault.ScriptFault.{ScriptFault}
use Rattle.line_script.specs.declared.fault.ScriptFault.TheVariants as fault
use Rattle.script_parts.specs.declared.script.Event.{Event}
use Rattle.script_parts.specs.declared.script.Script.{Script}
use Rattle.line_script.specs.declared.reader.Reader.{Reader}
use Rattle.line_script.specs.Readers.{fresh}
use Rattle.line_script.specs.Left.{after_lines}
use Rattle.line_script.specs.Lines.{TextLine, after_line, lines_from, script_with}
use Rattle.line_script.specs.ScriptText.{parts, script_of, with_event}
use Rattle.line_script.specs.Unfinished.{unfinished}

-- the lines of a text
abbrev pub lines_of : List ℕ → List TextLine
lines_of text = lines_from 0 (parts text)

-- ---- what a text says before its first faulty line

abbrev pub accepted_on : Reader × List Event → Result (Reader × List Event) Cause → (Reader × List Event → Reader × List Event) → Reader × List Event
accepted_on so_far (Err cause) next = so_far
accepted_on so_far (Ok step) next = next step

-- what is known after the lines before the first that is faulty, and their events
abbrev pub accepted : Reader → List Event → List TextLine → Reader × List Event
accepted d events [] = (d, events)
accepted d events (line ∷ lines) = accepted_on (d, events) (with_event events (after_line d line)) (λ step. accepted step.0 step.1 lines)

abbrev pub script_at : Reader × List Event → Script
script_at step = script_with step.0 step.1

-- the script that the lines of a text make before the first that is faulty, as if it ended there
unfoldable pub accepted_script : List ℕ → Script
accepted_script text = script_at (accepted fresh [] (lines_of text))

-- the lines of a text that a line feed ends
abbrev pub ended : List ℕ → List ℕ
ended text = take (length text - unfinished text) text

-- ---- a reader of bytes

-- no line feed is among some bytes
abbrev pub HasNoFeed : List ℕ → Type 0
HasNoFeed bytes = list_any (λ byte. byte == 10) bytes ≡ false

-- what the lines say that a line feed has ended, the line that is begun, its number, and how many bytes stand before it
pub record Fed : Type 0 where
  pub reader : Reader
  pub line : List ℕ
  pub number : ℕ
  pub start : ℕ

-- A reader stands for the text that it was fed: its whole lines, each ended by a line feed and none refused, with these events,
-- and the line that is begun.
pub record StandsFor (text : List ℕ) (events : List Event) (r : Fed) : Type 0 where
  pub whole : List ℕ
  pub text_is : text ≡ whole ++ r.line
  pub ends : unfinished whole ≡ 0
  pub begun : list_any (λ byte. byte == 10) r.line ≡ false
  pub read : after_lines fresh [] (lines_of whole) ≡ Ok (r.reader, events)
  pub number_is : r.number ≡ length (lines_of whole) + 1
  pub start_is : r.start ≡ length whole

-- It stands for the whole text, at its end: all its lines, with these events.
pub record EndsFor (text : List ℕ) (events : List Event) (r : Fed) : Type 0 where
  pub read : after_lines fresh [] (lines_of text) ≡ Ok (r.reader, events)
  pub number_is : r.number ≡ length (lines_of text) + 1

-- No text that begins so is a script: the first faulty line and its cause, and what the lines before it make. Want of memory says
-- nothing.
abbrev pub IsRefusedFor : List ℕ → Script → ScriptFault → Type 0
IsRefusedFor text script (fault.At line cause) = (more : List ℕ) → (script_of (text ++ more) ≡ Err (line, cause)) × (accepted_script (text ++ more) ≡ script)
IsRefusedFor text script fault.NoMemory = Unit {0}

-- the text is no script: likewise
abbrev pub IsRefusedAtEnd : List ℕ → Script → ScriptFault → Type 0
IsRefusedAtEnd text script (fault.At line cause) = (script_of text ≡ Err (line, cause)) × (accepted_script text ≡ script)
IsRefusedAtEnd text script fault.NoMemory = Unit {0}
