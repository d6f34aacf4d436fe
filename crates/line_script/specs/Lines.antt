-- The lines of a text, and what each says after those before it.
use Rattle.std.specs.Prelude.{ℕ, ◌+◌, ◌-◌, Bool, true, false, List, [], ◌∷◌, length, take, min, slice_index, Option, None, Some, Result, Ok, Err, nat_le, nat_lt, ◌==◌, ◌&&◌, if◌then◌else◌}
use Rattle.line_script.specs.declared.fault.Cause.{Cause}
use Rattle.line_script.specs.declared.fault.Cause.TheVariants as cause
use Rattle.script_parts.specs.declared.script.Event.{Event}
use Rattle.script_parts.specs.declared.script.Script.{Script}
use Rattle.script_statement.specs.declared.statement.Statement.{Statement}
use Rattle.end_drafts.specs.declared.flaw.Flaw.{Flaw}
use Rattle.end_drafts.specs.declared.flaw.Flaw.TheVariants as flaw
use Rattle.end_drafts.specs.declared.flaw.StatementFault.{StatementFault}
use Rattle.end_drafts.specs.declared.flaw.StatementFault.TheVariants as stated
use Rattle.line_script.specs.declared.fault.LineFault.{LineFault}
use Rattle.line_script.specs.declared.fault.LineFault.TheVariants as line
use Rattle.end_drafts.specs.declared.stage.Stage.{Stage}
use Rattle.end_drafts.specs.declared.stage.Stage.TheVariants.{Ended}
use Rattle.line_script.specs.declared.reader.Reader.{Reader}
use Rattle.line_script.specs.declared.reader.Reader.TheVariants.{Full, Half}
use Rattle.line_script.specs.declared.profile.Profile.{Profile}
use Rattle.line_script.specs.declared.profile.Profile.TheVariants.{Replay}
use Rattle.line_script.specs.Forms.{is_barred, said_for}
use Rattle.line_script.specs.Readers.{after_statement, stage_of}
use Rattle.duplex_script.specs.Drafts as duplex
use Rattle.half_script.specs.Drafts as half
use Rattle.script_statement.specs.Words.{words}

-- a line: how many bytes of the text stand before it, its bytes without its line feed, and whether a line feed ends it
pub record TextLine : Type 0 where
  pub start : ℕ
  pub bytes : List ℕ
  pub is_ended : Bool

abbrev pub text_line : ℕ → List ℕ → Bool → TextLine
text_line start bytes is_ended = record { start = start; bytes = bytes; is_ended = is_ended }

-- what stands behind the last line feed of a text, from a place of the text on: a line, if it is anything
abbrev pub last_line : ℕ → List ℕ → List TextLine
last_line start [] = []
last_line start (byte ∷ more) = text_line start (byte ∷ more) false ∷ []

-- the lines that these parts between line feeds are, from a place of the text on
abbrev pub lines_from : ℕ → List (List ℕ) → List TextLine
lines_from start [] = []
lines_from start (bytes ∷ []) = last_line start bytes
lines_from start (bytes ∷ next ∷ rest) = text_line start bytes true ∷ lines_from (start + (length bytes + 1)) (next ∷ rest)

-- byte 16,777,217 of the text is among the first 1,025 bytes of the line, its line feed counted
abbrev pub reaches_limit : TextLine → Bool
reaches_limit line =
    nat_le line.start 16777216
    && nat_lt (16777216 - line.start) (min 1025 (length line.bytes + (if line.is_ended then 1 else 0)))

-- over 1,024 bytes before the line feed or the end of the text
abbrev pub is_long : TextLine → Bool
is_long line = nat_lt 1024 (length line.bytes)

-- the line without a carriage return before its line feed
abbrev pub content : TextLine → List ℕ
content line =
    if line.is_ended && (slice_index line.bytes (length line.bytes - 1) == 13)
    then take (length line.bytes - 1) line.bytes
    else line.bytes

-- no words, or a first word that begins with `#`
abbrev pub is_passed_over : List (List ℕ) → Bool
is_passed_over [] = true
is_passed_over (first ∷ rest) = slice_index first 0 == 35

abbrev pub is_ended : Stage → Bool
is_ended Ended = true
is_ended stage = false

-- the cause of a line, by what is wrong with its statement
abbrev pub cause_of : Flaw → Cause
cause_of flaw.Place = cause.Place
cause_of flaw.Missing = cause.Missing
cause_of flaw.Value = cause.Value
cause_of flaw.Twice = cause.Twice
cause_of flaw.Spent = cause.Spent
cause_of flaw.Events = cause.Events

abbrev pub with_cause : {T : Type 0} → Result T Flaw → Result T Cause
with_cause (Ok answer) = Ok answer
with_cause (Err flaw) = Err (cause_of flaw)

-- the fault of a line, by that of its statement
abbrev pub line_fault : StatementFault → LineFault
line_fault (stated.Flawed flaw) = line.Faulty (cause_of flaw)
line_fault stated.NoMemory = line.NoMemory

-- what a form says after the lines before it
abbrev pub form_for : Profile → Reader → Option Statement → Result (Reader × Option Event) Cause
form_for profile d None = Err cause.Form
form_for profile d (Some statement) = if is_barred profile statement then Err cause.Place else with_cause (after_statement d statement)

-- what a line says after the lines before it, of which none may be `end`
abbrev pub said_after : Profile → Reader → Option Statement → Result (Reader × Option Event) Cause
said_after profile d said = if is_ended (stage_of d) then Err cause.After else form_for profile d said

-- the words of a line after the lines before it: what is known then and its event, or the first cause that fits
abbrev pub words_for : Profile → Reader → List (List ℕ) → Result (Reader × Option Event) Cause
words_for profile d line = if is_passed_over line then Ok (d, None) else said_after profile d (said_for profile line)

-- a line after the lines before it
abbrev pub line_for : Profile → Reader → TextLine → Result (Reader × Option Event) Cause
line_for profile d line =
    if reaches_limit line then Err cause.Size
    else if is_long line then Err cause.Long
    else words_for profile d (words (content line))

-- ---- the same for a replay

abbrev pub after_form : Reader → Option Statement → Result (Reader × Option Event) Cause
after_form = form_for Replay

abbrev pub after_said : Reader → Option Statement → Result (Reader × Option Event) Cause
after_said = said_after Replay

abbrev pub after_words : Reader → List (List ℕ) → Result (Reader × Option Event) Cause
after_words = words_for Replay

abbrev pub after_line : Reader → TextLine → Result (Reader × Option Event) Cause
after_line = line_for Replay

-- ---- the script

-- the script of the lines so far, with these events
abbrev pub script_with : Reader → List Event → Script
script_with (Full d) events = duplex.script_with d events
script_with (Half d) events = half.script_with d events

-- the script at the end of the text
abbrev pub finished : Reader → List Event → Result Script Cause
finished d events = if is_ended (stage_of d) then Ok (script_with d events) else Err cause.NoEnd
