-- Steps, the commonest lines of a script: what happens one to 99 times at an end of a full-duplex link or at its queue; and on a
-- half-duplex line that bytes of the master arrive at a station.
use Rattle.std.specs.Prelude.{ℕ, List, [], ◌∷◌, length, not, slice_index, true, Option, Some, None, nat_le, ◌==◌, ◌&&◌, if◌then◌else◌}
use Rattle.script_statement.specs.declared.statement.EndName.{EndName}
use Rattle.script_statement.specs.declared.statement.EndName.TheVariants.{Known}
use Rattle.script_statement.specs.declared.statement.EndLetter.{EndLetter}
use Rattle.script_statement.specs.declared.statement.Verb.{Verb}
use Rattle.script_statement.specs.declared.half_event.HalfEvent.TheVariants.{Deliver}
use Rattle.script_statement.specs.declared.half_event.Way.TheVariants.{ToStation}
use Rattle.script_statement.specs.declared.statement.Statement.{Statement}
use Rattle.script_statement.specs.declared.statement.Statement.TheVariants.{Half}
use Rattle.script_statement.specs.Statements.{end_of, verb_of}
use Rattle.script_statement.specs.Words.{number_of}
use Rattle.line_script.specs.Lines.{content, text_line}
use Rattle.line_script.specs.declared.step.TimesEvent.{TimesEvent}

-- the end of a full-duplex link that a name is
abbrev pub side_in : Option EndName → Option EndLetter
side_in (Some (Known side)) = Some side
side_in other = None

-- the number that one or two digits are, of which the first isn't 0
abbrev pub count_in : List ℕ → Option ℕ
count_in digits = if nat_le (length digits) 2 && not (slice_index digits 0 == 48) then number_of digits else None

abbrev pub step_with : Option EndLetter → Option Verb → Option ℕ → Option TimesEvent
step_with (Some side) (Some verb) (Some n) = Some (record { side = side; verb = verb; n = n })
step_with side verb n = None

-- the step that a line is: an end and the letter of a verb, a blank, and a count
abbrev pub step_in : List ℕ → Option TimesEvent
step_in (end ∷ letter ∷ blank ∷ digits) = if blank == 32 then step_with (side_in (end_of (end ∷ []))) (verb_of letter) (count_in digits) else None
step_in other = None

-- the step that the bytes before a line feed are
abbrev pub step_before : List ℕ → Option TimesEvent
step_before line = step_in (content (text_line 0 line true))

-- bytes of the master that arrive at the station of a number
abbrev pub delivery : ℕ → ℕ → Statement
delivery station n = Half (Deliver (ToStation station) (Some n))
