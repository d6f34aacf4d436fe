-- What is left after some lines is what their events leave of the limits.
use Rattle.std.proofs.Common.{false, List, [], ◌∷◌, ◌++◌, Result, Ok, Err}
use Rattle.std.specs.Prelude.{IfOk}
use Rattle.std.specs.Option.{option_to_list}
use Rattle.line_script.specs.declared.fault.Cause.{Cause}
use Rattle.script_parts.specs.declared.script.Event.{Event}
use Rattle.duplex_script.proofs.Standing as duplex
use Rattle.half_script.proofs.Standing as half
use Rattle.line_script.specs.declared.reader.Reader.{Reader}
use Rattle.line_script.specs.declared.reader.Reader.TheVariants.{Full, Half}
use Rattle.line_script.specs.Lines.{TextLine, after_line}
use Rattle.line_script.specs.Left.{and_then, after_lines, IsLeft}
use Rattle.line_script.specs.ScriptText.{with_event}
use Rattle.line_script.proofs.Standing.{Stands, IfNext, lined}

left-of : (d : Reader) (events : List Event) → Stands d events → IsLeft d events
left-of (Full d) events h = duplex.left_of d events h
left-of (Half d) events h = half.left_of false d events h

abbrev IfLeft : Result (Reader × List Event) Cause → Type 0
IfLeft read = IfOk read (λ r. IsLeft r.0 r.1)

goes-on : (r : _) (events : List Event) (lines : List TextLine) → IfNext events r → ((d : Reader) (more : List Event) → Stands d more → IfLeft (after_lines d more lines)) → IfLeft (and_then (with_event events r) (λ step. after_lines step.0 step.1 lines))
goes-on (Err cause) events lines h rest = tt
goes-on (Ok step) events lines h rest = rest step.0 (events ++ option_to_list step.1) h

pub left-after : (lines : List TextLine) (d : Reader) (events : List Event) → Stands d events → IfLeft (after_lines d events lines)
left-after [] d events h = left-of d events h
left-after (line ∷ lines) d events h = goes-on (after_line d line) events lines (lined d events line h) (λ e more stands. left-after lines e more stands)
