-- What the lines so far say can be played.
use Rattle.std.proofs.Common.{◌≡◌, ◌⊎◌, inl, inr, ℕ, ◌+◌, Bool, true, false, cond, List, [], ◌∷◌, ◌++◌, Option, None, Some, Result, Ok, Err, refl, subst, append-nil}
use Rattle.std.specs.Prelude.{IfOk, MatchResult, ◌&&◌, if◌then◌else◌}
use Rattle.std.specs.Option.{option_to_list}
use Rattle.duplex_script.specs.declared.reader.DuplexReader.{DuplexReader}
use Rattle.duplex_script.specs.Drafts as duplex_drafts
use Rattle.duplex_script.proofs.Standing as duplex
use Rattle.end_drafts.specs.declared.flaw.Flaw.{Flaw}
use Rattle.end_drafts.specs.Stages.{is_fresh}
use Rattle.end_drafts.proofs.Ranges.{IsSound, IfSound, IfSound-statement_of}
use Rattle.half_script.specs.declared.reader.HalfReader.{HalfReader}
use Rattle.half_script.specs.Drafts as half_drafts
use Rattle.half_script.proofs.Standing as half
use Rattle.script_statement.specs.declared.statement.Statement.{Statement}
use Rattle.script_statement.specs.declared.statement.Statement.TheVariants.{Mode}
use Rattle.script_statement.specs.Statements.{statement_of}
use Rattle.script_statement.specs.Words.{words}
use Rattle.script_parts.specs.declared.script.Event.{Event}
use Rattle.script_parts.specs.declared.script.Script.{Script}
use Rattle.script_parts.specs.HalfPlayable.{CanBePlayed}
use Rattle.line_script.specs.declared.fault.Cause.{Cause}
use Rattle.line_script.specs.declared.fault.Cause.TheVariants as cause
use Rattle.line_script.specs.declared.fault.ScriptFault.{ScriptFault}
use Rattle.line_script.specs.declared.reader.Reader.{Reader}
use Rattle.line_script.specs.declared.reader.Reader.TheVariants.{Full, Half}
use Rattle.line_script.specs.Lines.{TextLine, is_ended, is_passed_over, reaches_limit, is_long, content, with_cause, after_form, after_words, after_line, script_with, lines_from}
use Rattle.line_script.specs.Readers.{after_statement, begins_half, fresh, in_full, in_half, in_mode, stage_of}
use Rattle.line_script.specs.Refusal.{IsRefused}
use Rattle.line_script.specs.ScriptText.{at_line, with_event, script_from, script_of, parts}

abbrev pub Stands : Reader → List Event → Type 0
Stands (Full d) events = duplex.Stands d events
Stands (Half d) events = half.Stands false d events

pub stands_at_first : Stands fresh []
stands_at_first = duplex.stands_at_first

-- ---- any line

abbrev pub IfNext : List Event → Result (Reader × Option Event) Cause → Type 0
IfNext events (Err cause) = Unit {0}
IfNext events (Ok step) = Stands step.0 (events ++ option_to_list step.1)

full_step : (r : Result (DuplexReader × Option Event) Flaw) (events : List Event) → duplex.IfNext events r → IfNext events (with_cause (in_full r))
full_step (Err flaw) events h = tt
full_step (Ok step) events h = h

half_step : (r : Result (HalfReader × Option Event) Flaw) (events : List Event) → half.IfNext false events r → IfNext events (with_cause (in_half r))
half_step (Err flaw) events h = tt
half_step (Ok step) events h = h

in_its_mode : (d : Reader) (events : List Event) (s : Statement) → Stands d events → IsSound s → IfNext events (with_cause (in_mode d s))
in_its_mode (Full d) events s h sound = full_step (duplex_drafts.after_statement d s) events (duplex.next_of d events s h sound)
in_its_mode (Half d) events s h sound = half_step (half_drafts.after_statement d s) events (half.next_of false d events s h sound (λ is. cc))

-- before the first statement there is no event
none_yet : (fresh : Bool) (events : List Event) → (events ≡ []) ⊎ (fresh ≡ false) → fresh ≡ true → events ≡ []
none_yet fresh events (inl none) is = none
none_yet fresh events (inr begun) is = cc

second : (a b : Bool) → (a && b) ≡ true → b ≡ true
second true b h = h
second false b h = cc

begun : (d : Reader) (events : List Event) (s : Statement) → Stands d events → begins_half d s ≡ true → Stands (Half (half_drafts.fresh_reader false)) (events ++ [])
begun (Full d) events (Mode is_half) h is =
    let none : events ≡ [] = none_yet (is_fresh d.stage) events h.begun (second is_half (is_fresh d.stage) is) in
    rw none (half.stands_at_first false)
begun (Full d) events s h is = cc
begun (Half d) events s h is = cc

stated : (d : Reader) (events : List Event) (s : Statement) → Stands d events → IsSound s → IfNext events (with_cause (after_statement d s))
stated d events s h sound =
    elim (begins_half d s) as (λ b. begins_half d s ≡ b → IfNext events (with_cause (cond b (Ok (Half (half_drafts.fresh_reader false), None)) (in_mode d s)))) [
      | true ↦ λ is. begun d events s h is
      | false ↦ λ is. in_its_mode d events s h sound
    ] refl

formed : (d : Reader) (events : List Event) (o : Option Statement) → Stands d events → IfSound o → IfNext events (after_form d o)
formed d events None h sound = tt
formed d events (Some s) h sound = stated d events s h sound

lines : (passed over : Bool) (d : Reader) (events : List Event) (line : List (List ℕ)) → Stands d events → IfNext events (
    if passed then Ok (d, None)
    else if over then Err cause.After
    else after_form d (statement_of line))
lines true over d events line h = rw (append-nil events) h
lines false true d events line h = tt
lines false false d events line h = formed d events (statement_of line) h (IfSound-statement_of line)

sized : (limit long : Bool) (d : Reader) (events : List Event) (line : List (List ℕ)) → Stands d events → IfNext events (
    if limit then Err cause.Size
    else if long then Err cause.Long
    else after_words d line)
sized true long d events line h = tt
sized false true d events line h = tt
sized false false d events line h = lines (is_passed_over line) (is_ended (stage_of d)) d events line h

pub lined : (d : Reader) (events : List Event) (line : TextLine) → Stands d events → IfNext events (after_line d line)
lined d events line h = sized (reaches_limit line) (is_long line) d events (words (content line)) h

-- ---- the whole text

pub closes : (d : Reader) (events : List Event) → Stands d events → CanBePlayed (script_with d events)
closes (Full d) events h = record { full = λ _. duplex.closes d events h; half = λ no. cc }
closes (Half d) events h = record { full = λ no. cc; half = λ _. half.closes d events h }

last : (ended : Bool) (number : ℕ) (s script : Script) → CanBePlayed s → at_line number (cond ended (Ok s) (Err cause.NoEnd)) Ok ≡ Ok script → CanBePlayed script
last true number s script h is = let same : s ≡ script = cc in subst CanBePlayed same h
last false number s script h is = cc

goes : (r : Result (Reader × Option Event) Cause) (events : List Event) (number : ℕ) (lines : List TextLine) (script : Script) → IfNext events r → ((d : Reader) (more : List Event) → Stands d more → script_from d more (number + 1) lines ≡ Ok script → CanBePlayed script) → at_line number (with_event events r) (λ step. script_from step.0 step.1 (number + 1) lines) ≡ Ok script → CanBePlayed script
goes (Err cause) events number lines script h more is = cc
goes (Ok step) events number lines script h more is = more step.0 (events ++ option_to_list step.1) h is

playable_from : (lines : List TextLine) (d : Reader) (events : List Event) (number : ℕ) (script : Script) → Stands d events → script_from d events number lines ≡ Ok script → CanBePlayed script
playable_from [] d events number script h is = last (is_ended (stage_of d)) number (script_with d events) script (closes d events h) is
playable_from (line ∷ lines) d events number script h is =
    goes (after_line d line) events number lines script (lined d events line h) (λ e more stands. playable_from lines e more (number + 1) script stands) is

-- a script that a text says can be played
pub CanBePlayed-script_of : (text : List ℕ) (script : Script) → script_of text ≡ Ok script → CanBePlayed script
unfolding script_of
CanBePlayed-script_of text script is = playable_from (lines_from 0 (parts text)) fresh [] 1 script stands_at_first is

-- an answer with the script that the text says has one that can be played
pub IfOk-playable : (text : List ℕ) (answer : Result Script ScriptFault) → MatchResult answer (λ script. script_of text ≡ Ok script) (λ fault. IsRefused fault (script_of text)) → IfOk answer CanBePlayed
IfOk-playable text (Ok script) h = CanBePlayed-script_of text script h
IfOk-playable text (Err fault) h = tt
