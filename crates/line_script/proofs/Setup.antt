-- From the first event on, the setup of the ends stays as it is.
use Rattle.std.proofs.Common.{◌≡◌, ◌⊎◌, inl, inr, ℕ, ◌+◌, Bool, true, false, not, cond, List, [], ◌∷◌, ◌++◌, Option, Some, None, Result, Ok, Err, refl, sym, ap, ◌∙◌, append_assoc, append-nil}
use Rattle.std.specs.Prelude.{◌&&◌, if◌then◌else◌}
use Rattle.std.specs.Option.{option_to_list}
use Rattle.line_script.specs.declared.fault.Cause.{Cause}
use Rattle.line_script.specs.declared.fault.Cause.TheVariants as cause
use Rattle.script_parts.specs.declared.script.Event.{Event}
use Rattle.script_parts.specs.declared.script.EndPlan.{EndPlan}
use Rattle.script_parts.specs.declared.script.Script.{Script}
use Rattle.script_statement.specs.declared.statement.EndLetter.TheVariants.{A, B}
use Rattle.script_statement.specs.declared.statement.Statement.{Statement}
use Rattle.script_statement.specs.declared.statement.Statement.TheVariants as statement
use Rattle.script_statement.specs.declared.statement.Statement.TheVariants.{Mode, Check, Station, Setup, Issue, IssueFrom, Times, Alter, Foreign, End}
use Rattle.script_statement.specs.declared.half_event.HalfEvent.{HalfEvent}
use Rattle.script_statement.specs.declared.half_event.HalfEvent.TheVariants as event
use Rattle.duplex_script.specs.declared.reader.DuplexReader.{DuplexReader}
use Rattle.duplex_script.specs.Drafts as duplex
use Rattle.half_script.specs.declared.reader.HalfReader.{HalfReader}
use Rattle.half_script.specs.Drafts as half
use Rattle.half_script.specs.Stations.{station_at}
use Rattle.half_script.proofs.Changes.{plans_after_command}
use Rattle.script_statement.specs.declared.who.Who.TheVariants.{M}
use Rattle.end_drafts.specs.Drafts.{plan_of}
use Rattle.end_drafts.specs.declared.flaw.Flaw.{Flaw}
use Rattle.end_drafts.specs.declared.flaw.Flaw.TheVariants as flaw
use Rattle.end_drafts.specs.declared.stage.Stage.{Stage}
use Rattle.end_drafts.specs.declared.stage.Stage.TheVariants.{Fresh, Settings, Events, Ended}
use Rattle.end_drafts.specs.Flaws.{first_of, unless_wrong}
use Rattle.line_script.specs.declared.reader.Reader.{Reader}
use Rattle.line_script.specs.declared.reader.Reader.TheVariants.{Full, Half}
use Rattle.end_drafts.specs.Stages.{is_fresh, is_set_up}
use Rattle.line_script.specs.Readers.{begins_half, in_full, in_half, in_mode, stage_of}
use Rattle.line_script.specs.Fed.{accepted, accepted_on, accepted_script, lines_of, script_at}
use Rattle.line_script.specs.Left.{after_lines, and_then}
use Rattle.line_script.specs.Lines.{TextLine, is_ended, is_passed_over, reaches_limit, is_long, content, with_cause, after_form, after_words, after_line, script_with}
use Rattle.line_script.specs.ScriptText.{at_line, with_event, script_from, script_of}
use Rattle.script_statement.specs.Statements.{statement_of}
use Rattle.script_statement.specs.Words.{words}
use Rattle.line_script.proofs.Fed.{same-read}

-- the ends are set up alike
abbrev pub SameSetup : Reader → Reader → Type 0
SameSetup d e = (events : List Event) → script_with e events ≡ script_with d events

-- ---- a statement

abbrev pub IsKeptBy : Reader → Reader → Option Event → Type 0
IsKeptBy d e None = is_set_up (stage_of d) ≡ true → SameSetup d e × (is_set_up (stage_of e) ≡ true)
IsKeptBy d e (Some x) = SameSetup d e × (is_set_up (stage_of e) ≡ true)

-- an event, or none
either : (d e : Reader) (o : Option Event) → SameSetup d e → is_set_up (stage_of e) ≡ true → IsKeptBy d e o
either d e None same begun = λ _. (same, begun)
either d e (Some x) same begun = (same, begun)

first-test : (a b c d e f : Bool) → first_of ((a, flaw.Place) ∷ (b, flaw.Missing) ∷ (c, flaw.Value) ∷ (d, flaw.Twice) ∷ (e, flaw.Spent) ∷ (f, flaw.Events) ∷ []) ≡ None → a ≡ false
first-test true b c d e f none = cc
first-test false b c d e f none = refl

not_first : (stage : Stage) → is_fresh stage ≡ true → is_set_up stage ≡ true → ⊥
not_first Fresh is begun = cc
not_first Settings is begun = cc
not_first Events is begun = cc
not_first Ended is begun = cc

no_other : (b : Bool) → not b ≡ false → b ≡ true
no_other true h = refl
no_other false h = cc

contradicts : (b : Bool) → b ≡ false → b ≡ true → ⊥
contradicts b not_so so = let differ : false ≡ true = sym not_so ∙ so in cc

full-stated : (d : DuplexReader) (s : Statement) → duplex.is_misplaced d.stage s ≡ false → IsKeptBy (Full d) (Full (duplex.with_statement d s).0) (duplex.with_statement d s).1
full-stated d (Mode is_half) placed = λ begun. absurd (not_first d.stage (no_other (is_fresh d.stage) placed) begun)
full-stated d (Check check) placed = λ begun. absurd (contradicts (is_set_up d.stage) placed begun)
full-stated d (Station number) placed = λ begun. cc
full-stated d (Setup end line) placed = λ begun. absurd (contradicts (is_set_up d.stage) placed begun)
full-stated d (Issue A None) placed = λ begun. (λ events. refl, refl)
full-stated d (Issue B None) placed = λ begun. (λ events. refl, refl)
full-stated d (Issue A (Some payload)) placed = (λ events. refl, refl)
full-stated d (Issue B (Some payload)) placed = (λ events. refl, refl)
full-stated d (IssueFrom A None payload) placed = λ begun. (λ events. refl, refl)
full-stated d (IssueFrom B None payload) placed = λ begun. (λ events. refl, refl)
full-stated d (IssueFrom A (Some src) None) placed = λ begun. (λ events. refl, refl)
full-stated d (IssueFrom B (Some src) None) placed = λ begun. (λ events. refl, refl)
full-stated d (IssueFrom A (Some src) (Some payload)) placed = (λ events. refl, refl)
full-stated d (IssueFrom B (Some src) (Some payload)) placed = (λ events. refl, refl)
full-stated d (Times side verb None) placed = λ begun. (λ events. refl, refl)
full-stated d (Times side verb (Some n)) placed = (λ events. refl, refl)
full-stated d (Alter side None) placed = λ begun. (λ events. refl, refl)
full-stated d (Alter side (Some mask)) placed = (λ events. refl, refl)
full-stated d (Foreign side None) placed = λ begun. (λ events. refl, refl)
full-stated d (Foreign side (Some bytes)) placed = (λ events. refl, refl)
full-stated d (statement.Half event) placed = λ begun. (λ events. refl, refl)
full-stated d End placed = λ begun. (λ events. refl, refl)

-- the script of a master and these stations
abbrev half-script-of : HalfReader → List EndPlan → List Event → Script
half-script-of d stations events = record (half.script_with d events) { ends = plan_of M 0 d.master ∷ stations }

half-happens : (d : HalfReader) (x : HalfEvent) → IsKeptBy (Half d) (Half (half.with_statement d (statement.Half x)).0) (half.with_statement d (statement.Half x)).1
half-happens d (event.Issue station payload) = either (Half d) (Half (half.with_statement d (statement.Half (event.Issue station payload))).0) (half.with_statement d (statement.Half (event.Issue station payload))).1 (λ events. refl) refl
half-happens d (event.IssueFrom station src payload) = either (Half d) (Half (half.with_statement d (statement.Half (event.IssueFrom station src payload))).0) (half.with_statement d (statement.Half (event.IssueFrom station src payload))).1 (λ events. refl) refl
half-happens d (event.StationIssue station to payload) =
    either (Half d) (Half (half.with_statement d (statement.Half (event.StationIssue station to payload))).0) (half.with_statement d (statement.Half (event.StationIssue station to payload))).1
    (λ events. ap (λ (plans : List EndPlan). half-script-of d plans events) (plans_after_command d.stations station (station_at d.stations station) refl)) refl
half-happens d (event.MasterTake n) = either (Half d) (Half (half.with_statement d (statement.Half (event.MasterTake n))).0) (half.with_statement d (statement.Half (event.MasterTake n))).1 (λ events. refl) refl
half-happens d (event.MasterTick n) = either (Half d) (Half (half.with_statement d (statement.Half (event.MasterTick n))).0) (half.with_statement d (statement.Half (event.MasterTick n))).1 (λ events. refl) refl
half-happens d (event.StationTake station n) = either (Half d) (Half (half.with_statement d (statement.Half (event.StationTake station n))).0) (half.with_statement d (statement.Half (event.StationTake station n))).1 (λ events. refl) refl
half-happens d (event.Deliver way n) = either (Half d) (Half (half.with_statement d (statement.Half (event.Deliver way n))).0) (half.with_statement d (statement.Half (event.Deliver way n))).1 (λ events. refl) refl
half-happens d (event.Lose way n) = either (Half d) (Half (half.with_statement d (statement.Half (event.Lose way n))).0) (half.with_statement d (statement.Half (event.Lose way n))).1 (λ events. refl) refl
half-happens d (event.Alter way mask) = either (Half d) (Half (half.with_statement d (statement.Half (event.Alter way mask))).0) (half.with_statement d (statement.Half (event.Alter way mask))).1 (λ events. refl) refl
half-happens d (event.Foreign way bytes) = either (Half d) (Half (half.with_statement d (statement.Half (event.Foreign way bytes))).0) (half.with_statement d (statement.Half (event.Foreign way bytes))).1 (λ events. refl) refl

half-stated : (d : HalfReader) (s : Statement) → half.is_misplaced d.stage s ≡ false → IsKeptBy (Half d) (Half (half.with_statement d s).0) (half.with_statement d s).1
half-stated d (Mode is_half) placed = λ begun. absurd (not_first d.stage (no_other (is_fresh d.stage) placed) begun)
half-stated d (Check check) placed = λ begun. absurd (contradicts (is_set_up d.stage) placed begun)
half-stated d (Station number) placed = λ begun. absurd (contradicts (is_set_up d.stage) placed begun)
half-stated d (Setup end line) placed = λ begun. absurd (contradicts (is_set_up d.stage) placed begun)
half-stated d (Issue side payload) placed = λ begun. (λ events. refl, refl)
half-stated d (IssueFrom side src payload) placed = λ begun. (λ events. refl, refl)
half-stated d (Times side verb n) placed = λ begun. (λ events. refl, refl)
half-stated d (Alter side mask) placed = λ begun. (λ events. refl, refl)
half-stated d (Foreign side bytes) placed = λ begun. (λ events. refl, refl)
half-stated d (statement.Half x) placed = half-happens d x
half-stated d End placed = λ begun. (λ events. refl, refl)

-- ---- a line

abbrev IfKept : Reader → Result (Reader × Option Event) Cause → Type 0
IfKept d (Err c) = Unit {0}
IfKept d (Ok step) = IsKeptBy d step.0 step.1

in-full : (d : DuplexReader) (s : Statement) (o : Option Flaw) → duplex.flaw_of d s ≡ o → IfKept (Full d) (with_cause (in_full (unless_wrong o (duplex.with_statement d s))))
in-full d s (Some c) is = tt
in-full d s None is =
    full-stated d s (first-test (duplex.is_misplaced d.stage s) (duplex.is_missing d s) (duplex.is_out_of_range d s) (duplex.is_twice d s) (duplex.is_spent d s) (duplex.is_too_many d s) is)

in-half : (d : HalfReader) (s : Statement) (o : Option Flaw) → half.flaw_of d s ≡ o → IfKept (Half d) (with_cause (in_half (unless_wrong o (half.with_statement d s))))
in-half d s (Some c) is = tt
in-half d s None is =
    half-stated d s (first-test (half.is_misplaced d.stage s) (half.is_missing d s) (half.is_out_of_range d s) (half.is_twice d s) (half.is_spent d s) (half.is_too_many d s) is)

in-its-mode : (d : Reader) (s : Statement) → IfKept d (with_cause (in_mode d s))
in-its-mode (Full d) s = in-full d s (duplex.flaw_of d s) refl
in-its-mode (Half d) s = in-half d s (half.flaw_of d s) refl

second : (a b : Bool) → (a && b) ≡ true → b ≡ true
second true b h = h
second false b h = cc

begins : (d : Reader) (s : Statement) → begins_half d s ≡ true → IsKeptBy d (Half (half.fresh_reader false)) None
begins (Full d) (Mode is_half) is = λ begun. absurd (not_first d.stage (second is_half (is_fresh d.stage) is) begun)
begins (Full d) s is = cc
begins (Half d) s is = cc

formed : (d : Reader) (o : Option Statement) → IfKept d (after_form d o)
formed d None = tt
formed d (Some s) =
    elim (begins_half d s) as (λ b. begins_half d s ≡ b → IfKept d (with_cause (cond b (Ok (Half (half.fresh_reader false), None)) (in_mode d s)))) [
      | true ↦ λ is. begins d s is
      | false ↦ λ is. in-its-mode d s
    ] refl

worded : (passed over : Bool) (d : Reader) (line : List (List ℕ)) → IfKept d (
    if passed then Ok (d, None)
    else if over then Err cause.After
    else after_form d (statement_of line))
worded true over d line = λ begun. (λ events. refl, begun)
worded false true d line = tt
worded false false d line = formed d (statement_of line)

sized : (limit long : Bool) (d : Reader) (line : List (List ℕ)) → IfKept d (
    if limit then Err cause.Size
    else if long then Err cause.Long
    else after_words d line)
sized true long d line = tt
sized false true d line = tt
sized false false d line = worded (is_passed_over line) (is_ended (stage_of d)) d line

kept : (d : Reader) (line : TextLine) → IfKept d (after_line d line)
kept d line = sized (reaches_limit line) (is_long line) d (words (content line))

pub kept-by : (d e : Reader) (line : TextLine) (o : Option Event) → after_line d line ≡ Ok (e, o) → IsKeptBy d e o
kept-by d e line o is = rw is at (kept d line)

-- ---- lines

-- no event was there, or the stage tells it
abbrev pub TellsEvents : Reader → List Event → Type 0
TellsEvents d events = (events ≡ []) ⊎ (is_set_up (stage_of d) ≡ true)

tells-more : (d e : Reader) (events : List Event) (o : Option Event) → TellsEvents d events → IsKeptBy d e o → TellsEvents e (events ++ option_to_list o)
tells-more d e events None (inl none) keeps = inl (ap (λ x. x ++ []) none)
tells-more d e events None (inr begun) keeps = inr (keeps begun).1
tells-more d e events (Some x) tells keeps = inr keeps.1

pub tells-after : (lines : List TextLine) (d e : Reader) (events all : List Event) → TellsEvents d events → after_lines d events lines ≡ Ok (e, all) → TellsEvents e all
tells-after [] d e events all tells is = let same = same-read d e events all is in rw (← same.0, ← same.1) tells
tells-after (line ∷ lines) d e events all tells is =
    elim (after_line d line) as (λ r. IfKept d r → and_then (with_event events r) (λ step. after_lines step.0 step.1 lines) ≡ Ok (e, all) → TellsEvents e all) [
      | Err c ↦ λ kept no. cc
      | Ok step ↦ λ kept on. tells-after lines step.0 e (events ++ option_to_list step.1) all (tells-more d step.0 events step.1 tells kept) on
    ] (kept d line) is

-- lines that follow add events, and from the first event on leave the setup
pub record Extends (d : Reader) (events : List Event) (read : Reader × List Event) : Type 0 where
  pub more : List Event
  pub are : read.1 ≡ events ++ more
  pub setup : is_set_up (stage_of d) ≡ true → SameSetup d read.0

extends-on : (d e : Reader) (events : List Event) (o : Option Event) (read : Reader × List Event) → IsKeptBy d e o → Extends e (events ++ option_to_list o) read → Extends d events read
extends-on d e events None read kept on = record {
  more = on.more;
  are = on.are ∙ ap (λ x. x ++ on.more) (append-nil events);
  setup = λ begun. let step = kept begun in λ all. on.setup step.1 all ∙ step.0 all;
}
extends-on d e events (Some x) read kept on = record {
  more = x ∷ on.more;
  are = on.are ∙ append_assoc events (x ∷ []) on.more;
  setup = λ begun. λ all. on.setup kept.1 all ∙ kept.0 all;
}

pub extends : (lines : List TextLine) (d : Reader) (events : List Event) → Extends d events (accepted d events lines)
extends [] d events = record { more = []; are = sym (append-nil events); setup = λ begun. λ all. refl }
extends (line ∷ lines) d events =
    elim (after_line d line) as (λ r. IfKept d r → Extends d events (accepted_on (d, events) (with_event events r) (λ step. accepted step.0 step.1 lines))) [
      | Err c ↦ λ kept. record { more = []; are = sym (append-nil events); setup = λ begun. λ all. refl }
      | Ok step ↦ λ kept. extends-on d step.0 events step.1 _ kept (extends lines step.0 (events ++ option_to_list step.1))
    ] (kept d line)

-- ---- a whole script

finishes : (over : Bool) (number : ℕ) (s script : Script) → at_line number (if over then Ok s else Err cause.NoEnd) Ok ≡ Ok script → s ≡ script
finishes true number s script is = cc
finishes false number s script is = cc

all-accepted : (lines : List TextLine) (d : Reader) (events : List Event) (number : ℕ) (script : Script) → script_from d events number lines ≡ Ok script → script_at (accepted d events lines) ≡ script
all-accepted [] d events number script is = finishes (is_ended (stage_of d)) number (script_with d events) script is
all-accepted (line ∷ lines) d events number script is =
    elim (with_event events (after_line d line)) as (λ r. at_line number r (λ step. script_from step.0 step.1 (number + 1) lines) ≡ Ok script → script_at (accepted_on (d, events) r (λ step. accepted step.0 step.1 lines)) ≡ script) [
      | Err c ↦ λ no. cc
      | Ok step ↦ λ on. all-accepted lines step.0 step.1 (number + 1) script on
    ] is

-- all lines of a script are accepted
pub script-accepted : (text : List ℕ) (script : Script) → script_of text ≡ Ok script → accepted_script text ≡ script
unfolding script_of accepted_script
script-accepted text script is = all-accepted (lines_of text) _ [] 1 script is
