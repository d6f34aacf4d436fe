-- What is read for a profile: a line that a rehearsal accepts is accepted for a replay too, as the same one, and its script has no command of end a;
-- what is read for a route can be played as one.
use Rattle.std.proofs.Common.{◌≡◌, ◌≢◌, ℕ, ◌+◌, Bool, true, false, cond, List, [], ◌∷◌, ◌++◌, take, Option, None, Some, Result, Ok, Err, refl, sym, ap, subst, arith, append-nil}
use Rattle.std.specs.Prelude.{IfOk, MatchResult, count_by, if◌then◌else◌}
use Rattle.std.specs.Option.{option_to_list}
use Rattle.std.proofs.lemmas.List.Sums.{sum_by-append}
use Rattle.duplex_script.specs.declared.reader.DuplexReader.{DuplexReader}
use Rattle.duplex_script.specs.Drafts as duplex
use Rattle.end_drafts.specs.declared.flaw.Flaw.{Flaw}
use Rattle.end_drafts.specs.Flaws.{unless_wrong}
use Rattle.end_drafts.proofs.Ranges.{IfSound}
use Rattle.half_script.specs.declared.reader.HalfReader.{HalfReader}
use Rattle.half_script.specs.Drafts as half
use Rattle.half_script.specs.Forms.{routed}
use Rattle.half_script.proofs.Standing as half_standing
use Rattle.line_script.specs.declared.fault.Cause.{Cause}
use Rattle.line_script.specs.declared.fault.Cause.TheVariants as cause
use Rattle.line_script.specs.declared.fault.ScriptFault.{ScriptFault}
use Rattle.line_script.specs.declared.profile.Profile.{Profile}
use Rattle.line_script.specs.declared.profile.Profile.TheVariants.{Replay, Route, Rehearse}
use Rattle.line_script.specs.declared.reader.Reader.{Reader}
use Rattle.line_script.specs.declared.reader.Reader.TheVariants.{Full, Half}
use Rattle.line_script.specs.Lines.{TextLine, after_form, after_line, after_words, content, form_for, is_ended, is_long, is_passed_over, line_for, lines_from, reaches_limit, script_with, with_cause, words_for}
use Rattle.line_script.specs.Forms.{full_form, is_barred, is_half_form, issues_at_a, said_for}
use Rattle.line_script.specs.Rehearsed.{IsRehearsed}
use Rattle.line_script.specs.Readers.{after_statement, begins_half, fresh, in_full, in_half, in_mode, stage_of}
use Rattle.line_script.specs.Refusal.{IsRefused}
use Rattle.line_script.specs.ScriptText.{at_line, lines_for, parts, script_for, script_of, text_for, with_event}
use Rattle.line_script.proofs.Standing.{IfNext, Stands, closes as can-be-played, lined, stands_at_first}
use Rattle.script_parts.specs.declared.script.Event.{Event}
use Rattle.script_parts.specs.declared.script.Script.{Script}
use Rattle.script_parts.specs.HalfPlayable.{CanBePlayed}
use Rattle.script_parts.specs.RoutePlayable.{IsRoutePlayable}
use Rattle.script_parts.specs.Playable.{issues}
use Rattle.script_statement.specs.declared.statement.EndLetter.TheVariants.{A, B}
use Rattle.script_statement.specs.declared.statement.Statement.{Statement}
use Rattle.script_statement.specs.declared.statement.Statement.TheVariants as statement
use Rattle.script_statement.specs.declared.statement.Statement.TheVariants.{Mode, Check, Station, Setup, Issue, IssueFrom, Times, Alter, Foreign, End}
use Rattle.script_statement.specs.declared.statement.Verb.TheVariants.{Take, Tick, Deliver, Lose}
use Rattle.script_statement.specs.declared.who.Who.TheVariants as who
use Rattle.script_statement.specs.declared.half_event.HalfEvent.{HalfEvent}
use Rattle.script_statement.specs.Statements.{station_issue, statement_of}
use Rattle.script_statement.specs.Words.{words}
use Rattle.script_statement.proofs.Forms.{command_by_six, first_six}

-- ---- the words of a line

kept-six : (e f : Option HalfEvent) (o p : Option Statement) → e ≡ f → o ≡ p → routed e o ≡ routed f p
kept-six e f o p events statements = rw (events, statements) refl

-- a line is read by its first six words
pub said-by-six : (profile : Profile) (line : List (List ℕ)) → said_for profile (take 6 line) ≡ said_for profile line
said-by-six Replay line = first_six line
said-by-six Route line = kept-six (station_issue (take 6 line)) (station_issue line) (statement_of (take 6 line)) (statement_of line) (command_by_six line) (first_six line)
said-by-six Rehearse line = ap full_form (first_six line)

-- ---- the lines of a text

-- what stands before any line, and after each that is accepted, stands in the end
abbrev IfKept : (Reader → List Event → Type 0) → List Event → Result (Reader × Option Event) Cause → Type 0
IfKept P events r = IfOk r (λ step. P step.0 (events ++ option_to_list step.1))

at-end : (Q : Script → Type 0) (ended : Bool) (number : ℕ) (s script : Script) → Q s → at_line number (cond ended (Ok s) (Err cause.NoEnd)) Ok ≡ Ok script → Q script
at-end Q true number s script h is = let same : s ≡ script = cc in subst Q same h
at-end Q false number s script h is = cc

on : (P : Reader → List Event → Type 0) (Q : Script → Type 0) (profile : Profile) (r : Result (Reader × Option Event) Cause) (events : List Event) (number : ℕ) (lines : List TextLine) (script : Script) → IfKept P events r
    → ((d : Reader) (more : List Event) → P d more → lines_for profile d more (number + 1) lines ≡ Ok script → Q script)
    → at_line number (with_event events r) (λ step. lines_for profile step.0 step.1 (number + 1) lines) ≡ Ok script → Q script
on P Q profile (Err c) events number lines script h more is = cc
on P Q profile (Ok step) events number lines script h more is = more step.0 (events ++ option_to_list step.1) h is

all-lines : (P : Reader → List Event → Type 0) (Q : Script → Type 0) (profile : Profile) → ((d : Reader) (events : List Event) → P d events → Q (script_with d events))
    → ((d : Reader) (events : List Event) (line : TextLine) → P d events → IfKept P events (line_for profile d line))
    → (lines : List TextLine) (d : Reader) (events : List Event) (number : ℕ) (script : Script) → P d events → lines_for profile d events number lines ≡ Ok script → Q script
all-lines P Q profile closes keeps [] d events number script h is = at-end Q (is_ended (stage_of d)) number (script_with d events) script (closes d events h) is
all-lines P Q profile closes keeps (line ∷ lines) d events number script h is =
    on P Q profile (line_for profile d line) events number lines script (keeps d events line h) (λ e more stands. all-lines P Q profile closes keeps lines e more (number + 1) script stands) is

all-read : (Q : Script → Type 0) (profile : Profile) (text : List ℕ) (answer : Result Script ScriptFault) → ((script : Script) → text_for profile text ≡ Ok script → Q script)
    → MatchResult answer (λ script. text_for profile text ≡ Ok script) (λ fault. IsRefused fault (text_for profile text)) → IfOk answer Q
all-read Q profile text (Ok script) each h = each script h
all-read Q profile text (Err fault) each h = tt

-- ---- what a rehearsal accepts is accepted for a replay

form-accepted : (half_form of_a : Bool) (d : Reader) (s : Statement) (step : Reader × Option Event) → is_barred Rehearse s ≡ of_a
    → form_for Rehearse d (cond half_form None (Some s)) ≡ Ok step → with_cause (after_statement d s) ≡ Ok step
form-accepted true of_a d s step barred is = cc
form-accepted false true d s step barred is = (let no = (rw barred at is) in cc)
form-accepted false false d s step barred is = (rw barred at is)

said-accepted : (d : Reader) (o : Option Statement) (step : Reader × Option Event) → form_for Rehearse d (full_form o) ≡ Ok step → after_form d o ≡ Ok step
said-accepted d None step is = is
said-accepted d (Some s) step is = form-accepted (is_half_form s) (issues_at_a s) d s step refl is

words-accepted : (passed over : Bool) (d : Reader) (o : Option Statement) (step : Reader × Option Event)
    → (if passed then Ok (d, None) else if over then Err cause.After else form_for Rehearse d (full_form o)) ≡ Ok step
    → (if passed then Ok (d, None) else if over then Err cause.After else after_form d o) ≡ Ok step
words-accepted true over d o step is = is
words-accepted false true d o step is = is
words-accepted false false d o step is = said-accepted d o step is

sized-accepted : (limit long : Bool) (d : Reader) (line : List (List ℕ)) (step : Reader × Option Event)
    → (if limit then Err cause.Size else if long then Err cause.Long else words_for Rehearse d line) ≡ Ok step
    → (if limit then Err cause.Size else if long then Err cause.Long else after_words d line) ≡ Ok step
sized-accepted true long d line step is = is
sized-accepted false true d line step is = is
sized-accepted false false d line step is = words-accepted (is_passed_over line) (is_ended (stage_of d)) d (statement_of line) step is

line-accepted : (d : Reader) (line : TextLine) (step : Reader × Option Event) → line_for Rehearse d line ≡ Ok step → after_line d line ≡ Ok step
line-accepted d line step is = sized-accepted (reaches_limit line) (is_long line) d (words (content line)) step is

-- ---- a statement of a rehearsal issues no command at end a, and leaves the reader in full duplex

abbrev of_a : Option Event → ℕ
of_a event = count_by (issues who.A) (option_to_list event)

no-command : (d : DuplexReader) (s : Statement) → issues_at_a s ≡ false → of_a (duplex.event_of d s) ≡ 0
no-command d (Mode half) other = refl
no-command d (Check check) other = refl
no-command d (Station number) other = refl
no-command d (Setup end line) other = refl
no-command d (Issue A payload) other = cc
no-command d (Issue B None) other = refl
no-command d (Issue B (Some payload)) other = refl
no-command d (IssueFrom A src payload) other = cc
no-command d (IssueFrom B None payload) other = refl
no-command d (IssueFrom B (Some src) None) other = refl
no-command d (IssueFrom B (Some src) (Some payload)) other = refl
no-command d (Times side verb None) other = refl
no-command d (Times side Take (Some n)) other = refl
no-command d (Times side Tick (Some n)) other = refl
no-command d (Times side Deliver (Some n)) other = refl
no-command d (Times side Lose (Some n)) other = refl
no-command d (Alter side None) other = refl
no-command d (Alter side (Some mask)) other = refl
no-command d (Foreign side None) other = refl
no-command d (Foreign side (Some bytes)) other = refl
no-command d (statement.Half event) other = refl
no-command d End other = refl

stays-full : (d : DuplexReader) (s : Statement) → is_half_form s ≡ false → begins_half (Full d) s ≡ false
stays-full d (Mode true) other = cc
stays-full d (Mode false) other = refl
stays-full d s other = refl

abbrev IsFull : Reader → Type 0
IsFull (Full d) = Unit {0}
IsFull (Half d) = ⊥

abbrev IsQuiet : Result (Reader × Option Event) Cause → Type 0
IsQuiet (Err cause) = Unit {0}
IsQuiet (Ok step) = IsFull step.0 × (of_a step.1 ≡ 0)

full-quiet : (o : Option Flaw) (e : DuplexReader) (event : Option Event) → of_a event ≡ 0 → IsQuiet (with_cause (in_full (unless_wrong o (e, event))))
full-quiet None e event none = (tt, none)
full-quiet (Some flaw) e event none = tt

stated-quiet : (d : DuplexReader) (s : Statement) → is_half_form s ≡ false → issues_at_a s ≡ false → IsQuiet (with_cause (after_statement (Full d) s))
stated-quiet d s full other =
    let e : DuplexReader = (duplex.with_statement d s).0 in
    elim (begins_half (Full d) s) as (λ b. b ≡ false → IsQuiet (with_cause (cond b (Ok (Half (half.fresh_reader false), None)) (in_mode (Full d) s)))) [
      | true ↦ λ no. cc
      | false ↦ λ is. full-quiet (duplex.flaw_of d s) e (duplex.event_of e s) (no-command e s other)
    ] (stays-full d s full)

barred-quiet : (at_a : Bool) (d : DuplexReader) (s : Statement) → is_half_form s ≡ false → issues_at_a s ≡ at_a → IsQuiet (cond at_a (Err cause.Place) (with_cause (after_statement (Full d) s)))
barred-quiet true d s full other = tt
barred-quiet false d s full other = stated-quiet d s full other

tested-quiet : (half_form : Bool) (d : DuplexReader) (s : Statement) → is_half_form s ≡ half_form → IsQuiet (form_for Rehearse (Full d) (cond half_form None (Some s)))
tested-quiet true d s full = tt
tested-quiet false d s full = barred-quiet (issues_at_a s) d s full refl

form-quiet : (d : DuplexReader) (o : Option Statement) → IsQuiet (form_for Rehearse (Full d) (full_form o))
form-quiet d None = tt
form-quiet d (Some s) = tested-quiet (is_half_form s) d s refl

words-quiet : (passed over : Bool) (d : DuplexReader) (o : Option Statement) → IsQuiet (if passed then Ok (Full d, None) else if over then Err cause.After else form_for Rehearse (Full d) (full_form o))
words-quiet true over d o = (tt, refl)
words-quiet false true d o = tt
words-quiet false false d o = form-quiet d o

sized-quiet : (limit long : Bool) (d : DuplexReader) (line : List (List ℕ)) → IsQuiet (if limit then Err cause.Size else if long then Err cause.Long else words_for Rehearse (Full d) line)
sized-quiet true long d line = tt
sized-quiet false true d line = tt
sized-quiet false false d line = words-quiet (is_passed_over line) (is_ended (stage_of (Full d))) d (statement_of line)

line-quiet : (d : Reader) (line : TextLine) → IsFull d → IsQuiet (line_for Rehearse d line)
line-quiet (Full d) line full = sized-quiet (reaches_limit line) (is_long line) d (words (content line))
line-quiet (Half d) line full = absurd full

-- ---- the lines of a rehearsal

record Rehearses (d : Reader) (events : List Event) : Type 0 where
  stands : Stands d events
  full : IsFull d
  none : count_by (issues who.A) events ≡ 0

rehearses-at-first : Rehearses fresh []
rehearses-at-first = record { stands = stands_at_first; full = tt; none = refl }

one-more : (events more : List Event) → count_by (issues who.A) events ≡ 0 → count_by (issues who.A) more ≡ 0 → count_by (issues who.A) (events ++ more) ≡ 0
one-more events more none no_more = let sum = sum_by-append (λ (e : Event). cond (issues who.A e) 1 0) events more in omega (arith, sum, none, no_more)

goes-on : (d : Reader) (events : List Event) (line : TextLine) (r : Result (Reader × Option Event) Cause) → Rehearses d events → line_for Rehearse d line ≡ r → IsQuiet r → IfKept Rehearses events r
goes-on d events line (Err c) h at quiet = tt
goes-on d events line (Ok step) h at quiet = record {
  stands = subst (IfNext events) (line-accepted d line step at) (lined d events line h.stands);
  full = quiet.0;
  none = one-more events (option_to_list step.1) h.none quiet.1;
}

keeps-on : (d : Reader) (events : List Event) (line : TextLine) → Rehearses d events → IfKept Rehearses events (line_for Rehearse d line)
keeps-on d events line h = goes-on d events line (line_for Rehearse d line) h refl (line-quiet d line h.full)

closes : (d : Reader) (events : List Event) → Rehearses d events → IsRehearsed (script_with d events)
closes (Full d) events h = record { mode = refl; commands_of_a = h.none; sum = let sum = h.stands.sum in omega (arith, sum) }
closes (Half d) events h = absurd h.full

-- an answer with the script that the lines of a rehearsal say has one that is a rehearsal's
pub IfOk-rehearsed : (text : List ℕ) (answer : Result Script ScriptFault) → MatchResult answer (λ script. text_for Rehearse text ≡ Ok script) (λ fault. IsRefused fault (text_for Rehearse text)) → IfOk answer IsRehearsed
IfOk-rehearsed text answer h =
    all-read IsRehearsed Rehearse text answer (λ script is. all-lines Rehearses IsRehearsed Rehearse closes keeps-on (lines_from 0 (parts text)) fresh [] 1 script rehearses-at-first is) h

-- ---- the lines of a route

abbrev Routes : Reader → List Event → Type 0
Routes (Full d) events = ⊥
Routes (Half d) events = half_standing.Stands true d events

routed-step : (r : Result (HalfReader × Option Event) Flaw) (events : List Event) → half_standing.IfNext true events r → IfKept Routes events (with_cause (in_half r))
routed-step (Err flaw) events h = tt
routed-step (Ok step) events h = h

routed-form : (d : HalfReader) (events : List Event) (o : Option Statement) → half_standing.Stands true d events → IfSound o → half_standing.IfForm true o → IfKept Routes events (form_for Route (Half d) o)
routed-form d events None h sound form = tt
routed-form d events (Some s) h sound form = routed-step (half.after_statement d s) events (half_standing.next_of true d events s h sound form)

routed-words : (passed over : Bool) (d : HalfReader) (events : List Event) (line : List (List ℕ)) → half_standing.Stands true d events
    → IfKept Routes events (if passed then Ok (Half d, None) else if over then Err cause.After else form_for Route (Half d) (said_for Route line))
routed-words true over d events line h = rw (append-nil events) h
routed-words false true d events line h = tt
routed-words false false d events line h = routed-form d events (said_for Route line) h (half_standing.IfSound-said_by true line) (half_standing.IfForm-said_by true line)

routed-sized : (limit long : Bool) (d : HalfReader) (events : List Event) (line : List (List ℕ)) → half_standing.Stands true d events
    → IfKept Routes events (if limit then Err cause.Size else if long then Err cause.Long else words_for Route (Half d) line)
routed-sized true long d events line h = tt
routed-sized false true d events line h = tt
routed-sized false false d events line h = routed-words (is_passed_over line) (is_ended (stage_of (Half d))) d events line h

routed-line : (d : Reader) (events : List Event) (line : TextLine) → Routes d events → IfKept Routes events (line_for Route d line)
routed-line (Full d) events line h = absurd h
routed-line (Half d) events line h = routed-sized (reaches_limit line) (is_long line) d events (words (content line)) h

closes-route : (d : Reader) (events : List Event) → Routes d events → IsRoutePlayable (script_with d events)
closes-route (Full d) events h = absurd h
closes-route (Half d) events h = half_standing.closes_route d events h

-- an answer with the script that the lines of a route say has one that is a route's
pub IfOk-routed : (text : List ℕ) (answer : Result Script ScriptFault) → MatchResult answer (λ script. text_for Route text ≡ Ok script) (λ fault. IsRefused fault (text_for Route text)) → IfOk answer IsRoutePlayable
IfOk-routed text answer h =
    all-read IsRoutePlayable Route text answer
    (λ script is. all-lines Routes IsRoutePlayable Route closes-route routed-line (lines_from 0 (parts text)) (Half (half.fresh_reader true)) [] 1 script (half_standing.stands_at_first true) is) h

-- ---- the lines of a replay, or of a rehearsal

rehearsed-next : (d : Reader) (events : List Event) (line : TextLine) (r : Result (Reader × Option Event) Cause) → Stands d events → line_for Rehearse d line ≡ r → IfKept Stands events r
rehearsed-next d events line (Err c) h at = tt
rehearsed-next d events line (Ok step) h at = subst (IfNext events) (line-accepted d line step at) (lined d events line h)

if-kept : (events : List Event) (r : Result (Reader × Option Event) Cause) → IfNext events r → IfKept Stands events r
if-kept events (Err c) h = tt
if-kept events (Ok step) h = h

-- an answer with the script that the lines say has one that can be played
pub IfOk-playable-lines : (profile : Profile) (text : List ℕ) (answer : Result Script ScriptFault) → profile ≢ Route
    → MatchResult answer (λ script. text_for profile text ≡ Ok script) (λ fault. IsRefused fault (text_for profile text)) → IfOk answer CanBePlayed
IfOk-playable-lines Replay text answer other h =
    all-read CanBePlayed Replay text answer
    (λ script is. all-lines Stands CanBePlayed Replay can-be-played (λ d events line stands. if-kept events (after_line d line) (lined d events line stands)) (lines_from 0 (parts text)) fresh [] 1 script stands_at_first is) h
IfOk-playable-lines Route text answer other h = absurd (other refl)
IfOk-playable-lines Rehearse text answer other h =
    all-read CanBePlayed Rehearse text answer
    (λ script is. all-lines Stands CanBePlayed Rehearse can-be-played (λ d events line stands. rehearsed-next d events line (line_for Rehearse d line) stands refl) (lines_from 0 (parts text)) fresh [] 1 script stands_at_first is) h
