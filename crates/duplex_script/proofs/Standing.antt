-- What the statements so far say can be played.
use Rattle.std.proofs.Common.{◌≡◌, ◌⊎◌, inl, inr, ℕ, ◌+◌, ◌-◌, ◌<◌, ◌≤◌, Bool, true, false, cond, List, [], ◌∷◌, ◌++◌, Option, Some, None, Result, Ok, Err, refl, arith, nat_lt, eqb, append-nil}
use Rattle.std.specs.Prelude.{IsTrue, All, sum_by, count_by}
use Rattle.std.specs.Option.{option_to_list}
use Rattle.std.proofs.lemmas.Bool.Decides.{nat_tests}
use Rattle.std.proofs.lemmas.List.Elements.{All-nil, All-push}
use Rattle.std.proofs.lemmas.List.Sums.{sum_by-append}
use Rattle.script_statement.specs.declared.who.Who.{Who}
use Rattle.script_statement.specs.declared.who.Who.TheVariants as who
use Rattle.script_parts.specs.declared.script.Event.{Event}
use Rattle.script_parts.specs.declared.script.Event.TheVariants as event
use Rattle.script_statement.specs.declared.statement.EndLetter.{EndLetter}
use Rattle.script_statement.specs.declared.statement.EndLetter.TheVariants.{A, B}
use Rattle.script_statement.specs.declared.statement.EndName.TheVariants.{Known, Master, Station}
use Rattle.script_statement.specs.declared.statement.Verb.{Verb}
use Rattle.script_statement.specs.declared.statement.Verb.TheVariants.{Take, Tick, Deliver, Lose}
use Rattle.script_statement.specs.declared.statement.Statement.{Statement}
use Rattle.script_statement.specs.declared.statement.Statement.TheVariants as statement
use Rattle.script_statement.specs.declared.statement.Statement.TheVariants.{Mode, Check, Setup, Issue, IssueFrom, Times, Alter, Foreign, Half, End}
use Rattle.end_drafts.specs.declared.flaw.Flaw.{Flaw}
use Rattle.end_drafts.specs.declared.flaw.Flaw.TheVariants as flaw
use Rattle.end_settings.specs.declared.row.Role.TheVariants.{Duplex}
use Rattle.end_drafts.specs.declared.stage.Stage.TheVariants.{Events}
use Rattle.end_drafts.specs.Flaws.{first_of, unless_wrong}
use Rattle.end_drafts.specs.Stages.{is_fresh}
use Rattle.duplex_script.specs.Left.{IsLeft}
use Rattle.duplex_script.specs.declared.reader.DuplexReader.{DuplexReader}
use Rattle.duplex_script.specs.Drafts.{after_statement, script_with, fresh, is_misplaced, is_missing, is_out_of_range, is_twice, is_spent, is_too_many, flaw_of, settled, counted, times_event, with_statement}
use Rattle.script_parts.specs.Playable.{IsBetween, IsPossible, IsPlayable, issues, count_of, joins}
use Rattle.script_statement.specs.Statements.{who_of, other_end, is_payload}
use Rattle.end_drafts.proofs.Ranges.{IsSound}
use Rattle.end_drafts.proofs.EndStanding.{IsRight, right_at_first, right_with_commands, right_with_line, same_commands, plan_is_right}

pub record Stands (d : DuplexReader) (events : List Event) : Type 0 where
  pub a : IsRight d.a
  pub b : IsRight d.b
  pub possible : All IsPossible events
  pub commands_of_a : count_by (issues who.A) events + d.a.commands_left ≡ 65535
  pub commands_of_b : count_by (issues who.B) events + d.b.commands_left ≡ 65535
  pub sum : sum_by count_of events + d.events_left ≡ 4000000
  pub begun : (events ≡ []) ⊎ (is_fresh d.stage ≡ false)

pub stands_at_first : Stands fresh []
stands_at_first = record { a = right_at_first; b = right_at_first; possible = All-nil _; commands_of_a = refl; commands_of_b = refl; sum = refl; begun = inl refl }

-- ---- what no flaw says

record IsFree (d : DuplexReader) (s : Statement) : Type 0 where
  missing : is_missing d s ≡ false
  in_range : is_out_of_range d s ≡ false
  new : is_twice d s ≡ false
  unspent : is_spent d s ≡ false
  few : is_too_many d s ≡ false

no_flaw : (a b c d e f : Bool) → first_of ((a, flaw.Place) ∷ (b, flaw.Missing) ∷ (c, flaw.Value) ∷ (d, flaw.Twice) ∷ (e, flaw.Spent) ∷ (f, flaw.Events) ∷ []) ≡ None → (b ≡ false) × (c ≡ false) × (d ≡ false) × (e ≡ false) × (f ≡ false)
no_flaw true b c d e f h = cc
no_flaw false true c d e f h = cc
no_flaw false false true d e f h = cc
no_flaw false false false true e f h = cc
no_flaw false false false false true f h = cc
no_flaw false false false false false true h = cc
no_flaw false false false false false false h = (refl, refl, refl, refl, refl)

free : (d : DuplexReader) (s : Statement) → flaw_of d s ≡ None → IsFree d s
free d s none =
    let tests = no_flaw (is_misplaced d.stage s) (is_missing d s) (is_out_of_range d s) (is_twice d s) (is_spent d s) (is_too_many d s) none in
    record { missing = tests.0; in_range = tests.1; new = tests.2; unspent = tests.3; few = tests.4 }

-- ---- statements that are no events

quiet : (d e : DuplexReader) (events : List Event) → Stands d events → IsRight e.a → IsRight e.b → e.a.commands_left ≡ d.a.commands_left → e.b.commands_left ≡ d.b.commands_left → e.events_left ≡ d.events_left - 0 → is_fresh e.stage ≡ false → Stands e (events ++ [])
quiet d e events h a b left_a left_b left begun = rw (append-nil events) (record {
  a = a;
  b = b;
  possible = h.possible;
  commands_of_a = rw left_a h.commands_of_a;
  commands_of_b = rw left_b h.commands_of_b;
  sum = let sum = h.sum in omega arith;
  begun = inr begun;
})

-- ---- events that are no commands

counts : (f : Event → ℕ) (events : List Event) (e : Event) → sum_by f (events ++ e ∷ []) ≡ sum_by f events + f e
counts f events e = let more = sum_by-append f events (e ∷ []) in omega arith

eventful : (d e : DuplexReader) (events : List Event) (x : Event) → Stands d events → IsPossible x → issues who.A x ≡ false → issues who.B x ≡ false → nat_lt d.events_left (count_of x) ≡ false → e.a ≡ d.a → e.b ≡ d.b → e.events_left ≡ d.events_left - count_of x → is_fresh e.stage ≡ false → Stands e (events ++ x ∷ [])
eventful d e events x h possible no_a no_b few same_a same_b left begun = record {
  a = rw same_a h.a;
  b = rw same_b h.b;
  possible = All-push IsPossible events x h.possible possible;
  commands_of_a = rw (counts (λ y. cond (issues who.A y) 1 0) events x, no_a, same_a) (let sum = h.commands_of_a in omega arith);
  commands_of_b = rw (counts (λ y. cond (issues who.B y) 1 0) events x, no_b, same_b) (let sum = h.commands_of_b in omega arith);
  sum = rw (counts count_of events x, left) (let sum = h.sum in let fits : count_of x ≤ d.events_left = grind (arith, nat_tests) in omega arith);
  begun = inr begun;
}

possible_times : (side : EndLetter) (verb : Verb) (n : ℕ) → IsBetween 1 4000000 n → IsPossible (times_event side verb n)
possible_times A Take n h = (refl, h)
possible_times A Tick n h = (refl, h)
possible_times A Deliver n h = (refl, h)
possible_times A Lose n h = (refl, h)
possible_times B Take n h = (refl, h)
possible_times B Tick n h = (refl, h)
possible_times B Deliver n h = (refl, h)
possible_times B Lose n h = (refl, h)

times_count : (side : EndLetter) (verb : Verb) (n : ℕ) → count_of (times_event side verb n) ≡ n
times_count side Take n = refl
times_count side Tick n = refl
times_count side Deliver n = refl
times_count side Lose n = refl

times_no_command : (by : Who) (side : EndLetter) (verb : Verb) (n : ℕ) → issues by (times_event side verb n) ≡ false
times_no_command by side Take n = refl
times_no_command by side Tick n = refl
times_no_command by side Deliver n = refl
times_no_command by side Lose n = refl

joined : (side : EndLetter) → IsTrue (joins (who_of side) (who_of (other_end side)))
joined A = refl
joined B = refl

-- ---- commands

spends : (left count : ℕ) → count + left ≡ 65535 → eqb left 0 ≡ false → count + 1 + (left - 1) ≡ 65535
spends left count sum some = let more : 0 < left = grind (arith, nat_tests) in omega arith

issued_by_a : (d : DuplexReader) (events : List Event) (src : Option ℕ) (dst : ℕ) (payload : List ℕ) → Stands d events → IsTrue (is_payload payload) → eqb d.a.commands_left 0 ≡ false → nat_lt d.events_left 1 ≡ false → Stands (record d { stage = Events; events_left = d.events_left - 1; a = record d.a { commands_left = d.a.commands_left - 1 } }) (events ++ event.Issue who.A src dst payload ∷ [])
issued_by_a d events src dst payload h ok some few = record {
  a = right_with_commands d.a (d.a.commands_left - 1) h.a;
  b = h.b;
  possible = All-push IsPossible events (event.Issue who.A src dst payload) h.possible (refl, ok);
  commands_of_a = rw (counts (λ y. cond (issues who.A y) 1 0) events (event.Issue who.A src dst payload)) (spends d.a.commands_left _ h.commands_of_a some);
  commands_of_b = rw (counts (λ y. cond (issues who.B y) 1 0) events (event.Issue who.A src dst payload)) (let sum = h.commands_of_b in omega arith);
  sum = rw (counts count_of events (event.Issue who.A src dst payload)) (let sum = h.sum in let fits : 1 ≤ d.events_left = grind (arith, nat_tests) in omega arith);
  begun = inr refl;
}

issued_by_b : (d : DuplexReader) (events : List Event) (src : Option ℕ) (dst : ℕ) (payload : List ℕ) → Stands d events → IsTrue (is_payload payload) → eqb d.b.commands_left 0 ≡ false → nat_lt d.events_left 1 ≡ false → Stands (record d { stage = Events; events_left = d.events_left - 1; b = record d.b { commands_left = d.b.commands_left - 1 } }) (events ++ event.Issue who.B src dst payload ∷ [])
issued_by_b d events src dst payload h ok some few = record {
  a = h.a;
  b = right_with_commands d.b (d.b.commands_left - 1) h.b;
  possible = All-push IsPossible events (event.Issue who.B src dst payload) h.possible (refl, ok);
  commands_of_a = rw (counts (λ y. cond (issues who.A y) 1 0) events (event.Issue who.B src dst payload)) (let sum = h.commands_of_a in omega arith);
  commands_of_b = rw (counts (λ y. cond (issues who.B y) 1 0) events (event.Issue who.B src dst payload)) (spends d.b.commands_left _ h.commands_of_b some);
  sum = rw (counts count_of events (event.Issue who.B src dst payload)) (let sum = h.sum in let fits : 1 ≤ d.events_left = grind (arith, nat_tests) in omega arith);
  begun = inr refl;
}

-- ---- any statement

abbrev Next : DuplexReader → List Event → Statement → Type 0
Next d events s = Stands (with_statement d s).0 (events ++ option_to_list (with_statement d s).1)

next : (d : DuplexReader) (events : List Event) (s : Statement) → Stands d events → IsSound s → IsFree d s → Next d events s
next d events (Mode half) h sound none = quiet d (counted d (Mode half)) events h h.a h.b refl refl refl refl
next d events (Check None) h sound none = quiet d (counted d (Check None)) events h h.a h.b refl refl refl refl
next d events (Check (Some check)) h sound none = quiet d (settled (counted d (Check (Some check))) (Check (Some check))) events h h.a h.b refl refl refl refl
next d events (statement.Station number) h sound none = quiet d (counted d (statement.Station number)) events h h.a h.b refl refl refl refl
next d events (Setup Master line) h sound none = let no : true ≡ false = none.missing in cc
next d events (Setup (Station number) line) h sound none = let no : true ≡ false = none.missing in cc
next d events (Setup (Known A) line) h sound none =
    let right = right_with_line who.A Duplex d.a line h.a sound none.missing none.in_range none.new in
    quiet d (settled (counted d (Setup (Known A) line)) (Setup (Known A) line)) events h right h.b (same_commands who.A d.a line) refl refl refl
next d events (Setup (Known B) line) h sound none =
    let right = right_with_line who.B Duplex d.b line h.b sound none.missing none.in_range none.new in
    quiet d (settled (counted d (Setup (Known B) line)) (Setup (Known B) line)) events h h.a right refl (same_commands who.B d.b line) refl refl
next d events (Issue side None) h sound none = let no : true ≡ false = none.in_range in cc
next d events (Issue A (Some payload)) h sound none = issued_by_a d events None _ payload h sound none.unspent none.few
next d events (Issue B (Some payload)) h sound none = issued_by_b d events None _ payload h sound none.unspent none.few
next d events (IssueFrom side None payload) h sound none = let no : true ≡ false = none.in_range in cc
next d events (IssueFrom side (Some src) None) h sound none = let no : true ≡ false = none.in_range in cc
next d events (IssueFrom A (Some src) (Some payload)) h sound none = issued_by_a d events (Some src) _ payload h sound none.unspent none.few
next d events (IssueFrom B (Some src) (Some payload)) h sound none = issued_by_b d events (Some src) _ payload h sound none.unspent none.few
next d events (Times side verb None) h sound none = let no : true ≡ false = none.in_range in cc
next d events (Times side verb (Some n)) h sound none =
    let same : count_of (times_event side verb n) ≡ n = times_count side verb n in
    eventful d (counted d (Times side verb (Some n))) events (times_event side verb n) h (possible_times side verb n sound)
    (times_no_command who.A side verb n) (times_no_command who.B side verb n) (rw same none.few) refl refl (rw same refl) refl
next d events (Alter side None) h sound none = let no : true ≡ false = none.in_range in cc
next d events (Alter side (Some mask)) h sound none =
    eventful d (counted d (Alter side (Some mask))) events _ h (joined side, sound) refl refl none.few refl refl refl refl
next d events (Foreign side None) h sound none = let no : true ≡ false = none.in_range in cc
next d events (Foreign side (Some bytes)) h sound none =
    eventful d (counted d (Foreign side (Some bytes))) events _ h (joined side, sound) refl refl none.few refl refl refl refl
next d events (Half event) h sound none = let no : true ≡ false = none.missing in cc
next d events End h sound none = quiet d (counted d End) events h h.a h.b refl refl refl refl

abbrev pub IfNext : List Event → Result (DuplexReader × Option Event) Flaw → Type 0
IfNext events (Err flaw) = Unit {0}
IfNext events (Ok step) = Stands step.0 (events ++ option_to_list step.1)

unless : (d : DuplexReader) (events : List Event) (s : Statement) (o : Option Flaw) → flaw_of d s ≡ o → Stands d events → IsSound s → IfNext events (unless_wrong o (with_statement d s))
unless d events s (Some flaw) is h sound = tt
unless d events s None is h sound = next d events s h sound (free d s is)

pub next_of : (d : DuplexReader) (events : List Event) (s : Statement) → Stands d events → IsSound s → IfNext events (after_statement d s)
next_of d events s h sound = unless d events s (flaw_of d s) refl h sound

-- ---- the script

pub closes : (d : DuplexReader) (events : List Event) → Stands d events → IsPlayable (script_with d events)
closes d events h = record {
  mode = refl;
  ends = (plan_is_right who.A 0 d.a (omega arith) h.a, plan_is_right who.B 1 d.b (omega arith) h.b);
  events = h.possible;
  commands_of_a = let sum = h.commands_of_a in omega arith;
  commands_of_b = let sum = h.commands_of_b in omega arith;
  sum = let sum = h.sum in omega arith;
}

pub left_of : (d : DuplexReader) (events : List Event) → Stands d events → IsLeft d events
left_of d events h = let a = h.commands_of_a in let b = h.commands_of_b in let sum = h.sum in record { commands_of_a = omega (arith, a); commands_of_b = omega (arith, b); events_are = omega (arith, sum) }
