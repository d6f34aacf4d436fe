-- Over a run: once a command is answered that was to come at some state, and all has arrived since that the master gave, each station's ear is in step where nothing is under way.
use Rattle.std.proofs.Common.{◌≡◌, ◌∙◌, ℕ, zero, suc, Bool, true, false, is_none, List, [], ◌∷◌, ◌++◌, map, Option, Some, None, refl, ap, sym, subst, append_assoc, arith, inl, inr, eq-eqb}
use Rattle.std.specs.Prelude.{◌⊎◌, All, Contains, IsTrue, slice_get}
use Rattle.std.specs.List.{list_all}
use Rattle.std.specs.Option.{option_map_or}
use Rattle.std.proofs.lemmas.List.Elements.{All-nil, All-cons, All-contains, Contains-append_left, Contains-append_right, Contains-append_cases, filter_map-append}
use Rattle.df1_check.specs.declared.Check.{Check}
use Rattle.df1_node.specs.Initiator.{Standing, Waiting, Out, Answered, Undelivered, Unanswered, Issued, is_waiting, is_out}
use Rattle.df1_node.specs.Node.{NodeState}
use Rattle.half_frame.specs.SlaveStanding.{Listening}
use Rattle.half_frame.specs.declared.framer.Sent.{Sent}
use Rattle.half_mouth.specs.Giving.{is_done}
use Rattle.half_master.specs.Master as master
use Rattle.script_statement.specs.declared.who.Who.{Who}
use Rattle.script_statement.specs.declared.who.Who.TheVariants.{M}
use Rattle.script_parts.specs.declared.script.Event.{Event}
use Rattle.script_parts.specs.declared.script.Script.{Script}
use Rattle.script_parts.specs.HalfPlayable.{IsHalfPlayable}
use Rattle.replay_report.specs.declared.record.Line.{Line}
use Rattle.replay_report.specs.declared.record.Line.TheVariants as line
use Rattle.each_once.specs.Commands.{command_at, told_of, told_of_command}
use Rattle.each_once.specs.NodeHost.{node_host}
use Rattle.each_once.specs.Tells.{is_who, answer_at, outcome_at, answers_in, outcomes_in}
use Rattle.half_line.specs.Behind.{plain_node}
use Rattle.half_line.specs.Acts.{LineStationState, HalfState}
use Rattle.half_line.specs.Certified.{is_in_step, IsAnsweredAfter, AreCertified, IsMasterInStep, GoesOnCalmly}
use Rattle.half_line.specs.Issues.{issued_of}
use Rattle.half_line.specs.Prompt.{is_idle, is_quiet, keeps_none, is_fetched}
use Rattle.half_line.specs.Rest.{is_between_calls, is_between_answers, is_resting, is_to_come, is_at_rest, IsWellAfter}
use Rattle.half_line.specs.Run.{start, state_after, lines_after, last_state, record_from}
use Rattle.half_line.proofs.Once.Hearing.{run-hears}
use Rattle.half_line.proofs.Once.MasterOutcomes.{outcomes-run}
use Rattle.half_line.proofs.Wire.Told.{gave-run}
use Rattle.half_line.proofs.Complete.AfterRest.{goes-well}
use Rattle.half_line.proofs.Complete.Fronts.{front-plays, state-both, lines-both}
use Rattle.half_line.proofs.Complete.QuietLine.{given-by}
use Rattle.half_line.proofs.Complete.Stages.{both, idle-is}
use Rattle.lane_cells.specs.Cells.{LaneCell}
use Rattle.half_frame.specs.Spelling.{bytes_of}
use Rattle.half_line.proofs.Certified.CommandStands.{is_answered, Stands}
use Rattle.half_line.proofs.Certified.EarsInStep.{after}
use Rattle.half_line.proofs.Certified.EarsAhead.{Each, StandsAhead}
use Rattle.half_line.proofs.Certified.LineSteps.{Heeds, heeds-events}

-- ---- a command that is told as answered stands so

-- its outcome is told by the same line
abbrev ToldWith : Line → ℕ × List ℕ → Type 0
ToldWith l a = Contains (outcomes_in M a.0 (l ∷ [])) (Answered a.1)

answered-told : (by : Who) (number : ℕ) (body : List ℕ) (own : Bool) → is_who M by ≡ own → All (ToldWith (line.Answered by number body)) (answers_in M (line.Answered by number body ∷ []))
answered-told by number body true is =
    let answers : answers_in M (line.Answered by number body ∷ []) ≡ (number, body) ∷ [] = rw is refl in
    let outcomes : outcomes_in M number (line.Answered by number body ∷ []) ≡ Answered body ∷ [] = rw (is, eq-eqb number number refl) refl in
    let told : ToldWith (line.Answered by number body) (number, body) = subst (λ (all : List Standing). Contains all (Answered body)) (sym outcomes) (0, omega arith, refl) in
    subst (All (ToldWith (line.Answered by number body))) (sym answers) (All-cons (ToldWith (line.Answered by number body)) (number, body) [] told (All-nil _))
answered-told by number body false is =
    let answers : answers_in M (line.Answered by number body ∷ []) ≡ [] = rw is refl in
    subst (All (ToldWith (line.Answered by number body))) (sym answers) (All-nil _)

one-told : (l : Line) → All (ToldWith l) (answers_in M (l ∷ []))
one-told (line.Answered by number body) = answered-told by number body (is_who M by) refl
one-told _ = All-nil _

first-or-later : (n : ℕ) (reply : List ℕ) (l : Line) (lines : List Line) → (Contains (answers_in M lines) (n, reply) → Contains (outcomes_in M n lines) (Answered reply)) → Contains (answers_in M (l ∷ [])) (n, reply) ⊎ Contains (answers_in M lines) (n, reply)
    → Contains (outcomes_in M n (l ∷ []) ++ outcomes_in M n lines) (Answered reply)
first-or-later n reply l lines goes (inl first) = Contains-append_left (outcomes_in M n (l ∷ [])) (outcomes_in M n lines) (Answered reply) (All-contains (ToldWith l) (answers_in M (l ∷ [])) (n, reply) (one-told l) first)
first-or-later n reply l lines goes (inr later) = Contains-append_right (outcomes_in M n (l ∷ [])) (outcomes_in M n lines) (Answered reply) (goes later)

told-answer : (n : ℕ) (reply : List ℕ) (lines : List Line) → Contains (answers_in M lines) (n, reply) → Contains (outcomes_in M n lines) (Answered reply)
told-answer n reply [] told = absurd (let inside = told.1 in omega (arith, inside))
told-answer n reply (l ∷ lines) told =
    subst (λ (all : List Standing). Contains all (Answered reply)) (sym (filter_map-append (outcome_at M n) (l ∷ []) lines))
    (first-or-later n reply l lines (told-answer n reply lines)
    (Contains-append_cases (answers_in M (l ∷ [])) (answers_in M lines) (n, reply) (subst (λ (all : List (ℕ × List ℕ)). Contains all (n, reply)) (filter_map-append (answer_at M) (l ∷ []) lines) told)))

abbrev no_outcomes : List Standing
no_outcomes = []

not-none : (reply : List ℕ) → Contains no_outcomes (Answered reply) → ⊥
not-none reply told = absurd (let inside = told.1 in omega (arith, inside))

stands-so : (standing : Standing) (reply : List ℕ) → Contains (told_of standing) (Answered reply) → is_answered standing ≡ true
stands-so Waiting reply told = absurd (not-none reply told)
stands-so (Out left) reply told = absurd (not-none reply told)
stands-so (Answered other) reply told = refl
stands-so Undelivered reply told = absurd (let same = All-contains (λ (s : Standing). s ≡ Undelivered) (Undelivered ∷ []) (Answered reply) (All-cons (λ (s : Standing). s ≡ Undelivered) Undelivered [] refl (All-nil _)) told in cc)
stands-so Unanswered reply told = absurd (let same = All-contains (λ (s : Standing). s ≡ Unanswered) (Unanswered ∷ []) (Answered reply) (All-cons (λ (s : Standing). s ≡ Unanswered) Unanswered [] refl (All-nil _)) told in cc)

command-stands : (o : Option Issued) (reply : List ℕ) → Contains (told_of_command o) (Answered reply) → option_map_or (λ c. is_answered c.standing) o false ≡ true
command-stands None reply told = absurd (not-none reply told)
command-stands (Some c) reply told = stands-so c.standing reply told

-- ---- a command that is to come

come-not : (how : Standing → Bool) → ((standing : Standing) → is_waiting standing ≡ true → how standing ≡ false) → (o : Option Issued) → option_map_or (λ c. is_waiting c.standing) o true ≡ true → option_map_or (λ c. how c.standing) o false ≡ true → ⊥
come-not how other None come stands = absurd (let no : false ≡ true = stands in cc)
come-not how other (Some c) come stands = absurd (let no : false ≡ true = sym (other c.standing come) ∙ stands in cc)

waits-not-out : (standing : Standing) → is_waiting standing ≡ true → is_out standing ≡ false
waits-not-out Waiting is = refl
waits-not-out (Out left) is = absurd cc
waits-not-out (Answered reply) is = refl
waits-not-out Undelivered is = refl
waits-not-out Unanswered is = refl

waits-not-answered : (standing : Standing) → is_waiting standing ≡ true → is_answered standing ≡ false
waits-not-answered Waiting is = refl
waits-not-answered (Out left) is = refl
waits-not-answered (Answered reply) is = absurd cc
waits-not-answered Undelivered is = refl
waits-not-answered Unanswered is = refl

-- ---- where nothing is under way

-- what leads an ear is nothing
side-now : (check : Check) (left : List Sent) (side : LineStationState) → left ≡ [] → side.to_it ≡ [] → StandsAhead is_between_calls check left side → is_in_step side ≡ true
side-now check left side none empty stands =
    subst (λ (cells : List LaneCell). is_between_calls (after check side.slave.ear.standing (map (λ (cell : LaneCell). cell.byte) cells ++ bytes_of [])) ≡ true) empty
    (subst (λ (sent : List Sent). StandsAhead is_between_calls check sent side) none stands)

in-step-now : (check : Check) (left : List Sent) (sides : List LineStationState) → left ≡ [] → list_all is_idle sides ≡ true → Each (StandsAhead is_between_calls check left) sides → list_all is_in_step sides ≡ true
in-step-now check left [] none idle all = refl
in-step-now check left (side ∷ sides) none idle all =
    let parts = both (is_idle side) (list_all is_idle sides) idle in
    let here = side-now check left side none (idle-is side parts.0).none_to_it all.0 in
    rw (here, in-step-now check left sides none parts.1 all.1) refl

-- ---- the run

each-from : (P : LineStationState → Type 0) (sides : List LineStationState) → ((p : ℕ) (side : LineStationState) → slice_get sides p ≡ Some side → P side) → Each P sides
each-from P [] is = tt
each-from P (side ∷ sides) is = (is 0 side refl, each-from P sides (λ p other at. is (suc p) other at))

heeds-start : (script : Script) (front : List Event) (k : ℕ) → IsHalfPlayable (record script { events = front }) → is_to_come (state_after plain_node (start script) front).master (suc k) ≡ true → Heeds script.check k (state_after plain_node (start script) front)
heeds-start script front k playable come =
    let run : Script = record script { events = front } in
    let s = state_after plain_node (start script) front in
    let hears = run-hears run in
    let gave = gave-run run playable in
    let commands = issued_of s.master in
    record {
      check_is = gave.master.check_is;
      checks = each-from (λ side. side.slave.ear.check ≡ script.check) s.stations (λ p side at. ap (λ (ear : Listening). ear.check) (hears.stands p side at).is);
      near = λ out. absurd (come-not is_out waits-not-out (slice_get commands k) come out);
      in_step = λ answered. absurd (come-not is_answered waits-not-answered (slice_get commands k) come answered);
    }

-- no command that is to come is answered
pub to-come-unanswered : (s : HalfState NodeState) (k : ℕ) → is_to_come s.master (suc k) ≡ true → Stands is_answered (issued_of s.master) k → ⊥
to-come-unanswered s k come answered = come-not is_answered waits-not-answered (slice_get (issued_of s.master) k) come answered

-- the place of the command, counted from 0, which stands as answered in the end; no command has the number 0
abbrev StandsAnswered : Script → List Event → ℕ → Type 0
StandsAnswered script events n = (k : ℕ) × (n ≡ suc k) × Stands is_answered (issued_of (state_after plain_node (start script) events).master) k

stands-answered : (script : Script) (events : List Event) (n : ℕ) (reply : List ℕ) → IsHalfPlayable (record script { events = events }) → Contains (answers_in M (lines_after plain_node (start script) events)) (n, reply) → StandsAnswered script events n
stands-answered script events n reply playable told = by-number n (subst (λ (all : List Standing). Contains all (Answered reply)) (outcomes-run (record script { events = events }) playable n) (told-answer n reply (lines_after plain_node (start script) events) told))
  where
    by-number : (n : ℕ) → Contains (told_of_command (command_at (issued_of (state_after plain_node (start script) events).master) n)) (Answered reply) → StandsAnswered script events n
    by-number zero outcome = absurd (not-none reply outcome)
    by-number (suc k) outcome = (k, refl, command-stands (slice_get (issued_of (state_after plain_node (start script) events).master) k) reply outcome)

pub told-stands : (script : Script) (front middle more rest : List Event) (n : ℕ) → IsHalfPlayable script → IsAnsweredAfter script front middle more rest n → StandsAnswered script (front ++ (middle ++ more)) n
told-stands script front middle more rest n playable h =
    let since = middle ++ more in
    let s = state_after plain_node (start script) front in
    let before = lines_after plain_node (start script) front in
    let told_middle = lines_after plain_node s middle in
    let told_more = lines_after plain_node (state_after plain_node s middle) more in
    let told : Contains (answers_in M (lines_after plain_node s since)) (n, h.reply) =
    subst (λ (all : List (ℕ × List ℕ)). Contains all (n, h.reply)) (sym (ap (answers_in M) (lines-both s middle more) ∙ filter_map-append (answer_at M) told_middle told_more))
    (Contains-append_left (answers_in M told_middle) (answers_in M told_more) (n, h.reply) h.answered) in
    stands-answered script (front ++ since) n h.reply (front-plays script (front ++ since) rest playable (h.parts ∙ sym (append_assoc front since rest)))
    (subst (λ (all : List (ℕ × List ℕ)). Contains all (n, h.reply)) (sym (ap (answers_in M) (lines-both (start script) front since) ∙ filter_map-append (answer_at M) before (lines_after plain_node s since)))
    (Contains-append_right (answers_in M before) (answers_in M (lines_after plain_node s since)) (n, h.reply) told))

pub certified : (script : Script) (front middle more rest : List Event) (n : ℕ) → IsHalfPlayable script → IsAnsweredAfter script front middle more rest n → AreCertified (state_after plain_node (start script) (front ++ (middle ++ more)))
certified script front middle more rest n playable h quiet =
    let since = middle ++ more in
    let s = state_after plain_node (start script) front in
    let last = state_after plain_node (start script) (front ++ since) in
    let before = front-plays script front (since ++ rest) playable h.parts in
    let stands = told-stands script front middle more rest n playable h in
    let come : is_to_come s.master (suc stands.0) ≡ true = subst (λ (m : ℕ). is_to_come s.master m ≡ true) stands.1 h.to_come in
    let heeds = subst (Heeds script.check stands.0) (sym (state-both (start script) front since)) (heeds-events script.check stands.0 since s h.arrives (heeds-start script front stands.0 before come)) in
    let parts = both (is_none (master.out_at_take node_host last.master)) (list_all is_idle last.stations) quiet in
    let none = given-by last.master (is_done last.master.mouth) refl parts.0 in
    in-step-now script.check last.master.mouth.left last.stations none parts.1 (heeds.in_step stands.2)

-- ---- and what follows for the commands to come

-- no reply is left at a station whose ear is in step
rests-all : (sides : List LineStationState) → list_all keeps_none sides ≡ true → list_all is_in_step sides ≡ true → list_all is_resting sides ≡ true
rests-all [] none in_step = refl
rests-all (side ∷ sides) none in_step =
    let keeps = both (keeps_none side) (list_all keeps_none sides) none in
    let steps = both (is_in_step side) (list_all is_in_step sides) in_step in
    rw (keeps.0, steps.0, rests-all sides keeps.1 steps.1) refl

pub at-rest : (s : HalfState NodeState) → IsTrue (is_quiet s) → IsTrue (master.is_idle s.master.phase) → IsTrue (is_between_answers s.master.ear.standing) → IsTrue (is_fetched s) → AreCertified s → is_at_rest s ≡ true
at-rest s quiet idle between none certified = rw (quiet, idle, between, rests-all s.stations none (certified quiet)) refl

-- from a state at rest on
pub well-at-rest : (script : Script) (front rest : List Event) → IsHalfPlayable script → script.events ≡ front ++ rest → (state_after plain_node (start script) front).deceived ≡ 0 → is_at_rest (state_after plain_node (start script) front) ≡ true → GoesOnCalmly script front rest
    → IsWellAfter script front (record_from plain_node (last_state script) (lines_after plain_node (start script) script.events))
well-at-rest script front rest playable parts undeceived rests on =
    goes-well script front rest playable (record { events = parts; undeceived = undeceived; at_rest = rests; prompt = on.prompt; quiet = on.quiet; fetched = on.fetched; rooms = on.rooms; turns = on.turns })

pub well-after : (script : Script) (front middle more rest : List Event) (n : ℕ) → IsHalfPlayable script → IsAnsweredAfter script front middle more rest n → IsMasterInStep script (front ++ (middle ++ more)) → GoesOnCalmly script (front ++ (middle ++ more)) rest
    → IsWellAfter script (front ++ (middle ++ more)) (record_from plain_node (last_state script) (lines_after plain_node (start script) script.events))
well-after script front middle more rest n playable h m on =
    let since = middle ++ more in
    well-at-rest script (front ++ since) rest playable (h.parts ∙ sym (append_assoc front since rest)) m.undeceived
    (at-rest (state_after plain_node (start script) (front ++ since)) on.still on.idle m.in_step on.none_left (certified script front middle more rest n playable h)) on
