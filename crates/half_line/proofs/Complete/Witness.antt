-- The run of an undisturbed write, whose reply a poll fetches; and that of two commands out at two stations.
use Rattle.std.proofs.Common.{◌≡◌, ℕ, ◌≤◌, List, [], ◌∷◌, Option, Some, None, refl, arith, Bool, true, false, is_none, nat_eq}
use Rattle.std.proofs.lemmas.Bool.{ltb-true}
use Rattle.std.specs.Prelude.{All, ◌&&◌, nat_lt, slice_get}
use Rattle.std.specs.List.{IsDistinct}
use Rattle.std.proofs.lemmas.List.Elements.{All-nil, All-cons}
use Rattle.df1_node.specs.Node.{NodeState}
use Rattle.df1_check.specs.Checks.{with_byte}
use Rattle.df1_frame.specs.Spelling.{check_bytes}
use Rattle.logical_address.specs.Reading.{three_front}
use Rattle.slc_commands.specs.Order.{fields, spelled_order}
use Rattle.script_statement.specs.declared.who.Who.TheVariants.{M, S}
use Rattle.lane_cells.specs.Cells.{LaneCell}
use Rattle.end_settings.specs.declared.key.EndKey.{EndKey}
use Rattle.end_settings.specs.declared.key.EndKey.TheVariants.{Node, Window}
use Rattle.end_settings.specs.Rows.{Fits}
use Rattle.end_settings.specs.Table.{row_of}
use Rattle.script_parts.specs.Plans.{first_plan, setting_in}
use Rattle.script_parts.specs.declared.script.EndPlan.{EndPlan}
use Rattle.script_parts.specs.declared.script.Event.{Event}
use Rattle.script_parts.proofs.PlanSettings.{Fits-first_plan}
use Rattle.script_parts.specs.HalfPlayable.{IsStationNumber, IsStationPlan, IsHalfPossible, IsHalfPlayable, numbers_of, station_plans}
use Rattle.each_once.proofs.Sublists.{none-is}
use Rattle.each_once.specs.Tells.{executed_in, answers_in}
use Rattle.half_line.specs.Behind.{plain_node}
use Rattle.half_line.specs.Acts.{LineStationState, HalfState, LaneDeed, Deliver, Lose, Alter, Foreign, lane_of, LinkDeed, StationGives, OnLane}
use Rattle.half_line.specs.Steps.{UnitStep, AtMaster, AtStation, after_step}
use Rattle.half_line.specs.Run.{plan_of_m, start, steps_of, after_event, last_state, lines_after, record_from}
use Rattle.half_line.specs.Prompt.{late_after, late_event, patience, IsGentleOn, IsGentleAt, IsGentleWith, IsGentle, IsPromptOver, IsPromptAfter, EndsQuiet, EndsFetched, IsUndisturbed}
use Rattle.half_line.specs.Complete.{IsComplete}
use Rattle.half_line.specs.Example.{polled_write, the_command, the_reply, two_stations, first_echo, first_echoed, second_echo, second_echoed}
use Rattle.half_line.proofs.Complete.WholeRun.{is-complete}

-- ---- it can be played

abbrev pub Each : {A : Type 0} → (A → Type 0) → List A → Type 0
Each P [] = Unit {0}
Each P (x ∷ xs) = P x × Each P xs

pub all : {A : Type 0} (P : A → Type 0) (xs : List A) → Each P xs → All P xs
all P [] each = All-nil P
all P (x ∷ xs) each = All-cons P x xs each.0 (all P xs each.1)

distinct : IsDistinct nat_eq (3 ∷ 5 ∷ [])
unfolding IsDistinct
distinct = ((refl, tt), (tt, tt))

pub polled_write-playable : IsHalfPlayable polled_write
polled_write-playable = record {
  mode = refl;
  ends = (
    record { end = refl; files = refl; words = All-nil _; settings = Fits-first_plan M 0 (omega arith); compat = refl; block = omega arith },
    all IsStationPlan (station_plans polled_write.ends) (
      record { end = refl; files = refl; words = All-nil _; settings = Fits-first_plan (S 3) 3 (omega arith); compat = refl; block = omega arith },
      (
        record { end = refl; files = refl; words = All-nil _; settings = Fits-first_plan (S 5) 5 (omega arith); compat = refl; block = omega arith },
        tt,
      ),
    ),
    record { at_most = omega arith; distinct = distinct; each = all IsStationNumber (3 ∷ 5 ∷ []) ((λ is. omega (arith, is), omega arith), ((λ is. omega (arith, is), omega arith), tt)) },
  );
  events = all (IsHalfPossible (numbers_of polled_write.ends)) polled_write.events ((refl, refl, refl), ((refl, (omega arith, omega arith)), ((refl, (omega arith, omega arith)), ((refl, (omega arith, omega arith)), ((refl, (omega arith, omega arith)), ((refl, (omega arith, omega arith)), ((refl, (omega arith, omega arith)), ((refl, (omega arith, omega arith)), ((refl, (omega arith, omega arith)), ((refl, (omega arith, omega arith)), ((refl, (omega arith, omega arith)), ((refl, (omega arith, omega arith)), ((refl, (omega arith, omega arith)), ((refl, (omega arith, omega arith)), ((refl, (omega arith, omega arith)), ((refl, (omega arith, omega arith)), ((refl, (omega arith, omega arith)), ((refl, (omega arith, omega arith)), ((refl, (omega arith, omega arith)), ((refl, (omega arith, omega arith)), ((refl, (omega arith, omega arith)), tt)))))))))))))))))))));
  commands = omega arith;
  sum = omega arith;
}

-- ---- what the record tells

pub polled_write-executed : executed_in (S 3) (lines_after plain_node (start polled_write) polled_write.events) ≡ the_command ∷ []
unfolding check_bytes with_byte spelled_order fields three_front
polled_write-executed = refl

pub polled_write-executed-none : executed_in (S 5) (lines_after plain_node (start polled_write) polled_write.events) ≡ []
unfolding check_bytes with_byte spelled_order fields three_front
polled_write-executed-none = refl

pub polled_write-answered : answers_in M (lines_after plain_node (start polled_write) polled_write.events) ≡ (1, the_reply) ∷ []
unfolding check_bytes with_byte spelled_order fields three_front
polled_write-answered = refl

-- ---- nothing disturbs it

unfoldable pub is_gentle_on : List LaneCell → LaneDeed → Bool
is_gentle_on lane Deliver = true
is_gentle_on lane Lose = is_none (slice_get lane 0)
is_gentle_on lane (Alter mask) = is_none (slice_get lane 0)
is_gentle_on lane (Foreign byte) = false

abbrev is_gentle_at : LineStationState → LinkDeed → Bool
is_gentle_at side StationGives = true
is_gentle_at side (OnLane way deed) = is_gentle_on (lane_of way side) deed

abbrev is_gentle_with : LinkDeed → Option LineStationState → Bool
is_gentle_with deed None = true
is_gentle_with deed (Some side) = is_gentle_at side deed

abbrev is_gentle : HalfState NodeState → UnitStep → Bool
is_gentle s (AtMaster deed) = true
is_gentle s (AtStation place deed) = is_gentle_with deed (slice_get s.stations place)

abbrev prompt_over : ℕ → HalfState NodeState → List UnitStep → Bool
prompt_over late s [] = true
prompt_over late s (step ∷ steps) = is_gentle s step && (nat_lt (late_after late s step) (patience (after_step plain_node s step)) && prompt_over (late_after late s step) (after_step plain_node s step) steps)

abbrev pub prompt_after : ℕ → HalfState NodeState → List Event → Bool
prompt_after late s [] = true
prompt_after late s (e ∷ events) = prompt_over late s (steps_of s e) && prompt_after (late_event late s e) (after_event plain_node s e) events

both : (a b : Bool) → (a && b) ≡ true → (a ≡ true) × (b ≡ true)
both true b h = (refl, h)
both false b h = absurd cc

gentle-on : (lane : List LaneCell) (deed : LaneDeed) → is_gentle_on lane deed ≡ true → IsGentleOn lane deed
unfolding is_gentle_on
gentle-on lane Deliver h = tt
gentle-on lane Lose h = none-is (slice_get lane 0) h
gentle-on lane (Alter mask) h = none-is (slice_get lane 0) h
gentle-on lane (Foreign byte) h = absurd cc

gentle-at : (side : LineStationState) (deed : LinkDeed) → is_gentle_at side deed ≡ true → IsGentleAt side deed
gentle-at side StationGives h = tt
gentle-at side (OnLane way deed) h = gentle-on (lane_of way side) deed h

gentle-with : (deed : LinkDeed) (o : Option LineStationState) → is_gentle_with deed o ≡ true → IsGentleWith deed o
gentle-with deed None h = tt
gentle-with deed (Some side) h = gentle-at side deed h

gentle : (s : HalfState NodeState) (step : UnitStep) → is_gentle s step ≡ true → IsGentle s step
gentle s (AtMaster deed) h = tt
gentle s (AtStation place deed) h = gentle-with deed (slice_get s.stations place) h

prompt-over : (late : ℕ) (s : HalfState NodeState) (steps : List UnitStep) → prompt_over late s steps ≡ true → IsPromptOver late s steps
prompt-over late s [] h = tt
prompt-over late s (step ∷ steps) h =
    let after = after_step plain_node s step in
    let now = late_after late s step in
    let parts = both (is_gentle s step) (nat_lt now (patience after) && prompt_over now after steps) h in
    let more = both (nat_lt now (patience after)) (prompt_over now after steps) parts.1 in
    (gentle s step parts.0, ltb-true now (patience after) more.0, prompt-over now after steps more.1)

pub prompt-after : (late : ℕ) (s : HalfState NodeState) (events : List Event) → prompt_after late s events ≡ true → IsPromptAfter late s events
prompt-after late s [] h = tt
prompt-after late s (e ∷ events) h =
    let parts = both (prompt_over late s (steps_of s e)) (prompt_after (late_event late s e) (after_event plain_node s e) events) h in
    (prompt-over late s (steps_of s e) parts.0, prompt-after (late_event late s e) (after_event plain_node s e) events parts.1)

polled_write-checked : prompt_after 0 (start polled_write) polled_write.events ≡ true
unfolding check_bytes with_byte spelled_order fields three_front is_gentle_on
polled_write-checked = refl

polled_write-quiet : EndsQuiet polled_write
unfolding check_bytes with_byte spelled_order fields three_front
polled_write-quiet = refl

polled_write-fetched : EndsFetched polled_write
unfolding check_bytes with_byte spelled_order fields three_front
polled_write-fetched = refl

pub polled_write-undisturbed : IsUndisturbed polled_write
polled_write-undisturbed = record {
  rooms = all (λ (plan : EndPlan). (plan_of_m polled_write).window ≤ plan.room) (station_plans polled_write.ends) (omega arith, (omega arith, tt));
  prompt = prompt-after 0 (start polled_write) polled_write.events polled_write-checked;
  quiet = polled_write-quiet;
  turns = omega arith;
  fetched = polled_write-fetched;
}

pub polled_write-complete : IsComplete polled_write (record_from plain_node (last_state polled_write) (lines_after plain_node (start polled_write) polled_write.events))
polled_write-complete = is-complete polled_write polled_write-playable polled_write-undisturbed

-- ---- two commands out at two stations

two-settings : (key : EndKey) → Fits (row_of key).values (setting_in (record (first_plan M 0) { window = 2 }) key)
two-settings Window = (omega arith, omega arith)
two-settings other = Fits-first_plan M 0 (omega arith) other

pub two_stations-playable : IsHalfPlayable two_stations
two_stations-playable = record {
  mode = refl;
  ends = (
    record { end = refl; files = refl; words = All-nil _; settings = two-settings; compat = refl; block = omega arith },
    all IsStationPlan (station_plans two_stations.ends) (
      record { end = refl; files = refl; words = All-nil _; settings = Fits-first_plan (S 3) 3 (omega arith); compat = refl; block = omega arith },
      (
        record { end = refl; files = refl; words = All-nil _; settings = Fits-first_plan (S 5) 5 (omega arith); compat = refl; block = omega arith },
        tt,
      ),
    ),
    record { at_most = omega arith; distinct = distinct; each = all IsStationNumber (3 ∷ 5 ∷ []) ((λ is. omega (arith, is), omega arith), ((λ is. omega (arith, is), omega arith), tt)) },
  );
  events = all (IsHalfPossible (numbers_of two_stations.ends)) two_stations.events ((refl, refl, refl), ((refl, refl, refl), ((refl, (omega arith, omega arith)), ((refl, (omega arith, omega arith)), ((refl, (omega arith, omega arith)), ((refl, (omega arith, omega arith)), ((refl, (omega arith, omega arith)), ((refl, (omega arith, omega arith)), ((refl, (omega arith, omega arith)), ((refl, (omega arith, omega arith)), ((refl, (omega arith, omega arith)), ((refl, (omega arith, omega arith)), ((refl, (omega arith, omega arith)), ((refl, (omega arith, omega arith)), ((refl, (omega arith, omega arith)), ((refl, (omega arith, omega arith)), ((refl, (omega arith, omega arith)), ((refl, (omega arith, omega arith)), ((refl, (omega arith, omega arith)), ((refl, (omega arith, omega arith)), ((refl, (omega arith, omega arith)), ((refl, (omega arith, omega arith)), ((refl, (omega arith, omega arith)), ((refl, (omega arith, omega arith)), ((refl, (omega arith, omega arith)), ((refl, (omega arith, omega arith)), ((refl, (omega arith, omega arith)), ((refl, (omega arith, omega arith)), ((refl, (omega arith, omega arith)), ((refl, (omega arith, omega arith)), tt))))))))))))))))))))))))))))));
  commands = omega arith;
  sum = omega arith;
}

pub two_stations-executed : executed_in (S 5) (lines_after plain_node (start two_stations) two_stations.events) ≡ first_echo ∷ []
unfolding check_bytes with_byte spelled_order fields three_front
two_stations-executed = refl

pub two_stations-executed-too : executed_in (S 3) (lines_after plain_node (start two_stations) two_stations.events) ≡ second_echo ∷ []
unfolding check_bytes with_byte spelled_order fields three_front
two_stations-executed-too = refl

pub two_stations-answered : answers_in M (lines_after plain_node (start two_stations) two_stations.events) ≡ (2, second_echoed) ∷ (1, first_echoed) ∷ []
unfolding check_bytes with_byte spelled_order fields three_front
two_stations-answered = refl

two_stations-checked : prompt_after 0 (start two_stations) two_stations.events ≡ true
unfolding check_bytes with_byte spelled_order fields three_front is_gentle_on
two_stations-checked = refl

two_stations-quiet : EndsQuiet two_stations
unfolding check_bytes with_byte spelled_order fields three_front
two_stations-quiet = refl

two_stations-fetched : EndsFetched two_stations
unfolding check_bytes with_byte spelled_order fields three_front
two_stations-fetched = refl

pub two_stations-undisturbed : IsUndisturbed two_stations
two_stations-undisturbed = record {
  rooms = all (λ (plan : EndPlan). (plan_of_m two_stations).window ≤ plan.room) (station_plans two_stations.ends) (omega arith, (omega arith, tt));
  prompt = prompt-after 0 (start two_stations) two_stations.events two_stations-checked;
  quiet = two_stations-quiet;
  turns = omega arith;
  fetched = two_stations-fetched;
}

pub two_stations-complete : IsComplete two_stations (record_from plain_node (last_state two_stations) (lines_after plain_node (start two_stations) two_stations.events))
two_stations-complete = is-complete two_stations two_stations-playable two_stations-undisturbed
