-- The runs of an undisturbed write, and of three commands of two sources.
use Rattle.std.proofs.Common.{◌≡◌, List, [], ◌∷◌, refl, arith, Bool, true, false, is_none}
use Rattle.std.proofs.lemmas.Bool.{ltb-true}
use Rattle.std.specs.Prelude.{All, ◌&&◌, nat_lt, slice_get}
use Rattle.std.proofs.lemmas.List.Elements.{All-nil, All-cons}
use Rattle.df1_check.specs.Checks.{with_byte}
use Rattle.df1_frame.specs.Spelling.{check_bytes}
use Rattle.logical_address.specs.Reading.{three_front}
use Rattle.slc_commands.specs.Order.{fields, spelled_order}
use Rattle.end_settings.specs.declared.key.EndKey.{EndKey}
use Rattle.end_settings.specs.declared.key.EndKey.TheVariants.{PerSource, Window}
use Rattle.end_settings.specs.Rows.{Fits}
use Rattle.end_settings.specs.Table.{row_of}
use Rattle.script_statement.specs.declared.who.Who.TheVariants.{A, B}
use Rattle.script_parts.specs.declared.script.Event.{Event}
use Rattle.script_parts.specs.Plans.{first_plan, setting_in}
use Rattle.script_parts.proofs.PlanSettings.{Fits-first_plan}
use Rattle.script_parts.specs.Playable.{IsPossible, IsPlayable}
use Rattle.duplex_line.specs.Acts.{LineEndState, LineState, Deed, Issue, Take, Deliver, Lose, Alter, Foreign, Tick, after_deed}
use Rattle.duplex_line.specs.Run.{start, who_of, deeds_of, seen_from, after_event, last_state, lines_after}
use Rattle.duplex_line.specs.Prompt.{Late, none_late, late_seen, late_after, late_event, patience, AreFew, IsGentle, IsPromptOver, IsPromptAfter, IsPrompt, EndsQuiet, HasRooms}
use Rattle.each_once.specs.Tells.{executed_in, answers_in}
use Rattle.duplex_line.specs.Example.{one_write, the_command, the_reply, two_sources, second_command, second_reply, third_command, third_reply}
use Rattle.each_once.proofs.Sublists.{none-is}
use Rattle.duplex_line.proofs.Complete.TickStep.{both}

abbrev pub ArePossible : List Event → Type 0
ArePossible [] = Unit {0}
ArePossible (e ∷ events) = IsPossible e × ArePossible events

pub all-possible : (events : List Event) → ArePossible events → All IsPossible events
all-possible [] possible = All-nil IsPossible
all-possible (e ∷ events) possible = All-cons IsPossible e events possible.0 (all-possible events possible.1)

pub one_write-playable : IsPlayable one_write
one_write-playable = record {
  mode = refl;
  ends = (
    record { end = refl; files = refl; words = All-nil _; settings = Fits-first_plan A 0 (omega arith); compat = refl; block = omega arith },
    record { end = refl; files = refl; words = All-nil _; settings = Fits-first_plan B 1 (omega arith); compat = refl; block = omega arith },
  );
  events = all-possible one_write.events ((refl, refl), ((refl, (omega arith, omega arith)), ((refl, (omega arith, omega arith)), ((refl, (omega arith, omega arith)), ((refl, (omega arith, omega arith)), ((refl, (omega arith, omega arith)), ((refl, (omega arith, omega arith)), tt)))))));
  commands_of_a = omega arith;
  commands_of_b = omega arith;
  sum = omega arith;
}

pub one_write-honest : (last_state one_write).deceived ≡ 0
unfolding check_bytes with_byte spelled_order fields three_front
one_write-honest = refl

pub one_write-executed : executed_in B (lines_after (start one_write) one_write.events) ≡ the_command ∷ []
unfolding check_bytes with_byte spelled_order fields three_front
one_write-executed = refl

pub one_write-answered : answers_in A (lines_after (start one_write) one_write.events) ≡ (1, the_reply) ∷ []
unfolding check_bytes with_byte spelled_order fields three_front
one_write-answered = refl

-- ---- nothing disturbs it

unfoldable pub is_gentle : LineEndState → Deed → Bool
is_gentle side (Issue src dst payload) = true
is_gentle side Take = true
is_gentle side Deliver = true
is_gentle side Lose = is_none (slice_get side.lane 0)
is_gentle side (Alter mask) = is_none (slice_get side.lane 0)
is_gentle side (Foreign byte) = false
is_gentle side Tick = true

abbrev pub are_few : Late → LineState → Bool
are_few late s = nat_lt late.a (patience s.a) && nat_lt late.b (patience s.b)

abbrev pub prompt_over : Late → LineState → List Deed → Bool
prompt_over late s [] = true
prompt_over late s (deed ∷ deeds) = is_gentle s.a deed && (are_few (late_after late s deed) (after_deed s deed) && prompt_over (late_after late s deed) (after_deed s deed) deeds)

abbrev pub prompt_after : Late → LineState → List Event → Bool
prompt_after late s [] = true
prompt_after late s (e ∷ events) = prompt_over (late_seen (who_of e) late) (seen_from (who_of e) s) (deeds_of e) && prompt_after (late_event late s e) (after_event s e) events

pub gentle-is : (side : LineEndState) (deed : Deed) → is_gentle side deed ≡ true → IsGentle side deed
unfolding is_gentle
gentle-is side (Issue src dst payload) h = tt
gentle-is side Take h = tt
gentle-is side Deliver h = tt
gentle-is side Lose h = none-is (slice_get side.lane 0) h
gentle-is side (Alter mask) h = none-is (slice_get side.lane 0) h
gentle-is side (Foreign byte) h = absurd cc
gentle-is side Tick h = tt

pub few-are : (late : Late) (s : LineState) → are_few late s ≡ true → AreFew late s
few-are late s h = let parts = both (nat_lt late.a (patience s.a)) (nat_lt late.b (patience s.b)) h in (ltb-true late.a (patience s.a) parts.0, ltb-true late.b (patience s.b) parts.1)

prompt-over : (late : Late) (s : LineState) (deeds : List Deed) → prompt_over late s deeds ≡ true → IsPromptOver late s deeds
prompt-over late s [] h = tt
prompt-over late s (deed ∷ deeds) h =
    let parts = both (is_gentle s.a deed) (are_few (late_after late s deed) (after_deed s deed) && prompt_over (late_after late s deed) (after_deed s deed) deeds) h in
    let more = both (are_few (late_after late s deed) (after_deed s deed)) (prompt_over (late_after late s deed) (after_deed s deed) deeds) parts.1 in
    (gentle-is s.a deed parts.0, few-are (late_after late s deed) (after_deed s deed) more.0, prompt-over (late_after late s deed) (after_deed s deed) deeds more.1)

pub prompt-after : (late : Late) (s : LineState) (events : List Event) → prompt_after late s events ≡ true → IsPromptAfter late s events
prompt-after late s [] h = tt
prompt-after late s (e ∷ events) h =
    let parts = both (prompt_over (late_seen (who_of e) late) (seen_from (who_of e) s) (deeds_of e)) (prompt_after (late_event late s e) (after_event s e) events) h in
    (prompt-over (late_seen (who_of e) late) (seen_from (who_of e) s) (deeds_of e) parts.0, prompt-after (late_event late s e) (after_event s e) events parts.1)

one_write-checked : prompt_after none_late (start one_write) one_write.events ≡ true
unfolding check_bytes with_byte spelled_order fields three_front is_gentle
one_write-checked = refl

pub one_write-rooms : HasRooms one_write
one_write-rooms = record { of_a = omega arith; of_b = omega arith }

pub one_write-prompt : IsPrompt one_write
one_write-prompt = prompt-after none_late (start one_write) one_write.events one_write-checked

pub one_write-quiet : EndsQuiet one_write
unfolding check_bytes with_byte spelled_order fields three_front
one_write-quiet = refl

-- ---- three commands of two sources

two-settings : (key : EndKey) → Fits (row_of key).values (setting_in (record (first_plan A 0) { window = 2; per_source = 1 }) key)
two-settings Window = (omega arith, omega arith)
two-settings PerSource = (omega arith, omega arith)
two-settings other = Fits-first_plan A 0 (omega arith) other

pub two_sources-playable : IsPlayable two_sources
two_sources-playable = record {
  mode = refl;
  ends = (
    record { end = refl; files = refl; words = All-nil _; settings = two-settings; compat = refl; block = omega arith },
    record { end = refl; files = refl; words = All-nil _; settings = Fits-first_plan B 1 (omega arith); compat = refl; block = omega arith },
  );
  events = all-possible two_sources.events ((refl, refl), ((refl, refl), ((refl, refl), ((refl, (omega arith, omega arith)), ((refl, (omega arith, omega arith)), ((refl, (omega arith, omega arith)), ((refl, (omega arith, omega arith)), ((refl, (omega arith, omega arith)), ((refl, (omega arith, omega arith)), ((refl, (omega arith, omega arith)), ((refl, (omega arith, omega arith)), ((refl, (omega arith, omega arith)), ((refl, (omega arith, omega arith)), ((refl, (omega arith, omega arith)), ((refl, (omega arith, omega arith)), ((refl, (omega arith, omega arith)), ((refl, (omega arith, omega arith)), ((refl, (omega arith, omega arith)), ((refl, (omega arith, omega arith)), ((refl, (omega arith, omega arith)), ((refl, (omega arith, omega arith)), tt)))))))))))))))))))));
  commands_of_a = omega arith;
  commands_of_b = omega arith;
  sum = omega arith;
}

pub two_sources-rooms : HasRooms two_sources
two_sources-rooms = record { of_a = omega arith; of_b = omega arith }

pub two_sources-honest : (last_state two_sources).deceived ≡ 0
unfolding check_bytes with_byte spelled_order fields three_front
two_sources-honest = refl

pub two_sources-executed : executed_in B (lines_after (start two_sources) two_sources.events) ≡ the_command ∷ third_command ∷ second_command ∷ []
unfolding check_bytes with_byte spelled_order fields three_front
two_sources-executed = refl

pub two_sources-answered : answers_in A (lines_after (start two_sources) two_sources.events) ≡ (1, the_reply) ∷ (3, third_reply) ∷ (2, second_reply) ∷ []
unfolding check_bytes with_byte spelled_order fields three_front
two_sources-answered = refl

two_sources-checked : prompt_after none_late (start two_sources) two_sources.events ≡ true
unfolding check_bytes with_byte spelled_order fields three_front is_gentle
two_sources-checked = refl

pub two_sources-prompt : IsPrompt two_sources
two_sources-prompt = prompt-after none_late (start two_sources) two_sources.events two_sources-checked

pub two_sources-quiet : EndsQuiet two_sources
unfolding check_bytes with_byte spelled_order fields three_front
two_sources-quiet = refl
