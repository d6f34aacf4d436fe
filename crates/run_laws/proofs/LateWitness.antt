-- The runs at whose end a command is over.
use Rattle.std.proofs.Common.{◌≡◌, ◌∙◌, inl, ℕ, zero, suc, ◌≤◌, List, [], ◌∷◌, length, take, Some, refl, sym, ap, subst, arith}
use Rattle.std.proofs.lemmas.List.Elements.{All-nil, All-cons}
use Rattle.std.specs.Prelude.{All, Contains, nat_eq, replicate, slice_get}
use Rattle.std.specs.List.{IsDistinct}
use Rattle.df1_check.specs.declared.Check.TheVariants.{Bcc}
use Rattle.df1_check.specs.Checks.{with_byte}
use Rattle.df1_frame.specs.Spelling.{check_bytes}
use Rattle.df1_node.specs.Initiator.{Standing, Undelivered}
use Rattle.duplex_line.specs.Acts.{LineEndState, Take, Lose, near_after}
use Rattle.duplex_line.specs.Run as duplex
use Rattle.duplex_line.specs.Run.{record_of as duplex_record}
use Rattle.duplex_line.proofs.Complete.Witness.{all-possible}
use Rattle.half_line.specs.Acts.{LineStationState}
use Rattle.half_line.specs.Behind.{plain_node}
use Rattle.half_line.specs.Run as polled
use Rattle.half_line.specs.Run.{first_side, record_of as polled_record}
use Rattle.each_once.specs.Tells.{outcomes_in}
use Rattle.line_world.specs.Runs.{record_of}
use Rattle.line_world.proofs.EitherMode.{duplex-record, polled-record}
use Rattle.replay_report.specs.declared.record.Line.{Line}
use Rattle.replay_report.specs.declared.record.Record.{Record}
use Rattle.report_lines.specs.SentBytes.{sent_by}
use Rattle.script_parts.specs.declared.script.Event.{Event}
use Rattle.script_parts.specs.declared.script.Event.TheVariants.{Lose as Lost, Tick as Ticks}
use Rattle.script_parts.specs.HalfPlayable.{IsHalfPlayable, IsHalfPossible, IsStationNumber, IsStationPlan}
use Rattle.script_parts.specs.Plans.{first_plan}
use Rattle.script_parts.specs.Playable.{IsPlayable}
use Rattle.script_parts.proofs.PlanSettings.{Fits-first_plan}
use Rattle.script_statement.specs.declared.who.Who.TheVariants.{A, B, M, S}
use Rattle.run_laws.specs.GivenUp.{IsCleared, lines_so_far}
use Rattle.run_laws.specs.NotHeld.{AtTicks, AtTicksIn, IsDrained}
use Rattle.run_laws.specs.Over.{IsOverAt, IsOverTo}
use Rattle.run_laws.proofs.ClearedLane.{so-far as duplex-so-far}
use Rattle.run_laws.proofs.ClearedStation.{so-far as polled-so-far}
use Rattle.run_laws.specs.Reached.{all_lost, GivesUp, all_lost_to_a_station, GivesUpAtMaster}

-- ---- on a full-duplex line

all_lost-playable : IsPlayable all_lost
all_lost-playable = record {
  mode = refl;
  ends = (
    record { end = refl; files = refl; words = All-nil _; settings = Fits-first_plan A 0 (omega arith); compat = refl; block = omega arith },
    record { end = refl; files = refl; words = All-nil _; settings = Fits-first_plan B 1 (omega arith); compat = refl; block = omega arith },
  );
  events = all-possible all_lost.events ((refl, refl), ((refl, (omega arith, omega arith)), ((refl, (omega arith, omega arith)), ((refl, (omega arith, omega arith)), ((refl, (omega arith, omega arith)), ((refl, (omega arith, omega arith)), ((refl, (omega arith, omega arith)), ((refl, (omega arith, omega arith)), ((refl, (omega arith, omega arith)), ((refl, (omega arith, omega arith)), ((refl, (omega arith, omega arith)), ((refl, (omega arith, omega arith)), ((refl, (omega arith, omega arith)), tt)))))))))))));
  commands_of_a = omega arith;
  commands_of_b = omega arith;
  sum = omega arith;
}

-- DST 1, SRC 0, CMD 06, STS 0, TNS 1, FNC 00
abbrev echo : List ℕ
echo = 0x01 ∷ 0x00 ∷ 0x06 ∷ 0x00 ∷ 0x01 ∷ 0x00 ∷ 0x00 ∷ []

all_lost-over : IsOverAt (duplex.last_state all_lost).a 1 echo
unfolding check_bytes with_byte
all_lost-over = record { standing = record { body = echo; standing = Undelivered }; is_command = refl; has_body = refl; handed_out = refl; holds_not = inl refl; none_comes = All-nil _ }

all_lost-honest : (record_of all_lost).deceived ≡ 0
unfolding duplex_record check_bytes with_byte
all_lost-honest = ap (λ (r : Record). r.deceived) (duplex-record all_lost refl)

-- the lines of a first part of it
all_lost-lines : (front : List Event) → lines_so_far all_lost front ≡ duplex.lines_after (duplex.start all_lost) front
all_lost-lines front = duplex-so-far all_lost front refl

-- up to the last loss
abbrev to_the_last : List Event
to_the_last = take 11 all_lost.events

all_lost-sent : sent_by A (duplex.lines_after (duplex.start all_lost) all_lost.events) ≡ sent_by A (duplex.lines_after (duplex.start all_lost) to_the_last)
unfolding check_bytes with_byte
all_lost-sent = refl

all_lost-few : length (sent_by A (duplex.lines_after (duplex.start all_lost) to_the_last)) ≤ 99
unfolding check_bytes with_byte
all_lost-few = omega arith

all_lost-cleared : IsCleared (record { from = A; to = B }) all_lost all_lost.events
all_lost-cleared = record {
  first = to_the_last;
  clears = Lost (record { from = A; to = B }) 99;
  rest = Ticks A 10 ∷ [];
  are = refl;
  empties = (refl, subst (λ (l : List Line). length (sent_by A l) ≤ 99) (sym (all_lost-lines to_the_last)) all_lost-few);
  none_since = ap (sent_by A) (all_lost-lines all_lost.events) ∙ all_lost-sent ∙ ap (sent_by A) (sym (all_lost-lines to_the_last));
}

all_lost-outcome : outcomes_in A 1 (duplex.lines_after (duplex.start all_lost) all_lost.events) ≡ Undelivered ∷ []
unfolding check_bytes with_byte
all_lost-outcome = refl

all_lost-told : Contains (outcomes_in A 1 (lines_so_far all_lost all_lost.events)) Undelivered
all_lost-told = subst (λ (l : List Standing). Contains l Undelivered) (sym (ap (outcomes_in A 1) (all_lost-lines all_lost.events) ∙ all_lost-outcome)) (0, omega arith, refl)

-- no take is a tick, and no loss
takes : (n : ℕ) (side : LineEndState) → AtTicks IsDrained side (replicate n Take)
takes zero side = tt
takes (suc n) side = (tt, takes n (near_after side Take))

losses : (n : ℕ) (side : LineEndState) → AtTicks IsDrained side (replicate n Lose)
losses zero side = tt
losses (suc n) side = (tt, losses n (near_after side Lose))

-- at which end it is doesn't matter
abbrev first : LineEndState
first = (duplex.start all_lost).a

all_lost-drained : AtTicksIn IsDrained A (duplex.start all_lost) all_lost.events
unfolding check_bytes with_byte
all_lost-drained = (λ is. (tt, tt), (λ is. takes 14 first, (λ is. losses 14 first, (λ is. (refl, (refl, (refl, (refl, (refl, (refl, (refl, (refl, (refl, (refl, tt)))))))))), (λ is. takes 2 first, (λ is. losses 99 first, (λ is. (refl, (refl, (refl, (refl, (refl, (refl, (refl, (refl, (refl, (refl, tt)))))))))), (λ is. takes 2 first, (λ is. losses 99 first, (λ is. (refl, (refl, (refl, (refl, (refl, (refl, (refl, (refl, (refl, (refl, tt)))))))))), (λ is. takes 2 first, (λ is. losses 99 first, (λ is. (refl, (refl, (refl, (refl, (refl, (refl, (refl, (refl, (refl, (refl, tt)))))))))), tt)))))))))))))

pub all_lost-gives-up : GivesUp all_lost
unfolding all_lost-over
all_lost-gives-up = record { playable = all_lost-playable; honest = all_lost-honest; patient = omega arith; drained = all_lost-drained; body = echo; over = all_lost-over; undelivered = refl; cleared = all_lost-cleared; told = all_lost-told }

-- ---- on a half-duplex line

distinct : IsDistinct nat_eq (3 ∷ [])
unfolding IsDistinct
distinct = (tt, tt)

abbrev ArePolled : List Event → Type 0
ArePolled [] = Unit {0}
ArePolled (e ∷ events) = IsHalfPossible (3 ∷ []) e × ArePolled events

all-polled : (events : List Event) → ArePolled events → All (IsHalfPossible (3 ∷ [])) events
all-polled [] possible = All-nil (IsHalfPossible (3 ∷ []))
all-polled (e ∷ events) possible = All-cons (IsHalfPossible (3 ∷ [])) e events possible.0 (all-polled events possible.1)

all_lost_to_a_station-playable : IsHalfPlayable all_lost_to_a_station
all_lost_to_a_station-playable = record {
  mode = refl;
  ends = (
    record { end = refl; files = refl; words = All-nil _; settings = Fits-first_plan M 0 (omega arith); compat = refl; block = omega arith },
    All-cons IsStationPlan _ [] (record { end = refl; files = refl; words = All-nil _; settings = Fits-first_plan (S 3) 3 (omega arith); compat = refl; block = omega arith }) (All-nil IsStationPlan),
    record { at_most = omega arith; distinct = distinct; each = All-cons IsStationNumber 3 [] ((λ is. omega (arith, is)), omega arith) (All-nil IsStationNumber) },
  );
  events = all-polled all_lost_to_a_station.events ((refl, refl, refl), ((refl, (omega arith, omega arith)), ((refl, (omega arith, omega arith)), ((refl, (omega arith, omega arith)), ((refl, (omega arith, omega arith)), ((refl, (omega arith, omega arith)), ((refl, (omega arith, omega arith)), ((refl, (omega arith, omega arith)), ((refl, (omega arith, omega arith)), ((refl, (omega arith, omega arith)), ((refl, (omega arith, omega arith)), ((refl, (omega arith, omega arith)), ((refl, (omega arith, omega arith)), tt)))))))))))));
  commands = omega arith;
  sum = omega arith;
}

-- the station, which heard nothing
abbrev unheard_station : LineStationState
unheard_station = first_side Bcc (first_plan (S 3) 3)

-- DST 3, SRC 0, CMD 06, STS 0, TNS 1, FNC 00
abbrev echo_there : List ℕ
echo_there = 0x03 ∷ 0x00 ∷ 0x06 ∷ 0x00 ∷ 0x01 ∷ 0x00 ∷ 0x00 ∷ []

all_lost_to_a_station-at : slice_get (polled.last_state all_lost_to_a_station).stations 0 ≡ Some unheard_station
unfolding check_bytes with_byte
all_lost_to_a_station-at = refl

all_lost_to_a_station-over : IsOverTo (polled.last_state all_lost_to_a_station).master unheard_station 1 echo_there
unfolding check_bytes with_byte
all_lost_to_a_station-over = record { standing = record { body = echo_there; standing = Undelivered }; is_command = refl; has_body = refl; handed_out = refl; holds_not = inl (refl, inl refl); none_comes = All-nil _ }

all_lost_to_a_station-honest : (record_of all_lost_to_a_station).deceived ≡ 0
unfolding polled_record check_bytes with_byte
all_lost_to_a_station-honest = ap (λ (r : Record). r.deceived) (polled-record all_lost_to_a_station refl)

-- the lines of a first part of it
there-lines : (front : List Event) → lines_so_far all_lost_to_a_station front ≡ polled.lines_after plain_node (polled.start all_lost_to_a_station) front
there-lines front = polled-so-far all_lost_to_a_station front refl

-- up to the last loss
abbrev to_the_last_there : List Event
to_the_last_there = take 11 all_lost_to_a_station.events

there-sent : sent_by M (polled.lines_after plain_node (polled.start all_lost_to_a_station) all_lost_to_a_station.events) ≡ sent_by M (polled.lines_after plain_node (polled.start all_lost_to_a_station) to_the_last_there)
unfolding check_bytes with_byte
there-sent = refl

there-few : length (sent_by M (polled.lines_after plain_node (polled.start all_lost_to_a_station) to_the_last_there)) ≤ 99
unfolding check_bytes with_byte
there-few = omega arith

there-cleared : IsCleared (record { from = M; to = S 3 }) all_lost_to_a_station all_lost_to_a_station.events
there-cleared = record {
  first = to_the_last_there;
  clears = Lost (record { from = M; to = S 3 }) 99;
  rest = Ticks M 10 ∷ [];
  are = refl;
  empties = (refl, subst (λ (l : List Line). length (sent_by M l) ≤ 99) (sym (there-lines to_the_last_there)) there-few);
  none_since = ap (sent_by M) (there-lines all_lost_to_a_station.events) ∙ there-sent ∙ ap (sent_by M) (sym (there-lines to_the_last_there));
}

there-outcome : outcomes_in M 1 (polled.lines_after plain_node (polled.start all_lost_to_a_station) all_lost_to_a_station.events) ≡ Undelivered ∷ []
unfolding check_bytes with_byte
there-outcome = refl

there-told : Contains (outcomes_in M 1 (lines_so_far all_lost_to_a_station all_lost_to_a_station.events)) Undelivered
there-told = subst (λ (l : List Standing). Contains l Undelivered) (sym (ap (outcomes_in M 1) (there-lines all_lost_to_a_station.events) ∙ there-outcome)) (0, omega arith, refl)

pub all_lost_to_a_station-gives-up : GivesUpAtMaster all_lost_to_a_station
unfolding all_lost_to_a_station-over
all_lost_to_a_station-gives-up = record { playable = all_lost_to_a_station-playable; honest = all_lost_to_a_station-honest; side = unheard_station; is_at = all_lost_to_a_station-at; body = echo_there; over = all_lost_to_a_station-over; undelivered = refl; cleared = there-cleared; told = there-told }
