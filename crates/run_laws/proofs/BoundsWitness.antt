-- The runs of a command whose outcome comes at the last drained tick that is enough, and of one that comes near.
use Rattle.std.proofs.Common.{◌≡◌, ◌∙◌, ℕ, zero, suc, ◌+◌, ◌*◌, List, [], ◌∷◌, length, refl, arith, ap, sym}
use Rattle.std.proofs.lemmas.List.Elements.{All-nil, All-cons}
use Rattle.std.specs.Prelude.{All, nat_eq}
use Rattle.std.specs.List.{IsDistinct}
use Rattle.df1_check.specs.Checks.{with_byte}
use Rattle.df1_frame.specs.Spelling.{check_bytes}
use Rattle.duplex_line.specs.Issues.{commands_of_a}
use Rattle.duplex_line.specs.Run as duplex
use Rattle.duplex_line.specs.Run.{plan_of_a}
use Rattle.duplex_line.proofs.Complete.Witness.{all-possible}
use Rattle.each_once.specs.Tells.{executed_in, outcomes_in}
use Rattle.half_line.specs.Behind.{plain_node}
use Rattle.half_line.specs.Run as polled
use Rattle.line_world.proofs.EitherMode.{duplex-record, polled-record}
use Rattle.replay_report.specs.declared.record.Record.{Record}
use Rattle.script_parts.specs.declared.script.Event.{Event}
use Rattle.script_parts.specs.Playable.{IsPlayable}
use Rattle.script_parts.specs.HalfPlayable.{IsHalfPlayable, IsHalfPossible, IsStationNumber, IsStationPlan}
use Rattle.script_parts.proofs.PlanSettings.{Fits-first_plan}
use Rattle.script_statement.specs.declared.who.Who.TheVariants.{A, B, M, S}
use Rattle.run_laws.specs.Bounds.{command_ticks, message_ticks}
use Rattle.run_laws.specs.Drained.{drained_ticks, drained_ticks_of_master}
use Rattle.run_laws.specs.SharpBounds.{two_waits, IsOneTickShort, no_poll_answered, polls, IsTwoTicksShort}

two_waits-playable : IsPlayable two_waits
two_waits-playable = record {
  mode = refl;
  ends = (
    record { end = refl; files = refl; words = All-nil _; settings = Fits-first_plan A 0 (omega arith); compat = refl; block = omega arith },
    record { end = refl; files = refl; words = All-nil _; settings = Fits-first_plan B 1 (omega arith); compat = refl; block = omega arith },
  );
  events = all-possible two_waits.events (
    (refl, refl),
    (
      (refl, refl),
      (
        (refl, (omega arith, omega arith)),
        (
          (refl, (omega arith, omega arith)),
          (
            (refl, (omega arith, omega arith)),
            (
              (refl, refl),
              (
                (refl, (omega arith, omega arith)),
                (
                  (refl, (omega arith, omega arith)),
                  (
                    (refl, (omega arith, omega arith)),
                    (
                      (refl, (omega arith, omega arith)),
                      (
                        (refl, (omega arith, omega arith)),
                        (
                          (refl, (omega arith, omega arith)),
                          (
                            (refl, (omega arith, omega arith)),
                            (
                              (refl, (omega arith, omega arith)),
                              (
                                (refl, (omega arith, omega arith)),
                                (
                                  (refl, (omega arith, omega arith)),
                                  (
                                    (refl, (omega arith, omega arith)),
                                    (
                                      (refl, (omega arith, omega arith)),
                                      (
                                        (refl, (omega arith, omega arith)),
                                        (
                                          (refl, (omega arith, omega arith)),
                                          (
                                            (refl, (omega arith, omega arith)),
                                            (
                                              (refl, (omega arith, omega arith)),
                                              (
                                                (refl, (omega arith, omega arith)),
                                                (
                                                  (refl, (omega arith, omega arith)),
                                                  (
                                                    (refl, (omega arith, omega arith)),
                                                    ((refl, (omega arith, omega arith)), ((refl, (omega arith, omega arith)), ((refl, (omega arith, omega arith)), tt))),
                                                  ),
                                                ),
                                              ),
                                            ),
                                          ),
                                        ),
                                      ),
                                    ),
                                  ),
                                ),
                              ),
                            ),
                          ),
                        ),
                      ),
                    ),
                  ),
                ),
              ),
            ),
          ),
        ),
      ),
    ),
  );
  commands_of_a = omega arith;
  commands_of_b = omega arith;
  sum = omega arith;
}

two_waits-drained : drained_ticks A two_waits ≡ 266
unfolding check_bytes with_byte
two_waits-drained = refl

two_waits-executed : executed_in A (duplex.lines_after (duplex.start two_waits) two_waits.events) ≡ (0x00 ∷ 0x01 ∷ 0x06 ∷ 0x00 ∷ 0x01 ∷ 0x00 ∷ 0x00 ∷ []) ∷ []
unfolding check_bytes with_byte
two_waits-executed = refl

two_waits-untold : outcomes_in A 2 (duplex.lines_after (duplex.start two_waits) two_waits.events) ≡ []
unfolding check_bytes with_byte
two_waits-untold = refl

-- all but one of the ticks for two commands and one reply
two_waits-count : (executed : List (List ℕ)) → executed ≡ (0x00 ∷ 0x01 ∷ 0x06 ∷ 0x00 ∷ 0x01 ∷ 0x00 ∷ 0x00 ∷ []) ∷ [] → drained_ticks A two_waits + 1 ≡ length (commands_of_a two_waits) * command_ticks (plan_of_a two_waits) + length executed * message_ticks (plan_of_a two_waits)
two_waits-count executed is = ap (λ (n : ℕ). n + 1) two_waits-drained ∙ sym (ap (λ (bodies : List (List ℕ)). length (commands_of_a two_waits) * command_ticks (plan_of_a two_waits) + length bodies * message_ticks (plan_of_a two_waits)) is)

-- at the end one drained tick is missing
pub two_waits-short : IsOneTickShort two_waits
unfolding duplex.record_of
two_waits-short =
    let is = duplex-record two_waits refl in
    record {
      playable = record { full = λ mode. two_waits-playable; half = λ mode. absurd cc };
      short = two_waits-count _ (ap (λ (r : Record). executed_in A r.lines) is ∙ two_waits-executed);
      untold = ap (λ (r : Record). outcomes_in A 2 r.lines) is ∙ two_waits-untold;
    }

-- ---- on a half-duplex line

abbrev ArePolled : List Event → Type 0
ArePolled [] = Unit {0}
ArePolled (e ∷ events) = IsHalfPossible (3 ∷ []) e × ArePolled events

all-polled : (events : List Event) → ArePolled events → All (IsHalfPossible (3 ∷ [])) events
all-polled [] possible = All-nil (IsHalfPossible (3 ∷ []))
all-polled (e ∷ events) possible = All-cons (IsHalfPossible (3 ∷ [])) e events possible.0 (all-polled events possible.1)

polls-possible : (n : ℕ) → ArePolled (polls n)
polls-possible zero = tt
polls-possible (suc n) = ((refl, (omega arith, omega arith)), ((refl, (omega arith, omega arith)), ((refl, (omega arith, omega arith)), polls-possible n)))

distinct : IsDistinct nat_eq (3 ∷ [])
unfolding IsDistinct
distinct = (tt, tt)

no_poll_answered-playable : IsHalfPlayable no_poll_answered
no_poll_answered-playable = record {
  mode = refl;
  ends = (
    record { end = refl; files = refl; words = All-nil _; settings = Fits-first_plan M 0 (omega arith); compat = refl; block = omega arith },
    All-cons IsStationPlan _ [] (record { end = refl; files = refl; words = All-nil _; settings = Fits-first_plan (S 3) 3 (omega arith); compat = refl; block = omega arith }) (All-nil IsStationPlan),
    record { at_most = omega arith; distinct = distinct; each = All-cons IsStationNumber 3 [] ((λ is. omega (arith, is)), omega arith) (All-nil IsStationNumber) },
  );
  events = all-polled no_poll_answered.events ((refl, (omega arith, omega arith)), ((refl, (omega arith, omega arith)), ((refl, refl, refl), ((refl, (omega arith, omega arith)), ((refl, (omega arith, omega arith)), ((refl, (omega arith, omega arith)), ((refl, (omega arith, omega arith)), ((refl, (omega arith, omega arith)), ((refl, (omega arith, omega arith)), ((refl, (omega arith, omega arith)), ((refl, (omega arith, omega arith)), ((refl, (omega arith, omega arith)), ((refl, (omega arith, omega arith)), polls-possible 99)))))))))))));
  commands = omega arith;
  sum = omega arith;
}

no_poll_answered-drained : drained_ticks_of_master no_poll_answered ≡ 1138
unfolding check_bytes with_byte
no_poll_answered-drained = refl

no_poll_answered-untold : outcomes_in M 1 (polled.lines_after plain_node (polled.start no_poll_answered) no_poll_answered.events) ≡ []
unfolding check_bytes with_byte
no_poll_answered-untold = refl

-- at the end two drained ticks are missing
pub no_poll_answered-short : IsTwoTicksShort no_poll_answered
unfolding polled.record_of
no_poll_answered-short = record {
  playable = record { full = λ mode. absurd cc; half = λ mode. no_poll_answered-playable };
  short = ap (λ (n : ℕ). n + 2) no_poll_answered-drained;
  untold = ap (λ (r : Record). outcomes_in M 1 r.lines) (polled-record no_poll_answered refl) ∙ no_poll_answered-untold;
}
