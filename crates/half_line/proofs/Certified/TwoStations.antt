-- The run of a script in which a write after noise is answered on a line with two stations, and the other station executes and answers an echo.
use Rattle.std.proofs.Common.{◌≡◌, ◌≤◌, true, false, [], ◌∷◌, ◌++◌, refl, arith, nat_eq}
use Rattle.std.specs.Prelude.{IsTrue}
use Rattle.std.specs.List.{IsDistinct}
use Rattle.std.proofs.lemmas.List.Elements.{All-nil}
use Rattle.df1_check.specs.Checks.{with_byte}
use Rattle.df1_frame.specs.Spelling.{check_bytes}
use Rattle.logical_address.specs.Reading.{three_front}
use Rattle.slc_commands.specs.Order.{fields, spelled_order}
use Rattle.script_statement.specs.declared.who.Who.TheVariants.{M, S}
use Rattle.script_parts.specs.declared.script.EndPlan.{EndPlan}
use Rattle.script_parts.proofs.PlanSettings.{Fits-first_plan}
use Rattle.script_parts.specs.HalfPlayable.{IsStationNumber, IsStationPlan, IsHalfPossible, IsHalfPlayable, numbers_of, station_plans}
use Rattle.each_once.specs.Tells.{answers_in}
use Rattle.half_line.specs.Behind.{plain_node}
use Rattle.half_line.specs.Certified.{IsAnsweredAfter, IsMasterInStep, GoesOnCalmly}
use Rattle.half_line.specs.Example.{stray_dle, writes_beside_another, poll_of_another, echo_of_another, noise_beside_another, second_reply, echo_reply}
use Rattle.half_line.specs.Prompt.{is_fetched, EndsFetched, HasRooms}
use Rattle.half_line.specs.Rest.{is_at_rest}
use Rattle.half_line.specs.Run.{plan_of_m, start, state_after, lines_after}
use Rattle.half_line.proofs.Certified.AloneRun.{gentle-after}
use Rattle.half_line.proofs.Certified.CleanEvents.{AreClean, all-gentle, one-of-one}
use Rattle.half_line.proofs.Complete.RestWitness.{quick-settings}
use Rattle.half_line.proofs.Complete.Witness.{all, is_gentle_on, prompt_after, prompt-after}

two-distinct : IsDistinct nat_eq (3 ∷ 5 ∷ [])
unfolding IsDistinct
two-distinct = ((refl, tt), (tt, tt))

pub beside-playable : IsHalfPlayable noise_beside_another
beside-playable = record {
  mode = refl;
  ends = (
    record { end = refl; files = refl; words = All-nil _; settings = quick-settings; compat = refl; block = omega arith },
    all IsStationPlan (station_plans noise_beside_another.ends) (
      record { end = refl; files = refl; words = All-nil _; settings = Fits-first_plan (S 3) 3 (omega arith); compat = refl; block = omega arith },
      (
        record { end = refl; files = refl; words = All-nil _; settings = Fits-first_plan (S 5) 5 (omega arith); compat = refl; block = omega arith },
        tt,
      ),
    ),
    record { at_most = omega arith; distinct = two-distinct; each = all IsStationNumber (3 ∷ 5 ∷ []) ((λ is. omega (arith, is), omega arith), ((λ is. omega (arith, is), omega arith), tt)) },
  );
  events = all (IsHalfPossible (numbers_of noise_beside_another.ends)) noise_beside_another.events ((refl, (omega arith, omega arith)), ((refl, refl, refl), ((refl, (omega arith, omega arith)), ((refl, (omega arith, omega arith)), ((refl, (omega arith, omega arith)), ((refl, (omega arith, omega arith)), ((refl, refl, refl), ((refl, (omega arith, omega arith)), ((refl, (omega arith, omega arith)), ((refl, (omega arith, omega arith)), ((refl, (omega arith, omega arith)), ((refl, (omega arith, omega arith)), ((refl, (omega arith, omega arith)), ((refl, (omega arith, omega arith)), ((refl, (omega arith, omega arith)), ((refl, (omega arith, omega arith)), ((refl, (omega arith, omega arith)), ((refl, (omega arith, omega arith)), ((refl, (omega arith, omega arith)), ((refl, (omega arith, omega arith)), ((refl, (omega arith, omega arith)), ((refl, (omega arith, omega arith)), ((refl, (omega arith, omega arith)), ((refl, (omega arith, omega arith)), ((refl, (omega arith, omega arith)), ((refl, (omega arith, omega arith)), ((refl, (omega arith, omega arith)), ((refl, refl, refl), ((refl, (omega arith, omega arith)), ((refl, (omega arith, omega arith)), ((refl, (omega arith, omega arith)), ((refl, (omega arith, omega arith)), ((refl, (omega arith, omega arith)), ((refl, (omega arith, omega arith)), ((refl, (omega arith, omega arith)), ((refl, (omega arith, omega arith)), ((refl, (omega arith, omega arith)), ((refl, (omega arith, omega arith)), ((refl, (omega arith, omega arith)), ((refl, (omega arith, omega arith)), ((refl, (omega arith, omega arith)), ((refl, (omega arith, omega arith)), ((refl, (omega arith, omega arith)), ((refl, (omega arith, omega arith)), ((refl, (omega arith, omega arith)), ((refl, (omega arith, omega arith)), ((refl, (omega arith, omega arith)), ((refl, (omega arith, omega arith)), tt))))))))))))))))))))))))))))))))))))))))))))))));
  commands = omega arith;
  sum = omega arith;
}

-- ---- the second write is answered

beside-told : answers_in M (lines_after plain_node (state_after plain_node (start noise_beside_another) stray_dle) writes_beside_another) ≡ (2, second_reply) ∷ []
unfolding check_bytes with_byte spelled_order fields three_front
beside-told = refl

beside-clean : AreClean (writes_beside_another ++ poll_of_another)
beside-clean = (refl, (refl, (refl, (refl, (refl, (refl, (refl, (refl, (refl, (refl, (refl, (refl, (refl, (refl, (refl, (refl, (refl, (refl, (refl, (refl, (refl, (refl, (refl, (refl, (refl, (refl, tt))))))))))))))))))))))))))

pub beside-answered : IsAnsweredAfter noise_beside_another stray_dle writes_beside_another poll_of_another echo_of_another 2
beside-answered = record {
  parts = refl;
  to_come = refl;
  arrives = gentle-after (writes_beside_another ++ poll_of_another) (state_after plain_node (start noise_beside_another) stray_dle) (all-gentle (writes_beside_another ++ poll_of_another) (state_after plain_node (start noise_beside_another) stray_dle) beside-clean);
  reply = second_reply;
  answered = one-of-one (answers_in M (lines_after plain_node (state_after plain_node (start noise_beside_another) stray_dle) writes_beside_another)) (2, second_reply) beside-told;
}

pub beside-unrest : is_at_rest (state_after plain_node (start noise_beside_another) stray_dle) ≡ false
unfolding check_bytes with_byte
beside-unrest = refl

-- ---- from there on all is well

pub beside-master : IsMasterInStep noise_beside_another (stray_dle ++ (writes_beside_another ++ poll_of_another))
unfolding check_bytes with_byte spelled_order fields three_front
beside-master = record { undeceived = refl; in_step = refl }

beside-prompt : prompt_after 0 (state_after plain_node (start noise_beside_another) (stray_dle ++ (writes_beside_another ++ poll_of_another))) echo_of_another ≡ true
unfolding check_bytes with_byte spelled_order fields three_front is_gentle_on
beside-prompt = refl

beside-left : IsTrue (is_fetched (state_after plain_node (start noise_beside_another) (stray_dle ++ (writes_beside_another ++ poll_of_another))))
unfolding check_bytes with_byte spelled_order fields three_front
beside-left = refl

beside-rooms : HasRooms noise_beside_another
beside-rooms = all (λ (plan : EndPlan). (plan_of_m noise_beside_another).window ≤ plan.room) (station_plans noise_beside_another.ends) (omega arith, (omega arith, tt))

beside-fetched : EndsFetched noise_beside_another
unfolding check_bytes with_byte spelled_order fields three_front
beside-fetched = refl

pub beside-goes_on : GoesOnCalmly noise_beside_another (stray_dle ++ (writes_beside_another ++ poll_of_another)) echo_of_another
unfolding check_bytes with_byte spelled_order fields three_front
beside-goes_on = record {
  still = refl;
  idle = refl;
  none_left = beside-left;
  prompt = prompt-after 0 (state_after plain_node (start noise_beside_another) (stray_dle ++ (writes_beside_another ++ poll_of_another))) echo_of_another beside-prompt;
  quiet = refl;
  fetched = beside-fetched;
  rooms = beside-rooms;
  turns = omega arith;
}

pub beside-answers : answers_in M (lines_after plain_node (start noise_beside_another) noise_beside_another.events) ≡ (2, second_reply) ∷ (3, echo_reply) ∷ []
unfolding check_bytes with_byte spelled_order fields three_front
beside-answers = refl
