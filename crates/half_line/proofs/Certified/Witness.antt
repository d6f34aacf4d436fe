-- The runs of a script in which a write after noise is answered, and of one in which an answer leaves the master inside a pair.
use Rattle.std.proofs.Common.{◌≡◌, ◌≤◌, true, false, [], ◌∷◌, ◌++◌, refl, arith, nat_eq}
use Rattle.std.specs.Prelude.{IsTrue}
use Rattle.std.specs.List.{IsDistinct}
use Rattle.std.proofs.lemmas.List.Elements.{All-nil}
use Rattle.df1_check.specs.Checks.{with_byte}
use Rattle.df1_frame.specs.Spelling.{check_bytes}
use Rattle.df1_node.specs.Initiator.{Undelivered}
use Rattle.half_master.specs.Master as master
use Rattle.logical_address.specs.Reading.{three_front}
use Rattle.slc_commands.specs.Order.{fields, spelled_order}
use Rattle.end_settings.specs.declared.key.EndKey.{EndKey}
use Rattle.end_settings.specs.declared.key.EndKey.TheVariants.{AckTicks, MaxResends, PollTicks, Tns, Window}
use Rattle.end_settings.specs.Rows.{Fits}
use Rattle.end_settings.specs.Table.{row_of}
use Rattle.script_statement.specs.declared.who.Who.TheVariants.{M, S}
use Rattle.script_parts.specs.Plans.{first_plan, setting_in}
use Rattle.script_parts.specs.declared.script.EndPlan.{EndPlan}
use Rattle.script_parts.proofs.PlanSettings.{Fits-first_plan}
use Rattle.script_parts.specs.HalfPlayable.{IsStationNumber, IsStationPlan, IsHalfPossible, IsHalfPlayable, numbers_of, station_plans}
use Rattle.each_once.specs.Tells.{answers_in, outcomes_in}
use Rattle.half_line.specs.Behind.{plain_node}
use Rattle.half_line.specs.Certified.{IsAnsweredAfter, IsAnsweredAlone, IsMasterInStep, GoesOnCalmly}
use Rattle.half_line.specs.Example.{stray_dle, two_writes, third_write, after_a_stray_dle, second_reply, third_reply, cut_off_poll, mixed_replies, missed_ack, left_inside}
use Rattle.half_line.specs.Prompt.{is_quiet, is_fetched, IsPromptAfter, EndsQuiet, EndsFetched, HasRooms}
use Rattle.half_line.specs.Rest.{is_between_answers, is_at_rest, is_to_come}
use Rattle.half_line.specs.Run.{plan_of_m, start, state_after, lines_after, last_state}
use Rattle.half_line.proofs.Certified.AloneRun.{gentle-after}
use Rattle.half_line.proofs.Certified.CleanEvents.{AreClean, all-gentle, one-of-one}
use Rattle.half_line.proofs.Complete.RestWitness.{quick-settings, one-distinct}
use Rattle.half_line.proofs.Complete.Witness.{all, is_gentle_on, prompt_after, prompt-after}

-- ---- a write after noise

pub noise-playable : IsHalfPlayable after_a_stray_dle
noise-playable = record {
  mode = refl;
  ends = (
    record { end = refl; files = refl; words = All-nil _; settings = quick-settings; compat = refl; block = omega arith },
    all IsStationPlan (station_plans after_a_stray_dle.ends) (record { end = refl; files = refl; words = All-nil _; settings = Fits-first_plan (S 3) 3 (omega arith); compat = refl; block = omega arith }, tt),
    record { at_most = omega arith; distinct = one-distinct; each = all IsStationNumber (3 ∷ []) ((λ is. omega (arith, is), omega arith), tt) },
  );
  events = all (IsHalfPossible (numbers_of after_a_stray_dle.ends)) after_a_stray_dle.events ((refl, (omega arith, omega arith)), ((refl, refl, refl), ((refl, (omega arith, omega arith)), ((refl, (omega arith, omega arith)), ((refl, (omega arith, omega arith)), ((refl, refl, refl), ((refl, (omega arith, omega arith)), ((refl, (omega arith, omega arith)), ((refl, (omega arith, omega arith)), ((refl, (omega arith, omega arith)), ((refl, (omega arith, omega arith)), ((refl, (omega arith, omega arith)), ((refl, (omega arith, omega arith)), ((refl, (omega arith, omega arith)), ((refl, (omega arith, omega arith)), ((refl, (omega arith, omega arith)), ((refl, (omega arith, omega arith)), ((refl, refl, refl), ((refl, (omega arith, omega arith)), ((refl, (omega arith, omega arith)), ((refl, (omega arith, omega arith)), ((refl, (omega arith, omega arith)), ((refl, (omega arith, omega arith)), ((refl, (omega arith, omega arith)), ((refl, (omega arith, omega arith)), ((refl, (omega arith, omega arith)), ((refl, (omega arith, omega arith)), ((refl, (omega arith, omega arith)), ((refl, (omega arith, omega arith)), tt)))))))))))))))))))))))))))));
  commands = omega arith;
  sum = omega arith;
}

noise-told : answers_in M (lines_after plain_node (state_after plain_node (start after_a_stray_dle) stray_dle) two_writes) ≡ (2, second_reply) ∷ []
unfolding check_bytes with_byte spelled_order fields three_front
noise-told = refl

noise-clean : AreClean (two_writes ++ [])
noise-clean = (refl, (refl, (refl, (refl, (refl, (refl, (refl, (refl, (refl, (refl, (refl, (refl, (refl, (refl, (refl, (refl, tt))))))))))))))))

pub noise-answered : IsAnsweredAfter after_a_stray_dle stray_dle two_writes [] third_write 2
noise-answered = record {
  parts = refl;
  to_come = refl;
  arrives = gentle-after (two_writes ++ []) (state_after plain_node (start after_a_stray_dle) stray_dle) (all-gentle (two_writes ++ []) (state_after plain_node (start after_a_stray_dle) stray_dle) noise-clean);
  reply = second_reply;
  answered = one-of-one (answers_in M (lines_after plain_node (state_after plain_node (start after_a_stray_dle) stray_dle) two_writes)) (2, second_reply) noise-told;
}

noise-honest : (state_after plain_node (start after_a_stray_dle) (stray_dle ++ (two_writes ++ []))).deceived ≡ 0
unfolding check_bytes with_byte spelled_order fields three_front
noise-honest = refl

noise-quiet : IsTrue (is_quiet (state_after plain_node (start after_a_stray_dle) stray_dle))
unfolding check_bytes with_byte
noise-quiet = refl

pub noise-alone : IsAnsweredAlone after_a_stray_dle stray_dle two_writes [] third_write 2
noise-alone = record {
  parts = refl;
  alone = refl;
  quiet = noise-quiet;
  to_come = refl;
  gentle = all-gentle (two_writes ++ []) (state_after plain_node (start after_a_stray_dle) stray_dle) noise-clean;
  reply = second_reply;
  answered = one-of-one (answers_in M (lines_after plain_node (state_after plain_node (start after_a_stray_dle) stray_dle) two_writes)) (2, second_reply) noise-told;
  undeceived = noise-honest;
}

pub noise-unrest : is_at_rest (state_after plain_node (start after_a_stray_dle) stray_dle) ≡ false
unfolding check_bytes with_byte
noise-unrest = refl

pub noise-lost : outcomes_in M 1 (lines_after plain_node (start after_a_stray_dle) after_a_stray_dle.events) ≡ Undelivered ∷ []
unfolding check_bytes with_byte spelled_order fields three_front
noise-lost = refl

-- ---- from its answer on all is well

noise-prompt : prompt_after 0 (state_after plain_node (start after_a_stray_dle) (stray_dle ++ (two_writes ++ []))) third_write ≡ true
unfolding check_bytes with_byte spelled_order fields three_front is_gentle_on
noise-prompt = refl

noise-left : IsTrue (is_fetched (state_after plain_node (start after_a_stray_dle) (stray_dle ++ (two_writes ++ []))))
unfolding check_bytes with_byte spelled_order fields three_front
noise-left = refl

noise-rooms : HasRooms after_a_stray_dle
noise-rooms = all (λ (plan : EndPlan). (plan_of_m after_a_stray_dle).window ≤ plan.room) (station_plans after_a_stray_dle.ends) (omega arith, tt)

noise-fetched : EndsFetched after_a_stray_dle
unfolding check_bytes with_byte spelled_order fields three_front
noise-fetched = refl

pub noise-master : IsMasterInStep after_a_stray_dle (stray_dle ++ (two_writes ++ []))
unfolding check_bytes with_byte spelled_order fields three_front
noise-master = record { undeceived = refl; in_step = refl }

pub noise-goes_on : GoesOnCalmly after_a_stray_dle (stray_dle ++ (two_writes ++ [])) third_write
unfolding check_bytes with_byte spelled_order fields three_front
noise-goes_on = record {
  still = refl;
  idle = refl;
  none_left = noise-left;
  prompt = prompt-after 0 (state_after plain_node (start after_a_stray_dle) (stray_dle ++ (two_writes ++ []))) third_write noise-prompt;
  quiet = refl;
  fetched = noise-fetched;
  rooms = noise-rooms;
  turns = omega arith;
}

pub noise-answers : answers_in M (lines_after plain_node (start after_a_stray_dle) after_a_stray_dle.events) ≡ (2, second_reply) ∷ (3, third_reply) ∷ []
unfolding check_bytes with_byte spelled_order fields three_front
noise-answers = refl

-- ---- an answer that leaves the master inside a pair

own-settings : (key : EndKey) → Fits (row_of key).values (setting_in (record (first_plan M 0) { tns = 186; window = 2; ack_ticks = 2; poll_ticks = 2; max_resends = 0 }) key)
own-settings AckTicks = (omega arith, omega arith)
own-settings MaxResends = (omega arith, omega arith)
own-settings PollTicks = (omega arith, omega arith)
own-settings Tns = (omega arith, omega arith)
own-settings Window = (omega arith, omega arith)
own-settings other = Fits-first_plan M 0 (omega arith) other

two-distinct : IsDistinct nat_eq (240 ∷ 3 ∷ [])
unfolding IsDistinct
two-distinct = ((refl, tt), (tt, tt))

pub left-playable : IsHalfPlayable left_inside
left-playable = record {
  mode = refl;
  ends = (
    record { end = refl; files = refl; words = All-nil _; settings = own-settings; compat = refl; block = omega arith },
    all IsStationPlan (station_plans left_inside.ends) (
      record { end = refl; files = refl; words = All-nil _; settings = Fits-first_plan (S 240) 240 (omega arith); compat = refl; block = omega arith },
      (
        record { end = refl; files = refl; words = All-nil _; settings = Fits-first_plan (S 3) 3 (omega arith); compat = refl; block = omega arith },
        tt,
      ),
    ),
    record { at_most = omega arith; distinct = two-distinct; each = all IsStationNumber (240 ∷ 3 ∷ []) ((λ is. omega (arith, is), omega arith), ((λ is. omega (arith, is), omega arith), tt)) },
  );
  events = all (IsHalfPossible (numbers_of left_inside.ends)) left_inside.events ((refl, refl, refl), ((refl, (omega arith, omega arith)), ((refl, (omega arith, omega arith)), ((refl, (omega arith, omega arith)), ((refl, (omega arith, omega arith)), ((refl, (omega arith, omega arith)), ((refl, (omega arith, omega arith)), ((refl, (omega arith, omega arith)), ((refl, (omega arith, omega arith)), ((refl, (omega arith, omega arith)), ((refl, (omega arith, omega arith)), ((refl, (omega arith, omega arith)), ((refl, refl, refl), ((refl, (omega arith, omega arith)), ((refl, (omega arith, omega arith)), ((refl, (omega arith, omega arith)), ((refl, (omega arith, omega arith)), ((refl, (omega arith, omega arith)), ((refl, (omega arith, omega arith)), ((refl, (omega arith, omega arith)), ((refl, (omega arith, omega arith)), ((refl, (omega arith, omega arith)), ((refl, (omega arith, omega arith)), ((refl, (omega arith, omega arith)), ((refl, (omega arith, omega arith)), ((refl, (omega arith, omega arith)), ((refl, (omega arith, omega arith)), ((refl, (omega arith, omega arith)), ((refl, (omega arith, omega arith)), ((refl, (omega arith, omega arith)), ((refl, (omega arith, omega arith)), ((refl, (omega arith, omega arith)), ((refl, (omega arith, omega arith)), ((refl, refl, refl), ((refl, (omega arith, omega arith)), ((refl, (omega arith, omega arith)), ((refl, (omega arith, omega arith)), ((refl, (omega arith, omega arith)), ((refl, (omega arith, omega arith)), ((refl, (omega arith, omega arith)), ((refl, (omega arith, omega arith)), ((refl, (omega arith, omega arith)), ((refl, (omega arith, omega arith)), ((refl, (omega arith, omega arith)), ((refl, (omega arith, omega arith)), ((refl, (omega arith, omega arith)), ((refl, (omega arith, omega arith)), ((refl, (omega arith, omega arith)), ((refl, (omega arith, omega arith)), ((refl, (omega arith, omega arith)), ((refl, (omega arith, omega arith)), ((refl, (omega arith, omega arith)), ((refl, (omega arith, omega arith)), ((refl, (omega arith, omega arith)), ((refl, (omega arith, omega arith)), tt)))))))))))))))))))))))))))))))))))))))))))))))))))))));
  commands = omega arith;
  sum = omega arith;
}

left-told : answers_in M (lines_after plain_node (state_after plain_node (start left_inside) cut_off_poll) mixed_replies) ≡ (2, 0x00 ∷ 0x03 ∷ 0x46 ∷ 0x00 ∷ 0xBB ∷ 0x00 ∷ []) ∷ []
unfolding check_bytes with_byte
left-told = refl

left-come : IsTrue (is_to_come (state_after plain_node (start left_inside) cut_off_poll).master 2)
unfolding check_bytes with_byte
left-come = refl

left-clean : AreClean (mixed_replies ++ [])
left-clean = (refl, (refl, (refl, (refl, (refl, (refl, (refl, (refl, (refl, (refl, (refl, (refl, (refl, (refl, (refl, (refl, (refl, (refl, (refl, (refl, (refl, tt)))))))))))))))))))))

pub left-answered : IsAnsweredAfter left_inside cut_off_poll mixed_replies [] missed_ack 2
left-answered = record {
  parts = refl;
  to_come = left-come;
  arrives = gentle-after (mixed_replies ++ []) (state_after plain_node (start left_inside) cut_off_poll) (all-gentle (mixed_replies ++ []) (state_after plain_node (start left_inside) cut_off_poll) left-clean);
  reply = 0x00 ∷ 0x03 ∷ 0x46 ∷ 0x00 ∷ 0xBB ∷ 0x00 ∷ [];
  answered = one-of-one (answers_in M (lines_after plain_node (state_after plain_node (start left_inside) cut_off_poll) mixed_replies)) (2, 0x00 ∷ 0x03 ∷ 0x46 ∷ 0x00 ∷ 0xBB ∷ 0x00 ∷ []) left-told;
}

pub left-quiet-before : IsTrue (is_quiet (state_after plain_node (start left_inside) cut_off_poll))
unfolding check_bytes with_byte
left-quiet-before = refl

left-checked : prompt_after 0 (state_after plain_node (start left_inside) cut_off_poll) ((mixed_replies ++ []) ++ missed_ack) ≡ true
unfolding check_bytes with_byte is_gentle_on
left-checked = refl

pub left-prompt : IsPromptAfter 0 (state_after plain_node (start left_inside) cut_off_poll) ((mixed_replies ++ []) ++ missed_ack)
left-prompt = prompt-after 0 (state_after plain_node (start left_inside) cut_off_poll) ((mixed_replies ++ []) ++ missed_ack) left-checked

pub left-honest : (last_state left_inside).deceived ≡ 0
unfolding check_bytes with_byte
left-honest = refl

left-quiet : IsTrue (is_quiet (state_after plain_node (start left_inside) (cut_off_poll ++ (mixed_replies ++ []))))
unfolding check_bytes with_byte
left-quiet = refl

left-idle : IsTrue (master.is_idle (state_after plain_node (start left_inside) (cut_off_poll ++ (mixed_replies ++ []))).master.phase)
unfolding check_bytes with_byte
left-idle = refl

left-none : IsTrue (is_fetched (state_after plain_node (start left_inside) (cut_off_poll ++ (mixed_replies ++ []))))
unfolding check_bytes with_byte
left-none = refl

left-calm : prompt_after 0 (state_after plain_node (start left_inside) (cut_off_poll ++ (mixed_replies ++ []))) missed_ack ≡ true
unfolding check_bytes with_byte is_gentle_on
left-calm = refl

left-ends : EndsQuiet left_inside
unfolding check_bytes with_byte
left-ends = refl

left-fetched : EndsFetched left_inside
unfolding check_bytes with_byte
left-fetched = refl

left-rooms : HasRooms left_inside
left-rooms = all (λ (plan : EndPlan). (plan_of_m left_inside).window ≤ plan.room) (station_plans left_inside.ends) (omega arith, (omega arith, tt))

pub left-goes_on : GoesOnCalmly left_inside (cut_off_poll ++ (mixed_replies ++ [])) missed_ack
left-goes_on = record {
  still = left-quiet;
  idle = left-idle;
  none_left = left-none;
  prompt = prompt-after 0 (state_after plain_node (start left_inside) (cut_off_poll ++ (mixed_replies ++ []))) missed_ack left-calm;
  quiet = left-ends;
  fetched = left-fetched;
  rooms = left-rooms;
  turns = omega arith;
}

pub left-between : is_between_answers (state_after plain_node (start left_inside) (cut_off_poll ++ (mixed_replies ++ []))).master.ear.standing ≡ false
unfolding check_bytes with_byte
left-between = refl

pub left-missed : outcomes_in M 3 (lines_after plain_node (start left_inside) left_inside.events) ≡ Undelivered ∷ []
unfolding check_bytes with_byte
left-missed = refl
