-- The runs of a write that loses a byte and is given up, and of one whose reply is lost; and of another write from the state at rest on that follows.
use Rattle.std.proofs.Common.{◌≡◌, ◌≤◌, [], ◌∷◌, refl, arith, true, nat_eq}
use Rattle.std.specs.List.{IsDistinct}
use Rattle.std.proofs.lemmas.List.Elements.{All-nil}
use Rattle.df1_check.specs.Checks.{with_byte}
use Rattle.df1_frame.specs.Spelling.{check_bytes}
use Rattle.df1_node.specs.Initiator.{Undelivered}
use Rattle.logical_address.specs.Reading.{three_front}
use Rattle.slc_commands.specs.Order.{fields, spelled_order}
use Rattle.end_settings.specs.declared.key.EndKey.{EndKey}
use Rattle.end_settings.specs.declared.key.EndKey.TheVariants.{AckTicks, MaxResends, MaxSends, PollTicks, Window}
use Rattle.end_settings.specs.Rows.{Fits}
use Rattle.end_settings.specs.Table.{row_of}
use Rattle.script_statement.specs.declared.who.Who.TheVariants.{M, S}
use Rattle.script_parts.specs.Plans.{first_plan, setting_in}
use Rattle.script_parts.specs.declared.script.EndPlan.{EndPlan}
use Rattle.script_parts.proofs.PlanSettings.{Fits-first_plan}
use Rattle.script_parts.specs.HalfPlayable.{IsStationNumber, IsStationPlan, IsHalfPossible, IsHalfPlayable, numbers_of, station_plans}
use Rattle.each_once.specs.Tells.{executed_in, answers_in, outcomes_in}
use Rattle.half_line.specs.Behind.{plain_node}
use Rattle.half_line.specs.Example.{lost_write, lost_reply, second_write, after_a_lost_write, after_a_lost_reply, the_command, second_command, second_reply}
use Rattle.half_line.specs.Prompt.{EndsFetched, HasRooms}
use Rattle.half_line.specs.Rest.{IsCalmAfter}
use Rattle.half_line.specs.Run.{plan_of_m, start, state_after, lines_after}
use Rattle.half_line.proofs.Complete.Witness.{all, is_gentle_on, prompt_after, prompt-after}

-- ---- a write that loses a byte can be played

pub quick-settings : (key : EndKey) → Fits (row_of key).values (setting_in (record (first_plan M 0) { ack_ticks = 1; max_resends = 0 }) key)
quick-settings AckTicks = (omega arith, omega arith)
quick-settings MaxResends = (omega arith, omega arith)
quick-settings other = Fits-first_plan M 0 (omega arith) other

pub one-distinct : IsDistinct nat_eq (3 ∷ [])
unfolding IsDistinct
one-distinct = (tt, tt)

pub rested-playable : IsHalfPlayable after_a_lost_write
rested-playable = record {
  mode = refl;
  ends = (
    record { end = refl; files = refl; words = All-nil _; settings = quick-settings; compat = refl; block = omega arith },
    all IsStationPlan (station_plans after_a_lost_write.ends) (record { end = refl; files = refl; words = All-nil _; settings = Fits-first_plan (S 3) 3 (omega arith); compat = refl; block = omega arith }, tt),
    record { at_most = omega arith; distinct = one-distinct; each = all IsStationNumber (3 ∷ []) ((λ is. omega (arith, is), omega arith), tt) },
  );
  events = all (IsHalfPossible (numbers_of after_a_lost_write.ends)) after_a_lost_write.events ((refl, refl, refl), ((refl, (omega arith, omega arith)), ((refl, (omega arith, omega arith)), ((refl, (omega arith, omega arith)), ((refl, (omega arith, omega arith)), ((refl, (omega arith, omega arith)), ((refl, refl, refl), ((refl, (omega arith, omega arith)), ((refl, (omega arith, omega arith)), ((refl, (omega arith, omega arith)), ((refl, (omega arith, omega arith)), ((refl, (omega arith, omega arith)), ((refl, (omega arith, omega arith)), ((refl, (omega arith, omega arith)), ((refl, (omega arith, omega arith)), ((refl, (omega arith, omega arith)), ((refl, (omega arith, omega arith)), ((refl, (omega arith, omega arith)), tt))))))))))))))))));
  commands = omega arith;
  sum = omega arith;
}

-- ---- nothing disturbs it from the state at rest on

rested-prompt : prompt_after 0 (state_after plain_node (start after_a_lost_write) lost_write) second_write ≡ true
unfolding check_bytes with_byte spelled_order fields three_front is_gentle_on
rested-prompt = refl

rested-rooms : HasRooms after_a_lost_write
rested-rooms = all (λ (plan : EndPlan). (plan_of_m after_a_lost_write).window ≤ plan.room) (station_plans after_a_lost_write.ends) (omega arith, tt)

rested-fetched : EndsFetched after_a_lost_write
unfolding check_bytes with_byte spelled_order fields three_front
rested-fetched = refl

pub rested-calm : IsCalmAfter after_a_lost_write lost_write second_write
unfolding check_bytes with_byte spelled_order fields three_front
rested-calm = record {
  events = refl;
  undeceived = refl;
  at_rest = refl;
  prompt = prompt-after 0 (state_after plain_node (start after_a_lost_write) lost_write) second_write rested-prompt;
  quiet = refl;
  fetched = rested-fetched;
  rooms = rested-rooms;
  turns = omega arith;
}

-- ---- what the record tells

pub rested-gives_up : outcomes_in M 1 (lines_after plain_node (start after_a_lost_write) after_a_lost_write.events) ≡ Undelivered ∷ []
unfolding check_bytes with_byte spelled_order fields three_front
rested-gives_up = refl

pub rested-executed : executed_in (S 3) (lines_after plain_node (start after_a_lost_write) after_a_lost_write.events) ≡ second_command ∷ []
unfolding check_bytes with_byte spelled_order fields three_front
rested-executed = refl

pub rested-answered : answers_in M (lines_after plain_node (start after_a_lost_write) after_a_lost_write.events) ≡ (2, second_reply) ∷ []
unfolding check_bytes with_byte spelled_order fields three_front
rested-answered = refl

-- ---- a write whose reply is lost can be played

wide-settings : (key : EndKey) → Fits (row_of key).values (setting_in (record (first_plan M 0) { poll_ticks = 1; window = 2 }) key)
wide-settings PollTicks = (omega arith, omega arith)
wide-settings Window = (omega arith, omega arith)
wide-settings other = Fits-first_plan M 0 (omega arith) other

once-settings : (key : EndKey) → Fits (row_of key).values (setting_in (record (first_plan (S 3) 3) { max_sends = 1 }) key)
once-settings MaxSends = (omega arith, omega arith)
once-settings other = Fits-first_plan (S 3) 3 (omega arith) other

pub left-playable : IsHalfPlayable after_a_lost_reply
left-playable = record {
  mode = refl;
  ends = (
    record { end = refl; files = refl; words = All-nil _; settings = wide-settings; compat = refl; block = omega arith },
    all IsStationPlan (station_plans after_a_lost_reply.ends) (record { end = refl; files = refl; words = All-nil _; settings = once-settings; compat = refl; block = omega arith }, tt),
    record { at_most = omega arith; distinct = one-distinct; each = all IsStationNumber (3 ∷ []) ((λ is. omega (arith, is), omega arith), tt) },
  );
  events = all (IsHalfPossible (numbers_of after_a_lost_reply.ends)) after_a_lost_reply.events ((refl, refl, refl), ((refl, (omega arith, omega arith)), ((refl, (omega arith, omega arith)), ((refl, (omega arith, omega arith)), ((refl, (omega arith, omega arith)), ((refl, (omega arith, omega arith)), ((refl, (omega arith, omega arith)), ((refl, (omega arith, omega arith)), ((refl, (omega arith, omega arith)), ((refl, (omega arith, omega arith)), ((refl, (omega arith, omega arith)), ((refl, (omega arith, omega arith)), ((refl, (omega arith, omega arith)), ((refl, (omega arith, omega arith)), ((refl, (omega arith, omega arith)), ((refl, (omega arith, omega arith)), ((refl, refl, refl), ((refl, (omega arith, omega arith)), ((refl, (omega arith, omega arith)), ((refl, (omega arith, omega arith)), ((refl, (omega arith, omega arith)), ((refl, (omega arith, omega arith)), ((refl, (omega arith, omega arith)), ((refl, (omega arith, omega arith)), ((refl, (omega arith, omega arith)), ((refl, (omega arith, omega arith)), ((refl, (omega arith, omega arith)), ((refl, (omega arith, omega arith)), tt))))))))))))))))))))))))))));
  commands = omega arith;
  sum = omega arith;
}

-- ---- nothing disturbs it from the state at rest on

left-prompt : prompt_after 0 (state_after plain_node (start after_a_lost_reply) lost_reply) second_write ≡ true
unfolding check_bytes with_byte spelled_order fields three_front is_gentle_on
left-prompt = refl

left-rooms : HasRooms after_a_lost_reply
left-rooms = all (λ (plan : EndPlan). (plan_of_m after_a_lost_reply).window ≤ plan.room) (station_plans after_a_lost_reply.ends) (omega arith, tt)

left-fetched : EndsFetched after_a_lost_reply
unfolding check_bytes with_byte spelled_order fields three_front
left-fetched = refl

pub left-calm : IsCalmAfter after_a_lost_reply lost_reply second_write
unfolding check_bytes with_byte spelled_order fields three_front
left-calm = record {
  events = refl;
  undeceived = refl;
  at_rest = refl;
  prompt = prompt-after 0 (state_after plain_node (start after_a_lost_reply) lost_reply) second_write left-prompt;
  quiet = refl;
  fetched = left-fetched;
  rooms = left-rooms;
  turns = omega arith;
}

-- ---- what the record tells

pub left-out : outcomes_in M 1 (lines_after plain_node (start after_a_lost_reply) after_a_lost_reply.events) ≡ []
unfolding check_bytes with_byte spelled_order fields three_front
left-out = refl

pub left-executed : executed_in (S 3) (lines_after plain_node (start after_a_lost_reply) after_a_lost_reply.events) ≡ the_command ∷ second_command ∷ []
unfolding check_bytes with_byte spelled_order fields three_front
left-executed = refl

pub left-answered : answers_in M (lines_after plain_node (start after_a_lost_reply) after_a_lost_reply.events) ≡ (2, second_reply) ∷ []
unfolding check_bytes with_byte spelled_order fields three_front
left-answered = refl
