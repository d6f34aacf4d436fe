-- The runs of a write that is given up, and of another from the state at rest on that follows: over a line that nothing disturbs then, and over one that alters a byte.
use Rattle.std.proofs.Common.{◌≡◌, ◌≤◌, ℕ, [], ◌∷◌, ◌++◌, refl, arith, true}
use Rattle.std.proofs.lemmas.List.Elements.{All-nil}
use Rattle.df1_check.specs.Checks.{with_byte}
use Rattle.df1_frame.specs.Spelling.{check_bytes}
use Rattle.df1_node.specs.Initiator.{Undelivered}
use Rattle.logical_address.specs.Reading.{three_front}
use Rattle.slc_commands.specs.Order.{fields, spelled_order}
use Rattle.end_settings.specs.declared.key.EndKey.{EndKey}
use Rattle.end_settings.specs.declared.key.EndKey.TheVariants.{MaxNaks}
use Rattle.end_settings.specs.Rows.{Fits}
use Rattle.end_settings.specs.Table.{row_of}
use Rattle.script_statement.specs.declared.who.Who.TheVariants.{A, B}
use Rattle.script_parts.specs.Plans.{first_plan, setting_in}
use Rattle.script_parts.proofs.PlanSettings.{Fits-first_plan}
use Rattle.script_parts.specs.Playable.{IsPlayable}
use Rattle.each_once.specs.Tells.{executed_in, answers_in, outcomes_in}
use Rattle.duplex_line.specs.Example.{lost_write, second_write, after_a_lost_write, lost_again, second_hit_write, hit_after_a_lost_write, second_command, second_reply}
use Rattle.duplex_line.specs.Prompt.{none_late, HasRooms}
use Rattle.duplex_line.specs.Recoverable.{no_damages}
use Rattle.duplex_line.specs.Rest.{IsCalmAfter, IsMildAfterRest}
use Rattle.duplex_line.specs.Run.{start, state_after, lines_after}
use Rattle.duplex_line.proofs.Complete.DamagedWitness.{body_hit, is_mild, mild_after, few_after, mild-after, few-after}
use Rattle.duplex_line.proofs.Complete.Witness.{all-possible, is_gentle, prompt_after, prompt-after}

so-many-naks : (most : ℕ) → most ≤ 255 → (key : EndKey) → Fits (row_of key).values (setting_in (record (first_plan A 0) { max_naks = most }) key)
so-many-naks most few MaxNaks = (omega arith, omega (arith, few))
so-many-naks most few other = Fits-first_plan A 0 (omega arith) other

-- ---- nothing disturbs the line from there on

pub rested-playable : IsPlayable after_a_lost_write
rested-playable = record {
  mode = refl;
  ends = (
    record { end = refl; files = refl; words = All-nil _; settings = so-many-naks 0 (omega arith); compat = refl; block = omega arith },
    record { end = refl; files = refl; words = All-nil _; settings = Fits-first_plan B 1 (omega arith); compat = refl; block = omega arith },
  );
  events = all-possible after_a_lost_write.events ((refl, refl), ((refl, (omega arith, omega arith)), ((refl, (omega arith, omega arith)), ((refl, (omega arith, omega arith)), ((refl, (omega arith, omega arith)), ((refl, (omega arith, omega arith)), ((refl, (omega arith, omega arith)), ((refl, refl), ((refl, (omega arith, omega arith)), ((refl, (omega arith, omega arith)), ((refl, (omega arith, omega arith)), ((refl, (omega arith, omega arith)), ((refl, (omega arith, omega arith)), ((refl, (omega arith, omega arith)), tt))))))))))))));
  commands_of_a = omega arith;
  commands_of_b = omega arith;
  sum = omega arith;
}

rested-prompt : prompt_after none_late (state_after (start after_a_lost_write) lost_write) second_write ≡ true
unfolding check_bytes with_byte spelled_order fields three_front is_gentle
rested-prompt = refl

rested-rooms : HasRooms after_a_lost_write
rested-rooms = record { of_a = omega arith; of_b = omega arith }

pub rested-calm : IsCalmAfter after_a_lost_write lost_write second_write
unfolding check_bytes with_byte spelled_order fields three_front
rested-calm = record {
  events = refl;
  undeceived = refl;
  at_rest = refl;
  prompt = prompt-after none_late (state_after (start after_a_lost_write) lost_write) second_write rested-prompt;
  quiet = refl;
  rooms = rested-rooms;
}

pub rested-gives_up : outcomes_in A 1 (lines_after (start after_a_lost_write) after_a_lost_write.events) ≡ Undelivered ∷ []
unfolding check_bytes with_byte spelled_order fields three_front
rested-gives_up = refl

pub rested-executed : executed_in B (lines_after (start after_a_lost_write) after_a_lost_write.events) ≡ second_command ∷ []
unfolding check_bytes with_byte spelled_order fields three_front
rested-executed = refl

pub rested-answered : answers_in A (lines_after (start after_a_lost_write) after_a_lost_write.events) ≡ (2, second_reply) ∷ []
unfolding check_bytes with_byte spelled_order fields three_front
rested-answered = refl

-- ---- a byte of a body is altered from there on

pub mended-playable : IsPlayable hit_after_a_lost_write
mended-playable = record {
  mode = refl;
  ends = (
    record { end = refl; files = refl; words = All-nil _; settings = so-many-naks 1 (omega arith); compat = refl; block = omega arith },
    record { end = refl; files = refl; words = All-nil _; settings = Fits-first_plan B 1 (omega arith); compat = refl; block = omega arith },
  );
  events = all-possible hit_after_a_lost_write.events ((refl, refl), ((refl, (omega arith, omega arith)), ((refl, (omega arith, omega arith)), ((refl, (omega arith, omega arith)), ((refl, (omega arith, omega arith)), ((refl, (omega arith, omega arith)), ((refl, (omega arith, omega arith)), ((refl, (omega arith, omega arith)), ((refl, (omega arith, omega arith)), ((refl, (omega arith, omega arith)), ((refl, (omega arith, omega arith)), ((refl, (omega arith, omega arith)), ((refl, (omega arith, omega arith)), ((refl, refl), ((refl, (omega arith, omega arith)), ((refl, (omega arith, omega arith)), ((refl, omega arith), ((refl, (omega arith, omega arith)), ((refl, (omega arith, omega arith)), ((refl, (omega arith, omega arith)), ((refl, (omega arith, omega arith)), ((refl, (omega arith, omega arith)), ((refl, (omega arith, omega arith)), ((refl, (omega arith, omega arith)), ((refl, (omega arith, omega arith)), ((refl, (omega arith, omega arith)), tt))))))))))))))))))))))))));
  commands_of_a = omega arith;
  commands_of_b = omega arith;
  sum = omega arith;
}

mended-mild : mild_after no_damages (state_after (start hit_after_a_lost_write) (lost_write ++ lost_again)) second_hit_write ≡ true
unfolding check_bytes with_byte spelled_order fields three_front is_mild body_hit
mended-mild = refl

mended-few : few_after none_late (state_after (start hit_after_a_lost_write) (lost_write ++ lost_again)) second_hit_write ≡ true
unfolding check_bytes with_byte spelled_order fields three_front
mended-few = refl

mended-rooms : HasRooms hit_after_a_lost_write
mended-rooms = record { of_a = omega arith; of_b = omega arith }

pub mended-rest : IsMildAfterRest hit_after_a_lost_write (lost_write ++ lost_again) second_hit_write
unfolding check_bytes with_byte spelled_order fields three_front
mended-rest = record {
  events = refl;
  undeceived = refl;
  at_rest = refl;
  mild = mild-after no_damages (state_after (start hit_after_a_lost_write) (lost_write ++ lost_again)) second_hit_write mended-mild;
  few = few-after none_late (state_after (start hit_after_a_lost_write) (lost_write ++ lost_again)) second_hit_write mended-few;
  quiet = refl;
  rooms = mended-rooms;
}

pub mended-gives_up : outcomes_in A 1 (lines_after (start hit_after_a_lost_write) hit_after_a_lost_write.events) ≡ Undelivered ∷ []
unfolding check_bytes with_byte spelled_order fields three_front
mended-gives_up = refl

pub mended-executed : executed_in B (lines_after (start hit_after_a_lost_write) hit_after_a_lost_write.events) ≡ second_command ∷ []
unfolding check_bytes with_byte spelled_order fields three_front
mended-executed = refl

pub mended-answered : answers_in A (lines_after (start hit_after_a_lost_write) hit_after_a_lost_write.events) ≡ (2, second_reply) ∷ []
unfolding check_bytes with_byte spelled_order fields three_front
mended-answered = refl
