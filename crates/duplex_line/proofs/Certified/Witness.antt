-- The run of three echoes after a lone DLE: the first is lost, the second is answered, and then the line is at rest; and the third is answered.
use Rattle.std.proofs.Common.{◌≡◌, Bool, true, false, List, [], ◌∷◌, ◌++◌, refl, sym, subst, arith}
use Rattle.std.specs.Prelude.{Contains, IsTrue, ◌&&◌}
use Rattle.std.proofs.lemmas.List.Elements.{All-nil}
use Rattle.df1_check.specs.Checks.{with_byte}
use Rattle.df1_frame.specs.Spelling.{check_bytes}
use Rattle.df1_node.specs.Initiator.{Undelivered}
use Rattle.end_settings.specs.declared.key.EndKey.{EndKey}
use Rattle.end_settings.specs.declared.key.EndKey.TheVariants.{AckTicks, MaxEnqs}
use Rattle.end_settings.specs.Rows.{Fits}
use Rattle.end_settings.specs.Table.{row_of}
use Rattle.script_statement.specs.declared.who.Who.TheVariants.{A, B}
use Rattle.script_parts.specs.declared.script.Event.{Event}
use Rattle.script_parts.specs.Plans.{first_plan, setting_in}
use Rattle.script_parts.proofs.PlanSettings.{Fits-first_plan}
use Rattle.script_parts.specs.Playable.{IsPlayable}
use Rattle.each_once.specs.Tells.{answers_in, outcomes_in}
use Rattle.duplex_line.specs.Acts.{LineState, Deed, after_deed}
use Rattle.duplex_line.specs.Certified.{AreGentle, AreGentleAfter, IsAnsweredAfter, are_senders_idle, GoesOnCalmly}
use Rattle.duplex_line.specs.Example.{lone_dle, two_echoes, last_ack, third_echo, after_noise, second_echoed, third_echoed}
use Rattle.duplex_line.specs.Prompt.{none_late, is_quiet, EndsQuiet}
use Rattle.duplex_line.specs.Rest.{is_at_rest}
use Rattle.duplex_line.specs.Run.{start, who_of, deeds_of, seen_from, after_event, state_after, lines_after}
use Rattle.duplex_line.proofs.Complete.TickStep.{both}
use Rattle.duplex_line.proofs.Complete.Witness.{all-possible, is_gentle, gentle-is, prompt_after, prompt-after}

noise-settings : (key : EndKey) → Fits (row_of key).values (setting_in (record (first_plan A 0) { ack_ticks = 1; max_enqs = 0 }) key)
noise-settings AckTicks = (omega arith, omega arith)
noise-settings MaxEnqs = (omega arith, omega arith)
noise-settings other = Fits-first_plan A 0 (omega arith) other

pub noise-playable : IsPlayable after_noise
noise-playable = record {
  mode = refl;
  ends = (
    record { end = refl; files = refl; words = All-nil _; settings = noise-settings; compat = refl; block = omega arith },
    record { end = refl; files = refl; words = All-nil _; settings = Fits-first_plan B 1 (omega arith); compat = refl; block = omega arith },
  );
  events = all-possible after_noise.events ((refl, (omega arith, omega arith)), ((refl, refl), ((refl, (omega arith, omega arith)), ((refl, (omega arith, omega arith)), ((refl, (omega arith, omega arith)), ((refl, refl), ((refl, (omega arith, omega arith)), ((refl, (omega arith, omega arith)), ((refl, (omega arith, omega arith)), ((refl, (omega arith, omega arith)), ((refl, (omega arith, omega arith)), ((refl, (omega arith, omega arith)), ((refl, refl), ((refl, (omega arith, omega arith)), ((refl, (omega arith, omega arith)), ((refl, (omega arith, omega arith)), ((refl, (omega arith, omega arith)), ((refl, (omega arith, omega arith)), ((refl, (omega arith, omega arith)), tt)))))))))))))))))));
  commands_of_a = omega arith;
  commands_of_b = omega arith;
  sum = omega arith;
}

-- ---- nothing disturbs it behind the DLE

abbrev gentle_over : LineState → List Deed → Bool
gentle_over s [] = true
gentle_over s (deed ∷ deeds) = is_gentle s.a deed && gentle_over (after_deed s deed) deeds

abbrev gentle_after : LineState → List Event → Bool
gentle_after s [] = true
gentle_after s (e ∷ events) = gentle_over (seen_from (who_of e) s) (deeds_of e) && gentle_after (after_event s e) events

gentle-over : (s : LineState) (deeds : List Deed) → gentle_over s deeds ≡ true → AreGentle s deeds
gentle-over s [] h = tt
gentle-over s (deed ∷ deeds) h =
    let parts = both (is_gentle s.a deed) (gentle_over (after_deed s deed) deeds) h in
    (gentle-is s.a deed parts.0, gentle-over (after_deed s deed) deeds parts.1)

gentle-after : (s : LineState) (events : List Event) → gentle_after s events ≡ true → AreGentleAfter s events
gentle-after s [] h = tt
gentle-after s (e ∷ events) h =
    let parts = both (gentle_over (seen_from (who_of e) s) (deeds_of e)) (gentle_after (after_event s e) events) h in
    (gentle-over (seen_from (who_of e) s) (deeds_of e) parts.0, gentle-after (after_event s e) events parts.1)

noise-checked : gentle_after (state_after (start after_noise) lone_dle) (two_echoes ++ last_ack) ≡ true
unfolding check_bytes with_byte is_gentle
noise-checked = refl

noise-told : answers_in A (lines_after (state_after (start after_noise) lone_dle) two_echoes) ≡ (2, second_echoed) ∷ []
unfolding check_bytes with_byte
noise-told = refl

noise-honest : (state_after (start after_noise) (lone_dle ++ (two_echoes ++ last_ack))).deceived ≡ 0
unfolding check_bytes with_byte
noise-honest = refl

one-of-one : {X : Type 0} (xs : List X) (x : X) → xs ≡ x ∷ [] → Contains xs x
one-of-one xs x is = subst (λ (all : List _). Contains all x) (sym is) (0, omega arith, refl)

pub noise-answered : IsAnsweredAfter A after_noise lone_dle two_echoes last_ack third_echo 2
noise-answered = record {
  parts = refl;
  quiet = refl;
  to_come = refl;
  gentle = gentle-after (state_after (start after_noise) lone_dle) (two_echoes ++ last_ack) noise-checked;
  reply = second_echoed;
  answered = one-of-one (answers_in A (lines_after (state_after (start after_noise) lone_dle) two_echoes)) (2, second_echoed) noise-told;
  undeceived = noise-honest;
}

-- ---- and it was needed

pub noise-unrest : is_at_rest (state_after (start after_noise) lone_dle) ≡ false
unfolding check_bytes with_byte
noise-unrest = refl

pub noise-lost : outcomes_in A 1 (lines_after (start after_noise) after_noise.events) ≡ Undelivered ∷ []
unfolding check_bytes with_byte
noise-lost = refl

-- ---- and from there on all is well

noise-prompt : prompt_after none_late (state_after (start after_noise) (lone_dle ++ (two_echoes ++ last_ack))) third_echo ≡ true
unfolding check_bytes with_byte is_gentle
noise-prompt = refl

noise-still : IsTrue (is_quiet (state_after (start after_noise) (lone_dle ++ (two_echoes ++ last_ack))))
unfolding check_bytes with_byte
noise-still = refl

noise-idle : IsTrue (are_senders_idle (state_after (start after_noise) (lone_dle ++ (two_echoes ++ last_ack))))
unfolding check_bytes with_byte
noise-idle = refl

noise-quiet : EndsQuiet after_noise
unfolding check_bytes with_byte
noise-quiet = refl

pub noise-goes_on : GoesOnCalmly after_noise (lone_dle ++ (two_echoes ++ last_ack)) third_echo
noise-goes_on = record {
  still = noise-still;
  idle = noise-idle;
  prompt = prompt-after none_late (state_after (start after_noise) (lone_dle ++ (two_echoes ++ last_ack))) third_echo noise-prompt;
  quiet = noise-quiet;
  rooms = record { of_a = omega arith; of_b = omega arith };
}

pub noise-rest : is_at_rest (state_after (start after_noise) (lone_dle ++ (two_echoes ++ last_ack))) ≡ true
unfolding check_bytes with_byte
noise-rest = refl

pub noise-answers : answers_in A (lines_after (start after_noise) after_noise.events) ≡ (2, second_echoed) ∷ (3, third_echoed) ∷ []
unfolding check_bytes with_byte
noise-answers = refl
