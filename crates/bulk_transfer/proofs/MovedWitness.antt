-- A transfer of two words over a line that loses nothing.
use Rattle.std.proofs.Common.{◌≡◌, ◌∙◌, ℕ, ◌/◌, ◌%◌, Bool, true, false, ◌&&◌, List, [], ◌∷◌, ◌++◌, take, drop, length, Option, refl, sym, ap, ap₂, subst, inl, arith, lit≤, ◌≤◌}
use Rattle.std.specs.Prelude.{All, IsTrue}
use Rattle.std.specs.Option.{unwrap_or}
use Rattle.std.proofs.lemmas.List.Elements.{All-cons, All-nil}
use Rattle.df1_check.specs.Checks.{with_byte}
use Rattle.df1_frame.specs.Spelling.{check_bytes}
use Rattle.data_files.specs.Tables.{DataTables, fresh, has_word, with_word, with_words, words_at}
use Rattle.data_files.specs.WordBytes.{bytes_of, words_of as words_in}
use Rattle.data_files.proofs.Words.{word_at-with_word}
use Rattle.logical_address.specs.Reading.{named_front}
use Rattle.plc_commands.specs.Reading.{range_read, range_write}
use Rattle.slc_commands.specs.Order.{spelled_order}
use Rattle.script_statement.specs.declared.who.Who.TheVariants.{A, B}
use Rattle.script_parts.proofs.PlanSettings.{Fits-first_plan}
use Rattle.script_parts.specs.declared.script.Event.{Event}
use Rattle.script_parts.specs.declared.script.Script.{Script}
use Rattle.script_parts.specs.declared.script.WordOf.{WordOf}
use Rattle.script_parts.specs.Playable.{IsPlayable}
use Rattle.duplex_line.specs.Acts.{LineState}
use Rattle.duplex_line.specs.Prompt.{EndsQuiet, Late, is_quiet, late_event, late_seen, none_late}
use Rattle.duplex_line.specs.Run.{after_event, deeds_of, lines_after, plan_of_a, plan_of_b, seen_from, start, state_after, who_of}
use Rattle.duplex_line.specs.Once.{tables_made}
use Rattle.duplex_line.proofs.Complete.Witness.{all-possible, is_gentle, prompt_after, prompt_over, prompt-after}
use Rattle.each_once.specs.Exchanges.{station_after}
use Rattle.each_once.specs.Tells.{executed_in}
use Rattle.outset.specs.Outset.{first_station, first_tables}
use Rattle.report_lines.specs.Words.{words_from, words_of}
use Rattle.line_world.specs.Complete.{IsUndisturbed}
use Rattle.line_world.specs.Runs.{record_of}
use Rattle.bulk_orders.specs.Outcomes.{words_pulled}
use Rattle.bulk_transfer.specs.Example.{other_words, two_words}
use Rattle.bulk_transfer.specs.Moved.{HasFile, IsWritable}
use Rattle.bulk_transfer.specs.Rehearsal.{IsRehearsable, initiator_after, pull_script, push_script}
use Rattle.bulk_transfer.proofs.MovedRuns.{complete-run, lines-of-run, pulled, pulled-whole, pushed, pushed-whole}
use Rattle.bulk_transfer.proofs.Playing.{pull-playable, push-playable}

-- each of two words is in the file
abbrev IsWordOfB : WordOf → Type 0
IsWordOfB w = IsTrue (has_word (plan_of_b two_words).files w.file w.index)

both-words : (words : List WordOf) (x y : WordOf) → words ≡ x ∷ y ∷ [] → IsWordOfB x → IsWordOfB y → All IsWordOfB words
both-words words x y are first second = subst (All IsWordOfB) (sym are) (All-cons IsWordOfB x (y ∷ []) first (All-cons IsWordOfB y [] second (All-nil IsWordOfB)))

two_words-playable : IsPlayable two_words
two_words-playable = record {
  mode = refl;
  ends = (
    record { end = refl; files = refl; words = All-nil _; settings = Fits-first_plan A 0 (omega arith); compat = refl; block = omega arith },
    record { end = refl; files = refl; words = both-words (plan_of_b two_words).words (record { who = B; file = 7; index = 0; value = 0x1234 }) (record { who = B; file = 7; index = 1; value = 0x5678 }) refl refl refl; settings = Fits-first_plan B 1 (omega arith); compat = refl; block = omega arith },
  );
  events = all-possible two_words.events ((refl, (omega arith, omega arith)), ((refl, (omega arith, omega arith)), ((refl, (omega arith, omega arith)), ((refl, (omega arith, omega arith)), ((refl, (omega arith, omega arith)), ((refl, (omega arith, omega arith)), tt))))));
  commands_of_a = omega arith;
  commands_of_b = omega arith;
  sum = omega arith;
}

pub two_words-rehearsable : IsRehearsable two_words
two_words-rehearsable = record { playable = two_words-playable; unissued = refl; sum = omega arith }

pub two_words-file : HasFile two_words 7 2
two_words-file = refl

pub two_words-writable : IsWritable two_words 7
two_words-writable = refl

-- ---- a run in two parts

late_events : Late → LineState → List Event → Late
late_events late s [] = late
late_events late s (e ∷ events) = late_events (late_event late s e) (after_event s e) events

regroup : (a b c : Bool) → (a && (b && c)) ≡ ((a && b) && c)
regroup true b c = refl
regroup false b c = refl

prompt-parts : (late : Late) (s : LineState) (front back : List Event) → prompt_after late s (front ++ back) ≡ (prompt_after late s front && prompt_after (late_events late s front) (state_after s front) back)
unfolding late_events
prompt-parts late s [] back = refl
prompt-parts late s (e ∷ front) back =
    let here = prompt_over (late_seen (who_of e) late) (seen_from (who_of e) s) (deeds_of e) in
    ap (λ (b : Bool). here && b) (prompt-parts (late_event late s e) (after_event s e) front back)
    ∙ regroup here (prompt_after (late_event late s e) (after_event s e) front) (prompt_after (late_events (late_event late s e) (after_event s e) front) (state_after (after_event s e) front) back)

state-parts : (s : LineState) (front back : List Event) → state_after s (front ++ back) ≡ state_after (state_after s front) back
state-parts s [] back = refl
state-parts s (e ∷ front) back = state-parts (after_event s e) front back

-- a state in which these replies wait at end b
abbrev with_replies : LineState → List (List ℕ) → LineState
with_replies s replies = record s { b = record s.b { end = record s.b.end { host = record s.b.end.host { replies = replies } } } }

same-replies : (s : LineState) → s ≡ with_replies s s.b.end.host.replies
same-replies s = refl

-- ---- a transfer that reads

abbrev pulls_two : Script
pulls_two = pull_script two_words 7 2

-- up to the order's arrival, and from there on
abbrev front_of : Script → List Event
front_of script = take 3 script.events

abbrev back_of : Script → List Event
back_of script = drop 3 script.events

-- the reply that waits at end b then
abbrev pulled_reply : List (List ℕ)
pulled_reply = (0x00 ∷ 0x01 ∷ 0x4F ∷ 0x00 ∷ 0x01 ∷ 0x00 ∷ 0x34 ∷ 0x12 ∷ 0x78 ∷ 0x56 ∷ []) ∷ []

told-bytes : (state_after (start pulls_two) (front_of pulls_two)).b.end.host.replies ≡ pulled_reply
unfolding check_bytes with_byte spelled_order range_read named_front
told-bytes =
    let none : DataTables = fresh (plan_of_b two_words).files in
    let one : DataTables = with_word none 7 0 0x1234 in
    ap₂ (λ (a b : Option ℕ). (0x00 ∷ 0x01 ∷ 0x4F ∷ 0x00 ∷ 0x01 ∷ 0x00 ∷ unwrap_or a 0 % 256 ∷ unwrap_or a 0 / 256 ∷ unwrap_or b 0 % 256 ∷ unwrap_or b 0 / 256 ∷ []) ∷ [])
    (word_at-with_word one 7 1 0x5678 7 0 ∙ word_at-with_word none 7 0 0x1234 7 0) (word_at-with_word one 7 1 0x5678 7 1)

told-state : state_after (start pulls_two) (front_of pulls_two) ≡ with_replies (state_after (start pulls_two) (front_of pulls_two)) pulled_reply
told-state = same-replies (state_after (start pulls_two) (front_of pulls_two)) ∙ ap (with_replies (state_after (start pulls_two) (front_of pulls_two))) told-bytes

pull-front : prompt_after none_late (start pulls_two) (front_of pulls_two) ≡ true
unfolding check_bytes with_byte spelled_order range_read named_front is_gentle
pull-front = refl

pull-late : late_events none_late (start pulls_two) (front_of pulls_two) ≡ none_late
unfolding check_bytes with_byte spelled_order range_read named_front late_events
pull-late = refl

pull-back : prompt_after none_late (with_replies (state_after (start pulls_two) (front_of pulls_two)) pulled_reply) (back_of pulls_two) ≡ true
unfolding check_bytes with_byte spelled_order range_read named_front is_gentle
pull-back = refl

pull-checked : prompt_after none_late (start pulls_two) pulls_two.events ≡ true
pull-checked =
    prompt-parts none_late (start pulls_two) (front_of pulls_two) (back_of pulls_two)
    ∙ ap₂ (λ (a b : Bool). a && b) pull-front
    (ap (λ (late : Late). prompt_after late (state_after (start pulls_two) (front_of pulls_two)) (back_of pulls_two)) pull-late
    ∙ ap (λ (s : LineState). prompt_after none_late s (back_of pulls_two)) told-state ∙ pull-back)

pull-end : is_quiet (state_after (with_replies (state_after (start pulls_two) (front_of pulls_two)) pulled_reply) (back_of pulls_two)) ≡ true
unfolding check_bytes with_byte spelled_order range_read named_front
pull-end = refl

pull-quiet : EndsQuiet pulls_two
pull-quiet =
    ap is_quiet (state-parts (start pulls_two) (front_of pulls_two) (back_of pulls_two))
    ∙ ap (λ (s : LineState). is_quiet (state_after s (back_of pulls_two))) told-state ∙ pull-end

pub pull-undisturbed : IsUndisturbed pulls_two
pull-undisturbed = (record { of_a = omega arith; of_b = omega arith }, prompt-after none_late (start pulls_two) pulls_two.events pull-checked, pull-quiet)

-- ---- a transfer that writes

abbrev pushes_two : Script
pushes_two = push_script two_words 7 other_words

push-checked : prompt_after none_late (start pushes_two) pushes_two.events ≡ true
unfolding check_bytes with_byte spelled_order range_write named_front is_gentle
push-checked = refl

push-quiet : EndsQuiet pushes_two
unfolding check_bytes with_byte spelled_order range_write named_front
push-quiet = refl

pub push-undisturbed : IsUndisturbed pushes_two
push-undisturbed = (record { of_a = omega arith; of_b = omega arith }, prompt-after none_late (start pushes_two) pushes_two.events push-checked, push-quiet)

-- ---- what they come to

two : 2 ≤ 3000
two = lit≤ tt

pull-honest : (record_of pulls_two).deceived ≡ 0
pull-honest = (complete-run pulls_two (pull-playable two_words 7 2 two_words-rehearsable two) (inl pull-undisturbed)).honest

-- the words of the file
words-of-file : words_at (first_tables (plan_of_b two_words)) 7 0 2 ≡ 0x1234 ∷ 0x5678 ∷ []
words-of-file =
    let none : DataTables = fresh (plan_of_b two_words).files in
    let one : DataTables = with_word none 7 0 0x1234 in
    ap₂ (λ (a b : Option ℕ). unwrap_or a 0 ∷ unwrap_or b 0 ∷ []) (word_at-with_word one 7 1 0x5678 7 0 ∙ word_at-with_word none 7 0 0x1234 7 0) (word_at-with_word one 7 1 0x5678 7 1)

pub two_words-pulled : words_pulled (initiator_after pulls_two) 2 ≡ 0x34 ∷ 0x12 ∷ 0x78 ∷ 0x56 ∷ []
two_words-pulled =
    let told = pulled two_words 7 2 two_words-rehearsable (lit≤ tt) two pull-honest in
    (told.whole (pulled-whole two_words 7 2 two_words-rehearsable two (inl pull-undisturbed) two_words-file)).words_are ∙ ap bytes_of words-of-file

four : length other_words ≤ 6000
four = lit≤ tt

push-honest : (record_of pushes_two).deceived ≡ 0
push-honest = (complete-run pushes_two (push-playable two_words 7 other_words two_words-rehearsable four) (inl push-undisturbed)).honest

-- end a executes nothing, and has no words
push-executed : executed_in A (lines_after (start pushes_two) pushes_two.events) ≡ []
unfolding check_bytes with_byte spelled_order range_write named_front
push-executed = refl

none-of-a : words_of A (tables_made A (plan_of_a two_words) (record_of pushes_two)) ≡ []
none-of-a =
    ap (λ (bodies : List (List ℕ)). words_of A (station_after (first_station (plan_of_a two_words)) bodies).tables)
    (ap (executed_in A) (lines-of-run pushes_two (push-playable two_words 7 other_words two_words-rehearsable four)) ∙ push-executed)

two-of-b : words_of B (with_words (first_tables (plan_of_b two_words)) 7 0 (words_in other_words)) ≡ record { who = B; file = 7; index = 0; value = 0x4321 } ∷ record { who = B; file = 7; index = 1; value = 0x8765 } ∷ []
two-of-b =
    let before : DataTables = first_tables (plan_of_b two_words) in
    let one : DataTables = with_word before 7 0 0x4321 in
    ap₂ (λ (a b : Option ℕ). words_from B 7 0 (unwrap_or a 0 ∷ unwrap_or b 0 ∷ []) ++ []) (word_at-with_word one 7 1 0x8765 7 0 ∙ word_at-with_word before 7 0 0x4321 7 0) (word_at-with_word one 7 1 0x8765 7 1)

pub two_words-pushed : (record_of pushes_two).words ≡ record { who = B; file = 7; index = 0; value = 0x4321 } ∷ record { who = B; file = 7; index = 1; value = 0x8765 } ∷ []
two_words-pushed =
    let told = pushed two_words 7 other_words two_words-rehearsable refl (lit≤ tt) four push-honest in
    (told.whole (pushed-whole two_words 7 other_words two_words-rehearsable refl four (inl push-undisturbed) two_words-file two_words-writable)).words_are
    ∙ ap₂ (λ (x y : List WordOf). x ++ y) none-of-a two-of-b
