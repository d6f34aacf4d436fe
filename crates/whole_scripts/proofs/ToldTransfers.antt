-- What became of end a's commands is what the report tells of them, so what a transfer came to is, too.
use Rattle.std.proofs.Common.{◌≡◌, ◌∙◌, ℕ, zero, suc, ◌*◌, ◌/◌, ◌≤◌, List, [], ◌++◌, length, Option, Some, None, refl, sym, ap, ap₂, subst}
use Rattle.std.specs.Prelude.{if◌then◌else◌}
use Rattle.std.specs.Option.{option_map, option_map_or, option_or, unwrap_or}
use Rattle.bulk_orders.specs.declared.outcome.Bulk.{Bulk}
use Rattle.bulk_orders.specs.declared.outcome.Bulk.TheVariants.{Whole}
use Rattle.bulk_orders.specs.Orders.{orders_of, words_of_order}
use Rattle.bulk_orders.specs.Outcomes.{data_of, data_pulled, fault_at, fault_of, first_fault, is_whole, pull_result, push_result, result_of, words_pulled}
use Rattle.bulk_transfer.specs.Rehearsal.{IsRehearsable, initiator_after, pull_script, push_script}
use Rattle.bulk_transfer.proofs.MovedRuns.{lines-of-run}
use Rattle.bulk_transfer.proofs.Playing.{pull-playable, push-playable}
use Rattle.df1_node.specs.Initiator.{InitiatorState, Issued, Standing, Waiting, Out, Answered, Undelivered, Unanswered, reply_of, told_outcome, told_reply}
use Rattle.duplex_line.proofs.Once.ToldCommands.{recounts-run}
use Rattle.each_once.specs.Commands.{AreOutcomesTold, command_at, told_of, told_of_command}
use Rattle.each_once.specs.Tells.{outcomes_in}
use Rattle.line_script.specs.Rehearsed.{IsRehearsed}
use Rattle.line_world.specs.Runs.{record_of}
use Rattle.replay_report.specs.declared.record.Line.{Line}
use Rattle.script_parts.specs.declared.script.Script.{Script}
use Rattle.script_parts.specs.HalfPlayable.{CanBePlayed}
use Rattle.script_parts.specs.Playable.{IsPlayable}
use Rattle.script_statement.specs.declared.who.Who.TheVariants.{A}
use Rattle.whole_scripts.specs.Rehearsals.{pulled_bulk, pulled_words, pushed_bulk}
use Rattle.whole_scripts.specs.ToldTransfers.{all_data_told, data_told, fault_told, pull_told, push_told, words_told}

pub rehearsable : (script : Script) → CanBePlayed script → IsRehearsed script → IsRehearsable script
rehearsable script can is = record { playable = can.full is.mode; unissued = is.commands_of_a; sum = is.sum }

-- ---- one order

fault-of-standing : (n size : ℕ) (standing : Standing) → fault_at n size (told_reply standing) (Some (told_outcome standing)) ≡ fault_told n size (told_of standing)
fault-of-standing n size Waiting = refl
fault-of-standing n size (Out left) = refl
fault-of-standing n size (Answered reply) = refl
fault-of-standing n size Undelivered = refl
fault-of-standing n size Unanswered = refl

fault-of-command : (n size : ℕ) (c : Option Issued) → fault_at n size (option_map_or (λ c. told_reply c.standing) c []) (option_map (λ c. told_outcome c.standing) c) ≡ fault_told n size (told_of_command c)
fault-of-command n size None = refl
fault-of-command n size (Some c) = fault-of-standing n size c.standing

data-of-standing : (standing : Standing) → data_of (told_reply standing) ≡ data_told (told_of standing)
data-of-standing Waiting = refl
data-of-standing (Out left) = refl
data-of-standing (Answered reply) = refl
data-of-standing Undelivered = refl
data-of-standing Unanswered = refl

data-of-command : (c : Option Issued) → data_of (option_map_or (λ c. told_reply c.standing) c []) ≡ data_told (told_of_command c)
data-of-command None = refl
data-of-command (Some c) = data-of-standing c.standing

fault-told : (s : InitiatorState) (lines : List Line) → AreOutcomesTold A s.issued lines → (n size : ℕ) → fault_of s size n ≡ fault_told n size (outcomes_in A n lines)
fault-told s lines told zero size = fault-of-command zero size None ∙ ap (fault_told zero size) (sym (told zero))
fault-told s lines told (suc n) size = fault-of-command (suc n) size (command_at s.issued (suc n)) ∙ ap (fault_told (suc n) size) (sym (told (suc n)))

data-of-order : (s : InitiatorState) (lines : List Line) → AreOutcomesTold A s.issued lines → (n : ℕ) → data_of (reply_of s (suc n)) ≡ data_told (outcomes_in A (suc n) lines)
data-of-order s lines told n = data-of-command (command_at s.issued (suc n)) ∙ ap data_told (sym (told (suc n)))

-- ---- all of them

same-first : (f g : ℕ → Option Bulk) → ((n : ℕ) → f n ≡ g n) → (count : ℕ) → first_fault f count ≡ first_fault g count
same-first f g each zero = refl
same-first f g each (suc n) = ap₂ option_or (same-first f g each n) (each (suc n))

same-result : (f g : ℕ → Option Bulk) → ((n : ℕ) → f n ≡ g n) → (count : ℕ) → result_of f count ≡ result_of g count
same-result f g each count = ap (λ o. unwrap_or o Whole) (same-first f g each count)

same-data : (s : InitiatorState) (lines : List Line) → AreOutcomesTold A s.issued lines → (count : ℕ) → data_pulled s count ≡ all_data_told lines count
same-data s lines told zero = refl
same-data s lines told (suc n) = ap₂ (λ (front : List ℕ) (last : List ℕ). front ++ last) (same-data s lines told n) (data-of-order s lines told n)

pull-told : (s : InitiatorState) (lines : List Line) (words : ℕ) → AreOutcomesTold A s.issued lines → pull_result s words ≡ pull_told lines words
pull-told s lines words told = same-result _ _ (λ n. fault-told s lines told n (2 * words_of_order words n)) (orders_of words)

words-told : (s : InitiatorState) (lines : List Line) (words : ℕ) → AreOutcomesTold A s.issued lines → words_pulled s words ≡ words_told lines words
words-told s lines words told = ap₂ (λ (bulk : Bulk) (all : List ℕ). if is_whole bulk then all else []) (pull-told s lines words told) (same-data s lines told (orders_of words))

push-told : (s : InitiatorState) (lines : List Line) (words : ℕ) → AreOutcomesTold A s.issued lines → push_result s words ≡ push_told lines words
push-told s lines words told = same-result _ _ (λ n. fault-told s lines told n 0) (orders_of words)

-- ---- in a run

outcomes-of-run : (script : Script) → IsPlayable script → AreOutcomesTold A (initiator_after script).issued (record_of script).lines
outcomes-of-run script playable = subst (AreOutcomesTold A (initiator_after script).issued) (sym (lines-of-run script playable)) (recounts-run script playable).recounts.outcomes

pub pulled-bulk : (script : Script) (file words : ℕ) → IsRehearsable script → words ≤ 3000 → pull_result (initiator_after (pull_script script file words)) words ≡ pulled_bulk file words script
pulled-bulk script file words h few = pull-told (initiator_after (pull_script script file words)) (record_of (pull_script script file words)).lines words (outcomes-of-run (pull_script script file words) (pull-playable script file words h few))

pub pulled-words : (script : Script) (file words : ℕ) → IsRehearsable script → words ≤ 3000 → words_pulled (initiator_after (pull_script script file words)) words ≡ pulled_words file words script
pulled-words script file words h few = words-told (initiator_after (pull_script script file words)) (record_of (pull_script script file words)).lines words (outcomes-of-run (pull_script script file words) (pull-playable script file words h few))

pub pushed-bulk : (script : Script) (file : ℕ) (bytes : List ℕ) → IsRehearsable script → length bytes ≤ 6000 → push_result (initiator_after (push_script script file bytes)) (length bytes / 2) ≡ pushed_bulk file bytes script
pushed-bulk script file bytes h few = push-told (initiator_after (push_script script file bytes)) (record_of (push_script script file bytes)).lines (length bytes / 2) (outcomes-of-run (push_script script file bytes) (push-playable script file bytes h few))
