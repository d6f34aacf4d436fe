-- What a rehearsal of a transfer has to tell, and what holds of it.
use Rattle.std.specs.Prelude.{◌≡◌, ℕ, ◌/◌, List, ◌++◌, length}
use Rattle.bulk_orders.specs.declared.outcome.Bulk.{Bulk}
use Rattle.bulk_orders.specs.declared.outcome.Bulk.TheVariants.{Whole}
use Rattle.bulk_orders.specs.Orders.{orders_of}
use Rattle.bulk_orders.specs.Telling.{pull_line, push_line}
use Rattle.bulk_transfer.specs.Moved.{HasFile, IsPulled, IsPushed, IsSound, IsWritable}
use Rattle.bulk_transfer.specs.Rehearsal.{pull_script, push_script}
use Rattle.line_world.specs.Complete.{IsComplete, IsUndisturbed}
use Rattle.line_world.specs.Once.{EachCommandOnce}
use Rattle.line_world.specs.Recovery.{Recovers}
use Rattle.line_world.specs.Runs.{record_of}
use Rattle.line_world.specs.Wire.{AreDf1Wires}
use Rattle.replay_report.specs.Report.{report}
use Rattle.script_parts.specs.declared.script.Script.{Script}
use Rattle.whole_scripts.specs.ToldTransfers.{pull_told, push_told, words_told}

-- ---- a transfer that reads

-- what it came to, and its words, by what the report tells of end a's commands
abbrev pub pulled_bulk : ℕ → ℕ → Script → Bulk
pulled_bulk file words script = pull_told (record_of (pull_script script file words)).lines words

abbrev pub pulled_words : ℕ → ℕ → Script → List ℕ
pulled_words file words script = words_told (record_of (pull_script script file words)).lines words

-- the report of the run with the orders in front of the events, and the line of the transfer
abbrev pub pulled_text : ℕ → ℕ → Script → List ℕ
pulled_text file words script = report (record_of (pull_script script file words)) ++ pull_line (pulled_bulk file words script) (pulled_words file words script)

-- Where no end was deceived, no reply has other data than its order asks for, and where the transfer is whole, the words are those of end b's
-- file. It is whole where nothing disturbs the line, or it recovers, and the file has so many words. Each command once, all of them where nothing
-- disturbs the line or it recovers, and DF1 on the wires, as of every replay.
pub record HasPulled (file words : ℕ) (script : Script) : Type 0 where
  pub pulled : (record_of (pull_script script file words)).deceived ≡ 0 → IsPulled script file words (pulled_bulk file words script) (pulled_words file words script)
  pub whole : IsSound (pull_script script file words) → HasFile script file words → pulled_bulk file words script ≡ Whole
  pub complete : IsUndisturbed (pull_script script file words) → IsComplete (pull_script script file words) (record_of (pull_script script file words))
  pub recovered : Recovers (pull_script script file words) (record_of (pull_script script file words))
  pub once : (record_of (pull_script script file words)).deceived ≡ 0 → EachCommandOnce (pull_script script file words) (record_of (pull_script script file words))
  pub wires : AreDf1Wires (pull_script script file words) (record_of (pull_script script file words))

-- ---- a transfer that writes

abbrev pub pushed_bulk : ℕ → List ℕ → Script → Bulk
pushed_bulk file bytes script = push_told (record_of (push_script script file bytes)).lines (length bytes / 2)

abbrev pub pushed_text : ℕ → List ℕ → Script → List ℕ
pushed_text file bytes script = report (record_of (push_script script file bytes)) ++ push_line (pushed_bulk file bytes script) (orders_of (length bytes / 2))

-- Where no end was deceived, no reply has data, and where the transfer is whole, the data are in end b's file and nothing else of it is changed.
-- It is whole where nothing disturbs the line, or it recovers, and the file has so many words and may be written. Each command once, all of
-- them where nothing disturbs the line or it recovers, and DF1 on the wires, as of every replay.
pub record HasPushed (file : ℕ) (bytes : List ℕ) (script : Script) : Type 0 where
  pub pushed : (record_of (push_script script file bytes)).deceived ≡ 0 → IsPushed script file bytes (pushed_bulk file bytes script) (record_of (push_script script file bytes))
  pub whole : IsSound (push_script script file bytes) → HasFile script file (length bytes / 2) → IsWritable script file → pushed_bulk file bytes script ≡ Whole
  pub complete : IsUndisturbed (push_script script file bytes) → IsComplete (push_script script file bytes) (record_of (push_script script file bytes))
  pub recovered : Recovers (push_script script file bytes) (record_of (push_script script file bytes))
  pub once : (record_of (push_script script file bytes)).deceived ≡ 0 → EachCommandOnce (push_script script file bytes) (record_of (push_script script file bytes))
  pub wires : AreDf1Wires (push_script script file bytes) (record_of (push_script script file bytes))
