-- What a rehearsed transfer has moved: the words that are told as pulled are those of end b's file, and the data that are told as pushed are in it.
use Rattle.std.specs.Prelude.{◌≡◌, ◌≢◌, ◌⊎◌, ℕ, ◌/◌, not, List, ◌++◌, length, IsTrue}
use Rattle.script_statement.specs.declared.who.Who.TheVariants.{A, B}
use Rattle.script_parts.specs.declared.script.Script.{Script}
use Rattle.replay_report.specs.declared.record.Record.{Record}
use Rattle.data_files.specs.Place.{holds_of, is_status}
use Rattle.data_files.specs.Tables.{file_of, has_words, with_words, words_at}
use Rattle.data_files.specs.WordBytes.{bytes_of, words_of as words_in}
use Rattle.report_lines.specs.Words.{words_of}
use Rattle.duplex_line.specs.Once.{tables_made}
use Rattle.duplex_line.specs.Recoverable.{IsRecoverable}
use Rattle.duplex_line.specs.Run.{first_tables, plan_of_a, plan_of_b}
use Rattle.line_world.specs.Complete.{IsUndisturbed}
use Rattle.bulk_orders.specs.declared.outcome.Bulk.{Bulk}
use Rattle.bulk_orders.specs.declared.outcome.Bulk.TheVariants.{Whole, Odd}

-- end b has such a file, with at least so many words
abbrev pub HasFile : Script → ℕ → ℕ → Type 0
HasFile script file words = IsTrue (has_words (plan_of_b script).files file 0 words)

-- and it may be written: it isn't of the status type
abbrev pub IsWritable : Script → ℕ → Type 0
IsWritable script file = IsTrue (holds_of (λ f. not (is_status f.kind)) (file_of (plan_of_b script).files file))

-- the words that were read are those of end b's file as the script gave it, from word 0 on
pub record HasRead (script : Script) (file words : ℕ) (read : List ℕ) : Type 0 where
  pub file_is : HasFile script file words
  pub words_are : read ≡ bytes_of (words_at (first_tables (plan_of_b script)) file 0 words)

-- of end b's words those of the file from word 0 on are the data, and each other is as the script gave it
pub record HasWritten (script : Script) (file : ℕ) (bytes : List ℕ) (r : Record) : Type 0 where
  pub file_is : HasFile script file (length bytes / 2)
  pub writable : IsWritable script file
  pub words_are : r.words ≡ words_of A (tables_made A (plan_of_a script) r) ++ words_of B (with_words (first_tables (plan_of_b script)) file 0 (words_in bytes))

-- what a transfer that reads came to, and its words: no reply has other data than its order asks for, and where all is whole, the words
-- were read
pub record IsPulled (script : Script) (file words : ℕ) (bulk : Bulk) (read : List ℕ) : Type 0 where
  pub fits : (n : ℕ) → bulk ≢ Odd n
  pub whole : bulk ≡ Whole → HasRead script file words read

-- what a transfer that writes came to: no reply has data, and where all is whole, the data were written
pub record IsPushed (script : Script) (file : ℕ) (bytes : List ℕ) (bulk : Bulk) (r : Record) : Type 0 where
  pub fits : (n : ℕ) → bulk ≢ Odd n
  pub whole : bulk ≡ Whole → HasWritten script file bytes r

-- nothing disturbs the run of a script, or the line recovers from what does
abbrev pub IsSound : Script → Type 0
IsSound script = IsUndisturbed script ⊎ IsRecoverable script
