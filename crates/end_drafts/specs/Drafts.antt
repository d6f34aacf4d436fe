-- What the lines so far say of one end, what may be wrong with a further line of it, and the plan that they make.
use Rattle.std.specs.Prelude.{ℕ, Bool, true, false, not, [], ◌∷◌, ◌++◌, length, find, Option, Some, None, Result, is_some, is_none, unwrap_or, nat_le, ◌==◌, ◌||◌}
use Rattle.std.specs.List.{list_any}
use Rattle.std.specs.Option.{option_map_or}
use Rattle.data_files.specs.declared.file_spec.FileSpec.{FileSpec}
use Rattle.data_files.specs.Tables.{word_count}
use Rattle.data_files.specs.Words.{holds_words}
use Rattle.end_settings.specs.declared.key.EndKey.TheVariants.{Node}
use Rattle.end_settings.specs.declared.row.Role.{Role}
use Rattle.end_settings.specs.declared.row.Role.TheVariants.{Duplex}
use Rattle.end_settings.specs.Table.{has_key}
use Rattle.end_settings.specs.Given.{chosen, no_settings, value_of, with_setting}
use Rattle.script_statement.specs.declared.who.Who.{Who}
use Rattle.script_statement.specs.declared.setup_statement.SetupStatement.{SetupStatement}
use Rattle.script_statement.specs.declared.setup_statement.SetupStatement.TheVariants.{Set, Compat, Block, File, Word}
use Rattle.script_parts.specs.declared.script.EndPlan.{EndPlan}
use Rattle.script_parts.specs.declared.script.WordOf.{WordOf}
use Rattle.script_parts.specs.Plans.{plan_with}
use Rattle.end_drafts.specs.declared.end_draft.EndDraft.{EndDraft}
use Rattle.end_drafts.specs.declared.flaw.Flaw.{Flaw}
use Rattle.end_drafts.specs.declared.flaw.Flaw.TheVariants as flaw
use Rattle.end_drafts.specs.Flaws.{first_of, unless_wrong}
use Rattle.end_drafts.specs.Places.{is_at}

-- an end of which no line told anything: 65,535 commands are left to it
abbrev pub fresh_end : EndDraft
fresh_end = record { settings = no_settings; compat = None; block = None; files = []; words = []; commands_left = 65535 }

-- ---- what may be wrong with a line of an end, one test for each flaw

-- the declared file that a line names
abbrev pub declared : EndDraft → Option ℕ → Option FileSpec
declared end None = None
declared end (Some number) = find (λ spec. spec.number == number) end.files

-- it names a key that an end of this kind hasn't, or a file that isn't declared
abbrev pub lacks : Role → EndDraft → SetupStatement → Bool
lacks role end (Set setting) = not (has_key role setting.key)
lacks role end (Compat None) = false
lacks role end (Compat (Some file)) = is_none (declared end file)
lacks role end (Block bytes) = false
lacks role end (File spec) = false
lacks role end (Word file index value) = is_none (declared end file)

-- a number, a word or a length is out of its range, the file is the 257th, or a compatibility file is of another type than bit or integer
abbrev pub exceeds : EndDraft → SetupStatement → Bool
exceeds end (Set setting) = is_none setting.value
exceeds end (Compat None) = true
exceeds end (Compat (Some file)) = option_map_or (λ spec. not (holds_words spec.kind)) (declared end file) false
exceeds end (Block bytes) = is_none bytes
exceeds end (File spec) = is_none spec || nat_le 256 (length end.files)
exceeds end (Word file index value) = option_map_or (λ spec. nat_le (word_count spec) index) (declared end file) false

-- an earlier line gave the key, the file or the word
abbrev pub repeats : EndDraft → SetupStatement → Bool
repeats end (Set setting) = is_some (value_of end.settings setting.key)
repeats end (Compat file) = is_some end.compat
repeats end (Block bytes) = is_some end.block
repeats end (File None) = false
repeats end (File (Some spec)) = list_any (λ other. other.number == spec.number) end.files
repeats end (Word None index value) = false
repeats end (Word (Some file) index value) = list_any (is_at file index) end.words

-- what is wrong with a line of an end, wherever it stands
abbrev pub line_flaw : Role → EndDraft → SetupStatement → Option Flaw
line_flaw role end line = first_of (
    (lacks role end line, flaw.Missing)
    ∷ (exceeds end line, flaw.Value)
    ∷ (repeats end line, flaw.Twice)
    ∷ [])

-- ---- what a line changes

abbrev pub with_line : Who → EndDraft → SetupStatement → EndDraft
with_line who end (Set setting) = record end { settings = with_setting end.settings setting }
with_line who end (Compat (Some (Some file))) = record end { compat = Some file }
with_line who end (Block (Some bytes)) = record end { block = Some bytes }
with_line who end (File (Some spec)) = record end { files = end.files ++ spec ∷ [] }
with_line who end (Word (Some file) index value) = record end { words = end.words ++ record { who = who; file = file; index = index; value = value } ∷ [] }
with_line who end line = end

-- an end after a line that gives the first value of a word
abbrev pub after_word : EndDraft → WordOf → Result EndDraft Flaw
after_word end word =
    unless_wrong (line_flaw Duplex end (Word (Some word.file) word.index word.value)) (with_line word.who end (Word (Some word.file) word.index word.value))

-- ---- the plan

-- the address of an end, with the one that it has where no line sets it
abbrev pub node_of : EndDraft → ℕ → ℕ
node_of end standard = chosen end.settings standard Node

-- the plan of an end: what no line sets is as it is at first
abbrev pub plan_of : Who → ℕ → EndDraft → EndPlan
plan_of who standard end = plan_with who (chosen end.settings standard) end.compat (unwrap_or end.block []) end.files end.words
