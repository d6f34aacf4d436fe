-- What is known of an end is such as its plan may have.
use Rattle.std.proofs.Common.{◌≡◌, ℕ, ◌<◌, ◌≤◌, Bool, not, true, false, List, [], ◌∷◌, ◌++◌, length, find, Option, Some, None, refl, subst, arith, nat_le, nat_lt, eqb, is_none}
use Rattle.std.specs.Prelude.{IsTrue, All, unwrap_or, ◌||◌}
use Rattle.std.specs.List.{list_any}
use Rattle.std.specs.Option.{option_map_or}
use Rattle.std.proofs.lemmas.Bool.Decides.{nat_tests}
use Rattle.std.proofs.lemmas.List.Elements.{All-nil, All-push, All-weaker}
use Rattle.data_files.specs.declared.file_spec.FileSpec.{FileSpec}
use Rattle.data_files.specs.Tables.{faults, fits_compat, has_word, word_count}
use Rattle.data_files.specs.Words.{holds_words}
use Rattle.script_statement.specs.declared.who.Who.{Who}
use Rattle.script_parts.specs.declared.script.WordOf.{WordOf}
use Rattle.end_settings.specs.declared.key.EndKey.{EndKey}
use Rattle.end_settings.specs.declared.key.EndKey.TheVariants.{Node}
use Rattle.end_settings.specs.declared.row.Role.{Role}
use Rattle.end_settings.specs.declared.settings.Setting.{Setting}
use Rattle.end_settings.specs.Table.{has_key}
use Rattle.end_settings.specs.Given.{AreFitting, chosen, value_of, with_setting}
use Rattle.end_settings.proofs.Fitting.{Fits-chosen, fitting-with, none-fitting, value_of-with}
use Rattle.end_drafts.specs.declared.end_draft.EndDraft.{EndDraft}
use Rattle.script_statement.specs.declared.setup_statement.SetupStatement.{SetupStatement}
use Rattle.script_statement.specs.declared.setup_statement.SetupStatement.TheVariants.{Set, Compat, Block, File, Word}
use Rattle.end_drafts.specs.Drafts.{fresh_end, plan_of, lacks, exceeds, repeats, with_line}
use Rattle.script_parts.specs.Playable.{IsBetween, IsPlanOf}
use Rattle.script_parts.proofs.PlanSettings.{Fits-plan_with}
use Rattle.script_parts.proofs.MoreFiles.{faults-push, fits_compat-push, has_word-push}
use Rattle.end_drafts.proofs.Ranges.{IsSoundLine}

-- a block has at most 244 bytes, if there is one
abbrev pub IfShort : Option (List ℕ) → Type 0
IfShort None = Unit {0}
IfShort (Some bytes) = length bytes ≤ 244

pub record IsRight (end : EndDraft) : Type 0 where
  pub files : faults end.files ≡ None
  pub words : All (λ w. IsTrue (has_word end.files w.file w.index)) end.words
  pub compat : IsTrue (fits_compat end.files end.compat)
  pub block : IfShort end.block
  pub settings : AreFitting end.settings

pub right_at_first : IsRight fresh_end
right_at_first = record {
  files = refl;
  words = All-nil _;
  compat = refl;
  block = tt;
  settings = none-fitting;
}

pub right_with_setting : (end : EndDraft) (x : Setting) → IsRight end → IsRight (record end { settings = with_setting end.settings x })
right_with_setting end x h = record { files = h.files; words = h.words; compat = h.compat; block = h.block; settings = fitting-with end.settings x h.settings }

pub right_with_commands : (end : EndDraft) (left : ℕ) → IsRight end → IsRight (record end { commands_left = left })
right_with_commands end left h = record { files = h.files; words = h.words; compat = h.compat; block = h.block; settings = h.settings }

-- ---- one file more

pub right_with_file : (end : EndDraft) (x : FileSpec) → IsRight end → length end.files < 256 → IsBetween 1 1000 x.count → list_any (λ other. eqb other.number x.number) end.files ≡ false → IsRight (record end { files = end.files ++ x ∷ [] })
right_with_file end x h room within new = record {
  files = faults-push end.files x h.files room within new;
  words = All-weaker _ _ (λ w ok. has_word-push end.files x w.file w.index ok) end.words h.words;
  compat = fits_compat-push end.files x end.compat h.compat;
  block = h.block;
  settings = h.settings;
}

-- ---- one word more

below : (count index : ℕ) → nat_le count index ≡ false → nat_lt index count ≡ true
below count index h = grind (arith, nat_tests)

within_file : (o : Option FileSpec) (index : ℕ) → is_none o ≡ false → option_map_or (λ spec. nat_le (word_count spec) index) o false ≡ false → option_map_or (λ spec. nat_lt index (word_count spec)) o false ≡ true
within_file None index there inside = cc
within_file (Some x) index there inside = below (word_count x) index inside

pub right_with_word : (end : EndDraft) (w : WordOf) → IsRight end → is_none (find (λ spec. eqb spec.number w.file) end.files) ≡ false → option_map_or (λ spec. nat_le (word_count spec) w.index) (find (λ spec. eqb spec.number w.file) end.files) false ≡ false → IsRight (record end { words = end.words ++ w ∷ [] })
right_with_word end w h there inside = record {
  files = h.files;
  words = All-push (λ x. IsTrue (has_word end.files x.file x.index)) end.words w h.words (within_file (find (λ spec. eqb spec.number w.file) end.files) w.index there inside);
  compat = h.compat;
  block = h.block;
  settings = h.settings;
}

-- ---- the compatibility file and the block

no_other : (b : Bool) → not b ≡ false → b ≡ true
no_other true h = refl
no_other false h = cc

of_words : (o : Option FileSpec) → is_none o ≡ false → option_map_or (λ spec. not (holds_words spec.kind)) o false ≡ false → option_map_or (λ spec. holds_words spec.kind) o false ≡ true
of_words None there same = cc
of_words (Some x) there same = no_other (holds_words x.kind) same

pub right_with_compat : (end : EndDraft) (file : ℕ) → IsRight end → is_none (find (λ spec. eqb spec.number file) end.files) ≡ false → option_map_or (λ spec. not (holds_words spec.kind)) (find (λ spec. eqb spec.number file) end.files) false ≡ false → IsRight (record end { compat = Some file })
right_with_compat end file h there same = record {
  files = h.files;
  words = h.words;
  compat = of_words (find (λ spec. eqb spec.number file) end.files) there same;
  block = h.block;
  settings = h.settings;
}

pub right_with_block : (end : EndDraft) (bytes : List ℕ) → IsRight end → length bytes ≤ 244 → IsRight (record end { block = Some bytes })
right_with_block end bytes h short = record { files = h.files; words = h.words; compat = h.compat; block = short; settings = h.settings }

-- ---- any line

-- a file that is neither missing a value nor one too many
room_for_file : (none full : Bool) → (none || full) ≡ false → full ≡ false
room_for_file true full h = cc
room_for_file false full h = h

fewer : (n : ℕ) → nat_le 256 n ≡ false → n < 256
fewer n h = grind (arith, nat_tests)

pub right_with_line : (who : Who) (role : Role) (end : EndDraft) (line : SetupStatement) → IsRight end → IsSoundLine line → lacks role end line ≡ false → exceeds end line ≡ false → repeats end line ≡ false → IsRight (with_line who end line)
right_with_line who role end (Set x) h sound there inside new = right_with_setting end x h
right_with_line who role end (Compat None) h sound there inside new = h
right_with_line who role end (Compat (Some None)) h sound there inside new = h
right_with_line who role end (Compat (Some (Some file))) h sound there inside new = right_with_compat end file h there inside
right_with_line who role end (Block None) h sound there inside new = h
right_with_line who role end (Block (Some bytes)) h sound there inside new = right_with_block end bytes h sound.1
right_with_line who role end (File None) h sound there inside new = h
right_with_line who role end (File (Some x)) h sound there inside new = right_with_file end x h (fewer (length end.files) (room_for_file false (nat_le 256 (length end.files)) inside)) sound new
right_with_line who role end (Word None index value) h sound there inside new = h
right_with_line who role end (Word (Some file) index value) h sound there inside new = right_with_word end (record { who = who; file = file; index = index; value = value }) h there inside

-- a line of an end is no command
pub same_commands : (who : Who) (end : EndDraft) (line : SetupStatement) → (with_line who end line).commands_left ≡ end.commands_left
same_commands who end (Set x) = refl
same_commands who end (Compat None) = refl
same_commands who end (Compat (Some None)) = refl
same_commands who end (Compat (Some (Some file))) = refl
same_commands who end (Block None) = refl
same_commands who end (Block (Some bytes)) = refl
same_commands who end (File None) = refl
same_commands who end (File (Some x)) = refl
same_commands who end (Word None index value) = refl
same_commands who end (Word (Some file) index value) = refl

-- a key of a station isn't the address
no_node : (role : Role) (key : EndKey) → has_key role Node ≡ false → has_key role key ≡ true → key ≡ Node → ⊥
no_node role key without has is = let there : has_key role Node ≡ true = subst (λ (k : EndKey). has_key role k ≡ true) is has in cc

node_kept : (role : Role) (given : List (Option ℕ)) (x : Setting) → has_key role Node ≡ false → has_key role x.key ≡ true → value_of (with_setting given x) Node ≡ value_of given Node
node_kept role given x without is = value_of-with given x Node (λ o. o ≡ value_of given Node) (λ same. absurd (no_node role x.key without is same)) refl

-- no line sets the address of an end whose kind has no such key
pub same_node : (role : Role) (who : Who) (end : EndDraft) (line : SetupStatement) → has_key role Node ≡ false → lacks role end line ≡ false → value_of (with_line who end line).settings Node ≡ value_of end.settings Node
same_node role who end (Set x) without there = node_kept role end.settings x without (no_other (has_key role x.key) there)
same_node role who end (Compat None) without there = refl
same_node role who end (Compat (Some None)) without there = refl
same_node role who end (Compat (Some (Some file))) without there = refl
same_node role who end (Block None) without there = refl
same_node role who end (Block (Some bytes)) without there = refl
same_node role who end (File None) without there = refl
same_node role who end (File (Some x)) without there = refl
same_node role who end (Word None index value) without there = refl
same_node role who end (Word (Some file) index value) without there = refl

-- ---- the plan

short_or_none : (o : Option (List ℕ)) → IfShort o → length (unwrap_or o []) ≤ 244
short_or_none None h = omega arith
short_or_none (Some bytes) h = h

pub plan_is_right : (who : Who) (standard : ℕ) (end : EndDraft) → standard ≤ 255 → IsRight end → IsPlanOf who (plan_of who standard end)
plan_is_right who standard end few h = record {
  end = refl;
  files = h.files;
  words = h.words;
  settings = Fits-plan_with who (chosen end.settings standard) end.compat (unwrap_or end.block []) end.files end.words (Fits-chosen end.settings standard h.settings few);
  compat = h.compat;
  block = short_or_none end.block h.block;
}
