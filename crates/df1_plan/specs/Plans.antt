-- What a plan says, and the first cause why a table is none.
use Rattle.std.specs.Prelude.{◌≡◌, ℕ, List, [], ◌∷◌, ◌++◌, Option, Some, None, Result, Ok, Err, unwrap_or, if◌then◌else◌}
use Rattle.std.specs.Option.{option_map}
use Rattle.std.specs.Str.{IsUtf8}
use Rattle.df1_check.specs.declared.Check.{Check}
use Rattle.df1_check.specs.declared.Check.TheVariants.{Bcc}
use Rattle.data_files.specs.Tables.{fits_compat}
use Rattle.end_settings.specs.declared.key.EndKey.{EndKey}
use Rattle.end_settings.specs.Table.{first_of}
use Rattle.script_statement.specs.declared.who.Who.TheVariants.{A}
use Rattle.script_parts.specs.Plans.{setting_in}
use Rattle.toml.specs.Data.{Members, get_member}
use Rattle.toml.specs.Parse.{parse_document}
use Rattle.df1_plan.specs.declared.plan.Plan.{Plan}
use Rattle.df1_plan.specs.declared.plan.PlannedCommand.{PlannedCommand}
use Rattle.df1_plan.specs.declared.files.PlannedFile.{PlannedFile}
use Rattle.df1_plan.specs.declared.plan_key.PlanKey.{PlanKey}
use Rattle.df1_plan.specs.declared.plan_key.PlanKey.TheVariants as key
use Rattle.df1_plan.specs.declared.fault.PlanFault.{PlanFault}
use Rattle.df1_plan.specs.declared.fault.PlanFault.TheVariants as fault
use Rattle.df1_plan.specs.Keys.{is_known, has_other, name_of, told}
use Rattle.df1_plan.specs.Settings.{given_at, refused_before, refused_in, refused_last}
use Rattle.df1_plan.specs.Values.{integer_in, check_in, block_in}
use Rattle.df1_plan.specs.Files.{files_in, specs_of, words_of_all}
use Rattle.df1_plan.specs.Issues.{commands_in}

-- ---- what stands at each key that is no setting

abbrev pub block : Members → Result (List ℕ) PlanFault
block = told key.Block block_in []

abbrev pub check : Members → Result Check PlanFault
check = told key.Check check_in Bcc

abbrev pub compat : Members → Result (Option ℕ) PlanFault
compat = told key.Compat (λ value. option_map Some (integer_in 0 999 value)) None

abbrev pub files : Members → Result (List PlannedFile) PlanFault
files members = files_in (get_member (name_of key.File) members)

abbrev pub issue : Members → Result (List PlannedCommand) PlanFault
issue members = commands_in (get_member (name_of key.Issue) members)

abbrev pub peer : Members → Result ℕ PlanFault
peer = told key.Peer (integer_in 0 255) 0

-- ---- the first cause

-- the cause of a value that is refused
abbrev pub refusal : {T : Type 0} → Result T PlanFault → Option PlanFault
refusal (Ok read) = None
refusal (Err cause) = Some cause

-- the compatibility file is one of the files, and has bits or integers
abbrev pub compat_refusal : Result (List PlannedFile) PlanFault → Result (Option ℕ) PlanFault → Option PlanFault
compat_refusal (Ok planned) (Ok number) = if fits_compat (specs_of planned) number then None else Some (fault.Key key.Compat)
compat_refusal planned number = None

-- a setting that is refused, where it stands before this key
abbrev pub before : PlanKey → Members → Option PlanFault
before other members = refused_before other (refused_in members)

-- the keys before `file`, in the order of their bytes
abbrev pub front_causes : Members → List (Option PlanFault)
front_causes members =
    before key.Block members ∷ refusal (block members)
    ∷ before key.Check members ∷ refusal (check members)
    ∷ before key.Compat members ∷ refusal (compat members)
    ∷ []

-- the keys that have entries, and those between them
abbrev pub entry_causes : Members → List (Option PlanFault)
entry_causes members =
    before key.File members ∷ refusal (files members)
    ∷ before key.Issue members ∷ refusal (issue members)
    ∷ []

-- the keys after `issue`, in the order of their bytes
abbrev pub back_causes : Members → List (Option PlanFault)
back_causes members =
    before key.Peer members ∷ refusal (peer members)
    ∷ refused_last (refused_in members)
    ∷ []

-- in this order: a key that is none; the keys in the order of their bytes; the compatibility file
abbrev pub causes : Members → List (Option PlanFault)
causes members =
    (if has_other is_known members then Some fault.UnknownKey else None)
    ∷ front_causes members
    ++ entry_causes members
    ++ back_causes members
    ++ compat_refusal (files members) (compat members)
    ∷ []

-- the first that is there
abbrev pub first_there : {T : Type 0} → List (Option T) → Option T
first_there [] = None
first_there (Some there ∷ others) = Some there
first_there (None ∷ others) = first_there others

abbrev pub first_cause : Members → Option PlanFault
first_cause members = first_there (causes members)

-- ---- a plan that is told

-- the plan says what the table says, key by key; a setting that is left out has its value at first, at the address 1
pub record Says (members : Members) (plan : Plan) : Type 0 where
  pub end_is : plan.end.who ≡ A
  pub settings_are : (setting : EndKey) → setting_in plan.end setting ≡ unwrap_or (given_at members setting) (first_of 1 setting)
  pub block_is : block members ≡ Ok plan.end.block
  pub check_is : check members ≡ Ok plan.check
  pub compat_is : compat members ≡ Ok plan.end.compat
  pub planned : List PlannedFile
  pub files_are : files members ≡ Ok planned
  pub specs_are : plan.end.files ≡ specs_of planned
  pub words_are : plan.end.words ≡ words_of_all planned
  pub issue_is : issue members ≡ Ok plan.issue
  pub peer_is : peer members ≡ Ok plan.peer

-- the text is a document with this table, of which this is the plan, and no cause stands against it
pub record IsPlanOfText (text : List ℕ) (plan : Plan) : Type 0 where
  pub utf8 : IsUtf8 text
  pub members : Members
  pub document : parse_document text ≡ Some members
  pub none : first_cause members ≡ None
  pub says : Says members plan

-- the cause of a document
abbrev pub cause_of : Option Members → Option PlanFault
cause_of None = Some fault.Text
cause_of (Some members) = first_cause members

-- the first cause why the text is no plan: a text that isn't UTF-8 is no document
pub record IsRefusedFor (text : List ℕ) (cause : PlanFault) : Type 0 where
  pub document : IsUtf8 text → cause_of (parse_document text) ≡ Some cause
  pub bytes : (IsUtf8 text → ⊥) → cause ≡ fault.Text
