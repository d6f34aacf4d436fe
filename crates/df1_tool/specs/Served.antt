-- What a run of `serve`, `issue`, `pull` or `push` shows: its status, what it read and wrote, and its note.
use Rattle.std.specs.Prelude.{◌≡◌, ◌≢◌, ◌⊎◌, ◌≤◌, ℕ, true, false, List, [], ◌∷◌, ◌++◌, length, codes, decimal, Option, Some}
use Rattle.df1_base.specs.Outside.{Rose, Put, WroteLess}
use Rattle.df1_base.specs.Signals.{input_signals}
use Rattle.df1_base.specs.declared.signal.Signal.{Signal}
use Rattle.df1_base.specs.declared.signal.Signal.TheVariants.{End, Long}
use Rattle.df1_shelf.specs.Shelves.{Filed, IsLonger, is_sound}
use Rattle.df1_node.specs.Node.{NodeState}
use Rattle.duplex_end.specs.End.{EndState}
use Rattle.df1_plan.specs.declared.plan.Plan.{Plan}
use Rattle.df1_plan.specs.declared.fault.PlanFault.{PlanFault}
use Rattle.df1_plan.specs.declared.fault.PlanFault.TheVariants as cause
use Rattle.df1_plan.specs.Keys.{name_of}
use Rattle.df1_plan.specs.Plans.{IsPlanOfText}
use Rattle.df1_service.specs.Plans.{SaysNone, plan_limit}
use Rattle.df1_service.specs.Service.{Commands, Serving, told_text}
use Rattle.df1_service.specs.Wire.{HasNoForm, IsCut, IsServed, OfPlan, Reached, StoppedByInput, StoppedByOutput}
use Rattle.df1_service.specs.declared.fault.ServiceFault.{ServiceFault}
use Rattle.df1_service.specs.declared.fault.ServiceFault.TheVariants as fault
use Rattle.df1_tool.specs.Notes.{IsNoted, input_failed, input_too_long, output_failed, no_memory}

-- ---- statuses and notes

abbrev pub status_of_fault : ServiceFault → ℕ
status_of_fault fault.PlanFailed = 6
status_of_fault fault.PlanTooLong = 6
status_of_fault (fault.Plan refused) = 3
status_of_fault (fault.Form at) = 3
status_of_fault (fault.Cut at) = 3
status_of_fault fault.Input = 4
status_of_fault fault.Output = 5
status_of_fault fault.TooLong = 8
status_of_fault fault.NoMemory = 7

-- why a document is no plan
abbrev pub cause_words : PlanFault → List ℕ
cause_words cause.Text = codes "text"
cause_words cause.UnknownKey = codes "unknown key"
cause_words (cause.Key key) = codes "key " ++ name_of key
cause_words (cause.File n) = codes "file " ++ decimal n
cause_words (cause.Issue n) = codes "issue " ++ decimal n
cause_words cause.NoMemory = codes "no memory"

abbrev pub note_of_fault : ServiceFault → List ℕ
note_of_fault fault.PlanFailed = codes "df1: plan cannot be read\n"
note_of_fault fault.PlanTooLong = codes "df1: plan is over 1048576 bytes\n"
note_of_fault (fault.Plan refused) = codes "df1: plan: " ++ cause_words refused ++ codes "\n"
note_of_fault (fault.Form at) = codes "df1: record at " ++ decimal at ++ codes ": form\n"
note_of_fault (fault.Cut at) = codes "df1: record at " ++ decimal at ++ codes ": cut\n"
note_of_fault fault.Input = input_failed
note_of_fault fault.Output = output_failed
note_of_fault fault.TooLong = input_too_long
note_of_fault fault.NoMemory = no_memory

-- what is told in the end, of the commands that were issued
abbrev pub told_of : Commands → EndState NodeState → List ℕ
told_of issues end = told_text issues end.host.initiator

-- it is told, with status 0, or the note failed and a first part is, and not all, with status 5
pub record IsFinished (noted noted' : Option (List ℕ)) (faults faults' : ℕ) (text : List ℕ) (status : ℕ) : Type 0 where
  pub statuses : (status ≡ 0) ⊎ (status ≡ 5)
  pub done : status ≡ 0 → Put noted noted' text × (faults' ≡ faults)
  pub failed : status ≡ 5 → Rose faults faults' × WroteLess noted noted' text

-- ---- a run

-- the outside: the files of the shelf, what is left of the input, what the output and the note hold, and how often each has failed
pub record Outside : Type 0 where
  pub files : List ℕ → Option Filed
  pub shelf_faults : ℕ
  pub left : Option (List ℕ)
  pub input_faults : ℕ
  pub held : Option (List ℕ)
  pub out_faults : ℕ
  pub noted : Option (List ℕ)
  pub note_faults : ℕ

-- the note of a fault is written, or a part of it where the note failed
abbrev pub Notes : Outside → Outside → ServiceFault → Type 0
Notes before after fault = IsNoted before.noted after.noted before.note_faults after.note_faults (note_of_fault fault)

-- nothing was read, and nothing is written to the output
abbrev pub IsUntouched : Outside → Outside → Type 0
IsUntouched before after = (after.left ≡ before.left) × (after.held ≡ before.held)

-- What a run of `serve`, `issue`, `pull` or `push` with this plan shows, by its status.
--
-- 0: the input was read to its end, all that the plan's end gives over its signals is written, and so is what is told of the commands.
-- 3: the plan is refused, or a record: all that the end gave over the signals before it is written.
-- 4: the input has failed: all that the end gave over the signals of the bytes taken is written.
-- 5: the output has failed, at most 4,096 bytes after those that made the first missing byte due; or the note has, and not all is told.
-- 6: the plan can't be read, or is over its limit. 7: no memory, before the first signal.
-- 8: the input is over its limit: all that the end gave over the signals before it is written.
pub record ServiceRun (service : Serving) (name : List ℕ) (before after : Outside) (status : ℕ) : Type 0 where
  pub statuses : (status ≡ 0) ⊎ (status ≡ 3) ⊎ (status ≡ 4) ⊎ (status ≡ 5) ⊎ (status ≡ 6) ⊎ (status ≡ 7) ⊎ (status ≡ 8)
  pub done : status ≡ 0 → OfPlan (before.files name) service.issues (λ begun.
      (ended : EndState NodeState) × IsServed service.timed begun ended before.left after.left before.held after.held
      × Put before.noted after.noted (told_of service.issues ended) × (after.note_faults ≡ before.note_faults))
  pub refused : status ≡ 3 →
      ((reason : PlanFault) × SaysNone (before.files name) reason × IsUntouched before after × Notes before after (fault.Plan reason))
      ⊎ ((at : ℕ) × OfPlan (before.files name) service.issues (λ begun. HasNoForm service.timed begun at before.left after.left before.held after.held) × Notes before after (fault.Form at))
      ⊎ ((at : ℕ) × OfPlan (before.files name) service.issues (λ begun. IsCut service.timed begun at before.left after.left before.held after.held) × Notes before after (fault.Cut at))
  pub broken : status ≡ 4 → Rose before.input_faults after.input_faults
      × OfPlan (before.files name) service.issues (λ begun. StoppedByInput service.timed begun before.left after.left before.held after.held)
      × Notes before after fault.Input
  pub cut : status ≡ 5 →
      (Rose before.out_faults after.out_faults
      × OfPlan (before.files name) service.issues (λ begun. StoppedByOutput service.timed begun before.left after.left before.held after.held)
      × Notes before after fault.Output)
      ⊎ (Rose before.note_faults after.note_faults
      × OfPlan (before.files name) service.issues (λ begun.
      (ended : EndState NodeState) × IsServed service.timed begun ended before.left after.left before.held after.held × WroteLess before.noted after.noted (told_of service.issues ended)))
  pub planless : status ≡ 6 →
      (Rose before.shelf_faults after.shelf_faults × (is_sound (before.files name) ≡ true → ⊥) × Notes before after fault.PlanFailed)
      ⊎ (IsLonger (before.files name) plan_limit × Notes before after fault.PlanTooLong)
  pub wanting : status ≡ 7 → Notes before after fault.NoMemory
  pub long : status ≡ 8 → OfPlan (before.files name) service.issues (λ begun. Reached service.timed begun Long before.left after.left before.held after.held)
      × Notes before after fault.TooLong
  pub calm : status ≢ 4 → after.input_faults ≡ before.input_faults
  pub steady : status ≢ 5 → after.out_faults ≡ before.out_faults
  pub shelf_calm : status ≢ 6 → after.shelf_faults ≡ before.shelf_faults
  pub same_files : (other : List ℕ) → after.files other ≡ before.files other
  pub complete : (file : Filed) (plan : Plan) (bytes : List ℕ) (signals : List Signal)
      → before.files name ≡ Some file → file.fails ≡ false → length file.bytes ≤ plan_limit → IsPlanOfText file.bytes plan
      → before.left ≡ Some bytes → input_signals service.timed 0 bytes ≡ signals ++ End ∷ []
      → (Rose before.input_faults after.input_faults → ⊥) → (Rose before.out_faults after.out_faults → ⊥) → (Rose before.note_faults after.note_faults → ⊥)
      → (status ≡ 0) ⊎ (status ≡ 7)
