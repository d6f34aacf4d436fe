-- Scripts whose events can happen: what a script meets that was read.
use Rattle.std.specs.Prelude.{◌≡◌, ℕ, ◌<◌, ◌≤◌, Bool, true, false, List, [], ◌∷◌, length, count_by, sum_by, All, None, IsTrue}
use Rattle.data_files.specs.Tables.{faults, fits_compat, has_word}
use Rattle.end_settings.specs.declared.key.EndKey.{EndKey}
use Rattle.end_settings.specs.Rows.{Fits}
use Rattle.end_settings.specs.Table.{row_of}
use Rattle.script_statement.specs.declared.who.Who.{Who}
use Rattle.script_statement.specs.declared.who.Who.TheVariants.{A, B}
use Rattle.script_parts.specs.declared.script.Lane.{Lane}
use Rattle.script_parts.specs.declared.script.Event.{Event}
use Rattle.script_parts.specs.declared.script.Event.TheVariants.{Issue, Take, Deliver, Lose, Alter, Foreign, Tick}
use Rattle.script_parts.specs.declared.script.EndPlan.{EndPlan}
use Rattle.script_parts.specs.declared.script.Script.{Script}
use Rattle.script_statement.specs.Statements.{is_payload}
use Rattle.script_parts.specs.Plans.{setting_in}

-- a number within bounds
abbrev pub IsBetween : ℕ → ℕ → ℕ → Type 0
IsBetween least most n = (least ≤ n) × (n ≤ most)

-- the plan of an end of a line: files such as data tables may have, words within them, one of them as the compatibility
-- file, if there is one, and of each key a value that it may have
pub record IsPlanOf (who : Who) (plan : EndPlan) : Type 0 where
  pub end : plan.who ≡ who
  pub files : faults plan.files ≡ None
  pub words : All (λ w. IsTrue (has_word plan.files w.file w.index)) plan.words
  pub settings : (key : EndKey) → Fits (row_of key).values (setting_in plan key)
  pub compat : IsTrue (fits_compat plan.files plan.compat)
  pub block : length plan.block ≤ 244

-- end a, then end b
abbrev pub AreEnds : List EndPlan → Type 0
AreEnds (a ∷ b ∷ []) = IsPlanOf A a × IsPlanOf B b
AreEnds other = ⊥

-- an end of a full-duplex link
abbrev pub is_end : Who → Bool
is_end A = true
is_end B = true
is_end other = false

-- from one end of a full-duplex link to the other
abbrev pub joins : Who → Who → Bool
joins A B = true
joins B A = true
joins from to = false

abbrev pub IsLane : Lane → Type 0
IsLane lane = IsTrue (joins lane.from lane.to)

-- an event that may happen
abbrev pub IsPossible : Event → Type 0
IsPossible (Issue who src dst payload) = IsTrue (is_end who) × IsTrue (is_payload payload)
IsPossible (Take who n) = IsTrue (is_end who) × IsBetween 1 4000000 n
IsPossible (Deliver lane n) = IsLane lane × IsBetween 1 4000000 n
IsPossible (Lose lane n) = IsLane lane × IsBetween 1 4000000 n
IsPossible (Alter lane mask) = IsLane lane × (0 < mask)
IsPossible (Foreign lane bytes) = IsLane lane × IsBetween 1 250 (length bytes)
IsPossible (Tick who n) = IsTrue (is_end who) × IsBetween 1 4000000 n

abbrev pub is_same_end : Who → Who → Bool
is_same_end A A = true
is_same_end B B = true
is_same_end who other = false

-- a command of this end
abbrev pub issues : Who → Event → Bool
issues who (Issue by src dst payload) = is_same_end who by
issues who event = false

-- how many events an event counts
abbrev pub count_of : Event → ℕ
count_of (Issue who src dst payload) = 1
count_of (Take who n) = n
count_of (Deliver lane n) = n
count_of (Lose lane n) = n
count_of (Alter lane mask) = 1
count_of (Foreign lane bytes) = length bytes
count_of (Tick who n) = n

-- a full-duplex script whose ends are set up rightly, whose events may all happen, with at most 65,535 commands of each end and 5,000,000 events:
-- those of a text are 4,000,000 at most, and commands may be put in front of them
pub record IsPlayable (script : Script) : Type 0 where
  pub mode : script.half ≡ false
  pub ends : AreEnds script.ends
  pub events : All IsPossible script.events
  pub commands_of_a : count_by (issues A) script.events ≤ 65535
  pub commands_of_b : count_by (issues B) script.events ≤ 65535
  pub sum : sum_by count_of script.events ≤ 5000000
