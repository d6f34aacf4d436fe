-- Half-duplex scripts whose events can happen: those of a master and its stations.
use Rattle.std.specs.Prelude.{◌≡◌, ◌≢◌, ℕ, ◌*◌, ◌<◌, ◌≤◌, Bool, true, false, List, [], ◌∷◌, length, map, count_by, sum_by, nat_eq, ◌==◌, IsTrue, if◌then◌else◌}
use Rattle.std.specs.List.{All, IsDistinct, list_any}
use Rattle.script_statement.specs.declared.who.Who.{Who}
use Rattle.script_statement.specs.declared.who.Who.TheVariants.{M, S}
use Rattle.script_statement.specs.Statements.{is_payload}
use Rattle.script_parts.specs.declared.script.Lane.{Lane}
use Rattle.script_parts.specs.declared.script.Event.{Event}
use Rattle.script_parts.specs.declared.script.Event.TheVariants.{Issue, Take, Deliver, Lose, Alter, Foreign, Tick}
use Rattle.script_parts.specs.declared.script.EndPlan.{EndPlan}
use Rattle.script_parts.specs.declared.script.Script.{Script}
use Rattle.script_parts.specs.Playable.{IsBetween, IsPlanOf, IsPlayable}

-- ---- the ends

-- a number that a station may have
abbrev pub IsStationNumber : ℕ → Type 0
IsStationNumber number = (number ≢ 16) × (number ≤ 254)

-- numbers of stations: at most 32, and no two the same
pub record AreStationNumbers (numbers : List ℕ) : Type 0 where
  pub at_most : length numbers ≤ 32
  pub distinct : IsDistinct nat_eq numbers
  pub each : All IsStationNumber numbers

-- the plans behind that of the master
abbrev pub station_plans : List EndPlan → List EndPlan
station_plans [] = []
station_plans (master ∷ stations) = stations

-- the numbers of the stations, in the order in which they were declared: a station's address is its number
abbrev pub numbers_of : List EndPlan → List ℕ
numbers_of ends = map (λ (plan : EndPlan). plan.node) (station_plans ends)

abbrev pub IsStationPlan : EndPlan → Type 0
IsStationPlan plan = IsPlanOf (S plan.node) plan

-- the master, then the stations
abbrev pub AreHalfEnds : List EndPlan → Type 0
AreHalfEnds [] = ⊥
AreHalfEnds (master ∷ stations) = IsPlanOf M master × All IsStationPlan stations × AreStationNumbers (numbers_of (master ∷ stations))

-- ---- events

-- a station of this number is declared
abbrev pub is_declared : List ℕ → ℕ → Bool
is_declared numbers station = list_any (λ number. number == station) numbers

-- an end of the line: the master, or a station that is declared
abbrev pub is_half_end : List ℕ → Who → Bool
is_half_end numbers M = true
is_half_end numbers (S station) = is_declared numbers station
is_half_end numbers other = false

-- from the master to a station, or from a station to the master
abbrev pub half_joins : List ℕ → Who → Who → Bool
half_joins numbers M (S station) = is_declared numbers station
half_joins numbers (S station) M = is_declared numbers station
half_joins numbers from to = false

abbrev pub IsHalfLane : List ℕ → Lane → Type 0
IsHalfLane numbers lane = IsTrue (half_joins numbers lane.from lane.to)

abbrev pub is_master : Who → Bool
is_master M = true
is_master other = false

-- an event that may happen: the master alone issues, to a station that is declared, and has ticks
abbrev pub IsHalfPossible : List ℕ → Event → Type 0
IsHalfPossible numbers (Issue who src dst payload) = IsTrue (is_master who) × IsTrue (is_declared numbers dst) × IsTrue (is_payload payload)
IsHalfPossible numbers (Take who n) = IsTrue (is_half_end numbers who) × IsBetween 1 4000000 n
IsHalfPossible numbers (Deliver lane n) = IsHalfLane numbers lane × IsBetween 1 4000000 n
IsHalfPossible numbers (Lose lane n) = IsHalfLane numbers lane × IsBetween 1 4000000 n
IsHalfPossible numbers (Alter lane mask) = IsHalfLane numbers lane × (0 < mask)
IsHalfPossible numbers (Foreign lane bytes) = IsHalfLane numbers lane × IsBetween 1 250 (length bytes)
IsHalfPossible numbers (Tick who n) = IsTrue (is_master who) × IsBetween 1 4000000 n

-- a command
abbrev pub is_issue : Event → Bool
is_issue (Issue by src dst payload) = true
is_issue other = false

-- how many events a byte of the master counts: one for each station, and one where none is declared
abbrev pub master_weight : List ℕ → ℕ
master_weight [] = 1
master_weight (number ∷ numbers) = length (number ∷ numbers)

abbrev pub take_count : List ℕ → Who → ℕ → ℕ
take_count numbers M n = n * master_weight numbers
take_count numbers other n = n

-- how many events an event counts
abbrev pub half_count_of : List ℕ → Event → ℕ
half_count_of numbers (Issue who src dst payload) = 1
half_count_of numbers (Take who n) = take_count numbers who n
half_count_of numbers (Deliver lane n) = n
half_count_of numbers (Lose lane n) = n
half_count_of numbers (Alter lane mask) = 1
half_count_of numbers (Foreign lane bytes) = length bytes
half_count_of numbers (Tick who n) = n

-- a half-duplex script whose ends are set up rightly, whose events may all happen, with at most 65,535 commands and 5,000,000 events
pub record IsHalfPlayable (script : Script) : Type 0 where
  pub mode : script.half ≡ true
  pub ends : AreHalfEnds script.ends
  pub events : All (IsHalfPossible (numbers_of script.ends)) script.events
  pub commands : count_by is_issue script.events ≤ 65535
  pub sum : sum_by (half_count_of (numbers_of script.ends)) script.events ≤ 5000000

-- ---- either mode

-- a script that can be played, in its mode
pub record CanBePlayed (script : Script) : Type 0 where
  pub full : script.half ≡ false → IsPlayable script
  pub half : script.half ≡ true → IsHalfPlayable script
