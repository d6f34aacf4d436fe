-- The stations that lines declared, and their numbers.
use Rattle.std.specs.Prelude.{◌≡◌, ◌-◌, ◌≤◌, ℕ, Bool, List, [], ◌∷◌, ◌++◌, length, map, nat_le, find, position, Option, Some, None, slice_set, ◌==◌, if◌then◌else◌}
use Rattle.std.specs.List.{position_or_len}
use Rattle.std.specs.Option.{option_map_or}
use Rattle.std.specs.Ordering.{nat_cmp}
use Rattle.std.specs.BTreeMap.{BTreeMap, get}
use Rattle.script_statement.specs.declared.setup_statement.SetupStatement.{SetupStatement}
use Rattle.script_statement.specs.declared.who.Who.TheVariants.{S}
use Rattle.script_parts.specs.declared.script.EndPlan.{EndPlan}
use Rattle.script_parts.specs.HalfPlayable.{is_declared}
use Rattle.end_drafts.specs.Drafts.{fresh_end, plan_of, with_line}
use Rattle.half_script.specs.declared.stations.StationDraft.{StationDraft}

abbrev pub has_number : ℕ → StationDraft → Bool
has_number number station = station.number == number

-- the numbers of the stations, in the order in which they were declared
abbrev pub numbers_in : List StationDraft → List ℕ
numbers_in stations = map (λ (station : StationDraft). station.number) stations

-- the number of a station that is declared
abbrev pub declared : List ℕ → ℕ → Option ℕ
declared numbers number = if is_declared numbers number then Some number else None

-- a station of which no line told anything
abbrev pub fresh_station : ℕ → StationDraft
fresh_station number = record { number = number; end = fresh_end }

-- the first station of a number
abbrev pub station_at : List StationDraft → ℕ → Option StationDraft
station_at stations number = find (has_number number) stations

-- the stations with a further one at the end, if there is room for it
abbrev pub with_station : List StationDraft → ℕ → List StationDraft
with_station stations number = if nat_le 32 (length stations) then stations else stations ++ fresh_station number ∷ []

-- a station after a line of it
abbrev pub line_taken : StationDraft → SetupStatement → StationDraft
line_taken station line = record station { end = with_line (S station.number) station.end line }

-- the stations after a line of the first of a number
abbrev pub with_station_line : List StationDraft → ℕ → SetupStatement → List StationDraft
with_station_line stations number line =
    option_map_or (λ station. slice_set stations (position_or_len (has_number number) stations) (line_taken station line)) (station_at stations number) stations

-- a station after a command of it
abbrev pub command_taken : StationDraft → StationDraft
command_taken station = record station { end = record station.end { commands_left = station.end.commands_left - 1 } }

-- the stations after a command of the first of a number
abbrev pub with_station_command : List StationDraft → ℕ → List StationDraft
with_station_command stations number =
    option_map_or (λ station. slice_set stations (position_or_len (has_number number) stations) (command_taken station)) (station_at stations number) stations

-- how many commands the station of a number may still issue: 65,535 where no station has the number
abbrev pub commands_left_at : List StationDraft → ℕ → ℕ
commands_left_at stations number = option_map_or (λ (station : StationDraft). station.end.commands_left) (station_at stations number) 65535

-- the plan of a station: its address is its number
abbrev pub station_plan : StationDraft → EndPlan
station_plan station = plan_of (S station.number) station.number station.end

abbrev pub plans_of : List StationDraft → List EndPlan
plans_of stations = map station_plan stations

-- a map has the first place of each number and no others, of at most 32 stations
pub record ArePlaces (places : BTreeMap ℕ ℕ) (stations : List StationDraft) : Type 0 where
  pub same : (number : ℕ) → get nat_cmp places number ≡ position (has_number number) stations
  pub at_most : length stations ≤ 32
