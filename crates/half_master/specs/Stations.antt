-- The stations of a master's list, with the key that is kept for each.
use Rattle.std.specs.Prelude.{◌≢◌, ◌≤◌, ℕ, ◌+◌, Bool, List, length, map, Some, None, nat_eq, nat_lt, ◌==◌, slice_get, slice_set, if◌then◌else◌}
use Rattle.std.specs.List.{All, IsDistinct, list_any}
use Rattle.pccc_envelope.specs.declared.key.Key.{Key}
use Rattle.half_master.specs.declared.stations.Station.{Station}

-- a number that a station may have
abbrev pub IsNumber : ℕ → Type 0
IsNumber number = (number ≢ 16) × (number ≢ 255)

-- the numbers of the stations of a list: at most 32, each one that a station may have, and no two the same
pub record AreStations (numbers : List ℕ) : Type 0 where
  pub at_most : length numbers ≤ 32
  pub distinct : IsDistinct nat_eq numbers
  pub each : All IsNumber numbers

-- the stations with these numbers, of which no key is kept
abbrev pub listed : List ℕ → List Station
listed numbers = map (λ number. record { number = number; kept = None }) numbers

-- their numbers
abbrev pub numbers_of : List Station → List ℕ
numbers_of stations = map {A = Station} (λ station. station.number) stations

-- a station of the list has this number
abbrev pub is_listed : List Station → ℕ → Bool
is_listed stations number = list_any {X = Station} (λ station. station.number == number) stations

-- the key is kept for the station at this place, and for no other
abbrev pub with_key : List Station → ℕ → Key → List Station
with_key stations place key = elim (slice_get stations place) [
  | None ↦ stations
  | Some station ↦ slice_set stations place (record { number = station.number; kept = Some key })
]

-- the place after this one; after the last comes the first
abbrev pub place_after : List Station → ℕ → ℕ
place_after stations place = if nat_lt (place + 1) (length stations) then place + 1 else 0
