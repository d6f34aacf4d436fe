-- When an end is deceived: it hears a whole frame that is no transmission of the other end.
use Rattle.std.specs.Prelude.{ℕ, Bool, false, ◌&&◌, not, ◌==◌, List, [], ◌∷◌, Option, Some, None, if◌then◌else◌}
use Rattle.std.specs.Str.{bytes_eq}
use Rattle.lane_cells.specs.Cells.{Ending}

-- a transmission ends there, and its body is this one
abbrev pub is_sent : Option Ending → List ℕ → Bool
is_sent None body = false
is_sent (Some ending) body = bytes_eq ending.body body

-- a whole frame is heard at a byte where no transmission ends, or one of another body
abbrev pub is_deception : Bool → Option Ending → List ℕ → Bool
is_deception whole ends body = whole && not (is_sent ends body)

-- how often an end is deceived there
abbrev pub deceptions : Bool → Option Ending → List ℕ → ℕ
deceptions whole ends body = if is_deception whole ends body then 1 else 0

-- ---- at a station of a half-duplex line

-- a body is for a station: it is its first byte
abbrev pub is_to : ℕ → List ℕ → Bool
is_to station [] = false
is_to station (first ∷ rest) = first == station

-- a whole message to a station is heard at a byte where no transmission ends, or one of another body, or one for another station
abbrev pub is_station_deception : Bool → ℕ → Option Ending → List ℕ → Bool
is_station_deception whole station ends body = whole && not (is_sent ends body && is_to station body)

-- how often a station is deceived there
abbrev pub station_deceptions : Bool → ℕ → Option Ending → List ℕ → ℕ
station_deceptions whole station ends body = if is_station_deception whole station ends body then 1 else 0
