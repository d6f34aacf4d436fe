-- What the lines of a report tell of one of several stations.
use Rattle.std.specs.Prelude.{ℕ, Bool, true, List, slice_index, ◌==◌}
use Rattle.std.specs.List.{filter}
use Rattle.replay_report.specs.declared.record.Line.{Line}
use Rattle.replay_report.specs.declared.record.Line.TheVariants as line

-- a reply is from this station: its SRC, the second byte, is the station's number
abbrev pub is_from : ℕ → List ℕ → Bool
is_from station body = slice_index body 1 == station

-- a line doesn't tell of a reply from another station
abbrev pub is_line_of : ℕ → Line → Bool
is_line_of station (line.Answered by number body) = is_from station body
is_line_of station (line.Stray by body) = is_from station body
is_line_of station other = true

-- all lines but those that tell of replies from other stations
abbrev pub lines_of : ℕ → List Line → List Line
lines_of station lines = filter (is_line_of station) lines
