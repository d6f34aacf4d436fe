-- Commands that a station answers, one after another.
use Rattle.std.specs.Prelude.{ℕ, List, [], ◌∷◌, map}
use Rattle.std.specs.List.{fold}
use Rattle.df1_node.specs.Answer.{StationState, after_answer, reply_to}

-- each command with its reply: a station answers it from the tables that the commands before it left
abbrev pub exchanges : StationState → List (List ℕ) → List (List ℕ × List ℕ)
exchanges station [] = []
exchanges station (body ∷ bodies) = (body, reply_to station body) ∷ exchanges (after_answer station body) bodies

-- the station after these commands
abbrev pub station_after : StationState → List (List ℕ) → StationState
station_after = fold after_answer

-- the replies that a station makes to these commands
abbrev pub replies_to : StationState → List (List ℕ) → List (List ℕ)
replies_to first executed = map (λ e. e.1) (exchanges first executed)
