-- The sides of a line, by their numbers.
use Rattle.std.specs.Prelude.{ℕ, ◌==◌, Option, List, [], ◌∷◌, find}
use Rattle.half_frame.specs.declared.side.Side.{Side}
use Rattle.half_frame.specs.declared.side.Side.TheVariants as side

abbrev pub side_number : Side → ℕ
side_number side.Full = 0
side_number side.Master = 1
side_number side.Slave = 2

-- all sides, by their numbers
abbrev pub all_sides : List Side
all_sides = side.Full ∷ side.Master ∷ side.Slave ∷ []

-- the side of a number, if it is one's
abbrev pub side_of : ℕ → Option Side
side_of number = find (λ side. side_number side == number) all_sides
