-- The cells of a lane.
use Rattle.std.specs.Prelude.{ℕ, List, [], ◌∷◌, bit_xor, Option, None}
use Rattle.std.specs.Option.{option_map}
use Rattle.df1_base.specs.declared.link.Out.{Out}

-- the end of a transmission: its number, counted from 1 at its end of the line, and the body of its message
pub record Ending : Type 0 where
  pub number : ℕ
  pub body : List ℕ

-- a byte on its way, the transmission whose last byte it is, and the number of the one of which it is a one-byte body unit
pub record LaneCell : Type 0 where
  pub byte : ℕ
  pub ends : Option Ending
  pub body_of : Option ℕ

-- the transmission of this body and number ends
abbrev pub ending_of : List ℕ → ℕ → Ending
ending_of body number = record { number = number; body = body }

-- the cell of a byte that an end gave while it sent this body
abbrev pub cell_of : List ℕ → Out → LaneCell
cell_of sending out = record { byte = out.byte; ends = option_map (ending_of sending) out.last_of; body_of = out.body_of }

-- a byte without numbers
abbrev pub bare : ℕ → LaneCell
bare byte = record { byte = byte; ends = None; body_of = None }

-- the head of the lane is altered, and loses its numbers
abbrev pub altered : ℕ → List LaneCell → List LaneCell
altered mask [] = []
altered mask (cell ∷ cells) = bare (bit_xor cell.byte mask) ∷ cells
