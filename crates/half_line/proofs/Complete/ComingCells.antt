-- The cells that an end is still to give of what it has begun.
use Rattle.std.proofs.Common.{◌≡◌, ℕ, List, [], ◌∷◌, ◌++◌, length, Option, append_assoc, append-nil}
use Rattle.std.specs.Prelude.{◌==◌}
use Rattle.std.specs.Option.{option_map, option_to_list}
use Rattle.half_frame.specs.declared.framer.Sent.{Sent}
use Rattle.half_mouth.specs.Giving.{Giving, out_of, take}
use Rattle.lane_cells.specs.Cells.{LaneCell, cell_of}

-- of these bytes, of a transmission with this number, if they are one, and this body
abbrev pub cells_of : Option ℕ → List ℕ → List Sent → List LaneCell
cells_of number sending [] = []
cells_of number sending (sent ∷ left) = cell_of sending (out_of number sent (length left == 0)) ∷ cells_of number sending left

abbrev pub coming : Giving → List ℕ → List LaneCell
coming g sending = cells_of g.number sending g.left

take-cells : (lane : List LaneCell) (left : List Sent) (number : Option ℕ) (begun : ℕ) (sending : List ℕ) → let g : Giving = record { left = left; number = number; begun = begun } in
    (lane ++ option_to_list (option_map (cell_of sending) (take g).1)) ++ coming (take g).0 sending ≡ lane ++ coming g sending
take-cells lane [] number begun sending = append-nil (lane ++ [])
take-cells lane (sent ∷ left) number begun sending = append_assoc lane (cell_of sending (out_of number sent (length left == 0)) ∷ []) (cells_of number sending left)

-- a byte that is given joins the lane, and is no longer to be given
pub coming-take : (lane : List LaneCell) (g : Giving) (sending : List ℕ) → (lane ++ option_to_list (option_map (cell_of sending) (take g).1)) ++ coming (take g).0 sending ≡ lane ++ coming g sending
coming-take lane g sending = take-cells lane g.left g.number g.begun sending
