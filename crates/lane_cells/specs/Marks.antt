-- What the marks of a cell say of its byte.
use Rattle.std.specs.Prelude.{ℕ, Option, None, Some}
use Rattle.lane_cells.specs.declared.cell.Marks.{Marks}
use Rattle.lane_cells.specs.declared.cell.Marks.TheVariants as marks
use Rattle.lane_cells.specs.Cells.{Ending}

-- the transmission whose last byte it is
abbrev pub ending_of_marks : Marks → Option Ending
ending_of_marks marks.Nothing = None
ending_of_marks (marks.Body number) = None
ending_of_marks (marks.End ended) = Some (record { number = ended.value.number; body = ended.value.body.items })

-- the number of the transmission of which it is a one-byte body unit
abbrev pub body_of_marks : Marks → Option ℕ
body_of_marks marks.Nothing = None
body_of_marks (marks.Body number) = Some number
body_of_marks (marks.End ended) = ended.value.body_of
