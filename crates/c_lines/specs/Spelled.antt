-- The frame that is spelled for C.
use Rattle.std.specs.Prelude.{ℕ, List}
use Rattle.df1_check.specs.declared.Check.{Check}
use Rattle.df1_frame.specs.Units.{bytes_of, units}

-- the full-duplex frame of a body
abbrev pub frame_of : Check → List ℕ → List ℕ
frame_of check body = bytes_of (units check body)
