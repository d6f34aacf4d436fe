-- The text of a dissection: a line for each thing, in the order of the bytes, and one for an unfinished item.
use Rattle.std.specs.Prelude.{ℕ, ◌+◌, ◌-◌, List, [], ◌∷◌, ◌++◌, length, nat_lt, if◌then◌else◌}
use Rattle.std.specs.List.{flat_map}
use Rattle.df1_check.specs.declared.Check.{Check}
use Rattle.df1_frame.specs.Line.{ReadOff, spelling}
use Rattle.half_frame.specs.declared.side.Side.{Side}
use Rattle.df1_dissect.specs.declared.kind.Kind.TheVariants as kind
use Rattle.df1_dissect.specs.Telling.{bytes_of}
use Rattle.df1_dissect.specs.Lines.{line_text, open_line}
use Rattle.df1_dissect.specs.Reading.{Reading, grammar_of, told}
use Rattle.df1_dissect.specs.Step.{next, told_at}

-- the lines of the things that are told
abbrev pub lines : (of : Side) (check : Check) → List (grammar_of of check).Item → (grammar_of of check).Front → List ℕ
lines of check items front = flat_map line_text (told of check items front)

-- the line of the item that is unfinished after so many bytes and began at an offset: none where no byte is left
abbrev pub open_text : ℕ → ℕ → List ℕ
open_text start fed = if nat_lt start fed then open_line start (fed - 1) else []

-- all lines, and then that of the unfinished item
abbrev pub dissection : (of : Side) (check : Check) → List (grammar_of of check).Item → (grammar_of of check).Front → List ℕ
dissection of check items front =
    let G = grammar_of of check in
    lines of check items front ++ open_text (bytes_of G items) (length (spelling G items front))

-- this is the text of the lines of these bytes
abbrev pub HasLines : Side → Check → List ℕ → List ℕ → Type 0
HasLines of check bytes text = ReadOff (grammar_of of check) bytes (lines of check) text

-- this is the dissection of these bytes
abbrev pub Dissects : Side → Check → List ℕ → List ℕ → Type 0
Dissects of check bytes text = ReadOff (grammar_of of check) bytes (dissection of check) text

-- the lines that a byte completes
abbrev pub lines_at : Reading → ℕ → List ℕ
lines_at r b = flat_map line_text (told_at r b)

-- the lines that bytes complete, one after another
abbrev pub lines_in : Reading → List ℕ → List ℕ
lines_in r [] = []
lines_in r (b ∷ bytes) = lines_at r b ++ lines_in (next r b).0 bytes

-- the line of a byte outside, at the offset
abbrev pub stray_line : ℕ → ℕ → List ℕ
stray_line at b = line_text (record { first = at; last = at; kind = kind.Stray b; body = [] })

-- the lines of bytes outside, the first of them at the offset
abbrev pub stray_lines : ℕ → List ℕ → List ℕ
stray_lines at [] = []
stray_lines at (b ∷ bytes) = stray_line at b ++ stray_lines (at + 1) bytes
