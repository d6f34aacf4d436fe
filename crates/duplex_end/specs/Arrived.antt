-- The bytes that arrived at an end, and what the grammar of the line hears in them.
use Rattle.std.specs.Prelude.{◌≡◌, ◌↔◌, ℕ, Bool, true, List, [], ◌∷◌, ◌++◌, map, Some}
use Rattle.df1_check.specs.declared.Check.{Check}
use Rattle.df1_frame.specs.declared.heard.Heard.TheVariants as heard
use Rattle.df1_frame.specs.Line.{ReadOff, last_heard}
use Rattle.df1_frame.specs.Grammar.{full_duplex}
use Rattle.df1_frame.specs.Standing.{decoding}
use Rattle.duplex_end.specs.End.{EndState}

-- the end stands for these bytes: its receiver's decoder is where the grammar says, over all of them
abbrev pub StandsFor : {H : Type 0} → Check → List ℕ → EndState H → Type 0
StandsFor check bytes e = ReadOff (full_duplex check 250) bytes (decoding check 250) e.receiver.decoding

-- the grammar hears a whole frame at the last of these bytes
abbrev pub HearsWhole : Check → List ℕ → Type 0
HearsWhole check bytes = ReadOff (full_duplex check 250) bytes (last_heard (full_duplex check 250)) (Some heard.Good)

-- a byte that arrived, and whether a whole frame was heard there
pub record Arrival : Type 0 where
  pub byte : ℕ
  pub whole : Bool

abbrev pub bytes_arrived : List Arrival → List ℕ
bytes_arrived arrivals = map {A = Arrival} (λ a. a.byte) arrivals

-- at each byte that arrived, a whole frame was heard exactly where the grammar, over all bytes that had arrived by then, hears one at its last
abbrev pub HeardByGrammar : Check → List Arrival → Type 0
HeardByGrammar check arrivals =
    (before later : List Arrival) (at : Arrival) → arrivals ≡ before ++ at ∷ later → (at.whole ≡ true) ↔ HearsWhole check (bytes_arrived before ++ at.byte ∷ [])
