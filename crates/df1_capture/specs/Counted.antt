-- The counts of what is heard in a capture, and how counting one ends.
use Rattle.std.specs.Prelude.{◌≡◌, ℕ, Bool, List, ◌++◌, length, codes, decimal, Option, Result, Ok, Err, nat_lt, ◌||◌}
use Rattle.df1_base.specs.Outside.{Rose, Put, WroteLess}
use Rattle.df1_check.specs.declared.Check.{Check}
use Rattle.df1_frame.specs.Line.{ReadOff}
use Rattle.half_frame.specs.declared.side.Side.{Side}
use Rattle.df1_dissect.specs.Telling.{Told}
use Rattle.df1_dissect.specs.Reading.{Reading, StandsFor, Tells, bad_among, grammar_of, unfinished}
use Rattle.df1_capture.specs.declared.capture.CaptureFault.{CaptureFault}
use Rattle.df1_capture.specs.declared.capture.CaptureFault.TheVariants as fault
use Rattle.df1_capture.specs.Captures.{IsOver, IsOverlong, IsTaken, IsWhole}

-- ---- the counts

-- the counts of what is heard in bytes: of all that has a line, of the faults of the line among it, and of the bytes of the
-- unfinished item
pub record Counts (of : Side) (check : Check) (bytes : List ℕ) (heard bad begun : ℕ) : Type 0 where
  pub things : List Told
  pub told : Tells of check bytes things
  pub heard_is : heard ≡ length things
  pub bad_is : bad ≡ bad_among things
  pub open_is : ReadOff (grammar_of of check) bytes (unfinished of check) begun

-- the line that tells them
abbrev pub counts_line : ℕ → ℕ → ℕ → List ℕ
counts_line heard bad begun =
    codes "heard " ++ decimal heard ++ codes " bad " ++ decimal bad ++ codes " open " ++ decimal begun ++ codes "\n"

-- something is a fault of the line, or unfinished
abbrev pub is_faulty : ℕ → ℕ → Bool
is_faulty bad begun = nat_lt 0 bad || nat_lt 0 begun

-- ---- the whole input

-- it was read to its end, and its counts are written
pub record IsCounted (of : Side) (check : Check) (left left' held held' : Option (List ℕ)) (faulty : Bool) : Type 0 where
  pub bytes : List ℕ
  pub heard : ℕ
  pub bad : ℕ
  pub begun : ℕ
  pub input : IsWhole left left' bytes
  pub counts : Counts of check bytes heard bad begun
  pub put : Put held held' (counts_line heard bad begun)
  pub faulty_is : faulty ≡ is_faulty bad begun

-- it was read to its end, and a first part of the line of its counts is written, and not all
pub record IsCountedInPart (of : Side) (check : Check) (left left' held held' : Option (List ℕ)) : Type 0 where
  pub bytes : List ℕ
  pub heard : ℕ
  pub bad : ℕ
  pub begun : ℕ
  pub input : IsWhole left left' bytes
  pub counts : Counts of check bytes heard bad begun
  pub part : WroteLess held held' (counts_line heard bad begun)

-- how a count ended
abbrev pub CountEnd : (of : Side) (check : Check) (left left' : Option (List ℕ)) (faults faults' : ℕ) → Reading → Result (Unit {0}) CaptureFault → Type 0
CountEnd of check left left' faults faults' r (Ok done) = ((bytes : List ℕ) × IsWhole left left' bytes × StandsFor of check bytes r) × (faults' ≡ faults)
CountEnd of check left left' faults faults' r (Err fault.Input) = ((bytes : List ℕ) × IsTaken left left' bytes) × Rose faults faults'
CountEnd of check left left' faults faults' r (Err fault.Output) = ⊥
CountEnd of check left left' faults faults' r (Err fault.TooLong) = ((bytes : List ℕ) × IsOver left left' bytes) × (faults' ≡ faults)

-- what a piece comes to
abbrev pub CountedPiece : (of : Side) (check : Check) (before piece : List ℕ) → Reading → Result (Unit {0}) CaptureFault → Type 0
CountedPiece of check before piece r (Ok done) = StandsFor of check (before ++ piece) r
CountedPiece of check before piece r (Err fault.Input) = ⊥
CountedPiece of check before piece r (Err fault.Output) = ⊥
CountedPiece of check before piece r (Err fault.TooLong) = (front : List ℕ) × IsOverlong before piece front

-- what writing the counts comes to
abbrev pub ToldCounts : (of : Side) (check : Check) (bytes : List ℕ) (held held' : Option (List ℕ)) (faults faults' : ℕ) → Result Bool CaptureFault → Type 0
ToldCounts of check bytes held held' faults faults' (Ok faulty) =
    ((heard : ℕ) × (bad : ℕ) × (begun : ℕ) × Counts of check bytes heard bad begun × Put held held' (counts_line heard bad begun) × (faulty ≡ is_faulty bad begun)) × (faults' ≡ faults)
ToldCounts of check bytes held held' faults faults' (Err fault.Input) = ⊥
ToldCounts of check bytes held held' faults faults' (Err fault.Output) =
    ((heard : ℕ) × (bad : ℕ) × (begun : ℕ) × Counts of check bytes heard bad begun × WroteLess held held' (counts_line heard bad begun)) × Rose faults faults'
ToldCounts of check bytes held held' faults faults' (Err fault.TooLong) = ⊥

-- how a check ended
abbrev pub CheckEnd : (of : Side) (check : Check) (left left' : Option (List ℕ)) (input_faults input_faults' : ℕ) (held held' : Option (List ℕ)) (out_faults out_faults' : ℕ) → Result Bool CaptureFault → Type 0
CheckEnd of check left left' input_faults input_faults' held held' out_faults out_faults' (Ok faulty) =
    IsCounted of check left left' held held' faulty × (input_faults' ≡ input_faults) × (out_faults' ≡ out_faults)
CheckEnd of check left left' input_faults input_faults' held held' out_faults out_faults' (Err fault.Input) =
    ((bytes : List ℕ) × IsTaken left left' bytes) × Rose input_faults input_faults' × (held' ≡ held) × (out_faults' ≡ out_faults)
CheckEnd of check left left' input_faults input_faults' held held' out_faults out_faults' (Err fault.Output) =
    IsCountedInPart of check left left' held held' × Rose out_faults out_faults' × (input_faults' ≡ input_faults)
CheckEnd of check left left' input_faults input_faults' held held' out_faults out_faults' (Err fault.TooLong) =
    ((bytes : List ℕ) × IsOver left left' bytes) × (input_faults' ≡ input_faults) × (held' ≡ held) × (out_faults' ≡ out_faults)
