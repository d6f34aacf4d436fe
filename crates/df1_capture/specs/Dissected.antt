-- How dissecting a capture ends.
use Rattle.std.specs.Prelude.{◌≡◌, ◌≢◌, ◌⊎◌, ◌≤◌, ℕ, List, [], ◌++◌, length, Option, Result, Ok, Err}
use Rattle.std.specs.Io.KnownBytes.{IsAtEnd}
use Rattle.df1_base.specs.Outside.{Rose, Took, Put, WroteLess}
use Rattle.df1_base.specs.Signals.{input_limit}
use Rattle.df1_base.specs.declared.outside.Failed.{Failed}
use Rattle.df1_check.specs.declared.Check.{Check}
use Rattle.half_frame.specs.declared.side.Side.{Side}
use Rattle.df1_dissect.specs.Reading.{Reading, StandsFor}
use Rattle.df1_dissect.specs.Dissection.{HasLines, Dissects}
use Rattle.df1_capture.specs.declared.capture.CaptureFault.{CaptureFault}
use Rattle.df1_capture.specs.declared.capture.CaptureFault.TheVariants as fault
use Rattle.df1_capture.specs.Captures.{IsOver, IsOverlong, IsTaken, IsWhole}

-- ---- the whole input

-- it was read to its end, and its dissection is written
pub record IsDissected (of : Side) (check : Check) (left left' held held' : Option (List ℕ)) : Type 0 where
  pub bytes : List ℕ
  pub text : List ℕ
  pub input : IsWhole left left' bytes
  pub dissects : Dissects of check bytes text
  pub put : Put held held' text

-- the lines of all that is heard in these bytes are written
pub record HasWritten (of : Side) (check : Check) (held held' : Option (List ℕ)) (bytes : List ℕ) : Type 0 where
  pub text : List ℕ
  pub lines : HasLines of check bytes text
  pub put : Put held held' text

-- what is due of bytes: the lines of all that is heard in them, and at the end of the input that of the unfinished item too
abbrev pub IsDue : (of : Side) (check : Check) (left' : Option (List ℕ)) (bytes unheard text : List ℕ) → Type 0
IsDue of check left' bytes unheard text = HasLines of check bytes text ⊎ (IsAtEnd left' × (unheard ≡ []) × Dissects of check bytes text)

-- The lines of all that is heard in the bytes before are written, and of what is due after them, with the next ones, a first
-- part, and not all. At most 4,096 bytes were taken after those before. What is beyond the limit isn't heard.
pub record IsCutShort (of : Side) (check : Check) (left left' held held' : Option (List ℕ)) : Type 0 where
  pub before : List ℕ
  pub next : List ℕ
  pub unheard : List ℕ
  pub took : Took left left' (before ++ (next ++ unheard))
  pub few : length (next ++ unheard) ≤ 4096
  pub within : length (before ++ next) ≤ input_limit
  pub text : List ℕ
  pub due : List ℕ
  pub lines : HasLines of check before text
  pub whole : IsDue of check left' (before ++ next) unheard (text ++ due)
  pub rest : List ℕ
  pub some : rest ≢ []
  pub part : List ℕ
  pub due_is : due ≡ part ++ rest
  pub put : Put held held' (text ++ part)

-- how a dissection ended
abbrev pub DissectEnd : (of : Side) (check : Check) (left left' : Option (List ℕ)) (input_faults input_faults' : ℕ) (held held' : Option (List ℕ)) (out_faults out_faults' : ℕ) → Result (Unit {0}) CaptureFault → Type 0
DissectEnd of check left left' input_faults input_faults' held held' out_faults out_faults' (Ok done) =
    IsDissected of check left left' held held' × (input_faults' ≡ input_faults) × (out_faults' ≡ out_faults)
DissectEnd of check left left' input_faults input_faults' held held' out_faults out_faults' (Err fault.Input) =
    ((bytes : List ℕ) × IsTaken left left' bytes × HasWritten of check held held' bytes) × Rose input_faults input_faults' × (out_faults' ≡ out_faults)
DissectEnd of check left left' input_faults input_faults' held held' out_faults out_faults' (Err fault.Output) =
    IsCutShort of check left left' held held' × Rose out_faults out_faults' × (input_faults' ≡ input_faults)
DissectEnd of check left left' input_faults input_faults' held held' out_faults out_faults' (Err fault.TooLong) =
    ((bytes : List ℕ) × IsOver left left' bytes × HasWritten of check held held' bytes) × (input_faults' ≡ input_faults) × (out_faults' ≡ out_faults)

-- ---- a piece of it

-- a dissector has taken these bytes, and this is the text of their lines
pub record HasHeard (of : Side) (check : Check) (bytes text : List ℕ) (d : Reading) : Type 0 where
  pub stands : StandsFor of check bytes d
  pub lines : HasLines of check bytes text

-- the lines that were collected, or a first part of them, are written, and these are left
pub record IsMoved (held held' : Option (List ℕ)) (lines lines' : List ℕ) : Type 0 where
  pub part : List ℕ
  pub put : Put held held' part
  pub whole : lines ≡ part ++ lines'

-- it has taken these bytes, and what their text has more than before is written
pub record HasPut (of : Side) (check : Check) (bytes text : List ℕ) (d : Reading) (held held' : Option (List ℕ)) : Type 0 where
  pub more : List ℕ
  pub heard : HasHeard of check bytes (text ++ more) d
  pub put : Put held held' more

-- the same of bytes of which the limit allows a front alone
pub record HasPutFront (of : Side) (check : Check) (before piece text : List ℕ) (held held' : Option (List ℕ)) : Type 0 where
  pub front : List ℕ
  pub over : IsOverlong before piece front
  pub more : List ℕ
  pub lines : HasLines of check (before ++ front) (text ++ more)
  pub put : Put held held' more

-- of what the lines of the bytes before and of a front of a piece have more than before, a first part is written, and not all
pub record HasPutPart (of : Side) (check : Check) (before piece text : List ℕ) (held held' : Option (List ℕ)) : Type 0 where
  pub front : List ℕ
  pub unheard : List ℕ
  pub whole : piece ≡ front ++ unheard
  pub within : length (before ++ front) ≤ input_limit
  pub due : List ℕ
  pub lines : HasLines of check (before ++ front) (text ++ due)
  pub part : WroteLess held held' due

-- what hearing bytes comes to, and writing their lines
abbrev pub PutEnd : (of : Side) (check : Check) (before piece text : List ℕ) (d : Reading) (held held' : Option (List ℕ)) (faults faults' : ℕ) → Result (Unit {0}) Failed → Type 0
PutEnd of check before piece text d held held' faults faults' (Ok done) = HasPut of check (before ++ piece) text d held held' × (faults' ≡ faults)
PutEnd of check before piece text d held held' faults faults' (Err failed) = HasPutPart of check before piece text held held' × Rose faults faults'

-- what a piece comes to
abbrev pub PieceEnd : (of : Side) (check : Check) (before piece text : List ℕ) (d : Reading) (held held' : Option (List ℕ)) (faults faults' : ℕ) → Result (Unit {0}) CaptureFault → Type 0
PieceEnd of check before piece text d held held' faults faults' (Ok done) = HasPut of check (before ++ piece) text d held held' × (faults' ≡ faults)
PieceEnd of check before piece text d held held' faults faults' (Err fault.Input) = ⊥
PieceEnd of check before piece text d held held' faults faults' (Err fault.Output) = HasPutPart of check before piece text held held' × Rose faults faults'
PieceEnd of check before piece text d held held' faults faults' (Err fault.TooLong) = HasPutFront of check before piece text held held' × (faults' ≡ faults)

-- what the end of the input comes to
abbrev pub CloseEnd : (of : Side) (check : Check) (bytes text : List ℕ) (held held' : Option (List ℕ)) (faults faults' : ℕ) → Result (Unit {0}) CaptureFault → Type 0
CloseEnd of check bytes text held held' faults faults' (Ok done) = ((more : List ℕ) × Dissects of check bytes (text ++ more) × Put held held' more) × (faults' ≡ faults)
CloseEnd of check bytes text held held' faults faults' (Err fault.Input) = ⊥
CloseEnd of check bytes text held held' faults faults' (Err fault.Output) = ((due : List ℕ) × Dissects of check bytes (text ++ due) × WroteLess held held' due) × Rose faults faults'
CloseEnd of check bytes text held held' faults faults' (Err fault.TooLong) = ⊥
