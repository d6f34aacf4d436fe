-- Tables of cases: what each kind makes of an input, and which case of a table is the first that differs.
use Rattle.std.specs.Prelude.{◌≡◌, ℕ, ◌≤◌, ◌/◌, ◌%◌, Bool, false, not, List, [], ◌∷◌, Option, Some, length, position, take}
use Rattle.df1_base.specs.declared.file_type.FileType.TheVariants.{Status, Timer, Integer, Float}
use Rattle.df1_base.specs.Host.{IsBody}
use Rattle.df1_check.specs.declared.Check.TheVariants as check
use Rattle.df1_check.specs.Checks.{bcc, crc}
use Rattle.df1_frame.specs.Spelling.{same}
use Rattle.df1_frame.specs.Units.{bytes_of, units}
use Rattle.pccc_envelope.specs.Envelope.{is_reply}
use Rattle.data_files.specs.declared.file_spec.FileSpec.{FileSpec}
use Rattle.data_files.specs.Tables.{fresh, with_word}
use Rattle.df1_node.specs.Answer.{StationState, reply_to, station_of}
use Rattle.vector_suite.specs.declared.case.Case.{Case}
use Rattle.vector_suite.specs.declared.case.Kind.{Kind}
use Rattle.vector_suite.specs.declared.case.Kind.TheVariants.{Bcc, Crc, FrameBcc, FrameCrc, Answer}

-- the files of the station that answers
abbrev pub files : List FileSpec
files =
    record { number = 7; kind = Integer; count = 16 }
    ∷ record { number = 8; kind = Float; count = 2 }
    ∷ record { number = 2; kind = Status; count = 4 }
    ∷ record { number = 4; kind = Timer; count = 2 }
    ∷ []

-- the station that answers: N7:0 is 1234, N7:1 is 5678, and all other words are 0
abbrev pub station : StationState
station = station_of (with_word (with_word (fresh files) 7 0 0x1234) 7 1 0x5678) (Some 7) (0x01 ∷ 0x02 ∷ [])

-- a number of 16 bits, the low byte first
abbrev pub low_first : ℕ → List ℕ
low_first n = n % 256 ∷ n / 256 ∷ []

-- what a kind makes of an input
abbrev pub made : Kind → List ℕ → List ℕ
made Bcc input = bcc input ∷ []
made Crc input = low_first (crc input)
made FrameBcc body = bytes_of (units check.Bcc body)
made FrameCrc body = bytes_of (units check.Crc body)
made Answer body = reply_to station body

-- what may be the input of a kind
abbrev pub IsInput : Kind → List ℕ → Type 0
IsInput Bcc input = Unit {0}
IsInput Crc input = Unit {0}
IsInput FrameBcc body = length body ≤ 250
IsInput FrameCrc body = length body ≤ 250
IsInput Answer body = IsBody body × (is_reply body ≡ false)

-- what a case shows: what it asks for, an input, and the bytes that are wanted
pub record Shown : Type 0 where
  pub kind : Kind
  pub input : List ℕ
  pub want : List ℕ

abbrev pub shown : {longest : ℕ} → Case longest → Shown
shown case = record { kind = case.kind; input = take case.len case.input; want = take case.want_len case.want }

-- a case whose texts fit their arrays, and whose input is one of its kind
pub record IsCase (longest : ℕ) (case : Case longest) : Type 0 where
  pub input : case.len ≤ longest
  pub want : case.want_len ≤ longest
  pub fits : IsInput case.kind (shown case).input

-- whether the wanted bytes are others than the kind makes of the input
abbrev pub is_other : Shown → Bool
is_other case = not (same (made case.kind case.input) case.want)

abbrev pub differs : {longest : ℕ} → Case longest → Bool
differs case = is_other (shown case)

-- the place of the first case that differs
abbrev pub first_differing : {longest : ℕ} → List (Case longest) → Option ℕ
first_differing cases = position differs cases
