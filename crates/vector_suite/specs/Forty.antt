-- The forty cases, each with its texts in hexadecimal.
use Rattle.std.specs.Prelude.{ℕ, List, [], ◌∷◌, ◌++◌, bit_or, codes, Result, Ok, Err}
use Rattle.hex.specs.Hex.{decode_of}
use Rattle.hex.specs.declared.error.FromHexError.{FromHexError}
use Rattle.vector_suite.specs.declared.case.Kind.{Kind}
use Rattle.vector_suite.specs.declared.case.Kind.TheVariants.{Bcc, Crc, FrameBcc, FrameCrc, Answer}
use Rattle.vector_suite.specs.Vectors.{Shown}

-- the bytes of a hexadecimal text
abbrev pub bytes_if : Result (List ℕ) FromHexError → List ℕ
bytes_if (Ok bytes) = bytes
bytes_if (Err fault) = []

abbrev pub bytes : List ℕ → List ℕ
bytes text = bytes_if (decode_of text)

-- a case of a check or a frame
abbrev pub checked : Kind → List ℕ → List ℕ → Shown
checked kind input want = record { kind = kind; input = bytes input; want = bytes want }

-- a case of an answer to a command for node 1 from node 0, with TNS 1: its CMD and what follows TNS; of the reply STS and what follows TNS
abbrev pub answered : ℕ → List ℕ → ℕ → List ℕ → Shown
answered cmd rest sts then = record {
  kind = Answer;
  input = 0x01 ∷ 0x00 ∷ cmd ∷ 0x00 ∷ 0x01 ∷ 0x00 ∷ bytes rest;
  want = 0x00 ∷ 0x01 ∷ bit_or cmd 0x40 ∷ sts ∷ 0x01 ∷ 0x00 ∷ bytes then;
}

-- checks, and frames: with a BCC that is DLE, and with DLE in the body
abbrev pub check_cases : List Shown
check_cases =
    checked Bcc (codes "08090600020403") (codes "E0")
    ∷ checked Bcc (codes "") (codes "00")
    ∷ checked Crc (codes "313233343536373839") (codes "3DBB")
    ∷ checked Crc (codes "0809060002040303") (codes "9848")
    ∷ checked FrameBcc (codes "08090600020403") (codes "1002080906000204031003E0")
    ∷ checked FrameCrc (codes "08090600020403") (codes "10020809060002040310039848")
    ∷ checked FrameBcc (codes "07000600010000E2") (codes "100207000600010000E2100310")
    ∷ checked FrameBcc (codes "0700060010000010") (codes "1002070006001010000010101003D3")
    ∷ []

-- echo and status, an unknown FNC and none, and logical reads and a write
abbrev pub basic_cases : List Shown
basic_cases =
    answered 0x06 (codes "00E2") 0x00 (codes "E2")
    ∷ answered 0x06 (codes "03") 0x00 (codes "0102")
    ∷ answered 0x06 (codes "04") 0x10 (codes "")
    ∷ answered 0x06 (codes "") 0x10 (codes "")
    ∷ answered 0x0F (codes "A20207890000") 0x00 (codes "3412")
    ∷ answered 0x0F (codes "A102078901") 0x00 (codes "7856")
    ∷ answered 0x0F (codes "AA0207890200CDAB") 0x00 (codes "")
    ∷ answered 0x0F (codes "A20307890000") 0xF0 (codes "01")
    ∷ []

-- what refuses a logical command, a masked write, and a read-modify-write
abbrev pub logical_cases : List Shown
logical_cases =
    answered 0x0F (codes "A2F607890000") 0xF0 (codes "09")
    ∷ answered 0x0F (codes "A20209890000") 0xF0 (codes "06")
    ∷ answered 0x0F (codes "A202078A0000") 0xF0 (codes "11")
    ∷ answered 0x0F (codes "A20207890001") 0xF0 (codes "06")
    ∷ answered 0x0F (codes "A20207891000") 0xF0 (codes "0A")
    ∷ answered 0x0F (codes "AA02028400000100") 0xF0 (codes "0B")
    ∷ answered 0x0F (codes "AB0207890000FF00CDAB") 0x00 (codes "")
    ∷ answered 0x0F (codes "26060700FF000056") 0x00 (codes "")
    ∷ []

-- a read-modify-write of which one set is refused, word ranges, and typed commands
abbrev pub range_cases : List Shown
range_cases =
    answered 0x0F (codes "26060700FF000056060710FFFF0000") 0xF0 (codes "0A")
    ∷ answered 0x0F (codes "010000020006070004") 0x00 (codes "34127856")
    ∷ answered 0x0F (codes "0001000200060700CDAB") 0x00 (codes "")
    ∷ answered 0x0F (codes "0002000200060700CDAB") 0xF0 (codes "0A")
    ∷ answered 0x0F (codes "68000002000607000200") 0x00 (codes "9909054234127856")
    ∷ answered 0x0F (codes "670000020006070099090542CDAB0100") 0x00 (codes "")
    ∷ answered 0x0F (codes "68000001000608000100") 0x00 (codes "990906940800000000")
    ∷ answered 0x0F (codes "68000001000604000100") 0xF0 (codes "11")
    ∷ []

-- addresses with too few and too many levels, unprotected commands, a long spelling, and unknown commands
abbrev pub other_cases : List Shown
other_cases =
    answered 0x0F (codes "0100000100020702") 0xF0 (codes "02")
    ∷ answered 0x0F (codes "010000010016070002") 0xF0 (codes "03")
    ∷ answered 0x01 (codes "000002") 0x00 (codes "3412")
    ∷ answered 0x08 (codes "01000100") 0x50 (codes "")
    ∷ answered 0x01 (codes "200002") 0x50 (codes "")
    ∷ answered 0x0F (codes "A2020789FF010000") 0x00 (codes "7856")
    ∷ answered 0x0F (codes "99") 0x10 (codes "")
    ∷ answered 0x00 (codes "00000100") 0x10 (codes "")
    ∷ []

-- all of them, in their order
abbrev pub forty : List Shown
forty = check_cases ++ (basic_cases ++ (logical_cases ++ (range_cases ++ other_cases)))
