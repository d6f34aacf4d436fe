-- How a frame is spelled. 16 is DLE, 2 STX, 3 ETX, 6 ACK, and 21 and 15 are NAK.
use Rattle.std.specs.Prelude.{◌≡◌, ◌≢◌, ℕ, ◌/◌, ◌%◌, Bool, true, false, List, [], ◌∷◌, ◌++◌, Option, Some, None, IsSome, ◌==◌, ◌||◌, ◌&&◌, if◌then◌else◌, map}
use Rattle.std.specs.List.{flat_map, AllByRecursion}
use Rattle.df1_check.specs.declared.Check.{Check}
use Rattle.df1_check.specs.declared.Check.TheVariants as kind
use Rattle.df1_check.specs.Checks.{check_value}
use Rattle.df1_frame.specs.declared.heard.Heard.{Heard}
use Rattle.df1_frame.specs.declared.heard.Heard.TheVariants as heard

-- what stands between a frame's two ends: a byte of the body, a DLE of the body, or a response, which is no part of the body
pub data Piece : Type 0 where
  Plain : (b : ℕ) → Piece
  Doubled : Piece
  Response : (code : ℕ) → Piece

-- the bytes of a piece
abbrev pub piece_bytes : Piece → List ℕ
piece_bytes (Plain b) = b ∷ []
piece_bytes Doubled = 16 ∷ 16 ∷ []
piece_bytes (Response code) = 16 ∷ code ∷ []

-- what a response says, if the code is one's
abbrev pub response : ℕ → Option Heard
response code = if code == 6 then Some heard.Ack else (if (code == 21) || (code == 15) then Some heard.Nak else None)

-- a DLE of the body is doubled, and a response has a response's code
abbrev pub IsPiece : Piece → Type 0
IsPiece (Plain b) = b ≢ 16
IsPiece Doubled = Unit {0}
IsPiece (Response code) = IsSome (response code)

abbrev pub ArePieces : List Piece → Type 0
ArePieces = AllByRecursion IsPiece

-- what a piece adds to the body
abbrev pub piece_body : Piece → List ℕ
piece_body (Plain b) = b ∷ []
piece_body Doubled = 16 ∷ []
piece_body (Response code) = []

-- the body that the pieces carry
abbrev pub body_of : List Piece → List ℕ
body_of = flat_map piece_body

-- the pieces of a body without responses
abbrev pub pieces_of : List ℕ → List Piece
pieces_of = map (λ b. if b == 16 then Doubled else Plain b)

-- the bytes that a check covers: the CRC takes ETX too
abbrev pub covered : Check → List ℕ → List ℕ
covered kind.Bcc body = body
covered kind.Crc body = body ++ 3 ∷ []

-- a check's value as bytes: the BCC is one, and the CRC goes low byte first
unfoldable pub check_bytes : Check → ℕ → List ℕ
check_bytes kind.Bcc value = value ∷ []
check_bytes kind.Crc value = value % 256 ∷ value / 256 ∷ []

-- the check bytes of a body
abbrev pub check_of : Check → List ℕ → List ℕ
check_of check body = check_bytes check (check_value check (covered check body))

-- how many bytes a check has
abbrev pub check_len : Check → ℕ
check_len kind.Bcc = 1
check_len kind.Crc = 2

-- whether two lists of bytes are the same
abbrev pub same : List ℕ → List ℕ → Bool
same [] [] = true
same [] (y ∷ ys) = false
same (x ∷ xs) [] = false
same (x ∷ xs) (y ∷ ys) = (x == y) && same xs ys

-- a frame up to its end
abbrev pub opening : List Piece → List ℕ
opening pieces = 16 ∷ 2 ∷ flat_map piece_bytes pieces

-- a frame with these check bytes
abbrev pub framed : List Piece → List ℕ → List ℕ
framed pieces check = opening pieces ++ 16 ∷ 3 ∷ check

-- the bytes spell a frame of the body, with its pieces in order
pub record Spells (check : Check) (pieces : List Piece) (body bytes : List ℕ) : Type 0 where
  pub each : ArePieces pieces
  pub carries : body_of pieces ≡ body
  pub spelled : bytes ≡ framed pieces (check_of check body)
