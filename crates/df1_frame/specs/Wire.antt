-- Bytes of a full-duplex line with which nothing is wrong, and the messages that they carry. 5 is ENQ, 6 ACK and 21 NAK.
use Rattle.std.specs.Prelude.{◌≡◌, ℕ, ◌≤◌, ◌⊎◌, List, [], ◌∷◌, ◌++◌, length, replicate}
use Rattle.std.specs.List.{flat_map, AllByRecursion}
use Rattle.df1_base.specs.Host.{IsBody}
use Rattle.df1_check.specs.declared.Check.{Check}
use Rattle.df1_frame.specs.Line.{Splits}
use Rattle.df1_frame.specs.Spelling.{Piece, Plain, Doubled, Response, body_of, check_of}
use Rattle.df1_frame.specs.Grammar.{Item, Stray, Pair, Frame, Broken, Restart, Front, Nothing, Dle, Opened, OpenedDle, Closed, full_duplex}

-- ACK, or NAK as 10 15
abbrev pub IsResponse : ℕ → Type 0
IsResponse code = (code ≡ 6) ⊎ (code ≡ 21)

-- a response in a frame is one of these
abbrev pub IsRightPiece : Piece → Type 0
IsRightPiece (Plain b) = Unit {0}
IsRightPiece Doubled = Unit {0}
IsRightPiece (Response code) = IsResponse code

abbrev pub AreRightPieces : List Piece → Type 0
AreRightPieces = AllByRecursion IsRightPiece

-- a response or an ENQ by itself, or a whole frame: a body of 6 to 250 bytes, its own check, and perhaps responses between its ends
abbrev pub IsRight : Check → Item → Type 0
IsRight check (Stray b) = ⊥
IsRight check (Pair code) = IsResponse code ⊎ (code ≡ 5)
IsRight check (Frame pieces bytes) = AreRightPieces pieces × IsBody (body_of pieces) × (bytes ≡ check_of check (body_of pieces))
IsRight check (Broken pieces code) = ⊥
IsRight check (Restart pieces) = ⊥

abbrev pub AreRight : Check → List Item → Type 0
AreRight check = AllByRecursion (IsRight check)

-- the body of a frame
abbrev pub bodies_at : Item → List (List ℕ)
bodies_at (Stray b) = []
bodies_at (Pair code) = []
bodies_at (Frame pieces bytes) = body_of pieces ∷ []
bodies_at (Broken pieces code) = []
bodies_at (Restart pieces) = []

-- the bodies of the frames, in their order
abbrev pub bodies_in : List Item → List (List ℕ)
bodies_in = flat_map bodies_at

-- this message is the last of these
abbrev pub IsLast : List (List ℕ) → List ℕ → Type 0
IsLast messages body = (before : List (List ℕ)) × (messages ≡ before ++ body ∷ [])

-- these pieces begin the frame of the last of the messages
abbrev pub BeginsLast : List (List ℕ) → List Piece → Type 0
BeginsLast messages pieces = AreRightPieces pieces × ((rest : List ℕ) × IsLast messages (body_of pieces ++ rest))

-- an item that has begun is nothing, a DLE, or the frame of the last of the messages: its body so far, or all of it and the first bytes of its check
abbrev pub IsBegun : Check → List (List ℕ) → Front → Type 0
IsBegun check messages Nothing = Unit {0}
IsBegun check messages Dle = Unit {0}
IsBegun check messages (Opened pieces) = BeginsLast messages pieces
IsBegun check messages (OpenedDle pieces) = BeginsLast messages pieces
IsBegun check messages (Closed pieces bytes) =
    AreRightPieces pieces × IsLast messages (body_of pieces) × ((more : List ℕ) × (bytes ++ more ≡ check_of check (body_of pieces)))

-- the first message so many times running, then the second, and so on
abbrev pub repeated : List ℕ → List (List ℕ) → List (List ℕ)
repeated [] messages = []
repeated (n ∷ times) [] = []
repeated (n ∷ times) (message ∷ messages) = replicate n message ++ repeated times messages

-- at least once each, but the last perhaps not yet
abbrev pub AllButLastSent : List ℕ → Type 0
AllButLastSent [] = Unit {0}
AllButLastSent (n ∷ []) = Unit {0}
AllButLastSent (n ∷ next ∷ times) = (1 ≤ n) × AllButLastSent (next ∷ times)

-- the bodies are these messages in their order, each several times running, and the last perhaps not yet
pub record AreSendingsOf (bodies messages : List (List ℕ)) : Type 0 where
  pub times : List ℕ
  pub as_many : length times ≡ length messages
  pub sent : AllButLastSent times
  pub are : bodies ≡ repeated times messages

-- the bytes are whole frames, responses and ENQs, with at the end perhaps the begin of one more, and never a stray byte, a stray
-- pair or a frame that is broken, cut off, short, long or with a wrong check; and the frames carry these messages
pub record IsDf1 (check : Check) (messages : List (List ℕ)) (bytes : List ℕ) : Type 0 where
  pub items : List Item
  pub front : Front
  pub splits : Splits (full_duplex check 250) bytes items front
  pub right : AreRight check items
  pub carries : AreSendingsOf (bodies_in items) messages
  pub begun : IsBegun check messages front
