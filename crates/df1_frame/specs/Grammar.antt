-- The full-duplex grammar, and what is heard at each of its bytes. 5 is ENQ.
use Rattle.std.specs.Prelude.{◌≡◌, ◌≢◌, ℕ, ◌<◌, List, [], ◌∷◌, ◌++◌, length, Option, Some, None, nat_lt, ◌==◌, if◌then◌else◌}
use Rattle.std.specs.List.{flat_map}
use Rattle.df1_check.specs.declared.Check.{Check}
use Rattle.df1_frame.specs.declared.heard.Heard.{Heard}
use Rattle.df1_frame.specs.declared.heard.Heard.TheVariants as heard
use Rattle.df1_frame.specs.Line.{Grammar}
use Rattle.df1_frame.specs.Spelling.{Piece, Plain, Doubled, Response, ArePieces, body_of, response, check_len, check_of, same, opening, framed}

-- a byte or a pair outside a frame, a whole frame, one broken off by a pair, or one that another frame's begin cuts off
pub data Item : Type 0 where
  Stray : (b : ℕ) → Item
  Pair : (code : ℕ) → Item
  Frame : (pieces : List Piece) (check : List ℕ) → Item
  Broken : (pieces : List Piece) (code : ℕ) → Item
  Restart : (pieces : List Piece) → Item

-- an item that has begun: by a DLE, or a frame's opening, with a DLE behind it, or with its end and too little of the check
pub data Front : Type 0 where
  Nothing : Front
  Dle : Front
  Opened : (pieces : List Piece) → Front
  OpenedDle : (pieces : List Piece) → Front
  Closed : (pieces : List Piece) (check : List ℕ) → Front

-- ---- their bytes

abbrev pub item_bytes : Item → List ℕ
item_bytes (Stray b) = b ∷ []
item_bytes (Pair code) = 16 ∷ code ∷ []
item_bytes (Frame pieces check) = framed pieces check
item_bytes (Broken pieces code) = opening pieces ++ 16 ∷ code ∷ []
item_bytes (Restart pieces) = opening pieces

abbrev pub front_bytes : Front → List ℕ
front_bytes Nothing = []
front_bytes Dle = 16 ∷ []
front_bytes (Opened pieces) = opening pieces
front_bytes (OpenedDle pieces) = opening pieces ++ 16 ∷ []
front_bytes (Closed pieces check) = framed pieces check

-- ---- which may stand

-- the bytes begin as a frame does
abbrev pub OpensFrame : List ℕ → Type 0
OpensFrame bytes = (more : List ℕ) × (bytes ≡ 16 ∷ 2 ∷ more)

-- the item may stand before these bytes: a frame is cut off only by the begin of the next
abbrev pub IsItem : Check → Item → List ℕ → Type 0
IsItem check (Stray b) after = b ≢ 16
IsItem check (Pair code) after = code ≢ 2
IsItem check (Frame pieces bytes) after = ArePieces pieces × (length bytes ≡ check_len check)
IsItem check (Broken pieces code) after = ArePieces pieces × (code ≢ 2) × (code ≢ 3) × (code ≢ 16) × (response code ≡ None)
IsItem check (Restart pieces) after = ArePieces pieces × OpensFrame after

abbrev pub IsFront : Check → Front → Type 0
IsFront check Nothing = Unit {0}
IsFront check Dle = Unit {0}
IsFront check (Opened pieces) = ArePieces pieces
IsFront check (OpenedDle pieces) = ArePieces pieces
IsFront check (Closed pieces bytes) = ArePieces pieces × (length bytes < check_len check)

-- ---- what is heard

-- at the second byte of a pair outside a frame
abbrev pub stray_pair_heard : Option Heard → ℕ → Heard
stray_pair_heard (Some h) code = h
stray_pair_heard None code = if code == 5 then heard.Enq else heard.StrayPair code

-- at the end of a frame, where there is room for N bytes: the first that fits
abbrev pub frame_heard : Check → ℕ → List ℕ → List ℕ → Heard
frame_heard check N body bytes =
    if nat_lt N (length body)
    then heard.Long
    else (if same bytes (check_of check body) then (if nat_lt (length body) 6 then heard.Short else heard.Good) else heard.BadCheck)

-- at each byte of a piece: a response is heard at its second byte
abbrev pub piece_heard : Piece → List (Option Heard)
piece_heard (Plain b) = None ∷ []
piece_heard Doubled = None ∷ None ∷ []
piece_heard (Response code) = None ∷ response code ∷ []

-- at each byte of a frame up to its end; the first is heard at the 02, a restart where a frame was cut off by it
abbrev pub opening_heard : Option Heard → List Piece → List (Option Heard)
opening_heard at pieces = None ∷ at ∷ flat_map piece_heard pieces

-- at each of the check bytes: nothing but at the last
abbrev pub check_heard : {H : Type 0} → H → List ℕ → List (Option H)
check_heard h [] = []
check_heard h (b ∷ []) = Some h ∷ []
check_heard h (b ∷ c ∷ more) = None ∷ check_heard h (c ∷ more)

-- at each of some bytes at which nothing is heard
abbrev pub unheard : {H : Type 0} → List ℕ → List (Option H)
unheard [] = []
unheard (b ∷ more) = None ∷ unheard more

abbrev pub item_heard : Check → ℕ → Option Heard → Item → List (Option Heard)
item_heard check N at (Stray b) = Some (heard.Stray b) ∷ []
item_heard check N at (Pair code) = None ∷ Some (stray_pair_heard (response code) code) ∷ []
item_heard check N at (Frame pieces bytes) = opening_heard at pieces ++ None ∷ None ∷ check_heard (frame_heard check N (body_of pieces) bytes) bytes
item_heard check N at (Broken pieces code) = opening_heard at pieces ++ None ∷ Some (heard.Broken code) ∷ []
item_heard check N at (Restart pieces) = opening_heard at pieces

abbrev pub front_heard : Option Heard → Front → List (Option Heard)
front_heard at Nothing = []
front_heard at Dle = None ∷ []
front_heard at (Opened pieces) = opening_heard at pieces
front_heard at (OpenedDle pieces) = opening_heard at pieces ++ None ∷ []
front_heard at (Closed pieces bytes) = opening_heard at pieces ++ None ∷ None ∷ unheard bytes

-- a frame that is cut off leaves a restart to be heard
abbrev pub leaves : Item → Option Heard
leaves (Stray b) = None
leaves (Pair code) = None
leaves (Frame pieces check) = None
leaves (Broken pieces code) = None
leaves (Restart pieces) = Some heard.Restart

-- the full-duplex grammar of one check, where there is room for a body of N bytes
abbrev pub full_duplex : Check → ℕ → Grammar
full_duplex check N = record {
  Item = Item;
  Front = Front;
  Heard = Heard;
  item_bytes = item_bytes;
  front_bytes = front_bytes;
  IsItem = IsItem check;
  IsFront = IsFront check;
  item_heard = item_heard check N;
  front_heard = front_heard;
  leaves = leaves;
}

-- what is heard in a good frame: the responses between its ends, and that it is good
abbrev pub good_answers : Check → List Piece → List (Option Heard)
good_answers check pieces = None ∷ None ∷ flat_map piece_heard pieces ++ None ∷ None ∷ check_heard heard.Good (check_of check (body_of pieces))
