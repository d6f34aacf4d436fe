-- The grammar of what the master hears, which is the slaves' bytes. 16 is DLE, 2 STX, 4 EOT, 6 ACK, and 21 and 15 are NAK.
use Rattle.std.specs.Prelude.{◌≢◌, ℕ, List, [], ◌∷◌, ◌++◌, length, ◌≡◌, Option, Some, None, ◌==◌, ◌||◌, if◌then◌else◌}
use Rattle.df1_check.specs.declared.Check.{Check}
use Rattle.df1_frame.specs.Line.{Grammar}
use Rattle.df1_frame.specs.Spelling.{pieces_of, check_len, check_of, framed}
use Rattle.half_frame.specs.declared.heard.MasterHeard.{MasterHeard}
use Rattle.half_frame.specs.declared.heard.MasterHeard.TheVariants as heard
use Rattle.half_frame.specs.Text.{Text, opened, text_bytes, IsText, opened_heard, text_heard, whole_heard, is_right, BeginsWith}

-- a byte or a pair outside; a whole message; one broken off by a pair, or one that the begin of the next cuts off
pub data Item : Type 0 where
  Stray : (b : ℕ) → Item
  Pair : (code : ℕ) → Item
  Message : (body check : List ℕ) → Item
  Broken : (body : List ℕ) (code : ℕ) → Item
  CutOff : (body : List ℕ) → Item

-- an item that has begun: by a DLE, or a text
pub data Front : Type 0 where
  Nothing : Front
  Dle : Front
  InText : (text : Text) → Front

-- ---- their bytes

abbrev pub item_bytes : Item → List ℕ
item_bytes (Stray b) = b ∷ []
item_bytes (Pair code) = 16 ∷ code ∷ []
item_bytes (Message body check) = framed (pieces_of body) check
item_bytes (Broken body code) = opened body ++ 16 ∷ code ∷ []
item_bytes (CutOff body) = opened body

abbrev pub front_bytes : Front → List ℕ
front_bytes Nothing = []
front_bytes Dle = 16 ∷ []
front_bytes (InText text) = text_bytes text

-- ---- which may stand

-- the codes of the pairs that begin an item
abbrev pub beginnings : List ℕ
beginnings = 2 ∷ []

-- the item may stand before these bytes
abbrev pub IsItem : Check → Item → List ℕ → Type 0
IsItem check (Stray b) after = b ≢ 16
IsItem check (Pair code) after = code ≢ 2
IsItem check (Message body bytes) after = length bytes ≡ check_len check
IsItem check (Broken body code) after = (code ≢ 3) × (code ≢ 16) × (code ≢ 2)
IsItem check (CutOff body) after = BeginsWith beginnings after

abbrev pub IsFront : Check → Front → Type 0
IsFront check Nothing = Unit {0}
IsFront check Dle = Unit {0}
IsFront check (InText text) = IsText check text

-- ---- what is heard

-- at the second byte of a pair outside
abbrev pub pair_heard : ℕ → MasterHeard
pair_heard code =
    if code == 6 then heard.Ack
    else (if (code == 21) || (code == 15) then heard.Nak
    else (if code == 4 then heard.Eot else heard.StrayPair code))

-- at the end of a message, where there is room for N bytes
abbrev pub message_heard : Check → ℕ → List ℕ → List ℕ → MasterHeard
message_heard check N body bytes = if is_right check N [] body bytes then heard.Good else heard.Damaged

abbrev pub item_heard : Check → ℕ → Option MasterHeard → Item → List (Option MasterHeard)
item_heard check N at (Stray b) = Some (heard.Stray b) ∷ []
item_heard check N at (Pair code) = None ∷ Some (pair_heard code) ∷ []
item_heard check N at (Message body bytes) = whole_heard at body (message_heard check N body bytes) bytes
item_heard check N at (Broken body code) = opened_heard at body ++ None ∷ Some heard.Damaged ∷ []
item_heard check N at (CutOff body) = opened_heard at body

abbrev pub front_heard : Option MasterHeard → Front → List (Option MasterHeard)
front_heard at Nothing = []
front_heard at Dle = None ∷ []
front_heard at (InText text) = text_heard at text

-- a message that is cut off is heard as damaged at the second byte of the next
abbrev pub leaves : Item → Option MasterHeard
leaves (Stray b) = None
leaves (Pair code) = None
leaves (Message body check) = None
leaves (Broken body code) = None
leaves (CutOff body) = Some heard.Damaged

-- what the master hears, of a line with one check and with room for a body of N bytes
abbrev pub master_hears : Check → ℕ → Grammar
master_hears check N = record {
  Item = Item;
  Front = Front;
  Heard = MasterHeard;
  item_bytes = item_bytes;
  front_bytes = front_bytes;
  IsItem = IsItem check;
  IsFront = IsFront check;
  item_heard = item_heard check N;
  front_heard = front_heard;
  leaves = leaves;
}

-- what is heard in a slave's message with a right text
abbrev pub reply_answers : Check → List ℕ → List (Option MasterHeard)
reply_answers check body = whole_heard None body heard.Good (check_of check body)

-- what is heard in a pair that begins no message
abbrev pub pair_answers : ℕ → List (Option MasterHeard)
pair_answers code = None ∷ Some (pair_heard code) ∷ []
