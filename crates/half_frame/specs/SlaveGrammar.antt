-- The grammar of what a slave hears, which is the master's bytes. 16 is DLE, 1 SOH, 2 STX, 5 ENQ, 6 ACK, and 21 and 15 are NAK.
use Rattle.std.specs.Prelude.{◌≢◌, ℕ, List, [], ◌∷◌, ◌++◌, length, ◌≡◌, Option, Some, None, ◌==◌, ◌||◌, if◌then◌else◌}
use Rattle.df1_check.specs.declared.Check.{Check}
use Rattle.df1_check.specs.Checks.{bcc}
use Rattle.df1_frame.specs.Line.{Grammar}
use Rattle.df1_frame.specs.Spelling.{pieces_of, check_len, check_of, framed}
use Rattle.half_frame.specs.declared.heard.SlaveHeard.{SlaveHeard}
use Rattle.half_frame.specs.declared.heard.SlaveHeard.TheVariants as heard
use Rattle.half_frame.specs.Spelling.{station_head}
use Rattle.half_frame.specs.Text.{Text, opened, text_bytes, IsText, opened_heard, text_heard, whole_heard, is_right, BeginsWith}

-- what has come of a message that doesn't end as one: its station, or a body too
pub data Begun : Type 0 where
  Station : (stn : ℕ) → Begun
  Body : (stn : ℕ) (body : List ℕ) → Begun

-- a byte or a pair outside; a poll; a whole message; one with another byte in place of its text, one broken off by a
-- pair, or one that the pair which begins the next item cuts off
pub data Item : Type 0 where
  Stray : (b : ℕ) → Item
  Pair : (code : ℕ) → Item
  Poll : (stn check : ℕ) → Item
  Message : (stn : ℕ) (body check : List ℕ) → Item
  NoText : (stn b : ℕ) → Item
  Broken : (begun : Begun) (code : ℕ) → Item
  CutOff : (begun : Begun) → Item

-- an item that has begun: by a DLE, DLE SOH, DLE ENQ, a station behind one of these, a DLE behind a message's station, or a text
pub data Front : Type 0 where
  Nothing : Front
  Dle : Front
  Soh : Front
  Enq : Front
  Polled : (stn : ℕ) → Front
  Headed : (stn : ℕ) → Front
  HeadedDle : (stn : ℕ) → Front
  InText : (stn : ℕ) (text : Text) → Front

-- ---- their bytes

abbrev pub begun_bytes : Begun → List ℕ
begun_bytes (Station stn) = 16 ∷ 1 ∷ stn ∷ []
begun_bytes (Body stn body) = 16 ∷ 1 ∷ stn ∷ opened body

abbrev pub item_bytes : Item → List ℕ
item_bytes (Stray b) = b ∷ []
item_bytes (Pair code) = 16 ∷ code ∷ []
item_bytes (Poll stn check) = 16 ∷ 5 ∷ stn ∷ check ∷ []
item_bytes (Message stn body check) = 16 ∷ 1 ∷ stn ∷ framed (pieces_of body) check
item_bytes (NoText stn b) = 16 ∷ 1 ∷ stn ∷ b ∷ []
item_bytes (Broken begun code) = begun_bytes begun ++ 16 ∷ code ∷ []
item_bytes (CutOff begun) = begun_bytes begun

abbrev pub front_bytes : Front → List ℕ
front_bytes Nothing = []
front_bytes Dle = 16 ∷ []
front_bytes Soh = 16 ∷ 1 ∷ []
front_bytes Enq = 16 ∷ 5 ∷ []
front_bytes (Polled stn) = 16 ∷ 5 ∷ stn ∷ []
front_bytes (Headed stn) = 16 ∷ 1 ∷ stn ∷ []
front_bytes (HeadedDle stn) = 16 ∷ 1 ∷ stn ∷ 16 ∷ []
front_bytes (InText stn text) = 16 ∷ 1 ∷ stn ∷ text_bytes text

-- ---- which may stand

-- the codes of the pairs that begin an item
abbrev pub beginnings : List ℕ
beginnings = 1 ∷ 5 ∷ []

-- the pair with this code doesn't go on with what has begun
abbrev pub BreaksOff : Begun → ℕ → Type 0
BreaksOff (Station stn) code = code ≢ 2
BreaksOff (Body stn body) code = (code ≢ 3) × (code ≢ 16)

-- the item may stand before these bytes
abbrev pub IsItem : Check → Item → List ℕ → Type 0
IsItem check (Stray b) after = b ≢ 16
IsItem check (Pair code) after = (code ≢ 1) × (code ≢ 5)
IsItem check (Poll stn bytes) after = Unit {0}
IsItem check (Message stn body bytes) after = length bytes ≡ check_len check
IsItem check (NoText stn b) after = b ≢ 16
IsItem check (Broken begun code) after = BreaksOff begun code × (code ≢ 1) × (code ≢ 5)
IsItem check (CutOff begun) after = BeginsWith beginnings after

abbrev pub IsFront : Check → Front → Type 0
IsFront check Nothing = Unit {0}
IsFront check Dle = Unit {0}
IsFront check Soh = Unit {0}
IsFront check Enq = Unit {0}
IsFront check (Polled stn) = Unit {0}
IsFront check (Headed stn) = Unit {0}
IsFront check (HeadedDle stn) = Unit {0}
IsFront check (InText stn text) = IsText check text

-- ---- what is heard

-- at the second byte of a pair outside
abbrev pub pair_heard : ℕ → SlaveHeard
pair_heard code = if code == 6 then heard.Ack else (if (code == 21) || (code == 15) then heard.Reset else heard.StrayPair code)

-- at the end of a poll
abbrev pub poll_heard : ℕ → ℕ → SlaveHeard
poll_heard stn check = if check == bcc (stn ∷ []) then heard.Poll stn else heard.BadPoll

-- at the end of a message, where there is room for N bytes
abbrev pub message_heard : Check → ℕ → ℕ → List ℕ → List ℕ → SlaveHeard
message_heard check N stn body bytes = if is_right check N (station_head check stn) body bytes then heard.Addressed stn else heard.Damaged stn

-- a message that doesn't end as one
abbrev pub damaged : Begun → SlaveHeard
damaged (Station stn) = heard.Damaged stn
damaged (Body stn body) = heard.Damaged stn

abbrev pub begun_heard : Option SlaveHeard → Begun → List (Option SlaveHeard)
begun_heard at (Station stn) = None ∷ at ∷ None ∷ []
begun_heard at (Body stn body) = None ∷ at ∷ None ∷ opened_heard (Some (heard.Header stn)) body

abbrev pub item_heard : Check → ℕ → Option SlaveHeard → Item → List (Option SlaveHeard)
item_heard check N at (Stray b) = Some (heard.Stray b) ∷ []
item_heard check N at (Pair code) = None ∷ Some (pair_heard code) ∷ []
item_heard check N at (Poll stn bytes) = None ∷ at ∷ None ∷ Some (poll_heard stn bytes) ∷ []
item_heard check N at (Message stn body bytes) = None ∷ at ∷ None ∷ whole_heard (Some (heard.Header stn)) body (message_heard check N stn body bytes) bytes
item_heard check N at (NoText stn b) = None ∷ at ∷ None ∷ Some (heard.Damaged stn) ∷ []
item_heard check N at (Broken begun code) = begun_heard at begun ++ None ∷ Some (damaged begun) ∷ []
item_heard check N at (CutOff begun) = begun_heard at begun

abbrev pub front_heard : Option SlaveHeard → Front → List (Option SlaveHeard)
front_heard at Nothing = []
front_heard at Dle = None ∷ []
front_heard at Soh = None ∷ at ∷ []
front_heard at Enq = None ∷ at ∷ []
front_heard at (Polled stn) = None ∷ at ∷ None ∷ []
front_heard at (Headed stn) = None ∷ at ∷ None ∷ []
front_heard at (HeadedDle stn) = None ∷ at ∷ None ∷ None ∷ []
front_heard at (InText stn text) = None ∷ at ∷ None ∷ text_heard (Some (heard.Header stn)) text

-- a message that is cut off is heard as damaged at the second byte of the next item
abbrev pub leaves : Item → Option SlaveHeard
leaves (Stray b) = None
leaves (Pair code) = None
leaves (Poll stn check) = None
leaves (Message stn body check) = None
leaves (NoText stn b) = None
leaves (Broken begun code) = None
leaves (CutOff begun) = Some (damaged begun)

-- what a slave hears, of a line with one check and with room for a body of N bytes
abbrev pub slave_hears : Check → ℕ → Grammar
slave_hears check N = record {
  Item = Item;
  Front = Front;
  Heard = SlaveHeard;
  item_bytes = item_bytes;
  front_bytes = front_bytes;
  IsItem = IsItem check;
  IsFront = IsFront check;
  item_heard = item_heard check N;
  front_heard = front_heard;
  leaves = leaves;
}

-- what is heard in a message to a station with a right text: its header at the STX, and at its last byte that it is addressed
abbrev pub message_answers : Check → ℕ → List ℕ → List (Option SlaveHeard)
message_answers check stn body = None ∷ None ∷ None ∷ whole_heard (Some (heard.Header stn)) body (heard.Addressed stn) (check_of check (station_head check stn ++ body))

-- what is heard in a poll with a right BCC
abbrev pub poll_answers : ℕ → List (Option SlaveHeard)
poll_answers stn = None ∷ None ∷ None ∷ Some (heard.Poll stn) ∷ []

-- what is heard in a pair that begins no item
abbrev pub pair_answers : ℕ → List (Option SlaveHeard)
pair_answers code = None ∷ Some (pair_heard code) ∷ []
