-- How the four things that are sent on a half-duplex line are spelled. 16 is DLE, 1 SOH, 2 STX, 3 ETX, 5 ENQ.
use Rattle.std.specs.Prelude.{ℕ, true, false, List, [], ◌∷◌, ◌++◌, map}
use Rattle.std.specs.List.{flat_map}
use Rattle.df1_check.specs.declared.Check.{Check}
use Rattle.df1_check.specs.declared.Check.TheVariants as kind
use Rattle.df1_check.specs.Checks.{bcc}
use Rattle.df1_frame.specs.Spelling.{Piece, Plain, Doubled, Response, pieces_of, check_of, framed}
use Rattle.half_frame.specs.declared.framer.Sent.{Sent}

-- what the check of a master's message covers before its body: the station, and the CRC takes STX too
abbrev pub station_head : Check → ℕ → List ℕ
station_head kind.Bcc stn = stn ∷ []
station_head kind.Crc stn = stn ∷ 2 ∷ []

-- a master's message to a station
abbrev pub message_bytes : Check → ℕ → List ℕ → List ℕ
message_bytes check stn body = 16 ∷ 1 ∷ stn ∷ framed (pieces_of body) (check_of check (station_head check stn ++ body))

-- a poll of a station: a BCC of the station ends it, whatever the line's check
abbrev pub poll_bytes : ℕ → List ℕ
poll_bytes stn = 16 ∷ 5 ∷ stn ∷ bcc (stn ∷ []) ∷ []

-- a slave's message
abbrev pub reply_bytes : Check → List ℕ → List ℕ
reply_bytes check body = framed (pieces_of body) (check_of check body)

-- a pair by itself
abbrev pub pair_bytes : ℕ → List ℕ
pair_bytes code = 16 ∷ code ∷ []

-- ---- the same, with a mark on each byte that is by itself a byte of a body

-- bytes without a mark
abbrev pub unmarked : List ℕ → List Sent
unmarked = map (λ b. record { byte = b; of_body = false })

abbrev pub piece_sent : Piece → List Sent
piece_sent (Plain b) = record { byte = b; of_body = true } ∷ []
piece_sent Doubled = unmarked (16 ∷ 16 ∷ [])
piece_sent (Response code) = unmarked (16 ∷ code ∷ [])

-- a message's text
abbrev pub text_sent : List ℕ → List ℕ → List Sent
text_sent body check = unmarked (16 ∷ 2 ∷ []) ++ (flat_map piece_sent (pieces_of body) ++ unmarked (16 ∷ 3 ∷ check))

abbrev pub message_sent : Check → ℕ → List ℕ → List Sent
message_sent check stn body = unmarked (16 ∷ 1 ∷ stn ∷ []) ++ text_sent body (check_of check (station_head check stn ++ body))

abbrev pub reply_sent : Check → List ℕ → List Sent
reply_sent check body = text_sent body (check_of check body)

-- the bytes without their marks
abbrev pub bytes_of : List Sent → List ℕ
bytes_of = map (λ sent. sent.byte)
