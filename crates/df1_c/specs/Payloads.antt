-- What a call comes to that spells something for C: it copies the bytes, or answers the code of the first fault and changes nothing.
use Rattle.std.specs.Prelude.{ℕ, List, length, Result, Ok, Err}
use Rattle.c_ends.specs.declared.code.Code.{Code}
use Rattle.c_calls.specs.Copied.{copied, room_code}

-- with so much room
abbrev pub given_code : Result (List ℕ) Code → ℕ → Code
given_code (Ok bytes) room = room_code (length bytes) room
given_code (Err fault) room = fault

-- what a buffer has then
abbrev pub given_into : List ℕ → Result (List ℕ) Code → List ℕ
given_into old (Ok bytes) = copied old bytes
given_into old (Err fault) = old

-- and how many bytes are told
abbrev pub given_count : ℕ → Result (List ℕ) Code → ℕ
given_count old (Ok bytes) = length bytes
given_count old (Err fault) = old
