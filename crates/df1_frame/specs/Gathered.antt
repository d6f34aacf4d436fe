-- What a decoder with room for N bytes gathers of a body: its first N bytes, whether it has more, and its check so far.
use Rattle.std.specs.Prelude.{ℕ, Bool, true, false, List, [], ◌∷◌, ◌++◌, length, take, nat_lt, if◌then◌else◌}
use Rattle.df1_check.specs.declared.Check.{Check}
use Rattle.df1_check.specs.declared.Check.TheVariants as kind
use Rattle.df1_check.specs.Checks.{Taken, take_byte, taken}
use Rattle.df1_frame.specs.declared.heard.Heard.{Heard}
use Rattle.df1_frame.specs.declared.heard.Heard.TheVariants as heard
use Rattle.df1_frame.specs.Spelling.{check_bytes, covered, same}

pub record Gathered : Type 0 where
  pub bytes : List ℕ
  pub long : Bool
  pub running : Taken

-- of a body whose end hasn't come, where the check covers a head before it
abbrev pub gathered_after : Check → ℕ → List ℕ → List ℕ → Gathered
gathered_after check N head body = record { bytes = take N body; long = nat_lt N (length body); running = taken check (head ++ body) }

-- of a body whose end has come: the check has taken all that it covers
abbrev pub gathered_whole_after : Check → ℕ → List ℕ → List ℕ → Gathered
gathered_whole_after check N head body = record { bytes = take N body; long = nat_lt N (length body); running = taken check (covered check (head ++ body)) }

-- the same where the check covers no head
abbrev pub gathered : Check → ℕ → List ℕ → Gathered
gathered check N = gathered_after check N []

abbrev pub gathered_whole : Check → ℕ → List ℕ → Gathered
gathered_whole check N = gathered_whole_after check N []

-- of no body
abbrev pub nothing_gathered : Check → Gathered
nothing_gathered check = record { bytes = []; long = false; running = taken check [] }

-- with one byte of the body more
abbrev pub gather : ℕ → Gathered → ℕ → Gathered
gather N so_far b =
    if nat_lt (length so_far.bytes) N
    then record { bytes = so_far.bytes ++ b ∷ []; long = so_far.long; running = take_byte so_far.running b }
    else record { bytes = so_far.bytes; long = true; running = take_byte so_far.running b }

-- with one byte more that the check covers and that is none of the body
abbrev pub cover : Gathered → ℕ → Gathered
cover so_far b = record { bytes = so_far.bytes; long = so_far.long; running = take_byte so_far.running b }

-- at the end of the body: the CRC takes ETX too
abbrev pub close : Check → Gathered → Gathered
close kind.Bcc so_far = so_far
close kind.Crc so_far = cover so_far 3

-- what is heard at the last of the check bytes
abbrev pub verdict : Check → Gathered → List ℕ → Heard
verdict check so_far bytes =
    if so_far.long
    then heard.Long
    else (if same bytes (check_bytes check so_far.running.value) then (if nat_lt (length so_far.bytes) 6 then heard.Short else heard.Good) else heard.BadCheck)
