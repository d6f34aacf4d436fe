-- What an end of a half-duplex link has to give, and which byte comes next.
use Rattle.std.specs.Prelude.{ℕ, ◌+◌, ◌-◌, ◌^◌, Bool, List, [], ◌∷◌, length, Option, Some, None, min, ◌==◌, if◌then◌else◌}
use Rattle.df1_base.specs.declared.link.Out.{Out}
use Rattle.half_frame.specs.declared.framer.Sent.{Sent}

-- the bytes that are left of what is given; the number of its transmission, if it is one; how many transmissions have begun
pub record Giving : Type 0 where
  pub left : List Sent
  pub number : Option ℕ
  pub begun : ℕ

-- before anything
abbrev pub nothing : Giving
nothing = record { left = []; number = None; begun = 0 }

-- one transmission more, of a count that stops at the last value of u64
abbrev pub one_more : ℕ → ℕ
one_more begun = min (begun + 1) (2 ^ 64 - 1)

-- a message is begun, and its transmission has the next number
abbrev pub transmit : Giving → List Sent → Giving
transmit g sent = record { left = sent; number = Some (one_more g.begun); begun = one_more g.begun }

-- a poll, EOT or a response is begun, which is no transmission
abbrev pub give : Giving → List Sent → Giving
give g sent = record { left = sent; number = None; begun = g.begun }

-- nothing is left
abbrev pub is_done : Giving → Bool
is_done g = length g.left == 0

-- how many bytes there are to give
abbrev pub bytes_left : Giving → ℕ
bytes_left g = length g.left

-- a byte that is given, by whether it is the last: the last has the transmission's number, and so has one of the body
abbrev pub out_of : Option ℕ → Sent → Bool → Out
out_of number sent is_last = record { byte = sent.byte; last_of = if is_last then number else None; body_of = if sent.of_body then number else None }

-- what is left after the next of these bytes, and that byte
abbrev pub taken : Giving → List Sent → Giving × Option Out
taken g [] = (g, None)
taken g (sent ∷ left) = (record { left = left; number = g.number; begun = g.begun }, Some (out_of g.number sent (length left == 0)))

-- what is left after the next byte, and that byte
abbrev pub take : Giving → Giving × Option Out
take g = taken g g.left
