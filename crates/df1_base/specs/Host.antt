-- What a host takes and hands out.
use Rattle.std.specs.Prelude.{ℕ, ◌≤◌, List, length}

-- a body of a message: 6 to 250 bytes
abbrev pub IsBody : List ℕ → Type 0
IsBody body = (6 ≤ length body) × (length body ≤ 250)
