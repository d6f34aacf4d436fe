-- What a handle may hold.
use Rattle.std.specs.Prelude.{Bool, true, false}
use Rattle.c_ends.specs.declared.held.Held.{Held}
use Rattle.c_ends.specs.declared.held.Held.TheVariants as held

-- it is an end of a link
abbrev pub is_end : Held → Bool
is_end (held.Decoder decoder) = false
is_end (held.Duplex end) = true
is_end (held.Master master) = true
is_end (held.Slave slave) = true
