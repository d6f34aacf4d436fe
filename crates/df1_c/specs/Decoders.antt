-- What a call does to the decoder that a handle holds.
use Rattle.std.specs.Prelude.{ℕ, Bool, true, false, List, length, is_none, if◌then◌else◌}
use Rattle.std.specs.declared.option.Option.{Option}
use Rattle.std.specs.declared.option.Option.TheVariants.{Some, None}
use Rattle.std.specs.Option.{unwrap_or}
use Rattle.c_lines.specs.declared.hearing.Hearing.{Hearing}
use Rattle.half_frame.specs.declared.side.Side.{Side}
use Rattle.half_frame.specs.declared.side.Side.TheVariants as side
use Rattle.c_lines.specs.Decoders as line
use Rattle.c_lines.specs.Sides.{side_of}
use Rattle.c_ends.specs.declared.code.Code.{Code}
use Rattle.c_ends.specs.declared.code.Code.TheVariants as code
use Rattle.c_ends.specs.declared.held.Held.{Held}
use Rattle.c_ends.specs.declared.held.Held.TheVariants as held
use Rattle.c_ends.specs.Links.{check_of}
use Rattle.c_calls.specs.Copied.{room_code}

-- a decoder of a side that has heard nothing
abbrev pub new_decoder : Side → Bool → Held
new_decoder side crc = held.Decoder (line.new_decoder side (check_of crc))

-- a number that is no side's
abbrev pub side_fault : ℕ → Option Code
side_fault number = if is_none (side_of number) then Some code.BadSide else None

-- a decoder of the side of a number; of one that is no side's nothing is asked
abbrev pub side_decoder : ℕ → Bool → Held
side_decoder number crc = new_decoder (unwrap_or (side_of number) side.Full) crc

-- it is a decoder
abbrev pub is_decoder : Held → Bool
is_decoder (held.Decoder decoder) = true
is_decoder (held.Duplex end) = false
is_decoder (held.Master master) = false
is_decoder (held.Slave slave) = false

-- the code of a call on a decoder
abbrev pub decoder_code : Option Held → Code
decoder_code None = code.NoHandle
decoder_code (Some held) = if is_decoder held then code.Done else code.NoHandle

-- a decoder is let go, and nothing else
abbrev pub decoder_freed : Option Held → Option Held
decoder_freed None = None
decoder_freed (Some held) = if is_decoder held then None else Some held

-- after a byte; nothing else hears one here
abbrev pub after_fed : Held → ℕ → Held
after_fed (held.Decoder decoder) b = held.Decoder (line.after_byte decoder b)
after_fed (held.Duplex end) b = held.Duplex end
after_fed (held.Master master) b = held.Master master
after_fed (held.Slave slave) b = held.Slave slave

-- what a decoder hears at a byte
abbrev pub heard_in : Held → ℕ → Option Hearing
heard_in (held.Decoder decoder) b = Some (line.hearing_at decoder b)
heard_in (held.Duplex end) b = None
heard_in (held.Master master) b = None
heard_in (held.Slave slave) b = None

-- the body that a decoder lends
abbrev pub lent_in : Held → Option (List ℕ)
lent_in (held.Decoder decoder) = Some (line.lent_by decoder)
lent_in (held.Duplex end) = None
lent_in (held.Master master) = None
lent_in (held.Slave slave) = None

abbrev pub fit_code : Option (List ℕ) → ℕ → Code
fit_code None room = code.NoHandle
fit_code (Some bytes) room = room_code (length bytes) room

-- the code of a call for that body, with so much room
abbrev pub lent_code : Option Held → ℕ → Code
lent_code None room = code.NoHandle
lent_code (Some held) room = fit_code (lent_in held) room
