-- The bytes that a handle stands for, and what the grammar of its line hears in them.
use Rattle.std.specs.Prelude.{◌≡◌, ℕ, List, length}
use Rattle.std.specs.declared.option.Option.{Option}
use Rattle.std.specs.declared.option.Option.TheVariants.{Some, None}
use Rattle.df1_check.specs.declared.Check.{Check}
use Rattle.half_frame.specs.declared.side.Side.{Side}
use Rattle.half_frame.specs.declared.side.Side.TheVariants as side
use Rattle.c_lines.specs.Arrived.{IsBody, StandsFor}
use Rattle.duplex_end.specs.Arrived as duplex
use Rattle.half_master.specs.Arrived as master
use Rattle.half_slave.specs.Arrived as slave
use Rattle.c_ends.specs.declared.held.Held.{Held}
use Rattle.c_ends.specs.declared.held.Held.TheVariants as held
use Rattle.c_ends.specs.Code.{code_number}
use Rattle.c_calls.specs.Copied.{copied, room_code}

-- ---- a decoder

-- it is held, is one of this side, and is where the side's grammar says, over all of these bytes
abbrev pub IsDecoderFor : Side → Check → List ℕ → Option Held → Type 0
IsDecoderFor side check bytes None = ⊥
IsDecoderFor side check bytes (Some (held.Decoder decoder)) = StandsFor side check bytes decoder
IsDecoderFor side check bytes (Some (held.Duplex end)) = ⊥
IsDecoderFor side check bytes (Some (held.Master end)) = ⊥
IsDecoderFor side check bytes (Some (held.Slave end)) = ⊥

-- ---- an end

-- it is held, and hears on from where the grammar of its kind says, over all of these bytes
abbrev pub IsEndFor : Check → List ℕ → Option Held → Type 0
IsEndFor check bytes None = ⊥
IsEndFor check bytes (Some (held.Decoder decoder)) = ⊥
IsEndFor check bytes (Some (held.Duplex end)) = duplex.StandsFor check bytes end
IsEndFor check bytes (Some (held.Master end)) = master.StandsFor check bytes end
IsEndFor check bytes (Some (held.Slave end)) = slave.StandsFor check bytes end

-- the grammar of its kind hears a whole frame or message at the last of these bytes; a slave's one to any station
abbrev pub HearsWhole : Check → List ℕ → Option Held → Type 0
HearsWhole check bytes None = ⊥
HearsWhole check bytes (Some (held.Decoder decoder)) = ⊥
HearsWhole check bytes (Some (held.Duplex end)) = duplex.HearsWhole check bytes
HearsWhole check bytes (Some (held.Master end)) = master.HearsWhole check bytes
HearsWhole check bytes (Some (held.Slave end)) = (station : ℕ) × slave.HearsMessage check bytes station

-- ---- the body that is lent

-- that an end lends at the last of these bytes: a master hears what slaves give, and a slave what the master gives
abbrev pub IsBodyOf : Check → List ℕ → Option Held → List ℕ → Type 0
IsBodyOf check bytes None body = ⊥
IsBodyOf check bytes (Some (held.Decoder decoder)) body = ⊥
IsBodyOf check bytes (Some (held.Duplex end)) body = IsBody side.Full check bytes body
IsBodyOf check bytes (Some (held.Master end)) body = IsBody side.Slave check bytes body
IsBodyOf check bytes (Some (held.Slave end)) body = IsBody side.Master check bytes body

-- a call that copies such a body to the front of a buffer: its bytes are counted, and the code says whether there is room
pub record Copies (IsBody : List ℕ → Type 0) (answer : ℕ) (old new : List ℕ) (count : ℕ) : Type 0 where
  pub body : List ℕ
  pub is_body : IsBody body
  pub code : answer ≡ code_number (room_code (length body) (length old))
  pub bytes : new ≡ copied old body
  pub counted : count ≡ length body
