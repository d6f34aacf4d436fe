-- When an ACK counts, said of the signals alone.
use Rattle.std.specs.Prelude.{Bool, true, false, List, [], ◌∷◌, Option, Some, None, if◌then◌else◌}
use Rattle.df1_base.specs.declared.host.Host.{Ghosts}
use Rattle.half_slave.specs.declared.held.Held.{Held}
use Rattle.half_slave.specs.Slave.{SlaveState, heard_at, closes_wait, ends_here, out_at_take, slave_after_byte, slave_after_take}
use Rattle.half_slave.specs.Emission.{Letter, Byte, Take}

-- the last byte of a transmission was taken among these signals, or it was before them, and no header and no poll was heard since
abbrev pub since_sending : {H : Type 0} → Ghosts H → Bool → SlaveState H → List Letter → Bool
since_sending m before s [] = before
since_sending m before s (Byte b ∷ signals) = since_sending m (if closes_wait (heard_at s b) then false else before) (slave_after_byte m s b) signals
since_sending m before s (Take ∷ signals) = since_sending m (if ends_here (out_at_take s) then true else before) (slave_after_take s) signals

-- an ACK counts for the message that is held
abbrev pub is_waiting : Option Held → Bool
is_waiting None = false
is_waiting (Some message) = message.wait_open
