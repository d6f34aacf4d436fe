-- The bytes that a decoder stands for, and what the grammar of its side hears and reads in them.
use Rattle.std.specs.Prelude.{ℕ, List}
use Rattle.df1_check.specs.declared.Check.{Check}
use Rattle.df1_frame.specs.Line.{ReadOff, last_heard}
use Rattle.df1_frame.specs.Grammar.{full_duplex}
use Rattle.df1_frame.specs.Standing as at_full
use Rattle.half_frame.specs.SlaveGrammar.{slave_hears}
use Rattle.half_frame.specs.SlaveStanding as at_slave
use Rattle.half_frame.specs.MasterGrammar.{master_hears}
use Rattle.half_frame.specs.MasterStanding as at_master
use Rattle.c_lines.specs.declared.decoder.LineDecoder.{LineDecoder}
use Rattle.c_lines.specs.declared.decoder.LineDecoder.TheVariants.{Full, OfMaster, OfSlaves}
use Rattle.c_lines.specs.declared.hearing.Hearing.{Hearing}
use Rattle.half_frame.specs.declared.side.Side.{Side}
use Rattle.half_frame.specs.declared.side.Side.TheVariants as side
use Rattle.c_lines.specs.Hearings.{full_told, master_told, slave_told}

-- it is a decoder of this side, and is where the side's grammar says, over all of these bytes
abbrev pub StandsFor : Side → Check → List ℕ → LineDecoder → Type 0
StandsFor side.Full check bytes (Full decoder) = ReadOff (full_duplex check 250) bytes (at_full.decoding check 250) decoder
StandsFor side.Full check bytes (OfMaster ear) = ⊥
StandsFor side.Full check bytes (OfSlaves ear) = ⊥
StandsFor side.Master check bytes (Full decoder) = ⊥
StandsFor side.Master check bytes (OfMaster ear) = ReadOff (slave_hears check 250) bytes (at_slave.listening check 250) ear
StandsFor side.Master check bytes (OfSlaves ear) = ⊥
StandsFor side.Slave check bytes (Full decoder) = ⊥
StandsFor side.Slave check bytes (OfMaster ear) = ⊥
StandsFor side.Slave check bytes (OfSlaves ear) = ReadOff (master_hears check 250) bytes (at_master.listening check 250) ear

-- what is told is what the side's grammar hears at the last of these bytes
abbrev pub IsHearing : Side → Check → List ℕ → Hearing → Type 0
IsHearing side.Full check bytes told = ReadOff (full_duplex check 250) bytes (λ items front. full_told (last_heard (full_duplex check 250) items front)) told
IsHearing side.Master check bytes told = ReadOff (slave_hears check 250) bytes (λ items front. master_told (last_heard (slave_hears check 250) items front)) told
IsHearing side.Slave check bytes told = ReadOff (master_hears check 250) bytes (λ items front. slave_told (last_heard (master_hears check 250) items front)) told

-- the body of the frame or message that ends at the last of these bytes: of a frame with room for it, or of a good message, else none
abbrev pub IsBody : Side → Check → List ℕ → List ℕ → Type 0
IsBody side.Full check bytes body = ReadOff (full_duplex check 250) bytes (at_full.lent check 250) body
IsBody side.Master check bytes body = ReadOff (slave_hears check 250) bytes (at_slave.lent check 250) body
IsBody side.Slave check bytes body = ReadOff (master_hears check 250) bytes (at_master.lent check 250) body
