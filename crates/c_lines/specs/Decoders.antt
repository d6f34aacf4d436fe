-- A decoder of one side of a line: what a byte does to it, what it tells then, and the body that it lends.
use Rattle.std.specs.Prelude.{ℕ, List}
use Rattle.df1_check.specs.declared.Check.{Check}
use Rattle.df1_frame.specs.Standing as at_full
use Rattle.df1_frame.specs.Step as full
use Rattle.half_frame.specs.SlaveStanding as at_slave
use Rattle.half_frame.specs.SlaveStep as by_slave
use Rattle.half_frame.specs.MasterStanding as at_master
use Rattle.half_frame.specs.MasterStep as by_master
use Rattle.c_lines.specs.declared.decoder.LineDecoder.{LineDecoder}
use Rattle.c_lines.specs.declared.decoder.LineDecoder.TheVariants.{Full, OfMaster, OfSlaves}
use Rattle.c_lines.specs.declared.hearing.Hearing.{Hearing}
use Rattle.half_frame.specs.declared.side.Side.{Side}
use Rattle.half_frame.specs.declared.side.Side.TheVariants as side
use Rattle.c_lines.specs.Hearings.{full_told, master_told, slave_told}

-- one that has heard nothing
abbrev pub new_decoder : Side → Check → LineDecoder
new_decoder side.Full check = Full (record { check = check; standing = at_full.Outside })
new_decoder side.Master check = OfMaster (record { check = check; standing = at_slave.Outside })
new_decoder side.Slave check = OfSlaves (record { check = check; standing = at_master.Outside })

-- after a byte
abbrev pub after_byte : LineDecoder → ℕ → LineDecoder
after_byte (Full decoder) b = Full (full.next 250 decoder b).0
after_byte (OfMaster ear) b = OfMaster (by_slave.next 250 ear b).0
after_byte (OfSlaves ear) b = OfSlaves (by_master.next 250 ear b).0

-- what is heard at a byte
abbrev pub hearing_at : LineDecoder → ℕ → Hearing
hearing_at (Full decoder) b = full_told (full.next 250 decoder b).1
hearing_at (OfMaster ear) b = master_told (by_slave.next 250 ear b).1
hearing_at (OfSlaves ear) b = slave_told (by_master.next 250 ear b).1

-- the body that is lent
abbrev pub lent_by : LineDecoder → List ℕ
lent_by (Full decoder) = at_full.lent_at decoder.standing
lent_by (OfMaster ear) = at_slave.lent_at ear.standing
lent_by (OfSlaves ear) = at_master.lent_at ear.standing
