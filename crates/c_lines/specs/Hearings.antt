-- The numbers by which C is told what is heard, with the byte or the station that it names, or 0.
use Rattle.std.specs.Prelude.{ℕ}
use Rattle.std.specs.declared.option.Option.{Option}
use Rattle.std.specs.declared.option.Option.TheVariants.{Some, None}
use Rattle.df1_frame.specs.declared.heard.Heard.{Heard}
use Rattle.df1_frame.specs.declared.heard.Heard.TheVariants as full
use Rattle.half_frame.specs.declared.heard.SlaveHeard.{SlaveHeard}
use Rattle.half_frame.specs.declared.heard.SlaveHeard.TheVariants as by_slave
use Rattle.half_frame.specs.declared.heard.MasterHeard.{MasterHeard}
use Rattle.half_frame.specs.declared.heard.MasterHeard.TheVariants as by_master
use Rattle.c_lines.specs.declared.hearing.Hearing.{Hearing}

abbrev pub naming_none : ℕ → Hearing
naming_none heard = record { heard = heard; byte = 0; station = 0 }

abbrev pub naming_byte : ℕ → ℕ → Hearing
naming_byte heard byte = record { heard = heard; byte = byte; station = 0 }

abbrev pub naming_station : ℕ → ℕ → Hearing
naming_station heard station = record { heard = heard; byte = 0; station = station }

-- of a full-duplex line
abbrev pub full_told : Option Heard → Hearing
full_told None = naming_none 0
full_told (Some full.Good) = naming_none 1
full_told (Some full.Short) = naming_none 2
full_told (Some full.BadCheck) = naming_none 3
full_told (Some full.Long) = naming_none 4
full_told (Some (full.Broken b)) = naming_byte 5 b
full_told (Some full.Restart) = naming_none 6
full_told (Some full.Ack) = naming_none 7
full_told (Some full.Nak) = naming_none 8
full_told (Some full.Enq) = naming_none 9
full_told (Some (full.Stray b)) = naming_byte 10 b
full_told (Some (full.StrayPair b)) = naming_byte 11 b

-- of a master, as a slave hears it
abbrev pub master_told : Option SlaveHeard → Hearing
master_told None = naming_none 0
master_told (Some (by_slave.Addressed stn)) = naming_station 1 stn
master_told (Some (by_slave.Header stn)) = naming_station 12 stn
master_told (Some (by_slave.Poll stn)) = naming_station 13 stn
master_told (Some by_slave.BadPoll) = naming_none 14
master_told (Some (by_slave.Damaged stn)) = naming_station 15 stn
master_told (Some by_slave.Ack) = naming_none 7
master_told (Some by_slave.Reset) = naming_none 8
master_told (Some (by_slave.Stray b)) = naming_byte 10 b
master_told (Some (by_slave.StrayPair b)) = naming_byte 11 b

-- of slaves, as the master hears them
abbrev pub slave_told : Option MasterHeard → Hearing
slave_told None = naming_none 0
slave_told (Some by_master.Good) = naming_none 1
slave_told (Some by_master.Damaged) = naming_none 15
slave_told (Some by_master.Ack) = naming_none 7
slave_told (Some by_master.Nak) = naming_none 8
slave_told (Some by_master.Eot) = naming_none 16
slave_told (Some (by_master.Stray b)) = naming_byte 10 b
slave_told (Some (by_master.StrayPair b)) = naming_byte 11 b
