-- The kinds of things that have a line, by what is heard, and which of them are faults of the line.
use Rattle.std.specs.Prelude.{Bool, true, false, Option, Some, None}
use Rattle.df1_frame.specs.declared.heard.Heard.{Heard}
use Rattle.df1_frame.specs.declared.heard.Heard.TheVariants as full
use Rattle.half_frame.specs.declared.heard.SlaveHeard.{SlaveHeard}
use Rattle.half_frame.specs.declared.heard.SlaveHeard.TheVariants as master
use Rattle.half_frame.specs.declared.heard.MasterHeard.{MasterHeard}
use Rattle.half_frame.specs.declared.heard.MasterHeard.TheVariants as slave
use Rattle.df1_dissect.specs.declared.kind.Kind.{Kind}
use Rattle.df1_dissect.specs.declared.kind.Kind.TheVariants as kind

-- on a full-duplex line
abbrev pub full_kind : Option Heard → Option Kind
full_kind None = None
full_kind (Some full.Good) = Some kind.Good
full_kind (Some full.Short) = Some kind.Short
full_kind (Some full.BadCheck) = Some kind.BadCheck
full_kind (Some full.Long) = Some kind.Long
full_kind (Some (full.Broken code)) = Some (kind.Broken code)
full_kind (Some full.Restart) = Some kind.Restart
full_kind (Some full.Ack) = Some kind.Ack
full_kind (Some full.Nak) = Some kind.Nak
full_kind (Some full.Enq) = Some kind.Enq
full_kind (Some (full.Stray b)) = Some (kind.Stray b)
full_kind (Some (full.StrayPair code)) = Some (kind.StrayPair code)

-- of the master's bytes, as a slave hears them; a message's begin has no line
abbrev pub master_kind : Option SlaveHeard → Option Kind
master_kind None = None
master_kind (Some (master.Addressed stn)) = Some (kind.Message stn)
master_kind (Some (master.Header stn)) = None
master_kind (Some (master.Poll stn)) = Some (kind.Poll stn)
master_kind (Some master.BadPoll) = Some kind.BadPoll
master_kind (Some (master.Damaged stn)) = Some (kind.DamagedFor stn)
master_kind (Some master.Ack) = Some kind.Ack
master_kind (Some master.Reset) = Some kind.Reset
master_kind (Some (master.Stray b)) = Some (kind.Stray b)
master_kind (Some (master.StrayPair code)) = Some (kind.StrayPair code)

-- of the slaves' bytes, as the master hears them
abbrev pub slave_kind : Option MasterHeard → Option Kind
slave_kind None = None
slave_kind (Some slave.Good) = Some kind.Good
slave_kind (Some slave.Damaged) = Some kind.Damaged
slave_kind (Some slave.Ack) = Some kind.Ack
slave_kind (Some slave.Nak) = Some kind.Nak
slave_kind (Some slave.Eot) = Some kind.Eot
slave_kind (Some (slave.Stray b)) = Some (kind.Stray b)
slave_kind (Some (slave.StrayPair code)) = Some (kind.StrayPair code)

-- all but messages, polls, and the pairs that have a meaning
abbrev pub is_bad : Kind → Bool
is_bad kind.Good = false
is_bad (kind.Message stn) = false
is_bad kind.Short = true
is_bad kind.BadCheck = true
is_bad kind.Long = true
is_bad (kind.Broken code) = true
is_bad kind.Restart = true
is_bad kind.Damaged = true
is_bad (kind.DamagedFor stn) = true
is_bad (kind.Poll stn) = false
is_bad kind.BadPoll = true
is_bad kind.Ack = false
is_bad kind.Nak = false
is_bad kind.Reset = false
is_bad kind.Enq = false
is_bad kind.Eot = false
is_bad (kind.Stray b) = true
is_bad (kind.StrayPair code) = true

-- a response, which may stand inside a full-duplex frame
abbrev pub is_response : Kind → Bool
is_response kind.Good = false
is_response (kind.Message stn) = false
is_response kind.Short = false
is_response kind.BadCheck = false
is_response kind.Long = false
is_response (kind.Broken code) = false
is_response kind.Restart = false
is_response kind.Damaged = false
is_response (kind.DamagedFor stn) = false
is_response (kind.Poll stn) = false
is_response kind.BadPoll = false
is_response kind.Ack = true
is_response kind.Nak = true
is_response kind.Reset = false
is_response kind.Enq = false
is_response kind.Eot = false
is_response (kind.Stray b) = false
is_response (kind.StrayPair code) = false
