-- How many bytes a run has where an ear stands: those before a DLE, in a body or outside a message.
use Rattle.std.specs.Prelude.{ℕ, List}
use Rattle.df1_frame.specs.Runs.{plain_len}
use Rattle.half_frame.specs.TextStep.{Within, Inside, InsideDle, AtCheck}
use Rattle.half_frame.specs.SlaveStanding as slave
use Rattle.half_frame.specs.MasterStanding as master

abbrev pub text_run_len : Within → List ℕ → ℕ
text_run_len (Inside so_far) bytes = plain_len bytes
text_run_len (InsideDle so_far) bytes = 0
text_run_len (AtCheck so_far check) bytes = 0

abbrev pub slave_run_len : slave.Standing → List ℕ → ℕ
slave_run_len slave.Outside bytes = plain_len bytes
slave_run_len (slave.Ended body) bytes = plain_len bytes
slave_run_len slave.AfterDle bytes = 0
slave_run_len slave.AfterSoh bytes = 0
slave_run_len slave.AfterEnq bytes = 0
slave_run_len (slave.AtPollCheck stn) bytes = 0
slave_run_len (slave.AfterStation stn) bytes = 0
slave_run_len (slave.AfterStationDle stn) bytes = 0
slave_run_len (slave.AtText stn at) bytes = text_run_len at bytes

abbrev pub master_run_len : master.Standing → List ℕ → ℕ
master_run_len master.Outside bytes = plain_len bytes
master_run_len (master.Ended body) bytes = plain_len bytes
master_run_len master.AfterDle bytes = 0
master_run_len (master.AtText at) bytes = text_run_len at bytes
