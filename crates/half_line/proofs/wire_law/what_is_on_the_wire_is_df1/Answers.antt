use Rattle.half_line.proofs.Wire.Told.{all-df1}
use Rattle.half_line.proofs.Once.MasterCommands.{issued-run}
use Rattle.half_line.specs.Run.{record_of}
use Rattle.half_line.proofs.wire_law.what_is_on_the_wire_is_df1.Goals as goal

pub returns : goal.returns
unfolding record_of
returns c = λ script playable. all-df1 script playable (issued-run script).bodies
