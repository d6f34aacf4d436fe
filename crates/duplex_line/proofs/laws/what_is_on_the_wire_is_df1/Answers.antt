use Rattle.duplex_line.specs.Run.{record_of}
use Rattle.duplex_line.proofs.Wire.WholeRun.{wires}
use Rattle.duplex_line.proofs.laws.what_is_on_the_wire_is_df1.Goals as goal

pub returns : goal.returns
unfolding record_of
returns c script playable = wires script playable
