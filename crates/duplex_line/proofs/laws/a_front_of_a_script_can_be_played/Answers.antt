use Rattle.duplex_line.proofs.Wire.Fronts.{front-plays}
use Rattle.duplex_line.proofs.laws.a_front_of_a_script_can_be_played.Goals as goal

pub returns : goal.returns
returns c = front-plays
