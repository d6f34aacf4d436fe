use Rattle.half_line.proofs.Transmissions.WholeRun.{all-in-order}
use Rattle.half_line.proofs.transmission_law.transmissions_are_in_order.Goals as goal

pub returns : goal.returns
returns c = all-in-order
