use Rattle.run_laws.proofs.IdleRun.{comes-to-rest}
use Rattle.run_laws.proofs.bounds.a_line_comes_to_rest.Goals as goal

pub returns : goal.returns
returns c = comes-to-rest
